-- The rules as the checker walks them: what it keeps from step to step, and the statements by these steps.
use Rattle.std.specs.Prelude.{ℕ, Bool, true, false, ◌&&◌, not, List, [], ◌∷◌, ◌++◌, map, Option, None, Some, Result, Ok}
use Rattle.asl_syn.specs.declared.token.Span.{Span}
use Rattle.asl_syn.specs.declared.code.Fault.{Fault}
use Rattle.asl_syn.specs.declared.code.StaticCode.TheVariants.{T01, T02, T05, T21}
use Rattle.asl_syn.specs.declared.tree.Binder.{Binder}
use Rattle.asl_syn.specs.declared.tree.Binder.TheVariants.{Bound, Unbound}
use Rattle.asl_syn.specs.declared.tree.Bind.{Bind}
use Rattle.asl_syn.specs.declared.tree.Bind.TheVariants.{Single, Several}
use Rattle.asl_syn.specs.declared.tree.Direction.{Direction}
use Rattle.asl_syn.specs.declared.tree.Expr.{Expr}
use Rattle.asl_syn.specs.declared.tree.Ident.{Ident}
use Rattle.asl_syn.specs.declared.tree.LocalKind.{LocalKind}
use Rattle.asl_syn.specs.declared.tree.Pattern.{Pattern}
use Rattle.asl_syn.specs.declared.tree.PrintItem.{PrintItem}
use Rattle.asl_syn.specs.declared.tree.PrintItem.TheVariants.{Verbatim, Shown}
use Rattle.asl_syn.specs.declared.tree.PrintKind.{PrintKind}
use Rattle.asl_syn.specs.declared.tree.Target.{Target, fold-Target}
use Rattle.asl_syn.specs.declared.tree.Target.TheOpen as tg
use Rattle.asl_syn.specs.declared.tree.TypeExpr.{TypeExpr}
use Rattle.asl_syn.specs.declared.tree.Stmt.{Stmt}
use Rattle.asl_syn.specs.declared.tree.ElseIf.{ElseIf}
use Rattle.asl_syn.specs.declared.tree.Alternative.{Alternative}
use Rattle.asl_syn.specs.declared.tree.Catcher.{Catcher}
use Rattle.asl_syn.specs.declared.tree.Otherwise.{Otherwise}
use Rattle.asl_syn.specs.declared.tree.Alternative.TheOpen as st
use Rattle.asl_syn.specs.declared.tree.Alternative.TheFolds.{fold-Stmt, fold-ElseIf, fold-Alternative, fold-Catcher, fold-Otherwise}
use Rattle.asl_rules.specs.declared.effect.Effect.{Effect}
use Rattle.asl_rules.specs.declared.effect.Effect.TheVariants.{Pure, Writes}
use Rattle.asl_rules.specs.Faults.{◌>>=◌, ◌>>◌, need, none_at, found_or}
use Rattle.asl_rules.specs.Tests.{Tests}
use Rattle.asl_rules.specs.types.Types.{Ty, Parts, boolean, no_part, part, is_boolean, tuple_parts}
use Rattle.asl_rules.specs.runs.Trees as tree
use Rattle.asl_rules.specs.runs.Trees.{Act, Tree, TreeItem, TreePlace}
use Rattle.asl_rules.specs.types.Effects.{greater, all_together, greatest}
use Rattle.asl_rules.specs.declarations.Scopes as scopes
use Rattle.asl_rules.specs.declarations.Scopes.{Scope, Body, Entry, is_absent, is_free, type_of_name, body_names, handling}
use Rattle.asl_rules.specs.expressions.Typing.{Typed, Operand, trees_from}
use Rattle.asl_rules.specs.expressions.Patterns.{Matched}
use Rattle.asl_rules.specs.types.Shapes.{PatternShape}
use Rattle.asl_rules.specs.expressions.Exprs.{typed, matches}
use Rattle.asl_rules.specs.statements.Acting.{Done, FoundStmt, FoundOtherwise, Listed, LastListed, done, listed, ended, ended_in, block, operand_of}
use Rattle.asl_rules.specs.statements.Locals.{Initialised, initialised, declared, part_declared, itself, written_or, taken, one_declared, none_declared}
use Rattle.asl_rules.specs.statements.Targets.{TypedSuffix, TypedPlace, Reached, Placed, behind_suffix, reached, assignable, placed_at, place_effects, part_of, part_fits, found_target}
use Rattle.asl_rules.specs.statements.Branches.{FoundBranch, FoundAlternative, FoundCatcher, where_rule, effect_of, tree_in, limit_typed, index_rule, index_type, with_index, for_ended, while_ended, repeat_ended, is_exception, with_caught}
use Rattle.asl_rules.specs.statements.Stmts.{StmtOf, stmt_layer_rule, branch_found, alternative_found, catcher_found, otherwise_found, Printed, printed, printing}
use Rattle.asl_shape.specs.View.{patterns_from}
use Rattle.asl_tree.specs.Acts.{BranchFirst, AlternativeFirst, CatcherFirst, acts_from, branches_from, alternatives_from, catchers_from}

-- ---- steps

-- one after another, each from where the one before it came
abbrev pub after : {X S : Type 0} → (X → S → Result S Fault) → List X → S → Result S Fault
after f [] s = Ok s
after f (x ∷ xs) s = f x s >>= λ s1. after f xs s1

-- ---- lists

-- what is kept in a list: the names, the greatest effect so far, and the trees
pub record Listing : Type 0 where
  pub names : List Entry
  pub effect : Effect
  pub acts : List Act

abbrev pub listing : List Entry → Effect → List Act → Listing
listing names k acts = record { names = names; effect = k; acts = acts }

abbrev pub stmt_step : Body → FoundStmt → Listing → Result Listing Fault
stmt_step B s l = s (body_names B l.names) >>= λ d. Ok (listing d.names (greater l.effect d.effect) (l.acts ++ d.act ∷ []))

-- behind a list its names are visible no more
abbrev pub shut : List FoundStmt → Body → Result Listed Fault
shut ss B = block ss B >>= λ l. Ok (listed B.scope.names l.effect l.acts)

-- `otherwise`, where there is one
abbrev pub last_shut : FoundOtherwise → Body → Result LastListed Fault
last_shut None B = Ok (record { effect = Pure; last = tree.none_last })
last_shut (Some ss) B = shut ss B >>= λ l. Ok (record { effect = l.effect; last = tree.otherwise l.acts })

-- ---- conditions

abbrev pub unless_boolean : Bool → Span → Option Span
unless_boolean true at = None
unless_boolean false at = Some at

-- the place of the first condition that is no boolean, after one more
abbrev pub misplaced : Option Span → Operand → Option Span
misplaced None o = unless_boolean (is_boolean o.typed.ty) o.span
misplaced (Some at) o = Some at

abbrev pub where_misplaced : Option Span → Option Operand → Option Span
where_misplaced at None = at
where_misplaced at (Some o) = misplaced at o

-- what is kept of branches, alternatives or catchers: the place of the first condition that is no boolean, the greatest effect so far, and the trees, each as
-- it stands in front of those behind it
pub record Gathered (T : Type 0) : Type 0 where
  pub misplaced : Option Span
  pub effect : Effect
  pub parts : List (T → T)

abbrev pub gathered : {T : Type 0} → Option Span → Effect → List (T → T) → Gathered T
gathered at k parts = record { misplaced = at; effect = k; parts = parts }

abbrev pub nothing_gathered : {T : Type 0} → Gathered T
nothing_gathered = gathered None Pure []

-- ---- `if`

abbrev pub with_branch : Gathered tree.Branches → Operand → Listed → Gathered tree.Branches
with_branch s o l = gathered (misplaced s.misplaced o) (greater s.effect (greater o.typed.effect l.effect)) (s.parts ++ tree.branch_and o.typed.tree l.acts ∷ [])

abbrev pub branch_step : Tests → Body → FoundBranch → Gathered tree.Branches → Result (Gathered tree.Branches) Fault
branch_step t B b s = operand_of t b.condition B.scope >>= λ o. shut b.body B >>= λ l. Ok (with_branch s o l)

abbrev pub first_branch : Operand → Listed → Gathered tree.Branches
first_branch o l = gathered (misplaced None o) (greater o.typed.effect l.effect) []

abbrev pub if_ended : Span → Operand → Listed → Gathered tree.Branches → Listed → Body → Result Done Fault
if_ended span o first others last B =
    none_at T05 others.misplaced >>
    ended_in B span true (greater others.effect last.effect) (tree.If span o.typed.tree first.acts (branches_from others.parts) last.acts)

abbrev pub if_walk : Tests → Span → Expr → List FoundStmt → List FoundBranch → List FoundStmt → Body → Result Done Fault
if_walk t span c first others last B =
    operand_of t c B.scope >>= λ o. shut first B >>= λ f.
    after (branch_step t B) others (first_branch o f) >>= λ bs.
    shut last B >>= λ l. if_ended span o f bs l B

-- ---- `case`

-- patterns in order: without their expressions, and the trees of these
pub record Patterned : Type 0 where
  pub shapes : List PatternShape
  pub trees : List Tree

abbrev pub patterned : List PatternShape → List Tree → Patterned
patterned ps es = record { shapes = ps; trees = es }

abbrev pub with_pattern : Patterned → Matched → Patterned
with_pattern s m = patterned (s.shapes ++ m.shape ∷ []) (s.trees ++ m.trees)

abbrev pub pattern_step : Tests → Ty → Scope → Pattern → Patterned → Result Patterned Fault
pattern_step t T G p s = matches t p T G >>= λ m. Ok (with_pattern s m)

abbrev pub all_patterned : Tests → List Pattern → Ty → Scope → Result Patterned Fault
all_patterned t ps T G = after (pattern_step t T G) ps (patterned [] [])

abbrev pub with_alternative : Gathered tree.Alternatives → Patterned → Option Operand → Listed → Gathered tree.Alternatives
with_alternative s ps w l =
    gathered (where_misplaced s.misplaced w) (greater s.effect (greater (effect_of w) l.effect))
    (s.parts ++ tree.alternative_and (patterns_from ps.shapes) (trees_from ps.trees) (tree_in w) l.acts ∷ [])

abbrev pub alternative_step : Tests → Ty → Body → FoundAlternative → Gathered tree.Alternatives → Result (Gathered tree.Alternatives) Fault
alternative_step t T B a s =
    all_patterned t a.patterns T B.scope >>= λ ps. where_rule t a.condition B.scope >>= λ w. shut a.body B >>= λ l. Ok (with_alternative s ps w l)

abbrev pub case_ended : Span → Typed → Gathered tree.Alternatives → LastListed → Body → Result Done Fault
case_ended span S first last B =
    none_at T05 first.misplaced >>
    ended_in B span true (greater (greater S.effect first.effect) last.effect) (tree.Case span S.tree (alternatives_from first.parts) last.last)

abbrev pub case_walk : Tests → Span → Expr → List FoundAlternative → FoundOtherwise → Body → Result Done Fault
case_walk t span e first last B =
    operand_of t e B.scope >>= λ o. after (alternative_step t o.typed.ty B) first nothing_gathered >>= λ xs.
    last_shut last B >>= λ l. case_ended span o.typed xs l B

-- ---- loops

-- the bounds of a `for` and its limit
pub record Bounds : Type 0 where
  pub from : Operand
  pub to : Operand
  pub limit : Option Operand

abbrev pub bounds_typed : Tests → Expr → Expr → Option Expr → Scope → Result Bounds Fault
bounds_typed t a b limit G =
    operand_of t a G >>= λ S. operand_of t b G >>= λ T. limit_typed t limit G >>= λ l. Ok (record { from = S; to = T; limit = l })

-- the list sees the index
abbrev pub index_declared : Tests → Ident → Direction → Expr → Expr → Bounds → Body → Result Body Fault
index_declared t i d a b x B = index_rule i x.from x.to B >> Ok (with_index i (index_type t d a b B.scope) B)

-- the list, whose names and the index are visible no more behind it
abbrev pub counted_shut : Tests → Ident → Direction → Expr → Expr → Bounds → List FoundStmt → Body → Result Listed Fault
counted_shut t i d a b x ss B = index_declared t i d a b x B >>= λ C. shut ss C >>= λ l. Ok (listed B.scope.names l.effect l.acts)

abbrev pub for_walk : Tests → Span → Ident → Expr → Direction → Expr → Option Expr → List FoundStmt → Body → Result Done Fault
for_walk t span i a d b limit ss B =
    bounds_typed t a b limit B.scope >>= λ x.
    counted_shut t i d a b x ss B >>= λ body.
    for_ended span x.from.typed d x.to.typed x.limit body B

abbrev pub while_walk : Tests → Span → Expr → Option Expr → List FoundStmt → Body → Result Done Fault
while_walk t span c limit ss B =
    operand_of t c B.scope >>= λ C. limit_typed t limit B.scope >>= λ l. shut ss B >>= λ body. while_ended span C l body B

abbrev pub repeat_walk : Tests → Span → List FoundStmt → Expr → Option Expr → Body → Result Done Fault
repeat_walk t span ss c limit B =
    shut ss B >>= λ body. operand_of t c B.scope >>= λ C. limit_typed t limit B.scope >>= λ l. repeat_ended span body C l B

-- ---- `try`

abbrev pub with_catcher : Gathered tree.Catchers → FoundCatcher → Listed → Gathered tree.Catchers
with_catcher s c l = gathered s.misplaced (greater s.effect l.effect) (s.parts ++ tree.catcher_and (not (is_absent c.name)) c.ty.text l.acts ∷ [])

-- the type of a catcher
abbrev pub type_caught : Ident → List Entry → Result Ty Fault
type_caught i names = found_or (type_of_name i.text names) T02 i.span >>= λ T. need (is_exception T) T21 i.span >> Ok T

-- the list of a catcher of this type, which sees its name; that and its own names are visible no more behind it
abbrev pub caught_shut : Option Ident → Ty → List FoundStmt → Body → Result Listed Fault
caught_shut i T ss B = with_caught i T B >>= λ C. shut ss (handling C) >>= λ l. Ok (listed B.scope.names l.effect l.acts)

abbrev pub catcher_step : Body → FoundCatcher → Gathered tree.Catchers → Result (Gathered tree.Catchers) Fault
catcher_step B c s = type_caught c.ty B.scope.names >>= λ T. caught_shut c.name T c.body B >>= λ l. Ok (with_catcher s c l)

abbrev pub caught : Span → Listed → Gathered tree.Catchers → LastListed → Body → Result Done Fault
caught span body cs last B =
    ended_in B span true (greater (greater body.effect cs.effect) last.effect) (tree.Try span body.acts (catchers_from cs.parts) last.last)

abbrev pub try_walk : Span → List FoundStmt → List FoundCatcher → FoundOtherwise → Body → Result Done Fault
try_walk span ss cs last B =
    shut ss B >>= λ body. after (catcher_step B) cs nothing_gathered >>= λ xs. last_shut last (handling B) >>= λ l. caught span body xs l B

-- ---- assignments

-- the places inside a part at the end of this way
abbrev pub led : List ℕ → List TypedPlace → List TypedPlace
led way [] = []
led way (p ∷ ps) = record p { way = way ++ p.way } ∷ led way ps

-- places found, behind those before, for a value at the end of this way
abbrev pub with_places : List TypedPlace → List ℕ → Result (List TypedPlace) Fault → Result (List TypedPlace) Fault
with_places before way r = r >>= λ ps. Ok (before ++ led way ps)

-- one suffix more behind a place
abbrev pub reach_step : Scope → TypedSuffix → Reached → Result Reached Fault
reach_step G x r = behind_suffix x r.ty G >>= λ b. Ok (reached b.ty (r.steps ++ b.step ∷ []))

abbrev pub placed_walk : TypedPlace → Scope → Result Placed Fault
placed_walk p G = assignable p.name G >>= λ s. after (reach_step G) p.suffixes (reached s.ty []) >>= λ r. Ok (placed_at p s r G.names)

-- what is kept of places: each with the type of what it holds, and the greatest effect of a store there
pub record Stores : Type 0 where
  pub places : List TreePlace
  pub types : List Ty
  pub effect : Effect

abbrev pub stores : List TreePlace → List Ty → Effect → Stores
stores ps Ts k = record { places = ps; types = Ts; effect = k }

abbrev pub with_store : Stores → Placed → Stores
with_store s p = stores (s.places ++ p.place ∷ []) (s.types ++ p.ty ∷ []) (greater s.effect p.effect)

abbrev pub store_step : Scope → TypedPlace → Stores → Result Stores Fault
store_step G p s = placed_walk p G >>= λ q. Ok (with_store s q)

abbrev pub stores_walk : List TypedPlace → Scope → Result Stores Fault
stores_walk ps G = after (store_step G) ps (stores [] [] Pure)

-- the parts that there are fit
abbrev pub stores_fit : Tests → List TreePlace → List Ty → Operand → Result (Unit {0}) Fault
stores_fit t [] Ts o = Ok tt
stores_fit t (p ∷ ps) [] o = Ok tt
stores_fit t (p ∷ ps) (T ∷ Ts) o = part_fits t (part_of p.way (Some o.typed.ty)) T o.span >> stores_fit t ps Ts o

abbrev pub assigned : Effect → Span → List Effect → Stores → Typed → List Entry → Result Done Fault
assigned class span ks s S names = ended class span (all_together Pure ks) (greater (greatest Pure ks) s.effect) names (tree.Assign span s.places S.tree)

-- whether a type has as many parts as a target asks for
abbrev pub counts_parts : List (Ty → Bool) → Parts → Bool
counts_parts [] no_part = true
counts_parts [] (part S Ss) = false
counts_parts (c ∷ cs) no_part = false
counts_parts (c ∷ cs) (part S Ss) = c S && counts_parts cs Ss

abbrev pub counts_all : List (Ty → Bool) → Option Parts → Bool
counts_all cs None = false
counts_all cs (Some Ss) = counts_parts cs Ss

abbrev pub count_layer : tg.Target-F (Ty → Bool) → Ty → Bool
count_layer (tg.Discarded at) S = true
count_layer (tg.Place at i xs) S = true
count_layer (tg.Targets at ts) S = counts_all ts (tuple_parts S)

abbrev pub counts_in : Target → Ty → Bool
counts_in = fold-Target (Ty → Bool) count_layer

abbrev pub assign_walk : Tests → Span → Target → Expr → Scope → Result Done Fault
assign_walk t span target e G =
    (found_target t target).places G >>= λ ps. operand_of t e G >>= λ o. stores_walk ps G >>= λ s.
    stores_fit t s.places s.types o >>
    need (counts_in target o.typed.ty) T05 span >>
    assigned G.class span (place_effects ps ++ o.typed.effect ∷ []) s o.typed G.names

-- ---- `print`

abbrev pub item_step : Tests → Scope → PrintItem → Printed → Result Printed Fault
item_step t G (Verbatim span text) p = Ok (printed p.effects (p.items ++ tree.Verbatim text ∷ []))
item_step t G (Shown e) p = typed t e G >>= λ S. Ok (printed (p.effects ++ S.effect ∷ []) (p.items ++ tree.Shown S.tree ∷ []))

abbrev pub print_walk : Tests → Span → PrintKind → List PrintItem → Scope → Result Done Fault
print_walk t span kind is G = after (item_step t G) is (printed [] []) >>= λ p. printing G.class span kind p G.names

-- ---- binds of the parts of a tuple

abbrev pub first_part : Parts → Ty
first_part no_part = boolean
first_part (part T Ts) = T

abbrev pub other_parts : Parts → Parts
other_parts no_part = no_part
other_parts (part T Ts) = Ts

abbrev pub has_part : Parts → Bool
has_part no_part = false
has_part (part T Ts) = true

abbrev pub has_none : Parts → Bool
has_none no_part = true
has_none (part T Ts) = false

-- the names so far, the types of the parts that are left, and whether there were as many so far
pub record Binding : Type 0 where
  pub names : List Entry
  pub rest : Parts
  pub as_many : Bool

abbrev pub binding : List Entry → Parts → Bool → Binding
binding names Ts ok = record { names = names; rest = Ts; as_many = ok }

-- the names after one more binder of a part of this type, or T01 at it
abbrev pub binder_declared : LocalKind → Ty → Binder → List Entry → Result (List Entry) Fault
binder_declared kind T (Bound i) names = need (is_free i.text names) T01 i.span >> Ok (names ++ declared kind i.text T (itself T names) ∷ [])
binder_declared kind T (Unbound at) names = Ok names

abbrev pub binder_step : LocalKind → Option Ty → Binder → Binding → Result Binding Fault
binder_step kind w b s =
    binder_declared kind (part_declared kind w (first_part s.rest)) b s.names >>= λ names.
    Ok (binding names (other_parts s.rest) (s.as_many && has_part s.rest))

-- the names after all, and whether there are as many parts
abbrev pub parts_walk : List Binder → LocalKind → Option Ty → Parts → List Entry → Result (List Entry × Bool) Fault
parts_walk bs kind w Ts names = after (binder_step kind w) bs (binding names Ts true) >>= λ s. Ok (s.names, s.as_many && has_none s.rest)

abbrev pub uncounted : List Entry × Bool → Result (List Entry × Bool) Fault
uncounted p = Ok (p.0, false)

abbrev pub binders_walk : List Binder → LocalKind → Option Ty → Option Parts → List Entry → Result (List Entry × Bool) Fault
binders_walk bs kind w None names = parts_walk bs kind w no_part names >>= uncounted
binders_walk bs kind w (Some Ts) names = parts_walk bs kind w Ts names

abbrev pub several_walk : Span → LocalKind → List Binder → Initialised → Scope → Result Done Fault
several_walk span kind bs d G =
    binders_walk bs kind d.written (tuple_parts (written_or d.written d.value.ty)) G.names >>= λ p.
    need p.1 T05 span >>
    ended G.class span true d.value.effect p.0 (tree.Declare span d.written (tree.in_parts (taken bs)) d.value.tree)

abbrev pub bound_walk : Tests → Span → LocalKind → Bind → Expr → Initialised → Scope → Result Done Fault
bound_walk t span kind (Single (Bound i)) e d G = one_declared t span kind i e d G
bound_walk t span kind (Single (Unbound at)) e d G = none_declared span d G
bound_walk t span kind (Several at bs) e d G = several_walk span kind bs d G

abbrev pub bind_walk : Tests → Span → LocalKind → Bind → Option TypeExpr → Expr → Scope → Result Done Fault
bind_walk t span kind b ty e G = initialised t ty e G >>= λ d. bound_walk t span kind b e d G

-- ---- all statements

abbrev pub walk_layer : Tests → StmtOf → FoundStmt
walk_layer t (st.Local span kind b ty e) B = bind_walk t span kind b ty e B.scope
walk_layer t (st.Assign span target e) B = assign_walk t span target e B.scope
walk_layer t (st.If span c first others last) B = if_walk t span c first others last B
walk_layer t (st.Case span e ass last) B = case_walk t span e ass last B
walk_layer t (st.For span i a d b limit ss) B = for_walk t span i a d b limit ss B
walk_layer t (st.While span c limit ss) B = while_walk t span c limit ss B
walk_layer t (st.Repeat span ss c limit) B = repeat_walk t span ss c limit B
walk_layer t (st.Try span ss cs last) B = try_walk span ss cs last B
walk_layer t (st.Print span kind iss) B = print_walk t span kind iss B.scope
walk_layer t layer B = stmt_layer_rule t layer B

abbrev pub walk_stmt : Tests → Stmt → FoundStmt
walk_stmt t = fold-Stmt FoundAlternative FoundCatcher FoundBranch FoundOtherwise FoundStmt alternative_found catcher_found branch_found otherwise_found (walk_layer t)

abbrev pub walk_branch : Tests → ElseIf → FoundBranch
walk_branch t = fold-ElseIf FoundAlternative FoundCatcher FoundBranch FoundOtherwise FoundStmt alternative_found catcher_found branch_found otherwise_found (walk_layer t)

abbrev pub walk_alternative : Tests → Alternative → FoundAlternative
walk_alternative t = fold-Alternative FoundAlternative FoundCatcher FoundBranch FoundOtherwise FoundStmt alternative_found catcher_found branch_found otherwise_found (walk_layer t)

abbrev pub walk_catcher : Tests → Catcher → FoundCatcher
walk_catcher t = fold-Catcher FoundAlternative FoundCatcher FoundBranch FoundOtherwise FoundStmt alternative_found catcher_found branch_found otherwise_found (walk_layer t)

abbrev pub walk_otherwise : Tests → Otherwise → FoundOtherwise
walk_otherwise t = fold-Otherwise FoundAlternative FoundCatcher FoundBranch FoundOtherwise FoundStmt alternative_found catcher_found branch_found otherwise_found (walk_layer t)
