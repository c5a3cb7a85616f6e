-- Statements with lists: branches, alternatives, loops and catchers.
use Rattle.std.specs.Prelude.{ℕ, Bool, true, false, not, List, [], ◌∷◌, ◌++◌, Option, Some, None, Result, Ok, Err}
use Rattle.asl_syn.specs.declared.token.Span.{Span}
use Rattle.asl_syn.specs.declared.code.Fault.{Fault}
use Rattle.asl_syn.specs.declared.code.StaticCode.TheVariants.{T01, T02, T05, T21}
use Rattle.asl_syn.specs.declared.tree.Expr.{Expr}
use Rattle.asl_syn.specs.declared.tree.Pattern.{Pattern}
use Rattle.asl_syn.specs.declared.tree.Ident.{Ident}
use Rattle.asl_syn.specs.declared.tree.Direction.{Direction}
use Rattle.asl_syn.specs.declared.tree.Direction.TheVariants.{Up, Down}
use Rattle.asl_rules.specs.declared.effect.Effect.{Effect}
use Rattle.asl_rules.specs.declared.effect.Effect.TheVariants.{Pure}
use Rattle.asl_rules.specs.Faults.{◌>>=◌, ◌>>◌, need, found_or}
use Rattle.asl_rules.specs.Tests.{Tests}
use Rattle.asl_rules.specs.types.Types.{Ty, integer_of, boolean, bits_of, enumeration_of, record_of, exception_of, tuple_of, array_of, named, is_integer}
use Rattle.asl_rules.specs.runs.Trees as tree
use Rattle.asl_rules.specs.runs.Trees.{Tree, Branches, Alternatives, Catchers, no_branch, branch_and, no_alternative, alternative_and, no_catcher, catcher_and}
use Rattle.asl_rules.specs.types.Effects.{greater, all_together}
use Rattle.asl_rules.specs.declarations.Scopes.{Scope, Body, atom_at, next_atom, fixed, is_absent, is_free, type_of_name, body_names, handling, with_class}
use Rattle.asl_rules.specs.expressions.Typing.{Typed, Operand, trees_from}
use Rattle.asl_rules.specs.types.Writing.{WrittenPart, range_rule}
use Rattle.asl_rules.specs.expressions.Patterns.{Matched, pattern_shapes, pattern_trees}
use Rattle.asl_rules.specs.expressions.Exprs.{found, matches}
use Rattle.asl_rules.specs.statements.Acting.{Done, FoundStmt, FoundOtherwise, Listed, LastListed, block, last_block, ended_in, operand_of, condition, reading_scope}

-- ---- `if`

-- the condition of a branch, and its list
pub record FoundBranch : Type 0 where
  pub condition : Expr
  pub body : List FoundStmt

-- a branch whose condition is typed; that it is a boolean is asked behind all lists
pub record TypedBranch : Type 0 where
  pub condition : Operand
  pub body : Listed

abbrev pub branch_rule : Tests → Expr → List FoundStmt → Body → Result TypedBranch Fault
branch_rule t c ss B = operand_of t c B.scope >>= λ o. block ss B >>= λ l. Ok (record { condition = o; body = l })

abbrev pub branches : Tests → List FoundBranch → Body → Result (List TypedBranch) Fault
branches t [] B = Ok []
branches t (b ∷ bs) B = branch_rule t b.condition b.body B >>= λ x. branches t bs B >>= λ xs. Ok (x ∷ xs)

abbrev pub branch_conditions : List TypedBranch → Result (Unit {0}) Fault
branch_conditions [] = Ok tt
branch_conditions (b ∷ bs) = condition b.condition >> branch_conditions bs

abbrev pub branch_effect : TypedBranch → Effect
branch_effect b = greater b.condition.typed.effect b.body.effect

abbrev pub branch_effects : List TypedBranch → Effect
branch_effects [] = Pure
branch_effects (b ∷ bs) = greater (branch_effect b) (branch_effects bs)

abbrev pub branch_trees : List TypedBranch → Branches
branch_trees [] = no_branch
branch_trees (b ∷ bs) = branch_and b.condition.typed.tree b.body.acts (branch_trees bs)

-- the conditions, and the end
abbrev pub branching : Span → TypedBranch → List TypedBranch → Listed → Body → Result Done Fault
branching span b bs last B =
    condition b.condition >> branch_conditions bs >>
    ended_in B span true (greater (greater (branch_effect b) (branch_effects bs)) last.effect) (tree.If span b.condition.typed.tree b.body.acts (branch_trees bs) last.acts)

-- all its parts in order, and then its conditions
abbrev pub if_rule : Tests → Span → Expr → List FoundStmt → List FoundBranch → List FoundStmt → Body → Result Done Fault
if_rule t span c first others last B =
    branch_rule t c first B >>= λ b. branches t others B >>= λ bs. block last B >>= λ l. branching span b bs l B

-- ---- `case`

pub record FoundAlternative : Type 0 where
  pub patterns : List Pattern
  pub condition : Option Expr
  pub body : List FoundStmt

pub record TypedAlternative : Type 0 where
  pub patterns : List Matched
  pub condition : Option Operand
  pub body : Listed

abbrev pub all_patterns : Tests → List Pattern → Ty → Scope → Result (List Matched) Fault
all_patterns t [] T G = Ok []
all_patterns t (p ∷ ps) T G = matches t p T G >>= λ m. all_patterns t ps T G >>= λ ms. Ok (m ∷ ms)

-- a `where`, which at most reads
abbrev pub where_rule : Tests → Option Expr → Scope → Result (Option Operand) Fault
where_rule t None G = Ok None
where_rule t (Some e) G = operand_of t e (reading_scope G) >>= λ o. Ok (Some o)

abbrev pub alternative_rule : Tests → FoundAlternative → Ty → Body → Result TypedAlternative Fault
alternative_rule t a T B =
    all_patterns t a.patterns T B.scope >>= λ ms. where_rule t a.condition B.scope >>= λ w. block a.body B >>= λ l.
    Ok (record { patterns = ms; condition = w; body = l })

abbrev pub alternatives : Tests → List FoundAlternative → Ty → Body → Result (List TypedAlternative) Fault
alternatives t [] T B = Ok []
alternatives t (a ∷ more) T B = alternative_rule t a T B >>= λ x. alternatives t more T B >>= λ xs. Ok (x ∷ xs)

abbrev pub where_condition : Option Operand → Result (Unit {0}) Fault
where_condition None = Ok tt
where_condition (Some o) = condition o

abbrev pub where_conditions : List TypedAlternative → Result (Unit {0}) Fault
where_conditions [] = Ok tt
where_conditions (a ∷ more) = where_condition a.condition >> where_conditions more

abbrev pub effect_of : Option Operand → Effect
effect_of None = Pure
effect_of (Some o) = o.typed.effect

abbrev pub tree_in : Option Operand → Option Tree
tree_in None = None
tree_in (Some o) = Some o.typed.tree

abbrev pub alternative_effects : List TypedAlternative → Effect
alternative_effects [] = Pure
alternative_effects (a ∷ more) = greater (greater (effect_of a.condition) a.body.effect) (alternative_effects more)

abbrev pub alternative_trees : List TypedAlternative → Alternatives
alternative_trees [] = no_alternative
alternative_trees (a ∷ more) = alternative_and (pattern_shapes a.patterns) (trees_from (pattern_trees a.patterns)) (tree_in a.condition) a.body.acts (alternative_trees more)

abbrev pub choosing : Span → Typed → List TypedAlternative → LastListed → Body → Result Done Fault
choosing span S first last B =
    where_conditions first >>
    ended_in B span true (greater (greater S.effect (alternative_effects first)) last.effect) (tree.Case span S.tree (alternative_trees first) last.last)

-- all its parts in order, and then its conditions
abbrev pub case_rule : Tests → Span → Expr → List FoundAlternative → FoundOtherwise → Body → Result Done Fault
case_rule t span e first last B =
    operand_of t e B.scope >>= λ o. alternatives t first o.typed.ty B >>= λ xs. last_block last B >>= λ l. choosing span o.typed xs l B

-- ---- loops

-- a limit, which is Pure, typed in its place
abbrev pub limit_typed : Tests → Option Expr → Scope → Result (Option Operand) Fault
limit_typed t None G = Ok None
limit_typed t (Some e) G = operand_of t e (with_class G Pure) >>= λ o. Ok (Some o)

-- and an integer, which is asked behind the lists
abbrev pub limit_fits : Option Operand → Result (Unit {0}) Fault
limit_fits None = Ok tt
limit_fits (Some o) = need (is_integer o.typed.ty) T05 o.span

abbrev pub of_range : Result WrittenPart Fault → Ty
of_range (Ok p) = integer_of (p.part ∷ [])
of_range (Err f) = integer_of []

-- the type of the index, where it could be written, else `integer`
abbrev pub index_type : Tests → Direction → Expr → Expr → Scope → Ty
index_type t Up a b G = of_range (range_rule (found t a) (found t b) G)
index_type t Down a b G = of_range (range_rule (found t b) (found t a) G)

-- the list of a loop sees its index, in the next place
abbrev pub with_index : Ident → Ty → Body → Body
with_index i T B = body_names B (B.scope.names ++ fixed i.text T (Some (atom_at (next_atom B.scope.names))) ∷ [])

-- the bounds and the index, before the list
abbrev pub index_rule : Ident → Operand → Operand → Body → Result (Unit {0}) Fault
index_rule i a b B = need (is_integer a.typed.ty) T05 a.span >> need (is_integer b.typed.ty) T05 b.span >> need (is_free i.text B.scope.names) T01 i.span

abbrev pub for_ended : Span → Typed → Direction → Typed → Option Operand → Listed → Body → Result Done Fault
for_ended span S d T l body B =
    limit_fits l >>
    ended_in B span (all_together Pure (S.effect ∷ T.effect ∷ [])) (greater (greater S.effect T.effect) body.effect) (tree.For span S.tree d T.tree (tree_in l) body.acts)

abbrev pub for_rule : Tests → Span → Ident → Expr → Direction → Expr → Option Expr → List FoundStmt → Body → Result Done Fault
for_rule t span i a d b limit ss B =
    operand_of t a B.scope >>= λ S. operand_of t b B.scope >>= λ T. limit_typed t limit B.scope >>= λ l.
    index_rule i S T B >>
    block ss (with_index i (index_type t d a b B.scope) B) >>= λ body.
    for_ended span S.typed d T.typed l body B

abbrev pub while_ended : Span → Operand → Option Operand → Listed → Body → Result Done Fault
while_ended span c l body B =
    condition c >> limit_fits l >> ended_in B span true (greater c.typed.effect body.effect) (tree.While span c.typed.tree (tree_in l) body.acts)

abbrev pub while_rule : Tests → Span → Expr → Option Expr → List FoundStmt → Body → Result Done Fault
while_rule t span c limit ss B =
    operand_of t c B.scope >>= λ C. limit_typed t limit B.scope >>= λ l. block ss B >>= λ body. while_ended span C l body B

abbrev pub repeat_ended : Span → Listed → Operand → Option Operand → Body → Result Done Fault
repeat_ended span body c l B =
    condition c >> limit_fits l >> ended_in B span true (greater c.typed.effect body.effect) (tree.Repeat span body.acts c.typed.tree (tree_in l))

abbrev pub repeat_rule : Tests → Span → List FoundStmt → Expr → Option Expr → Body → Result Done Fault
repeat_rule t span ss c limit B =
    block ss B >>= λ body. operand_of t c B.scope >>= λ C. limit_typed t limit B.scope >>= λ l. repeat_ended span body C l B

-- ---- `try`

abbrev pub is_exception : Ty → Bool
is_exception (exception_of name fs) = true
is_exception (named name supers T) = is_exception T
is_exception (integer_of ps) = false
is_exception boolean = false
is_exception (bits_of w view) = false
is_exception (enumeration_of name labels) = false
is_exception (record_of name fs) = false
is_exception (tuple_of ts) = false
is_exception (array_of n T) = false

pub record FoundCatcher : Type 0 where
  pub name : Option Ident
  pub ty : Ident
  pub body : List FoundStmt

pub record TypedCatcher : Type 0 where
  pub has_name : Bool
  pub ty : List ℕ
  pub body : Listed

-- a catcher's name isn't visible yet; it has the next place
abbrev pub with_caught : Option Ident → Ty → Body → Result Body Fault
with_caught None T B = Ok B
with_caught (Some i) T B = need (is_free i.text B.scope.names) T01 i.span >> Ok (body_names B (B.scope.names ++ fixed i.text T None ∷ []))

-- its type, its name, and then its list
abbrev pub catcher_rule : FoundCatcher → Body → Result TypedCatcher Fault
catcher_rule c B =
    found_or (type_of_name c.ty.text B.scope.names) T02 c.ty.span >>= λ T.
    need (is_exception T) T21 c.ty.span >>
    with_caught c.name T B >>= λ C.
    block c.body (handling C) >>= λ l. Ok (record { has_name = not (is_absent c.name); ty = c.ty.text; body = l })

abbrev pub catchers : List FoundCatcher → Body → Result (List TypedCatcher) Fault
catchers [] B = Ok []
catchers (c ∷ cs) B = catcher_rule c B >>= λ x. catchers cs B >>= λ xs. Ok (x ∷ xs)

abbrev pub catcher_effects : List TypedCatcher → Effect
catcher_effects [] = Pure
catcher_effects (c ∷ cs) = greater c.body.effect (catcher_effects cs)

abbrev pub catcher_trees : List TypedCatcher → Catchers
catcher_trees [] = no_catcher
catcher_trees (c ∷ cs) = catcher_and c.has_name c.ty c.body.acts (catcher_trees cs)

abbrev pub try_ended : Span → Listed → List TypedCatcher → LastListed → Body → Result Done Fault
try_ended span body cs last B =
    ended_in B span true (greater (greater body.effect (catcher_effects cs)) last.effect) (tree.Try span body.acts (catcher_trees cs) last.last)

abbrev pub try_rule : Span → List FoundStmt → List FoundCatcher → FoundOtherwise → Body → Result Done Fault
try_rule span ss cs last B = block ss B >>= λ body. catchers cs B >>= λ xs. last_block last (handling B) >>= λ l. try_ended span body xs l B
