-- What a body has in a certificate, line by line, or the line at which a condition of the rules fails. No rule is said again: which
-- expressions and statements stand in a node, in which order and in which scope, is said here; what the rules give a node is asked of
-- them.
use Rattle.std.specs.Prelude.{ℕ, zero, suc, pos, Bool, true, false, if◌then◌else◌, List, [], ◌∷◌, ◌++◌, map, take, Option, Some, None}
use Rattle.std.specs.Prelude.{Result, Ok, Err}
use Rattle.std.specs.Option.{option_map_or}
use Rattle.std.specs.Str.{bytes_eq}
use Rattle.asl_syn.specs.declared.code.Fault.{Fault}
use Rattle.asl_syn.specs.declared.code.StaticCode.TheVariants.{T02, T21}
use Rattle.asl_syn.specs.declared.tree.Expr.{Expr, out-Expr}
use Rattle.asl_syn.specs.declared.tree.FieldValue.{FieldValue}
use Rattle.asl_syn.specs.declared.tree.Slice.{Slice}
use Rattle.asl_syn.specs.declared.tree.Pattern.{Pattern}
use Rattle.asl_syn.specs.declared.tree.TypeExpr.{TypeExpr}
use Rattle.asl_syn.specs.declared.tree.Bitfield.{Bitfield}
use Rattle.asl_syn.specs.declared.tree.ConstraintPart.{ConstraintPart}
use Rattle.asl_syn.specs.declared.tree.Bitfield.TheOpen as ex
use Rattle.asl_syn.specs.declared.tree.Bitfield.TheFolds.{para-Expr, para-Pattern, para-Slice}
use Rattle.asl_syn.specs.declared.tree.Ident.{Ident}
use Rattle.asl_syn.specs.declared.tree.PlacedSuffix.{PlacedSuffix}
use Rattle.asl_syn.specs.declared.tree.Suffix.{Suffix}
use Rattle.asl_syn.specs.declared.tree.Suffix.TheVariants.{FieldOf, FieldsOf, SlicesOf, ElementOf}
use Rattle.asl_syn.specs.declared.tree.Target.{Target, fold-Target}
use Rattle.asl_syn.specs.declared.tree.Target.TheOpen as tg
use Rattle.asl_syn.specs.declared.tree.PrintItem.{PrintItem}
use Rattle.asl_syn.specs.declared.tree.PrintItem.TheVariants.{Verbatim, Shown}
use Rattle.asl_syn.specs.declared.tree.Stmt.{Stmt, out-Stmt}
use Rattle.asl_syn.specs.declared.tree.ElseIf.{ElseIf}
use Rattle.asl_syn.specs.declared.tree.Alternative.{Alternative}
use Rattle.asl_syn.specs.declared.tree.Catcher.{Catcher}
use Rattle.asl_syn.specs.declared.tree.Otherwise.{Otherwise}
use Rattle.asl_syn.specs.declared.tree.Alternative.TheOpen as st
use Rattle.asl_syn.specs.declared.tree.Alternative.TheFolds.{fold-Stmt, para-Stmt}
use Rattle.asl_syn.specs.Layers.{ExprLayer, StmtLayer}
use Rattle.asl_poly.specs.Terms.{Polynomial}
use Rattle.asl_poly.specs.Poly.{constant_map}
use Rattle.asl_rules.specs.declared.effect.Effect.TheVariants.{Pure}
use Rattle.asl_rules.specs.Faults.{◌>>=◌, ◌>>◌, need, found_or}
use Rattle.asl_rules.specs.report.Texts.{Text}
use Rattle.asl_rules.specs.Tests.{Tests}
use Rattle.asl_rules.specs.types.Types.{width_of}
use Rattle.asl_rules.specs.runs.Trees as tree
use Rattle.asl_rules.specs.runs.Trees.{Tree, Trees, Callee, own, of_library, no_tree, tree_and, tree_type}
use Rattle.asl_rules.specs.declarations.Scopes.{Scope, Body, Entry, Signature, body_names, handling, with_class, type_of_name}
use Rattle.asl_rules.specs.expressions.Typing.{Typed, Width}
use Rattle.asl_rules.specs.expressions.Exprs.{found, typed, expr_span}
use Rattle.asl_rules.specs.runs.Evaluation.{stmt_span}
use Rattle.asl_rules.specs.statements.Acting.{Done, operand_of, reading_scope}
use Rattle.asl_rules.specs.statements.Branches.{index_rule, index_type, with_index, is_exception, with_caught}
use Rattle.asl_rules.specs.statements.Stmts.{found_stmt}
use Rattle.asl_rules.specs.statements.Falling.{falls}
use Rattle.asl_rules.specs.declarations.Programs.{Head, body_of, may_end}
use Rattle.asl_laws.specs.certificates.Texts.{Place, of_expr, of_stmt, Line, Call, body_line, expr_line, stmt_line}

-- ---- lines in order

-- where a condition of the rules fails: at the line that comes next, which is about this place, or at the last line that came
pub data Failure : Type 0 where
  at_next : Place → Failure
  at_last : Failure

-- lines in order, and what comes of them, or where a condition fails behind them
pub record Lined (A : Type 0) : Type 0 where
  pub lines : List Line
  pub outcome : Result A Failure

abbrev pub lined : {A : Type 0} → List Line → Result A Failure → Lined A
lined ls r = record { lines = ls; outcome = r }

abbrev pub gives : {A : Type 0} → A → Lined A
gives x = lined [] (Ok x)

abbrev pub one_line : {A : Type 0} → Line → A → Lined A
one_line l x = lined (l ∷ []) (Ok x)

abbrev pub fails : {A : Type 0} → Failure → Lined A
fails f = lined [] (Err f)

abbrev pub after : {A B : Type 0} → List Line → Result A Failure → (A → Lined B) → Lined B
after ls (Err f) go = lined ls (Err f)
after ls (Ok x) go = lined (ls ++ (go x).lines) (go x).outcome

infixl 10 ◌into◌
abbrev pub ◌into◌ : {A B : Type 0} → Lined A → (A → Lined B) → Lined B
l into go = after l.lines l.outcome go

infixr 9 ◌and◌
abbrev pub ◌and◌ : {B : Type 0} → Lined (Unit {0}) → Lined B → Lined B
l and m = l into (λ _. m)

-- ---- calls

-- how many of these have the name
abbrev pub overloads : Text → List Signature → ℕ
overloads name [] = 0
overloads name (f ∷ fs) = if bytes_eq f.name name then suc (overloads name fs) else overloads name fs

-- which overload of its name a subprogram is, by its number in source order
abbrev pub overload_of : Callee → Text → List Signature → ℕ
overload_of (own n) name fs = overloads name (take (suc n) fs)
overload_of (of_library r) name fs = 1

abbrev pub tree_number : ℕ → Trees → Option Tree
tree_number n no_tree = None
tree_number zero (tree_and t ts) = Some t
tree_number (suc n) (tree_and t ts) = tree_number n ts

-- the width of the argument in this place
abbrev pub argument_width : Trees → ℕ → Polynomial
argument_width es n = option_map_or (λ (t : Tree). width_of (tree_type t)) (tree_number n es) (constant_map (pos 0))

abbrev pub width_or_none : Result Width Fault → Polynomial
width_or_none (Ok w) = w.poly
width_or_none (Err f) = constant_map (pos 0)

-- the widths that stand for parameters: those of the expressions in braces, or of the arguments that give them
abbrev pub widths_given : Tests → List Expr → List ℕ → Trees → Scope → List Polynomial
widths_given t [] places es G = map (argument_width es) places
widths_given t (p ∷ ps) places es G = map (λ e. width_or_none ((found t e).width G)) (p ∷ ps)

abbrev pub call_of : Tests → Ident → List Expr → Callee → List ℕ → Trees → Scope → Call
call_of t i ps f places es G = record { overload = overload_of f i.text G.subs; widths = widths_given t ps places es G }

-- a call has the tree of one
abbrev pub call_in : Tests → ExprLayer → Tree → Scope → Option Call
call_in t (ex.Call span i ps xs) (tree.Call n f places params es) G = Some (call_of t i ps f places es G)
call_in t layer s G = None

abbrev pub invoked_in : Tests → StmtLayer → tree.Act → Scope → Option Call
invoked_in t (st.Invoke span i ps xs) (tree.Invoke at f places params es) G = Some (call_of t i ps f places es G)
invoked_in t layer a G = None

-- ---- one node

-- the line of an expression, or its failure, where all that stands in it went well
abbrev pub of_typed : Tests → Expr → Scope → Result Typed Fault → Lined (Unit {0})
of_typed t e G (Err f) = fails (at_next (of_expr (expr_span e)))
of_typed t e G (Ok S) = one_line (expr_line G.names (expr_span e) S.effect S.ty (call_in t (out-Expr e) S.tree G)) tt

abbrev pub expr_node : Tests → Expr → Scope → Lined (Unit {0})
expr_node t e G = of_typed t e G (typed t e G)

-- the line of a statement, and the names that are visible behind it
abbrev pub of_done : Tests → Stmt → Body → Result Done Fault → Lined (List Entry)
of_done t s B (Err f) = fails (at_next (of_stmt (stmt_span s)))
of_done t s B (Ok d) = one_line (stmt_line B.scope.names (stmt_span s) d.effect (falls s) (invoked_in t (out-Stmt s) d.act B.scope)) d.names

abbrev pub stmt_node : Tests → Stmt → Body → Lined (List Entry)
stmt_node t s B = of_done t s B (found_stmt t s B)

-- ---- expressions: parts before wholes

-- an expression that has a line, and whether it has to be Pure there
pub record Site : Type 0 where
  pub expr : Expr
  pub is_pure : Bool

abbrev pub site : Expr → Site
site e = record { expr = e; is_pure = false }

abbrev pub pure_site : Site → Site
pure_site s = record s { is_pure = true }

abbrev pub Sites : Type 0
Sites = List Site

abbrev pub joined : List Sites → Sites
joined [] = []
joined (ss ∷ more) = ss ++ joined more

abbrev pub Unread : Type 0
Unread = Unit {0}

-- an expression behind those that stand in it
abbrev pub whole : Expr × Sites → Sites
whole p = p.1 ++ site p.0 ∷ []

abbrev pub sites_in : {X : Type 0} → List (X × Sites) → Sites
sites_in xs = joined (map (λ x. x.1) xs)

-- none stands in types and in the braces of calls; those in patterns are Pure
abbrev pub expr_layer : ex.Expr-F (Bitfield × Unread) (ConstraintPart × Unread) (Expr × Sites) (FieldValue × Sites) (Pattern × Sites)
    (Slice × Sites) (TypeExpr × Unread) → Sites
expr_layer (ex.Int span n) = []
expr_layer (ex.Bits span text) = []
expr_layer (ex.Bool span b) = []
expr_layer (ex.Name span name) = []
expr_layer (ex.Unary span o a) = whole a
expr_layer (ex.Binary span o a b) = whole a ++ whole b
expr_layer (ex.Conditional span c a b) = whole c ++ (whole a ++ whole b)
expr_layer (ex.Tuple span es) = joined (map whole es)
expr_layer (ex.Construct span i fs) = sites_in fs
expr_layer (ex.Call span i ps es) = joined (map whole es)
expr_layer (ex.Field span a i) = whole a
expr_layer (ex.Fields span a is) = whole a
expr_layer (ex.Slices span a ss) = whole a ++ sites_in ss
expr_layer (ex.Element span a i) = whole a ++ whole i
expr_layer (ex.As span a T) = whole a
expr_layer (ex.In span a p) = whole a ++ p.1

abbrev pub given_layer : ex.FieldValue-F (Bitfield × Unread) (ConstraintPart × Unread) (Expr × Sites) (FieldValue × Sites) (Pattern × Sites)
    (Slice × Sites) (TypeExpr × Unread) → Sites
given_layer (ex.Given i e) = whole e

abbrev pub slice_layer : ex.Slice-F (Bitfield × Unread) (ConstraintPart × Unread) (Expr × Sites) (FieldValue × Sites) (Pattern × Sites)
    (Slice × Sites) (TypeExpr × Unread) → Sites
slice_layer (ex.BitAt e) = whole e
slice_layer (ex.HighLow a b) = whole a ++ whole b
slice_layer (ex.LowWidth a b) = whole a ++ whole b
slice_layer (ex.FactorWidth a b) = whole a ++ whole b

abbrev pub pure_whole : Expr × Sites → Sites
pure_whole p = map pure_site (whole p)

-- a mask is no expression
abbrev pub pattern_layer : ex.Pattern-F (Bitfield × Unread) (ConstraintPart × Unread) (Expr × Sites) (FieldValue × Sites) (Pattern × Sites)
    (Slice × Sites) (TypeExpr × Unread) → Sites
pattern_layer (ex.AnyPattern span) = []
pattern_layer (ex.SetPattern span b ps) = sites_in ps
pattern_layer (ex.MaskPattern span text) = []
pattern_layer (ex.AtMost span e) = pure_whole e
pattern_layer (ex.AtLeast span e) = pure_whole e
pattern_layer (ex.TuplePattern span ps) = sites_in ps
pattern_layer (ex.ValuePattern span e) = pure_whole e
pattern_layer (ex.RangePattern span a b) = pure_whole a ++ pure_whole b

abbrev pub inside_expr : Expr → Sites
inside_expr = para-Expr Unread Unread Sites Sites Sites Sites Unread (λ _. tt) (λ _. tt) expr_layer given_layer pattern_layer slice_layer
    (λ _. tt)

-- the expressions that have lines in an expression, itself the last
abbrev pub expr_sites : Expr → Sites
expr_sites e = whole (e, inside_expr e)

abbrev pub pattern_sites : Pattern → Sites
pattern_sites = para-Pattern Unread Unread Sites Sites Sites Sites Unread (λ _. tt) (λ _. tt) expr_layer given_layer pattern_layer
    slice_layer (λ _. tt)

abbrev pub slice_sites : Slice → Sites
slice_sites = para-Slice Unread Unread Sites Sites Sites Sites Unread (λ _. tt) (λ _. tt) expr_layer given_layer pattern_layer slice_layer
    (λ _. tt)

abbrev pub maybe_sites : Option Expr → Sites
maybe_sites None = []
maybe_sites (Some e) = expr_sites e

abbrev pub all_sites : List Expr → Sites
all_sites es = joined (map expr_sites es)

abbrev pub patterns_sites : List Pattern → Sites
patterns_sites ps = joined (map pattern_sites ps)

abbrev pub sites_of_suffix : Suffix → Sites
sites_of_suffix (FieldOf f) = []
sites_of_suffix (FieldsOf fs) = []
sites_of_suffix (SlicesOf ss) = joined (map slice_sites ss)
sites_of_suffix (ElementOf e) = expr_sites e

abbrev pub suffix_sites : PlacedSuffix → Sites
suffix_sites x = sites_of_suffix x.suffix

abbrev pub target_layer : tg.Target-F Sites → Sites
target_layer (tg.Discarded at) = []
target_layer (tg.Place at i xs) = joined (map suffix_sites xs)
target_layer (tg.Targets at ts) = joined ts

abbrev pub target_sites : Target → Sites
target_sites = fold-Target Sites target_layer

abbrev pub item_sites : PrintItem → Sites
item_sites (Verbatim span text) = []
item_sites (Shown e) = expr_sites e

-- their lines, in one scope
abbrev pub site_scope : Site → Scope → Scope
site_scope s G = if s.is_pure then with_class G Pure else G

abbrev pub site_lines : Tests → Sites → Scope → Lined (Unit {0})
site_lines t [] G = gives tt
site_lines t (s ∷ ss) G = expr_node t s.expr (site_scope s G) and site_lines t ss G

-- ---- the places of all lines of a statement, by the tree alone

abbrev pub Places : Type 0
Places = List Place

abbrev pub places_of : Sites → Places
places_of ss = map (λ (s : Site). of_expr (expr_span s.expr)) ss

abbrev pub all_places : List Places → Places
all_places [] = []
all_places (ps ∷ more) = ps ++ all_places more

abbrev pub stmt_places_layer : st.Stmt-F Places Places Places Places Places → Places
stmt_places_layer (st.Pass span) = of_stmt span ∷ []
stmt_places_layer (st.Unreachable span) = of_stmt span ∷ []
stmt_places_layer (st.Assert span e) = places_of (expr_sites e) ++ of_stmt span ∷ []
stmt_places_layer (st.Local span kind b ty e) = places_of (expr_sites e) ++ of_stmt span ∷ []
stmt_places_layer (st.LocalVars span is ty) = of_stmt span ∷ []
stmt_places_layer (st.Assign span target e) = places_of (target_sites target ++ expr_sites e) ++ of_stmt span ∷ []
stmt_places_layer (st.Invoke span i ps es) = places_of (all_sites es) ++ of_stmt span ∷ []
stmt_places_layer (st.If span c first others last) =
    places_of (expr_sites c) ++ (all_places first ++ (all_places others ++ (all_places last ++ of_stmt span ∷ [])))
stmt_places_layer (st.Case span e alternatives last) = places_of (expr_sites e) ++ (all_places alternatives ++ (last ++ of_stmt span ∷ []))
stmt_places_layer (st.For span i a d b limit ss) =
    places_of (expr_sites a ++ (expr_sites b ++ maybe_sites limit)) ++ (all_places ss ++ of_stmt span ∷ [])
stmt_places_layer (st.While span c limit ss) = places_of (expr_sites c ++ maybe_sites limit) ++ (all_places ss ++ of_stmt span ∷ [])
stmt_places_layer (st.Repeat span ss c limit) = all_places ss ++ (places_of (expr_sites c ++ maybe_sites limit) ++ of_stmt span ∷ [])
stmt_places_layer (st.Return span e) = places_of (maybe_sites e) ++ of_stmt span ∷ []
stmt_places_layer (st.Throw span e) = places_of (maybe_sites e) ++ of_stmt span ∷ []
stmt_places_layer (st.Try span ss cs last) = all_places ss ++ (all_places cs ++ (last ++ of_stmt span ∷ []))
stmt_places_layer (st.Print span kind is) = places_of (joined (map item_sites is)) ++ of_stmt span ∷ []

abbrev pub alternative_places : st.Alternative-F Places Places Places Places Places → Places
alternative_places (st.When ps e ss) = places_of (patterns_sites ps ++ maybe_sites e) ++ all_places ss

abbrev pub catcher_places : st.Catcher-F Places Places Places Places Places → Places
catcher_places (st.Catch i ty ss) = all_places ss

abbrev pub branch_places : st.ElseIf-F Places Places Places Places Places → Places
branch_places (st.ElseIf c ss) = places_of (expr_sites c) ++ all_places ss

abbrev pub otherwise_places : st.Otherwise-F Places Places Places Places Places → Places
otherwise_places st.NoOtherwise = []
otherwise_places (st.Otherwise ss) = all_places ss

abbrev pub stmt_places : Stmt → Places
stmt_places = fold-Stmt Places Places Places Places Places alternative_places catcher_places branch_places otherwise_places
    stmt_places_layer

abbrev pub first_of : Places → Place → Place
first_of [] behind = behind
first_of (p ∷ ps) behind = p

-- ---- statements

-- the lines inside a statement
abbrev pub Inside : Type 0
Inside = Body → Lined (Unit {0})

abbrev pub StmtIn : Type 0
StmtIn = Stmt × Inside

-- a list, with the places of its lines
abbrev pub list_places : List StmtIn → Places
list_places ps = all_places (map (λ (p : StmtIn). stmt_places p.0) ps)

abbrev pub stmt_lines : Tests → StmtIn → Body → Lined (List Entry)
stmt_lines t p B = p.1 B into (λ _. stmt_node t p.0 B)

-- statements in order; their names are visible in those behind them
abbrev pub list_lines : Tests → List StmtIn → Inside
list_lines t [] B = gives tt
list_lines t (p ∷ ps) B = stmt_lines t p B into (λ names. list_lines t ps (body_names B names))

-- a condition that comes before a list of statements: it fails at the line that comes next
abbrev pub unless_fault : {A : Type 0} → Result A Fault → Place → Lined A
unless_fault (Ok x) next = gives x
unless_fault (Err f) next = fails (at_next next)

-- in the scope of a statement
abbrev pub sites_at : Tests → Sites → Inside
sites_at t ss B = site_lines t ss B.scope

abbrev pub limit_lines : Tests → Option Expr → Inside
limit_lines t o B = site_lines t (maybe_sites o) (with_class B.scope Pure)

abbrev pub all_inside : List Inside → Inside
all_inside [] B = gives tt
all_inside (f ∷ fs) B = f B and all_inside fs B

-- the bounds and the index of a `for`, as its rule asks for them
abbrev pub index_found : Tests → Ident → Expr → Expr → Body → Result (Unit {0}) Fault
index_found t i a b B = operand_of t a B.scope >>= λ S. operand_of t b B.scope >>= λ T. index_rule i S T B

-- what the list of a catcher is judged in: its type is an exception's, and its name isn't visible yet
abbrev pub caught_in : Option Ident → Ident → Body → Result Body Fault
caught_in name ty B =
    found_or (type_of_name ty.text B.scope.names) T02 ty.span >>= λ T.
    need (is_exception T) T21 ty.span >> with_caught name T B >>= λ C. Ok (handling C)

-- a catcher, and the place of the line that comes behind its list
abbrev pub Catching : Type 0
Catching = Place → Inside

abbrev pub all_catching : List (Catcher × (Places × Catching)) → Place → Inside
all_catching [] behind B = gives tt
all_catching (c ∷ cs) behind B =
    c.1.1 (first_of (all_places (map (λ (d : Catcher × (Places × Catching)). d.1.0) cs)) behind) B and all_catching cs behind B

abbrev pub InsideLast : Type 0
InsideLast = Places × Inside

abbrev pub stmt_inside : Tests → st.Stmt-F (Alternative × Inside) (Catcher × (Places × Catching)) (ElseIf × Inside) (Otherwise × InsideLast)
    StmtIn → Inside
stmt_inside t (st.Pass span) B = gives tt
stmt_inside t (st.Unreachable span) B = gives tt
stmt_inside t (st.Assert span e) B = site_lines t (expr_sites e) (reading_scope B.scope)
stmt_inside t (st.Local span kind b ty e) B = sites_at t (expr_sites e) B
stmt_inside t (st.LocalVars span is ty) B = gives tt
stmt_inside t (st.Assign span target e) B = sites_at t (target_sites target ++ expr_sites e) B
stmt_inside t (st.Invoke span i ps es) B = sites_at t (all_sites es) B
stmt_inside t (st.If span c first others last) B =
    sites_at t (expr_sites c) B and (list_lines t first B and (all_inside (map (λ b. b.1) others) B and list_lines t last B))
stmt_inside t (st.Case span e alternatives last) B =
    sites_at t (expr_sites e) B and (all_inside (map (λ a. a.1) alternatives) B and last.1.1 B)
stmt_inside t (st.For span i a d b limit ss) B =
    sites_at t (expr_sites a ++ expr_sites b) B and (limit_lines t limit B and
    (unless_fault (index_found t i a b B) (first_of (list_places ss) (of_stmt span))
    and list_lines t ss (with_index i (index_type t d a b B.scope) B)))
stmt_inside t (st.While span c limit ss) B = sites_at t (expr_sites c) B and (limit_lines t limit B and list_lines t ss B)
stmt_inside t (st.Repeat span ss c limit) B = list_lines t ss B and (sites_at t (expr_sites c) B and limit_lines t limit B)
stmt_inside t (st.Return span e) B = sites_at t (maybe_sites e) B
stmt_inside t (st.Throw span e) B = sites_at t (maybe_sites e) B
stmt_inside t (st.Try span ss cs last) B =
    list_lines t ss B and (all_catching cs (first_of last.1.0 (of_stmt span)) B and last.1.1 (handling B))
stmt_inside t (st.Print span kind is) B = sites_at t (joined (map item_sites is)) B

abbrev pub alternative_inside : Tests → st.Alternative-F (Alternative × Inside) (Catcher × (Places × Catching)) (ElseIf × Inside)
    (Otherwise × InsideLast) StmtIn → Inside
alternative_inside t (st.When ps e ss) B = sites_at t (patterns_sites ps) B
    and (site_lines t (maybe_sites e) (reading_scope B.scope) and list_lines t ss B)

abbrev pub catcher_inside : Tests → st.Catcher-F (Alternative × Inside) (Catcher × (Places × Catching)) (ElseIf × Inside)
    (Otherwise × InsideLast) StmtIn → Places × Catching
catcher_inside t (st.Catch i ty ss) =
    (list_places ss, λ behind B. unless_fault (caught_in i ty B) (first_of (list_places ss) behind) into (λ C. list_lines t ss C))

abbrev pub branch_inside : Tests → st.ElseIf-F (Alternative × Inside) (Catcher × (Places × Catching)) (ElseIf × Inside)
    (Otherwise × InsideLast) StmtIn → Inside
branch_inside t (st.ElseIf c ss) B = sites_at t (expr_sites c) B and list_lines t ss B

abbrev pub otherwise_inside : Tests → st.Otherwise-F (Alternative × Inside) (Catcher × (Places × Catching)) (ElseIf × Inside)
    (Otherwise × InsideLast) StmtIn → InsideLast
otherwise_inside t st.NoOtherwise = ([], λ B. gives tt)
otherwise_inside t (st.Otherwise ss) = (list_places ss, list_lines t ss)

abbrev pub inside_stmt : Tests → Stmt → Inside
inside_stmt t = para-Stmt Inside (Places × Catching) Inside InsideLast Inside (alternative_inside t) (catcher_inside t) (branch_inside t)
    (otherwise_inside t) (stmt_inside t)

-- ---- bodies

abbrev pub with_inside : Tests → List Stmt → List StmtIn
with_inside t ss = map (λ (s : Stmt). (s, inside_stmt t s)) ss

-- where the end of a function can be reached, its last line fails
abbrev pub ends : Bool → Lined (Unit {0})
ends true = gives tt
ends false = fails at_last

abbrev pub body_lines : Tests → List Signature → Head → Lined (Unit {0})
body_lines t subs h =
    one_line (body_line h.func.name.text) tt
    and (list_lines t (with_inside t h.func.body) (body_of subs h) and ends (may_end h.signature.result h.func))

abbrev pub bodies_lines : Tests → List Signature → List Head → Lined (Unit {0})
bodies_lines t subs [] = gives tt
bodies_lines t subs (h ∷ hs) = body_lines t subs h and bodies_lines t subs hs
