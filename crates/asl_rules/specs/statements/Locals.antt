-- Declarations in bodies: the names that they declare, and what immutable integers among them count as in widths.
use Rattle.std.specs.Prelude.{ℕ, not, Bool, true, false, ◌&&◌, if◌then◌else◌, List, [], ◌∷◌, ◌++◌, length, Option, Some, None, Result, Ok, Err}
use Rattle.asl_syn.specs.declared.token.Span.{Span}
use Rattle.asl_syn.specs.declared.code.Fault.{Fault}
use Rattle.asl_syn.specs.declared.code.StaticCode.TheVariants.{T01, T05}
use Rattle.asl_syn.specs.declared.tree.Expr.{Expr}
use Rattle.asl_syn.specs.declared.tree.TypeExpr.{TypeExpr}
use Rattle.asl_syn.specs.declared.tree.Ident.{Ident}
use Rattle.asl_syn.specs.declared.tree.LocalKind.{LocalKind}
use Rattle.asl_syn.specs.declared.tree.LocalKind.TheVariants as local
use Rattle.asl_syn.specs.declared.tree.Binder.{Binder}
use Rattle.asl_syn.specs.declared.tree.Binder.TheVariants.{Bound, Unbound}
use Rattle.asl_syn.specs.declared.tree.Bind.{Bind}
use Rattle.asl_syn.specs.declared.tree.Bind.TheVariants.{Single, Several}
use Rattle.asl_rules.specs.declared.effect.Effect.TheVariants.{Pure}
use Rattle.asl_rules.specs.Faults.{◌>>=◌, ◌>>◌, need, found_or}
use Rattle.asl_rules.specs.Tests.{Tests}
use Rattle.asl_rules.specs.types.Types.{Ty, Parts, no_part, part, is_integer, tuple_parts, widened}
use Rattle.asl_rules.specs.runs.Trees as tree
use Rattle.asl_rules.specs.runs.Trees.{Taken, nothing, whole, in_parts}
use Rattle.asl_rules.specs.declarations.Scopes.{Scope, Entry, Counted, atom_at, next_atom, variable, fixed, is_free}
use Rattle.asl_rules.specs.expressions.Typing.{Typed, Width, trees_from}
use Rattle.asl_rules.specs.values.Members.{has_name}
use Rattle.asl_rules.specs.types.Writing.{Written}
use Rattle.asl_rules.specs.expressions.Exprs.{found, found_type, written}
use Rattle.asl_rules.specs.statements.Acting.{Done, done, ended, operand_of, fits}

-- ---- what a name counts as

-- an immutable integer whose initialiser is no width expression stands for itself
abbrev pub itself : Ty → List Entry → Option Counted
itself T names = if is_integer T then Some (atom_at (next_atom names)) else None

-- a `let` counts as its initialiser, where that is a width expression within the limits
abbrev pub counted_as : Result Width Fault → Bool → ℕ → Counted
counted_as (Ok w) has_atom n = record { poly = w.poly; has_atom = has_atom }
counted_as (Err f) has_atom n = atom_at n

abbrev pub initialised_as : Tests → Ty → Expr → Scope → Option Counted
initialised_as t T e G = if is_integer T then Some (counted_as ((found t e).width G) ((found t e).has_atom G) (next_atom G.names)) else None

-- a name with what it counts as, where it is a `let`
abbrev pub declared : LocalKind → List ℕ → Ty → Option Counted → Entry
declared local.Let name T counted = fixed name T counted
declared local.Var name T counted = variable name T

abbrev pub is_var : LocalKind → Bool
is_var local.Let = false
is_var local.Var = true

-- an unannotated `var` has no constraint
abbrev pub unannotated : LocalKind → Ty → Ty
unannotated local.Let T = T
unannotated local.Var T = widened T

-- ---- initialisers

-- the type that is written, where one is, which the initialiser fits, and the initialiser
pub record Initialised : Type 0 where
  pub written : Option Ty
  pub value : Typed

abbrev pub initialised_with : Option Ty → Typed → Initialised
initialised_with T S = record { written = T; value = S }

abbrev pub initialised : Tests → Option TypeExpr → Expr → Scope → Result Initialised Fault
initialised t None e G = operand_of t e G >>= λ o. Ok (initialised_with None o.typed)
initialised t (Some ty) e G = written t ty false G >>= λ W. operand_of t e G >>= λ o. fits t W.ty o >> Ok (initialised_with (Some W.ty) o.typed)

-- the type of what is declared
abbrev pub type_declared : LocalKind → Option Ty → Ty → Ty
type_declared kind None S = unannotated kind S
type_declared kind (Some T) S = T

-- ---- one name, or none

abbrev pub one_declared : Tests → Span → LocalKind → Ident → Expr → Initialised → Scope → Result Done Fault
one_declared t span kind i e d G =
    need (is_free i.text G.names) T01 i.span >>
    ended G.class span true d.value.effect
    (G.names ++ declared kind i.text (type_declared kind d.written d.value.ty) (initialised_as t (type_declared kind d.written d.value.ty) e G) ∷ [])
    (tree.Declare span d.written whole d.value.tree)

abbrev pub none_declared : Span → Initialised → Scope → Result Done Fault
none_declared span d G = ended G.class span true d.value.effect G.names (tree.Declare span d.written nothing d.value.tree)

-- ---- several names

-- each stands once, and isn't visible yet
abbrev pub binders_free : List Binder → List (List ℕ) → List Entry → Result (Unit {0}) Fault
binders_free [] before names = Ok tt
binders_free (Bound i ∷ bs) before names = need (is_free i.text names && not (has_name i.text before)) T01 i.span >> binders_free bs (before ++ i.text ∷ []) names
binders_free (Unbound at ∷ bs) before names = binders_free bs before names

-- the type of a part of a tuple
abbrev pub part_declared : LocalKind → Option Ty → Ty → Ty
part_declared kind None S = unannotated kind S
part_declared kind (Some T) S = S

-- the names of a tuple bind with the types of the parts, where there are as many
abbrev pub bound_parts : List Binder → LocalKind → Option Ty → Parts → List Entry → Option (List Entry)
bound_parts [] kind w no_part names = Some names
bound_parts [] kind w (part T Ts) names = None
bound_parts (b ∷ bs) kind w no_part names = None
bound_parts (Bound i ∷ bs) kind w (part T Ts) names =
    bound_parts bs kind w Ts (names ++ declared kind i.text (part_declared kind w T) (itself (part_declared kind w T) names) ∷ [])
bound_parts (Unbound at ∷ bs) kind w (part T Ts) names = bound_parts bs kind w Ts names

abbrev pub bound_in : List Binder → LocalKind → Option Ty → Option Parts → List Entry → Option (List Entry)
bound_in bs kind w None names = None
bound_in bs kind w (Some Ts) names = bound_parts bs kind w Ts names

abbrev pub written_or : Option Ty → Ty → Ty
written_or None S = S
written_or (Some T) S = T

abbrev pub taken : List Binder → List Bool
taken [] = []
taken (Bound i ∷ bs) = true ∷ taken bs
taken (Unbound at ∷ bs) = false ∷ taken bs

-- the names, then the count
abbrev pub several_declared : Span → LocalKind → List Binder → Initialised → Scope → Result Done Fault
several_declared span kind bs d G =
    binders_free bs [] G.names >>
    found_or (bound_in bs kind d.written (tuple_parts (written_or d.written d.value.ty)) G.names) T05 span >>= λ names.
    ended G.class span true d.value.effect names (tree.Declare span d.written (in_parts (taken bs)) d.value.tree)

-- ---- all binds

-- a declaration with an initialiser: the fit, then the names, then the count
abbrev pub bound : Tests → Span → LocalKind → Bind → Expr → Initialised → Scope → Result Done Fault
bound t span kind (Single (Bound i)) e d G = one_declared t span kind i e d G
bound t span kind (Single (Unbound at)) e d G = none_declared span d G
bound t span kind (Several at bs) e d G = several_declared span kind bs d G

abbrev pub bind_rule : Tests → Span → LocalKind → Bind → Option TypeExpr → Expr → Scope → Result Done Fault
bind_rule t span kind b ty e G = initialised t ty e G >>= λ d. bound t span kind b e d G

-- ---- declarations without an initialiser

-- names of one type, each of which isn't visible yet
abbrev pub names_rule : List Ident → Ty → List Entry → Result (List Entry) Fault
names_rule [] T names = Ok names
names_rule (i ∷ is) T names = need (is_free i.text names) T01 i.span >> names_rule is T (names ++ variable i.text T ∷ [])

-- what is evaluated in a written type is immutable
abbrev pub vars_declared : Span → List Ident → Span → Written → Scope → Result Done Fault
vars_declared span is at W G =
    names_rule is W.ty G.names >>= λ names. Ok (done names Pure (tree.DeclareFirst span (length is) at W.shape (trees_from W.sizes)))

abbrev pub vars_rule : Tests → Span → List Ident → TypeExpr → Scope → Result Done Fault
vars_rule t span is ty G = written t ty false G >>= λ W. vars_declared span is (found_type t ty).span W G
