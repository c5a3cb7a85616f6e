-- What is evaluated before any run gives a value of its type, or has a dynamic fault: no evaluation that the rules ask for is stuck.
use Rattle.std.specs.Prelude.{◌≡◌, ℕ, true, ◌⊎◌, List, [], ◌∷◌, Option, Some, None, Ok}
use Rattle.asl_syn.specs.declared.token.Span.{Span}
use Rattle.asl_syn.specs.declared.tree.Expr.{Expr}
use Rattle.asl_syn.specs.declared.tree.StorageDecl.{StorageDecl}
use Rattle.asl_syn.specs.declared.tree.TypeExpr.{TypeExpr}
use Rattle.asl_syn.specs.declared.tree.Decl.{Decl}
use Rattle.asl_syn.specs.declared.tree.Decl.TheVariants as dc
use Rattle.asl_syn.specs.declared.code.Fault.{Fault}
use Rattle.asl_syn.specs.declared.code.DynCode.{DynCode}
use Rattle.asl_rules.specs.declared.effect.Effect.{Effect}
use Rattle.asl_rules.specs.Tests.{Tests}
use Rattle.asl_rules.specs.types.Closed.{Closed, closed}
use Rattle.asl_rules.specs.declarations.Scopes.{Entry, with_class}
use Rattle.asl_rules.specs.expressions.Typing.{Typed}
use Rattle.asl_rules.specs.types.Writing.{Written}
use Rattle.asl_rules.specs.expressions.Exprs.{typed, written, found_type}
use Rattle.asl_rules.specs.runs.Plans.{Faulted, Stuck, Pure, Good, Bad}
use Rattle.asl_rules.specs.declarations.Barred.{barred}
use Rattle.asl_rules.specs.declarations.Constants.{constant}
use Rattle.asl_rules.specs.types.Written.{first_value}
use Rattle.asl_rules.specs.private.Belonging.{InType}
use Rattle.asl_rules.specs.private.Agreement.{types_in, no_atoms}
use Rattle.asl_laws.specs.Spans.{IsAmong, expr_spans}
use Rattle.asl_rules.specs.declarations.Declarations.{in_names}
use Rattle.asl_rules.specs.declarations.Turns.{names_so_far, turns, all_waiting, names_of_program}

-- what an evaluation gives has this property, where it gives a value; it isn't stuck
abbrev pub GivesOrFaults : {A : Type 0} → (A → Type 0) → Pure A → Type 0
GivesOrFaults Q (Good x) = Q x
GivesOrFaults Q (Bad (Faulted code span)) = Unit {0}
GivesOrFaults Q (Bad (Stuck mistake span)) = ⊥

-- where these names are visible outside bodies, an expression with a type, which holds no call and no global `var`, is evaluated to a value of its type
abbrev pub ConstantsGiven : Tests → List Entry → Type 0
ConstantsGiven t names =
    (e : Expr) (k : Effect) (S : Typed) → barred e names ≡ None → typed t e (with_class (in_names names) k) ≡ Ok S →
    GivesOrFaults (λ x. InType (types_in names) no_atoms x S.ty) (constant t.limit e names)

-- the names that are visible after so many turns
abbrev pub names_after : Tests → ℕ → List Decl → List Entry
names_after t n ds = names_so_far ds (turns t n ds (all_waiting ds))

-- so it is in each turn in which a declaration is judged, and in the scope of all signatures; and each type has a first value or the fault
-- that it has none
pub record Evaluates (t : Tests) (ds : List Decl) : Type 0 where
  pub each_turn : (n : ℕ) → ConstantsGiven t (names_after t n ds)
  pub all : ConstantsGiven t (names_of_program t ds)
  pub first : (at : Span) (T : Closed) → GivesOrFaults (λ x. Unit {0}) (first_value t.limit at T)

-- ---- where a fault that a constant can't be evaluated comes from

-- an initialiser, or the limit of a subprogram
abbrev pub expr_outside : Decl → Option Expr
expr_outside (dc.Type d) = None
expr_outside (dc.Storage d) = d.init
expr_outside (dc.Func f) = f.limit

abbrev pub StandsIn : Decl → List Decl → Type 0
StandsIn d [] = ⊥
StandsIn d (e ∷ ds) = (e ≡ d) ⊎ StandsIn d ds

-- the names of a turn, or those that are visible in all bodies
abbrev pub AreVisible : Tests → List Decl → List Entry → Type 0
AreVisible t ds names = ((n : ℕ) × (names_after t n ds ≡ names)) ⊎ (names_of_program t ds ≡ names)

-- an initialiser or a limit of these declarations holds a call or a global `var` at this place
pub record BarredAt (t : Tests) (ds : List Decl) (span : Span) : Type 0 where
  pub decl : Decl
  pub stands : StandsIn decl ds
  pub expr : Expr
  pub expr_is : expr_outside decl ≡ Some expr
  pub names : List Entry
  pub visible : AreVisible t ds names
  pub holds : barred expr names ≡ Some span
  pub inside : IsAmong span (expr_spans expr)

-- the evaluation of an initialiser or a limit of these declarations ends with this dynamic fault, which stands in it
pub record EvaluationFaults (t : Tests) (ds : List Decl) (code : DynCode) (span : Span) : Type 0 where
  pub decl : Decl
  pub stands : StandsIn decl ds
  pub expr : Expr
  pub expr_is : expr_outside decl ≡ Some expr
  pub names : List Entry
  pub visible : AreVisible t ds names
  pub may : barred expr names ≡ None
  pub ends : constant t.limit expr names ≡ Bad (Faulted code span)
  pub inside : IsAmong span (expr_spans expr)

-- storage of these declarations has no initialiser, and its type has this dynamic fault in place of a first value, at the type
pub record FirstValueFaults (t : Tests) (ds : List Decl) (code : DynCode) (span : Span) : Type 0 where
  pub decl : StorageDecl
  pub stands : StandsIn (dc.Storage decl) ds
  pub no_init : decl.init ≡ None
  pub ty : TypeExpr
  pub ty_is : decl.ty ≡ Some ty
  pub names : List Entry
  pub visible : AreVisible t ds names
  pub meant : Written
  pub meant_is : written t ty true (in_names names) ≡ Ok meant
  pub ends : first_value t.limit (found_type t ty).span (closed meant.ty) ≡ Bad (Faulted code span)
  pub at : (found_type t ty).span ≡ span

-- an evaluation stopped with a dynamic fault, at its place and with its code, or there is what may not stand where it is evaluated
abbrev pub HasCause : Tests → List Decl → Fault → Type 0
HasCause t ds f =
    ((code : DynCode) ×
    ((f.inner ≡ Some code) × (EvaluationFaults t ds code f.span ⊎ FirstValueFaults t ds code f.span))) ⊎ BarredAt t ds f.span
