-- The scopes in which widths are judged, and what names stand for there, be it integers or fractions: what each statement says of it, by its text.
use Rattle.std.specs.Prelude.{◌≡◌, ◌↔◌, ℕ, true, List, Some, Ok}
use Rattle.asl_syn.specs.declared.tree.Expr.{Expr}
use Rattle.asl_syn.specs.declared.tree.LocalKind.{LocalKind}
use Rattle.asl_syn.specs.declared.tree.LocalKind.TheVariants as local
use Rattle.asl_syn.specs.declared.tree.Binder.TheVariants.{Bound, Unbound}
use Rattle.asl_syn.specs.declared.tree.Bind.{Bind}
use Rattle.asl_syn.specs.declared.tree.Bind.TheVariants.{Single, Several}
use Rattle.asl_syn.specs.declared.tree.Stmt.{Stmt, out-Stmt}
use Rattle.asl_syn.specs.declared.tree.Alternative.TheOpen as st
use Rattle.asl_syn.specs.Layers.{StmtLayer}
use Rattle.asl_rules.specs.Tests.{Tests}
use Rattle.asl_rules.specs.types.Types.{is_integer}
use Rattle.asl_rules.specs.types.Numbers.{fraction}
use Rattle.asl_rules.specs.declarations.Scopes.{Entry, Scope, Body, Storage, storage_of}
use Rattle.asl_rules.specs.expressions.Typing.{Width}
use Rattle.asl_rules.specs.expressions.Exprs.{width}
use Rattle.asl_rules.specs.statements.Acting.{Done}
use Rattle.asl_rules.specs.private.Worth.{Integers, fraction_for, standing_for, AreSame, Obeys, WellCounted}

-- the name stands for an integer
abbrev pub IsIntegerName : List ℕ → List Entry → Type 0
IsIntegerName name names = (s : Storage) × (storage_of name names ≡ Some s) × (is_integer s.ty ≡ true)

-- a `let` of one integer, whose initialiser is a width, stands for the fraction of its initialiser
abbrev pub Stands : Tests → Expr → Scope → List ℕ → List Entry → Integers → Type 0
Stands t e G name after a =
    IsIntegerName name after → (w : Width) → width t e G ≡ Ok w → AreSame (fraction e (standing_for G.names a)) (standing_for after a name)

-- and of no other name is anything said
abbrev pub Declares : Tests → LocalKind → Bind → Expr → Scope → List Entry → Integers → Type 0
Declares t local.Let (Single (Bound i)) e G after a = Stands t e G i.text after a
Declares t local.Let (Single (Unbound at)) e G after a = Unit {0}
Declares t local.Let (Several at bs) e G after a = Unit {0}
Declares t local.Var b e G after a = Unit {0}

abbrev pub StmtSays : Tests → StmtLayer → Scope → List Entry → Integers → Type 0
StmtSays t (st.Pass span) G after a = Unit {0}
StmtSays t (st.Unreachable span) G after a = Unit {0}
StmtSays t (st.Assert span e) G after a = Unit {0}
StmtSays t (st.Local span kind b ty e) G after a = Declares t kind b e G after a
StmtSays t (st.LocalVars span iss ty) G after a = Unit {0}
StmtSays t (st.Assign span target e) G after a = Unit {0}
StmtSays t (st.Invoke span i ps es) G after a = Unit {0}
StmtSays t (st.If span e ss others last) G after a = Unit {0}
StmtSays t (st.Case span e alts last) G after a = Unit {0}
StmtSays t (st.For span i a1 direction b limit ss) G after a = Unit {0}
StmtSays t (st.While span e limit ss) G after a = Unit {0}
StmtSays t (st.Repeat span ss e limit) G after a = Unit {0}
StmtSays t (st.Return span e) G after a = Unit {0}
StmtSays t (st.Throw span e) G after a = Unit {0}
StmtSays t (st.Try span ss catchers last) G after a = Unit {0}
StmtSays t (st.Print span kind items) G after a = Unit {0}

-- what stood before stands still, for the same fractions, and the same integers agree with the names
pub record StandsAsBefore (before after : List Entry) : Type 0 where
  pub counted : WellCounted after
  pub same : (a : Integers) → Obeys after a ↔ Obeys before a
  pub stands : (name : List ℕ) (s : Storage) → storage_of name before ≡ Some s → storage_of name after ≡ Some s
  pub kept : (a : Integers) (name : List ℕ) (s : Storage) → storage_of name before ≡ Some s → fraction_for after a name ≡ fraction_for before a name

-- so they do behind a statement, and a name that it declares stands for what it says
pub record SaysSo (t : Tests) (s : Stmt) (B : Body) (d : Done) : Type 0 where
  pub before : StandsAsBefore B.scope.names d.names
  pub says : (a : Integers) → Obeys B.scope.names a → StmtSays t (out-Stmt s) B.scope d.names a
