-- What a run makes of an expression that has a value before any run: there is one evaluation, by steps and without.
use Rattle.std.specs.Prelude.{◌≡◌, ◌≤◌, ℕ, ◌⊎◌, List}
use Rattle.asl_syn.specs.declared.token.Span.{Span}
use Rattle.asl_syn.specs.declared.code.DynCode.{DynCode}
use Rattle.asl_syn.specs.declared.code.DynCode.TheVariants.{D12, D13}
use Rattle.asl_syn.specs.declared.tree.Expr.{Expr}
use Rattle.asl_syn.specs.declared.tree.Decl.{Decl}
use Rattle.asl_rules.specs.Tests.{Tests}
use Rattle.asl_rules.specs.declarations.Scopes.{standing_of}
use Rattle.asl_rules.specs.runs.States.{Core, resting}
use Rattle.asl_rules.specs.runs.Plans.{Meter, End, Faulted, Stuck, CallBarred, Outcome, Done, Halt, Pure, Good, Bad}
use Rattle.asl_rules.specs.declarations.Programs.{Environment, environment}
use Rattle.asl_rules.specs.declarations.Constants.{constant, initial_value}
use Rattle.asl_rules.specs.runs.Evaluation.{meaning, value_here, initial_globals}

-- each name has the value that it has before any run
abbrev pub HoldsInitial : Environment → Core → Type 0
HoldsInitial env c = (name : List ℕ) → value_here env name c ≡ initial_value (standing_of name env.names)

-- a run gives this value, or stops with this end, and leaves the state as it was
abbrev pub EndsSo : {A : Type 0} → Core → Pure A → Outcome Core A → Type 0
EndsSo c (Good x) r = (h : Meter) × (r ≡ Done x c h)
EndsSo c (Bad e) r = (h : Meter) × (r ≡ Halt e c h)

-- no step was left for a node, or no node more might be open
pub record RanOut {A : Type 0} (r : Outcome Core A) : Type 0 where
  pub code : DynCode
  pub span : Span
  pub state : Core
  pub meter : Meter
  pub is : r ≡ Halt (Faulted code span) state meter
  pub short : (code ≡ D12) ⊎ (code ≡ D13)

-- there is a call, which has no value before a run
abbrev pub IsBarred : End → Type 0
IsBarred (Stuck CallBarred span) = Unit {0}
IsBarred e = ⊥

abbrev pub HoldsCall : {A : Type 0} → Pure A → Type 0
HoldsCall (Good x) = ⊥
HoldsCall (Bad e) = IsBarred e

-- a run agrees with what was known before it
abbrev pub AsBefore : {A : Type 0} → Core → Pure A → Outcome Core A → Type 0
AsBefore c p r = EndsSo c p r ⊎ (RanOut r ⊎ HoldsCall p)

-- so many nodes are enough for an expression: where so many more may be open and so many steps are left, its run ends as was known before it
pub record Enough (env : Environment) (c : Core) (e : Expr) : Type 0 where
  pub nodes : ℕ
  pub ends : (d : ℕ) (h : Meter) → nodes ≤ d → nodes ≤ h.steps → EndsSo c (constant env.limit e env.names) ((meaning env d).expr e c h) ⊎ HoldsCall (constant env.limit e env.names)

-- where names have the values that they have before any run, each expression gives what it gives before any run, but that its steps and its open nodes are counted
pub record OneEvaluation (env : Environment) : Type 0 where
  pub agrees : (d : ℕ) (e : Expr) (c : Core) (h : Meter) → HoldsInitial env c → AsBefore c (constant env.limit e env.names) ((meaning env d).expr e c h)
  pub enough : (e : Expr) (c : Core) → HoldsInitial env c → Enough env c e

-- as a run of these declarations begins, each name has the value that it has before any run
abbrev pub BeginsSo : Tests → List Decl → Type 0
BeginsSo t ds = HoldsInitial (environment t ds) (resting (initial_globals (environment t ds)))
