-- Evaluation and execution as relations, and what it says that each node has exactly one outcome.
use Rattle.std.specs.Prelude.{◌≡◌, ℕ, List, Option}
use Rattle.asl_rules.specs.declarations.Programs.{Environment}
use Rattle.asl_syn.specs.declared.tree.Expr.{Expr}
use Rattle.asl_syn.specs.declared.tree.Stmt.{Stmt}
use Rattle.asl_rules.specs.values.Values.{Value, Exit}
use Rattle.asl_rules.specs.runs.States.{Binding, Core}
use Rattle.asl_rules.specs.runs.Plans.{Meter, Outcome, final}
use Rattle.asl_rules.specs.runs.Visits.{Falls, NoMoreOpen}
use Rattle.asl_rules.specs.runs.Evaluation.{meaning}
use Rattle.asl_laws.specs.BeforeRuns.{OneEvaluation}
use Rattle.asl_rules.specs.runs.Machines.{most_open, run_of, visits_of}

-- an expression of a program, in a state with a meter, where d nodes more may be open, has this outcome: what it gives,
-- the state after it, and the steps and the text after it
abbrev pub Evaluates : Environment → ℕ → Expr → Core → Meter → Outcome Core Value → Type 0
Evaluates env d e c h r = r ≡ (meaning env d).expr e c h

abbrev pub Executes : Environment → ℕ → Stmt → Core → Meter → Outcome Core Exit → Type 0
Executes env d s c h r = r ≡ (meaning env d).stmt s c h

-- a call from outside has this outcome
abbrev pub Runs : Environment → ℕ → List Value → List Binding → Meter → Outcome Core (Option Value) → Type 0
Runs env id args globals h r = r ≡ run_of env id args globals h

-- there is one, and no other
pub record ExactlyOne (A : Type 0) (P : A → Type 0) : Type 0 where
  pub one : A
  pub holds : P one
  pub only : (other : A) → P other → other ≡ one

-- a call takes one step for each node that it enters, and never are more than 2,000 open
pub record Measured (env : Environment) (id : ℕ) (args : List Value) (globals : List Binding) (h : Meter) : Type 0 where
  pub falls : Falls h.steps (visits_of env id args globals h) (final (run_of env id args globals h)).steps
  pub few : NoMoreOpen most_open (visits_of env id args globals h)

pub record OneRun (env : Environment) : Type 0 where
  pub expr : (d : ℕ) (e : Expr) (c : Core) (h : Meter) → ExactlyOne (Outcome Core Value) (Evaluates env d e c h)
  pub stmt : (d : ℕ) (s : Stmt) (c : Core) (h : Meter) → ExactlyOne (Outcome Core Exit) (Executes env d s c h)
  pub call : (id : ℕ) (args : List Value) (globals : List Binding) (h : Meter) → ExactlyOne (Outcome Core (Option Value)) (Runs env id args globals h)
  pub measured : (id : ℕ) (args : List Value) (globals : List Binding) (h : Meter) → Measured env id args globals h
  pub evaluation : OneEvaluation env
