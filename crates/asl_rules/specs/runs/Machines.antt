-- Runs of a program: calls from outside, one after another, over globals that stay.
use Rattle.std.specs.Prelude.{◌≡◌, ℕ, ◌-◌, ◌<◌, List, Option}
use Rattle.asl_rules.specs.declarations.Programs.{Environment}
use Rattle.asl_rules.specs.runs.Told.{Begins}
use Rattle.asl_rules.specs.values.Values.{Value}
use Rattle.asl_rules.specs.runs.States.{Binding, Core, resting}
use Rattle.asl_rules.specs.runs.Plans.{Meter, Outcome, final, run, starting}
use Rattle.asl_syn.specs.declared.tree.Expr.{Expr}
use Rattle.asl_syn.specs.declared.tree.Stmt.{Stmt}
use Rattle.asl_rules.specs.runs.Visits.{Visit, visits, trails}
use Rattle.asl_rules.specs.runs.Evaluation.{nodes, meaning, call_of}

-- how many nodes may be entered and not left
unfoldable pub most_open : ℕ
most_open = 2000

-- a call of a subprogram with these globals, steps and text so far
unfoldable pub run_of : Environment → ℕ → List Value → List Binding → Meter → Outcome Core (Option Value)
run_of env id args globals h = run (meaning env most_open) (call_of env id args (resting globals)) h

-- the text after the call, had it this budget
abbrev pub text_of_run : Environment → ℕ → List Value → List Binding → Option (List ℕ) → ℕ → Option (List ℕ)
text_of_run env id args globals told budget = (final (run_of env id args globals (starting budget told))).told

-- a run was given up after it entered n nodes of a budget: what was written since the beginning is a prefix of its text
-- and of the text with budget n, and the text with one step less is a prefix of it; with no node entered it is nothing
pub record GivenUp (text : ℕ → Option (List ℕ)) (old new : Option (List ℕ)) (budget n : ℕ) : Type 0 where
  pub whole : Begins new (text budget)
  pub begins : Begins new (text n)
  pub last : 0 < n → Begins (text (n - 1)) new
  pub none : n ≡ 0 → new ≡ old

-- the nodes that a call enters
unfoldable pub visits_of : Environment → ℕ → List Value → List Binding → Meter → List (Visit Core Expr Stmt)
visits_of env id args globals h = visits (meaning env most_open) (trails (nodes env) most_open 0) (call_of env id args (resting globals)) h
