-- Where a machine stands, and what that says of the run that led there.
use Rattle.std.specs.Prelude.{◌≡◌, ◌≤◌, ℕ, Bool, true, false, List, Option, Some, None, Result, Ok, Err, option_map}
use Rattle.asl_io.specs.Faults.{Rises}
use Rattle.asl_syn.specs.declared.token.Span.{Span}
use Rattle.asl_syn.specs.declared.code.DynCode.{DynCode}
use Rattle.asl_rules.specs.runs.States.{Binding, Core, resting}
use Rattle.asl_rules.specs.runs.Plans.{Meter, Faulted, Done, Thrown, Halt}
use Rattle.asl_rules.specs.runs.Plans as plans
use Rattle.asl_rules.specs.values.Values as rules
use Rattle.asl_value.specs.View.{value_of}
use Rattle.asl_value.specs.declared.value.Value.{Value}
use Rattle.asl_branches.specs.declared.stop.Stop.{Stop}
use Rattle.asl_branches.specs.declared.stop.Stop.TheVariants as stop
use Rattle.asl_machine.specs.declared.stage.Outcome.{Outcome}
use Rattle.asl_machine.specs.declared.stage.Outcome.TheVariants as outcome
use Rattle.asl_machine.specs.declared.stage.RunRefused.{RunRefused}
use Rattle.asl_machine.specs.declared.stage.RunRefused.TheVariants as refused
use Rattle.asl_machine.specs.declared.stage.Stage.{Stage}
use Rattle.asl_machine.specs.declared.stage.Stage.TheVariants as stage

-- the machine hasn't ended
abbrev pub is_ready : Stage → Bool
is_ready (stage.Ready x) = true
is_ready (stage.Uncaught x) = false
is_ready (stage.Fault code span) = false
is_ready (stage.Refused e) = false

abbrev pub OnReady : Stage → Type 0 → Type 0
OnReady (stage.Ready x) P = P
OnReady (stage.Uncaught x) P = Unit {0}
OnReady (stage.Fault code span) P = Unit {0}
OnReady (stage.Refused e) P = Unit {0}

abbrev pub OnEnded : Stage → Type 0 → Type 0
OnEnded (stage.Ready x) P = Unit {0}
OnEnded (stage.Uncaught x) P = P
OnEnded (stage.Fault code span) P = P
OnEnded (stage.Refused e) P = P

-- no run was given up
abbrev pub OnRun : Stage → Type 0 → Type 0
OnRun (stage.Ready x) P = P
OnRun (stage.Uncaught x) P = P
OnRun (stage.Fault code span) P = P
OnRun (stage.Refused e) P = Unit {0}

abbrev pub OnRefused : Stage → Type 0 → Type 0
OnRefused (stage.Ready x) P = Unit {0}
OnRefused (stage.Uncaught x) P = Unit {0}
OnRefused (stage.Fault code span) P = Unit {0}
OnRefused (stage.Refused e) P = P

-- the answer of a call that leaves the machine so
abbrev pub answer_of : Stage → Result Outcome RunRefused
answer_of (stage.Ready x) = Ok outcome.Returned
answer_of (stage.Uncaught x) = Ok outcome.Uncaught
answer_of (stage.Fault code span) = Ok (outcome.Fault code span)
answer_of (stage.Refused e) = Err e

abbrev pub returned_by : Stage → Option Value
returned_by (stage.Ready x) = x
returned_by (stage.Uncaught x) = None
returned_by (stage.Fault code span) = None
returned_by (stage.Refused e) = None

abbrev pub uncaught_by : Stage → Option Value
uncaught_by (stage.Ready x) = None
uncaught_by (stage.Uncaught x) = Some x
uncaught_by (stage.Fault code span) = None
uncaught_by (stage.Refused e) = None

-- a run halts in a fault, with these globals and this meter
pub record Halted (globals : List Binding) (h : Meter) (r : plans.Outcome Core (Option rules.Value)) (code : DynCode) (span : Span) : Type 0 where
  pub core : Core
  pub globals_are : core.globals ≡ globals
  pub is : r ≡ Halt (Faulted code span) core h

-- a run ends so, with these globals and this meter
abbrev pub Ends : Stage → List Binding → Meter → plans.Outcome Core (Option rules.Value) → Type 0
Ends (stage.Ready x) globals h r = r ≡ Done (option_map value_of x) (resting globals) h
Ends (stage.Uncaught x) globals h r = r ≡ Thrown (value_of x) (resting globals) h
Ends (stage.Fault code span) globals h r = Halted globals h r code span
Ends (stage.Refused e) globals h r = Unit {0}

-- an answer of a call, with the globals and the meter after it, is what the rules give; or the run was given up, and P is
-- promised
abbrev pub CallMeets : Result (Option Value) Stop → List Binding → Meter → plans.Outcome Core (Option rules.Value) → Type 0 → Type 0
CallMeets (Ok x) globals h r P = r ≡ Done (option_map value_of x) (resting globals) h
CallMeets (Err stop.NoMemory) globals h r P = P
CallMeets (Err stop.SinkFault) globals h r P = P
CallMeets (Err (stop.Thrown x)) globals h r P = r ≡ Thrown (value_of x) (resting globals) h
CallMeets (Err (stop.Fault code span)) globals h r P = Halted globals h r code span
CallMeets (Err (stop.Stuck mistake span)) globals h r P = ⊥

-- the run was not given up
abbrev pub IfRan : Result (Option Value) Stop → Type 0 → Type 0
IfRan (Ok x) P = P
IfRan (Err stop.NoMemory) P = Unit {0}
IfRan (Err stop.SinkFault) P = Unit {0}
IfRan (Err (stop.Thrown x)) P = P
IfRan (Err (stop.Fault code span)) P = P
IfRan (Err (stop.Stuck mistake span)) P = P

-- the sink's count of faults rose where it refused a write, and is as it was elsewhere
abbrev pub Counted : Stage → ℕ → ℕ → Type 0
Counted (stage.Ready x) before after = after ≡ before
Counted (stage.Uncaught x) before after = after ≡ before
Counted (stage.Fault code span) before after = after ≡ before
Counted (stage.Refused refused.NoMemory) before after = after ≡ before
Counted (stage.Refused refused.SinkFault) before after = (before ≤ after) × Rises before after
