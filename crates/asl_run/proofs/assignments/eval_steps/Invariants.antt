use Rattle.std.proofs.Common.{drop, []}
use Rattle.asl_value.specs.private.Forms.{all_steps}
use Rattle.asl_branches.specs.Meets.{Underway, at}
use Rattle.asl_run.specs.private.Storing.{all_stepped}
use Rattle.asl_run.proofs.assignments.eval_steps.Given as goal

-- the steps that are left do what all do
abbrev pub invariant-loop-step : goal.invariant-loop-step
invariant-loop-step g l = Underway (g.N.Nodes.setting l.here) (all_stepped (drop l.step-index l.steps) (all_steps l.found))
    (at g.K.Sink l.run l.sink) (all_stepped l.steps []) (at g.K.Sink l.fn.run l.fn.sink)
