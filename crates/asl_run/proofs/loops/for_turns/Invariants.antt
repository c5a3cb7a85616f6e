use Rattle.std.proofs.Common.{◌≡◌, false}
use Rattle.asl_rules.specs.runs.StatementForms.{is_past}
use Rattle.asl_rules.specs.private.TypedMeaning.{acts_of}
use Rattle.asl_tree.specs.Acts.{all_acts}
use Rattle.asl_branches.specs.Meets.{Underway, at}
use Rattle.asl_run.proofs.Turning.{turns_from}
use Rattle.asl_run.proofs.loops.for_turns.Given as goal

-- the index isn't past the last, and the turns that are left do what all do
abbrev pub invariant-loop-left : goal.invariant-loop-left
invariant-loop-left g l = record {
  within : is_past l.it.direction l.it.last l.i ≡ false;
  turns : Underway (g.N.Nodes.setting l.here)
      (turns_from l.it.span l.it.direction l.it.last (acts_of (all_acts l.body)) l.left l.i) (at g.K.Sink l.run l.sink)
      (turns_from l.it.span l.it.direction l.it.last (acts_of (all_acts l.body)) l.it.count l.it.first) (at g.K.Sink l.fn.run l.fn.sink);
}

abbrev pub decreases-loop-left : goal.decreases-loop-left
decreases-loop-left g l = l.left
