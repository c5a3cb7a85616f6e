use Rattle.std.proofs.Common.{drop}
use Rattle.asl_rules.specs.private.TypedMeaning.{last_of as last_rule}
use Rattle.asl_tree.specs.Acts.{all_alternatives, last_of}
use Rattle.asl_tree.specs.private.Room.{FitsAlternatives}
use Rattle.asl_value.specs.View.{value_of}
use Rattle.asl_branches.specs.Meets.{Underway, at}
use Rattle.asl_branches.specs.View.{room_of}
use Rattle.asl_branches.proofs.Choosing.{all_from}
use Rattle.asl_branches.proofs.choices.exec_alternatives.Given as goal

-- the alternatives that are left do what all do, and fit the frame
abbrev pub invariant-loop-other : goal.invariant-loop-other
invariant-loop-other g l = record {
  left : Underway (g.N.Nodes.setting l.here)
      (all_from l.case.span (value_of l.x) (drop l.other-index l.case.others.now) (last_rule (last_of l.case.last.now)))
      (at g.K.Sink l.run l.sink)
      (all_from l.case.span (value_of l.x) l.case.others.now (last_rule (last_of l.case.last.now))) (at g.K.Sink l.fn.run l.fn.sink);
  fits : FitsAlternatives (room_of l.fn.run) (all_alternatives (drop l.other-index l.case.others.now));
}
