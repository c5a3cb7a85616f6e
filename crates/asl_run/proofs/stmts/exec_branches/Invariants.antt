use Rattle.std.proofs.Common.{drop}
use Rattle.asl_rules.specs.private.TypedMeaning.{acts_of}
use Rattle.asl_tree.specs.Acts.{all_acts, all_branches}
use Rattle.asl_tree.specs.private.Room.{FitsBranches}
use Rattle.asl_branches.specs.Meets.{Underway, at}
use Rattle.asl_branches.specs.View.{room_of}
use Rattle.asl_run.proofs.Branching.{all_from}
use Rattle.asl_run.proofs.stmts.exec_branches.Given as goal

-- the branches that are left do what all do, and fit the frame
abbrev pub invariant-loop-branch : goal.invariant-loop-branch
invariant-loop-branch g l = record {
  left : Underway (g.N.Nodes.setting l.here)
      (all_from l.span (drop l.branch-index l.others) (acts_of (all_acts l.last))) (at g.K.Sink l.run l.sink)
      (all_from l.span l.others (acts_of (all_acts l.last))) (at g.K.Sink l.fn.run l.fn.sink);
  fits : FitsBranches (room_of l.fn.run) (all_branches (drop l.branch-index l.others));
}
