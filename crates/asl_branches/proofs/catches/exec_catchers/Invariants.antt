use Rattle.std.proofs.Common.{drop}
use Rattle.asl_rules.specs.private.TypedMeaning.{last_of as last_rule}
use Rattle.asl_tree.specs.Acts.{all_catchers, last_of}
use Rattle.asl_tree.specs.private.Room.{FitsCatchers}
use Rattle.asl_value.specs.View.{value_of}
use Rattle.asl_branches.specs.Meets.{Underway, at}
use Rattle.asl_branches.specs.View.{room_of}
use Rattle.asl_branches.proofs.Catching.{all_from}
use Rattle.asl_branches.proofs.catches.exec_catchers.Given as goal

-- the catchers that are left do what all do, and fit the frame
abbrev pub invariant-loop-catcher : goal.invariant-loop-catcher
invariant-loop-catcher g l = record {
  left : Underway (g.N.Nodes.setting l.here)
      (all_from (value_of l.fn.x) (drop l.catcher-index l.it.catchers.now) (last_rule (last_of l.it.last.now))) (at g.K.Sink l.run l.sink)
      (all_from (value_of l.fn.x) l.it.catchers.now (last_rule (last_of l.it.last.now))) (at g.K.Sink l.fn.run l.fn.sink);
  fits : FitsCatchers (room_of l.fn.run) (all_catchers (drop l.catcher-index l.it.catchers.now));
}
