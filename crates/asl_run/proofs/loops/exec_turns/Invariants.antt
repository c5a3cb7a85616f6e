use Rattle.asl_rules.specs.private.TypedMeaning.{acts_of}
use Rattle.asl_tree.specs.Acts.{all_acts}
use Rattle.asl_tree.specs.View.{tree_of}
use Rattle.asl_branches.specs.Meets.{Underway, at}
use Rattle.asl_run.specs.private.Looping.{turn_until}
use Rattle.asl_run.proofs.loops.exec_turns.Given as goal

-- the turns that are left do what all do
abbrev pub invariant-loop-left : goal.invariant-loop-left
invariant-loop-left g l = Underway (g.N.Nodes.setting l.here)
    (turn_until l.it.until l.it.span (tree_of l.condition) (acts_of (all_acts l.body)) l.left) (at g.K.Sink l.run l.sink)
    (turn_until l.it.until l.it.span (tree_of l.condition) (acts_of (all_acts l.body)) l.it.count) (at g.K.Sink l.fn.run l.fn.sink)

abbrev pub decreases-loop-left : goal.decreases-loop-left
decreases-loop-left g l = l.left
