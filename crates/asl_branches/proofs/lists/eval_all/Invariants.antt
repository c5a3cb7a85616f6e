use Rattle.std.proofs.Common.{drop, map}
use Rattle.asl_value.specs.View.{value_of}
use Rattle.asl_branches.specs.private.InOrder.{evaluated}
use Rattle.asl_branches.specs.Meets.{Underway, at}
use Rattle.asl_branches.proofs.Listing.{all_behind}
use Rattle.asl_branches.proofs.lists.eval_all.Given as goal

-- the expressions that are left do what all do
abbrev pub invariant-loop-e : goal.invariant-loop-e
invariant-loop-e g l = Underway (g.N.Nodes.setting l.here) (all_behind (drop l.e-index l.es) (map value_of l.xs))
    (at g.K.Sink l.run l.sink)
    (evaluated l.es) (at g.K.Sink l.fn.run l.fn.sink)
