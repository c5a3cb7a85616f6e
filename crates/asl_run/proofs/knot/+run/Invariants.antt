use Rattle.std.proofs.Common.{◌+◌, ◌*◌, drop}
use Rattle.asl_tree.specs.Acts.{all_acts}
use Rattle.asl_tree.specs.private.Room.{FitsList}
use Rattle.asl_branches.specs.Meets.{InTurn, at}
use Rattle.asl_branches.specs.View.{room_of}
use Rattle.asl_branches.proofs.Listing.{all_acted}
use Rattle.asl_run.proofs.knot.+run.Given as goal

-- a node is entered one level deeper
abbrev pub decreases-enter_expr : goal.decreases-enter_expr
decreases-enter_expr g l = 3 * l.here.depth

abbrev pub decreases-enter_stmt : goal.decreases-enter_stmt
decreases-enter_stmt g l = 3 * l.here.depth

-- what isn't done at once is entered
abbrev pub decreases-eval : goal.decreases-eval
decreases-eval g l = 3 * l.here.depth + 1

abbrev pub decreases-exec : goal.decreases-exec
decreases-exec g l = 3 * l.here.depth + 1

-- a list stands above its statements
abbrev pub decreases-exec_all : goal.decreases-exec_all
decreases-exec_all g l = 3 * l.here.depth + 2

-- the statements that are left do what all do, and fit the frame
abbrev pub invariant-exec_all-loop-s : goal.invariant-exec_all-loop-s
invariant-exec_all-loop-s g l = record {
  turn : InTurn l.here (all_acted (drop l.s-index l.list)) (at g.K.Sink l.run l.sink) (all_acted l.list) (at g.K.Sink l.fn.run l.fn.sink);
  fits : FitsList (room_of l.run) (all_acts (drop l.s-index l.list));
}
