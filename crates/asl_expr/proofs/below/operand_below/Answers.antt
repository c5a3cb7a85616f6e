use Rattle.asl_subprograms.specs.private.ContextView.{scope_of}
use Rattle.asl_expr.proofs.Notes.{operand_at}
use Rattle.asl_expr.proofs.below.operand_below.Goals as goal

pub returns : goal.returns
returns g c t s = operand_at t c.args.e.now (scope_of c.args.here.now.context) c.in_ok-tree.tree (c.in_ok-tree.ensures t s)
