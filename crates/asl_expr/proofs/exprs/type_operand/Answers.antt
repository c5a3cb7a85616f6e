use Rattle.asl_subprograms.specs.private.ContextView.{scope_of}
use Rattle.asl_expr.proofs.Notes.{operand_at}
use Rattle.asl_expr.proofs.exprs.type_operand.Goals as goal

pub returns : goal.returns
returns c t s = operand_at t c.args.e.now (scope_of c.args.context) c.in_ok-tree.tree (c.in_ok-tree.ensures t s)
