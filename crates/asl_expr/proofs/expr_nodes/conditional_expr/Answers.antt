use Rattle.asl_subprograms.specs.private.ContextView.{scope_of}
use Rattle.asl_expr.proofs.Notes.{conditional_by}
use Rattle.asl_expr.proofs.expr_nodes.conditional_expr.Goals as goal

pub returns : goal.returns
returns g c t s =
    conditional_by t c.args.span c.args.condition.now c.args.left.now c.args.right.now c.in_ok-c.c c.in_ok-a.a c.in_ok-b.b (scope_of c.args.here.now.context) c.type_conditional.result
    (c.in_ok-c.ensures t s) (c.in_ok-a.ensures t s) (c.in_ok-b.ensures t s) (c.type_conditional.ensures t s.right)
