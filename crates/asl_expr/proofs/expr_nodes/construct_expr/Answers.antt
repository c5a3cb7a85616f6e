use Rattle.asl_tree.specs.View.{all_operands}
use Rattle.asl_subprograms.specs.private.ContextView.{scope_of}
use Rattle.asl_expr.proofs.Values.{construct_by}
use Rattle.asl_expr.proofs.expr_nodes.construct_expr.Goals as goal

pub returns : goal.returns
returns g c t s =
    construct_by t c.args.span c.args.name.now c.args.given.now (all_operands c.in_ok-values.values) (scope_of c.args.here.now.context) c.type_construction.result
    (c.in_ok-values.ensures t s) (c.type_construction.ensures t s.right)
