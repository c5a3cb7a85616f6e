use Rattle.std.proofs.Common.{◌≡◌, Ok, rules, subst}
use Rattle.asl_rules.specs.expressions.Calls.{routine_taken}
use Rattle.asl_shape.specs.View.{routine_of}
use Rattle.asl_tree.specs.View.{typed_of, all_operands}
use Rattle.asl_expr.proofs.CallArms.{as_many}
use Rattle.asl_expr.proofs.Stepping.{then_went}
use Rattle.asl_expr.proofs.calls.call_routine.Goals as goal

pub returns : goal.returns
returns c t name =
    then_went typed_of _ _ c.in_ok-routine_taken.field-0 c.routine_given.result
    (subst (λ us. routine_taken c.args.span (routine_of c.args.routine) (all_operands us) ≡ Ok c.in_ok-routine_taken.field-0) c.as_slice.ensures c.in_ok-routine_taken.ensures)
    (then_went typed_of _ _ tt c.routine_given.result (as_many t c.args.params.now _ _ c.args.span c.if-params-routine_params.false c.routine_params.ensures) (c.routine_given.ensures t))
