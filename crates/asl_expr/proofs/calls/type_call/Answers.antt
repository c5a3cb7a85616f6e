use Rattle.std.proofs.Common.{◌≡◌, Some, map, rules, subst}
use Rattle.asl_rules.specs.expressions.Calls.{function_of}
use Rattle.asl_rules.specs.expressions.Exprs.{found}
use Rattle.asl_rules.specs.declarations.Routines.{routine_named}
use Rattle.asl_types.specs.private.Answers.{Met}
use Rattle.asl_subprograms.specs.private.ContextView.{scope_of}
use Rattle.asl_shape.specs.View.{routine_of}
use Rattle.asl_tree.specs.View.{typed_of, all_operands}
use Rattle.asl_expr.proofs.Stepping.{then_went}
use Rattle.asl_expr.proofs.calls.type_call.Goals as goal

pub returns-in-Some : goal.returns-in-Some
returns-in-Some c t s =
    let path : Some (routine_of c.in-Some.routine) ≡ routine_named c.args.name.now.text = search rules in
    then_went typed_of _ _ c.in_ok-subprogram.field-0 c.call_routine.result c.in_ok-subprogram.ensures
    (subst (λ o. Met typed_of c.call_routine.result (function_of t c.args.span c.args.name.now (map (found t) c.args.params.now) (all_operands c.args.arguments) (scope_of c.args.context) o)) path (c.call_routine.ensures t c.args.name.now))
