use Rattle.std.proofs.Common.{◌≡◌, Some, map, rules, subst}
use Rattle.asl_rules.specs.expressions.Calls.{procedure_of}
use Rattle.asl_rules.specs.expressions.Exprs.{found}
use Rattle.asl_rules.specs.declarations.Routines.{routine_named}
use Rattle.asl_types.specs.private.Answers.{Met}
use Rattle.asl_subprograms.specs.private.ContextView.{scope_of}
use Rattle.asl_shape.specs.View.{routine_of}
use Rattle.asl_tree.specs.View.{all_operands}
use Rattle.asl_expr.specs.CallViews.{called_of}
use Rattle.asl_expr.proofs.CallArms.{procedure_by}
use Rattle.asl_expr.proofs.calls.type_procedure.Goals as goal

pub returns-in-Some : goal.returns-in-Some
returns-in-Some c t s =
    let path : Some (routine_of c.in-Some.routine) ≡ routine_named c.args.name.now.text = search rules in
    procedure_by t c.args.span c.args.name.now (map (found t) c.args.params.now) (map (found t) c.args.arguments.now) (all_operands c.in_ok-arguments.arguments) c.in_ok-subprogram.field-0 (scope_of c.args.context) c.procedure_of_library.result
    (c.in_ok-arguments.ensures t s) c.in_ok-subprogram.ensures
    (subst (λ o. Met called_of c.procedure_of_library.result (procedure_of t c.args.span c.args.name.now (map (found t) c.args.params.now) (all_operands c.in_ok-arguments.arguments) (scope_of c.args.context) o)) path
    (subst (λ us. Met called_of c.procedure_of_library.result (procedure_of t c.args.span c.args.name.now (map (found t) c.args.params.now) (all_operands us) (scope_of c.args.context) (Some (routine_of c.in-Some.routine)))) c.as_slice-in-Some.ensures
    (c.procedure_of_library.ensures t c.args.name.now (map (found t) c.args.params.now) (scope_of c.args.context))))
