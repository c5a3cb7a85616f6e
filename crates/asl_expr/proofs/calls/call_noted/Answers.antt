use Rattle.std.proofs.Common.{◌≡◌, Ok, Err, rules, subst}
use Rattle.asl_types.specs.private.Answers.{Met}
use Rattle.asl_tree.specs.View.{all_operands, note_view, callee_of}
use Rattle.asl_rules.specs.expressions.Calls.{call_tree}
use Rattle.asl_expr.specs.CallViews.{call_note, replacing_of}
use Rattle.asl_expr.proofs.CallArms.{call_finished, call_refused}
use Rattle.asl_expr.proofs.calls.call_noted.Goals as goal

pub returns : goal.returns
returns c =
    call_finished c.args.class c.args.span (all_operands c.args.arguments) c.args.own c.args.ty (callee_of c.args.callee) (replacing_of c.args.given) (note_view c.in_ok-note.note) c.in_ok-call_tree.field-0
    (subst (λ us. call_note c.args.class c.args.span (all_operands us) c.args.own c.args.ty ≡ Ok (note_view c.in_ok-note.note)) c.as_slice.ensures c.in_ok-note.ensures) c.in_ok-call_tree.ensures

pub returns-in_err-note : goal.returns-in_err-note
returns-in_err-note c =
    let is : c.from_residual.result ≡ Err c.in_err-note.field-0.0 = search rules in
    call_refused c.args.class c.args.span (all_operands c.args.arguments) c.args.own c.args.ty (call_tree (callee_of c.args.callee) (replacing_of c.args.given) (all_operands c.args.arguments)) c.in_err-note.field-0.0 c.from_residual.result is
    (subst (λ us. Met note_view (Err c.in_err-note.field-0.0) (call_note c.args.class c.args.span (all_operands us) c.args.own c.args.ty)) c.as_slice.ensures c.in_err-note.ensures)
