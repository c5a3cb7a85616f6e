use Rattle.std.proofs.Common.{rules, arith, Result, sym, subst}
use Rattle.asl_syn.specs.declared.code.Fault.{Fault}
use Rattle.asl_types.specs.private.Answers.{Met}
use Rattle.asl_subprograms.specs.private.ContextView.{scope_of}
use Rattle.asl_written.specs.private.WrittenFields.{FieldsSeen, field_view, fields_view}
use Rattle.asl_written.proofs.FieldLemmas.{fields_next, fields_opened, fields_last}
use Rattle.asl_written.proofs.written_fields.all_fields.Goals as goal

pub returns-in_err-next : goal.returns-in_err-next
returns-in_err-next c t =
    let gives = fields_opened t _ c.args.fields.now c.loop-f.f-index c.f-item.result (fields_view c.loop-f.made) (scope_of c.args.context) (omega (arith, c.loop-f-test.true)) c.f-item.is (c.loop-f.invariant t) in
    let here = c.field.ensures t in
    subst (λ (z : Result FieldsSeen Fault). Met fields_view c.from_residual.result z) (sym gives) (search rules)

pub loop-f-preserved : goal.loop-f-preserved
loop-f-preserved c t =
    fields_next t _ c.args.fields.now c.loop-f.f-index c.f-item.result (fields_view c.loop-f.made) (fields_view c.push.new.self) (field_view c.in_ok-next.next) (scope_of c.args.context)
    (omega (arith, c.loop-f-test.true)) c.f-item.is (c.in_ok-next.ensures t) c.in_ok-push.ensures (c.loop-f.invariant t)

pub returns : goal.returns
returns c t = fields_last t _ c.args.fields.now c.loop-f.f-index (fields_view c.loop-f.made) (scope_of c.args.context) (omega (arith, c.loop-f-test.false)) (c.loop-f.invariant t)
