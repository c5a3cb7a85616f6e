use Rattle.std.proofs.Common.{arith}
use Rattle.asl_written.proofs.FieldLemmas.{places_next}
use Rattle.asl_written.proofs.written_fields.all_placed.Goals as goal

pub loop-f-preserved : goal.loop-f-preserved
loop-f-preserved c =
    places_next c.args.span _ _ c.args.fields.now c.loop-f.f-index c.f-item.result c.loop-f.made c.push.new.self c.in_ok-next.next
    (omega (arith, c.loop-f-test.true)) c.f-item.is c.in_ok-next.ensures c.in_ok-push.ensures.ok c.loop-f.invariant
