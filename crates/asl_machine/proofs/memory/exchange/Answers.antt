use Rattle.std.proofs.Common.{rules, ◌<◌, length, refl}
use Rattle.asl_machine.proofs.Places.{next_given, next_taken}
use Rattle.asl_machine.proofs.memory.exchange.Goals as goal

pub loop-i-preserved : goal.loop-i-preserved
loop-i-preserved c =
    let within : c.loop-i.i < length c.loop-i.values.items = search rules in
    record {
      values = next_given c.args.marks.now c.loop-i.values.items _ _ c.loop-i.vars.items c.exchange_one-next.new.vars.items c.loop-i.i c.loop-i.next c.exchange_one-next.result _ c.exchange_one-next.new.value c.loop-i-test.true within c.index_mut.ensures.value refl c.exchange_one-next.ensures.given c.loop-i.invariant.values;
      vars = next_taken c.args.marks.now c.loop-i.values.items _ c.loop-i.vars.items c.exchange_one-next.new.vars.items _ c.loop-i.i c.loop-i.next c.exchange_one-next.result _ c.exchange_one-next.new.value c.loop-i-test.true within c.index_mut.ensures.value refl c.exchange_one-next.ensures.taken c.loop-i.invariant.vars;
    }
