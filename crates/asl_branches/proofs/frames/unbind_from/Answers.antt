use Rattle.std.proofs.Common.{◌-◌, arith, refl, ap, ◌∙◌}
use Rattle.asl_store.specs.Stored.{Stored}
use Rattle.asl_branches.proofs.Packing.{frame_less, slot_within, slots_set, values_all, values_less}
use Rattle.asl_branches.proofs.frames.unbind_from.Goals as goal

pub loop-at-init : goal.loop-at-init
loop-at-init c = record {
  above = c.requires.ordered;
  filled = c.requires.filled;
  values = values_all c.args.end c.args.store.now.newest c.requires.filled;
  slots = refl;
  globals = refl;
  older = refl;
}

pub overflow_cast-at : goal.overflow_cast-at
overflow_cast-at c = omega (arith, (slot_within c.loop-at.at (c.loop-at.at - 1) c.loop-at.store.newest c.loop-at.invariant.filled (omega (arith, c.loop-at-test.true))).1)

pub unbind-requires : goal.unbind-requires
unbind-requires c = (slot_within c.loop-at.at (c.loop-at.at - 1) c.loop-at.store.newest c.loop-at.invariant.filled (omega (arith, c.loop-at-test.true))).0

pub loop-at-preserved : goal.loop-at-preserved
loop-at-preserved c =
    let s = c.loop-at.invariant in
    let newest = ap (λ (t : Stored). t.newest) c.unbind.ensures in
    record {
      above = omega (arith, c.loop-at-test.true);
      filled = frame_less c.loop-at.at (c.loop-at.at - 1) c.loop-at.store.newest c.unbind.new.self.newest (omega (arith, c.loop-at-test.true))
          s.filled newest;
      values = values_less c.loop-at.at (c.loop-at.at - 1) c.loop-at.store.newest c.unbind.new.self.newest _ (omega (arith, c.loop-at-test.true))
          s.filled newest s.values;
      slots = slots_set (c.loop-at.at - 1) c.loop-at.store.newest c.unbind.new.self.newest _ newest ∙ s.slots;
      globals = ap (λ (t : Stored). t.globals) c.unbind.ensures ∙ s.globals;
      older = ap (λ (t : Stored). t.older) c.unbind.ensures ∙ s.older;
    }
