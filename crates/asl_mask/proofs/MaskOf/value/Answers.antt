use Rattle.std.proofs.Common.{length, ap, arith, sym, ◌∙◌}
use Rattle.std.proofs.lemmas.List.{length-replicate}
use Rattle.std.specs.Prelude.{true, Some}
use Rattle.asl_mask.proofs.Places.{value_fixed, value_free, width_masked, yes_same, no_same}
use Rattle.asl_mask.proofs.MaskOf.value.Goals as goal

pub same-requires : goal.same-requires
same-requires g c =
    omega (arith, ap length c.filled-all.ensures, length-replicate c.width.result true, c.width.ensures.value, width_masked _ _ _ c.self.view_is c.self.invariant.0)

pub returns-then-same : goal.returns-then-same
returns-then-same g c =
    ap Some c.copy.ensures
    ∙ sym (value_fixed _ _ _ _ _ c.self.view_is c.self.invariant.0 c.width.ensures.value c.filled-all.ensures (yes_same c.same.ensures c.if-same.true))

pub returns-else-same : goal.returns-else-same
returns-else-same g c =
    sym (value_free _ _ _ _ _ c.self.view_is c.self.invariant.0 c.width.ensures.value c.filled-all.ensures (no_same c.same.ensures c.if-same.false))
