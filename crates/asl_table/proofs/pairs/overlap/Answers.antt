use Rattle.std.proofs.Common.{arith}
use Rattle.asl_table.proofs.Overlaps.{apart_same, overlap_then, overlap_else}
use Rattle.asl_table.proofs.pairs.overlap.Goals as goal

pub and-apart-requires : goal.and-apart-requires
and-apart-requires c = (
  omega arith,
  apart_same _ _ _ _ _ _ _ _ (record { same = c.requires; fixed_a = c.fixed.ensures; fixed_b = c.fixed-2.ensures; digits_a = c.digits.ensures; digits_b = c.digits-2.ensures })
      c.and-fixed.ensures c.xor.ensures,
)

pub returns-then-same : goal.returns-then-same
returns-then-same c =
    overlap_then _ _ _ _ _ _ _ _ _ _ _ _ _ _ _ (record { same = c.requires; fixed_a = c.fixed.ensures; fixed_b = c.fixed-2.ensures; digits_a = c.digits.ensures; digits_b = c.digits-2.ensures })
    c.and-fixed.ensures c.xor.ensures c.and-apart.ensures c.width.ensures.value c.filled.ensures c.same.ensures c.if-same.true c.or.ensures c.digits-then-same.ensures c.digits-then-same-2.ensures

pub returns-else-same : goal.returns-else-same
returns-else-same c =
    overlap_else _ _ _ _ _ _ _ _ _ _ _ _ (record { same = c.requires; fixed_a = c.fixed.ensures; fixed_b = c.fixed-2.ensures; digits_a = c.digits.ensures; digits_b = c.digits-2.ensures })
    c.and-fixed.ensures c.xor.ensures c.and-apart.ensures c.width.ensures.value c.filled.ensures c.same.ensures c.if-same.false
