use Rattle.std.proofs.Common.{◌≡◌, ◌<◌, ◌≤◌, ◌^◌, drop}
use Rattle.asl_poly.specs.Substitute.{common_denominator_from, common_denominator}
use Rattle.asl_poly.proofs.poly.substitute.common_denominator_within.Given as goal

abbrev pub invariant-loop-t : goal.invariant-loop-t
invariant-loop-t l = (common_denominator_from l.by l.n (drop l.t-index l.ts) ≡ common_denominator l.by l.ts) × (0 < l.n) × (l.n ≤ 2 ^ 16)
