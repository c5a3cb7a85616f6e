use Rattle.std.proofs.Common.{◌≡◌, ◌∙◌, ◌+◌, ◌<◌, drop, ap, arith}
use Rattle.asl_poly.specs.Substitute.{factors_denominator, common_denominator_from, common_denominator}
use Rattle.asl_poly.proofs.Divisors.{multiple_some}
use Rattle.asl_poly.proofs.Substitution.{length_at, raised_next, from_most}
use Rattle.asl_poly.proofs.poly.substitute.common_denominator_within.Goals as goal

pub factors_denominator-m-requires-clause-short : goal.factors_denominator-m-requires-clause-short
factors_denominator-m-requires-clause-short c =
    rw c.atoms.ensures (omega (arith, length_at c.args.ts.now c.loop-t.t-index c.t-item.result (omega arith) c.t-item.is, c.requires.low))

pub returns-then-n-gt-FINEST : goal.returns-then-n-gt-FINEST
returns-then-n-gt-FINEST c =
    let e : common_denominator_from c.args.by.now c.least_common_multiple-n.result (drop (c.loop-t.t-index + 1)
    c.args.ts.now) ≡ common_denominator c.args.by.now c.args.ts.now =
    raised_next c.args.by.now c.args.ts.now c.t-item.result c.loop-t.t-index c.loop-t.n c.factors_denominator-m.result
    c.least_common_multiple-n.result (common_denominator c.args.by.now c.args.ts.now) (omega arith) c.t-item.is
    (c.factors_denominator-m.ensures.is
    ∙ ap (λ xs. factors_denominator c.args.by.now xs) c.atoms.ensures) c.least_common_multiple-n.ensures c.loop-t.invariant.0 in
    let p : 0 < c.least_common_multiple-n.result = rw c.least_common_multiple-n.ensures
    (multiple_some c.loop-t.n c.factors_denominator-m.result c.loop-t.invariant.1 c.factors_denominator-m.ensures.some) in
    omega (
      arith,
      e,
      from_most c.args.by.now c.requires.fine c.least_common_multiple-n.result
          (drop (c.loop-t.t-index + 1) c.args.ts.now) p,
      c.if-n-gt-FINEST.true,
    )

pub loop-t-preserved : goal.loop-t-preserved
loop-t-preserved c = (
  raised_next c.args.by.now c.args.ts.now c.t-item.result c.loop-t.t-index c.loop-t.n c.factors_denominator-m.result
      c.least_common_multiple-n.result (common_denominator c.args.by.now c.args.ts.now) (omega arith) c.t-item.is
      (c.factors_denominator-m.ensures.is
      ∙ ap (λ xs. factors_denominator c.args.by.now xs) c.atoms.ensures) c.least_common_multiple-n.ensures c.loop-t.invariant.0,
  rw c.least_common_multiple-n.ensures
      (multiple_some c.loop-t.n c.factors_denominator-m.result c.loop-t.invariant.1 c.factors_denominator-m.ensures.some),
  omega (arith, c.if-n-gt-FINEST.false),
)
