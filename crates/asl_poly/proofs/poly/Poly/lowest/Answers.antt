use Rattle.std.proofs.Common.{◌/◌, ◌∙◌, ap, refl, arith}
use Rattle.asl_poly.specs.Denominators.{greatest_common_divisor, divided, sizes}
use Rattle.asl_poly.proofs.Divisors.{divisor_some, divisor_divides, divides_le}
use Rattle.asl_poly.proofs.Made.{lowest_within}
use Rattle.asl_poly.proofs.poly.Poly.lowest.Goals as goal

pub divided-requires-clause-some : goal.divided-requires-clause-some
divided-requires-clause-some c = rw c.common_divisor-k.ensures (divisor_some c.args.d (sizes c.deref.result.now))

pub divided-requires-clause-few : goal.divided-requires-clause-few
divided-requires-clause-few c =
    rw c.common_divisor-k.ensures (omega (
      arith,
      divides_le (greatest_common_divisor c.args.d
          (sizes c.deref.result.now)) c.args.d c.requires.some (divisor_divides c.args.d (sizes c.deref.result.now)).0,
      c.requires.fine,
    ))

pub nonzero_div-result : goal.nonzero_div-result
nonzero_div-result c = rw c.common_divisor-k.ensures (divisor_some c.args.d (sizes c.deref.result.now))

pub invariant_of-result : goal.invariant_of-result
invariant_of-result c =
    lowest_within c.args.terms.items c.in_ok-terms.terms.items c.args.d c.common_divisor-k.result
    (c.args.d / c.common_divisor-k.result) c.requires.map c.requires.some c.requires.fine
    (c.common_divisor-k.ensures ∙ ap (λ xs. greatest_common_divisor c.args.d (sizes xs)) c.deref.ensures.value)
    (c.in_ok-terms.ensures ∙ ap (λ xs. divided c.common_divisor-k.result xs) c.deref-2.ensures.value) refl
