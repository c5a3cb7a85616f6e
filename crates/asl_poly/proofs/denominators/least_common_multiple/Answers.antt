use Rattle.std.proofs.Common.{◌*◌, ◌/◌, ◌∷◌, [], ap}
use Rattle.asl_poly.specs.Denominators.{least_common_multiple}
use Rattle.asl_poly.proofs.Divisors.{divisor_some}
use Rattle.asl_poly.proofs.denominators.least_common_multiple.Goals as goal

pub nonzero_div-result : goal.nonzero_div-result
nonzero_div-result c = rw c.greatest_common_divisor.ensures (divisor_some c.args.d (c.args.e ∷ []))

pub returns : goal.returns
unfolding least_common_multiple
returns c = ap (λ g. c.args.d * (c.args.e / g)) c.greatest_common_divisor.ensures
