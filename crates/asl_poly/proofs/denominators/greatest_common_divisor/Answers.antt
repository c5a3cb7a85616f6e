use Rattle.asl_poly.proofs.Divisors.{divisor_of_two}
use Rattle.asl_poly.proofs.denominators.greatest_common_divisor.Goals as goal

pub returns : goal.returns
returns c = divisor_of_two c.args.d c.args.e c.gcd.result c.requires c.gcd.ensures
