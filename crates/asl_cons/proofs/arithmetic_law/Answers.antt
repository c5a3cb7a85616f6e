use Rattle.asl_cons.proofs.Results.{sum_in, difference_in}
use Rattle.asl_cons.proofs.Products.{product_in, modulo_in, quotient_in, shifted_up_in, shifted_down_in}
use Rattle.asl_cons.proofs.arithmetic_law.Goals as goal

pub returns-clause-sum : goal.returns-clause-sum
returns-clause-sum c = sum_in

pub returns-clause-difference : goal.returns-clause-difference
returns-clause-difference c = difference_in

pub returns-clause-product : goal.returns-clause-product
returns-clause-product c = product_in

pub returns-clause-remainder : goal.returns-clause-remainder
returns-clause-remainder c = modulo_in

pub returns-clause-quotient : goal.returns-clause-quotient
returns-clause-quotient c = quotient_in

pub returns-clause-shifted_up : goal.returns-clause-shifted_up
returns-clause-shifted_up c = shifted_up_in

pub returns-clause-shifted_down : goal.returns-clause-shifted_down
returns-clause-shifted_down c = shifted_down_in
