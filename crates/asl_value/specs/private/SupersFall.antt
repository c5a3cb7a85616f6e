-- The trees below a name have fewer names.
use Rattle.std.specs.Prelude.{suc, ◌≤◌, max, length}
use Rattle.std.proofs.Common.{arith, length-append}
use Rattle.asl_value.specs.declared.supers.Below.{Below}
use Rattle.asl_value.specs.declared.supers.Below.TheVariants.{Nothing, Two}
use Rattle.asl_value.specs.declared.supers.Branch.TheDeep.{deep-Below}
use Rattle.asl_value.specs.private.Supers.{names_below}

pub less_below : (b : Below) → max (deep-Below b) 0 ≤ suc (length (names_below b))
less_below Nothing = omega arith
less_below (Two left right) = omega (arith, length-append left right)
