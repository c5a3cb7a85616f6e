use Rattle.std.proofs.Common.{◌≡◌, false, arith}
use Rattle.asl_rules.specs.values.Library.{all_equal}
use Rattle.asl_rules.specs.values.Operators.{same_bool}
use Rattle.asl_shape.proofs.LibraryBits.{equal_off}
use Rattle.asl_shape.proofs.library.all_equal.Goals as goal

pub returns-then-not-is_same : goal.returns-then-not-is_same
returns-then-not-is_same c =
    let other : same_bool c.bit.result c.args.bit ≡ false = grind arith in
    equal_off c.args.bits.now c.loop-place.place c.bit.result c.args.bit (all_equal c.args.bit c.args.bits.now) c.bit.ensures other c.loop-place.invariant
