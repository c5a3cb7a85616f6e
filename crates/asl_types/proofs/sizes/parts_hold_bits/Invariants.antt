use Rattle.std.proofs.Common.{◌≡◌, drop}
use Rattle.asl_rules.specs.private.HoldsBits as bits
use Rattle.asl_types.specs.View.{parts_of}
use Rattle.asl_types.proofs.sizes.parts_hold_bits.Given as goal

abbrev pub invariant-loop-part : goal.invariant-loop-part
invariant-loop-part l = bits.parts_hold_bits (parts_of (drop l.part-index l.parts)) ≡ bits.parts_hold_bits (parts_of l.parts)
