use Rattle.std.proofs.Common.{◌≡◌, ◌++◌, false, drop}
use Rattle.asl_rules.specs.declarations.Keys.{digits_in}
use Rattle.asl_accessors.proofs.keys.digits_of.Given as goal

abbrev pub invariant-loop-byte : goal.invariant-loop-byte
invariant-loop-byte l = l.digits.items ++ digits_in l.is_free (drop l.byte-index l.text) ≡ digits_in false l.text
