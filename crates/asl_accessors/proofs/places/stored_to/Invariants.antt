use Rattle.std.proofs.Common.{◌≡◌, drop}
use Rattle.asl_rules.specs.declarations.WrittenOut.{stored_to}
use Rattle.asl_accessors.proofs.places.stored_to.Given as goal

abbrev pub invariant-loop-suffix : goal.invariant-loop-suffix
invariant-loop-suffix l = stored_to l.name l.last (drop l.suffix-index l.suffixes) ≡ stored_to l.name l.end l.suffixes
