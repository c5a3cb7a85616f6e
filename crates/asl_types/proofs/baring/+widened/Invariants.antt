use Rattle.std.proofs.Common.{◌≡◌, map, take}
use Rattle.asl_rules.specs.types.Types.{widened}
use Rattle.asl_types.proofs.baring.+widened.Given as goal

abbrev pub invariant-widened_parts-loop-part : goal.invariant-widened_parts-loop-part
invariant-widened_parts-loop-part l = l.wide ≡ map widened (take l.part-index l.parts)
