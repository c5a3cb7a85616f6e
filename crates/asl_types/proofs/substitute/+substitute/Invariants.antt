use Rattle.std.proofs.Common.{◌≡◌, drop}
use Rattle.asl_rules.specs.types.Types.{substitute_parts}
use Rattle.asl_types.specs.View.{parts_of}
use Rattle.asl_types.proofs.SubstituteLemmas.{parts_in_front}
use Rattle.asl_types.proofs.substitute.+substitute.Given as goal

abbrev pub invariant-substitute_parts-loop-part : goal.invariant-substitute_parts-loop-part
invariant-substitute_parts-loop-part l = parts_in_front l.made (substitute_parts l.by (parts_of (drop l.part-index l.parts))) ≡ substitute_parts l.by (parts_of l.parts)
