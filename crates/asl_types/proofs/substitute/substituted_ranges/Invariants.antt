use Rattle.std.proofs.Common.{◌≡◌, drop}
use Rattle.asl_rules.specs.types.Types.{substituted_ranges}
use Rattle.asl_types.proofs.SubstituteLemmas.{in_front}
use Rattle.asl_types.proofs.substitute.substituted_ranges.Given as goal

abbrev pub invariant-loop-part : goal.invariant-loop-part
invariant-loop-part l = in_front l.made.items (substituted_ranges l.by (drop l.part-index l.parts)) ≡ substituted_ranges l.by l.parts
