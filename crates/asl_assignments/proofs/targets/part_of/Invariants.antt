use Rattle.std.proofs.Common.{◌≡◌, drop, Some}
use Rattle.asl_rules.specs.statements.Targets.{part_of}
use Rattle.asl_assignments.proofs.targets.part_of.Given as goal

abbrev pub invariant-loop-number : goal.invariant-loop-number
invariant-loop-number l = part_of (drop l.number-index l.way) (Some l.reached) ≡ part_of l.way (Some l.ty)
