use Rattle.std.proofs.Common.{◌≡◌, ◌++◌, drop, map}
use Rattle.asl_rules.specs.statements.Targets.{all_suffix_effects}
use Rattle.asl_rules.specs.Tests.{Tests}
use Rattle.asl_assignments.specs.private.TargetViews.{suffix_of}
use Rattle.asl_assignments.proofs.targets.push_all_effects.Given as goal

abbrev pub invariant-loop-x : goal.invariant-loop-x
invariant-loop-x l = (t : Tests) → l.effects ++ all_suffix_effects (map (suffix_of t) (drop l.x-index l.suffixes)) ≡ l.fn.effects ++ all_suffix_effects (map (suffix_of t) l.suffixes)
