use Rattle.std.proofs.Common.{◌≡◌, ◌++◌, drop, map}
use Rattle.asl_rules.specs.statements.Targets.{place_effects}
use Rattle.asl_rules.specs.Tests.{Tests}
use Rattle.asl_assignments.specs.private.TargetViews.{place_of}
use Rattle.asl_assignments.proofs.targets.effects_in.Given as goal

abbrev pub invariant-loop-place : goal.invariant-loop-place
invariant-loop-place l = (t : Tests) → l.effects ++ place_effects (map (place_of t) (drop l.place-index l.places)) ≡ place_effects (map (place_of t) l.places)
