use Rattle.std.proofs.Common.{◌≡◌, ◌++◌, drop, map, Ok}
use Rattle.asl_rules.specs.Faults.{◌>>=◌}
use Rattle.asl_rules.specs.statements.Targets.{found_target, all_places}
use Rattle.asl_rules.specs.Tests.{Tests}
use Rattle.asl_types.specs.Suits.{Suits}
use Rattle.asl_assignments.specs.private.TargetViews.{place_of}
use Rattle.asl_blocks.specs.private.Views.{body_of}
use Rattle.asl_blocks.specs.private.Walks.{led}
use Rattle.asl_assignments.proofs.targets.+places.Given as goal

abbrev pub invariant-type_targets-loop-part : goal.invariant-type_targets-loop-part
invariant-type_targets-loop-part l = (t : Tests) → Suits t →
    (all_places l.part (map (found_target t) (drop l.part l.targets)) (body_of l.names l.body).scope >>= λ ps. Ok (map (place_of t) l.places.items ++ led l.way ps))
    ≡ (all_places 0 (map (found_target t) l.targets) (body_of l.names l.body).scope >>= λ ps. Ok (map (place_of t) l.fn.places.items ++ led l.way ps))
