use Rattle.std.proofs.Common.{◌≡◌, ◌++◌, drop, map, Ok}
use Rattle.asl_rules.specs.Faults.{◌>>=◌}
use Rattle.asl_rules.specs.statements.Targets.{typed_suffixes}
use Rattle.asl_rules.specs.Tests.{Tests}
use Rattle.asl_types.specs.Suits.{Suits}
use Rattle.asl_assignments.specs.private.TargetViews.{suffix_of}
use Rattle.asl_blocks.specs.private.Views.{body_of}
use Rattle.asl_assignments.proofs.suffixes.type_suffixes.Given as goal

abbrev pub invariant-loop-x : goal.invariant-loop-x
invariant-loop-x l = (t : Tests) → Suits t →
    (typed_suffixes t l.name (drop l.x-index l.suffixes) (body_of l.names l.body).scope >>= λ ys. Ok (map (suffix_of t) l.typed.items ++ ys)) ≡ typed_suffixes t l.name l.suffixes (body_of l.names l.body).scope
