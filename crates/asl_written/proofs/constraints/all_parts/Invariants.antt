use Rattle.std.proofs.Common.{◌≡◌, drop, Ok}
use Rattle.asl_rules.specs.Faults.{◌>>=◌}
use Rattle.asl_rules.specs.Tests.{Tests}
use Rattle.asl_rules.specs.types.Writing as rules
use Rattle.asl_subprograms.specs.private.ContextView.{scope_of}
use Rattle.asl_written.specs.private.Constraints.{found_parts, gathered_view, gathered, behind_parts}
use Rattle.asl_written.proofs.constraints.all_parts.Given as goal

abbrev pub invariant-loop-p : goal.invariant-loop-p
invariant-loop-p l = (t : Tests) →
    (rules.all_parts (found_parts t l.parts) (scope_of l.context) >>= λ qs. Ok (gathered qs)) ≡ behind_parts (gathered_view l.made) (rules.all_parts (found_parts t (drop l.p-index l.parts)) (scope_of l.context))
