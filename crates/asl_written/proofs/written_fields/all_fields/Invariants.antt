use Rattle.std.proofs.Common.{◌≡◌, drop, Ok}
use Rattle.asl_rules.specs.Faults.{◌>>=◌}
use Rattle.asl_rules.specs.Tests.{Tests}
use Rattle.asl_rules.specs.types.Writing as rules
use Rattle.asl_subprograms.specs.private.ContextView.{scope_of}
use Rattle.asl_written.specs.private.WrittenFields.{found_bitfields, fields_view, fields_seen, behind_fields}
use Rattle.asl_written.proofs.written_fields.all_fields.Given as goal

abbrev pub invariant-loop-f : goal.invariant-loop-f
invariant-loop-f l = (t : Tests) →
    (rules.all_fields (found_bitfields t l.fields) (scope_of l.context) >>= λ fs. Ok (fields_seen fs)) ≡ behind_fields (fields_view l.made) (rules.all_fields (found_bitfields t (drop l.f-index l.fields)) (scope_of l.context))
