use Rattle.std.proofs.Common.{◌≡◌, take}
use Rattle.asl_run.proofs.assignments.shared_fields.Given as goal

abbrev pub invariant-loop-field : goal.invariant-loop-field
invariant-loop-field l = l.same ≡ take l.field-index l.fields
