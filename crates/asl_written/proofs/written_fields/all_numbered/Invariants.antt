use Rattle.std.proofs.Common.{◌≡◌, drop}
use Rattle.asl_written.specs.private.WrittenFields.{all_numbers, numbered_from, behind_numbers}
use Rattle.asl_written.proofs.written_fields.all_numbered.Given as goal

abbrev pub invariant-loop-f : goal.invariant-loop-f
invariant-loop-f l = numbered_from l.fields ≡ behind_numbers (all_numbers l.made) (numbered_from (drop l.f-index l.fields))
