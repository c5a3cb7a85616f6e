use Rattle.std.proofs.Common.{◌≡◌, drop}
use Rattle.asl_rules.specs.types.Writing as rules
use Rattle.asl_written.specs.private.WrittenFields.{all_numbers, behind_places}
use Rattle.asl_written.proofs.written_fields.all_placed.Given as goal

abbrev pub invariant-loop-f : goal.invariant-loop-f
invariant-loop-f l = rules.all_placed l.span l.width (all_numbers l.fields) ≡ behind_places l.made (rules.all_placed l.span l.width (all_numbers (drop l.f-index l.fields)))
