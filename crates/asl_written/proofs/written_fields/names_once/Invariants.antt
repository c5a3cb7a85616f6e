use Rattle.std.proofs.Common.{◌≡◌, drop, []}
use Rattle.asl_rules.specs.types.Writing as rules
use Rattle.asl_written.proofs.NameLemmas.{names_of}
use Rattle.asl_written.proofs.written_fields.names_once.Given as goal

abbrev pub invariant-loop-place : goal.invariant-loop-place
invariant-loop-place l = rules.names_once l.view [] ≡ rules.names_once (drop l.place l.view) (names_of l.firsts)
