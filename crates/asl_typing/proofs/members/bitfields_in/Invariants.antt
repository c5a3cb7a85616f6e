use Rattle.std.proofs.Common.{◌≡◌, drop}
use Rattle.asl_rules.specs.values.Members as rules
use Rattle.asl_typing.specs.private.FoundMembers.{behind_bitfields}
use Rattle.asl_typing.proofs.members.bitfields_in.Given as goal

abbrev pub invariant-loop-name : goal.invariant-loop-name
invariant-loop-name l = rules.bitfields_in l.names l.view ≡ behind_bitfields l.fields (rules.bitfields_in (drop l.name-index l.names) l.view)
