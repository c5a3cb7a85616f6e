use Rattle.std.proofs.Common.{◌≡◌, drop}
use Rattle.asl_rules.specs.values.Members.{bitfield_in}
use Rattle.asl_types.proofs.members.bitfield_among.Given as goal

abbrev pub invariant-loop-field : goal.invariant-loop-field
invariant-loop-field l = bitfield_in l.name (drop l.field-index l.view) ≡ bitfield_in l.name l.view
