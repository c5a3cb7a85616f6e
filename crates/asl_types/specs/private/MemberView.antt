-- The parts of types by their names, as the rules see them.
use Rattle.asl_rules.specs.values.Members as rules
use Rattle.asl_types.specs.declared.members.Member.{Member}
use Rattle.asl_types.specs.declared.members.Member.TheVariants.{Field, Bitfield}

abbrev pub member_view : Member → rules.Member
member_view (Field n T) = rules.a_field n T.now
member_view (Bitfield f) = rules.a_bitfield f.now
