-- The entries of a program, as the rules see them.
use Rattle.asl_rules.specs.declarations.Programs as rules
use Rattle.asl_decl.specs.declared.entry.Entries.{Entries}

abbrev pub entries_of : Entries → rules.Entries
entries_of n = rules.entries n.main n.entry16
