-- The uses of names of the rules that those of the code stand for.
use Rattle.std.specs.Prelude.{List, map}
use Rattle.asl_rules.specs.declarations.UsedNames as rules
use Rattle.asl_names.specs.declared.name_use.Use.{Use}
use Rattle.asl_names.specs.declared.name_use.Use.TheVariants as n

abbrev pub use_of : Use → rules.Use
use_of (n.Value span name) = rules.of_value span name.now
use_of (n.Subprogram span name) = rules.of_subprogram span name.now
use_of (n.Type name) = rules.of_type name.now

abbrev pub all_uses : List Use → rules.Uses
all_uses us = map use_of us
