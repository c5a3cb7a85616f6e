-- What declarations find, as the rules see it.
use Rattle.asl_rules.specs.statements.Locals as rules
use Rattle.asl_tree.specs.View.{typed_of}
use Rattle.asl_simple.specs.declared.locals.Initialised.{Initialised}

abbrev pub initialised_of : Initialised → rules.Initialised
initialised_of d = rules.initialised_with d.written (typed_of d.value)
