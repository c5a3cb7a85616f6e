-- What is printed, as the rules see it.
use Rattle.asl_rules.specs.statements.Stmts as rules
use Rattle.asl_tree.specs.Acts.{all_items}
use Rattle.asl_simple.specs.declared.prints.Printed.{Printed}

abbrev pub printed_of : Printed → rules.Printed
printed_of p = rules.printed p.effects (all_items p.items)
