-- Declarations that don't reach themselves.
use Rattle.std.specs.Prelude.{List, [], Result}
use Rattle.asl_syn.specs.declared.code.Fault.{Fault}
use Rattle.asl_rules.specs.Faults.{◌>>◌}
use Rattle.asl_rules.specs.declarations.Names.{names_rule, all_declared}
use Rattle.asl_syn.specs.declared.tree.Ident.{Ident}
use Rattle.asl_syn.specs.declared.tree.Decl.{Decl}
use Rattle.asl_syn.specs.declared.tree.Decl.TheVariants as dc
use Rattle.asl_rules.specs.declarations.Uses.{cycles_rule}

abbrev pub name_of : Decl → Ident
name_of (dc.Type d) = d.name
name_of (dc.Storage d) = d.name
name_of (dc.Func f) = f.name

-- names first, and then declarations that reach themselves
abbrev pub order_rule : List Decl → Result (Unit {0}) Fault
order_rule ds = names_rule [] (all_declared ds) >> cycles_rule ds ds
