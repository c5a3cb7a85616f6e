use Rattle.std.proofs.Common.{◌≡◌, ◌++◌, drop}
use Rattle.asl_rules.specs.report.MaskTables.{cases_of, tables_from}
use Rattle.asl_table.proofs.walk.tables_in.Given as goal

abbrev pub invariant-loop-decl : goal.invariant-loop-decl
invariant-loop-decl l = l.tables ++ tables_from (cases_of (drop l.decl-index l.decls)) ≡ tables_from (cases_of l.decls)
