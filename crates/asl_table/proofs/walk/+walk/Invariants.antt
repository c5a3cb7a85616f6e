use Rattle.std.proofs.Common.{◌≡◌, ◌++◌, drop, map}
use Rattle.asl_rules.specs.declarations.WrittenOut.{joined}
use Rattle.asl_rules.specs.report.MaskTables.{cases_in, tables_from}
use Rattle.asl_table.specs.private.Walk.{inside, else_if_cases, catcher_cases}
use Rattle.asl_table.proofs.walk.+walk.Given as goal

abbrev pub invariant-add_stmts-loop-stmt : goal.invariant-add_stmts-loop-stmt
invariant-add_stmts-loop-stmt l =
    l.tables ++ tables_from (joined (map cases_in (drop l.stmt-index l.stmts))) ≡ l.fn.tables ++ tables_from (joined (map cases_in l.stmts))

abbrev pub invariant-add_else_ifs-loop-branch : goal.invariant-add_else_ifs-loop-branch
invariant-add_else_ifs-loop-branch l =
    l.tables ++ tables_from (joined (map else_if_cases (drop l.branch-index l.branches))) ≡ l.fn.tables ++ tables_from (joined (map else_if_cases l.branches))

abbrev pub invariant-add_alternatives-loop-alternative : goal.invariant-add_alternatives-loop-alternative
invariant-add_alternatives-loop-alternative l =
    l.tables ++ tables_from (joined (map inside (drop l.alternative-index l.alternatives)))
    ≡ l.fn.tables ++ tables_from (joined (map inside l.alternatives))

abbrev pub invariant-add_catchers-loop-catcher : goal.invariant-add_catchers-loop-catcher
invariant-add_catchers-loop-catcher l =
    l.tables ++ tables_from (joined (map catcher_cases (drop l.catcher-index l.catchers))) ≡ l.fn.tables ++ tables_from (joined (map catcher_cases l.catchers))
