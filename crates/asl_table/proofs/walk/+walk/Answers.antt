use Rattle.std.proofs.Common.{◌≡◌, ◌++◌, map, sym, ap, ◌∙◌, subst}
use Rattle.asl_rules.specs.declarations.WrittenOut.{joined}
use Rattle.asl_rules.specs.report.MaskTables.{cases_in, case_at, tables_from}
use Rattle.asl_table.specs.private.Walk.{choice_of, inside, else_if_cases, catcher_cases, otherwise_cases}
use Rattle.asl_table.proofs.Appending.{three, one_more, on_ok, if_is, case_is, try_is}
use Rattle.asl_table.proofs.walk.+walk.Goals as goal

pub add_stmts-loop-stmt-preserved : goal.add_stmts-loop-stmt-preserved
add_stmts-loop-stmt-preserved t c =
    one_more cases_in c.args.stmts.now c.loop-stmt.stmt-index c.stmt-item.result c.loop-stmt.tables c.add_stmt.new.tables _
    c.loop-stmt-test.true c.stmt-item.is c.in_ok-add_stmt.ensures c.loop-stmt.invariant

pub add_else_ifs-loop-branch-preserved : goal.add_else_ifs-loop-branch-preserved
add_else_ifs-loop-branch-preserved t c =
    one_more else_if_cases c.args.branches.now c.loop-branch.branch-index c.branch-item.result c.loop-branch.tables c.add_else_if.new.tables _
    c.loop-branch-test.true c.branch-item.is c.in_ok-add_else_if.ensures c.loop-branch.invariant

pub add_alternatives-loop-alternative-preserved : goal.add_alternatives-loop-alternative-preserved
add_alternatives-loop-alternative-preserved t c =
    one_more inside c.args.alternatives.now c.loop-alternative.alternative-index c.alternative-item.result c.loop-alternative.tables
    c.add_alternative.new.tables _ c.loop-alternative-test.true c.alternative-item.is c.in_ok-add_alternative.ensures c.loop-alternative.invariant

pub add_catchers-loop-catcher-preserved : goal.add_catchers-loop-catcher-preserved
add_catchers-loop-catcher-preserved t c =
    one_more catcher_cases c.args.catchers.now c.loop-catcher.catcher-index c.catcher-item.result c.loop-catcher.tables c.add_catcher.new.tables _
    c.loop-catcher-test.true c.catcher-item.is c.in_ok-add_catcher.ensures c.loop-catcher.invariant

pub add_stmt-returns-in_ok-add_else_ifs-in-If : goal.add_stmt-returns-in_ok-add_else_ifs-in-If
add_stmt-returns-in_ok-add_else_ifs-in-If t c =
    on_ok c.add_stmts-in-If.result (λ h.
    subst (λ l. c.add_stmts-in-If.new.tables ≡ c.args.tables.now ++ tables_from l)
    (sym (ap cases_in c.in-If.is ∙ if_is c.in-If.field-0 c.in-If.field-1 c.in-If.first c.in-If.others c.in-If.last))
    (three c.args.tables.now c.add_stmts.new.tables c.add_else_ifs.new.tables c.add_stmts-in-If.new.tables (joined (map cases_in c.in-If.first))
    (joined (map else_if_cases c.in-If.others)) (joined (map cases_in c.in-If.last))
    (subst (λ l. c.add_stmts.new.tables ≡ c.args.tables.now ++ tables_from (joined (map cases_in l))) c.as_slice.ensures c.in_ok-add_stmts-in-If.ensures)
    (subst (λ l. c.add_else_ifs.new.tables ≡ c.add_stmts.new.tables ++ tables_from (joined (map else_if_cases l))) c.as_slice-in-If.ensures
    c.in_ok-add_else_ifs-in-If.ensures)
    (subst (λ l. c.add_stmts-in-If.new.tables ≡ c.add_else_ifs.new.tables ++ tables_from (joined (map cases_in l))) c.as_slice-in-If-2.ensures h)))
    c.add_stmts-in-If.ensures

pub add_stmt-returns-in_ok-add_alternatives-in-Case : goal.add_stmt-returns-in_ok-add_alternatives-in-Case
add_stmt-returns-in_ok-add_alternatives-in-Case t c =
    on_ok c.add_otherwise.result (λ h.
    subst (λ l. c.add_otherwise.new.tables ≡ c.args.tables.now ++ tables_from l)
    (sym (ap cases_in c.in-Case.is ∙ case_is c.in-Case.span c.in-Case.field-1 c.in-Case.alternatives c.in-Case.otherwise))
    (three c.args.tables.now c.push_case.new.tables c.add_alternatives.new.tables c.add_otherwise.new.tables
    (case_at c.in-Case.span (map choice_of c.in-Case.alternatives)) (joined (map inside c.in-Case.alternatives)) (otherwise_cases c.in-Case.otherwise)
    (subst (λ l. c.push_case.new.tables ≡ c.args.tables.now ++ tables_from (case_at c.in-Case.span (map choice_of l))) c.as_slice-in-Case.ensures
    c.in_ok-push_case-in-Case.ensures)
    (subst (λ l. c.add_alternatives.new.tables ≡ c.push_case.new.tables ++ tables_from (joined (map inside l))) c.as_slice-in-Case-2.ensures
    c.in_ok-add_alternatives-in-Case.ensures)
    h))
    c.add_otherwise.ensures

pub add_stmt-returns-in_ok-add_catchers-in-Try : goal.add_stmt-returns-in_ok-add_catchers-in-Try
add_stmt-returns-in_ok-add_catchers-in-Try t c =
    on_ok c.add_otherwise-in-Try.result (λ h.
    subst (λ l. c.add_otherwise-in-Try.new.tables ≡ c.args.tables.now ++ tables_from l)
    (sym (ap cases_in c.in-Try.is ∙ try_is c.in-Try.field-0 c.in-Try.body c.in-Try.catchers c.in-Try.otherwise))
    (three c.args.tables.now c.add_stmts-in-Try.new.tables c.add_catchers.new.tables c.add_otherwise-in-Try.new.tables
    (joined (map cases_in c.in-Try.body)) (joined (map catcher_cases c.in-Try.catchers)) (otherwise_cases c.in-Try.otherwise)
    (subst (λ l. c.add_stmts-in-Try.new.tables ≡ c.args.tables.now ++ tables_from (joined (map cases_in l))) c.as_slice-in-Try.ensures
    c.in_ok-add_stmts-in-Try.ensures)
    (subst (λ l. c.add_catchers.new.tables ≡ c.add_stmts-in-Try.new.tables ++ tables_from (joined (map catcher_cases l))) c.as_slice-in-Try-2.ensures
    c.in_ok-add_catchers-in-Try.ensures)
    h))
    c.add_otherwise-in-Try.ensures
