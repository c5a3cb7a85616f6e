use Rattle.std.proofs.Common.{◌≡◌, ◌++◌, drop}
use Rattle.asl_copy.proofs.stmts.+stmt_copies.Given as goal

abbrev pub invariant-copy_stmts-loop-item : goal.invariant-copy_stmts-loop-item
invariant-copy_stmts-loop-item l = l.copies ++ drop l.item-index l.items ≡ l.items

abbrev pub invariant-copy_else_ifs-loop-item : goal.invariant-copy_else_ifs-loop-item
invariant-copy_else_ifs-loop-item l = l.copies ++ drop l.item-index l.items ≡ l.items

abbrev pub invariant-copy_alternatives-loop-item : goal.invariant-copy_alternatives-loop-item
invariant-copy_alternatives-loop-item l = l.copies ++ drop l.item-index l.items ≡ l.items

abbrev pub invariant-copy_catchers-loop-item : goal.invariant-copy_catchers-loop-item
invariant-copy_catchers-loop-item l = l.copies ++ drop l.item-index l.items ≡ l.items
