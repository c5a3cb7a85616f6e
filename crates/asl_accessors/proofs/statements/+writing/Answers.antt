use Rattle.std.proofs.Common.{arith}
use Rattle.std.proofs.lemmas.Grind.{common_steps}
use denote.Param.Weighed.{most-append}
use Rattle.asl_accessors.proofs.Depths.{most_reverse}
use Rattle.asl_accessors.proofs.statements.+writing.Goals as goal

pub write_stmts-loop-stmt-init : goal.write_stmts-loop-stmt-init
write_stmts-loop-stmt-init t c =
    record { whole = grind (arith, common_steps); depth = rw (c.in_ok-rest.ensures, most_reverse) (omega arith) }

pub write_stmts-loop-stmt-preserved : goal.write_stmts-loop-stmt-preserved
write_stmts-loop-stmt-preserved t c =
    record { whole = grind (arith, common_steps); depth = grind (arith, common_steps, most-append) }

pub write_else_ifs-loop-branch-init : goal.write_else_ifs-loop-branch-init
write_else_ifs-loop-branch-init t c =
    record { whole = grind (arith, common_steps); depth = rw (c.in_ok-rest.ensures, most_reverse) (omega arith) }

pub write_else_ifs-loop-branch-preserved : goal.write_else_ifs-loop-branch-preserved
write_else_ifs-loop-branch-preserved t c =
    record { whole = grind (arith, common_steps); depth = grind (arith, common_steps, most-append) }

pub write_alternatives-loop-alternative-init : goal.write_alternatives-loop-alternative-init
write_alternatives-loop-alternative-init t c =
    record { whole = grind (arith, common_steps); depth = rw (c.in_ok-rest.ensures, most_reverse) (omega arith) }

pub write_alternatives-loop-alternative-preserved : goal.write_alternatives-loop-alternative-preserved
write_alternatives-loop-alternative-preserved t c =
    record { whole = grind (arith, common_steps); depth = grind (arith, common_steps, most-append) }

pub write_catchers-loop-catcher-init : goal.write_catchers-loop-catcher-init
write_catchers-loop-catcher-init t c =
    record { whole = grind (arith, common_steps); depth = rw (c.in_ok-rest.ensures, most_reverse) (omega arith) }

pub write_catchers-loop-catcher-preserved : goal.write_catchers-loop-catcher-preserved
write_catchers-loop-catcher-preserved t c =
    record { whole = grind (arith, common_steps); depth = grind (arith, common_steps, most-append) }
