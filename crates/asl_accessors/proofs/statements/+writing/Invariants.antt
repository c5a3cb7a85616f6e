use Rattle.std.proofs.Common.{◌≡◌, ◌≤◌, ◌++◌, map, reverse, length}
use denote.Param.Weighed.{most}
use Rattle.asl_syn.specs.declared.read.ReadStmt.{size-ReadStmt}
use Rattle.asl_syn.specs.declared.read.ReadElseIf.{size-ReadElseIf}
use Rattle.asl_syn.specs.declared.read.ReadAlternative.{size-ReadAlternative}
use Rattle.asl_syn.specs.declared.read.ReadCatcher.{size-ReadCatcher}
use Rattle.asl_rules.specs.declarations.WrittenOut.{joined, stmt_written, else_if_written, alternative_written, catcher_written, list_written}
use Rattle.asl_accessors.proofs.statements.+writing.Given as goal

-- what is written and what is left make the whole, and what is left is no deeper than the whole was
abbrev pub invariant-write_stmts-loop-stmt : goal.invariant-write_stmts-loop-stmt
invariant-write_stmts-loop-stmt l = record {
  whole : l.written ++ joined (map stmt_written (reverse l.rest)) ≡ list_written l.fn.stmts;
  depth : most size-ReadStmt l.rest ≤ most size-ReadStmt l.fn.stmts;
}

abbrev pub decreases-write_stmts-loop-stmt : goal.decreases-write_stmts-loop-stmt
decreases-write_stmts-loop-stmt l = length l.rest

abbrev pub invariant-write_else_ifs-loop-branch : goal.invariant-write_else_ifs-loop-branch
invariant-write_else_ifs-loop-branch l = record {
  whole : l.written ++ map else_if_written (reverse l.rest) ≡ map else_if_written l.fn.branches;
  depth : most size-ReadElseIf l.rest ≤ most size-ReadElseIf l.fn.branches;
}

abbrev pub decreases-write_else_ifs-loop-branch : goal.decreases-write_else_ifs-loop-branch
decreases-write_else_ifs-loop-branch l = length l.rest

abbrev pub invariant-write_alternatives-loop-alternative : goal.invariant-write_alternatives-loop-alternative
invariant-write_alternatives-loop-alternative l = record {
  whole : l.written ++ map alternative_written (reverse l.rest) ≡ map alternative_written l.fn.alternatives;
  depth : most size-ReadAlternative l.rest ≤ most size-ReadAlternative l.fn.alternatives;
}

abbrev pub decreases-write_alternatives-loop-alternative : goal.decreases-write_alternatives-loop-alternative
decreases-write_alternatives-loop-alternative l = length l.rest

abbrev pub invariant-write_catchers-loop-catcher : goal.invariant-write_catchers-loop-catcher
invariant-write_catchers-loop-catcher l = record {
  whole : l.written ++ map catcher_written (reverse l.rest) ≡ map catcher_written l.fn.catchers;
  depth : most size-ReadCatcher l.rest ≤ most size-ReadCatcher l.fn.catchers;
}

abbrev pub decreases-write_catchers-loop-catcher : goal.decreases-write_catchers-loop-catcher
decreases-write_catchers-loop-catcher l = length l.rest
