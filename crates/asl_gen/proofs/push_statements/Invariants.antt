use Rattle.std.proofs.Common.{◌≡◌, ◌*◌, ◌++◌}
use Rattle.asl_rules.specs.report.Made.{drawn, statements}
use Rattle.asl_gen.proofs.push_statements.Given as goal

abbrev pub invariant-loop-before : goal.invariant-loop-before
invariant-loop-before l = record {
  drawn_so_far : l.last ≡ drawn l.number (2 * l.before);
  added : l.text.items ≡ l.fn.text.items ++ statements l.number l.before;
}
