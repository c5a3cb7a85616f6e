use Rattle.std.proofs.Common.{◌≡◌, drop}
use Rattle.asl_grammar.specs.grammar.Build.{last_end}
use Rattle.asl_parse_stmt.proofs.targets.last_end.Given as goal

abbrev pub invariant-loop-suffix : goal.invariant-loop-suffix
invariant-loop-suffix l = last_end l.end (drop l.suffix-index l.suffixes) ≡ last_end l.start l.suffixes
