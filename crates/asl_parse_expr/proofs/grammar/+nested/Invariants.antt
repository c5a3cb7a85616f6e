use Rattle.asl_parse_expr.proofs.grammar.+nested.Given as goal

abbrev pub decreases-nested : goal.decreases-nested
decreases-nested l = l.depth
