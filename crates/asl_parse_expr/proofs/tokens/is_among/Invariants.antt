use Rattle.std.proofs.Common.{◌≡◌, drop}
use Rattle.asl_grammar.specs.grammar.Cursor.{among}
use Rattle.asl_parse_expr.proofs.tokens.is_among.Given as goal

abbrev pub invariant-loop-one : goal.invariant-loop-one
invariant-loop-one l = among (drop l.one-index l.kinds) l.kind ≡ among l.kinds l.kind
