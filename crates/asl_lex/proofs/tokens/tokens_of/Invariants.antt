use Rattle.std.proofs.Common.{length}
use Rattle.asl_grammar.specs.lexemes.Refusals.{max_width}
use Rattle.asl_grammar.specs.lexemes.Tokens.{Front, scan_of}
use Rattle.asl_lex.proofs.tokens.tokens_of.Given as goal

abbrev pub invariant-tokens : goal.invariant-tokens
invariant-tokens l = Front (scan_of max_width l.file l.bytes) l.tokens.items l.lexer

abbrev pub decreases-tokens : goal.decreases-tokens
decreases-tokens l = length l.lexer.rest
