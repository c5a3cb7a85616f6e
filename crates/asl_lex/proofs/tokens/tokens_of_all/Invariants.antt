use Rattle.std.proofs.Common.{map, take}
use Rattle.asl_grammar.specs.lexemes.Refusals.{max_width}
use Rattle.asl_grammar.specs.lexemes.Files.{AllTokens}
use Rattle.asl_lex.proofs.tokens.tokens_of_all.Given as goal

abbrev pub invariant-loop-number : goal.invariant-loop-number
invariant-loop-number l = AllTokens max_width 0 (take l.number (map (λ s. s.bytes.items) l.files)) (map (λ ts. ts.items) l.all.items)
