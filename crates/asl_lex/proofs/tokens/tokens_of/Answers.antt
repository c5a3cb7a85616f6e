use Rattle.asl_grammar.specs.lexemes.Refusals.{max_width}
use Rattle.asl_grammar.specs.lexemes.Tokens.{scan_of}
use Rattle.asl_grammar.proofs.lexemes.Fronts.{Front_more, yields_of}
use Rattle.asl_grammar.proofs.lexemes.OneReading.{yields_shorter}
use Rattle.asl_lex.proofs.tokens.tokens_of.Goals as goal

pub tokens-smaller : goal.tokens-smaller
tokens-smaller c =
    yields_shorter c.tokens.lexer c.next.new.self c.in-Ok-Some.token
    (yields_of c.tokens.lexer c.next.new.self c.in-Ok-Some.field-0 c.in-Ok-Some.token c.in-Ok-Some.field-0-is c.in-Ok-Some.ensures)

pub tokens-preserved : goal.tokens-preserved
tokens-preserved c =
    let yields = yields_of c.tokens.lexer c.next.new.self c.in-Ok-Some.field-0 c.in-Ok-Some.token c.in-Ok-Some.field-0-is c.in-Ok-Some.ensures in
    rw c.in_ok-push-in-Ok-Some.ensures.items
    (Front_more (scan_of max_width c.args.file c.args.bytes.now) c.tokens.lexer c.next.new.self c.tokens.tokens.items c.in-Ok-Some.token c.tokens.invariant yields)
