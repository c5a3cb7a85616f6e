use Rattle.std.proofs.Common.{rules}
use Rattle.asl_lex.proofs.Faults.{unclosed_here, large_here, refused_here}
use Rattle.asl_lex.proofs.lexer.Lexer.read.Goals as goal

pub returns-then-opens_block : goal.returns-then-opens_block
returns-then-opens_block c = unclosed_here _ c.args.self.now c.self.view_is c.fault.result c.fault.ensures (search rules)

pub returns-in-TooLarge : goal.returns-in-TooLarge
returns-in-TooLarge c =
    let found = c.in-TooLarge.ensures in
    large_here _ c.args.self.now c.self.view_is c.fault-in-TooLarge.result c.in-TooLarge.len found.0 c.fault-in-TooLarge.ensures found.1 found.2

pub returns-in-Some : goal.returns-in-Some
returns-in-Some c =
    refused_here _ c.args.self.now c.self.view_is c.fault-in-Some.result c.in-Some.code c.in-Lexeme.len c.in-Lexeme.kind c.fault-in-Some.ensures c.in-Lexeme.ensures.0 (search rules)
