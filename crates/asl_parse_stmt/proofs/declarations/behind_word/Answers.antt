use Rattle.std.proofs.Common.{rules, arith}
use Rattle.std.proofs.lemmas.Grind.{common_steps}
use Rattle.asl_parse_expr.specs.private.Code.{cursor_of}
use Rattle.asl_parse_stmt.proofs.Steps.{behind_word_is}
use Rattle.asl_parse_stmt.proofs.declarations.behind_word.Goals as goal

pub returns-then-starts : goal.returns-then-starts
returns-then-starts c =
    let e = behind_word_is c.args.depth (cursor_of c.args.tokens.now) in
    first_of (search rules, grind (arith, common_steps))

pub returns-else-starts : goal.returns-else-starts
returns-else-starts c =
    let e = behind_word_is c.args.depth (cursor_of c.args.tokens.now) in
    first_of (search rules, grind (arith, common_steps))
