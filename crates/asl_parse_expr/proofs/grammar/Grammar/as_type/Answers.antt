use Rattle.std.proofs.Common.{rules, arith}
use Rattle.std.proofs.lemmas.Grind.{common_steps}
use Rattle.asl_parse_expr.specs.private.Code.{cursor_of}
use Rattle.asl_parse_expr.proofs.Steps.{as_type_is}
use Rattle.asl_parse_expr.proofs.grammar.Grammar.as_type.Goals as goal

pub returns-then-starts : goal.returns-then-starts
returns-then-starts g c =
    let e = as_type_is c.args.self.now.depth (cursor_of c.args.tokens.now) in
    first_of (search rules, grind (arith, common_steps))

pub returns-else-starts : goal.returns-else-starts
returns-else-starts g c =
    let e = as_type_is c.args.self.now.depth (cursor_of c.args.tokens.now) in
    first_of (search rules, grind (arith, common_steps))
