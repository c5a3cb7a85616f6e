use Rattle.std.proofs.Common.{rules, arith}
use Rattle.std.proofs.lemmas.Grind.{common_steps}
use Rattle.asl_parse_expr.specs.private.Code.{cursor_of}
use Rattle.asl_parse_expr.proofs.Tails.{logic_rest_on}
use Rattle.asl_parse_expr.proofs.grammar.Grammar.logic_rest.Goals as goal

pub returns-then-not-starts : goal.returns-then-not-starts
returns-then-not-starts g c =
    let e = logic_rest_on c.args.self.now.depth c.args.from c.args.left (cursor_of c.args.tokens.now) in
    first_of (search rules, grind (arith, common_steps))

pub returns : goal.returns
returns g c =
    let e = logic_rest_on c.args.self.now.depth c.args.from c.args.left (cursor_of c.args.tokens.now) in
    first_of (search rules, grind (arith, common_steps))
