use Rattle.std.proofs.Common.{rules, arith}
use Rattle.std.proofs.lemmas.Grind.{common_steps}
use Rattle.asl_parse_expr.specs.private.Code.{cursor_of}
use Rattle.asl_parse_expr.proofs.Tails.{rest_is}
use Rattle.asl_parse_expr.proofs.grammar.Grammar.rest.Goals as goal

pub returns-in_err-left : goal.returns-in_err-left
returns-in_err-left g c =
    let e = rest_is c.args.self.now.depth c.args.from c.args.left (cursor_of c.args.tokens.now) in
    first_of (search rules, grind (arith, common_steps))

pub returns-in_err-left-2 : goal.returns-in_err-left-2
returns-in_err-left-2 g c =
    let e = rest_is c.args.self.now.depth c.args.from c.args.left (cursor_of c.args.tokens.now) in
    first_of (search rules, grind (arith, common_steps))

pub returns-in_err-left-3 : goal.returns-in_err-left-3
returns-in_err-left-3 g c =
    let e = rest_is c.args.self.now.depth c.args.from c.args.left (cursor_of c.args.tokens.now) in
    first_of (search rules, grind (arith, common_steps))

pub returns-in_err-left-4 : goal.returns-in_err-left-4
returns-in_err-left-4 g c =
    let e = rest_is c.args.self.now.depth c.args.from c.args.left (cursor_of c.args.tokens.now) in
    first_of (search rules, grind (arith, common_steps))

pub returns-in_err-left-5 : goal.returns-in_err-left-5
returns-in_err-left-5 g c =
    let e = rest_is c.args.self.now.depth c.args.from c.args.left (cursor_of c.args.tokens.now) in
    first_of (search rules, grind (arith, common_steps))

pub returns-in_err-left-6 : goal.returns-in_err-left-6
returns-in_err-left-6 g c =
    let e = rest_is c.args.self.now.depth c.args.from c.args.left (cursor_of c.args.tokens.now) in
    first_of (search rules, grind (arith, common_steps))

pub returns : goal.returns
returns g c =
    let e = rest_is c.args.self.now.depth c.args.from c.args.left (cursor_of c.args.tokens.now) in
    first_of (search rules, grind (arith, common_steps))
