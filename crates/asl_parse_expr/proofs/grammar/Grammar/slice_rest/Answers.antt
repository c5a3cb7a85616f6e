use Rattle.std.proofs.Common.{rules, arith}
use Rattle.std.proofs.lemmas.Grind.{common_steps}
use Rattle.asl_grammar.specs.grammar.Build.{slice_of}
use Rattle.asl_parse_expr.specs.private.Code.{cursor_of}
use Rattle.asl_parse_expr.proofs.Steps.{slice_rest_is}
use Rattle.asl_parse_expr.proofs.grammar.Grammar.slice_rest.Goals as goal

pub returns-then-not-starts : goal.returns-then-not-starts
returns-then-not-starts g c =
    let e = slice_rest_is c.args.self.now.depth (slice_of c.args.first) (cursor_of c.args.tokens.now) in
    first_of (search rules, grind (arith, common_steps))

pub returns-in_err-form : goal.returns-in_err-form
returns-in_err-form g c =
    let e = slice_rest_is c.args.self.now.depth (slice_of c.args.first) (cursor_of c.args.tokens.now) in
    first_of (search rules, grind (arith, common_steps))

pub returns-in_err-second : goal.returns-in_err-second
returns-in_err-second g c =
    let e = slice_rest_is c.args.self.now.depth (slice_of c.args.first) (cursor_of c.args.tokens.now) in
    first_of (search rules, grind (arith, common_steps))

pub returns : goal.returns
returns g c =
    let e = slice_rest_is c.args.self.now.depth (slice_of c.args.first) (cursor_of c.args.tokens.now) in
    first_of (search rules, grind (arith, common_steps))
