use Rattle.std.proofs.Common.{◌≡◌, ℕ, suc, ◌-◌, subst, arith}
use Rattle.asl_parse_expr.specs.private.Code.{cursor_of}
use Rattle.asl_parse_expr.specs.private.Nests.{MetValue}
use Rattle.asl_parse_expr.proofs.grammar.+nested.Goals as goal

pub returns : goal.returns
returns t c =
    let some = c.if-depth-eq0.false in
    let same : suc (c.args.depth - 1) ≡ c.args.depth = omega (arith, some) in
    subst (λ (d : ℕ). MetValue c.args.what d (cursor_of c.args.tokens.now) c.read.result (cursor_of c.read.new.tokens)) same c.read.ensures
