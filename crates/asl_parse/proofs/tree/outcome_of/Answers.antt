use Rattle.std.proofs.Common.{◌≡◌, ◌∙◌, sym, arith}
use Rattle.asl_grammar.specs.grammar.Faults.{max_levels}
use Rattle.asl_parse_expr.specs.private.Code.{cursor_of}
use Rattle.asl_parse.proofs.FaultPlaces.{failed, finished, unfinished}
use Rattle.asl_parse.proofs.tree.outcome_of.Goals as goal

pub returns-in_err-found : goal.returns-in_err-found
unfolding max_levels
returns-in_err-found c = failed c.args.bytes.now c.args.toks.now c.from_residual.result c.in_err-found.field-0.0 c.in_err-found.ensures c.from_residual.ensures.1

pub returns : goal.returns
unfolding max_levels
returns c =
    let none : c.len-ahead.result ≡ 0 = (let h = c.if-ahead-gt0.false in omega (arith, h)) in
    finished c.args.bytes.now c.args.toks.now c.in_ok-found.found (cursor_of c.program.new.tokens) c.in_ok-found.ensures (sym c.len-ahead.ensures ∙ none)

pub returns-then-ahead-gt0 : goal.returns-then-ahead-gt0
unfolding max_levels
returns-then-ahead-gt0 c =
    unfinished c.args.bytes.now c.args.toks.now c.in_ok-found.found (cursor_of c.program.new.tokens) c.len-ahead.result c.in_ok-found.ensures c.len-ahead.ensures
    (λ z. let h = c.if-ahead-gt0.true in omega (arith, h, z))
