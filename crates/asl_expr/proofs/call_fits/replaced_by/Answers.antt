use Rattle.std.proofs.Common.{arith, ap, sym, ◌∙◌, ◌++◌, [], ◌∷◌}
use Rattle.asl_expr.specs.declared.params.GivenWidth.{GivenWidth}
use Rattle.asl_expr.proofs.FitLemmas.{pairs_next, pairs_short}
use Rattle.asl_expr.proofs.call_fits.replaced_by.Goals as goal

pub returns-then-i-given : goal.returns-then-i-given
returns-then-i-given c = pairs_short c.args.params.now c.args.given.now c.loop-i.i c.loop-i.by.items _ (omega (arith, c.if-i-given.true)) c.loop-i.invariant

pub loop-i-preserved : goal.loop-i-preserved
loop-i-preserved c =
    let width = c.in_ok-width.ensures ∙ ap (λ (g : GivenWidth). g.width) (sym c.index-given-i.is) in
    pairs_next c.args.params.now c.args.given.now c.loop-i.i c.index-params-i.result c.index-given-i.result c.loop-i.by.items c.push.new.self.items _
    (omega (arith, c.loop-i-test.true)) (omega (arith, c.if-i-given.false)) c.index-params-i.is c.index-given-i.is
    (c.in_ok-push.ensures.items ∙ (λ j. c.loop-i.by.items ++ (c.atom.ensures j, width j) ∷ [])) c.loop-i.invariant
