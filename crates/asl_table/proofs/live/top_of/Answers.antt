use Rattle.std.proofs.Common.{◌≡◌, suc, ◌-◌, sym, ◌∙◌, ap, arith}
use Rattle.asl_table.specs.private.Listed.{top_fixed}
use Rattle.asl_table.proofs.Halving.{top_lower, top_found, top_nothing, none_there, some_there}
use Rattle.asl_table.proofs.live.top_of.Goals as goal

pub loop-top-preserved : goal.loop-top-preserved
loop-top-preserved c =
    let next : c.loop-top.top ≡ suc (c.loop-top.top - 1) = omega (arith, c.loop-top-test.true) in (
      c.loop-top.invariant.0 ∙ top_lower c.loop-top.top (c.loop-top.top - 1) c.args.mask.now c.digit.result next c.digit.ensures (none_there _ _ c.is_none.ensures c.if-is_none.true),
      omega (arith, c.loop-top.invariant.1),
    )

pub returns-else-is_none : goal.returns-else-is_none
returns-else-is_none c =
    let next : c.loop-top.top ≡ suc (c.loop-top.top - 1) = omega (arith, c.loop-top-test.true) in
    sym (c.loop-top.invariant.0 ∙ top_found c.loop-top.top (c.loop-top.top - 1) c.args.mask.now c.digit.result next c.digit.ensures (some_there _ _ c.is_none.ensures c.if-is_none.false))

pub returns-after-loop-top : goal.returns-after-loop-top
returns-after-loop-top c =
    let none : c.loop-top.top ≡ 0 = omega (arith, c.loop-top-test.false) in
    sym (c.loop-top.invariant.0 ∙ ap (λ n. top_fixed n c.args.mask.now) none ∙ top_nothing c.args.mask.now ∙ sym none)
