use Rattle.std.proofs.Common.{◌≡◌, Err, arith, rules}
use Rattle.asl_subprograms.specs.private.ContextView.{scope_of}
use Rattle.asl_expr.proofs.SliceLemmas.{sum_goes, sum_refused, sum_whole}
use Rattle.asl_expr.proofs.slices.sliced_width.Goals as goal

pub loop-s-preserved : goal.loop-s-preserved
loop-s-preserved c t =
    let inv = c.loop-s.invariant t in
    sum_goes t _ c.args.slices.now c.loop-s.s-index c.s-item.result inv.0 _ (scope_of c.args.context) (omega (arith, c.loop-s-test.true)) c.s-item.is (c.in_ok-total-2.ensures t inv.0 inv.1.1) inv.1.0

pub returns-in_err-total-2 : goal.returns-in_err-total-2
returns-in_err-total-2 c t =
    let inv = c.loop-s.invariant t in
    let is : c.from_residual-in_err-total-2.result ≡ Err c.in_err-total-2.field-0.0 = search rules in
    sum_refused t c.args.span _ c.args.slices.now c.loop-s.s-index c.s-item.result inv.0 c.in_err-total-2.field-0.0 c.from_residual-in_err-total-2.result (scope_of c.args.context)
    (omega (arith, c.loop-s-test.true)) c.s-item.is is (c.in_err-total-2.ensures t inv.0 inv.1.1) inv.1.0

pub returns : goal.returns
returns c t =
    let inv = c.loop-s.invariant t in
    sum_whole t c.args.span _ c.args.slices.now c.loop-s.s-index inv.0 c.into_width.result (scope_of c.args.context) (omega (arith, c.loop-s-test.false)) inv.1.0 (c.into_width.ensures inv.0 inv.1.1)
