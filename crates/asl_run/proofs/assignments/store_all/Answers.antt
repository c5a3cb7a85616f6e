use Rattle.std.proofs.Common.{arith}
use Rattle.std.proofs.lemmas.Result.{err_from_is_err_and}
use Rattle.asl_run.proofs.Storing.{store_failed, store_next}
use Rattle.asl_run.proofs.assignments.store_all.Goals as goal

pub returns-in_err-store_one : goal.returns-in_err-store_one
returns-in_err-store_one g c =
    let p = err_from_is_err_and c.from_residual.result c.from_residual.ensures.1 in
    rw (p.1, p.2) (store_failed (g.N.Nodes.setting c.args.here.now) c.args.holds_bits c.args.targets.now c.args.parts.now c.loop-i.i
    c.index-targets-i.result c.index-parts-i.result c.in_err-store_one.field-0.0 _ _ _ _ (omega (arith, c.loop-i-test.true))
    (omega (arith, c.loop-i-test.true)) c.index-targets-i.is c.index-parts-i.is c.in_err-store_one.ensures c.loop-i.invariant)

pub loop-i-preserved : goal.loop-i-preserved
loop-i-preserved g c = store_next (g.N.Nodes.setting c.args.here.now) c.args.holds_bits c.args.targets.now c.args.parts.now c.loop-i.i
    c.index-targets-i.result c.index-parts-i.result _ _ _ _ _ (omega (arith, c.loop-i-test.true)) (omega (arith, c.loop-i-test.true))
    c.index-targets-i.is c.index-parts-i.is c.in_ok-store_one.ensures c.loop-i.invariant
