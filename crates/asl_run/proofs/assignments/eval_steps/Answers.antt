use Rattle.std.proofs.Common.{rules, arith}
use Rattle.std.proofs.lemmas.Result.{err_from_is_err_and}
use Rattle.asl_run.proofs.Storing.{step_failed, step_given_up, step_next}
use Rattle.asl_run.proofs.assignments.eval_steps.Goals as goal

pub returns-in_err-it : goal.returns-in_err-it
returns-in_err-it g c =
    let p = err_from_is_err_and c.from_residual.result c.from_residual.ensures.1 in
    rw (p.1, p.2) (step_failed (g.N.Nodes.setting c.args.here.now) c.args.steps.now c.loop-step.step-index c.step-item.result
    c.loop-step.found c.in_err-it.field-0.0 _ _ _ _ (omega (arith, c.loop-step-test.true)) c.step-item.is c.in_err-it.ensures
    c.loop-step.invariant)

pub returns-in_err-push : goal.returns-in_err-push
returns-in_err-push g c =
    let p = err_from_is_err_and c.from_residual-in_err-push.result c.from_residual-in_err-push.ensures.1 in
    rw (p.1, p.2) (step_given_up (g.N.Nodes.setting c.args.here.now) c.args.steps.now c.loop-step.step-index c.step-item.result
    c.loop-step.found c.in_ok-it.it _ _ _ _ (omega (arith, c.loop-step-test.true)) c.step-item.is c.in_ok-it.ensures
    c.loop-step.invariant)

pub loop-step-preserved : goal.loop-step-preserved
loop-step-preserved g c = step_next (g.N.Nodes.setting c.args.here.now) c.args.steps.now c.loop-step.step-index c.step-item.result
    c.loop-step.found _ c.in_ok-it.it _ _ _ _ (omega (arith, c.loop-step-test.true)) c.step-item.is c.in_ok-it.ensures (search rules)
    c.loop-step.invariant
