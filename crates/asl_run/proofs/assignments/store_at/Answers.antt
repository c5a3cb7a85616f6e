use Rattle.std.proofs.Common.{◌≡◌, [], Ok, Err, rules, subst}
use Rattle.std.proofs.lemmas.Result.{err_from_is_err_and}
use Rattle.asl_bits.specs.declared.TheConstants.{WIDTH_LIMIT}
use Rattle.asl_rules.specs.runs.Plans.{lift}
use Rattle.asl_rules.specs.runs.StatementForms.{done_normal}
use Rattle.asl_rules.specs.private.TypedMeaning.{stored}
use Rattle.asl_value.specs.private.Forms.{all_steps}
use Rattle.asl_value.specs.View.{value_of}
use Rattle.asl_branches.specs.Meets.{Acts, Ran, at}
use Rattle.asl_branches.specs.View.{core_of, exit_of}
use Rattle.asl_branches.proofs.Answered.{acted, failed, met}
use Rattle.asl_branches.proofs.Turns as turns
use Rattle.asl_run.specs.private.Storing.{all_ahead, all_stepped}
use Rattle.asl_run.proofs.assignments.store_at.Goals as goal

pub returns-in_err-steps : goal.returns-in_err-steps
returns-in_err-steps g c =
    let h = g.N.Nodes.setting c.args.here.now in
    let t = c.args.target.now in
    let e = c.in_err-steps.field-0.0 in
    let p = err_from_is_err_and c.from_residual.result c.from_residual.ensures.1 in
    let same : c.as_slice.result.now ≡ t.steps = search rules in
    rw (p.1, p.2) (failed all_steps exit_of h.funcs.now h.depth _ _ _
    (turns.all_stepped h.funcs.now h.depth (all_ahead t.steps) [] (core_of c.args.run.now)
    (λ ns c3. lift (stored WIDTH_LIMIT c.args.holds_bits t.span t.slot (value_of c.args.value) ns c3) c3 done_normal)) _ e _ _
    (subst (λ ts. Ran all_steps (Err e) h (all_stepped ts []) (at g.K.Sink c.args.run.now c.args.sink.now)
    (at g.K.Sink c.eval_steps.new.run c.eval_steps.new.sink)) same c.in_err-steps.ensures))

pub returns : goal.returns
returns g c =
    let h = g.N.Nodes.setting c.args.here.now in
    let t = c.args.target.now in
    let s = c.in_ok-steps.steps in
    let a1 = at g.K.Sink c.eval_steps.new.run c.eval_steps.new.sink in
    let held : c.into_inner.result ≡ c.args.value = search rules in
    let same : c.as_slice.result.now ≡ t.steps = search rules in
    let steps : c.as_slice-2.result.now ≡ s = search rules in
    met all_steps exit_of h.funcs.now h.depth _ _ _
    (turns.all_stepped h.funcs.now h.depth (all_ahead t.steps) [] (core_of c.args.run.now)
    (λ ns c3. lift (stored WIDTH_LIMIT c.args.holds_bits t.span t.slot (value_of c.args.value) ns c3) c3 done_normal))
    _ s c.assign_at.result _ _ _
    (subst (λ ts. Ran all_steps (Ok s) h (all_stepped ts []) (at g.K.Sink c.args.run.now c.args.sink.now) a1) same c.in_ok-steps.ensures)
    (acted h c.assign_at.result
    (λ c3. lift (stored WIDTH_LIMIT c.args.holds_bits t.span t.slot (value_of c.args.value) (all_steps s) c3) c3 done_normal)
    a1 c.assign_at.new.run
    (subst (λ x. Acts c.assign_at.result
    (λ c3. lift (stored WIDTH_LIMIT c.args.holds_bits t.span t.slot (value_of x) (all_steps s) c3) c3 done_normal)
    c.eval_steps.new.run c.assign_at.new.run) held
    (subst (λ ss. Acts c.assign_at.result
    (λ c3. lift (stored WIDTH_LIMIT c.args.holds_bits t.span t.slot (value_of c.into_inner.result) (all_steps ss) c3) c3 done_normal)
    c.eval_steps.new.run c.assign_at.new.run) steps c.assign_at.ensures.acts))
    c.assign_at.ensures.none_refused c.assign_at.ensures.keeps c.assign_at.ensures.grows)
