use Rattle.std.proofs.Common.{map, subst}
use Rattle.std.proofs.lemmas.Result.{err_from_is_err_and}
use Rattle.std.specs.Prelude.{option_map}
use Rattle.asl_rules.specs.private.TypedMeaning.{list_of}
use Rattle.asl_tree.specs.View.{all_trees}
use Rattle.asl_value.specs.View.{value_of}
use Rattle.asl_branches.specs.Meets.{Ran, at}
use Rattle.asl_branches.specs.View.{core_of}
use Rattle.asl_branches.proofs.Answered.{failed, met}
use Rattle.asl_branches.proofs.Turns.{all_evaluated}
use Rattle.asl_run.specs.private.Calling.{body_of}
use Rattle.asl_run.proofs.calls.call_on_list.Goals as goal

pub returns-in_err-args : goal.returns-in_err-args
returns-in_err-args g c =
    let h = g.N.Nodes.setting c.args.here.now in
    let p = err_from_is_err_and c.from_residual.result c.from_residual.ensures.1 in
    rw (p.1, p.2) (failed (map value_of) (option_map value_of) h.funcs.now h.depth _ _ _
    (all_evaluated h.funcs.now h.depth (list_of (all_trees c.args.call.args.now)) (core_of c.args.run.now)
    (body_of h.funcs.now c.args.call (map value_of c.args.params.now))) _ c.in_err-args.field-0.0 _ _ c.in_err-args.ensures)

pub returns : goal.returns
returns g c =
    let h = g.N.Nodes.setting c.args.here.now in
    met (map value_of) (option_map value_of) h.funcs.now h.depth _ _ _
    (all_evaluated h.funcs.now h.depth (list_of (all_trees c.args.call.args.now)) (core_of c.args.run.now)
    (body_of h.funcs.now c.args.call (map value_of c.args.params.now)))
    _ c.in_ok-args.args c.call_with.result _ _ _ c.in_ok-args.ensures
    (subst (λ xs. Ran (option_map value_of) c.call_with.result h
    (body_of h.funcs.now c.args.call (map value_of c.args.params.now) (map value_of xs))
    (at g.K.Sink c.eval_all.new.run c.eval_all.new.sink) (at g.K.Sink c.call_with.new.run c.call_with.new.sink))
    c.as_slice.ensures c.call_with.ensures)
