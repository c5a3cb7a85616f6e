use Rattle.std.proofs.Common.{false, map, Ok, Err, subst}
use Rattle.std.proofs.lemmas.Result.{err_from_is_err_and}
use Rattle.asl_bits.specs.declared.TheConstants.{WIDTH_LIMIT}
use Rattle.asl_rules.specs.values.Matching.{is_matched}
use Rattle.asl_rules.specs.runs.Plans.{Ret, choose, lift}
use Rattle.asl_rules.specs.private.TypedMeaning.{itself, list_of}
use Rattle.asl_shape.specs.View.{all_patterns}
use Rattle.asl_tree.specs.Acts.{maybe_tree}
use Rattle.asl_tree.specs.View.{all_trees}
use Rattle.asl_value.specs.View.{value_of}
use Rattle.asl_branches.specs.private.Choosing.{guard}
use Rattle.asl_branches.specs.private.InOrder.{evaluated}
use Rattle.asl_branches.specs.Meets.{Ran, at}
use Rattle.asl_branches.specs.View.{core_of}
use Rattle.asl_branches.proofs.Answered.{failed, met}
use Rattle.asl_branches.proofs.Turns.{all_evaluated}
use Rattle.asl_branches.proofs.choices.is_chosen.Goals as goal

pub returns-in_err-zs : goal.returns-in_err-zs
returns-in_err-zs g c =
    let h = g.N.Nodes.setting c.args.here.now in
    let it = c.args.it.choice.now in
    let p = err_from_is_err_and c.from_residual.result c.from_residual.ensures.1 in
    rw (p.1, p.2) (failed (map value_of) itself h.funcs.now h.depth _ _ _
    (all_evaluated h.funcs.now h.depth (list_of (all_trees it.trees)) (core_of c.args.run.now)
    (λ zs c1. lift (is_matched WIDTH_LIMIT (all_patterns it.patterns) zs (value_of c.args.x.now)) c1
    (λ b. choose b (guard c.args.it.span (maybe_tree it.condition) c1) (Ret false c1)))) _ c.in_err-zs.field-0.0 _ _
    (subst (λ es. Ran (map value_of) (Err c.in_err-zs.field-0.0) h (evaluated es) (at g.K.Sink c.args.run.now c.args.sink.now)
    (at g.K.Sink c.eval_all.new.run c.eval_all.new.sink)) c.as_slice.ensures c.in_err-zs.ensures))

pub returns : goal.returns
returns g c =
    let h = g.N.Nodes.setting c.args.here.now in
    let it = c.args.it.choice.now in
    met (map value_of) itself h.funcs.now h.depth _ _ _
    (all_evaluated h.funcs.now h.depth (list_of (all_trees it.trees)) (core_of c.args.run.now)
    (λ zs c1. lift (is_matched WIDTH_LIMIT (all_patterns it.patterns) zs (value_of c.args.x.now)) c1
    (λ b. choose b (guard c.args.it.span (maybe_tree it.condition) c1) (Ret false c1)))) _ c.in_ok-zs.zs c.is_guarded-2.result _ _ _
    (subst (λ es. Ran (map value_of) (Ok c.in_ok-zs.zs) h (evaluated es) (at g.K.Sink c.args.run.now c.args.sink.now)
    (at g.K.Sink c.eval_all.new.run c.eval_all.new.sink)) c.as_slice.ensures c.in_ok-zs.ensures)
    (rw c.as_slice-2.ensures at c.is_guarded-2.ensures)
