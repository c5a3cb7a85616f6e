use Rattle.std.proofs.Common.{map, inl, Ok, Err, refl, subst, arith}
use Rattle.std.proofs.lemmas.Result.{err_from_is_err_and}
use Rattle.asl_rules.specs.private.ByPlace.{into_slices}
use Rattle.asl_rules.specs.runs.Plans.{Ret}
use Rattle.asl_rules.specs.private.TypedMeaning.{list_of}
use Rattle.asl_tree.specs.View.{all_trees}
use Rattle.asl_value.specs.private.Forms.{step_of}
use Rattle.asl_value.specs.View.{value_of, all_slices}
use Rattle.asl_value.specs.declared.replacing.Step.TheVariants.{Slices}
use Rattle.asl_branches.specs.declared.stop.Stop.TheVariants as stop
use Rattle.asl_branches.specs.Meets.{Ran, at}
use Rattle.asl_branches.specs.View.{core_of}
use Rattle.asl_branches.proofs.Answered.{failed, met}
use Rattle.asl_branches.proofs.Turns.{all_evaluated}
use Rattle.asl_run.proofs.assignments.eval_slices.Goals as goal

pub returns-in_err-zs : goal.returns-in_err-zs
returns-in_err-zs g c =
    let h = g.N.Nodes.setting c.args.here.now in
    let p = err_from_is_err_and c.from_residual.result c.from_residual.ensures.1 in
    rw (p.1, p.2) (failed (map value_of) step_of h.funcs.now h.depth _ _ _
    (all_evaluated h.funcs.now h.depth (list_of (all_trees c.args.es.now)) (core_of c.args.run.now)
    (λ xs c1. Ret (into_slices c.args.span (all_slices c.args.shapes.now) xs) c1)) _ c.in_err-zs.field-0.0 _ _ c.in_err-zs.ensures)

pub returns-in_err-shapes : goal.returns-in_err-shapes
returns-in_err-shapes g c =
    let h = g.N.Nodes.setting c.args.here.now in
    let p = err_from_is_err_and c.from_residual-in_err-shapes.result c.from_residual-in_err-shapes.ensures.1 in
    rw (p.1, p.2) (met (map value_of) step_of h.funcs.now h.depth _ _ _
    (all_evaluated h.funcs.now h.depth (list_of (all_trees c.args.es.now)) (core_of c.args.run.now)
    (λ xs c1. Ret (into_slices c.args.span (all_slices c.args.shapes.now) xs) c1))
    _ c.in_ok-zs.zs (Err stop.NoMemory) _ _ _ c.in_ok-zs.ensures
    (record { meets = inl refl; counts = refl; same_full = refl; keeps = tt; grows = tt }))

pub returns : goal.returns
returns g c =
    let h = g.N.Nodes.setting c.args.here.now in
    let a1 = at g.K.Sink c.eval_all.new.run c.eval_all.new.sink in
    let zs = c.in_ok-zs.zs in
    met (map value_of) step_of h.funcs.now h.depth _ _ _
    (all_evaluated h.funcs.now h.depth (list_of (all_trees c.args.es.now)) (core_of c.args.run.now)
    (λ xs c1. Ret (into_slices c.args.span (all_slices c.args.shapes.now) xs) c1))
    _ zs (Ok (Slices c.args.span c.in_ok-shapes.shapes zs)) _ _ _ c.in_ok-zs.ensures
    (subst (λ ss. Ran step_of (Ok (Slices c.args.span c.in_ok-shapes.shapes zs)) h
    (λ c1. Ret (into_slices c.args.span (all_slices ss) (map value_of zs)) c1) a1 a1) c.in_ok-shapes.ensures
    (record {
      meets = refl;
      counts = refl;
      same_full = refl;
      keeps = record { handled = refl; callers = refl; slots = refl; live = refl };
      grows = omega arith;
    }))
