use Rattle.std.proofs.Common.{◌≡◌, map, rules, subst}
use Rattle.std.proofs.lemmas.Result.{err_from_is_err_and}
use Rattle.asl_rules.specs.runs.Forms.{at_once}
use Rattle.asl_rules.specs.private.TypedMeaning.{list_of}
use Rattle.asl_tree.specs.View.{all_trees}
use Rattle.asl_value.specs.View.{value_of}
use Rattle.asl_branches.specs.Meets.{Is}
use Rattle.asl_branches.specs.View.{core_of}
use Rattle.asl_branches.proofs.Answered.{failed, given, met}
use Rattle.asl_branches.proofs.Turns.{all_evaluated}
use Rattle.asl_run.specs.private.Operations.{more_given}
use Rattle.asl_run.proofs.exprs.eval_behind_one.Goals as goal

pub returns-in_err-zs : goal.returns-in_err-zs
returns-in_err-zs g c =
    let h = g.N.Nodes.setting c.args.here.now in
    let p = err_from_is_err_and c.from_residual.result c.from_residual.ensures.1 in
    rw (p.1, p.2) (failed (map value_of) value_of h.funcs.now h.depth _ _ _
    (all_evaluated h.funcs.now h.depth (list_of (all_trees c.args.es.now)) (core_of c.args.run.now)
    (λ zs c1. at_once (more_given c.args.behind.span c.args.behind.more (value_of c.args.x.now) zs) c1))
    _ c.in_err-zs.field-0.0 _ _ c.in_err-zs.ensures)

pub returns : goal.returns
returns g c =
    let h = g.N.Nodes.setting c.args.here.now in
    let here : c.as_slice.result.now ≡ c.in_ok-zs.zs = search rules in
    let is : Is value_of c.more_value.result (more_given c.args.behind.span c.args.behind.more (value_of c.args.x.now)
    (map value_of c.in_ok-zs.zs)) =
    subst (λ zs. Is value_of c.more_value.result (more_given c.args.behind.span c.args.behind.more (value_of c.args.x.now)
    (map value_of zs))) here c.more_value.ensures in
    met (map value_of) value_of h.funcs.now h.depth _ _ _
    (all_evaluated h.funcs.now h.depth (list_of (all_trees c.args.es.now)) (core_of c.args.run.now)
    (λ zs c1. at_once (more_given c.args.behind.span c.args.behind.more (value_of c.args.x.now) zs) c1))
    _ c.in_ok-zs.zs c.more_value.result _ _ _ c.in_ok-zs.ensures (given value_of h c.more_value.result _ _ is)
