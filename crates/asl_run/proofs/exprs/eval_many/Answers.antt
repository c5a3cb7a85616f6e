use Rattle.std.proofs.Common.{map}
use Rattle.std.proofs.lemmas.Result.{err_from_is_err_and}
use Rattle.asl_rules.specs.runs.Forms.{at_once}
use Rattle.asl_rules.specs.private.TypedMeaning.{list_of}
use Rattle.asl_tree.specs.View.{all_trees}
use Rattle.asl_value.specs.View.{value_of}
use Rattle.asl_branches.specs.View.{core_of}
use Rattle.asl_branches.proofs.Answered.{failed, given, met}
use Rattle.asl_branches.proofs.Turns.{all_evaluated}
use Rattle.asl_run.specs.private.Operations.{many_given}
use Rattle.asl_run.proofs.exprs.eval_many.Goals as goal

pub returns-in_err-xs : goal.returns-in_err-xs
returns-in_err-xs g c =
    let h = g.N.Nodes.setting c.args.here.now in
    let p = err_from_is_err_and c.from_residual.result c.from_residual.ensures.1 in
    rw (p.1, p.2) (failed (map value_of) value_of h.funcs.now h.depth _ _ _
    (all_evaluated h.funcs.now h.depth (list_of (all_trees c.args.es.now)) (core_of c.args.run.now)
    (λ xs c1. at_once (many_given c.args.span c.args.many xs) c1)) _ c.in_err-xs.field-0.0 _ _ c.in_err-xs.ensures)

pub returns : goal.returns
returns g c =
    let h = g.N.Nodes.setting c.args.here.now in
    met (map value_of) value_of h.funcs.now h.depth _ _ _
    (all_evaluated h.funcs.now h.depth (list_of (all_trees c.args.es.now)) (core_of c.args.run.now)
    (λ xs c1. at_once (many_given c.args.span c.args.many xs) c1))
    _ c.in_ok-xs.xs c.many_value.result _ _ _ c.in_ok-xs.ensures (given value_of h c.many_value.result _ _ c.many_value.ensures)
