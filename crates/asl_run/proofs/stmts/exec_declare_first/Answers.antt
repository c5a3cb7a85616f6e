use Rattle.std.proofs.Common.{◌≡◌, map, rules, le_trans, subst}
use Rattle.std.proofs.lemmas.Result.{err_from_is_err_and}
use Rattle.asl_rules.specs.private.TypedMeaning.{list_of}
use Rattle.asl_tree.specs.View.{all_trees}
use Rattle.asl_value.specs.View.{value_of}
use Rattle.asl_branches.specs.private.InOrder.{evaluated}
use Rattle.asl_branches.specs.Meets.{Acts, at}
use Rattle.asl_branches.specs.View.{core_of, exit_of}
use Rattle.asl_branches.proofs.Answered.{acted, failed, met}
use Rattle.asl_branches.proofs.Room.{no_less_after}
use Rattle.asl_branches.proofs.Turns.{all_evaluated}
use Rattle.asl_run.specs.private.Finishes.{begun}
use Rattle.asl_run.proofs.stmts.exec_declare_first.Goals as goal

pub returns-in_err-zs : goal.returns-in_err-zs
returns-in_err-zs g c =
    let h = g.N.Nodes.setting c.args.here.now in
    let p = err_from_is_err_and c.from_residual.result c.from_residual.ensures.1 in
    rw (p.1, p.2) (failed (map value_of) exit_of h.funcs.now h.depth _ _ _
    (all_evaluated h.funcs.now h.depth (list_of (all_trees c.args.sizes.now)) (core_of c.args.run.now) (begun c.args.first))
    _ c.in_err-zs.field-0.0 _ _ c.in_err-zs.ensures)

pub begin-requires : goal.begin-requires
begin-requires g c = record {
  room = le_trans c.requires.room
      (no_less_after (map value_of) (g.N.Nodes.setting c.args.here.now) (evaluated c.args.sizes.now) _ _ _ c.in_ok-zs.ensures);
}

pub returns : goal.returns
returns g c =
    let h = g.N.Nodes.setting c.args.here.now in
    let a1 = at g.K.Sink c.eval_all.new.run c.eval_all.new.sink in
    let here : c.as_slice.result.now ≡ c.in_ok-zs.zs = search rules in
    met (map value_of) exit_of h.funcs.now h.depth _ _ _
    (all_evaluated h.funcs.now h.depth (list_of (all_trees c.args.sizes.now)) (core_of c.args.run.now) (begun c.args.first))
    _ c.in_ok-zs.zs c.begin.result _ _ _ c.in_ok-zs.ensures
    (acted h c.begin.result (begun c.args.first (map value_of c.in_ok-zs.zs)) a1 c.begin.new.run
    (subst (λ zs. Acts c.begin.result (begun c.args.first (map value_of zs)) c.eval_all.new.run c.begin.new.run) here c.begin.ensures.acts)
    c.begin.ensures.none_refused c.begin.ensures.keeps c.begin.ensures.grows)
