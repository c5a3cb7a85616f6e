use Rattle.std.proofs.Common.{le_trans}
use Rattle.asl_tree.specs.View.{tree_of}
use Rattle.asl_value.specs.View.{value_of}
use Rattle.asl_branches.specs.Meets.{at}
use Rattle.asl_branches.specs.View.{exit_of}
use Rattle.asl_branches.proofs.Answered.{acted, met_eval}
use Rattle.asl_branches.proofs.Room.{no_less_eval}
use Rattle.asl_run.specs.private.Finishes.{finished}
use Rattle.asl_run.proofs.stmts.exec_after.Goals as goal

pub finish-requires : goal.finish-requires
finish-requires g c = record {
  room = le_trans c.requires.room (no_less_eval (g.N.Nodes.setting c.args.here.now) c.args.e.now _ _ _ c.in_ok-x.ensures);
}

pub returns : goal.returns
returns g c =
    let h = g.N.Nodes.setting c.args.here.now in
    let x = c.in_ok-x.x in
    met_eval exit_of h.funcs.now h.depth (tree_of c.args.e.now) (finished c.args.after) x c.finish.result _ _ _ c.in_ok-x.ensures
    (acted h c.finish.result (finished c.args.after (value_of x)) (at g.K.Sink c.eval.new.run c.eval.new.sink) c.finish.new.run
    c.finish.ensures.acts c.finish.ensures.none_refused c.finish.ensures.keeps c.finish.ensures.grows)
