use Rattle.std.proofs.Common.{subst, sym}
use Rattle.asl_rules.specs.private.TypedMeaning.{tree_node}
use Rattle.asl_value.specs.View.{value_of}
use Rattle.asl_branches.specs.Meets.{Ran, at}
use Rattle.asl_branches.specs.View.{program_of}
use Rattle.asl_run.proofs.Viewed.{call_is}
use Rattle.asl_run.proofs.exprs.eval_node.Goals as goal

pub returns-in-Call : goal.returns-in-Call
returns-in-Call g c =
    let h = g.N.Nodes.setting c.args.here.now in
    subst (λ t. Ran value_of c.eval_call.result h (tree_node (program_of h.funcs.now) t) (at g.K.Sink c.args.run.now c.args.sink.now)
    (at g.K.Sink c.eval_call.new.run c.eval_call.new.sink))
    (sym (call_is c.args.e.now c.in-Call.note c.in-Call.callee c.in-Call.widths c.as_slice.result.now c.in-Call.params
    c.as_slice-in-Call.result.now c.in-Call.args c.as_slice-in-Call-2.result.now c.in-Call.is c.as_slice.ensures
    c.as_slice-in-Call.ensures c.as_slice-in-Call-2.ensures)) c.eval_call.ensures
