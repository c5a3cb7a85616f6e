use Rattle.std.proofs.Common.{subst, sym}
use Rattle.asl_rules.specs.private.TypedMeaning.{tree_node}
use Rattle.asl_value.specs.View.{value_of}
use Rattle.asl_branches.specs.Meets.{Ran, at}
use Rattle.asl_branches.specs.View.{program_of}
use Rattle.asl_run.proofs.Viewed.{as_is, call_is, construct_is, in_is, slices_is}
use Rattle.asl_run.proofs.exprs.eval_form.Goals as goal

pub returns-in-Construct : goal.returns-in-Construct
returns-in-Construct g c =
    let h = g.N.Nodes.setting c.args.here.now in
    subst (λ t. Ran value_of c.eval_many-in-Construct.result h (tree_node (program_of h.funcs.now) t)
    (at g.K.Sink c.args.run.now c.args.sink.now)
    (at g.K.Sink c.eval_many-in-Construct.new.run c.eval_many-in-Construct.new.sink))
    (sym (construct_is c.args.e.now c.in-Construct.note c.in-Construct.shell c.in-Construct.fields c.as_slice-in-Construct-2.result.now
    c.in-Construct.es c.as_slice-in-Construct.result.now c.in-Construct.is c.as_slice-in-Construct-2.ensures
    c.as_slice-in-Construct.ensures)) c.eval_many-in-Construct.ensures

pub returns-in-Call : goal.returns-in-Call
returns-in-Call g c =
    let h = g.N.Nodes.setting c.args.here.now in
    subst (λ t. Ran value_of c.eval_call.result h (tree_node (program_of h.funcs.now) t) (at g.K.Sink c.args.run.now c.args.sink.now)
    (at g.K.Sink c.eval_call.new.run c.eval_call.new.sink))
    (sym (call_is c.args.e.now c.in-Call.note c.in-Call.callee c.in-Call.widths c.as_slice-in-Call.result.now c.in-Call.params
    c.as_slice-in-Call-2.result.now c.in-Call.args c.as_slice-in-Call-3.result.now c.in-Call.is c.as_slice-in-Call.ensures
    c.as_slice-in-Call-2.ensures c.as_slice-in-Call-3.ensures)) c.eval_call.ensures

pub returns-in-Slices : goal.returns-in-Slices
returns-in-Slices g c =
    let h = g.N.Nodes.setting c.args.here.now in
    subst (λ t. Ran value_of c.eval_more.result h (tree_node (program_of h.funcs.now) t) (at g.K.Sink c.args.run.now c.args.sink.now)
    (at g.K.Sink c.eval_more.new.run c.eval_more.new.sink))
    (sym (slices_is c.args.e.now c.in-Slices.note c.in-Slices.a c.get-in-Slices.result.now c.in-Slices.shapes
    c.as_slice-in-Slices-2.result.now c.in-Slices.es c.as_slice-in-Slices.result.now c.in-Slices.is c.get-in-Slices.ensures
    c.as_slice-in-Slices-2.ensures c.as_slice-in-Slices.ensures)) c.eval_more.ensures

pub returns-in-As : goal.returns-in-As
returns-in-As g c =
    let h = g.N.Nodes.setting c.args.here.now in
    subst (λ t. Ran value_of c.eval_more-in-As.result h (tree_node (program_of h.funcs.now) t) (at g.K.Sink c.args.run.now c.args.sink.now)
    (at g.K.Sink c.eval_more-in-As.new.run c.eval_more-in-As.new.sink))
    (sym (as_is c.args.e.now c.in-As.note c.in-As.a c.get-in-As.result.now c.in-As.shape c.in-As.es c.as_slice-in-As.result.now c.in-As.is
    c.get-in-As.ensures c.as_slice-in-As.ensures)) c.eval_more-in-As.ensures

pub returns-in-In : goal.returns-in-In
returns-in-In g c =
    let h = g.N.Nodes.setting c.args.here.now in
    subst (λ t. Ran value_of c.eval_more-in-In.result h (tree_node (program_of h.funcs.now) t) (at g.K.Sink c.args.run.now c.args.sink.now)
    (at g.K.Sink c.eval_more-in-In.new.run c.eval_more-in-In.new.sink))
    (sym (in_is c.args.e.now c.in-In.note c.in-In.a c.get-in-In.result.now c.in-In.shape c.in-In.es c.as_slice-in-In.result.now c.in-In.is
    c.get-in-In.ensures c.as_slice-in-In.ensures)) c.eval_more-in-In.ensures
