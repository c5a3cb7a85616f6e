use Rattle.std.proofs.Common.{length, map, ap, arith}
use Rattle.asl_value.specs.View.{value_of}
use Rattle.asl_branches.specs.Meets.{at}
use Rattle.asl_run.proofs.Framed.{called_runs, uneven_call}
use Rattle.asl_run.proofs.calls.run_func.Goals as goal

pub returns-then-as_slice-args : goal.returns-then-as_slice-args
returns-then-as_slice-args g c =
    uneven_call (g.N.Nodes.setting c.args.here.now) c.args.called.func.now c.args.called.span c.args.called.id
    (map value_of c.args.params.items) c.args.args.now (at g.K.Sink c.args.run.now c.args.sink.now)
    (λ e. omega (arith, e, ap length c.as_slice.ensures))

pub returns : goal.returns
returns g c =
    called_runs (g.N.Nodes.setting c.args.here.now) c.args.called.func.now c.args.called.span c.args.called.id
    (map value_of c.args.params.items) (map value_of c.args.args.now) c.run_body.result c.enter_with.new.run
    (at g.K.Sink c.args.run.now c.args.sink.now) (at g.K.Sink c.run_body.new.run c.run_body.new.sink)
    c.in_ok-enter_with.ensures.enters c.in_ok-enter_with.ensures.steps c.in_ok-enter_with.ensures.text_open c.run_body.ensures
