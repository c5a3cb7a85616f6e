use Rattle.std.proofs.Common.{None, Some, Ok, Err, refl, subst, arith}
use Rattle.std.proofs.lemmas.Result.{err_from_is_err_and}
use Rattle.std.specs.Prelude.{option_map}
use Rattle.asl_rules.specs.runs.Forms.{procedure_gives}
use Rattle.asl_value.specs.View.{value_of}
use Rattle.asl_branches.specs.declared.stop.Exit.TheVariants as exit
use Rattle.asl_branches.specs.declared.stop.Mistake.TheVariants as mistake
use Rattle.asl_branches.specs.declared.stop.Stop.TheVariants as stop
use Rattle.asl_branches.specs.Meets.{Ran, at}
use Rattle.asl_branches.specs.View.{core_of, exit_of}
use Rattle.asl_branches.proofs.Answered.{failed, met}
use Rattle.asl_run.specs.private.Calling.{call_given}
use Rattle.asl_run.proofs.Called.{call_goes}
use Rattle.asl_run.proofs.calls.exec_invoke.Goals as goal

pub returns-in_err-call_subprogram : goal.returns-in_err-call_subprogram
returns-in_err-call_subprogram g c =
    let h = g.N.Nodes.setting c.args.here.now in
    let p = err_from_is_err_and c.from_residual.result c.from_residual.ensures.1 in
    rw (p.1, p.2) (failed (option_map value_of) exit_of h.funcs.now h.depth _ _ _
    (call_goes h.funcs.now h.depth c.args.call (core_of c.args.run.now) (procedure_gives c.args.call.span))
    _ c.in_err-call_subprogram.field-0.0 _ _ c.in_err-call_subprogram.ensures)

pub returns-in-Some : goal.returns-in-Some
returns-in-Some g c =
    let h = g.N.Nodes.setting c.args.here.now in
    met (option_map value_of) exit_of h.funcs.now h.depth _ _ _
    (call_goes h.funcs.now h.depth c.args.call (core_of c.args.run.now) (procedure_gives c.args.call.span))
    _ (Some c.in-Some._x) (Err (stop.Stuck mistake.WrongKind c.args.call.span)) _ _ _
    (subst (λ o. Ran (option_map value_of) (Ok o) h (call_given h.funcs.now c.args.call) (at g.K.Sink c.args.run.now c.args.sink.now)
    (at g.K.Sink c.call_subprogram.new.run c.call_subprogram.new.sink)) c.in-Some.is c.in_ok-call_subprogram.ensures)
    (record { meets = refl; counts = refl; same_full = refl; keeps = tt; grows = tt })

pub returns-in-None : goal.returns-in-None
returns-in-None g c =
    let h = g.N.Nodes.setting c.args.here.now in
    met (option_map value_of) exit_of h.funcs.now h.depth _ _ _
    (call_goes h.funcs.now h.depth c.args.call (core_of c.args.run.now) (procedure_gives c.args.call.span))
    _ None (Ok exit.Normal) _ _ _
    (subst (λ o. Ran (option_map value_of) (Ok o) h (call_given h.funcs.now c.args.call) (at g.K.Sink c.args.run.now c.args.sink.now)
    (at g.K.Sink c.call_subprogram.new.run c.call_subprogram.new.sink)) c.in-None.is c.in_ok-call_subprogram.ensures)
    (record {
      meets = refl;
      counts = refl;
      same_full = refl;
      keeps = record { handled = refl; callers = refl; slots = refl; live = refl };
      grows = omega arith;
    })
