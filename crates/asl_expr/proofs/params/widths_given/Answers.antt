use Rattle.std.proofs.Common.{rules, arith, Result, sym, subst}
use Rattle.asl_syn.specs.declared.code.Fault.{Fault}
use Rattle.asl_rules.specs.expressions.Calls.{Replacing}
use Rattle.asl_types.specs.private.Answers.{Met}
use Rattle.asl_subprograms.specs.private.ContextView.{scope_of}
use Rattle.asl_expr.specs.CallViews.{replacing_of}
use Rattle.asl_widths.specs.WidthViews.{width_of}
use Rattle.asl_expr.proofs.ParamLemmas.{written_next, written_opened, written_last}
use Rattle.asl_expr.proofs.params.widths_given.Goals as goal

pub returns-in_err-type_width : goal.returns-in_err-type_width
returns-in_err-type_width c t =
    let gives = written_opened t _ c.args.es.now c.loop-e.e-index c.e-item.result (replacing_of c.loop-e.made) (scope_of c.args.context) (omega (arith, c.loop-e-test.true)) c.e-item.is (c.loop-e.invariant t) in
    let here = c.type_width.ensures t in
    subst (λ (z : Result Replacing Fault). Met replacing_of c.from_residual.result z) (sym gives) (search rules)

pub loop-e-preserved : goal.loop-e-preserved
loop-e-preserved c t =
    let here = c.in_ok-type_width.ensures t in
    written_next t _ c.args.es.now c.loop-e.e-index c.e-item.result (replacing_of c.loop-e.made) (replacing_of c.push_written.new.self) (width_of c.in_ok-type_width.field-0) c.place.result (scope_of c.args.context)
    (omega (arith, c.loop-e-test.true)) c.e-item.is here (c.place.ensures t) (search rules) (c.loop-e.invariant t)

pub returns : goal.returns
returns c t = written_last t _ c.args.es.now c.loop-e.e-index (replacing_of c.loop-e.made) (scope_of c.args.context) (omega (arith, c.loop-e-test.false)) (c.loop-e.invariant t)
