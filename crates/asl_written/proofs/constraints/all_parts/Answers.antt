use Rattle.std.proofs.Common.{rules, arith, Result, sym, subst}
use Rattle.asl_syn.specs.declared.code.Fault.{Fault}
use Rattle.asl_types.specs.private.Answers.{Met}
use Rattle.asl_subprograms.specs.private.ContextView.{scope_of}
use Rattle.asl_written.specs.private.Constraints.{Gathered, gathered_view, part_view}
use Rattle.asl_written.proofs.ConstraintLemmas.{parts_next, parts_opened, parts_last}
use Rattle.asl_written.proofs.constraints.all_parts.Goals as goal

pub returns-in_err-next : goal.returns-in_err-next
returns-in_err-next c t =
    let gives = parts_opened t _ c.args.parts.now c.loop-p.p-index c.p-item.result (gathered_view c.loop-p.made) (scope_of c.args.context) (omega (arith, c.loop-p-test.true)) c.p-item.is (c.loop-p.invariant t) in
    let here = c.part.ensures t in
    subst (λ (z : Result Gathered Fault). Met gathered_view c.from_residual.result z) (sym gives) (search rules)

pub loop-p-preserved : goal.loop-p-preserved
loop-p-preserved c t =
    parts_next t _ c.args.parts.now c.loop-p.p-index c.p-item.result (gathered_view c.loop-p.made) (gathered_view c.push.new.self) (part_view c.in_ok-next.next) (scope_of c.args.context)
    (omega (arith, c.loop-p-test.true)) c.p-item.is (c.in_ok-next.ensures t) c.in_ok-push.ensures (c.loop-p.invariant t)

pub returns : goal.returns
returns c t = parts_last t _ c.args.parts.now c.loop-p.p-index (gathered_view c.loop-p.made) (scope_of c.args.context) (omega (arith, c.loop-p-test.false)) (c.loop-p.invariant t)
