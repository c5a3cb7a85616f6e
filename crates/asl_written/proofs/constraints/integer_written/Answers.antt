use Rattle.std.proofs.Common.{rules, Result, sym, subst}
use Rattle.asl_syn.specs.declared.code.Fault.{Fault}
use Rattle.asl_rules.specs.types.Writing as rule
use Rattle.asl_types.specs.private.Answers.{Met}
use Rattle.asl_subprograms.specs.private.ContextView.{scope_of}
use Rattle.asl_written.specs.private.Constraints.{found_parts}
use Rattle.asl_written.specs.WrittenViews.{written_of}
use Rattle.asl_written.proofs.ConstraintLemmas.{integer_by}
use Rattle.asl_written.proofs.constraints.integer_written.Goals as goal

pub returns-in_err-made : goal.returns-in_err-made
returns-in_err-made c t =
    let here = c.all_parts.ensures t in
    subst (λ (z : Result rule.Written Fault). Met written_of c.from_residual.result z) (sym (integer_by c.args.span (rule.all_parts (found_parts t c.args.parts.now) (scope_of c.args.context)))) (search rules)

pub returns : goal.returns
returns c t =
    let here = c.in_ok-made.ensures t in
    subst (λ (z : Result rule.Written Fault). Met written_of c.integer.result z) (sym (integer_by c.args.span (rule.all_parts (found_parts t c.args.parts.now) (scope_of c.args.context)))) (search rules)
