use Rattle.std.proofs.Common.{rules, Result, sym, subst}
use Rattle.asl_bits.specs.declared.TheConstants.{WIDTH_LIMIT}
use Rattle.asl_syn.specs.declared.code.Fault.{Fault}
use Rattle.asl_rules.specs.expressions.Exprs.{found}
use Rattle.asl_rules.specs.types.Writing as rule
use Rattle.asl_types.specs.private.Answers.{Met}
use Rattle.asl_subprograms.specs.private.ContextView.{scope_of}
use Rattle.asl_widths.specs.WidthViews.{width_of}
use Rattle.asl_written.specs.private.WrittenFields.{found_bitfields}
use Rattle.asl_written.specs.WrittenViews.{written_of}
use Rattle.asl_written.proofs.FieldLemmas.{bits_by}
use Rattle.asl_written.proofs.written.bits_type.Goals as goal

pub returns-in_err-fields : goal.returns-in_err-fields
returns-in_err-fields c t suits =
    let here = c.all_fields.ensures t in
    subst (λ (z : Result rule.Written Fault). Met written_of c.from_residual-in_err-fields.result z)
    (sym (bits_by t WIDTH_LIMIT c.args.outside c.args.span (found t c.args.e.now) (width_of c.in_ok-w.w) (found_bitfields t c.args.fields.now) (scope_of c.args.context) suits.limit (c.in_ok-w.ensures t))) (search rules)

pub returns : goal.returns
returns c t suits =
    let here = c.in_ok-fields.ensures t in
    subst (λ (z : Result rule.Written Fault). Met written_of c.bits_written.result z)
    (sym (bits_by t WIDTH_LIMIT c.args.outside c.args.span (found t c.args.e.now) (width_of c.in_ok-w.w) (found_bitfields t c.args.fields.now) (scope_of c.args.context) suits.limit (c.in_ok-w.ensures t))) (search rules)
