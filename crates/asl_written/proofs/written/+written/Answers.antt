use Rattle.std.proofs.Common.{rules, Result, sym, subst}
use Rattle.asl_syn.specs.declared.code.Fault.{Fault}
use Rattle.asl_rules.specs.types.Writing as rule
use Rattle.asl_types.specs.private.Answers.{Met}
use Rattle.asl_subprograms.specs.private.ContextView.{scope_of}
use Rattle.asl_written.specs.WrittenViews.{written_of}
use Rattle.asl_written.specs.private.WrittenTypes.{types_view}
use Rattle.asl_written.proofs.OneTypeLemmas.{marked_types}
use Rattle.asl_written.proofs.WrittenLemmas.{integer_type, tuple_by}
use Rattle.asl_written.proofs.written.+written.Goals as goal

pub type_written-returns-in-IntegerType : goal.type_written-returns-in-IntegerType
type_written-returns-in-IntegerType t c t' suits =
    integer_type t' c.args.ty.now c.in-IntegerType.span c.in-IntegerType.parts c.as_slice.result.now c.args.outside (scope_of c.args.context) c.integer_written.result
    c.in-IntegerType.is c.as_slice.ensures (c.integer_written.ensures t')

pub type_written-returns-in_ok-made-in-TupleType : goal.type_written-returns-in_ok-made-in-TupleType
type_written-returns-in_ok-made-in-TupleType t c t' suits =
    let here = c.in_ok-made-in-TupleType.ensures t' suits in
    subst (λ (z : Result rule.Written Fault). Met written_of c.tuple_written.result z)
    (sym (tuple_by t' c.args.ty.now c.in-TupleType.span c.in-TupleType.parts c.as_slice-parts.result.now c.args.outside (scope_of c.args.context) c.in-TupleType.is c.as_slice-parts.ensures)) (search rules)

pub type_written-tuple_written-requires : goal.type_written-tuple_written-requires
type_written-tuple_written-requires t c = marked_types c.is_one_type.result c.args.outside c.as_slice-parts.result.now (scope_of c.args.context) (types_view c.in_ok-made-in-TupleType.made) c.is_one_type.ensures (λ u suits. c.in_ok-made-in-TupleType.ensures u suits)
