use Rattle.std.proofs.Common.{length, sym, ap, ◌∙◌, arith}
use Rattle.std.specs.Prelude.{replicate}
use Rattle.asl_rules.specs.types.Types.{tuple_of}
use Rattle.asl_types.specs.View.{parts_of}
use Rattle.asl_types.proofs.Building.{widened_built}
use Rattle.asl_types.proofs.AlikeLemmas.{mark_of, marked, widened_first}
use Rattle.asl_types.proofs.Falling.{tuple_higher}
use Rattle.asl_types.proofs.baring.+widened.Goals as goal

pub widened_parts-returns : goal.widened_parts-returns
widened_parts-returns t c = widened_built c.loop-part.wide c.args.parts.now c.loop-part.part-index (omega arith) c.loop-part.invariant

pub widened-widened_parts-requires : goal.widened-widened_parts-requires
widened-widened_parts-requires t c =
    (omega (arith, tuple_higher c.form.result.now c.args.ty.now c.in-Tuple.parts c.as_slice-in-Tuple.result.now c.form.ensures c.in-Tuple.is (c.as_slice-in-Tuple.ensures ∙ c.get-in-Tuple.ensures)), tt)

pub widened-widened_alike-requires : goal.widened-widened_alike-requires
widened-widened_alike-requires t c = (
  omega (arith, tuple_higher c.form.result.now c.args.ty.now c.in-Tuple.parts c.as_slice.result.now c.form.ensures c.in-Tuple.is (c.as_slice.ensures ∙ c.get.ensures)),
  marked c.is_alike.result _ (sym c.if-is_alike.true) (mark_of c.is_alike.result c.form.result.now c.args.ty.now c.in-Tuple.parts c.as_slice.result.now c.form.ensures c.in-Tuple.is (c.as_slice.ensures ∙ c.get.ensures) c.is_alike.ensures),
)

pub widened_alike-returns-in_ok-ty-in-Some : goal.widened_alike-returns-in_ok-ty-in-Some
widened_alike-returns-in_ok-ty-in-Some t c =
    c.in_ok-ty-in-Some.ensures
    ∙ ap (λ U. tuple_of (parts_of (replicate (length c.args.parts.now) U))) (c.get.ensures ∙ c.new-part.ensures ∙ c.in_ok-widened-in-Some.ensures)
    ∙ widened_first c.in-Some.first.now c.in-Some.field-0-1.now c.args.parts.now c.in-Some.ensures.cases.0 c.requires
