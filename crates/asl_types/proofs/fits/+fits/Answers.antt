use Rattle.std.proofs.Common.{sym, subst, ◌∙◌, arith}
use Rattle.asl_types.specs.private.Alike.{IsAlike}
use Rattle.asl_types.proofs.AlikeLemmas.{mark_of, marked, misfit_by_first}
use Rattle.asl_types.proofs.Falling.{tuple_higher}
use Rattle.asl_types.proofs.fits.+fits.Goals as goal

pub misfit_inside-misfit_of_parts-requires : goal.misfit_inside-misfit_of_parts-requires
misfit_inside-misfit_of_parts-requires t c =
    (omega (arith, tuple_higher c.form.result.now c.args.ty.now c.in-Tuple.parts c.as_slice-parts.result.now c.form.ensures c.in-Tuple.is (c.as_slice-parts.ensures ∙ c.get-in-Tuple.ensures)), tt)

pub misfit_inside-misfit_of_firsts-requires : goal.misfit_inside-misfit_of_firsts-requires
misfit_inside-misfit_of_firsts-requires t c = (
  omega (arith, tuple_higher c.form.result.now c.args.ty.now c.in-Tuple.parts c.as_slice-parts.result.now c.form.ensures c.in-Tuple.is (c.as_slice-parts.ensures ∙ c.get-in-Tuple.ensures)),
  (
    marked c.is_alike.result _ (sym c.if-is_alike.true) (mark_of c.is_alike.result c.form.result.now c.args.ty.now c.in-Tuple.parts c.as_slice-parts.result.now c.form.ensures c.in-Tuple.is (c.as_slice-parts.ensures ∙ c.get-in-Tuple.ensures) c.is_alike.ensures),
    marked c.has_alike_parts.result _ (sym c.if-has_alike_parts.true) (subst (IsAlike c.has_alike_parts.result) (sym c.parts_of.ensures) c.has_alike_parts.ensures),
  ),
)

pub misfit_of_firsts-returns-in-Some-split_first : goal.misfit_of_firsts-returns-in-Some-split_first
misfit_of_firsts-returns-in-Some-split_first t c t' right =
    misfit_by_first t' c.misfit_inside.result c.in-Some.first.now c.in-Some-split_first.other.now c.in-Some.field-0-1.now c.in-Some-split_first.field-0-1.now c.args.parts.now c.args.others.now (c.misfit_inside.ensures t' right)
    c.in-Some.ensures.cases.0 c.in-Some-split_first.ensures.cases.0 c.requires.parts c.requires.others
