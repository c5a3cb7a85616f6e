use Rattle.std.proofs.Common.{◌≡◌, ◌<◌, ◌∙◌, false, length, sym, ap, subst, to_z-of_z, rules}
use Rattle.std.specs.Prelude.{slice_set}
use Rattle.asl_rules.specs.values.Structures.{value_at, inside}
use Rattle.asl_rules.specs.runs.Pures.{there}
use Rattle.asl_rules.specs.runs.Plans.{Good}
use Rattle.asl_value.specs.declared.value.Value.TheVariants as v
use Rattle.asl_value.specs.private.Forms.{all_steps}
use Rattle.asl_bits.specs.declared.TheConstants.{WIDTH_LIMIT}
use Rattle.asl_rules.specs.private.ByPlace.{field_at, updated, with_field_at}
use Rattle.asl_value.specs.private.Reaching.{index_in}
use Rattle.asl_value.specs.View.{value_of, all_values, all_fields}
use Rattle.asl_value.proofs.Putting.{fields_put, values_put, elements_none}
use Rattle.asl_value.proofs.replacing.+put.Goals as goal

pub put_in_elements-returns-in-None : goal.put_in_elements-returns-in-None
put_in_elements-returns-in-None t c =
    let h = simp (to_z-of_z, c.ranges.index) at c.in-None.ensures.value in
    let n : c.len.result ≡ length c.args.elements = c.len.ensures ∙ ap (λ l. length l) c.get.ensures in
    elements_none WIDTH_LIMIT c.args.holds_bits c.args.span c.args.index (all_steps c.args.rest.now) (value_of c.args.new) c.args.elements (sym (h ∙ ap (index_in c.args.index) n))

pub put_in_fields-returns : goal.put_in_fields-returns
put_in_fields-returns t c =
    let seen : c.as_slice.result.now ≡ c.args.fields = c.as_slice.ensures ∙ c.get.ensures in
    let held : c.into_inner.result ≡ c.in_ok-part.part = search rules in
    fields_put WIDTH_LIMIT c.args.holds_bits c.args.span c.args.place (all_steps c.args.rest.now) (value_of c.args.new) (value_of (v.Bool false)) (value_of c.in_ok-part.part) (value_of c.in_ok-changed.changed)
    (all_fields c.args.fields) (all_fields c.set_field.new.fields) (all_fields c.set_field-2.new.fields)
    (ap (λ l. there c.args.span (field_at c.args.place (all_fields l))) (sym seen) ∙ c.in_ok-part.ensures.value)
    (ap (λ x. updated WIDTH_LIMIT c.args.holds_bits (all_steps c.args.rest.now) (value_of c.args.new) (value_of x)) (sym held) ∙ c.in_ok-changed.ensures)
    (ap (λ l. with_field_at c.args.place (value_of (v.Bool false)) (all_fields l)) (sym c.in_ok-owned.ensures) ∙ c.in_ok-set_field.ensures.value)
    c.in_ok-set_field-2.ensures.value ∙
    ap (λ l. Good (all_fields l)) (sym c.in_ok-new.ensures)

pub put_in_place-returns : goal.put_in_place-returns
put_in_place-returns t c =
    let seen : c.as_slice.result.now ≡ c.args.elements = c.as_slice.ensures ∙ c.get.ensures in
    let held : c.into_inner.result ≡ c.in_ok-part.part = search rules in
    values_put WIDTH_LIMIT c.args.holds_bits c.args.span c.args.at (all_steps c.args.rest.now) (value_of c.args.new) (value_of c.in_ok-part.part) (v.Bool false) c.in_ok-changed.changed
    c.args.elements c.set.new.self c.set-2.new.self
    (ap (λ l. inside c.args.span (value_at c.args.at (all_values l))) (sym seen) ∙ c.in_ok-part.ensures.value)
    (ap (λ x. updated WIDTH_LIMIT c.args.holds_bits (all_steps c.args.rest.now) (value_of c.args.new) (value_of x)) (sym held) ∙ c.in_ok-changed.ensures)
    (subst (λ l. c.args.at < length l) seen c.in_ok-part.ensures.within)
    (c.set.ensures ∙ ap (λ l. slice_set l c.args.at (v.Bool false)) c.in_ok-owned.ensures)
    c.set-2.ensures ∙
    ap (λ l. Good (all_values l)) (sym c.in_ok-new.ensures)
