use Rattle.std.proofs.Common.{◌≡◌, ◌∙◌, List, ap, sym, to_z-of_z}
use Rattle.asl_rules.specs.values.Values as rules
use Rattle.asl_value.specs.View as view
use Rattle.asl_value.specs.View.{all_values, kind_of, value_of}
use Rattle.asl_value.specs.declared.value.Kind.{Kind}
use Rattle.asl_value.specs.declared.value.FieldValue.TheOpen as layers
use Rattle.asl_value.specs.declared.value.FieldValue.TheFolds.{fold-roll-Value}
use Rattle.asl_value.specs.declared.value.Value.{Value}
use Rattle.asl_value.specs.declared.value.Value.TheVariants as variants
use Rattle.asl_run.proofs.parts.element_in.Goals as goal

-- what an array stands for
array_there : (x : Value) (k : Kind) (xs ys : List Value) → x ≡ variants.Array k xs → ys ≡ xs →
    value_of x ≡ rules.array_with (kind_of k) (all_values ys)
array_there x k xs ys is same =
    ap value_of (is ∙ sym (variants.rolls-Array k xs)) ∙
    fold-roll-Value view.Of rules.Value view.field_rule view.value_rule (layers.Array k xs) ∙
    ap (λ l. rules.array_with (kind_of k) (all_values l)) (sym same)

pub returns-in-Array : goal.returns-in-Array
returns-in-Array c = λ span.
    let h = simp (to_z-of_z, c.ranges.index) at (c.element_at.ensures span (kind_of c.in-Array.field-0)) in
    let is = array_there c.args.array.now c.in-Array.field-0 c.in-Array.elements _ c.in-Array.is (c.as_slice.ensures ∙ c.get.ensures) in
    rw is h
