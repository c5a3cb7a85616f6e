-- First values of written types, one behind another.
use Rattle.std.proofs.Common.{◌≡◌, ℕ, ◌+◌, ◌<◌, ◌≤◌, List, [], ◌∷◌, ◌++◌, length, get_or, drop, sym, ap, ◌∙◌}
use Rattle.asl_syn.specs.declared.token.Span.{Span}
use Rattle.asl_rules.specs.values.Values.{Values, value}
use Rattle.asl_rules.specs.runs.Plans.{Pure, Good}
use Rattle.asl_rules.specs.runs.Pures.{◌>>=◌}
use Rattle.asl_value.specs.declared.value.Value.{Value}
use Rattle.asl_value.specs.View.{value_of, all_values}
use Rattle.asl_value.proofs.Among.{at_front, none_after}
use Rattle.asl_shape.specs.declared.filled.Filled.{Filled}
use Rattle.asl_shape.specs.private.Filled.{first_filled, first_fills}
use Rattle.asl_shape.specs.private.FilledView.{filled_of, all_fills}
use Rattle.asl_shape.proofs.FirstFields.{parts_behind, push_part, front_end}

pub fill_more : (limit : ℕ) (whole : Span) (ts : List Filled) (i : ℕ) (t : Filled) (made after : List Value) (x : Value) (all : Pure Values) → i < length ts → t ≡ get_or ts i t → first_filled limit whole (filled_of t) ≡ Good (value_of x) → after ≡ made ++ x ∷ []
    → all ≡ parts_behind made (first_fills limit whole (all_fills (drop i ts))) → all ≡ parts_behind after (first_fills limit whole (all_fills (drop (i + 1) ts)))
fill_more limit whole ts i t made after x all within here this grown old =
    old ∙ ap (λ l. parts_behind made (first_fills limit whole (all_fills l))) (at_front ts i t within here) ∙ ap (λ r. parts_behind made (r >>= λ y. first_fills limit whole (all_fills (drop (i + 1) ts)) >>= λ ys. Good (value y ys))) this ∙
    push_part made x (first_fills limit whole (all_fills (drop (i + 1) ts))) ∙ ap (λ l. parts_behind l (first_fills limit whole (all_fills (drop (i + 1) ts)))) (sym grown)

pub fills_end : (limit : ℕ) (whole : Span) (ts : List Filled) (i : ℕ) (made : List Value) (all : Pure Values) → length ts ≤ i → all ≡ parts_behind made (first_fills limit whole (all_fills (drop i ts))) → all ≡ Good (all_values made)
fills_end limit whole ts i made all past old = old ∙ ap (λ l. parts_behind made (first_fills limit whole (all_fills l))) (none_after ts i past) ∙ ap Good (front_end made)
