-- What the code finds of values that are given in order, one behind another.
use Rattle.std.specs.Prelude.{ℕ, ℤ, pos, negsuc, Bool, List, [], ◌∷◌, map, drop, Option, Some, None, option_and_then}
use Rattle.asl_syn.specs.declared.token.Span.{Span}
use Rattle.asl_syn.specs.declared.tree.BinaryOperator.TheVariants.{Equal}
use Rattle.asl_rules.specs.values.Matching as rules
use Rattle.asl_rules.specs.values.Operators.{binary_value, truth}
use Rattle.asl_rules.specs.runs.Plans.{Pure}
use Rattle.asl_rules.specs.runs.Pures.{◌>>=◌}
use Rattle.asl_rules.specs.values.Values as values
use Rattle.asl_value.specs.declared.value.Value.{Value}
use Rattle.asl_value.specs.View.{value_of}
use Rattle.asl_shape.specs.private.Arguments.{integer_in}
use Rattle.asl_shape.specs.declared.matching.Matched.{Matched}

-- the values from a place on
abbrev pub values_from : List Value → ℕ → List values.Value
values_from xs i = map value_of (drop i xs)

-- whether a value matches, and the values that are left of these
abbrev pub matched_at : List Value → Matched → rules.Matched
matched_at xs m = record { holds = m.holds; left = values_from xs m.next }

-- as `==`
abbrev pub are_equal : ℕ → Span → values.Value → values.Value → Pure Bool
are_equal limit span x y = binary_value limit span Equal x y >>= λ r. truth span r

-- the integer in front
abbrev pub integer_in_front : List values.Value → Option ℤ
integer_in_front [] = None
integer_in_front (x ∷ xs) = integer_in x

abbrev pub natural : ℤ → Option ℕ
natural (pos n) = Some n
natural (negsuc n) = None

-- the number in front
abbrev pub natural_in_front : List values.Value → Option ℕ
natural_in_front xs = option_and_then natural (integer_in_front xs)
