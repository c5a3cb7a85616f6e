-- Whether a value matches a pattern, with the values of the expressions in it. All of them were evaluated, also where an earlier
-- part decides.
use Rattle.std.specs.Prelude.{ℕ, ◌==◌, Bool, true, false, not, ◌&&◌, ◌||◌, if◌then◌else◌, List, [], ◌∷◌, length, Option}
use Rattle.asl_syn.specs.declared.token.Span.{Span}
use Rattle.asl_syn.specs.declared.tree.BinaryOperator.TheVariants as binary
use Rattle.asl_mask.specs.Digits.{mask_matches}
use Rattle.asl_rules.specs.types.Closed.{not_above}
use Rattle.asl_rules.specs.types.Shapes.{PatternShape, PatternShapes, anything, one_of, masked, at_most, at_least, in_parts, equal_to, between, no_pattern, pattern_and}
use Rattle.asl_rules.specs.values.Values.{Value, int, bits_with}
use Rattle.asl_rules.specs.runs.Plans.{Stuck, WrongKind, Pure, Good, Bad}
use Rattle.asl_rules.specs.runs.Pures.{◌>>=◌}
use Rattle.asl_rules.specs.values.Operators.{binary_value, truth}
use Rattle.asl_rules.specs.values.Structures.{parts}

-- whether a value matches, and the values that are left
pub record Matched : Type 0 where
  pub holds : Bool
  pub left : List Value

abbrev pub matched : Bool → List Value → Pure Matched
matched b zs = Good (record { holds = b; left = zs })

-- bits of the width of the mask
abbrev pub mask_match : Span → List (Option Bool) → Value → List Value → Pure Matched
mask_match span ms (bits_with bs v) zs = if length ms == length bs then matched (mask_matches ms bs) zs else Bad (Stuck WrongKind span)
mask_match span ms x zs = Bad (Stuck WrongKind span)

-- as `==`
abbrev pub value_match : ℕ → Span → Value → List Value → Pure Matched
value_match limit span x (y ∷ zs) = binary_value limit span binary.Equal x y >>= λ r. truth span r >>= λ b. matched b zs
value_match limit span x [] = Bad (Stuck WrongKind span)

abbrev pub at_most_match : Span → Value → List Value → Pure Matched
at_most_match span (int a) (int b ∷ zs) = matched (not_above a b) zs
at_most_match span x zs = Bad (Stuck WrongKind span)

abbrev pub at_least_match : Span → Value → List Value → Pure Matched
at_least_match span (int a) (int b ∷ zs) = matched (not_above b a) zs
at_least_match span x zs = Bad (Stuck WrongKind span)

abbrev pub range_match : Span → Value → List Value → Pure Matched
range_match span (int a) (int l ∷ int h ∷ zs) = matched (not_above l a && not_above a h) zs
range_match span x zs = Bad (Stuck WrongKind span)

-- `!{..}` holds where `{..}` doesn't
abbrev pub negated_or : Bool → Matched → Pure Matched
negated_or true m = matched (not m.holds) m.left
negated_or false m = Good m

abbrev mutual
  pub matches : ℕ → PatternShape → Value → List Value → Pure Matched
  matches limit anything x zs = matched true zs
  matches limit (one_of negated ps) x zs = any_match limit ps x zs >>= λ m. negated_or negated m
  matches limit (masked span ms) x zs = mask_match span ms x zs
  matches limit (at_most span) x zs = at_most_match span x zs
  matches limit (at_least span) x zs = at_least_match span x zs
  matches limit (in_parts span ps) x zs = parts span x >>= λ xs. all_match limit span ps xs zs
  matches limit (equal_to span) x zs = value_match limit span x zs
  matches limit (between span) x zs = range_match span x zs

  -- one of the patterns at least
  pub any_match : ℕ → PatternShapes → Value → List Value → Pure Matched
  any_match limit no_pattern x zs = matched false zs
  any_match limit (pattern_and p ps) x zs = matches limit p x zs >>= λ m. any_match limit ps x m.left >>= λ n. matched (m.holds || n.holds) n.left

  -- each part of a tuple by its pattern, where there are as many
  pub all_match : ℕ → Span → PatternShapes → List Value → List Value → Pure Matched
  all_match limit span no_pattern [] zs = matched true zs
  all_match limit span no_pattern (x ∷ xs) zs = Bad (Stuck WrongKind span)
  all_match limit span (pattern_and p ps) [] zs = Bad (Stuck WrongKind span)
  all_match limit span (pattern_and p ps) (x ∷ xs) zs = matches limit p x zs >>= λ m. all_match limit span ps xs m.left >>= λ n. matched (m.holds && n.holds) n.left

-- whether one of some patterns matches
abbrev pub is_matched : ℕ → PatternShapes → List Value → Value → Pure Bool
is_matched limit ps zs x = any_match limit ps x zs >>= λ m. Good m.holds
