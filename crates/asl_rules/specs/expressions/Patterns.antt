-- Patterns against a type: whether they fit what is held against them, with their shapes and the trees of the expressions in them.
use Rattle.std.specs.Prelude.{pos, nat_le, Bool, true, false, ◌&&◌, List, [], ◌∷◌, ◌++◌, length, Option, Result, Ok}
use Rattle.asl_syn.specs.declared.token.Span.{Span}
use Rattle.asl_syn.specs.declared.code.Fault.{Fault}
use Rattle.asl_syn.specs.declared.code.StaticCode.TheVariants.{T06, T20, T23}
use Rattle.asl_poly.specs.Poly.{constant_map}
use Rattle.asl_rules.specs.declared.effect.Effect.{Effect}
use Rattle.asl_rules.specs.declared.effect.Effect.TheVariants.{Pure}
use Rattle.asl_rules.specs.Faults.{◌>>=◌, ◌>>◌, need, found_or}
use Rattle.asl_rules.specs.Tests.{Tests}
use Rattle.asl_rules.specs.types.Types.{Ty, Parts, boolean, no_part, part, is_integer, is_bits, width_of, tuple_parts}
use Rattle.asl_rules.specs.types.Shapes.{PatternShape, PatternShapes, one_of, masked, in_parts, equal_to, between, no_pattern, pattern_and}
use Rattle.asl_rules.specs.runs.Trees as tree
use Rattle.asl_rules.specs.runs.Trees.{Tree}
use Rattle.asl_rules.specs.declarations.Scopes.{Scope, with_class}
use Rattle.asl_rules.specs.expressions.Typing.{Found, Typed, in_class, trees_from}
use Rattle.asl_rules.specs.expressions.Operations.{comparable}

-- a pattern that fits
pub record Matched : Type 0 where
  pub shape : PatternShape
  pub trees : List Tree

abbrev pub matched : PatternShape → List Tree → Matched
matched p ts = record { shape = p; trees = ts }

-- what is found at a pattern
abbrev pub FoundPattern : Type 0
FoundPattern = Ty → Scope → Result Matched Fault

-- ---- several patterns

abbrev pub all_match : List FoundPattern → Ty → Scope → Result (List Matched) Fault
all_match [] T G = Ok []
all_match (p ∷ ps) T G = p T G >>= λ m. all_match ps T G >>= λ ms. Ok (m ∷ ms)

abbrev pub as_many : List FoundPattern → Parts → Bool
as_many [] no_part = true
as_many [] (part T Ts) = false
as_many (p ∷ ps) no_part = false
as_many (p ∷ ps) (part T Ts) = as_many ps Ts

abbrev pub parts_match : List FoundPattern → Parts → Scope → Result (List Matched) Fault
parts_match (p ∷ ps) (part T Ts) G = p T G >>= λ m. parts_match ps Ts G >>= λ ms. Ok (m ∷ ms)
parts_match ps Ts G = Ok []

abbrev pub pattern_shapes : List Matched → PatternShapes
pattern_shapes [] = no_pattern
pattern_shapes (m ∷ ms) = pattern_and m.shape (pattern_shapes ms)

abbrev pub pattern_trees : List Matched → List Tree
pattern_trees [] = []
pattern_trees (m ∷ ms) = m.trees ++ pattern_trees ms

-- ---- each pattern, its expressions being typed

abbrev pub set_matched : Bool → List Matched → Matched
set_matched b ms = matched (one_of b (pattern_shapes ms)) (pattern_trees ms)

-- a mask has no more digits than the width limit
abbrev pub mask_matched : Tests → Span → List (Option Bool) → Ty → Result Matched Fault
mask_matched t span digits T =
    need (is_bits T) T23 span >> need (t.same (width_of T) (constant_map (pos (length digits)))) T06 span >> need (nat_le (length digits) t.limit) T20 span >>
    Ok (matched (masked span digits) [])

-- below or above an end
abbrev pub end_matched : Span → PatternShape → Ty → Typed → Result Matched Fault
end_matched span p T S = need (is_integer T && is_integer S.ty) T23 span >> Ok (matched p (S.tree ∷ []))

abbrev pub value_matched : Tests → Span → Ty → Typed → Result Matched Fault
value_matched t span T S = comparable t T23 span T S.ty >> Ok (matched (equal_to span) (S.tree ∷ []))

abbrev pub range_matched : Span → Ty → Typed → Typed → Result Matched Fault
range_matched span T S U = need (is_integer T && (is_integer S.ty && is_integer U.ty)) T23 span >> Ok (matched (between span) (S.tree ∷ U.tree ∷ []))

-- an expression in a pattern is Pure
abbrev pub pure_typed : Found → Scope → Result Typed Fault
pure_typed e G = e.typed (with_class G Pure)

abbrev pub tuple_pattern_rule : Span → List FoundPattern → Ty → Scope → Result Matched Fault
tuple_pattern_rule span ps T G =
    found_or (tuple_parts T) T23 span >>= λ Ts.
    need (as_many ps Ts) T23 span >>
    parts_match ps Ts G >>= λ ms. Ok (matched (in_parts span (pattern_shapes ms)) (pattern_trees ms))

-- ---- `IN`

abbrev pub matching : Effect → Span → Typed → Matched → Result Typed Fault
matching class span S m = in_class class span S.effect boolean (λ n. tree.In n S.tree m.shape (trees_from m.trees))

abbrev pub in_rule : Span → Found → FoundPattern → Scope → Result Typed Fault
in_rule span a p G = a.typed G >>= λ S. p S.ty (with_class G Pure) >>= λ m. matching G.class span S m
