-- Slices of bits and of integers.
use Rattle.std.specs.Prelude.{pos, Bool, true, ◌&&◌, ◌||◌, List, [], ◌∷◌, ◌++◌, Result, Ok}
use Rattle.asl_syn.specs.declared.token.Span.{Span}
use Rattle.asl_syn.specs.declared.code.Fault.{Fault}
use Rattle.asl_syn.specs.declared.code.StaticCode.TheVariants.{T08}
use Rattle.asl_poly.specs.Terms.{Polynomial}
use Rattle.asl_poly.specs.Poly.{constant_map}
use Rattle.asl_rules.specs.declared.effect.Effect.{Effect}
use Rattle.asl_rules.specs.declared.effect.Effect.TheVariants.{Pure}
use Rattle.asl_rules.specs.Faults.{◌>>=◌, ◌>>◌, need}
use Rattle.asl_rules.specs.types.Types.{Ty, bits_of, is_bits, is_integer}
use Rattle.asl_rules.specs.types.Shapes.{SliceShape, at_bit, high_low, low_width, factor_width}
use Rattle.asl_rules.specs.runs.Trees as tree
use Rattle.asl_rules.specs.types.Effects.{all_together, greatest}
use Rattle.asl_rules.specs.declarations.Scopes.{Scope}
use Rattle.asl_rules.specs.types.Widths.{Total, plus, minus, plus_number, totalled}
use Rattle.asl_rules.specs.expressions.Typing.{Found, Typed, Operand, finish, operands, effects_of, trees_of}

-- what is found at a slice: its expressions in order, and what it adds to the width
pub record FoundSlice : Type 0 where
  pub operands : Scope → Result (List Operand) Fault
  pub adds : Total → Scope → Result Total Fault
  pub shape : SliceShape

-- each by its form
abbrev pub bit_found : Found → FoundSlice
bit_found e = record { operands = operands (e ∷ []); adds = λ x G. Ok (plus_number x 1); shape = at_bit }

abbrev pub high_low_found : Found → Found → FoundSlice
high_low_found a b = record {
  operands = operands (a ∷ b ∷ []);
  adds = λ x G. a.width G >>= λ p. b.width G >>= λ q. Ok (plus_number (minus (plus x p.poly) q.poly) 1);
  shape = high_low;
}

abbrev pub low_width_found : Found → Found → FoundSlice
low_width_found a b = record { operands = operands (a ∷ b ∷ []); adds = λ x G. b.width G >>= λ p. Ok (plus x p.poly); shape = low_width }

abbrev pub factor_width_found : Found → Found → FoundSlice
factor_width_found a b = record { operands = operands (a ∷ b ∷ []); adds = λ x G. b.width G >>= λ p. Ok (plus x p.poly); shape = factor_width }

abbrev pub all_operands : List FoundSlice → Scope → Result (List Operand) Fault
all_operands [] G = Ok []
all_operands (s ∷ ss) G = s.operands G >>= λ os. all_operands ss G >>= λ ps. Ok (os ++ ps)

abbrev pub shapes_of : List FoundSlice → List SliceShape
shapes_of [] = []
shapes_of (s ∷ ss) = s.shape ∷ shapes_of ss

abbrev pub all_integers : List Operand → Bool
all_integers [] = true
all_integers (o ∷ os) = is_integer o.typed.ty && all_integers os

abbrev pub no_width : Total
no_width = record { sum = constant_map (pos 0); weight = 0; denominator = 1; atoms = [] }

abbrev pub all_add : List FoundSlice → Total → Scope → Result Total Fault
all_add [] x G = Ok x
all_add (s ∷ ss) x G = s.adds x G >>= λ y. all_add ss y G

-- the sum of the widths of all slices
abbrev pub sliced_width : Span → List FoundSlice → Scope → Result Polynomial Fault
sliced_width span ss G = all_add ss no_width G >>= λ x. totalled span x

-- slices of bits or of an integer, at integers
abbrev pub sliceable : Span → Ty → List Operand → Result (Unit {0}) Fault
sliceable span S os = need ((is_bits S || is_integer S) && all_integers os) T08 span

abbrev pub slices_behind : Effect → Span → Typed → List SliceShape → List Operand → Polynomial → Result Typed Fault
slices_behind class span S shapes os w =
    finish class span (all_together Pure (S.effect ∷ effects_of os)) (greatest Pure (S.effect ∷ effects_of os)) (bits_of w []) (λ n. tree.Slices n S.tree shapes (trees_of os))

abbrev pub slices_rule : Span → Found → List FoundSlice → Scope → Result Typed Fault
slices_rule span a ss G =
    a.typed G >>= λ S. all_operands ss G >>= λ os.
    sliceable span S.ty os >>
    sliced_width span ss G >>= λ w.
    slices_behind G.class span S (shapes_of ss) os w
