-- Whether values belong to written types, one behind another.
use Rattle.std.proofs.Common.{◌≡◌, ℕ, suc, ◌+◌, ◌<◌, ◌≤◌, ◌==◌, Bool, true, false, List, [], ◌∷◌, length, get_or, drop, refl, sym, ap, ◌∙◌, arith}
use Rattle.std.specs.Prelude.{◌&&◌}
use Rattle.asl_rules.specs.types.Closed as cl
use Rattle.asl_rules.specs.values.Values.{has, parts_in, all_in}
use Rattle.asl_value.specs.declared.value.Value.{Value}
use Rattle.asl_value.specs.View.{value_of, all_values}
use Rattle.asl_value.proofs.Among.{at_front, none_after}
use Rattle.asl_shape.specs.declared.filled.Filled.{Filled}
use Rattle.asl_shape.specs.private.Filled.{closed_of, closed_parts}
use Rattle.asl_shape.specs.private.FilledView.{filled_of, all_fills}

some_more : (n : ℕ) → false ≡ (suc n == 0)
some_more n = grind arith

-- ---- the elements of an array

all_from : (xs : List Value) (i : ℕ) (x : Value) (T : Filled) → i < length xs → x ≡ get_or xs i x → all_in (all_values (drop i xs)) (closed_of (filled_of T)) ≡ (has (value_of x) (closed_of (filled_of T)) && all_in (all_values (drop (i + 1) xs)) (closed_of (filled_of T)))
all_from xs i x T within here = ap (λ l. all_in (all_values l) (closed_of (filled_of T))) (at_front xs i x within here)

pub all_here : (xs : List Value) (i : ℕ) (x : Value) (T : Filled) (all : Bool) → i < length xs → x ≡ get_or xs i x → has (value_of x) (closed_of (filled_of T)) ≡ true → all ≡ all_in (all_values (drop i xs)) (closed_of (filled_of T)) → all ≡ all_in (all_values (drop (i + 1) xs)) (closed_of (filled_of T))
all_here xs i x T all within here this before = before ∙ all_from xs i x T within here ∙ ap (λ b. b && all_in (all_values (drop (i + 1) xs)) (closed_of (filled_of T))) this

pub all_apart : (xs : List Value) (i : ℕ) (x : Value) (T : Filled) (all : Bool) → i < length xs → x ≡ get_or xs i x → has (value_of x) (closed_of (filled_of T)) ≡ false → all ≡ all_in (all_values (drop i xs)) (closed_of (filled_of T)) → false ≡ all
all_apart xs i x T all within here this before = sym (before ∙ all_from xs i x T within here ∙ ap (λ b. b && all_in (all_values (drop (i + 1) xs)) (closed_of (filled_of T))) this)

pub all_end : (xs : List Value) (i : ℕ) (T : Filled) (all : Bool) → length xs ≤ i → all ≡ all_in (all_values (drop i xs)) (closed_of (filled_of T)) → true ≡ all
all_end xs i T all past before = sym (before ∙ ap (λ l. all_in (all_values l) (closed_of (filled_of T))) (none_after xs i past))

-- ---- the parts of a tuple

abbrev pub parts_at : List Value → List Filled → Bool
parts_at xs Ts = parts_in (all_values xs) (closed_parts (all_fills Ts))

pub parts_fewer : (rest : List Value) (Ts : List Filled) (i : ℕ) (T : Filled) (all : Bool) → i < length Ts → T ≡ get_or Ts i T → rest ≡ [] → all ≡ parts_at rest (drop i Ts) → false ≡ all
parts_fewer rest Ts i T all within here none before = sym (before ∙ ap (λ l. parts_at l (drop i Ts)) none ∙ ap (parts_at []) (at_front Ts i T within here))

parts_from : (rest more : List Value) (x : Value) (Ts : List Filled) (i : ℕ) (T : Filled) → i < length Ts → T ≡ get_or Ts i T → rest ≡ x ∷ more → parts_at rest (drop i Ts) ≡ (has (value_of x) (closed_of (filled_of T)) && parts_at more (drop (i + 1) Ts))
parts_from rest more x Ts i T within here is = ap (λ l. parts_at l (drop i Ts)) is ∙ ap (parts_at (x ∷ more)) (at_front Ts i T within here)

pub parts_here : (rest more : List Value) (x : Value) (Ts : List Filled) (i : ℕ) (T : Filled) (all : Bool) → i < length Ts → T ≡ get_or Ts i T → rest ≡ x ∷ more → has (value_of x) (closed_of (filled_of T)) ≡ true → all ≡ parts_at rest (drop i Ts) → all ≡ parts_at more (drop (i + 1) Ts)
parts_here rest more x Ts i T all within here is this before = before ∙ parts_from rest more x Ts i T within here is ∙ ap (λ b. b && parts_at more (drop (i + 1) Ts)) this

pub parts_apart : (rest more : List Value) (x : Value) (Ts : List Filled) (i : ℕ) (T : Filled) (all : Bool) → i < length Ts → T ≡ get_or Ts i T → rest ≡ x ∷ more → has (value_of x) (closed_of (filled_of T)) ≡ false → all ≡ parts_at rest (drop i Ts) → false ≡ all
parts_apart rest more x Ts i T all within here is this before = sym (before ∙ parts_from rest more x Ts i T within here is ∙ ap (λ b. b && parts_at more (drop (i + 1) Ts)) this)

none_of_parts : (rest : List Value) → (length rest == 0) ≡ parts_in (all_values rest) cl.no_part
none_of_parts [] = refl
none_of_parts (x ∷ rest) = sym (some_more (length rest))

pub parts_left : (b : Bool) (rest : List Value) (Ts : List Filled) (i : ℕ) (all : Bool) → length Ts ≤ i → b ≡ (length rest == 0) → all ≡ parts_at rest (drop i Ts) → b ≡ all
parts_left b rest Ts i all past is before = is ∙ none_of_parts rest ∙ sym (before ∙ ap (parts_at rest) (none_after Ts i past))
