-- Whether values belong to types, one behind another.
use Rattle.std.proofs.Common.{◌≡◌, ℕ, suc, ◌+◌, ◌<◌, ◌≤◌, ◌==◌, Bool, true, false, List, [], ◌∷◌, length, get_or, drop, refl, sym, ap, ◌∙◌, arith}
use Rattle.std.specs.Prelude.{ℤ, pos, negsuc, ◌&&◌}
use Rattle.std.specs.Str.{bytes_eq}
use Rattle.std.specs.Ordering.{int_eq}
use Rattle.std.proofs.lemmas.Int.{ints}
use Rattle.asl_rules.specs.types.Closed as cl
use Rattle.asl_rules.specs.types.Closed.{closed, fields_with, parts_with}
use Rattle.asl_rules.specs.types.Types.{Ty}
use Rattle.asl_rules.specs.values.Values.{has, fields_in, parts_in, all_in, is_width}
use Rattle.asl_types.specs.declared.ty.FieldType.{FieldType}
use Rattle.asl_types.specs.declared.ty.FieldType.TheVariants as f
use Rattle.asl_types.specs.View.{fields_of, parts_of}
use Rattle.asl_value.specs.declared.value.FieldValue.{FieldValue}
use Rattle.asl_value.specs.declared.value.Value.{Value}
use Rattle.asl_value.specs.View.{value_of, field_of, all_values, all_fields}
use Rattle.asl_value.proofs.Among.{at_front, none_after}
use Rattle.asl_shape.specs.private.Having.{has_field}

pub width_is : (n : ℕ) (w : ℤ) → int_eq (pos n) w ≡ is_width n w
width_is n (pos w) = grind (arith, ints)
width_is n (negsuc w) = grind (arith, ints)

some_more : (n : ℕ) → false ≡ (suc n == 0)
some_more n = grind arith

both_then : (a b c : Bool) → ((a && b) && c) ≡ (a && (b && c))
both_then true b c = refl
both_then false b c = refl

-- ---- the elements of an array

all_from : (xs : List Value) (i : ℕ) (x : Value) (T : Ty) → i < length xs → x ≡ get_or xs i x → all_in (all_values (drop i xs)) (closed T) ≡ (has (value_of x) (closed T) && all_in (all_values (drop (i + 1) xs)) (closed T))
all_from xs i x T within here = ap (λ l. all_in (all_values l) (closed T)) (at_front xs i x within here)

pub all_here : (xs : List Value) (i : ℕ) (x : Value) (T : Ty) (all : Bool) → i < length xs → x ≡ get_or xs i x → has (value_of x) (closed T) ≡ true → all ≡ all_in (all_values (drop i xs)) (closed T) → all ≡ all_in (all_values (drop (i + 1) xs)) (closed T)
all_here xs i x T all within here this before = before ∙ all_from xs i x T within here ∙ ap (λ b. b && all_in (all_values (drop (i + 1) xs)) (closed T)) this

pub all_apart : (xs : List Value) (i : ℕ) (x : Value) (T : Ty) (all : Bool) → i < length xs → x ≡ get_or xs i x → has (value_of x) (closed T) ≡ false → all ≡ all_in (all_values (drop i xs)) (closed T) → false ≡ all
all_apart xs i x T all within here this before = sym (before ∙ all_from xs i x T within here ∙ ap (λ b. b && all_in (all_values (drop (i + 1) xs)) (closed T)) this)

pub all_end : (xs : List Value) (i : ℕ) (T : Ty) (all : Bool) → length xs ≤ i → all ≡ all_in (all_values (drop i xs)) (closed T) → true ≡ all
all_end xs i T all past before = sym (before ∙ ap (λ l. all_in (all_values l) (closed T)) (none_after xs i past))

-- ---- the parts of a tuple

abbrev pub parts_at : List Value → List Ty → Bool
parts_at xs Ts = parts_in (all_values xs) (parts_with (parts_of Ts) (λ n. pos 0))

pub parts_fewer : (rest : List Value) (Ts : List Ty) (i : ℕ) (T : Ty) (all : Bool) → i < length Ts → T ≡ get_or Ts i T → rest ≡ [] → all ≡ parts_at rest (drop i Ts) → false ≡ all
parts_fewer rest Ts i T all within here none before = sym (before ∙ ap (λ l. parts_at l (drop i Ts)) none ∙ ap (parts_at []) (at_front Ts i T within here))

parts_from : (rest more : List Value) (x : Value) (Ts : List Ty) (i : ℕ) (T : Ty) → i < length Ts → T ≡ get_or Ts i T → rest ≡ x ∷ more → parts_at rest (drop i Ts) ≡ (has (value_of x) (closed T) && parts_at more (drop (i + 1) Ts))
parts_from rest more x Ts i T within here is = ap (λ l. parts_at l (drop i Ts)) is ∙ ap (parts_at (x ∷ more)) (at_front Ts i T within here)

pub parts_here : (rest more : List Value) (x : Value) (Ts : List Ty) (i : ℕ) (T : Ty) (all : Bool) → i < length Ts → T ≡ get_or Ts i T → rest ≡ x ∷ more → has (value_of x) (closed T) ≡ true → all ≡ parts_at rest (drop i Ts) → all ≡ parts_at more (drop (i + 1) Ts)
parts_here rest more x Ts i T all within here is this before = before ∙ parts_from rest more x Ts i T within here is ∙ ap (λ b. b && parts_at more (drop (i + 1) Ts)) this

pub parts_apart : (rest more : List Value) (x : Value) (Ts : List Ty) (i : ℕ) (T : Ty) (all : Bool) → i < length Ts → T ≡ get_or Ts i T → rest ≡ x ∷ more → has (value_of x) (closed T) ≡ false → all ≡ parts_at rest (drop i Ts) → false ≡ all
parts_apart rest more x Ts i T all within here is this before = sym (before ∙ parts_from rest more x Ts i T within here is ∙ ap (λ b. b && parts_at more (drop (i + 1) Ts)) this)

none_of_parts : (rest : List Value) → (length rest == 0) ≡ parts_in (all_values rest) cl.no_part
none_of_parts [] = refl
none_of_parts (x ∷ rest) = sym (some_more (length rest))

pub parts_left : (b : Bool) (rest : List Value) (Ts : List Ty) (i : ℕ) (all : Bool) → length Ts ≤ i → b ≡ (length rest == 0) → all ≡ parts_at rest (drop i Ts) → b ≡ all
parts_left b rest Ts i all past is before = is ∙ none_of_parts rest ∙ sym (before ∙ ap (parts_at rest) (none_after Ts i past))

-- ---- the fields of a record

abbrev pub fields_at : List FieldValue → List FieldType → Bool
fields_at xs fs = fields_in (all_fields xs) (fields_with (fields_of fs) (λ n. pos 0))

one_more : (x : FieldValue) (more : List FieldValue) (g : FieldType) (fs : List FieldType) → fields_at (x ∷ more) (g ∷ fs) ≡ (has_field (field_of x) g && fields_at more fs)
one_more x more (f.Field n T) fs = sym (both_then (bytes_eq (field_of x).name n) (has (field_of x).value (closed T)) (fields_at more fs))

no_field : (g : FieldType) (fs : List FieldType) → fields_at [] (g ∷ fs) ≡ false
no_field (f.Field n T) fs = refl

pub fields_fewer : (rest : List FieldValue) (fs : List FieldType) (i : ℕ) (g : FieldType) (all : Bool) → i < length fs → g ≡ get_or fs i g → rest ≡ [] → all ≡ fields_at rest (drop i fs) → false ≡ all
fields_fewer rest fs i g all within here none before = sym (before ∙ ap (λ l. fields_at l (drop i fs)) none ∙ ap (fields_at []) (at_front fs i g within here) ∙ no_field g (drop (i + 1) fs))

fields_from : (rest more : List FieldValue) (x : FieldValue) (fs : List FieldType) (i : ℕ) (g : FieldType) → i < length fs → g ≡ get_or fs i g → rest ≡ x ∷ more → fields_at rest (drop i fs) ≡ (has_field (field_of x) g && fields_at more (drop (i + 1) fs))
fields_from rest more x fs i g within here is = ap (λ l. fields_at l (drop i fs)) is ∙ ap (fields_at (x ∷ more)) (at_front fs i g within here) ∙ one_more x more g (drop (i + 1) fs)

pub fields_here : (rest more : List FieldValue) (x : FieldValue) (fs : List FieldType) (i : ℕ) (g : FieldType) (all : Bool) → i < length fs → g ≡ get_or fs i g → rest ≡ x ∷ more → has_field (field_of x) g ≡ true → all ≡ fields_at rest (drop i fs) → all ≡ fields_at more (drop (i + 1) fs)
fields_here rest more x fs i g all within here is this before = before ∙ fields_from rest more x fs i g within here is ∙ ap (λ b. b && fields_at more (drop (i + 1) fs)) this

pub fields_apart : (rest more : List FieldValue) (x : FieldValue) (fs : List FieldType) (i : ℕ) (g : FieldType) (all : Bool) → i < length fs → g ≡ get_or fs i g → rest ≡ x ∷ more → has_field (field_of x) g ≡ false → all ≡ fields_at rest (drop i fs) → false ≡ all
fields_apart rest more x fs i g all within here is this before = sym (before ∙ fields_from rest more x fs i g within here is ∙ ap (λ b. b && fields_at more (drop (i + 1) fs)) this)

none_of_fields : (rest : List FieldValue) → (length rest == 0) ≡ fields_in (all_fields rest) cl.no_field
none_of_fields [] = refl
none_of_fields (x ∷ rest) = sym (some_more (length rest))

pub fields_left : (b : Bool) (rest : List FieldValue) (fs : List FieldType) (i : ℕ) (all : Bool) → length fs ≤ i → b ≡ (length rest == 0) → all ≡ fields_at rest (drop i fs) → b ≡ all
fields_left b rest fs i all past is before = is ∙ none_of_fields rest ∙ sym (before ∙ ap (fields_at rest) (none_after fs i past))
