-- First values of fields and of parts, one behind another.
use Rattle.std.proofs.Common.{◌≡◌, ℕ, ◌+◌, ◌<◌, ◌≤◌, List, [], ◌∷◌, ◌++◌, length, get_or, drop, Err, refl, sym, ap, ◌∙◌}
use Rattle.std.specs.Prelude.{pos, map}
use Rattle.asl_syn.specs.declared.token.Span.{Span}
use Rattle.asl_rules.specs.types.Closed.{closed, fields_with, parts_with}
use Rattle.asl_rules.specs.types.Types.{Ty}
use Rattle.asl_rules.specs.values.Values as rules
use Rattle.asl_rules.specs.values.Values.{FieldValues, Values, value, value_of_field, no_value}
use Rattle.asl_rules.specs.types.Written.{first_value, first_fields, first_parts}
use Rattle.asl_rules.specs.runs.Plans.{End, Faulted, Stuck, WrongKind, UnknownType, Pure, Good, Bad}
use Rattle.asl_rules.specs.runs.Pures.{◌>>=◌}
use Rattle.asl_types.specs.declared.ty.FieldType.{FieldType}
use Rattle.asl_types.specs.declared.ty.FieldType.TheVariants as f
use Rattle.asl_types.specs.View.{fields_of, parts_of}
use Rattle.asl_value.specs.declared.value.FieldValue.{FieldValue}
use Rattle.asl_value.specs.declared.value.Value.{Value}
use Rattle.asl_value.specs.private.Answers.{Is}
use Rattle.asl_value.specs.declared.failure.Failure.{Failure}
use Rattle.asl_value.specs.declared.failure.Failure.TheVariants as failure
use Rattle.asl_value.specs.View.{Of, value_of, field_of, all_values, all_fields}
use Rattle.asl_value.proofs.Among.{at_front, none_after}
use Rattle.asl_value.proofs.Lists.{in_front}
use Rattle.asl_shape.specs.private.First.{first_of_field}
use Rattle.asl_shape.proofs.Fields.{before, before_more, before_end}

-- ---- fields

abbrev pub fields_first : ℕ → Span → List FieldType → Pure FieldValues
fields_first limit span fs = first_fields limit span (fields_with (fields_of fs) (λ n. pos 0))

-- those made in front of those left
abbrev pub fields_behind : List FieldValue → Pure FieldValues → Pure FieldValues
fields_behind made r = r >>= λ ys. Good (before (map field_of made) ys)

pub fields_begin : (r : Pure FieldValues) → r ≡ fields_behind [] r
fields_begin (Good ys) = refl
fields_begin (Bad e) = refl

abbrev named : List ℕ → rules.Value → Of
named n x = record { name = n; value = x }

one_field : (n : List ℕ) (r : Pure rules.Value) (o : Of) (rest : Pure FieldValues) → (r >>= λ x. Good (named n x)) ≡ Good o
    → (r >>= λ x. rest >>= λ xs. Good (value_of_field n x xs)) ≡ (rest >>= λ xs. Good (value_of_field o.name o.value xs))
one_field n (Good v) o rest h = let e : named n v ≡ o = cc in ap (λ q. rest >>= λ xs. Good (value_of_field q.name q.value xs)) e
one_field n (Bad e) o rest h = cc

front_field : (limit : ℕ) (span : Span) (g : FieldType) (fs : List FieldType) (o : Of) → first_of_field limit span g ≡ Good o → fields_first limit span (g ∷ fs) ≡ (fields_first limit span fs >>= λ xs. Good (value_of_field o.name o.value xs))
front_field limit span (f.Field n T) fs o h = one_field n (first_value limit span (closed T)) o (fields_first limit span fs) h

bad_field : (n : List ℕ) (r : Pure rules.Value) (e : End) (rest : Pure FieldValues) → (r >>= λ x. Good (named n x)) ≡ Bad e → (r >>= λ x. rest >>= λ xs. Good (value_of_field n x xs)) ≡ Bad e
bad_field n (Good v) e rest h = cc
bad_field n (Bad d) e rest h = let same : d ≡ e = cc in ap (λ z. Bad z) same

front_bad : (limit : ℕ) (span : Span) (g : FieldType) (fs : List FieldType) (e : End) → first_of_field limit span g ≡ Bad e → fields_first limit span (g ∷ fs) ≡ Bad e
front_bad limit span (f.Field n T) fs e h = bad_field n (first_value limit span (closed T)) e (fields_first limit span fs) h

stopped : (limit : ℕ) (span : Span) (fs : List FieldType) (i : ℕ) (g : FieldType) (made : List FieldValue) (e : End) (all : Pure FieldValues) → i < length fs → g ≡ get_or fs i g → first_of_field limit span g ≡ Bad e
    → all ≡ fields_behind made (fields_first limit span (drop i fs)) → all ≡ Bad e
stopped limit span fs i g made e all within here this old =
    old ∙ ap (λ l. fields_behind made (fields_first limit span l)) (at_front fs i g within here) ∙ ap (fields_behind made) (front_bad limit span g (drop (i + 1) fs) e this)

pub field_fails : (limit : ℕ) (span : Span) (fs : List FieldType) (i : ℕ) (g : FieldType) (made : List FieldValue) (e : Failure) (all : Pure FieldValues) → i < length fs → g ≡ get_or fs i g → Is field_of (Err e) (first_of_field limit span g)
    → all ≡ fields_behind made (fields_first limit span (drop i fs)) → Is all_fields (Err e) all
field_fails limit span fs i g made (failure.Fault code at) all within here this old = stopped limit span fs i g made (Faulted code at) all within here this old
field_fails limit span fs i g made (failure.WrongKind at) all within here this old = stopped limit span fs i g made (Stuck WrongKind at) all within here this old
field_fails limit span fs i g made (failure.UnknownType at) all within here this old = stopped limit span fs i g made (Stuck UnknownType at) all within here this old
field_fails limit span fs i g made failure.NoMemory all within here this old = tt

push_field : (made : List FieldValue) (x : FieldValue) (r : Pure FieldValues) → fields_behind made (r >>= λ xs. Good (value_of_field (field_of x).name (field_of x).value xs)) ≡ fields_behind (made ++ x ∷ []) r
push_field made x (Good ys) = ap Good (sym (before_more made x ys))
push_field made x (Bad e) = refl

pub field_more : (limit : ℕ) (span : Span) (fs : List FieldType) (i : ℕ) (g : FieldType) (made after : List FieldValue) (x : FieldValue) (all : Pure FieldValues) → i < length fs → g ≡ get_or fs i g → first_of_field limit span g ≡ Good (field_of x) → after ≡ made ++ x ∷ []
    → all ≡ fields_behind made (fields_first limit span (drop i fs)) → all ≡ fields_behind after (fields_first limit span (drop (i + 1) fs))
field_more limit span fs i g made after x all within here this grown old =
    old ∙ ap (λ l. fields_behind made (fields_first limit span l)) (at_front fs i g within here) ∙ ap (fields_behind made) (front_field limit span g (drop (i + 1) fs) (field_of x) this) ∙
    push_field made x (fields_first limit span (drop (i + 1) fs)) ∙ ap (λ l. fields_behind l (fields_first limit span (drop (i + 1) fs))) (sym grown)

pub fields_end : (limit : ℕ) (span : Span) (fs : List FieldType) (i : ℕ) (made : List FieldValue) (all : Pure FieldValues) → length fs ≤ i → all ≡ fields_behind made (fields_first limit span (drop i fs)) → all ≡ Good (all_fields made)
fields_end limit span fs i made all past old = old ∙ ap (λ l. fields_behind made (fields_first limit span l)) (none_after fs i past) ∙ ap Good (before_end (map field_of made))

-- ---- parts

abbrev pub parts_first : ℕ → Span → List Ty → Pure Values
parts_first limit span Ts = first_parts limit span (parts_with (parts_of Ts) (λ n. pos 0))

abbrev pub parts_behind : List Value → Pure Values → Pure Values
parts_behind made r = r >>= λ ys. Good (in_front made ys)

pub parts_begin : (r : Pure Values) → r ≡ parts_behind [] r
parts_begin (Good ys) = refl
parts_begin (Bad e) = refl

front_grown : (made : List Value) (x : Value) (ys : Values) → in_front made (value (value_of x) ys) ≡ in_front (made ++ x ∷ []) ys
front_grown [] x ys = refl
front_grown (y ∷ made) x ys = ap (value (value_of y)) (front_grown made x ys)

pub push_part : (made : List Value) (x : Value) (r : Pure Values) → parts_behind made (r >>= λ xs. Good (value (value_of x) xs)) ≡ parts_behind (made ++ x ∷ []) r
push_part made x (Good ys) = ap Good (front_grown made x ys)
push_part made x (Bad e) = refl

pub part_more : (limit : ℕ) (span : Span) (Ts : List Ty) (i : ℕ) (T : Ty) (made after : List Value) (x : Value) (all : Pure Values) → i < length Ts → T ≡ get_or Ts i T → first_value limit span (closed T) ≡ Good (value_of x) → after ≡ made ++ x ∷ []
    → all ≡ parts_behind made (parts_first limit span (drop i Ts)) → all ≡ parts_behind after (parts_first limit span (drop (i + 1) Ts))
part_more limit span Ts i T made after x all within here this grown old =
    old ∙ ap (λ l. parts_behind made (parts_first limit span l)) (at_front Ts i T within here) ∙ ap (λ r. parts_behind made (r >>= λ y. parts_first limit span (drop (i + 1) Ts) >>= λ ys. Good (value y ys))) this ∙
    push_part made x (parts_first limit span (drop (i + 1) Ts)) ∙ ap (λ l. parts_behind l (parts_first limit span (drop (i + 1) Ts))) (sym grown)

pub front_end : (made : List Value) → in_front made no_value ≡ all_values made
front_end [] = refl
front_end (x ∷ made) = ap (value (value_of x)) (front_end made)

pub parts_end : (limit : ℕ) (span : Span) (Ts : List Ty) (i : ℕ) (made : List Value) (all : Pure Values) → length Ts ≤ i → all ≡ parts_behind made (parts_first limit span (drop i Ts)) → all ≡ Good (all_values made)
parts_end limit span Ts i made all past old = old ∙ ap (λ l. parts_behind made (parts_first limit span l)) (none_after Ts i past) ∙ ap Good (front_end made)
