-- The fields of a construction, one behind another.
use Rattle.std.proofs.Common.{◌≡◌, ℕ, zero, suc, ◌+◌, ◌<◌, ◌≤◌, List, [], ◌∷◌, ◌++◌, length, get_or, drop, Option, Some, None, refl, sym, ap, ◌∙◌, arith}
use Rattle.std.specs.Prelude.{map, option_map, slice_get}
use Rattle.asl_syn.specs.declared.token.Span.{Span}
use Rattle.asl_rules.specs.values.Values as rules
use Rattle.asl_rules.specs.values.Values.{FieldValues, no_value_of, value_of_field}
use Rattle.asl_rules.specs.runs.Pures.{there}
use Rattle.asl_rules.specs.runs.Plans.{Stuck, WrongKind, Good, Bad}
use Rattle.asl_value.specs.declared.value.Value.{Value}
use Rattle.asl_value.specs.declared.value.FieldValue.{FieldValue}
use Rattle.asl_shape.specs.declared.shapes.FieldGiven.{FieldGiven}
use Rattle.asl_shape.specs.View.{all_given}
use Rattle.asl_rules.specs.types.Types.{Ty}
use Rattle.asl_rules.specs.private.ByPlace.{seen_as, filled, fields_from}
use Rattle.asl_value.specs.View.{Of, value_of, field_of, fields_of, all_fields}
use Rattle.asl_value.proofs.Among.{at_front, none_after}

-- fields in front of others
abbrev pub before : List Of → FieldValues → FieldValues
before [] ys = ys
before (x ∷ xs) ys = value_of_field x.name x.value (before xs ys)

-- the fields, where those made are in front of those left
abbrev pub fields_with : List FieldValue → List FieldGiven → List Value → Option FieldValues
fields_with made left values = option_map (before (map field_of made)) (fields_from (all_given left) (map value_of values))

pub before_end : (xs : List Of) → before xs no_value_of ≡ fields_of xs
before_end [] = refl
before_end (x ∷ xs) = ap (value_of_field x.name x.value) (before_end xs)

pub before_more : (xs : List FieldValue) (x : FieldValue) (ys : FieldValues) → before (map field_of (xs ++ x ∷ [])) ys ≡ before (map field_of xs) (value_of_field (field_of x).name (field_of x).value ys)
before_more [] x ys = refl
before_more (y ∷ xs) x ys = ap (value_of_field (field_of y).name (field_of y).value) (before_more xs x ys)

same_option : (o : Option FieldValues) → o ≡ option_map (before []) o
same_option None = refl
same_option (Some x) = refl

pub none_given : (gs : List FieldGiven) (values : List Value) → fields_from (all_given gs) (map value_of values) ≡ fields_with [] gs values
none_given gs values = same_option (fields_from (all_given gs) (map value_of values))

value_in : (xs : List Value) (i : ℕ) (x : Value) → i < length xs → x ≡ get_or xs i x → slice_get (map value_of xs) i ≡ Some (value_of x)
value_in [] i x h e = absurd (omega (arith, h))
value_in (y ∷ xs) zero x h e = ap (λ z. Some (value_of z)) (sym e)
value_in (y ∷ xs) (suc i) x h e = value_in xs i x (omega (arith, h)) e

value_out : (xs : List Value) (i : ℕ) → length xs ≤ i → slice_get (map value_of xs) i ≡ None
value_out [] i h = refl
value_out (x ∷ xs) zero h = absurd (omega (arith, h))
value_out (x ∷ xs) (suc i) h = value_out xs i (omega (arith, h))

-- a field that is seen already
abbrev added : rules.Value → List ℕ → Option FieldValues → Option FieldValues
added x f o = option_map (value_of_field f x) o

filled_is : (s : Ty) (x : rules.Value) (f : List ℕ) (o : Option FieldValues) → filled s (Some x) f o ≡ added (seen_as s x) f o
filled_is s x f None = refl
filled_is s x f (Some xs) = refl

filled_some : (xs : List FieldValue) (x : FieldValue) (o : Option FieldValues) → option_map (before (map field_of xs)) (added (field_of x).value (field_of x).name o) ≡ option_map (before (map field_of (xs ++ x ∷ []))) o
filled_some xs x None = refl
filled_some xs x (Some ys) = ap Some (sym (before_more xs x ys))

pub field_given : (gs : List FieldGiven) (i : ℕ) (g : FieldGiven) (values : List Value) (made after : List FieldValue) (f : FieldValue) (x : Value) (all : Option FieldValues) → i < length gs → g ≡ get_or gs i g → g.place < length values → x ≡ get_or values g.place x
    → (field_of f).name ≡ g.name → (field_of f).value ≡ seen_as g.ty (value_of x) → after ≡ made ++ f ∷ [] → all ≡ fields_with made (drop i gs) values → all ≡ fields_with after (drop (i + 1) gs) values
field_given gs i g values made after f x all within here inside is_x name own grown old =
    let rest = fields_from (all_given (drop (i + 1) gs)) (map value_of values) in
    old ∙ ap (λ ys. fields_with made ys values) (at_front gs i g within here) ∙
    ap (λ o. option_map (before (map field_of made)) (filled g.ty o g.name rest)) (value_in values g.place x inside is_x) ∙
    ap (option_map (before (map field_of made))) (filled_is g.ty (value_of x) g.name rest) ∙
    ap (λ v. option_map (before (map field_of made)) (added v g.name rest)) (sym own) ∙
    ap (λ n. option_map (before (map field_of made)) (added (field_of f).value n rest)) (sym name) ∙
    filled_some made f rest ∙ ap (λ fs. option_map (before (map field_of fs)) rest) (sym grown)

pub field_missing : (span : Span) (gs : List FieldGiven) (i : ℕ) (g : FieldGiven) (values : List Value) (made : List FieldValue) (all : Option FieldValues) → i < length gs → g ≡ get_or gs i g → length values ≤ g.place
    → all ≡ fields_with made (drop i gs) values → there span all ≡ Bad (Stuck WrongKind span)
field_missing span gs i g values made all within here past old =
    let rest = fields_from (all_given (drop (i + 1) gs)) (map value_of values) in
    ap (there span) (old ∙ ap (λ ys. fields_with made ys values) (at_front gs i g within here) ∙ ap (λ o. option_map (before (map field_of made)) (filled g.ty o g.name rest)) (value_out values g.place past))

pub all_fields_given : (span : Span) (gs : List FieldGiven) (i : ℕ) (values : List Value) (made : List FieldValue) (all : Option FieldValues) → length gs ≤ i → all ≡ fields_with made (drop i gs) values → there span all ≡ Good (all_fields made)
all_fields_given span gs i values made all past old =
    ap (there span) (old ∙ ap (λ ys. fields_with made ys values) (none_after gs i past)) ∙ ap Good (before_end (map field_of made))
