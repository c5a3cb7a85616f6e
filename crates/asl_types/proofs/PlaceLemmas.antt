-- The places of fields by their names: the map of them, and the field that stands in the place of a name.
use Rattle.std.proofs.Common.{◌≡◌, ℕ, suc, ◌+◌, ◌<◌, ◌≤◌, Bool, true, false, cond, Option, Some, None, option_map, List, [], ◌∷◌, length, get_or, drop, refl, sym, ap, ◌∙◌, slice_get, arith}
use Rattle.std.specs.Prelude.{Vec}
use Rattle.std.specs.Str.{bytes_eq}
use Rattle.std.specs.Map.{lookup}
use Rattle.std.specs.Cmp.Lexicographic.{nat_list_eq_equiv}
use Rattle.indexmap.specs.IndexMap.{insert_entry}
use Rattle.asl_rules.proofs.basics.Tests.{same_name}
use Rattle.asl_rules.specs.types.Types.{Ty}
use Rattle.asl_rules.specs.values.Members.{numbered, one_further}
use Rattle.asl_types.specs.declared.ty.FieldType.{FieldType}
use Rattle.asl_types.specs.declared.ty.FieldType.TheVariants as f
use Rattle.asl_types.specs.declared.ty.Form.{Form}
use Rattle.asl_types.specs.declared.ty.Form.TheVariants as t
use Rattle.asl_types.specs.private.NamePlaces.{Places, named, place_of, put}
use Rattle.asl_types.specs.private.FieldPlaces.{with_field, places_from, type_of, field_at, fields_of_form, own_fields}
use Rattle.asl_types.specs.View.{form_view, fields_of}
use Rattle.asl_types.proofs.Rest.{at_next, none_after}

-- ---- the map

-- one name more that is put, where another is looked at first
pub two_alike : (b c : Bool) (v w : ℕ) (o : Option ℕ) → b ≡ c → cond c (Some v) o ≡ cond b (Some v) (cond c (Some w) o)
two_alike true true v w o h = refl
two_alike false false v w o h = refl
two_alike true false v w o h = cc h
two_alike false true v w o h = cc h

pub two_apart : (b c : Bool) (v w : ℕ) (o : Option ℕ) → (c ≡ true → b ≡ true → ⊥) → cond c (Some w) (cond b (Some v) o) ≡ cond b (Some v) (cond c (Some w) o)
two_apart true true v w o h = absurd (h refl refl)
two_apart false true v w o h = refl
two_apart true false v w o h = refl
two_apart false false v w o h = refl

pub place_named : {Z : Type 0} (name : List ℕ) (es : List (Vec ℕ Z × ℕ)) → place_of name (named es) ≡ lookup (λ k. bytes_eq name k.items) es
place_named name [] = refl
place_named name (e ∷ es) = ap (cond (bytes_eq name e.0.items) (Some e.1)) (place_named name es)

pub put_named : {Z : Type 0} (es : List (Vec ℕ Z × ℕ)) (k : Vec ℕ Z) (n : ℕ) → named (insert_entry (λ i j. bytes_eq i.items j.items) es k n) ≡ put k.items n (named es)
put_named [] k n = refl
put_named (e ∷ es) k n = by (put_named es k n) (bytes_eq k.items e.0.items)
  where
    by : named (insert_entry (λ i j. bytes_eq i.items j.items) es k n) ≡ put k.items n (named es) → (b : Bool) →
        named (cond b ((e.0, n) ∷ es) (e ∷ insert_entry (λ i j. bytes_eq i.items j.items) es k n)) ≡ cond b ((e.0.items, n) ∷ named es) ((e.0.items, e.1) ∷ put k.items n (named es))
    by rest true = refl
    by rest false = ap (λ ps. (e.0.items, e.1) ∷ ps) rest

place_put : (name k : List ℕ) (n : ℕ) (ps : Places) → place_of name (put k n ps) ≡ cond (bytes_eq name k) (Some n) (place_of name ps)
place_put name k n [] = refl
place_put name k n (p ∷ ps) = by (place_put name k n ps) (bytes_eq k p.0) refl
  where
    by : place_of name (put k n ps) ≡ cond (bytes_eq name k) (Some n) (place_of name ps) → (b : Bool) → bytes_eq k p.0 ≡ b →
        place_of name (cond b ((p.0, n) ∷ ps) (p ∷ put k n ps)) ≡ cond (bytes_eq name k) (Some n) (cond (bytes_eq name p.0) (Some p.1) (place_of name ps))
    by rest true same = two_alike (bytes_eq name k) (bytes_eq name p.0) n p.1 (place_of name ps) (ap (bytes_eq name) (same_name k p.0 same))
    by rest false apart =
        ap (cond (bytes_eq name p.0) (Some p.1)) rest
        ∙ two_apart (bytes_eq name k) (bytes_eq name p.0) n p.1 (place_of name ps) (λ x y. cc (sym apart ∙ ap (λ m. bytes_eq m p.0) (sym (same_name name k y)) ∙ x))

-- ---- the places of fields

-- the place of a name is that of the first field that has it
places_first : (name : List ℕ) (n : ℕ) (fs : List FieldType) → place_of name (places_from n fs) ≡ option_map (λ p. n + p.0) (numbered name (fields_of fs))
places_first name n [] = refl
places_first name n (f.Field g T ∷ fs) =
    place_put name g n (places_from (suc n) fs)
    ∙ ap (cond (bytes_eq name g) (Some n)) (places_first name (suc n) fs)
    ∙ ap (λ b. cond b (Some n) (option_map (λ p. suc n + p.0) (numbered name (fields_of fs)))) (nat_list_eq_equiv.symm name g)
    ∙ by (bytes_eq g name) (numbered name (fields_of fs))
  where
    by : (b : Bool) (o : Option (ℕ × Ty)) → cond b (Some n) (option_map (λ p. suc n + p.0) o) ≡ option_map (λ p. n + p.0) (cond b (Some (0, T)) (one_further o))
    by true o = ap Some (omega arith)
    by false None = refl
    by false (Some p) = ap Some (omega arith)

at_later : (x : FieldType) (fs : List FieldType) (o : Option ℕ) → field_at (x ∷ fs) (option_map suc o) ≡ one_further (field_at fs o)
at_later x fs None = refl
at_later x fs (Some n) = by (slice_get fs n)
  where
    by : (o : Option FieldType) → option_map (λ y. (suc n, type_of y)) o ≡ one_further (option_map (λ y. (n, type_of y)) o)
    by None = refl
    by (Some y) = refl

place_later : (o : Option (ℕ × Ty)) → option_map (λ p. p.0) (one_further o) ≡ option_map suc (option_map (λ p. p.0) o)
place_later None = refl
place_later (Some p) = refl

at_its_place : (name : List ℕ) (fs : List FieldType) → field_at fs (option_map (λ p. p.0) (numbered name (fields_of fs))) ≡ numbered name (fields_of fs)
at_its_place name [] = refl
at_its_place name (f.Field g T ∷ fs) = by (at_its_place name fs) (bytes_eq g name)
  where
    by : field_at fs (option_map (λ p. p.0) (numbered name (fields_of fs))) ≡ numbered name (fields_of fs) → (b : Bool) →
        field_at (f.Field g T ∷ fs) (option_map (λ p. p.0) (cond b (Some (0, T)) (one_further (numbered name (fields_of fs))))) ≡ cond b (Some (0, T)) (one_further (numbered name (fields_of fs)))
    by rest true = refl
    by rest false =
        ap (field_at (f.Field g T ∷ fs)) (place_later (numbered name (fields_of fs)))
        ∙ at_later (f.Field g T) fs (option_map (λ p. p.0) (numbered name (fields_of fs)))
        ∙ ap one_further rest

from_start : (o : Option (ℕ × Ty)) → option_map (λ p. 0 + p.0) o ≡ option_map (λ p. p.0) o
from_start None = refl
from_start (Some p) = ap Some (omega arith)

-- the field in the place of a name is the first that has it
pub field_found : (name : List ℕ) (fs : List FieldType) (ps : Places) → ps ≡ places_from 0 fs → field_at fs (place_of name ps) ≡ numbered name (fields_of fs)
field_found name fs ps h =
    ap (λ qs. field_at fs (place_of name qs)) h
    ∙ ap (field_at fs) (places_first name 0 fs ∙ from_start (numbered name (fields_of fs)))
    ∙ at_its_place name fs

own_is : (form : Form) → own_fields (form_view form) ≡ fields_of (fields_of_form form)
own_is (t.Record n fs) = refl
own_is (t.Exception n fs) = refl
own_is (t.Integer ps) = refl
own_is t.Boolean = refl
own_is (t.Bits w view) = refl
own_is (t.Enumeration n ls) = refl
own_is (t.Tuple Ts) = refl
own_is (t.Array n T) = refl
own_is (t.Named n ns T) = refl

-- and so of a type with these places of its fields
pub found_in : (name : List ℕ) (form : Form) (ps : Places) (fs gs : List FieldType) (T : Ty) (place : Option ℕ) → gs ≡ fs → fs ≡ fields_of_form form → form_view form ≡ T → ps ≡ places_from 0 (fields_of_form form) → place ≡ place_of name ps → field_at gs place ≡ numbered name (own_fields T)
found_in name form ps fs gs T place same here view placed at =
    (λ i. field_at (same i) (at i))
    ∙ field_found name fs ps (placed ∙ ap (places_from 0) (sym here))
    ∙ ap (λ hs. numbered name (fields_of hs)) here
    ∙ ap (numbered name) (sym (own_is form) ∙ ap own_fields view)

-- ---- the loop over the fields, from the last

pub none_placed : (fs : List FieldType) (n : ℕ) (ps : Places) → length fs ≤ n → ps ≡ [] → ps ≡ places_from n (drop n fs)
none_placed fs n ps past none = none ∙ sym (ap (places_from n) (none_after fs n past))

pub one_placed : (fs : List FieldType) (m n : ℕ) (x : FieldType) (ps qs : Places) → n ≡ m + 1 → m < length fs → x ≡ get_or fs m x → ps ≡ places_from n (drop n fs) → qs ≡ with_field x m ps → qs ≡ places_from m (drop m fs)
one_placed fs m n x ps qs one within here before more =
    let up : m + 1 ≡ suc m = omega arith in
    more
    ∙ ap (with_field x m) (before ∙ ap (λ k. places_from k (drop k fs)) one ∙ ap (λ k. places_from k (drop (m + 1) fs)) up)
    ∙ sym (ap (places_from m) (at_next fs m x within here))
