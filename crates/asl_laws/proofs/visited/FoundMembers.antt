-- The members of values: a field that the rules found in a type stands in its place in each value of the type, and a bitfield in its view under its name.
use Rattle.std.proofs.Common.{◌≡◌, ℕ, suc, cond, Bool, true, false, List, [], ◌∷◌, Option, Some, None, option_map, Ok, refl, sym, ap, ◌∙◌, subst}
use Rattle.std.specs.Prelude.{◌&&◌, slice_get}
use Rattle.std.specs.Str.{bytes_eq}
use Rattle.asl_syn.specs.declared.token.Span.{Span}
use Rattle.asl_syn.specs.declared.tree.Ident.{Ident}
use Rattle.asl_rules.specs.types.Types.{Ty, Fields, BitField, integer_of, boolean, bits_of, enumeration_of, record_of, exception_of, tuple_of, array_of, named, field, no_field, is_bits, view_of}
use Rattle.asl_rules.specs.types.Closed.{Assignment}
use Rattle.asl_rules.specs.values.Members.{Member, a_field, a_bitfield, member_of, field_among, numbered, one_further, bitfield_in, bitfields_in, with_place, places_given}
use Rattle.asl_rules.specs.declarations.Layouts.{place_of}
use Rattle.asl_rules.specs.runs.Trees.{FieldGiven}
use Rattle.asl_rules.specs.values.Values.{Value, FieldValues, bits_with, record_with, exception_with, no_value_of, value_of_field}
use Rattle.asl_rules.specs.values.Vectors.{named_among, each_named, bitfields_named}
use Rattle.asl_rules.specs.runs.Plans.{Good}
use Rattle.asl_rules.specs.private.Belonging.{has_type, fields_have, InType}
use Rattle.asl_rules.proofs.basics.Tests.{no, both, some_same, none_some, same_name}
use Rattle.asl_rules.proofs.values.Shapes.{named_parts}
use Rattle.asl_rules.proofs.expressions.MemberForms.{same_view, same_bitfield, each_found}
use Rattle.asl_laws.specs.Chosen.{IsFieldAt, HasFieldAt, HasBitfield, GivenByName}
use Rattle.asl_rules.specs.private.WellFormed.{WellDeclared}
use Rattle.asl_rules.specs.Tests.{Tests, IsRight}

module _ (av : Assignment) where
  -- ---- fields

  further : (o : Option (ℕ × Ty)) (q : ℕ × Ty) (g f : List ℕ) (x : Value) (xs : FieldValues) → one_further o ≡ Some q → bytes_eq g f ≡ false → ((p : ℕ × Ty) → o ≡ Some p → IsFieldAt f p.0 xs) → IsFieldAt f q.0 (value_of_field g x xs)
  further None q g f x xs e b next = none_some q e
  further (Some p) q g f x xs e b next = subst (λ (z : ℕ × Ty). IsFieldAt f z.0 (value_of_field g x xs)) (some_same (suc p.0, p.1) q e) (b, next p refl)

  here_or : (b : Bool) (o : Option (ℕ × Ty)) (q : ℕ × Ty) (g f : List ℕ) (x : Value) (xs : FieldValues) (T : Ty) → bytes_eq g f ≡ b → cond b (Some (0, T)) (one_further o) ≡ Some q → ((p : ℕ × Ty) → o ≡ Some p → IsFieldAt f p.0 xs) → IsFieldAt f q.0 (value_of_field g x xs)
  here_or true o q g f x xs T b e next = subst (λ (z : ℕ × Ty). IsFieldAt f z.0 (value_of_field g x xs)) (some_same (0, T) q e) b
  here_or false o q g f x xs T b e next = further o q g f x xs e b next

  among_fields : (fs : Fields) (xs : FieldValues) (f : List ℕ) (q : ℕ × Ty) → fields_have av xs fs ≡ true → numbered f fs ≡ Some q → IsFieldAt f q.0 xs
  among_fields no_field xs f q h e = none_some q e
  among_fields (field i T fs) no_value_of f q h e = no h
  among_fields (field i T fs) (value_of_field g x xs) f q h e =
      let p = both (bytes_eq g i) (has_type av x T && fields_have av xs fs) h in
      let r = both (has_type av x T) (fields_have av xs fs) p.1 in
      here_or (bytes_eq g f) (numbered f fs) q g f x xs T refl (subst (λ j. cond (bytes_eq j f) (Some (0, T)) (one_further (numbered f fs)) ≡ Some q) (sym (same_name g i p.0)) e) (λ m l. among_fields fs xs f m r.1 l)

  by_number : (o : Option (ℕ × Ty)) (k : ℕ) (U : Ty) → field_among o ≡ Some (a_field k U) → (q : ℕ × Ty) × (o ≡ Some q) × (q.0 ≡ k)
  by_number None k U e = none_some (a_field k U) e
  by_number (Some q) k U e = (q, refl, ap place (some_same (a_field q.0 q.1) (a_field k U) e))
    where
      place : Member → ℕ
      place (a_field n T) = n
      place (a_bitfield b) = 0

  no_bitfield : (o : Option BitField) (k : ℕ) (U : Ty) {A : Type 0} → option_map (λ b. a_bitfield b) o ≡ Some (a_field k U) → A
  no_bitfield None k U e = none_some (a_field k U) e
  no_bitfield (Some b) k U e = absurd (subst IsBitfield (some_same (a_bitfield b) (a_field k U) e) tt)
    where
      IsBitfield : Member → Type 0
      IsBitfield (a_field n T) = ⊥
      IsBitfield (a_bitfield b) = Unit {0}

  pub field_found : (T : Ty) (f : List ℕ) (k : ℕ) (U : Ty) (x : Value) → member_of T f ≡ Some (a_field k U) → has_type av x T ≡ true → HasFieldAt f k x
  field_found (record_of n fs) f k U (record_with m xs) e h =
      let q = by_number (numbered f fs) k U e in
      subst (λ j. IsFieldAt f j xs) q.2 (among_fields fs xs f q.0 (both (bytes_eq m n) (fields_have av xs fs) h).1 q.1)
  field_found (exception_of n fs) f k U (exception_with built supers m xs) e h =
      let q = by_number (numbered f fs) k U e in
      subst (λ j. IsFieldAt f j xs) q.2 (among_fields fs xs f q.0 (both (bytes_eq m n) (fields_have av xs fs) h).1 q.1)
  field_found (named n supers T) f k U x e h = field_found T f k U x e (named_parts av x n supers T h).1
  field_found (bits_of p u) f k U x e h = no_bitfield (bitfield_in f u) k U e
  field_found (integer_of ps) f k U x e h = none_some (a_field k U) e
  field_found boolean f k U x e h = none_some (a_field k U) e
  field_found (enumeration_of n ls) f k U x e h = none_some (a_field k U) e
  field_found (tuple_of ts) f k U x e h = none_some (a_field k U) e
  field_found (array_of n T) f k U x e h = none_some (a_field k U) e
  field_found T f k U x e h = no h

  -- ---- bitfields

  one_bitfield : (o : Option BitField) (b : BitField) → option_map (λ g. a_bitfield g) o ≡ Some (a_bitfield b) → o ≡ Some b
  one_bitfield None b e = none_some (a_bitfield b) e
  one_bitfield (Some g) b e = ap Some (read g b (some_same (a_bitfield g) (a_bitfield b) e))
    where
      read : (g b : BitField) → a_bitfield g ≡ a_bitfield b → g ≡ b
      read g b e = ap (bitfield_or g) e
        where
          bitfield_or : BitField → Member → BitField
          bitfield_or z (a_field n T) = z
          bitfield_or z (a_bitfield h) = h

  no_field_among : (o : Option (ℕ × Ty)) (b : BitField) {A : Type 0} → field_among o ≡ Some (a_bitfield b) → A
  no_field_among None b e = none_some (a_bitfield b) e
  no_field_among (Some q) b e = absurd (subst IsField (some_same (a_field q.0 q.1) (a_bitfield b) e) tt)
    where
      IsField : Member → Type 0
      IsField (a_field n T) = Unit {0}
      IsField (a_bitfield g) = ⊥

  pub bitfield_found : (d : List ℕ → Option Ty) (T : Ty) (f : List ℕ) (b : BitField) (x : Value) → member_of T f ≡ Some (a_bitfield b) → InType d av x T → HasBitfield f b x
  bitfield_found d (bits_of p u) f b (bits_with bs v) e i = (v, refl, subst (λ z. named_among f z ≡ Some b) (same_view bs bs u v i.2) (same_bitfield f u ∙ one_bitfield (bitfield_in f u) b e))
  bitfield_found d (named n supers T) f b x e i = bitfield_found d T f b x e ((named_parts av x n supers T i.0).1, i.1, i.2)
  bitfield_found d (record_of n fs) f b x e i = no_field_among (numbered f fs) b e
  bitfield_found d (exception_of n fs) f b x e i = no_field_among (numbered f fs) b e
  bitfield_found d (integer_of ps) f b x e i = none_some (a_bitfield b) e
  bitfield_found d boolean f b x e i = none_some (a_bitfield b) e
  bitfield_found d (enumeration_of n ls) f b x e i = none_some (a_bitfield b) e
  bitfield_found d (tuple_of ts) f b x e i = none_some (a_bitfield b) e
  bitfield_found d (array_of n T) f b x e i = none_some (a_bitfield b) e
  bitfield_found d T f b x e i = no i.0

-- several bitfields of one value
pub bitfields_found : (d : List ℕ → Option Ty) (w : WellDeclared d) (av : Assignment) (tests : Tests) (right : IsRight tests) (span : Span) (is : List Ident) (T : Ty) (fs : List BitField) (x : Value) → bitfields_in is (view_of T) ≡ Ok fs → is_bits T ≡ true → InType d av x T → bitfields_named span is x ≡ Good fs
bitfields_found d w av tests right span is (bits_of p u) fs (bits_with bs v) h k i = subst (λ z. each_named span is z ≡ Good fs) (same_view bs bs u v i.2) (each_found d w av tests right span is u fs h)
bitfields_found d w av tests right span is (named n supers T) fs x h k i = bitfields_found d w av tests right span is T fs x h k ((named_parts av x n supers T i.0).1, i.1, i.2)
bitfields_found d w av tests right span is (integer_of ps) fs x h k i = no k
bitfields_found d w av tests right span is boolean fs x h k i = no k
bitfields_found d w av tests right span is (enumeration_of n ls) fs x h k i = no k
bitfields_found d w av tests right span is (record_of n gs) fs x h k i = no k
bitfields_found d w av tests right span is (exception_of n gs) fs x h k i = no k
bitfields_found d w av tests right span is (tuple_of ts) fs x h k i = no k
bitfields_found d w av tests right span is (array_of n T) fs x h k i = no k
bitfields_found d w av tests right span is T fs x h k i = no i.0

-- ---- constructions

placed : (f : List ℕ) (names : List (List ℕ)) (n : ℕ) → place_of f names ≡ Some n → slice_get names n ≡ Some f
placed f [] n e = none_some n e
placed f (g ∷ gs) n e = by (bytes_eq g f) (place_of f gs) refl e (placed f gs)
  where
    by : (b : Bool) (o : Option ℕ) → bytes_eq g f ≡ b → cond b (Some 0) (option_map (λ i. suc i) o) ≡ Some n → ((m : ℕ) → o ≡ Some m → slice_get gs m ≡ Some f) → slice_get (g ∷ gs) n ≡ Some f
    by true o q e next = subst (λ m. slice_get (g ∷ gs) m ≡ Some f) (some_same 0 n e) (ap Some (same_name g f q))
    by false None q e next = none_some n e
    by false (Some m) q e next = subst (λ k. slice_get (g ∷ gs) k ≡ Some f) (some_same (suc m) n e) (next m refl)

pub given_by_name : (fs : Fields) (names : List (List ℕ)) (gs : List FieldGiven) → places_given fs names ≡ Some gs → GivenByName names gs
given_by_name no_field names gs e = subst (GivenByName names) (some_same [] gs e) tt
given_by_name (field f T fs) names gs e = by (place_of f names) (places_given fs names) refl refl e (given_by_name fs names)
  where
    by : (o : Option ℕ) (r : Option (List FieldGiven)) → place_of f names ≡ o → places_given fs names ≡ r → with_place f T o r ≡ Some gs → ((hs : List FieldGiven) → places_given fs names ≡ Some hs → GivenByName names hs) → GivenByName names gs
    by None r p q e next = none_some gs e
    by (Some i) None p q e next = none_some gs e
    by (Some i) (Some hs) p q e next = subst (GivenByName names) (some_same (record { name = f; ty = T; place = i } ∷ hs) gs e) (placed f names i p, next hs q)
