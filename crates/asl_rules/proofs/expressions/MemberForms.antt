-- Fields of records and exceptions, and bitfields: what stands under the name of one stands at its number or its places, and belongs to its type.
use Rattle.std.proofs.Common.{◌≡◌, ℕ, suc, ℤ, pos, negsuc, ◌+◌, ◌-◌, ◌≤◌, ◌<◌, min, ◌&&◌, cond, Bool, true, false, List, [], ◌∷◌, length, drop, Option, Some, None, option_map, Ok, refl, sym, ap, ◌∙◌, subst, arith}
use Rattle.std.specs.Prelude.{nat_le, nat_lt}
use Rattle.std.specs.Str.{bytes_eq}
use Rattle.std.proofs.lemmas.List.{length-take, length-drop, length-append}
use Rattle.std.proofs.lemmas.Bool.Decides.{nat_tests}
use Rattle.asl_syn.specs.declared.token.Span.{Span}
use Rattle.asl_syn.specs.declared.code.StaticCode.TheVariants.{T15}
use Rattle.asl_syn.specs.declared.code.DynCode.TheVariants.{D14}
use Rattle.asl_syn.specs.declared.tree.Ident.{Ident}
use Rattle.asl_poly.specs.Terms.{Polynomial}
use Rattle.asl_bits.specs.Lists.{slice_of}
use Rattle.asl_rules.specs.Tests.{Tests, IsRight}
use Rattle.asl_rules.specs.types.Types.{Ty, Fields, View, BitField, bitfield_width, integer_of, boolean, bits_of, enumeration_of, record_of, exception_of, tuple_of, array_of, named, no_field, field, bits_wide, is_bits, view_of}
use Rattle.asl_rules.specs.types.Closed as cl
use Rattle.asl_rules.specs.types.Closed.{Assignment, Closed, ClosedFields, type_with, fields_with, closed, width_at}
use Rattle.asl_rules.specs.values.Members.{Member, a_field, a_bitfield, member_type, numbered, one_further, field_among, bitfield_in, member_of, bitfields_in, all_wide}
use Rattle.asl_rules.specs.values.Values.{Value, FieldValues, bits_with, record_with, exception_with, no_value_of, value_of_field, is_width}
use Rattle.asl_rules.specs.types.Views.{viewed}
use Rattle.asl_rules.specs.private.WellFormed.{Shaped, AllInside, ShapedView, BuiltFields, FieldsSeen, Written, WellDeclared}
use Rattle.asl_rules.specs.private.Belonging.{has_type, fields_have, InType}
use Rattle.asl_rules.specs.private.Agreement.{no_atoms}
use Rattle.asl_rules.specs.runs.Plans.{Faulted, Pure, Good, Bad}
use Rattle.asl_rules.specs.runs.Pures.{◌>>=◌, there}
use Rattle.asl_rules.specs.values.Vectors.{read_bits, total_width, places_of_field, places_of_fields, bits_at, bitfield_of, bitfields_of, named_among, each_named, bitfields_named}
use Rattle.asl_rules.specs.private.ByPlace.{field_at, field_in}
use Rattle.asl_rules.specs.values.Structures.{field_value, field_of}
use Rattle.asl_rules.specs.Faults.{found_or, fault_of}
use Rattle.asl_rules.proofs.basics.Inversions.{ok_ok, err_ok, bind_ok, found_ok}
use Rattle.asl_rules.proofs.basics.Tests.{no, both, some_same, none_some, same_name}
use Rattle.asl_rules.proofs.values.SameKind.{number_is}
use Rattle.asl_rules.proofs.values.Shapes.{named_parts}
use Rattle.asl_rules.proofs.values.Keeping.{written_once}
use Rattle.asl_rules.proofs.values.Viewing.{width_is}
use Rattle.asl_rules.proofs.expressions.OperatorForms.{Gives}
use Rattle.asl_rules.proofs.values.Rounded.{constant_at}

-- ---- the fields of a type without atoms

fields_under : Closed → ClosedFields
fields_under (cl.named n s T) = fields_under T
fields_under (cl.record_of n fs) = fs
fields_under (cl.exception_of n fs) = fs
fields_under T = cl.no_field

first_type : Closed → ClosedFields → Closed
first_type d cl.no_field = d
first_type d (cl.field f T fs) = T

other_fields : ClosedFields → ClosedFields
other_fields cl.no_field = cl.no_field
other_fields (cl.field f T fs) = fs

same_under : (n m : List ℕ) (s : List (List ℕ)) (fs gs : ClosedFields) → cl.named n s (cl.record_of m fs) ≡ cl.named n s (cl.record_of m gs) → fs ≡ gs
unfolding fields_under
same_under n m s fs gs e = ap fields_under e

same_under_exception : (n m : List ℕ) (s : List (List ℕ)) (fs gs : ClosedFields) → cl.named n s (cl.exception_of m fs) ≡ cl.named n s (cl.exception_of m gs) → fs ≡ gs
unfolding fields_under
same_under_exception n m s fs gs e = ap fields_under e

pub same_first : (f g : List ℕ) (T U : Closed) (fs gs : ClosedFields) → cl.field f T fs ≡ cl.field g U gs → T ≡ U
unfolding first_type
same_first f g T U fs gs e = ap (first_type T) e

pub same_others : (f g : List ℕ) (T U : Closed) (fs gs : ClosedFields) → cl.field f T fs ≡ cl.field g U gs → fs ≡ gs
unfolding other_fields
same_others f g T U fs gs e = ap other_fields e

fields_of_structure : Ty → Fields
fields_of_structure (record_of n fs) = fs
fields_of_structure (exception_of n fs) = fs
fields_of_structure T = no_field

pub same_record : (n m : List ℕ) (fs gs : Fields) → record_of n fs ≡ record_of m gs → fs ≡ gs
unfolding fields_of_structure
same_record n m fs gs e = ap fields_of_structure e

pub same_exception : (n m : List ℕ) (fs gs : Fields) → exception_of n fs ≡ exception_of m gs → fs ≡ gs
unfolding fields_of_structure
same_exception n m fs gs e = ap fields_of_structure e

-- ---- bitfields

view_carried : Value → View
view_carried (bits_with bs v) = v
view_carried x = []

pub same_view : (bs cs : List Bool) (u v : View) → bits_with bs u ≡ bits_with cs v → u ≡ v
unfolding view_carried
same_view bs cs u v e = ap view_carried e

pub same_bitfield : (f : List ℕ) (v : View) → named_among f v ≡ bitfield_in f v
same_bitfield f [] = refl
same_bitfield f (g ∷ gs) = ap (λ o. cond (bytes_eq g.name f) (Some g) o) (same_bitfield f gs)

inside_first : (b : Bool) (n : ℕ) (g h : BitField) (o : Option BitField) → (nat_le g.low g.high && nat_lt g.high n) ≡ true → cond b (Some g) o ≡ Some h → (o ≡ Some h → (nat_le h.low h.high && nat_lt h.high n) ≡ true) → (nat_le h.low h.high && nat_lt h.high n) ≡ true
inside_first true n g h o i e next = subst (λ (k : BitField). (nat_le k.low k.high && nat_lt k.high n) ≡ true) (some_same g h e) i
inside_first false n g h o i e next = next e

-- a bitfield that is found lies within the bits
pub found_inside : (n : ℕ) (f : List ℕ) (v : View) (h : BitField) → AllInside n v → bitfield_in f v ≡ Some h → (nat_le h.low h.high && nat_lt h.high n) ≡ true
found_inside n f [] h i e = none_some h e
found_inside n f (g ∷ gs) h i e = inside_first (bytes_eq g.name f) n g h (bitfield_in f gs) i.0 e (found_inside n f gs h i.1)

number_in : ℤ → ℕ
number_in (pos n) = n
number_in (negsuc n) = 0

pub same_number : (m n : ℕ) → pos m ≡ pos n → m ≡ n
unfolding number_in
same_number m n h = ap number_in h

pub constant_length : (av : Assignment) (p : Polynomial) (n : ℕ) (bs : List Bool) → width_at p av ≡ pos n → is_width (length bs) (width_at p av) ≡ true → length bs ≡ n
constant_length av p n bs c h = same_number (length bs) n (sym (width_is (length bs) (width_at p av) h) ∙ c)

slice_wide : (bs : List Bool) (h : BitField) (n : ℕ) → (nat_le h.low h.high && nat_lt h.high n) ≡ true → length bs ≡ n → length (slice_of bs h.low (bitfield_width h)) ≡ bitfield_width h
slice_wide bs h n i e =
    let p = both (nat_le h.low h.high) (nat_lt h.high n) i in
    let low : h.low ≤ h.high = le_is h.low h.high p.0 in
    let high : h.high < length bs = lt_is h.high (length bs) (subst (λ m. nat_lt h.high m ≡ true) (sym e) p.1) in
    length-take (bitfield_width h) (drop h.low bs) ∙ room h.low h.high (length bs) (length (drop h.low bs)) low high (length-drop h.low bs)
  where
    le_is : (m n : ℕ) → nat_le m n ≡ true → m ≤ n
    le_is m n h = grind (arith, nat_tests)

    lt_is : (m n : ℕ) → nat_lt m n ≡ true → m < n
    lt_is m n h = grind (arith, nat_tests)

    room : (l h n m : ℕ) → l ≤ h → h < n → m ≡ n - l → min (h + 1 - l) m ≡ h + 1 - l
    room l h n m low high e = omega arith

module _ (d : List ℕ → Option Ty) (w : WellDeclared d) (av : Assignment) (tests : Tests) (right : IsRight tests) where
  -- a field with its value, under its name and at its number
  record FieldAt (q : ℕ × Ty) (f : List ℕ) (xs : FieldValues) : Type 0 where
    pub one : Value
    pub by_name : field_value f xs ≡ Some one
    pub by_number : field_at q.0 xs ≡ Some one
    pub belongs : InType d av one q.1

  -- the field of a name that is passed over
  further_back : (o : Option (ℕ × Ty)) (q : ℕ × Ty) (g f : List ℕ) (x : Value) (xs : FieldValues) → one_further o ≡ Some q → ((p : ℕ × Ty) → o ≡ Some p → FieldAt p f xs) → bytes_eq g f ≡ false → FieldAt q f (value_of_field g x xs)
  further_back None q g f x xs e next b = none_some q e
  further_back (Some p) q g f x xs e next b =
      let r = next p refl in
      subst (λ z. FieldAt z f (value_of_field g x xs)) (some_same (suc p.0, p.1) q e)
      (record { one = r.one; by_name = ap (λ c. cond c (Some x) (field_value f xs)) b ∙ r.by_name; by_number = r.by_number; belongs = r.belongs })

  found_here : (b : Bool) (g f : List ℕ) (x : Value) (xs : FieldValues) (T : Ty) (q : ℕ × Ty) (o : Option (ℕ × Ty)) → bytes_eq g f ≡ b → InType d av x T → cond b (Some (0, T)) (one_further o) ≡ Some q → ((p : ℕ × Ty) → o ≡ Some p → FieldAt p f xs) → FieldAt q f (value_of_field g x xs)
  found_here true g f x xs T q o b i e next =
      subst (λ z. FieldAt z f (value_of_field g x xs)) (some_same (0, T) q e) (record { one = x; by_name = ap (λ c. cond c (Some x) (field_value f xs)) b; by_number = refl; belongs = i })
  found_here false g f x xs T q o b i e next = further_back o q g f x xs e next b

  fields_found : (fs : Fields) (xs : FieldValues) (f : List ℕ) (q : ℕ × Ty) → fields_have av xs fs ≡ true → FieldsSeen fs xs → fields_with fs av ≡ fields_with fs no_atoms → BuiltFields d xs → numbered f fs ≡ Some q → FieldAt q f xs
  fields_found no_field xs f q h s c b e = none_some q e
  fields_found (field i T fs) no_value_of f q h s c b e = no h
  fields_found (field i T fs) (value_of_field g x xs) f q h s c b e =
      let p = both (bytes_eq g i) (has_type av x T && fields_have av xs fs) h in
      let r = both (has_type av x T) (fields_have av xs fs) p.1 in
      let k : type_with T av ≡ closed T = same_first i i (type_with T av) (closed T) (fields_with fs av) (fields_with fs no_atoms) c in
      found_here (bytes_eq g f) g f x xs T q (numbered f fs) refl (r.0, b.0, subst (λ V. viewed V x ≡ x) (sym k) s.0)
      (subst (λ j. cond (bytes_eq j f) (Some (0, T)) (one_further (numbered f fs)) ≡ Some q) (sym (same_name g i p.0)) e)
      (λ m l. fields_found fs xs f m r.1 s.1 (same_others i i (type_with T av) (closed T) (fields_with fs av) (fields_with fs no_atoms) c) b.1 l)

  pub no_atoms_in : (m : List ℕ) (fs : Fields) → Written d m (record_of m fs) → fields_with fs av ≡ fields_with fs no_atoms
  no_atoms_in m fs v = same_under m m v.supers (fields_with fs av) (fields_with fs no_atoms) (w.fixed m (named m v.supers (record_of m fs)) v.stands av)

  pub no_atoms_in_exception : (m : List ℕ) (fs : Fields) → Written d m (exception_of m fs) → fields_with fs av ≡ fields_with fs no_atoms
  no_atoms_in_exception m fs v = same_under_exception m m v.supers (fields_with fs av) (fields_with fs no_atoms) (w.fixed m (named m v.supers (exception_of m fs)) v.stands av)

  -- what a member of a value is, by its place
  abbrev pub member_value : Span → Member → Value → Pure Value
  member_value span (a_field n T) x = field_in span n x
  member_value span (a_bitfield f) x = bitfield_of span f x

  -- both ways give the same, of the member's type
  pub record MemberGives (span : Span) (f : List ℕ) (m : Member) (x : Value) : Type 0 where
    pub same : field_of span f x ≡ member_value span m x
    pub gives : Gives d av (member_type m) (field_of span f x)

  field_gives : (span : Span) (f : List ℕ) (o : Option (ℕ × Ty)) (m : Member) (xs : FieldValues) (x : Value) → field_of span f x ≡ there span (field_value f xs) → ((n : ℕ) → field_in span n x ≡ there span (field_at n xs)) → field_among o ≡ Some m → ((q : ℕ × Ty) → o ≡ Some q → FieldAt q f xs) → MemberGives span f m x
  field_gives span f None m xs x u v e next = none_some m e
  field_gives span f (Some q) m xs x u v e next =
      let r = next q refl in
      subst (λ k. MemberGives span f k x) (some_same (a_field q.0 q.1) m e)
      (record {
        same = u ∙ ap (there span) r.by_name ∙ sym (ap (there span) r.by_number) ∙ sym (v q.0);
        gives = subst (Gives d av q.1) (sym (u ∙ ap (there span) r.by_name)) r.belongs;
      })

  -- a bitfield is read at its places
  bitfield_gives : (span : Span) (f : List ℕ) (p : Polynomial) (u : View) (o : Option BitField) (m : Member) (bs : List Bool) → bitfield_in f u ≡ o → ShapedView p u → option_map (λ b. a_bitfield b) o ≡ Some m → is_width (length bs) (width_at p av) ≡ true → MemberGives span f m (bits_with bs u)
  bitfield_gives span f p u None m bs q s e h = none_some m e
  bitfield_gives span f p [] (Some g) m bs q s e h = none_some g q
  bitfield_gives span f p (g0 ∷ gs) (Some g) m bs q s e h =
      let n = s.0 in
      let v : named_among f (g0 ∷ gs) ≡ Some g = same_bitfield f (g0 ∷ gs) ∙ q in
      let r : field_of span f (bits_with bs (g0 ∷ gs)) ≡ bitfield_of span g (bits_with bs (g0 ∷ gs)) = ap (λ z. there span z >>= λ b. bitfield_of span b (bits_with bs (g0 ∷ gs))) v in
      let i = found_inside n f (g0 ∷ gs) g s.2 q in
      let long : length bs ≡ n = constant_length av p n bs (s.1 av) h in
      let l : length (read_bits (places_of_field g ∷ []) bs) ≡ bitfield_width g = slice_wide bs g n i long in
      subst (λ k. MemberGives span f k (bits_with bs (g0 ∷ gs))) (some_same (a_bitfield g) m e)
      (record {
        same = r;
        gives = subst (Gives d av (bits_wide (bitfield_width g))) (sym r)
            (subst (λ z. is_width (length (read_bits (places_of_field g ∷ []) bs)) z ≡ true) (sym (constant_at av (pos (bitfield_width g)))) (subst (λ j. is_width (length (read_bits (places_of_field g ∷ []) bs)) (pos j) ≡ true) l (number_is (length (read_bits (places_of_field g ∷ []) bs)))), tt, refl);
      })

  -- a field of a record or an exception, or a bitfield of bits
  pub member_gives : (span : Span) (f : List ℕ) (T : Ty) (m : Member) (x : Value) → Shaped d T → member_of T f ≡ Some m → InType d av x T → MemberGives span f m x
  member_gives span f (record_of n fs) m (record_with k xs) t e i =
      let p = both (bytes_eq k n) (fields_have av xs fs) i.0 in
      let same : i.1.0.0 ≡ fs = same_record k n i.1.0.0 fs (written_once av tests right d k n (record_of k i.1.0.0) (record_of n fs) (same_name k n p.0) i.1.0.1 t.0) in
      field_gives span f (numbered f fs) m xs (record_with k xs) refl (λ j. refl) e (λ q l. fields_found fs xs f q p.1 (subst (λ gs. FieldsSeen gs xs) same i.1.0.2) (no_atoms_in n fs t.0) i.1.1 l)
  member_gives span f (exception_of n fs) m (exception_with own supers k xs) t e i =
      let p = both (bytes_eq k n) (fields_have av xs fs) i.0 in
      let b = i.1.1 in
      let same : b.0 ≡ fs = same_exception k n b.0 fs (written_once av tests right d k n (exception_of k b.0) (exception_of n fs) (same_name k n p.0) b.1 t.0) in
      field_gives span f (numbered f fs) m xs (exception_with own supers k xs) refl (λ j. refl) e (λ q l. fields_found fs xs f q p.1 (subst (λ gs. FieldsSeen gs xs) same b.2) (no_atoms_in_exception n fs t.0) i.1.2 l)
  member_gives span f (bits_of p u) m (bits_with bs v) t e i =
      subst (λ z. MemberGives span f m (bits_with bs z)) (same_view bs bs u v i.2)
      (bitfield_gives span f p u (bitfield_in f u) m bs refl t.1 e i.0)
  member_gives span f (named n supers T) m x t e i = member_gives span f T m x t.2 e ((named_parts av x n supers T i.0).1, i.1, i.2)
  member_gives span f (integer_of ps) m x t e i = none_some m e
  member_gives span f boolean m x t e i = none_some m e
  member_gives span f (enumeration_of n ls) m x t e i = none_some m e
  member_gives span f (tuple_of ts) m x t e i = none_some m e
  member_gives span f (array_of n T) m x t e i = none_some m e
  member_gives span f T m x t e i = no i.0

  -- ---- several bitfields

  pub all_inside : (n : ℕ) (is : List Ident) (u : View) (fs : List BitField) → AllInside n u → bitfields_in is u ≡ Ok fs → AllInside n fs
  all_inside n [] u fs i h = subst (AllInside n) (ok_ok [] fs h) tt
  all_inside n (j ∷ is) u fs i h =
      let b = bind_ok (found_or (bitfield_in j.text u) T15 j.span) _ fs h in
      let r = bind_ok (bitfields_in is u) _ fs b.then in
      subst (AllInside n) (ok_ok (b.value ∷ r.value) fs r.then) (found_inside n j.text u b.value i (found_ok (bitfield_in j.text u) T15 j.span b.value b.first), all_inside n is u r.value i r.first)

  pub each_found : (span : Span) (is : List Ident) (u : View) (fs : List BitField) → bitfields_in is u ≡ Ok fs → each_named span is u ≡ Good fs
  each_found span [] u fs h = ap Good (ok_ok [] fs h)
  each_found span (j ∷ is) u fs h =
      let b = bind_ok (found_or (bitfield_in j.text u) T15 j.span) _ fs h in
      let r = bind_ok (bitfields_in is u) _ fs b.then in
      let o : named_among j.text u ≡ Some b.value = same_bitfield j.text u ∙ found_ok (bitfield_in j.text u) T15 j.span b.value b.first in
      ap (λ z. there span z >>= λ f. each_named span is u >>= λ gs. Good (f ∷ gs)) o ∙ ap (λ z. z >>= λ gs. Good (b.value ∷ gs)) (each_found span is u r.value r.first) ∙ ap Good (ok_ok (b.value ∷ r.value) fs r.then)

  all_wide_read : (bs : List Bool) (n : ℕ) (fs : List BitField) → length bs ≡ n → AllInside n fs → length (read_bits (places_of_fields fs) bs) ≡ all_wide fs
  all_wide_read bs n [] e i = refl
  all_wide_read bs n (f ∷ fs) e i =
      length-append (read_bits (places_of_fields fs) bs) (slice_of bs f.low (bitfield_width f)) ∙ turned (length (read_bits (places_of_fields fs) bs)) (length (slice_of bs f.low (bitfield_width f))) (all_wide fs) (bitfield_width f) (all_wide_read bs n fs e i.1) (slice_wide bs f n i.0 e)
    where
      turned : (a b c d : ℕ) → a ≡ c → b ≡ d → a + b ≡ d + c
      turned a b c d h k = omega arith

  -- bits of so many places, none where there are no bitfields
  width_of_view : (p : Polynomial) (u : View) (is : List Ident) (fs : List BitField) (bs : List Bool) → ShapedView p u → bitfields_in is u ≡ Ok fs → is_width (length bs) (width_at p av) ≡ true → length (read_bits (places_of_fields fs) bs) ≡ all_wide fs
  width_of_view p [] [] fs bs s h l = subst (λ gs. length (read_bits (places_of_fields gs) bs) ≡ all_wide gs) (ok_ok [] fs h) refl
  width_of_view p [] (i ∷ is) fs bs s h l = err_ok (fault_of T15 i.span) fs h
  width_of_view p (g ∷ gs) is fs bs s h l = all_wide_read bs s.0 fs (constant_length av p s.0 bs (s.1 av) l) (all_inside s.0 is (g ∷ gs) fs s.2 h)

  within_gives : (b : Bool) (span : Span) (fs : List BitField) (bs : List Bool) (v : View) → length (read_bits (places_of_fields fs) bs) ≡ all_wide fs → Gives d av (bits_wide (all_wide fs)) (cond b (Good (places_of_fields fs)) (Bad (Faulted D14 span)) >>= λ ps. bits_at span ps (bits_with bs v))
  within_gives false span fs bs v e = tt
  within_gives true span fs bs v e =
      (subst (λ z. is_width (length (read_bits (places_of_fields fs) bs)) z ≡ true) (sym (constant_at av (pos (all_wide fs)))) (subst (λ j. is_width (length (read_bits (places_of_fields fs) bs)) (pos j) ≡ true) e (number_is (length (read_bits (places_of_fields fs) bs)))), tt, refl)

  -- bitfields that are taken together, by their names and by their places
  pub bitfields_give : (limit : ℕ) (span : Span) (is : List Ident) (T : Ty) (fs : List BitField) (x : Value) → Shaped d T → bitfields_in is (view_of T) ≡ Ok fs → is_bits T ≡ true → InType d av x T →
      ((bitfields_named span is x >>= λ gs. bitfields_of limit span gs x) ≡ bitfields_of limit span fs x) × Gives d av (bits_wide (all_wide fs)) (bitfields_named span is x >>= λ gs. bitfields_of limit span gs x)
  bitfields_give limit span is (bits_of p u) fs (bits_with bs v) t h k i =
      let e : u ≡ v = same_view bs bs u v i.2 in
      let r : (bitfields_named span is (bits_with bs v) >>= λ gs. bitfields_of limit span gs (bits_with bs v)) ≡ bitfields_of limit span fs (bits_with bs v) =
      ap (λ z. z >>= λ gs. bitfields_of limit span gs (bits_with bs v)) (subst (λ z. each_named span is z ≡ Good fs) e (each_found span is u fs h)) in
      (r, subst (Gives d av (bits_wide (all_wide fs))) (sym r) (within_gives (nat_le (total_width (places_of_fields fs)) limit) span fs bs v (width_of_view p u is fs bs t.1 h i.0)))
  bitfields_give limit span is (named n supers T) fs x t h k i = bitfields_give limit span is T fs x t.2 h k ((named_parts av x n supers T i.0).1, i.1, i.2)
  bitfields_give limit span is (integer_of ps) fs x t h k i = no k
  bitfields_give limit span is boolean fs x t h k i = no k
  bitfields_give limit span is (enumeration_of n ls) fs x t h k i = no k
  bitfields_give limit span is (record_of n gs) fs x t h k i = no k
  bitfields_give limit span is (exception_of n gs) fs x t h k i = no k
  bitfields_give limit span is (tuple_of ts) fs x t h k i = no k
  bitfields_give limit span is (array_of n T) fs x t h k i = no k
  bitfields_give limit span is T fs x t h k i = no i.0
