-- Replacements at the end of a way into a value: by names and by places they do the same, and give a value of the type.
use Rattle.std.proofs.Common.{◌≡◌, ℕ, zero, suc, ◌+◌, ◌-◌, ◌≤◌, min, ℤ, pos, negsuc, ◌&&◌, cond, Bool, true, false, List, [], ◌∷◌, ◌++◌, length, take, drop, Option, Some, None, option_map, Ok, refl, sym, ap, ◌∙◌, subst, arith}
use Rattle.std.specs.Prelude.{nat_le, nat_lt, ◌==◌}
use Rattle.std.specs.Str.{bytes_eq}
use Rattle.std.proofs.lemmas.List.{length-take, length-drop, length-append}
use Rattle.std.proofs.lemmas.Bool.Decides.{nat_tests}
use Rattle.asl_syn.specs.declared.token.Span.{Span}
use Rattle.asl_syn.specs.declared.code.StaticCode.TheVariants.{T15}
use Rattle.asl_syn.specs.declared.code.DynCode.TheVariants.{D14}
use Rattle.asl_syn.specs.declared.tree.Ident.{Ident}
use Rattle.asl_poly.specs.Terms.{Polynomial}
use Rattle.asl_bits.specs.Lists.{with_slice}
use Rattle.asl_rules.specs.Faults.{fault_of}
use Rattle.asl_rules.specs.Tests.{Tests, IsRight}
use Rattle.asl_rules.specs.types.Types.{Ty, Fields, View, BitField, Kind, bitfield_width, integer_of, boolean, bits_of, enumeration_of, record_of, exception_of, tuple_of, array_of, named, no_field, field, bits_wide, is_bits, is_integer, view_of, width_of, kind, kind_eq}
use Rattle.asl_rules.specs.types.Closed as cl
use Rattle.asl_rules.specs.types.Closed.{Assignment, Closed, ClosedFields, type_with, fields_with, closed, width_at}
use Rattle.asl_rules.specs.values.Members.{Member, a_field, a_bitfield, member_type, numbered, one_further, field_among, bitfield_in, member_of, bitfields_in, all_wide, element_in}
use Rattle.asl_rules.specs.types.Shapes.{SliceShape}
use Rattle.asl_rules.specs.types.Shaped.{Named}
use Rattle.asl_rules.specs.values.Values.{Value, FieldValues, Values, int, bits_with, record_with, exception_with, array_with, no_value_of, value_of_field, no_value, value, count, is_exception, is_width, has, all_in}
use Rattle.asl_rules.specs.types.Views.{viewed, all_viewed, adopted}
use Rattle.asl_rules.specs.private.WellFormed.{AllInside, Shaped, ShapedView, Built, BuiltFields, BuiltAll, FieldsSeen, Written, WellDeclared}
use Rattle.asl_rules.specs.runs.States.{of_type, of_value, kept}
use Rattle.asl_rules.specs.private.Belonging.{has_type, fields_have, all_have, InType}
use Rattle.asl_rules.specs.private.Agreement.{no_atoms, types_in}
use Rattle.asl_rules.specs.declarations.Programs.{Environment}
use Rattle.asl_rules.specs.runs.Plans.{Faulted, Stuck, WrongKind, Pure, Good, Bad}
use Rattle.asl_rules.specs.runs.Pures.{◌>>=◌, there}
use Rattle.asl_rules.specs.values.Vectors.{Slicing, Places, slicings, tested, slice_places, with_slices, read_bits, write_bits, total_width, places_of_field, places_of_fields, bits_at, all_within, fill, with_places, bitfield_of, with_bitfield, bitfields_of, with_bitfields, named_among, bitfields_named}
use Rattle.asl_rules.specs.values.Operators.{plain_bits}
use Rattle.asl_rules.specs.private.ByPlace as places
use Rattle.asl_rules.specs.private.ByPlace.{with_field_at, with_field_in}
use Rattle.asl_rules.specs.values.Structures.{field_of, with_field_value, field_type, in_field, with_field, with_value_at, inside, element_of, with_element}
use Rattle.asl_rules.specs.runs.Evaluation.{Step, into_field, into_fields, into_slices, into_element, updated, types_of}
use Rattle.asl_rules.proofs.values.Rounded.{constant_at}
use Rattle.asl_rules.proofs.basics.Inversions.{ok_ok, err_ok}
use Rattle.asl_rules.proofs.basics.Tests.{no, both, and_true, some_same, none_some, same_name}
use Rattle.asl_rules.proofs.values.Shapes.{named_parts, array_is}
use Rattle.asl_rules.proofs.values.Keeping.{written_once}
use Rattle.asl_rules.proofs.values.KindOf.{has_kind}
use Rattle.asl_rules.proofs.values.Bare.{viewed_built}
use Rattle.asl_rules.proofs.values.Viewing.{width_is, viewed_has, viewed_twice, adopted_viewed, array_same, same_first, same_rest}
use Rattle.asl_rules.proofs.expressions.OperatorForms.{Gives, is_int, is_bitvector}
use Rattle.asl_rules.proofs.expressions.MemberForms as member
use Rattle.asl_rules.proofs.expressions.MemberForms.{same_view, same_number, constant_length, all_inside, each_found, member_gives, bitfields_give}
use Rattle.asl_laws.proofs.expressions.ElementForms.{element_gives}
use Rattle.asl_laws.proofs.values.Sliced.{AllWithin, Holds, all_widths, tested_places, bits_read, bits_given}
use Rattle.asl_laws.proofs.statements.AssignStores.{alike_types, kept_under}

-- ---- bits with others in their places

le_is : (m n : ℕ) → nat_le m n ≡ true → m ≤ n
le_is m n h = grind (arith, nat_tests)

is_le : (m n : ℕ) → m ≤ n → nat_le m n ≡ true
is_le m n h = grind (arith, nat_tests)

sums : (t a b c s low n m : ℕ) → t ≡ s + c → s ≡ a + b → a ≡ min low m → c ≡ m - (low + b) → m ≡ n → low + b ≤ n → t ≡ n
sums t a b c s low n m e f g h k l = omega arith

slice_length : (n low : ℕ) (part bs : List Bool) → length bs ≡ n → low + length part ≤ n → length (with_slice bs low part) ≡ n
slice_length n low part bs e l =
    sums (length (with_slice bs low part)) (length (take low bs)) (length part) (length (drop (low + length part) bs)) (length (take low bs ++ part)) low n (length bs)
    (length-append (take low bs ++ part) (drop (low + length part) bs)) (length-append (take low bs) part) (length-take low bs) (length-drop (low + length part) bs) e l

taken_long : (t l w m : ℕ) → l ≡ w + t → m ≡ min t l → m ≡ t
taken_long t l w m e f = omega arith

left_long : (t l w m : ℕ) → l ≡ w + t → m ≡ l - t → m ≡ w
left_long t l w m e f = omega arith

write_length : (n : ℕ) (ps : List Places) (r bs : List Bool) → AllWithin (Some n) ps → length r ≡ total_width ps → length bs ≡ n → length (write_bits ps r bs) ≡ n
write_length n [] r bs a e h = h
write_length n (p ∷ ps) r bs a e h =
    let t = total_width ps in
    let k : length (drop t r) ≡ p.width = left_long t (length r) p.width (length (drop t r)) e (length-drop t r) in
    write_length n ps (take t r) (with_slice bs p.low (drop t r)) a.1 (taken_long t (length r) p.width (length (take t r)) e (length-take t r))
    (slice_length n p.low (drop t r) bs h (subst (λ m. p.low + m ≤ n) (sym k) (le_is (p.low + p.width) n a.0)))

equal_is : (m n : ℕ) → m ≡ n → (m == n) ≡ true
equal_is m n h = grind (arith, nat_tests)

within_whole : (n : ℕ) (ps : List Places) → AllWithin (Some n) ps → all_within ps n ≡ true
within_whole n [] a = refl
within_whole n (p ∷ ps) a = and_true (nat_le (p.low + p.width) n) (all_within ps n) a.0 (within_whole n ps a.1)

filled_whole : (m : ℕ) (ps : List Places) (n : ℕ) → m ≡ total_width ps → AllWithin (Some n) ps → fill m ps n ≡ true
filled_whole m ps n h a = and_true (m == total_width ps) (all_within ps n) (equal_is m (total_width ps) h) (within_whole n ps a)

room : (l h n : ℕ) → l ≤ h → h + 1 ≤ n → l + (h + 1 - l) ≤ n
room l h n i j = omega arith

lt_is : (m n : ℕ) → nat_lt m n ≡ true → m + 1 ≤ n
lt_is m n h = grind (arith, nat_tests)

field_within : (n : ℕ) (f : BitField) → (nat_le f.low f.high && nat_lt f.high n) ≡ true → nat_le (f.low + bitfield_width f) n ≡ true
field_within n f h =
    let p = both (nat_le f.low f.high) (nat_lt f.high n) h in
    is_le (f.low + bitfield_width f) n (room f.low f.high n (le_is f.low f.high p.0) (lt_is f.high n p.1))

-- ---- what two ways give

-- the same, of this type
abbrev pub Both : (List ℕ → Option Ty) → Assignment → Ty → Pure Value → Pure Value → Type 0
Both d av T p q = (p ≡ q) × Gives d av T p

pub both_then : (d : List ℕ → Option Ty) (av : Assignment) (V T : Ty) (p q : Pure Value) (f g : Value → Pure Value) → p ≡ q → Gives d av V p → ((x : Value) → p ≡ Good x → InType d av x V → Both d av T (f x) (g x)) → Both d av T (p >>= f) (q >>= g)
both_then d av V T (Good x) q f g e h next = let n = next x refl h in (n.0 ∙ ap (λ r. r >>= g) e, n.1)
both_then d av V T (Bad (Faulted code span)) q f g e h next = (ap (λ r. r >>= g) e, tt)
both_then d av V T (Bad (Stuck mistake span)) q f g e h next = absurd h

both_holds : {A : Type 0} (d : List ℕ → Option Ty) (av : Assignment) (T : Ty) (P : A → Type 0) (p : Pure A) (f g : A → Pure Value) → Holds P p → ((x : A) → p ≡ Good x → P x → Both d av T (f x) (g x)) → Both d av T (p >>= f) (p >>= g)
both_holds d av T P (Good x) f g h next = next x refl h
both_holds d av T P (Bad (Faulted code span)) f g h next = (refl, tt)
both_holds d av T P (Bad (Stuck mistake span)) f g h next = absurd h

module _ (d : List ℕ → Option Ty) (w : WellDeclared d) (av : Assignment) (tests : Tests) (right : IsRight tests) where
  abbrev types : Named
  types = λ n. option_map closed (d n)

  -- ---- fields

  -- these fields with another value in place of the one of this name
  record FieldPut (fs : Fields) (q : ℕ × Ty) (f : List ℕ) (xs : FieldValues) (y : Value) : Type 0 where
    pub after : FieldValues
    pub by_name : with_field_value f y xs ≡ Some after
    pub by_number : with_field_at q.0 y xs ≡ Some after
    pub have : fields_have av after fs ≡ true
    pub seen : FieldsSeen fs after
    pub built : BuiltFields d after
    pub type_is : cl.field_among f (fields_with fs no_atoms) ≡ Some (closed q.1)
    pub closed_is : closed q.1 ≡ type_with q.1 av

  -- a field with its value
  record First (i g : List ℕ) (T : Ty) (x : Value) : Type 0 where
    pub named_so : bytes_eq g i ≡ true
    pub has_it : has_type av x T ≡ true
    pub seen : viewed (closed T) x ≡ x
    pub built : Built d x
    pub closed_is : closed T ≡ type_with T av

  further_put : (fs : Fields) (i g f : List ℕ) (T : Ty) (x y : Value) (xs : FieldValues) (q : ℕ × Ty) (o : Option (ℕ × Ty)) → First i g T x → bytes_eq i f ≡ false → one_further o ≡ Some q → ((p : ℕ × Ty) → o ≡ Some p → InType d av y p.1 → FieldPut fs p f xs y) → InType d av y q.1 → FieldPut (field i T fs) q f (value_of_field g x xs) y
  further_put fs i g f T x y xs q None k b e next j = none_some q e
  further_put fs i g f T x y xs q (Some p) k b e next j =
      subst (λ (z : ℕ × Ty). InType d av y z.1 → FieldPut (field i T fs) z f (value_of_field g x xs) y) (some_same (suc p.0, p.1) q e)
      (λ l. let r = next p refl l in record {
        after = value_of_field g x r.after;
        by_name = ap (λ c. cond c (Some (value_of_field g y xs)) (option_map (λ ys. value_of_field g x ys) (with_field_value f y xs))) (ap (λ n. bytes_eq n f) (same_name g i k.named_so) ∙ b) ∙ ap (option_map (λ ys. value_of_field g x ys)) r.by_name;
        by_number = ap (option_map (λ ys. value_of_field g x ys)) r.by_number;
        have = and_true (bytes_eq g i) (has_type av x T && fields_have av r.after fs) k.named_so (and_true (has_type av x T) (fields_have av r.after fs) k.has_it r.have);
        seen = (k.seen, r.seen);
        built = (k.built, r.built);
        type_is = ap (λ c. cond c (Some (closed T)) (cl.field_among f (fields_with fs no_atoms))) b ∙ r.type_is;
        closed_is = r.closed_is;
      }) j

  put_here : (b : Bool) (fs : Fields) (i g f : List ℕ) (T : Ty) (x y : Value) (xs : FieldValues) (q : ℕ × Ty) (o : Option (ℕ × Ty)) → bytes_eq i f ≡ b → First i g T x → fields_have av xs fs ≡ true → FieldsSeen fs xs → BuiltFields d xs → cond b (Some (0, T)) (one_further o) ≡ Some q →
      ((p : ℕ × Ty) → o ≡ Some p → InType d av y p.1 → FieldPut fs p f xs y) → InType d av y q.1 → FieldPut (field i T fs) q f (value_of_field g x xs) y
  put_here false fs i g f T x y xs q o b k h s u e next j = further_put fs i g f T x y xs q o k b e next j
  put_here true fs i g f T x y xs q o b k h s u e next j =
      subst (λ (z : ℕ × Ty). InType d av y z.1 → FieldPut (field i T fs) z f (value_of_field g x xs) y) (some_same (0, T) q e)
      (λ l. record {
        after = value_of_field g y xs;
        by_name = ap (λ c. cond c (Some (value_of_field g y xs)) (option_map (λ ys. value_of_field g x ys) (with_field_value f y xs))) (ap (λ n. bytes_eq n f) (same_name g i k.named_so) ∙ b);
        by_number = refl;
        have = and_true (bytes_eq g i) (has_type av y T && fields_have av xs fs) k.named_so (and_true (has_type av y T) (fields_have av xs fs) l.0 h);
        seen = (subst (λ V. viewed V y ≡ y) (sym k.closed_is) l.2, s);
        built = (l.1, u);
        type_is = ap (λ c. cond c (Some (closed T)) (cl.field_among f (fields_with fs no_atoms))) b;
        closed_is = k.closed_is;
      }) j

  fields_put : (fs : Fields) (xs : FieldValues) (f : List ℕ) (q : ℕ × Ty) (y : Value) → fields_have av xs fs ≡ true → FieldsSeen fs xs → fields_with fs av ≡ fields_with fs no_atoms → BuiltFields d xs → numbered f fs ≡ Some q → InType d av y q.1 → FieldPut fs q f xs y
  fields_put no_field xs f q y h s c b e j = none_some q e
  fields_put (field i T fs) no_value_of f q y h s c b e j = no h
  fields_put (field i T fs) (value_of_field g x xs) f q y h s c b e j =
      let p = both (bytes_eq g i) (has_type av x T && fields_have av xs fs) h in
      let r = both (has_type av x T) (fields_have av xs fs) p.1 in
      put_here (bytes_eq i f) fs i g f T x y xs q (numbered f fs) refl
      (record { named_so = p.0; has_it = r.0; seen = s.0; built = b.0; closed_is = sym (member.same_first i i (type_with T av) (closed T) (fields_with fs av) (fields_with fs no_atoms) c) })
      r.1 s.1 b.1 e
      (λ m l k. fields_put fs xs f m y r.1 s.1 (member.same_others i i (type_with T av) (closed T) (fields_with fs av) (fields_with fs no_atoms) c) b.1 l k) j

  -- ---- members

  -- both give this value, which belongs to the type
  record Put (T : Ty) (x : Value) (p q : Pure Value) : Type 0 where
    pub after : Value
    pub first_is : p ≡ Good after
    pub second_is : q ≡ Good after
    pub belongs : InType d av after T
    pub reaches_same : (n : List ℕ) → is_exception n after ≡ is_exception n x

  put_both : (T : Ty) (x : Value) (p q : Pure Value) → Put T x p q → Both d av T p q
  put_both T x p q r = (r.first_is ∙ sym r.second_is, subst (Gives d av T) (sym r.first_is) r.belongs)

  abbrev member_put_in : Span → Member → Value → Value → Pure Value
  member_put_in span (a_field n T) y x = with_field_in span n y x
  member_put_in span (a_bitfield f) y x = with_bitfield span f y x

  -- a value of its type is kept by a field as it is
  field_takes : (span : Span) (k : List ℕ) (V : Ty) (fs : Fields) (f : List ℕ) (y : Value) (U : Closed) → types k ≡ Some U → cl.fields_at U ≡ Some (fields_with fs no_atoms) → cl.field_among f (fields_with fs no_atoms) ≡ Some (closed V) → closed V ≡ type_with V av → InType d av y V → in_field types span k f y ≡ Good y
  field_takes span k V fs f y U e g t c i =
      ap (λ o. there span (field_type o f) >>= λ T. there span (kept (of_type T) y)) e
      ∙ ap (λ o. there span (cl_among f o) >>= λ T. there span (kept (of_type T) y)) g
      ∙ ap (λ o. there span o >>= λ T. there span (kept (of_type T) y)) t
      ∙ ap (there span) (kept_under d av (of_type (closed V)) V y c i)
    where
      cl_among : List ℕ → Option ClosedFields → Option Closed
      cl_among f None = None
      cl_among f (Some fs) = cl.field_among f fs

  field_by : (T : Ty) (x : Value) (span : Span) (p : Pure Value) (y : Value) (o : Option (ℕ × Ty)) (m : Member) → field_among o ≡ Some m → ((q : ℕ × Ty) → o ≡ Some q → InType d av y q.1 → Put T x p (with_field_in span q.0 y x)) → InType d av y (member_type m) → Put T x p (member_put_in span m y x)
  field_by T x span p y None m e next j = none_some m e
  field_by T x span p y (Some q) m e next j = subst (λ k. InType d av y (member_type k) → Put T x p (member_put_in span k y x)) (some_same (a_field q.0 q.1) m e) (λ l. next q refl l) j

  -- bits of the same number in place of others
  pub bits_stay : (T : Ty) (bs cs : List Bool) (v : View) → is_bits T ≡ true → length cs ≡ length bs → InType d av (bits_with bs v) T → InType d av (bits_with cs v) T
  bits_stay (bits_of p u) bs cs v k e i = (subst (λ n. is_width n (width_at p av) ≡ true) (sym e) i.0, tt, ap (bits_with cs) (same_view bs bs u v i.2))
  bits_stay (named n supers T) bs cs v k e i = bits_stay T bs cs v k e ((named_parts av (bits_with bs v) n supers T i.0).1, i.1, i.2)
  bits_stay (integer_of ps) bs cs v k e i = no k
  bits_stay boolean bs cs v k e i = no k
  bits_stay (enumeration_of n ls) bs cs v k e i = no k
  bits_stay (record_of n fs) bs cs v k e i = no k
  bits_stay (exception_of n fs) bs cs v k e i = no k
  bits_stay (tuple_of ts) bs cs v k e i = no k
  bits_stay (array_of n T) bs cs v k e i = no k

  -- bits, as many as the places have, in these places
  record BitsPut (T : Ty) (span : Span) (ps : List Places) (r : Value) (bs : List Bool) (v : View) : Type 0 where
    pub after : List Bool
    pub is : with_places span ps r (bits_with bs v) ≡ Good (bits_with after v)
    pub belongs : InType d av (bits_with after v) T

  bits_put : (T : Ty) (span : Span) (ps : List Places) (p : Polynomial) (r : Value) (bs : List Bool) (v : View) → is_bits T ≡ true → AllWithin (Some (length bs)) ps → width_at p av ≡ pos (total_width ps) → InType d av r (bits_of p []) → InType d av (bits_with bs v) T → BitsPut T span ps r bs v
  bits_put T span ps p r bs v k a e j i =
      let c = is_bitvector d av tests right (bits_of p []) r refl j in
      let long : length c.0 ≡ total_width ps = same_number (length c.0) (total_width ps) (sym (width_is (length c.0) (width_at p av) c.3) ∙ e) in
      record {
        after = write_bits ps c.0 bs;
        is = ap (λ z. with_places span ps z (bits_with bs v)) c.2 ∙
            ap (λ b. cond b (Good (bits_with (write_bits ps c.0 bs) v)) (Bad (Stuck WrongKind span))) (filled_whole (length c.0) ps (length bs) long a);
        belongs = bits_stay T bs (write_bits ps c.0 bs) v k (write_length (length bs) ps c.0 bs a long refl) i;
      }

  wide_constant : (n m : ℕ) → n ≡ m → width_at (width_of (bits_wide n)) av ≡ pos m
  wide_constant n m e = constant_at av (pos n) ∙ ap pos e

  plus_nothing : (n : ℕ) → n ≡ n + 0
  plus_nothing n = omega arith

  bitfield_by : (span : Span) (f : List ℕ) (p : Polynomial) (u : View) (o : Option BitField) (m : Member) (bs : List Bool) (y : Value) → bitfield_in f u ≡ o → ShapedView p u → option_map (λ b. a_bitfield b) o ≡ Some m → InType d av (bits_with bs u) (bits_of p u) → InType d av y (member_type m) →
      Put (bits_of p u) (bits_with bs u) (with_field types span f y (bits_with bs u)) (member_put_in span m y (bits_with bs u))
  bitfield_by span f p u None m bs y q s e i j = none_some m e
  bitfield_by span f p [] (Some g) m bs y q s e i j = none_some g q
  bitfield_by span f p (g0 ∷ gs) (Some g) m bs y q s e i j =
      let u = g0 ∷ gs in
      let n = s.0 in
      let named_is : named_among f u ≡ Some g = member.same_bitfield f u ∙ q in
      let inside = member.found_inside n f u g s.2 q in
      let long : length bs ≡ n = constant_length av p n bs (s.1 av) i.0 in
      let within : AllWithin (Some (length bs)) (places_of_field g ∷ []) = (field_within (length bs) g (subst (λ k. (nat_le g.low g.high && nat_lt g.high k) ≡ true) (sym long) inside), tt) in
      subst (λ k. InType d av y (member_type k) → Put (bits_of p u) (bits_with bs u) (with_field types span f y (bits_with bs u)) (member_put_in span k y (bits_with bs u))) (some_same (a_bitfield g) m e)
      (λ l.
      let r = bits_put (bits_of p u) span (places_of_field g ∷ []) (width_of (bits_wide (bitfield_width g))) y bs u refl within (wide_constant (bitfield_width g) (bitfield_width g + 0) (plus_nothing (bitfield_width g))) l i in
      record {
        after = bits_with r.after u;
        first_is = ap (λ z. there span z >>= λ b. with_bitfield span b y (bits_with bs u)) named_is ∙ r.is;
        second_is = r.is;
        belongs = r.belongs;
        reaches_same = λ k. refl;
      }) j

  -- a member of a value with another in its place
  member_put : (span : Span) (f : List ℕ) (T : Ty) (m : Member) (x y : Value) → Shaped d T → member_of T f ≡ Some m → InType d av x T → InType d av y (member_type m) → Put T x (with_field types span f y x) (member_put_in span m y x)
  member_put span f (record_of n fs) m (record_with k xs) y t e i j =
      let p = both (bytes_eq k n) (fields_have av xs fs) i.0 in
      let same : i.1.0.0 ≡ fs = member.same_record k n i.1.0.0 fs (written_once av tests right d k n (record_of k i.1.0.0) (record_of n fs) (same_name k n p.0) i.1.0.1 t.0) in
      let v : Written d k (record_of k fs) = subst (λ gs. Written d k (record_of k gs)) same i.1.0.1 in
      field_by (record_of n fs) (record_with k xs) span (with_field types span f y (record_with k xs)) y (numbered f fs) m e
      (λ q l g.
      let r = fields_put fs xs f q y p.1 (subst (λ gs. FieldsSeen gs xs) same i.1.0.2) (member.no_atoms_in d w av tests right n fs t.0) i.1.1 l g in
      let kept_so = field_takes span k q.1 fs f y (closed (named k v.supers (record_of k fs))) (ap (option_map closed) v.stands) refl r.type_is r.closed_is g in
      record {
        after = record_with k r.after;
        first_is = ap (λ z. z >>= λ c. there span (option_map (λ ys. record_with k ys) (with_field_value f c xs))) kept_so ∙ ap (λ o. there span (option_map (λ ys. record_with k ys) o)) r.by_name;
        second_is = ap (λ o. there span (option_map (λ ys. record_with k ys) o)) r.by_number;
        belongs = (and_true (bytes_eq k n) (fields_have av r.after fs) p.0 r.have, ((fs, v, r.seen), r.built), refl);
        reaches_same = λ c. refl;
      }) j
  member_put span f (exception_of n fs) m (exception_with own supers k xs) y t e i j =
      let p = both (bytes_eq k n) (fields_have av xs fs) i.0 in
      let b = i.1.1 in
      let same : b.0 ≡ fs = member.same_exception k n b.0 fs (written_once av tests right d k n (exception_of k b.0) (exception_of n fs) (same_name k n p.0) b.1 t.0) in
      let v : Written d k (exception_of k fs) = subst (λ gs. Written d k (exception_of k gs)) same b.1 in
      field_by (exception_of n fs) (exception_with own supers k xs) span (with_field types span f y (exception_with own supers k xs)) y (numbered f fs) m e
      (λ q l g.
      let r = fields_put fs xs f q y p.1 (subst (λ gs. FieldsSeen gs xs) same b.2) (member.no_atoms_in_exception d w av tests right n fs t.0) i.1.2 l g in
      let kept_so = field_takes span k q.1 fs f y (closed (named k v.supers (exception_of k fs))) (ap (option_map closed) v.stands) refl r.type_is r.closed_is g in
      record {
        after = exception_with own supers k r.after;
        first_is = ap (λ z. z >>= λ c. there span (option_map (λ ys. exception_with own supers k ys) (with_field_value f c xs))) kept_so ∙ ap (λ o. there span (option_map (λ ys. exception_with own supers k ys) o)) r.by_name;
        second_is = ap (λ o. there span (option_map (λ ys. exception_with own supers k ys) o)) r.by_number;
        belongs = (and_true (bytes_eq k n) (fields_have av r.after fs) p.0 r.have, (i.1.0, (fs, v, r.seen), r.built), refl);
        reaches_same = λ c. refl;
      }) j
  member_put span f (bits_of p u) m (bits_with bs v) y t e i j =
      subst (λ z. InType d av (bits_with bs z) (bits_of p u) → Put (bits_of p u) (bits_with bs z) (with_field types span f y (bits_with bs z)) (member_put_in span m y (bits_with bs z))) (same_view bs bs u v i.2)
      (λ l. bitfield_by span f p u (bitfield_in f u) m bs y refl t.1 e l j) i
  member_put span f (named n supers T) m x y t e i j =
      let p = named_parts av x n supers T i.0 in
      let r = member_put span f T m x y t.2 e (p.1, i.1, i.2) j in
      record {
        after = r.after;
        first_is = r.first_is;
        second_is = r.second_is;
        belongs = (and_true (is_exception n r.after) (has_type av r.after T) (r.reaches_same n ∙ (both (is_exception n x) (has_type av x T) i.0).0) r.belongs.0, r.belongs.1, r.belongs.2);
        reaches_same = r.reaches_same;
      }
  member_put span f (integer_of ps) m x y t e i j = none_some m e
  member_put span f boolean m x y t e i j = none_some m e
  member_put span f (enumeration_of n ls) m x y t e i j = none_some m e
  member_put span f (tuple_of ts) m x y t e i j = none_some m e
  member_put span f (array_of n T) m x y t e i j = none_some m e
  member_put span f T m x y t e i j = no i.0

  -- ---- several bitfields

  -- the bits of a value of a type of bits
  record BitsIn (T : Ty) (x : Value) : Type 0 where
    pub bits : List Bool
    pub view : View
    pub is : x ≡ bits_with bits view
    pub view_is : view_of T ≡ view
    pub inside : (is : List Ident) (fs : List BitField) → bitfields_in is view ≡ Ok fs → AllWithin (Some (length bits)) (places_of_fields fs)

  fields_within : (n : ℕ) (fs : List BitField) → AllInside n fs → AllWithin (Some n) (places_of_fields fs)
  fields_within n [] a = tt
  fields_within n (f ∷ fs) a = (field_within n f a.0, fields_within n fs a.1)

  inside_of : (p : Polynomial) (u : View) (bs : List Bool) (is : List Ident) (fs : List BitField) → ShapedView p u → is_width (length bs) (width_at p av) ≡ true → bitfields_in is u ≡ Ok fs → AllWithin (Some (length bs)) (places_of_fields fs)
  inside_of p [] bs [] fs s h e = subst (λ gs. AllWithin (Some (length bs)) (places_of_fields gs)) (ok_ok [] fs e) tt
  inside_of p [] bs (i ∷ is) fs s h e = err_ok (fault_of T15 i.span) fs e
  inside_of p (g ∷ gs) bs is fs s h e =
      let long = constant_length av p s.0 bs (s.1 av) h in
      subst (λ n. AllWithin (Some n) (places_of_fields fs)) (sym long) (fields_within s.0 fs (all_inside d w av tests right s.0 is (g ∷ gs) fs s.2 e))

  bits_in : (T : Ty) (x : Value) → Shaped d T → is_bits T ≡ true → InType d av x T → BitsIn T x
  bits_in (bits_of p u) (bits_with bs v) t k i =
      let e = same_view bs bs u v i.2 in
      record { bits = bs; view = v; is = refl; view_is = e; inside = λ is fs h. inside_of p u bs is fs t.1 i.0 (subst (λ z. bitfields_in is z ≡ Ok fs) (sym e) h) }
  bits_in (named n supers T) x t k i = let r = bits_in T x t.2 k ((named_parts av x n supers T i.0).1, i.1, i.2) in record { bits = r.bits; view = r.view; is = r.is; view_is = r.view_is; inside = r.inside }
  bits_in (integer_of ps) x t k i = no k
  bits_in boolean x t k i = no k
  bits_in (enumeration_of n ls) x t k i = no k
  bits_in (record_of n fs) x t k i = no k
  bits_in (exception_of n fs) x t k i = no k
  bits_in (tuple_of ts) x t k i = no k
  bits_in (array_of n T) x t k i = no k
  bits_in T x t k i = no i.0

  all_wide_is : (fs : List BitField) → all_wide fs ≡ total_width (places_of_fields fs)
  all_wide_is [] = refl
  all_wide_is (f ∷ fs) = ap (λ n. bitfield_width f + n) (all_wide_is fs)

  within_put : (b : Bool) (T : Ty) (span : Span) (ps : List Places) (r : Value) (bs : List Bool) (v : View) → BitsPut T span ps r bs v → Gives d av T (cond b (Good ps) (Bad (Faulted D14 span)) >>= λ qs. with_places span qs r (bits_with bs v))
  within_put true T span ps r bs v b = subst (Gives d av T) (sym b.is) b.belongs
  within_put false T span ps r bs v b = tt

  -- ---- elements

  abbrev ElementsPut : Closed → Values → Option Values → Type 0
  ElementsPut T xs None = Unit {0}
  ElementsPut T xs (Some ys) = (all_in ys T ≡ true) × (count ys ≡ count xs) × BuiltAll d ys × (all_viewed T ys ≡ ys)

  put_later : (T : Closed) (x : Value) (xs : Values) (o : Option Values) → has x T ≡ true → Built d x → viewed T x ≡ x → ElementsPut T xs o → ElementsPut T (value x xs) (option_map (λ ys. value x ys) o)
  put_later T x xs None h b v r = tt
  put_later T x xs (Some ys) h b v r = (and_true (has x T) (all_in ys T) h r.0, ap suc r.1, (b, r.2), ap (λ z. value z (all_viewed T ys)) v ∙ ap (value x) r.3)

  elements_put : (T : Closed) (xs : Values) (i : ℕ) (y : Value) → all_in xs T ≡ true → BuiltAll d xs → all_viewed T xs ≡ xs → has y T ≡ true → Built d y → viewed T y ≡ y → ElementsPut T xs (with_value_at i y xs)
  elements_put T no_value i y h b v k c u = tt
  elements_put T (value x xs) zero y h b v k c u =
      (and_true (has y T) (all_in xs T) k (both (has x T) (all_in xs T) h).1, refl, (c, b.1), ap (λ z. value z (all_viewed T xs)) u ∙ ap (value y) (same_rest (viewed T x) x (all_viewed T xs) xs v))
  elements_put T (value x xs) (suc i) y h b v k c u =
      let p = both (has x T) (all_in xs T) h in
      put_later T x xs (with_value_at i y xs) p.0 b.0 (same_first (viewed T x) x (all_viewed T xs) xs v) (elements_put T xs i y p.1 b.1 (same_rest (viewed T x) x (all_viewed T xs) xs v) k c u)

  array_put : (span : Span) (n : ℕ) (U : Ty) (l : Kind) (xs : Values) (o : Option Values) → (kind_eq l (kind U) && (count xs == n)) ≡ true → ElementsPut (type_with U av) xs o → Gives d av (array_of n U) (inside span (option_map (λ ys. array_with l ys) o))
  array_put span n U l xs None h r = tt
  array_put span n U l xs (Some ys) h r =
      (and_true (kind_eq l (kind U) && (count ys == n)) (all_have av ys U) (subst (λ m. (kind_eq l (kind U) && (m == n)) ≡ true) (sym r.1) h) r.0, r.2, ap (array_with l) r.3)

  named_array : (n : List ℕ) (supers : List (List ℕ)) (T : Ty) (span : Span) (l : Kind) (o : Option Values) → Gives d av T (inside span (option_map (λ ys. array_with l ys) o)) → Gives d av (named n supers T) (inside span (option_map (λ ys. array_with l ys) o))
  named_array n supers T span l None g = tt
  named_array n supers T span l (Some ys) g = g

  element_put : (span : Span) (T V : Ty) (l : Kind) (xs : Values) (i : ℕ) (y : Value) → element_in T ≡ Some V → InType d av (array_with l xs) T → InType d av y V → Gives d av T (inside span (option_map (λ ys. array_with l ys) (with_value_at i y xs)))
  element_put span (array_of n U) V l xs i y e k j =
      let p = both (kind_eq l (kind U) && (count xs == n)) (all_have av xs U) k.0 in
      let q : InType d av y U = subst (InType d av y) (sym (some_same U V e)) j in
      array_put span n U l xs (with_value_at i y xs) p.0 (elements_put (type_with U av) xs i y p.1 k.1 (array_same l l (all_viewed (type_with U av) xs) xs k.2) q.0 q.1 q.2)
  element_put span (named n supers T) V l xs i y e k j = named_array n supers T span l (with_value_at i y xs) (element_put span T V l xs i y e ((named_parts av (array_with l xs) n supers T k.0).1, k.1, k.2) j)
  element_put span T V l xs i y e k j = none_some V e

  -- an array
  record IsArray (x : Value) : Type 0 where
    pub of : Kind
    pub values : Values
    pub is : x ≡ array_with of values

  array_in : (T V : Ty) (x : Value) → element_in T ≡ Some V → has_type av x T ≡ true → IsArray x
  array_in (array_of n U) V x e h = let r = array_is n (kind U) x (has_kind av (array_of n U) x h) in record { of = kind U; values = r.0; is = r.1 }
  array_in (named n supers T) V x e h = array_in T V x e (named_parts av x n supers T h).1
  array_in T V x e h = none_some V e

  index_put : (span : Span) (T V : Ty) (l : Kind) (xs : Values) (z : ℤ) (y : Value) → element_in T ≡ Some V → InType d av (array_with l xs) T → InType d av y V → Gives d av T (with_element span y (array_with l xs) (int z))
  index_put span T V l xs (pos i) y e k j = element_put span T V l xs i y e k j
  index_put span T V l xs (negsuc i) y e k j = tt

  with_element_gives : (span : Span) (T V I : Ty) (x v y : Value) → element_in T ≡ Some V → is_integer I ≡ true → InType d av v I → InType d av x T → InType d av y V → Gives d av T (with_element span y x v)
  with_element_gives span T V I x v y e k n i j =
      let a = array_in T V x e i.0 in
      let z = is_int d av tests right I v k n in
      subst (λ u. Gives d av T (with_element span y u v)) (sym a.is)
      (subst (λ u. Gives d av T (with_element span y (array_with a.of a.values) u)) (sym z.1) (index_put span T V a.of a.values z.0 y e (subst (λ u. InType d av u T) a.is i) j))

-- ---- ways into values

module _ (env : Environment) (w : WellDeclared (types_in env.names)) (av : Assignment) (tests : Tests) (right : IsRight tests) where
  abbrev d : List ℕ → Option Ty
  d = types_in env.names

  -- these steps by names and by places do the same, from a value of the first type to one that fits the second
  abbrev pub Updates : Ty → Ty → List Step → List places.Step → Type 0
  Updates T U ss ps = (at : Span) (y x : Value) → has_type av y U ≡ true → Built d y → InType d av x T → Both d av T (updated env at ss y x) (places.updated env.limit true ps y x)

  pub no_steps : (T : Ty) → Updates T T [] []
  no_steps T at y x h b i =
      let e = adopted_viewed (type_with T av) x y i.0 h i.2 in
      let k : there at (kept (of_value x) y) ≡ Good (adopted x y) = ap (there at) (ap (λ t. cond t (Some (adopted x y)) None) (alike_types av T x y i.0 h)) in
      (k, subst (Gives d av T) (sym k) (subst (λ z. InType d av z T) (sym e) (viewed_has (type_with T av) y h, viewed_built d (type_with T av) y b, viewed_twice (type_with T av) y)))

  abbrev pub place_step : Span → Member → places.Step
  place_step span (a_field n T) = places.into_field span n
  place_step span (a_bitfield f) = places.into_bitfield span f

  pub field_step : (T U : Ty) (span : Span) (f : List ℕ) (m : Member) (ss : List Step) (ps : List places.Step) → Shaped d T → member_of T f ≡ Some m → Updates (member_type m) U ss ps → Updates T U (into_field span f ∷ ss) (place_step span m ∷ ps)
  field_step T U span f (a_field n V) ss ps t e next at y x h b i =
      let g = member_gives d w av tests right span f T (a_field n V) x t e i in
      both_then d av V T (field_of span f x) (places.field_in span n x) (λ q. updated env at ss y q >>= λ r. with_field (types_of env) span f r x) (λ q. places.updated env.limit true ps y q >>= λ r. with_field_in span n r x) g.same g.gives (λ q u j.
      let c = next at y q h b j in
      both_then d av V T (updated env at ss y q) (places.updated env.limit true ps y q) (λ r. with_field (types_of env) span f r x) (λ r. with_field_in span n r x) c.0 c.1 (λ r v k.
      put_both d w av tests right T x (with_field (types_of env) span f r x) (with_field_in span n r x) (member_put d w av tests right span f T (a_field n V) x r t e i k)))
  field_step T U span f (a_bitfield n) ss ps t e next at y x h b i =
      let V = bits_wide (bitfield_width n) in
      let g = member_gives d w av tests right span f T (a_bitfield n) x t e i in
      both_then d av V T (field_of span f x) (bitfield_of span n x) (λ q. updated env at ss y q >>= λ r. with_field (types_of env) span f r x) (λ q. places.updated env.limit true ps y q >>= λ r. with_bitfield span n r x) g.same g.gives (λ q u j.
      let c = next at y q h b j in
      both_then d av V T (updated env at ss y q) (places.updated env.limit true ps y q) (λ r. with_field (types_of env) span f r x) (λ r. with_bitfield span n r x) c.0 c.1 (λ r v k.
      put_both d w av tests right T x (with_field (types_of env) span f r x) (with_bitfield span n r x) (member_put d w av tests right span f T (a_bitfield n) x r t e i k)))

  pub bitfields_step : (T U : Ty) (span : Span) (is : List Ident) (fs : List BitField) (ss : List Step) (ps : List places.Step) → Shaped d T → is_bits T ≡ true → bitfields_in is (view_of T) ≡ Ok fs → Updates (bits_wide (all_wide fs)) U ss ps → Updates T U (into_fields span is ∷ ss) (places.into_bitfields span fs ∷ ps)
  bitfields_step T U span is fs ss ps t k e next at y x h b i =
      let V = bits_wide (all_wide fs) in
      let z = bits_in d w av tests right T x t k i in
      let found : bitfields_in is z.view ≡ Ok fs = subst (λ v. bitfields_in is v ≡ Ok fs) z.view_is e in
      let are : bitfields_named span is x ≡ Good fs = ap (bitfields_named span is) z.is ∙ each_found d w av tests right span is z.view fs found in
      let g = bitfields_give d w av tests right env.limit span is T fs x t e k i in
      let qs = places_of_fields fs in
      subst (λ o. Both d av T (o >>= λ gs. bitfields_of env.limit span gs x >>= λ q. updated env at ss y q >>= λ r. with_bitfields env.limit span gs r x) (places.updated env.limit true (places.into_bitfields span fs ∷ ps) y x)) (sym are)
      (both_then d av V T (bitfields_of env.limit span fs x) (bitfields_of env.limit span fs x) (λ q. updated env at ss y q >>= λ r. with_bitfields env.limit span fs r x) (λ q. places.updated env.limit true ps y q >>= λ r. with_bitfields env.limit span fs r x) refl (subst (Gives d av V) g.0 g.1) (λ q u j.
      let c = next at y q h b j in
      both_then d av V T (updated env at ss y q) (places.updated env.limit true ps y q) (λ r. with_bitfields env.limit span fs r x) (λ r. with_bitfields env.limit span fs r x) c.0 c.1 (λ r v l. (
        refl,
        subst (λ u1. Gives d av T (with_bitfields env.limit span fs r u1)) (sym z.is)
            (within_put d w av tests right (nat_le (total_width qs) env.limit) T span qs r z.bits z.view
            (bits_put d w av tests right T span qs (width_of V) r z.bits z.view k (z.inside is fs found) (wide_constant d w av tests right (all_wide fs) (total_width qs) (all_wide_is d w av tests right fs)) l (subst (λ u1. InType d av u1 T) z.is i))),
      ))))

  slices_of_bits : (T U : Ty) (span : Span) (sl : List SliceShape) (zs : List Value) (list : List Slicing) (p : Polynomial) (ss : List Step) (ps : List places.Step) (at : Span) (y : Value) (bs : List Bool) (u : View) → is_bits T ≡ true → slicings sl zs ≡ Some list → width_at p av ≡ all_widths list → Updates (bits_of p []) U ss ps →
      has_type av y U ≡ true → Built d y → InType d av (bits_with bs u) T → Both d av T (updated env at (into_slices span sl zs ∷ ss) y (bits_with bs u)) (places.updated env.limit true (places.into_slices span sl zs ∷ ps) y (bits_with bs u))
  slices_of_bits T U span sl zs list p ss ps at y bs u k s e next h b i =
      let x = bits_with bs u in
      let V = bits_of p [] in
      both_holds d av T (λ qs. (all_widths list ≡ pos (total_width qs)) × AllWithin (Some (length bs)) qs) (slice_places env.limit span sl zs x)
      (λ qs. bits_at span qs x >>= λ q. updated env at ss y q >>= λ r. with_slices env.limit span sl zs r x) (λ qs. bits_at span qs x >>= λ q. places.updated env.limit true ps y q >>= λ r. with_slices env.limit span sl zs r x)
      (subst (λ o. Holds (λ qs. (all_widths list ≡ pos (total_width qs)) × AllWithin (Some (length bs)) qs) (tested env.limit span (Some (length bs)) o)) (sym s) (tested_places env.limit span (Some (length bs)) list)) (λ qs is a.
      let q = plain_bits (read_bits qs bs) in
      let c = next at y q h b (bits_given d av tests right p (read_bits qs bs) (total_width qs) (all_widths list) e a.0 (bits_read bs qs a.1)) in
      both_then d av V T (updated env at ss y q) (places.updated env.limit true ps y q) (λ r. with_slices env.limit span sl zs r x) (λ r. with_slices env.limit span sl zs r x) c.0 c.1 (λ r v l.
      let m = bits_put d w av tests right T span qs p r bs u k a.1 (e ∙ a.0) l i in
      (refl, subst (Gives d av T) (sym (ap (λ o. o >>= λ qs1. with_places span qs1 r x) is ∙ m.is)) m.belongs)))

  pub slices_step : (T U : Ty) (span : Span) (sl sh : List SliceShape) (zs : List Value) (list : List Slicing) (p : Polynomial) (ss : List Step) (ps : List places.Step) → sl ≡ sh → Shaped d T → is_bits T ≡ true → slicings sh zs ≡ Some list → width_at p av ≡ all_widths list → Updates (bits_of p []) U ss ps →
      Updates T U (into_slices span sl zs ∷ ss) (places.into_slices span sh zs ∷ ps)
  slices_step T U span sl sh zs list p ss ps same t k s e next at y x h b i =
      let z = bits_in d w av tests right T x t k i in
      subst (λ l. Both d av T (updated env at (into_slices span l zs ∷ ss) y x) (places.updated env.limit true (places.into_slices span sh zs ∷ ps) y x)) (sym same)
      (subst (λ u. Both d av T (updated env at (into_slices span sh zs ∷ ss) y u) (places.updated env.limit true (places.into_slices span sh zs ∷ ps) y u)) (sym z.is)
      (slices_of_bits T U span sh zs list p ss ps at y z.bits z.view k s e next h b (subst (λ u. InType d av u T) z.is i)))

  pub element_step : (T V I U : Ty) (span : Span) (v : Value) (ss : List Step) (ps : List places.Step) → element_in T ≡ Some V → is_integer I ≡ true → InType d av v I → Updates V U ss ps → Updates T U (into_element span v ∷ ss) (places.into_element span v ∷ ps)
  element_step T V I U span v ss ps e k n next at y x h b i =
      both_then d av V T (element_of span x v) (element_of span x v) (λ q. updated env at ss y q >>= λ r. with_element span r x v) (λ q. places.updated env.limit true ps y q >>= λ r. with_element span r x v) refl (element_gives d av tests right span T I V x v e k i n) (λ q u j.
      let c = next at y q h b j in
      both_then d av V T (updated env at ss y q) (places.updated env.limit true ps y q) (λ r. with_element span r x v) (λ r. with_element span r x v) c.0 c.1 (λ r z m. (refl, with_element_gives d w av tests right span T V I x v r e k n i m)))
