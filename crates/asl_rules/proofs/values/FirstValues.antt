-- What a variable of a type begins with belongs to the type, has its bitfields, and its exceptions are built with declared types.
use Rattle.std.proofs.Common.{◌≡◌, ℕ, zero, suc, ◌&&◌, Bool, true, false, cond, List, [], ◌∷◌, Option, Some, None, refl, sym, ap, ap₂, ◌∙◌, subst, length, arith}
use Rattle.std.proofs.lemmas.Bool.Decides.{nat_tests}
use Rattle.std.specs.Prelude.{ℤ, pos, negsuc, ◌==◌, nat_le, replicate}
use Rattle.std.specs.Str.{bytes_eq}
use Rattle.asl_syn.specs.declared.token.Span.{Span}
use Rattle.asl_syn.specs.declared.code.DynCode.TheVariants.{D14, D16}
use Rattle.asl_rules.specs.types.Types.{Ty, Fields, Parts, integer_of, boolean, bits_of, enumeration_of, record_of, exception_of, tuple_of, array_of, named, no_field, field, no_part, part, View, kind, kind_eq, is_among}
use Rattle.asl_rules.specs.types.Closed.{Closed, Range, not_above, in_one, in_some, is_in, lowest, first_in, width_at, constraint_at, closed, fields_with, parts_with}
use Rattle.asl_rules.specs.values.Values.{Value, FieldValues, Values, int, bool, bits_with, label, record_with, exception_with, tuple_with, array_with, no_value, value, no_value_of, value_of_field, count, is_exception, is_width, has, fields_in, parts_in, all_in, repeated, first_label, named_as}
use Rattle.asl_rules.specs.types.Views.{viewed, parts_viewed, all_viewed}
use Rattle.asl_rules.specs.private.WellFormed.{Built, BuiltAll, BuiltFields, SeenAs, FieldsSeen, Declared, HasLabel, Shaped, ShapedFields, ShapedParts, WellFormed, is_named, is_nameless_exception}
use Rattle.asl_rules.specs.private.Belonging.{InType}
use Rattle.asl_rules.specs.private.Agreement.{no_atoms}
use Rattle.asl_rules.specs.runs.Plans.{End, Faulted, Pure, Good, Bad}
use Rattle.asl_rules.specs.runs.Pures.{◌>>=◌}
use Rattle.asl_rules.specs.types.Written.{first_integer, first_bits, first_value, first_fields, first_parts}
use Rattle.asl_rules.proofs.basics.Tests.{no, and_true, or_first, or_second, some_same, none_some, name_is}
use Rattle.asl_rules.proofs.values.SameKind.{kind_is, number_is}

-- ---- what is good

abbrev IsGood : {A : Type 0} → Pure A → Type 0
IsGood (Good x) = Unit {0}
IsGood (Bad e) = ⊥

good_in : {A : Type 0} → A → Pure A → A
good_in x (Good y) = y
good_in x (Bad e) = x

pub good_same : {A : Type 0} (x y : A) → Good x ≡ Good y → x ≡ y
unfolding good_in
good_same x y h = ap (good_in x) h

pub bad_good : {A B : Type 0} (e : End) (x : A) → Bad e ≡ Good x → B
bad_good e x h = absurd (subst IsGood (sym h) tt)

pub record GoodBehind {A B : Type 0} (r : Pure A) (f : A → Pure B) (y : B) : Type 0 where
  pub one : A
  pub is : r ≡ Good one
  pub then : f one ≡ Good y

pub good_behind : {A B : Type 0} (r : Pure A) (f : A → Pure B) (y : B) → (r >>= f) ≡ Good y → GoodBehind r f y
good_behind (Good x) f y h = record { one = x; is = refl; then = h }
good_behind (Bad e) f y h = bad_good e y h

-- ---- integers and bits

above_itself : (z : ℤ) → not_above z z ≡ true
above_itself (pos n) = le_itself n
  where
    le_itself : (n : ℕ) → nat_le n n ≡ true
    le_itself n = grind (arith, nat_tests)
above_itself (negsuc n) = le_itself n
  where
    le_itself : (n : ℕ) → nat_le n n ≡ true
    le_itself n = grind (arith, nat_tests)

lowest_by : (b : Bool) (r : Range) (rs : List Range) (z : ℤ) → not_above r.low r.high ≡ b → cond b (Some r.low) (lowest rs) ≡ Some z → (lowest rs ≡ Some z → in_some z rs ≡ true) → in_some z (r ∷ rs) ≡ true
lowest_by true r rs z q h next = or_first (in_one z r) (in_some z rs) (subst (λ y. in_one y r ≡ true) (some_same r.low z h) (and_true (not_above r.low r.low) (not_above r.low r.high) (above_itself r.low) q))
lowest_by false r rs z q h next = or_second (in_one z r) (in_some z rs) (next h)

lowest_in : (rs : List Range) (z : ℤ) → lowest rs ≡ Some z → in_some z rs ≡ true
lowest_in [] z h = none_some z h
lowest_in (r ∷ rs) z h = lowest_by (not_above r.low r.high) r rs z refl h (lowest_in rs z)

zero_or : (b : Bool) (rs : List Range) (z : ℤ) → in_some (pos 0) rs ≡ b → cond b (Some (pos 0)) (lowest rs) ≡ Some z → in_some z rs ≡ true
zero_or true rs z q h = subst (λ y. in_some y rs ≡ true) (some_same (pos 0) z h) q
zero_or false rs z q h = lowest_in rs z h

pub first_is_in : (c : Option (List Range)) (z : ℤ) → first_in c ≡ Some z → is_in z c ≡ true
first_is_in None z h = refl
first_is_in (Some rs) z h = zero_or (in_some (pos 0) rs) rs z refl h

pub record FirstInteger (o : Option ℤ) (x : Value) : Type 0 where
  pub one : ℤ
  pub is : o ≡ Some one
  pub value_is : int one ≡ x

pub first_integer_is : (span : Span) (o : Option ℤ) (x : Value) → first_integer span o ≡ Good x → FirstInteger o x
first_integer_is span None x h = bad_good (Faulted D16 span) x h
first_integer_is span (Some z) x h = record { one = z; is = refl; value_is = good_same (int z) x h }

length_copies : {A : Type 0} (n : ℕ) (b : A) → length (replicate n b) ≡ n
length_copies zero b = refl
length_copies (suc n) b = ap suc (length_copies n b)

pub record FirstBits (w : ℤ) (u : View) (x : Value) : Type 0 where
  pub one : List Bool
  pub value_is : bits_with one u ≡ x
  pub wide : is_width (length one) w ≡ true

bits_by : (b : Bool) (span : Span) (n : ℕ) (u : View) (x : Value) → cond b (Good (bits_with (replicate n false) u)) (Bad (Faulted D14 span)) ≡ Good x → FirstBits (pos n) u x
bits_by true span n u x h = record { one = replicate n false; value_is = good_same (bits_with (replicate n false) u) x h; wide = ap (λ k. k == n) (length_copies n false) ∙ number_is n }
bits_by false span n u x h = bad_good (Faulted D14 span) x h

pub first_bits_are : (limit : ℕ) (span : Span) (w : ℤ) (u : View) (x : Value) → first_bits limit span w u ≡ Good x → FirstBits w u x
first_bits_are limit span (pos n) u x h = bits_by (nat_le n limit) span n u x h
first_bits_are limit span (negsuc n) u x h = bad_good (Faulted D14 span) x h

-- ---- copies, labels and names

first_among : (labels : List (List ℕ)) → HasLabel labels → is_among (first_label labels) labels ≡ true
first_among [] h = absurd h
first_among (l ∷ ls) h = or_first (bytes_eq l l) (is_among l ls) (name_is l)

pub count_repeated : (n : ℕ) (x : Value) → count (repeated n x) ≡ n
count_repeated zero x = refl
count_repeated (suc n) x = ap suc (count_repeated n x)

pub all_repeated : (n : ℕ) (x : Value) (T : Closed) → has x T ≡ true → all_in (repeated n x) T ≡ true
all_repeated zero x T h = refl
all_repeated (suc n) x T h = and_true (has x T) (all_in (repeated n x) T) h (all_repeated n x T h)

pub repeated_seen : (n : ℕ) (x : Value) (T : Closed) → viewed T x ≡ x → all_viewed T (repeated n x) ≡ repeated n x
repeated_seen zero x T h = refl
repeated_seen (suc n) x T h = ap₂ (λ y ys. value y ys) h (repeated_seen n x T h)

called_so : (x : Value) (n : List ℕ) (supers : List (List ℕ)) → is_exception n (named_as n supers x) ≡ true
called_so (exception_with own s i xs) n supers = or_first (bytes_eq n n) (is_among n supers) (name_is n)
called_so (int z) n supers = refl
called_so (bool b) n supers = refl
called_so (bits_with bs v) n supers = refl
called_so (label i l) n supers = refl
called_so (record_with i xs) n supers = refl
called_so (tuple_with xs) n supers = refl
called_so (array_with k xs) n supers = refl

renamed : (T : Ty) (x : Value) (n : List ℕ) (supers : List (List ℕ)) → is_named T ≡ false → has x (closed T) ≡ true → has (named_as n supers x) (closed T) ≡ true
renamed (named m others T) x n supers u h = no (sym u)
renamed T (exception_with own s i xs) n supers u h = h
renamed T x n supers u h = h

renamed_seen : (T : Ty) (x : Value) (n : List ℕ) (supers : List (List ℕ)) → is_named T ≡ false → viewed (closed T) x ≡ x → viewed (closed T) (named_as n supers x) ≡ named_as n supers x
renamed_seen (named m others T) x n supers u h = no (sym u)
renamed_seen T (exception_with own s i xs) n supers u h = refl
renamed_seen T x n supers u h = h

-- the exceptions in the fields of an exception are built with declared types, whatever it is itself
abbrev BuiltInside : (List ℕ → Option Ty) → Value → Type 0
BuiltInside d (exception_with own supers n xs) = SeenAs d (exception_of n) n xs × BuiltFields d xs
BuiltInside d x = Built d x

pub repeated_built : (d : List ℕ → Option Ty) (n : ℕ) (x : Value) → Built d x → BuiltAll d (repeated n x)
repeated_built d zero x b = tt
repeated_built d (suc n) x b = (b, repeated_built d n x b)

renamed_inside : (d : List ℕ → Option Ty) (x : Value) (n : List ℕ) (supers : List (List ℕ)) → BuiltInside d x → BuiltInside d (named_as n supers x)
renamed_inside d (exception_with own s i xs) n supers b = b
renamed_inside d (int z) n supers b = b
renamed_inside d (bool z) n supers b = b
renamed_inside d (bits_with bs v) n supers b = b
renamed_inside d (label i l) n supers b = b
renamed_inside d (record_with i xs) n supers b = b
renamed_inside d (tuple_with xs) n supers b = b
renamed_inside d (array_with k xs) n supers b = b

renamed_built : (d : List ℕ → Option Ty) (x : Value) (n : List ℕ) (supers : List (List ℕ)) (T : Ty) → Declared d n supers T → BuiltInside d (named_as n supers x) → Built d (named_as n supers x)
renamed_built d (exception_with own s i xs) n supers T v b = ((T, v.stands), b.0, b.1)
renamed_built d (int z) n supers T v b = b
renamed_built d (bool z) n supers T v b = b
renamed_built d (bits_with bs u) n supers T v b = b
renamed_built d (label i l) n supers T v b = b
renamed_built d (record_with i xs) n supers T v b = b
renamed_built d (tuple_with xs) n supers T v b = b
renamed_built d (array_with k xs) n supers T v b = b

module _ (limit : ℕ) (span : Span) (d : List ℕ → Option Ty) where
  record Starts (T : Ty) (x : Value) : Type 0 where
    have : has x (closed T) ≡ true
    inside : BuiltInside d x
    seen : viewed (closed T) x ≡ x

  record FieldsStart (fs : Fields) (xs : FieldValues) : Type 0 where
    have : fields_in xs (fields_with fs no_atoms) ≡ true
    built : BuiltFields d xs
    seen : FieldsSeen fs xs

  record PartsStart (ts : Parts) (xs : Values) : Type 0 where
    have : parts_in xs (parts_with ts no_atoms) ≡ true
    built : BuiltAll d xs
    seen : parts_viewed (parts_with ts no_atoms) xs ≡ xs

  -- an exception has a name where it is a field, a part or an element
  with_name : (T : Ty) (x : Value) → is_nameless_exception T ≡ false → Shaped d T → first_value limit span (closed T) ≡ Good x → BuiltInside d x → Built d x
  with_name (named n supers T) x u s h b =
      let r = good_behind (first_value limit span (closed T)) (λ y. Good (named_as n supers y)) x h in
      let e = good_same (named_as n supers r.one) x r.then in
      subst (Built d) e (renamed_built d r.one n supers T s.1 (subst (BuiltInside d) (sym e) b))
  with_name (exception_of n fs) x u s h b = no (sym u)
  with_name (integer_of ps) x u s h b = let r = first_integer_is span (first_in (constraint_at ps no_atoms)) x h in subst (Built d) r.value_is tt
  with_name boolean x u s h b = subst (Built d) (good_same (bool false) x h) tt
  with_name (bits_of w v) x u s h b = let r = first_bits_are limit span (width_at w no_atoms) v x h in subst (Built d) r.value_is tt
  with_name (enumeration_of n labels) x u s h b = subst (Built d) (good_same (label n (first_label labels)) x h) tt
  with_name (record_of n fs) x u s h b =
      let r = good_behind (first_fields limit span (fields_with fs no_atoms)) (λ xs. Good (record_with n xs)) x h in
      let e = good_same (record_with n r.one) x r.then in
      subst (Built d) e (subst (BuiltInside d) (sym e) b)
  with_name (tuple_of ts) x u s h b =
      let r = good_behind (first_parts limit span (parts_with ts no_atoms)) (λ xs. Good (tuple_with xs)) x h in
      let e = good_same (tuple_with r.one) x r.then in
      subst (Built d) e (subst (BuiltInside d) (sym e) b)
  with_name (array_of zero T) x u s h b = subst (Built d) (good_same (array_with (kind T) no_value) x h) tt
  with_name (array_of (suc n) T) x u s h b =
      let r = good_behind (first_value limit span (closed T)) (λ y. Good (array_with (kind T) (repeated (suc n) y))) x h in
      let e = good_same (array_with (kind T) (repeated (suc n) r.one)) x r.then in
      subst (Built d) e (subst (BuiltInside d) (sym e) b)

  elements_have : (n : ℕ) (x : Value) (T : Ty) → all_in (repeated n x) (closed T) ≡ true → ((kind_eq (kind T) (kind T) && (count (repeated n x) == n)) && all_in (repeated n x) (closed T)) ≡ true
  elements_have n x T h = and_true (kind_eq (kind T) (kind T) && (count (repeated n x) == n)) (all_in (repeated n x) (closed T))
      (and_true (kind_eq (kind T) (kind T)) (count (repeated n x) == n) (kind_is (kind T)) (subst (λ i. (i == n) ≡ true) (sym (count_repeated n x)) (number_is n))) h

  mutual
    first_is : (T : Ty) → Shaped d T → (x : Value) → first_value limit span (closed T) ≡ Good x → Starts T x
    first_is (integer_of ps) s x h =
        let r = first_integer_is span (first_in (constraint_at ps no_atoms)) x h in
        subst (Starts (integer_of ps)) r.value_is (record { have = first_is_in (constraint_at ps no_atoms) r.one r.is; inside = tt; seen = refl })
    first_is boolean s x h = subst (Starts boolean) (good_same (bool false) x h) (record { have = refl; inside = tt; seen = refl })
    first_is (bits_of w u) s x h =
        let r = first_bits_are limit span (width_at w no_atoms) u x h in
        subst (Starts (bits_of w u)) r.value_is (record { have = r.wide; inside = tt; seen = refl })
    first_is (enumeration_of n labels) s x h =
        subst (Starts (enumeration_of n labels)) (good_same (label n (first_label labels)) x h) (record { have = and_true (bytes_eq n n) (is_among (first_label labels) labels) (name_is n) (first_among labels s.1); inside = tt; seen = refl })
    first_is (record_of n fs) s x h =
        let r = good_behind (first_fields limit span (fields_with fs no_atoms)) (λ xs. Good (record_with n xs)) x h in
        let f = first_fields_are fs s.1 r.one r.is in
        subst (Starts (record_of n fs)) (good_same (record_with n r.one) x r.then) (record { have = and_true (bytes_eq n n) (fields_in r.one (fields_with fs no_atoms)) (name_is n) f.have; inside = ((fs, s.0, f.seen), f.built); seen = refl })
    first_is (exception_of n fs) s x h =
        let r = good_behind (first_fields limit span (fields_with fs no_atoms)) (λ xs. Good (exception_with n [] n xs)) x h in
        let f = first_fields_are fs s.1 r.one r.is in
        subst (Starts (exception_of n fs)) (good_same (exception_with n [] n r.one) x r.then) (record { have = and_true (bytes_eq n n) (fields_in r.one (fields_with fs no_atoms)) (name_is n) f.have; inside = ((fs, s.0, f.seen), f.built); seen = refl })
    first_is (tuple_of ts) s x h =
        let r = good_behind (first_parts limit span (parts_with ts no_atoms)) (λ xs. Good (tuple_with xs)) x h in
        let f = first_parts_are ts s r.one r.is in
        subst (Starts (tuple_of ts)) (good_same (tuple_with r.one) x r.then) (record { have = f.have; inside = f.built; seen = ap (λ ys. tuple_with ys) f.seen })
    first_is (array_of zero T) s x h = subst (Starts (array_of zero T)) (good_same (array_with (kind T) no_value) x h) (record { have = elements_have zero (int (pos 0)) T refl; inside = tt; seen = refl })
    first_is (array_of (suc n) T) s x h =
        let r = good_behind (first_value limit span (closed T)) (λ y. Good (array_with (kind T) (repeated (suc n) y))) x h in
        let f = first_is T s.1 r.one r.is in
        subst (Starts (array_of (suc n) T)) (good_same (array_with (kind T) (repeated (suc n) r.one)) x r.then) (record {
          have = elements_have (suc n) r.one T (all_repeated (suc n) r.one (closed T) f.have);
          inside = repeated_built d (suc n) r.one (with_name T r.one s.0 s.1 r.is f.inside);
          seen = ap (λ ys. array_with (kind T) ys) (repeated_seen (suc n) r.one (closed T) f.seen);
        })
    first_is (named n supers T) s x h =
        let r = good_behind (first_value limit span (closed T)) (λ y. Good (named_as n supers y)) x h in
        let f = first_is T s.2 r.one r.is in
        subst (Starts (named n supers T)) (good_same (named_as n supers r.one) x r.then) (record {
          have = and_true (is_exception n (named_as n supers r.one)) (has (named_as n supers r.one) (closed T)) (called_so r.one n supers) (renamed T r.one n supers s.0 f.have);
          inside = renamed_inside d r.one n supers f.inside;
          seen = renamed_seen T r.one n supers s.0 f.seen;
        })

    first_fields_are : (fs : Fields) → ShapedFields d fs → (xs : FieldValues) → first_fields limit span (fields_with fs no_atoms) ≡ Good xs → FieldsStart fs xs
    first_fields_are no_field s xs h = subst (FieldsStart no_field) (good_same no_value_of xs h) (record { have = refl; built = tt; seen = tt })
    first_fields_are (field f T fs) s xs h =
        let r = good_behind (first_value limit span (closed T)) (λ x. first_fields limit span (fields_with fs no_atoms) >>= λ ys. Good (value_of_field f x ys)) xs h in
        let q = good_behind (first_fields limit span (fields_with fs no_atoms)) (λ ys. Good (value_of_field f r.one ys)) xs r.then in
        let a = first_is T s.1 r.one r.is in
        let b = first_fields_are fs s.2 q.one q.is in
        subst (FieldsStart (field f T fs)) (good_same (value_of_field f r.one q.one) xs q.then) (record {
          have = and_true (bytes_eq f f) (has r.one (closed T) && fields_in q.one (fields_with fs no_atoms)) (name_is f) (and_true (has r.one (closed T)) (fields_in q.one (fields_with fs no_atoms)) a.have b.have);
          built = (with_name T r.one s.0 s.1 r.is a.inside, b.built);
          seen = (a.seen, b.seen);
        })

    first_parts_are : (ts : Parts) → ShapedParts d ts → (xs : Values) → first_parts limit span (parts_with ts no_atoms) ≡ Good xs → PartsStart ts xs
    first_parts_are no_part s xs h = subst (PartsStart no_part) (good_same no_value xs h) (record { have = refl; built = tt; seen = refl })
    first_parts_are (part T ts) s xs h =
        let r = good_behind (first_value limit span (closed T)) (λ x. first_parts limit span (parts_with ts no_atoms) >>= λ ys. Good (value x ys)) xs h in
        let q = good_behind (first_parts limit span (parts_with ts no_atoms)) (λ ys. Good (value r.one ys)) xs r.then in
        let a = first_is T s.1 r.one r.is in
        let b = first_parts_are ts s.2 q.one q.is in
        subst (PartsStart (part T ts)) (good_same (value r.one q.one) xs q.then) (record {
          have = and_true (has r.one (closed T)) (parts_in q.one (parts_with ts no_atoms)) a.have b.have;
          built = (with_name T r.one s.0 s.1 r.is a.inside, b.built);
          seen = ap₂ (λ y ys. value y ys) a.seen b.seen;
        })

  pub first_in_type : (T : Ty) → WellFormed d T → (x : Value) → first_value limit span (closed T) ≡ Good x → InType d no_atoms x T
  first_in_type T w x h = let f = first_is T w.shaped x h in (f.have, with_name T x w.has_name w.shaped h f.inside, f.seen)
