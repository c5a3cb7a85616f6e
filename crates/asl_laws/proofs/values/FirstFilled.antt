-- What a written type with the values of its expressions begins with is the first value of the type, and no run is stuck there.
use Rattle.std.proofs.Common.{◌≡◌, ℕ, zero, suc, ℤ, pos, negsuc, Bool, true, false, cond, List, [], ◌∷◌, Option, Some, None, refl, ap, ◌∙◌, subst}
use Rattle.std.specs.Prelude.{nat_le, replicate, option_and_then}
use Rattle.asl_syn.specs.declared.token.Span.{Span}
use Rattle.asl_syn.specs.declared.code.DynCode.TheVariants.{D14}
use Rattle.asl_rules.specs.types.Types.{View, Kind}
use Rattle.asl_rules.specs.types.Closed as cl
use Rattle.asl_rules.specs.types.Closed.{Closed, ClosedFields, ClosedParts, Range, first_in, kind_at}
use Rattle.asl_rules.specs.types.Shapes as shapes
use Rattle.asl_rules.specs.types.Shapes.{PartShape, BitfieldShape, TypeShape, TypeShapes}
use Rattle.asl_rules.specs.values.Values.{Value, Values, bits_with, int, tuple_with, array_with, value, repeated}
use Rattle.asl_rules.specs.runs.Plans.{Faulted, Stuck, Pure, Good, Bad}
use Rattle.asl_rules.specs.runs.Pures.{◌>>=◌}
use Rattle.asl_rules.specs.types.Written.{first_integer, first_bits, first_elements, first_value, first_fields, first_parts, Sized, SizedRanges, SizedView, SizedParts, sized_as, all_ranges, integer_filled, constraint_filled, all_bitfields, bits_filled, width_filled, with_part, first_part, tuple_filled, array_filled, by_length, filled, parts_filled}
use Rattle.asl_rules.proofs.basics.Tests.{some_same, none_some}
use Rattle.asl_rules.proofs.values.FirstValues.{bad_good, good_behind}

abbrev pub Unstuck : {A : Type 0} → Pure A → Type 0
Unstuck (Good x) = Unit {0}
Unstuck (Bad (Faulted code span)) = Unit {0}
Unstuck (Bad (Stuck mistake span)) = ⊥

unstuck_behind : {A B : Type 0} (r : Pure A) (f : A → Pure B) → Unstuck r → ((x : A) → Unstuck (f x)) → Unstuck (r >>= f)
unstuck_behind (Good x) f h k = k x
unstuck_behind (Bad (Faulted code span)) f h k = tt
unstuck_behind (Bad (Stuck mistake span)) f h k = absurd h

-- ---- first values

integer_unstuck : (span : Span) (o : Option ℤ) → Unstuck (first_integer span o)
integer_unstuck span None = tt
integer_unstuck span (Some z) = tt

bits_by : (b : Bool) (span : Span) (n : ℕ) (u : View) → Unstuck (cond b (Good (bits_with (replicate n false) u)) (Bad (Faulted D14 span)))
bits_by true span n u = tt
bits_by false span n u = tt

bits_unstuck : (limit : ℕ) (span : Span) (w : ℤ) (u : View) → Unstuck (first_bits limit span w u)
bits_unstuck limit span (pos n) u = bits_by (nat_le n limit) span n u
bits_unstuck limit span (negsuc n) u = tt

elements_unstuck : (n : ℕ) (k : Kind) (r : Pure Value) → Unstuck r → Unstuck (first_elements n k r)
elements_unstuck zero k r h = tt
elements_unstuck (suc n) k r h = unstuck_behind r _ h (λ x. tt)

module _ (limit : ℕ) (span : Span) where
  mutual
    pub first_unstuck : (T : Closed) → Unstuck (first_value limit span T)
    first_unstuck (cl.integer_in c) = integer_unstuck span (first_in c)
    first_unstuck cl.boolean = tt
    first_unstuck (cl.bits_of w u) = bits_unstuck limit span w u
    first_unstuck (cl.enumeration_of name labels) = tt
    first_unstuck (cl.record_of name fs) = unstuck_behind (first_fields limit span fs) _ (fields_unstuck fs) (λ x. tt)
    first_unstuck (cl.exception_of name fs) = unstuck_behind (first_fields limit span fs) _ (fields_unstuck fs) (λ x. tt)
    first_unstuck (cl.tuple_of ts) = unstuck_behind (first_parts limit span ts) _ (parts_unstuck ts) (λ x. tt)
    first_unstuck (cl.array_of n k T) = elements_unstuck n k (first_value limit span T) (first_unstuck T)
    first_unstuck (cl.named name supers T) = unstuck_behind (first_value limit span T) _ (first_unstuck T) (λ x. tt)

    fields_unstuck : (fs : ClosedFields) → Unstuck (first_fields limit span fs)
    fields_unstuck cl.no_field = tt
    fields_unstuck (cl.field f T fs) = unstuck_behind (first_value limit span T) _ (first_unstuck T) (λ x. unstuck_behind (first_fields limit span fs) _ (fields_unstuck fs) (λ xs. tt))

    parts_unstuck : (ts : ClosedParts) → Unstuck (first_parts limit span ts)
    parts_unstuck cl.no_part = tt
    parts_unstuck (cl.part T ts) = unstuck_behind (first_value limit span T) _ (first_unstuck T) (λ x. unstuck_behind (first_parts limit span ts) _ (parts_unstuck ts) (λ xs. tt))

-- ---- a written type

module _ (limit : ℕ) (whole : Span) where
  -- what it begins with is a first value of the type, wherever the fault may stand
  pub record Begins (T : Closed) (r : Pure Value) : Type 0 where
    pub first : (x : Value) → r ≡ Good x → first_value limit whole T ≡ Good x
    pub unstuck : Unstuck r

  record AllBegin (ts : ClosedParts) (r : Pure Values) : Type 0 where
    first : (xs : Values) → r ≡ Good xs → first_parts limit whole ts ≡ Good xs
    unstuck : Unstuck r

  sized_begins : (T : Closed) (r : Pure Value) (zs : List Value) (s : Sized) → sized_as T r zs ≡ Some s → Begins T r → Begins s.type_is s.first
  sized_begins T r zs s h b = subst (λ (z : Sized). Begins z.type_is z.first) (some_same _ s h) b

  other_place : (b : Bool) (span : Span) (n : ℕ) (u : View) (x : Value) → cond b (Good (bits_with (replicate n false) u)) (Bad (Faulted D14 span)) ≡ Good x → cond b (Good (bits_with (replicate n false) u)) (Bad (Faulted D14 whole)) ≡ Good x
  other_place true span n u x h = h
  other_place false span n u x h = bad_good _ x h

  bits_begin : (span : Span) (w : ℤ) (u : View) → Begins (cl.bits_of w u) (first_bits limit span w u)
  bits_begin span (pos n) u = record { first = λ x h. other_place (nat_le n limit) span n u x h; unstuck = bits_unstuck limit span (pos n) u }
  bits_begin span (negsuc n) u = record { first = λ x h. bad_good _ x h; unstuck = tt }

  integer_begins : (c : Option (List Range)) → Begins (cl.integer_in c) (first_integer whole (first_in c))
  integer_begins c = record { first = λ x h. h; unstuck = integer_unstuck whole (first_in c) }

  constraint_begins : (ps : List PartShape) (zs : List Value) (s : Sized) → constraint_filled whole ps zs ≡ Some s → Begins s.type_is s.first
  constraint_begins [] zs s h = sized_begins _ _ zs s h (integer_begins None)
  constraint_begins (p ∷ ps) zs s h = by (all_ranges (p ∷ ps) zs) h
    where
      by : (o : Option SizedRanges) → option_and_then (λ (r : SizedRanges). integer_filled whole (Some r.ranges) r.left) o ≡ Some s → Begins s.type_is s.first
      by None k = none_some s k
      by (Some r) k = sized_begins _ _ r.left s k (integer_begins (Some r.ranges))

  view_begins : (span : Span) (w : ℤ) (o : Option SizedView) (s : Sized) → option_and_then (λ (v : SizedView). bits_filled limit span w v.view v.left) o ≡ Some s → Begins s.type_is s.first
  view_begins span w None s h = none_some s h
  view_begins span w (Some v) s h = sized_begins _ _ v.left s h (bits_begin span w v.view)

  width_begins : (span : Span) (fs : List BitfieldShape) (zs : List Value) (s : Sized) → width_filled limit span fs zs ≡ Some s → Begins s.type_is s.first
  width_begins span fs (int w ∷ zs) s h = view_begins span w (all_bitfields fs zs) s h
  width_begins span fs zs s h = none_some s h

  -- a part in front
  part_begins : (T : Closed) (ts : ClosedParts) (r : Pure Value) (q : Pure Values) → Begins T r → AllBegin ts q → AllBegin (cl.part T ts) (r >>= λ x. q >>= λ xs. Good (value x xs))
  part_begins T ts r q a b = record {
    first = λ xs h.
        let u = good_behind r (λ x. q >>= λ ys. Good (value x ys)) xs h in
        let v = good_behind q (λ ys. Good (value u.one ys)) xs u.then in
        ap (λ z. z >>= λ x. first_parts limit whole ts >>= λ ys. Good (value x ys)) (a.first u.one u.is) ∙ ap (λ z. z >>= λ ys. Good (value u.one ys)) (b.first v.one v.is) ∙ v.then;
    unstuck = unstuck_behind r _ a.unstuck (λ x. unstuck_behind q _ b.unstuck (λ xs. tt));
  }

  tuple_begins : (ts : ClosedParts) (q : Pure Values) → AllBegin ts q → Begins (cl.tuple_of ts) (q >>= λ xs. Good (tuple_with xs))
  tuple_begins ts q b = record {
    first = λ x h.
        let v = good_behind q (λ ys. Good (tuple_with ys)) x h in
        ap (λ z. z >>= λ ys. Good (tuple_with ys)) (b.first v.one v.is) ∙ v.then;
    unstuck = unstuck_behind q _ b.unstuck (λ xs. tt);
  }

  array_begins : (n : ℕ) (k : Kind) (T : Closed) (r : Pure Value) → Begins T r → Begins (cl.array_of n k T) (first_elements n k r)
  array_begins zero k T r b = record { first = λ x h. h; unstuck = tt }
  array_begins (suc n) k T r b = record {
    first = λ x h.
        let v = good_behind r (λ y. Good (array_with k (repeated (suc n) y))) x h in
        ap (λ z. z >>= λ y. Good (array_with k (repeated (suc n) y))) (b.first v.one v.is) ∙ v.then;
    unstuck = unstuck_behind r _ b.unstuck (λ xs. tt);
  }

  parts_with_begin : (T : Sized) (o : Option SizedParts) (p : SizedParts) → with_part T o ≡ Some p → Begins T.type_is T.first → ((q : SizedParts) → o ≡ Some q → AllBegin q.parts q.first) → AllBegin p.parts p.first
  parts_with_begin T None p h a f = none_some p h
  parts_with_begin T (Some q) p h a f = subst (λ (z : SizedParts). AllBegin z.parts z.first) (some_same _ p h) (part_begins T.type_is q.parts T.first q.first a (f q refl))

  parts_by : (o : Option Sized) (rest : List Value → Option SizedParts) (p : SizedParts) → first_part o rest ≡ Some p → ((T : Sized) → o ≡ Some T → Begins T.type_is T.first) → ((zs : List Value) (q : SizedParts) → rest zs ≡ Some q → AllBegin q.parts q.first) → AllBegin p.parts p.first
  parts_by None rest p h f g = none_some p h
  parts_by (Some T) rest p h f g = parts_with_begin T (rest T.left) p h (f T refl) (λ q k. g T.left q k)

  tuple_by : (o : Option SizedParts) (s : Sized) → tuple_filled o ≡ Some s → ((q : SizedParts) → o ≡ Some q → AllBegin q.parts q.first) → Begins s.type_is s.first
  tuple_by None s h f = none_some s h
  tuple_by (Some p) s h f = sized_begins _ _ p.left s h (tuple_begins p.parts p.first (f p refl))

  array_by : (n : ℕ) (o : Option Sized) (s : Sized) → array_filled n o ≡ Some s → ((T : Sized) → o ≡ Some T → Begins T.type_is T.first) → Begins s.type_is s.first
  array_by n None s h f = none_some s h
  array_by n (Some T) s h f = sized_begins _ _ T.left s h (array_begins n (kind_at T.type_is) T.type_is T.first (f T refl))

  length_by : (zs : List Value) (element : List Value → Option Sized) (s : Sized) → by_length zs element ≡ Some s → ((ys : List Value) (T : Sized) → element ys ≡ Some T → Begins T.type_is T.first) → Begins s.type_is s.first
  length_by (int (pos n) ∷ zs) element s h f = array_by n (element zs) s h (λ T k. f zs T k)
  length_by zs element s h f = none_some s h

  mutual
    -- so it is of each written type
    pub filled_begins : (t : TypeShape) (zs : List Value) (s : Sized) → filled limit whole t zs ≡ Some s → Begins s.type_is s.first
    filled_begins (shapes.integer_of ps) zs s h = constraint_begins ps zs s h
    filled_begins shapes.boolean zs s h = sized_begins _ _ zs s h (record { first = λ x k. k; unstuck = tt })
    filled_begins (shapes.one_bit span) zs s h = sized_begins _ _ zs s h (bits_begin span (pos 1) [])
    filled_begins (shapes.bits_of span fs) zs s h = width_begins span fs zs s h
    filled_begins (shapes.known T) zs s h = sized_begins _ _ zs s h (record { first = λ x k. k; unstuck = first_unstuck limit whole T })
    filled_begins (shapes.tuple_of ts) zs s h = tuple_by (parts_filled limit whole ts zs) s h (λ q k. all_begin ts zs q k)
    filled_begins (shapes.array_of t) zs s h = length_by zs (filled limit whole t) s h (λ ys T k. filled_begins t ys T k)

    all_begin : (ts : TypeShapes) (zs : List Value) (p : SizedParts) → parts_filled limit whole ts zs ≡ Some p → AllBegin p.parts p.first
    all_begin shapes.no_shape zs p h = subst (λ (z : SizedParts). AllBegin z.parts z.first) (some_same _ p h) (record { first = λ xs k. k; unstuck = tt })
    all_begin (shapes.shape_and t ts) zs p h = parts_by (filled limit whole t zs) (parts_filled limit whole ts) p h (λ T k. filled_begins t zs T k) (λ ys q k. all_begin ts ys q k)
