-- A written type with the values of its expressions begins with the first value of the type, where that has one.
use Rattle.std.proofs.Common.{◌≡◌, ℕ, zero, suc, ℤ, pos, negsuc, Bool, true, false, cond, List, [], ◌∷◌, Option, Some, None, refl, ap, ◌∙◌, subst}
use Rattle.std.specs.Prelude.{nat_le, replicate, option_and_then}
use Rattle.asl_syn.specs.declared.token.Span.{Span}
use Rattle.asl_syn.specs.declared.code.DynCode.TheVariants.{D14}
use Rattle.asl_rules.specs.types.Types.{View, Kind}
use Rattle.asl_rules.specs.types.Closed as cl
use Rattle.asl_rules.specs.types.Closed.{Closed, ClosedParts, Range, first_in, kind_at}
use Rattle.asl_rules.specs.types.Shapes as shapes
use Rattle.asl_rules.specs.types.Shapes.{PartShape, BitfieldShape, TypeShape, TypeShapes}
use Rattle.asl_rules.specs.values.Values.{Value, Values, bits_with, int, tuple_with, array_with, value, repeated}
use Rattle.asl_rules.specs.runs.Plans.{Faulted, Pure, Good, Bad}
use Rattle.asl_rules.specs.runs.Pures.{◌>>=◌}
use Rattle.asl_rules.specs.types.Written.{first_integer, first_bits, first_elements, first_value, first_parts, Sized, SizedRanges, SizedView, SizedParts, sized_as, all_ranges, integer_filled, constraint_filled, all_bitfields, bits_filled, width_filled, with_part, first_part, tuple_filled, array_filled, by_length, filled, parts_filled}
use Rattle.asl_rules.proofs.basics.Tests.{some_same, none_some}
use Rattle.asl_rules.proofs.values.FirstValues.{bad_good, good_behind}

module _ (limit : ℕ) (whole : Span) where
  -- where the type has a first value, that is what it begins with
  pub record Begins (T : Closed) (r : Pure Value) : Type 0 where
    pub gives : (x : Value) → first_value limit whole T ≡ Good x → r ≡ Good x

  record AllBegin (ts : ClosedParts) (r : Pure Values) : Type 0 where
    gives : (xs : Values) → first_parts limit whole ts ≡ Good xs → r ≡ Good xs

  sized_begins : (T : Closed) (r : Pure Value) (zs : List Value) (s : Sized) → sized_as T r zs ≡ Some s → Begins T r → Begins s.type_is s.first
  sized_begins T r zs s h b = subst (λ (z : Sized). Begins z.type_is z.first) (some_same _ s h) b

  other_place : (b : Bool) (span : Span) (n : ℕ) (u : View) (x : Value) → cond b (Good (bits_with (replicate n false) u)) (Bad (Faulted D14 whole)) ≡ Good x → cond b (Good (bits_with (replicate n false) u)) (Bad (Faulted D14 span)) ≡ Good x
  other_place true span n u x h = h
  other_place false span n u x h = bad_good _ x h

  bits_begin : (span : Span) (w : ℤ) (u : View) → Begins (cl.bits_of w u) (first_bits limit span w u)
  bits_begin span (pos n) u = record { gives = λ x h. other_place (nat_le n limit) span n u x h }
  bits_begin span (negsuc n) u = record { gives = λ x h. bad_good _ x h }

  integer_begins : (c : Option (List Range)) → Begins (cl.integer_in c) (first_integer whole (first_in c))
  integer_begins c = record { gives = λ x h. h }

  constraint_begins : (ps : List PartShape) (zs : List Value) (s : Sized) → constraint_filled whole ps zs ≡ Some s → Begins s.type_is s.first
  constraint_begins [] zs s h = sized_begins _ _ zs s h (integer_begins None)
  constraint_begins (p ∷ ps) zs s h = by (all_ranges (p ∷ ps) zs) h
    where
      by : (o : Option SizedRanges) → option_and_then (λ (r : SizedRanges). integer_filled whole (Some r.ranges) r.left) o ≡ Some s → Begins s.type_is s.first
      by None k = none_some s k
      by (Some r) k = sized_begins _ _ r.left s k (integer_begins (Some r.ranges))

  view_begins : (span : Span) (w : ℤ) (o : Option SizedView) (s : Sized) → option_and_then (λ (v : SizedView). bits_filled limit span w v.view v.left) o ≡ Some s → Begins s.type_is s.first
  view_begins span w None s h = none_some s h
  view_begins span w (Some v) s h = sized_begins _ _ v.left s h (bits_begin span w v.view)

  width_begins : (span : Span) (fs : List BitfieldShape) (zs : List Value) (s : Sized) → width_filled limit span fs zs ≡ Some s → Begins s.type_is s.first
  width_begins span fs (int w ∷ zs) s h = view_begins span w (all_bitfields fs zs) s h
  width_begins span fs zs s h = none_some s h

  -- a part in front
  part_begins : (T : Closed) (ts : ClosedParts) (r : Pure Value) (q : Pure Values) → Begins T r → AllBegin ts q → AllBegin (cl.part T ts) (r >>= λ x. q >>= λ xs. Good (value x xs))
  part_begins T ts r q a b = record {
    gives = λ xs h.
        let u = good_behind (first_value limit whole T) (λ x. first_parts limit whole ts >>= λ ys. Good (value x ys)) xs h in
        let v = good_behind (first_parts limit whole ts) (λ ys. Good (value u.one ys)) xs u.then in
        ap (λ z. z >>= λ x. q >>= λ ys. Good (value x ys)) (a.gives u.one u.is) ∙ ap (λ z. z >>= λ ys. Good (value u.one ys)) (b.gives v.one v.is) ∙ v.then;
  }

  tuple_begins : (ts : ClosedParts) (q : Pure Values) → AllBegin ts q → Begins (cl.tuple_of ts) (q >>= λ xs. Good (tuple_with xs))
  tuple_begins ts q b = record {
    gives = λ x h.
        let v = good_behind (first_parts limit whole ts) (λ ys. Good (tuple_with ys)) x h in
        ap (λ z. z >>= λ ys. Good (tuple_with ys)) (b.gives v.one v.is) ∙ v.then;
  }

  array_begins : (n : ℕ) (k : Kind) (T : Closed) (r : Pure Value) → Begins T r → Begins (cl.array_of n k T) (first_elements n k r)
  array_begins zero k T r b = record { gives = λ x h. h }
  array_begins (suc n) k T r b = record {
    gives = λ x h.
        let v = good_behind (first_value limit whole T) (λ y. Good (array_with k (repeated (suc n) y))) x h in
        ap (λ z. z >>= λ y. Good (array_with k (repeated (suc n) y))) (b.gives v.one v.is) ∙ v.then;
  }

  parts_with_begin : (T : Sized) (o : Option SizedParts) (p : SizedParts) → with_part T o ≡ Some p → Begins T.type_is T.first → ((q : SizedParts) → o ≡ Some q → AllBegin q.parts q.first) → AllBegin p.parts p.first
  parts_with_begin T None p h a f = none_some p h
  parts_with_begin T (Some q) p h a f = subst (λ (z : SizedParts). AllBegin z.parts z.first) (some_same _ p h) (part_begins T.type_is q.parts T.first q.first a (f q refl))

  parts_by : (o : Option Sized) (rest : List Value → Option SizedParts) (p : SizedParts) → first_part o rest ≡ Some p → ((T : Sized) → o ≡ Some T → Begins T.type_is T.first) → ((zs : List Value) (q : SizedParts) → rest zs ≡ Some q → AllBegin q.parts q.first) → AllBegin p.parts p.first
  parts_by None rest p h f g = none_some p h
  parts_by (Some T) rest p h f g = parts_with_begin T (rest T.left) p h (f T refl) (λ q k. g T.left q k)

  tuple_by : (o : Option SizedParts) (s : Sized) → tuple_filled o ≡ Some s → ((q : SizedParts) → o ≡ Some q → AllBegin q.parts q.first) → Begins s.type_is s.first
  tuple_by None s h f = none_some s h
  tuple_by (Some p) s h f = sized_begins _ _ p.left s h (tuple_begins p.parts p.first (f p refl))

  array_by : (n : ℕ) (o : Option Sized) (s : Sized) → array_filled n o ≡ Some s → ((T : Sized) → o ≡ Some T → Begins T.type_is T.first) → Begins s.type_is s.first
  array_by n None s h f = none_some s h
  array_by n (Some T) s h f = sized_begins _ _ T.left s h (array_begins n (kind_at T.type_is) T.type_is T.first (f T refl))

  length_by : (zs : List Value) (element : List Value → Option Sized) (s : Sized) → by_length zs element ≡ Some s → ((ys : List Value) (T : Sized) → element ys ≡ Some T → Begins T.type_is T.first) → Begins s.type_is s.first
  length_by (int (pos n) ∷ zs) element s h f = array_by n (element zs) s h (λ T k. f zs T k)
  length_by zs element s h f = none_some s h

  mutual
    -- so it is of each written type
    pub filled_begins : (t : TypeShape) (zs : List Value) (s : Sized) → filled limit whole t zs ≡ Some s → Begins s.type_is s.first
    filled_begins (shapes.integer_of ps) zs s h = constraint_begins ps zs s h
    filled_begins shapes.boolean zs s h = sized_begins _ _ zs s h (record { gives = λ x k. k })
    filled_begins (shapes.one_bit span) zs s h = sized_begins _ _ zs s h (bits_begin span (pos 1) [])
    filled_begins (shapes.bits_of span fs) zs s h = width_begins span fs zs s h
    filled_begins (shapes.known T) zs s h = sized_begins _ _ zs s h (record { gives = λ x k. k })
    filled_begins (shapes.tuple_of ts) zs s h = tuple_by (parts_filled limit whole ts zs) s h (λ q k. all_begin ts zs q k)
    filled_begins (shapes.array_of t) zs s h = length_by zs (filled limit whole t) s h (λ ys T k. filled_begins t ys T k)

    all_begin : (ts : TypeShapes) (zs : List Value) (p : SizedParts) → parts_filled limit whole ts zs ≡ Some p → AllBegin p.parts p.first
    all_begin shapes.no_shape zs p h = subst (λ (z : SizedParts). AllBegin z.parts z.first) (some_same _ p h) (record { gives = λ xs k. k })
    all_begin (shapes.shape_and t ts) zs p h = parts_by (filled limit whole t zs) (parts_filled limit whole ts) p h (λ T k. filled_begins t zs T k) (λ ys q k. all_begin ts ys q k)
