-- Bits, tuples and arrays without their names and bitfields: the same kind and the same values, which are stripped of their bitfields.
use Rattle.std.proofs.Common.{◌≡◌, ℕ, suc, ◌&&◌, Bool, true, false, List, Option, refl, sym, ap, ap₂, ◌∙◌, subst}
use Rattle.std.specs.Prelude.{◌==◌, if◌then◌else◌}
use Rattle.asl_rules.specs.types.Types.{Ty, Parts, Kind, integer_of, boolean, bits_of, enumeration_of, record_of, exception_of, tuple_of, array_of, named, no_part, part, tuples, arrays, one_more, kind, kinds, kind_eq, is_bare_by_structure, bare, bare_parts}
use Rattle.asl_rules.specs.types.Closed.{Assignment, Closed, ClosedParts, type_with, parts_with}
use Rattle.asl_rules.specs.types.Closed as cl
use Rattle.asl_rules.specs.values.Values.{Value, Values, int, bool, bits_with, label, record_with, exception_with, tuple_with, array_with, no_value, value, count, is_exception, has, parts_in, all_in}
use Rattle.asl_rules.specs.types.Views.{viewed, parts_viewed, all_viewed, stripped, all_stripped}
use Rattle.asl_rules.specs.private.WellFormed.{Shaped, ShapedParts, WellFormed, is_nameless_exception, Built, BuiltAll}
use Rattle.asl_rules.specs.private.Belonging.{has_type, parts_have, all_have}
use Rattle.asl_rules.proofs.basics.Tests.{no, both, and_true}
use Rattle.asl_rules.proofs.values.Shapes.{named_parts}

-- what holds of each of two types holds of the one that is picked
picked : (P : Ty → Type 0) (b : Bool) (S T : Ty) → (b ≡ true → P S) → (b ≡ false → P T) → P (if b then S else T)
picked P true S T f g = f refl
picked P false S T f g = g refl

-- ---- kinds

mutual
  pub bare_kind : (T : Ty) → kind (bare T) ≡ kind T
  bare_kind (integer_of ps) = refl
  bare_kind boolean = refl
  bare_kind (bits_of w u) = refl
  bare_kind (enumeration_of n labels) = refl
  bare_kind (record_of n fs) = refl
  bare_kind (exception_of n fs) = refl
  bare_kind (tuple_of ts) = ap tuples (bare_kinds ts)
  bare_kind (array_of n T) = ap (arrays n) (bare_kind T)
  bare_kind (named n supers T) = picked (λ U. kind U ≡ kind T) (is_bare_by_structure T) (bare T) (named n supers T) (λ e. bare_kind T) (λ e. refl)

  bare_kinds : (ts : Parts) → kinds (bare_parts ts) ≡ kinds ts
  bare_kinds no_part = refl
  bare_kinds (part T ts) = ap₂ one_more (bare_kind T) (bare_kinds ts)

-- ---- values

module _ (av : Assignment) where
  all_by : (S T : Ty) (xs : Values) → ((x : Value) → has_type av x S ≡ true → has_type av x T ≡ true) → all_have av xs S ≡ true → all_have av xs T ≡ true
  all_by S T no_value f h = refl
  all_by S T (value x xs) f h =
      let p = both (has_type av x S) (all_have av xs S) h in
      and_true (has_type av x T) (all_have av xs T) (f x p.0) (all_by S T xs f p.1)

  array_by : (n : ℕ) (S T : Ty) (j : Kind) (xs : Values) → kind S ≡ kind T → ((x : Value) → has_type av x S ≡ true → has_type av x T ≡ true) → has_type av (array_with j xs) (array_of n S) ≡ true → has_type av (array_with j xs) (array_of n T) ≡ true
  array_by n S T j xs e f h =
      let p = both (kind_eq j (kind S) && (count xs == n)) (all_have av xs S) h in
      and_true (kind_eq j (kind T) && (count xs == n)) (all_have av xs T) (subst (λ k. (kind_eq j k && (count xs == n)) ≡ true) e p.0) (all_by S T xs f p.1)

  mutual
    pub bare_has : (T : Ty) (x : Value) → has_type av x T ≡ true → has_type av x (bare T) ≡ true
    bare_has (integer_of ps) x h = h
    bare_has boolean x h = h
    bare_has (bits_of w u) (bits_with bs v) h = h
    bare_has (bits_of w u) x h = no h
    bare_has (enumeration_of n labels) x h = h
    bare_has (record_of n fs) x h = h
    bare_has (exception_of n fs) x h = h
    bare_has (tuple_of ts) (tuple_with xs) h = bare_parts_have ts xs h
    bare_has (tuple_of ts) x h = no h
    bare_has (array_of n T) (array_with j xs) h = array_by n T (bare T) j xs (sym (bare_kind T)) (bare_has T) h
    bare_has (array_of n T) x h = no h
    bare_has (named n supers T) x h = picked (λ U. has_type av x U ≡ true) (is_bare_by_structure T) (bare T) (named n supers T) (λ e. bare_has T x (named_parts av x n supers T h).1) (λ e. h)

    bare_parts_have : (ts : Parts) (xs : Values) → parts_have av xs ts ≡ true → parts_have av xs (bare_parts ts) ≡ true
    bare_parts_have no_part no_value h = refl
    bare_parts_have no_part (value x xs) h = no h
    bare_parts_have (part T ts) no_value h = no h
    bare_parts_have (part T ts) (value x xs) h =
        let p = both (has_type av x T) (parts_have av xs ts) h in
        and_true (has_type av x (bare T)) (parts_have av xs (bare_parts ts)) (bare_has T x p.0) (bare_parts_have ts xs p.1)

-- ---- without bitfields

exception_stripped : (x : Value) (n : List ℕ) → is_exception n (stripped x) ≡ is_exception n x
exception_stripped (int z) n = refl
exception_stripped (bool b) n = refl
exception_stripped (bits_with bs v) n = refl
exception_stripped (label m l) n = refl
exception_stripped (record_with m xs) n = refl
exception_stripped (exception_with own supers m xs) n = refl
exception_stripped (tuple_with xs) n = refl
exception_stripped (array_with k xs) n = refl

count_stripped : (xs : Values) → count (all_stripped xs) ≡ count xs
count_stripped no_value = refl
count_stripped (value x xs) = ap suc (count_stripped xs)

mutual
  pub stripped_has : (T : Closed) (x : Value) → has x T ≡ true → has (stripped x) T ≡ true
  stripped_has (cl.named n supers T) x h =
      let p = both (is_exception n x) (has x T) h in
      and_true (is_exception n (stripped x)) (has (stripped x) T) (exception_stripped x n ∙ p.0) (stripped_has T x p.1)
  stripped_has (cl.integer_in c) (int z) h = h
  stripped_has (cl.integer_in c) x h = no h
  stripped_has cl.boolean (bool b) h = h
  stripped_has cl.boolean x h = no h
  stripped_has (cl.bits_of w u) (bits_with bs v) h = h
  stripped_has (cl.bits_of w u) x h = no h
  stripped_has (cl.enumeration_of n ls) (label m l) h = h
  stripped_has (cl.enumeration_of n ls) x h = no h
  stripped_has (cl.record_of n fs) (record_with m xs) h = h
  stripped_has (cl.record_of n fs) x h = no h
  stripped_has (cl.exception_of n fs) (exception_with own s m xs) h = h
  stripped_has (cl.exception_of n fs) x h = no h
  stripped_has (cl.tuple_of ts) (tuple_with xs) h = parts_stripped_have ts xs h
  stripped_has (cl.tuple_of ts) x h = no h
  stripped_has (cl.array_of n k T) (array_with l xs) h =
      let p = both (kind_eq l k && (count xs == n)) (all_in xs T) h in
      and_true (kind_eq l k && (count (all_stripped xs) == n)) (all_in (all_stripped xs) T) (subst (λ m. (kind_eq l k && (m == n)) ≡ true) (sym (count_stripped xs)) p.0) (all_stripped_have T xs p.1)
  stripped_has (cl.array_of n k T) x h = no h

  parts_stripped_have : (ts : ClosedParts) (xs : Values) → parts_in xs ts ≡ true → parts_in (all_stripped xs) ts ≡ true
  parts_stripped_have cl.no_part no_value h = h
  parts_stripped_have cl.no_part (value x xs) h = no h
  parts_stripped_have (cl.part T ts) no_value h = no h
  parts_stripped_have (cl.part T ts) (value x xs) h =
      let p = both (has x T) (parts_in xs ts) h in
      and_true (has (stripped x) T) (parts_in (all_stripped xs) ts) (stripped_has T x p.0) (parts_stripped_have ts xs p.1)

  all_stripped_have : (T : Closed) (xs : Values) → all_in xs T ≡ true → all_in (all_stripped xs) T ≡ true
  all_stripped_have T no_value h = refl
  all_stripped_have T (value x xs) h =
      let p = both (has x T) (all_in xs T) h in
      and_true (has (stripped x) T) (all_in (all_stripped xs) T) (stripped_has T x p.0) (all_stripped_have T xs p.1)

mutual
  pub stripped_built : (d : List ℕ → Option Ty) (x : Value) → Built d x → Built d (stripped x)
  stripped_built d (int z) b = b
  stripped_built d (bool c) b = b
  stripped_built d (bits_with bs v) b = b
  stripped_built d (label m l) b = b
  stripped_built d (record_with m xs) b = b
  stripped_built d (exception_with own supers m xs) b = b
  stripped_built d (tuple_with xs) b = all_stripped_built d xs b
  stripped_built d (array_with k xs) b = all_stripped_built d xs b

  all_stripped_built : (d : List ℕ → Option Ty) (xs : Values) → BuiltAll d xs → BuiltAll d (all_stripped xs)
  all_stripped_built d no_value b = b
  all_stripped_built d (value x xs) b = (stripped_built d x b.0, all_stripped_built d xs b.1)

-- a type that stays has no bitfields to be seen
plain_viewed : (av : Assignment) (T : Ty) (x : Value) → is_bare_by_structure T ≡ false → viewed (type_with T av) x ≡ x
plain_viewed av (integer_of ps) x e = refl
plain_viewed av boolean x e = refl
plain_viewed av (bits_of w u) x e = no (sym e)
plain_viewed av (enumeration_of n ls) x e = refl
plain_viewed av (record_of n fs) x e = refl
plain_viewed av (exception_of n fs) x e = refl
plain_viewed av (tuple_of ts) x e = no (sym e)
plain_viewed av (array_of n T) x e = no (sym e)
plain_viewed av (named n supers T) x e = plain_viewed av T x e

mutual
  pub stripped_viewed : (av : Assignment) (T : Ty) (x : Value) → has_type av x T ≡ true → viewed (type_with (bare T) av) (stripped x) ≡ stripped x
  stripped_viewed av (integer_of ps) x h = refl
  stripped_viewed av boolean x h = refl
  stripped_viewed av (bits_of w u) (bits_with bs v) h = refl
  stripped_viewed av (bits_of w u) x h = no h
  stripped_viewed av (enumeration_of n ls) x h = refl
  stripped_viewed av (record_of n fs) x h = refl
  stripped_viewed av (exception_of n fs) x h = refl
  stripped_viewed av (tuple_of ts) (tuple_with xs) h = ap tuple_with (parts_stripped_viewed av ts xs h)
  stripped_viewed av (tuple_of ts) x h = no h
  stripped_viewed av (array_of n T) (array_with k xs) h = ap (array_with k) (all_stripped_viewed av T xs (both (kind_eq k (kind T) && (count xs == n)) (all_have av xs T) h).1)
  stripped_viewed av (array_of n T) x h = no h
  stripped_viewed av (named n supers T) x h = picked (λ U. viewed (type_with U av) (stripped x) ≡ stripped x) (is_bare_by_structure T) (bare T) (named n supers T) (λ e. stripped_viewed av T x (named_parts av x n supers T h).1) (λ e. plain_viewed av T (stripped x) e)

  parts_stripped_viewed : (av : Assignment) (ts : Parts) (xs : Values) → parts_have av xs ts ≡ true → parts_viewed (parts_with (bare_parts ts) av) (all_stripped xs) ≡ all_stripped xs
  parts_stripped_viewed av no_part no_value h = refl
  parts_stripped_viewed av no_part (value x xs) h = no h
  parts_stripped_viewed av (part T ts) no_value h = no h
  parts_stripped_viewed av (part T ts) (value x xs) h =
      let p = both (has_type av x T) (parts_have av xs ts) h in
      ap₂ value (stripped_viewed av T x p.0) (parts_stripped_viewed av ts xs p.1)

  all_stripped_viewed : (av : Assignment) (T : Ty) (xs : Values) → all_have av xs T ≡ true → all_viewed (type_with (bare T) av) (all_stripped xs) ≡ all_stripped xs
  all_stripped_viewed av T no_value h = refl
  all_stripped_viewed av T (value x xs) h =
      let p = both (has_type av x T) (all_have av xs T) h in
      ap₂ value (stripped_viewed av T x p.0) (all_stripped_viewed av T xs p.1)

-- ---- what goes through a type

mutual
  pub viewed_built : (d : List ℕ → Option Ty) (T : Closed) (x : Value) → Built d x → Built d (viewed T x)
  viewed_built d (cl.named n supers T) x b = viewed_built d T x b
  viewed_built d (cl.bits_of w u) (bits_with bs v) b = b
  viewed_built d (cl.bits_of w u) x b = b
  viewed_built d (cl.tuple_of ts) (tuple_with xs) b = parts_viewed_built d ts xs b
  viewed_built d (cl.tuple_of ts) x b = b
  viewed_built d (cl.array_of n k T) (array_with l xs) b = all_viewed_built d T xs b
  viewed_built d (cl.array_of n k T) x b = b
  viewed_built d T x b = b

  parts_viewed_built : (d : List ℕ → Option Ty) (ts : ClosedParts) (xs : Values) → BuiltAll d xs → BuiltAll d (parts_viewed ts xs)
  parts_viewed_built d cl.no_part xs b = b
  parts_viewed_built d (cl.part T ts) no_value b = b
  parts_viewed_built d (cl.part T ts) (value x xs) b = (viewed_built d T x b.0, parts_viewed_built d ts xs b.1)

  all_viewed_built : (d : List ℕ → Option Ty) (T : Closed) (xs : Values) → BuiltAll d xs → BuiltAll d (all_viewed T xs)
  all_viewed_built d T no_value b = b
  all_viewed_built d T (value x xs) b = (viewed_built d T x b.0, all_viewed_built d T xs b.1)

-- ---- well-formed types stay so

bare_has_name : (T : Ty) → is_nameless_exception T ≡ false → is_nameless_exception (bare T) ≡ false
bare_has_name (integer_of ps) h = refl
bare_has_name boolean h = refl
bare_has_name (bits_of w u) h = refl
bare_has_name (enumeration_of n labels) h = refl
bare_has_name (record_of n fs) h = refl
bare_has_name (exception_of n fs) h = h
bare_has_name (tuple_of ts) h = refl
bare_has_name (array_of n T) h = refl
bare_has_name (named n supers T) h = picked (λ U. is_nameless_exception U ≡ false) (is_bare_by_structure T) (bare T) (named n supers T) (λ e. bare_has_name T (composite_has_name T e)) (λ e. refl)
  where
    composite_has_name : (T : Ty) → is_bare_by_structure T ≡ true → is_nameless_exception T ≡ false
    composite_has_name (exception_of n fs) c = no c
    composite_has_name T c = refl

mutual
  bare_shaped : (d : List ℕ → Option Ty) (T : Ty) → Shaped d T → Shaped d (bare T)
  bare_shaped d (integer_of ps) s = s
  bare_shaped d boolean s = s
  bare_shaped d (bits_of w u) s = (s.0, tt)
  bare_shaped d (enumeration_of n labels) s = s
  bare_shaped d (record_of n fs) s = s
  bare_shaped d (exception_of n fs) s = s
  bare_shaped d (tuple_of ts) s = bare_parts_shaped d ts s
  bare_shaped d (array_of n T) s = (bare_has_name T s.0, bare_shaped d T s.1)
  bare_shaped d (named n supers T) s = picked (Shaped d) (is_bare_by_structure T) (bare T) (named n supers T) (λ e. bare_shaped d T s.2) (λ e. s)

  bare_parts_shaped : (d : List ℕ → Option Ty) (ts : Parts) → ShapedParts d ts → ShapedParts d (bare_parts ts)
  bare_parts_shaped d no_part s = s
  bare_parts_shaped d (part T ts) s = (bare_has_name T s.0, bare_shaped d T s.1, bare_parts_shaped d ts s.2)

pub bare_is_well_formed : (d : List ℕ → Option Ty) (T : Ty) → WellFormed d T → WellFormed d (bare T)
bare_is_well_formed d T w = record { shaped = bare_shaped d T w.shaped; has_name = bare_has_name T w.has_name }
