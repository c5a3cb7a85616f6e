-- The first value of a type belongs to it at the integers of the atoms, where it is one: a width that isn't whole there has none.
use Rattle.std.proofs.Common.{◌≡◌, ℕ, zero, suc, ◌&&◌, true, List, Option, refl, sym, ap, ap₂, ◌∙◌, subst}
use Rattle.std.specs.Prelude.{◌==◌}
use Rattle.asl_syn.specs.declared.token.Span.{Span}
use Rattle.asl_rules.specs.types.Types.{Ty, Parts, integer_of, boolean, bits_of, enumeration_of, record_of, exception_of, tuple_of, array_of, named, no_part, part, kind, kind_eq}
use Rattle.asl_rules.specs.types.Closed as cl
use Rattle.asl_rules.specs.types.Closed.{Assignment, Closed, first_in, width_at, constraint_at, type_with, parts_with, closed}
use Rattle.asl_rules.specs.values.Values.{Value, Values, tuple_with, array_with, no_value, value, count, has, parts_in, all_in, repeated}
use Rattle.asl_rules.specs.types.Views.{viewed, parts_viewed}
use Rattle.asl_rules.specs.private.WellFormed.{WellFormed, WellDeclared, ShapedParts, BuiltAll}
use Rattle.asl_rules.specs.private.Belonging.{InType}
use Rattle.asl_rules.specs.runs.Plans.{Good}
use Rattle.asl_rules.specs.runs.Pures.{◌>>=◌}
use Rattle.asl_rules.specs.types.Written.{first_value, first_parts}
use Rattle.asl_rules.proofs.basics.Tests.{and_true}
use Rattle.asl_rules.proofs.values.SameKind.{kind_is, number_is}
use Rattle.asl_rules.proofs.values.FirstValues.{good_same, good_behind, first_is_in, first_integer_is, first_bits_are, count_repeated, all_repeated, repeated_seen, repeated_built, first_in_type}

abbrev inside : Closed → Closed
inside (cl.named name supers C) = C
inside C = C

module _ (av : Assignment) (d : List ℕ → Option Ty) (wd : WellDeclared d) (limit : ℕ) (span : Span) where
  -- a type that is the same without atoms
  fixed_first : (T : Ty) → WellFormed d T → closed T ≡ type_with T av → (x : Value) → first_value limit span (type_with T av) ≡ Good x →
      InType d av x T
  fixed_first T f e x h =
      let i = first_in_type limit span d T f x (ap (first_value limit span) e ∙ h) in
      (subst (λ C. has x C ≡ true) e i.0, i.1, subst (λ C. viewed C x ≡ x) e i.2)

  elements_have : (n : ℕ) (x : Value) (T : Ty) → all_in (repeated n x) (type_with T av) ≡ true →
      ((kind_eq (kind T) (kind T) && (count (repeated n x) == n)) && all_in (repeated n x) (type_with T av)) ≡ true
  elements_have n x T h =
      and_true (kind_eq (kind T) (kind T) && (count (repeated n x) == n)) (all_in (repeated n x) (type_with T av))
      (and_true (kind_eq (kind T) (kind T)) (count (repeated n x) == n) (kind_is (kind T))
      (subst (λ i. (i == n) ≡ true) (sym (count_repeated n x)) (number_is n))) h

  mutual
    first_present_in : (T : Ty) → WellFormed d T → (x : Value) → first_value limit span (type_with T av) ≡ Good x → InType d av x T
    first_present_in (integer_of ps) f x h =
        let r = first_integer_is span (first_in (constraint_at ps av)) x h in
        subst (λ y. InType d av y (integer_of ps)) r.value_is (first_is_in (constraint_at ps av) r.one r.is, tt, refl)
    first_present_in (bits_of w u) f x h =
        let r = first_bits_are limit span (width_at w av) u x h in
        subst (λ y. InType d av y (bits_of w u)) r.value_is (r.wide, tt, refl)
    first_present_in boolean f x h = fixed_first boolean f refl x h
    first_present_in (enumeration_of name labels) f x h = fixed_first (enumeration_of name labels) f refl x h
    first_present_in (record_of name fs) f x h =
        fixed_first (record_of name fs) f (sym (ap inside (wd.fixed name _ f.shaped.0.stands av))) x h
    first_present_in (exception_of name fs) f x h =
        fixed_first (exception_of name fs) f (sym (ap inside (wd.fixed name _ f.shaped.0.stands av))) x h
    first_present_in (named name supers T) f x h = fixed_first (named name supers T) f (sym (wd.fixed name _ f.shaped.1.stands av)) x h
    first_present_in (tuple_of ts) f x h =
        let r = good_behind (first_parts limit span (parts_with ts av)) (λ xs. Good (tuple_with xs)) x h in
        let p = parts_present ts f.shaped r.one r.is in
        subst (λ y. InType d av y (tuple_of ts)) (good_same (tuple_with r.one) x r.then) (p.0, p.1, ap (λ ys. tuple_with ys) p.2)
    first_present_in (array_of zero T) f x h =
        subst (λ y. InType d av y (array_of zero T)) (good_same (array_with (kind T) no_value) x h)
        (elements_have zero (tuple_with no_value) T refl, tt, refl)
    first_present_in (array_of (suc n) T) f x h =
        let r = good_behind (first_value limit span (type_with T av)) (λ y. Good (array_with (kind T) (repeated (suc n) y))) x h in
        let p = first_present_in T (record { shaped = f.shaped.1; has_name = f.shaped.0 }) r.one r.is in
        subst (λ y. InType d av y (array_of (suc n) T)) (good_same (array_with (kind T) (repeated (suc n) r.one)) x r.then) (
          elements_have (suc n) r.one T (all_repeated (suc n) r.one (type_with T av) p.0),
          repeated_built d (suc n) r.one p.1,
          ap (λ ys. array_with (kind T) ys) (repeated_seen (suc n) r.one (type_with T av) p.2),
        )

    parts_present : (ts : Parts) → ShapedParts d ts → (xs : Values) → first_parts limit span (parts_with ts av) ≡ Good xs →
        (parts_in xs (parts_with ts av) ≡ true) × BuiltAll d xs × (parts_viewed (parts_with ts av) xs ≡ xs)
    parts_present no_part s xs h =
        subst (λ ys. (parts_in ys (parts_with no_part av) ≡ true) × BuiltAll d ys × (parts_viewed (parts_with no_part av) ys ≡ ys))
        (good_same no_value xs h) (refl, tt, refl)
    parts_present (part T ts) s xs h =
        let r =
        good_behind (first_value limit span (type_with T av))
        (λ x. first_parts limit span (parts_with ts av) >>= λ ys. Good (value x ys)) xs h in
        let q = good_behind (first_parts limit span (parts_with ts av)) (λ ys. Good (value r.one ys)) xs r.then in
        let a = first_present_in T (record { shaped = s.1; has_name = s.0 }) r.one r.is in
        let b = parts_present ts s.2 q.one q.is in
        subst (λ ys. (parts_in ys (parts_with (part T ts) av) ≡ true) × BuiltAll d ys × (parts_viewed (parts_with (part T ts) av) ys ≡ ys))
        (good_same (value r.one q.one) xs q.then)
        (and_true (has r.one (type_with T av)) (parts_in q.one (parts_with ts av)) a.0 b.0, (a.1, b.1), ap₂ (λ y ys. value y ys) a.2 b.2)

module _ (av : Assignment) (d : List ℕ → Option Ty) (wd : WellDeclared d) where
  pub first_present : (limit : ℕ) (span : Span) (T : Ty) → WellFormed d T → (x : Value) → first_value limit span (type_with T av) ≡ Good x →
      InType d av x T
  first_present limit span T f x h = first_present_in av d wd limit span T f x h
