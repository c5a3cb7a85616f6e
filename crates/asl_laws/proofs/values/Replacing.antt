-- A type whose atoms are replaced by widths is, for integers at the atoms of these where the widths are whole, what the type is where its
-- atoms have the integers of the widths.
use Rattle.std.proofs.Common.{◌≡◌, inl, inr, ℕ, ◌==◌, ℤ, pos, List, [], ◌∷◌, Option, Some, None, refl, sym, ap, ap₂, ◌∙◌, subst, arith}
use Rattle.std.specs.Prelude.{◌+ℤ◌, ◌*ℤ◌, if◌then◌else◌}
use Rattle.std.proofs.lemmas.Int.{ints}
use Rattle.std.proofs.lemmas.Bool.{cases_Bool}
use Rattle.asl_poly.specs.Terms.{Polynomial}
use Rattle.asl_poly.specs.Fractions.{SameFraction, fraction_at}
use Rattle.asl_poly.specs.Poly.{IsPolynomial, HasWidth}
use Rattle.asl_poly.proofs.Ring.{one-mul}
use Rattle.asl_cons.specs.declared.End.{End}
use Rattle.asl_cons.specs.declared.End.TheVariants.{Int, Width}
use Rattle.asl_cons.specs.declared.Part.{Part}
use Rattle.asl_cons.specs.Arithmetic as cons
use Rattle.asl_cons.specs.Constraint.{IsEnd, AllEnds}
use Rattle.asl_rules.specs.types.Types as ty
use Rattle.asl_rules.specs.types.Types.{Ty, Parts, Widths, integer_of, boolean, bits_of, enumeration_of, record_of, exception_of, tuple_of, array_of, named, no_part, part, kind, substitute, substitute_parts, substituted, substituted_end, substituted_ranges, with_type}
use Rattle.asl_rules.specs.types.Closed as cl
use Rattle.asl_rules.specs.types.Closed.{Assignment, Range, range_in, width_at, end_at, ranges_at, constraint_at, type_with, parts_with}
use Rattle.asl_rules.specs.private.WellFormed.{Shaped, ShapedParts}
use Rattle.asl_rules.proofs.basics.Tests.{some_same, none_some, mapped}
use Rattle.asl_rules.proofs.values.Rounded.{same_floor, same_ceiling, same_width_in}
use Rattle.asl_rules.proofs.values.Constrained.{end_proper, shown_is}
use Rattle.asl_laws.proofs.widths.Substituting.{AllWithin, AreWhole, end_held, replaced_same, substituted_is}
use Rattle.asl_laws.proofs.widths.TypesOver.{Over, AllOver, got}
use Rattle.asl_laws.proofs.scopes.ScopesOver.{never_moved, fields_moved}

-- ---- kinds

with_kinds : (o : Option Ty) (q : Option Parts) (T : Ty) (ts us : Parts) → ((V : Ty) → o ≡ Some V → kind V ≡ kind T) → ((vs : Parts) → q ≡ Some vs → ty.kinds vs ≡ ty.kinds ts) → with_type o q ≡ Some us → ty.kinds us ≡ ty.kinds (part T ts)
with_kinds None q T ts us f g k = none_some us k
with_kinds (Some V) None T ts us f g k = none_some us k
with_kinds (Some V) (Some vs) T ts us f g k = ap ty.kinds (sym (some_same (part V vs) us k)) ∙ ap₂ ty.one_more (f V refl) (g vs refl)

module _ (by : Widths) where
  mutual
    pub kind_kept : (T U : Ty) → substitute by T ≡ Some U → kind U ≡ kind T
    kind_kept (integer_of ps) U k = let m = mapped (λ qs. integer_of qs) (substituted_ranges by ps) U k in ap kind (sym m.gives)
    kind_kept (bits_of w view) U k = let m = mapped (λ v. bits_of v view) (substituted by w) U k in ap kind (sym m.gives)
    kind_kept (tuple_of ts) U k = let m = mapped (λ us. tuple_of us) (substitute_parts by ts) U k in ap kind (sym m.gives) ∙ ap ty.tuples (kinds_kept ts m.one m.is)
    kind_kept (array_of n T) U k = let m = mapped (λ V. array_of n V) (substitute by T) U k in ap kind (sym m.gives) ∙ ap (ty.arrays n) (kind_kept T m.one m.is)
    kind_kept boolean U k = ap kind (sym (some_same boolean U k))
    kind_kept (enumeration_of name labels) U k = ap kind (sym (some_same (enumeration_of name labels) U k))
    kind_kept (record_of name fs) U k = ap kind (sym (some_same (record_of name fs) U k))
    kind_kept (exception_of name fs) U k = ap kind (sym (some_same (exception_of name fs) U k))
    kind_kept (named name supers T) U k = ap kind (sym (some_same (named name supers T) U k))

    kinds_kept : (ts us : Parts) → substitute_parts by ts ≡ Some us → ty.kinds us ≡ ty.kinds ts
    kinds_kept no_part us k = ap ty.kinds (sym (some_same no_part us k))
    kinds_kept (part T ts) us k = with_kinds (substitute by T) (substitute_parts by ts) T ts us (λ V l. kind_kept T V l) (λ vs l. kinds_kept ts vs l) k

-- ---- with integers at the atoms

-- what the atoms stand for: the integers of what stands for them
abbrev pub behind : Widths → Assignment → Assignment
behind [] a x = a x
behind (e ∷ by) a x = if x == e.0 then width_at e.1 a else behind by a x

-- what stands for them is whole there
abbrev pub AllWhole : Widths → Assignment → Type 0
AllWhole [] a = Unit {0}
AllWhole (e ∷ by) a = HasWidth e.1 a (width_at e.1 a) × AllWhole by a

atom_alone : (z : ℤ) → pos 1 *ℤ (z *ℤ pos 1) +ℤ pos 0 ≡ z *ℤ pos 1
atom_alone z = let e : pos 1 *ℤ (z *ℤ pos 1) ≡ z *ℤ pos 1 = one-mul (z *ℤ pos 1) in omega (arith, ints, e)

are_whole : (by : Widths) (a : Assignment) → AllWhole by a → AreWhole by a (behind by a)
are_whole [] a h x = atom_alone (a x)
are_whole (e ∷ by) a h x = elim (cases_Bool (x == e.0)) [ inl z ↦ rw z h.0 | inr z ↦ rw z (are_whole by a h.1 x) ]

module _ (by : Widths) (a : Assignment) (within : AllWithin by) (whole : AllWhole by a) where
  same_fraction : (p q : Polynomial) → IsPolynomial p → substituted by p ≡ Some q →
      SameFraction (fraction_at a q) (fraction_at (behind by a) p)
  same_fraction p q i k = replaced_same by a (behind by a) p q within (are_whole by a whole) i k

  pub polynomial_replaced : (p q : Polynomial) → IsPolynomial p → substituted by p ≡ Some q → width_at q a ≡ width_at p (behind by a)
  polynomial_replaced p q i k =
      same_width_in (fraction_at a q) (fraction_at (behind by a) p) (substituted_is by p q within i k).1.lowest.positive i.lowest.positive
      (same_fraction p q i k)

  -- ---- ends

  end_replaced : (e f : End) → IsEnd e → substituted_end by e ≡ Some f → SameFraction (end_at f a) (end_at e (behind by a))
  end_replaced (Int z) f i k = subst (λ g. SameFraction (end_at g a) (end_at (Int z) (behind by a))) (some_same (Int z) f k) refl
  end_replaced (Width p) f i k =
      let m = mapped (λ q. cons.shown q) (substituted by p) f k in
      subst (λ g. SameFraction (end_at g a) (fraction_at (behind by a) p)) m.gives
      (subst (λ r. SameFraction r (fraction_at (behind by a) p)) (sym (shown_is m.one a)) (same_fraction p m.one i m.is))

  bounds : ℤ → ℤ → Range
  bounds l h = record { low = l; high = h }

  range_replaced : (p q : Part) → IsEnd p.low × IsEnd p.high → substituted_end by p.low ≡ Some q.low →
      substituted_end by p.high ≡ Some q.high →
      range_in (end_at q.low a) (end_at q.high a) ≡ range_in (end_at p.low (behind by a)) (end_at p.high (behind by a))
  unfolding bounds
  range_replaced p q i l h =
      ap₂ bounds
      (same_ceiling (end_at q.low a) (end_at p.low (behind by a)) (end_proper q.low a (end_held by p.low q.low within i.0 l))
      (end_proper p.low (behind by a) i.0) (end_replaced p.low q.low i.0 l))
      (same_floor (end_at q.high a) (end_at p.high (behind by a)) (end_proper q.high a (end_held by p.high q.high within i.1 h))
      (end_proper p.high (behind by a) i.1) (end_replaced p.high q.high i.1 h))

  ranges_replaced : (ps qs : List Part) → AllEnds ps → substituted_ranges by ps ≡ Some qs → ranges_at qs a ≡ ranges_at ps (behind by a)
  ranges_replaced [] qs i k = ap (λ z. ranges_at z a) (sym (some_same [] qs k))
  ranges_replaced (p ∷ ps) qs i k =
      let u = got (cons.part_of (substituted_end by p.low) (substituted_end by p.high)) _ qs k in
      let v = got (substituted_ranges by ps) _ qs u.next in
      let l = got (substituted_end by p.low) _ u.value u.is in
      let h = got (substituted_end by p.high) _ u.value l.next in
      let e : cons.part l.value h.value ≡ u.value = some_same (cons.part l.value h.value) u.value h.next in
      let low : substituted_end by p.low ≡ Some u.value.low = l.is ∙ ap (λ (z : Part). Some z.low) e in
      let high : substituted_end by p.high ≡ Some u.value.high = h.is ∙ ap (λ (z : Part). Some z.high) e in
      ap (λ z. ranges_at z a) (sym (some_same (u.value ∷ v.value) qs v.next)) ∙
      ap₂ (λ (r : Range) rs. r ∷ rs) (range_replaced p u.value i.0 low high) (ranges_replaced ps v.value i.1 v.is)

  constraint_replaced : (ps qs : List Part) → AllEnds ps → substituted_ranges by ps ≡ Some qs →
      constraint_at qs a ≡ constraint_at ps (behind by a)
  constraint_replaced [] qs i k = ap (λ z. constraint_at z a) (sym (some_same [] qs k))
  constraint_replaced (p ∷ ps) qs i k =
      let u = got (cons.part_of (substituted_end by p.low) (substituted_end by p.high)) _ qs k in
      let v = got (substituted_ranges by ps) _ qs u.next in
      let e : u.value ∷ v.value ≡ qs = some_same (u.value ∷ v.value) qs v.next in
      ap (λ z. constraint_at z a) (sym e) ∙ ap Some (ap (λ z. ranges_at z a) e ∙ ranges_replaced (p ∷ ps) qs i k)

  -- ---- types

  with_replaced : (o : Option Ty) (q : Option Parts) (T : Ty) (ts us : Parts) →
      ((V : Ty) → o ≡ Some V → type_with V a ≡ type_with T (behind by a)) →
      ((vs : Parts) → q ≡ Some vs → parts_with vs a ≡ parts_with ts (behind by a)) → with_type o q ≡ Some us → parts_with us a ≡ parts_with
      (part T ts) (behind by a)
  with_replaced None q T ts us f g k = none_some us k
  with_replaced (Some V) None T ts us f g k = none_some us k
  with_replaced (Some V) (Some vs) T ts us f g k = ap (λ z. parts_with z a) (sym (some_same (part V vs) us k)) ∙ ap₂ cl.part (f V refl) (g vs refl)

  module _ (d : List ℕ → Option Ty) (A : ℕ → Type 0) where
    mutual
      pub type_replaced : (T U : Ty) → Over A T → Shaped d T → substitute by T ≡ Some U → type_with U a ≡ type_with T (behind by a)
      type_replaced (integer_of ps) U h s k =
          let m = mapped (λ qs. integer_of qs) (substituted_ranges by ps) U k in
          ap (λ V. type_with V a) (sym m.gives) ∙ ap cl.integer_in (constraint_replaced ps m.one s m.is)
      type_replaced (bits_of w view) U h s k =
          let m = mapped (λ v. bits_of v view) (substituted by w) U k in
          ap (λ V. type_with V a) (sym m.gives) ∙ ap (λ z. cl.bits_of z view) (polynomial_replaced w m.one s.0 m.is)
      type_replaced (tuple_of ts) U h s k =
          let m = mapped (λ us. tuple_of us) (substitute_parts by ts) U k in
          ap (λ V. type_with V a) (sym m.gives) ∙ ap cl.tuple_of (parts_replaced ts m.one h s m.is)
      type_replaced (array_of n T) U h s k =
          let m = mapped (λ V. array_of n V) (substitute by T) U k in
          ap (λ V. type_with V a) (sym m.gives) ∙ ap₂ (cl.array_of n) (kind_kept by T m.one m.is) (type_replaced T m.one h s.1 m.is)
      type_replaced boolean U h s k = ap (λ V. type_with V a) (sym (some_same boolean U k))
      type_replaced (enumeration_of name labels) U h s k = ap (λ V. type_with V a) (sym (some_same (enumeration_of name labels) U k))
      type_replaced (record_of name fs) U h s k =
          ap (λ V. type_with V a) (sym (some_same (record_of name fs) U k)) ∙ ap (cl.record_of name) (fields_moved a (behind by a) fs h)
      type_replaced (exception_of name fs) U h s k =
          ap (λ V. type_with V a) (sym (some_same (exception_of name fs) U k)) ∙ ap (cl.exception_of name)
          (fields_moved a (behind by a) fs h)
      type_replaced (named name supers T) U h s k =
          ap (λ V. type_with V a) (sym (some_same (named name supers T) U k)) ∙ ap (cl.named name supers) (never_moved a (behind by a) T h)

      parts_replaced : (ts us : Parts) → AllOver A ts → ShapedParts d ts → substitute_parts by ts ≡ Some us →
          parts_with us a ≡ parts_with ts (behind by a)
      parts_replaced no_part us h s k = ap (λ z. parts_with z a) (sym (some_same no_part us k))
      parts_replaced (part T ts) us h s k =
          with_replaced (substitute by T) (substitute_parts by ts) T ts us (λ V l. type_replaced T V h.0 s.1 l)
          (λ vs l. parts_replaced ts vs h.1 s.2 l) k
