-- Inclusion of parts: by constant distances, and integer by integer.
use Rattle.std.proofs.Common.{◌⊎◌, inl, inr, ◌≡◌, ℕ, ◌+◌, ◌<◌, List, ◌∷◌, drop, false, refl, sym, subst, ◌∙◌, ap, arith, rules}
use Rattle.std.specs.Prelude.{IsTrue, ◌↔◌, ◌≤ℤ◌}
use Rattle.std.proofs.Math.IntN.{ℤ, pos, ◌+ℤ◌, ◌-ℤ◌, ◌*ℤ◌}
use Rattle.std.proofs.lemmas.Int.{ints}
use lib.Signed.{le_z}
use Rattle.asl_poly.specs.Terms.{Polynomial, value}
use Rattle.asl_poly.specs.Poly.{IsOffset, constant_map}
use Rattle.asl_poly.proofs.Ring.{mul-one}
use Rattle.asl_poly.proofs.LowestTerms.{cancel_one}
use Rattle.asl_poly.proofs.Maps.{value_constant}
use Rattle.asl_cons.specs.declared.End.{End}
use Rattle.asl_cons.specs.declared.End.TheVariants.{Int, Width}
use Rattle.asl_cons.specs.declared.Part.{Part}
use Rattle.asl_cons.specs.Constraint.{poly_of, IsEnd, HasEnd, IsFixed, Holds, InFixed, IsAbove, Held, IsCovered}

nowhere : ℕ → ℤ
nowhere n = pos 0

-- ---- an integer as a polynomial

pub value_constant_map : (a : ℕ → ℤ) (z : ℤ) → value a (constant_map z).terms ≡ z
unfolding constant_map
value_constant_map a z = value_constant a z

pub denominator_constant_map : (z : ℤ) → (constant_map z).denominator ≡ 1
unfolding constant_map
denominator_constant_map z = refl

-- what is z over 1 has the width z
pub whole : (a : ℕ → ℤ) (p : Polynomial) (z : ℤ) → value a p.terms ≡ z → p.denominator ≡ 1 → value a p.terms ≡ z *ℤ pos p.denominator
whole a p z e d = rw (d, mul-one z) e

pub int_end : (z : ℤ) → HasEnd (Int z) z
int_end z a = whole a (constant_map z) z (value_constant_map a z) (denominator_constant_map z)

pub end_some : (e : End) → IsEnd e → 0 < (poly_of e).denominator
end_some (Int z) i = rw (denominator_constant_map z) (omega arith)
end_some (Width p) i = i.lowest.positive

-- an end is one integer at most
pub one_end : (e : End) (x y : ℤ) → IsEnd e → HasEnd e x → HasEnd e y → x ≡ y
one_end e x y i h k = cancel_one x y (poly_of e).denominator (end_some e i) (sym (h nowhere) ∙ k nowhere)

-- ---- one number apart

pub iff_trans : {A B C : Type 0} → A ↔ B → B ↔ C → A ↔ C
iff_trans f g = ((λ a. g.0 (f.0 a)), λ c. f.1 (g.1 c))

pub iff_never : {A : Type 0} → (A → ⊥) → IsTrue false ↔ A
iff_never n = ((λ t. absurd (search rules)), λ a. absurd (n a))

left_apart : (a : ℕ → ℤ) (x : ℤ) (q : Polynomial) (c : ℤ) → x *ℤ pos q.denominator ≡ value a q.terms +ℤ c
    → value a (constant_map x).terms *ℤ pos q.denominator ≡ value a q.terms *ℤ pos (constant_map x).denominator +ℤ c
left_apart a x q c h = rw (value_constant_map a x, denominator_constant_map x, mul-one (value a q.terms)) h

apart_left : (a : ℕ → ℤ) (x : ℤ) (q : Polynomial) (c : ℤ)
    → value a (constant_map x).terms *ℤ pos q.denominator ≡ value a q.terms *ℤ pos (constant_map x).denominator +ℤ c
    → x *ℤ pos q.denominator ≡ value a q.terms +ℤ c
apart_left a x q c h = rw (value_constant_map a x, denominator_constant_map x, mul-one (value a q.terms)) at h

right_apart : (a : ℕ → ℤ) (p : Polynomial) (y : ℤ) (c : ℤ) → value a p.terms ≡ y *ℤ pos p.denominator +ℤ c
    → value a p.terms *ℤ pos (constant_map y).denominator ≡ value a (constant_map y).terms *ℤ pos p.denominator +ℤ c
right_apart a p y c h = rw (value_constant_map a y, denominator_constant_map y, mul-one (value a p.terms)) h

apart_right : (a : ℕ → ℤ) (p : Polynomial) (y : ℤ) (c : ℤ)
    → value a p.terms *ℤ pos (constant_map y).denominator ≡ value a (constant_map y).terms *ℤ pos p.denominator +ℤ c
    → value a p.terms ≡ y *ℤ pos p.denominator +ℤ c
apart_right a p y c h = rw (value_constant_map a y, denominator_constant_map y, mul-one (value a p.terms)) at h

rest_of : (x y : ℤ) → x ≡ y +ℤ (x -ℤ y)
rest_of x y = omega (arith, ints)

no_less : (x y : ℤ) → y ≤ℤ x → pos 0 ≤ℤ (x -ℤ y)
no_less x y h = omega (arith, ints)

more : (x y c : ℤ) → x ≡ y +ℤ c → pos 0 ≤ℤ c → y ≤ℤ x
more x y c e h = omega (arith, ints)

other_way : (x y c : ℤ) → x ≡ y +ℤ c → y ≡ x -ℤ c
other_way x y c e = omega (arith, ints)

-- an integer above a width: the number of the width is at most its denominator times the integer
pub integer_above : (x c : ℤ) (q : Polynomial) → ((a : ℕ → ℤ) → value a q.terms ≡ c)
    → (c ≤ℤ (x *ℤ pos q.denominator)) ↔ IsAbove (Int x) (Width q)
integer_above x c q v = (
  (λ l. record {
    by = x *ℤ pos q.denominator -ℤ c;
    least = no_less (x *ℤ pos q.denominator) c l;
    apart = λ a. left_apart a x q (x *ℤ pos q.denominator -ℤ c) (rw (v a) (rest_of (x *ℤ pos q.denominator) c));
  }),
  λ h. more (x *ℤ pos q.denominator) c h.by (subst (λ z. x *ℤ pos q.denominator ≡ z +ℤ h.by) (v nowhere)
      (apart_left nowhere x q h.by (h.apart nowhere))) h.least,
)

pub integer_not_above : (x : ℤ) (q : Polynomial) → ((c : ℤ) → ((a : ℕ → ℤ) → value a q.terms ≡ c) → ⊥) → IsAbove (Int x) (Width q) → ⊥
integer_not_above x q n h =
    n (x *ℤ pos q.denominator -ℤ h.by) (λ a. other_way (x *ℤ pos q.denominator) (value a q.terms) h.by (apart_left a x q h.by (h.apart a)))

-- a width above an integer: its number is at least its denominator times the integer
pub above_integer : (p : Polynomial) (y c : ℤ) → ((a : ℕ → ℤ) → value a p.terms ≡ c)
    → ((y *ℤ pos p.denominator) ≤ℤ c) ↔ IsAbove (Width p) (Int y)
above_integer p y c v = (
  (λ l. record {
    by = c -ℤ y *ℤ pos p.denominator;
    least = no_less c (y *ℤ pos p.denominator) l;
    apart = λ a. right_apart a p y (c -ℤ y *ℤ pos p.denominator) (v a ∙ rest_of c (y *ℤ pos p.denominator));
  }),
  λ h. more c (y *ℤ pos p.denominator) h.by (sym (v nowhere) ∙ apart_right nowhere p y h.by (h.apart nowhere)) h.least,
)

pub not_above_integer : (p : Polynomial) (y : ℤ) → ((c : ℤ) → ((a : ℕ → ℤ) → value a p.terms ≡ c) → ⊥) → IsAbove (Width p) (Int y) → ⊥
not_above_integer p y n h = n (y *ℤ pos p.denominator +ℤ h.by) (λ a. apart_right a p y h.by (h.apart a))

int_above_width : (x y : ℤ) → IsAbove (Int x) (Width (constant_map y)) ↔ IsAbove (Int x) (Int y)
int_above_width x y =
    ((λ h. record { by = h.by; least = h.least; apart = h.apart }), λ h. record { by = h.by; least = h.least; apart = h.apart })

pub integers_above : (x y : ℤ) → IsTrue (le_z y x) ↔ IsAbove (Int x) (Int y)
integers_above x y =
    let i : (y ≤ℤ (x *ℤ pos (constant_map y).denominator)) ↔ IsAbove (Int x) (Width (constant_map y)) =
    integer_above x y (constant_map y) (λ a. value_constant_map a y) in
    iff_trans (iff_trans (test_le x y) (subst (λ z. (y ≤ℤ x) ↔ (y ≤ℤ z))
    (sym (ap (λ d. x *ℤ pos d) (denominator_constant_map y) ∙ mul-one x)) ((λ l. l), λ l. l))) (iff_trans i (int_above_width x y))
  where
    test_le : (x y : ℤ) → IsTrue (le_z y x) ↔ (y ≤ℤ x)
    test_le x y = ((λ t. grind (arith, ints)), λ l. grind (arith, ints))

same_number : (v c d : ℤ) → v +ℤ c ≡ v +ℤ d → c ≡ d
same_number v c d e = omega (arith, ints)

pub widths_above : (p q : Polynomial) (c : ℤ) → IsOffset p q c → IsTrue (le_z (pos 0) c) ↔ IsAbove (Width p) (Width q)
widths_above p q c d = (
  (λ t. record { by = c; least = grind (arith, ints); apart = d }),
  λ h. let g : c ≡ h.by = same_number (value nowhere q.terms *ℤ pos p.denominator) c h.by (sym (d nowhere) ∙ h.apart nowhere) in
      let l : pos 0 ≤ℤ h.by = h.least in grind (arith, ints),
)

pub widths_not_above : (p q : Polynomial) → ((c : ℤ) → IsOffset p q c → ⊥) → IsAbove (Width p) (Width q) → ⊥
widths_not_above p q n h = n h.by h.apart

-- ---- the integers in the parts that are left

pub in_now : (j : ℤ) (q : Part) (qs : List Part) (i : ℕ) → drop i qs ≡ q ∷ drop (i + 1) qs → Holds q j → InFixed j (drop i qs)
in_now j q qs i e h = rw e (inl h)

pub in_later : (j : ℤ) (q : Part) (qs : List Part) (i : ℕ) → drop i qs ≡ q ∷ drop (i + 1) qs → InFixed j (drop (i + 1) qs) → InFixed j (drop i qs)
in_later j q qs i e h = rw e (inr h)

in_cons : (j : ℤ) (q : Part) (qs : List Part) → InFixed j (q ∷ qs) → Holds q j ⊎ InFixed j qs
in_cons j q qs h = h

pub in_past : (j : ℤ) (q : Part) (qs : List Part) (i : ℕ) → drop i qs ≡ q ∷ drop (i + 1) qs → (Holds q j → ⊥) → InFixed j (drop i qs) → InFixed j (drop (i + 1) qs)
in_past j q qs i e n h = elim (in_cons j q (drop (i + 1) qs) (rw e at h)) [ inl k ↦ absurd (n k) | inr k ↦ k ]

-- both ends of a part are integers or polynomials within the limits
abbrev pub Ends : Part → Type 0
Ends p = IsEnd p.low × IsEnd p.high

pub one_low : (p : Part) (l h m k : ℤ) → Ends p → IsFixed p l h → IsFixed p m k → (l ≡ m) × (h ≡ k)
one_low p l h m k i f g = (one_end p.low l m i.0 f.low g.low, one_end p.high h k i.1 f.high g.high)

pub not_holds : (p : Part) (l h i : ℤ) → Ends p → IsFixed p l h → ((l ≤ℤ i) × (i ≤ℤ h) → ⊥) → Holds p i → ⊥
not_holds p l h i w f n k =
    let e : (k.l ≡ l) × (k.h ≡ h) = one_low p k.l k.h l h w k.fixed f in
    n (subst (λ z. z ≤ℤ i) e.0 k.least, subst (λ z. i ≤ℤ z) e.1 k.most)

pub free_not_holds : (p : Part) (i : ℤ) → ((l h : ℤ) → IsFixed p l h → ⊥) → Holds p i → ⊥
free_not_holds p i n k = n k.l k.h k.fixed

pub covered_fixed : (p : Part) (qs : List Part) (l h : ℤ) → Ends p → IsFixed p l h
    → ((i : ℤ) → l ≤ℤ i → i ≤ℤ h → InFixed i qs) ↔ IsCovered qs p
covered_fixed p qs l h w f = (
  (λ k. record {
    constant =
        λ m n g i a b. let e : (m ≡ l) × (n ≡ h) = one_low p m n l h w g f in k i (subst (λ z. z ≤ℤ i) e.0 a) (subst (λ z. i ≤ℤ z) e.1 b);
    symbolic = λ n. absurd (n l h f);
  }),
  λ k. k.constant l h f,
)

pub covered_free : (p : Part) (qs : List Part) → ((l h : ℤ) → IsFixed p l h → ⊥) → Held p qs ↔ IsCovered qs p
covered_free p qs n = ((λ k. record { constant = λ l h f. absurd (n l h f); symbolic = λ _. k }), λ k. k.symbolic n)
