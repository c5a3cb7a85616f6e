-- What the operations of asl_num answer, and the range of four products.
use Rattle.std.proofs.Common.{◌^◌, ◌⊎◌, inl, inr, ◌≡◌, true, false, refl, sym, ap, arith}
use Rattle.std.specs.Prelude.{◌≤ℤ◌, Option, Some, None, Result, Ok, Err, unsigned_abs}
use Rattle.std.specs.Result.{result_ok}
use Rattle.std.proofs.Math.IntN.{ℤ, pos, negsuc, ◌*ℤ◌}
use Rattle.std.specs.Int.{int_min, int_max}
use Rattle.std.proofs.lemmas.Int.{ints, int_min_is, int_max_is}
use Rattle.asl_cons.specs.declared.Part.{Part}
use Rattle.std.proofs.lemmas.Bool.{cases_Bool}
use Rattle.std.proofs.lemmas.Bool.Decides.{nat_tests}
use Rattle.asl_num.specs.declared.NumFault.{NumFault}
use Rattle.asl_num.specs.declared.NumFault.TheVariants.{Overflow, Divisor, Inexact, Negative}
use Rattle.asl_num.specs.Exact.{Fits, IsExact, IsShiftLeft, IsFloor, floor_div}
use Rattle.asl_cons.specs.Arithmetic.{power_of_two, fits, exact, part, part_of, integer_end}
use Rattle.asl_cons.specs.declared.End.TheVariants.{Int}

-- what an operation of asl_num answers

fits_in : (z : ℤ) → fits z ≡ true → Fits z
fits_in (pos n) e = record { sfits = grind (arith, nat_tests) }
fits_in (negsuc n) e = record { sfits = grind (arith, nat_tests) }

fits_out : (z : ℤ) → fits z ≡ false → Fits z → ⊥
fits_out (pos n) e f = let g = f.sfits in grind (arith, nat_tests)
fits_out (negsuc n) e f = let g = f.sfits in grind (arith, nat_tests)

pub exact_in : (z : ℤ) → Fits z → exact z ≡ Some z
unfolding exact
exact_in z f = elim (cases_Bool (fits z)) [ inl t ↦ rw t refl | inr t ↦ absurd (fits_out z t f) ]

pub exact_out : (z : ℤ) → (Fits z → ⊥) → exact z ≡ None
unfolding exact
exact_out z n = elim (cases_Bool (fits z)) [ inl t ↦ absurd (n (fits_in z t)) | inr t ↦ rw t refl ]

pub exact_some : (z n : ℤ) → exact z ≡ Some n → Fits z × (n ≡ z)
unfolding exact
exact_some z n e = elim (cases_Bool (fits z)) [
  | inl t ↦ let f : Some z ≡ Some n = rw t at e in (fits_in z t, cc)
  | inr t ↦ let f = rw t at e in cc
]

pub exact_none : (z : ℤ) → exact z ≡ None → Fits z → ⊥
exact_none z e f = let g : exact z ≡ Some z = exact_in z f in cc

pub exact_ok : (r : Result ℤ NumFault) (z : ℤ) → IsExact r z → result_ok r ≡ exact z
exact_ok (Ok n) z h = rw h.1 (sym (exact_in z h.0))
exact_ok (Err Overflow) z h = sym (exact_out z h)
exact_ok (Err Divisor) z h = absurd h
exact_ok (Err Inexact) z h = absurd h
exact_ok (Err Negative) z h = absurd h

-- ---- ranges of products

pub option_cases : (o : Option ℤ) → (o ≡ None) ⊎ ((n : ℤ) × (o ≡ Some n))
option_cases None = inl refl
option_cases (Some n) = inr (n, refl)

between : (l w h : ℤ) → l ≤ℤ w → w ≤ℤ h → Fits l → Fits h → Fits w
between (pos k) (pos n) (pos m) a b f g = let i = g.sfits in record { sfits = omega (arith, ints) }
between (pos k) (pos n) (negsuc m) a b f g = absurd (omega (arith, ints))
between (negsuc k) (pos n) (pos m) a b f g = let i = g.sfits in record { sfits = omega (arith, ints) }
between (negsuc k) (pos n) (negsuc m) a b f g = absurd (omega (arith, ints))
between (pos k) (negsuc n) h a b f g = absurd (omega (arith, ints))
between (negsuc k) (negsuc n) h a b f g = let i = f.sfits in record { sfits = omega (arith, ints) }

abbrev pub least : ℤ → ℤ → ℤ → ℤ → ℤ
least w x y z = int_min (int_min w x) (int_min y z)

abbrev pub most : ℤ → ℤ → ℤ → ℤ → ℤ
most w x y z = int_max (int_max w x) (int_max y z)

abbrev pub span : ℤ → ℤ → Option Part
span l h = part_of (integer_end (exact l)) (integer_end (exact h))

le_trans : (x y z : ℤ) → x ≤ℤ y → y ≤ℤ z → x ≤ℤ z
le_trans x y z h k = omega (arith, ints)

min_le : (x y : ℤ) → (int_min x y ≤ℤ x) × (int_min x y ≤ℤ y)
min_le x y = (omega (arith, ints, int_min_is x y), omega (arith, ints, int_min_is x y))

le_max : (x y : ℤ) → (x ≤ℤ int_max x y) × (y ≤ℤ int_max x y)
le_max x y = (omega (arith, ints, int_max_is x y), omega (arith, ints, int_max_is x y))

least_le : (w x y z : ℤ) → (least w x y z ≤ℤ w) × (least w x y z ≤ℤ x) × (least w x y z ≤ℤ y) × (least w x y z ≤ℤ z)
least_le w x y z =
    let m = min_le (int_min w x) (int_min y z) in
    (le_trans (least w x y z) (int_min w x) w m.0 (min_le w x).0, le_trans (least w x y z) (int_min w x) x m.0 (min_le w x).1, le_trans (least w x y z) (int_min y z) y m.1 (min_le y z).0, le_trans (least w x y z) (int_min y z) z m.1 (min_le y z).1)

le_most : (w x y z : ℤ) → (w ≤ℤ most w x y z) × (x ≤ℤ most w x y z) × (y ≤ℤ most w x y z) × (z ≤ℤ most w x y z)
le_most w x y z =
    let m = le_max (int_max w x) (int_max y z) in
    (le_trans w (int_max w x) (most w x y z) (le_max w x).0 m.0, le_trans x (int_max w x) (most w x y z) (le_max w x).1 m.0, le_trans y (int_max y z) (most w x y z) (le_max y z).0 m.1, le_trans z (int_max y z) (most w x y z) (le_max y z).1 m.1)

span_none : (l h : ℤ) → (Fits l → Fits h → ⊥) → None ≡ span l h
span_none l h n = elim (option_cases (exact l)) [
  | inl e ↦ rw e refl
  | inr (x, e) ↦ elim (option_cases (exact h)) [
    | inl f ↦ rw (e, f) refl
    | inr (y, f) ↦ absurd (n (exact_some l x e).0 (exact_some h y f).0)
  ]
]

outside : (w l h : ℤ) → l ≤ℤ w → w ≤ℤ h → exact w ≡ None → None ≡ span l h
outside w l h a b e = span_none l h (λ f g. exact_none w e (between l w h a b f g))

pub first_out : (w x y z : ℤ) → exact w ≡ None → None ≡ span (least w x y z) (most w x y z)
first_out w x y z e = outside w (least w x y z) (most w x y z) (least_le w x y z).0 (le_most w x y z).0 e

pub second_out : (w x y z : ℤ) → exact x ≡ None → None ≡ span (least w x y z) (most w x y z)
second_out w x y z e = outside x (least w x y z) (most w x y z) (least_le w x y z).1 (le_most w x y z).1 e

pub third_out : (w x y z : ℤ) → exact y ≡ None → None ≡ span (least w x y z) (most w x y z)
third_out w x y z e = outside y (least w x y z) (most w x y z) (least_le w x y z).2 (le_most w x y z).2 e

pub fourth_out : (w x y z : ℤ) → exact z ≡ None → None ≡ span (least w x y z) (most w x y z)
fourth_out w x y z e = outside z (least w x y z) (most w x y z) (least_le w x y z).3 (le_most w x y z).3 e

pub all_in : (w x y z a b c d l h : ℤ) → exact w ≡ Some a → exact x ≡ Some b → exact y ≡ Some c → exact z ≡ Some d → l ≡ least a b c d → h ≡ most a b c d → Fits l → Fits h
    → Some (part (Int l) (Int h)) ≡ span (least w x y z) (most w x y z)
all_in w x y z a b c d l h ew ex ey ez el eh fl fh =
    let ka : a ≡ w = (exact_some w a ew).1 in
    let kb : b ≡ x = (exact_some x b ex).1 in
    let kc : c ≡ y = (exact_some y c ey).1 in
    let kd : d ≡ z = (exact_some z d ez).1 in
    let ll : l ≡ least w x y z = rw (← ka, ← kb, ← kc, ← kd) el in
    let hh : h ≡ most w x y z = rw (← ka, ← kb, ← kc, ← kd) eh in
    rw (← ll, ← hh, exact_in l fl, exact_in h fh) refl

-- ---- shifts

pub shift_is : (r : Result ℤ NumFault) (x k : ℤ) → pos 0 ≤ℤ k → IsShiftLeft r x k → result_ok r ≡ exact (x *ℤ power_of_two k)
shift_is r x (pos n) l h = exact_ok r (x *ℤ pos (2 ^ n)) (h.1 n refl)
shift_is r x (negsuc n) l h = absurd (omega (arith, ints))

pub quotient_is : (r : Result ℤ NumFault) (x m : ℤ) → pos 1 ≤ℤ m → IsFloor r x m → result_ok r ≡ Some (floor_div x (unsigned_abs m))
quotient_is r x (pos n) l h = ap result_ok (h.1 n refl (omega (arith, ints)))
quotient_is r x (negsuc n) l h = absurd (omega (arith, ints))
