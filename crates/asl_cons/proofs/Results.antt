-- `arithmetic_law`: sums, differences and unions have what they stand for; the others stand in Products.
use Rattle.std.proofs.Common.{◌≡◌, inl, inr, ◌&&◌, Bool, true, false, cond, List, [], ◌∷◌, ◌++◌, length, Option, Some, None, refl, sym, ap, ◌∙◌, subst, ℕ, arith}
use Rattle.std.specs.Prelude.{◌≤ℤ◌, ◌+ℤ◌, ◌-ℤ◌, ◌*ℤ◌, ◌==◌, nat_le}
use Rattle.std.proofs.Math.IntN.{ℤ, pos}
use Rattle.std.proofs.lemmas.Int.{ints}
use Rattle.asl_poly.specs.Terms.{Summand, Polynomial, value}
use Rattle.asl_poly.specs.Operations.{constant_of, constant_if}
use Rattle.asl_poly.specs.Poly.{IsAtMost, IsAtLeast, constant_value, constant_map, sum_map, difference_map}
use Rattle.asl_poly.proofs.Divisors.{is_same}
use Rattle.asl_poly.proofs.Bounds.{sum_most, sum_least, difference_most, difference_least}
use Rattle.asl_poly.proofs.Ring.{mul-one}
use Rattle.asl_cons.specs.declared.End.{End}
use Rattle.asl_cons.specs.declared.End.TheVariants.{Int, Width}
use Rattle.asl_cons.specs.declared.Part.{Part}
use Rattle.asl_cons.specs.Constraint.{poly_of, InSome, In}
use Rattle.asl_cons.specs.Arithmetic.{exact, number_of, shown_by, shown, integer_end, width_end, widths, ends_with, light_end, sum_fits, sum_end, difference_end, part, part_of, sum_part, difference_part, limited, with_part, joined_parts, with_each, all_pairs, by_pairs, sum_parts, difference_parts, union_parts}
use Rattle.asl_cons.proofs.ExactResults.{exact_some}
use Rattle.asl_cons.proofs.Covering.{value_constant_map, denominator_constant_map}

pub some_same : {A : Type 0} (x y : A) → Some x ≡ Some y → x ≡ y
some_same x y h = cc

pub none_some : {A B : Type 0} (x : A) → None ≡ Some x → B
none_some x h = absurd cc

-- ---- what an end is

number_of_one : (a : ℕ → ℤ) (t : Summand) (ts : List Summand) (ms : List ℕ) (z : ℤ) → t.factors ≡ ms
    → constant_if ms ts t.coefficient ≡ Some z → value a (t ∷ ts) ≡ z
number_of_one a t [] [] z f h =
    let e : t.coefficient ≡ z = cc in let m : t.coefficient *ℤ pos 1 ≡ t.coefficient = mul-one t.coefficient in
    rw (f, m) (omega (arith, ints))
number_of_one a t (u ∷ us) [] z f h = none_some z h
number_of_one a t ts (x ∷ xs) z f h = none_some z h

number_of_terms : (a : ℕ → ℤ) (ts : List Summand) (z : ℤ) → constant_of ts ≡ Some z → value a ts ≡ z
number_of_terms a [] z h = cc
number_of_terms a (t ∷ ts) z h = number_of_one a t ts t.factors z refl h

-- the terms have the value z, and the denominator is 1
abbrev pub IsWhole : (ℕ → ℤ) → Polynomial → ℤ → Type 0
IsWhole a p z = (value a p.terms ≡ z) × (p.denominator ≡ 1)

constant_by : (b : Bool) (a : ℕ → ℤ) (p : Polynomial) (z : ℤ) → (p.denominator == 1) ≡ b → cond b (constant_of p.terms) None ≡ Some z
    → IsWhole a p z
constant_by true a p z e h = (number_of_terms a p.terms z h, is_same p.denominator 1 e)
constant_by false a p z e h = none_some z h

pub constant_is : (a : ℕ → ℤ) (p : Polynomial) (z : ℤ) → constant_value p ≡ Some z → IsWhole a p z
unfolding constant_value
constant_is a p z h = constant_by (p.denominator == 1) a p z refl h

pub int_is : (a : ℕ → ℤ) (z : ℤ) → IsWhole a (constant_map z) z
int_is a z = (value_constant_map a z, denominator_constant_map z)

pub number_end : (e : End) (a : ℕ → ℤ) (z : ℤ) → number_of e ≡ Some z → IsWhole a (poly_of e) z
number_end (Int y) a z h = subst (IsWhole a (constant_map y)) (some_same y z h) (int_is a y)
number_end (Width p) a z h = constant_is a p z h

-- both are one number over one denominator
abbrev pub Alike : (ℕ → ℤ) → Polynomial → Polynomial → Type 0
Alike a p q = (value a p.terms ≡ value a q.terms) × (p.denominator ≡ q.denominator)

whole_alike : (a : ℕ → ℤ) (p q : Polynomial) (z : ℤ) → IsWhole a p z → IsWhole a q z → Alike a p q
whole_alike a p q z h k = (h.0 ∙ sym k.0, h.1 ∙ sym k.1)

shown_by_is : (o : Option ℤ) (p : Polynomial) (a : ℕ → ℤ) → constant_value p ≡ o → Alike a (poly_of (shown_by o p)) p
shown_by_is (Some c) p a e = whole_alike a (constant_map c) p c (int_is a c) (constant_is a p c e)
shown_by_is None p a e = (refl, refl)

pub shown_is : (p : Polynomial) (a : ℕ → ℤ) → Alike a (poly_of (shown p)) p
shown_is p a = shown_by_is (constant_value p) p a refl

integer_end_by : (o : Option ℤ) (z : ℤ) (g : End) (a : ℕ → ℤ) → exact z ≡ o → integer_end o ≡ Some g → IsWhole a (poly_of g) z
integer_end_by None z g a e h = none_some g h
integer_end_by (Some n) z g a e h =
    subst (λ f. IsWhole a (poly_of f) z) (some_same (Int n) g h) (subst (IsWhole a (constant_map n)) (exact_some z n e).1 (int_is a n))

pub integer_end_is : (z : ℤ) (g : End) (a : ℕ → ℤ) → integer_end (exact z) ≡ Some g → IsWhole a (poly_of g) z
integer_end_is z g a h = integer_end_by (exact z) z g a refl h

width_end_is : (b : Bool) (p : Polynomial) (g : End) (a : ℕ → ℤ) → width_end b p ≡ Some g → Alike a (poly_of g) p
width_end_is true p g a h = subst (λ f. Alike a (poly_of f) p) (some_same (shown p) g h) (shown_is p a)
width_end_is false p g a h = none_some g h

-- ---- bounds of ends

-- the number of p is to x, times the denominator, as R says
abbrev pub Bounded : (ℤ → ℤ → Type 0) → (ℕ → ℤ) → Polynomial → ℤ → Type 0
Bounded R a p x = R (value a p.terms) (x *ℤ pos p.denominator)

abbrev pub Most : ℤ → ℤ → Type 0
Most v w = v ≤ℤ w

abbrev pub Least : ℤ → ℤ → Type 0
Least v w = w ≤ℤ v

module _ (R : ℤ → ℤ → Type 0) (a : ℕ → ℤ) (p : Polynomial) where
  pub bound_of : (z x : ℤ) → IsWhole a p z → Bounded R a p x → R z x
  bound_of z x w h = rw (w.0, w.1, mul-one x) at h

  pub bounded_by : (z x : ℤ) → IsWhole a p z → R z x → Bounded R a p x
  bounded_by z x w h = rw (w.0, w.1, mul-one x) h

  alike_bounded : (q : Polynomial) (x : ℤ) → Alike a p q → Bounded R a q x → Bounded R a p x
  alike_bounded q x e h = rw (e.0, e.1) h

-- where an operation keeps bounds on integers and on polynomials, it keeps them on ends
module _ (P Q R : ℤ → ℤ → Type 0) (op : ℤ → ℤ → ℤ) (fit : Polynomial → Polynomial → Bool) (made : Polynomial → Polynomial → Polynomial)
    (numbers : (u v x y : ℤ) → P u x → Q v y → R (op u v) (op x y))
    (kept : (a : ℕ → ℤ) (p q : Polynomial) (x y : ℤ) → Bounded P a p x → Bounded Q a q y → Bounded R a (made p q) (op x y)) where
  widths_is : (e f g : End) (a : ℕ → ℤ) (x y : ℤ) → Bounded P a (poly_of e) x → Bounded Q a (poly_of f) y → widths fit made e f ≡ Some g
      → Bounded R a (poly_of g) (op x y)
  widths_is e f g a x y i j h =
      alike_bounded R a (poly_of g) (made (poly_of e) (poly_of f)) (op x y)
      (width_end_is (light_end e && (light_end f && fit (poly_of e) (poly_of f))) (made (poly_of e) (poly_of f)) g a h)
      (kept a (poly_of e) (poly_of f) x y i j)

  ends_by : (e f g : End) (a : ℕ → ℤ) (x y : ℤ) (o p : Option ℤ) → number_of e ≡ o → number_of f ≡ p → Bounded P a (poly_of e) x
      → Bounded Q a (poly_of f) y
      → ends_with o p op (widths fit made e f) ≡ Some g → Bounded R a (poly_of g) (op x y)
  ends_by e f g a x y (Some u) (Some v) q r i j h =
      bounded_by R a (poly_of g) (op u v) (op x y) (integer_end_is (op u v) g a h)
      (numbers u v x y (bound_of P a (poly_of e) u x (number_end e a u q) i) (bound_of Q a (poly_of f) v y (number_end f a v r) j))
  ends_by e f g a x y (Some u) None q r i j h = widths_is e f g a x y i j h
  ends_by e f g a x y None p q r i j h = widths_is e f g a x y i j h

  pub ends_is : (e f g : End) (a : ℕ → ℤ) (x y : ℤ) → Bounded P a (poly_of e) x → Bounded Q a (poly_of f) y
      → ends_with (number_of e) (number_of f) op (widths fit made e f) ≡ Some g → Bounded R a (poly_of g) (op x y)
  ends_is e f g a x y i j h = ends_by e f g a x y (number_of e) (number_of f) refl refl i j h

sums : (l m x y : ℤ) → l ≤ℤ x → m ≤ℤ y → (l +ℤ m) ≤ℤ (x +ℤ y)
sums l m x y h k = omega (arith, ints)

differences : (l m x y : ℤ) → l ≤ℤ x → y ≤ℤ m → (l -ℤ m) ≤ℤ (x -ℤ y)
differences l m x y h k = omega (arith, ints)

sum_end_most : (e f g : End) (a : ℕ → ℤ) (x y : ℤ) → IsAtMost a (poly_of e) x → IsAtMost a (poly_of f) y → sum_end e f ≡ Some g
    → IsAtMost a (poly_of g) (x +ℤ y)
sum_end_most = ends_is Most Most Most (λ x y. x +ℤ y) sum_fits sum_map (λ u v x y h k. sums u v x y h k) sum_most

sum_end_least : (e f g : End) (a : ℕ → ℤ) (x y : ℤ) → IsAtLeast a (poly_of e) x → IsAtLeast a (poly_of f) y → sum_end e f ≡ Some g
    → IsAtLeast a (poly_of g) (x +ℤ y)
sum_end_least = ends_is Least Least Least (λ x y. x +ℤ y) sum_fits sum_map (λ u v x y h k. sums x y u v h k) sum_least

difference_end_most : (e f g : End) (a : ℕ → ℤ) (x y : ℤ) → IsAtMost a (poly_of e) x → IsAtLeast a (poly_of f) y
    → difference_end e f ≡ Some g → IsAtMost a (poly_of g) (x -ℤ y)
difference_end_most =
    ends_is Most Least Most (λ x y. x -ℤ y) sum_fits difference_map (λ u v x y h k. differences u v x y h k) difference_most

difference_end_least : (e f g : End) (a : ℕ → ℤ) (x y : ℤ) → IsAtLeast a (poly_of e) x → IsAtMost a (poly_of f) y
    → difference_end e f ≡ Some g → IsAtLeast a (poly_of g) (x -ℤ y)
difference_end_least =
    ends_is Least Most Least (λ x y. x -ℤ y) sum_fits difference_map (λ u v x y h k. differences x y u v h k) difference_least

-- ---- parts

-- an integer between the ends of a part
abbrev pub Between : (ℕ → ℤ) → ℤ → Part → Type 0
Between a z p = IsAtMost a (poly_of p.low) z × IsAtLeast a (poly_of p.high) z

pub some_left : (a : ℕ → ℤ) (z : ℤ) (ps qs : List Part) → InSome a z ps → InSome a z (ps ++ qs)
some_left a z [] qs h = absurd h
some_left a z (p ∷ ps) qs (inl k) = inl k
some_left a z (p ∷ ps) qs (inr k) = inr (some_left a z ps qs k)

pub some_right : (a : ℕ → ℤ) (z : ℤ) (ps qs : List Part) → InSome a z qs → InSome a z (ps ++ qs)
some_right a z [] qs h = h
some_right a z (p ∷ ps) qs h = inr (some_right a z ps qs h)

-- a part with those behind it
pub record Begun (o : Option Part) (s : Option (List Part)) (rs : List Part) : Type 0 where
  pub one : Part
  pub others : List Part
  pub first : o ≡ Some one
  pub rest : s ≡ Some others
  pub is : one ∷ others ≡ rs

pub begun : (o : Option Part) (s : Option (List Part)) (rs : List Part) → with_part o s ≡ Some rs → Begun o s rs
begun None s rs h = none_some rs h
begun (Some r) None rs h = none_some rs h
begun (Some r) (Some ss) rs h = record { one = r; others = ss; first = refl; rest = refl; is = some_same (r ∷ ss) rs h }

pub record Both (o s : Option (List Part)) (rs : List Part) : Type 0 where
  pub left : List Part
  pub right : List Part
  pub first : o ≡ Some left
  pub rest : s ≡ Some right
  pub is : left ++ right ≡ rs

pub both_lists : (o s : Option (List Part)) (rs : List Part) → joined_parts o s ≡ Some rs → Both o s rs
both_lists None s rs h = none_some rs h
both_lists (Some ps) None rs h = none_some rs h
both_lists (Some ps) (Some qs) rs h = record { left = ps; right = qs; first = refl; rest = refl; is = some_same (ps ++ qs) rs h }

pub record Ended (o p : Option End) (r : Part) : Type 0 where
  pub low : End
  pub high : End
  pub first : o ≡ Some low
  pub rest : p ≡ Some high
  pub is : part low high ≡ r

pub ended : (o p : Option End) (r : Part) → part_of o p ≡ Some r → Ended o p r
ended None p r h = none_some r h
ended (Some e) None r h = none_some r h
ended (Some e) (Some f) r h = record { low = e; high = f; first = refl; rest = refl; is = some_same (part e f) r h }

-- ---- an operation on all pairs

limited_by : (b : Bool) (a : ℕ → ℤ) (z : ℤ) (rs : List Part) → InSome a z rs → In a z (cond b rs [])
limited_by true a z rs h = inr h
limited_by false a z rs h = inl refl

pub limited_in : (o : Option (List Part)) (a : ℕ → ℤ) (z : ℤ) → ((rs : List Part) → o ≡ Some rs → InSome a z rs) → In a z (limited o)
limited_in None a z f = inl refl
limited_in (Some rs) a z f = limited_by (nat_le (length rs) 64) a z rs (f rs refl)

nothing_by : (b : Bool) → cond b [] [] ≡ (let e : List Part = [] in e)
nothing_by true = refl
nothing_by false = refl

pub nothing : (o : Option (List Part)) → o ≡ Some [] → limited o ≡ []
nothing o e = ap limited e ∙ nothing_by (nat_le (length (let e : List Part = [] in e)) 64)

module _ (op : Part → Part → Option Part) (f : ℤ → ℤ → ℤ) (a : ℕ → ℤ) (sound : (p q r : Part) (x y : ℤ) → op p q ≡ Some r → Between a x p → Between a y q → Between a (f x y) r) where
  each_lies : (p : Part) (qs rs : List Part) (x y : ℤ) → with_each op p qs ≡ Some rs → Between a x p → InSome a y qs → InSome a (f x y) rs
  each_lies p [] rs x y h i j = absurd j
  each_lies p (q ∷ qs) rs x y h i (inl k) =
      let b = begun (op p q) (with_each op p qs) rs h in
      subst (InSome a (f x y)) b.is (inl (sound p q b.one x y b.first i k))
  each_lies p (q ∷ qs) rs x y h i (inr k) =
      let b = begun (op p q) (with_each op p qs) rs h in
      subst (InSome a (f x y)) b.is (inr (each_lies p qs b.others x y b.rest i k))

  all_lie : (ps qs rs : List Part) (x y : ℤ) → all_pairs op ps qs ≡ Some rs → InSome a x ps → InSome a y qs → InSome a (f x y) rs
  all_lie [] qs rs x y h i j = absurd i
  all_lie (p ∷ ps) qs rs x y h (inl k) j =
      let b = both_lists (with_each op p qs) (all_pairs op ps qs) rs h in
      subst (InSome a (f x y)) b.is (some_left a (f x y) b.left b.right (each_lies p qs b.left x y b.first k j))
  all_lie (p ∷ ps) qs rs x y h (inr k) j =
      let b = both_lists (with_each op p qs) (all_pairs op ps qs) rs h in
      subst (InSome a (f x y)) b.is (some_right a (f x y) b.left b.right (all_lie ps qs b.right x y b.rest k j))

  none_right : (ps : List Part) → all_pairs op ps [] ≡ Some []
  none_right [] = refl
  none_right (p ∷ ps) = ap (λ o. joined_parts (Some []) o) (none_right ps)

  pub pairs_in : (ps qs : List Part) (x y : ℤ) → In a x ps → In a y qs → In a (f x y) (by_pairs op ps qs)
  pairs_in ps qs x y (inl e) j = inl (ap (λ l. by_pairs op l qs) e ∙ nothing (Some []) refl)
  pairs_in ps qs x y (inr i) (inl e) = inl (ap (by_pairs op ps) e ∙ nothing (all_pairs op ps []) (none_right ps))
  pairs_in ps qs x y (inr i) (inr j) = limited_in (all_pairs op ps qs) a (f x y) (λ rs h. all_lie ps qs rs x y h i j)

-- ---- sums and differences

sum_sound : (a : ℕ → ℤ) (p q r : Part) (x y : ℤ) → sum_part p q ≡ Some r → Between a x p → Between a y q → Between a (x +ℤ y) r
sum_sound a p q r x y h i j =
    let e = ended (sum_end p.low q.low) (sum_end p.high q.high) r h in
    subst (Between a (x +ℤ y)) e.is
    (sum_end_most p.low q.low e.low a x y i.0 j.0 e.first, sum_end_least p.high q.high e.high a x y i.1 j.1 e.rest)

difference_sound : (a : ℕ → ℤ) (p q r : Part) (x y : ℤ) → difference_part p q ≡ Some r → Between a x p → Between a y q → Between a (x -ℤ y) r
difference_sound a p q r x y h i j =
    let e = ended (difference_end p.low q.high) (difference_end p.high q.low) r h in
    subst (Between a (x -ℤ y)) e.is
    (difference_end_most p.low q.high e.low a x y i.0 j.1 e.first, difference_end_least p.high q.low e.high a x y i.1 j.0 e.rest)

pub sum_in : (a : ℕ → ℤ) (ps qs : List Part) (x y : ℤ) → In a x ps → In a y qs → In a (x +ℤ y) (sum_parts ps qs)
unfolding sum_parts
sum_in a ps qs x y i j = pairs_in sum_part (λ u v. u +ℤ v) a (sum_sound a) ps qs x y i j

pub difference_in : (a : ℕ → ℤ) (ps qs : List Part) (x y : ℤ) → In a x ps → In a y qs → In a (x -ℤ y) (difference_parts ps qs)
unfolding difference_parts
difference_in a ps qs x y i j = pairs_in difference_part (λ u v. u -ℤ v) a (difference_sound a) ps qs x y i j

-- ---- unions

union_of : (ps qs : List Part) (a : ℕ → ℤ) (z : ℤ) → InSome a z (ps ++ qs) → In a z (limited (Some (ps ++ qs)))
union_of ps qs a z h = limited_by (nat_le (length (ps ++ qs)) 64) a z (ps ++ qs) h

pub union_left : (a : ℕ → ℤ) (ps qs : List Part) (x : ℤ) → In a x ps → In a x (union_parts ps qs)
union_left a [] qs x i = inl refl
union_left a (p ∷ ps) [] x i = inl refl
union_left a (p ∷ ps) (q ∷ qs) x (inl e) = absurd cc
union_left a (p ∷ ps) (q ∷ qs) x (inr i) = union_of (p ∷ ps) (q ∷ qs) a x (some_left a x (p ∷ ps) (q ∷ qs) i)

pub union_right : (a : ℕ → ℤ) (ps qs : List Part) (x : ℤ) → In a x qs → In a x (union_parts ps qs)
union_right a [] qs x i = inl refl
union_right a (p ∷ ps) [] x i = inl refl
union_right a (p ∷ ps) (q ∷ qs) x (inl e) = absurd cc
union_right a (p ∷ ps) (q ∷ qs) x (inr i) = union_of (p ∷ ps) (q ∷ qs) a x (some_right a x (p ∷ ps) (q ∷ qs) i)
