-- `arithmetic_law`: products, quotients, remainders and shifts.
use Rattle.std.proofs.Common.{◌≡◌, ℕ, suc, ◌*◌, ◌^◌, ◌<◌, ◌≤◌, ◌&&◌, ◌⊎◌, inl, inr, Bool, true, false, cond, List, [], ◌∷◌, Option, Some, None, refl, sym, ap, ◌∙◌, subst, arith}
use Rattle.std.specs.Prelude.{◌≤ℤ◌, ◌+ℤ◌, ◌-ℤ◌, ◌*ℤ◌, ◌==◌, nat_le, unsigned_abs}
use Rattle.std.specs.Int.{int_min, int_max}
use Rattle.std.proofs.Math.IntN.{ℤ, pos, negsuc, neg_ℤ, *ℤ_comm, *ℤ-negsuc}
use Rattle.std.proofs.Math.Pow.{pow_pos}
use Rattle.std.proofs.lemmas.Int.{ints, int_min_is, int_max_is}
use Rattle.std.proofs.lemmas.Bool.{and_parts}
use Rattle.std.proofs.lemmas.Bool.Decides.{nat_tests, Decides-eqb}
use Rattle.asl_num.specs.Exact.{floor_div, floor_mod}
use Rattle.asl_num.proofs.Laws.{floor_law}
use Rattle.asl_poly.specs.Poly.{IsAtMost, IsAtLeast, constant_map, product_map}
use Rattle.asl_poly.proofs.Ring.{add-mul}
use Rattle.asl_poly.proofs.Bounds.{times_pos, times_most, product_most, product_least}
use Rattle.asl_cons.specs.declared.End.{End}
use Rattle.asl_cons.specs.declared.End.TheVariants.{Int}
use Rattle.asl_cons.specs.declared.Part.{Part}
use Rattle.asl_cons.specs.Constraint.{poly_of, InSome, In}
use Rattle.asl_cons.specs.Arithmetic.{bind, exact, number_of, range_of, point_in, point_of, power_of_two, integer_end, product_fits, product_end, part, part_of, modulo_part, quotient_part, shifted_up_part, shifted_down_part, product_range, scaled_part, product_with, product_part, limited, each_part, modulo_parts, quotient_parts, shifted_up_parts, shifted_down_parts, product_parts}
use Rattle.asl_cons.proofs.Results.{some_same, none_some, IsWhole, int_is, Bounded, Most, Least, bound_of, bounded_by, Between, number_end, integer_end_is, ends_is, begun, ended, nothing, limited_in, pairs_in}

-- ---- division

pub floor_up : (x y : ℤ) (n : ℕ) → 0 < n → x ≤ℤ y → floor_div x n ≤ℤ floor_div y n
floor_up x y n p h = by_law (floor_div x n) (floor_div y n) (floor_mod x n) (floor_mod y n) x y n p h (floor_law x n p) (floor_law y n p)
  where
    step : (q r : ℤ) (n : ℕ) → (q ≤ℤ r) ⊎ ((r +ℤ pos 1) ≤ℤ q)
    step q r n = grind (arith, ints)

    over : (q r : ℤ) (a b n : ℕ) (x y : ℤ) → x ≤ℤ y → q *ℤ pos n +ℤ pos a ≡ x → r *ℤ pos n +ℤ pos b ≡ y → b < n → ((r +ℤ pos 1) *ℤ pos n) ≤ℤ (q *ℤ pos n) → (r +ℤ pos 1) *ℤ pos n ≡ r *ℤ pos n +ℤ pos n → q ≤ℤ r
    over q r a b n x y h e f l m s = absurd (omega (arith, ints))

    by_law : (q r : ℤ) (a b : ℕ) (x y : ℤ) (n : ℕ) → 0 < n → x ≤ℤ y → (q *ℤ pos n +ℤ pos a ≡ x) × (a < n) → (r *ℤ pos n +ℤ pos b ≡ y) × (b < n) → q ≤ℤ r
    by_law q r a b x y n p h e f = elim (step q r n) [
      | inl k ↦ k
      | inr k ↦ over q r a b n x y h e.0 f.0 f.1 (times_pos (r +ℤ pos 1) q n k) (add-mul r (pos 1) (pos n) ∙ ap (λ z. r *ℤ pos n +ℤ z) (ap pos (one_times n)))
    ]
      where
        one_times : (n : ℕ) → 1 * n ≡ n
        one_times n = omega arith

-- ---- constant parts

range_by : (p : Part) (a : ℕ → ℤ) (o q : Option ℤ) (r : ℤ × ℤ) → number_of p.low ≡ o → number_of p.high ≡ q
    → bind o (λ l. bind q (λ h. Some (l, h))) ≡ Some r
    → IsWhole a (poly_of p.low) r.0 × IsWhole a (poly_of p.high) r.1
range_by p a None q r e f g = none_some r g
range_by p a (Some l) None r e f g = none_some r g
range_by p a (Some l) (Some h) r e f g =
    let s : (l, h) ≡ r = some_same (l, h) r g in (
      subst (IsWhole a (poly_of p.low)) (ap (λ (t : ℤ × ℤ). t.0) s) (number_end p.low a l e),
      subst (IsWhole a (poly_of p.high)) (ap (λ (t : ℤ × ℤ). t.1) s) (number_end p.high a h f),
    )

range_is : (p : Part) (a : ℕ → ℤ) (r : ℤ × ℤ) → range_of p ≡ Some r → IsWhole a (poly_of p.low) r.0 × IsWhole a (poly_of p.high) r.1
range_is p a r h = range_by p a (number_of p.low) (number_of p.high) r refl refl h

-- an integer between the ends of a constant part
range_holds : (p : Part) (a : ℕ → ℤ) (r : ℤ × ℤ) (x : ℤ) → range_of p ≡ Some r → Between a x p → (r.0 ≤ℤ x) × (x ≤ℤ r.1)
range_holds p a r x h i =
    let s = range_is p a r h in
    (bound_of Most a (poly_of p.low) r.0 x s.0 i.0, bound_of Least a (poly_of p.high) r.1 x s.1 i.1)

-- a step behind an option
record Taken {A B : Type 0} (o : Option A) (f : A → Option B) (y : B) : Type 0 where
  pub one : A
  pub first : o ≡ Some one
  pub then : f one ≡ Some y

taken : {A B : Type 0} (o : Option A) (f : A → Option B) (y : B) → bind o f ≡ Some y → Taken o f y
taken None f y h = none_some y h
taken (Some x) f y h = record { one = x; first = refl; then = h }

-- the one integer of a part
record Point (least : ℕ) (l h m : ℤ) : Type 0 where
  pub at : ℕ
  pub low : l ≡ m
  pub high : h ≡ m
  pub is : m ≡ pos at
  pub enough : least ≤ at

point_by : (b : Bool) (least l h : ℕ) (m : ℤ) → ((l == h) && nat_le least l) ≡ b → cond b (Some (pos l)) None ≡ Some m → Point least (pos l) (pos h) m
point_by true least l h m e g =
    let p = and_parts (l == h) (nat_le least l) e in
    let s : pos l ≡ m = some_same (pos l) m g in
    record { at = l; low = s; high = ap pos (sym ((Decides-eqb l h).0 p.0)) ∙ s; is = sym s; enough = le_is least l p.1 }
  where
    le_is : (m n : ℕ) → nat_le m n ≡ true → m ≤ n
    le_is m n h = grind (arith, nat_tests)
point_by false least l h m e g = none_some m g

point_is : (least : ℕ) (l h m : ℤ) → point_in least l h ≡ Some m → Point least l h m
point_is least (pos l) (pos h) m g = point_by ((l == h) && nat_le least l) least l h m refl g
point_is least (pos l) (negsuc h) m g = none_some m g
point_is least (negsuc l) h m g = none_some m g

squeezed : (m y : ℤ) → m ≤ℤ y → y ≤ℤ m → y ≡ m
squeezed m y h k = omega (arith, ints)

-- an integer of a part that has one integer
record One (least : ℕ) (y m : ℤ) : Type 0 where
  pub at : ℕ
  pub is : m ≡ pos at
  pub same : y ≡ m
  pub enough : least ≤ at

one_of : (least : ℕ) (q : Part) (a : ℕ → ℤ) (y m : ℤ) → point_of least q ≡ Some m → Between a y q → One least y m
one_of least q a y m h i =
    let t = taken (range_of q) (λ r. point_in least r.0 r.1) m h in
    let r = range_holds q a t.one y t.first i in
    let p = point_is least t.one.0 t.one.1 m t.then in
    record { at = p.at; is = p.is; same = squeezed m y (subst (λ z. z ≤ℤ y) p.low r.0) (subst (λ z. y ≤ℤ z) p.high r.1); enough = p.enough }

-- a part between two integers
part_holds : (a : ℕ → ℤ) (e f : End) (l h z : ℤ) → IsWhole a (poly_of e) l → IsWhole a (poly_of f) h → l ≤ℤ z → z ≤ℤ h
    → Between a z (part e f)
part_holds a e f l h z u v i j = (bounded_by Most a (poly_of e) l z u i, bounded_by Least a (poly_of f) h z v j)

integers : (a : ℕ → ℤ) (l h z : ℤ) → l ≤ℤ z → z ≤ℤ h → Between a z (part (Int l) (Int h))
integers a l h z i j = part_holds a (Int l) (Int h) l h z (int_is a l) (int_is a h) i j

-- ---- remainders: the right parts alone

each_lies : (op : Part → Option Part) (a : ℕ → ℤ) (y z : ℤ) → ((q r : Part) → op q ≡ Some r → Between a y q → Between a z r) → (qs rs : List Part) → each_part op qs ≡ Some rs → InSome a y qs → InSome a z rs
each_lies op a y z f [] rs h i = absurd i
each_lies op a y z f (q ∷ qs) rs h (inl k) = let b = begun (op q) (each_part op qs) rs h in subst (InSome a z) b.is (inl (f q b.one b.first k))
each_lies op a y z f (q ∷ qs) rs h (inr k) = let b = begun (op q) (each_part op qs) rs h in subst (InSome a z) b.is (inr (each_lies op a y z f qs b.others b.rest k))

below_it : (r n : ℕ) → r < n → pos r ≤ℤ (pos n -ℤ pos 1)
below_it r n h = omega (arith, ints)

no_less : (r : ℕ) → pos 0 ≤ℤ pos r
no_less r = omega (arith, ints)

modulo_sound : (a : ℕ → ℤ) (x : ℤ) (n : ℕ) → 0 < n → (q r : Part) → modulo_part q ≡ Some r → Between a (pos n) q → Between a (pos (floor_mod x n)) r
modulo_sound a x n p q r h i =
    let t = taken (point_of 1 q) (λ m. Some (part (Int (pos 0)) (Int (m -ℤ pos 1)))) r h in
    let o = one_of 1 q a (pos n) t.one t.first i in
    subst (Between a (pos (floor_mod x n))) (some_same (part (Int (pos 0)) (Int (t.one -ℤ pos 1))) r t.then)
    (integers a (pos 0) (t.one -ℤ pos 1) (pos (floor_mod x n)) (no_less (floor_mod x n)) (subst (λ m. pos (floor_mod x n) ≤ℤ (m -ℤ pos 1)) o.same (below_it (floor_mod x n) n (floor_law x n p).1)))

pub modulo_in : (a : ℕ → ℤ) (ps qs : List Part) (x : ℤ) (n : ℕ) → 0 < n → In a (pos n) qs → In a (pos (floor_mod x n)) (modulo_parts ps qs)
unfolding modulo_parts
modulo_in a ps qs x n p (inl e) = inl (ap (λ l. limited (each_part modulo_part l)) e ∙ nothing (Some []) refl)
modulo_in a ps qs x n p (inr k) = limited_in (each_part modulo_part qs) a (pos (floor_mod x n)) (λ rs h. each_lies modulo_part a (pos n) (pos (floor_mod x n)) (modulo_sound a x n p) qs rs h k)

-- ---- quotients

abs_is : (m : ℤ) (n : ℕ) → m ≡ pos n → unsigned_abs m ≡ n
abs_is m n e = ap unsigned_abs e

quotient_sound : (a : ℕ → ℤ) (p q r : Part) (x y : ℤ) → quotient_part p q ≡ Some r → Between a x p → Between a y q → Between a (floor_div x (unsigned_abs y)) r
quotient_sound a p q r x y h i j =
    let t = taken (range_of p) (λ s. bind (point_of 1 q) (λ m. Some (part (Int (floor_div s.0 (unsigned_abs m))) (Int (floor_div s.1 (unsigned_abs m)))))) r h in
    let u = taken (point_of 1 q) (λ m. Some (part (Int (floor_div t.one.0 (unsigned_abs m))) (Int (floor_div t.one.1 (unsigned_abs m))))) r t.then in
    let o = one_of 1 q a y u.one u.first j in
    let s = range_holds p a t.one x t.first i in
    let n : ℕ = unsigned_abs u.one in
    let big : 0 < n = more_than n o.at (abs_is u.one o.at o.is) o.enough in
    subst (λ z. Between a (floor_div x (unsigned_abs z)) r) (sym o.same)
    (subst (Between a (floor_div x n)) (some_same (part (Int (floor_div t.one.0 n)) (Int (floor_div t.one.1 n))) r u.then)
    (integers a (floor_div t.one.0 n) (floor_div t.one.1 n) (floor_div x n) (floor_up t.one.0 x n big s.0) (floor_up x t.one.1 n big s.1)))
  where
    more_than : (n k : ℕ) → n ≡ k → 1 ≤ k → 0 < n
    more_than n k e h = omega arith

pub quotient_in : (a : ℕ → ℤ) (ps qs : List Part) (x y : ℤ) → In a x ps → In a y qs → In a (floor_div x (unsigned_abs y)) (quotient_parts ps qs)
unfolding quotient_parts
quotient_in a ps qs x y i j = pairs_in quotient_part (λ u v. floor_div u (unsigned_abs v)) a (quotient_sound a) ps qs x y i j

-- ---- shifts

some_power : (k : ℕ) → 0 < 2 ^ k
some_power k = pow_pos k

shifted_down_sound : (a : ℕ → ℤ) (p q r : Part) (x y : ℤ) → shifted_down_part p q ≡ Some r → Between a x p → Between a y q → Between a (floor_div x (2 ^ unsigned_abs y)) r
shifted_down_sound a p q r x y h i j =
    let t = taken (range_of p) (λ s. bind (point_of 0 q) (λ k. Some (part (Int (floor_div s.0 (2 ^ unsigned_abs k))) (Int (floor_div s.1 (2 ^ unsigned_abs k)))))) r h in
    let u = taken (point_of 0 q) (λ k. Some (part (Int (floor_div t.one.0 (2 ^ unsigned_abs k))) (Int (floor_div t.one.1 (2 ^ unsigned_abs k))))) r t.then in
    let o = one_of 0 q a y u.one u.first j in
    let s = range_holds p a t.one x t.first i in
    let n : ℕ = 2 ^ unsigned_abs u.one in
    let big : 0 < n = some_power (unsigned_abs u.one) in
    subst (λ z. Between a (floor_div x (2 ^ unsigned_abs z)) r) (sym o.same)
    (subst (Between a (floor_div x n)) (some_same (part (Int (floor_div t.one.0 n)) (Int (floor_div t.one.1 n))) r u.then)
    (integers a (floor_div t.one.0 n) (floor_div t.one.1 n) (floor_div x n) (floor_up t.one.0 x n big s.0) (floor_up x t.one.1 n big s.1)))

pub shifted_down_in : (a : ℕ → ℤ) (ps qs : List Part) (x y : ℤ) → In a x ps → In a y qs → In a (floor_div x (2 ^ unsigned_abs y)) (shifted_down_parts ps qs)
unfolding shifted_down_parts
shifted_down_in a ps qs x y i j = pairs_in shifted_down_part (λ u v. floor_div u (2 ^ unsigned_abs v)) a (shifted_down_sound a) ps qs x y i j

shifted_up_sound : (a : ℕ → ℤ) (p q r : Part) (x y : ℤ) → shifted_up_part p q ≡ Some r → Between a x p → Between a y q → Between a (x *ℤ power_of_two y) r
shifted_up_sound a p q r x y h i j =
    let t = taken (range_of p) (λ s. bind (point_of 0 q) (λ k. part_of (integer_end (exact (s.0 *ℤ power_of_two k))) (integer_end (exact (s.1 *ℤ power_of_two k))))) r h in
    let u = taken (point_of 0 q) (λ k. part_of (integer_end (exact (t.one.0 *ℤ power_of_two k))) (integer_end (exact (t.one.1 *ℤ power_of_two k)))) r t.then in
    let e = ended (integer_end (exact (t.one.0 *ℤ power_of_two u.one))) (integer_end (exact (t.one.1 *ℤ power_of_two u.one))) r u.then in
    let o = one_of 0 q a y u.one u.first j in
    let s = range_holds p a t.one x t.first i in
    subst (λ z. Between a (x *ℤ power_of_two z) r) (sym o.same)
    (subst (Between a (x *ℤ power_of_two u.one)) e.is
    (part_holds a e.low e.high (t.one.0 *ℤ power_of_two u.one) (t.one.1 *ℤ power_of_two u.one) (x *ℤ power_of_two u.one)
    (integer_end_is (t.one.0 *ℤ power_of_two u.one) e.low a e.first) (integer_end_is (t.one.1 *ℤ power_of_two u.one) e.high a e.rest)
    (times_pos t.one.0 x (2 ^ unsigned_abs u.one) s.0) (times_pos x t.one.1 (2 ^ unsigned_abs u.one) s.1)))

pub shifted_up_in : (a : ℕ → ℤ) (ps qs : List Part) (x y : ℤ) → In a x ps → In a y qs → In a (x *ℤ power_of_two y) (shifted_up_parts ps qs)
unfolding shifted_up_parts
shifted_up_in a ps qs x y i j = pairs_in shifted_up_part (λ u v. u *ℤ power_of_two v) a (shifted_up_sound a) ps qs x y i j

-- ---- products

times_negsuc : (x y : ℤ) (n : ℕ) → x ≤ℤ y → (y *ℤ negsuc n) ≤ℤ (x *ℤ negsuc n)
times_negsuc x y n h =
    rw (*ℤ-negsuc y n, *ℤ-negsuc x n) (turned (x *ℤ pos (suc n)) (y *ℤ pos (suc n)) (times_pos x y (suc n) h))
  where
    turned : (u v : ℤ) → u ≤ℤ v → neg_ℤ v ≤ℤ neg_ℤ u
    turned u v h = omega (arith, ints)

-- a product is not below that of one of the ends, and not above that of one
low_corner : (l h x y : ℤ) → l ≤ℤ x → x ≤ℤ h → ((l *ℤ y) ≤ℤ (x *ℤ y)) ⊎ ((h *ℤ y) ≤ℤ (x *ℤ y))
low_corner l h x (pos n) i j = inl (times_pos l x n i)
low_corner l h x (negsuc n) i j = inr (times_negsuc x h n j)

high_corner : (l h x y : ℤ) → l ≤ℤ x → x ≤ℤ h → ((x *ℤ y) ≤ℤ (l *ℤ y)) ⊎ ((x *ℤ y) ≤ℤ (h *ℤ y))
high_corner l h x (pos n) i j = inr (times_pos x h n j)
high_corner l h x (negsuc n) i j = inl (times_negsuc l x n i)

low_by : (e m k y : ℤ) → m ≤ℤ y → y ≤ℤ k → ((e *ℤ m) ≤ℤ (e *ℤ y)) ⊎ ((e *ℤ k) ≤ℤ (e *ℤ y))
low_by e m k y i j = rw (*ℤ_comm e m, *ℤ_comm e y, *ℤ_comm e k) (low_corner m k y e i j)

high_by : (e m k y : ℤ) → m ≤ℤ y → y ≤ℤ k → ((e *ℤ y) ≤ℤ (e *ℤ m)) ⊎ ((e *ℤ y) ≤ℤ (e *ℤ k))
high_by e m k y i j = rw (*ℤ_comm e y, *ℤ_comm e m, *ℤ_comm e k) (high_corner m k y e i j)

min_left : (x y : ℤ) → int_min x y ≤ℤ x
min_left x y = omega (arith, ints, int_min_is x y)

min_right : (x y : ℤ) → int_min x y ≤ℤ y
min_right x y = omega (arith, ints, int_min_is x y)

max_left : (x y : ℤ) → x ≤ℤ int_max x y
max_left x y = omega (arith, ints, int_max_is x y)

max_right : (x y : ℤ) → y ≤ℤ int_max x y
max_right x y = omega (arith, ints, int_max_is x y)

goes_on : (x y z : ℤ) → x ≤ℤ y → y ≤ℤ z → x ≤ℤ z
goes_on x y z h k = omega (arith, ints)

corners_low : (l h m k x y : ℤ) → l ≤ℤ x → x ≤ℤ h → m ≤ℤ y → y ≤ℤ k → int_min (int_min (l *ℤ m) (l *ℤ k)) (int_min (h *ℤ m) (h *ℤ k)) ≤ℤ (x *ℤ y)
corners_low l h m k x y i j p q =
    let A : ℤ = int_min (l *ℤ m) (l *ℤ k) in
    let B : ℤ = int_min (h *ℤ m) (h *ℤ k) in
    elim (low_corner l h x y i j) [
      | inl u ↦ goes_on (int_min A B) A (x *ℤ y) (min_left A B) (goes_on A (l *ℤ y) (x *ℤ y) (under l m k y p q) u)
      | inr u ↦ goes_on (int_min A B) B (x *ℤ y) (min_right A B) (goes_on B (h *ℤ y) (x *ℤ y) (under h m k y p q) u)
    ]
  where
    under : (e m k y : ℤ) → m ≤ℤ y → y ≤ℤ k → int_min (e *ℤ m) (e *ℤ k) ≤ℤ (e *ℤ y)
    under e m k y p q = elim (low_by e m k y p q) [
      | inl u ↦ goes_on (int_min (e *ℤ m) (e *ℤ k)) (e *ℤ m) (e *ℤ y) (min_left (e *ℤ m) (e *ℤ k)) u
      | inr u ↦ goes_on (int_min (e *ℤ m) (e *ℤ k)) (e *ℤ k) (e *ℤ y) (min_right (e *ℤ m) (e *ℤ k)) u
    ]

corners_high : (l h m k x y : ℤ) → l ≤ℤ x → x ≤ℤ h → m ≤ℤ y → y ≤ℤ k → (x *ℤ y) ≤ℤ int_max (int_max (l *ℤ m) (l *ℤ k)) (int_max (h *ℤ m) (h *ℤ k))
corners_high l h m k x y i j p q =
    let A : ℤ = int_max (l *ℤ m) (l *ℤ k) in
    let B : ℤ = int_max (h *ℤ m) (h *ℤ k) in
    elim (high_corner l h x y i j) [
      | inl u ↦ goes_on (x *ℤ y) A (int_max A B) (goes_on (x *ℤ y) (l *ℤ y) A u (over l m k y p q)) (max_left A B)
      | inr u ↦ goes_on (x *ℤ y) B (int_max A B) (goes_on (x *ℤ y) (h *ℤ y) B u (over h m k y p q)) (max_right A B)
    ]
  where
    over : (e m k y : ℤ) → m ≤ℤ y → y ≤ℤ k → (e *ℤ y) ≤ℤ int_max (e *ℤ m) (e *ℤ k)
    over e m k y p q = elim (high_by e m k y p q) [
      | inl u ↦ goes_on (e *ℤ y) (e *ℤ m) (int_max (e *ℤ m) (e *ℤ k)) u (max_left (e *ℤ m) (e *ℤ k))
      | inr u ↦ goes_on (e *ℤ y) (e *ℤ k) (int_max (e *ℤ m) (e *ℤ k)) u (max_right (e *ℤ m) (e *ℤ k))
    ]

range_sound : (a : ℕ → ℤ) (p q r : Part) (s u : ℤ × ℤ) (x y : ℤ) → range_of p ≡ Some s → range_of q ≡ Some u → product_range s u ≡ Some r → Between a x p → Between a y q → Between a (x *ℤ y) r
range_sound a p q r s u x y e f h i j =
    let v = range_holds p a s x e i in
    let w = range_holds q a u y f j in
    let L : ℤ = int_min (int_min (s.0 *ℤ u.0) (s.0 *ℤ u.1)) (int_min (s.1 *ℤ u.0) (s.1 *ℤ u.1)) in
    let M : ℤ = int_max (int_max (s.0 *ℤ u.0) (s.0 *ℤ u.1)) (int_max (s.1 *ℤ u.0) (s.1 *ℤ u.1)) in
    let g = ended (integer_end (exact L)) (integer_end (exact M)) r h in
    subst (Between a (x *ℤ y)) g.is
    (part_holds a g.low g.high L M (x *ℤ y) (integer_end_is L g.low a g.first) (integer_end_is M g.high a g.rest)
    (corners_low s.0 s.1 u.0 u.1 x y v.0 v.1 w.0 w.1) (corners_high s.0 s.1 u.0 u.1 x y v.0 v.1 w.0 w.1))

-- the integer w, at least 0
abbrev Is : ℤ → ℤ → Type 0
Is v w = (v ≡ w) × (pos 0 ≤ℤ v)

product_end_most : (e f g : End) (a : ℕ → ℤ) (x y : ℤ) → Bounded Is a (poly_of e) x → IsAtMost a (poly_of f) y → product_end e f ≡ Some g
    → IsAtMost a (poly_of g) (x *ℤ y)
product_end_most =
    ends_is Is Most Most (λ x y. x *ℤ y) product_fits product_map
    (λ u v x y h k. subst (λ z. (u *ℤ v) ≤ℤ (z *ℤ y)) h.0 (times_most u v y h.1 k))
    (λ a p q x y h k. product_most a p q x y h.0 h.1 k)

product_end_least : (e f g : End) (a : ℕ → ℤ) (x y : ℤ) → Bounded Is a (poly_of e) x → IsAtLeast a (poly_of f) y → product_end e f ≡ Some g
    → IsAtLeast a (poly_of g) (x *ℤ y)
product_end_least =
    ends_is Is Least Least (λ x y. x *ℤ y) product_fits product_map
    (λ u v x y h k. subst (λ z. (z *ℤ y) ≤ℤ (u *ℤ v)) h.0 (times_most u y v h.1 k))
    (λ a p q x y h k. product_least a p q x y h.0 h.1 k)

scaled_sound : (a : ℕ → ℤ) (p q r : Part) (s : ℤ × ℤ) (x y : ℤ) → range_of p ≡ Some s → scaled_part s q ≡ Some r → Between a x p → Between a y q → Between a (x *ℤ y) r
scaled_sound a p q r s x y e h i j =
    let t = taken (point_in 0 s.0 s.1) (λ c. part_of (product_end (Int c) q.low) (product_end (Int c) q.high)) r h in
    let g = ended (product_end (Int t.one) q.low) (product_end (Int t.one) q.high) r t.then in
    let v = range_holds p a s x e i in
    let k = point_is 0 s.0 s.1 t.one t.first in
    let same : x ≡ t.one = squeezed t.one x (subst (λ z. z ≤ℤ x) k.low v.0) (subst (λ z. x ≤ℤ z) k.high v.1) in
    let b : Bounded Is a (constant_map t.one) t.one = bounded_by Is a (constant_map t.one) t.one t.one (int_is a t.one)
    (refl, subst (λ z. pos 0 ≤ℤ z) (sym k.is) (no_less k.at)) in
    subst (λ z. Between a (z *ℤ y) r) (sym same)
    (subst (Between a (t.one *ℤ y)) g.is (
      product_end_most (Int t.one) q.low g.low a t.one y b j.0 g.first,
      product_end_least (Int t.one) q.high g.high a t.one y b j.1 g.rest,
    ))

product_by : (a : ℕ → ℤ) (p q r : Part) (o u : Option (ℤ × ℤ)) (x y : ℤ) → range_of p ≡ o → range_of q ≡ u → product_with o u p q ≡ Some r → Between a x p → Between a y q → Between a (x *ℤ y) r
product_by a p q r (Some s) (Some u) x y e f h i j = range_sound a p q r s u x y e f h i j
product_by a p q r (Some s) None x y e f h i j = scaled_sound a p q r s x y e h i j
product_by a p q r None (Some u) x y e f h i j = rw (*ℤ_comm x y) (scaled_sound a q p r u y x f h j i)
product_by a p q r None None x y e f h i j = none_some r h

product_sound : (a : ℕ → ℤ) (p q r : Part) (x y : ℤ) → product_part p q ≡ Some r → Between a x p → Between a y q → Between a (x *ℤ y) r
product_sound a p q r x y h i j = product_by a p q r (range_of p) (range_of q) x y refl refl h i j

pub product_in : (a : ℕ → ℤ) (ps qs : List Part) (x y : ℤ) → In a x ps → In a y qs → In a (x *ℤ y) (product_parts ps qs)
unfolding product_parts
product_in a ps qs x y i j = pairs_in product_part (λ u v. u *ℤ v) a (product_sound a) ps qs x y i j
