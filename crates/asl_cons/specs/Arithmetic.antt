-- What the operators make of two constraints. `None` stands for what makes the result whole.
use Rattle.std.specs.Prelude.{◌==◌, ◌&&◌, nat_le, nat_lt, ℕ, ◌+◌, ◌*◌, ◌^◌, Bool, true, if◌then◌else◌, ℤ, pos, negsuc, ◌+ℤ◌, ◌-ℤ◌, ◌*ℤ◌, unsigned_abs, List, [], ◌∷◌, ◌++◌, length, Option, Some, None}
use Rattle.std.specs.Int.{int_min, int_max}
use Rattle.asl_num.specs.Exact.{floor_div}
use Rattle.asl_poly.specs.Terms.{Polynomial}
use Rattle.asl_poly.specs.WidthLimits.{heaviest, highest, most_atoms, finest}
use Rattle.asl_poly.specs.Limits.{weight, degree, atoms_of_both}
use Rattle.asl_poly.specs.Poly.{constant_value, sum_denominator, weight_over, sum_map, difference_map, product_map}
use Rattle.asl_cons.specs.declared.End.{End}
use Rattle.asl_cons.specs.declared.End.TheVariants.{Int, Width}
use Rattle.asl_cons.specs.declared.Part.{Part}
use Rattle.asl_cons.specs.Constraint.{poly_of}

abbrev pub bind : {A B : Type 0} → Option A → (A → Option B) → Option B
bind None f = None
bind (Some x) f = f x

-- ---- ends

abbrev pub fits : ℤ → Bool
fits (pos n) = nat_lt n (2 ^ 127)
fits (negsuc n) = nat_lt n (2 ^ 127)

-- the integer, where 128 bits hold it
unfoldable pub exact : ℤ → Option ℤ
exact z = if fits z then Some z else None

-- the integer that an end is, where it has no atom and is whole
abbrev pub number_of : End → Option ℤ
number_of (Int z) = Some z
number_of (Width p) = constant_value p

abbrev pub shown_by : Option ℤ → Polynomial → End
shown_by (Some c) p = Int c
shown_by None p = Width p

-- the polynomial as an end, an integer where it is one
abbrev pub shown : Polynomial → End
shown p = shown_by (constant_value p) p

-- the end is within the limit of widths where it counts as one
abbrev pub light_end : End → Bool
light_end (Int z) = nat_le (unsigned_abs z) heaviest
light_end (Width p) = true

-- the limits of widths, for the sum or difference, and for the product
unfoldable pub sum_fits : Polynomial → Polynomial → Bool
sum_fits p q =
    nat_le (weight_over (sum_denominator p q) p + weight_over (sum_denominator p q) q) heaviest
    && (nat_le (length (atoms_of_both p.terms q.terms)) most_atoms && nat_le (sum_denominator p q) finest)

unfoldable pub product_fits : Polynomial → Polynomial → Bool
product_fits p q =
    nat_le (weight p.terms * weight q.terms) heaviest
    && (nat_le (degree p.terms + degree q.terms) highest
    && (nat_le (length (atoms_of_both p.terms q.terms)) most_atoms && nat_le (p.denominator * q.denominator) finest))

-- the limit of a width that is divided by k
unfoldable pub quotient_fits : Polynomial → ℕ → Bool
quotient_fits p k = nat_le (p.denominator * k) finest

abbrev pub integer_end : Option ℤ → Option End
integer_end z = bind z (λ n. Some (Int n))

abbrev pub width_end : Bool → Polynomial → Option End
width_end fit p = if fit then Some (shown p) else None

-- both ends as widths
abbrev pub widths : (Polynomial → Polynomial → Bool) → (Polynomial → Polynomial → Polynomial) → End → End → Option End
widths fit made e f = width_end (light_end e && (light_end f && fit (poly_of e) (poly_of f))) (made (poly_of e) (poly_of f))

abbrev pub ends_with : Option ℤ → Option ℤ → (ℤ → ℤ → ℤ) → Option End → Option End
ends_with (Some x) (Some y) op other = integer_end (exact (op x y))
ends_with (Some x) None op other = other
ends_with None y op other = other

-- two ends that are integers give a 128-bit integer; where one isn't an integer, the limits of widths hold for both
abbrev pub sum_end : End → End → Option End
sum_end e f = ends_with (number_of e) (number_of f) (λ x y. x +ℤ y) (widths sum_fits sum_map e f)

abbrev pub difference_end : End → End → Option End
difference_end e f = ends_with (number_of e) (number_of f) (λ x y. x -ℤ y) (widths sum_fits difference_map e f)

abbrev pub product_end : End → End → Option End
product_end e f = ends_with (number_of e) (number_of f) (λ x y. x *ℤ y) (widths product_fits product_map e f)

-- ---- parts

abbrev pub part : End → End → Part
part l h = record { low = l; high = h }

abbrev pub part_of : Option End → Option End → Option Part
part_of l h = bind l (λ e. bind h (λ f. Some (part e f)))

-- the ends of a constant part
abbrev pub range_of : Part → Option (ℤ × ℤ)
range_of p = bind (number_of p.low) (λ l. bind (number_of p.high) (λ h. Some (l, h)))

-- the one integer from l to h, where it is least or more
abbrev pub point_in : ℕ → ℤ → ℤ → Option ℤ
point_in least (pos l) (pos h) = if (l == h) && nat_le least l then Some (pos l) else None
point_in least (pos l) (negsuc h) = None
point_in least (negsuc l) h = None

-- the one integer of a constant part `c..c`, where it is least or more
abbrev pub point_of : ℕ → Part → Option ℤ
point_of least p = bind (range_of p) (λ r. point_in least r.0 r.1)

abbrev pub sum_part : Part → Part → Option Part
sum_part p q = part_of (sum_end p.low q.low) (sum_end p.high q.high)

abbrev pub difference_part : Part → Part → Option Part
difference_part p q = part_of (difference_end p.low q.high) (difference_end p.high q.low)

-- from the least to the greatest of the products of the ends
abbrev pub product_range : ℤ × ℤ → ℤ × ℤ → Option Part
product_range r s =
    part_of (integer_end (exact (int_min (int_min (r.0 *ℤ s.0) (r.0 *ℤ s.1)) (int_min (r.1 *ℤ s.0) (r.1 *ℤ s.1)))))
    (integer_end (exact (int_max (int_max (r.0 *ℤ s.0) (r.0 *ℤ s.1)) (int_max (r.1 *ℤ s.0) (r.1 *ℤ s.1)))))

-- the integer of `c..c`, at least 0, times the ends of q
abbrev pub scaled_part : ℤ × ℤ → Part → Option Part
scaled_part r q = bind (point_in 0 r.0 r.1) (λ c. part_of (product_end (Int c) q.low) (product_end (Int c) q.high))

abbrev pub product_with : Option (ℤ × ℤ) → Option (ℤ × ℤ) → Part → Part → Option Part
product_with (Some r) (Some s) p q = product_range r s
product_with (Some r) None p q = scaled_part r q
product_with None (Some s) p q = scaled_part s p
product_with None None p q = None

abbrev pub product_part : Part → Part → Option Part
product_part p q = product_with (range_of p) (range_of q) p q

abbrev pub modulo_part : Part → Option Part
modulo_part q = bind (point_of 1 q) (λ m. Some (part (Int (pos 0)) (Int (m -ℤ pos 1))))

abbrev pub quotient_part : Part → Part → Option Part
quotient_part p q = bind (range_of p) (λ r. bind (point_of 1 q) (λ m. Some (part (Int (floor_div r.0 (unsigned_abs m))) (Int (floor_div r.1 (unsigned_abs m))))))

abbrev pub power_of_two : ℤ → ℤ
power_of_two k = pos (2 ^ unsigned_abs k)

abbrev pub shifted_up_part : Part → Part → Option Part
shifted_up_part p q =
    bind (range_of p) (λ r. bind (point_of 0 q) (λ k. part_of (integer_end (exact (r.0 *ℤ power_of_two k))) (integer_end (exact (r.1 *ℤ power_of_two k)))))

abbrev pub shifted_down_part : Part → Part → Option Part
shifted_down_part p q =
    bind (range_of p) (λ r. bind (point_of 0 q) (λ k. Some (part (Int (floor_div r.0 (2 ^ unsigned_abs k))) (Int (floor_div r.1 (2 ^ unsigned_abs k))))))

-- ---- constraints

-- the parts, and whole where there are none to tell or over 64
abbrev pub limited : Option (List Part) → List Part
limited None = []
limited (Some ps) = if nat_le (length ps) 64 then ps else []

abbrev pub with_part : Option Part → Option (List Part) → Option (List Part)
with_part r rs = bind r (λ p. bind rs (λ ps. Some (p ∷ ps)))

abbrev pub joined_parts : Option (List Part) → Option (List Part) → Option (List Part)
joined_parts rs ss = bind rs (λ ps. bind ss (λ qs. Some (ps ++ qs)))

-- what p and each of the parts give
abbrev pub with_each : (Part → Part → Option Part) → Part → List Part → Option (List Part)
with_each op p [] = Some []
with_each op p (q ∷ qs) = with_part (op p q) (with_each op p qs)

-- what all pairs of parts give, left part first
abbrev pub all_pairs : (Part → Part → Option Part) → List Part → List Part → Option (List Part)
all_pairs op [] qs = Some []
all_pairs op (p ∷ ps) qs = joined_parts (with_each op p qs) (all_pairs op ps qs)

-- what each part gives
abbrev pub each_part : (Part → Option Part) → List Part → Option (List Part)
each_part op [] = Some []
each_part op (q ∷ qs) = with_part (op q) (each_part op qs)

abbrev pub by_pairs : (Part → Part → Option Part) → List Part → List Part → List Part
by_pairs op ps qs = limited (all_pairs op ps qs)

unfoldable pub sum_parts : List Part → List Part → List Part
sum_parts ps qs = by_pairs sum_part ps qs

unfoldable pub difference_parts : List Part → List Part → List Part
difference_parts ps qs = by_pairs difference_part ps qs

unfoldable pub product_parts : List Part → List Part → List Part
product_parts ps qs = by_pairs product_part ps qs

-- the right parts alone
unfoldable pub modulo_parts : List Part → List Part → List Part
modulo_parts ps qs = limited (each_part modulo_part qs)

unfoldable pub quotient_parts : List Part → List Part → List Part
quotient_parts ps qs = by_pairs quotient_part ps qs

unfoldable pub shifted_up_parts : List Part → List Part → List Part
shifted_up_parts ps qs = by_pairs shifted_up_part ps qs

unfoldable pub shifted_down_parts : List Part → List Part → List Part
shifted_down_parts ps qs = by_pairs shifted_down_part ps qs

-- the parts of both, left first; whole where one is
abbrev pub union_parts : List Part → List Part → List Part
union_parts [] qs = []
union_parts (p ∷ ps) [] = []
union_parts (p ∷ ps) (q ∷ qs) = limited (Some ((p ∷ ps) ++ q ∷ qs))
