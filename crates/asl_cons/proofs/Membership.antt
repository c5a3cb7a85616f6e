-- `inclusion_law`.
use Rattle.std.proofs.Common.{◌⊎◌, inl, inr, ◌≡◌, ℕ, ◌<◌, List, [], ◌∷◌, subst, arith}
use Rattle.std.specs.Prelude.{◌≤ℤ◌, Option, Some, None, MatchOption}
use Rattle.std.proofs.Math.IntN.{ℤ, pos, ◌+ℤ◌, ◌*ℤ◌}
use Rattle.std.proofs.lemmas.Int.{ints}
use Rattle.asl_poly.specs.Terms.{Polynomial, value}
use Rattle.asl_poly.specs.Poly.{IsConstant, IsAtMost, IsAtLeast, constant_value}
use Rattle.asl_poly.proofs.Ring.{swap_last}
use Rattle.asl_poly.proofs.Maps.{one_number}
use Rattle.asl_poly.proofs.Bounds.{times_pos, less_of_times}
use Rattle.asl_cons.specs.declared.End.{End}
use Rattle.asl_cons.specs.declared.End.TheVariants.{Int, Width}
use Rattle.asl_cons.specs.declared.Part.{Part}
use Rattle.asl_cons.specs.Constraint.{poly_of, IsEnd, AllEnds, InSome, In, HasEnd, IsFixed, InFixed, Holds, Held, IsCovered, AllCovered, Below}
use Rattle.asl_cons.proofs.Covering.{int_end, end_some}

-- whether an end is constant can be told

found : (p : Polynomial) (o : Option ℤ) → MatchOption o ((c : ℤ) → IsConstant p c → ⊥) (λ c. IsConstant p c) → ((c : ℤ) × IsConstant p c) ⊎ ((c : ℤ) → IsConstant p c → ⊥)
found p None m = inr m
found p (Some c) m = inl (c, m)

constant_or : (e : End) → IsEnd e → ((c : ℤ) × HasEnd e c) ⊎ ((c : ℤ) → HasEnd e c → ⊥)
constant_or (Int z) h = inl (z, int_end z)
constant_or (Width p) h = found p (constant_value p) (one_number p h)

fixed_or : (p : Part) → IsEnd p.low → IsEnd p.high → ((l : ℤ) × (h : ℤ) × IsFixed p l h) ⊎ ((l h : ℤ) → IsFixed p l h → ⊥)
fixed_or p hl hh = elim (constant_or p.low hl) [
  | inl (l, a) ↦ elim (constant_or p.high hh) [
    | inl (h, b) ↦ inl (l, h, record { low = a; high = b })
    | inr n ↦ inr (λ l h f. n h f.high)
  ]
  | inr n ↦ inr (λ l h f. n l f.low)
]

-- the integers of a part lie in the parts that cover it

at_most : (v l i : ℤ) (d : ℕ) → v ≡ l *ℤ pos d → l ≤ℤ i → v ≤ℤ (i *ℤ pos d)
at_most v l i d e h = rw e (times_pos l i d h)

at_least : (v h i : ℤ) (d : ℕ) → v ≡ h *ℤ pos d → i ≤ℤ h → (i *ℤ pos d) ≤ℤ v
at_least v h i d e k = rw e (times_pos i h d k)

holds_in : (a : ℕ → ℤ) (i : ℤ) (q : Part) → Holds q i → IsAtMost a (poly_of q.low) i × IsAtLeast a (poly_of q.high) i
holds_in a i q h = (
  at_most (value a (poly_of q.low).terms) h.l i (poly_of q.low).denominator (h.fixed.low a) h.least,
  at_least (value a (poly_of q.high).terms) h.h i (poly_of q.high).denominator (h.fixed.high a) h.most,
)

fixed_in : (a : ℕ → ℤ) (i : ℤ) (qs : List Part) → InFixed i qs → InSome a i qs
fixed_in a i [] h = h
fixed_in a i (q ∷ qs) h = elim h [ inl k ↦ inl (holds_in a i q k) | inr k ↦ inr (fixed_in a i qs k) ]

no_more : (x y b z : ℤ) → x ≡ y +ℤ b → pos 0 ≤ℤ b → x ≤ℤ z → y ≤ℤ z
no_more x y b z e l h = omega (arith, ints)

no_less : (x y b z : ℤ) → x ≡ y +ℤ b → pos 0 ≤ℤ b → z ≤ℤ y → z ≤ℤ x
no_less x y b z e l h = omega (arith, ints)

-- two fractions v over d and w over e, one number apart, and an integer
lower : (v w b i : ℤ) (d e : ℕ) → 0 < d → v *ℤ pos e ≡ w *ℤ pos d +ℤ b → pos 0 ≤ℤ b → v ≤ℤ (i *ℤ pos d) → w ≤ℤ (i *ℤ pos e)
lower v w b i d e p s l h =
    less_of_times w (i *ℤ pos e) d p
    (no_more (v *ℤ pos e) (w *ℤ pos d) b ((i *ℤ pos e) *ℤ pos d) s l
    (subst (λ z. (v *ℤ pos e) ≤ℤ z) (swap_last i (pos d) (pos e)) (times_pos v (i *ℤ pos d) e h)))

higher : (v w b i : ℤ) (d e : ℕ) → 0 < d → w *ℤ pos d ≡ v *ℤ pos e +ℤ b → pos 0 ≤ℤ b → (i *ℤ pos d) ≤ℤ v → (i *ℤ pos e) ≤ℤ w
higher v w b i d e p s l h =
    less_of_times (i *ℤ pos e) w d p
    (no_less (w *ℤ pos d) (v *ℤ pos e) b ((i *ℤ pos e) *ℤ pos d) s l
    (subst (λ z. z ≤ℤ (v *ℤ pos e)) (swap_last i (pos d) (pos e)) (times_pos (i *ℤ pos d) v e h)))

held_in : (a : ℕ → ℤ) (i : ℤ) (p : Part) (qs : List Part) → IsEnd p.low → IsEnd p.high → Held p qs
    → IsAtMost a (poly_of p.low) i → IsAtLeast a (poly_of p.high) i → InSome a i qs
held_in a i p [] x y h l m = h
held_in a i p (q ∷ qs) x y h l m = elim h [
  | inl k ↦ inl (
    lower (value a (poly_of p.low).terms) (value a (poly_of q.low).terms) k.0.by i (poly_of p.low).denominator (poly_of q.low).denominator
        (end_some p.low x) (k.0.apart a) k.0.least l,
    higher (value a (poly_of p.high).terms) (value a (poly_of q.high).terms) k.1.by i (poly_of p.high).denominator
        (poly_of q.high).denominator (end_some p.high y) (k.1.apart a) k.1.least m,
  )
  | inr k ↦ inr (held_in a i p qs x y k l m)
]

-- an end that is the integer c, and an integer beside it
from_low : (a : ℕ → ℤ) (e : End) (c i : ℤ) → IsEnd e → HasEnd e c → IsAtMost a (poly_of e) i → c ≤ℤ i
from_low a e c i x h l =
    less_of_times c i (poly_of e).denominator (end_some e x) (subst (λ z. z ≤ℤ (i *ℤ pos (poly_of e).denominator)) (h a) l)

to_high : (a : ℕ → ℤ) (e : End) (c i : ℤ) → IsEnd e → HasEnd e c → IsAtLeast a (poly_of e) i → i ≤ℤ c
to_high a e c i x h l =
    less_of_times i c (poly_of e).denominator (end_some e x) (subst (λ z. (i *ℤ pos (poly_of e).denominator) ≤ℤ z) (h a) l)

covered_in : (a : ℕ → ℤ) (i : ℤ) (p : Part) (qs : List Part) → IsEnd p.low → IsEnd p.high → IsCovered qs p
    → IsAtMost a (poly_of p.low) i → IsAtLeast a (poly_of p.high) i → InSome a i qs
covered_in a i p qs hl hh c l m = elim (fixed_or p hl hh) [
  | inl (x, y, f) ↦ fixed_in a i qs (c.constant x y f i (from_low a p.low x i hl f.low l) (to_high a p.high y i hh f.high m))
  | inr n ↦ held_in a i p qs hl hh (c.symbolic n) l m
]

all_in : (a : ℕ → ℤ) (i : ℤ) (ps qs : List Part) → AllEnds ps → AllCovered ps qs → InSome a i ps → InSome a i qs
all_in a i [] qs e c h = absurd h
all_in a i (p ∷ ps) qs e c h = elim h [
  | inl k ↦ covered_in a i p qs e.0.0 e.0.1 c.0 k.0 k.1
  | inr k ↦ all_in a i ps qs e.1 c.1 k
]

pub below_in : (a : ℕ → ℤ) (i : ℤ) (ps qs : List Part) → AllEnds ps → Below ps qs → In a i ps → In a i qs
below_in a i ps qs e b h = elim b [
  | inl n ↦ inl n
  | inr (n, c) ↦ elim h [ inl k ↦ absurd (n k) | inr k ↦ inr (all_in a i ps qs e c k) ]
]
