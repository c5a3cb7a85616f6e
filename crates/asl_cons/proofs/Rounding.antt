-- An integer beside a fraction is compared with the quotient, rounded down.
use Rattle.std.proofs.Common.{inl, inr, ◌≡◌, ℕ, ◌<◌, Bool, true, false, sym, subst, arith, rules}
use Rattle.std.specs.Prelude.{IsTrue, ◌↔◌, ◌≤ℤ◌, Some, unsigned_abs}
use Rattle.std.proofs.Math.Bool.{not}
use Rattle.std.proofs.Math.IntN.{ℤ, pos, negsuc, ◌+ℤ◌, ◌-ℤ◌, ◌*ℤ◌}
use Rattle.std.proofs.lemmas.Int.{ints}
use lib.Signed.{le_z}
use Rattle.asl_num.specs.Exact.{floor_div, floor_mod}
use Rattle.asl_num.proofs.Laws.{floor_law}
use Rattle.asl_poly.specs.Terms.{Polynomial, value}
use Rattle.asl_poly.proofs.Bounds.{times_pos, at_most_or, one_more}
use Rattle.asl_cons.specs.declared.End.TheVariants.{Int, Width}
use Rattle.asl_cons.specs.Constraint.{IsAbove}
use Rattle.asl_cons.proofs.Covering.{iff_trans, integer_above, above_integer}

-- ---- the quotient

more_left : (u v c : ℤ) (r : ℕ) → v +ℤ pos r ≡ c → u ≤ℤ v → u ≤ℤ c
more_left u v c r e h = omega (arith, ints)

past_it : (u v c : ℤ) (r n : ℕ) → v +ℤ pos r ≡ c → r < n → (v +ℤ pos n) ≤ℤ u → u ≤ℤ c → ⊥
past_it u v c r n e l h k = omega (arith, ints)

pub at_most_floor : (x c : ℤ) (n : ℕ) → 0 < n → (x ≤ℤ floor_div c n) ↔ ((x *ℤ pos n) ≤ℤ c)
at_most_floor x c n p = (
  (λ h. more_left (x *ℤ pos n) (floor_div c n *ℤ pos n) c (floor_mod c n) (floor_law c n p).0 (times_pos x (floor_div c n) n h)),
  λ h. elim (at_most_or x (floor_div c n)) [
    | inl k ↦ k
    | inr k ↦ absurd (past_it (x *ℤ pos n) (floor_div c n *ℤ pos n) c (floor_mod c n) n (floor_law c n p).0 (floor_law c n p).1
        (subst (λ z. z ≤ℤ (x *ℤ pos n)) (one_more (floor_div c n) n) (times_pos (floor_div c n +ℤ pos 1) x n k)) h)
  ],
)

test_le : (x y : ℤ) → IsTrue (le_z x y) ↔ (x ≤ℤ y)
test_le x y = ((λ t. grind (arith, ints)), λ l. grind (arith, ints))

-- what the test of the quotient decides
pub at_most_quotient : (x c d m : ℤ) → pos 1 ≤ℤ d → Some m ≡ Some (floor_div c (unsigned_abs d)) → IsTrue (le_z x m) ↔ ((x *ℤ d) ≤ℤ c)
at_most_quotient x c (pos n) m l e =
    let f : m ≡ floor_div c n = cc in
    iff_trans (test_le x m) (subst (λ z. (x ≤ℤ z) ↔ ((x *ℤ pos n) ≤ℤ c)) (sym f) (at_most_floor x c n (omega (arith, ints))))
at_most_quotient x c (negsuc n) m l e = absurd (omega (arith, ints))

-- ---- one above the other

pub integer_below : (p : Polynomial) (y c d : ℤ) (r : Bool) → d ≡ pos p.denominator → IsTrue r ↔ ((y *ℤ d) ≤ℤ c)
    → ((a : ℕ → ℤ) → value a p.terms ≡ c) → IsTrue r ↔ IsAbove (Width p) (Int y)
integer_below p y c d r e t v = iff_trans (subst (λ z. IsTrue r ↔ ((y *ℤ z) ≤ℤ c)) e t) (above_integer p y c v)

not_both : (r : Bool) → IsTrue (not r) → IsTrue r → ⊥
not_both true t u = absurd (search rules)
not_both false t u = absurd (search rules)

one_of_both : (r : Bool) → (IsTrue r → ⊥) → IsTrue (not r)
one_of_both true n = absurd (n (search rules))
one_of_both false n = search rules

less_or_more : (u c : ℤ) → (u ≤ℤ (c -ℤ pos 1) → ⊥) → c ≤ℤ u
less_or_more u c n = elim (at_most_or c u) [ inl k ↦ k | inr k ↦ absurd (n (one_less u c k)) ]
  where
    one_less : (u c : ℤ) → (u +ℤ pos 1) ≤ℤ c → u ≤ℤ (c -ℤ pos 1)
    one_less u c k = omega (arith, ints)

not_less : (u c : ℤ) → c ≤ℤ u → u ≤ℤ (c -ℤ pos 1) → ⊥
not_less u c h k = omega (arith, ints)

refused_is : (r : Bool) (u c : ℤ) → IsTrue r ↔ (u ≤ℤ (c -ℤ pos 1)) → IsTrue (not r) ↔ (c ≤ℤ u)
refused_is r u c t = ((λ n. less_or_more u c (λ k. not_both r n (t.1 k))), λ h. one_of_both r (λ y. not_less u c h (t.0 y)))

pub width_below : (x : ℤ) (q : Polynomial) (c d : ℤ) (r : Bool) → d ≡ pos q.denominator → IsTrue r ↔ ((x *ℤ d) ≤ℤ (c -ℤ pos 1))
    → ((a : ℕ → ℤ) → value a q.terms ≡ c) → IsTrue (not r) ↔ IsAbove (Int x) (Width q)
width_below x q c d r e t v =
    iff_trans (subst (λ z. IsTrue (not r) ↔ (c ≤ℤ (x *ℤ z))) e (refused_is r (x *ℤ d) c t)) (integer_above x c q v)
