-- Steps that give the same under a wider limit, unless under the narrower one they end as too wide or have no outcome.
use Rattle.std.proofs.Common.{◌≡◌, ℕ, ◌≤◌, arith, Bool, true, false, cond, inl, inr, ◌⊎◌, refl, sym, ap, subst}
use Rattle.std.specs.Prelude.{nat_le}
use Rattle.asl_syn.specs.declared.token.Span.{Span}
use Rattle.asl_syn.specs.declared.code.DynCode.TheVariants.{D14}
use Rattle.asl_rules.specs.runs.Plans.{End, Faulted, Pure, Good, Bad}
use Rattle.asl_rules.specs.runs.Pures.{◌>>=◌}
use Rattle.std.proofs.lemmas.Bool.Decides.{nat_tests}
use Rattle.asl_laws.specs.Wider.{IsNarrow}

-- a step that ends so
abbrev pub NarrowStep : {A : Type 0} → Pure A → Type 0
NarrowStep (Good x) = ⊥
NarrowStep (Bad e) = IsNarrow e

unfoldable pub Wider : {A : Type 0} → Pure A → Pure A → Type 0
Wider r s = (s ≡ r) ⊎ NarrowStep r

pub wider_same : {A : Type 0} (r : Pure A) → Wider r r
unfolding Wider
wider_same r = inl refl

pub wider_equal : {A : Type 0} (r s : Pure A) → s ≡ r → Wider r s
unfolding Wider
wider_equal r s e = inl e

pub wider_narrow : {A : Type 0} (e : End) (s : Pure A) → IsNarrow e → Wider (Bad e) s
unfolding Wider
wider_narrow e s n = inr n

pub wider_bind : {A B : Type 0} (r s : Pure A) (f g : A → Pure B) → Wider r s → ((x : A) → Wider (f x) (g x)) → Wider (r >>= f) (s >>= g)
unfolding Wider
wider_bind (Good x) s f g (inl e) k = subst (λ z. Wider (f x) (z >>= g)) (sym e) (k x)
wider_bind (Good x) s f g (inr n) k = absurd n
wider_bind (Bad d) s f g (inl e) k = inl (ap (λ z. z >>= g) e)
wider_bind (Bad d) s f g (inr n) k = inr n

-- one step, and what comes behind it on both sides
pub wider_step : {A B : Type 0} (r : Pure A) (f g : A → Pure B) → ((x : A) → Wider (f x) (g x)) → Wider (r >>= f) (r >>= g)
wider_step r f g k = wider_bind r r f g (wider_same r) k

pub wider_cond : {A : Type 0} (b : Bool) (r s p q : Pure A) → Wider r s → Wider p q → Wider (cond b r p) (cond b s q)
wider_cond true r s p q h k = h
wider_cond false r s p q h k = k

-- a good value stays
pub wider_good : {A : Type 0} (r s : Pure A) (x : A) → Wider r s → r ≡ Good x → s ≡ Good x
unfolding Wider
wider_good (Good y) s x (inl e) h = subst (λ z. s ≡ z) h e
wider_good (Good y) s x (inr n) h = absurd n
wider_good (Bad d) s x w h = elim (bad_good h) [ ]
  where
    bad_good : {A : Type 0} {d : End} {x : A} → (let r : Pure A = Bad d in r) ≡ Good x → ⊥
    bad_good h = cc

-- ---- the limit

-- one test implies the other, and where the first fails the step is too wide
pub by_test : {A : Type 0} (b c : Bool) (r : Pure A) (e : End) → IsNarrow e → (b ≡ true → c ≡ true) →
    Wider (cond b r (Bad e)) (cond c r (Bad e))
by_test true true r e n h = wider_same r
by_test true false r e n h = elim (no_true (h refl)) [ ]
  where
    no_true : false ≡ true → ⊥
    no_true h = cc
by_test false c r e n h = wider_narrow e (cond c r (Bad e)) n

nat_le_is : (m n : ℕ) → nat_le m n ≡ true → m ≤ n
nat_le_is m n h = grind (arith, nat_tests)

le_is_nat : (m n : ℕ) → m ≤ n → nat_le m n ≡ true
le_is_nat m n h = grind (arith, nat_tests)

module _ (l m : ℕ) (le : l ≤ m) where
  pub within_both : (n : ℕ) → nat_le n l ≡ true → nat_le n m ≡ true
  within_both n h = le_is_nat n m (longer (nat_le_is n l h) le)
    where
      longer : n ≤ l → l ≤ m → n ≤ m
      longer a b = omega (arith, a, b)

  pub limit_wider : {A : Type 0} (n : ℕ) (span : Span) (r : Pure A) →
      Wider (cond (nat_le n l) r (Bad (Faulted D14 span))) (cond (nat_le n m) r (Bad (Faulted D14 span)))
  limit_wider n span r = by_test (nat_le n l) (nat_le n m) r (Faulted D14 span) refl (within_both n)
