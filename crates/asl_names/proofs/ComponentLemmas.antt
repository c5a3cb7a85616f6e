-- Numbers that don't rise along edges: a node on a cycle uses one of its own number.
use Rattle.std.proofs.Common.{◌≡◌, ℕ, zero, suc, ◌+◌, ◌<◌, ◌≤◌, ◌⊎◌, inl, inr, true, List, [], ◌∷◌, length, refl, sym, ap, ◌∙◌, subst, arith}
use Rattle.std.specs.Prelude.{◌==◌, nat_le}
use Rattle.std.proofs.lemmas.Bool.{eq-eqb, eqb-true, leb-true}
use Rattle.asl_turns.specs.Graphs.{Graph, row, is_among}
use Rattle.asl_names.specs.private.Ways.{is_way, HasWay}
use Rattle.asl_names.specs.private.Components.{level, has_level, are_below, IsFalling}
use Rattle.asl_rules.proofs.basics.Tests.{no, both, either, or_first, or_second}
use Rattle.asl_names.proofs.Ways.{below_or}

le_of : (m n : ℕ) → nat_le m n ≡ true → m ≤ n
le_of m n h = leb-true m n h

among_below : (ls ns : List ℕ) (k b : ℕ) → are_below ls ns b ≡ true → is_among k ns ≡ true → level ls k ≤ b
among_below ls [] k b h i = no i
among_below ls (n ∷ ns) k b h i =
    let p = both (nat_le (level ls n) b) (are_below ls ns b) h in
    either (n == k) (is_among k ns) i (λ q. subst (λ m. level ls m ≤ b) (eqb-true n k q) (le_of (level ls n) b p.0)) (among_below ls ns k b p.1)

among_has : (ls ns : List ℕ) (k b : ℕ) → is_among k ns ≡ true → level ls k ≡ b → has_level ls ns b ≡ true
among_has ls [] k b i h = no i
among_has ls (n ∷ ns) k b i h =
    either (n == k) (is_among k ns) i
    (λ q. or_first (level ls n == b) (has_level ls ns b) (eq-eqb (level ls n) b (ap (level ls) (eqb-true n k q) ∙ h)))
    (λ q. or_second (level ls n == b) (has_level ls ns b) (among_has ls ns k b q h))

falls : (g : Graph) (ls : List ℕ) → IsFalling g ls → (ks : List ℕ) (n m : ℕ) → is_way g n ks m ≡ true → level ls m ≤ level ls n
falls g ls f [] n m w = among_below ls (row g n) m (level ls n) (f n) w
falls g ls f (k ∷ ks) n m w =
    let p = both (is_among k (row g n)) (is_way g k ks m) w in
    let a = among_below ls (row g n) k (level ls n) (f n) p.0 in
    let b = falls g ls f ks k m p.1 in
    omega (arith, a, b)

-- a node that reaches itself uses one of its own number
pub peer : (g : Graph) (ls : List ℕ) (n : ℕ) → IsFalling g ls → HasWay g n n → has_level ls (row g n) (level ls n) ≡ true
peer g ls n f w = by w.0 w.1
  where
    by : (ks : List ℕ) → is_way g n ks n ≡ true → has_level ls (row g n) (level ls n) ≡ true
    by [] h = among_has ls (row g n) n (level ls n) h refl
    by (k ∷ ks) h =
        let p = both (is_among k (row g n)) (is_way g k ks n) h in
        let a = among_below ls (row g n) k (level ls n) (f n) p.0 in
        let b = falls g ls f ks k n p.1 in
        among_has ls (row g n) k (level ls n) p.0 (omega (arith, a, b))

-- ---- all nodes of a graph

-- none of the first so many uses one of a greater number
abbrev pub FallingTo : Graph → List ℕ → ℕ → Type 0
FallingTo g ls at = (n : ℕ) → n < at → are_below ls (row g n) (level ls n) ≡ true

row_past : (g : Graph) (n : ℕ) → length g ≤ n → row g n ≡ []
row_past [] n h = refl
row_past (r ∷ g) zero h = absurd (omega (arith, h))
row_past (r ∷ g) (suc n) h = row_past g n (omega (arith, h))

pub falling_next : (g : Graph) (ls : List ℕ) (at : ℕ) → FallingTo g ls at → are_below ls (row g at) (level ls at) ≡ true → FallingTo g ls (at + 1)
falling_next g ls at f h n l = by (below_or n at (omega (arith, l)))
  where
    by : (n < at) ⊎ (n ≡ at) → are_below ls (row g n) (level ls n) ≡ true
    by (inl q) = f n q
    by (inr q) = subst (λ m. are_below ls (row g m) (level ls m) ≡ true) (sym q) h

below_or_past : (n at : ℕ) → (n < at) ⊎ (at ≤ n)
below_or_past zero zero = inr (omega arith)
below_or_past zero (suc at) = inl (omega arith)
below_or_past (suc n) zero = inr (omega arith)
below_or_past (suc n) (suc at) = up (below_or_past n at)
  where
    up : (n < at) ⊎ (at ≤ n) → (suc n < suc at) ⊎ (suc at ≤ suc n)
    up (inl q) = inl (omega (arith, q))
    up (inr q) = inr (omega (arith, q))

pub falling_all : (g : Graph) (ls : List ℕ) (at : ℕ) → length g ≤ at → FallingTo g ls at → IsFalling g ls
falling_all g ls at h f n = by (below_or_past n at)
  where
    by : (n < at) ⊎ (at ≤ n) → are_below ls (row g n) (level ls n) ≡ true
    by (inl q) = f n q
    by (inr q) = ap (λ ns. are_below ls ns (level ls n)) (row_past g n (omega (arith, h, q)))
