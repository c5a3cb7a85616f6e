-- The integers that bits are read as lie within the bounds of their width.
use Rattle.std.proofs.Common.{◌≡◌, ℕ, suc, ◌-◌, ◌*◌, ◌^◌, ◌<◌, ◌≤◌, pos, Bool, true, false, List, [], ◌∷◌, length, get_or, refl, sym, ap, ◌∙◌, subst, arith}
use Rattle.std.specs.Prelude.{◌≤ℤ◌, ◌-ℤ◌, neg_ℤ}
use Rattle.std.proofs.lemmas.Int.{ints}
use Rattle.asl_bits.specs.Lists.{bits_value, signed_value, top_bit}
use Rattle.asl_bits.proofs.Lists.{twice, value_small}
use Rattle.asl_bits.proofs.Values.{positive_value}

top_rest : (b c : Bool) (cs : List Bool) → top_bit (b ∷ c ∷ cs) ≡ top_bit (c ∷ cs)
top_rest b c cs = ap (λ m. get_or (b ∷ c ∷ cs) m false) (two_less (length cs)) ∙ ap (λ m. get_or (c ∷ cs) m false) (sym (one_less (length cs)))
  where
    two_less : (n : ℕ) → suc (suc n) - 1 ≡ suc n
    two_less n = omega arith

    one_less : (n : ℕ) → suc n - 1 ≡ n
    one_less n = omega arith

low_half : (b : Bool) (bs : List Bool) → top_bit (b ∷ bs) ≡ false → bits_value (b ∷ bs) < 2 ^ length bs
unfolding bits_value
low_half true [] h = absurd cc
low_half false [] h = omega arith
low_half true (c ∷ cs) h = omega (arith, low_half c cs (sym (top_rest true c cs) ∙ h), twice (length cs))
low_half false (c ∷ cs) h = omega (arith, low_half c cs (sym (top_rest false c cs) ∙ h), twice (length cs))

high_half : (b : Bool) (bs : List Bool) → top_bit (b ∷ bs) ≡ true → 2 ^ length bs ≤ bits_value (b ∷ bs)
unfolding bits_value
high_half true [] h = omega arith
high_half false [] h = absurd cc
high_half true (c ∷ cs) h = omega (arith, high_half c cs (sym (top_rest true c cs) ∙ h), twice (length cs))
high_half false (c ∷ cs) h = omega (arith, high_half c cs (sym (top_rest false c cs) ∙ h), twice (length cs))

signed_true : (bs : List Bool) → top_bit bs ≡ true → signed_value bs ≡ pos (bits_value bs) -ℤ pos (2 ^ length bs)
signed_true bs e = rw e refl

pub unsigned_within : (bs : List Bool) (k : ℕ) → length bs ≡ k → (pos 0 ≤ℤ pos (bits_value bs)) × (pos (bits_value bs) ≤ℤ pos (2 ^ k - 1))
unsigned_within bs k e = (above (bits_value bs), below (bits_value bs) (2 ^ k) (subst (λ (m : ℕ). bits_value bs < 2 ^ m) e (value_small bs)))
  where
    above : (m : ℕ) → pos 0 ≤ℤ pos m
    above m = grind (arith, ints)

    below : (m n : ℕ) → m < n → pos m ≤ℤ pos (n - 1)
    below m n h = grind (arith, ints)

signed_by : (b : Bool) (bs : List Bool) (t : Bool) → top_bit (b ∷ bs) ≡ t → (neg_ℤ (pos (2 ^ length bs)) ≤ℤ signed_value (b ∷ bs)) × (signed_value (b ∷ bs) ≤ℤ pos (2 ^ length bs - 1))
signed_by b bs false e =
    let h = positive_value (b ∷ bs) e in
    let l = low_half b bs e in
    (subst (λ z. neg_ℤ (pos (2 ^ length bs)) ≤ℤ z) (sym h) (above (bits_value (b ∷ bs)) (2 ^ length bs)), subst (λ z. z ≤ℤ pos (2 ^ length bs - 1)) (sym h) (below (bits_value (b ∷ bs)) (2 ^ length bs) l))
  where
    above : (m n : ℕ) → neg_ℤ (pos n) ≤ℤ pos m
    above m n = omega (arith, ints)

    below : (m n : ℕ) → m < n → pos m ≤ℤ pos (n - 1)
    below m n h = grind (arith, ints)
signed_by b bs true e =
    let h = signed_true (b ∷ bs) e in
    let l = high_half b bs e in
    let s = value_small (b ∷ bs) in
    (subst (λ z. neg_ℤ (pos (2 ^ length bs)) ≤ℤ z) (sym h) (above (bits_value (b ∷ bs)) (2 ^ length bs) (2 ^ suc (length bs)) (twice (length bs)) l), subst (λ z. z ≤ℤ pos (2 ^ length bs - 1)) (sym h) (below (bits_value (b ∷ bs)) (2 ^ length bs) (2 ^ suc (length bs)) s))
  where
    above : (m n p : ℕ) → p ≡ 2 * n → n ≤ m → neg_ℤ (pos n) ≤ℤ (pos m -ℤ pos p)
    above m n p e h = omega (arith, ints)

    below : (m n p : ℕ) → m < p → (pos m -ℤ pos p) ≤ℤ pos (n - 1)
    below m n p h = omega (arith, ints)

pub signed_within : (bs : List Bool) (k : ℕ) → length bs ≡ k → 1 ≤ k → (neg_ℤ (pos (2 ^ (k - 1))) ≤ℤ signed_value bs) × (signed_value bs ≤ℤ pos (2 ^ (k - 1) - 1))
signed_within [] k e h = absurd (empty k e h)
  where
    empty : (k : ℕ) → 0 ≡ k → 1 ≤ k → ⊥
    empty k e h = omega arith
signed_within (b ∷ bs) k e h = subst (λ (m : ℕ). (neg_ℤ (pos (2 ^ m)) ≤ℤ signed_value (b ∷ bs)) × (signed_value (b ∷ bs) ≤ℤ pos (2 ^ m - 1))) (less (length bs) k e) (signed_by b bs (top_bit (b ∷ bs)) refl)
  where
    less : (m k : ℕ) → suc m ≡ k → m ≡ k - 1
    less m k e = omega arith
