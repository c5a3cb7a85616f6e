-- Tests that only ever come to hold, of the members of a list, settle after as many steps as the list is long.
use Rattle.std.proofs.Common.{◌≡◌, ℕ, zero, suc, ◌+◌, ◌≤◌, ◌⊎◌, inl, inr, Bool, true, false, cond, List, [], ◌∷◌, length, refl, sym, ◌∙◌, subst, arith}
use Rattle.asl_rules.proofs.basics.Tests.{no}
use Rattle.asl_rules.proofs.verdict.Distinct.{In}

-- the number of members of which a test doesn't hold
abbrev left : {A : Type 0} → (A → Bool) → List A → ℕ
left q [] = 0
left q (x ∷ xs) = cond (q x) (left q xs) (suc (left q xs))

module _ {A : Type 0} where
  all_left : (q : A → Bool) (xs : List A) → left q xs ≤ length xs
  all_left q [] = omega arith
  all_left q (x ∷ xs) = by (q x) (all_left q xs)
    where
      by : (b : Bool) → left q xs ≤ length xs → cond b (left q xs) (suc (left q xs)) ≤ suc (length xs)
      by true h = omega (arith, h)
      by false h = omega (arith, h)

  fewer : (q r : A → Bool) (xs : List A) → ((x : A) → In x xs → q x ≡ true → r x ≡ true) → left r xs ≤ left q xs
  fewer q r [] f = omega arith
  fewer q r (x ∷ xs) f = by (q x) (r x) (f x (inl refl)) (fewer q r xs (λ y i. f y (inr i)))
    where
      by : (b c : Bool) → (b ≡ true → c ≡ true) → left r xs ≤ left q xs → cond c (left r xs) (suc (left r xs)) ≤ cond b (left q xs) (suc (left q xs))
      by true true g h = h
      by true false g h = no (g refl)
      by false true g h = omega (arith, h)
      by false false g h = omega (arith, h)

  -- either the same, or fewer are left
  same_or_fewer : (q r : A → Bool) (xs : List A) → ((x : A) → In x xs → q x ≡ true → r x ≡ true) → ((x : A) → In x xs → r x ≡ q x) ⊎ (suc (left r xs) ≤ left q xs)
  same_or_fewer q r [] f = inl (λ x i. absurd i)
  same_or_fewer q r (x ∷ xs) f = by (q x) (r x) refl refl (f x (inl refl)) (same_or_fewer q r xs (λ y i. f y (inr i)))
    where
      here : (b : Bool) → q x ≡ b → r x ≡ b → ((y : A) → In y xs → r y ≡ q y) → (y : A) → In y (x ∷ xs) → r y ≡ q y
      here b e h g y (inl i) = subst (λ z. r z ≡ q z) i (h ∙ sym e)
      here b e h g y (inr i) = g y i

      by : (b c : Bool) → q x ≡ b → r x ≡ c → (b ≡ true → c ≡ true) → ((y : A) → In y xs → r y ≡ q y) ⊎ (suc (left r xs) ≤ left q xs) →
          ((y : A) → In y (x ∷ xs) → r y ≡ q y) ⊎ (suc (cond c (left r xs) (suc (left r xs))) ≤ cond b (left q xs) (suc (left q xs)))
      by true true e h g (inl s) = inl (here true e h s)
      by true true e h g (inr l) = inr l
      by true false e h g s = no (g refl)
      by false true e h g s = inr (omega (arith, fewer q r xs (λ y i. f y (inr i))))
      by false false e h g (inl s) = inl (here false e h s)
      by false false e h g (inr l) = inr (omega (arith, l))

  none_left : (q : A → Bool) (xs : List A) → left q xs ≤ 0 → (x : A) → In x xs → q x ≡ true
  none_left q [] h x i = absurd i
  none_left q (y ∷ ys) h x i = by (q y) refl h i (λ l. none_left q ys l x)
    where
      by : (b : Bool) → q y ≡ b → cond b (left q ys) (suc (left q ys)) ≤ 0 → In x (y ∷ ys) → (left q ys ≤ 0 → In x ys → q x ≡ true) → q x ≡ true
      by true e l (inl j) next = subst (λ z. q z ≡ true) j e
      by true e l (inr j) next = next l j
      by false e l j next = absurd (omega (arith, l))

module _ {A : Type 0} (p : ℕ → A → Bool) (xs : List A) (grows : (n : ℕ) (x : A) → In x xs → p n x ≡ true → p (suc n) x ≡ true) (goes_on : (n : ℕ) → ((x : A) → In x xs → p (suc n) x ≡ p n x) → (x : A) → In x xs → p (suc (suc n)) x ≡ p (suc n) x) where
  abbrev Still : ℕ → Type 0
  Still n = (x : A) → In x xs → p (suc n) x ≡ p n x

  still_or_few : (n : ℕ) → Still n ⊎ (n + left (p n) xs ≤ length xs)
  still_or_few zero = inr (omega (arith, all_left (p 0) xs))
  still_or_few (suc n) = by (still_or_few n)
    where
      step : n + left (p n) xs ≤ length xs → ((x : A) → In x xs → p (suc n) x ≡ p n x) ⊎ (suc (left (p (suc n)) xs) ≤ left (p n) xs) → Still (suc n) ⊎ (suc n + left (p (suc n)) xs ≤ length xs)
      step l (inl s) = inl (goes_on n s)
      step l (inr f) = inr (omega (arith, l, f))

      by : Still n ⊎ (n + left (p n) xs ≤ length xs) → Still (suc n) ⊎ (suc n + left (p (suc n)) xs ≤ length xs)
      by (inl s) = inl (goes_on n s)
      by (inr l) = step l (same_or_fewer (p n) (p (suc n)) xs (grows n))

  settled_by : (n : ℕ) → length xs ≤ n → Still n ⊎ (n + left (p n) xs ≤ length xs) → Still n
  settled_by n h (inl s) = s
  settled_by n h (inr l) = λ x i. let k = none_left (p n) xs (omega (arith, l, h)) x i in grows n x i k ∙ sym k

  -- nothing changes from then on
  pub settled : (n : ℕ) → length xs ≤ n → Still n
  settled n h = settled_by n h (still_or_few n)
