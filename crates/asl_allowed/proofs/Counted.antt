-- activations, counted from either end
use Rattle.std.proofs.Common.{◌≡◌, ◌≢◌, ℕ, suc, ◌+◌, ◌<◌, ◌≤◌, ◌==◌, Bool, true, false, cond, List, [], ◌∷◌, ◌++◌, length, get_or, take, drop, map, refl, sym, ap, ◌∙◌, arith, append_assoc, append-nil}
use Rattle.std.specs.Prelude.{reverse}
use Rattle.std.proofs.lemmas.List.{at_drop_all, at_drop_more, map-append, reverse-append}
use Rattle.asl_rules.specs.runs.Forms.{activations}

activations_behind : (id : ℕ) (xs ys : List ℕ) → activations id (xs ++ ys) ≡ activations id xs + activations id ys
activations_behind id [] ys = omega arith
activations_behind id (x ∷ xs) ys = counted (x == id) (activations_behind id xs ys)
  where
    counted : (b : Bool) → activations id (xs ++ ys) ≡ activations id xs + activations id ys →
        cond b (activations id (xs ++ ys) + 1) (activations id (xs ++ ys)) ≡ cond b (activations id xs + 1) (activations id xs) + activations id ys
    counted true e = omega (arith, e)
    counted false e = e

one_more : (id x : ℕ) (xs : List ℕ) → activations id xs + activations id (x ∷ []) ≡ activations id (x ∷ xs)
one_more id x xs = counted (x == id)
  where
    counted : (b : Bool) → activations id xs + cond b (0 + 1) 0 ≡ cond b (activations id xs + 1) (activations id xs)
    counted true = omega arith
    counted false = omega arith

-- in either order
pub activations_turned : (id : ℕ) (xs : List ℕ) → activations id (reverse xs) ≡ activations id xs
activations_turned id [] = refl
activations_turned id (x ∷ xs) =
    ap (activations id) (reverse-append (x ∷ []) xs) ∙ activations_behind id (reverse xs) (x ∷ []) ∙ ap (λ n. n + activations id (x ∷ [])) (activations_turned id xs) ∙ one_more id x xs

-- one by one
pub activations_one : (id : ℕ) (xs : List ℕ) (k : ℕ) → k < length xs → get_or xs k 0 ≡ id → activations id (drop k xs) ≡ activations id (drop (k + 1) xs) + 1
activations_one id xs k h e = at_drop_more (activations id) xs k 0 h ∙ ap (λ b. cond b (activations id (drop (k + 1) xs) + 1) (activations id (drop (k + 1) xs))) (same (get_or xs k 0) id e)
  where
    same : (n m : ℕ) → n ≡ m → (n == m) ≡ true
    same n m e = grind arith

pub activations_other : (id : ℕ) (xs : List ℕ) (k : ℕ) → k < length xs → get_or xs k 0 ≢ id → activations id (drop k xs) ≡ activations id (drop (k + 1) xs)
activations_other id xs k h e = at_drop_more (activations id) xs k 0 h ∙ ap (λ b. cond b (activations id (drop (k + 1) xs) + 1) (activations id (drop (k + 1) xs))) (apart (get_or xs k 0) id e)
  where
    apart : (n m : ℕ) → n ≢ m → (n == m) ≡ false
    apart n m e = grind arith

pub activations_ended : (id : ℕ) (xs : List ℕ) (k : ℕ) → length xs ≤ k → activations id (drop k xs) ≡ 0
activations_ended id xs k h = at_drop_all (activations id) xs k h
