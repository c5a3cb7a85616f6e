-- More digits never spell less.
use Rattle.std.proofs.Common.{◌≡◌, ℕ, zero, suc, ◌+◌, ◌*◌, ◌≤◌, ◌<◌, ◌==◌, Bool, true, false, List, [], ◌∷◌, length, take, get_or, refl, arith, cond, fold}
use Rattle.std.proofs.lemmas.List.{take_more}
use Rattle.std.proofs.lemmas.List.Sums.{fold-append}
use Rattle.asl_grammar.specs.lexemes.Bytes.{digit_of, value_step, value_of}

mul_ge : (base v : ℕ) → 1 ≤ base → v ≤ v * base
mul_ge base v h = grind arith

step_cases : (base v b : ℕ) (c : Bool) → 1 ≤ base → v ≤ cond c v (v * base + digit_of b)
step_cases base v b true h = omega arith
step_cases base v b false h = let m = mul_ge base v h in omega arith

fold_ge : (base : ℕ) → 1 ≤ base → (xs : List ℕ) (v : ℕ) → v ≤ fold (value_step base) v xs
fold_ge base h [] v = omega arith
fold_ge base h (x ∷ xs) v =
    let one : v ≤ value_step base v x = step_cases base v x (x == 95) h in
    let more = fold_ge base h xs (value_step base v x) in omega arith

fold_take : (base : ℕ) → 1 ≤ base → (xs : List ℕ) (i v : ℕ) → fold (value_step base) v (take i xs) ≤ fold (value_step base) v xs
fold_take base h xs zero v = fold_ge base h xs v
fold_take base h [] (suc i) v = omega arith
fold_take base h (x ∷ xs) (suc i) v = fold_take base h xs i (value_step base v x)

pub value_front : (base : ℕ) → 1 ≤ base → (xs : List ℕ) (i : ℕ) → value_of base (take i xs) ≤ value_of base xs
value_front base h xs i = fold_take base h xs i 0

pub value_next : (base : ℕ) (xs : List ℕ) (i : ℕ) → i < length xs →
    value_of base (take (i + 1) xs) ≡ value_step base (value_of base (take i xs)) (get_or xs i 0)
value_next base xs i h = rw (take_more xs i 0 h) (rw fold-append refl)
