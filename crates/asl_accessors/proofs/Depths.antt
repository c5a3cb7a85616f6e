-- A list in the other order is as deep.
use Rattle.std.proofs.Common.{◌≡◌, ℕ, List, [], ◌∷◌, reverse, refl, arith}
use denote.Param.Weighed.{most, most-append}
use mathlib.Core.List.{reverse-cons}

pub most_reverse : {X : Type 0} (μ : X → ℕ) (xs : List X) → most μ (reverse xs) ≡ most μ xs
most_reverse μ [] = refl
most_reverse μ (x ∷ xs) =
    let h : most μ (reverse xs) ≡ most μ xs = most_reverse μ xs in
    rw (reverse-cons x xs, most-append) (omega (arith, h))
