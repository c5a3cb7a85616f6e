-- Bytes that are taken one after another: what was told of them, and whether they are open.
use Rattle.std.proofs.Common.{◌≡◌, ℕ, suc, ◌-◌, ◌<◌, ◌==◌, Bool, not, List, [], ◌∷◌, ◌++◌, length, get_or, Option, Some, None, refl, ap, ◌∙◌, arith, append_assoc}
use Rattle.asl_rules.specs.runs.Told.{appended, open_after}

-- the last byte decides
pub open_end : (bs : List ℕ) (before : Bool) → 0 < length bs → open_after before bs ≡ not (get_or bs (length bs - 1) 0 == 10)
open_end [] before h = absurd (omega (arith, h))
open_end (b ∷ []) before h = refl
open_end (b ∷ c ∷ bs) before h = open_end (c ∷ bs) (not (b == 10)) (omega arith) ∙ ap (λ x. not (x == 10)) (further b (length bs) (c ∷ bs))
  where
    further : (b n : ℕ) (xs : List ℕ) → get_or xs (suc n - 1) 0 ≡ get_or (b ∷ xs) (suc (suc n) - 1) 0
    further b n xs =
        let p : suc n - 1 ≡ n = omega arith in
        let q : suc n ≡ suc (suc n) - 1 = omega arith in
        ap (λ k. get_or xs k 0) p ∙ ap (λ k. get_or (b ∷ xs) k 0) q

pub open_then : (before : Bool) (xs ys : List ℕ) → open_after (open_after before xs) ys ≡ open_after before (xs ++ ys)
open_then before [] ys = refl
open_then before (x ∷ xs) ys = open_then (not (x == 10)) xs ys

pub appended_then : (told : Option (List ℕ)) (xs ys : List ℕ) → appended (appended told xs) ys ≡ appended told (xs ++ ys)
appended_then None xs ys = refl
appended_then (Some t) xs ys = ap Some (append_assoc t xs ys)
