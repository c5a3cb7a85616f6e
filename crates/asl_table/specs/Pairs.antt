-- Pairs of the masks of a table that some word matches both of.
use Rattle.std.specs.Prelude.{◌≡◌, ◌≤◌, ◌<◌, ℕ, suc, List, [], ◌∷◌, ◌++◌, length, take, drop, get_or, Bool, false, map, Option, Some, None, is_some, unwrap_or}
use Rattle.asl_bits.specs.Lists.{bits_value}
use Rattle.asl_mask.specs.Covers.{Digits}
use Rattle.asl_rules.specs.report.MaskTables.{Masks, pair_line, pairs_with}
use Rattle.asl_table.specs.declared.lowest.Low.{Low}

-- a mask with the number of its alternative
abbrev pub mask_at : Masks → ℕ → ℕ × Digits
mask_at ms i = get_or ms i (0, [])

-- The next mask of another alternative, from number `from` on, counted from 0, that some word matches together with this one, with the least such
-- word; n is the number that is shown of this one.
abbrev pub IsNext : ℕ → ℕ → ℕ × Digits → Masks → ℕ → Option (ℕ × List Bool) → Type 0
IsNext w n a ms from None = pairs_with w n (suc from) a (drop from ms) ≡ []
IsNext w n a ms from (Some (k, v)) =
    (from ≤ k) × (k < length ms)
    × (pairs_with w n (suc from) a (drop from ms) ≡ pair_line n (suc k) (Some v) ++ pairs_with w n (suc (suc k)) a (drop (suc k) ms))

-- ---- the lowest digits of masks, so many as a word holds

-- for each place whether it is fixed
abbrev pub fixed_of : Digits → List Bool
fixed_of m = map is_some m

-- the digit at each place that is fixed, and 0 at each that is free
abbrev pub digits_of : Digits → List Bool
digits_of m = map (λ d. unwrap_or d false) m

abbrev pub low_number : List Bool → ℕ
low_number bs = bits_value (take 128 bs)

abbrev pub IsLow : ℕ → Digits → Low → Type 0
IsLow n m l = (l.alternative ≡ n) × (l.fixed ≡ low_number (fixed_of m)) × (l.digits ≡ low_number (digits_of m))

abbrev pub AreLows : Masks → List Low → Type 0
AreLows [] [] = Unit {0}
AreLows [] (l ∷ ls) = ⊥
AreLows ((n, m) ∷ ms) [] = ⊥
AreLows ((n, m) ∷ ms) (l ∷ ls) = IsLow n m l × AreLows ms ls
