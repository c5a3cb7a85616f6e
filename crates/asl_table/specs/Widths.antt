-- Masks of one width.
use Rattle.std.specs.Prelude.{◌≡◌, ℕ, List, [], ◌∷◌, length}
use Rattle.asl_mask.specs.Covers.{Digits}

abbrev pub AreWide : ℕ → List Digits → Type 0
AreWide w [] = Unit {0}
AreWide w (m ∷ ms) = (length m ≡ w) × AreWide w ms
