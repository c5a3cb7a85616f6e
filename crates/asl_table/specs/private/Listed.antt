-- Masks in the lists of the search. Of each the lowest w digits count.
use Rattle.std.specs.Prelude.{◌≡◌, ◌≤◌, ℕ, zero, suc, max, List, [], ◌∷◌, length, get_or, Bool, true, false, ◌||◌, Option, Some, None, is_some, if◌then◌else◌}
use Rattle.asl_mask.specs.Covers.{Digits, allows}
use Rattle.asl_table.specs.declared.live.Live.{Live}

-- one more than the highest place below w with a fixed digit, 0 where there is none
unfoldable pub top_fixed : ℕ → Digits → ℕ
top_fixed zero m = 0
top_fixed (suc w) m = if is_some (get_or m w None) then suc w else top_fixed w m

abbrev pub masks_of : List Live → List Digits
masks_of [] = []
masks_of (l ∷ ls) = l.mask.now ∷ masks_of ls

abbrev pub highest : List Live → ℕ
highest [] = 0
highest (l ∷ ls) = max l.top (highest ls)

abbrev pub is_zero : ℕ → Bool
is_zero zero = true
is_zero (suc n) = false

abbrev pub has_zero : List Live → Bool
has_zero [] = false
has_zero (l ∷ ls) = is_zero l.top || has_zero ls

-- the top is that of its mask below w
abbrev pub IsLive : ℕ → Live → Type 0
IsLive w l = (l.top ≡ top_fixed w l.mask.now) × (w ≤ length l.mask.now)

abbrev pub AreLive : ℕ → List Live → Type 0
AreLive w [] = Unit {0}
AreLive w (l ∷ ls) = IsLive w l × AreLive w ls

-- what is left of a mask that allows this digit at a place
abbrev pub half_of : ℕ → Bool → Live → Option Live
half_of p b l = if allows p b l.mask.now then Some (record l { top = top_fixed p l.mask.now }) else None
