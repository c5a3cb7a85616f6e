-- Whether some masks of a width match every word, and how often the search for a word that none matches splits. Of each mask the lowest w digits count.
use Rattle.std.specs.Prelude.{ℕ, zero, suc, ◌+◌, nat_le, List, [], ◌∷◌, take, get_or, Bool, true, false, not, ◌&&◌, ◌||◌, Option, Some, None, is_none, if◌then◌else◌}
use Rattle.asl_mask.specs.Digits.{digit_matches, mask_matches}
use Rattle.asl_mask.specs.Least.{least}
use Rattle.asl_mask.specs.declared.cover.Cover.{Cover}
use Rattle.asl_mask.specs.declared.cover.Cover.TheVariants as cover

-- the digits of a mask, lowest first
abbrev pub Digits : Type 0
Digits = List (Option Bool)

-- one of the masks matches the word
abbrev pub some_match : ℕ → List Digits → List Bool → Bool
some_match w [] v = false
some_match w (m ∷ ms) v = mask_matches (take w m) v || some_match w ms v

-- the least word that no mask matches
abbrev pub least_free : ℕ → List Digits → Option (List Bool)
least_free w ms = least w (λ v. not (some_match w ms v))

-- every word is one that a mask matches
abbrev pub match_every : ℕ → List Digits → Bool
match_every w ms = is_none (least_free w ms)

-- ---- splits

-- a mask has no fixed digit at a place, or this one
abbrev pub allows : ℕ → Bool → Digits → Bool
allows n b m = digit_matches (get_or m n None) b

-- the masks that allow this digit at a place
abbrev pub allowing : ℕ → Bool → List Digits → List Digits
allowing n b [] = []
allowing n b (m ∷ ms) = if allows n b m then m ∷ allowing n b ms else allowing n b ms

abbrev pub is_free_at : ℕ → Digits → Bool
is_free_at n m = is_none (get_or m n None)

-- no digit is fixed
abbrev pub is_free : ℕ → Digits → Bool
is_free zero m = true
is_free (suc w) m = is_free_at w m && is_free w m

abbrev pub one_is_free : ℕ → List Digits → Bool
one_is_free w [] = false
one_is_free w (m ∷ ms) = is_free w m || one_is_free w ms

abbrev pub all_free_at : ℕ → List Digits → Bool
all_free_at n [] = true
all_free_at n (m ∷ ms) = is_free_at n m && all_free_at n ms

abbrev pub is_empty : List Digits → Bool
is_empty [] = true
is_empty (m ∷ ms) = false

-- How often the search splits: not at all where there is no mask, or one without a fixed digit. Where all have the highest digit free, it goes on below it.
-- Else it splits there, once, and goes on with the masks that allow 0 there, and, where these match every word, with those that allow 1.
unfoldable pub splits : ℕ → List Digits → ℕ
splits zero ms = 0
splits (suc w) ms =
    if is_empty ms || one_is_free (suc w) ms then 0
    else if all_free_at w ms then splits w ms
    else suc (splits w (allowing w false ms) + (if match_every w (allowing w false ms) then splits w (allowing w true ms) else 0))

-- ---- what is found

abbrev pub covered : Option (List Bool) → Cover
covered None = cover.Total
covered (Some v) = cover.Free v

-- within a budget of splits
abbrev pub cover_of : ℕ → ℕ → List Digits → Cover
cover_of w budget ms = if nat_le (splits w ms) budget then covered (least_free w ms) else cover.Budget
