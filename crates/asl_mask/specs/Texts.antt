-- The texts of masks: what stands between the quotes of a mask or a bitvector literal, highest digit first.
use Rattle.std.specs.Prelude.{◌≡◌, ℕ, ◌<◌, ◌≤◌, List, length, reverse, Bool, true, false, Option, Some, Result, Ok, Err}
use Rattle.asl_quote.specs.declared.QuoteState.TheVariants as at
use Rattle.asl_quote.specs.Quotes.{content_run, content_len, content_digits}
use Rattle.asl_bits.specs.declared.TheConstants.{WIDTH_LIMIT}
use Rattle.asl_mask.specs.declared.MaskFault.{MaskFault}
use Rattle.asl_mask.specs.declared.MaskFault.TheVariants.{BadCharacter, TooWide}

-- the text can stand between the quotes: all its bytes are allowed, and it ends outside of groups
abbrev pub IsContent : List ℕ → Type 0
IsContent text = content_run at.Bits text ≡ Some at.Bits

-- the digits that a text writes, lowest first
abbrev pub mask_of : List ℕ → List (Option Bool)
mask_of text = reverse (content_digits at.Bits text)

-- the answer of reading a text
pub record IsRead (result : Result (List (Option Bool)) MaskFault) (text : List ℕ) : Type 0 where
  pub bad : (IsContent text → ⊥) → result ≡ Err (BadCharacter (content_len at.Bits text))
  pub wide : IsContent text → WIDTH_LIMIT < length (mask_of text) → result ≡ Err TooWide
  pub whole : IsContent text → length (mask_of text) ≤ WIDTH_LIMIT → result ≡ Ok (mask_of text)

-- the mask has the digits ms, or, where the flag is set, these are more than the width limit
abbrev pub Holds : List (Option Bool) → List (Option Bool) → Bool → Type 0
Holds ms mask false = (mask ≡ ms) × (length ms ≤ WIDTH_LIMIT)
Holds ms mask true = WIDTH_LIMIT < length ms
