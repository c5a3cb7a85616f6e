-- Literals in quotes, byte by byte. The bytes are 32 space, 34 `"`, 39 `'`, 40 `(`, 41 `)`, 48 `0`, 49 `1`, 92 `\`, 110 `n`,
-- 116 `t` and 120 `x`.
use Rattle.std.specs.Prelude.{◌≡◌, ℕ, ◌+◌, ◌==◌, Bool, true, false, ◌&&◌, ◌||◌, not, List, [], ◌∷◌, Option, Some, None, if◌then◌else◌, nat_le, is_some, option_and_then}
use Rattle.std.specs.Option.{option_map_or}
use Rattle.std.specs.List.{cons_option}
use Rattle.asl_quote.specs.Bytes.{is_bit}
use Rattle.asl_quote.specs.declared.QuoteState.{QuoteState}
use Rattle.asl_quote.specs.declared.QuoteState.TheVariants as at

-- the state after the byte that opens a literal
abbrev pub quote_opened : ℕ → Option QuoteState
quote_opened b = if b == 39 then Some at.Bits else (if b == 34 then Some at.Text else None)

abbrev pub opens_quote : List ℕ → Option QuoteState
opens_quote [] = None
opens_quote (b ∷ bs) = quote_opened b

-- whether the byte is the quote that closes the literal
abbrev pub closes : QuoteState → ℕ → Bool
closes at.Bits b = b == 39
closes at.EmptyGroup b = false
closes at.Group b = false
closes at.Text b = b == 34
closes at.Escape b = false
closes at.Closed b = false

-- the state after one more byte between the quotes, where the literal can have it there
abbrev pub content_step : QuoteState → ℕ → Option QuoteState
content_step at.Bits b =
    if is_bit b || (b == 120) || (b == 32) then Some at.Bits else (if b == 40 then Some at.EmptyGroup else None)
content_step at.EmptyGroup b =
    if is_bit b then Some at.Group else (if b == 32 then Some at.EmptyGroup else None)
content_step at.Group b =
    if is_bit b || (b == 32) then Some at.Group else (if b == 41 then Some at.Bits else None)
content_step at.Text b =
    if b == 92 then Some at.Escape
    else (if nat_le 32 b && nat_le b 126 && not (b == 34) then Some at.Text else None)
content_step at.Escape b =
    if (b == 110) || (b == 116) || (b == 92) || (b == 34) then Some at.Text else None
content_step at.Closed b = None

-- the state after one more byte, which may be the closing quote
abbrev pub quote_step : QuoteState → ℕ → Option QuoteState
quote_step state b = if closes state b then Some at.Closed else content_step state b

-- the digit that a byte writes: a bit where it is fixed, none for `x` and in a group
abbrev pub quote_digit : QuoteState → ℕ → Option (Option Bool)
quote_digit at.Bits b =
    if b == 48 then Some (Some false)
    else (if b == 49 then Some (Some true) else (if b == 120 then Some None else None))
quote_digit at.EmptyGroup b = if is_bit b then Some None else None
quote_digit at.Group b = if is_bit b then Some None else None
quote_digit at.Text b = None
quote_digit at.Escape b = None
quote_digit at.Closed b = None

-- the state after bytes that all belong to the literal
abbrev pub quote_run : QuoteState → List ℕ → Option QuoteState
quote_run state [] = Some state
quote_run state (b ∷ bs) = option_and_then (λ next. quote_run next bs) (quote_step state b)

-- how many of the bytes belong to the literal
abbrev pub quote_len : QuoteState → List ℕ → ℕ
quote_len state [] = 0
quote_len state (b ∷ bs) = option_map_or (λ next. 1 + quote_len next bs) (quote_step state b) 0

-- the state after the last of them
abbrev pub quote_end : QuoteState → List ℕ → QuoteState
quote_end state [] = state
quote_end state (b ∷ bs) = option_map_or (λ next. quote_end next bs) (quote_step state b) state

-- the state after bytes between the quotes that all belong to the literal
abbrev pub content_run : QuoteState → List ℕ → Option QuoteState
content_run state [] = Some state
content_run state (b ∷ bs) = option_and_then (λ next. content_run next bs) (content_step state b)

-- how many of the bytes between the quotes belong to the literal
abbrev pub content_len : QuoteState → List ℕ → ℕ
content_len state [] = 0
content_len state (b ∷ bs) = option_map_or (λ next. 1 + content_len next bs) (content_step state b) 0

-- the digits that bytes between the quotes write, in the order of the text
abbrev pub content_digits : QuoteState → List ℕ → List (Option Bool)
content_digits state [] = []
content_digits state (b ∷ bs) =
    option_map_or (λ next. cons_option (quote_digit state b) (content_digits next bs)) (content_step state b) []

-- the state at the closing quote q of a whole literal, whose content is bs
pub record ClosedAt (state : QuoteState) (bs : List ℕ) (q : ℕ) : Type 0 where
  pub end : QuoteState
  pub content : content_run state bs ≡ Some end
  pub closing : closes end q ≡ true

-- a digit that is no `x`
abbrev pub is_fixed : Option Bool → Bool
is_fixed digit = is_some digit
