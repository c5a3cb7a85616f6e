-- How the longest lexeme is found: by its first byte. These definitions serve private functions and proofs alone; that what
-- they find is the longest lexeme is proved.
use Rattle.std.specs.Prelude.{ℕ, ◌+◌, ◌==◌, ◌&&◌, Bool, true, false, List, [], ◌∷◌, Option, Some, None, take, drop, length, if◌then◌else◌}
use Rattle.std.specs.List.{prefix_len}
use Rattle.std.specs.Char.{is_ascii_digit}
use Rattle.std.specs.Option.{option_map_or}
use Rattle.asl_syn.specs.declared.token.TokenKind.{TokenKind}
use Rattle.asl_syn.specs.declared.token.TokenKind.TheVariants as kinds
use Rattle.asl_grammar.specs.lexemes.Bytes.{is_name_start, is_name_byte, is_decimal_byte, is_hex_digit, is_hex_byte, value_of}
use Rattle.asl_quote.specs.declared.QuoteState.{QuoteState}
use Rattle.asl_quote.specs.declared.QuoteState.TheVariants as at
use Rattle.asl_quote.specs.Bytes.{is_mask}
use Rattle.asl_quote.specs.Quotes.{opens_quote, quote_run, quote_len}
use Rattle.asl_grammar.specs.lexemes.Words.{word_of}
use Rattle.asl_grammar.specs.lexemes.Marks.{mark_of}

-- the kind of a text of name bytes
abbrev pub kind_of_name : List ℕ → TokenKind
kind_of_name text = option_map_or (λ w. kinds.Word w) (word_of text) kinds.Name

abbrev pub opens_hex : List ℕ → Bool
opens_hex [] = false
opens_hex (a ∷ []) = false
opens_hex (a ∷ b ∷ []) = false
opens_hex (a ∷ b ∷ c ∷ rest) = (a == 48) && (b == 120) && is_hex_digit c

abbrev pub hex_len : List ℕ → ℕ
hex_len bytes = 2 + prefix_len is_hex_byte (drop 2 bytes)

-- the length of the mark that the first n bytes spell, and the mark
abbrev pub mark_at : ℕ → List ℕ → Option (ℕ × TokenKind)
mark_at n bytes = option_map_or (λ m. Some (length (take n bytes), kinds.Mark m)) (mark_of (take n bytes)) None

abbrev pub or_else : {A : Type 0} → Option A → Option A → Option A
or_else (Some x) o = Some x
or_else None o = o

-- the length and the kind of the number that begins here
abbrev pub number_of : List ℕ → Option (ℕ × TokenKind)
number_of bytes =
    if opens_hex bytes
    then Some (hex_len bytes, kinds.Int (value_of 16 (drop 2 (take (hex_len bytes) bytes))))
    else Some (prefix_len is_decimal_byte bytes, kinds.Int (value_of 10 (take (prefix_len is_decimal_byte bytes) bytes)))

abbrev pub longest_mark : List ℕ → Option (ℕ × TokenKind)
longest_mark bytes = or_else (mark_at 3 bytes) (or_else (mark_at 2 bytes) (mark_at 1 bytes))

abbrev pub is_closed : Option QuoteState → Bool
is_closed (Some at.Closed) = true
is_closed _ = false

abbrev pub kind_of_quote : QuoteState → List ℕ → TokenKind
kind_of_quote at.Text text = kinds.Text
kind_of_quote _ text = if is_mask text then kinds.Mask else kinds.Bits

-- the length and the kind of the literal that begins here
abbrev pub quoted_of : QuoteState → List ℕ → Option (ℕ × TokenKind)
quoted_of state bytes =
    let n = 1 + quote_len state (drop 1 bytes) in
    if is_closed (quote_run state (take (quote_len state (drop 1 bytes)) (drop 1 bytes)))
    then Some (n, kind_of_quote state (take n bytes))
    else None

-- the length and the kind of the lexeme that begins here
unfoldable pub lexeme_of : List ℕ → Option (ℕ × TokenKind)
lexeme_of [] = None
lexeme_of (b ∷ bs) =
    if is_name_start b then Some (prefix_len is_name_byte (b ∷ bs), kind_of_name (take (prefix_len is_name_byte (b ∷ bs)) (b ∷ bs)))
    else (if is_ascii_digit b then number_of (b ∷ bs)
    else option_map_or (λ state. quoted_of state (b ∷ bs)) (opens_quote (b ∷ bs)) (longest_mark (b ∷ bs)))
