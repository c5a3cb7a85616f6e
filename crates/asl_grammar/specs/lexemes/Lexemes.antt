-- What a lexeme is, and which one begins at a place: the longest. No lexeme begins where `/*` stands: a comment opens there,
-- even one that is never closed.
--
-- - A name is a letter or `_`, then letters, digits and `_`, and is spelled as no word.
-- - An integer is a digit, then digits and `_`; or `0x`, a hexadecimal digit, then hexadecimal digits and `_`.
-- - Bits, masks and strings are whole literals in quotes. A literal in `'` is a mask where it has an `x` or a group.
-- - Words and marks are their spellings.
use Rattle.std.specs.Prelude.{◌≡◌, ℕ, ◌≤◌, ◌==◌, Bool, true, false, IsTrue, ◌&&◌, ◌⊎◌, List, [], ◌∷◌, Some, take, drop, length}
use Rattle.std.specs.List.{list_all}
use Rattle.std.specs.Char.{is_ascii_digit}
use Rattle.asl_syn.specs.declared.token.Word.{Word}
use Rattle.asl_syn.specs.declared.token.TokenKind.{TokenKind}
use Rattle.asl_syn.specs.declared.token.TokenKind.TheVariants as kinds
use Rattle.asl_quote.specs.declared.QuoteState.{QuoteState}
use Rattle.asl_quote.specs.declared.QuoteState.TheVariants as at
use Rattle.asl_quote.specs.Bytes.{is_mask}
use Rattle.asl_quote.specs.Quotes.{opens_quote, quote_run}
use Rattle.asl_grammar.specs.lexemes.Bytes.{is_name_start, is_name_byte, is_decimal_byte, is_hex_digit, is_hex_byte, value_of}
use Rattle.asl_grammar.specs.lexemes.Words.{word_spelling}
use Rattle.asl_grammar.specs.lexemes.Marks.{mark_spelling}
use Rattle.asl_grammar.specs.lexemes.Gaps.{opens_block}

-- whether the text has the form of a name; a word has it too
abbrev pub is_name : List ℕ → Bool
is_name [] = false
is_name (b ∷ bs) = is_name_start b && list_all is_name_byte bs

abbrev pub is_decimal : List ℕ → Bool
is_decimal [] = false
is_decimal (b ∷ bs) = is_ascii_digit b && list_all is_decimal_byte bs

abbrev pub is_hex : List ℕ → Bool
is_hex [] = false
is_hex (a ∷ []) = false
is_hex (a ∷ b ∷ []) = false
is_hex (a ∷ b ∷ c ∷ rest) = (a == 48) && (b == 120) && is_hex_digit c && list_all is_hex_byte rest

-- the text is a whole literal, of the sort that this state begins
abbrev pub IsQuoted : QuoteState → List ℕ → Type 0
IsQuoted state [] = ⊥
IsQuoted state (b ∷ bs) = (opens_quote (b ∷ bs) ≡ Some state) × (quote_run state bs ≡ Some at.Closed)

-- the text is a lexeme of this kind
abbrev pub IsLexeme : List ℕ → TokenKind → Type 0
IsLexeme text kinds.Name = IsTrue (is_name text) × ((w : Word) → text ≡ word_spelling w → ⊥)
IsLexeme text (kinds.Int n) =
    (IsTrue (is_decimal text) × (n ≡ value_of 10 text)) ⊎ (IsTrue (is_hex text) × (n ≡ value_of 16 (drop 2 text)))
IsLexeme text kinds.Bits = IsQuoted at.Bits text × (is_mask text ≡ false)
IsLexeme text kinds.Mask = IsQuoted at.Bits text × (is_mask text ≡ true)
IsLexeme text kinds.Text = IsQuoted at.Text text
IsLexeme text (kinds.Word w) = text ≡ word_spelling w
IsLexeme text (kinds.Mark m) = text ≡ mark_spelling m

-- a lexeme of this length and kind begins here
pub record LexemeAt (bytes : List ℕ) (n : ℕ) (k : TokenKind) : Type 0 where
  pub fits : n ≤ length bytes
  pub lexeme : IsLexeme (take n bytes) k
  pub apart : opens_block bytes ≡ false

-- the lexeme of this length and kind begins here, and no longer one does
pub record Longest (bytes : List ℕ) (n : ℕ) (k : TokenKind) : Type 0 where
  pub here : LexemeAt bytes n k
  pub longest : (m : ℕ) (j : TokenKind) → LexemeAt bytes m j → m ≤ n
