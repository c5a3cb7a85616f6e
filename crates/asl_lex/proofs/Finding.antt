-- What `found_at` finds is the longest lexeme.
use Rattle.std.proofs.Common.{◌≡◌, ℕ, ◌+◌, ◌≤◌, Bool, true, false, List, [], ◌∷◌, length, slice_index_or, Option, Some, None, refl, sym, subst, take, drop, cond, arith}
use Rattle.std.specs.List.{prefix_len}
use Rattle.asl_quote.specs.declared.QuoteState.{QuoteState}
use Rattle.asl_quote.specs.declared.QuoteState.TheVariants as at
use Rattle.asl_quote.specs.Bytes.{is_mask}
use Rattle.asl_quote.specs.Quotes.{quote_len, quote_end}
use Rattle.asl_grammar.specs.private.Scanning.{quoted_of, kind_of_quote, is_closed}
use Rattle.asl_quote.proofs.Quoting.{quote_run-end}
use Rattle.asl_syn.specs.declared.token.TokenKind.{TokenKind}
use Rattle.asl_syn.specs.declared.token.TokenKind.TheVariants as kinds
use Rattle.asl_grammar.specs.lexemes.Gaps.{opens_block}
use Rattle.asl_grammar.specs.lexemes.Lexemes.{Longest}
use Rattle.asl_grammar.specs.lexemes.Bytes.{is_name_start, is_name_byte}
use Rattle.asl_grammar.specs.private.Scanning.{kind_of_name, lexeme_of}
use Rattle.asl_grammar.proofs.lexemes.LongestLexeme.{FoundAt, lexeme_is}
use Rattle.asl_lex.specs.declared.lexeme.Found.{Found}
use Rattle.asl_lex.specs.declared.lexeme.Found.TheVariants as founds
use Rattle.asl_lex.specs.private.Found.{Finds, FindsAt, IsLarge, IsSmall}

large : (bytes : List ℕ) (n m : ℕ) (k : TokenKind) → m ≡ n → IsLarge k → Longest bytes m k → FindsAt bytes (founds.TooLarge n)
large bytes n m (kinds.Int v) e big h = (v, subst (λ z. Longest bytes z (kinds.Int v)) e h, big)
large bytes n m _ e big h = absurd big

from_option : (bytes : List ℕ) (found : Found) (o : Option (ℕ × TokenKind)) → Finds found o → FoundAt bytes o → FindsAt bytes found
from_option bytes (founds.Lexeme n k) o f a = (subst (FoundAt bytes) f.0 a, f.1)
from_option bytes (founds.TooLarge n) (Some r) f a = large bytes n r.0 r.1 f.0 f.1 a
from_option bytes (founds.TooLarge n) None f a = absurd f
from_option bytes founds.Nothing o f a = subst (FoundAt bytes) f a

pub finds_at : (bytes : List ℕ) (found : Found) → opens_block bytes ≡ false → Finds found (lexeme_of bytes) → FindsAt bytes found
finds_at bytes found apart f = from_option bytes found (lexeme_of bytes) f (lexeme_is bytes apart)

pub finds_name : (bytes : List ℕ) (n : ℕ) (k : TokenKind) → 1 ≤ length bytes → true ≡ is_name_start (slice_index_or bytes 0 0) → n ≡ prefix_len is_name_byte bytes →
    k ≡ kind_of_name (take n bytes) → IsSmall k → opens_block bytes ≡ false → FindsAt bytes (founds.Lexeme n k)
unfolding lexeme_of
finds_name [] n k some s en ek small apart = absurd (omega arith)
finds_name (b ∷ bs) n k some s en ek small apart =
    let t : is_name_start b ≡ true = sym s in
    let f : lexeme_of (b ∷ bs) ≡ Some (n, k) = rw (ek, en, t) refl in
    finds_at (b ∷ bs) (founds.Lexeme n k) apart (f, small)

small_cond : (m : Bool) → IsSmall (cond m kinds.Mask kinds.Bits)
small_cond true = tt
small_cond false = tt

pub quote_small : (state : QuoteState) (text : List ℕ) → IsSmall (kind_of_quote state text)
quote_small at.Text text = tt
quote_small at.Bits text = small_cond (is_mask text)
quote_small at.Group text = small_cond (is_mask text)
quote_small at.EmptyGroup text = small_cond (is_mask text)
quote_small at.Escape text = small_cond (is_mask text)
quote_small at.Closed text = small_cond (is_mask text)

pub quoted_closed : (state : QuoteState) (bytes : List ℕ) → quote_end state (drop 1 bytes) ≡ at.Closed →
    quoted_of state bytes ≡ Some (1 + quote_len state (drop 1 bytes), kind_of_quote state (take (1 + quote_len state (drop 1 bytes)) bytes))
quoted_closed state bytes e = rw (quote_run-end state (drop 1 bytes), e) refl

open_case : {A : Type 0} (x : Option A) (q : QuoteState) → (q ≡ at.Closed → ⊥) → cond (is_closed (Some q)) x None ≡ None
open_case x at.Closed h = absurd (h refl)
open_case x at.Bits h = refl
open_case x at.Group h = refl
open_case x at.EmptyGroup h = refl
open_case x at.Text h = refl
open_case x at.Escape h = refl

pub quoted_open : (state : QuoteState) (bytes : List ℕ) → (quote_end state (drop 1 bytes) ≡ at.Closed → ⊥) → quoted_of state bytes ≡ None
quoted_open state bytes h = rw (quote_run-end state (drop 1 bytes)) (open_case _ (quote_end state (drop 1 bytes)) h)
