-- How a text is read: a gap, then the longest lexeme that begins behind it, and so on. The text has these tokens where that
-- leads to its end. Else it has one fault, at the first place where a lexeme is refused, or none begins and the end isn't
-- reached:
--
-- - L02 where a comment opens that is never closed: from its `/*` to the end of the text;
-- - L03 at a quote that begins no literal: up to and without the first byte that can't go on, or to the end;
-- - L01 at any other byte: the byte;
-- - at a lexeme that is refused, that lexeme.
use Rattle.std.specs.Prelude.{◌≡◌, ℕ, ◌+◌, ◌-◌, ◌<◌, true, false, List, [], ◌∷◌, Option, Some, None, Result, Ok, Err, take, drop, length}
use Rattle.asl_syn.specs.declared.code.Fault.{Fault}
use Rattle.asl_syn.specs.declared.code.StaticCode.{StaticCode}
use Rattle.asl_syn.specs.declared.code.StaticCode.TheVariants.{L01, L02, L03}
use Rattle.asl_syn.specs.declared.token.Token.{Token}
use Rattle.asl_syn.specs.declared.token.TokenKind.{TokenKind}
use Rattle.asl_quote.specs.declared.QuoteState.{QuoteState}
use Rattle.asl_quote.specs.Quotes.{opens_quote, quote_len}
use Rattle.asl_grammar.specs.lexemes.Gaps.{opens_block, Gap}
use Rattle.asl_grammar.specs.lexemes.Lexemes.{LexemeAt, Longest}
use Rattle.asl_grammar.specs.lexemes.Refusals.{refusal}

-- how far the reading of a file has come: the width limit, the number of the file, where the bytes that are left begin, these
-- bytes, and how many lexemes stand before them
pub record Scan : Type 0 where
  pub width_limit : ℕ
  pub file : ℕ
  pub place : ℕ
  pub rest : List ℕ
  pub given : ℕ

-- a file before its first byte
abbrev pub scan_of : ℕ → ℕ → List ℕ → Scan
scan_of width_limit file bytes = record { width_limit = width_limit; file = file; place = 0; rest = bytes; given = 0 }

-- behind a gap that leaves these bytes
abbrev pub behind_gap : Scan → List ℕ → Scan
behind_gap scan bytes = record scan { place = scan.place + (length scan.rest - length bytes); rest = bytes }

-- behind a lexeme of this length
abbrev pub behind_lexeme : Scan → ℕ → Scan
behind_lexeme scan n = record scan { place = scan.place + n; rest = drop n scan.rest; given = scan.given + 1 }

-- the token is the longest lexeme here, and isn't refused
pub record IsTokenAt (scan : Scan) (t : Token) : Type 0 where
  pub longest : Longest scan.rest t.span.len t.kind
  pub taken : refusal scan.width_limit t.kind (take t.span.len scan.rest) scan.given ≡ None
  pub file_is : t.span.file ≡ scan.file
  pub start_is : t.span.start ≡ scan.place

-- a gap and this token lead from old to new
pub record Yields (old : Scan) (t : Token) (new : Scan) : Type 0 where
  pub bytes : List ℕ
  pub gap : Gap old.rest bytes
  pub token : IsTokenAt (behind_gap old bytes) t
  pub next : new ≡ behind_lexeme (behind_gap old bytes) t.span.len

-- nothing but a gap is left
abbrev pub Ends : Scan → Type 0
Ends scan = Gap scan.rest []

-- no lexeme begins here
abbrev pub NoLexeme : List ℕ → Type 0
NoLexeme bytes = (n : ℕ) (k : TokenKind) → LexemeAt bytes n k → ⊥

-- a fault of this code and length stands here
pub data FaultAt (scan : Scan) : StaticCode → ℕ → Type 0 where
  -- a comment that is never closed
  unclosed : opens_block scan.rest ≡ true → FaultAt scan L02 (length scan.rest)
  -- a quote that begins no literal
  malformed : {state : QuoteState} →
      opens_block scan.rest ≡ false → opens_quote scan.rest ≡ Some state → NoLexeme scan.rest →
      FaultAt scan L03 (1 + quote_len state (drop 1 scan.rest))
  -- another byte that begins no lexeme
  stray :
      0 < length scan.rest → opens_block scan.rest ≡ false → opens_quote scan.rest ≡ None → NoLexeme scan.rest →
      FaultAt scan L01 1
  -- a lexeme that is refused
  refused : {code : StaticCode} {len : ℕ} (k : TokenKind) →
      Longest scan.rest len k → refusal scan.width_limit k (take len scan.rest) scan.given ≡ Some code →
      FaultAt scan code len

-- such a fault, as it is reported
pub record IsFaultAt (scan : Scan) (f : Fault) : Type 0 where
  pub fault : FaultAt scan f.code f.span.len
  pub inner_is : f.inner ≡ None
  pub file_is : f.span.file ≡ scan.file
  pub start_is : f.span.start ≡ scan.place

-- a gap leads to this fault
pub record Fails (old : Scan) (f : Fault) : Type 0 where
  pub bytes : List ℕ
  pub gap : Gap old.rest bytes
  pub fault : IsFaultAt (behind_gap old bytes) f

-- these tokens lead from old to new
abbrev pub Front : Scan → List Token → Scan → Type 0
Front old [] new = old ≡ new
Front old (t ∷ ts) new = (next : Scan) × Yields old t next × Front next ts new

-- these tokens lead to the end
abbrev pub Completes : Scan → List Token → Type 0
Completes scan ts = (last : Scan) × Front scan ts last × Ends last

-- some tokens lead to this fault
abbrev pub Breaks : Scan → Fault → Type 0
Breaks scan f = (ts : List Token) × (last : Scan) × Front scan ts last × Fails last f

-- the tokens of a file, by the width limit, the number of the file and its bytes
abbrev pub Tokens : ℕ → ℕ → List ℕ → List Token → Type 0
Tokens width_limit file bytes ts = Completes (scan_of width_limit file bytes) ts

-- the lexical fault of a file
abbrev pub LexFault : ℕ → ℕ → List ℕ → Fault → Type 0
LexFault width_limit file bytes f = Breaks (scan_of width_limit file bytes) f

-- what is read where no gap is left: a token, the end or the fault
abbrev pub ReadGives : Scan → Result (Option Token) Fault → Type 0
ReadGives scan (Ok (Some t)) = IsTokenAt scan t
ReadGives scan (Ok None) = scan.rest ≡ []
ReadGives scan (Err f) = IsFaultAt scan f

-- one step of the reading: a token, or the end or the fault, at which it stays
abbrev pub NextGives : Scan → Result (Option Token) Fault → Scan → Type 0
NextGives old (Ok (Some t)) new = Yields old t new
NextGives old (Ok None) new = Ends old × (new ≡ old)
NextGives old (Err f) new = Fails old f × (new ≡ old)
