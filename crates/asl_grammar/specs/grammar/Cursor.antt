-- Tokens with their text, and a place among them.
use Rattle.std.specs.Prelude.{ℕ, ◌+◌, ◌-◌, min, ◌^◌, Bool, true, false, List, [], ◌∷◌, ◌++◌, take, drop}
use Rattle.asl_syn.specs.declared.token.TokenKind.{TokenKind}
use Rattle.asl_syn.specs.declared.token.Token.{Token}
use Rattle.asl_syn.specs.declared.token.Span.{Span}
use Rattle.asl_grammar.specs.declared.kinds.Kind.{Kind}
use Rattle.asl_grammar.specs.grammar.Kinds.{kind_of, same_kind}

-- a token with the bytes that stand at its span
pub record Lexeme : Type 0 where
  pub kind : TokenKind
  pub span : Span
  pub text : List ℕ

-- the bytes of a file at a span
abbrev pub text_at : List ℕ → Span → List ℕ
text_at bytes span = take span.len (drop span.start bytes)

abbrev pub with_text : List ℕ → Token → Lexeme
with_text bytes t = record { kind = t.kind; span = t.span; text = text_at bytes t.span }

-- Where a reader is: the tokens ahead, how many levels may still be opened, and where the last token that was read ends.
pub record Cursor : Type 0 where
  pub toks : List Lexeme
  pub left : ℕ
  pub last : ℕ

abbrev pub Kinds : Type 0
Kinds = List Kind

abbrev pub one_of : Bool → Bool → Bool
one_of true b = true
one_of false b = b

abbrev pub among : Kinds → Kind → Bool
among [] k = false
among (c ∷ cs) k = one_of (same_kind c k) (among cs k)

-- whether the next token has one of these kinds
abbrev pub starts : Kinds → List Lexeme → Bool
starts cs [] = false
starts cs (t ∷ ts) = among cs (kind_of t.kind)

abbrev pub with_toks : Cursor → List Lexeme → Cursor
with_toks st ts = record st { toks = ts }

-- with more tokens behind
abbrev pub plus : Cursor → List Lexeme → Cursor
plus st more = record st { toks = st.toks ++ more }

-- ---- spans

-- the place behind a span, in 32 bits
unfoldable pub end_of : Span → ℕ
end_of span = min (span.start + span.len) (2 ^ 32 - 1)

-- past a token
abbrev pub past : Lexeme → List Lexeme → ℕ → Cursor
past t ts l = record { toks = ts; left = l; last = end_of t.span }

abbrev pub nowhere : Span
nowhere = record { file = 0; start = 0; len = 0 }

-- the span of the next token
abbrev pub ahead : List Lexeme → Span
ahead [] = nowhere
ahead (t ∷ ts) = t.span

-- from a token's first byte to a place
abbrev pub span_to : Span → ℕ → Span
span_to from to = record { file = from.file; start = from.start; len = to - from.start }

-- the token that something begins with, and the place where it ends
pub record Extent : Type 0 where
  pub from : Span
  pub to : ℕ

abbrev pub whole : Extent → Span
whole e = span_to e.from e.to

abbrev pub extent : List Lexeme → ℕ → Extent
extent ts e = record { from = ahead ts; to = e }
