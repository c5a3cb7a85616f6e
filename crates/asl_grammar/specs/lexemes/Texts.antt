-- Where the text of a token stands: at its span, and it is a lexeme of the token's kind. And where the spans of files lie.
use Rattle.std.specs.Prelude.{◌≡◌, ℕ, ◌+◌, ◌≤◌, ◌⊎◌, List, [], ◌∷◌, take, drop, length, None}
use Rattle.asl_syn.specs.declared.token.Token.{Token}
use Rattle.asl_syn.specs.declared.token.Span.{Span}
use Rattle.asl_grammar.specs.lexemes.Lexemes.{IsLexeme}
use Rattle.asl_grammar.specs.lexemes.Refusals.{refusal}

-- the bytes of a file at a span
abbrev pub text_at : List ℕ → Span → List ℕ
text_at bytes span = take span.len (drop span.start bytes)

-- the token stands in this file, its text is a lexeme of its kind, and isn't refused
pub record HasText (width_limit file : ℕ) (bytes : List ℕ) (t : Token) : Type 0 where
  pub file_is : t.span.file ≡ file
  pub fits : t.span.start + t.span.len ≤ length bytes
  pub lexeme : IsLexeme (text_at bytes t.span) t.kind
  pub taken : refusal width_limit t.kind (text_at bytes t.span) 0 ≡ None

-- the span lies in one of these files, which are numbered from n on
abbrev pub LiesIn : ℕ → List (List ℕ) → Span → Type 0
LiesIn n [] span = ⊥
LiesIn n (bytes ∷ files) span = ((span.file ≡ n) × (span.start + span.len ≤ length bytes)) ⊎ LiesIn (n + 1) files span
