-- What `found_at` answers.
use Rattle.std.specs.Prelude.{◌≡◌, ℕ, List, ◌<◌, ◌≤◌, ◌^◌, Option, Some, None, IsSomeAnd}
use Rattle.asl_syn.specs.declared.token.TokenKind.{TokenKind}
use Rattle.asl_syn.specs.declared.token.TokenKind.TheVariants as kinds
use Rattle.asl_grammar.specs.lexemes.Lexemes.{Longest}
use Rattle.asl_grammar.specs.lexemes.Tokens.{NoLexeme}
use Rattle.asl_lex.specs.declared.lexeme.Found.{Found}
use Rattle.asl_lex.specs.declared.lexeme.Found.TheVariants as founds

-- an integer literal is below 2^127
abbrev pub IsSmall : TokenKind → Type 0
IsSmall (kinds.Int n) = n < 2 ^ 127
IsSmall kinds.Name = Unit {0}
IsSmall kinds.Bits = Unit {0}
IsSmall kinds.Mask = Unit {0}
IsSmall kinds.Text = Unit {0}
IsSmall (kinds.Word w) = Unit {0}
IsSmall (kinds.Mark m) = Unit {0}

-- the kind is an integer literal of 2^127 or more
abbrev pub IsLarge : TokenKind → Type 0
IsLarge (kinds.Int n) = 2 ^ 127 ≤ n
IsLarge kinds.Name = ⊥
IsLarge kinds.Bits = ⊥
IsLarge kinds.Mask = ⊥
IsLarge kinds.Text = ⊥
IsLarge (kinds.Word w) = ⊥
IsLarge (kinds.Mark m) = ⊥

-- the answer has the length and the kind, except for the value of a number that is too large
abbrev pub Finds : Found → Option (ℕ × TokenKind) → Type 0
Finds (founds.Lexeme n k) o = (o ≡ Some (n, k)) × IsSmall k
Finds (founds.TooLarge n) o = IsSomeAnd o (λ r. (r.0 ≡ n) × IsLarge r.1)
Finds founds.Nothing o = o ≡ None

-- the answer is the longest lexeme that the bytes begin with
abbrev pub FindsAt : List ℕ → Found → Type 0
FindsAt bytes (founds.Lexeme n k) = Longest bytes n k × IsSmall k
FindsAt bytes (founds.TooLarge n) = (v : ℕ) × Longest bytes n (kinds.Int v) × (2 ^ 127 ≤ v)
FindsAt bytes founds.Nothing = NoLexeme bytes
