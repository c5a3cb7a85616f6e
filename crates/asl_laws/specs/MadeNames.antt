-- The names that statements are written out with are no names of a text, and those of two statements differ.
use Rattle.std.specs.Prelude.{◌≡◌, ℕ, ◌<◌, ◌^◌, ◌⊎◌, List}
use Rattle.std.specs.List.{AllByRecursion}
use Rattle.asl_syn.specs.declared.token.Span.{Span}
use Rattle.asl_syn.specs.declared.token.Token.{Token}
use Rattle.asl_grammar.specs.Reading.{Text}
use Rattle.asl_grammar.specs.lexemes.Texts.{text_at}
use Rattle.asl_rules.specs.declarations.WrittenOut.{made_value, made_place}

-- the name of a value, or that of the place into which is stored, of some statement
abbrev pub IsMade : List ℕ → Type 0
IsMade name = (at : Span) × (((n : ℕ) × (name ≡ made_value at n)) ⊎ (name ≡ made_place at))

-- no token is spelled so
abbrev pub NoneMade : Text → List Token → Type 0
NoneMade text ts = AllByRecursion (λ t. IsMade (text_at text t.span) → ⊥) ts

-- the names of statements, at these places, are those of one value of statements that begin at one byte, or are different; and so are those of places
pub record MadeApart (at bt : Span) : Type 0 where
  pub values : (m n : ℕ) → m < 2 ^ 64 → n < 2 ^ 64 → made_value at m ≡ made_value bt n → (at.start ≡ bt.start) × (m ≡ n)
  pub places : made_place at ≡ made_place bt → at.start ≡ bt.start
  pub value_no_place : (m : ℕ) → m < 2 ^ 64 → made_value at m ≡ made_place bt → ⊥
