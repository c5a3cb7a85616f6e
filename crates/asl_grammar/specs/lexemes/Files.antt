-- The lexemes of all files, read in their order. All have tokens, or the first file that hasn't gives the fault.
use Rattle.std.specs.Prelude.{ℕ, ◌+◌, ◌⊎◌, List, [], ◌∷◌}
use Rattle.asl_syn.specs.declared.token.Token.{Token}
use Rattle.asl_syn.specs.declared.code.Fault.{Fault}
use Rattle.asl_grammar.specs.lexemes.Tokens.{Tokens, LexFault}

-- the tokens of each file, by the width limit; the files are numbered from n on
abbrev pub AllTokens : ℕ → ℕ → List (List ℕ) → List (List Token) → Type 0
AllTokens width_limit n [] [] = Unit {0}
AllTokens width_limit n [] (ts ∷ tss) = ⊥
AllTokens width_limit n (bytes ∷ files) [] = ⊥
AllTokens width_limit n (bytes ∷ files) (ts ∷ tss) = Tokens width_limit n bytes ts × AllTokens width_limit (n + 1) files tss

-- the lexical fault of the first file that has one
abbrev pub FirstLexFault : ℕ → ℕ → List (List ℕ) → Fault → Type 0
FirstLexFault width_limit n [] f = ⊥
FirstLexFault width_limit n (bytes ∷ files) f =
    LexFault width_limit n bytes f ⊎ ((ts : List Token) × Tokens width_limit n bytes ts × FirstLexFault width_limit (n + 1) files f)
