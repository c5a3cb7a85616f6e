-- What a grammar with symbols says of a list of tokens.
use Rattle.std.specs.Prelude.{◌≡◌, ◌≤◌, ℕ, suc, List, [], ◌∷◌, ◌++◌, length, Ok}
use Rattle.asl_grammar.specs.grammar.Cursor.{Lexeme, Cursor}
use Rattle.asl_grammar.specs.grammar.Combinators.{G, Reads, Goes}
use Rattle.asl_grammar.specs.grammar.Reader.{Outcome, refused, bind, parse}

-- at the first of these tokens, where so many levels may be opened
abbrev pub start : ℕ → List Lexeme → Cursor
start levels ts = record { toks = ts; left = levels; last = 0 }

abbrev pub finish : {A : Type 0} → A → Cursor → List Lexeme → Outcome A
finish v end [] = Ok (v, end)
finish v end (t ∷ ts) = refused (t ∷ ts)

-- Up to this place the front goes on, and no longer front does, however many levels are allowed.
pub record Refuses (GoesTo : ℕ → List Lexeme → Type 0) (levels : ℕ) (ts : List Lexeme) (left : ℕ) : Type 0 where
  pub front : List Lexeme
  pub rest : List Lexeme
  pub is : ts ≡ front ++ rest
  pub there : length rest ≡ left
  pub goes_on : GoesTo levels front
  pub no_longer : (longer others : List Lexeme) → ts ≡ longer ++ others → (any : ℕ) → GoesTo any longer → length longer ≤ length front

-- Up to this place the front goes on, and with the token there only if more levels are allowed.
pub record Exceeds (GoesTo : ℕ → List Lexeme → Type 0) (levels : ℕ) (ts : List Lexeme) (left : ℕ) : Type 0 where
  pub front : List Lexeme
  pub token : Lexeme
  pub rest : List Lexeme
  pub is : ts ≡ front ++ (token ∷ rest)
  pub there : length (token ∷ rest) ≡ left
  pub goes_on : GoesTo levels front
  pub opens : (any : ℕ) × GoesTo any (front ++ token ∷ [])
  pub too_many : GoesTo levels (front ++ token ∷ []) → ⊥

module _ (Sym : Type 0) (Val : Sym → Type 0) (rule : (s : Sym) → G Sym Val (Val s)) (s : Sym) where
  -- the tokens have this tree, with at most so many levels open anywhere
  abbrev pub Parses : ℕ → List Lexeme → Val s → Type 0
  Parses levels ts v = (n : ℕ) × (end : Cursor) × Reads Sym Val rule n s (start levels ts) v end × (end.toks ≡ [])

  -- the front goes on, with at most so many levels open anywhere
  abbrev pub GoesOn : ℕ → List Lexeme → Type 0
  GoesOn levels front = (n : ℕ) × Goes Sym Val rule n s (start levels front)

  -- the parser's outcome
  abbrev pub parsed : ℕ → List Lexeme → Outcome (Val s)
  parsed levels ts = bind (parse Sym Val rule (suc levels) s (start levels ts)) (λ v end. finish v end end.toks)
