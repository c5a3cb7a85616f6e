-- What the grammar says of a list of tokens.
use Rattle.std.specs.Prelude.{◌≡◌, ℕ, Bool, List, ◌∷◌, ◌++◌, length, Result, Ok, Err}
use Rattle.asl_syn.specs.declared.read.ReadDecl.{ReadDecl}
use Rattle.asl_grammar.specs.grammar.Cursor.{Lexeme}
use Rattle.asl_grammar.specs.declared.error.ParseError.{ParseError}
use Rattle.asl_grammar.specs.declared.error.ParseError.TheVariants.{OutOfMemory, Syntax, TooDeep}
use Rattle.asl_grammar.specs.grammar.Reader.{Outcome}
use Rattle.asl_grammar.specs.grammar.Rules.{Sym, Val, rule, Program}
use Rattle.asl_grammar.specs.grammar.Syntax.{start, Parses, GoesOn, Refuses, Exceeds, parsed}
use Rattle.asl_grammar.specs.grammar.Opening.{Full}

-- the tokens have this tree
abbrev pub Tree : ℕ → List Lexeme → List ReadDecl → Type 0
Tree levels ts v = Parses Sym Val rule Program levels ts v

-- a front that goes on
abbrev pub Front : ℕ → List Lexeme → Type 0
Front levels front = GoesOn Sym Val rule Program levels front

-- at this place every level is open, and the token there opens one more, or lets the one before it open one more
abbrev pub Opener : ℕ → List Lexeme → ℕ → Bool → Type 0
Opener levels ts left late = (front : List Lexeme) × (x : Lexeme) × (us : List Lexeme) × (ts ≡ front ++ (x ∷ us)) × (length (x ∷ us) ≡ left) × ((n : ℕ) × Full Sym Val rule n late Program (start levels front) x)

-- where it stopped, and why
abbrev pub Stops : ℕ → List Lexeme → ParseError → Type 0
Stops levels ts OutOfMemory = Unit {0}
Stops levels ts (Syntax n) = Refuses Front levels ts n × ((w : List ReadDecl) → Tree levels ts w → ⊥)
Stops levels ts (TooDeep n late) = Exceeds Front levels ts n × Opener levels ts n late × ((w : List ReadDecl) → Tree levels ts w → ⊥)

-- the one tree, or the first token with which the front doesn't go on, or which opens a level too many, unless memory fails
abbrev pub Answers : ℕ → List Lexeme → Result (List ReadDecl) ParseError → Type 0
Answers levels ts (Ok v) = Tree levels ts v × ((w : List ReadDecl) → Tree levels ts w → v ≡ w)
Answers levels ts (Err e) = Stops levels ts e

abbrev pub without_end : Outcome (List ReadDecl) → Result (List ReadDecl) ParseError
without_end (Ok r) = Ok r.0
without_end (Err e) = Err e

-- the reader with one token of lookahead
abbrev pub outcome : ℕ → List Lexeme → Outcome (List ReadDecl)
outcome levels ts = parsed Sym Val rule Program levels ts
