-- What the grammar says of a file: its tree, or its one syntax fault.
use Rattle.std.specs.Prelude.{◌≡◌, ◌≤◌, ℕ, ◌-◌, ◌⊎◌, Bool, true, false, List, [], ◌∷◌, ◌++◌, length, map, drop, None}
use Rattle.asl_syn.specs.declared.code.StaticCode.{StaticCode}
use Rattle.asl_syn.specs.declared.code.StaticCode.TheVariants.{S01, S02, S03}
use Rattle.asl_syn.specs.declared.code.Fault.{Fault}
use Rattle.asl_syn.specs.declared.token.Span.{Span}
use Rattle.asl_syn.specs.declared.token.Token.{Token}
use Rattle.asl_syn.specs.declared.read.ReadDecl.{ReadDecl}
use Rattle.asl_grammar.specs.declared.kinds.Kind.TheVariants as kind
use Rattle.asl_grammar.specs.grammar.Kinds.{kind_of, same_kind}
use Rattle.asl_grammar.specs.grammar.Cursor.{Lexeme, with_text}
use Rattle.asl_grammar.specs.grammar.Reader.{pick}
use Rattle.asl_grammar.specs.grammar.Rules.{Sym, Val, rule, Program}
use Rattle.asl_grammar.specs.grammar.Syntax.{start}
use Rattle.asl_grammar.specs.grammar.Opening.{Full}
use Rattle.asl_grammar.specs.grammar.Language.{Tree, Front}

-- so many levels may be open
unfoldable pub max_levels : ℕ
max_levels = 100

-- the tokens of a file, with their text
abbrev pub lexemes : List ℕ → List Token → List Lexeme
lexemes bytes tokens = map (with_text bytes) tokens

-- the tokens of a file have this tree
abbrev pub Parses : List ℕ → List Token → List ReadDecl → Type 0
Parses bytes tokens tree = Tree max_levels (lexemes bytes tokens) tree

-- where the next token stands, or the end of a file of this size
abbrev pub place_of : ℕ → ℕ → List Lexeme → Span
place_of file size [] = record { file = file; start = size; len = 0 }
place_of file size (t ∷ ts) = t.span

-- a word that is left out has a code of its own
abbrev pub refusal_code : List Lexeme → StaticCode
refusal_code [] = S01
refusal_code (t ∷ ts) = pick (same_kind (kind_of t.kind) kind.LeftOut) S03 S01

abbrev pub refusal : ℕ → ℕ → List Lexeme → Fault
refusal file size rest = record { code = refusal_code rest; inner = None; span = place_of file size rest }

-- There is no tree. Before the fault's place the text goes on, and no longer front of it does, however many levels are allowed.
pub record NotAllowed (file size : ℕ) (ts : List Lexeme) (fault : Fault) : Type 0 where
  pub front : List Lexeme
  pub rest : List Lexeme
  pub is : ts ≡ front ++ rest
  pub goes_on : Front max_levels front
  pub no_longer : (longer others : List Lexeme) → ts ≡ longer ++ others → (any : ℕ) → Front any longer → length longer ≤ length front
  pub no_tree : (w : List ReadDecl) → Tree max_levels ts w → ⊥
  pub says : fault ≡ refusal file size rest

abbrev pub last_or : Lexeme → List Lexeme → Lexeme
last_or t [] = t
last_or t (x ∷ xs) = last_or x xs

-- the token that opens a level: this one, or the one before it
abbrev pub opener : List Lexeme → Lexeme → Bool → Lexeme
opener front token false = token
opener front token true = last_or token front

-- Before a token the text goes on with every level open, and the token needs one level more. Where it may be read with the token before it as one that opens a level and
-- as one that doesn't, and only the first goes on here, the fault stands at the token before.
pub record TooManyLevels (ts : List Lexeme) (fault : Fault) : Type 0 where
  pub front : List Lexeme
  pub token : Lexeme
  pub rest : List Lexeme
  pub late : Bool
  pub is : ts ≡ front ++ (token ∷ rest)
  pub goes_on : Front max_levels front
  pub allowed : (any : ℕ) × Front any (front ++ token ∷ [])
  pub too_many : Front max_levels (front ++ token ∷ []) → ⊥
  pub opens : (n : ℕ) × Full Sym Val rule n late Program (start max_levels front) token
  pub says : fault ≡ record { code = S02; inner = None; span = (opener front token late).span }

-- the syntax fault of a file
abbrev pub SyntaxFault : ℕ → List ℕ → List Token → Fault → Type 0
SyntaxFault file bytes tokens fault = NotAllowed file (length bytes) (lexemes bytes tokens) fault ⊎ TooManyLevels (lexemes bytes tokens) fault

-- ---- the same from the number of tokens that are left

abbrev pub before : Bool → ℕ → ℕ
before false n = n
before true n = n - 1

abbrev pub too_many_at : List Lexeme → Fault
too_many_at rest = record { code = S02; inner = None; span = place_of 0 0 rest }

abbrev pub level_fault : List Lexeme → ℕ → Bool → Fault
level_fault ts n late = too_many_at (drop (before late (length ts - n)) ts)
