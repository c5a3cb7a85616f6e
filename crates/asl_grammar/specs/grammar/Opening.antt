-- Which token opens a level too many.
use Rattle.std.specs.Prelude.{◌≡◌, ℕ, zero, suc, ◌⊎◌, Bool, true, false, List, [], ◌∷◌}
use mathlib.Core.Logic.{inr}
use Rattle.asl_grammar.specs.grammar.Kinds.{kind_of}
use Rattle.asl_grammar.specs.grammar.Cursor.{Lexeme, Cursor, Kinds, among, past}
use Rattle.asl_grammar.specs.grammar.Combinators.{G, tok, opens, into, seq, either, opt, many, by, spanned, scope, closed, trail, costs, follows, Reading, reads, reads_all, reads_tok, reads_then, Reads}
use Rattle.asl_grammar.specs.grammar.Reader.{first}

-- all that was read stands with every level open, and here this token opens one more, or, if late, lets the one before it open one more
abbrev pub opens_here : Bool → Kinds → Bool → Cursor → Lexeme → Type 0
opens_here late cs y st x = (st.toks ≡ []) × (st.left ≡ 0) × (among cs (kind_of x.kind) ≡ true) × (y ≡ late)

abbrev pub full : {Sym : Type 0} {Val : Sym → Type 0} → ((s : Sym) → Reading (Val s)) → ((s : Sym) → Cursor → Lexeme → Type 0) → Bool → {A : Type 0} → G Sym Val A → Cursor → Lexeme → Type 0
full R Q y (tok cs) st x = ⊥
full R Q y (opens cs) st x = opens_here false cs y st x
full R Q y (into cs s) st x = opens_here false cs y st x ⊎ ((t : Lexeme) × (ts : List Lexeme) × (l : ℕ) × (st.toks ≡ t ∷ ts) × (among cs (kind_of t.kind) ≡ true) × (st.left ≡ suc l) × Q s (past t ts l) x)
full R Q y (seq {A} p q) st x = full R Q y p st x ⊎ ((a : A) × (mid : Cursor) × reads R p st a mid × full R Q y q mid x)
full R Q y (either p q) st x = full R Q y p st x ⊎ full R Q y q st x
full R Q y (opt p) st x = full R Q y p st x
full R Q y (many {A} p) st x = (xs : List A) × (mid : Cursor) × reads_all (reads R p) st xs mid × full R Q y p mid x
full R Q y (by f p) st x = full R Q y p st x
full R Q y (spanned p) st x = full R Q y p st x
full R Q y (scope p) st x = full R Q y p st x
full R Q y (closed cs s) st x = opens_here false cs y st x ⊎ ((t : Lexeme) × (ts : List Lexeme) × (l : ℕ) × (st.toks ≡ t ∷ ts) × (among cs (kind_of t.kind) ≡ true) × (st.left ≡ suc l) × Q s (past t ts l) x)
full R Q y (trail {A} cs p) st x = (xs : List (Lexeme × A)) × (mid : Cursor) × reads_all (reads_then cs (reads R p)) st xs mid × ((t : Lexeme) × (m : Cursor) × reads_tok cs mid t m × full R Q y p m x)
full R Q y (costs late p) st x = opens_here late (first p) y st x ⊎ ((l : ℕ) × (st.left ≡ suc l) × full R Q y p (record st { left = l }) x)
full R Q y (follows {A} {B} p q) st x = full R Q y p st x ⊎ ((b : B) × (mid : Cursor) × reads R p st (inr b) mid × full R Q y q mid x)

module _ (Sym : Type 0) (Val : Sym → Type 0) (rule : (s : Sym) → G Sym Val (Val s)) where
  abbrev pub Full : ℕ → Bool → (s : Sym) → Cursor → Lexeme → Type 0
  Full zero y s st x = ⊥
  Full (suc n) y s st x = full (Reads Sym Val rule n) (Full n y) y (rule s) st x
