-- Grammars, and three meanings of one: which trees a run of tokens has, which fronts go on, and a parser.
use Rattle.std.specs.Prelude.{◌≡◌, ℕ, zero, suc, ◌⊎◌, Bool, true, List, [], ◌∷◌, Option, Some, None}
use mathlib.Core.Logic.{inl, inr}
use Rattle.asl_grammar.specs.grammar.Kinds.{kind_of}
use Rattle.asl_grammar.specs.grammar.Cursor.{Lexeme, Extent, Cursor, Kinds, among, past, extent}

-- `into` reads a token that opens a level, and there what a symbol stands for.
pub data G (Sym : Type 0) (Val : Sym → Type 0) : Type 0 → Type 1 where
  tok : Kinds → G Sym Val Lexeme
  opens : Kinds → G Sym Val Lexeme
  into : Kinds → (s : Sym) → G Sym Val (Lexeme × Val s)
  seq : {A B : Type 0} → G Sym Val A → G Sym Val B → G Sym Val (A × B)
  either : {A : Type 0} → G Sym Val A → G Sym Val A → G Sym Val A
  opt : {A : Type 0} → G Sym Val A → G Sym Val (Option A)
  many : {A : Type 0} → G Sym Val A → G Sym Val (List A)
  by : {A B : Type 0} → (A → B) → G Sym Val A → G Sym Val B
  spanned : {A : Type 0} → G Sym Val A → G Sym Val (A × Extent)
  scope : {A : Type 0} → G Sym Val A → G Sym Val A
  -- as `into`, and the level is given back at its end, while those opened inside stay open
  closed : Kinds → (s : Sym) → G Sym Val (Lexeme × Val s)
  -- more items, each behind a separator, and maybe one separator more
  trail : {A : Type 0} → Kinds → G Sym Val A → G Sym Val (List (Lexeme × A) × Option Lexeme)
  -- a level more is open from its first token on; the token before counts as the one that opens it, if so said
  costs : {A : Type 0} → Bool → G Sym Val A → G Sym Val A
  -- what was read says whether more follows
  follows : {A B C : Type 0} → G Sym Val (A ⊎ B) → G Sym Val C → G Sym Val (A ⊎ (B × C))

-- ---- trees

abbrev pub Reading : Type 0 → Type 1
Reading A = Cursor → A → Cursor → Type 0

abbrev pub reads_opt : {A : Type 0} → Reading A → Reading (Option A)
reads_opt p st None st' = st' ≡ st
reads_opt p st (Some x) st' = p st x st'

abbrev pub reads_all : {A : Type 0} → Reading A → Cursor → List A → Cursor → Type 0
reads_all p st [] st' = st' ≡ st
reads_all p st (x ∷ xs) st' = (mid : Cursor) × p st x mid × reads_all p mid xs st'

abbrev pub reads_tok : Kinds → Reading Lexeme
reads_tok cs st t st' = (ts : List Lexeme) × (st.toks ≡ t ∷ ts) × (among cs (kind_of t.kind) ≡ true) × (st' ≡ past t ts st.left)

abbrev pub reads_then : {A : Type 0} → Kinds → Reading A → Reading (Lexeme × A)
reads_then cs p st a st' = (mid : Cursor) × reads_tok cs st a.0 mid × p mid a.1 st'

abbrev pub reads_trail : {A : Type 0} → Kinds → Reading A → Reading (List (Lexeme × A) × Option Lexeme)
reads_trail cs p st a st' = (mid : Cursor) × reads_all (reads_then cs p) st a.0 mid × reads_opt (reads_tok cs) mid a.1 st'

abbrev pub reads_follows : {A B C : Type 0} → Reading (A ⊎ B) → Reading C → Cursor → A ⊎ (B × C) → Cursor → Type 0
reads_follows p q st (inl a) st' = p st (inl a) st'
reads_follows p q st (inr r) st' = (mid : Cursor) × p st (inr r.0) mid × q mid r.1 st'

abbrev pub reads : {Sym : Type 0} {Val : Sym → Type 0} → ((s : Sym) → Reading (Val s)) → {A : Type 0} → G Sym Val A → Reading A
reads R (tok cs) st t st' = (ts : List Lexeme) × (st.toks ≡ t ∷ ts) × (among cs (kind_of t.kind) ≡ true) × (st' ≡ past t ts st.left)
reads R (opens cs) st t st' = (ts : List Lexeme) × (l : ℕ) × (st.toks ≡ t ∷ ts) × (among cs (kind_of t.kind) ≡ true) × (st.left ≡ suc l) × (st' ≡ past t ts l)
reads R (into cs s) st a st' = (ts : List Lexeme) × (l : ℕ) × (st.toks ≡ a.0 ∷ ts) × (among cs (kind_of a.0.kind) ≡ true) × (st.left ≡ suc l) × R s (past a.0 ts l) a.1 st'
reads R (seq p q) st a st' = (mid : Cursor) × reads R p st a.0 mid × reads R q mid a.1 st'
reads R (either p q) st a st' = reads R p st a st' ⊎ reads R q st a st'
reads R (opt p) st a st' = reads_opt (reads R p) st a st'
reads R (many p) st a st' = reads_all (reads R p) st a st'
reads R (by {A} f p) st b st' = (x : A) × reads R p st x st' × (b ≡ f x)
reads R (spanned p) st a st' = reads R p st a.0 st' × (a.1 ≡ extent st.toks st'.last)
reads R (scope p) st a st' = (mid : Cursor) × reads R p st a mid × (st' ≡ record mid { left = st.left })
reads R (closed cs s) st a st' = (ts : List Lexeme) × (l : ℕ) × (mid : Cursor) × (st.toks ≡ a.0 ∷ ts) × (among cs (kind_of a.0.kind) ≡ true) × (st.left ≡ suc l) × R s (past a.0 ts l) a.1 mid × (st' ≡ record mid { left = suc mid.left })
reads R (trail cs p) st a st' = reads_trail cs (reads R p) st a st'
reads R (costs late p) st a st' = (l : ℕ) × (st.left ≡ suc l) × reads R p (record st { left = l }) a st'
reads R (follows p q) st a st' = reads_follows (reads R p) (reads R q) st a st'

-- ---- fronts

abbrev pub goes_tok : Kinds → Cursor → Type 0
goes_tok cs st = (st.toks ≡ []) ⊎ ((t : Lexeme) × (st.toks ≡ t ∷ []) × (among cs (kind_of t.kind) ≡ true))

abbrev pub goes_trail : {A : Type 0} → Kinds → Reading A → (Cursor → Type 0) → Cursor → Type 0
goes_trail {A} cs P Go st = (xs : List (Lexeme × A)) × (mid : Cursor) × reads_all (reads_then cs P) st xs mid × (goes_tok cs mid ⊎ ((t : Lexeme) × (m : Cursor) × reads_tok cs mid t m × Go m))

abbrev pub goes : {Sym : Type 0} {Val : Sym → Type 0} → ((s : Sym) → Reading (Val s)) → ((s : Sym) → Cursor → Type 0) → {A : Type 0} → G Sym Val A → Cursor → Type 0
goes R Q (tok cs) st = (st.toks ≡ []) ⊎ ((t : Lexeme) × (st.toks ≡ t ∷ []) × (among cs (kind_of t.kind) ≡ true))
goes R Q (opens cs) st = (st.toks ≡ []) ⊎ ((t : Lexeme) × (l : ℕ) × (st.toks ≡ t ∷ []) × (among cs (kind_of t.kind) ≡ true) × (st.left ≡ suc l))
goes R Q (into cs s) st = (st.toks ≡ []) ⊎ ((t : Lexeme) × (ts : List Lexeme) × (l : ℕ) × (st.toks ≡ t ∷ ts) × (among cs (kind_of t.kind) ≡ true) × (st.left ≡ suc l) × Q s (past t ts l))
goes R Q (seq {A} p q) st = goes R Q p st ⊎ ((a : A) × (mid : Cursor) × reads R p st a mid × goes R Q q mid)
goes R Q (either p q) st = goes R Q p st ⊎ goes R Q q st
goes R Q (opt p) st = goes R Q p st
goes R Q (many {A} p) st = (xs : List A) × (mid : Cursor) × reads_all (reads R p) st xs mid × goes R Q p mid
goes R Q (by f p) st = goes R Q p st
goes R Q (spanned p) st = goes R Q p st
goes R Q (scope p) st = goes R Q p st
goes R Q (closed cs s) st = (st.toks ≡ []) ⊎ ((t : Lexeme) × (ts : List Lexeme) × (l : ℕ) × (st.toks ≡ t ∷ ts) × (among cs (kind_of t.kind) ≡ true) × (st.left ≡ suc l) × Q s (past t ts l))
goes R Q (trail cs p) st = goes_trail cs (reads R p) (goes R Q p) st
goes R Q (costs late p) st = (st.toks ≡ []) ⊎ ((l : ℕ) × (st.left ≡ suc l) × goes R Q p (record st { left = l }))
goes R Q (follows {A} {B} p q) st = goes R Q p st ⊎ ((b : B) × (mid : Cursor) × reads R p st (inr b) mid × goes R Q q mid)

-- ---- symbols, by how deep they nest

module _ (Sym : Type 0) (Val : Sym → Type 0) (rule : (s : Sym) → G Sym Val (Val s)) where
  abbrev pub Reads : ℕ → (s : Sym) → Reading (Val s)
  Reads zero s st v end = ⊥
  Reads (suc n) s st v end = reads (Reads n) (rule s) st v end

  abbrev pub Goes : ℕ → (s : Sym) → Cursor → Type 0
  Goes zero s st = st.toks ≡ []
  Goes (suc n) s st = goes (Reads n) (Goes n) (rule s) st
