-- A parser for each grammar: it looks at the next token alone, and never goes back.
use Rattle.std.specs.Prelude.{ℕ, zero, suc, ◌⊎◌, Bool, true, false, List, [], ◌∷◌, ◌++◌, length, Option, Some, None, Result, Ok, Err}
use mathlib.Core.Logic.{inl, inr}
use Rattle.asl_grammar.specs.declared.error.ParseError.{ParseError}
use Rattle.asl_grammar.specs.declared.error.ParseError.TheVariants.{OutOfMemory, Syntax, TooDeep}
use Rattle.asl_grammar.specs.grammar.Kinds.{kind_of}
use Rattle.asl_grammar.specs.grammar.Cursor.{Lexeme, Cursor, Kinds, among, starts, past, extent}
use Rattle.asl_grammar.specs.grammar.Combinators.{G, tok, opens, into, seq, either, opt, many, by, spanned, scope, closed, trail, costs, follows}

-- how many tokens there are from where it stopped
abbrev pub left_of : ParseError → ℕ
left_of OutOfMemory = 0
left_of (Syntax n) = n
left_of (TooDeep n late) = n

abbrev pub Outcome : Type 0 → Type 0
Outcome A = Result (A × Cursor) ParseError

abbrev pub refused : {A : Type 0} → List Lexeme → Outcome A
refused ts = Err (Syntax (length ts))

-- the first of these tokens is allowed, and opens a level too many
abbrev pub too_deep : {A : Type 0} → List Lexeme → Outcome A
too_deep ts = Err (TooDeep (length ts) false)

abbrev pub bind : {A B : Type 0} → Outcome A → (A → Cursor → Outcome B) → Outcome B
bind (Ok r) f = f r.0 r.1
bind (Err e) f = Err e

abbrev pub both : Bool → Bool → Bool
both true b = b
both false b = false

abbrev pub flipped : Bool → Bool
flipped true = false
flipped false = true

abbrev pub pick : {A : Type 0} → Bool → A → A → A
pick true x y = x
pick false x y = y

-- ---- the tokens that may come first, whether nothing may stand for it, and the tokens by which it may go on when it could end

abbrev pub nullable : {Sym : Type 0} {Val : Sym → Type 0} {A : Type 0} → G Sym Val A → Bool
nullable (tok cs) = false
nullable (opens cs) = false
nullable (into cs s) = false
nullable (seq p q) = both (nullable p) (nullable q)
nullable (either p q) = false
nullable (opt p) = true
nullable (many p) = true
nullable (by f p) = nullable p
nullable (spanned p) = nullable p
nullable (scope p) = nullable p
nullable (closed cs s) = false
nullable (trail cs p) = true
nullable (costs late p) = false
nullable (follows p q) = false

abbrev pub first : {Sym : Type 0} {Val : Sym → Type 0} {A : Type 0} → G Sym Val A → Kinds
first (tok cs) = cs
first (opens cs) = cs
first (into cs s) = cs
first (seq p q) = first p ++ pick (nullable p) (first q) []
first (either p q) = first p ++ first q
first (opt p) = first p
first (many p) = first p
first (by f p) = first p
first (spanned p) = first p
first (scope p) = first p
first (closed cs s) = cs
first (trail cs p) = cs
first (costs late p) = first p
first (follows p q) = first p

-- ---- the parser

abbrev pub run_tok : Kinds → Cursor → List Lexeme → Outcome Lexeme
run_tok cs st [] = refused []
run_tok cs st (t ∷ ts) = pick (among cs (kind_of t.kind)) (Ok (t, past t ts st.left)) (refused (t ∷ ts))

abbrev pub open_at : Lexeme → List Lexeme → ℕ → Outcome Lexeme
open_at t ts zero = too_deep (t ∷ ts)
open_at t ts (suc l) = Ok (t, past t ts l)

abbrev pub run_opens : Kinds → ℕ → List Lexeme → Outcome Lexeme
run_opens cs left [] = refused []
run_opens cs left (t ∷ ts) = pick (among cs (kind_of t.kind)) (open_at t ts left) (refused (t ∷ ts))

abbrev pub run_many : {A : Type 0} → (Cursor → Outcome A) → Kinds → ℕ → Cursor → Outcome (List A)
run_many p cs zero st = Ok ([], st)
run_many p cs (suc n) st = pick (starts cs st.toks) (bind (p st) (λ x mid. bind (run_many p cs n mid) (λ xs end. Ok (x ∷ xs, end)))) (Ok ([], st))

abbrev pub run_item : {A : Type 0} → (Cursor → Outcome A) → Kinds → (Cursor → Outcome (List (Lexeme × A) × Option Lexeme)) → Lexeme → Cursor → Outcome (List (Lexeme × A) × Option Lexeme)
run_item p F next t mid = pick (starts F mid.toks) (bind (p mid) (λ x m. bind (next m) (λ r end. Ok (((t, x) ∷ r.0, r.1), end)))) (Ok (([], Some t), mid))

abbrev pub run_trail : {A : Type 0} → Kinds → (Cursor → Outcome A) → Kinds → ℕ → Cursor → Outcome (List (Lexeme × A) × Option Lexeme)
run_trail cs p F zero st = Ok (([], None), st)
run_trail cs p F (suc n) st = pick (starts cs st.toks) (bind (run_tok cs st st.toks) (λ t mid. run_item p F (run_trail cs p F n) t mid)) (Ok (([], None), st))

abbrev pub run_costs : {A : Type 0} → Bool → (Cursor → Outcome A) → Cursor → ℕ → Outcome A
run_costs late p st zero = Err (TooDeep (length st.toks) late)
run_costs late p st (suc l) = p (record st { left = l })

abbrev pub run_follows : {A B C : Type 0} → (Cursor → Outcome C) → A ⊎ B → Cursor → Outcome (A ⊎ (B × C))
run_follows q (inl a) mid = Ok (inl a, mid)
run_follows q (inr b) mid = bind (q mid) (λ c end. Ok (inr (b, c), end))

abbrev pub run : {Sym : Type 0} {Val : Sym → Type 0} → ((s : Sym) → Cursor → Outcome (Val s)) → {A : Type 0} → G Sym Val A → Cursor → Outcome A
run P (tok cs) st = run_tok cs st st.toks
run P (opens cs) st = run_opens cs st.left st.toks
run P (into cs s) st = bind (run_opens cs st.left st.toks) (λ t mid. bind (P s mid) (λ v end. Ok ((t, v), end)))
run P (seq p q) st = bind (run P p st) (λ a mid. bind (run P q mid) (λ b end. Ok ((a, b), end)))
run P (either p q) st = pick (starts (first p) st.toks) (run P p st) (run P q st)
run P (opt p) st = pick (starts (first p) st.toks) (bind (run P p st) (λ x end. Ok (Some x, end))) (Ok (None, st))
run P (many p) st = run_many (run P p) (first p) (length st.toks) st
run P (by f p) st = bind (run P p st) (λ x end. Ok (f x, end))
run P (spanned p) st = bind (run P p st) (λ x end. Ok ((x, extent st.toks end.last), end))
run P (scope p) st = bind (run P p st) (λ x end. Ok (x, record end { left = st.left }))
run P (closed cs s) st = bind (run_opens cs st.left st.toks) (λ t mid. bind (P s mid) (λ v end. Ok ((t, v), record end { left = suc end.left })))
run P (trail cs p) st = run_trail cs (run P p) (first p) (length st.toks) st
run P (costs late p) st = pick (starts (first p) st.toks) (run_costs late (run P p) st st.left) (refused st.toks)
run P (follows p q) st = bind (run P p st) (λ x mid. run_follows (run P q) x mid)

-- ---- what makes one token enough to choose by

abbrev pub apart : Kinds → Kinds → Bool
apart [] ds = true
apart (c ∷ cs) ds = both (flipped (among ds c)) (apart cs ds)

abbrev pub covers : Kinds → Kinds → Bool
covers ds [] = true
covers ds (c ∷ cs) = both (among ds c) (covers ds cs)

-- where `after s` has the tokens by which the symbol s may go on
abbrev pub cont : {Sym : Type 0} {Val : Sym → Type 0} → (Sym → Kinds) → {A : Type 0} → G Sym Val A → Kinds
cont after (tok cs) = []
cont after (opens cs) = []
cont after (into cs s) = after s
cont after (seq p q) = cont after q ++ pick (nullable q) (cont after p) []
cont after (either p q) = cont after p ++ cont after q
cont after (opt p) = first p ++ cont after p
cont after (many p) = first p ++ cont after p
cont after (by f p) = cont after p
cont after (spanned p) = cont after p
cont after (scope p) = cont after p
cont after (closed cs s) = after s
cont after (trail cs p) = cs ++ (first p ++ cont after p)
cont after (costs late p) = cont after p
cont after (follows p q) = cont after q ++ cont after p

abbrev pub by_one : {Sym : Type 0} {Val : Sym → Type 0} → (Sym → Kinds) → {A : Type 0} → G Sym Val A → Bool
by_one after (tok cs) = true
by_one after (opens cs) = true
by_one after (into cs s) = true
by_one after (seq p q) = both (by_one after p) (both (by_one after q) (apart (cont after p) (first q)))
by_one after (either p q) = both (by_one after p) (both (by_one after q) (both (flipped (nullable p)) (both (flipped (nullable q)) (apart (first p) (first q)))))
by_one after (opt p) = both (by_one after p) (flipped (nullable p))
by_one after (many p) = both (by_one after p) (both (flipped (nullable p)) (apart (cont after p) (first p)))
by_one after (by f p) = by_one after p
by_one after (spanned p) = both (by_one after p) (flipped (nullable p))
by_one after (scope p) = by_one after p
by_one after (closed cs s) = true
by_one after (trail cs p) = both (by_one after p) (both (flipped (nullable p)) (apart (cont after p) cs))
by_one after (costs late p) = both (by_one after p) (flipped (nullable p))
by_one after (follows p q) = both (by_one after p) (both (by_one after q) (both (flipped (nullable p)) (apart (cont after p) (first q))))

-- ---- symbols, by how deep they nest

module _ (Sym : Type 0) (Val : Sym → Type 0) (rule : (s : Sym) → G Sym Val (Val s)) where
  abbrev pub parse : ℕ → (s : Sym) → Cursor → Outcome (Val s)
  parse zero s st = too_deep st.toks
  parse (suc n) s st = run (parse n) (rule s) st
