-- The reader comes to an end at every text: a tree or a place where it stops. So every text has a tree or a syntax fault.
use Rattle.std.proofs.Common.{◌≡◌, ℕ, zero, suc, ◌⊎◌, inl, inr, Bool, true, false, List, [], ◌∷◌, length, Option, Some, None, Ok, Err, refl}
use Rattle.asl_syn.specs.declared.code.Fault.{Fault}
use Rattle.asl_syn.specs.declared.token.Token.{Token}
use Rattle.asl_syn.specs.declared.read.ReadDecl.{ReadDecl}
use Rattle.asl_grammar.specs.declared.error.ParseError.{ParseError}
use Rattle.asl_grammar.specs.declared.error.ParseError.TheVariants.{OutOfMemory, Syntax, TooDeep}
use Rattle.asl_grammar.specs.grammar.Kinds.{kind_of}
use Rattle.asl_grammar.specs.grammar.Cursor.{Lexeme, Cursor, Kinds, among, starts, past, extent}
use Rattle.asl_grammar.specs.grammar.Combinators.{G, tok, opens, into, seq, either, opt, many, by, spanned, scope, closed, trail, costs, follows}
use Rattle.asl_grammar.specs.grammar.Reader.{Outcome, refused, bind, pick, first, run, run_tok, run_opens, open_at, run_many, run_item, run_trail, run_costs, run_follows, parse}
use Rattle.asl_grammar.specs.grammar.Rules.{Sym, Val, rule, after, Program}
use Rattle.asl_grammar.specs.grammar.Syntax.{start, finish}
use Rattle.asl_grammar.specs.grammar.Language.{outcome}
use Rattle.asl_grammar.specs.grammar.Faults.{max_levels, lexemes, Parses, SyntaxFault}
use Rattle.asl_grammar.proofs.grammar.Symbols.{parsed_tree}
use Rattle.asl_grammar.proofs.grammar.Checked.{each, covered}
use Rattle.asl_grammar.proofs.grammar.Placed.{not_allowed_at, too_many_levels_at}

abbrev Stands : ParseError → Type 0
Stands OutOfMemory = ⊥
Stands (Syntax n) = Unit {0}
Stands (TooDeep n late) = Unit {0}

abbrev Ends : {A : Type 0} → Outcome A → Type 0
Ends (Ok r) = Unit {0}
Ends (Err e) = Stands e

ends_bind : {A B : Type 0} (o : Outcome A) (f : A → Cursor → Outcome B) → Ends o → ((a : A) (end : Cursor) → Ends (f a end)) → Ends (bind o f)
ends_bind (Ok r) f h k = k r.0 r.1
ends_bind (Err e) f h k = h

ends_pick : {A : Type 0} (b : Bool) (x y : Outcome A) → Ends x → Ends y → Ends (pick b x y)
ends_pick true x y h k = h
ends_pick false x y h k = k

ends_tok : (cs : Kinds) (st : Cursor) (ts : List Lexeme) → Ends (run_tok cs st ts)
ends_tok cs st [] = tt
ends_tok cs st (t ∷ ts) = ends_pick (among cs (kind_of t.kind)) (Ok (t, past t ts st.left)) (refused (t ∷ ts)) tt tt

ends_open : (t : Lexeme) (ts : List Lexeme) (left : ℕ) → Ends (open_at t ts left)
ends_open t ts zero = tt
ends_open t ts (suc l) = tt

ends_opens : (cs : Kinds) (left : ℕ) (ts : List Lexeme) → Ends (run_opens cs left ts)
ends_opens cs left [] = tt
ends_opens cs left (t ∷ ts) = ends_pick (among cs (kind_of t.kind)) (open_at t ts left) (refused (t ∷ ts)) (ends_open t ts left) tt

ends_many : {A : Type 0} (p : Cursor → Outcome A) (cs : Kinds) → ((st : Cursor) → Ends (p st)) → (n : ℕ) (st : Cursor) → Ends (run_many p cs n st)
ends_many p cs h zero st = tt
ends_many p cs h (suc n) st =
    ends_pick (starts cs st.toks) (bind (p st) (λ x mid. bind (run_many p cs n mid) (λ xs end. Ok (x ∷ xs, end)))) (Ok ([], st))
    (ends_bind (p st) (λ x mid. bind (run_many p cs n mid) (λ xs end. Ok (x ∷ xs, end))) (h st)
    (λ x mid. ends_bind (run_many p cs n mid) (λ xs end. Ok (x ∷ xs, end)) (ends_many p cs h n mid) (λ xs end. tt))) tt

ends_item : {A : Type 0} (p : Cursor → Outcome A) (F : Kinds) (next : Cursor → Outcome (List (Lexeme × A) × Option Lexeme)) → ((st : Cursor) → Ends (p st)) → ((st : Cursor) → Ends (next st)) → (t : Lexeme) (mid : Cursor) → Ends (run_item p F next t mid)
ends_item p F next h k t mid =
    ends_pick (starts F mid.toks) (bind (p mid) (λ x m. bind (next m) (λ r end. Ok (((t, x) ∷ r.0, r.1), end)))) (Ok (([], Some t), mid))
    (ends_bind (p mid) (λ x m. bind (next m) (λ r end. Ok (((t, x) ∷ r.0, r.1), end))) (h mid)
    (λ x m. ends_bind (next m) (λ r end. Ok (((t, x) ∷ r.0, r.1), end)) (k m) (λ r end. tt))) tt

ends_trail : {A : Type 0} (cs : Kinds) (p : Cursor → Outcome A) (F : Kinds) → ((st : Cursor) → Ends (p st)) → (n : ℕ) (st : Cursor) → Ends (run_trail cs p F n st)
ends_trail cs p F h zero st = tt
ends_trail cs p F h (suc n) st =
    ends_pick (starts cs st.toks) (bind (run_tok cs st st.toks) (λ t mid. run_item p F (run_trail cs p F n) t mid)) (Ok (([], None), st))
    (ends_bind (run_tok cs st st.toks) (λ t mid. run_item p F (run_trail cs p F n) t mid) (ends_tok cs st st.toks) (ends_item p F (run_trail cs p F n) h (ends_trail cs p F h n))) tt

ends_costs : {A : Type 0} (late : Bool) (p : Cursor → Outcome A) → ((st : Cursor) → Ends (p st)) → (st : Cursor) (n : ℕ) → Ends (run_costs late p st n)
ends_costs late p h st zero = tt
ends_costs late p h st (suc l) = h (record st { left = l })

ends_follows : {A B C : Type 0} (q : Cursor → Outcome C) → ((st : Cursor) → Ends (q st)) → (x : A ⊎ B) (mid : Cursor) → Ends (run_follows {A = A} {B = B} q x mid)
ends_follows q h (inl a) mid = tt
ends_follows q h (inr b) mid = ends_bind (q mid) (λ c end. Ok (inr (b, c), end)) (h mid) (λ c end. tt)

module _ (Sym : Type 0) (Val : Sym → Type 0) (P : (s : Sym) → Cursor → Outcome (Val s)) (nested : (s : Sym) (st : Cursor) → Ends (P s st)) where
  ends : {A : Type 0} (g : G Sym Val A) (st : Cursor) → Ends (run P g st)
  ends (tok cs) st = ends_tok cs st st.toks
  ends (opens cs) st = ends_opens cs st.left st.toks
  ends (into cs s) st = ends_bind (run_opens cs st.left st.toks) (λ t mid. bind (P s mid) (λ v end. Ok ((t, v), end))) (ends_opens cs st.left st.toks) (λ t mid. ends_bind (P s mid) (λ v end. Ok ((t, v), end)) (nested s mid) (λ v end. tt))
  ends (seq p q) st = ends_bind (run P p st) (λ a mid. bind (run P q mid) (λ b end. Ok ((a, b), end))) (ends p st) (λ a mid. ends_bind (run P q mid) (λ b end. Ok ((a, b), end)) (ends q mid) (λ b end. tt))
  ends (either p q) st = ends_pick (starts (first p) st.toks) (run P p st) (run P q st) (ends p st) (ends q st)
  ends (opt p) st = ends_pick (starts (first p) st.toks) (bind (run P p st) (λ x end. Ok (Some x, end))) (Ok (None, st)) (ends_bind (run P p st) (λ x end. Ok (Some x, end)) (ends p st) (λ x end. tt)) tt
  ends (many p) st = ends_many (run P p) (first p) (ends p) (length st.toks) st
  ends (by f p) st = ends_bind (run P p st) (λ x end. Ok (f x, end)) (ends p st) (λ x end. tt)
  ends (spanned p) st = ends_bind (run P p st) (λ x end. Ok ((x, extent st.toks end.last), end)) (ends p st) (λ x end. tt)
  ends (scope p) st = ends_bind (run P p st) (λ x end. Ok (x, record end { left = st.left })) (ends p st) (λ x end. tt)
  ends (closed cs s) st = ends_bind (run_opens cs st.left st.toks) (λ t mid. bind (P s mid) (λ v end. Ok ((t, v), record end { left = suc end.left }))) (ends_opens cs st.left st.toks) (λ t mid. ends_bind (P s mid) (λ v end. Ok ((t, v), record end { left = suc end.left })) (nested s mid) (λ v end. tt))
  ends (trail cs p) st = ends_trail cs (run P p) (first p) (ends p) (length st.toks) st
  ends (costs late p) st = ends_pick (starts (first p) st.toks) (run_costs late (run P p) st st.left) (refused st.toks) (ends_costs late (run P p) (ends p) st st.left) tt
  ends (follows p q) st = ends_bind (run P p st) (λ x mid. run_follows (run P q) x mid) (ends p st) (λ x mid. ends_follows (run P q) (ends q) x mid)

ends_n : (n : ℕ) (s : Sym) (st : Cursor) → Ends (parse Sym Val rule n s st)
ends_n zero s st = tt
ends_n (suc n) s st = ends Sym Val (parse Sym Val rule n) (ends_n n) (rule s) st

ends_finish : {A : Type 0} (v : A) (end : Cursor) (ts : List Lexeme) → Ends (finish v end ts)
ends_finish v end [] = tt
ends_finish v end (t ∷ ts) = tt

outcome_ends : (levels : ℕ) (ts : List Lexeme) → Ends (outcome levels ts)
outcome_ends levels ts = ends_bind (parse Sym Val rule (suc levels) Program (start levels ts)) (λ v end. finish v end end.toks) (ends_n (suc levels) Program (start levels ts)) (λ v end. ends_finish v end end.toks)

abbrev pub Known : ℕ → List ℕ → List Token → Type 0
Known file bytes tokens = ((v : List ReadDecl) × Parses bytes tokens v) ⊎ ((f : Fault) × SyntaxFault file bytes tokens f)

known : (file : ℕ) (bytes : List ℕ) (tokens : List Token) (o : Outcome (List ReadDecl)) → outcome max_levels (lexemes bytes tokens) ≡ o → Ends o → Known file bytes tokens
known file bytes tokens (Ok r) h e = inl (r.0, parsed_tree Sym Val rule after each covered Program max_levels (lexemes bytes tokens) r.0 r.1 h)
known file bytes tokens (Err OutOfMemory) h e = absurd e
known file bytes tokens (Err (Syntax n)) h e = inr (_, inl (not_allowed_at file (length bytes) (lexemes bytes tokens) n h))
known file bytes tokens (Err (TooDeep n late)) h e = inr (_, inr (too_many_levels_at (lexemes bytes tokens) n late h))

pub tree_or_fault : (file : ℕ) (bytes : List ℕ) (tokens : List Token) → Known file bytes tokens
tree_or_fault file bytes tokens = known file bytes tokens (outcome max_levels (lexemes bytes tokens)) refl (outcome_ends max_levels (lexemes bytes tokens))
