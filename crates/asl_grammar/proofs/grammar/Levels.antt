-- With more levels the parser reads the same, up to a token that opened one too many.
use Rattle.std.proofs.Common.{◌≡◌, ℕ, zero, suc, ◌+◌, ◌≤◌, ◌⊎◌, inl, inr, Bool, true, false, List, [], ◌∷◌, length, Some, None, Ok, Err, refl, ap, sym, subst, arith}
use Rattle.asl_grammar.specs.declared.error.ParseError.TheVariants.{OutOfMemory, Syntax, TooDeep}
use Rattle.asl_grammar.specs.grammar.Kinds.{kind_of}
use Rattle.asl_grammar.specs.grammar.Cursor.{Lexeme, Cursor, Kinds, among, starts, past, extent}
use Rattle.asl_grammar.specs.grammar.Combinators.{G, tok, opens, into, seq, either, opt, many, by, spanned, scope, closed, trail, costs, follows}
use Rattle.asl_grammar.specs.grammar.Reader.{first, pick, Outcome, refused, bind, run, run_tok, run_opens, open_at, run_many, run_trail, run_costs, run_follows}
use Rattle.asl_grammar.proofs.grammar.Reading.{place, place_bind, place_many, place_item, place_trail, place_costs, place_follows, shrinks}

-- with so many more levels
abbrev pub up : ℕ → Cursor → Cursor
up d st = record st { left = st.left + d }

abbrev pub Same : {A : Type 0} → ℕ → Outcome A → Outcome A → Type 0
Same d (Ok r) o = o ≡ Ok (r.0, up d r.1)
Same d (Err (Syntax n)) o = o ≡ Err (Syntax n)
Same d (Err (TooDeep n y)) o = place o ≤ n
Same d (Err OutOfMemory) o = place o ≤ 0

same_bind : {A B : Type 0} (d : ℕ) (o o' : Outcome A) (f f' : A → Cursor → Outcome B) → Same d o o' → ((a : A) (mid : Cursor) → Same d (f a mid) (f' a (up d mid))) → ((a : A) (mid : Cursor) → place (f' a mid) ≤ length mid.toks) → Same d (bind o f) (bind o' f')
same_bind d (Ok r) o' f f' h k p = subst (λ z. Same d (f r.0 r.1) (bind z f')) (sym h) (k r.0 r.1)
same_bind d (Err (Syntax n)) o' f f' h k p = ap (λ z. bind z f') h
same_bind d (Err (TooDeep n y)) o' f f' h k p = place_bind o' f' n h p
same_bind d (Err OutOfMemory) o' f f' h k p = place_bind o' f' 0 h p

same_pick : {A : Type 0} (d : ℕ) (b : Bool) (x y x' y' : Outcome A) → Same d x x' → Same d y y' → Same d (pick b x y) (pick b x' y')
same_pick d true x y x' y' h k = h
same_pick d false x y x' y' h k = k

eq_place : (n : ℕ) → n ≤ n
eq_place n = omega arith

same_tok : (d : ℕ) (cs : Kinds) (st : Cursor) (ts : List Lexeme) → Same d (run_tok cs st ts) (run_tok cs (up d st) ts)
same_tok d cs st [] = refl
same_tok d cs st (t ∷ ts) = same_pick d (among cs (kind_of t.kind)) (Ok (t, past t ts st.left)) (refused (t ∷ ts)) (Ok (t, past t ts (st.left + d))) (refused (t ∷ ts)) refl refl

same_open : (d : ℕ) (t : Lexeme) (ts : List Lexeme) (l : ℕ) → place (open_at t ts (l + d)) ≤ length (t ∷ ts) → Same d (open_at t ts l) (open_at t ts (l + d))
same_open d t ts zero p = p
same_open d t ts (suc l) p = let e : suc l + d ≡ suc (l + d) = omega arith in ap (open_at t ts) e

place_open : (t : Lexeme) (ts : List Lexeme) (l : ℕ) → place (open_at t ts l) ≤ length (t ∷ ts)
place_open t ts zero = omega arith
place_open t ts (suc l) = omega arith

same_opens : (d : ℕ) (cs : Kinds) (l : ℕ) (ts : List Lexeme) → Same d (run_opens cs l ts) (run_opens cs (l + d) ts)
same_opens d cs l [] = refl
same_opens d cs l (t ∷ ts) = same_pick d (among cs (kind_of t.kind)) (open_at t ts l) (refused (t ∷ ts)) (open_at t ts (l + d)) (refused (t ∷ ts)) (same_open d t ts l (place_open t ts (l + d))) refl

same_many : {A : Type 0} (d : ℕ) (p p' : Cursor → Outcome A) (F : Kinds) → ((st : Cursor) → Same d (p st) (p' (up d st))) → ((st : Cursor) → place (p' st) ≤ length st.toks) → (n : ℕ) (st : Cursor) → Same d (run_many p F n st) (run_many p' F n (up d st))
same_many d p p' F h sh zero st = refl
same_many d p p' F h sh (suc n) st = same_pick d (starts F st.toks) _ (Ok ([], st)) _ (Ok ([], up d st))
    (same_bind d (p st) (p' (up d st)) _ _ (h st) (λ x mid. same_bind d (run_many p F n mid) (run_many p' F n (up d mid)) _ _ (same_many d p p' F h sh n mid) (λ xs end. refl) (λ xs end. eq_place _))
    (λ x mid. place_bind (run_many p' F n mid) (λ xs end. Ok (x ∷ xs, end)) _ (place_many p' F sh n mid) (λ xs end. eq_place _)))
    refl

same_trail : {A : Type 0} (d : ℕ) (cs : Kinds) (p p' : Cursor → Outcome A) (F : Kinds) → ((st : Cursor) → Same d (p st) (p' (up d st))) → ((st : Cursor) → place (p' st) ≤ length st.toks) → (n : ℕ) (st : Cursor) → Same d (run_trail cs p F n st) (run_trail cs p' F n (up d st))
same_trail d cs p p' F h sh zero st = refl
same_trail d cs p p' F h sh (suc n) st = same_pick d (starts cs st.toks) _ (Ok (([], None), st)) _ (Ok (([], None), up d st))
    (same_bind d (run_tok cs st st.toks) (run_tok cs (up d st) st.toks) _ _ (same_tok d cs st st.toks)
    (λ t mid. same_pick d (starts F mid.toks) _ (Ok (([], Some t), mid)) _ (Ok (([], Some t), up d mid))
    (same_bind d (p mid) (p' (up d mid)) _ _ (h mid)
    (λ x m. same_bind d (run_trail cs p F n m) (run_trail cs p' F n (up d m)) (λ r end. Ok (((t, x) ∷ r.0, r.1), end)) (λ r end. Ok (((t, x) ∷ r.0, r.1), end)) (same_trail d cs p p' F h sh n m) (λ r end. refl) (λ r end. eq_place _))
    (λ x m. place_bind (run_trail cs p' F n m) (λ r end. Ok (((t, x) ∷ r.0, r.1), end)) _ (place_trail cs p' F sh n m) (λ r end. eq_place _)))
    refl)
    (λ t mid. place_item p' F (run_trail cs p' F n) sh (place_trail cs p' F sh n) t mid))
    refl

same_costs : {A : Type 0} (d : ℕ) (late : Bool) (p p' : Cursor → Outcome A) → ((st : Cursor) → Same d (p st) (p' (up d st))) → ((st : Cursor) → place (p' st) ≤ length st.toks) → (st : Cursor) (l : ℕ) → Same d (run_costs late p st l) (run_costs late p' (up d st) (l + d))
same_costs d late p p' h sh st zero = place_costs late p' sh (up d st) (0 + d)
same_costs d late p p' h sh st (suc l) =
    let e : suc l + d ≡ suc (l + d) = omega arith in
    subst (λ z. Same d (p (record st { left = l })) (run_costs late p' (up d st) z)) (sym e) (h (record st { left = l }))

same_follows : {A B C : Type 0} (d : ℕ) (q q' : Cursor → Outcome C) → ((st : Cursor) → Same d (q st) (q' (up d st))) → (x : A ⊎ B) (mid : Cursor) → Same {A = A ⊎ (B × C)} d (run_follows q x mid) (run_follows q' x (up d mid))
same_follows d q q' h (inl a) mid = refl
same_follows d q q' h (inr b) mid = same_bind d (q mid) (q' (up d mid)) (λ c end. Ok (inr (b, c), end)) (λ c end. Ok (inr (b, c), end)) (h mid) (λ c end. refl) (λ c end. eq_place _)

pub suc_plus : (a d : ℕ) → suc a + d ≡ suc (a + d)
suc_plus a d = omega arith

module _ (Sym : Type 0) (Val : Sym → Type 0) (P P' : (s : Sym) → Cursor → Outcome (Val s)) (d : ℕ)
    (sh : (s : Sym) (st : Cursor) → place (P' s st) ≤ length st.toks) (hyp : (s : Sym) (st : Cursor) → Same d (P s st) (P' s (up d st))) where
  pub same : {A : Type 0} (g : G Sym Val A) (st : Cursor) → Same d (run P g st) (run P' g (up d st))
  same (tok cs) st = same_tok d cs st st.toks
  same (opens cs) st = same_opens d cs st.left st.toks
  same (into cs s) st = same_bind d (run_opens cs st.left st.toks) (run_opens cs (st.left + d) st.toks) _ _ (same_opens d cs st.left st.toks)
      (λ t mid. same_bind d (P s mid) (P' s (up d mid)) (λ v end. Ok ((t, v), end)) (λ v end. Ok ((t, v), end)) (hyp s mid) (λ v end. refl) (λ v end. eq_place _))
      (λ t mid. place_bind (P' s mid) (λ v end. Ok ((t, v), end)) _ (sh s mid) (λ v end. eq_place _))
  same (seq p q) st = same_bind d (run P p st) (run P' p (up d st)) _ _ (same p st)
      (λ a mid. same_bind d (run P q mid) (run P' q (up d mid)) (λ b end. Ok ((a, b), end)) (λ b end. Ok ((a, b), end)) (same q mid) (λ b end. refl) (λ b end. eq_place _))
      (λ a mid. place_bind (run P' q mid) (λ b end. Ok ((a, b), end)) _ (shrinks Sym Val P' sh q mid) (λ b end. eq_place _))
  same (either p q) st = same_pick d (starts (first p) st.toks) (run P p st) (run P q st) (run P' p (up d st)) (run P' q (up d st)) (same p st) (same q st)
  same (opt p) st = same_pick d (starts (first p) st.toks) _ (Ok (None, st)) _ (Ok (None, up d st))
      (same_bind d (run P p st) (run P' p (up d st)) (λ x end. Ok (Some x, end)) (λ x end. Ok (Some x, end)) (same p st) (λ x end. refl) (λ x end. eq_place _)) refl
  same (many p) st = same_many d (run P p) (run P' p) (first p) (same p) (shrinks Sym Val P' sh p) (length st.toks) st
  same (by f p) st = same_bind d (run P p st) (run P' p (up d st)) (λ x end. Ok (f x, end)) (λ x end. Ok (f x, end)) (same p st) (λ x end. refl) (λ x end. eq_place _)
  same (spanned p) st = same_bind d (run P p st) (run P' p (up d st)) (λ x end. Ok ((x, extent st.toks end.last), end)) (λ x end. Ok ((x, extent st.toks end.last), end)) (same p st) (λ x end. refl) (λ x end. eq_place _)
  same (scope p) st = same_bind d (run P p st) (run P' p (up d st)) (λ x end. Ok (x, record end { left = st.left })) (λ x end. Ok (x, record end { left = st.left + d })) (same p st) (λ x end. refl) (λ x end. eq_place _)
  same (closed cs s) st = same_bind d (run_opens cs st.left st.toks) (run_opens cs (st.left + d) st.toks) _ _ (same_opens d cs st.left st.toks)
      (λ t mid. same_bind d (P s mid) (P' s (up d mid)) (λ v end. Ok ((t, v), record end { left = suc end.left })) (λ v end. Ok ((t, v), record end { left = suc end.left })) (hyp s mid)
      (λ v end. ap (λ l. Ok ((t, v), record end { left = l })) (sym (suc_plus end.left d))) (λ v end. eq_place _))
      (λ t mid. place_bind (P' s mid) (λ v end. Ok ((t, v), record end { left = suc end.left })) _ (sh s mid) (λ v end. eq_place _))
  same (trail cs p) st = same_trail d cs (run P p) (run P' p) (first p) (same p) (shrinks Sym Val P' sh p) (length st.toks) st
  same (costs late p) st = same_pick d (starts (first p) st.toks) (run_costs late (run P p) st st.left) (refused st.toks) (run_costs late (run P' p) (up d st) (st.left + d)) (refused st.toks) (same_costs d late (run P p) (run P' p) (same p) (shrinks Sym Val P' sh p) st st.left) refl
  same (follows p q) st = same_bind d (run P p st) (run P' p (up d st)) _ _ (same p st) (same_follows d (run P q) (run P' q) (same q)) (λ x mid. place_follows (run P' q) (shrinks Sym Val P' sh q) x mid)

-- with more levels it stops there or later
pub same_place : {A : Type 0} (d : ℕ) (o o' : Outcome A) → Same d o o' → place o' ≤ place o
same_place d (Ok r) o' h = subst (λ z. place z ≤ length r.1.toks) (sym h) (eq_place _)
same_place d (Err (Syntax n)) o' h = subst (λ z. place z ≤ n) (sym h) (eq_place _)
same_place d (Err (TooDeep n y)) o' h = h
same_place d (Err OutOfMemory) o' h = h
