-- The parser reads what the grammar reads.
use Rattle.std.proofs.Common.{◌≡◌, ℕ, zero, suc, ◌+◌, ◌≤◌, ◌<◌, ◌⊎◌, inl, inr, Bool, true, false, List, [], ◌∷◌, ◌++◌, length, Option, Some, None, Result, Ok, Err, refl, ap, sym, ◌∙◌, subst, arith, length-append}
use Rattle.asl_grammar.specs.declared.error.ParseError.{ParseError}
use Rattle.asl_grammar.specs.grammar.Kinds.{kind_of}
use Rattle.asl_grammar.specs.grammar.Cursor.{Lexeme, Cursor, Kinds, among, starts, plus, past, extent}
use Rattle.asl_grammar.specs.grammar.Combinators.{G, tok, opens, into, seq, either, opt, many, by, spanned, scope, closed, trail, costs, follows, Reading, reads, reads_all, reads_opt, reads_tok, reads_then, reads_trail, reads_follows}
use Rattle.asl_grammar.specs.grammar.Reader.{nullable, first, cont, by_one, pick, apart, left_of, Outcome, refused, bind, run, run_tok, run_opens, open_at, run_many, run_item, run_trail, run_costs, run_follows}
use Rattle.asl_grammar.proofs.grammar.Basics.{both_true, both_three, both_four, both_five, flipped_true, starts_append-false, starts_apart, pick_cases, bind_ok}
use Rattle.asl_grammar.proofs.grammar.Readings.{TookAs, took_tok, took_then, took_twice, took_opt, Takes, Lowers, took, took_all, took_some, lowers}

-- ---- how much is left where it stops

abbrev pub place : {A : Type 0} → Outcome A → ℕ
place (Ok r) = length r.1.toks
place (Err f) = left_of f

pub place_pick : {A : Type 0} (b : Bool) (x y : Outcome A) (n : ℕ) → place x ≤ n → place y ≤ n → place (pick b x y) ≤ n
place_pick true x y n h k = h
place_pick false x y n h k = k

pub place_bind : {A B : Type 0} (o : Outcome A) (f : A → Cursor → Outcome B) (n : ℕ) → place o ≤ n → ((a : A) (mid : Cursor) → place (f a mid) ≤ length mid.toks) → place (bind o f) ≤ n
place_bind (Ok r) f n h k = let q : place (f r.0 r.1) ≤ length r.1.toks = k r.0 r.1 in omega arith
place_bind (Err e) f n h k = h

place_same : (n : ℕ) → n ≤ n
place_same n = omega arith

place_tok : (cs : Kinds) (st : Cursor) (ts : List Lexeme) → place (run_tok cs st ts) ≤ length ts
place_tok cs st [] = omega arith
place_tok cs st (t ∷ ts) = place_pick (among cs (kind_of t.kind)) (Ok (t, past t ts st.left)) (refused (t ∷ ts)) _ (omega arith) (omega arith)

place_open : (t : Lexeme) (ts : List Lexeme) (l : ℕ) → place (open_at t ts l) ≤ length (t ∷ ts)
place_open t ts zero = omega arith
place_open t ts (suc l) = omega arith

pub place_opens : (cs : Kinds) (l : ℕ) (ts : List Lexeme) → place (run_opens cs l ts) ≤ length ts
place_opens cs l [] = omega arith
place_opens cs l (t ∷ ts) = place_pick (among cs (kind_of t.kind)) (open_at t ts l) (refused (t ∷ ts)) _ (place_open t ts l) (omega arith)

pub place_many : {A : Type 0} (p : Cursor → Outcome A) (F : Kinds) → ((st : Cursor) → place (p st) ≤ length st.toks) → (n : ℕ) (st : Cursor) → place (run_many p F n st) ≤ length st.toks
place_many p F h zero st = omega arith
place_many p F h (suc n) st = place_pick (starts F st.toks) (bind (p st) (λ x mid. bind (run_many p F n mid) (λ xs end. Ok (x ∷ xs, end)))) (Ok ([], st)) _
    (place_bind (p st) _ _ (h st) (λ x mid. place_bind (run_many p F n mid) (λ xs end. Ok (x ∷ xs, end)) _ (place_many p F h n mid) (λ xs end. place_same _)))
    (omega arith)

pub place_token : (cs : Kinds) (st : Cursor) (ts : List Lexeme) → place (run_tok cs st ts) ≤ length ts
place_token cs st ts = place_tok cs st ts

pub place_item : {A : Type 0} (p : Cursor → Outcome A) (F : Kinds) (next : Cursor → Outcome (List (Lexeme × A) × Option Lexeme)) → ((st : Cursor) → place (p st) ≤ length st.toks) → ((st : Cursor) → place (next st) ≤ length st.toks)
    → (t : Lexeme) (mid : Cursor) → place (run_item p F next t mid) ≤ length mid.toks
place_item p F next h k t mid = place_pick (starts F mid.toks) (bind (p mid) (λ x m. bind (next m) (λ r end. Ok (((t, x) ∷ r.0, r.1), end)))) (Ok (([], Some t), mid)) _
    (place_bind (p mid) _ _ (h mid) (λ x m. place_bind (next m) (λ r end. Ok (((t, x) ∷ r.0, r.1), end)) _ (k m) (λ r end. place_same _)))
    (place_same _)

pub place_trail : {A : Type 0} (cs : Kinds) (p : Cursor → Outcome A) (F : Kinds) → ((st : Cursor) → place (p st) ≤ length st.toks) → (n : ℕ) (st : Cursor) → place (run_trail cs p F n st) ≤ length st.toks
place_trail cs p F h zero st = place_same _
place_trail cs p F h (suc n) st = place_pick (starts cs st.toks) (bind (run_tok cs st st.toks) (λ t mid. run_item p F (run_trail cs p F n) t mid)) (Ok (([], None), st)) _
    (place_bind (run_tok cs st st.toks) _ _ (place_tok cs st st.toks) (λ t mid. place_item p F (run_trail cs p F n) h (place_trail cs p F h n) t mid))
    (place_same _)

pub place_costs : {A : Type 0} (late : Bool) (p : Cursor → Outcome A) → ((st : Cursor) → place (p st) ≤ length st.toks) → (st : Cursor) (l : ℕ) → place (run_costs late p st l) ≤ length st.toks
place_costs late p h st zero = place_same _
place_costs late p h st (suc l) = h (record st { left = l })

pub place_follows : {A B C : Type 0} (q : Cursor → Outcome C) → ((st : Cursor) → place (q st) ≤ length st.toks) → (x : A ⊎ B) (mid : Cursor) → place (run_follows q x mid) ≤ length mid.toks
place_follows q h (inl a) mid = place_same _
place_follows q h (inr b) mid = place_bind (q mid) (λ c end. Ok (inr (b, c), end)) _ (h mid) (λ c end. place_same _)

module _ (Sym : Type 0) (Val : Sym → Type 0) (P : (s : Sym) → Cursor → Outcome (Val s)) (shr : (s : Sym) (st : Cursor) → place (P s st) ≤ length st.toks) where
  pub shrinks : {A : Type 0} (g : G Sym Val A) (st : Cursor) → place (run P g st) ≤ length st.toks
  shrinks (tok cs) st = place_tok cs st st.toks
  shrinks (opens cs) st = place_opens cs st.left st.toks
  shrinks (into cs s) st = place_bind (run_opens cs st.left st.toks) _ _ (place_opens cs st.left st.toks) (λ t mid. place_bind (P s mid) (λ v end. Ok ((t, v), end)) _ (shr s mid) (λ v end. place_same _))
  shrinks (seq p q) st = place_bind (run P p st) _ _ (shrinks p st) (λ a mid. place_bind (run P q mid) (λ b end. Ok ((a, b), end)) _ (shrinks q mid) (λ b end. place_same _))
  shrinks (either p q) st = place_pick (starts (first p) st.toks) (run P p st) (run P q st) _ (shrinks p st) (shrinks q st)
  shrinks (opt p) st = place_pick (starts (first p) st.toks) _ (Ok (None, st)) _ (place_bind (run P p st) (λ x end. Ok (Some x, end)) _ (shrinks p st) (λ x end. place_same _)) (place_same _)
  shrinks (many p) st = place_many (run P p) (first p) (shrinks p) (length st.toks) st
  shrinks (by f p) st = place_bind (run P p st) (λ x end. Ok (f x, end)) _ (shrinks p st) (λ x end. place_same _)
  shrinks (spanned p) st = place_bind (run P p st) (λ x end. Ok ((x, extent st.toks end.last), end)) _ (shrinks p st) (λ x end. place_same _)
  shrinks (scope p) st = place_bind (run P p st) (λ x end. Ok (x, record end { left = st.left })) _ (shrinks p st) (λ x end. place_same _)
  shrinks (closed cs s) st = place_bind (run_opens cs st.left st.toks) _ _ (place_opens cs st.left st.toks) (λ t mid. place_bind (P s mid) (λ v end. Ok ((t, v), record end { left = suc end.left })) _ (shr s mid) (λ v end. place_same _))
  shrinks (trail cs p) st = place_trail cs (run P p) (first p) (shrinks p) (length st.toks) st
  shrinks (costs late p) st = place_pick (starts (first p) st.toks) (run_costs late (run P p) st st.left) (refused st.toks) _ (place_costs late (run P p) (shrinks p) st st.left) (place_same _)
  shrinks (follows p q) st = place_bind (run P p st) _ _ (shrinks p st) (λ x mid. place_follows (run P q) (shrinks q) x mid)

-- ---- what the parser reads is read

pub ok_same : {A : Type 0} {x y : A} → (let o : Result A ParseError = Ok x in o) ≡ Ok y → x ≡ y
ok_same h = cc

ok_to : {A : Type 0} (P : Reading A) (st : Cursor) (x : A) (mid : Cursor) (a : A) (end : Cursor) → (let o : Outcome A = Ok (x, mid) in o) ≡ Ok (a, end) → P st x mid → P st a end
ok_to {A} P st x mid a end h p = subst (λ (r : A × Cursor). P st r.0 r.1) (ok_same h) p

not_err : {A : Type 0} {x : A} {f : ParseError} → (let o : Result A ParseError = Ok x in o) ≡ Err f → ⊥
not_err h = cc

not_ok : {A : Type 0} {x : A} {f : ParseError} → (let o : Result A ParseError = Err f in o) ≡ Ok x → ⊥
not_ok h = cc

-- what `run_tok` and `run_opens` say of the tokens
pub tok_ok : (cs : Kinds) (st : Cursor) (toks : List Lexeme) (a : Lexeme) (end : Cursor) → run_tok cs st toks ≡ Ok (a, end) → (ts : List Lexeme) × (toks ≡ a ∷ ts) × (among cs (kind_of a.kind) ≡ true) × (end ≡ past a ts st.left)
tok_ok cs st [] a end h = absurd (not_ok h)
tok_ok cs st (t ∷ ts) a end h = elim (pick_cases (among cs (kind_of t.kind)) (Ok (t, past t ts st.left)) (refused (t ∷ ts)) (Ok (a, end)) h) [
  | inl k ↦ subst (λ (r : Lexeme × Cursor). (us : List Lexeme) × ((t ∷ ts) ≡ r.0 ∷ us) × (among cs (kind_of r.0.kind) ≡ true) × (r.1 ≡ past r.0 us st.left)) (ok_same k.1) (ts, refl, k.0, refl)
  | inr k ↦ absurd (not_ok k.1)
]

open_ok : (t : Lexeme) (ts : List Lexeme) (left : ℕ) (a : Lexeme) (end : Cursor) → open_at t ts left ≡ Ok (a, end) → (l : ℕ) × (left ≡ suc l) × (t ≡ a) × (end ≡ past a ts l)
open_ok t ts zero a end h = absurd (not_ok h)
open_ok t ts (suc l) a end h = subst (λ (r : Lexeme × Cursor). (m : ℕ) × (suc l ≡ suc m) × (t ≡ r.0) × (r.1 ≡ past r.0 ts m)) (ok_same h) (l, refl, refl, refl)

pub opens_ok : (cs : Kinds) (left : ℕ) (toks : List Lexeme) (a : Lexeme) (end : Cursor) → run_opens cs left toks ≡ Ok (a, end) → (ts : List Lexeme) × (l : ℕ) × (toks ≡ a ∷ ts) × (among cs (kind_of a.kind) ≡ true) × (left ≡ suc l) × (end ≡ past a ts l)
opens_ok cs left [] a end h = absurd (not_ok h)
opens_ok cs left (t ∷ ts) a end h = elim (pick_cases (among cs (kind_of t.kind)) (open_at t ts left) (refused (t ∷ ts)) (Ok (a, end)) h) [
  | inl k ↦ (let o = open_ok t ts left a end k.1 in (ts, o.0, ap (λ x. x ∷ ts) o.2, ap (λ (x : Lexeme). among cs (kind_of x.kind)) (sym o.2) ∙ k.0, o.1, o.3))
  | inr k ↦ absurd (not_ok k.1)
]

pub sound_many : {A : Type 0} (p : Cursor → Outcome A) (P : Reading A) (F : Kinds) → ((st : Cursor) (a : A) (end : Cursor) → p st ≡ Ok (a, end) → P st a end) → (n : ℕ) (st : Cursor) (xs : List A) (end : Cursor) → run_many p F n st ≡ Ok (xs, end) → reads_all P st xs end
sound_many p P F h zero st xs end e = ok_to (reads_all P) st [] st xs end e refl
sound_many p P F h (suc n) st xs end e = elim (pick_cases (starts F st.toks) _ (Ok ([], st)) (Ok (xs, end)) e) [
  | inl k ↦ (let o = bind_ok (p st) _ xs end k.1 in let o' = bind_ok (run_many p F n o.1) _ xs end o.3 in ok_to (reads_all P) st (o.0 ∷ o'.0) o'.1 xs end o'.3 (o.1, h st o.0 o.1 o.2, sound_many p P F h n o.1 o'.0 o'.1 o'.2))
  | inr k ↦ ok_to (reads_all P) st [] st xs end k.1 refl
]

pub sound_trail : {A : Type 0} (cs : Kinds) (p : Cursor → Outcome A) (P : Reading A) (F : Kinds) → ((st : Cursor) (a : A) (end : Cursor) → p st ≡ Ok (a, end) → P st a end)
    → (n : ℕ) (st : Cursor) (a : List (Lexeme × A) × Option Lexeme) (end : Cursor) → run_trail cs p F n st ≡ Ok (a, end) → reads_trail cs P st a end
sound_trail cs p P F h zero st a end e = ok_to (reads_trail cs P) st ([], None) st a end e (st, refl, refl)
sound_trail cs p P F h (suc n) st a end e = elim (pick_cases (starts cs st.toks) _ (Ok (([], None), st)) (Ok (a, end)) e) [
  | inr k ↦ ok_to (reads_trail cs P) st ([], None) st a end k.1 (st, refl, refl)
  | inl k ↦ (let o = bind_ok (run_tok cs st st.toks) _ a end k.1 in
      let t = tok_ok cs st st.toks o.0 o.1 o.2 in
      elim (pick_cases (starts F o.1.toks) _ (Ok (([], Some o.0), o.1)) (Ok (a, end)) o.3) [
        | inr m ↦ ok_to (reads_trail cs P) st ([], Some o.0) o.1 a end m.1 (st, refl, t)
        | inl m ↦ (let u = bind_ok (p o.1) _ a end m.1 in
            let v = bind_ok (run_trail cs p F n u.1) _ a end u.3 in
            let r = sound_trail cs p P F h n u.1 v.0 v.1 v.2 in
            ok_to (reads_trail cs P) st ((o.0, u.0) ∷ v.0.0, v.0.1) v.1 a end v.3 (r.0, (u.1, (o.1, t, h o.1 u.0 u.1 u.2), r.1), r.2))
      ])
]

pub sound_costs : {A : Type 0} (late : Bool) (p : Cursor → Outcome A) (P : Reading A) → ((st : Cursor) (a : A) (end : Cursor) → p st ≡ Ok (a, end) → P st a end)
    → (st : Cursor) (left : ℕ) (a : A) (end : Cursor) → run_costs late p st left ≡ Ok (a, end) → (l : ℕ) × (left ≡ suc l) × P (record st { left = l }) a end
sound_costs late p P h st zero a end e = absurd (not_ok e)
sound_costs late p P h st (suc l) a end e = (l, refl, h (record st { left = l }) a end e)

pub sound_follows : {A B C : Type 0} (P : Reading (A ⊎ B)) (q : Cursor → Outcome C) (Q : Reading C) → ((st : Cursor) (a : C) (end : Cursor) → q st ≡ Ok (a, end) → Q st a end)
    → (st : Cursor) (x : A ⊎ B) (mid : Cursor) → P st x mid → (a : A ⊎ (B × C)) (end : Cursor) → run_follows q x mid ≡ Ok (a, end) → reads_follows P Q st a end
sound_follows P q Q h st (inl x) mid r a end e = ok_to (reads_follows P Q) st (inl x) mid a end e r
sound_follows P q Q h st (inr x) mid r a end e = let o = bind_ok (q mid) _ a end e in ok_to (reads_follows P Q) st (inr (x, o.0)) o.1 a end o.3 (mid, r, h mid o.0 o.1 o.2)

module _ (Sym : Type 0) (Val : Sym → Type 0) (R : (s : Sym) → Reading (Val s)) (P : (s : Sym) → Cursor → Outcome (Val s))
    (hyp : (s : Sym) (st : Cursor) (v : Val s) (end : Cursor) → P s st ≡ Ok (v, end) → R s st v end) where
  pub sound : {A : Type 0} (g : G Sym Val A) (st : Cursor) (a : A) (end : Cursor) → run P g st ≡ Ok (a, end) → reads R g st a end
  sound (tok cs) st a end h = tok_ok cs st st.toks a end h
  sound (opens cs) st a end h = opens_ok cs st.left st.toks a end h
  sound (into cs s) st a end h =
      let o = bind_ok (run_opens cs st.left st.toks) _ a end h in
      let k = opens_ok cs st.left st.toks o.0 o.1 o.2 in
      let o' = bind_ok (P s o.1) _ a end o.3 in
      ok_to (reads R (into cs s)) st (o.0, o'.0) o'.1 a end o'.3 (k.0, k.1, k.2, k.3, k.4, subst (λ c. R s c o'.0 o'.1) k.5 (hyp s o.1 o'.0 o'.1 o'.2))
  sound (seq p q) st a end h =
      let o = bind_ok (run P p st) _ a end h in
      let o' = bind_ok (run P q o.1) _ a end o.3 in
      ok_to (reads R (seq p q)) st (o.0, o'.0) o'.1 a end o'.3 (o.1, sound p st o.0 o.1 o.2, sound q o.1 o'.0 o'.1 o'.2)
  sound (either p q) st a end h = elim (pick_cases (starts (first p) st.toks) (run P p st) (run P q st) (Ok (a, end)) h) [ inl k ↦ inl (sound p st a end k.1) | inr k ↦ inr (sound q st a end k.1) ]
  sound (opt p) st a end h = elim (pick_cases (starts (first p) st.toks) _ (Ok (None, st)) (Ok (a, end)) h) [
    | inl k ↦ (let o = bind_ok (run P p st) _ a end k.1 in ok_to (reads_opt (reads R p)) st (Some o.0) o.1 a end o.3 (sound p st o.0 o.1 o.2))
    | inr k ↦ ok_to (reads_opt (reads R p)) st None st a end k.1 refl
  ]
  sound (many p) st a end h = sound_many (run P p) (reads R p) (first p) (sound p) (length st.toks) st a end h
  sound (by f p) st a end h = let o = bind_ok (run P p st) _ a end h in ok_to (reads R (by f p)) st (f o.0) o.1 a end o.3 (o.0, sound p st o.0 o.1 o.2, refl)
  sound (spanned p) st a end h = let o = bind_ok (run P p st) _ a end h in ok_to (reads R (spanned p)) st (o.0, extent st.toks o.1.last) o.1 a end o.3 (sound p st o.0 o.1 o.2, refl)
  sound (scope p) st a end h = let o = bind_ok (run P p st) _ a end h in ok_to (reads R (scope p)) st o.0 (record o.1 { left = st.left }) a end o.3 (o.1, sound p st o.0 o.1 o.2, refl)
  sound (closed cs s) st a end h =
      let o = bind_ok (run_opens cs st.left st.toks) _ a end h in
      let k = opens_ok cs st.left st.toks o.0 o.1 o.2 in
      let o' = bind_ok (P s o.1) _ a end o.3 in
      ok_to (reads R (closed cs s)) st (o.0, o'.0) (record o'.1 { left = suc o'.1.left }) a end o'.3 (k.0, k.1, o'.1, k.2, k.3, k.4, subst (λ c. R s c o'.0 o'.1) k.5 (hyp s o.1 o'.0 o'.1 o'.2), refl)
  sound (trail cs p) st a end h = sound_trail cs (run P p) (reads R p) (first p) (sound p) (length st.toks) st a end h
  sound (costs late p) st a end h = elim (pick_cases (starts (first p) st.toks) (run_costs late (run P p) st st.left) (refused st.toks) (Ok (a, end)) h) [
    | inl k ↦ sound_costs late (run P p) (reads R p) (sound p) st st.left a end k.1
    | inr k ↦ absurd (not_ok k.1)
  ]
  sound (follows p q) st a end h = let o = bind_ok (run P p st) _ a end h in sound_follows (reads R p) (run P q) (reads R q) (sound q) st o.0 o.1 (sound p st o.0 o.1 o.2) a end o.3

-- ---- what the grammar reads the parser reads, with more behind it by which it doesn't go on

pub starts_more : (F : Kinds) (ts more : List Lexeme) → starts F ts ≡ true → starts F (ts ++ more) ≡ true
starts_more F [] more h = cc
starts_more F (t ∷ ts) more h = h

-- the tokens after p, where q follows, are none by which p goes on
pub follow : (C F : Kinds) (n : Bool) (C' : Kinds) (mid end : Cursor) (more : List Lexeme) → apart C F ≡ true → TookAs F n mid end → starts (C' ++ pick n C []) (end.toks ++ more) ≡ false → starts C (mid.toks ++ more) ≡ false
follow C F n C' mid end more a (inl h) c = starts_apart C F (mid.toks ++ more) a (starts_more F mid.toks more h.0)
follow C F n C' mid end more a (inr h) c =
    let k : starts (pick n C []) (end.toks ++ more) ≡ false = (starts_append-false C' (pick n C []) (end.toks ++ more) c).1 in
    let k' : starts C (end.toks ++ more) ≡ false = subst (λ b. starts (pick b C []) (end.toks ++ more) ≡ false) h.0 k in
    ap (λ ts. starts C (ts ++ more)) (sym h.1) ∙ k'

follow_many : (C F : Kinds) (mid end : Cursor) (more : List Lexeme) → apart C F ≡ true → TookAs F true mid end → starts (F ++ C) (end.toks ++ more) ≡ false → starts C (mid.toks ++ more) ≡ false
follow_many C F mid end more a (inl h) c = starts_apart C F (mid.toks ++ more) a (starts_more F mid.toks more h.0)
follow_many C F mid end more a (inr h) c = ap (λ ts. starts C (ts ++ more)) (sym h.1) ∙ (starts_append-false F C (end.toks ++ more) c).1

pub run_tok_at : (cs : Kinds) (st : Cursor) (toks : List Lexeme) (t : Lexeme) (ts : List Lexeme) → toks ≡ t ∷ ts → among cs (kind_of t.kind) ≡ true → run_tok cs st toks ≡ Ok (t, past t ts st.left)
run_tok_at cs st toks t ts e m = ap (run_tok cs st) e ∙ ap (λ b. pick b (Ok (t, past t ts st.left)) (refused (t ∷ ts))) m

pub run_opens_at : (cs : Kinds) (left l : ℕ) (toks : List Lexeme) (t : Lexeme) (ts : List Lexeme) → toks ≡ t ∷ ts → among cs (kind_of t.kind) ≡ true → left ≡ suc l → run_opens cs left toks ≡ Ok (t, past t ts l)
run_opens_at cs left l toks t ts e m lv = ap (run_opens cs left) e ∙ ap (λ b. pick b (open_at t ts left) (refused (t ∷ ts))) m ∙ ap (open_at t ts) lv

span_more : (ts more : List Lexeme) (l : ℕ) → 0 < length ts → extent (ts ++ more) l ≡ extent ts l
span_more [] more l h = absurd (omega arith)
span_more (t ∷ ts) more l h = refl

pub run_many_in : {A : Type 0} (p : Cursor → Outcome A) (F : Kinds) (n : ℕ) (st mid : Cursor) (x : A) → starts F st.toks ≡ true → p st ≡ Ok (x, mid) → run_many p F (suc n) st ≡ bind (run_many p F n mid) (λ xs end. Ok (x ∷ xs, end))
run_many_in p F n st mid x s e = ap (λ b. pick b (bind (p st) (λ x mid. bind (run_many p F n mid) (λ xs end. Ok (x ∷ xs, end)))) (Ok ([], st))) s ∙ ap (λ o. bind o (λ x mid. bind (run_many p F n mid) (λ xs end. Ok (x ∷ xs, end)))) e

pub run_many_out : {A : Type 0} (p : Cursor → Outcome A) (F : Kinds) (n : ℕ) (st : Cursor) → starts F st.toks ≡ false → run_many p F n st ≡ Ok ([], st)
run_many_out p F zero st s = refl
run_many_out p F (suc n) st s = ap (λ b. pick b (bind (p st) (λ x mid. bind (run_many p F n mid) (λ xs end. Ok (x ∷ xs, end)))) (Ok ([], st))) s

-- what one item needs
abbrev pub Completes : {A : Type 0} → Reading A → (Cursor → Outcome A) → Kinds → ℕ → Type 0
Completes {A} P p C n = (st : Cursor) (a : A) (end : Cursor) → P st a end → st.left ≤ n → (more : List Lexeme) → starts C (end.toks ++ more) ≡ false → p (plus st more) ≡ Ok (a, plus end more)

complete_many : {A : Type 0} (P : Reading A) (p : Cursor → Outcome A) (C F : Kinds) (nl : Bool) (n : ℕ) → Takes P F nl → nl ≡ false → Lowers P → Completes P p C n → apart C F ≡ true
    → (k : ℕ) (xs : List A) (st end : Cursor) → reads_all P st xs end → st.left ≤ n → (more : List Lexeme) → starts (F ++ C) (end.toks ++ more) ≡ false → length st.toks + length more ≤ k → run_many p F k (plus st more) ≡ Ok (xs, plus end more)
complete_many P p C F nl n takes e0 lo comp ap' k [] st end r le more c le' =
    let s : starts F (st.toks ++ more) ≡ false = ap (λ (z : Cursor). starts F (z.toks ++ more)) (sym r) ∙ (starts_append-false F C (end.toks ++ more) c).0 in
    run_many_out p F k (plus st more) s ∙ ap (λ z. Ok ([], plus z more)) (sym r)
complete_many P p C F nl n takes e0 lo comp ap' zero (x ∷ xs) st end r le more c le' =
    let t = took_some F nl st r.0 e0 (takes st x r.0 r.1) in
    let q : length r.0.toks < length st.toks = t.1 in
    absurd (omega arith)
complete_many P p C F nl n takes e0 lo comp ap' (suc k) (x ∷ xs) st end r le more c le' =
    let t = took_some F nl st r.0 e0 (takes st x r.0 r.1) in
    let q : length r.0.toks < length st.toks = t.1 in
    let l : r.0.left ≤ st.left = lo st x r.0 r.1 in
    let one = comp st x r.0 r.1 le more (follow_many C F r.0 end more ap' (took_all P F nl takes xs r.0 end r.2) c) in
    run_many_in p F k (plus st more) (plus r.0 more) x (starts_more F st.toks more t.0) one
    ∙ ap (λ o. bind o (λ xs end. Ok (x ∷ xs, end))) (complete_many P p C F nl n takes e0 lo comp ap' k xs r.0 end r.2 (omega arith) more c (omega arith))

complete_opt : {A : Type 0} (P : Reading A) (p : Cursor → Outcome A) (C F : Kinds) (nl : Bool) (n : ℕ) → Takes P F nl → nl ≡ false → Completes P p C n
    → (a : Option A) (st end : Cursor) → reads_opt P st a end → st.left ≤ n → (more : List Lexeme) → starts (F ++ C) (end.toks ++ more) ≡ false → pick (starts F (st.toks ++ more)) (bind (p (plus st more)) (λ x end. Ok (Some x, end))) (Ok (None, plus st more)) ≡ Ok (a, plus end more)
complete_opt P p C F nl n takes e0 comp None st end r le more c =
    let s : starts F (st.toks ++ more) ≡ false = ap (λ (z : Cursor). starts F (z.toks ++ more)) (sym r) ∙ (starts_append-false F C (end.toks ++ more) c).0 in
    ap (λ b. pick b (bind (p (plus st more)) (λ x end. Ok (Some x, end))) (Ok (None, plus st more))) s ∙ ap (λ z. Ok (None, plus z more)) (sym r)
complete_opt P p C F nl n takes e0 comp (Some x) st end r le more c =
    let s : starts F (st.toks ++ more) ≡ true = starts_more F st.toks more (took_some F nl st end e0 (takes st x end r)).0 in
    ap (λ b. pick b (bind (p (plus st more)) (λ x end. Ok (Some x, end))) (Ok (None, plus st more))) s
    ∙ ap (λ o. bind o (λ x end. Ok (Some x, end))) (comp st x end r le more (starts_append-false F C (end.toks ++ more) c).1)

pub run_trail_out : {A : Type 0} (cs : Kinds) (p : Cursor → Outcome A) (F : Kinds) (n : ℕ) (st : Cursor) → starts cs st.toks ≡ false → run_trail cs p F n st ≡ Ok (([], None), st)
run_trail_out cs p F zero st s = refl
run_trail_out cs p F (suc n) st s = ap (λ b. pick b (bind (run_tok cs st st.toks) (λ t mid. run_item p F (run_trail cs p F n) t mid)) (Ok (([], None), st))) s

pub run_trail_in : {A : Type 0} (cs : Kinds) (p : Cursor → Outcome A) (F : Kinds) (n : ℕ) (st : Cursor) (t : Lexeme) (ts : List Lexeme) → st.toks ≡ t ∷ ts → among cs (kind_of t.kind) ≡ true → run_trail cs p F (suc n) st ≡ run_item p F (run_trail cs p F n) t (past t ts st.left)
run_trail_in cs p F n st t ts e m =
    ap (λ b. pick b (bind (run_tok cs st st.toks) (λ t mid. run_item p F (run_trail cs p F n) t mid)) (Ok (([], None), st))) (ap (starts cs) e ∙ m)
    ∙ ap (λ o. bind o (λ t mid. run_item p F (run_trail cs p F n) t mid)) (run_tok_at cs st st.toks t ts e m)

pub run_item_out : {A : Type 0} (p : Cursor → Outcome A) (F : Kinds) (next : Cursor → Outcome (List (Lexeme × A) × Option Lexeme)) (t : Lexeme) (mid : Cursor) → starts F mid.toks ≡ false → run_item p F next t mid ≡ Ok (([], Some t), mid)
run_item_out p F next t mid s = ap (λ b. pick b (bind (p mid) (λ x m. bind (next m) (λ r end. Ok (((t, x) ∷ r.0, r.1), end)))) (Ok (([], Some t), mid))) s

pub run_item_in : {A : Type 0} (p : Cursor → Outcome A) (F : Kinds) (next : Cursor → Outcome (List (Lexeme × A) × Option Lexeme)) (t : Lexeme) (mid : Cursor) → starts F mid.toks ≡ true → run_item p F next t mid ≡ bind (p mid) (λ x m. bind (next m) (λ r end. Ok (((t, x) ∷ r.0, r.1), end)))
run_item_in p F next t mid s = ap (λ b. pick b (bind (p mid) (λ x m. bind (next m) (λ r end. Ok (((t, x) ∷ r.0, r.1), end)))) (Ok (([], Some t), mid))) s

pub more_toks : (st : Cursor) (t : Lexeme) (ts more : List Lexeme) → st.toks ≡ t ∷ ts → (plus st more).toks ≡ t ∷ (ts ++ more)
more_toks st t ts more e = ap (λ us. us ++ more) e

-- behind an item no item goes on
pub follow_trail : (C cs F : Kinds) (mid end : Cursor) (more : List Lexeme) → apart C cs ≡ true → TookAs cs true mid end → starts (cs ++ (F ++ C)) (end.toks ++ more) ≡ false → starts C (mid.toks ++ more) ≡ false
follow_trail C cs F mid end more a (inl h) c = starts_apart C cs (mid.toks ++ more) a (starts_more cs mid.toks more h.0)
follow_trail C cs F mid end more a (inr h) c = ap (λ ts. starts C (ts ++ more)) (sym h.1) ∙ (starts_append-false F C (end.toks ++ more) (starts_append-false cs (F ++ C) (end.toks ++ more) c).1).1

complete_sep : {A : Type 0} (cs : Kinds) (p : Cursor → Outcome A) (C F : Kinds) (k : ℕ) (o : Option Lexeme) (st end : Cursor) → reads_opt (reads_tok cs) st o end → (more : List Lexeme) → starts (cs ++ (F ++ C)) (end.toks ++ more) ≡ false → length st.toks + length more ≤ k → run_trail cs p F k (plus st more) ≡ Ok (([], o), plus end more)
complete_sep cs p C F k None st end r more c le =
    let s : starts cs (st.toks ++ more) ≡ false = ap (λ (z : Cursor). starts cs (z.toks ++ more)) (sym r) ∙ (starts_append-false cs (F ++ C) (end.toks ++ more) c).0 in
    run_trail_out cs p F k (plus st more) s ∙ ap (λ z. Ok (([], None), plus z more)) (sym r)
complete_sep cs p C F zero (Some t) st end r more c le = let q : length st.toks ≡ suc (length r.0) = ap length r.1 in absurd (omega arith)
complete_sep cs p C F (suc k) (Some t) st end r more c le =
    let s : starts F (end.toks ++ more) ≡ false = (starts_append-false F C (end.toks ++ more) (starts_append-false cs (F ++ C) (end.toks ++ more) c).1).0 in
    run_trail_in cs p F k (plus st more) t (r.0 ++ more) (more_toks st t r.0 more r.1) r.2
    ∙ ap (λ z. run_item p F (run_trail cs p F k) t (plus z more)) (sym r.3)
    ∙ run_item_out p F (run_trail cs p F k) t (plus end more) s

complete_trail : {A : Type 0} (cs : Kinds) (P : Reading A) (p : Cursor → Outcome A) (C F : Kinds) (nl : Bool) (n : ℕ) → Takes P F nl → nl ≡ false → Lowers P → Completes P p C n → apart C cs ≡ true
    → (k : ℕ) (xs : List (Lexeme × A)) (o : Option Lexeme) (st mid end : Cursor) → reads_all (reads_then cs P) st xs mid → reads_opt (reads_tok cs) mid o end → st.left ≤ n → (more : List Lexeme) → starts (cs ++ (F ++ C)) (end.toks ++ more) ≡ false → length st.toks + length more ≤ k → run_trail cs p F k (plus st more) ≡ Ok ((xs, o), plus end more)
complete_trail cs P p C F nl n takes e0 lo comp ap' k [] o st mid end r ro le more c le' = complete_sep cs p C F k o st end (subst (λ z. reads_opt (reads_tok cs) z o end) r ro) more c le'
complete_trail cs P p C F nl n takes e0 lo comp ap' zero (x ∷ xs) o st mid end r ro le more c le' = let q : length st.toks ≡ suc (length r.1.1.0) = ap length r.1.1.1 in absurd (omega arith)
complete_trail cs P p C F nl n takes e0 lo comp ap' (suc k) (x ∷ xs) o st mid end r ro le more c le' =
    let tk = r.1.1 in
    let m : Cursor = r.1.0 in
    let q : length st.toks ≡ suc (length tk.0) = ap length tk.1 in
    let lm : m.left ≡ st.left = ap (λ (c : Cursor). c.left) tk.3 in
    let tm : length m.toks ≡ length tk.0 = ap (λ (c : Cursor). length c.toks) tk.3 in
    let t = took_some F nl m r.0 e0 (takes m x.1 r.0 r.1.2) in
    let q' : length r.0.toks < length m.toks = t.1 in
    let l : r.0.left ≤ m.left = lo m x.1 r.0 r.1.2 in
    let rest = took_twice cs r.0 mid end (took_all (reads_then cs P) cs false (took_then cs P F nl takes) xs r.0 mid r.2) (took_opt (reads_tok cs) cs false (took_tok cs) refl o mid end ro) in
    let one = comp m x.1 r.0 r.1.2 (omega arith) more (follow_trail C cs F r.0 end more ap' rest c) in
    run_trail_in cs p F k (plus st more) x.0 (tk.0 ++ more) (more_toks st x.0 tk.0 more tk.1) tk.2
    ∙ ap (λ z. run_item p F (run_trail cs p F k) x.0 (plus z more)) (sym tk.3)
    ∙ run_item_in p F (run_trail cs p F k) x.0 (plus m more) (starts_more F m.toks more t.0)
    ∙ ap (λ z. bind z (λ y m. bind (run_trail cs p F k m) (λ r end. Ok (((x.0, y) ∷ r.0, r.1), end)))) one
    ∙ ap (λ z. bind z (λ r end. Ok (((x.0, x.1) ∷ r.0, r.1), end))) (complete_trail cs P p C F nl n takes e0 lo comp ap' k xs o r.0 mid end r.2 ro (omega arith) more c (omega arith))

complete_follows : {A B C : Type 0} (P : Reading (A ⊎ B)) (p : Cursor → Outcome (A ⊎ B)) (Q : Reading C) (q : Cursor → Outcome C) (K F' K' : Kinds) (n' : Bool) (n : ℕ) → Takes Q F' n' → Lowers P → Completes P p K n → Completes Q q K' n → apart K F' ≡ true
    → (a : A ⊎ (B × C)) (st end : Cursor) → reads_follows P Q st a end → st.left ≤ n → (more : List Lexeme) → starts (K' ++ K) (end.toks ++ more) ≡ false → bind (p (plus st more)) (λ x mid. run_follows q x mid) ≡ Ok (a, plus end more)
complete_follows P p Q q K F' K' n' n tq lo cp cq apt (inl a) st end r le more c =
    ap (λ o. bind o (λ x mid. run_follows q x mid)) (cp st (inl a) end r le more (starts_append-false K' K (end.toks ++ more) c).1)
complete_follows P p Q q K F' K' n' n tq lo cp cq apt (inr a) st end r le more c =
    let l : r.0.left ≤ st.left = lo st (inr a.0) r.0 r.1 in
    let c2 = starts_append-false K' K (end.toks ++ more) c in
    ap (λ o. bind o (λ x mid. run_follows q x mid)) (cp st (inr a.0) r.0 r.1 le more (follow_two K F' n' r.0 end more apt (tq r.0 a.1 end r.2) c2.1))
    ∙ ap (λ o. bind o (λ z end. Ok (inr (a.0, z), end))) (cq r.0 a.1 end r.2 (omega arith) more c2.0)
  where
    follow_two : (K F' : Kinds) (n' : Bool) (mid end : Cursor) (more : List Lexeme) → apart K F' ≡ true → TookAs F' n' mid end → starts K (end.toks ++ more) ≡ false → starts K (mid.toks ++ more) ≡ false
    follow_two K F' n' mid end more a (inl h) c = starts_apart K F' (mid.toks ++ more) a (starts_more F' mid.toks more h.0)
    follow_two K F' n' mid end more a (inr h) c = ap (λ ts. starts K (ts ++ more)) (sym h.1) ∙ c

module _ (Sym : Type 0) (Val : Sym → Type 0) (after : Sym → Kinds) (R : (s : Sym) → Reading (Val s)) (P : (s : Sym) → Cursor → Outcome (Val s)) (n : ℕ)
    (shr : (s : Sym) (st : Cursor) (v : Val s) (end : Cursor) → R s st v end → length end.toks ≤ length st.toks)
    (los : (s : Sym) → Lowers (R s))
    (hyp : (s : Sym) (st : Cursor) (v : Val s) (end : Cursor) → R s st v end → suc st.left ≤ n → (more : List Lexeme) → starts (after s) (end.toks ++ more) ≡ false → P s (plus st more) ≡ Ok (v, plus end more)) where
  pub complete : {A : Type 0} (g : G Sym Val A) → by_one after g ≡ true → Completes (reads R g) (run P g) (cont after g) n
  complete (tok cs) w st a end r le more c = run_tok_at cs (plus st more) (st.toks ++ more) a (r.0 ++ more) (ap (λ ts. ts ++ more) r.1) r.2 ∙ ap (λ z. Ok (a, plus z more)) (sym r.3)
  complete (opens cs) w st a end r le more c = run_opens_at cs st.left r.1 (st.toks ++ more) a (r.0 ++ more) (ap (λ ts. ts ++ more) r.2) r.3 r.4 ∙ ap (λ z. Ok (a, plus z more)) (sym r.5)
  complete (into cs s) w st a end r le more c =
      let lv : st.left ≡ suc r.1 = r.4 in
      ap (λ o. bind o (λ t mid. bind (P s mid) (λ v end. Ok ((t, v), end)))) (run_opens_at cs st.left r.1 (st.toks ++ more) a.0 (r.0 ++ more) (ap (λ ts. ts ++ more) r.2) r.3 lv)
      ∙ ap (λ o. bind o (λ v end. Ok ((a.0, v), end))) (hyp s _ a.1 end r.5 (omega arith) more c)
  complete (seq p q) w st a end r le more c =
      let w1 = (both_true _ _ w).1 in
      let wq = (both_true _ _ w1).0 in
      let l : r.0.left ≤ st.left = lowers Sym Val R los p st a.0 r.0 r.1 in
      let cp = follow (cont after p) (first q) (nullable q) (cont after q) r.0 end more (both_true _ _ w1).1 (took Sym Val after R shr q wq r.0 a.1 end r.2) c in
      ap (λ o. bind o (λ a mid. bind (run P q mid) (λ b end. Ok ((a, b), end)))) (complete p (both_true _ _ w).0 st a.0 r.0 r.1 le more cp)
      ∙ ap (λ o. bind o (λ b end. Ok ((a.0, b), end))) (complete q wq r.0 a.1 end r.2 (omega arith) more (starts_append-false (cont after q) _ (end.toks ++ more) c).0)
  complete (either p q) w st a end r le more c =
      let k = both_five (by_one after p) (by_one after q) (nullable p) (nullable q) (apart (first p) (first q)) w in
      let cs = starts_append-false (cont after p) (cont after q) (end.toks ++ more) c in
      elim r [
        | inl h ↦ (let s = starts_more (first p) st.toks more (took_some (first p) (nullable p) st end k.2 (took Sym Val after R shr p k.0 st a end h)).0 in
            ap (λ b. pick b (run P p (plus st more)) (run P q (plus st more))) s ∙ complete p k.0 st a end h le more cs.0)
        | inr h ↦ (let s = starts_more (first q) st.toks more (took_some (first q) (nullable q) st end k.3 (took Sym Val after R shr q k.1 st a end h)).0 in
            ap (λ b. pick b (run P p (plus st more)) (run P q (plus st more))) (starts_apart (first p) (first q) (st.toks ++ more) k.4 s) ∙ complete q k.1 st a end h le more cs.1)
      ]
  complete (opt p) w st a end r le more c =
      let wp = (both_true _ _ w).0 in
      complete_opt (reads R p) (run P p) (cont after p) (first p) (nullable p) n (took Sym Val after R shr p wp) (flipped_true _ (both_true _ _ w).1) (complete p wp) a st end r le more c
  complete (many p) w st a end r le more c =
      let wp = (both_true _ _ w).0 in
      let w1 = (both_true _ _ w).1 in
      complete_many (reads R p) (run P p) (cont after p) (first p) (nullable p) n (took Sym Val after R shr p wp) (flipped_true _ (both_true _ _ w1).0) (lowers Sym Val R los p) (complete p wp) (both_true _ _ w1).1 _ a st end r le more c (omega (arith, length-append st.toks more))
  complete (by f p) w st a end r le more c =
      ap (λ o. bind o (λ x end. Ok (f x, end))) (complete p w st r.0 end r.1 le more c) ∙ ap (λ b. Ok (b, plus end more)) (sym r.2)
  complete (spanned p) w st a end r le more c =
      let wp = (both_true _ _ w).0 in
      let t = took_some (first p) (nullable p) st end (flipped_true _ (both_true _ _ w).1) (took Sym Val after R shr p wp st a.0 end r.0) in
      let q : length end.toks < length st.toks = t.1 in
      ap (λ o. bind o (λ x e. Ok ((x, extent (st.toks ++ more) e.last), e))) (complete p wp st a.0 end r.0 le more c)
      ∙ ap (λ s. Ok ((a.0, s), plus end more)) (span_more st.toks more end.last (omega arith) ∙ sym r.1)
  complete (scope p) w st a end r le more c =
      let e : end.toks ≡ r.0.toks = ap (λ (z : Cursor). z.toks) r.2 in
      ap (λ o. bind o (λ x e. Ok (x, record e { left = st.left }))) (complete p w st a r.0 r.1 le more (ap (λ ts. starts (cont after p) (ts ++ more)) (sym e) ∙ c))
      ∙ ap (λ z. Ok (a, plus z more)) (sym r.2)
  complete (closed cs s) w st a end r le more c =
      let lv : st.left ≡ suc r.1 = r.5 in
      let e : end.toks ≡ r.2.toks = ap (λ (z : Cursor). z.toks) r.7 in
      ap (λ o. bind o (λ t mid. bind (P s mid) (λ v end. Ok ((t, v), record end { left = suc end.left })))) (run_opens_at cs st.left r.1 (st.toks ++ more) a.0 (r.0 ++ more) (ap (λ ts. ts ++ more) r.3) r.4 lv)
      ∙ ap (λ o. bind o (λ v end. Ok ((a.0, v), record end { left = suc end.left }))) (hyp s _ a.1 r.2 r.6 (omega arith) more (ap (λ ts. starts (after s) (ts ++ more)) (sym e) ∙ c))
      ∙ ap (λ z. Ok (a, plus z more)) (sym r.7)
  complete (trail cs p) w st a end r le more c =
      let k = both_three (by_one after p) (nullable p) (apart (cont after p) cs) w in
      complete_trail cs (reads R p) (run P p) (cont after p) (first p) (nullable p) n (took Sym Val after R shr p k.0) k.1 (lowers Sym Val R los p) (complete p k.0) k.2 _ a.0 a.1 st r.0 end r.1 r.2 le more c (omega (arith, length-append st.toks more))
  complete (costs late p) w st a end r le more c =
      let wp = (both_true _ _ w).0 in
      let lv : st.left ≡ suc r.0 = r.1 in
      let low : Cursor = record st { left = r.0 } in
      let t = took_some (first p) (nullable p) low end (flipped_true _ (both_true _ _ w).1) (took Sym Val after R shr p wp low a end r.2) in
      ap (λ b. pick b (run_costs late (run P p) (plus st more) st.left) (refused (st.toks ++ more))) (starts_more (first p) st.toks more t.0)
      ∙ ap (run_costs late (run P p) (plus st more)) lv
      ∙ complete p wp low a end r.2 (omega arith) more c
  complete (follows p q) w st a end r le more c =
      let k = both_four (by_one after p) (by_one after q) (nullable p) (apart (cont after p) (first q)) w in
      complete_follows (reads R p) (run P p) (reads R q) (run P q) (cont after p) (first q) (cont after q) (nullable q) n (took Sym Val after R shr q k.1) (lowers Sym Val R los p) (complete p k.0) (complete q k.1) k.3 a st end r le more c
