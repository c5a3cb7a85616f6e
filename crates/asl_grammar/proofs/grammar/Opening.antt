-- The token that opens a level too many is the one that the reader names.
use Rattle.std.proofs.Common.{Result, ◌≡◌, ℕ, zero, suc, ◌≤◌, ◌⊎◌, inl, inr, Bool, true, false, List, [], ◌∷◌, ◌++◌, length, Some, None, Ok, Err, refl, ap, sym, ◌∙◌, subst, arith, append_assoc}
use Rattle.asl_grammar.specs.declared.error.ParseError.{ParseError}
use Rattle.asl_grammar.specs.declared.error.ParseError.TheVariants.{TooDeep}
use Rattle.asl_grammar.specs.grammar.Kinds.{kind_of}
use Rattle.asl_grammar.specs.grammar.Cursor.{Lexeme, Cursor, Kinds, among, starts, with_toks, past, extent}
use Rattle.asl_grammar.specs.grammar.Combinators.{G, tok, opens, into, seq, either, opt, many, by, spanned, scope, closed, trail, costs, follows, Reading, reads, reads_all, reads_tok, reads_then}
use Rattle.asl_grammar.specs.grammar.Reader.{nullable, first, cont, by_one, both, flipped, apart, Outcome, refused, run, run_tok, run_opens, open_at, run_many, run_trail, run_costs}
use Rattle.asl_grammar.proofs.grammar.Basics.{both_true, both_three, both_four, both_five, pick_cases, bind_err}
use Rattle.asl_grammar.proofs.grammar.Readings.{Frames, Lowers, frame, lowers, frames_then}
use Rattle.asl_grammar.proofs.grammar.Reading.{sound, tok_ok}
use Rattle.asl_grammar.proofs.grammar.Faults.{not_err, last_err, follows_err}
use Rattle.asl_grammar.specs.grammar.Opening.{opens_here, full}

abbrev pub Fuller : (Cursor → Lexeme → Type 0) → Cursor → ℕ → Type 0
Fuller Fu st n = (front : List Lexeme) × (x : Lexeme) × (us : List Lexeme) × (st.toks ≡ front ++ (x ∷ us)) × (length (x ∷ us) ≡ n) × Fu (with_toks st front) x

tok_not_deep : (cs : Kinds) (st : Cursor) (toks : List Lexeme) (n : ℕ) (y : Bool) → run_tok cs st toks ≡ Err (TooDeep n y) → ⊥
tok_not_deep cs st [] n y h = cc
tok_not_deep cs st (t ∷ ts) n y h = elim (pick_cases (among cs (kind_of t.kind)) (Ok (t, past t ts st.left)) (refused (t ∷ ts)) (Err (TooDeep n y)) h) [ inl k ↦ not_err k.1 | inr k ↦ (let e = k.1 in cc) ]

deep_same : {A : Type 0} {m n : ℕ} {x y : Bool} → (let o : Result A ParseError = Err (TooDeep m x) in o) ≡ Err (TooDeep n y) → (m ≡ n) × (y ≡ x)
deep_same h = (cc, cc)

open_full : (t : Lexeme) (ts : List Lexeme) (l n : ℕ) (y : Bool) → open_at t ts l ≡ Err (TooDeep n y) → (length (t ∷ ts) ≡ n) × (l ≡ 0) × (y ≡ false)
open_full t ts zero n y h = let k = deep_same h in (k.0, refl, k.1)
open_full t ts (suc l) n y h = absurd (not_err h)

opens_full : (cs : Kinds) (left : ℕ) (toks : List Lexeme) (n : ℕ) (y : Bool) → run_opens cs left toks ≡ Err (TooDeep n y) → (t : Lexeme) × (ts : List Lexeme) × (toks ≡ t ∷ ts) × (among cs (kind_of t.kind) ≡ true) × (length (t ∷ ts) ≡ n) × (left ≡ 0) × (y ≡ false)
opens_full cs left [] n y h = cc
opens_full cs left (t ∷ ts) n y h = elim (pick_cases (among cs (kind_of t.kind)) (open_at t ts left) (refused (t ∷ ts)) (Err (TooDeep n y)) h) [
  | inl k ↦ (let o = open_full t ts left n y k.1 in (t, ts, refl, k.0, o.0, o.1, o.2))
  | inr k ↦ (let e = k.1 in cc)
]

starts_one : (F : Kinds) (ts : List Lexeme) → starts F ts ≡ true → (t : Lexeme) × (us : List Lexeme) × (ts ≡ t ∷ us) × (among F (kind_of t.kind) ≡ true)
starts_one F [] h = cc
starts_one F (t ∷ ts) h = (t, ts, refl, h)

below : (left l n : ℕ) → left ≡ suc l → left ≤ n → l ≤ n
below left l n e le = omega arith

full_many : {A : Type 0} (P : Reading A) (p : Cursor → Outcome A) (F : Kinds) (Fu : Cursor → Lexeme → Type 0) (n : ℕ) (y : Bool) → Frames P → Lowers P → ((st : Cursor) (a : A) (end : Cursor) → p st ≡ Ok (a, end) → P st a end)
    → ((st : Cursor) (m : ℕ) → st.left ≤ n → p st ≡ Err (TooDeep m y) → Fuller Fu st m)
    → (k : ℕ) (st : Cursor) (m : ℕ) → st.left ≤ n → run_many p F k st ≡ Err (TooDeep m y) → Fuller (λ st x. (xs : List A) × (mid : Cursor) × reads_all P st xs mid × Fu mid x) st m
full_many P p F Fu n y fr lo so de zero st m le h = absurd (not_err h)
full_many {A} P p F Fu n y fr lo so de (suc k) st m le h = elim (pick_cases (starts F st.toks) _ (Ok ([], st)) (Err (TooDeep m y)) h) [
  | inr e ↦ absurd (not_err e.1)
  | inl e ↦ elim (bind_err (p st) _ (TooDeep m y) e.1) [
    | inl x ↦ (let b = de st m le x in (b.0, b.1, b.2, b.3, b.4, ([], with_toks st b.0, refl, b.5)))
    | inr x ↦ (let r = so st x.0 x.1 x.2 in
        let low : x.1.left ≤ st.left = lo st x.0 x.1 r in
        let b = full_many P p F Fu n y fr lo so de k x.1 m (omega arith) (last_err (run_many p F k x.1) (λ xs. x.0 ∷ xs) (λ end. end) (TooDeep m y) x.3) in
        let z = fr st x.0 x.1 r in
        (z.0 ++ b.0, b.1, b.2, z.1 ∙ ap (λ ts. z.0 ++ ts) b.3 ∙ sym (append_assoc z.0 b.0 (b.1 ∷ b.2)), b.4, (x.0 ∷ b.5.0, b.5.1, (with_toks x.1 b.0, z.2 b.0, b.5.2), b.5.3)))
  ]
]

full_trail : {A : Type 0} (cs : Kinds) (P : Reading A) (p : Cursor → Outcome A) (F : Kinds) (Fu : Cursor → Lexeme → Type 0) (n : ℕ) (y : Bool) → Frames P → Lowers P → ((st : Cursor) (a : A) (end : Cursor) → p st ≡ Ok (a, end) → P st a end)
    → ((st : Cursor) (m : ℕ) → st.left ≤ n → p st ≡ Err (TooDeep m y) → Fuller Fu st m)
    → (k : ℕ) (st : Cursor) (m : ℕ) → st.left ≤ n → run_trail cs p F k st ≡ Err (TooDeep m y)
    → Fuller (λ st x. (xs : List (Lexeme × A)) × (mid : Cursor) × reads_all (reads_then cs P) st xs mid × ((t : Lexeme) × (m : Cursor) × reads_tok cs mid t m × Fu m x)) st m
full_trail cs P p F Fu n y fr lo so de zero st m le h = absurd (not_err h)
full_trail {A} cs P p F Fu n y fr lo so de (suc k) st m le h = elim (pick_cases (starts cs st.toks) _ (Ok (([], None), st)) (Err (TooDeep m y)) h) [
  | inr e ↦ absurd (not_err e.1)
  | inl e ↦ elim (bind_err (run_tok cs st st.toks) _ (TooDeep m y) e.1) [
    | inl d ↦ absurd (tok_not_deep cs st st.toks m y d)
    | inr d ↦ (let t = tok_ok cs st st.toks d.0 d.1 d.2 in
        let mt : t.0 ≡ d.1.toks = ap (λ (c : Cursor). c.toks) (sym t.3) in
        let lm : d.1.left ≡ st.left = ap (λ (c : Cursor). c.left) t.3 in
        elim (pick_cases (starts F d.1.toks) _ (Ok (([], Some d.0), d.1)) (Err (TooDeep m y)) d.3) [
          | inr f ↦ absurd (not_err f.1)
          | inl f ↦ elim (bind_err (p d.1) _ (TooDeep m y) f.1) [
            | inl u ↦ (let b = de d.1 m (omega arith) u in
                (d.0 ∷ b.0, b.1, b.2, t.1 ∙ ap (λ ts. d.0 ∷ ts) (mt ∙ b.3), b.4, ([], with_toks st (d.0 ∷ b.0), refl, (d.0, with_toks d.1 b.0, (b.0, refl, t.2, ap (λ c. with_toks c b.0) t.3), b.5))))
            | inr u ↦ (let rp = so d.1 u.0 u.1 u.2 in
                let low : u.1.left ≤ d.1.left = lo d.1 u.0 u.1 rp in
                let b = full_trail cs P p F Fu n y fr lo so de k u.1 m (omega arith) (last_err (run_trail cs p F k u.1) (λ r. ((d.0, u.0) ∷ r.0, r.1)) (λ end. end) (TooDeep m y) u.3) in
                let z = frames_then cs P fr st (d.0, u.0) u.1 (d.1, t, rp) in
                (z.0 ++ b.0, b.1, b.2, z.1 ∙ ap (λ ts. z.0 ++ ts) b.3 ∙ sym (append_assoc z.0 b.0 (b.1 ∷ b.2)), b.4, ((d.0, u.0) ∷ b.5.0, b.5.1, (with_toks u.1 b.0, z.2 b.0, b.5.2), b.5.3)))
          ]
        ])
  ]
]

full_costs : {A : Type 0} (late : Bool) (p : Cursor → Outcome A) (F : Kinds) (Fu : Cursor → Lexeme → Type 0) (n : ℕ) (y : Bool) → ((st : Cursor) (m : ℕ) → st.left ≤ n → p st ≡ Err (TooDeep m y) → Fuller Fu st m)
    → (st : Cursor) (left m : ℕ) → st.left ≡ left → st.left ≤ n → starts F st.toks ≡ true → run_costs late p st left ≡ Err (TooDeep m y)
    → Fuller (λ z x. opens_here late F y z x ⊎ ((l : ℕ) × (z.left ≡ suc l) × Fu (record z { left = l }) x)) st m
full_costs late p F Fu n y de st zero m e le s h =
    let t = starts_one F st.toks s in
    let k = deep_same h in
    ([], t.0, t.1, t.2, ap length (sym t.2) ∙ k.0, inl (refl, e, t.3, k.1))
full_costs late p F Fu n y de st (suc l) m e le s h =
    let b = de (record st { left = l }) m (below st.left l n e le) h in
    (b.0, b.1, b.2, b.3, b.4, inr (l, e, b.5))

module _ (Sym : Type 0) (Val : Sym → Type 0) (after : Sym → Kinds) (R : (s : Sym) → Reading (Val s)) (Q : (s : Sym) → Cursor → Lexeme → Type 0) (P : (s : Sym) → Cursor → Outcome (Val s)) (n : ℕ) (y : Bool)
    (shr : (s : Sym) (st : Cursor) (v : Val s) (end : Cursor) → R s st v end → length end.toks ≤ length st.toks)
    (frs : (s : Sym) → Frames (R s)) (los : (s : Sym) → Lowers (R s))
    (snd : (s : Sym) (st : Cursor) (v : Val s) (end : Cursor) → P s st ≡ Ok (v, end) → R s st v end)
    (hyp : (s : Sym) (st : Cursor) (m : ℕ) → suc st.left ≤ n → P s st ≡ Err (TooDeep m y) → Fuller (Q s) st m) where
  pub fuller : {A : Type 0} (g : G Sym Val A) → by_one after g ≡ true → (st : Cursor) (m : ℕ) → st.left ≤ n → run P g st ≡ Err (TooDeep m y) → Fuller (full R Q y g) st m
  fuller (tok cs) w st m le h = absurd (tok_not_deep cs st st.toks m y h)
  fuller (opens cs) w st m le h = let k = opens_full cs st.left st.toks m y h in ([], k.0, k.1, k.2, k.4, (refl, k.5, k.3, k.6))
  fuller (into cs s) w st m le h = elim (bind_err (run_opens cs st.left st.toks) _ (TooDeep m y) h) [
    | inl e ↦ (let k = opens_full cs st.left st.toks m y e in ([], k.0, k.1, k.2, k.4, inl (refl, k.5, k.3, k.6)))
    | inr e ↦ (let k = sound Sym Val R P snd (opens cs) st e.0 e.1 e.2 in
        let lv : st.left ≡ suc k.1 = k.4 in
        let lm : e.1.left ≡ k.1 = ap (λ (c : Cursor). c.left) k.5 in
        let b0 = hyp s e.1 m (omega arith) (last_err (P s e.1) (λ v. (e.0, v)) (λ end. end) (TooDeep m y) e.3) in
        let b = subst (λ c. Fuller (Q s) c m) k.5 b0 in
        (e.0 ∷ b.0, b.1, b.2, k.2 ∙ ap (λ ts. e.0 ∷ ts) b.3, b.4, inr (e.0, b.0, k.1, refl, k.3, k.4, b.5)))
  ]
  fuller (seq p q) w st m le h =
      let w1 = (both_true _ _ w).1 in
      let wp = (both_true (by_one after p) (both (by_one after q) (apart (cont after p) (first q))) w).0 in
      let wq = (both_true (by_one after q) (apart (cont after p) (first q)) w1).0 in
      elim (bind_err (run P p st) _ (TooDeep m y) h) [
        | inl e ↦ (let b = fuller p wp st m le e in (b.0, b.1, b.2, b.3, b.4, inl b.5))
        | inr e ↦ (let r = sound Sym Val R P snd p st e.0 e.1 e.2 in
            let low : e.1.left ≤ st.left = lowers Sym Val R los p st e.0 e.1 r in
            let b = fuller q wq e.1 m (omega arith) (last_err (run P q e.1) (λ v. (e.0, v)) (λ end. end) (TooDeep m y) e.3) in
            let z = frame Sym Val after R shr frs p wp st e.0 e.1 r in
            (z.0 ++ b.0, b.1, b.2, z.1 ∙ ap (λ ts. z.0 ++ ts) b.3 ∙ sym (append_assoc z.0 b.0 (b.1 ∷ b.2)), b.4, inr (e.0, with_toks e.1 b.0, z.2 b.0, b.5)))
      ]
  fuller (either p q) w st m le h =
      let k = both_five (by_one after p) (by_one after q) (nullable p) (nullable q) (apart (first p) (first q)) w in
      elim (pick_cases (starts (first p) st.toks) (run P p st) (run P q st) (Err (TooDeep m y)) h) [
        | inl e ↦ (let b = fuller p k.0 st m le e.1 in (b.0, b.1, b.2, b.3, b.4, inl b.5))
        | inr e ↦ (let b = fuller q k.1 st m le e.1 in (b.0, b.1, b.2, b.3, b.4, inr b.5))
      ]
  fuller (opt p) w st m le h = elim (pick_cases (starts (first p) st.toks) _ (Ok (None, st)) (Err (TooDeep m y)) h) [
    | inl e ↦ fuller p (both_true (by_one after p) (flipped (nullable p)) w).0 st m le (last_err (run P p st) (λ x. Some x) (λ end. end) (TooDeep m y) e.1)
    | inr e ↦ absurd (not_err e.1)
  ]
  fuller (many p) w st m le h =
      let wp = (both_true (by_one after p) (both (flipped (nullable p)) (apart (cont after p) (first p))) w).0 in
      full_many (reads R p) (run P p) (first p) (full R Q y p) n y (frame Sym Val after R shr frs p wp) (lowers Sym Val R los p) (sound Sym Val R P snd p) (fuller p wp) (length st.toks) st m le h
  fuller (by f p) w st m le h = fuller p w st m le (last_err (run P p st) f (λ end. end) (TooDeep m y) h)
  fuller (spanned p) w st m le h = elim (bind_err (run P p st) (λ x end. Ok ((x, extent st.toks end.last), end)) (TooDeep m y) h) [
    | inl e ↦ fuller p (both_true (by_one after p) (flipped (nullable p)) w).0 st m le e
    | inr e ↦ absurd (not_err e.3)
  ]
  fuller (scope p) w st m le h = fuller p w st m le (last_err (run P p st) (λ x. x) (λ end. record end { left = st.left }) (TooDeep m y) h)
  fuller (closed cs s) w st m le h = elim (bind_err (run_opens cs st.left st.toks) _ (TooDeep m y) h) [
    | inl e ↦ (let k = opens_full cs st.left st.toks m y e in ([], k.0, k.1, k.2, k.4, inl (refl, k.5, k.3, k.6)))
    | inr e ↦ (let k = sound Sym Val R P snd (opens cs) st e.0 e.1 e.2 in
        let lv : st.left ≡ suc k.1 = k.4 in
        let lm : e.1.left ≡ k.1 = ap (λ (c : Cursor). c.left) k.5 in
        let b0 = hyp s e.1 m (omega arith) (last_err (P s e.1) (λ v. (e.0, v)) (λ end. record end { left = suc end.left }) (TooDeep m y) e.3) in
        let b = subst (λ c. Fuller (Q s) c m) k.5 b0 in
        (e.0 ∷ b.0, b.1, b.2, k.2 ∙ ap (λ ts. e.0 ∷ ts) b.3, b.4, inr (e.0, b.0, k.1, refl, k.3, k.4, b.5)))
  ]
  fuller (trail cs p) w st m le h =
      let k = both_three (by_one after p) (nullable p) (apart (cont after p) cs) w in
      full_trail cs (reads R p) (run P p) (first p) (full R Q y p) n y (frame Sym Val after R shr frs p k.0) (lowers Sym Val R los p) (sound Sym Val R P snd p) (fuller p k.0) (length st.toks) st m le h
  fuller (costs late p) w st m le h = elim (pick_cases (starts (first p) st.toks) (run_costs late (run P p) st st.left) (refused st.toks) (Err (TooDeep m y)) h) [
    | inl e ↦ full_costs late (run P p) (first p) (full R Q y p) n y (fuller p (both_true (by_one after p) (flipped (nullable p)) w).0) st st.left m refl le e.0 e.1
    | inr e ↦ (let k = e.1 in cc)
  ]
  fuller (follows p q) w st m le h =
      let w4 = both_four (by_one after p) (by_one after q) (nullable p) (apart (cont after p) (first q)) w in
      elim (bind_err (run P p st) _ (TooDeep m y) h) [
        | inl e ↦ (let b = fuller p w4.0 st m le e in (b.0, b.1, b.2, b.3, b.4, inl b.5))
        | inr e ↦ (let x = follows_err (run P q) e.0 e.1 (TooDeep m y) e.3 in
            let r = sound Sym Val R P snd p st (inr x.0) e.1 (e.2 ∙ ap (λ v. Ok (v, e.1)) x.1) in
            let low : e.1.left ≤ st.left = lowers Sym Val R los p st (inr x.0) e.1 r in
            let b = fuller q w4.1 e.1 m (omega arith) x.2 in
            let z = frame Sym Val after R shr frs p w4.0 st (inr x.0) e.1 r in
            (z.0 ++ b.0, b.1, b.2, z.1 ∙ ap (λ ts. z.0 ++ ts) b.3 ∙ sym (append_assoc z.0 b.0 (b.1 ∷ b.2)), b.4, inr (x.0, with_toks e.1 b.0, z.2 b.0, b.5)))
      ]
