-- A token that opens a level too many is allowed there: with one level more the front with it goes on.
use Rattle.std.proofs.Common.{◌≡◌, ℕ, zero, suc, ◌+◌, ◌≤◌, ◌⊎◌, inl, inr, Bool, true, false, List, [], ◌∷◌, ◌++◌, length, Option, Some, None, Ok, Err, refl, ap, sym, ◌∙◌, subst, arith, append_assoc}
use Rattle.asl_grammar.specs.declared.error.ParseError.TheVariants.{TooDeep}
use Rattle.asl_grammar.specs.declared.kinds.Kind.{Kind}
use Rattle.asl_grammar.specs.grammar.Kinds.{kind_of}
use Rattle.asl_grammar.specs.grammar.Cursor.{Lexeme, Cursor, Kinds, among, starts, with_toks, past, extent}
use Rattle.asl_grammar.specs.grammar.Combinators.{G, tok, opens, into, seq, either, opt, many, by, spanned, scope, closed, trail, costs, follows, Reading, reads, reads_all, reads_opt, reads_tok, reads_then, reads_follows, goes, goes_trail}
use Rattle.asl_grammar.specs.grammar.Reader.{nullable, first, cont, by_one, both, flipped, pick, apart, Outcome, refused, run, run_tok, run_opens, open_at, run_many, run_trail, run_costs}
use Rattle.asl_grammar.proofs.grammar.Basics.{both_true, both_three, both_four, both_five, pick_cases, bind_err, among_append, one_of_true}
use Rattle.asl_grammar.proofs.grammar.Readings.{Frames, Lowers, frame, lowers, frames_then}
use Rattle.asl_grammar.proofs.grammar.Reading.{sound, tok_ok}
use Rattle.asl_grammar.proofs.grammar.Faults.{not_err, last_err, follows_err, err_same}
use Rattle.asl_grammar.proofs.grammar.Levels.{up, suc_plus}

-- ---- what is read is read with more levels

abbrev pub Rises : {A : Type 0} → ℕ → Reading A → Type 0
Rises {A} d P = (st : Cursor) (a : A) (end : Cursor) → P st a end → P (up d st) a (up d end)

rise_all : {A : Type 0} (d : ℕ) (P : Reading A) → Rises d P → (xs : List A) (st end : Cursor) → reads_all P st xs end → reads_all P (up d st) xs (up d end)
rise_all d P h [] st end r = ap (up d) r
rise_all d P h (x ∷ xs) st end r = (up d r.0, h st x r.0 r.1, rise_all d P h xs r.0 end r.2)

rise_opt : {A : Type 0} (d : ℕ) (P : Reading A) → Rises d P → (a : Option A) (st end : Cursor) → reads_opt P st a end → reads_opt P (up d st) a (up d end)
rise_opt d P h None st end r = ap (up d) r
rise_opt d P h (Some x) st end r = h st x end r

rise_tok : (d : ℕ) (cs : Kinds) → Rises d (reads_tok cs)
rise_tok d cs st a end r = (r.0, r.1, r.2, ap (up d) r.3)

rise_then : {A : Type 0} (d : ℕ) (cs : Kinds) (P : Reading A) → Rises d P → Rises d (reads_then cs P)
rise_then d cs P h st a end r = (up d r.0, rise_tok d cs st a.0 r.0 r.1, h r.0 a.1 end r.2)

rise_follows : {A B C : Type 0} (d : ℕ) (P : Reading (A ⊎ B)) (Q : Reading C) → Rises d P → Rises d Q → (a : A ⊎ (B × C)) (st end : Cursor) → reads_follows P Q st a end → reads_follows P Q (up d st) a (up d end)
rise_follows d P Q h k (inl a) st end r = h st (inl a) end r
rise_follows d P Q h k (inr a) st end r = (up d r.0, h st (inr a.0) r.0 r.1, k r.0 a.1 end r.2)

more_left : (left l d : ℕ) → left ≡ suc l → left + d ≡ suc (l + d)
more_left left l d h = omega arith

module _ (Sym : Type 0) (Val : Sym → Type 0) (R : (s : Sym) → Reading (Val s)) (d : ℕ) (hyp : (s : Sym) → Rises d (R s)) where
  pub rises : {A : Type 0} (g : G Sym Val A) → Rises d (reads R g)
  rises (tok cs) st a end r = (r.0, r.1, r.2, ap (up d) r.3)
  rises (opens cs) st a end r = (r.0, r.1 + d, r.2, r.3, more_left st.left r.1 d r.4, ap (up d) r.5)
  rises (into cs s) st a end r = (r.0, r.1 + d, r.2, r.3, more_left st.left r.1 d r.4, hyp s _ a.1 end r.5)
  rises (seq p q) st a end r = (up d r.0, rises p st a.0 r.0 r.1, rises q r.0 a.1 end r.2)
  rises (either p q) st a end r = elim r [ inl h ↦ inl (rises p st a end h) | inr h ↦ inr (rises q st a end h) ]
  rises (opt p) st a end r = rise_opt d (reads R p) (rises p) a st end r
  rises (many p) st a end r = rise_all d (reads R p) (rises p) a st end r
  rises (by f p) st a end r = (r.0, rises p st r.0 end r.1, r.2)
  rises (spanned p) st a end r = (rises p st a.0 end r.0, r.1)
  rises (scope p) st a end r = (up d r.0, rises p st a r.0 r.1, ap (up d) r.2)
  rises (closed cs s) st a end r = (r.0, r.1 + d, up d r.2, r.3, r.4, more_left st.left r.1 d r.5, hyp s _ a.1 r.2 r.6, ap (up d) r.7 ∙ ap (λ l. record r.2 { left = l }) (suc_plus r.2.left d))
  rises (trail cs p) st a end r = (up d r.0, rise_all d (reads_then cs (reads R p)) (rise_then d cs (reads R p) (rises p)) a.0 st r.0 r.1, rise_opt d (reads_tok cs) (rise_tok d cs) a.1 r.0 end r.2)
  rises (costs late p) st a end r = (r.0 + d, more_left st.left r.0 d r.1, rises p (record st { left = r.0 }) a end r.2)
  rises (follows p q) st a end r = rise_follows d (reads R p) (reads R q) (rises p) (rises q) a st end r

-- ---- the token that opens too many

abbrev pub Deeper : (Cursor → Type 0) → Cursor → ℕ → Type 0
Deeper Go st n = (front : List Lexeme) × (t : Lexeme) × (us : List Lexeme) × (st.toks ≡ front ++ (t ∷ us)) × (length (t ∷ us) ≡ n) × (d : ℕ) × Go (up d (with_toks st (front ++ (t ∷ []))))

tok_not_deep : (cs : Kinds) (st : Cursor) (toks : List Lexeme) (n : ℕ) (y : Bool) → run_tok cs st toks ≡ Err (TooDeep n y) → ⊥
tok_not_deep cs st [] n y h = cc
tok_not_deep cs st (t ∷ ts) n y h = elim (pick_cases (among cs (kind_of t.kind)) (Ok (t, past t ts st.left)) (refused (t ∷ ts)) (Err (TooDeep n y)) h) [ inl k ↦ not_err k.1 | inr k ↦ (let e = k.1 in cc) ]

open_deep : (t : Lexeme) (ts : List Lexeme) (l n : ℕ) (y : Bool) → open_at t ts l ≡ Err (TooDeep n y) → length (t ∷ ts) ≡ n
open_deep t ts zero n y h = cc
open_deep t ts (suc l) n y h = absurd (not_err h)

opens_deep : (cs : Kinds) (left : ℕ) (toks : List Lexeme) (n : ℕ) (y : Bool) → run_opens cs left toks ≡ Err (TooDeep n y) → (t : Lexeme) × (ts : List Lexeme) × (toks ≡ t ∷ ts) × (among cs (kind_of t.kind) ≡ true) × (length (t ∷ ts) ≡ n)
opens_deep cs left [] n y h = cc
opens_deep cs left (t ∷ ts) n y h = elim (pick_cases (among cs (kind_of t.kind)) (open_at t ts left) (refused (t ∷ ts)) (Err (TooDeep n y)) h) [
  | inl k ↦ (t, ts, refl, k.0, open_deep t ts left n y k.1)
  | inr k ↦ (let e = k.1 in cc)
]

one_more : (l : ℕ) → l + 1 ≡ suc l
one_more l = omega arith

plus_suc : (l d : ℕ) → l + suc d ≡ suc (l + d)
plus_suc l d = omega arith

zero_suc : (l d : ℕ) → l ≡ 0 → l + suc d ≡ suc (0 + d)
zero_suc l d e = omega arith

below : (left l n : ℕ) → left ≡ suc l → left ≤ n → l ≤ n
below left l n e le = omega arith

deep_many : {A : Type 0} (P : Reading A) (p : Cursor → Outcome A) (F : Kinds) (Go : Cursor → Type 0) (n : ℕ) → Frames P → Lowers P → ((d : ℕ) → Rises d P) → ((st : Cursor) (a : A) (end : Cursor) → p st ≡ Ok (a, end) → P st a end)
    → ((st : Cursor) (m : ℕ) (y : Bool) → st.left ≤ n → p st ≡ Err (TooDeep m y) → Deeper Go st m)
    → (k : ℕ) (st : Cursor) (m : ℕ) (y : Bool) → st.left ≤ n → run_many p F k st ≡ Err (TooDeep m y) → Deeper (λ st. (xs : List A) × (mid : Cursor) × reads_all P st xs mid × Go mid) st m
deep_many P p F Go n fr lo ri so de zero st m y le h = absurd (not_err h)
deep_many {A} P p F Go n fr lo ri so de (suc k) st m y le h = elim (pick_cases (starts F st.toks) _ (Ok ([], st)) (Err (TooDeep m y)) h) [
  | inr e ↦ absurd (not_err e.1)
  | inl e ↦ elim (bind_err (p st) _ (TooDeep m y) e.1) [
    | inl x ↦ (let b = de st m y le x in (b.0, b.1, b.2, b.3, b.4, b.5, ([], up b.5 (with_toks st (b.0 ++ (b.1 ∷ []))), refl, b.6)))
    | inr x ↦ (let r = so st x.0 x.1 x.2 in
        let low : x.1.left ≤ st.left = lo st x.0 x.1 r in
        let b = deep_many P p F Go n fr lo ri so de k x.1 m y (omega arith) (last_err (run_many p F k x.1) (λ xs. x.0 ∷ xs) (λ end. end) (TooDeep m y) x.3) in
        let z = fr st x.0 x.1 r in
        let next : List Lexeme = b.0 ++ (b.1 ∷ []) in (
          z.0 ++ b.0,
          b.1,
          b.2,
          z.1 ∙ ap (λ ts. z.0 ++ ts) b.3 ∙ sym (append_assoc z.0 b.0 (b.1 ∷ b.2)),
          b.4,
          b.5,
          (x.0 ∷ b.6.0, b.6.1, (up b.5 (with_toks x.1 next), subst (λ ts. P (up b.5 (with_toks st ts)) x.0 (up b.5 (with_toks x.1 next))) (sym (append_assoc z.0 b.0 (b.1 ∷ []))) (ri b.5 _ x.0 _ (z.2 next)), b.6.2), b.6.3),
        ))
  ]
]

pick_among : (b : Bool) (F : Kinds) (k : Kind) → among (pick b F []) k ≡ true → (b ≡ true) × (among F k ≡ true)
pick_among true F k h = (refl, h)
pick_among false F k h = cc

-- a token that may come first goes on, with levels enough
module _ (Sym : Type 0) (Val : Sym → Type 0) (R : (s : Sym) → Reading (Val s)) (Q : (s : Sym) → Cursor → Type 0) (emp : (s : Sym) (st : Cursor) → st.toks ≡ [] → Q s st) where
  null_reads : {A : Type 0} (g : G Sym Val A) → nullable g ≡ true → (st : Cursor) → (a : A) × reads R g st a st
  null_reads (tok cs) h st = cc
  null_reads (opens cs) h st = cc
  null_reads (into cs s) h st = cc
  null_reads (seq p q) h st = let k = both_true (nullable p) (nullable q) h in let a = null_reads p k.0 st in let b = null_reads q k.1 st in ((a.0, b.0), (st, a.1, b.1))
  null_reads (either p q) h st = cc
  null_reads (opt p) h st = (None, refl)
  null_reads (many p) h st = ([], refl)
  null_reads (by f p) h st = let a = null_reads p h st in (f a.0, (a.0, a.1, refl))
  null_reads (spanned p) h st = let a = null_reads p h st in ((a.0, extent st.toks st.last), (a.1, refl))
  null_reads (scope p) h st = let a = null_reads p h st in (a.0, (st, a.1, refl))
  null_reads (closed cs s) h st = cc
  null_reads (trail cs p) h st = (([], None), (st, refl, refl))
  null_reads (costs late p) h st = cc
  null_reads (follows p q) h st = cc

  first_goes : {A : Type 0} (g : G Sym Val A) (t : Lexeme) → among (first g) (kind_of t.kind) ≡ true → (st : Cursor) → st.toks ≡ t ∷ [] → (d : ℕ) × goes R Q g (up d st)
  first_goes (tok cs) t m st e = (0, inr (t, e, m))
  first_goes (opens cs) t m st e = (1, inr (t, st.left, e, m, one_more st.left))
  first_goes (into cs s) t m st e = (1, inr (t, [], st.left, e, m, one_more st.left, emp s _ refl))
  first_goes (seq p q) t m st e = elim (one_of_true (among (first p) (kind_of t.kind)) _ (sym (among_append (first p) (pick (nullable p) (first q) []) (kind_of t.kind)) ∙ m)) [
    | inl h ↦ (let k = first_goes p t h st e in (k.0, inl k.1))
    | inr h ↦ (let n = pick_among (nullable p) (first q) (kind_of t.kind) h in
        let k = first_goes q t n.1 st e in
        let a = null_reads p n.0 (up k.0 st) in
        (k.0, inr (a.0, up k.0 st, a.1, k.1)))
  ]
  first_goes (either p q) t m st e = elim (one_of_true (among (first p) (kind_of t.kind)) _ (sym (among_append (first p) (first q) (kind_of t.kind)) ∙ m)) [
    | inl h ↦ (let k = first_goes p t h st e in (k.0, inl k.1))
    | inr h ↦ (let k = first_goes q t h st e in (k.0, inr k.1))
  ]
  first_goes (opt p) t m st e = first_goes p t m st e
  first_goes (many p) t m st e = let k = first_goes p t m st e in (k.0, ([], up k.0 st, refl, k.1))
  first_goes (by f p) t m st e = first_goes p t m st e
  first_goes (spanned p) t m st e = first_goes p t m st e
  first_goes (scope p) t m st e = first_goes p t m st e
  first_goes (closed cs s) t m st e = (1, inr (t, [], st.left, e, m, one_more st.left, emp s _ refl))
  first_goes (trail cs p) t m st e = (0, ([], up 0 st, refl, inl (inr (t, e, m))))
  first_goes (costs late p) t m st e = let k = first_goes p t m st e in (suc k.0, inr (st.left + k.0, plus_suc st.left k.0, k.1))
  first_goes (follows p q) t m st e = let k = first_goes p t m st e in (k.0, inl k.1)

deep_trail : {A : Type 0} (cs : Kinds) (P : Reading A) (p : Cursor → Outcome A) (F : Kinds) (Go : Cursor → Type 0) (n : ℕ) → Frames P → Lowers P → ((d : ℕ) → Rises d P) → ((st : Cursor) (a : A) (end : Cursor) → p st ≡ Ok (a, end) → P st a end)
    → ((st : Cursor) (m : ℕ) (y : Bool) → st.left ≤ n → p st ≡ Err (TooDeep m y) → Deeper Go st m)
    → (k : ℕ) (st : Cursor) (m : ℕ) (y : Bool) → st.left ≤ n → run_trail cs p F k st ≡ Err (TooDeep m y) → Deeper (goes_trail cs P Go) st m
deep_trail cs P p F Go n fr lo ri so de zero st m y le h = absurd (not_err h)
deep_trail {A} cs P p F Go n fr lo ri so de (suc k) st m y le h = elim (pick_cases (starts cs st.toks) _ (Ok (([], None), st)) (Err (TooDeep m y)) h) [
  | inr e ↦ absurd (not_err e.1)
  | inl e ↦ elim (bind_err (run_tok cs st st.toks) _ (TooDeep m y) e.1) [
    | inl d ↦ absurd (tok_not_deep cs st st.toks m y d)
    | inr d ↦ (let t = tok_ok cs st st.toks d.0 d.1 d.2 in
        let mt : t.0 ≡ d.1.toks = ap (λ (c : Cursor). c.toks) (sym t.3) in
        let lm : d.1.left ≡ st.left = ap (λ (c : Cursor). c.left) t.3 in
        elim (pick_cases (starts F d.1.toks) _ (Ok (([], Some d.0), d.1)) (Err (TooDeep m y)) d.3) [
          | inr f ↦ absurd (not_err f.1)
          | inl f ↦ elim (bind_err (p d.1) _ (TooDeep m y) f.1) [
            | inl u ↦ (let b = de d.1 m y (omega arith) u in
                let next : List Lexeme = b.0 ++ (b.1 ∷ []) in
                (d.0 ∷ b.0, b.1, b.2, t.1 ∙ ap (λ ts. d.0 ∷ ts) (mt ∙ b.3), b.4, b.5, ([], up b.5 (with_toks st (d.0 ∷ next)), refl, inr (d.0, up b.5 (with_toks d.1 next), (next, refl, t.2, ap (λ c. up b.5 (with_toks c next)) t.3), b.6))))
            | inr u ↦ (let rp = so d.1 u.0 u.1 u.2 in
                let low : u.1.left ≤ d.1.left = lo d.1 u.0 u.1 rp in
                let b = deep_trail cs P p F Go n fr lo ri so de k u.1 m y (omega arith) (last_err (run_trail cs p F k u.1) (λ r. ((d.0, u.0) ∷ r.0, r.1)) (λ end. end) (TooDeep m y) u.3) in
                let z = frames_then cs P fr st (d.0, u.0) u.1 (d.1, t, rp) in
                let next : List Lexeme = b.0 ++ (b.1 ∷ []) in (
                  z.0 ++ b.0,
                  b.1,
                  b.2,
                  z.1 ∙ ap (λ ts. z.0 ++ ts) b.3 ∙ sym (append_assoc z.0 b.0 (b.1 ∷ b.2)),
                  b.4,
                  b.5,
                  ((d.0, u.0) ∷ b.6.0, b.6.1, (up b.5 (with_toks u.1 next), subst (λ ts. reads_then cs P (up b.5 (with_toks st ts)) (d.0, u.0) (up b.5 (with_toks u.1 next))) (sym (append_assoc z.0 b.0 (b.1 ∷ []))) (rise_then b.5 cs P (ri b.5) (with_toks st (z.0 ++ next)) (d.0, u.0) (with_toks u.1 next) (z.2 next)), b.6.2), b.6.3),
                ))
          ]
        ])
  ]
]

starts_one : (F : Kinds) (ts : List Lexeme) → starts F ts ≡ true → (t : Lexeme) × (us : List Lexeme) × (ts ≡ t ∷ us) × (among F (kind_of t.kind) ≡ true)
starts_one F [] h = cc
starts_one F (t ∷ ts) h = (t, ts, refl, h)

deep_costs : {A : Type 0} (late : Bool) (p : Cursor → Outcome A) (F : Kinds) (Go : Cursor → Type 0) (n : ℕ) → ((t : Lexeme) → among F (kind_of t.kind) ≡ true → (st : Cursor) → st.toks ≡ t ∷ [] → (d : ℕ) × Go (up d st))
    → ((st : Cursor) (m : ℕ) (y : Bool) → st.left ≤ n → p st ≡ Err (TooDeep m y) → Deeper Go st m)
    → (st : Cursor) (left m : ℕ) (y : Bool) → st.left ≡ left → st.left ≤ n → starts F st.toks ≡ true → run_costs late p st left ≡ Err (TooDeep m y)
    → Deeper (λ z. (z.toks ≡ []) ⊎ ((l : ℕ) × (z.left ≡ suc l) × Go (record z { left = l }))) st m
deep_costs late p F Go n one de st zero m y e le s h =
    let t = starts_one F st.toks s in
    let g = one t.0 t.3 (record { toks = t.0 ∷ []; left = 0; last = st.last }) refl in
    let q : length st.toks ≡ m = err_same h in
    ([], t.0, t.1, t.2, ap length (sym t.2) ∙ q, suc g.0, inr (0 + g.0, zero_suc st.left g.0 e, g.1))
deep_costs late p F Go n one de st (suc l) m y e le s h =
    let b = de (record st { left = l }) m y (below st.left l n e le) h in
    (b.0, b.1, b.2, b.3, b.4, b.5, inr (l + b.5, more_left st.left l b.5 e, b.6))

module _ (Sym : Type 0) (Val : Sym → Type 0) (after : Sym → Kinds) (R : (s : Sym) → Reading (Val s)) (Q : (s : Sym) → Cursor → Type 0) (P : (s : Sym) → Cursor → Outcome (Val s)) (n : ℕ)
    (shr : (s : Sym) (st : Cursor) (v : Val s) (end : Cursor) → R s st v end → length end.toks ≤ length st.toks)
    (frs : (s : Sym) → Frames (R s)) (los : (s : Sym) → Lowers (R s)) (ris : (d : ℕ) (s : Sym) → Rises d (R s))
    (snd : (s : Sym) (st : Cursor) (v : Val s) (end : Cursor) → P s st ≡ Ok (v, end) → R s st v end)
    (emp : (s : Sym) (st : Cursor) → st.toks ≡ [] → Q s st)
    (hyp : (s : Sym) (st : Cursor) (m : ℕ) (y : Bool) → suc st.left ≤ n → P s st ≡ Err (TooDeep m y) → Deeper (Q s) st m) where
  pub deep : {A : Type 0} (g : G Sym Val A) → by_one after g ≡ true → (st : Cursor) (m : ℕ) (y : Bool) → st.left ≤ n → run P g st ≡ Err (TooDeep m y) → Deeper (goes R Q g) st m
  deep (tok cs) w st m y le h = absurd (tok_not_deep cs st st.toks m y h)
  deep (opens cs) w st m y le h = let k = opens_deep cs st.left st.toks m y h in ([], k.0, k.1, k.2, k.4, 1, inr (k.0, st.left, refl, k.3, one_more st.left))
  deep (into cs s) w st m y le h = elim (bind_err (run_opens cs st.left st.toks) _ (TooDeep m y) h) [
    | inl e ↦ (let k = opens_deep cs st.left st.toks m y e in ([], k.0, k.1, k.2, k.4, 1, inr (k.0, [], st.left, refl, k.3, one_more st.left, emp s _ refl)))
    | inr e ↦ (let k = sound Sym Val R P snd (opens cs) st e.0 e.1 e.2 in
        let lv : st.left ≡ suc k.1 = k.4 in
        let lm : e.1.left ≡ k.1 = ap (λ (c : Cursor). c.left) k.5 in
        let b0 = hyp s e.1 m y (omega arith) (last_err (P s e.1) (λ v. (e.0, v)) (λ end. end) (TooDeep m y) e.3) in
        let b = subst (λ c. Deeper (Q s) c m) k.5 b0 in
        (e.0 ∷ b.0, b.1, b.2, k.2 ∙ ap (λ ts. e.0 ∷ ts) b.3, b.4, b.5, inr (e.0, b.0 ++ (b.1 ∷ []), k.1 + b.5, refl, k.3, more_left st.left k.1 b.5 lv, b.6)))
  ]
  deep (seq p q) w st m y le h =
      let w1 = (both_true _ _ w).1 in
      let wp = (both_true (by_one after p) (both (by_one after q) (apart (cont after p) (first q))) w).0 in
      let wq = (both_true (by_one after q) (apart (cont after p) (first q)) w1).0 in
      elim (bind_err (run P p st) _ (TooDeep m y) h) [
        | inl e ↦ (let b = deep p wp st m y le e in (b.0, b.1, b.2, b.3, b.4, b.5, inl b.6))
        | inr e ↦ (let r = sound Sym Val R P snd p st e.0 e.1 e.2 in
            let low : e.1.left ≤ st.left = lowers Sym Val R los p st e.0 e.1 r in
            let b = deep q wq e.1 m y (omega arith) (last_err (run P q e.1) (λ v. (e.0, v)) (λ end. end) (TooDeep m y) e.3) in
            let z = frame Sym Val after R shr frs p wp st e.0 e.1 r in
            let next : List Lexeme = b.0 ++ (b.1 ∷ []) in (
              z.0 ++ b.0,
              b.1,
              b.2,
              z.1 ∙ ap (λ ts. z.0 ++ ts) b.3 ∙ sym (append_assoc z.0 b.0 (b.1 ∷ b.2)),
              b.4,
              b.5,
              inr (e.0, up b.5 (with_toks e.1 next), subst (λ ts. reads R p (up b.5 (with_toks st ts)) e.0 (up b.5 (with_toks e.1 next))) (sym (append_assoc z.0 b.0 (b.1 ∷ []))) (rises Sym Val R b.5 (ris b.5) p _ e.0 _ (z.2 next)), b.6),
            ))
      ]
  deep (either p q) w st m y le h =
      let k = both_five (by_one after p) (by_one after q) (nullable p) (nullable q) (apart (first p) (first q)) w in
      elim (pick_cases (starts (first p) st.toks) (run P p st) (run P q st) (Err (TooDeep m y)) h) [
        | inl e ↦ (let b = deep p k.0 st m y le e.1 in (b.0, b.1, b.2, b.3, b.4, b.5, inl b.6))
        | inr e ↦ (let b = deep q k.1 st m y le e.1 in (b.0, b.1, b.2, b.3, b.4, b.5, inr b.6))
      ]
  deep (opt p) w st m y le h = elim (pick_cases (starts (first p) st.toks) _ (Ok (None, st)) (Err (TooDeep m y)) h) [
    | inl e ↦ deep p (both_true (by_one after p) (flipped (nullable p)) w).0 st m y le (last_err (run P p st) (λ x. Some x) (λ end. end) (TooDeep m y) e.1)
    | inr e ↦ absurd (not_err e.1)
  ]
  deep (many p) w st m y le h =
      let wp = (both_true (by_one after p) (both (flipped (nullable p)) (apart (cont after p) (first p))) w).0 in
      deep_many (reads R p) (run P p) (first p) (goes R Q p) n (frame Sym Val after R shr frs p wp) (lowers Sym Val R los p) (λ d. rises Sym Val R d (ris d) p) (sound Sym Val R P snd p) (deep p wp) (length st.toks) st m y le h
  deep (by f p) w st m y le h = deep p w st m y le (last_err (run P p st) f (λ end. end) (TooDeep m y) h)
  deep (spanned p) w st m y le h = elim (bind_err (run P p st) (λ x end. Ok ((x, extent st.toks end.last), end)) (TooDeep m y) h) [
    | inl e ↦ deep p (both_true (by_one after p) (flipped (nullable p)) w).0 st m y le e
    | inr e ↦ absurd (not_err e.3)
  ]
  deep (scope p) w st m y le h = deep p w st m y le (last_err (run P p st) (λ x. x) (λ end. record end { left = st.left }) (TooDeep m y) h)
  deep (closed cs s) w st m y le h = elim (bind_err (run_opens cs st.left st.toks) _ (TooDeep m y) h) [
    | inl e ↦ (let k = opens_deep cs st.left st.toks m y e in ([], k.0, k.1, k.2, k.4, 1, inr (k.0, [], st.left, refl, k.3, one_more st.left, emp s _ refl)))
    | inr e ↦ (let k = sound Sym Val R P snd (opens cs) st e.0 e.1 e.2 in
        let lv : st.left ≡ suc k.1 = k.4 in
        let lm : e.1.left ≡ k.1 = ap (λ (c : Cursor). c.left) k.5 in
        let b0 = hyp s e.1 m y (omega arith) (last_err (P s e.1) (λ v. (e.0, v)) (λ end. record end { left = suc end.left }) (TooDeep m y) e.3) in
        let b = subst (λ c. Deeper (Q s) c m) k.5 b0 in
        (e.0 ∷ b.0, b.1, b.2, k.2 ∙ ap (λ ts. e.0 ∷ ts) b.3, b.4, b.5, inr (e.0, b.0 ++ (b.1 ∷ []), k.1 + b.5, refl, k.3, more_left st.left k.1 b.5 lv, b.6)))
  ]
  deep (trail cs p) w st m y le h =
      let k = both_three (by_one after p) (nullable p) (apart (cont after p) cs) w in
      deep_trail cs (reads R p) (run P p) (first p) (goes R Q p) n (frame Sym Val after R shr frs p k.0) (lowers Sym Val R los p) (λ d. rises Sym Val R d (ris d) p) (sound Sym Val R P snd p) (deep p k.0) (length st.toks) st m y le h
  deep (costs late p) w st m y le h = elim (pick_cases (starts (first p) st.toks) (run_costs late (run P p) st st.left) (refused st.toks) (Err (TooDeep m y)) h) [
    | inl e ↦ deep_costs late (run P p) (first p) (goes R Q p) n (first_goes Sym Val R Q emp p) (deep p (both_true (by_one after p) (flipped (nullable p)) w).0) st st.left m y refl le e.0 e.1
    | inr e ↦ (let k = e.1 in cc)
  ]
  deep (follows p q) w st m y le h =
      let w4 = both_four (by_one after p) (by_one after q) (nullable p) (apart (cont after p) (first q)) w in
      elim (bind_err (run P p st) _ (TooDeep m y) h) [
        | inl e ↦ (let b = deep p w4.0 st m y le e in (b.0, b.1, b.2, b.3, b.4, b.5, inl b.6))
        | inr e ↦ (let x = follows_err (run P q) e.0 e.1 (TooDeep m y) e.3 in
            let r = sound Sym Val R P snd p st (inr x.0) e.1 (e.2 ∙ ap (λ v. Ok (v, e.1)) x.1) in
            let low : e.1.left ≤ st.left = lowers Sym Val R los p st (inr x.0) e.1 r in
            let b = deep q w4.1 e.1 m y (omega arith) x.2 in
            let z = frame Sym Val after R shr frs p w4.0 st (inr x.0) e.1 r in
            let next : List Lexeme = b.0 ++ (b.1 ∷ []) in (
              z.0 ++ b.0,
              b.1,
              b.2,
              z.1 ∙ ap (λ ts. z.0 ++ ts) b.3 ∙ sym (append_assoc z.0 b.0 (b.1 ∷ b.2)),
              b.4,
              b.5,
              inr (x.0, up b.5 (with_toks e.1 next), subst (λ ts. reads R p (up b.5 (with_toks st ts)) (inr x.0) (up b.5 (with_toks e.1 next))) (sym (append_assoc z.0 b.0 (b.1 ∷ []))) (rises Sym Val R b.5 (ris b.5) p _ (inr x.0) _ (z.2 next)), b.6),
            ))
      ]
