-- Each front of a front goes on.
use Rattle.std.proofs.Common.{◌≡◌, ℕ, zero, suc, ◌+◌, ◌≤◌, ◌⊎◌, inl, inr, true, false, List, [], ◌∷◌, ◌++◌, length, Option, Some, None, refl, ap, sym, ◌∙◌, subst, arith, length-append}
use Rattle.asl_grammar.specs.grammar.Cursor.{Lexeme, Cursor, Kinds, among, with_toks, past}
use Rattle.asl_grammar.specs.grammar.Kinds.{kind_of}
use Rattle.asl_grammar.specs.grammar.Combinators.{G, tok, opens, into, seq, either, opt, many, by, spanned, scope, closed, trail, costs, follows, Reading, reads, reads_all, reads_opt, reads_tok, reads_then, reads_trail, reads_follows, goes, goes_tok, goes_trail, Reads, Goes}
use Rattle.asl_grammar.specs.grammar.Reader.{nullable, first, cont, by_one, apart, covers}
use Rattle.asl_grammar.specs.grammar.Syntax.{start, GoesOn}
use Rattle.asl_grammar.proofs.grammar.Basics.{both_true, both_four}
use Rattle.asl_grammar.proofs.grammar.Readings.{Framed, Frames, frame_all, frames_tok, frames_then, frame, empty_goes}
use Rattle.asl_grammar.proofs.grammar.Symbols.{frames_n, short_n}

-- ---- lists cut twice

cons_head : {A : Type 0} {x y : A} {xs ys : List A} → x ∷ xs ≡ y ∷ ys → x ≡ y
cons_head h = cc

cons_tail : {A : Type 0} {x y : A} {xs ys : List A} → x ∷ xs ≡ y ∷ ys → xs ≡ ys
cons_tail h = cc

no_front : (front more : List Lexeme) → front ++ more ≡ [] → front ≡ []
no_front [] more e = refl
no_front (t ∷ front) more e = cc

-- what ends where another begins, or before, is nothing
no_rest : (rest more ts : List Lexeme) → ts ≡ rest ++ more → length ts ≤ length more → rest ≡ []
no_rest [] more ts e l = refl
no_rest (t ∷ rest) more ts e l = let q : length ts ≡ suc (length (rest ++ more)) = ap length e in let k : length (rest ++ more) ≡ length rest + length more = length-append rest more in absurd (omega arith)

split_at : (c rest front more : List Lexeme) → c ++ rest ≡ front ++ more → (length rest ≤ length more) ⊎ ((mid : List Lexeme) × (rest ≡ mid ++ more) × (front ≡ c ++ mid))
split_at [] rest front more e = inr (front, e, refl)
split_at (t ∷ c) rest [] more e = let q : suc (length (c ++ rest)) ≡ length more = ap length e in let k : length (c ++ rest) ≡ length c + length rest = length-append c rest in inl (omega arith)
split_at (t ∷ c) rest (u ∷ front) more e = elim (split_at c rest front more (cons_tail e)) [
  | inl l ↦ inl l
  | inr k ↦ inr (k.0, k.1, (let h : u ≡ t = sym (cons_head e) in ap (λ z. z ∷ front) h ∙ ap (λ z. t ∷ z) k.2))
]

-- a front is nothing, or it begins with the first token
first_token : (t : Lexeme) (ts front more : List Lexeme) → t ∷ ts ≡ front ++ more → (front ≡ []) ⊎ ((rest : List Lexeme) × (front ≡ t ∷ rest) × (ts ≡ rest ++ more))
first_token t ts [] more e = inl refl
first_token t ts (u ∷ front) more e = inr (front, (let h : u ≡ t = sym (cons_head e) in ap (λ z. z ∷ front) h), cons_tail e)

-- ---- readings and fronts, cut

-- where a reading is cut, a front goes on
abbrev Inside : {A : Type 0} → Reading A → (Cursor → Type 0) → Type 0
Inside {A} P Go = (st : Cursor) (a : A) (end : Cursor) → P st a end → (front more : List Lexeme) → st.toks ≡ front ++ more → length end.toks ≤ length more → Go (with_toks st front)

abbrev Cuts : (Cursor → Type 0) → Type 0
Cuts Go = (st : Cursor) → Go st → (front more : List Lexeme) → st.toks ≡ front ++ more → Go (with_toks st front)

abbrev Nothing : (Cursor → Type 0) → Type 0
Nothing Go = (st : Cursor) → st.toks ≡ [] → Go st

-- a front ends inside a reading, or it goes on behind it
abbrev Splits : {A : Type 0} → Reading A → Cursor → A → Cursor → List Lexeme → List Lexeme → Type 0
Splits P st a mid front more = (length mid.toks ≤ length more) ⊎ ((rest : List Lexeme) × (mid.toks ≡ rest ++ more) × P (with_toks st front) a (with_toks mid rest))

split : {A : Type 0} (P : Reading A) (st : Cursor) (a : A) (mid : Cursor) → Framed P st a mid → (front more : List Lexeme) → st.toks ≡ front ++ more → Splits P st a mid front more
split P st a mid f front more e = elim (split_at f.0 mid.toks front more (sym f.1 ∙ e)) [
  | inl l ↦ inl l
  | inr k ↦ inr (k.0, k.1, subst (λ ts. P (with_toks st ts) a (with_toks mid k.0)) (sym k.2) (f.2 k.0))
]

inside_tok : (cs : Kinds) → Inside (reads_tok cs) (goes_tok cs)
inside_tok cs st a end r front more e l = elim (first_token a r.0 front more (sym r.1 ∙ e)) [
  | inl z ↦ inl z
  | inr k ↦ (let q : length end.toks ≡ length r.0 = ap (λ (c : Cursor). length c.toks) r.3 in let n : length r.0 ≤ length more = omega arith in
      inr (a, k.1 ∙ ap (λ us. a ∷ us) (no_rest k.0 more r.0 k.2 n), r.2))
]

cuts_tok : (cs : Kinds) → Cuts (goes_tok cs)
cuts_tok cs st (inl z) front more e = inl (no_front front more (sym e ∙ z))
cuts_tok cs st (inr h) front more e = elim (first_token h.0 [] front more (sym h.1 ∙ e)) [
  | inl z ↦ inl z
  | inr k ↦ inr (h.0, k.1 ∙ ap (λ us. h.0 ∷ us) (no_front k.0 more (sym k.2)), h.2)
]

abbrev AllGoes : {A : Type 0} → Reading A → (Cursor → Type 0) → Cursor → Type 0
AllGoes {A} P Go st = (xs : List A) × (mid : Cursor) × reads_all P st xs mid × Go mid

inside_all : {A : Type 0} (P : Reading A) (Go : Cursor → Type 0) → Frames P → Nothing Go → Inside P Go → (xs : List A) (st end : Cursor) → reads_all P st xs end → (front more : List Lexeme) → st.toks ≡ front ++ more → length end.toks ≤ length more → AllGoes P Go (with_toks st front)
inside_all P Go fr nil ins [] st end r front more e l =
    let q : length end.toks ≡ length st.toks = ap (λ (c : Cursor). length c.toks) r in
    let n : length st.toks ≤ length more = omega arith in
    ([], with_toks st front, refl, nil (with_toks st front) (no_rest front more st.toks e n))
inside_all P Go fr nil ins (x ∷ xs) st end r front more e l = elim (split P st x r.0 (fr st x r.0 r.1) front more e) [
  | inl n ↦ ([], with_toks st front, refl, ins st x r.0 r.1 front more e n)
  | inr k ↦ (let h = inside_all P Go fr nil ins xs r.0 end r.2 k.0 more k.1 l in (x ∷ h.0, h.1, (with_toks r.0 k.0, k.2, h.2), h.3))
]

cuts_all : {A : Type 0} (P : Reading A) (Go : Cursor → Type 0) → Frames P → Nothing Go → Inside P Go → Cuts Go → Cuts (AllGoes P Go)
cuts_all P Go fr nil ins cut st h front more e = elim (split (reads_all P) st h.0 h.1 (frame_all P fr h.0 st h.1 h.2) front more e) [
  | inl n ↦ inside_all P Go fr nil ins h.0 st h.1 h.2 front more e n
  | inr k ↦ (h.0, with_toks h.1 k.0, k.2, cut h.1 h.3 k.0 more k.1)
]

-- a token, and behind it a front
abbrev ThenGoes : Kinds → (Cursor → Type 0) → Cursor → Type 0
ThenGoes cs Go st = goes_tok cs st ⊎ ((t : Lexeme) × (m : Cursor) × reads_tok cs st t m × Go m)

inside_then : {A : Type 0} (cs : Kinds) (P : Reading A) (Go : Cursor → Type 0) → Inside P Go → Inside (reads_then cs P) (ThenGoes cs Go)
inside_then cs P Go ins st a end r front more e l = elim (split (reads_tok cs) st a.0 r.0 (frames_tok cs st a.0 r.0 r.1) front more e) [
  | inl n ↦ inl (inside_tok cs st a.0 r.0 r.1 front more e n)
  | inr k ↦ inr (a.0, with_toks r.0 k.0, k.2, ins r.0 a.1 end r.2 k.0 more k.1 l)
]

cuts_then : (cs : Kinds) (Go : Cursor → Type 0) → Cuts Go → Cuts (ThenGoes cs Go)
cuts_then cs Go cut st (inl h) front more e = inl (cuts_tok cs st h front more e)
cuts_then cs Go cut st (inr h) front more e = elim (split (reads_tok cs) st h.0 h.1 (frames_tok cs st h.0 h.1 h.2) front more e) [
  | inl n ↦ inl (inside_tok cs st h.0 h.1 h.2 front more e n)
  | inr k ↦ inr (h.0, with_toks h.1 k.0, k.2, cut h.1 h.3 k.0 more k.1)
]

inside_last : (cs : Kinds) (o : Option Lexeme) (st end : Cursor) → reads_opt (reads_tok cs) st o end → (front more : List Lexeme) → st.toks ≡ front ++ more → length end.toks ≤ length more → goes_tok cs (with_toks st front)
inside_last cs None st end r front more e l =
    let q : length end.toks ≡ length st.toks = ap (λ (c : Cursor). length c.toks) r in
    let n : length st.toks ≤ length more = omega arith in
    inl (no_rest front more st.toks e n)
inside_last cs (Some t) st end r front more e l = inside_tok cs st t end r front more e l

inside_trail : {A : Type 0} (cs : Kinds) (P : Reading A) (Go : Cursor → Type 0) → Frames P → Inside P Go → Inside (reads_trail cs P) (goes_trail cs P Go)
inside_trail cs P Go fr ins st a end r front more e l = elim (split (reads_all (reads_then cs P)) st a.0 r.0 (frame_all (reads_then cs P) (frames_then cs P fr) a.0 st r.0 r.1) front more e) [
  | inl n ↦ inside_all (reads_then cs P) (ThenGoes cs Go) (frames_then cs P fr) (λ c z. inl (inl z)) (inside_then cs P Go ins) a.0 st r.0 r.1 front more e n
  | inr k ↦ (a.0, with_toks r.0 k.0, k.2, inl (inside_last cs a.1 r.0 end r.2 k.0 more k.1 l))
]

module _ (Sym : Type 0) (Val : Sym → Type 0) (after : Sym → Kinds) (R : (s : Sym) → Reading (Val s)) (Q : (s : Sym) → Cursor → Type 0)
    (shr : (s : Sym) (st : Cursor) (v : Val s) (end : Cursor) → R s st v end → length end.toks ≤ length st.toks) (frs : (s : Sym) → Frames (R s))
    (ins : (s : Sym) → Inside (R s) (Q s)) where
  inside_opt : {A : Type 0} (p : G Sym Val A) → Inside (reads R p) (goes R Q p) → Inside (reads_opt (reads R p)) (goes R Q p)
  inside_opt p f st None end r front more e l =
      let q : length end.toks ≡ length st.toks = ap (λ (c : Cursor). length c.toks) r in
      let n : length st.toks ≤ length more = omega arith in
      empty_goes Sym Val R Q p (with_toks st front) (no_rest front more st.toks e n)
  inside_opt p f st (Some x) end r front more e l = f st x end r front more e l

  inside_symbol : (cs : Kinds) (s : Sym) (st : Cursor) (t : Lexeme) (ts : List Lexeme) (l : ℕ) (v : Val s) (end : Cursor) → st.toks ≡ t ∷ ts → among cs (kind_of t.kind) ≡ true → st.left ≡ suc l → R s (past t ts l) v end
      → (front more : List Lexeme) → st.toks ≡ front ++ more → length end.toks ≤ length more → goes R Q (into cs s) (with_toks st front)
  inside_symbol cs s st t ts l v end is one some r front more e n = elim (first_token t ts front more (sym is ∙ e)) [
    | inl z ↦ inl z
    | inr k ↦ inr (t, k.0, l, k.1, one, some, ins s (past t ts l) v end r k.0 more k.2 n)
  ]

  inside_follows : {A B C : Type 0} (p : G Sym Val (A ⊎ B)) (q : G Sym Val C) → Frames (reads R p) → Inside (reads R p) (goes R Q p) → Inside (reads R q) (goes R Q q) → Inside (reads_follows (reads R p) (reads R q)) (goes R Q (follows p q))
  inside_follows p q fp ip iq st (inl a) end r front more e l = inl (ip st (inl a) end r front more e l)
  inside_follows p q fp ip iq st (inr a) end r front more e l = elim (split (reads R p) st (inr a.0) r.0 (fp st (inr a.0) r.0 r.1) front more e) [
    | inl n ↦ inl (ip st (inr a.0) r.0 r.1 front more e n)
    | inr k ↦ inr (a.0, with_toks r.0 k.0, k.2, iq r.0 a.1 end r.2 k.0 more k.1 l)
  ]

  inside : {A : Type 0} (g : G Sym Val A) → by_one after g ≡ true → Inside (reads R g) (goes R Q g)
  inside (tok cs) w st a end r front more e l = inside_tok cs st a end r front more e l
  inside (opens cs) w st a end r front more e l = elim (first_token a r.0 front more (sym r.2 ∙ e)) [
    | inl z ↦ inl z
    | inr k ↦ (let q : length end.toks ≡ length r.0 = ap (λ (c : Cursor). length c.toks) r.5 in let n : length r.0 ≤ length more = omega arith in
        inr (a, r.1, k.1 ∙ ap (λ us. a ∷ us) (no_rest k.0 more r.0 k.2 n), r.3, r.4))
  ]
  inside (into cs s) w st a end r front more e l = inside_symbol cs s st a.0 r.0 r.1 a.1 end r.2 r.3 r.4 r.5 front more e l
  inside (seq p q) w st a end r front more e l = elim (split (reads R p) st a.0 r.0 (frame Sym Val after R shr frs p (both_true _ _ w).0 st a.0 r.0 r.1) front more e) [
    | inl n ↦ inl (inside p (both_true _ _ w).0 st a.0 r.0 r.1 front more e n)
    | inr k ↦ inr (a.0, with_toks r.0 k.0, k.2, inside q (both_true _ _ (both_true _ _ w).1).0 r.0 a.1 end r.2 k.0 more k.1 l)
  ]
  inside (either p q) w st a end r front more e l = elim r [
    | inl h ↦ inl (inside p (both_true _ _ w).0 st a end h front more e l)
    | inr h ↦ inr (inside q (both_true _ _ (both_true _ _ w).1).0 st a end h front more e l)
  ]
  inside (opt p) w st a end r front more e l = inside_opt p (inside p (both_true _ _ w).0) st a end r front more e l
  inside (many p) w st a end r front more e l = inside_all (reads R p) (goes R Q p) (frame Sym Val after R shr frs p (both_true _ _ w).0) (empty_goes Sym Val R Q p) (inside p (both_true _ _ w).0) a st end r front more e l
  inside (by f p) w st a end r front more e l = inside p w st r.0 end r.1 front more e l
  inside (spanned p) w st a end r front more e l = inside p (both_true _ _ w).0 st a.0 end r.0 front more e l
  inside (scope p) w st a end r front more e l =
      let q : length end.toks ≡ length r.0.toks = ap (λ (c : Cursor). length c.toks) r.2 in
      inside p w st a r.0 r.1 front more e (omega arith)
  inside (closed cs s) w st a end r front more e l =
      let q : length end.toks ≡ length r.2.toks = ap (λ (c : Cursor). length c.toks) r.7 in
      inside_symbol cs s st a.0 r.0 r.1 a.1 r.2 r.3 r.4 r.5 r.6 front more e (omega arith)
  inside (trail cs p) w st a end r front more e l = inside_trail cs (reads R p) (goes R Q p) (frame Sym Val after R shr frs p (both_true _ _ w).0) (inside p (both_true _ _ w).0) st a end r front more e l
  inside (costs late p) w st a end r front more e l = inr (r.0, r.1, inside p (both_true _ _ w).0 (record st { left = r.0 }) a end r.2 front more e l)
  inside (follows p q) w st a end r front more e l =
      let k : (by_one after p ≡ true) × (by_one after q ≡ true) × (nullable p ≡ false) × (apart (cont after p) (first q) ≡ true) = both_four (by_one after p) (by_one after q) (nullable p) (apart (cont after p) (first q)) w in
      inside_follows p q (frame Sym Val after R shr frs p k.0) (inside p k.0) (inside q k.1) st a end r front more e l

  module _ (cut : (s : Sym) → Cuts (Q s)) where
    cuts_symbol : (cs : Kinds) (s : Sym) → Cuts (goes R Q (into cs s))
    cuts_symbol cs s st (inl z) front more e = inl (no_front front more (sym e ∙ z))
    cuts_symbol cs s st (inr h) front more e = elim (first_token h.0 h.1 front more (sym h.3 ∙ e)) [
      | inl z ↦ inl z
      | inr k ↦ inr (h.0, k.0, h.2, k.1, h.4, h.5, cut s (past h.0 h.1 h.2) h.6 k.0 more k.2)
    ]

    cuts_opens : (cs : Kinds) → Cuts (goes R Q (opens cs))
    cuts_opens cs st (inl z) front more e = inl (no_front front more (sym e ∙ z))
    cuts_opens cs st (inr h) front more e = elim (first_token h.0 [] front more (sym h.2 ∙ e)) [
      | inl z ↦ inl z
      | inr k ↦ inr (h.0, h.1, k.1 ∙ ap (λ us. h.0 ∷ us) (no_front k.0 more (sym k.2)), h.3, h.4)
    ]

    cuts : {A : Type 0} (g : G Sym Val A) → by_one after g ≡ true → Cuts (goes R Q g)
    cuts (tok cs) w st h front more e = cuts_tok cs st h front more e
    cuts (opens cs) w st h front more e = cuts_opens cs st h front more e
    cuts (into cs s) w st h front more e = cuts_symbol cs s st h front more e
    cuts (seq p q) w st h front more e = elim h [
      | inl g ↦ inl (cuts p (both_true _ _ w).0 st g front more e)
      | inr g ↦ (elim (split (reads R p) st g.0 g.1 (frame Sym Val after R shr frs p (both_true _ _ w).0 st g.0 g.1 g.2) front more e) [
        | inl n ↦ inl (inside p (both_true _ _ w).0 st g.0 g.1 g.2 front more e n)
        | inr k ↦ inr (g.0, with_toks g.1 k.0, k.2, cuts q (both_true _ _ (both_true _ _ w).1).0 g.1 g.3 k.0 more k.1)
      ])
    ]
    cuts (either p q) w st h front more e = elim h [
      | inl g ↦ inl (cuts p (both_true _ _ w).0 st g front more e)
      | inr g ↦ inr (cuts q (both_true _ _ (both_true _ _ w).1).0 st g front more e)
    ]
    cuts (opt p) w st h front more e = cuts p (both_true _ _ w).0 st h front more e
    cuts (many p) w st h front more e = cuts_all (reads R p) (goes R Q p) (frame Sym Val after R shr frs p (both_true _ _ w).0) (empty_goes Sym Val R Q p) (inside p (both_true _ _ w).0) (cuts p (both_true _ _ w).0) st h front more e
    cuts (by f p) w st h front more e = cuts p w st h front more e
    cuts (spanned p) w st h front more e = cuts p (both_true _ _ w).0 st h front more e
    cuts (scope p) w st h front more e = cuts p w st h front more e
    cuts (closed cs s) w st h front more e = cuts_symbol cs s st h front more e
    cuts (trail cs p) w st h front more e =
        let fr = frame Sym Val after R shr frs p (both_true _ _ w).0 in
        cuts_all (reads_then cs (reads R p)) (ThenGoes cs (goes R Q p)) (frames_then cs (reads R p) fr) (λ c z. inl (inl z)) (inside_then cs (reads R p) (goes R Q p) (inside p (both_true _ _ w).0)) (cuts_then cs (goes R Q p) (cuts p (both_true _ _ w).0)) st h front more e
    cuts (costs late p) w st h front more e = elim h [
      | inl z ↦ inl (no_front front more (sym e ∙ z))
      | inr g ↦ inr (g.0, g.1, cuts p (both_true _ _ w).0 (record st { left = g.0 }) g.2 front more e)
    ]
    cuts (follows p q) w st h front more e =
        let b = both_four (by_one after p) (by_one after q) (nullable p) (apart (cont after p) (first q)) w in
        elim h [
          | inl g ↦ inl (cuts p b.0 st g front more e)
          | inr g ↦ (elim (split (reads R p) st (inr g.0) g.1 (frame Sym Val after R shr frs p b.0 st (inr g.0) g.1 g.2) front more e) [
            | inl n ↦ inl (inside p b.0 st (inr g.0) g.1 g.2 front more e n)
            | inr k ↦ inr (g.0, with_toks g.1 k.0, k.2, cuts q b.1 g.1 g.3 k.0 more k.1)
          ])
        ]

module _ (Sym : Type 0) (Val : Sym → Type 0) (rule : (s : Sym) → G Sym Val (Val s)) (after : Sym → Kinds)
    (each : (s : Sym) → by_one after (rule s) ≡ true) (covered : (s : Sym) → covers (after s) (cont after (rule s)) ≡ true) where
  inside_n : (n : ℕ) (s : Sym) → Inside (Reads Sym Val rule n s) (Goes Sym Val rule n s)
  inside_n zero s st a end r front more e l = elim r [ ]
  inside_n (suc n) s st a end r front more e l =
      inside Sym Val after (Reads Sym Val rule n) (Goes Sym Val rule n) (short_n Sym Val rule after each covered n) (frames_n Sym Val rule after each covered n) (inside_n n) (rule s) (each s) st a end r front more e l

  cuts_n : (n : ℕ) (s : Sym) → Cuts (Goes Sym Val rule n s)
  cuts_n zero s st h front more e = no_front front more (sym e ∙ h)
  cuts_n (suc n) s st h front more e =
      cuts Sym Val after (Reads Sym Val rule n) (Goes Sym Val rule n) (short_n Sym Val rule after each covered n) (frames_n Sym Val rule after each covered n) (inside_n n) (cuts_n n) (rule s) (each s) st h front more e

  -- each front of a front goes on
  pub shorter_goes : (s : Sym) (levels : ℕ) (front more : List Lexeme) → GoesOn Sym Val rule s levels (front ++ more) → GoesOn Sym Val rule s levels front
  shorter_goes s levels front more g = (g.0, cuts_n g.0 s (start levels (front ++ more)) g.1 front more refl)
