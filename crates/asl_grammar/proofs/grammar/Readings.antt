-- What every reading does: it takes tokens from the front, whatever follows them, and opens levels.
use Rattle.std.proofs.Common.{◌≡◌, ℕ, suc, ◌≤◌, ◌<◌, ◌⊎◌, inl, inr, Bool, true, false, List, [], ◌∷◌, ◌++◌, length, Option, Some, None, refl, ap, sym, ◌∙◌, subst, arith, append_assoc}
use Rattle.asl_grammar.specs.grammar.Kinds.{kind_of}
use Rattle.asl_grammar.specs.grammar.Cursor.{Lexeme, Cursor, Kinds, among, starts, with_toks, extent}
use Rattle.asl_grammar.specs.grammar.Combinators.{G, tok, opens, into, seq, either, opt, many, by, spanned, scope, closed, trail, costs, follows, Reading, reads, reads_all, reads_opt, reads_tok, reads_then, reads_trail, reads_follows, goes, goes_trail}
use Rattle.asl_grammar.specs.grammar.Reader.{nullable, first, cont, by_one, both, pick, apart}
use Rattle.asl_grammar.proofs.grammar.Basics.{both_true, both_four, flipped_true, starts_left, starts_right}

-- it takes a token of F, or, if it may be empty, none
abbrev pub TookAs : Kinds → Bool → Cursor → Cursor → Type 0
TookAs F n st end = ((starts F st.toks ≡ true) × (length end.toks < length st.toks)) ⊎ ((n ≡ true) × (end.toks ≡ st.toks))

abbrev pub Takes : {A : Type 0} → Reading A → Kinds → Bool → Type 0
Takes {A} P F n = (st : Cursor) (a : A) (end : Cursor) → P st a end → TookAs F n st end

abbrev pub Framed : {A : Type 0} → Reading A → Cursor → A → Cursor → Type 0
Framed P st a end = (c : List Lexeme) × (st.toks ≡ c ++ end.toks) × ((ts : List Lexeme) → P (with_toks st (c ++ ts)) a (with_toks end ts))

abbrev pub Frames : {A : Type 0} → Reading A → Type 0
Frames {A} P = (st : Cursor) (a : A) (end : Cursor) → P st a end → Framed P st a end

abbrev pub Lowers : {A : Type 0} → Reading A → Type 0
Lowers {A} P = (st : Cursor) (a : A) (end : Cursor) → P st a end → end.left ≤ st.left

pub took_one : (cs : Kinds) (st end : Cursor) (t : Lexeme) (ts : List Lexeme) → st.toks ≡ t ∷ ts → among cs (kind_of t.kind) ≡ true → length end.toks ≤ length ts → (starts cs st.toks ≡ true) × (length end.toks < length st.toks)
took_one cs st end t ts e m le = (ap (starts cs) e ∙ m, (let q : length st.toks ≡ suc (length ts) = ap length e in omega arith))

pub took_all : {A : Type 0} (P : Reading A) (F : Kinds) (n : Bool) → Takes P F n → (xs : List A) (st end : Cursor) → reads_all P st xs end → TookAs F true st end
took_all P F n takes [] st end r = inr (refl, ap (λ (c : Cursor). c.toks) r)
took_all P F n takes (x ∷ xs) st end r = go (takes st x r.0 r.1) (took_all P F n takes xs r.0 end r.2)
  where
    go : TookAs F n st r.0 → TookAs F true r.0 end → TookAs F true st end
    go (inl h) (inl k) = inl (h.0, omega arith)
    go (inl h) (inr k) = inl (h.0, (let q : length end.toks ≡ length r.0.toks = ap length k.1 in omega arith))
    go (inr h) (inl k) = inl (ap (starts F) (sym h.1) ∙ k.0, (let q : length r.0.toks ≡ length st.toks = ap length h.1 in omega arith))
    go (inr h) (inr k) = inr (refl, k.1 ∙ h.1)

pub took_seq : (F F' : Kinds) (n n' : Bool) (st mid end : Cursor) → TookAs F n st mid → TookAs F' n' mid end → TookAs (F ++ pick n F' []) (both n n') st end
took_seq F F' n n' st mid end (inl h) (inl k) = inl (starts_left F _ st.toks h.0, omega arith)
took_seq F F' n n' st mid end (inl h) (inr k) = inl (starts_left F _ st.toks h.0, (let q : length end.toks ≡ length mid.toks = ap length k.1 in omega arith))
took_seq F F' n n' st mid end (inr h) (inl k) = inl (starts_right F _ st.toks (rw h.0 (ap (starts F') (sym h.1) ∙ k.0)), (let q : length mid.toks ≡ length st.toks = ap length h.1 in omega arith))
took_seq F F' n n' st mid end (inr h) (inr k) = inr (rw h.0 k.0, k.1 ∙ h.1)

-- what may not be empty took a token
pub took_some : (F : Kinds) (n : Bool) (st end : Cursor) → n ≡ false → TookAs F n st end → (starts F st.toks ≡ true) × (length end.toks < length st.toks)
took_some F n st end e (inl h) = h
took_some F n st end e (inr h) = cc

pub took_either : (F F' : Kinds) (n n' : Bool) (st end : Cursor) → n ≡ false → n' ≡ false → TookAs F n st end ⊎ TookAs F' n' st end → TookAs (F ++ F') false st end
took_either F F' n n' st end e e' (inl h) = let k = took_some F n st end e h in inl (starts_left F F' st.toks k.0, k.1)
took_either F F' n n' st end e e' (inr h) = let k = took_some F' n' st end e' h in inl (starts_right F F' st.toks k.0, k.1)

pub took_opt : {A : Type 0} (P : Reading A) (F : Kinds) (n : Bool) → Takes P F n → n ≡ false → (a : Option A) (st end : Cursor) → reads_opt P st a end → TookAs F true st end
took_opt P F n takes e None st end r = inr (refl, ap (λ (c : Cursor). c.toks) r)
took_opt P F n takes e (Some x) st end r = inl (took_some F n st end e (takes st x end r))

pub took_scope : (F : Kinds) (n : Bool) (st mid end : Cursor) → end.toks ≡ mid.toks → TookAs F n st mid → TookAs F n st end
took_scope F n st mid end e h = subst (λ ts. ((starts F st.toks ≡ true) × (length ts < length st.toks)) ⊎ ((n ≡ true) × (ts ≡ st.toks))) (sym e) h

pub took_twice : (F : Kinds) (st mid end : Cursor) → TookAs F true st mid → TookAs F true mid end → TookAs F true st end
took_twice F st mid end (inl h) (inl k) = inl (h.0, omega arith)
took_twice F st mid end (inl h) (inr k) = inl (h.0, (let q : length end.toks ≡ length mid.toks = ap length k.1 in omega arith))
took_twice F st mid end (inr h) (inl k) = inl (ap (starts F) (sym h.1) ∙ k.0, (let q : length mid.toks ≡ length st.toks = ap length h.1 in omega arith))
took_twice F st mid end (inr h) (inr k) = inr (refl, k.1 ∙ h.1)

pub took_less : (F : Kinds) (n : Bool) (st end : Cursor) → TookAs F n st end → length end.toks ≤ length st.toks
took_less F n st end (inl h) = let k : length end.toks < length st.toks = h.1 in omega arith
took_less F n st end (inr h) = let q : length end.toks ≡ length st.toks = ap length h.1 in omega arith

pub took_tok : (cs : Kinds) → Takes (reads_tok cs) cs false
took_tok cs st a end r = inl (took_one cs st end a r.0 r.1 r.2 (let q : length end.toks ≡ length r.0 = ap (λ (c : Cursor). length c.toks) r.3 in omega arith))

pub took_then : {A : Type 0} (cs : Kinds) (P : Reading A) (F : Kinds) (n : Bool) → Takes P F n → Takes (reads_then cs P) cs false
took_then cs P F n takes st a end r =
    let k : length end.toks ≤ length r.0.toks = took_less F n r.0 end (takes r.0 a.1 end r.2) in
    let q : length r.0.toks ≡ length r.1.0 = ap (λ (c : Cursor). length c.toks) r.1.3 in
    inl (took_one cs st end a.0 r.1.0 r.1.1 r.1.2 (omega arith))

pub took_trail : {A : Type 0} (cs : Kinds) (P : Reading A) (F : Kinds) (n : Bool) → Takes P F n → (a : List (Lexeme × A) × Option Lexeme) (st end : Cursor) → reads_trail cs P st a end → TookAs cs true st end
took_trail cs P F n takes a st end r = took_twice cs st r.0 end (took_all (reads_then cs P) cs false (took_then cs P F n takes) a.0 st r.0 r.1) (took_opt (reads_tok cs) cs false (took_tok cs) refl a.1 r.0 end r.2)

pub took_follows : {A B C : Type 0} (P : Reading (A ⊎ B)) (Q : Reading C) (F F' : Kinds) (n n' : Bool) → Takes P F n → Takes Q F' n' → n ≡ false → (a : A ⊎ (B × C)) (st end : Cursor) → reads_follows P Q st a end → TookAs F false st end
took_follows P Q F F' n n' tp tq e (inl a) st end r = inl (took_some F n st end e (tp st (inl a) end r))
took_follows P Q F F' n n' tp tq e (inr a) st end r =
    let h = took_some F n st r.0 e (tp st (inr a.0) r.0 r.1) in
    let l : length r.0.toks < length st.toks = h.1 in
    let k : length end.toks ≤ length r.0.toks = took_less F' n' r.0 end (tq r.0 a.1 end r.2) in
    inl (h.0, omega arith)

module _ (Sym : Type 0) (Val : Sym → Type 0) (after : Sym → Kinds) (R : (s : Sym) → Reading (Val s)) where
  pub took : ((s : Sym) (st : Cursor) (v : Val s) (end : Cursor) → R s st v end → length end.toks ≤ length st.toks) → {A : Type 0} (g : G Sym Val A) → by_one after g ≡ true → Takes (reads R g) (first g) (nullable g)
  took shr (tok cs) w st a end r = inl (took_one cs st end a r.0 r.1 r.2 (let q : length end.toks ≡ length r.0 = ap (λ (c : Cursor). length c.toks) r.3 in omega arith))
  took shr (opens cs) w st a end r = inl (took_one cs st end a r.0 r.2 r.3 (let q : length end.toks ≡ length r.0 = ap (λ (c : Cursor). length c.toks) r.5 in omega arith))
  took shr (into cs s) w st a end r = inl (took_one cs st end a.0 r.0 r.2 r.3 (shr s _ a.1 end r.5))
  took shr (seq p q) w st a end r = took_seq (first p) (first q) (nullable p) (nullable q) st r.0 end (took shr p (both_true _ _ w).0 st a.0 r.0 r.1) (took shr q (both_true _ _ (both_true _ _ w).1).0 r.0 a.1 end r.2)
  took shr (either p q) w st a end r =
      let w1 = (both_true _ _ w).1 in
      let w2 = (both_true _ _ w1).1 in
      took_either (first p) (first q) (nullable p) (nullable q) st end (flipped_true _ (both_true _ _ w2).0) (flipped_true _ (both_true _ _ (both_true _ _ w2).1).0)
      (elim r [ inl h ↦ inl (took shr p (both_true _ _ w).0 st a end h) | inr h ↦ inr (took shr q (both_true _ _ w1).0 st a end h) ])
  took shr (opt p) w st a end r = took_opt (reads R p) (first p) (nullable p) (took shr p (both_true _ _ w).0) (flipped_true _ (both_true _ _ w).1) a st end r
  took shr (many p) w st a end r = took_all (reads R p) (first p) (nullable p) (took shr p (both_true _ _ w).0) a st end r
  took shr (by f p) w st a end r = took shr p w st r.0 end r.1
  took shr (spanned p) w st a end r = took shr p (both_true _ _ w).0 st a.0 end r.0
  took shr (scope p) w st a end r = took_scope (first p) (nullable p) st r.0 end (ap (λ (c : Cursor). c.toks) r.2) (took shr p w st a r.0 r.1)
  took shr (closed cs s) w st a end r =
      let q : length end.toks ≡ length r.2.toks = ap (λ (c : Cursor). length c.toks) r.7 in
      let k : length r.2.toks ≤ length r.0 = shr s _ a.1 r.2 r.6 in
      inl (took_one cs st end a.0 r.0 r.3 r.4 (omega arith))
  took shr (trail cs p) w st a end r = took_trail cs (reads R p) (first p) (nullable p) (took shr p (both_true _ _ w).0) a st end r
  took shr (costs late p) w st a end r = inl (took_some (first p) (nullable p) (record st { left = r.0 }) end (flipped_true _ (both_true _ _ w).1) (took shr p (both_true _ _ w).0 (record st { left = r.0 }) a end r.2))
  took shr (follows p q) w st a end r =
      let k = both_four (by_one after p) (by_one after q) (nullable p) (apart (cont after p) (first q)) w in
      took_follows (reads R p) (reads R q) (first p) (first q) (nullable p) (nullable q) (took shr p k.0) (took shr q k.1) k.2 a st end r

-- ---- what stands behind does not matter

framed_seq : {A B : Type 0} (P : Reading A) (Q : Reading B) (st mid end : Cursor) (a : A) (b : B) → Framed P st a mid → Framed Q mid b end
    → (c : List Lexeme) × (st.toks ≡ c ++ end.toks) × ((us : List Lexeme) → (m : Cursor) × P (with_toks st (c ++ us)) a m × Q m b (with_toks end us))
framed_seq P Q st mid end a b f g = (
  f.0 ++ g.0,
  f.1 ∙ ap (λ ts. f.0 ++ ts) g.1 ∙ sym (append_assoc f.0 g.0 end.toks),
  (λ us. (with_toks mid (g.0 ++ us), subst (λ ts. P (with_toks st ts) a (with_toks mid (g.0 ++ us))) (sym (append_assoc f.0 g.0 us)) (f.2 (g.0 ++ us)), g.2 us)),
)

framed_none : {A : Type 0} (P : Reading A) (st : Cursor) (a : A) (end : Cursor) → end ≡ st → ((us : List Lexeme) → P (with_toks st us) a (with_toks end us)) → Framed P st a end
framed_none P st a end e f = ([], ap (λ (c : Cursor). c.toks) (sym e), f)

pub frame_all : {A : Type 0} (P : Reading A) → Frames P → (xs : List A) (st end : Cursor) → reads_all P st xs end → Framed (reads_all P) st xs end
frame_all P fr [] st end r = framed_none (reads_all P) st [] end r (λ us. ap (λ c. with_toks c us) r)
frame_all P fr (x ∷ xs) st end r = framed_seq P (reads_all P) st r.0 end x xs (fr st x r.0 r.1) (frame_all P fr xs r.0 end r.2)

pub frame_opt : {A : Type 0} (P : Reading A) → Frames P → (a : Option A) (st end : Cursor) → reads_opt P st a end → Framed (reads_opt P) st a end
frame_opt P fr None st end r = framed_none (reads_opt P) st None end r (λ us. ap (λ c. with_toks c us) r)
frame_opt P fr (Some x) st end r = fr st x end r

pub frames_tok : (cs : Kinds) → Frames (reads_tok cs)
frames_tok cs st a end r = (a ∷ [], r.1 ∙ ap (λ (c : Cursor). a ∷ c.toks) (sym r.3), (λ us. (us, refl, r.2, ap (λ c. with_toks c us) r.3)))

pub frames_then : {A : Type 0} (cs : Kinds) (P : Reading A) → Frames P → Frames (reads_then cs P)
frames_then cs P fr st a end r = framed_seq (reads_tok cs) P st r.0 end a.0 a.1 (frames_tok cs st a.0 r.0 r.1) (fr r.0 a.1 end r.2)

pub frames_trail : {A : Type 0} (cs : Kinds) (P : Reading A) → Frames P → Frames (reads_trail cs P)
frames_trail cs P fr st a end r = framed_seq (reads_all (reads_then cs P)) (reads_opt (reads_tok cs)) st r.0 end a.0 a.1 (frame_all (reads_then cs P) (frames_then cs P fr) a.0 st r.0 r.1) (frame_opt (reads_tok cs) (frames_tok cs) a.1 r.0 end r.2)

frame_follows : {A B C : Type 0} (P : Reading (A ⊎ B)) (Q : Reading C) → Frames P → Frames Q → (a : A ⊎ (B × C)) (st end : Cursor) → reads_follows P Q st a end → Framed (reads_follows P Q) st a end
frame_follows P Q fp fq (inl a) st end r = fp st (inl a) end r
frame_follows P Q fp fq (inr a) st end r = framed_seq P Q st r.0 end (inr a.0) a.1 (fp st (inr a.0) r.0 r.1) (fq r.0 a.1 end r.2)

span_frame : (c ts rest us : List Lexeme) (l : ℕ) → ts ≡ c ++ rest → length rest < length ts → extent ts l ≡ extent (c ++ us) l
span_frame [] ts rest us l e lt = let q : length ts ≡ length rest = ap length e in absurd (omega arith)
span_frame (t ∷ c) ts rest us l e lt = ap (λ x. extent x l) e

module _ (Sym : Type 0) (Val : Sym → Type 0) (after : Sym → Kinds) (R : (s : Sym) → Reading (Val s))
    (shr : (s : Sym) (st : Cursor) (v : Val s) (end : Cursor) → R s st v end → length end.toks ≤ length st.toks) (frs : (s : Sym) → Frames (R s)) where
  pub frame : {A : Type 0} (g : G Sym Val A) → by_one after g ≡ true → Frames (reads R g)
  frame (tok cs) w st a end r = (a ∷ [], r.1 ∙ ap (λ (c : Cursor). a ∷ c.toks) (sym r.3), (λ us. (us, refl, r.2, ap (λ c. with_toks c us) r.3)))
  frame (opens cs) w st a end r = (a ∷ [], r.2 ∙ ap (λ (c : Cursor). a ∷ c.toks) (sym r.5), (λ us. (us, r.1, refl, r.3, r.4, ap (λ c. with_toks c us) r.5)))
  frame (into cs s) w st a end r =
      let f = frs s _ a.1 end r.5 in
      (a.0 ∷ f.0, r.2 ∙ ap (λ ts. a.0 ∷ ts) f.1, (λ us. (f.0 ++ us, r.1, refl, r.3, r.4, f.2 us)))
  frame (seq p q) w st a end r = framed_seq (reads R p) (reads R q) st r.0 end a.0 a.1 (frame p (both_true _ _ w).0 st a.0 r.0 r.1) (frame q (both_true _ _ (both_true _ _ w).1).0 r.0 a.1 end r.2)
  frame (either p q) w st a end r =
      elim r [
        | inl h ↦ (let f = frame p (both_true _ _ w).0 st a end h in (f.0, f.1, λ us. inl (f.2 us)))
        | inr h ↦ (let f = frame q (both_true _ _ (both_true _ _ w).1).0 st a end h in (f.0, f.1, λ us. inr (f.2 us)))
      ]
  frame (opt p) w st a end r = frame_opt (reads R p) (frame p (both_true _ _ w).0) a st end r
  frame (many p) w st a end r = frame_all (reads R p) (frame p (both_true _ _ w).0) a st end r
  frame (by f p) w st a end r = let k = frame p w st r.0 end r.1 in (k.0, k.1, λ us. (r.0, k.2 us, r.2))
  frame (spanned p) w st a end r =
      let f = frame p (both_true _ _ w).0 st a.0 end r.0 in
      let k = took_some (first p) (nullable p) st end (flipped_true _ (both_true _ _ w).1) (took Sym Val after R shr p (both_true _ _ w).0 st a.0 end r.0) in
      (f.0, f.1, λ us. (f.2 us, r.1 ∙ span_frame f.0 st.toks end.toks us end.last f.1 k.1))
  frame (scope p) w st a end r =
      let f = frame p w st a r.0 r.1 in
      (f.0, f.1 ∙ ap (λ (c : Cursor). f.0 ++ c.toks) (sym r.2), λ us. (with_toks r.0 us, f.2 us, ap (λ c. with_toks c us) r.2))
  frame (closed cs s) w st a end r =
      let f = frs s _ a.1 r.2 r.6 in
      (a.0 ∷ f.0, r.3 ∙ ap (λ ts. a.0 ∷ ts) f.1 ∙ ap (λ (c : Cursor). (a.0 ∷ f.0) ++ c.toks) (sym r.7), (λ us. (f.0 ++ us, r.1, with_toks r.2 us, refl, r.4, r.5, f.2 us, ap (λ c. with_toks c us) r.7)))
  frame (trail cs p) w st a end r = frames_trail cs (reads R p) (frame p (both_true _ _ w).0) st a end r
  frame (costs late p) w st a end r =
      let f = frame p (both_true _ _ w).0 (record st { left = r.0 }) a end r.2 in
      (f.0, f.1, λ us. (r.0, r.1, f.2 us))
  frame (follows p q) w st a end r =
      let k = both_four (by_one after p) (by_one after q) (nullable p) (apart (cont after p) (first q)) w in
      frame_follows (reads R p) (reads R q) (frame p k.0) (frame q k.1) a st end r

-- ---- levels that were opened stay so, or are given back

pub lowers_all : {A : Type 0} (P : Reading A) → Lowers P → (xs : List A) (st end : Cursor) → reads_all P st xs end → end.left ≤ st.left
lowers_all P lo [] st end r = let q : end.left ≡ st.left = ap (λ (c : Cursor). c.left) r in omega arith
lowers_all P lo (x ∷ xs) st end r = let h : r.0.left ≤ st.left = lo st x r.0 r.1 in let k : end.left ≤ r.0.left = lowers_all P lo xs r.0 end r.2 in omega arith

lowers_opt : {A : Type 0} (P : Reading A) → Lowers P → (a : Option A) (st end : Cursor) → reads_opt P st a end → end.left ≤ st.left
lowers_opt P lo None st end r = let q : end.left ≡ st.left = ap (λ (c : Cursor). c.left) r in omega arith
lowers_opt P lo (Some x) st end r = lo st x end r

pub lowers_tok : (cs : Kinds) → Lowers (reads_tok cs)
lowers_tok cs st a end r = let q : end.left ≡ st.left = ap (λ (c : Cursor). c.left) r.3 in omega arith

pub lowers_then : {A : Type 0} (cs : Kinds) (P : Reading A) → Lowers P → Lowers (reads_then cs P)
lowers_then cs P lo st a end r = let h : r.0.left ≤ st.left = lowers_tok cs st a.0 r.0 r.1 in let k : end.left ≤ r.0.left = lo r.0 a.1 end r.2 in omega arith

pub lowers_trail : {A : Type 0} (cs : Kinds) (P : Reading A) → Lowers P → Lowers (reads_trail cs P)
lowers_trail cs P lo st a end r =
    let h : r.0.left ≤ st.left = lowers_all (reads_then cs P) (lowers_then cs P lo) a.0 st r.0 r.1 in
    let k : end.left ≤ r.0.left = lowers_opt (reads_tok cs) (lowers_tok cs) a.1 r.0 end r.2 in
    omega arith

lowers_follows : {A B C : Type 0} (P : Reading (A ⊎ B)) (Q : Reading C) → Lowers P → Lowers Q → (a : A ⊎ (B × C)) (st end : Cursor) → reads_follows P Q st a end → end.left ≤ st.left
lowers_follows P Q lp lq (inl a) st end r = lp st (inl a) end r
lowers_follows P Q lp lq (inr a) st end r = let h : r.0.left ≤ st.left = lp st (inr a.0) r.0 r.1 in let k : end.left ≤ r.0.left = lq r.0 a.1 end r.2 in omega arith

module _ (Sym : Type 0) (Val : Sym → Type 0) (R : (s : Sym) → Reading (Val s)) (los : (s : Sym) → Lowers (R s)) where
  pub lowers : {A : Type 0} (g : G Sym Val A) → Lowers (reads R g)
  lowers (tok cs) st a end r = let q : end.left ≡ st.left = ap (λ (c : Cursor). c.left) r.3 in omega arith
  lowers (opens cs) st a end r = let q : end.left ≡ r.1 = ap (λ (c : Cursor). c.left) r.5 in let l : st.left ≡ suc r.1 = r.4 in omega arith
  lowers (into cs s) st a end r = let q : end.left ≤ r.1 = los s _ a.1 end r.5 in let l : st.left ≡ suc r.1 = r.4 in omega arith
  lowers (seq p q) st a end r = let h : r.0.left ≤ st.left = lowers p st a.0 r.0 r.1 in let k : end.left ≤ r.0.left = lowers q r.0 a.1 end r.2 in omega arith
  lowers (either p q) st a end r = elim r [ inl h ↦ lowers p st a end h | inr h ↦ lowers q st a end h ]
  lowers (opt p) st a end r = lowers_opt (reads R p) (lowers p) a st end r
  lowers (many p) st a end r = lowers_all (reads R p) (lowers p) a st end r
  lowers (by f p) st a end r = lowers p st r.0 end r.1
  lowers (spanned p) st a end r = lowers p st a.0 end r.0
  lowers (scope p) st a end r = let q : end.left ≡ st.left = ap (λ (c : Cursor). c.left) r.2 in omega arith
  lowers (closed cs s) st a end r =
      let q : end.left ≡ suc r.2.left = ap (λ (c : Cursor). c.left) r.7 in
      let k : r.2.left ≤ r.1 = los s _ a.1 r.2 r.6 in
      let l : st.left ≡ suc r.1 = r.5 in
      omega arith
  lowers (trail cs p) st a end r = lowers_trail cs (reads R p) (lowers p) st a end r
  lowers (costs late p) st a end r = let k : end.left ≤ r.0 = lowers p (record st { left = r.0 }) a end r.2 in let l : st.left ≡ suc r.0 = r.1 in omega arith
  lowers (follows p q) st a end r = lowers_follows (reads R p) (reads R q) (lowers p) (lowers q) a st end r

-- ---- fronts

module _ (Sym : Type 0) (Val : Sym → Type 0) (R : (s : Sym) → Reading (Val s)) (Q : (s : Sym) → Cursor → Type 0) where
  -- nothing is a front
  pub empty_goes : {A : Type 0} (g : G Sym Val A) (st : Cursor) → st.toks ≡ [] → goes R Q g st
  empty_goes (tok cs) st e = inl e
  empty_goes (opens cs) st e = inl e
  empty_goes (into cs s) st e = inl e
  empty_goes (seq p q) st e = inl (empty_goes p st e)
  empty_goes (either p q) st e = inl (empty_goes p st e)
  empty_goes (opt p) st e = empty_goes p st e
  empty_goes (many p) st e = ([], st, refl, empty_goes p st e)
  empty_goes (by f p) st e = empty_goes p st e
  empty_goes (spanned p) st e = empty_goes p st e
  empty_goes (scope p) st e = empty_goes p st e
  empty_goes (closed cs s) st e = inl e
  empty_goes (trail cs p) st e = ([], st, refl, inl (inl e))
  empty_goes (costs late p) st e = inl e
  empty_goes (follows p q) st e = inl (empty_goes p st e)

  whole_opt : {A : Type 0} (p : G Sym Val A) → ((a : A) (st end : Cursor) → reads R p st a end → end.toks ≡ [] → goes R Q p st) → (a : Option A) (st end : Cursor) → reads_opt (reads R p) st a end → end.toks ≡ [] → goes R Q p st
  whole_opt p f None st end r e = empty_goes p st (ap (λ (c : Cursor). c.toks) (sym r) ∙ e)
  whole_opt p f (Some x) st end r e = f x st end r e

  whole_trail : {A : Type 0} (cs : Kinds) (P : Reading A) (Go : Cursor → Type 0) (xs : List (Lexeme × A)) (o : Option Lexeme) (st mid end : Cursor) → reads_all (reads_then cs P) st xs mid → reads_opt (reads_tok cs) mid o end → end.toks ≡ [] → goes_trail cs P Go st
  whole_trail cs P Go xs None st mid end r o e = (xs, mid, r, inl (inl (ap (λ (c : Cursor). c.toks) (sym o) ∙ e)))
  whole_trail cs P Go xs (Some t) st mid end r o e = (xs, mid, r, inl (inr (t, o.1 ∙ ap (λ ts. t ∷ ts) (ap (λ (c : Cursor). c.toks) (sym o.3) ∙ e), o.2)))

  whole_follows : {A B C : Type 0} (p : G Sym Val (A ⊎ B)) (q : G Sym Val C) → ((a : A ⊎ B) (st end : Cursor) → reads R p st a end → end.toks ≡ [] → goes R Q p st) → ((a : C) (st end : Cursor) → reads R q st a end → end.toks ≡ [] → goes R Q q st)
      → (a : A ⊎ (B × C)) (st end : Cursor) → reads_follows (reads R p) (reads R q) st a end → end.toks ≡ [] → goes R Q (follows p q) st
  whole_follows p q fp fq (inl a) st end r e = inl (fp (inl a) st end r e)
  whole_follows p q fp fq (inr a) st end r e = inr (a.0, r.0, r.1, fq a.1 r.0 end r.2 e)

  -- a whole reading is a front
  pub whole_goes : ((s : Sym) (st : Cursor) (v : Val s) (end : Cursor) → R s st v end → end.toks ≡ [] → Q s st) → {A : Type 0} (g : G Sym Val A) (a : A) (st end : Cursor) → reads R g st a end → end.toks ≡ [] → goes R Q g st
  whole_goes hyp (tok cs) a st end r e = inr (a, r.1 ∙ ap (λ ts. a ∷ ts) (ap (λ (c : Cursor). c.toks) (sym r.3) ∙ e), r.2)
  whole_goes hyp (opens cs) a st end r e = inr (a, r.1, r.2 ∙ ap (λ ts. a ∷ ts) (ap (λ (c : Cursor). c.toks) (sym r.5) ∙ e), r.3, r.4)
  whole_goes hyp (into cs s) a st end r e = inr (a.0, r.0, r.1, r.2, r.3, r.4, hyp s _ a.1 end r.5 e)
  whole_goes hyp (seq p q) a st end r e = inr (a.0, r.0, r.1, whole_goes hyp q a.1 r.0 end r.2 e)
  whole_goes hyp (either p q) a st end r e = elim r [ inl h ↦ inl (whole_goes hyp p a st end h e) | inr h ↦ inr (whole_goes hyp q a st end h e) ]
  whole_goes hyp (opt p) a st end r e = whole_opt p (whole_goes hyp p) a st end r e
  whole_goes hyp (many p) a st end r e = (a, end, r, empty_goes p end e)
  whole_goes hyp (by f p) a st end r e = whole_goes hyp p r.0 st end r.1 e
  whole_goes hyp (spanned p) a st end r e = whole_goes hyp p a.0 st end r.0 e
  whole_goes hyp (scope p) a st end r e = whole_goes hyp p a st r.0 r.1 (ap (λ (c : Cursor). c.toks) (sym r.2) ∙ e)
  whole_goes hyp (closed cs s) a st end r e = inr (a.0, r.0, r.1, r.3, r.4, r.5, hyp s _ a.1 r.2 r.6 (ap (λ (c : Cursor). c.toks) (sym r.7) ∙ e))
  whole_goes hyp (trail cs p) a st end r e = whole_trail cs (reads R p) (goes R Q p) a.0 a.1 st r.0 end r.1 r.2 e
  whole_goes hyp (costs late p) a st end r e = inr (r.0, r.1, whole_goes hyp p a (record st { left = r.0 }) end r.2 e)
  whole_goes hyp (follows p q) a st end r e = whole_follows p q (whole_goes hyp p) (whole_goes hyp q) a st end r e

abbrev pub Begins : Kinds → Cursor → Type 0
Begins F st = (st.toks ≡ []) ⊎ (starts F st.toks ≡ true)

begins_left : (F F' : Kinds) (st : Cursor) → Begins F st → Begins (F ++ F') st
begins_left F F' st (inl h) = inl h
begins_left F F' st (inr h) = inr (starts_left F F' st.toks h)

begins_right : (F F' : Kinds) (st : Cursor) → Begins F' st → Begins (F ++ F') st
begins_right F F' st (inl h) = inl h
begins_right F F' st (inr h) = inr (starts_right F F' st.toks h)

begins_behind : (F F' : Kinds) (n : Bool) (st mid : Cursor) → TookAs F n st mid → Begins F' mid → Begins (F ++ pick n F' []) st
begins_behind F F' n st mid (inl h) b = inr (starts_left F _ st.toks h.0)
begins_behind F F' n st mid (inr h) b = rw h.0 (begins_right F F' st (subst (λ ts. (ts ≡ []) ⊎ (starts F' ts ≡ true)) h.1 b))

begins_many : (F : Kinds) (st mid : Cursor) → TookAs F true st mid → Begins F mid → Begins F st
begins_many F st mid (inl h) b = inr h.0
begins_many F st mid (inr h) b = subst (λ ts. (ts ≡ []) ⊎ (starts F ts ≡ true)) h.1 b

begins_trail : {A : Type 0} (cs : Kinds) (P : Reading A) (Go : Cursor → Type 0) (F : Kinds) (n : Bool) → Takes P F n → (st : Cursor) → goes_trail cs P Go st → Begins cs st
begins_trail cs P Go F n takes st h = begins_many cs st h.1 (took_all (reads_then cs P) cs false (took_then cs P F n takes) h.0 st h.1 h.2)
    (elim h.3 [
      | inl e ↦ elim e [ inl z ↦ inl z | inr k ↦ inr (ap (starts cs) k.1 ∙ k.2) ]
      | inr k ↦ inr (ap (starts cs) k.2.1 ∙ k.2.2)
    ])

module _ (Sym : Type 0) (Val : Sym → Type 0) (after : Sym → Kinds) (R : (s : Sym) → Reading (Val s)) (Q : (s : Sym) → Cursor → Type 0)
    (shr : (s : Sym) (st : Cursor) (v : Val s) (end : Cursor) → R s st v end → length end.toks ≤ length st.toks) where
  -- a front that isn't nothing begins with a token that may come first
  pub goes_begins : {A : Type 0} (g : G Sym Val A) → by_one after g ≡ true → (st : Cursor) → goes R Q g st → Begins (first g) st
  goes_begins (tok cs) w st h = elim h [ inl e ↦ inl e | inr k ↦ inr (ap (starts cs) k.1 ∙ k.2) ]
  goes_begins (opens cs) w st h = elim h [ inl e ↦ inl e | inr k ↦ inr (ap (starts cs) k.2 ∙ k.3) ]
  goes_begins (into cs s) w st h = elim h [ inl e ↦ inl e | inr k ↦ inr (ap (starts cs) k.3 ∙ k.4) ]
  goes_begins (seq p q) w st h =
      elim h [
        | inl e ↦ begins_left (first p) _ st (goes_begins p (both_true _ _ w).0 st e)
        | inr k ↦ begins_behind (first p) (first q) (nullable p) st k.1 (took Sym Val after R shr p (both_true _ _ w).0 st k.0 k.1 k.2) (goes_begins q (both_true _ _ (both_true _ _ w).1).0 k.1 k.3)
      ]
  goes_begins (either p q) w st h =
      elim h [
        | inl e ↦ begins_left (first p) (first q) st (goes_begins p (both_true _ _ w).0 st e)
        | inr e ↦ begins_right (first p) (first q) st (goes_begins q (both_true _ _ (both_true _ _ w).1).0 st e)
      ]
  goes_begins (opt p) w st h = goes_begins p (both_true _ _ w).0 st h
  goes_begins (many p) w st h = begins_many (first p) st h.1 (took_all (reads R p) (first p) (nullable p) (took Sym Val after R shr p (both_true _ _ w).0) h.0 st h.1 h.2) (goes_begins p (both_true _ _ w).0 h.1 h.3)
  goes_begins (by f p) w st h = goes_begins p w st h
  goes_begins (spanned p) w st h = goes_begins p (both_true _ _ w).0 st h
  goes_begins (scope p) w st h = goes_begins p w st h
  goes_begins (closed cs s) w st h = elim h [ inl e ↦ inl e | inr k ↦ inr (ap (starts cs) k.3 ∙ k.4) ]
  goes_begins (trail cs p) w st h = begins_trail cs (reads R p) (goes R Q p) (first p) (nullable p) (took Sym Val after R shr p (both_true _ _ w).0) st h
  goes_begins (costs late p) w st h = elim h [ inl e ↦ inl e | inr k ↦ goes_begins p (both_true _ _ w).0 (record st { left = k.0 }) k.2 ]
  goes_begins (follows p q) w st h =
      let k = both_four (by_one after p) (by_one after q) (nullable p) (apart (cont after p) (first q)) w in
      elim h [
        | inl e ↦ goes_begins p k.0 st e
        | inr e ↦ inr (took_some (first p) (nullable p) st e.1 k.2 (took Sym Val after R shr p k.0 st (inr e.0) e.1 e.2)).0
      ]
