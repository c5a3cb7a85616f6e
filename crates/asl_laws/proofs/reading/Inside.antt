-- What a grammar reads lies inside its file: each token does that it reads, and each extent goes from the beginning of one token to the end of one. And the
-- tokens of bits have texts of literals.
use Rattle.std.proofs.Common.{◌≡◌, ℕ, ◌+◌, ◌≤◌, ◌⊎◌, inl, inr, Bool, true, false, List, [], ◌∷◌, length, Option, Some, None, refl, sym, subst, arith}
use Rattle.asl_syn.specs.declared.token.Span.{Span}
use Rattle.asl_grammar.specs.declared.kinds.Kind.TheVariants as kind
use Rattle.asl_grammar.specs.grammar.Kinds.{kind_of, same_kind}
use Rattle.asl_grammar.specs.grammar.Cursor.{Lexeme, Extent, Cursor, Kinds, one_of, among, starts, past, end_of, ahead, span_to, whole}
use Rattle.asl_grammar.specs.grammar.Combinators.{G, tok, opens, into, seq, either, opt, many, by, spanned, scope, closed, trail, costs, follows, Reading, reads, reads_all, reads_opt, reads_tok, reads_then}
use Rattle.asl_grammar.specs.grammar.Reader.{nullable, first, by_one}
use Rattle.asl_grammar.proofs.grammar.Basics.{both_true, both_four, flipped_true}
use Rattle.asl_grammar.proofs.grammar.Readings.{took, took_some}
use Rattle.asl_laws.proofs.basics.Lists.{AllOf}
use Rattle.asl_laws.proofs.reading.Literals.{IsLiteral}

-- a token of this file, which lies in its text of so many bytes
abbrev pub LexIn : ℕ → ℕ → Lexeme → Type 0
LexIn n size t = (t.span.file ≡ n) × (t.span.start + t.span.len ≤ size)

pub record ExtIn (n size : ℕ) (e : Extent) : Type 0 where
  pub file_is : e.from.file ≡ n
  pub begins : e.from.start ≤ size
  pub ends : e.to ≤ size

-- a token of bits has the text of a literal under this width limit
abbrev pub LiteralIn : ℕ → Lexeme → Type 0
LiteralIn limit t = same_kind kind.BitsLiteral (kind_of t.kind) ≡ true → IsLiteral limit t.text

-- a token that is ahead, and one that was read among these kinds
abbrev pub AheadIn : ℕ → ℕ → ℕ → Lexeme → Type 0
AheadIn n size limit t = LexIn n size t × LiteralIn limit t

abbrev pub TokIn : ℕ → ℕ → ℕ → Kinds → Lexeme → Type 0
TokIn n size limit cs t = LexIn n size t × ((among cs (kind_of t.kind) ≡ true) × LiteralIn limit t)

pub record CurIn (n size limit : ℕ) (st : Cursor) : Type 0 where
  pub toks_in : AllOf (AheadIn n size limit) st.toks
  pub last_in : st.last ≤ size

-- the only one of one kind has it
one_among : (b : Bool) → one_of b false ≡ true → b ≡ true
one_among true h = refl
one_among false h = absurd cc

-- a token that was read as one of bits
pub literal_read : (n size limit : ℕ) (t : Lexeme) → TokIn n size limit (kind.BitsLiteral ∷ []) t → IsLiteral limit t.text
literal_read n size limit t h = h.1.1 (one_among (same_kind kind.BitsLiteral (kind_of t.kind)) h.1.0)

end_in : (n size : ℕ) (t : Lexeme) → LexIn n size t → end_of t.span ≤ size
unfolding end_of
end_in n size t h = let k = h.1 in omega (arith, k)

-- from a beginning to an end inside the file
pub between_in : (n size : ℕ) (from : Span) (to : ℕ) → from.file ≡ n → from.start ≤ size → to ≤ size →
    ((span_to from to).file ≡ n) × ((span_to from to).start + (span_to from to).len ≤ size)
between_in n size from to f b e = (f, omega arith)

pub whole_in : (n size : ℕ) (e : Extent) → ExtIn n size e → ((whole e).file ≡ n) × ((whole e).start + (whole e).len ≤ size)
whole_in n size e h = between_in n size e.from e.to h.file_is h.begins h.ends

step_in : (n size limit : ℕ) (st end : Cursor) (t : Lexeme) (ts : List Lexeme) (l : ℕ) → st.toks ≡ t ∷ ts → end ≡ past t ts l →
    CurIn n size limit st → AheadIn n size limit t × CurIn n size limit end
step_in n size limit st end t ts l e k c =
    let h : AllOf (AheadIn n size limit) (t ∷ ts) = subst (AllOf (AheadIn n size limit)) e c.toks_in in
    (h.0, subst (CurIn n size limit) (sym k) (record { toks_in = h.1; last_in = end_in n size t h.0.0 }))

-- something is read at the first of the tokens, from which it begins
began : (n size limit : ℕ) (F : Kinds) (ts : List Lexeme) → starts F ts ≡ true → AllOf (AheadIn n size limit) ts →
    ((ahead ts).file ≡ n) × ((ahead ts).start ≤ size)
began n size limit F [] e h = absurd cc
began n size limit F (t ∷ ts) e h = (h.0.0.0, (let k = h.0.0.1 in omega (arith, k)))

abbrev pub in_opt : {A : Type 0} → (A → Type 0) → Option A → Type 0
in_opt P None = Unit {0}
in_opt P (Some x) = P x

abbrev pub in_follows : {A B C : Type 0} → (A ⊎ B → Type 0) → (C → Type 0) → A ⊎ (B × C) → Type 0
in_follows P Q (inl a) = P (inl a)
in_follows P Q (inr r) = P (inr r.0) × Q r.1

module _ (Sym : Type 0) (Val : Sym → Type 0) (after : Sym → Kinds) (n size limit : ℕ) (Q : (s : Sym) → Val s → Type 0) where
  -- what was read by a grammar lies inside the file, where this holds of what its symbols stand for
  abbrev pub Inside : {A : Type 0} → G Sym Val A → A → Type 0
  Inside (tok cs) t = TokIn n size limit cs t
  Inside (opens cs) t = LexIn n size t
  Inside (into cs s) a = LexIn n size a.0 × Q s a.1
  Inside (seq p q) a = Inside p a.0 × Inside q a.1
  Inside (either p q) a = Inside p a ⊎ Inside q a
  Inside (opt p) a = in_opt (Inside p) a
  Inside (many p) xs = AllOf (Inside p) xs
  Inside (by {A} f p) b = (x : A) × Inside p x × (b ≡ f x)
  Inside (spanned p) a = Inside p a.0 × ExtIn n size a.1
  Inside (scope p) a = Inside p a
  Inside (closed cs s) a = LexIn n size a.0 × Q s a.1
  Inside (trail cs p) a = AllOf (λ x. LexIn n size x.0 × Inside p x.1) a.0 × in_opt (LexIn n size) a.1
  Inside (costs late p) a = Inside p a
  Inside (follows p q) a = in_follows (Inside p) (Inside q) a

  -- a reading keeps inside
  abbrev Keeps : {A : Type 0} → Reading A → (A → Type 0) → Type 0
  Keeps {A} P S = (st : Cursor) (a : A) (end : Cursor) → P st a end → CurIn n size limit st → S a × CurIn n size limit end

  all_keep : {A : Type 0} (P : Reading A) (S : A → Type 0) → Keeps P S → Keeps (reads_all P) (AllOf S)
  all_keep P S k st [] end r c = (tt, subst (CurIn n size limit) (sym r) c)
  all_keep P S k st (x ∷ xs) end (mid, p, q) c = let h = k st x mid p c in let l = all_keep P S k mid xs end q h.1 in ((h.0, l.0), l.1)

  opt_keeps : {A : Type 0} (P : Reading A) (S : A → Type 0) → Keeps P S → Keeps (reads_opt P) (in_opt S)
  opt_keeps P S k st None end r c = (tt, subst (CurIn n size limit) (sym r) c)
  opt_keeps P S k st (Some x) end r c = k st x end r c

  tok_keeps : (cs : Kinds) → Keeps (reads_tok cs) (LexIn n size)
  tok_keeps cs st t end (ts, e, m, f) c = let h = step_in n size limit st end t ts st.left e f c in (h.0.0, h.1)

  then_keeps : {A : Type 0} (cs : Kinds) (P : Reading A) (S : A → Type 0) → Keeps P S →
      Keeps (reads_then cs P) (λ x. LexIn n size x.0 × S x.1)
  then_keeps cs P S k st a end (mid, p, q) c = let h = tok_keeps cs st a.0 mid p c in let l = k mid a.1 end q h.1 in ((h.0, l.0), l.1)

  module _ (R : (s : Sym) → Reading (Val s)) (shr : (s : Sym) (st : Cursor) (v : Val s) (end : Cursor) → R s st v end →
      length end.toks ≤ length st.toks) (keep : (s : Sym) → Keeps (R s) (Q s)) where
    pub inside : {A : Type 0} (g : G Sym Val A) → by_one after g ≡ true → Keeps (reads R g) (Inside g)
    inside (tok cs) w st a end (ts, e, m, f) c = let h = step_in n size limit st end a ts st.left e f c in ((h.0.0, (m, h.0.1)), h.1)
    inside (opens cs) w st a end (ts, l, e, m, k, f) c = let h = step_in n size limit st end a ts l e f c in (h.0.0, h.1)
    inside (into cs s) w st a end (ts, l, e, m, k, r) c =
        let h = step_in n size limit st (past a.0 ts l) a.0 ts l e refl c in
        let v = keep s (past a.0 ts l) a.1 end r h.1 in
        ((h.0.0, v.0), v.1)
    inside (seq p q) w st a end (mid, r, s) c =
        let h = inside p (both_true _ _ w).0 st a.0 mid r c in
        let k = inside q (both_true _ _ (both_true _ _ w).1).0 mid a.1 end s h.1 in
        ((h.0, k.0), k.1)
    inside (either p q) w st a end (inl r) c = let h = inside p (both_true _ _ w).0 st a end r c in (inl h.0, h.1)
    inside (either p q) w st a end (inr r) c = let h = inside q (both_true _ _ (both_true _ _ w).1).0 st a end r c in (inr h.0, h.1)
    inside (opt p) w st a end r c = opt_keeps (reads R p) (Inside p) (inside p (both_true _ _ w).0) st a end r c
    inside (many p) w st a end r c = all_keep (reads R p) (Inside p) (inside p (both_true _ _ w).0) st a end r c
    inside (by f p) w st b end (x, r, e) c = let h = inside p w st x end r c in ((x, h.0, e), h.1)
    inside (spanned p) w st a end (r, e) c =
        let h = inside p (both_true _ _ w).0 st a.0 end r c in
        let s = took_some (first p) (nullable p) st end (flipped_true _ (both_true _ _ w).1)
        (took Sym Val after R shr p (both_true _ _ w).0 st a.0 end r) in
        let b = began n size limit (first p) st.toks s.0 c.toks_in in
        ((h.0, subst (ExtIn n size) (sym e) (record { file_is = b.0; begins = b.1; ends = h.1.last_in })), h.1)
    inside (scope p) w st a end (mid, r, e) c =
        let h = inside p w st a mid r c in (
          h.0,
          subst (CurIn n size limit) (sym e)
              (record { toks_in = h.1.toks_in; last_in = h.1.last_in }),
        )
    inside (closed cs s) w st a end (ts, l, mid, e, m, k, r, f) c =
        let h = step_in n size limit st (past a.0 ts l) a.0 ts l e refl c in
        let v = keep s (past a.0 ts l) a.1 mid r h.1 in
        ((h.0.0, v.0), subst (CurIn n size limit) (sym f) (record { toks_in = v.1.toks_in; last_in = v.1.last_in }))
    inside (trail cs p) w st a end (mid, r, s) c =
        let h = all_keep (reads_then cs (reads R p)) (λ x. LexIn n size x.0 × Inside p x.1)
        (then_keeps cs (reads R p) (Inside p) (inside p (both_true _ _ w).0)) st a.0 mid r c in
        let k = opt_keeps (reads_tok cs) (LexIn n size) (tok_keeps cs) mid a.1 end s h.1 in
        ((h.0, k.0), k.1)
    inside (costs late p) w st a end (l, e, r) c =
        inside p (both_true _ _ w).0 (record st { left = l }) a end r (record { toks_in = c.toks_in; last_in = c.last_in })
    inside (follows p q) w st (inl a) end r c = inside p (both_four (by_one after p) (by_one after q) (nullable p) _ w).0 st (inl a) end r c
    inside (follows p q) w st (inr r) end (mid, x, y) c =
        let f = both_four (by_one after p) (by_one after q) (nullable p) _ w in
        let h = inside p f.0 st (inr r.0) mid x c in
        let k = inside q f.1 mid r.1 end y h.1 in
        ((h.0, k.0), k.1)
