-- A text has one reading: its tokens, or its one fault.
use Rattle.std.proofs.Common.{◌≡◌, ℕ, zero, suc, ◌+◌, ◌≤◌, ◌<◌, ◌⊎◌, Result, Ok, Err, inl, inr, Bool, true, false, List, [], ◌∷◌, Option, Some, None, length, take, drop, refl, ap, sym, ◌∙◌, subst, arith, MatchOption}
use Rattle.std.proofs.Math.Seq.{take-nil}
use Rattle.std.proofs.lemmas.List.{length-drop}
use Rattle.asl_syn.specs.declared.token.Token.{Token}
use Rattle.asl_syn.specs.declared.code.Fault.{Fault}
use Rattle.asl_syn.specs.declared.code.StaticCode.{StaticCode}
use Rattle.asl_syn.specs.declared.code.DynCode.{DynCode}
use Rattle.asl_syn.specs.declared.code.StaticCode.TheVariants.{L01, L02, L03}
use Rattle.asl_syn.specs.declared.token.TokenKind.{TokenKind}
use Rattle.asl_quote.specs.declared.QuoteState.{QuoteState}
use Rattle.asl_quote.specs.Quotes.{opens_quote, quote_len}
use Rattle.asl_grammar.specs.lexemes.Gaps.{opens_block, Gap}
use Rattle.asl_grammar.specs.lexemes.Lexemes.{IsLexeme, LexemeAt, Longest}
use Rattle.asl_grammar.specs.private.Scanning.{lexeme_of}
use Rattle.asl_grammar.specs.lexemes.Refusals.{refusal}
use Rattle.asl_grammar.specs.lexemes.Tokens.{Scan, behind_gap, behind_lexeme, IsTokenAt, Yields, Ends, Fails, NextGives, NoLexeme, FaultAt, unclosed, malformed, stray, refused, Front, Completes, Breaks}
use Rattle.asl_grammar.proofs.lexemes.Gapping.{one_gap, some_gap, Gap_le}
use Rattle.asl_grammar.proofs.lexemes.OneLexeme.{one_longest, not_empty}
use Rattle.asl_grammar.proofs.lexemes.LongestLexeme.{lexeme_is}

-- a token is its parts
token_is : (t u : Token) → t.kind ≡ u.kind → t.span.file ≡ u.span.file → t.span.start ≡ u.span.start → t.span.len ≡ u.span.len → t ≡ u
token_is t u k f s n =
    let make : TokenKind → ℕ → ℕ → ℕ → Token = λ a b c d. record { kind = a; span = record { file = b; start = c; len = d } } in
    let e : make t.kind t.span.file t.span.start t.span.len ≡ make u.kind u.span.file u.span.start u.span.len = cc in e

fault_is : (t u : Fault) → t.code ≡ u.code → t.inner ≡ u.inner → t.span.file ≡ u.span.file → t.span.start ≡ u.span.start → t.span.len ≡ u.span.len → t ≡ u
fault_is t u k i f s n =
    let make : StaticCode → Option DynCode → ℕ → ℕ → ℕ → Fault = λ a o b c d. record { code = a; inner = o; span = record { file = b; start = c; len = d } } in
    let e : make t.code t.inner t.span.file t.span.start t.span.len ≡ make u.code u.inner u.span.file u.span.start u.span.len = cc in e

one_token : (scan : Scan) (t u : Token) → IsTokenAt scan t → IsTokenAt scan u → t ≡ u
one_token scan t u a b =
    let same = one_longest scan.rest t.span.len u.span.len t.kind u.kind a.longest b.longest in
    token_is t u same.1 (a.file_is ∙ sym b.file_is) (a.start_is ∙ sym b.start_is) same.0

pub one_yields : (s x y : Scan) (t u : Token) → Yields s t x → Yields s u y → (t ≡ u) × (x ≡ y)
one_yields s x y t u a b =
    let gap : b.bytes ≡ a.bytes = one_gap s.rest b.bytes a.bytes b.gap a.gap in
    let there : IsTokenAt (behind_gap s a.bytes) u = subst (λ z. IsTokenAt (behind_gap s z) u) gap b.token in
    let same : t ≡ u = one_token (behind_gap s a.bytes) t u a.token there in
    let p = a.next in let q = b.next in (same, cc)

no_lexeme : (n : ℕ) (k : TokenKind) → LexemeAt [] n k → ⊥
no_lexeme n k h = let e : take n [] ≡ [] = take-nil n in not_empty k (subst (λ t. IsLexeme t k) e h.lexeme)

pub yields_ends : (s x : Scan) (t : Token) → Yields s t x → Ends s → ⊥
yields_ends s x t a e =
    let gap : a.bytes ≡ [] = one_gap s.rest a.bytes [] a.gap e in
    no_lexeme t.span.len t.kind (subst (λ z. LexemeAt z t.span.len t.kind) gap a.token.longest.here)

fault_not_empty : (scan : Scan) (code : StaticCode) (len : ℕ) → scan.rest ≡ [] → FaultAt scan code len → ⊥
fault_not_empty scan code len e (unclosed h) = let f : opens_block scan.rest ≡ false = ap opens_block e in cc
fault_not_empty scan code len e (malformed apart q none) = let f : opens_quote scan.rest ≡ None = ap opens_quote e in cc
fault_not_empty scan code len e (stray more apart plain none) = omega (arith, ap length e)
fault_not_empty scan code len e (refused k l r) = no_lexeme len k (subst (λ z. LexemeAt z len k) e l.here)

pub fails_ends : (s : Scan) (f : Fault) → Fails s f → Ends s → ⊥
fails_ends s f a e = fault_not_empty (behind_gap s a.bytes) f.code f.span.len (one_gap s.rest a.bytes [] a.gap e) a.fault.fault

not_taken : (scan : Scan) (code : StaticCode) (len n : ℕ) (k : TokenKind) → FaultAt scan code len →
    Longest scan.rest n k → refusal scan.width_limit k (take n scan.rest) scan.given ≡ None → ⊥
not_taken scan code len n k (unclosed h) l r = let f = l.here.apart in cc
not_taken scan code len n k (malformed apart q none) l r = none n k l.here
not_taken scan code len n k (stray more apart plain none) l r = none n k l.here
not_taken scan code len n k (refused j m q) l r =
    let same = one_longest scan.rest len n j k m l in
    let a = same.0 in let b = same.1 in
    let e : refusal scan.width_limit k (take n scan.rest) scan.given ≡ refusal scan.width_limit j (take len scan.rest) scan.given = cc in cc

pub yields_fails : (s x : Scan) (t : Token) (f : Fault) → Yields s t x → Fails s f → ⊥
yields_fails s x t f a b =
    let gap : b.bytes ≡ a.bytes = one_gap s.rest b.bytes a.bytes b.gap a.gap in
    not_taken (behind_gap s a.bytes) f.code f.span.len t.span.len t.kind (subst (λ z. FaultAt (behind_gap s z) f.code f.span.len) gap b.fault.fault) a.token.longest a.token.taken

one_fault_at : (scan : Scan) (c d : StaticCode) (m n : ℕ) → FaultAt scan c m → FaultAt scan d n → (c ≡ d) × (m ≡ n)
one_fault_at scan c d m n (unclosed h) (unclosed g) = (refl, refl)
one_fault_at scan c d m n (unclosed h) (malformed b t never) = absurd cc
one_fault_at scan c d m n (unclosed h) (stray much away bare never) = absurd cc
one_fault_at scan c d m n (unclosed h) (refused j o w) = let f = o.here.apart in absurd cc
one_fault_at scan c d m n (malformed a p none) (unclosed g) = absurd cc
one_fault_at scan c d m n (malformed {state} a p none) (malformed {state = other} b t never) =
    let e : state ≡ other = cc in (refl, ap (λ z. 1 + quote_len z (drop 1 scan.rest)) e)
one_fault_at scan c d m n (malformed a p none) (stray much away bare never) = absurd cc
one_fault_at scan c d m n (malformed a p none) (refused j o w) = absurd (none n j o.here)
one_fault_at scan c d m n (stray more apart plain none) (unclosed g) = absurd cc
one_fault_at scan c d m n (stray more apart plain none) (malformed b t never) = absurd cc
one_fault_at scan c d m n (stray more apart plain none) (stray much away bare never) = (refl, refl)
one_fault_at scan c d m n (stray more apart plain none) (refused j o w) = absurd (none n j o.here)
one_fault_at scan c d m n (refused k l r) (unclosed g) = let f = l.here.apart in absurd cc
one_fault_at scan c d m n (refused k l r) (malformed b t never) = absurd (never m k l.here)
one_fault_at scan c d m n (refused k l r) (stray much away bare never) = absurd (never m k l.here)
one_fault_at scan c d m n (refused k l r) (refused j o w) =
    let same = one_longest scan.rest m n k j l o in
    let x = same.0 in let y = same.1 in
    let e : refusal scan.width_limit k (take m scan.rest) scan.given ≡ refusal scan.width_limit j (take n scan.rest) scan.given = cc in (cc, x)

pub one_fails : (s : Scan) (f g : Fault) → Fails s f → Fails s g → f ≡ g
one_fails s f g a b =
    let gap : b.bytes ≡ a.bytes = one_gap s.rest b.bytes a.bytes b.gap a.gap in
    let there : FaultAt (behind_gap s a.bytes) g.code g.span.len = subst (λ z. FaultAt (behind_gap s z) g.code g.span.len) gap b.fault.fault in
    let same = one_fault_at (behind_gap s a.bytes) f.code g.code f.span.len g.span.len a.fault.fault there in
    let starts : g.span.start ≡ (behind_gap s a.bytes).place = subst (λ z. g.span.start ≡ (behind_gap s z).place) gap b.fault.start_is in
    fault_is f g same.0 (a.fault.inner_is ∙ sym b.fault.inner_is) (a.fault.file_is ∙ sym b.fault.file_is) (a.fault.start_is ∙ sym starts) same.1

-- two token lists of one place
pub one_end : (s x y : Scan) (ts us : List Token) → Front s ts x → Ends x → Front s us y → Ends y → ts ≡ us
one_end s x y [] [] a e b f = refl
one_end s x y [] (u ∷ us) a e (n, b, c) f = absurd (yields_ends s n u b (subst Ends (sym a) e))
one_end s x y (t ∷ ts) [] (n, a, c) e b f = absurd (yields_ends s n t a (subst Ends (sym b) f))
one_end s x y (t ∷ ts) (u ∷ us) (n, a, c) e (m, b, d) f =
    let same = one_yields s n m t u a b in
    let head = same.0 in
    let tail : ts ≡ us = one_end n x y ts us c e (subst (λ z. Front z us y) (sym same.1) d) f in cc

pub not_end_and_fault : (s x y : Scan) (ts us : List Token) (f : Fault) → Front s ts x → Ends x → Front s us y → Fails y f → ⊥
not_end_and_fault s x y [] [] f a e b g = fails_ends s f (subst (λ z. Fails z f) (sym b) g) (subst Ends (sym a) e)
not_end_and_fault s x y [] (u ∷ us) f a e (n, b, c) g = yields_ends s n u b (subst Ends (sym a) e)
not_end_and_fault s x y (t ∷ ts) [] f (n, a, c) e b g = yields_fails s n t f a (subst (λ z. Fails z f) (sym b) g)
not_end_and_fault s x y (t ∷ ts) (u ∷ us) f (n, a, c) e (m, b, d) g =
    let same = one_yields s n m t u a b in
    not_end_and_fault n x y ts us f c e (subst (λ z. Front z us y) (sym same.1) d) g

pub one_fault : (s x y : Scan) (ts us : List Token) (f h : Fault) → Front s ts x → Fails x f → Front s us y → Fails y h → f ≡ h
one_fault s x y [] [] f h a e b g = one_fails s f h (subst (λ z. Fails z f) (sym a) e) (subst (λ z. Fails z h) (sym b) g)
one_fault s x y [] (u ∷ us) f h a e (n, b, c) g = absurd (yields_fails s n u f b (subst (λ z. Fails z f) (sym a) e))
one_fault s x y (t ∷ ts) [] f h (n, a, c) e b g = absurd (yields_fails s n t h a (subst (λ z. Fails z h) (sym b) g))
one_fault s x y (t ∷ ts) (u ∷ us) f h (n, a, c) e (m, b, d) g =
    let same = one_yields s n m t u a b in
    one_fault n x y ts us f h c e (subst (λ z. Front z us y) (sym same.1) d) g

-- each place has a token, an end or a fault
pub data Step (s : Scan) : Type 0 where
  yields : (t : Token) (next : Scan) → Yields s t next → Step s
  ends : Ends s → Step s
  fails : (f : Fault) → Fails s f → Step s

-- a fault behind a gap
step_fault : (s : Scan) (bytes : List ℕ) (code : StaticCode) (len : ℕ) → Gap s.rest bytes → FaultAt (behind_gap s bytes) code len → Step s
step_fault s bytes code len gap fault =
    fails (record { code = code; inner = None; span = record { file = s.file; start = (behind_gap s bytes).place; len = len } })
    (record { bytes = bytes; gap = gap; fault = record { fault = fault; inner_is = refl; file_is = refl; start_is = refl } })

step_taken : (s : Scan) (bytes : List ℕ) (n : ℕ) (k : TokenKind) → Gap s.rest bytes → Longest bytes n k →
    (o : Option StaticCode) → refusal s.width_limit k (take n bytes) s.given ≡ o → Step s
step_taken s bytes n k gap l None r =
    let t : Token = record { kind = k; span = record { file = s.file; start = (behind_gap s bytes).place; len = n } } in
    yields t (behind_lexeme (behind_gap s bytes) n)
    (record { bytes = bytes; gap = gap; token = record { longest = l; taken = r; file_is = refl; start_is = refl }; next = refl })
step_taken s bytes n k gap l (Some code) r = step_fault s bytes code n gap (refused k l r)

step_stray : (s : Scan) (b : ℕ) (bs : List ℕ) → Gap s.rest (b ∷ bs) → opens_block (b ∷ bs) ≡ false →
    NoLexeme (b ∷ bs) → (q : Option QuoteState) → opens_quote (b ∷ bs) ≡ q → Step s
step_stray s b bs gap apart none None q = step_fault s (b ∷ bs) L01 1 gap (stray (omega arith) apart q none)
step_stray s b bs gap apart none (Some state) q = step_fault s (b ∷ bs) L03 (1 + quote_len state bs) gap (malformed apart q none)

step_found : (s : Scan) (b : ℕ) (bs : List ℕ) → Gap s.rest (b ∷ bs) → opens_block (b ∷ bs) ≡ false →
    (o : Option (ℕ × TokenKind)) → MatchOption o (NoLexeme (b ∷ bs)) (λ r. Longest (b ∷ bs) r.0 r.1) → Step s
step_found s b bs gap apart None none = step_stray s b bs gap apart none (opens_quote (b ∷ bs)) refl
step_found s b bs gap apart (Some r) l = step_taken s (b ∷ bs) r.0 r.1 gap l _ refl

step_at : (s : Scan) (bytes : List ℕ) → Gap s.rest bytes → (o : Bool) → opens_block bytes ≡ o → Step s
step_at s bytes gap true e = step_fault s bytes L02 (length bytes) gap (unclosed e)
step_at s [] gap false e = ends gap
step_at s (b ∷ bs) gap false e = step_found s b bs gap e (lexeme_of (b ∷ bs)) (lexeme_is (b ∷ bs) e)

pub some_step : (s : Scan) → Step s
some_step s = let g = some_gap s.rest in step_at s g.0 g.1 (opens_block g.0) refl

longest_some : (bytes : List ℕ) (n : ℕ) (k : TokenKind) → Longest bytes n k → (0 < n) × (n ≤ length bytes)
longest_some bytes zero k l = absurd (not_empty k l.here.lexeme)
longest_some bytes (suc n) k l = (omega arith, l.here.fits)

pub yields_shorter : (s x : Scan) (t : Token) → Yields s t x → length x.rest < length s.rest
yields_shorter s x t a =
    let some = longest_some a.bytes t.span.len t.kind a.token.longest in
    let le = Gap_le s.rest a.bytes a.gap in
    let e : x.rest ≡ drop t.span.len a.bytes = ap (λ (z : Scan). z.rest) a.next in
    omega (arith, ap length e, length-drop t.span.len a.bytes)

-- tokens to the end, or to a fault
abbrev pub Reading : Scan → Type 0
Reading s = ((ts : List Token) × Completes s ts) ⊎ ((f : Fault) × Breaks s f)

with_token : (s n : Scan) (t : Token) → Yields s t n → Reading n → Reading s
with_token s n t y (inl (ts, c)) = inl (t ∷ ts, (c.0, (n, y, c.1), c.2))
with_token s n t y (inr (f, b)) = inr (f, (t ∷ b.0, b.1, (n, y, b.2), b.3))

reading_within : (fuel : ℕ) (s : Scan) → Step s → length s.rest ≤ fuel → Reading s
reading_within fuel s (ends e) h = inl ([], (s, refl, e))
reading_within fuel s (fails f e) h = inr (f, ([], s, refl, e))
reading_within zero s (yields t next y) h = absurd (let l = yields_shorter s next t y in omega arith)
reading_within (suc fuel) s (yields t next y) h =
    let l = yields_shorter s next t y in with_token s next t y (reading_within fuel next (some_step next) (omega arith))

pub some_reading : (s : Scan) → Reading s
some_reading s = reading_within (length s.rest) s (some_step s) (omega arith)

-- one state has one answer
pub one_next : (s x y : Scan) (p q : Result (Option Token) Fault) → NextGives s p x → NextGives s q y → (p ≡ q) × (x ≡ y)
one_next s x y (Ok (Some t)) (Ok (Some u)) a b = let e = one_yields s x y t u a b in (ap (λ z. Ok (Some z)) e.0, e.1)
one_next s x y (Ok (Some t)) (Ok None) a b = absurd (yields_ends s x t a b.0)
one_next s x y (Ok (Some t)) (Err f) a b = absurd (yields_fails s x t f a b.0)
one_next s x y (Ok None) (Ok (Some u)) a b = absurd (yields_ends s y u b a.0)
one_next s x y (Ok None) (Ok None) a b = (refl, a.1 ∙ sym b.1)
one_next s x y (Ok None) (Err f) a b = absurd (fails_ends s f b.0 a.0)
one_next s x y (Err f) (Ok (Some u)) a b = absurd (yields_fails s y u f b a.0)
one_next s x y (Err f) (Ok None) a b = absurd (fails_ends s f a.0 b.0)
one_next s x y (Err f) (Err g) a b = (ap (λ z. Err z) (one_fails s f g a.0 b.0), a.1 ∙ sym b.1)

-- one list of tokens
pub one_tokens : (s : Scan) (ts us : List Token) → Completes s ts → Completes s us → ts ≡ us
one_tokens s ts us a b = one_end s a.0 b.0 ts us a.1 a.2 b.1 b.2

-- one fault
pub one_break : (s : Scan) (f g : Fault) → Breaks s f → Breaks s g → f ≡ g
one_break s f g a b = one_fault s a.1 b.1 a.0 b.0 f g a.2 a.3 b.2 b.3

-- not both
pub never_both : (s : Scan) (ts : List Token) (f : Fault) → Completes s ts → Breaks s f → ⊥
never_both s ts f a b = not_end_and_fault s a.0 b.1 ts b.0 f a.1 a.2 b.2 b.3
