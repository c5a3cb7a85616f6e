-- The token that the grammar names as the one that opens a level too many is the one that the reader names.
use Rattle.std.proofs.Common.{◌≡◌, ℕ, zero, suc, ◌≤◌, ◌<◌, inl, inr, Bool, true, false, List, [], ◌∷◌, ◌++◌, length, Some, None, Ok, Err, ap, sym, ◌∙◌, subst, arith, length-append}
use Rattle.asl_grammar.specs.declared.error.ParseError.TheVariants.{TooDeep}
use Rattle.asl_grammar.specs.grammar.Cursor.{Lexeme, Cursor, Kinds, starts, plus, past, extent}
use Rattle.asl_grammar.specs.grammar.Combinators.{G, tok, opens, into, seq, either, opt, many, by, spanned, scope, closed, trail, costs, follows, Reading, reads, reads_all, reads_tok, reads_then}
use Rattle.asl_grammar.specs.grammar.Reader.{nullable, first, cont, by_one, both, flipped, pick, apart, Outcome, refused, bind, run, run_opens, open_at, run_many, run_item, run_trail, run_costs, run_follows}
use Rattle.asl_grammar.specs.grammar.Opening.{opens_here, full}
use Rattle.asl_grammar.proofs.grammar.Basics.{both_true, both_three, both_four, both_five, starts_left, starts_right, starts_apart}
use Rattle.asl_grammar.proofs.grammar.Readings.{TookAs, Takes, Lowers, took, took_all, took_some, took_then, lowers}
use Rattle.asl_grammar.proofs.grammar.Reading.{complete, Completes, starts_more, run_opens_at, run_many_in, run_trail_in, run_item_in, more_toks}

begins_here : (late : Bool) (cs : Kinds) (y : Bool) (st : Cursor) (x : Lexeme) (us : List Lexeme) → opens_here late cs y st x → starts cs (st.toks ++ (x ∷ us)) ≡ true
begins_here late cs y st x us h = ap (λ ts. starts cs (ts ++ (x ∷ us))) h.0 ∙ h.2

begins_seq : (F F' : Kinds) (n : Bool) (st mid : Cursor) (more : List Lexeme) → TookAs F n st mid → starts F' (mid.toks ++ more) ≡ true → starts (F ++ pick n F' []) (st.toks ++ more) ≡ true
begins_seq F F' n st mid more (inl h) k = starts_left F _ (st.toks ++ more) (starts_more F st.toks more h.0)
begins_seq F F' n st mid more (inr h) k = starts_right F _ (st.toks ++ more) (rw h.0 (ap (λ ts. starts F' (ts ++ more)) (sym h.1) ∙ k))

begins_many : (F : Kinds) (st mid : Cursor) (more : List Lexeme) → TookAs F true st mid → starts F (mid.toks ++ more) ≡ true → starts F (st.toks ++ more) ≡ true
begins_many F st mid more (inl h) k = starts_more F st.toks more h.0
begins_many F st mid more (inr h) k = ap (λ ts. starts F (ts ++ more)) (sym h.1) ∙ k

module _ (Sym : Type 0) (Val : Sym → Type 0) (after : Sym → Kinds) (R : (s : Sym) → Reading (Val s)) (Q : (s : Sym) → Cursor → Lexeme → Type 0) (y : Bool)
    (shr : (s : Sym) (st : Cursor) (v : Val s) (end : Cursor) → R s st v end → length end.toks ≤ length st.toks) where
  pub full_begins : {A : Type 0} (g : G Sym Val A) → by_one after g ≡ true → (st : Cursor) (x : Lexeme) (us : List Lexeme) → full R Q y g st x → starts (first g) (st.toks ++ (x ∷ us)) ≡ true
  full_begins (tok cs) w st x us h = elim h [ ]
  full_begins (opens cs) w st x us h = begins_here false cs y st x us h
  full_begins (into cs s) w st x us h = elim h [ inl e ↦ begins_here false cs y st x us e | inr k ↦ ap (λ ts. starts cs (ts ++ (x ∷ us))) k.3 ∙ k.4 ]
  full_begins (seq p q) w st x us h =
      elim h [
        | inl e ↦ starts_left (first p) _ (st.toks ++ (x ∷ us)) (full_begins p (both_true _ _ w).0 st x us e)
        | inr k ↦ begins_seq (first p) (first q) (nullable p) st k.1 (x ∷ us) (took Sym Val after R shr p (both_true _ _ w).0 st k.0 k.1 k.2) (full_begins q (both_true _ _ (both_true _ _ w).1).0 k.1 x us k.3)
      ]
  full_begins (either p q) w st x us h =
      elim h [
        | inl e ↦ starts_left (first p) (first q) (st.toks ++ (x ∷ us)) (full_begins p (both_true _ _ w).0 st x us e)
        | inr e ↦ starts_right (first p) (first q) (st.toks ++ (x ∷ us)) (full_begins q (both_true _ _ (both_true _ _ w).1).0 st x us e)
      ]
  full_begins (opt p) w st x us h = full_begins p (both_true _ _ w).0 st x us h
  full_begins (many p) w st x us h = begins_many (first p) st h.1 (x ∷ us) (took_all (reads R p) (first p) (nullable p) (took Sym Val after R shr p (both_true _ _ w).0) h.0 st h.1 h.2) (full_begins p (both_true _ _ w).0 h.1 x us h.3)
  full_begins (by f p) w st x us h = full_begins p w st x us h
  full_begins (spanned p) w st x us h = full_begins p (both_true _ _ w).0 st x us h
  full_begins (scope p) w st x us h = full_begins p w st x us h
  full_begins (closed cs s) w st x us h = elim h [ inl e ↦ begins_here false cs y st x us e | inr k ↦ ap (λ ts. starts cs (ts ++ (x ∷ us))) k.3 ∙ k.4 ]
  full_begins (trail cs p) w st x us h = begins_many cs st h.1 (x ∷ us) (took_all (reads_then cs (reads R p)) cs false (took_then cs (reads R p) (first p) (nullable p) (took Sym Val after R shr p (both_true _ _ w).0)) h.0 st h.1 h.2)
      (ap (λ ts. starts cs (ts ++ (x ∷ us))) h.3.2.1 ∙ h.3.2.2)
  full_begins (costs late p) w st x us h = elim h [ inl e ↦ begins_here late (first p) y st x us e | inr k ↦ full_begins p (both_true _ _ w).0 (record st { left = k.0 }) x us k.2 ]
  full_begins (follows p q) w st x us h =
      let k = both_four (by_one after p) (by_one after q) (nullable p) (apart (cont after p) (first q)) w in
      elim h [
        | inl e ↦ full_begins p k.0 st x us e
        | inr e ↦ starts_more (first p) st.toks (x ∷ us) (took_some (first p) (nullable p) st e.1 k.2 (took Sym Val after R shr p k.0 st (inr e.0) e.1 e.2)).0
      ]

-- ---- so the reader stops there

abbrev stop : {A : Type 0} → Lexeme → List Lexeme → Bool → Outcome A
stop x us y = Err (TooDeep (length (x ∷ us)) y)

opens_stops : (cs : Kinds) (y : Bool) (st : Cursor) (x : Lexeme) (us : List Lexeme) → opens_here false cs y st x → run_opens cs st.left (st.toks ++ (x ∷ us)) ≡ stop x us y
opens_stops cs y st x us h =
    ap (λ ts. run_opens cs st.left (ts ++ (x ∷ us))) h.0 ∙ ap (λ b. pick b (open_at x us st.left) (refused (x ∷ us))) h.2 ∙ ap (open_at x us) h.1 ∙ ap (λ z. stop x us z) (sym h.3)

module _ {A : Type 0} (P : Reading A) (p : Cursor → Outcome A) (C F : Kinds) (nl : Bool) (n : ℕ) (Fu : Cursor → Lexeme → Type 0) (y : Bool) (x : Lexeme) (us : List Lexeme)
    (takes : Takes P F nl) (e0 : nl ≡ false) (lo : Lowers P) (comp : Completes P p C n)
    (begins : (st : Cursor) → Fu st x → starts F (st.toks ++ (x ∷ us)) ≡ true)
    (stops : (st : Cursor) → Fu st x → st.left ≤ n → p (plus st (x ∷ us)) ≡ stop x us y) where
  stops_many : apart C F ≡ true → (k : ℕ) (xs : List A) (st mid : Cursor) → reads_all P st xs mid → Fu mid x → st.left ≤ n → length st.toks < k → run_many p F k (plus st (x ∷ us)) ≡ stop x us y
  stops_many ap' zero xs st mid r f le lt = absurd (omega arith)
  stops_many ap' (suc k) [] st mid r f le lt =
      let f' : Fu st x = subst (λ c. Fu c x) r f in
      ap (λ b. pick b (bind (p (plus st (x ∷ us))) (λ x mid. bind (run_many p F k mid) (λ xs end. Ok (x ∷ xs, end)))) (Ok ([], plus st (x ∷ us)))) (begins st f')
      ∙ ap (λ o. bind o (λ x mid. bind (run_many p F k mid) (λ xs end. Ok (x ∷ xs, end)))) (stops st f' le)
  stops_many ap' (suc k) (z ∷ xs) st mid r f le lt =
      let t = took_some F nl st r.0 e0 (takes st z r.0 r.1) in
      let q : length r.0.toks < length st.toks = t.1 in
      let l : r.0.left ≤ st.left = lo st z r.0 r.1 in
      let s = begins_many F r.0 mid (x ∷ us) (took_all P F nl takes xs r.0 mid r.2) (begins mid f) in
      let one = comp st z r.0 r.1 le (x ∷ us) (starts_apart C F (r.0.toks ++ (x ∷ us)) ap' s) in
      run_many_in p F k (plus st (x ∷ us)) (plus r.0 (x ∷ us)) z (starts_more F st.toks (x ∷ us) t.0) one
      ∙ ap (λ o. bind o (λ xs end. Ok (z ∷ xs, end))) (stops_many ap' k xs r.0 mid r.2 f (omega arith) (omega arith))

  stops_trail : (cs : Kinds) → apart C cs ≡ true → (k : ℕ) (xs : List (Lexeme × A)) (st mid : Cursor) → reads_all (reads_then cs P) st xs mid → (t : Lexeme) (m : Cursor) → reads_tok cs mid t m → Fu m x → st.left ≤ n → length st.toks ≤ k → run_trail cs p F k (plus st (x ∷ us)) ≡ stop x us y
  stops_trail cs ap' zero [] st mid r t m rt f le lt = let rt' = subst (λ c. reads_tok cs c t m) r rt in let q : length st.toks ≡ suc (length rt'.0) = ap length rt'.1 in absurd (omega arith)
  stops_trail cs ap' (suc k) [] st mid r t m rt f le lt =
      let rt' : reads_tok cs st t m = subst (λ c. reads_tok cs c t m) r rt in
      let lm : m.left ≡ st.left = ap (λ (c : Cursor). c.left) rt'.3 in
      run_trail_in cs p F k (plus st (x ∷ us)) t (rt'.0 ++ (x ∷ us)) (more_toks st t rt'.0 (x ∷ us) rt'.1) rt'.2
      ∙ ap (λ z. run_item p F (run_trail cs p F k) t (plus z (x ∷ us))) (sym rt'.3)
      ∙ run_item_in p F (run_trail cs p F k) t (plus m (x ∷ us)) (begins m f)
      ∙ ap (λ z. bind z (λ v m. bind (run_trail cs p F k m) (λ r end. Ok (((t, v) ∷ r.0, r.1), end)))) (stops m f (omega arith))
  stops_trail cs ap' zero (z ∷ xs) st mid r t m rt f le lt = let q : length st.toks ≡ suc (length r.1.1.0) = ap length r.1.1.1 in absurd (omega arith)
  stops_trail cs ap' (suc k) (z ∷ xs) st mid r t m rt f le lt =
      let tk = r.1.1 in
      let m1 : Cursor = r.1.0 in
      let q : length st.toks ≡ suc (length tk.0) = ap length tk.1 in
      let lm : m1.left ≡ st.left = ap (λ (c : Cursor). c.left) tk.3 in
      let tm : length m1.toks ≡ length tk.0 = ap (λ (c : Cursor). length c.toks) tk.3 in
      let t1 = took_some F nl m1 r.0 e0 (takes m1 z.1 r.0 r.1.2) in
      let q' : length r.0.toks < length m1.toks = t1.1 in
      let l : r.0.left ≤ m1.left = lo m1 z.1 r.0 r.1.2 in
      let s = begins_many cs r.0 mid (x ∷ us) (took_all (reads_then cs P) cs false (took_then cs P F nl takes) xs r.0 mid r.2) (ap (λ ts. starts cs (ts ++ (x ∷ us))) rt.1 ∙ rt.2) in
      let one = comp m1 z.1 r.0 r.1.2 (omega arith) (x ∷ us) (starts_apart C cs (r.0.toks ++ (x ∷ us)) ap' s) in
      run_trail_in cs p F k (plus st (x ∷ us)) z.0 (tk.0 ++ (x ∷ us)) (more_toks st z.0 tk.0 (x ∷ us) tk.1) tk.2
      ∙ ap (λ c. run_item p F (run_trail cs p F k) z.0 (plus c (x ∷ us))) (sym tk.3)
      ∙ run_item_in p F (run_trail cs p F k) z.0 (plus m1 (x ∷ us)) (starts_more F m1.toks (x ∷ us) t1.0)
      ∙ ap (λ o. bind o (λ v m. bind (run_trail cs p F k m) (λ r end. Ok (((z.0, v) ∷ r.0, r.1), end)))) one
      ∙ ap (λ o. bind o (λ r end. Ok (((z.0, z.1) ∷ r.0, r.1), end))) (stops_trail cs ap' k xs r.0 mid r.2 t m rt f (omega arith) (omega arith))

module _ (Sym : Type 0) (Val : Sym → Type 0) (after : Sym → Kinds) (R : (s : Sym) → Reading (Val s)) (Q : (s : Sym) → Cursor → Lexeme → Type 0) (P : (s : Sym) → Cursor → Outcome (Val s)) (n : ℕ) (y : Bool)
    (shr : (s : Sym) (st : Cursor) (v : Val s) (end : Cursor) → R s st v end → length end.toks ≤ length st.toks)
    (los : (s : Sym) → Lowers (R s))
    (hyp : (s : Sym) (st : Cursor) (v : Val s) (end : Cursor) → R s st v end → suc st.left ≤ n → (more : List Lexeme) → starts (after s) (end.toks ++ more) ≡ false → P s (plus st more) ≡ Ok (v, plus end more))
    (x : Lexeme) (us : List Lexeme) (hyf : (s : Sym) (st : Cursor) → suc st.left ≤ n → Q s st x → P s (plus st (x ∷ us)) ≡ stop x us y) where
  pub full_stops : {A : Type 0} (g : G Sym Val A) → by_one after g ≡ true → (st : Cursor) → full R Q y g st x → st.left ≤ n → run P g (plus st (x ∷ us)) ≡ stop x us y
  full_stops (tok cs) w st h le = elim h [ ]
  full_stops (opens cs) w st h le = opens_stops cs y st x us h
  full_stops (into cs s) w st h le = elim h [
    | inl e ↦ ap (λ o. bind o (λ t mid. bind (P s mid) (λ v end. Ok ((t, v), end)))) (opens_stops cs y st x us e)
    | inr k ↦ (let lv : st.left ≡ suc k.2 = k.5 in
        ap (λ o. bind o (λ t mid. bind (P s mid) (λ v end. Ok ((t, v), end)))) (run_opens_at cs st.left k.2 (st.toks ++ (x ∷ us)) k.0 (k.1 ++ (x ∷ us)) (ap (λ ts. ts ++ (x ∷ us)) k.3) k.4 lv)
        ∙ ap (λ o. bind o (λ v end. Ok ((k.0, v), end))) (hyf s (past k.0 k.1 k.2) (omega arith) k.6))
  ]
  full_stops (seq p q) w st h le =
      let w1 = (both_true _ _ w).1 in
      let wp = (both_true (by_one after p) (both (by_one after q) (apart (cont after p) (first q))) w).0 in
      let wq = (both_true (by_one after q) (apart (cont after p) (first q)) w1).0 in
      elim h [
        | inl e ↦ ap (λ o. bind o (λ a mid. bind (run P q mid) (λ b end. Ok ((a, b), end)))) (full_stops p wp st e le)
        | inr k ↦ (let l : k.1.left ≤ st.left = lowers Sym Val R los p st k.0 k.1 k.2 in
            ap (λ o. bind o (λ a mid. bind (run P q mid) (λ b end. Ok ((a, b), end)))) (complete Sym Val after R P n shr los hyp p wp st k.0 k.1 k.2 le (x ∷ us) (starts_apart (cont after p) (first q) (k.1.toks ++ (x ∷ us)) (both_true (by_one after q) (apart (cont after p) (first q)) w1).1 (full_begins Sym Val after R Q y shr q wq k.1 x us k.3)))
            ∙ ap (λ o. bind o (λ b end. Ok ((k.0, b), end))) (full_stops q wq k.1 k.3 (omega arith)))
      ]
  full_stops (either p q) w st h le =
      let k = both_five (by_one after p) (by_one after q) (nullable p) (nullable q) (apart (first p) (first q)) w in
      elim h [
        | inl e ↦ ap (λ b. pick b (run P p (plus st (x ∷ us))) (run P q (plus st (x ∷ us)))) (full_begins Sym Val after R Q y shr p k.0 st x us e) ∙ full_stops p k.0 st e le
        | inr e ↦ ap (λ b. pick b (run P p (plus st (x ∷ us))) (run P q (plus st (x ∷ us)))) (starts_apart (first p) (first q) (st.toks ++ (x ∷ us)) k.4 (full_begins Sym Val after R Q y shr q k.1 st x us e)) ∙ full_stops q k.1 st e le
      ]
  full_stops (opt p) w st h le =
      let wp = (both_true (by_one after p) (flipped (nullable p)) w).0 in
      ap (λ b. pick b (bind (run P p (plus st (x ∷ us))) (λ x end. Ok (Some x, end))) (Ok (None, plus st (x ∷ us)))) (full_begins Sym Val after R Q y shr p wp st x us h)
      ∙ ap (λ o. bind o (λ x end. Ok (Some x, end))) (full_stops p wp st h le)
  full_stops (many p) w st h le =
      let k = both_three (by_one after p) (nullable p) (apart (cont after p) (first p)) w in
      stops_many (reads R p) (run P p) (cont after p) (first p) (nullable p) n (full R Q y p) y x us (took Sym Val after R shr p k.0) k.1 (lowers Sym Val R los p) (complete Sym Val after R P n shr los hyp p k.0)
      (λ z f. full_begins Sym Val after R Q y shr p k.0 z x us f) (full_stops p k.0) k.2 (length (st.toks ++ (x ∷ us))) h.0 st h.1 h.2 h.3 le (let q = length-append st.toks (x ∷ us) in omega arith)
  full_stops (by f p) w st h le = ap (λ o. bind o (λ x end. Ok (f x, end))) (full_stops p w st h le)
  full_stops (spanned p) w st h le = ap (λ o. bind o (λ z end. Ok ((z, extent (st.toks ++ (x ∷ us)) end.last), end))) (full_stops p (both_true (by_one after p) (flipped (nullable p)) w).0 st h le)
  full_stops (scope p) w st h le = ap (λ o. bind o (λ z end. Ok (z, record end { left = st.left }))) (full_stops p w st h le)
  full_stops (closed cs s) w st h le = elim h [
    | inl e ↦ ap (λ o. bind o (λ t mid. bind (P s mid) (λ v end. Ok ((t, v), record end { left = suc end.left })))) (opens_stops cs y st x us e)
    | inr k ↦ (let lv : st.left ≡ suc k.2 = k.5 in
        ap (λ o. bind o (λ t mid. bind (P s mid) (λ v end. Ok ((t, v), record end { left = suc end.left })))) (run_opens_at cs st.left k.2 (st.toks ++ (x ∷ us)) k.0 (k.1 ++ (x ∷ us)) (ap (λ ts. ts ++ (x ∷ us)) k.3) k.4 lv)
        ∙ ap (λ o. bind o (λ v end. Ok ((k.0, v), record end { left = suc end.left }))) (hyf s (past k.0 k.1 k.2) (omega arith) k.6))
  ]
  full_stops (trail cs p) w st h le =
      let k = both_three (by_one after p) (nullable p) (apart (cont after p) cs) w in
      stops_trail (reads R p) (run P p) (cont after p) (first p) (nullable p) n (full R Q y p) y x us (took Sym Val after R shr p k.0) k.1 (lowers Sym Val R los p) (complete Sym Val after R P n shr los hyp p k.0)
      (λ z f. full_begins Sym Val after R Q y shr p k.0 z x us f) (full_stops p k.0) cs k.2 (length (st.toks ++ (x ∷ us))) h.0 st h.1 h.2 h.3.0 h.3.1 h.3.2 h.3.3 le (let q = length-append st.toks (x ∷ us) in omega arith)
  full_stops (costs late p) w st h le =
      let wp = (both_true (by_one after p) (flipped (nullable p)) w).0 in
      ap (λ b. pick b (run_costs late (run P p) (plus st (x ∷ us)) st.left) (refused (st.toks ++ (x ∷ us)))) (full_begins Sym Val after R Q y shr (costs late p) w st x us h)
      ∙ elim h [
        | inl e ↦ ap (run_costs late (run P p) (plus st (x ∷ us))) e.1 ∙ ap (λ ts. Err (TooDeep (length (ts ++ (x ∷ us))) late)) e.0 ∙ ap (λ z. stop x us z) (sym e.3)
        | inr k ↦ (let lv : st.left ≡ suc k.0 = k.1 in ap (run_costs late (run P p) (plus st (x ∷ us))) lv ∙ full_stops p wp (record st { left = k.0 }) k.2 (omega arith))
      ]
  full_stops (follows p q) w st h le =
      let w4 = both_four (by_one after p) (by_one after q) (nullable p) (apart (cont after p) (first q)) w in
      elim h [
        | inl e ↦ ap (λ o. bind o (λ v mid. run_follows (run P q) v mid)) (full_stops p w4.0 st e le)
        | inr k ↦ (let l : k.1.left ≤ st.left = lowers Sym Val R los p st (inr k.0) k.1 k.2 in
            ap (λ o. bind o (λ v mid. run_follows (run P q) v mid)) (complete Sym Val after R P n shr los hyp p w4.0 st (inr k.0) k.1 k.2 le (x ∷ us) (starts_apart (cont after p) (first q) (k.1.toks ++ (x ∷ us)) w4.3 (full_begins Sym Val after R Q y shr q w4.1 k.1 x us k.3)))
            ∙ ap (λ o. bind o (λ c end. Ok (inr (k.0, c), end))) (full_stops q w4.1 k.1 k.3 (omega arith)))
      ]
