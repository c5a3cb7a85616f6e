-- Where the parser stops: at the first token with which the front doesn't go on.
use Rattle.std.proofs.Common.{◌≡◌, ℕ, zero, suc, ◌+◌, ◌≤◌, ◌<◌, ◌⊎◌, inl, inr, Bool, true, false, List, [], ◌∷◌, ◌++◌, length, Option, Some, None, Result, Ok, Err, refl, ap, sym, ◌∙◌, subst, arith, append_assoc, length-append}
use Rattle.asl_grammar.specs.declared.error.ParseError.{ParseError}
use Rattle.asl_grammar.specs.grammar.Kinds.{kind_of}
use Rattle.asl_grammar.specs.grammar.Cursor.{Lexeme, Cursor, Kinds, among, starts, with_toks, plus, past, extent}
use Rattle.asl_grammar.specs.grammar.Combinators.{G, tok, opens, into, seq, either, opt, many, by, spanned, scope, closed, trail, costs, follows, Reading, reads, reads_all, reads_tok, reads_then, goes, goes_tok, goes_trail}
use Rattle.asl_grammar.specs.grammar.Reader.{nullable, first, cont, by_one, both, flipped, pick, apart, left_of, Outcome, refused, bind, run, run_tok, run_opens, open_at, run_many, run_item, run_trail, run_costs, run_follows}
use Rattle.asl_grammar.proofs.grammar.Basics.{both_true, both_three, both_four, both_five, flipped_true, starts_apart, pick_cases, bind_err}
use Rattle.asl_grammar.proofs.grammar.Readings.{TookAs, Takes, Frames, Lowers, frames_then, took_then, took, took_all, took_some, frame, lowers, whole_goes, goes_begins, Begins}
use Rattle.asl_grammar.proofs.grammar.Reading.{place, place_bind, place_many, shrinks, sound, complete, Completes, starts_more, run_tok_at, run_opens_at, run_many_in, run_trail_in, run_item_in, more_toks, tok_ok, place_item, place_trail, place_follows}

same : (n : ℕ) → n ≤ n
same n = omega arith

place_is : {A : Type 0} (o o' : Outcome A) (n : ℕ) → o ≡ o' → place o' ≤ n → place o ≤ n
place_is o o' n e h = subst (λ z. place z ≤ n) (sym e) h

at_end : (st : Cursor) (more : List Lexeme) (n : ℕ) → st.toks ≡ [] → n ≤ length (st.toks ++ more) → n ≤ length more
at_end st more n e h = subst (λ ts. n ≤ length (ts ++ more)) e h

pick_true : {A : Type 0} (b : Bool) (x y : Outcome A) (n : ℕ) → b ≡ true → place x ≤ n → place (pick b x y) ≤ n
pick_true b x y n e h = subst (λ z. place (pick z x y) ≤ n) (sym e) h

pick_false : {A : Type 0} (b : Bool) (x y : Outcome A) (n : ℕ) → b ≡ false → place y ≤ n → place (pick b x y) ≤ n
pick_false b x y n e h = subst (λ z. place (pick z x y) ≤ n) (sym e) h

viable_many : {A : Type 0} (P : Reading A) (p : Cursor → Outcome A) (C F : Kinds) (nl : Bool) (n : ℕ) (Go : Cursor → Type 0) → Takes P F nl → nl ≡ false → Lowers P → Completes P p C n → apart C F ≡ true
    → ((st : Cursor) → place (p st) ≤ length st.toks) → ((st : Cursor) → Go st → Begins F st)
    → ((st : Cursor) (a : A) (end : Cursor) → P st a end → end.toks ≡ [] → Go st)
    → ((st : Cursor) → Go st → st.left ≤ n → (more : List Lexeme) → place (p (plus st more)) ≤ length more)
    → (k : ℕ) (xs : List A) (st mid : Cursor) → reads_all P st xs mid → Go mid → st.left ≤ n → (more : List Lexeme) → length st.toks + length more ≤ k → place (run_many p F k (plus st more)) ≤ length more
viable_many P p C F nl n Go takes e0 lo comp ap' sh begins whole via zero xs st mid r g le more le' = let q = length-append st.toks more in omega arith
viable_many {A} P p C F nl n Go takes e0 lo comp ap' sh begins whole via (suc k) [] st mid r g le more le' = last (subst Go r g)
  where
    last : Go st → place (run_many p F (suc k) (plus st more)) ≤ length more
    last h = elim (begins st h) [
      | inl e ↦ at_end st more _ e (place_many p F sh (suc k) (plus st more))
      | inr s ↦ pick_true (starts F (st.toks ++ more)) _ (Ok ([], plus st more)) _ (starts_more F st.toks more s)
          (place_bind (p (plus st more)) _ _ (via st h le more) (λ x m. place_bind (run_many p F k m) (λ xs end. Ok (x ∷ xs, end)) _ (place_many p F sh k m) (λ xs end. same _)))
    ]
viable_many {A} P p C F nl n Go takes e0 lo comp ap' sh begins whole via (suc k) (x ∷ xs) st mid r g le more le' = go (rest_begins (took_all P F nl takes xs r.0 mid r.2) (begins mid g)) (viable_many P p C F nl n Go takes e0 lo comp ap' sh begins whole via k xs r.0 mid r.2 g)
  where
    rest_begins : TookAs F true r.0 mid → Begins F mid → Begins F r.0
    rest_begins (inl h) b = inr h.0
    rest_begins (inr h) b = subst (λ ts. (ts ≡ []) ⊎ (starts F ts ≡ true)) h.1 b

    t : (starts F st.toks ≡ true) × (length r.0.toks < length st.toks)
    t = took_some F nl st r.0 e0 (takes st x r.0 r.1)

    go : Begins F r.0 → (r.0.left ≤ n → (more : List Lexeme) → length r.0.toks + length more ≤ k → place (run_many p F k (plus r.0 more)) ≤ length more) → place (run_many p F (suc k) (plus st more)) ≤ length more
    go (inl e) ih = pick_true (starts F (st.toks ++ more)) _ (Ok ([], plus st more)) _ (starts_more F st.toks more t.0)
        (place_bind (p (plus st more)) _ _ (via st (whole st x r.0 r.1 e) le more) (λ x m. place_bind (run_many p F k m) (λ xs end. Ok (x ∷ xs, end)) _ (place_many p F sh k m) (λ xs end. same _)))
    go (inr s) ih =
        let q : length r.0.toks < length st.toks = t.1 in
        let l : r.0.left ≤ st.left = lo st x r.0 r.1 in
        let one = comp st x r.0 r.1 le more (starts_apart C F (r.0.toks ++ more) ap' (starts_more F r.0.toks more s)) in
        place_is _ _ _ (run_many_in p F k (plus st more) (plus r.0 more) x (starts_more F st.toks more t.0) one)
        (place_bind (run_many p F k (plus r.0 more)) (λ xs end. Ok (x ∷ xs, end)) _ (ih (omega arith) more (omega arith)) (λ xs end. same _))

place_past : {A : Type 0} (cs : Kinds) (p : Cursor → Outcome A) (F : Kinds) (k : ℕ) → ((st : Cursor) → place (p st) ≤ length st.toks) → (st : Cursor) (more : List Lexeme) (t : Lexeme) (m : Cursor) → reads_tok cs st t m
    → place (run_item p F (run_trail cs p F k) t (plus m more)) ≤ length more → place (run_trail cs p F (suc k) (plus st more)) ≤ length more
place_past cs p F k sh st more t m r h =
    place_is _ _ _ (run_trail_in cs p F k (plus st more) t (r.0 ++ more) (more_toks st t r.0 more r.1) r.2 ∙ ap (λ z. run_item p F (run_trail cs p F k) t (plus z more)) (sym r.3)) h

viable_trail : {A : Type 0} (cs : Kinds) (P : Reading A) (p : Cursor → Outcome A) (C F : Kinds) (nl : Bool) (n : ℕ) (Go : Cursor → Type 0) → Takes P F nl → nl ≡ false → Lowers P → Completes P p C n → apart C cs ≡ true
    → ((st : Cursor) → place (p st) ≤ length st.toks) → ((st : Cursor) → Go st → Begins F st)
    → ((st : Cursor) (a : A) (end : Cursor) → P st a end → end.toks ≡ [] → Go st)
    → ((st : Cursor) → Go st → st.left ≤ n → (more : List Lexeme) → place (p (plus st more)) ≤ length more)
    → (k : ℕ) (xs : List (Lexeme × A)) (st mid : Cursor) → reads_all (reads_then cs P) st xs mid → (goes_tok cs mid ⊎ ((t : Lexeme) × (m : Cursor) × reads_tok cs mid t m × Go m)) → st.left ≤ n → (more : List Lexeme) → length st.toks + length more ≤ k → place (run_trail cs p F k (plus st more)) ≤ length more
viable_trail {A} cs P p C F nl n Go takes e0 lo comp ap' sh begins whole via k [] st mid r g le more le' = here k le' (subst (λ z. goes_tok cs z ⊎ ((t : Lexeme) × (m : Cursor) × reads_tok cs z t m × Go m)) r g)
  where
    -- an item behind a separator
    item : (k : ℕ) (t : Lexeme) (m : Cursor) → Go m → m.left ≤ n → place (run_item p F (run_trail cs p F k) t (plus m more)) ≤ length more
    item k t m h lm = elim (begins m h) [
      | inl e ↦ at_end m more _ e (place_item p F (run_trail cs p F k) sh (place_trail cs p F sh k) t (plus m more))
      | inr s ↦ place_is _ _ _ (run_item_in p F (run_trail cs p F k) t (plus m more) (starts_more F m.toks more s))
          (place_bind (p (plus m more)) _ _ (via m h lm more) (λ x z. place_bind (run_trail cs p F k z) (λ r end. Ok (((t, x) ∷ r.0, r.1), end)) _ (place_trail cs p F sh k z) (λ r end. same _)))
    ]

    here : (k : ℕ) → length st.toks + length more ≤ k → (goes_tok cs st ⊎ ((t : Lexeme) × (m : Cursor) × reads_tok cs st t m × Go m)) → place (run_trail cs p F k (plus st more)) ≤ length more
    here zero le' h = let q = length-append st.toks more in omega (arith, q, le')
    here (suc k) le' (inl (inl e)) = at_end st more _ e (place_trail cs p F sh (suc k) (plus st more))
    here (suc k) le' (inl (inr t)) = place_past cs p F k sh st more t.0 (past t.0 [] st.left) ([], t.1, t.2, refl) (place_item p F (run_trail cs p F k) sh (place_trail cs p F sh k) t.0 (plus (past t.0 [] st.left) more))
    here (suc k) le' (inr h) = let lm : h.1.left ≡ st.left = ap (λ (c : Cursor). c.left) h.2.3 in place_past cs p F k sh st more h.0 h.1 h.2 (item k h.0 h.1 h.3 (omega (arith, lm, le)))
viable_trail cs P p C F nl n Go takes e0 lo comp ap' sh begins whole via zero (x ∷ xs) st mid r g le more le' = let q : length st.toks ≡ suc (length r.1.1.0) = ap length r.1.1.1 in absurd (omega arith)
viable_trail {A} cs P p C F nl n Go takes e0 lo comp ap' sh begins whole via (suc k) (x ∷ xs) st mid r g le more le' =
    place_past cs p F k sh st more x.0 m tk (place_is _ _ _ (run_item_in p F (run_trail cs p F k) x.0 (plus m more) (starts_more F m.toks more t.0)) (go (rest_begins (took_all (reads_then cs P) cs false (took_then cs P F nl takes) xs r.0 mid r.2) ends) (viable_trail cs P p C F nl n Go takes e0 lo comp ap' sh begins whole via k xs r.0 mid r.2 g)))
  where
    tk : reads_tok cs st x.0 r.1.0
    tk = r.1.1

    m : Cursor
    m = r.1.0

    lm : m.left ≡ st.left
    lm = ap (λ (c : Cursor). c.left) tk.3

    tm : length m.toks ≡ length tk.0
    tm = ap (λ (c : Cursor). length c.toks) tk.3

    ts : length st.toks ≡ suc (length tk.0)
    ts = ap length tk.1

    ends : Begins cs mid
    ends = elim g [
      | inl e ↦ elim e [ inl z ↦ inl z | inr k ↦ inr (ap (starts cs) k.1 ∙ k.2) ]
      | inr k ↦ inr (ap (starts cs) k.2.1 ∙ k.2.2)
    ]

    rest_begins : TookAs cs true r.0 mid → Begins cs mid → Begins cs r.0
    rest_begins (inl h) b = inr h.0
    rest_begins (inr h) b = subst (λ ts. (ts ≡ []) ⊎ (starts cs ts ≡ true)) h.1 b

    t : (starts F m.toks ≡ true) × (length r.0.toks < length m.toks)
    t = took_some F nl m r.0 e0 (takes m x.1 r.0 r.1.2)

    go : Begins cs r.0 → (r.0.left ≤ n → (more : List Lexeme) → length r.0.toks + length more ≤ k → place (run_trail cs p F k (plus r.0 more)) ≤ length more)
        → place {A = List (Lexeme × A) × Option Lexeme} (bind (p (plus m more)) (λ y z. bind (run_trail cs p F k z) (λ r end. Ok (((x.0, y) ∷ r.0, r.1), end)))) ≤ length more
    go (inl e) ih = place_bind (p (plus m more)) _ _ (via m (whole m x.1 r.0 r.1.2 e) (omega (arith, lm, le)) more) (λ y z. place_bind (run_trail cs p F k z) (λ r end. Ok (((x.0, y) ∷ r.0, r.1), end)) _ (place_trail cs p F sh k z) (λ r end. same _))
    go (inr s) ih =
        let q : length r.0.toks < length m.toks = t.1 in
        let l : r.0.left ≤ m.left = lo m x.1 r.0 r.1.2 in
        let one = comp m x.1 r.0 r.1.2 (omega (arith, lm, le)) more (starts_apart C cs (r.0.toks ++ more) ap' (starts_more cs r.0.toks more s)) in
        place_is _ _ _ (ap (λ z. bind z (λ y z. bind (run_trail cs p F k z) (λ r end. Ok (((x.0, y) ∷ r.0, r.1), end)))) one)
        (place_bind (run_trail cs p F k (plus r.0 more)) (λ v end. Ok (((x.0, x.1) ∷ v.0, v.1), end)) _ (ih (omega (arith, l, lm, le)) more (omega (arith, q, tm, ts, le'))) (λ v end. same _))

module _ (Sym : Type 0) (Val : Sym → Type 0) (after : Sym → Kinds) (R : (s : Sym) → Reading (Val s)) (Q : (s : Sym) → Cursor → Type 0) (P : (s : Sym) → Cursor → Outcome (Val s)) (n : ℕ)
    (shr : (s : Sym) (st : Cursor) (v : Val s) (end : Cursor) → R s st v end → length end.toks ≤ length st.toks)
    (los : (s : Sym) → Lowers (R s))
    (whole : (s : Sym) (st : Cursor) (v : Val s) (end : Cursor) → R s st v end → end.toks ≡ [] → Q s st)
    (sh : (s : Sym) (st : Cursor) → place (P s st) ≤ length st.toks)
    (hyp : (s : Sym) (st : Cursor) (v : Val s) (end : Cursor) → R s st v end → suc st.left ≤ n → (more : List Lexeme) → starts (after s) (end.toks ++ more) ≡ false → P s (plus st more) ≡ Ok (v, plus end more))
    (hyv : (s : Sym) (st : Cursor) → Q s st → suc st.left ≤ n → (more : List Lexeme) → place (P s (plus st more)) ≤ length more) where
  -- a front that goes on is read to its end, whatever follows
  pub viable : {A : Type 0} (g : G Sym Val A) → by_one after g ≡ true → (st : Cursor) → goes R Q g st → st.left ≤ n → (more : List Lexeme) → place (run P g (plus st more)) ≤ length more
  viable (tok cs) w st h le more = elim h [
    | inl e ↦ at_end st more _ e (shrinks Sym Val P sh (tok cs) (plus st more))
    | inr k ↦ place_is _ _ _ (run_tok_at cs (plus st more) (st.toks ++ more) k.0 more (ap (λ ts. ts ++ more) k.1) k.2) (same _)
  ]
  viable (opens cs) w st h le more = elim h [
    | inl e ↦ at_end st more _ e (shrinks Sym Val P sh (opens cs) (plus st more))
    | inr k ↦ place_is _ _ _ (run_opens_at cs st.left k.1 (st.toks ++ more) k.0 more (ap (λ ts. ts ++ more) k.2) k.3 k.4) (same _)
  ]
  viable (into cs s) w st h le more = elim h [
    | inl e ↦ at_end st more _ e (shrinks Sym Val P sh (into cs s) (plus st more))
    | inr k ↦ (let lv : st.left ≡ suc k.2 = k.5 in
        place_is _ _ _ (ap (λ o. bind o (λ t mid. bind (P s mid) (λ v end. Ok ((t, v), end)))) (run_opens_at cs st.left k.2 (st.toks ++ more) k.0 (k.1 ++ more) (ap (λ ts. ts ++ more) k.3) k.4 lv))
        (place_bind (P s (plus (past k.0 k.1 k.2) more)) (λ v end. Ok ((k.0, v), end)) _ (hyv s (past k.0 k.1 k.2) k.6 (omega arith) more) (λ v end. same _)))
  ]
  viable (seq p q) w st h le more =
      let w1 = (both_true _ _ w).1 in
      let wp = (both_true (by_one after p) (both (by_one after q) (apart (cont after p) (first q))) w).0 in
      let wq = (both_true (by_one after q) (apart (cont after p) (first q)) w1).0 in
      let cut : goes R Q p st → place (run P (seq p q) (plus st more)) ≤ length more =
      λ e. place_bind (run P p (plus st more)) _ _ (viable p wp st e le more) (λ a mid. place_bind (run P q mid) (λ b end. Ok ((a, b), end)) _ (shrinks Sym Val P sh q mid) (λ b end. same _)) in
      elim h [
        | inl e ↦ cut e
        | inr k ↦ (let l : k.1.left ≤ st.left = lowers Sym Val R los p st k.0 k.1 k.2 in
            elim (goes_begins Sym Val after R Q shr q wq k.1 k.3) [
              | inl e ↦ cut (whole_goes Sym Val R Q whole p k.0 st k.1 k.2 e)
              | inr s ↦ place_is _ _ _
                  (ap (λ o. bind o (λ a mid. bind (run P q mid) (λ b end. Ok ((a, b), end)))) (complete Sym Val after R P n shr los hyp p wp st k.0 k.1 k.2 le more (starts_apart (cont after p) (first q) (k.1.toks ++ more) (both_true (by_one after q) (apart (cont after p) (first q)) w1).1 (starts_more (first q) k.1.toks more s))))
                  (place_bind (run P q (plus k.1 more)) (λ b end. Ok ((k.0, b), end)) _ (viable q wq k.1 k.3 (omega arith) more) (λ b end. same _))
            ])
      ]
  viable (either p q) w st h le more =
      let k = both_five (by_one after p) (by_one after q) (nullable p) (nullable q) (apart (first p) (first q)) w in
      let nothing : st.toks ≡ [] → place (run P (either p q) (plus st more)) ≤ length more = λ e. at_end st more _ e (shrinks Sym Val P sh (either p q) (plus st more)) in
      elim h [
        | inl e ↦ elim (goes_begins Sym Val after R Q shr p k.0 st e) [
          | inl z ↦ nothing z
          | inr s ↦ pick_true (starts (first p) (st.toks ++ more)) (run P p (plus st more)) (run P q (plus st more)) _ (starts_more (first p) st.toks more s) (viable p k.0 st e le more)
        ]
        | inr e ↦ elim (goes_begins Sym Val after R Q shr q k.1 st e) [
          | inl z ↦ nothing z
          | inr s ↦ pick_false (starts (first p) (st.toks ++ more)) (run P p (plus st more)) (run P q (plus st more)) _ (starts_apart (first p) (first q) (st.toks ++ more) k.4 (starts_more (first q) st.toks more s)) (viable q k.1 st e le more)
        ]
      ]
  viable (opt p) w st h le more =
      let wp = (both_true (by_one after p) (flipped (nullable p)) w).0 in
      elim (goes_begins Sym Val after R Q shr p wp st h) [
        | inl e ↦ at_end st more _ e (shrinks Sym Val P sh (opt p) (plus st more))
        | inr s ↦ pick_true (starts (first p) (st.toks ++ more)) _ (Ok (None, plus st more)) _ (starts_more (first p) st.toks more s) (place_bind (run P p (plus st more)) (λ x end. Ok (Some x, end)) _ (viable p wp st h le more) (λ x end. same _))
      ]
  viable (many p) w st h le more =
      let wp = (both_true (by_one after p) (both (flipped (nullable p)) (apart (cont after p) (first p))) w).0 in
      let w1 = both_true (flipped (nullable p)) (apart (cont after p) (first p)) (both_true (by_one after p) (both (flipped (nullable p)) (apart (cont after p) (first p))) w).1 in
      viable_many (reads R p) (run P p) (cont after p) (first p) (nullable p) n (goes R Q p) (took Sym Val after R shr p wp) (flipped_true _ w1.0) (lowers Sym Val R los p) (complete Sym Val after R P n shr los hyp p wp) w1.1
      (shrinks Sym Val P sh p) (goes_begins Sym Val after R Q shr p wp) (λ z a end r e. whole_goes Sym Val R Q whole p a z end r e) (viable p wp)
      (length (st.toks ++ more)) h.0 st h.1 h.2 h.3 le more (omega (arith, length-append st.toks more))
  viable (by f p) w st h le more = place_bind (run P p (plus st more)) (λ x end. Ok (f x, end)) _ (viable p w st h le more) (λ x end. same _)
  viable (spanned p) w st h le more = place_bind (run P p (plus st more)) (λ x end. Ok ((x, extent (st.toks ++ more) end.last), end)) _ (viable p (both_true (by_one after p) (flipped (nullable p)) w).0 st h le more) (λ x end. same _)
  viable (scope p) w st h le more = place_bind (run P p (plus st more)) (λ x end. Ok (x, record end { left = st.left })) _ (viable p w st h le more) (λ x end. same _)
  viable (closed cs s) w st h le more = elim h [
    | inl e ↦ at_end st more _ e (shrinks Sym Val P sh (closed cs s) (plus st more))
    | inr k ↦ (let lv : st.left ≡ suc k.2 = k.5 in
        place_is _ _ _ (ap (λ o. bind o (λ t mid. bind (P s mid) (λ v end. Ok ((t, v), record end { left = suc end.left })))) (run_opens_at cs st.left k.2 (st.toks ++ more) k.0 (k.1 ++ more) (ap (λ ts. ts ++ more) k.3) k.4 lv))
        (place_bind (P s (plus (past k.0 k.1 k.2) more)) (λ v end. Ok ((k.0, v), record end { left = suc end.left })) _ (hyv s (past k.0 k.1 k.2) k.6 (omega arith) more) (λ v end. same _)))
  ]
  viable (trail cs p) w st h le more =
      let k = both_three (by_one after p) (nullable p) (apart (cont after p) cs) w in
      viable_trail cs (reads R p) (run P p) (cont after p) (first p) (nullable p) n (goes R Q p) (took Sym Val after R shr p k.0) k.1 (lowers Sym Val R los p) (complete Sym Val after R P n shr los hyp p k.0) k.2
      (shrinks Sym Val P sh p) (goes_begins Sym Val after R Q shr p k.0) (λ z a end r e. whole_goes Sym Val R Q whole p a z end r e) (viable p k.0)
      (length (st.toks ++ more)) h.0 st h.1 h.2 h.3 le more (omega (arith, length-append st.toks more))
  viable (costs late p) w st h le more =
      let wp = (both_true (by_one after p) (flipped (nullable p)) w).0 in
      let nothing : st.toks ≡ [] → place (run P (costs late p) (plus st more)) ≤ length more = λ e. at_end st more _ e (shrinks Sym Val P sh (costs late p) (plus st more)) in
      elim h [
        | inl e ↦ nothing e
        | inr k ↦ (let lv : st.left ≡ suc k.0 = k.1 in
            elim (goes_begins Sym Val after R Q shr p wp (record st { left = k.0 }) k.2) [
              | inl e ↦ nothing e
              | inr s ↦ pick_true (starts (first p) (st.toks ++ more)) (run_costs late (run P p) (plus st more) st.left) (refused (st.toks ++ more)) _ (starts_more (first p) st.toks more s)
                  (place_is _ _ _ (ap (run_costs late (run P p) (plus st more)) lv) (viable p wp (record st { left = k.0 }) k.2 (omega arith) more))
            ])
      ]
  viable (follows p q) w st h le more =
      let k = both_four (by_one after p) (by_one after q) (nullable p) (apart (cont after p) (first q)) w in
      let cut : goes R Q p st → place (run P (follows p q) (plus st more)) ≤ length more =
      λ e. place_bind (run P p (plus st more)) _ _ (viable p k.0 st e le more) (λ x mid. place_follows (run P q) (shrinks Sym Val P sh q) x mid) in
      elim h [
        | inl e ↦ cut e
        | inr z ↦ (let l : z.1.left ≤ st.left = lowers Sym Val R los p st (inr z.0) z.1 z.2 in
            elim (goes_begins Sym Val after R Q shr q k.1 z.1 z.3) [
              | inl e ↦ cut (whole_goes Sym Val R Q whole p (inr z.0) st z.1 z.2 e)
              | inr s ↦ place_is _ _ _
                  (ap (λ o. bind o (λ x mid. run_follows (run P q) x mid)) (complete Sym Val after R P n shr los hyp p k.0 st (inr z.0) z.1 z.2 le more (starts_apart (cont after p) (first q) (z.1.toks ++ more) k.3 (starts_more (first q) z.1.toks more s))))
                  (place_bind (run P q (plus z.1 more)) (λ b end. Ok (inr (z.0, b), end)) _ (viable q k.1 z.1 z.3 (omega arith) more) (λ b end. same _))
            ])
      ]

-- ---- the front before a fault goes on

abbrev pub Before : (Cursor → Type 0) → Cursor → ParseError → Type 0
Before Go st f = (front : List Lexeme) × (rest : List Lexeme) × (st.toks ≡ front ++ rest) × (length rest ≡ left_of f) × Go (with_toks st front)

pub not_err : {A : Type 0} {x : A} {f : ParseError} → (let o : Result A ParseError = Ok x in o) ≡ Err f → ⊥
not_err h = cc

pub err_same : {A : Type 0} {x y : ParseError} → (let o : Result A ParseError = Err x in o) ≡ Err y → left_of x ≡ left_of y
err_same {A} {x} {y} h = let e : x ≡ y = cc in ap left_of e

pub last_err : {A B : Type 0} (o : Outcome A) (f : A → B) (g : Cursor → Cursor) (e : ParseError) → bind o (λ x end. Ok (f x, g end)) ≡ Err e → o ≡ Err e
last_err (Ok r) f g e h = absurd (not_err h)
last_err (Err e') f g e h = cc

tok_err : (cs : Kinds) (st : Cursor) (toks : List Lexeme) (f : ParseError) → run_tok cs st toks ≡ Err f → length toks ≡ left_of f
tok_err cs st [] f h = err_same h
tok_err cs st (t ∷ ts) f h = elim (pick_cases (among cs (kind_of t.kind)) (Ok (t, past t ts st.left)) (refused (t ∷ ts)) (Err f) h) [ inl k ↦ absurd (not_err k.1) | inr k ↦ err_same k.1 ]

open_err : (t : Lexeme) (ts : List Lexeme) (l : ℕ) (f : ParseError) → open_at t ts l ≡ Err f → length (t ∷ ts) ≡ left_of f
open_err t ts zero f h = err_same h
open_err t ts (suc l) f h = absurd (not_err h)

opens_err : (cs : Kinds) (left : ℕ) (toks : List Lexeme) (f : ParseError) → run_opens cs left toks ≡ Err f → length toks ≡ left_of f
opens_err cs left [] f h = err_same h
opens_err cs left (t ∷ ts) f h = elim (pick_cases (among cs (kind_of t.kind)) (open_at t ts left) (refused (t ∷ ts)) (Err f) h) [ inl k ↦ open_err t ts left f k.1 | inr k ↦ err_same k.1 ]

fault_many : {A : Type 0} (P : Reading A) (p : Cursor → Outcome A) (F : Kinds) (Go : Cursor → Type 0) → Frames P → ((st : Cursor) (a : A) (end : Cursor) → p st ≡ Ok (a, end) → P st a end)
    → ((st : Cursor) (f : ParseError) → p st ≡ Err f → Before Go st f)
    → (k : ℕ) (st : Cursor) (f : ParseError) → run_many p F k st ≡ Err f → Before (λ st. (xs : List A) × (mid : Cursor) × reads_all P st xs mid × Go mid) st f
fault_many P p F Go fr so fl zero st f h = absurd (not_err h)
fault_many {A} P p F Go fr so fl (suc k) st f h = elim (pick_cases (starts F st.toks) _ (Ok ([], st)) (Err f) h) [
  | inr e ↦ absurd (not_err e.1)
  | inl e ↦ elim (bind_err (p st) _ f e.1) [
    | inl d ↦ (let b = fl st f d in (b.0, b.1, b.2, b.3, ([], with_toks st b.0, refl, b.4)))
    | inr d ↦ (let b = fault_many P p F Go fr so fl k d.1 f (last_err (run_many p F k d.1) (λ xs. d.0 ∷ xs) (λ end. end) f d.3) in
        let z = fr st d.0 d.1 (so st d.0 d.1 d.2) in
        (z.0 ++ b.0, b.1, z.1 ∙ ap (λ ts. z.0 ++ ts) b.2 ∙ sym (append_assoc z.0 b.0 b.1), b.3, (d.0 ∷ b.4.0, b.4.1, (with_toks d.1 b.0, z.2 b.0, b.4.2), b.4.3)))
  ]
]

fault_trail : {A : Type 0} (cs : Kinds) (P : Reading A) (p : Cursor → Outcome A) (F : Kinds) (Go : Cursor → Type 0) → Frames P → ((st : Cursor) (a : A) (end : Cursor) → p st ≡ Ok (a, end) → P st a end)
    → ((st : Cursor) (f : ParseError) → p st ≡ Err f → Before Go st f)
    → (k : ℕ) (st : Cursor) (f : ParseError) → run_trail cs p F k st ≡ Err f → Before (goes_trail cs P Go) st f
fault_trail cs P p F Go fr so fl zero st f h = absurd (not_err h)
fault_trail {A} cs P p F Go fr so fl (suc k) st f h = elim (pick_cases (starts cs st.toks) _ (Ok (([], None), st)) (Err f) h) [
  | inr e ↦ absurd (not_err e.1)
  | inl e ↦ elim (bind_err (run_tok cs st st.toks) _ f e.1) [
    | inl d ↦ ([], st.toks, refl, tok_err cs st st.toks f d, ([], with_toks st [], refl, inl (inl refl)))
    | inr d ↦ (let t = tok_ok cs st st.toks d.0 d.1 d.2 in
        let mt : t.0 ≡ d.1.toks = ap (λ (c : Cursor). c.toks) (sym t.3) in
        elim (pick_cases (starts F d.1.toks) _ (Ok (([], Some d.0), d.1)) (Err f) d.3) [
          | inr m ↦ absurd (not_err m.1)
          | inl m ↦ elim (bind_err (p d.1) _ f m.1) [
            | inl u ↦ (let b = fl d.1 f u in
                (d.0 ∷ b.0, b.1, t.1 ∙ ap (λ ts. d.0 ∷ ts) (mt ∙ b.2), b.3, ([], with_toks st (d.0 ∷ b.0), refl, inr (d.0, with_toks d.1 b.0, (b.0, refl, t.2, ap (λ c. with_toks c b.0) t.3), b.4))))
            | inr u ↦ (let b = fault_trail cs P p F Go fr so fl k u.1 f (last_err (run_trail cs p F k u.1) (λ r. ((d.0, u.0) ∷ r.0, r.1)) (λ end. end) f u.3) in
                let z = frames_then cs P fr st (d.0, u.0) u.1 (d.1, t, so d.1 u.0 u.1 u.2) in
                (z.0 ++ b.0, b.1, z.1 ∙ ap (λ ts. z.0 ++ ts) b.2 ∙ sym (append_assoc z.0 b.0 b.1), b.3, ((d.0, u.0) ∷ b.4.0, b.4.1, (with_toks u.1 b.0, z.2 b.0, b.4.2), b.4.3)))
          ]
        ])
  ]
]

pub follows_err : {A B C : Type 0} (q : Cursor → Outcome C) (x : A ⊎ B) (mid : Cursor) (f : ParseError) → run_follows q x mid ≡ Err f → (b : B) × (x ≡ inr b) × (q mid ≡ Err f)
follows_err q (inl a) mid f h = absurd (not_err h)
follows_err q (inr b) mid f h = (b, refl, last_err (q mid) (λ c. inr (b, c)) (λ end. end) f h)

fault_costs : {A : Type 0} (late : Bool) (p : Cursor → Outcome A) (Go : Cursor → Type 0) → ((st : Cursor) (f : ParseError) → p st ≡ Err f → Before Go st f)
    → (st : Cursor) (left : ℕ) (f : ParseError) → run_costs late p st left ≡ Err f → Before (λ z. (z.toks ≡ []) ⊎ ((l : ℕ) × (left ≡ suc l) × Go (record z { left = l }))) st f
fault_costs late p Go fl st zero f h = ([], st.toks, refl, err_same h, inl refl)
fault_costs late p Go fl st (suc l) f h = let b = fl (record st { left = l }) f h in (b.0, b.1, b.2, b.3, inr (l, refl, b.4))

module _ (Sym : Type 0) (Val : Sym → Type 0) (after : Sym → Kinds) (R : (s : Sym) → Reading (Val s)) (Q : (s : Sym) → Cursor → Type 0) (P : (s : Sym) → Cursor → Outcome (Val s))
    (shr : (s : Sym) (st : Cursor) (v : Val s) (end : Cursor) → R s st v end → length end.toks ≤ length st.toks)
    (frs : (s : Sym) → Frames (R s))
    (snd : (s : Sym) (st : Cursor) (v : Val s) (end : Cursor) → P s st ≡ Ok (v, end) → R s st v end)
    (flt : (s : Sym) (st : Cursor) (f : ParseError) → P s st ≡ Err f → Before (Q s) st f) where
  pub faults : {A : Type 0} (g : G Sym Val A) → by_one after g ≡ true → (st : Cursor) (f : ParseError) → run P g st ≡ Err f → Before (goes R Q g) st f
  faults (tok cs) w st f h = ([], st.toks, refl, tok_err cs st st.toks f h, inl refl)
  faults (opens cs) w st f h = ([], st.toks, refl, opens_err cs st.left st.toks f h, inl refl)
  faults (into cs s) w st f h = elim (bind_err (run_opens cs st.left st.toks) _ f h) [
    | inl e ↦ ([], st.toks, refl, opens_err cs st.left st.toks f e, inl refl)
    | inr e ↦ (let k = sound Sym Val R P snd (opens cs) st e.0 e.1 e.2 in
        let b = flt s e.1 f (last_err (P s e.1) (λ v. (e.0, v)) (λ end. end) f e.3) in
        let b' = subst (λ c. Before (Q s) c f) k.5 b in
        (e.0 ∷ b'.0, b'.1, k.2 ∙ ap (λ ts. e.0 ∷ ts) b'.2, b'.3, inr (e.0, b'.0, k.1, refl, k.3, k.4, b'.4)))
  ]
  faults (seq p q) w st f h =
      let w1 = (both_true _ _ w).1 in
      let wp = (both_true (by_one after p) (both (by_one after q) (apart (cont after p) (first q))) w).0 in
      let wq = (both_true (by_one after q) (apart (cont after p) (first q)) w1).0 in
      elim (bind_err (run P p st) _ f h) [
        | inl e ↦ (let b = faults p wp st f e in (b.0, b.1, b.2, b.3, inl b.4))
        | inr e ↦ (let b = faults q wq e.1 f (last_err (run P q e.1) (λ v. (e.0, v)) (λ end. end) f e.3) in
            let z = frame Sym Val after R shr frs p wp st e.0 e.1 (sound Sym Val R P snd p st e.0 e.1 e.2) in
            (z.0 ++ b.0, b.1, z.1 ∙ ap (λ ts. z.0 ++ ts) b.2 ∙ sym (append_assoc z.0 b.0 b.1), b.3, inr (e.0, with_toks e.1 b.0, z.2 b.0, b.4)))
      ]
  faults (either p q) w st f h =
      let k = both_five (by_one after p) (by_one after q) (nullable p) (nullable q) (apart (first p) (first q)) w in
      elim (pick_cases (starts (first p) st.toks) (run P p st) (run P q st) (Err f) h) [
        | inl e ↦ (let b = faults p k.0 st f e.1 in (b.0, b.1, b.2, b.3, inl b.4))
        | inr e ↦ (let b = faults q k.1 st f e.1 in (b.0, b.1, b.2, b.3, inr b.4))
      ]
  faults (opt p) w st f h = elim (pick_cases (starts (first p) st.toks) _ (Ok (None, st)) (Err f) h) [
    | inl e ↦ faults p (both_true (by_one after p) (flipped (nullable p)) w).0 st f (last_err (run P p st) (λ x. Some x) (λ end. end) f e.1)
    | inr e ↦ absurd (not_err e.1)
  ]
  faults (many p) w st f h =
      let wp = (both_true (by_one after p) (both (flipped (nullable p)) (apart (cont after p) (first p))) w).0 in
      fault_many (reads R p) (run P p) (first p) (goes R Q p) (frame Sym Val after R shr frs p wp) (sound Sym Val R P snd p) (faults p wp) (length st.toks) st f h
  faults (by f' p) w st f h = faults p w st f (last_err (run P p st) f' (λ end. end) f h)
  faults (spanned p) w st f h = elim (bind_err (run P p st) (λ x end. Ok ((x, extent st.toks end.last), end)) f h) [
    | inl e ↦ faults p (both_true (by_one after p) (flipped (nullable p)) w).0 st f e
    | inr e ↦ absurd (not_err e.3)
  ]
  faults (scope p) w st f h = faults p w st f (last_err (run P p st) (λ x. x) (λ end. record end { left = st.left }) f h)
  faults (closed cs s) w st f h = elim (bind_err (run_opens cs st.left st.toks) _ f h) [
    | inl e ↦ ([], st.toks, refl, opens_err cs st.left st.toks f e, inl refl)
    | inr e ↦ (let k = sound Sym Val R P snd (opens cs) st e.0 e.1 e.2 in
        let b = flt s e.1 f (last_err (P s e.1) (λ v. (e.0, v)) (λ end. record end { left = suc end.left }) f e.3) in
        let b' = subst (λ c. Before (Q s) c f) k.5 b in
        (e.0 ∷ b'.0, b'.1, k.2 ∙ ap (λ ts. e.0 ∷ ts) b'.2, b'.3, inr (e.0, b'.0, k.1, refl, k.3, k.4, b'.4)))
  ]
  faults (trail cs p) w st f h =
      let k = both_three (by_one after p) (nullable p) (apart (cont after p) cs) w in
      fault_trail cs (reads R p) (run P p) (first p) (goes R Q p) (frame Sym Val after R shr frs p k.0) (sound Sym Val R P snd p) (faults p k.0) (length st.toks) st f h
  faults (costs late p) w st f h = elim (pick_cases (starts (first p) st.toks) (run_costs late (run P p) st st.left) (refused st.toks) (Err f) h) [
    | inl e ↦ fault_costs late (run P p) (goes R Q p) (faults p (both_true (by_one after p) (flipped (nullable p)) w).0) st st.left f e.1
    | inr e ↦ ([], st.toks, refl, err_same e.1, inl refl)
  ]
  faults (follows p q) w st f h =
      let k = both_four (by_one after p) (by_one after q) (nullable p) (apart (cont after p) (first q)) w in
      elim (bind_err (run P p st) _ f h) [
        | inl e ↦ (let b = faults p k.0 st f e in (b.0, b.1, b.2, b.3, inl b.4))
        | inr e ↦ (let x = follows_err (run P q) e.0 e.1 f e.3 in
            let b = faults q k.1 e.1 f x.2 in
            let z = frame Sym Val after R shr frs p k.0 st (inr x.0) e.1 (sound Sym Val R P snd p st (inr x.0) e.1 (e.2 ∙ ap (λ y. Ok (y, e.1)) x.1)) in
            (z.0 ++ b.0, b.1, z.1 ∙ ap (λ ts. z.0 ++ ts) b.2 ∙ sym (append_assoc z.0 b.0 b.1), b.3, inr (x.0, with_toks e.1 b.0, z.2 b.0, b.4)))
      ]
