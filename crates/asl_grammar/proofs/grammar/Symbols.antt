-- The laws of a grammar with symbols, from one check of its rules.
use Rattle.std.proofs.Common.{◌≡◌, ℕ, zero, suc, ◌+◌, ◌-◌, ◌≤◌, ◌⊎◌, inl, inr, Bool, true, false, List, [], ◌∷◌, ◌++◌, length, Result, Ok, Err, refl, ap, sym, ◌∙◌, subst, arith, append_assoc, length-append}
use Rattle.asl_grammar.specs.declared.error.ParseError.{ParseError}
use Rattle.asl_grammar.specs.declared.error.ParseError.TheVariants.{OutOfMemory, Syntax, TooDeep}
use Rattle.asl_grammar.specs.grammar.Cursor.{Lexeme, Cursor, Kinds, starts, with_toks, plus}
use Rattle.asl_grammar.specs.grammar.Combinators.{G, Reading, Reads, Goes}
use Rattle.asl_grammar.specs.grammar.Reader.{cont, by_one, covers, left_of, Outcome, bind, parse}
use Rattle.asl_grammar.specs.grammar.Syntax.{start, finish, Parses, GoesOn, Refuses, Exceeds, parsed}
use Rattle.asl_grammar.proofs.grammar.Basics.{starts_covers, bind_ok, bind_err}
use Rattle.asl_grammar.proofs.grammar.Readings.{Framed, Frames, Lowers, frame, lowers, empty_goes, whole_goes}
use Rattle.asl_grammar.proofs.grammar.Reading.{place, shrinks, sound, complete, ok_same}
use Rattle.asl_grammar.proofs.grammar.Levels.{up, Same, same, same_place}
use Rattle.asl_grammar.specs.grammar.Opening.{Full}
use Rattle.asl_grammar.proofs.grammar.Stops.{full_stops}
use Rattle.asl_grammar.proofs.grammar.Opening.{Fuller, fuller}
use Rattle.asl_grammar.proofs.grammar.Deep.{Rises, rises, Deeper, deep}
use Rattle.asl_grammar.proofs.grammar.Faults.{Before, viable, faults, not_err, err_same}

shorter : {A : Type 0} (P : Reading A) (st : Cursor) (a : A) (end : Cursor) → Framed P st a end → length end.toks ≤ length st.toks
shorter P st a end f = let q : length st.toks ≡ length (f.0 ++ end.toks) = ap length f.1 in omega (arith, length-append f.0 end.toks)

no_ok : {A : Type 0} {x : A} {f : ParseError} → (let o : Result A ParseError = Err f in o) ≡ Ok x → ⊥
no_ok h = cc

module _ (Sym : Type 0) (Val : Sym → Type 0) (rule : (s : Sym) → G Sym Val (Val s)) (after : Sym → Kinds)
    (each : (s : Sym) → by_one after (rule s) ≡ true) (covered : (s : Sym) → covers (after s) (cont after (rule s)) ≡ true) where
  abbrev Rd : ℕ → (s : Sym) → Reading (Val s)
  Rd = Reads Sym Val rule

  abbrev Gd : ℕ → (s : Sym) → Cursor → Type 0
  Gd = Goes Sym Val rule

  abbrev Pd : ℕ → (s : Sym) → Cursor → Outcome (Val s)
  Pd = parse Sym Val rule

  pub frames_n : (n : ℕ) (s : Sym) → Frames (Rd n s)
  frames_n zero s st a end r = elim r [ ]
  frames_n (suc n) s st a end r = frame Sym Val after (Rd n) (λ s st v end r. shorter (Rd n s) st v end (frames_n n s st v end r)) (frames_n n) (rule s) (each s) st a end r

  pub short_n : (n : ℕ) (s : Sym) (st : Cursor) (v : Val s) (end : Cursor) → Rd n s st v end → length end.toks ≤ length st.toks
  short_n n s st v end r = shorter (Rd n s) st v end (frames_n n s st v end r)

  pub lowers_n : (n : ℕ) (s : Sym) → Lowers (Rd n s)
  lowers_n zero s st a end r = elim r [ ]
  lowers_n (suc n) s st a end r = lowers Sym Val (Rd n) (lowers_n n) (rule s) st a end r

  pub sound_n : (n : ℕ) (s : Sym) (st : Cursor) (v : Val s) (end : Cursor) → Pd n s st ≡ Ok (v, end) → Rd n s st v end
  sound_n zero s st v end h = absurd (no_ok h)
  sound_n (suc n) s st v end h = sound Sym Val (Rd n) (Pd n) (sound_n n) (rule s) st v end h

  pub shrinks_n : (n : ℕ) (s : Sym) (st : Cursor) → place (Pd n s st) ≤ length st.toks
  shrinks_n zero s st = omega arith
  shrinks_n (suc n) s st = shrinks Sym Val (Pd n) (shrinks_n n) (rule s) st

  pub whole_n : (n : ℕ) (s : Sym) (st : Cursor) (v : Val s) (end : Cursor) → Rd n s st v end → end.toks ≡ [] → Gd n s st
  whole_n zero s st v end r e = elim r [ ]
  whole_n (suc n) s st v end r e = whole_goes Sym Val (Rd n) (Gd n) (whole_n n) (rule s) v st end r e

  pub complete_n : (m n : ℕ) (s : Sym) (st : Cursor) (v : Val s) (end : Cursor) → Rd m s st v end → suc st.left ≤ n → (more : List Lexeme) → starts (after s) (end.toks ++ more) ≡ false → Pd n s (plus st more) ≡ Ok (v, plus end more)
  complete_n zero n s st v end r le more c = elim r [ ]
  complete_n (suc m) zero s st v end r le more c = absurd (omega arith)
  complete_n (suc m) (suc n) s st v end r le more c =
      complete Sym Val after (Rd m) (Pd n) n (short_n m) (lowers_n m) (complete_n m n) (rule s) (each s) st v end r (omega arith) more (starts_covers (after s) (cont after (rule s)) (end.toks ++ more) (covered s) c)

  pub viable_n : (m n : ℕ) (s : Sym) (st : Cursor) → Gd m s st → suc st.left ≤ n → (more : List Lexeme) → place (Pd n s (plus st more)) ≤ length more
  viable_n zero n s st g le more = subst (λ ts. place (Pd n s (plus st more)) ≤ length (ts ++ more)) g (shrinks_n n s (plus st more))
  viable_n (suc m) zero s st g le more = absurd (omega arith)
  viable_n (suc m) (suc n) s st g le more =
      viable Sym Val after (Rd m) (Gd m) (Pd n) n (short_n m) (lowers_n m) (whole_n m) (shrinks_n n) (complete_n m n) (viable_n m n) (rule s) (each s) st g (omega arith) more

  pub faults_n : (n : ℕ) (s : Sym) (st : Cursor) (f : ParseError) → Pd n s st ≡ Err f → Before (Gd n s) st f
  faults_n zero s st f h = ([], st.toks, refl, err_same h, refl)
  faults_n (suc n) s st f h = faults Sym Val after (Rd n) (Gd n) (Pd n) (short_n n) (frames_n n) (sound_n n) (faults_n n) (rule s) (each s) st f h

  pub same_n : (d n n' : ℕ) → n ≤ n' → (s : Sym) (st : Cursor) → Same d (Pd n s st) (Pd n' s (up d st))
  same_n d zero n' le s st = shrinks_n n' s (up d st)
  same_n d (suc n) zero le s st = absurd (omega arith)
  same_n d (suc n) (suc n') le s st = same Sym Val (Pd n) (Pd n') d (shrinks_n n') (same_n d n n' (omega arith)) (rule s) st

  pub rises_n : (d n : ℕ) (s : Sym) → Rises d (Rd n s)
  rises_n d zero s st a end r = elim r [ ]
  rises_n d (suc n) s st a end r = rises Sym Val (Rd n) d (rises_n d n) (rule s) st a end r

  pub empty_n : (n : ℕ) (s : Sym) (st : Cursor) → st.toks ≡ [] → Gd n s st
  empty_n zero s st e = e
  empty_n (suc n) s st e = empty_goes Sym Val (Rd n) (Gd n) (rule s) st e

  pub deep_n : (n : ℕ) (s : Sym) (st : Cursor) (m : ℕ) (y : Bool) → suc st.left ≤ n → Pd n s st ≡ Err (TooDeep m y) → Deeper (Gd n s) st m
  deep_n zero s st m y le h = absurd (omega arith)
  deep_n (suc n) s st m y le h = deep Sym Val after (Rd n) (Gd n) (Pd n) n (short_n n) (frames_n n) (lowers_n n) (λ d. rises_n d n) (sound_n n) (empty_n n) (deep_n n) (rule s) (each s) st m y (omega arith) h

module _ (Sym : Type 0) (Val : Sym → Type 0) (rule : (s : Sym) → G Sym Val (Val s)) (after : Sym → Kinds)
    (each : (s : Sym) → by_one after (rule s) ≡ true) (covered : (s : Sym) → covers (after s) (cont after (rule s)) ≡ true) where
  pub full_n : (n : ℕ) (y : Bool) (s : Sym) (st : Cursor) (m : ℕ) → suc st.left ≤ n → parse Sym Val rule n s st ≡ Err (TooDeep m y) → Fuller (Full Sym Val rule n y s) st m
  full_n zero y s st m le h = absurd (omega arith)
  full_n (suc n) y s st m le h = fuller Sym Val after (Reads Sym Val rule n) (Full Sym Val rule n y) (parse Sym Val rule n) n y (short_n Sym Val rule after each covered n) (frames_n Sym Val rule after each covered n) (lowers_n Sym Val rule after each covered n) (sound_n Sym Val rule after each covered n) (full_n n y) (rule s) (each s) st m (omega arith) h

module _ (Sym : Type 0) (Val : Sym → Type 0) (rule : (s : Sym) → G Sym Val (Val s)) (after : Sym → Kinds)
    (each : (s : Sym) → by_one after (rule s) ≡ true) (covered : (s : Sym) → covers (after s) (cont after (rule s)) ≡ true) where
  pub stops_n : (m n : ℕ) (y : Bool) (x : Lexeme) (us : List Lexeme) (s : Sym) (st : Cursor) → suc st.left ≤ n → Full Sym Val rule m y s st x → parse Sym Val rule n s (plus st (x ∷ us)) ≡ Err (TooDeep (length (x ∷ us)) y)
  stops_n zero n y x us s st le h = elim h [ ]
  stops_n (suc m) zero y x us s st le h = absurd (omega arith)
  stops_n (suc m) (suc n) y x us s st le h =
      full_stops Sym Val after (Reads Sym Val rule m) (Full Sym Val rule m y) (parse Sym Val rule n) n y (short_n Sym Val rule after each covered m) (lowers_n Sym Val rule after each covered m) (complete_n Sym Val rule after each covered m n) x us
      (stops_n m n y x us) (rule s) (each s) st h (omega arith)

nil_behind : (ts : List Lexeme) → ts ++ [] ≡ ts
nil_behind [] = refl
nil_behind (t ∷ ts) = ap (λ us. t ∷ us) (nil_behind ts)

plus_nil : (c : Cursor) → plus c [] ≡ c
plus_nil c = ap (λ ts. with_toks c ts) (nil_behind c.toks)

finish_ok : {A : Type 0} (v : A) (end : Cursor) (toks : List Lexeme) (v' : A) (end' : Cursor) → finish v end toks ≡ Ok (v', end') → (toks ≡ []) × (v ≡ v')
finish_ok {A} v end [] v' end' h = (refl, ap (λ (r : A × Cursor). r.0) (ok_same h))
finish_ok v end (t ∷ ts) v' end' h = absurd (no_ok h)

finish_err : {A : Type 0} (v : A) (end : Cursor) (toks : List Lexeme) (f : ParseError) → finish v end toks ≡ Err f → length toks ≡ left_of f
finish_err v end [] f h = absurd (not_err h)
finish_err v end (t ∷ ts) f h = err_same h

finish_deep : {A : Type 0} (v : A) (end : Cursor) (toks : List Lexeme) (n : ℕ) (y : Bool) → finish v end toks ≡ Err (TooDeep n y) → ⊥
finish_deep v end [] n y h = not_err h
finish_deep v end (t ∷ ts) n y h = cc

-- two cuts of a list with rests of one length are one
same_front : (a b x y : List Lexeme) → length x ≡ length y → a ++ x ≡ b ++ y → a ≡ b
same_front [] [] x y l h = refl
same_front [] (t ∷ b) x y l h = let q : length x ≡ suc (length (b ++ y)) = ap length h in let r : length (b ++ y) ≡ length b + length y = length-append b y in absurd (omega arith)
same_front (t ∷ a) [] x y l h = let q : suc (length (a ++ x)) ≡ length y = ap length h in let r : length (a ++ x) ≡ length a + length x = length-append a x in absurd (omega arith)
same_front (t ∷ a) (u ∷ b) x y l h = let e : a ++ x ≡ b ++ y = cc in let k = same_front a b x y l e in let q : t ≡ u = cc in cc

pub same_split : (ts a b x y : List Lexeme) → ts ≡ a ++ x → ts ≡ b ++ y → length x ≡ length y → a ≡ b
same_split ts a b x y e f l = same_front a b x y l (sym e ∙ f)

module _ (Sym : Type 0) (Val : Sym → Type 0) (rule : (s : Sym) → G Sym Val (Val s)) (after : Sym → Kinds)
    (each : (s : Sym) → by_one after (rule s) ≡ true) (covered : (s : Sym) → covers (after s) (cont after (rule s)) ≡ true) (s : Sym) (levels : ℕ) where
  abbrev P : Cursor → Outcome (Val s)
  P = parse Sym Val rule (suc levels) s

  pub parsed_tree : (ts : List Lexeme) (v : Val s) (end : Cursor) → parsed Sym Val rule s levels ts ≡ Ok (v, end) → Parses Sym Val rule s levels ts v
  parsed_tree ts v end h =
      let o = bind_ok (P (start levels ts)) _ v end h in
      let k = finish_ok o.0 o.1 o.1.toks v end o.3 in
      (suc levels, o.1, subst (λ x. Reads Sym Val rule (suc levels) s (start levels ts) x o.1) k.1 (sound_n Sym Val rule after each covered (suc levels) s (start levels ts) o.0 o.1 o.2), k.0)

  read_whole : (ts : List Lexeme) (v : Val s) (p : Parses Sym Val rule s levels ts v) → P (start levels ts) ≡ Ok (v, p.1)
  read_whole ts v p =
      let c : starts (after s) (p.1.toks ++ []) ≡ false = ap (λ ts. starts (after s) (ts ++ [])) p.3 in
      let k = complete_n Sym Val rule after each covered p.0 (suc levels) s (start levels ts) v p.1 p.2 (omega arith) [] c in
      ap P (sym (plus_nil (start levels ts))) ∙ k ∙ ap (λ z. Ok (v, z)) (plus_nil p.1)

  pub tree_parsed : (ts : List Lexeme) (v : Val s) (p : Parses Sym Val rule s levels ts v) → parsed Sym Val rule s levels ts ≡ Ok (v, p.1)
  tree_parsed ts v p = ap (λ o. bind o (λ v end. finish v end end.toks)) (read_whole ts v p) ∙ ap (λ ts. finish v p.1 ts) p.3

  pub one_tree : (ts : List Lexeme) (v v' : Val s) → Parses Sym Val rule s levels ts v → Parses Sym Val rule s levels ts v' → v ≡ v'
  one_tree ts v v' p p' =
      let e : (let o : Outcome (Val s) = Ok (v, p.1) in o) ≡ Ok (v', p'.1) = sym (read_whole ts v p) ∙ read_whole ts v' p' in
      ap (λ (r : Val s × Cursor). r.0) (ok_same e)

  at_levels : ℕ → List Lexeme → Outcome (Val s)
  at_levels n ts = parse Sym Val rule (suc n) s (start n ts)

  -- where a front goes on, the reader stops no earlier than behind it
  pub stops_behind : (any : ℕ) (ts front others : List Lexeme) → ts ≡ front ++ others → GoesOn Sym Val rule s any front → place (parse Sym Val rule (suc any) s (start any ts)) ≤ length others
  stops_behind any ts front others e g =
      let k : place (parse Sym Val rule (suc any) s (start any (front ++ others))) ≤ length others = viable_n Sym Val rule after each covered g.0 (suc any) s (start any front) g.1 (omega arith) others in
      subst (λ z. place (parse Sym Val rule (suc any) s (start any z)) ≤ length others) (sym e) k

  stops_by : (any : ℕ) (ts front : List Lexeme) (t : Lexeme) (us : List Lexeme) → ts ≡ front ++ (t ∷ us) → GoesOn Sym Val rule s any (front ++ t ∷ []) → place (at_levels any ts) ≤ length us
  unfolding at_levels
  stops_by any ts front t us e g = stops_behind any ts (front ++ t ∷ []) us (e ∙ sym (append_assoc front (t ∷ []) us)) g

  more_levels : (m n : ℕ) (ts : List Lexeme) → m ≤ n → Same (n - m) (at_levels m ts) (at_levels n ts)
  unfolding at_levels
  more_levels m n ts le =
      let e : m + (n - m) ≡ n = omega arith in
      subst (λ l. Same (n - m) (at_levels m ts) (parse Sym Val rule (suc n) s (start l ts))) e (same_n Sym Val rule after each covered (n - m) (suc m) (suc n) (omega arith) s (start m ts))

  -- an outcome that isn't too deep stops at one place with more levels
  stays : (d : ℕ) (o o' : Outcome (Val s)) (k : ℕ) → place o ≡ k → ((m : ℕ) (y : Bool) → o ≡ Err (TooDeep m y) → ⊥) → (o ≡ Err OutOfMemory → ⊥) → Same d o o' → place o' ≡ k
  stays d (Ok r) o' k e h j q = ap place q ∙ e
  stays d (Err (Syntax n)) o' k e h j q = ap place q ∙ e
  stays d (Err (TooDeep n y)) o' k e h j q = absurd (h n y refl)
  stays d (Err OutOfMemory) o' k e h j q = absurd (j refl)

  no_longer : (ts front rest : List Lexeme) → ts ≡ front ++ rest → place (at_levels levels ts) ≡ length rest → ((m : ℕ) (y : Bool) → at_levels levels ts ≡ Err (TooDeep m y) → ⊥) → (at_levels levels ts ≡ Err OutOfMemory → ⊥)
      → (longer others : List Lexeme) → ts ≡ longer ++ others → (any : ℕ) → GoesOn Sym Val rule s any longer → length longer ≤ length front
  unfolding at_levels
  no_longer ts front rest e pl nd nm longer others f any g = go (grind arith)
    where
      k : place (at_levels any ts) ≤ length others
      k = stops_behind any ts longer others f g

      q : length front + length rest ≡ length longer + length others
      q = sym (ap length e ∙ length-append front rest) ∙ (ap length f ∙ length-append longer others)

      go : (any ≤ levels) ⊎ (levels ≤ any) → length longer ≤ length front
      go (inl le) = let p : place (at_levels levels ts) ≤ place (at_levels any ts) = same_place _ _ _ (more_levels any levels ts le) in omega (arith, k, q, pl)
      go (inr le) = let p : place (at_levels any ts) ≡ length rest = stays _ _ _ _ pl nd nm (more_levels levels any ts le) in omega (arith, k, q)

  pub parsed_syntax : (ts : List Lexeme) (n : ℕ) → parsed Sym Val rule s levels ts ≡ Err (Syntax n) → Refuses (GoesOn Sym Val rule s) levels ts n
  unfolding at_levels
  parsed_syntax ts n h = elim (bind_err (P (start levels ts)) _ (Syntax n) h) [
    | inl e ↦ (let b = faults_n Sym Val rule after each covered (suc levels) s (start levels ts) (Syntax n) e in
        record { front = b.0; rest = b.1; is = b.2; there = b.3; goes_on = (suc levels, b.4); no_longer = no_longer ts b.0 b.1 b.2 (ap place e ∙ sym b.3) (λ m y k. cc) (λ k. cc) })
    | inr e ↦ (let er = finish_err e.0 e.1 e.1.toks (Syntax n) e.3 in
        let z = frames_n Sym Val rule after each covered (suc levels) s (start levels ts) e.0 e.1 (sound_n Sym Val rule after each covered (suc levels) s (start levels ts) e.0 e.1 e.2) in
        let r = subst (λ us. Reads Sym Val rule (suc levels) s (start levels us) e.0 (with_toks e.1 [])) (nil_behind z.0) (z.2 []) in
        let ok = e.2 in
        record {
          front = z.0;
          rest = e.1.toks;
          is = z.1;
          there = er;
          goes_on = (suc levels, whole_n Sym Val rule after each covered (suc levels) s (start levels z.0) e.0 (with_toks e.1 []) r refl);
          no_longer = no_longer ts z.0 e.1.toks z.1 (ap place e.2) (λ m y k. cc) (λ k. cc);
        })
  ]

  pub parsed_deep : (ts : List Lexeme) (n : ℕ) (y : Bool) → parsed Sym Val rule s levels ts ≡ Err (TooDeep n y) → Exceeds (GoesOn Sym Val rule s) levels ts n
  unfolding at_levels
  parsed_deep ts n y h = elim (bind_err (P (start levels ts)) _ (TooDeep n y) h) [
    | inl e ↦ (let b = deep_n Sym Val rule after each covered (suc levels) s (start levels ts) n y (omega arith) e in
        let f = faults_n Sym Val rule after each covered (suc levels) s (start levels ts) (TooDeep n y) e in
        let same_front : f.0 ≡ b.0 = same_split ts f.0 b.0 f.1 (b.1 ∷ b.2) f.2 b.3 (f.3 ∙ sym b.4) in
        record {
          front = b.0;
          token = b.1;
          rest = b.2;
          is = b.3;
          there = b.4;
          goes_on = (suc levels, subst (λ z. Goes Sym Val rule (suc levels) s (start levels z)) same_front f.4);
          opens = (levels + b.5, (suc levels, b.6));
          too_many = λ g. (let k : place (at_levels levels ts) ≤ length b.2 = stops_by levels ts b.0 b.1 b.2 b.3 g in let q : place (at_levels levels ts) ≡ n = ap place e in let l : length (b.1 ∷ b.2) ≡ n = b.4 in omega arith);
        })
    | inr e ↦ absurd (finish_deep e.0 e.1 e.1.toks n y e.3)
  ]

  pub parsed_full : (ts : List Lexeme) (n : ℕ) (y : Bool) → parsed Sym Val rule s levels ts ≡ Err (TooDeep n y) → Fuller (Full Sym Val rule (suc levels) y s) (start levels ts) n
  parsed_full ts n y h = elim (bind_err (P (start levels ts)) _ (TooDeep n y) h) [
    | inl e ↦ full_n Sym Val rule after each covered (suc levels) y s (start levels ts) n (omega arith) e
    | inr e ↦ absurd (finish_deep e.0 e.1 e.1.toks n y e.3)
  ]
