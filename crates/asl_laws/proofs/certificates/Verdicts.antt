-- Each verdict comes exactly where its statement holds: stages are gone through as one list of lines with one end.
use Rattle.std.proofs.Common.{◌≡◌, ◌⊎◌, inl, inr, ℕ, suc, ◌+◌, List, [], ◌∷◌, ◌++◌, length, map, Option, Some, None, Result, Ok, Err, refl}
use Rattle.std.proofs.Common.{sym, ap, ◌∙◌, append_assoc, arith}
use Rattle.std.specs.Prelude.{codes}
use Rattle.asl_syn.specs.declared.code.Fault.{Fault}
use Rattle.asl_rules.specs.report.Texts.{Text}
use Rattle.asl_laws.specs.certificates.Texts.{Line, place_text, line_text, first_line, last_line}
use Rattle.asl_laws.specs.certificates.Lines.{Failure, at_next, at_last}
use Rattle.asl_laws.specs.certificates.Certificates.{with_feed, Stage, asks, says, Cursor, Mistake, V03, Stop, refused, no, given_line}
use Rattle.asl_laws.specs.certificates.Certificates.{mistake_at, failing, behind_text, next, next_by, step, all_next, behind_lines}
use Rattle.asl_laws.specs.certificates.Certificates.{stages_against, lines_between, nothing_in, nothing_behind, ended_by, begun}
use Rattle.asl_laws.specs.certificates.Certificates.{verified_by}
use Rattle.asl_laws.specs.certificates.Verdicts.{Want, want, until, lines_until, Ending, all_right, refused_by, failed, ending_by, ending}
use Rattle.asl_laws.specs.certificates.Verdicts.{last_want, closing, wanted, fed, Right, RefusedBy, NoAt, VerdictsLaw}
use Rattle.asl_laws.proofs.certificates.Lines.{Went, at, err_isnt, ok_is, step_ok, step_is, next_ok, next_is, behind_ok, behind_is}
use Rattle.asl_laws.proofs.certificates.Lines.{all_next_ok}

-- ---- steps

err_or : {A E : Type 0} → E → Result A E → E
err_or d (Ok x) = d
err_or d (Err e) = e

err_is : {A E : Type 0} (d e : E) → (let r : Result A E = Err d in r) ≡ Err e → d ≡ e
unfolding err_or
err_is d e h = ap (err_or d) h

ok_isnt : {A B E : Type 0} (x : A) (e : E) → (let r : Result A E = Ok x in r) ≡ Err e → B
ok_isnt x e h = err_isnt e x (sym h)

pub step_by : {A B C : Type 0} (r : Result A Stop) (f : A → Result B Stop) (g : B → Result C Stop) →
    step (step r f) g ≡ step r (λ x. step (f x) g)
step_by (Ok x) f g = refl
step_by (Err s) f g = refl

pub step_ends : {A : Type 0} (r : Result A Stop) → step r (λ x. Ok x) ≡ r
step_ends (Ok x) = refl
step_ends (Err s) = refl

pub step_same : {A B : Type 0} (r : Result A Stop) (f g : A → Result B Stop) → ((x : A) → r ≡ Ok x → f x ≡ g x) → step r f ≡ step r g
step_same (Ok x) f g h = h x refl
step_same (Err s) f g h = refl

step_err : {A B : Type 0} (r : Result A Stop) (go : A → Result B Stop) (s : Stop) → step r go ≡ Err s →
    (r ≡ Err s) ⊎ ((x : A) × ((r ≡ Ok x) × (go x ≡ Err s)))
step_err (Ok x) go s h = inr (x, (refl, h))
step_err (Err e) go s h = inl (ap Err (err_is e s h))

-- ---- one list of lines

all_taken : List Want → Cursor → Result Cursor Stop
all_taken [] c = Ok c
all_taken (w ∷ ws) c = step (next w.place w.text c) (all_taken ws)

taken_append : (ws vs : List Want) (c : Cursor) → all_taken (ws ++ vs) c ≡ step (all_taken ws c) (all_taken vs)
unfolding all_taken
taken_append [] vs c = refl
taken_append (w ∷ ws) vs c = step_same (next w.place w.text c) (all_taken (ws ++ vs)) (λ d. step (all_taken ws d) (all_taken vs))
    (λ d e. taken_append ws vs d) ∙ sym (step_by (next w.place w.text c) (all_taken ws) (all_taken vs))

taken_lines : (ls : List Line) (c : Cursor) → all_taken (map want ls) c ≡ all_next ls c
unfolding all_taken
taken_lines [] c = refl
taken_lines (l ∷ ls) c = step_same (next (place_text l.place) (line_text l) c) (all_taken (map want ls)) (λ d. all_next ls d)
    (λ d e. taken_lines ls d)

pub next_append : (ls ms : List Line) (c : Cursor) → all_next (ls ++ ms) c ≡ step (all_next ls c) (all_next ms)
next_append [] ms c = refl
next_append (l ∷ ls) ms c = step_same (next (place_text l.place) (line_text l) c) (λ d. all_next (ls ++ ms) d)
    (λ d. step (all_next ls d) (all_next ms)) (λ d e. next_append ls ms d)
    ∙ sym (step_by (next (place_text l.place) (line_text l) c) (λ d. all_next ls d) (all_next ms))

-- ---- stages as one list of lines with one end

ends_as : Ending → Cursor → Result Cursor Stop
ends_as all_right c = Ok c
ends_as (refused_by f) c = Err (refused f)
ends_as (failed (at_next p)) c = failing (place_text p) c
ends_as (failed at_last) c = Err (no c.taken V03)

append_none : {A : Type 0} (xs : List A) → xs ++ [] ≡ xs
append_none [] = refl
append_none (x ∷ xs) = ap (λ z. x ∷ z) (append_none xs)

step_cut : (r : Result Cursor Stop) (f : Failure) (g : Cursor → Result Cursor Stop) →
    step (step r (behind_lines (let o : Result (Unit {0}) Failure = Err f in o))) g ≡ step r (ends_as (failed f))
unfolding ends_as
step_cut (Ok c) (at_next p) g = refl
step_cut (Ok c) at_last g = refl
step_cut (Err s) f g = refl

lines_flat : (ls : List Line) (o : Result (Unit {0}) Failure) (ms : List Line) (e : Ending) (c : Cursor) (g : Cursor → Result Cursor Stop) →
    ((d : Cursor) → g d ≡ step (all_next ms d) (ends_as e))
    → step (step (all_next ls c) (behind_lines o)) g ≡ step (all_next (ls ++ until o ms) c) (ends_as (ending_by o e))
lines_flat ls (Ok x) ms e c g h =
    step_by (all_next ls c) (behind_lines (Ok x)) g ∙
    (step_same (all_next ls c) g (λ d. step (all_next ms d) (ends_as e)) (λ d k. h d) ∙
    (sym (step_by (all_next ls c) (all_next ms) (ends_as e)) ∙ ap (λ r. step r (ends_as e)) (sym (next_append ls ms c))))
lines_flat ls (Err f) ms e c g h = step_cut (all_next ls c) f g
    ∙ ap (λ zs. step (all_next zs c) (ends_as (failed f))) (sym (append_none ls))

stages_flat : (ss : List Stage) (c : Cursor) → stages_against ss c ≡ step (all_next (lines_until ss) c) (ends_as (ending ss))
unfolding ends_as
stages_flat [] c = refl
stages_flat (asks (Ok x) ∷ ss) c = stages_flat ss c
stages_flat (asks (Err f) ∷ ss) c = refl
stages_flat (says l ∷ ss) c = lines_flat l.lines l.outcome (lines_until ss) (ending ss) c (stages_against ss) (stages_flat ss)

end_of : Ending → ℕ → Cursor → Result ℕ Stop
end_of all_right n c = nothing_behind n c
end_of (refused_by f) n c = Err (refused f)
end_of (failed (at_next p)) n c = failing (place_text p) c
end_of (failed at_last) n c = Err (no c.taken V03)

behind_first : (ls : List Line) (e : Ending) (r : Text) →
    step (step (all_next ls (at 1 r)) (ends_as e)) ended_by
    ≡ step (all_taken (map want ls ++ closing e (length ls)) (at 1 r)) (end_of e (length ls))
unfolding ends_as end_of all_taken
behind_first ls all_right r =
    let n = length ls in
    step_by (all_next ls (at 1 r)) (λ d. Ok d) ended_by ∙
    (step_same (all_next ls (at 1 r)) ended_by (λ d. step (step (next (codes "end") (last_line n) d) (λ x. Ok x)) (nothing_behind n))
    (λ d k.
    let p = all_next_ok ls (at 1 r) d k in
    let m : d.taken ≡ n + 1 = p.count in
    let q : d.taken ≡ suc n = m ∙ omega arith in
    let b : lines_between d.taken ≡ n = ap lines_between q in
    ap (λ j. step (next (codes "end") (last_line j) d) (nothing_behind j)) b
    ∙ ap (λ z. step z (nothing_behind n)) (sym (step_ends (next (codes "end") (last_line n) d)))) ∙
    (sym (step_by (all_next ls (at 1 r)) (λ d. step (next (codes "end") (last_line n) d) (λ x. Ok x)) (nothing_behind n)) ∙
    ap (λ z. step z (nothing_behind n))
    (ap (λ z. step z (λ d. step (next (codes "end") (last_line n) d) (λ x. Ok x))) (sym (taken_lines ls (at 1 r)))
    ∙ sym (taken_append (map want ls) (last_want n ∷ []) (at 1 r)))))
behind_first ls (refused_by f) r =
    step_by (all_next ls (at 1 r)) (λ d. Err (refused f)) ended_by
    ∙ ap (λ z. step z (λ d. Err (refused f)))
    (sym (taken_lines ls (at 1 r)) ∙ ap (λ z. all_taken z (at 1 r)) (sym (append_none (map want ls))))
behind_first ls (failed (at_next p)) r =
    step_by (all_next ls (at 1 r)) (λ d. failing (place_text p) d) ended_by
    ∙ ap (λ z. step z (λ d. failing (place_text p) d))
    (sym (taken_lines ls (at 1 r)) ∙ ap (λ z. all_taken z (at 1 r)) (sym (append_none (map want ls))))
behind_first ls (failed at_last) r =
    step_by (all_next ls (at 1 r)) (λ d. Err (no d.taken V03)) ended_by
    ∙ ap (λ z. step z (λ d. Err (no d.taken V03)))
    (sym (taken_lines ls (at 1 r)) ∙ ap (λ z. all_taken z (at 1 r)) (sym (append_none (map want ls))))

-- the verdict goes through the lines that have to come, and then asks what comes behind them
flat : (ss : List Stage) (bytes : Text) → verified_by ss bytes
    ≡ step (all_taken (wanted ss) (begun bytes)) (end_of (ending ss) (length (lines_until ss)))
unfolding all_taken
flat ss bytes = by (behind_text (with_feed first_line) bytes)
  where
    by : (o : Option Text) → step (next_by first_line (begun bytes) o) (λ c. step (stages_against ss c) ended_by)
        ≡ step (step (next_by first_line (begun bytes) o)
        (all_taken (map want (lines_until ss) ++ closing (ending ss) (length (lines_until ss)))))
        (end_of (ending ss) (length (lines_until ss)))
    by None = refl
    by (Some r) = ap (λ z. step z ended_by) (stages_flat ss (at 1 r)) ∙ behind_first (lines_until ss) (ending ss) r

-- ---- where lines fail

taken_ok : (ws : List Want) (c d : Cursor) → all_taken ws c ≡ Ok d → Went c (fed ws) (length ws) d
unfolding all_taken
taken_ok [] c d h = let e = ok_is c d h in
    record { bytes = ap (λ (x : Cursor). x.rest) e; count = sym (ap (λ (x : Cursor). x.taken) e) ∙ omega arith }
taken_ok (w ∷ ws) c d h =
    let s = step_ok (next w.place w.text c) (all_taken ws) d h in
    let p = next_ok w.place w.text c s.value s.first in
    let q = taken_ok ws s.value d s.second in
    let n : s.value.taken ≡ 1 + c.taken = p.count in
    let m : d.taken ≡ length ws + s.value.taken = q.count in
    record {
      bytes = p.bytes ∙ (ap (λ z. with_feed w.text ++ z) q.bytes ∙ sym (append_assoc (with_feed w.text) (fed ws) d.rest));
      count = m ∙ (ap (λ z. length ws + z) n ∙ omega arith);
    }

taken_is : (ws : List Want) (n : ℕ) (r : Text) → all_taken ws (at n (fed ws ++ r)) ≡ Ok (at (length ws + n) r)
unfolding all_taken
taken_is [] n r = let e : n ≡ 0 + n = omega arith in ap (λ k. Ok (at k r)) e
taken_is (w ∷ ws) n r =
    let e : length ws + suc n ≡ suc (length ws) + n = omega arith in
    step_is (next w.place w.text (at n ((with_feed w.text ++ fed ws) ++ r))) (all_taken ws) (at (suc n) (fed ws ++ r))
    (at (suc (length ws) + n) r)
    (ap (λ z. next w.place w.text (at n z)) (append_assoc (with_feed w.text) (fed ws) r) ∙ next_is w.place w.text (fed ws ++ r) n)
    (taken_is ws (suc n) r ∙ ap (λ k. Ok (at k r)) e)

-- the first line that isn't there as it has to be
record Wrong (ws : List Want) (c : Cursor) (s : Stop) : Type 0 where
  before : List Want
  line : Want
  after : List Want
  rest : Text
  wants : ws ≡ before ++ (line ∷ after)
  bytes_are : c.rest ≡ fed before ++ rest
  other : behind_text (with_feed line.text) rest ≡ None
  is : s ≡ no (suc (length before + c.taken)) (mistake_at line.place (given_line rest))

next_err : (place : Text) (c : Cursor) (o : Option Text) (s : Stop) → next_by place c o ≡ Err s →
    (o ≡ None) × (no (suc c.taken) (mistake_at place (given_line c.rest)) ≡ s)
next_err place c None s h = (refl, err_is _ s h)
next_err place c (Some r) s h = ok_isnt _ s h

taken_err : (ws : List Want) (c : Cursor) (s : Stop) → all_taken ws c ≡ Err s → Wrong ws c s
unfolding all_taken
taken_err [] c s h = ok_isnt c s h
taken_err (w ∷ ws) c s h = by (step_err (next w.place w.text c) (all_taken ws) s h) (taken_err ws)
  where
    by : ((next w.place w.text c ≡ Err s) ⊎ ((x : Cursor) × ((next w.place w.text c ≡ Ok x) × (all_taken ws x ≡ Err s)))) →
        ((x : Cursor) (s : Stop) → all_taken ws x ≡ Err s → Wrong ws x s) → Wrong (w ∷ ws) c s
    by (inl e) again =
        let p = next_err w.place c (behind_text (with_feed w.text) c.rest) s e in
        let k : c.taken ≡ 0 + c.taken = omega arith in
        record {
          before = [];
          line = w;
          after = ws;
          rest = c.rest;
          wants = refl;
          bytes_are = refl;
          other = p.0;
          is = sym p.1 ∙ ap (λ n. no (suc n) (mistake_at w.place (given_line c.rest))) k;
        }
    by (inr (x, (e, k))) again =
        let p = next_ok w.place w.text c x e in
        let q = again x s k in
        let n : x.taken ≡ 1 + c.taken = p.count in
        let m : length q.before + (1 + c.taken) ≡ suc (length q.before) + c.taken = omega arith in
        record {
          before = w ∷ q.before;
          line = q.line;
          after = q.after;
          rest = q.rest;
          wants = ap (λ z. w ∷ z) q.wants;
          bytes_are = p.bytes ∙ (ap (λ z. with_feed w.text ++ z) q.bytes_are ∙ sym (append_assoc (with_feed w.text) (fed q.before) q.rest));
          other = q.other;
          is = q.is ∙ ap (λ j. no (suc j) (mistake_at q.line.place (given_line q.rest))) (ap (λ z. length q.before + z) n ∙ m);
        }

none_behind : (t u : Text) (o : Option Text) → behind_text t u ≡ o → ((r : Text) → u ≡ t ++ r → ⊥) → behind_text t u ≡ None
none_behind t u None e h = e
none_behind t u (Some r) e h = absurd (h r (behind_ok t u r e))

none_isnt_some : {A : Type 0} (x : A) → None ≡ Some x → ⊥
none_isnt_some x h = cc

taken_wrong : (before : List Want) (w : Want) (after : List Want) (n : ℕ) (rest : Text) → behind_text (with_feed w.text) rest ≡ None →
    all_taken (before ++ (w ∷ after)) (at n (fed before ++ rest))
    ≡ Err (no (suc (length before + n)) (mistake_at w.place (given_line rest)))
unfolding all_taken
taken_wrong before w after n rest h =
    taken_append before (w ∷ after) (at n (fed before ++ rest)) ∙
    (ap (λ z. step z (all_taken (w ∷ after))) (taken_is before n rest)
    ∙ ap (λ o. step (next_by w.place (at (length before + n) rest) o) (all_taken after)) h)

-- ---- what comes behind lines

module _ (ss : List Stage) (bytes : Text) where
  abbrev ls : List Line
  ls = lines_until ss

  nothing_there : (n k : ℕ) (c : Cursor) (r : Text) → nothing_in n c r ≡ Ok k → (r ≡ []) × (n ≡ k)
  nothing_there n k c [] h = (refl, ok_is n k h)
  nothing_there n k c (b ∷ r) h = err_isnt _ k h

  right_by : (e : Ending) (c : Cursor) (k : ℕ) → ending ss ≡ e → Went (begun bytes) (fed (wanted ss)) (length (wanted ss)) c →
      end_of e (length ls) c ≡ Ok k → Right ss bytes k
  unfolding end_of
  right_by all_right c k e p h =
      let q = nothing_there (length ls) k c c.rest h in
      record { ends = e; bytes_are = p.bytes ∙ (ap (λ z. fed (wanted ss) ++ z) q.0 ∙ append_none (fed (wanted ss))); count = sym q.1 }
  right_by (refused_by f) c k e p h = err_isnt _ k h
  right_by (failed (at_next q)) c k e p h = err_isnt _ k h
  right_by (failed at_last) c k e p h = err_isnt _ k h

  refused_isnt : (f : Fault) (n : ℕ) (m : Mistake) → refused f ≡ no n m → ⊥
  refused_isnt f n m h = cc

  fault_in : Fault → Stop → Fault
  fault_in d (refused f) = f
  fault_in d (no n m) = d

  line_in : Stop → ℕ
  line_in (refused f) = 0
  line_in (no n m) = n

  mistake_in : Mistake → Stop → Mistake
  mistake_in d (refused f) = d
  mistake_in d (no n m) = m

  number_of : (n k : ℕ) (m j : Mistake) → no n m ≡ no k j → (n ≡ k) × (m ≡ j)
  unfolding line_in mistake_in
  number_of n k m j h = (ap line_in h, ap (mistake_in m) h)

  nothing_refused : (n : ℕ) (c : Cursor) (r : Text) (f : Fault) → nothing_in n c r ≡ Err (refused f) → ⊥
  nothing_refused n c [] f h = ok_isnt n (refused f) h
  nothing_refused n c (b ∷ r) f h = refused_isnt f _ _ (sym (err_is _ (refused f) h))

  refused_at : (e : Ending) (c : Cursor) (f : Fault) → ending ss ≡ e → Went (begun bytes) (fed (wanted ss)) (length (wanted ss)) c →
      end_of e (length ls) c ≡ Err (refused f) → RefusedBy ss bytes f
  unfolding end_of fault_in
  refused_at all_right c f e p h = absurd (nothing_refused (length ls) c c.rest f h)
  refused_at (refused_by g) c f e p h =
      record {
        rest = c.rest;
        ends = e ∙ ap (λ (s : Stop). refused_by (fault_in g s)) (err_is (refused g) (refused f) h);
        bytes_are = p.bytes;
      }
  refused_at (failed (at_next q)) c f e p h = absurd (refused_isnt f _ _ (sym (err_is _ (refused f) h)))
  refused_at (failed at_last) c f e p h = absurd (refused_isnt f _ _ (sym (err_is _ (refused f) h)))

  nothing_no : (j n : ℕ) (c : Cursor) (m : Mistake) (r : Text) → c.rest ≡ r → nothing_in j c r ≡ Err (no n m) →
      (b : ℕ) × ((more : Text) × ((c.rest ≡ b ∷ more) × ((suc c.taken ≡ n) × (mistake_at [] (given_line c.rest) ≡ m))))
  nothing_no j n c m [] e h = ok_isnt j (no n m) h
  nothing_no j n c m (b ∷ r) e h = (b, (r, (e, number_of (suc c.taken) n (mistake_at [] (given_line c.rest)) m (err_is _ (no n m) h))))

  no_at : (e : Ending) (c : Cursor) (n : ℕ) (m : Mistake) → ending ss ≡ e → Went (begun bytes) (fed (wanted ss)) (length (wanted ss)) c →
      end_of e (length ls) c ≡ Err (no n m) → NoAt ss bytes n m
  unfolding end_of
  no_at all_right c n m e p h =
      let q = nothing_no (length ls) n c m c.rest refl h in
      let k : c.taken ≡ length (wanted ss) + 0 = p.count in
      let z : length (wanted ss) + 0 ≡ length (wanted ss) = omega arith in
      inr (inr (inr (record {
        first = q.0;
        rest = q.1.0;
        ends = e;
        bytes_are = p.bytes ∙ ap (λ z. fed (wanted ss) ++ z) q.1.1.0;
        number = sym q.1.1.1.0 ∙ ap suc (k ∙ z);
        mistake = sym q.1.1.1.1 ∙ ap (λ z. mistake_at [] (given_line z)) q.1.1.0;
      })))
  no_at (refused_by f) c n m e p h = absurd (refused_isnt f n m (err_is _ (no n m) h))
  no_at (failed (at_next q)) c n m e p h =
      let k : c.taken ≡ length (wanted ss) + 0 = p.count in
      let z : length (wanted ss) + 0 ≡ length (wanted ss) = omega arith in
      let w = number_of (suc c.taken) n _ m (err_is _ (no n m) h) in
      inr (inl (record { place = q; rest = c.rest; ends = e; bytes_are = p.bytes; number = sym w.0 ∙ ap suc (k ∙ z); mistake = sym w.1 }))
  no_at (failed at_last) c n m e p h =
      let k : c.taken ≡ length (wanted ss) + 0 = p.count in
      let z : length (wanted ss) + 0 ≡ length (wanted ss) = omega arith in
      let w = number_of c.taken n V03 m (err_is _ (no n m) h) in
      inr (inr (inl (record { rest = c.rest; ends = e; bytes_are = p.bytes; number = sym w.0 ∙ (k ∙ z); mistake = sym w.1 })))

  -- ---- each verdict

  yes_ok : (k : ℕ) → verified_by ss bytes ≡ Ok k → Right ss bytes k
  yes_ok k h =
      let s = step_ok (all_taken (wanted ss) (begun bytes)) (end_of (ending ss) (length ls)) k (sym (flat ss bytes) ∙ h) in
      right_by (ending ss) s.value k refl (taken_ok (wanted ss) (begun bytes) s.value s.first) s.second

  none_refused : (f : Fault) → Wrong (wanted ss) (begun bytes) (refused f) → ⊥
  none_refused f w = refused_isnt f _ _ w.is

  refused_ok : (f : Fault) → verified_by ss bytes ≡ Err (refused f) → RefusedBy ss bytes f
  refused_ok f h = by (step_err (all_taken (wanted ss) (begun bytes)) (end_of (ending ss) (length ls)) (refused f)
      (sym (flat ss bytes) ∙ h))
    where
      by : ((all_taken (wanted ss) (begun bytes) ≡ Err (refused f)) ⊎
          ((x : Cursor) × ((all_taken (wanted ss) (begun bytes) ≡ Ok x) × (end_of (ending ss) (length ls) x ≡ Err (refused f))))) →
          RefusedBy ss bytes f
      by (inl e) = absurd (none_refused f (taken_err (wanted ss) (begun bytes) (refused f) e))
      by (inr (x, (e, k))) = refused_at (ending ss) x f refl (taken_ok (wanted ss) (begun bytes) x e) k

  no_ok : (n : ℕ) (m : Mistake) → verified_by ss bytes ≡ Err (no n m) → NoAt ss bytes n m
  no_ok n m h = by (step_err (all_taken (wanted ss) (begun bytes)) (end_of (ending ss) (length ls)) (no n m) (sym (flat ss bytes) ∙ h))
    where
      by : ((all_taken (wanted ss) (begun bytes) ≡ Err (no n m)) ⊎
          ((x : Cursor) × ((all_taken (wanted ss) (begun bytes) ≡ Ok x) × (end_of (ending ss) (length ls) x ≡ Err (no n m))))) →
          NoAt ss bytes n m
      by (inl e) =
          let w = taken_err (wanted ss) (begun bytes) (no n m) e in
          let q = number_of n (suc (length w.before + 0)) m (mistake_at w.line.place (given_line w.rest)) w.is in
          let z : length w.before + 0 ≡ length w.before = omega arith in
          inl (record {
            before = w.before;
            line = w.line;
            after = w.after;
            rest = w.rest;
            wants = w.wants;
            bytes_are = w.bytes_are;
            other = λ more k. none_isnt_some more (sym w.other
                ∙ (ap (behind_text (with_feed w.line.text)) k ∙ behind_is (with_feed w.line.text) more));
            number = q.0 ∙ ap suc z;
            mistake = q.1;
          })
      by (inr (x, (e, k))) = no_at (ending ss) x n m refl (taken_ok (wanted ss) (begun bytes) x e) k

  -- all lines are right
  behind_all : (rest : Text) → bytes ≡ fed (wanted ss) ++ rest →
      verified_by ss bytes ≡ end_of (ending ss) (length ls) (at (length (wanted ss)) rest)
  behind_all rest h =
      let z : length (wanted ss) + 0 ≡ length (wanted ss) = omega arith in
      flat ss bytes ∙ ap (λ r. step r (end_of (ending ss) (length ls)))
      (ap (λ b. all_taken (wanted ss) (begun b)) h ∙ (taken_is (wanted ss) 0 rest ∙ ap (λ n. Ok (at n rest)) z))

  yes_is : (k : ℕ) → Right ss bytes k → verified_by ss bytes ≡ Ok k
  unfolding end_of
  yes_is k r =
      behind_all [] (r.bytes_are ∙ sym (append_none (fed (wanted ss))))
      ∙ (ap (λ e. end_of e (length ls) (at (length (wanted ss)) [])) r.ends ∙ ap Ok (sym r.count))

  refused_is : (f : Fault) → RefusedBy ss bytes f → verified_by ss bytes ≡ Err (refused f)
  unfolding end_of
  refused_is f r = behind_all r.rest r.bytes_are ∙ ap (λ e. end_of e (length ls) (at (length (wanted ss)) r.rest)) r.ends

  no_is : (n : ℕ) (m : Mistake) → NoAt ss bytes n m → verified_by ss bytes ≡ Err (no n m)
  unfolding end_of
  no_is n m (inl o) =
      let z : length o.before + 0 ≡ length o.before = omega arith in
      flat ss bytes ∙ (ap (λ r. step r (end_of (ending ss) (length ls)))
      (ap (λ b. all_taken (wanted ss) (begun b)) o.bytes_are ∙ (ap (λ ws. all_taken ws (begun (fed o.before ++ o.rest))) o.wants ∙
      taken_wrong o.before o.line o.after 0 o.rest
      (none_behind (with_feed o.line.text) o.rest (behind_text (with_feed o.line.text) o.rest) refl o.other))) ∙
      (ap (λ j. Err (no (suc j) (mistake_at o.line.place (given_line o.rest)))) z
      ∙ (ap (λ j. Err (no j (mistake_at o.line.place (given_line o.rest)))) (sym o.number) ∙ ap (λ j. Err (no n j)) (sym o.mistake))))
  no_is n m (inr (inl c)) =
      behind_all c.rest c.bytes_are ∙ (ap (λ e. end_of e (length ls) (at (length (wanted ss)) c.rest)) c.ends
      ∙ (ap (λ j. Err (no j (mistake_at (place_text c.place) (given_line c.rest)))) (sym c.number)
      ∙ ap (λ j. Err (no n j)) (sym c.mistake)))
  no_is n m (inr (inr (inl l))) =
      behind_all l.rest l.bytes_are ∙ (ap (λ e. end_of e (length ls) (at (length (wanted ss)) l.rest)) l.ends
      ∙ (ap (λ j. Err (no j V03)) (sym l.number) ∙ ap (λ j. Err (no n j)) (sym l.mistake)))
  no_is n m (inr (inr (inr b))) =
      behind_all (b.first ∷ b.rest) b.bytes_are
      ∙ (ap (λ e. end_of e (length ls) (at (length (wanted ss)) (b.first ∷ b.rest))) b.ends
      ∙ (ap (λ j. Err (no j (mistake_at [] (given_line (b.first ∷ b.rest))))) (sym b.number) ∙ ap (λ j. Err (no n j)) (sym b.mistake)))

pub verdicts : (ss : List Stage) (bytes : Text) → VerdictsLaw ss bytes
verdicts ss bytes = record {
  yes = λ k. (yes_ok ss bytes k, yes_is ss bytes k);
  refuses = λ f. (refused_ok ss bytes f, refused_is ss bytes f);
  says_no = λ n m. (no_ok ss bytes n m, no_is ss bytes n m);
}
