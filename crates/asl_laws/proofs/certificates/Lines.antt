-- Lines against bytes: stages go well against bytes exactly where these begin with the lines of the stages.
use Rattle.std.proofs.Common.{◌≡◌, ℕ, suc, ◌+◌, ◌==◌, Bool, true, false, List, [], ◌∷◌, ◌++◌, length, Option, Some, None, Result, Ok, Err}
use Rattle.std.proofs.Common.{refl, sym, ap, ◌∙◌, subst, append_assoc, arith}
use Rattle.std.specs.Prelude.{if◌then◌else◌, codes}
use Rattle.std.proofs.lemmas.Bool.Decides.{nat_tests}
use Rattle.asl_syn.specs.declared.code.Fault.{Fault}
use Rattle.asl_rules.specs.report.Texts.{Text}
use Rattle.asl_laws.specs.certificates.Texts.{Line, place_text, line_text, first_line, last_line}
use Rattle.asl_laws.specs.certificates.Lines.{Lined, Failure, at_next, at_last}
use Rattle.asl_laws.specs.certificates.Certificates.{with_feed, all_lines, certificate_of, Stage, asks, says, lines_in, Cursor, Stop}
use Rattle.asl_laws.specs.certificates.Certificates.{refused, behind_text, next, next_by, step, all_next, behind_lines, against}
use Rattle.asl_laws.specs.certificates.Certificates.{unless_refused, stages_against, lines_between, nothing_in, nothing_behind, ended_by}
use Rattle.asl_laws.specs.certificates.Certificates.{begun, verified_by, AllGo, StagesLaw}

-- ---- answers

HasOk : {A E : Type 0} → Result A E → Type 0
HasOk (Ok x) = Unit {0}
HasOk (Err e) = ⊥

pub err_isnt : {A B E : Type 0} (e : E) (y : B) → (let r : Result B E = Err e in r) ≡ Ok y → A
unfolding HasOk
err_isnt e y h = absurd (subst HasOk (sym h) tt)

ok_or : {A E : Type 0} → A → Result A E → A
ok_or d (Ok x) = x
ok_or d (Err e) = d

pub ok_is : {A E : Type 0} (x y : A) → (let r : Result A E = Ok x in r) ≡ Ok y → x ≡ y
unfolding ok_or
ok_is x y h = ap (ok_or x) h

pub record Stepped {A B : Type 0} (r : Result A Stop) (go : A → Result B Stop) (y : B) : Type 0 where
  pub value : A
  pub first : r ≡ Ok value
  pub second : go value ≡ Ok y

pub step_ok : {A B : Type 0} (r : Result A Stop) (go : A → Result B Stop) (y : B) → step r go ≡ Ok y → Stepped r go y
step_ok (Ok x) go y h = record { value = x; first = refl; second = h }
step_ok (Err s) go y h = err_isnt s y h

pub step_is : {A B : Type 0} (r : Result A Stop) (go : A → Result B Stop) (x : A) (y : B) → r ≡ Ok x → go x ≡ Ok y → step r go ≡ Ok y
step_is r go x y h k = ap (λ z. step z go) h ∙ k

-- ---- texts that begin with a text

some_or : {A : Type 0} → A → Option A → A
some_or d None = d
some_or d (Some x) = x

some_is : {A : Type 0} (x y : A) → Some x ≡ Some y → x ≡ y
unfolding some_or
some_is x y h = ap (some_or x) h

HasSome : {A : Type 0} → Option A → Type 0
HasSome None = ⊥
HasSome (Some x) = Unit {0}

none_isnt : {A B : Type 0} (x : A) → None ≡ Some x → B
unfolding HasSome
none_isnt x h = absurd (subst HasSome (sym h) tt)

pub same_nat : (m n : ℕ) → (m == n) ≡ true → m ≡ n
same_nat m n h = grind (arith, nat_tests)

pub nat_same : (n : ℕ) → (n == n) ≡ true
nat_same n = grind (arith, nat_tests)

pub behind_ok : (t u r : Text) → behind_text t u ≡ Some r → u ≡ t ++ r
behind_ok [] u r h = some_is u r h
behind_ok (a ∷ t) [] r h = none_isnt r h
behind_ok (a ∷ t) (b ∷ u) r h = by (a == b) refl (behind_ok t u r) h
  where
    by : (x : Bool) → (a == b) ≡ x → (behind_text t u ≡ Some r → u ≡ t ++ r) → (if x then behind_text t u else None) ≡ Some r →
        b ∷ u ≡ a ∷ (t ++ r)
    by true e f k = ap (λ z. z ∷ u) (sym (same_nat a b e)) ∙ ap (λ z. a ∷ z) (f k)
    by false e f k = none_isnt r k

pub behind_is : (t r : Text) → behind_text t (t ++ r) ≡ Some r
behind_is [] r = refl
behind_is (a ∷ t) r = ap (λ x. if x then behind_text t (t ++ r) else None) (nat_same a) ∙ behind_is t r

-- ---- one line

pub record Went (c : Cursor) (text : Text) (n : ℕ) (d : Cursor) : Type 0 where
  pub bytes : c.rest ≡ text ++ d.rest
  pub count : d.taken ≡ n + c.taken

next_by_ok : (place : Text) (c d : Cursor) (o : Option Text) → next_by place c o ≡ Ok d → (o ≡ Some d.rest) × (d.taken ≡ suc c.taken)
next_by_ok place c d None h = err_isnt _ d h
next_by_ok place c d (Some r) h = let e = ok_is (record { taken = suc c.taken; rest = r }) d h in
    (ap (λ (x : Cursor). Some x.rest) e, sym (ap (λ (x : Cursor). x.taken) e))

pub next_ok : (place text : Text) (c d : Cursor) → next place text c ≡ Ok d → Went c (with_feed text) 1 d
next_ok place text c d h =
    let p = next_by_ok place c d (behind_text (with_feed text) c.rest) h in
    record { bytes = behind_ok (with_feed text) c.rest d.rest p.0; count = p.1 ∙ omega arith }

abbrev pub at : ℕ → Text → Cursor
at n r = record { taken = n; rest = r }

pub next_is : (place text r : Text) (n : ℕ) → next place text (at n (with_feed text ++ r)) ≡ Ok (at (suc n) r)
next_is place text r n = ap (λ o. next_by place (at n (with_feed text ++ r)) o) (behind_is (with_feed text) r)

-- ---- lines

pub all_next_ok : (ls : List Line) (c d : Cursor) → all_next ls c ≡ Ok d → Went c (all_lines ls) (length ls) d
all_next_ok [] c d h = let e = ok_is c d h in
    record { bytes = ap (λ (x : Cursor). x.rest) e; count = sym (ap (λ (x : Cursor). x.taken) e) ∙ omega arith }
all_next_ok (l ∷ ls) c d h =
    let s = step_ok (next (place_text l.place) (line_text l) c) (λ d. all_next ls d) d h in
    let p = next_ok (place_text l.place) (line_text l) c s.value s.first in
    let q = all_next_ok ls s.value d s.second in
    let n : s.value.taken ≡ 1 + c.taken = p.count in
    let m : d.taken ≡ length ls + s.value.taken = q.count in
    record {
      bytes = p.bytes ∙ (ap (λ z. with_feed (line_text l) ++ z) q.bytes
          ∙ sym (append_assoc (with_feed (line_text l)) (all_lines ls) d.rest));
      count = m ∙ (ap (λ z. length ls + z) n ∙ omega arith);
    }

pub all_next_is : (ls : List Line) (n : ℕ) (r : Text) → all_next ls (at n (all_lines ls ++ r)) ≡ Ok (at (length ls + n) r)
all_next_is [] n r = let e : n ≡ 0 + n = omega arith in ap (λ k. Ok (at k r)) e
all_next_is (l ∷ ls) n r =
    let e : length ls + suc n ≡ suc (length ls) + n = omega arith in
    step_is (next (place_text l.place) (line_text l) (at n ((with_feed (line_text l) ++ all_lines ls) ++ r))) (λ d. all_next ls d)
    (at (suc n) (all_lines ls ++ r)) (at (suc (length ls) + n) r)
    (ap (λ z. next (place_text l.place) (line_text l) (at n z)) (append_assoc (with_feed (line_text l)) (all_lines ls) r)
    ∙ next_is (place_text l.place) (line_text l) (all_lines ls ++ r) n)
    (all_next_is ls (suc n) r ∙ ap (λ k. Ok (at k r)) e)

-- ---- stages

behind_lines_ok : {A : Type 0} (o : Result A Failure) (c d : Cursor) → behind_lines o c ≡ Ok d → ((x : A) × (o ≡ Ok x)) × (c ≡ d)
behind_lines_ok (Ok x) c d h = ((x, refl), ok_is c d h)
behind_lines_ok (Err (at_next p)) c d h = err_isnt _ d h
behind_lines_ok (Err at_last) c d h = err_isnt _ d h

pub against_ok : (l : Lined (Unit {0})) (c d : Cursor) → against l c ≡ Ok d →
    (l.outcome ≡ Ok tt) × Went c (all_lines l.lines) (length l.lines) d
against_ok l c d h =
    let s = step_ok (all_next l.lines c) (behind_lines l.outcome) d h in
    let b = behind_lines_ok l.outcome s.value d s.second in
    (b.0.1, subst (Went c (all_lines l.lines) (length l.lines)) b.1 (all_next_ok l.lines c s.value s.first))

pub against_is : (l : Lined (Unit {0})) (n : ℕ) (r : Text) → l.outcome ≡ Ok tt →
    against l (at n (all_lines l.lines ++ r)) ≡ Ok (at (length l.lines + n) r)
against_is l n r h =
    step_is (all_next l.lines (at n (all_lines l.lines ++ r))) (behind_lines l.outcome) (at (length l.lines + n) r)
    (at (length l.lines + n) r) (all_next_is l.lines n r)
    (ap (λ o. behind_lines o (at (length l.lines + n) r)) h)

pub all_lines_append : (ls ms : List Line) → all_lines (ls ++ ms) ≡ all_lines ls ++ all_lines ms
all_lines_append [] ms = refl
all_lines_append (l ∷ ls) ms = ap (λ z. with_feed (line_text l) ++ z) (all_lines_append ls ms)
    ∙ sym (append_assoc (with_feed (line_text l)) (all_lines ls) (all_lines ms))

length_append : {A : Type 0} (xs ys : List A) → length (xs ++ ys) ≡ length xs + length ys
length_append [] ys = omega arith
length_append (x ∷ xs) ys = let e : length (xs ++ ys) ≡ length xs + length ys = length_append xs ys in omega arith

unless_ok : (r : Result (Unit {0}) Fault) (c d : Cursor) → unless_refused r c ≡ Ok d → (r ≡ Ok tt) × (c ≡ d)
unless_ok (Ok x) c d h = (refl, ok_is c d h)
unless_ok (Err f) c d h = err_isnt (refused f) d h

pub record StagesWent (ss : List Stage) (c d : Cursor) : Type 0 where
  pub all : AllGo ss
  pub went : Went c (all_lines (lines_in ss)) (length (lines_in ss)) d

pub stages_ok : (ss : List Stage) (c d : Cursor) → stages_against ss c ≡ Ok d → StagesWent ss c d
stages_ok [] c d h = let e = ok_is c d h in
    record { all = tt; went = record { bytes = ap (λ (x : Cursor). x.rest) e; count = sym (ap (λ (x : Cursor). x.taken) e) ∙ omega arith } }
stages_ok (asks r ∷ ss) c d h =
    let s = step_ok (unless_refused r c) (stages_against ss) d h in
    let u = unless_ok r c s.value s.first in
    let p = stages_ok ss s.value d s.second in
    record { all = (u.0, p.all); went = subst (λ x. Went x (all_lines (lines_in ss)) (length (lines_in ss)) d) (sym u.1) p.went }
stages_ok (says l ∷ ss) c d h =
    let s = step_ok (against l c) (stages_against ss) d h in
    let u = against_ok l c s.value s.first in
    let p = stages_ok ss s.value d s.second in
    let n : s.value.taken ≡ length l.lines + c.taken = u.1.count in
    let m : d.taken ≡ length (lines_in ss) + s.value.taken = p.went.count in
    let k : length (l.lines ++ lines_in ss) ≡ length l.lines + length (lines_in ss) = length_append l.lines (lines_in ss) in
    record {
      all = (u.0, p.all);
      went = record {
        bytes = u.1.bytes ∙ (ap (λ z. all_lines l.lines ++ z) p.went.bytes
            ∙ (sym (append_assoc (all_lines l.lines) (all_lines (lines_in ss)) d.rest)
            ∙ ap (λ z. z ++ d.rest) (sym (all_lines_append l.lines (lines_in ss)))));
        count = m ∙ (ap (λ z. length (lines_in ss) + z) n ∙ (omega arith ∙ ap (λ z. z + c.taken) (sym k)));
      };
    }

pub stages_go : (ss : List Stage) (n : ℕ) (r : Text) → AllGo ss →
    stages_against ss (at n (all_lines (lines_in ss) ++ r)) ≡ Ok (at (length (lines_in ss) + n) r)
stages_go [] n r g = let e : n ≡ 0 + n = omega arith in ap (λ k. Ok (at k r)) e
stages_go (asks q ∷ ss) n r g = ap (λ z. step (unless_refused z (at n (all_lines (lines_in ss) ++ r))) (stages_against ss)) g.0
    ∙ stages_go ss n r g.1
stages_go (says l ∷ ss) n r g =
    let k : length (l.lines ++ lines_in ss) ≡ length l.lines + length (lines_in ss) = length_append l.lines (lines_in ss) in
    let e : length (lines_in ss) + (length l.lines + n) ≡ length (l.lines ++ lines_in ss) + n = omega arith in
    step_is (against l (at n (all_lines (l.lines ++ lines_in ss) ++ r))) (stages_against ss)
    (at (length l.lines + n) (all_lines (lines_in ss) ++ r)) (at (length (l.lines ++ lines_in ss) + n) r)
    (ap (λ z. against l (at n z)) (ap (λ z. z ++ r) (all_lines_append l.lines (lines_in ss))
    ∙ append_assoc (all_lines l.lines) (all_lines (lines_in ss)) r) ∙ against_is l n (all_lines (lines_in ss) ++ r) g.0)
    (stages_go ss (length l.lines + n) r g.1 ∙ ap (λ m. Ok (at m r)) e)

-- ---- the whole

nothing_ok : (k n : ℕ) (c : Cursor) (t : Text) → nothing_in k c t ≡ Ok n → (t ≡ []) × (k ≡ n)
nothing_ok k n c [] h = (refl, ok_is k n h)
nothing_ok k n c (b ∷ bs) h = err_isnt _ n h

append_nil : (t : Text) → t ++ [] ≡ t
append_nil [] = refl
append_nil (b ∷ t) = ap (λ z. b ∷ z) (append_nil t)

pub verified_ok : (ss : List Stage) (bytes : Text) (k : ℕ) → verified_by ss bytes ≡ Ok k →
    AllGo ss × ((bytes ≡ certificate_of (lines_in ss)) × (k ≡ length (lines_in ss)))
verified_ok ss bytes k h =
    let a = step_ok (next first_line first_line (begun bytes)) (λ c. step (stages_against ss c) ended_by) k h in
    let p = next_ok first_line first_line (begun bytes) a.value a.first in
    let b = step_ok (stages_against ss a.value) ended_by k a.second in
    let q = stages_ok ss a.value b.value b.first in
    let c = step_ok (next (codes "end") (last_line (lines_between b.value.taken)) b.value) (nothing_behind (lines_between b.value.taken)) k
    b.second in
    let l = next_ok (codes "end") (last_line (lines_between b.value.taken)) b.value c.value c.first in
    let z = nothing_ok (lines_between b.value.taken) k c.value c.value.rest c.second in
    let n1 : a.value.taken ≡ 1 + 0 = p.count in
    let n2 : b.value.taken ≡ length (lines_in ss) + a.value.taken = q.went.count in
    let m : b.value.taken ≡ suc (length (lines_in ss)) = n2 ∙ (ap (λ x. length (lines_in ss) + x) n1 ∙ omega arith) in
    let w : lines_between b.value.taken ≡ length (lines_in ss) = ap lines_between m in
    let r : c.value.rest ≡ [] = z.0 in (
      q.all,
      (
        p.bytes ∙ ap (λ x. with_feed first_line ++ x)
            (q.went.bytes ∙ ap (λ x. all_lines (lines_in ss) ++ x)
            (l.bytes ∙ (ap (λ x. with_feed (last_line (lines_between b.value.taken)) ++ x) r
            ∙ (append_nil _ ∙ ap (λ x. with_feed (last_line x)) w)))),
        sym z.1 ∙ w,
      ),
    )

pub verified_is : (ss : List Stage) (bytes : Text) → AllGo ss → bytes ≡ certificate_of (lines_in ss) →
    verified_by ss bytes ≡ Ok (length (lines_in ss))
verified_is ss bytes g h =
    let n = length (lines_in ss) in
    let one : n + 1 ≡ suc n = omega arith in
    let last : ended_by (at (suc n) (with_feed (last_line n))) ≡ Ok n =
    step_is (next (codes "end") (last_line n) (at (suc n) (with_feed (last_line n)))) (nothing_behind n) (at (suc (suc n)) []) n
    (ap (λ z. next (codes "end") (last_line n) (at (suc n) z)) (sym (append_nil (with_feed (last_line n))))
    ∙ next_is (codes "end") (last_line n) [] (suc n)) refl in
    ap (verified_by ss) h ∙
    step_is (next first_line first_line (begun (certificate_of (lines_in ss)))) (λ c. step (stages_against ss c) ended_by)
    (at 1 (all_lines (lines_in ss) ++ with_feed (last_line n))) n
    (next_is first_line first_line (all_lines (lines_in ss) ++ with_feed (last_line n)) 0)
    (step_is (stages_against ss (at 1 (all_lines (lines_in ss) ++ with_feed (last_line n)))) ended_by
    (at (suc n) (with_feed (last_line n))) n
    (stages_go ss 1 (with_feed (last_line n)) g ∙ ap (λ m. Ok (at m (with_feed (last_line n)))) one) last)

pub stages_law : (ss : List Stage) (bytes : Text) (k : ℕ) → StagesLaw ss bytes k
stages_law ss bytes k = record { sound = verified_ok ss bytes k; complete = verified_is ss bytes }
