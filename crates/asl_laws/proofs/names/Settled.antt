-- The end of all turns: no turn changes what was judged, what comes of each agrees with what comes of all, and nothing else agrees so with
-- itself, where no declaration reaches itself.
use Rattle.std.proofs.Common.{◌≡◌, ℕ, zero, suc, ◌+◌, ◌≤◌, ◌⊎◌, inl, inr, Bool, true, false, cond, not, ◌&&◌, ◌||◌, List, [], ◌∷◌, length}
use Rattle.std.proofs.Common.{Option, Some, None, Ok, refl, sym, ap, ◌∙◌, subst, arith}
use Rattle.asl_syn.specs.declared.tree.Decl.{Decl}
use Rattle.asl_rules.specs.Tests.{Tests}
use Rattle.asl_rules.specs.declarations.Uses.{uses_one_of, cycles_rule}
use Rattle.asl_rules.specs.declarations.Turns.{Judged, Waiting, Fine, Faulty, is_waiting, is_fine, SoFar, names_so_far, takes_turn}
use Rattle.asl_rules.specs.declarations.Turns.{all_fine, next_turn, decl_judged, judged_at, one_turn, turns, all_waiting, final}
use Rattle.asl_rules.specs.declarations.Turns.{faults_rule}
use Rattle.asl_rules.specs.private.Judgements.{EachJudged, CameOf}
use Rattle.asl_rules.specs.declarations.Scopes.{Entry}
use Rattle.asl_rules.proofs.basics.Inversions.{err_ok}
use Rattle.asl_rules.proofs.basics.Tests.{no, both, and_true}
use Rattle.asl_rules.proofs.verdict.Distinct.{In}
use Rattle.asl_laws.proofs.names.Stuck.{UsesOne, none_stuck}
use Rattle.asl_rules.proofs.verdict.Turning.{each_map, came_in, waits, JudgesOne, OneTurn, ready_turn, Stays, Later, later_self}
use Rattle.asl_rules.proofs.verdict.Turning.{later_then, turn_later, all_fine_later, turns_keep}
use Rattle.asl_rules.proofs.verdict.AfterTurns.{after}
use Rattle.asl_laws.specs.Settled.{StaysJudged, outcome, Settled, AllWell}
use Rattle.asl_laws.proofs.names.JudgedLater.{Made, AllMade, waiting_made, decl_made, judged_later}
use Rattle.asl_laws.proofs.names.Turned.{Still, made_then, turns_still, all_still, no_turn_left, end_unready, cycles_ok, faults_ok}
use Rattle.asl_laws.proofs.names.Turned.{turns_made, none_late}

-- ---- turns and more turns

pub turns_end : (t : Tests) (ds : List Decl) (n : ℕ) (js : SoFar) → next_turn ds js ≡ None → turns t n ds js ≡ js
turns_end t ds zero js h = refl
turns_end t ds (suc n) js h = ap (one_turn t ds js (turns t n ds)) h

pub turns_then : (t : Tests) (ds : List Decl) (n m k : ℕ) (js : SoFar) → n + m ≡ k → turns t k ds js ≡ turns t m ds (turns t n ds js)
turns_then t ds zero m k js q = let e : k ≡ m = omega (arith, q) in ap (λ l. turns t l ds js) e
turns_then t ds (suc n) m zero js q = absurd (omega (arith, q))
turns_then t ds (suc n) m (suc k) js q = by (next_turn ds js) refl (λ ks. turns_then t ds n m k ks (omega (arith, q)))
  where
    by : (o : Option ℕ) → next_turn ds js ≡ o → ((ks : SoFar) → turns t k ds ks ≡ turns t m ds (turns t n ds ks)) →
        one_turn t ds js (turns t k ds) o ≡ turns t m ds (one_turn t ds js (turns t n ds) o)
    by None h next = sym (turns_end t ds m js h)
    by (Some l) h next = next (judged_at t l ds js (names_so_far ds js))

pub turns_later : (t : Tests) (ds : List Decl) (n : ℕ) (js : SoFar) → Later js (turns t n ds js)
turns_later t ds n js =
    turns_keep t ds (Later js) (λ ks ls o h. later_then js ks ls h (turn_later t ds ks ds ks ls o)) n js (later_self js)

-- so many more
record More (n m : ℕ) : Type 0 where
  pub rest : ℕ
  pub is : n + rest ≡ m

more : (n m : ℕ) → n ≤ m → More n m
more zero m h = record { rest = m; is = omega arith }
more (suc n) zero h = absurd (omega (arith, h))
more (suc n) (suc m) h =
    let r = more n m (omega (arith, h)) in
    let q : n + r.rest ≡ m = r.is in
    record { rest = r.rest; is = omega (arith, q) }

pub all_turns : (t : Tests) (ds : List Decl) (n : ℕ) → length ds ≤ n → after t ds n ≡ final t ds
all_turns t ds n h =
    let r = more (length ds) n h in
    turns_then t ds (length ds) r.rest n (all_waiting ds) r.is ∙ turns_end t ds r.rest (final t ds) (no_turn_left t ds)

-- ---- what was judged

stays_in : (t : Tests) (all : List Decl) (now : SoFar) (ds : List Decl) (js ks : SoFar) → Later js ks →
    EachJudged (Still t all now) ds ks → StaysJudged t (names_so_far all now) ds js ks
stays_in t all now [] [] [] l a = tt
stays_in t all now [] [] (k ∷ ks) l a = absurd a
stays_in t all now [] (j ∷ js) [] l a = absurd l
stays_in t all now [] (j ∷ js) (k ∷ ks) l a = absurd a
stays_in t all now (d ∷ ds) [] [] l a = absurd a
stays_in t all now (d ∷ ds) [] (k ∷ ks) l a = absurd l
stays_in t all now (d ∷ ds) (j ∷ js) [] l a = absurd a
stays_in t all now (d ∷ ds) (j ∷ js) (k ∷ ks) l a = (by l.0 a.0, stays_in t all now ds js ks l.1 a.1)
  where
    by : Stays j k → Still t all now d k → (j ≡ Waiting) ⊎ ((j ≡ k) × (decl_judged t d (names_so_far all now) ≡ j))
    by (inl q) s = inl q
    by (inr q) (inl s) = inl (q ∙ s)
    by (inr q) (inr r) = inr (q, r.gives ∙ sym q)

-- it is judged so at every later turn
pub stays_judged : (t : Tests) (ds : List Decl) (n m : ℕ) → n ≤ m →
    StaysJudged t (names_so_far ds (after t ds m)) ds (after t ds n) (after t ds m)
stays_judged t ds n m h =
    let r = more n m h in
    let q : turns t r.rest ds (after t ds n) ≡ after t ds m = sym (turns_then t ds n r.rest m (all_waiting ds) r.is) in
    stays_in t ds (after t ds m) ds (after t ds n) (after t ds m) (subst (Later (after t ds n)) q (turns_later t ds r.rest (after t ds n)))
    (turns_still t ds m)

-- ---- the end

pub settled : (t : Tests) (ds : List Decl) → Settled t ds (final t ds)
settled t ds = each_map (Still t ds last) (λ d j. j ≡ outcome t ds last d) ds last by (all_still t ds)
  where
    last : SoFar
    last = final t ds

    by : (d : Decl) (j : Judged) → CameOf d j ds last → Still t ds last d j → j ≡ outcome t ds last d
    by d j c (inl q) = q ∙ ap (λ b. cond b (decl_judged t d (names_so_far ds last)) Waiting) (sym (late (takes_turn d) refl))
      where
        late : (b : Bool) → takes_turn d ≡ b → (b && all_fine d ds last) ≡ false
        late true h = end_unready t ds d h (subst (λ z. CameOf d z ds last) q c)
        late false h = refl
    by d j c (inr r) =
        sym r.gives ∙ ap (λ b. cond b (decl_judged t d (names_so_far ds last)) Waiting)
        (sym (and_true (takes_turn d) (all_fine d ds last) r.takes r.ready))

pub all_well : (t : Tests) (ds : List Decl) → cycles_rule ds ds ≡ Ok tt → faults_rule (final t ds) ≡ Ok tt → AllWell ds (final t ds)
all_well t ds c f = each_map (Still t ds last) (λ d j. takes_turn d ≡ true → is_fine j ≡ true) ds last by (all_still t ds)
  where
    last : SoFar
    last = final t ds

    by : (d : Decl) (j : Judged) → CameOf d j ds last → Still t ds last d j → takes_turn d ≡ true → is_fine j ≡ true
    by d Waiting i s h = absurd (none_late t ds c f d h i)
    by d (Fine es) i s h = refl
    by d (Faulty e) i s h = err_ok e tt (faults_ok ds last d (Faulty e) f i)

-- ---- whatever agrees with itself

module _ (t : Tests) (ds : List Decl) (js : SoFar) (fixed : Settled t ds js) where
  abbrev names : List Entry
  names = names_so_far ds js

  outcome_made : (d : Decl) → Made d (outcome t ds js d)
  outcome_made d = by (takes_turn d && all_fine d ds js)
    where
      by : (b : Bool) → Made d (cond b (decl_judged t d names) Waiting)
      by true = decl_made t d names
      by false = waiting_made d

  made : AllMade ds js
  made = each_map (λ d j. j ≡ outcome t ds js d) Made ds js (λ d j i q. subst (Made d) (sym q) (outcome_made d)) fixed

  -- what a turn judges is so here
  turn_agrees : (so_far : SoFar) → AllMade ds so_far → Later so_far js → (es : List Decl) (ks ls hs : SoFar) →
      JudgesOne t ds so_far es ks ls →
      Later ks hs → EachJudged (λ d j. j ≡ outcome t ds js d) es hs → Later ls hs
  turn_agrees so_far m l [] ks ls hs o k a = absurd o
  turn_agrees so_far m l (e ∷ es) [] ls hs o k a = absurd o
  turn_agrees so_far m l (e ∷ es) (x ∷ ks) [] hs o k a = absurd o
  turn_agrees so_far m l (e ∷ es) (x ∷ ks) (y ∷ ls) [] o k a = absurd a
  turn_agrees so_far m l (e ∷ es) (x ∷ ks) (y ∷ ls) (z ∷ hs) (inl o) k a =
      let r = (ready_turn ds so_far e x o.0).1 in
      let b = and_true (takes_turn e) (all_fine e ds js) r.takes (all_fine_later e ds so_far js l r.ready) in
      let here : z ≡ decl_judged t e names = a.0 ∙ ap (λ c. cond c (decl_judged t e names) Waiting) b in
      (inr (sym o.1 ∙ judged_later t e ds so_far js m made l r.ready ∙ sym here), subst (λ w. Later w hs) o.2 k.1)
  turn_agrees so_far m l (e ∷ es) (x ∷ ks) (y ∷ ls) (z ∷ hs) (inr o) k a =
      (subst (λ w. Stays w z) o.0 k.0, turn_agrees so_far m l es ks ls hs o.1 k.1 a.1)

  none_yet : (es : List Decl) (hs : SoFar) → EachJudged (λ d j. j ≡ outcome t ds js d) es hs → Later (all_waiting es) hs
  none_yet [] [] a = tt
  none_yet [] (z ∷ hs) a = absurd a
  none_yet (e ∷ es) [] a = absurd a
  none_yet (e ∷ es) (z ∷ hs) a = (inl refl, none_yet es hs a.1)

  -- what any turn judged
  abbrev Agrees : SoFar → Type 0
  Agrees ks = AllMade ds ks × Later ks js

  agrees : Agrees (final t ds)
  agrees = turns_keep t ds Agrees step (length ds) (all_waiting ds) (turns_made t ds 0, none_yet ds js fixed)
    where
      step : (ks ls : SoFar) → OneTurn t ds ks ls → Agrees ks → Agrees ls
      step ks ls o a = (made_then t ds ks ls o a.0, turn_agrees ks a.0 a.1 ds ks ls js o a.1 fixed)

  -- ---- those that wait at the end, and are judged here

  others : List Decl → SoFar → SoFar → List Decl
  others [] ks hs = []
  others (e ∷ es) [] hs = []
  others (e ∷ es) (k ∷ ks) [] = []
  others (e ∷ es) (k ∷ ks) (h ∷ hs) = cond (is_waiting k && not (is_waiting h)) (e ∷ others es ks hs) (others es ks hs)

  record Other (d : Decl) (es : List Decl) (ks : SoFar) : Type 0 where
    pub waiting : CameOf d Waiting es ks
    pub judged : is_waiting (outcome t ds js d) ≡ false

  not_true : (b : Bool) → not b ≡ true → b ≡ false
  not_true true h = no h
  not_true false h = refl

  of_others : (d : Decl) (es : List Decl) (ks hs : SoFar) → EachJudged (λ d j. j ≡ outcome t ds js d) es hs → In d (others es ks hs) →
      Other d es ks
  unfolding others
  of_others d [] ks hs a i = absurd i
  of_others d (e ∷ es) [] hs a i = absurd i
  of_others d (e ∷ es) (k ∷ ks) [] a i = absurd i
  of_others d (e ∷ es) (k ∷ ks) (h ∷ hs) a i = by (is_waiting k && not (is_waiting h)) refl i (of_others d es ks hs a.1)
    where
      behind : Other d es ks → Other d (e ∷ es) (k ∷ ks)
      behind r = record { waiting = inr r.waiting; judged = r.judged }

      by : (b : Bool) → (is_waiting k && not (is_waiting h)) ≡ b → In d (cond b (e ∷ others es ks hs) (others es ks hs)) →
          (In d (others es ks hs) → Other d es ks) → Other d (e ∷ es) (k ∷ ks)
      by true q (inl i) next =
          let p = both (is_waiting k) (not (is_waiting h)) q in
          record {
            waiting = inl (i, waits k p.0);
            judged = subst (λ z. is_waiting (outcome t ds js z) ≡ false) i (ap is_waiting (sym a.0) ∙ not_true (is_waiting h) p.1);
          }
      by true q (inr i) next = behind (next i)
      by false q i next = behind (next i)

  -- what is well formed here, and isn't at the end
  record UsedOther (d : Decl) (es : List Decl) (ks hs : SoFar) : Type 0 where
    pub one : Decl
    pub is_in : In one (others es ks hs)
    pub is_used : uses_one_of d one ≡ true

  unfine_waits : (k h : Judged) → Stays k h → is_fine k ≡ false → is_fine h ≡ true → (is_waiting k ≡ true) × (is_waiting h ≡ false)
  unfine_waits k Waiting s f g = no g
  unfine_waits k (Faulty x) s f g = no g
  unfine_waits k (Fine es) (inl q) f g = (ap is_waiting q, refl)
  unfine_waits k (Fine es) (inr q) f g = no (sym f ∙ ap is_fine q)

  used_other : (d : Decl) (es : List Decl) (ks hs : SoFar) → Later ks hs → all_fine d es ks ≡ false → all_fine d es hs ≡ true →
      UsedOther d es ks hs
  unfolding others
  used_other d [] ks hs l f g = no (sym f)
  used_other d (e ∷ es) [] [] l f g = no (sym f ∙ g)
  used_other d (e ∷ es) [] (h ∷ hs) l f g = absurd l
  used_other d (e ∷ es) (k ∷ ks) [] l f g = absurd l
  used_other d (e ∷ es) (k ∷ ks) (h ∷ hs) l f g =
      let p = both (not (uses_one_of d e) || is_fine h) (all_fine d es hs) g in
      by (uses_one_of d e) (is_fine k) refl refl f p (used_other d es ks hs l.1)
    where
      behind : UsedOther d es ks hs → UsedOther d (e ∷ es) (k ∷ ks) (h ∷ hs)
      behind r = record { one = r.one; is_in = next (is_waiting k && not (is_waiting h)); is_used = r.is_used }
        where
          next : (b : Bool) → In r.one (cond b (e ∷ others es ks hs) (others es ks hs))
          next true = inr r.is_in
          next false = r.is_in

      by : (b c : Bool) → uses_one_of d e ≡ b → is_fine k ≡ c → ((not b || c) && all_fine d es ks) ≡ false →
          ((not b || is_fine h) ≡ true) × (all_fine d es hs ≡ true) →
          (all_fine d es ks ≡ false → all_fine d es hs ≡ true → UsedOther d es ks hs) → UsedOther d (e ∷ es) (k ∷ ks) (h ∷ hs)
      by true true q r f g next = behind (next f g.1)
      by true false q r f g next =
          let w = unfine_waits k h l.0 r g.0 in
          let b : (is_waiting k && not (is_waiting h)) ≡ true = and_true (is_waiting k) (not (is_waiting h)) w.0 (ap not w.1) in
          record { one = e; is_in = subst (λ c. In e (cond c (e ∷ others es ks hs) (others es ks hs))) (sym b) (inl refl); is_used = q }
      by false c q r f g next = behind (next f g.1)

  abbrev last : SoFar
  last = final t ds

  judged_ready : (d : Decl) → is_waiting (outcome t ds js d) ≡ false → (takes_turn d ≡ true) × (all_fine d ds js ≡ true)
  judged_ready d h = both (takes_turn d) (all_fine d ds js) (by (takes_turn d && all_fine d ds js) h)
    where
      by : (b : Bool) → is_waiting (cond b (decl_judged t d names) Waiting) ≡ false → b ≡ true
      by true h = refl
      by false h = no (sym h)

  uses_other : (d : Decl) → In d (others ds last js) → UsesOne ds d (others ds last js)
  uses_other d i =
      let o = of_others d ds last js fixed i in
      let r = judged_ready d o.judged in
      let u = used_other d ds last js agrees.1 (end_unready t ds d r.0 o.waiting) r.1 in
      record { one = u.one; is_in = u.is_in; is_used = u.is_used }

  none_other : cycles_rule ds ds ≡ Ok tt → (d : Decl) → In d (others ds last js) → ⊥
  none_other c =
      let among : (e : Decl) → In e (others ds last js) → In e ds =
      λ e i. came_in e Waiting ds last (of_others e ds last js fixed i).waiting in
      none_stuck ds (others ds last js) among (λ e i. cycles_ok ds ds e c (among e i)) uses_other

  same_where : (es : List Decl) (ks hs : SoFar) → EachJudged (λ d j. j ≡ outcome t ds js d) es hs → Later ks hs →
      ((d : Decl) → In d (others es ks hs) → ⊥) → hs ≡ ks
  unfolding others
  same_where [] [] [] a l f = refl
  same_where [] (k ∷ ks) [] a l f = absurd l
  same_where [] ks (h ∷ hs) a l f = absurd a
  same_where (e ∷ es) [] [] a l f = absurd a
  same_where (e ∷ es) [] (h ∷ hs) a l f = absurd l
  same_where (e ∷ es) (k ∷ ks) [] a l f = absurd a
  same_where (e ∷ es) (k ∷ ks) (h ∷ hs) a l f =
      let p = none_here (is_waiting k && not (is_waiting h)) refl f in
      let q = here k h l.0 p.0 in
      let r = same_where es ks hs a.1 l.1 p.1 in
      λ i. q i ∷ r i
    where
      none_here : (b : Bool) → (is_waiting k && not (is_waiting h)) ≡ b →
          ((d : Decl) → In d (cond b (e ∷ others es ks hs) (others es ks hs)) → ⊥) →
          ((is_waiting k && not (is_waiting h)) ≡ false) × ((d : Decl) → In d (others es ks hs) → ⊥)
      none_here true q f = absurd (f e (inl refl))
      none_here false q f = (q, f)

      both_wait : (k h : Judged) → k ≡ Waiting → (is_waiting k && not (is_waiting h)) ≡ false → h ≡ k
      both_wait Waiting Waiting q b = refl
      both_wait Waiting (Fine es) q b = no (sym b)
      both_wait Waiting (Faulty x) q b = no (sym b)
      both_wait (Fine es) h q b = no (ap is_waiting q)
      both_wait (Faulty x) h q b = no (ap is_waiting q)

      here : (k h : Judged) → Stays k h → (is_waiting k && not (is_waiting h)) ≡ false → h ≡ k
      here k h (inl q) b = both_wait k h q b
      here k h (inr q) b = sym q

  -- it is what comes of the turns
  pub only : cycles_rule ds ds ≡ Ok tt → js ≡ final t ds
  only c = same_where ds last js fixed agrees.1 (none_other c)
