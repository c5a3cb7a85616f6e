-- Declarations turn by turn, to the end: what was judged is judged so by the names of every later turn, and no turn is left at the end. So
-- where none reaches itself and none is faulty, each brings what its rule gives where the names of the program are visible.
use Rattle.std.proofs.Common.{◌≡◌, ℕ, zero, suc, ◌≤◌, ◌⊎◌, inl, inr, Bool, true, false, cond, not, ◌&&◌, ◌||◌, List, [], ◌∷◌, length}
use Rattle.std.proofs.Common.{Option, Some, None, Ok, Err, refl, sym, ap, ◌∙◌, subst, arith}
use Rattle.std.specs.Prelude.{Result}
use Rattle.std.specs.Str.{bytes_eq}
use Rattle.asl_syn.specs.declared.code.Fault.{Fault}
use Rattle.asl_syn.specs.declared.code.StaticCode.TheVariants.{T03}
use Rattle.asl_syn.specs.declared.tree.Func.{Func}
use Rattle.asl_syn.specs.declared.tree.Decl.{Decl}
use Rattle.asl_syn.specs.declared.tree.Decl.TheVariants as dc
use Rattle.asl_rules.specs.Faults.{need}
use Rattle.asl_rules.specs.Tests.{Tests}
use Rattle.asl_rules.specs.declarations.Scopes.{Entry}
use Rattle.asl_rules.specs.declarations.Uses.{Used, uses, any_declared, uses_one_of, leads_by, leads_to, reaches_itself, cycles_rule}
use Rattle.asl_rules.specs.declarations.Declarations.{in_names, decl_rule}
use Rattle.asl_rules.specs.declarations.Turns.{Judged, Waiting, Fine, Faulty, judged, is_waiting, is_fine, SoFar, names_so_far, takes_turn}
use Rattle.asl_rules.specs.declarations.Turns.{all_fine, is_ready, first_ready, next_turn, decl_judged, one_turn, judged_at, turns}
use Rattle.asl_rules.specs.declarations.Turns.{all_waiting, final, faulty, faults_rule, names_of_program}
use Rattle.asl_rules.specs.private.Judgements.{EachJudged, CameOf}
use Rattle.asl_rules.proofs.basics.Inversions.{err_ok, then_ok, need_ok}
use Rattle.asl_rules.proofs.basics.Tests.{no, both, and_true, some_none}
use Rattle.asl_rules.proofs.verdict.Distinct.{In}
use Rattle.asl_laws.proofs.names.Stuck.{UsesOne, none_stuck}
use Rattle.asl_rules.proofs.verdict.Turning.{each_map, came, came_in, each_waiting, waits, Turn, JudgesOne, OneTurn, turned}
use Rattle.asl_rules.proofs.verdict.Turning.{ready_turn, turn_later, all_fine_later, turns_hold_in, turn_holds}
use Rattle.asl_rules.proofs.verdict.AfterTurns.{after}
use Rattle.asl_laws.proofs.names.JudgedLater.{Made, AllMade, waiting_made, decl_made, judged_later}

-- ---- what was judged

-- it had its turn, and is judged so by the names of this state too
pub record JudgedIn (t : Tests) (ds : List Decl) (js : SoFar) (d : Decl) (j : Judged) : Type 0 where
  pub takes : takes_turn d ≡ true
  pub ready : all_fine d ds js ≡ true
  pub gives : decl_judged t d (names_so_far ds js) ≡ j

abbrev pub Still : Tests → List Decl → SoFar → Decl → Judged → Type 0
Still t ds js d j = (j ≡ Waiting) ⊎ JudgedIn t ds js d j

module _ (t : Tests) (ds : List Decl) where
  -- what holds of what came so far of each declaration
  abbrev Well : SoFar → Decl → Judged → Type 0
  Well js d j = Made d j × Still t ds js d j

  made_of : (js : SoFar) → EachJudged (Well js) ds js → AllMade ds js
  made_of js a = each_map (Well js) Made ds js (λ d j c p. p.0) a

  pub made_then : (js ks : SoFar) → OneTurn t ds js ks → AllMade ds js → AllMade ds ks
  made_then js ks o a = turn_holds t ds Made (λ ls b d i r. decl_made t d (names_so_far ds ls)) js ks o a

  later_judged : (js ks : SoFar) → OneTurn t ds js ks → EachJudged (Well js) ds js → (d : Decl) → all_fine d ds js ≡ true →
      decl_judged t d (names_so_far ds js) ≡ decl_judged t d (names_so_far ds ks)
  later_judged js ks o a d h =
      judged_later t d ds js ks (made_of js a) (made_then js ks o (made_of js a)) (turn_later t ds js ds js ks o) h

  well_stays : (js ks : SoFar) → OneTurn t ds js ks → EachJudged (Well js) ds js → (d : Decl) (j : Judged) → Well js d j → Well ks d j
  well_stays js ks o a d j w = (w.0, by w.1)
    where
      by : Still t ds js d j → Still t ds ks d j
      by (inl q) = inl q
      by (inr r) = inr (record {
        takes = r.takes;
        ready = all_fine_later d ds js ks (turn_later t ds js ds js ks o) r.ready;
        gives = sym (later_judged js ks o a d r.ready) ∙ r.gives;
      })

  well_judged : (js ks : SoFar) → OneTurn t ds js ks → EachJudged (Well js) ds js → (d : Decl) → In d ds → Turn ds js d →
      Well ks d (decl_judged t d (names_so_far ds js))
  well_judged js ks o a d i r = (
    decl_made t d (names_so_far ds js),
    inr (record {
      takes = r.takes;
      ready = all_fine_later d ds js ks (turn_later t ds js ds js ks o) r.ready;
      gives = sym (later_judged js ks o a d r.ready);
    }),
  )

  all_well : (n : ℕ) → EachJudged (Well (after t ds n)) ds (after t ds n)
  all_well n = turns_hold_in t ds Well well_stays well_judged n (all_waiting ds)
      (each_waiting (Well (all_waiting ds)) (λ d. (waiting_made d, inl refl)) ds)

  pub turns_made : (n : ℕ) → AllMade ds (after t ds n)
  turns_made n = made_of (after t ds n) (all_well n)

  -- each that was judged by then, well formed or faulty, in whichever turn, is judged so by the names of this turn
  pub turns_still : (n : ℕ) → EachJudged (Still t ds (after t ds n)) ds (after t ds n)
  turns_still n = each_map (Well (after t ds n)) (Still t ds (after t ds n)) ds (after t ds n) (λ d j c p. p.1) (all_well n)

-- at the end
pub all_made : (t : Tests) (ds : List Decl) → AllMade ds (final t ds)
all_made t ds = turns_made t ds (length ds)

pub all_still : (t : Tests) (ds : List Decl) → EachJudged (Still t ds (final t ds)) ds (final t ds)
all_still t ds = turns_still t ds (length ds)

-- ---- each turn leaves one less that waits

left : SoFar → ℕ
left [] = 0
left (j ∷ js) = cond (is_waiting j) (suc (left js)) (left js)

judged_waits : (r : Result (List Entry) Fault) → is_waiting (judged r) ≡ false
judged_waits (Ok es) = refl
judged_waits (Err f) = refl

turn_lowers : (t : Tests) (all : List Decl) (so_far : SoFar) (ds : List Decl) (js ks : SoFar) → JudgesOne t all so_far ds js ks →
    left js ≡ suc (left ks)
unfolding left
turn_lowers t all so_far [] js ks h = absurd h
turn_lowers t all so_far (d ∷ ds) [] ks h = absurd h
turn_lowers t all so_far (d ∷ ds) (j ∷ js) [] h = absurd h
turn_lowers t all so_far (d ∷ ds) (j ∷ js) (k ∷ ks) (inl h) =
    let judged_is : is_waiting k ≡ false =
    ap is_waiting (sym h.1) ∙ judged_waits (decl_rule t d (in_names (names_so_far all so_far))) in
    ap (λ i. cond (is_waiting i) (suc (left js)) (left js)) (ready_turn all so_far d j h.0).0 ∙ ap (λ ls. suc (left ls)) h.2
    ∙ ap (λ b. suc (cond b (suc (left ks)) (left ks))) (sym judged_is)
turn_lowers t all so_far (d ∷ ds) (j ∷ js) (k ∷ ks) (inr h) =
    by (is_waiting j) (turn_lowers t all so_far ds js ks h.1) ∙ ap (λ i. suc (cond (is_waiting i) (suc (left ks)) (left ks))) h.0
  where
    by : (b : Bool) → left js ≡ suc (left ks) → cond b (suc (left js)) (left js) ≡ suc (cond b (suc (left ks)) (left ks))
    by true q = ap suc q
    by false q = q

left_waiting : (ds : List Decl) → left (all_waiting ds) ≤ length ds
unfolding left
left_waiting [] = omega arith
left_waiting (d ∷ ds) = let h = left_waiting ds in omega (arith, h)

-- where none waits, none is ready
none_waits : (all : List Decl) (so_far : SoFar) (n : ℕ) (ds : List Decl) (js : SoFar) → left js ≤ 0 → first_ready all so_far n ds js ≡ None
unfolding left
none_waits all so_far n [] js h = refl
none_waits all so_far n (d ∷ ds) [] h = refl
none_waits all so_far n (d ∷ ds) (j ∷ js) h = by (takes_turn d) (is_waiting j) h (none_waits all so_far (suc n) ds js)
  where
    by : (a b : Bool) → cond b (suc (left js)) (left js) ≤ 0 → (left js ≤ 0 → first_ready all so_far (suc n) ds js ≡ None) →
        cond (a && (b && all_fine d all so_far)) (Some n) (first_ready all so_far (suc n) ds js) ≡ None
    by false b h next = other b h
      where
        other : (b : Bool) → cond b (suc (left js)) (left js) ≤ 0 → first_ready all so_far (suc n) ds js ≡ None
        other true h = absurd (omega (arith, h))
        other false h = next h
    by true true h next = absurd (omega (arith, h))
    by true false h next = next h

-- where there are as many turns as wait, none is left
no_more : (t : Tests) (ds : List Decl) (n : ℕ) (js : SoFar) → left js ≤ n → next_turn ds (turns t n ds js) ≡ None
no_more t ds zero js h = none_waits ds js 0 ds js h
no_more t ds (suc n) js h = by (next_turn ds js) refl (no_more t ds n)
  where
    by : (o : Option ℕ) → next_turn ds js ≡ o → ((ks : SoFar) → left ks ≤ n → next_turn ds (turns t n ds ks) ≡ None) →
        next_turn ds (one_turn t ds js (turns t n ds) o) ≡ None
    by None q next = q
    by (Some m) q next =
        let ks = judged_at t m ds js (names_so_far ds js) in
        let l = turn_lowers t ds js ds js ks (turned t ds js m q) in
        next ks (omega (arith, h, l))

pub no_turn_left : (t : Tests) (ds : List Decl) → next_turn ds (final t ds) ≡ None
no_turn_left t ds = no_more t ds (length ds) (all_waiting ds) (left_waiting ds)

-- none of these is ready
none_ready : (all : List Decl) (so_far : SoFar) (n : ℕ) (ds : List Decl) (js : SoFar) → first_ready all so_far n ds js ≡ None →
    (d : Decl) (j : Judged) → CameOf d j ds js → is_ready all so_far d j ≡ false
none_ready all so_far n [] js h d j c = absurd c
none_ready all so_far n (e ∷ ds) [] h d j c = absurd c
none_ready all so_far n (e ∷ ds) (k ∷ js) h d j c = by (is_ready all so_far e k) refl h c (none_ready all so_far (suc n) ds js)
  where
    by : (b : Bool) → is_ready all so_far e k ≡ b → cond b (Some n) (first_ready all so_far (suc n) ds js) ≡ None →
        ((e ≡ d) × (k ≡ j)) ⊎ CameOf d j ds js →
        (first_ready all so_far (suc n) ds js ≡ None → (d : Decl) (j : Judged) → CameOf d j ds js → is_ready all so_far d j ≡ false) →
        is_ready all so_far d j ≡ false
    by true q h c next = some_none n h
    by false q h (inl i) next = ap (λ z. is_ready all so_far d z) (sym i.1) ∙ ap (λ z. is_ready all so_far z k) (sym i.0) ∙ q
    by false q h (inr i) next = next h d j i

-- what takes a turn and waits at the end uses one that isn't well formed
pub end_unready : (t : Tests) (ds : List Decl) (d : Decl) → takes_turn d ≡ true → CameOf d Waiting ds (final t ds) →
    all_fine d ds (final t ds) ≡ false
end_unready t ds d h c = by (takes_turn d) h (none_ready ds (final t ds) 0 ds (final t ds) (no_turn_left t ds) d Waiting c)
  where
    by : (b : Bool) → b ≡ true → (b && all_fine d ds (final t ds)) ≡ false → all_fine d ds (final t ds) ≡ false
    by true h r = r
    by false h r = no h

-- ---- what is used and isn't well formed

pub record Unready (d : Decl) (ds : List Decl) (js : SoFar) : Type 0 where
  pub one : Decl
  pub judged : Judged
  pub is_of : CameOf one judged ds js
  pub is_used : uses_one_of d one ≡ true
  pub isnt_fine : is_fine judged ≡ false

pub unready : (P : Decl → Judged → Type 0) (d : Decl) (ds : List Decl) (js : SoFar) → EachJudged P ds js → all_fine d ds js ≡ false →
    Unready d ds js
unready P d [] [] a h = no (sym h)
unready P d [] (j ∷ js) a h = absurd a
unready P d (e ∷ ds) [] a h = absurd a
unready P d (e ∷ ds) (j ∷ js) a h = by (uses_one_of d e) (is_fine j) refl refl h (unready P d ds js a.1)
  where
    behind : Unready d ds js → Unready d (e ∷ ds) (j ∷ js)
    behind r = record { one = r.one; judged = r.judged; is_of = inr r.is_of; is_used = r.is_used; isnt_fine = r.isnt_fine }

    by : (b c : Bool) → uses_one_of d e ≡ b → is_fine j ≡ c → ((not b || c) && all_fine d ds js) ≡ false →
        (all_fine d ds js ≡ false → Unready d ds js) → Unready d (e ∷ ds) (j ∷ js)
    by true true q r h next = behind (next h)
    by true false q r h next = record { one = e; judged = j; is_of = inl (refl, refl); is_used = q; isnt_fine = r }
    by false c q r h next = behind (next h)

never_any : (f : Func) (us : Used) → any_declared (dc.Func f) us ≡ false
never_any f [] = refl
never_any f (u ∷ us) = by (bytes_eq f.name.text u) ∙ never_any f us
  where
    by : (b : Bool) → (((b && false) || false) || any_declared (dc.Func f) us) ≡ any_declared (dc.Func f) us
    by true = refl
    by false = refl

-- what is used takes a turn
pub used_takes : (d e : Decl) → uses_one_of d e ≡ true → takes_turn e ≡ true
used_takes d (dc.Type x) h = refl
used_takes d (dc.Storage x) h = refl
used_takes d (dc.Func f) h = no (sym (never_any f (uses d)) ∙ h)

-- ---- what the rules say

not_true : (b : Bool) → not b ≡ true → b ≡ false
not_true true h = no h
not_true false h = refl

-- a subprogram uses nothing
func_leads : (f : Func) (on : Decl → Bool) (ms : List Decl) → leads_by on (dc.Func f) ms ≡ false
func_leads f on [] = refl
func_leads f on (m ∷ ms) = func_leads f on ms

func_apart : (n : ℕ) (ds : List Decl) (f : Func) (e : Decl) → leads_to n ds (dc.Func f) e ≡ false
func_apart zero ds f e = refl
func_apart (suc n) ds f e = func_leads f (λ m. leads_to n ds m e) ds

-- none reaches itself
pub cycles_ok : (all ds : List Decl) (d : Decl) → cycles_rule all ds ≡ Ok tt → In d ds → reaches_itself all d ≡ false
cycles_ok all [] d h i = absurd i
cycles_ok all (dc.Type x ∷ ds) d h (inl q) =
    let p = then_ok (need (not (reaches_itself all (dc.Type x))) T03 x.name.span) (cycles_rule all ds) tt h in
    let r = need_ok (not (reaches_itself all (dc.Type x))) T03 x.name.span tt p.first in
    subst (λ z. reaches_itself all z ≡ false) q (not_true (reaches_itself all (dc.Type x)) r)
cycles_ok all (dc.Type x ∷ ds) d h (inr i) =
    let p = then_ok (need (not (reaches_itself all (dc.Type x))) T03 x.name.span) (cycles_rule all ds) tt h in
    cycles_ok all ds d p.then i
cycles_ok all (dc.Storage x ∷ ds) d h (inl q) =
    let p = then_ok (need (not (reaches_itself all (dc.Storage x))) T03 x.name.span) (cycles_rule all ds) tt h in
    let r = need_ok (not (reaches_itself all (dc.Storage x))) T03 x.name.span tt p.first in
    subst (λ z. reaches_itself all z ≡ false) q (not_true (reaches_itself all (dc.Storage x)) r)
cycles_ok all (dc.Storage x ∷ ds) d h (inr i) =
    let p = then_ok (need (not (reaches_itself all (dc.Storage x))) T03 x.name.span) (cycles_rule all ds) tt h in
    cycles_ok all ds d p.then i
cycles_ok all (dc.Func f ∷ ds) d h (inl q) = subst (λ z. reaches_itself all z ≡ false) q (func_apart (length all) all f (dc.Func f))
cycles_ok all (dc.Func f ∷ ds) d h (inr i) = cycles_ok all ds d h i

-- none is faulty
pub faults_ok : (ds : List Decl) (js : SoFar) (d : Decl) (j : Judged) → faults_rule js ≡ Ok tt → CameOf d j ds js → faulty j ≡ Ok tt
faults_ok [] js d j h c = absurd c
faults_ok (e ∷ ds) [] d j h c = absurd c
faults_ok (e ∷ ds) (k ∷ js) d j h (inl q) = ap faulty (sym q.1) ∙ (then_ok (faulty k) (faults_rule js) tt h).first
faults_ok (e ∷ ds) (k ∷ js) d j h (inr i) = faults_ok ds js d j (then_ok (faulty k) (faults_rule js) tt h).then i

unfine_waits : (j : Judged) → is_fine j ≡ false → faulty j ≡ Ok tt → j ≡ Waiting
unfine_waits Waiting h k = refl
unfine_waits (Fine es) h k = no (sym h)
unfine_waits (Faulty f) h k = err_ok f tt k

-- ---- those that wait

picked : (Decl → Judged → Bool) → List Decl → SoFar → List Decl
picked q [] js = []
picked q (d ∷ ds) [] = []
picked q (d ∷ ds) (j ∷ js) = cond (q d j) (d ∷ picked q ds js) (picked q ds js)

record Picked (q : Decl → Judged → Bool) (d : Decl) (ds : List Decl) (js : SoFar) : Type 0 where
  pub judged : Judged
  pub is_of : CameOf d judged ds js
  pub passes : q d judged ≡ true

of_picked : (q : Decl → Judged → Bool) (d : Decl) (ds : List Decl) (js : SoFar) → In d (picked q ds js) → Picked q d ds js
unfolding picked
of_picked q d [] js i = absurd i
of_picked q d (e ∷ ds) [] i = absurd i
of_picked q d (e ∷ ds) (j ∷ js) i = by (q e j) refl i (of_picked q d ds js)
  where
    behind : Picked q d ds js → Picked q d (e ∷ ds) (j ∷ js)
    behind r = record { judged = r.judged; is_of = inr r.is_of; passes = r.passes }

    by : (b : Bool) → q e j ≡ b → In d (cond b (e ∷ picked q ds js) (picked q ds js)) → (In d (picked q ds js) → Picked q d ds js) →
        Picked q d (e ∷ ds) (j ∷ js)
    by true p (inl i) next = record { judged = j; is_of = inl (i, refl); passes = ap (λ z. q z j) (sym i) ∙ p }
    by true p (inr i) next = behind (next i)
    by false p i next = behind (next i)

in_picked : (q : Decl → Judged → Bool) (d : Decl) (j : Judged) (ds : List Decl) (js : SoFar) → CameOf d j ds js → q d j ≡ true →
    In d (picked q ds js)
unfolding picked
in_picked q d j [] js c h = absurd c
in_picked q d j (e ∷ ds) [] c h = absurd c
in_picked q d j (e ∷ ds) (k ∷ js) c h = by (q e k) refl c (in_picked q d j ds js)
  where
    by : (b : Bool) → q e k ≡ b → ((e ≡ d) × (k ≡ j)) ⊎ CameOf d j ds js → (CameOf d j ds js → q d j ≡ true → In d (picked q ds js)) →
        In d (cond b (e ∷ picked q ds js) (picked q ds js))
    by true p (inl i) next = inl i.0
    by true p (inr i) next = inr (next i h)
    by false p (inl i) next = no (sym p ∙ ap (λ z. q z k) i.0 ∙ ap (λ z. q d z) i.1 ∙ h)
    by false p (inr i) next = next i h

-- ---- the end of a program without a cycle and without a fault

-- what a declaration brings to a program whose declarations are all well formed
pub record Brought (t : Tests) (ds : List Decl) (d : Decl) : Type 0 where
  pub entries : List Entry
  pub is_of : CameOf d (Fine entries) ds (final t ds)
  pub gives : decl_rule t d (in_names (names_of_program t ds)) ≡ Ok entries

fine_entries : Judged → List Entry
fine_entries Waiting = []
fine_entries (Fine es) = es
fine_entries (Faulty f) = []

pub fine_same : (es fs : List Entry) → Fine es ≡ Fine fs → es ≡ fs
unfolding fine_entries
fine_same es fs h = ap fine_entries h

pub judged_is : (r : Result (List Entry) Fault) (es : List Entry) → judged r ≡ Fine es → r ≡ Ok es
judged_is (Ok fs) es h = ap Ok (fine_same fs es h)
judged_is (Err f) es h = no (ap is_fine h)

module _ (t : Tests) (ds : List Decl) (c : cycles_rule ds ds ≡ Ok tt) (f : faults_rule (final t ds) ≡ Ok tt) where
  abbrev last : SoFar
  last = final t ds

  abbrev late : Decl → Judged → Bool
  late d j = takes_turn d && is_waiting j

  of_late : (d : Decl) → In d (picked late ds last) → (takes_turn d ≡ true) × CameOf d Waiting ds last
  of_late d i =
      let r = of_picked late d ds last i in
      let p = both (takes_turn d) (is_waiting r.judged) r.passes in
      (p.0, subst (λ j. CameOf d j ds last) (waits r.judged p.1) r.is_of)

  in_late : (d : Decl) → takes_turn d ≡ true → CameOf d Waiting ds last → In d (picked late ds last)
  in_late d h i = in_picked late d Waiting ds last i (and_true (takes_turn d) true h refl)

  uses_late : (d : Decl) → In d (picked late ds last) → UsesOne ds d (picked late ds last)
  uses_late d i =
      let p = of_late d i in
      let u = unready Made d ds last (all_made t ds) (end_unready t ds d p.0 p.1) in
      let w : u.judged ≡ Waiting = unfine_waits u.judged u.isnt_fine (faults_ok ds last u.one u.judged f u.is_of) in
      let o = subst (λ j. CameOf u.one j ds last) w u.is_of in
      record { one = u.one; is_in = in_late u.one (used_takes d u.one u.is_used) o; is_used = u.is_used }

  pub none_late : (d : Decl) → takes_turn d ≡ true → CameOf d Waiting ds last → ⊥
  none_late d h i =
      let among : (e : Decl) → In e (picked late ds last) → In e ds = λ e j. came_in e Waiting ds last (of_late e j).1 in
      none_stuck ds (picked late ds last) among (λ e j. cycles_ok ds ds e c (among e j)) uses_late d (in_late d h i)

  bring_by : (d : Decl) (j : Judged) → takes_turn d ≡ true → CameOf d j ds last → Still t ds last d j → Brought t ds d
  bring_by d Waiting h i s = absurd (none_late d h i)
  bring_by d (Faulty e) h i s = err_ok e tt (faults_ok ds last d (Faulty e) f i)
  bring_by d (Fine es) h i (inl q) = no (sym (ap is_fine q))
  bring_by d (Fine es) h i (inr r) =
      record { entries = es; is_of = i; gives = judged_is (decl_rule t d (in_names (names_of_program t ds))) es r.gives }

  -- where none reaches itself and none has a fault, each that takes a turn brings what its rule gives in the scope of all names
  pub all_bring : (d : Decl) → In d ds → takes_turn d ≡ true → Brought t ds d
  all_bring d i h = let r = came (Still t ds last) d ds last (all_still t ds) i in bring_by d r.judged h r.is_of r.has
