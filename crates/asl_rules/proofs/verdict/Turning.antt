-- Turn by turn: what holds of each declaration while it waits, and of each that is judged where it holds of all so far, holds of each at
-- the end.
use Rattle.std.proofs.Common.{◌≡◌, ℕ, zero, suc, ◌+◌, ◌⊎◌, inl, inr, Bool, true, false, cond, ◌&&◌, ◌||◌, not, List, [], ◌∷◌}
use Rattle.std.proofs.Common.{Option, Some, None, refl, sym, ap, ◌∙◌, subst, arith}
use Rattle.asl_syn.specs.declared.tree.Decl.{Decl}
use Rattle.asl_rules.specs.Tests.{Tests}
use Rattle.asl_rules.specs.declarations.Scopes.{Entry}
use Rattle.asl_rules.specs.declarations.Turns.{Judged, Waiting, Fine, Faulty, is_waiting, is_fine, SoFar, names_so_far, takes_turn}
use Rattle.asl_rules.specs.declarations.Turns.{all_fine, is_ready, first_ready, next_turn, decl_judged, judged_at, one_turn, turns}
use Rattle.asl_rules.specs.declarations.Turns.{all_waiting}
use Rattle.asl_rules.specs.declarations.Uses.{uses_one_of}
use Rattle.asl_rules.specs.private.Judgements.{EachJudged, CameOf}
use Rattle.asl_rules.proofs.basics.Tests.{no, both, and_true, some_same, none_some}
use Rattle.asl_rules.proofs.verdict.Distinct.{In}

-- ---- declarations with what came of them

pub each_map : (P Q : Decl → Judged → Type 0) (ds : List Decl) (js : SoFar) →
    ((d : Decl) (j : Judged) → CameOf d j ds js → P d j → Q d j) → EachJudged P ds js → EachJudged Q ds js
each_map P Q [] [] f a = tt
each_map P Q [] (j ∷ js) f a = absurd a
each_map P Q (d ∷ ds) [] f a = absurd a
each_map P Q (d ∷ ds) (j ∷ js) f a = (f d j (inl (refl, refl)) a.0, each_map P Q ds js (λ e k i. f e k (inr i)) a.1)

pub each_at : (P : Decl → Judged → Type 0) (d : Decl) (j : Judged) (ds : List Decl) (js : SoFar) → EachJudged P ds js → CameOf d j ds js →
    P d j
each_at P d j [] js a i = absurd i
each_at P d j (e ∷ ds) [] a i = absurd i
each_at P d j (e ∷ ds) (k ∷ js) a (inl q) = subst (λ z. P d z) q.1 (subst (λ z. P z k) q.0 a.0)
each_at P d j (e ∷ ds) (k ∷ js) a (inr i) = each_at P d j ds js a.1 i

-- it is one of those that were declared
pub came_in : (d : Decl) (j : Judged) (ds : List Decl) (js : SoFar) → CameOf d j ds js → In d ds
came_in d j [] js i = absurd i
came_in d j (e ∷ ds) [] i = absurd i
came_in d j (e ∷ ds) (k ∷ js) (inl q) = inl q.0
came_in d j (e ∷ ds) (k ∷ js) (inr i) = inr (came_in d j ds js i)

-- what came of one that was declared
pub record Came (P : Decl → Judged → Type 0) (d : Decl) (ds : List Decl) (js : SoFar) : Type 0 where
  pub judged : Judged
  pub is_of : CameOf d judged ds js
  pub has : P d judged

pub came : (P : Decl → Judged → Type 0) (d : Decl) (ds : List Decl) (js : SoFar) → EachJudged P ds js → In d ds → Came P d ds js
came P d [] js a i = absurd i
came P d (e ∷ ds) [] a i = absurd a
came P d (e ∷ ds) (j ∷ js) a (inl q) = record { judged = j; is_of = inl (q, refl); has = subst (λ z. P z j) q a.0 }
came P d (e ∷ ds) (j ∷ js) a (inr i) = let r = came P d ds js a.1 i in record { judged = r.judged; is_of = inr r.is_of; has = r.has }

pub each_waiting : (P : Decl → Judged → Type 0) → ((d : Decl) → P d Waiting) → (ds : List Decl) → EachJudged P ds (all_waiting ds)
each_waiting P w [] = tt
each_waiting P w (d ∷ ds) = (w d, each_waiting P w ds)

pub waits : (j : Judged) → is_waiting j ≡ true → j ≡ Waiting
waits Waiting h = refl
waits (Fine es) h = no h
waits (Faulty f) h = no h

-- ---- one turn

-- whose turn it is
pub record Turn (all : List Decl) (so_far : SoFar) (d : Decl) : Type 0 where
  pub takes : takes_turn d ≡ true
  pub ready : all_fine d all so_far ≡ true

pub ready_turn : (all : List Decl) (so_far : SoFar) (d : Decl) (j : Judged) → is_ready all so_far d j ≡ true →
    (j ≡ Waiting) × Turn all so_far d
ready_turn all so_far d j h =
    let p = both (takes_turn d) (is_waiting j && all_fine d all so_far) h in
    let q = both (is_waiting j) (all_fine d all so_far) p.1 in
    (waits j q.0, record { takes = p.0; ready = q.1 })

module _ (t : Tests) (all : List Decl) (so_far : SoFar) where
  abbrev names : List Entry
  names = names_so_far all so_far

  -- the one whose turn it is is judged, and nothing else changes
  abbrev pub JudgesOne : List Decl → SoFar → SoFar → Type 0
  JudgesOne [] js ks = ⊥
  JudgesOne (d ∷ ds) [] ks = ⊥
  JudgesOne (d ∷ ds) (j ∷ js) [] = ⊥
  JudgesOne (d ∷ ds) (j ∷ js) (k ∷ ks) =
      ((is_ready all so_far d j ≡ true) × (decl_judged t d names ≡ k) × (js ≡ ks)) ⊎ ((j ≡ k) × JudgesOne ds js ks)

  record Judging (from n : ℕ) (ds : List Decl) (js : SoFar) : Type 0 where
    pub place : ℕ
    pub is : n ≡ from + place
    pub one : JudgesOne ds js (judged_at t place ds js names)

  judging : (from n : ℕ) (ds : List Decl) (js : SoFar) → first_ready all so_far from ds js ≡ Some n → Judging from n ds js
  judging from n [] js h = none_some n h
  judging from n (d ∷ ds) [] h = none_some n h
  judging from n (d ∷ ds) (j ∷ js) h = by (is_ready all so_far d j) refl h (judging (suc from) n ds js)
    where
      by : (b : Bool) → is_ready all so_far d j ≡ b → cond b (Some from) (first_ready all so_far (suc from) ds js) ≡ Some n →
          (first_ready all so_far (suc from) ds js ≡ Some n → Judging (suc from) n ds js) → Judging from n (d ∷ ds) (j ∷ js)
      by true q h next = let r : from ≡ n = some_same from n h in record { place = 0; is = omega (arith, r); one = inl (q, refl, refl) }
      by false q h next =
          let r = next h in
          let i : n ≡ suc from + r.place = r.is in
          record { place = suc r.place; is = omega (arith, i); one = inr (refl, r.one) }

-- one turn leads from a state to the next
abbrev pub OneTurn : Tests → List Decl → SoFar → SoFar → Type 0
OneTurn t ds js ks = JudgesOne t ds js ds js ks

pub turned : (t : Tests) (ds : List Decl) (js : SoFar) (n : ℕ) → next_turn ds js ≡ Some n →
    OneTurn t ds js (judged_at t n ds js (names_so_far ds js))
turned t ds js n h =
    let r = judging t ds js 0 n ds js h in
    let i : n ≡ 0 + r.place = r.is in
    let q : r.place ≡ n = omega (arith, i) in
    subst (λ m. OneTurn t ds js (judged_at t m ds js (names_so_far ds js))) q r.one

-- ---- later states

-- what was judged stays as it was
abbrev pub Stays : Judged → Judged → Type 0
Stays j k = (j ≡ Waiting) ⊎ (j ≡ k)

abbrev pub Later : SoFar → SoFar → Type 0
Later [] [] = Unit {0}
Later [] (k ∷ ks) = ⊥
Later (j ∷ js) [] = ⊥
Later (j ∷ js) (k ∷ ks) = Stays j k × Later js ks

pub later_self : (js : SoFar) → Later js js
later_self [] = tt
later_self (j ∷ js) = (inr refl, later_self js)

stays_then : (i j k : Judged) → Stays i j → Stays j k → Stays i k
stays_then i j k (inl p) q = inl p
stays_then i j k (inr p) (inl q) = inl (p ∙ q)
stays_then i j k (inr p) (inr q) = inr (p ∙ q)

pub later_then : (is js ks : SoFar) → Later is js → Later js ks → Later is ks
later_then [] [] [] p q = tt
later_then [] [] (k ∷ ks) p q = absurd q
later_then [] (j ∷ js) ks p q = absurd p
later_then (i ∷ is) [] ks p q = absurd p
later_then (i ∷ is) (j ∷ js) [] p q = absurd q
later_then (i ∷ is) (j ∷ js) (k ∷ ks) p q = (stays_then i j k p.0 q.0, later_then is js ks p.1 q.1)

pub turn_later : (t : Tests) (all : List Decl) (so_far : SoFar) (ds : List Decl) (js ks : SoFar) → JudgesOne t all so_far ds js ks →
    Later js ks
turn_later t all so_far [] js ks h = absurd h
turn_later t all so_far (d ∷ ds) [] ks h = absurd h
turn_later t all so_far (d ∷ ds) (j ∷ js) [] h = absurd h
turn_later t all so_far (d ∷ ds) (j ∷ js) (k ∷ ks) (inl h) = (inl (ready_turn all so_far d j h.0).0, subst (Later js) h.2 (later_self js))
turn_later t all so_far (d ∷ ds) (j ∷ js) (k ∷ ks) (inr h) = (inr h.0, turn_later t all so_far ds js ks h.1)

-- what is well formed stays so
pub fine_stays : (j k : Judged) → is_fine j ≡ true → Stays j k → j ≡ k
fine_stays j k h (inl e) = no (sym (ap is_fine e) ∙ h)
fine_stays j k h (inr e) = e

pub all_fine_later : (d : Decl) (es : List Decl) (js ks : SoFar) → Later js ks → all_fine d es js ≡ true → all_fine d es ks ≡ true
all_fine_later d [] js ks l h = refl
all_fine_later d (e ∷ es) [] [] l h = h
all_fine_later d (e ∷ es) [] (k ∷ ks) l h = absurd l
all_fine_later d (e ∷ es) (j ∷ js) [] l h = absurd l
all_fine_later d (e ∷ es) (j ∷ js) (k ∷ ks) l h =
    let p = both (not (uses_one_of d e) || is_fine j) (all_fine d es js) h in
    and_true (not (uses_one_of d e) || is_fine k) (all_fine d es ks) (by (not (uses_one_of d e)) p.0) (all_fine_later d es js ks l.1 p.1)
  where
    by : (b : Bool) → (b || is_fine j) ≡ true → (b || is_fine k) ≡ true
    by true q = refl
    by false q = sym (ap is_fine (fine_stays j k q l.0)) ∙ q

-- ---- all turns

-- what each turn keeps
pub turns_keep : (t : Tests) (ds : List Decl) (Q : SoFar → Type 0) → ((js ks : SoFar) → OneTurn t ds js ks → Q js → Q ks) →
    (n : ℕ) (js : SoFar) → Q js → Q (turns t n ds js)
turns_keep t ds Q step zero js q = q
turns_keep t ds Q step (suc n) js q = by (next_turn ds js) refl (turns_keep t ds Q step n)
  where
    by : (o : Option ℕ) → next_turn ds js ≡ o → ((ks : SoFar) → Q ks → Q (turns t n ds ks)) → Q (one_turn t ds js (turns t n ds) o)
    by None h next = q
    by (Some m) h next = let ks = judged_at t m ds js (names_so_far ds js) in next ks (step js ks (turned t ds js m h) q)

-- what holds of declarations may depend on the state of the turns: it stays with what is judged, and holds of what is judged next
module _ (t : Tests) (ds : List Decl) (P : SoFar → Decl → Judged → Type 0)
    (stays : (js ks : SoFar) → OneTurn t ds js ks → EachJudged (P js) ds js → (d : Decl) (j : Judged) → P js d j → P ks d j)
    (judges : (js ks : SoFar) → OneTurn t ds js ks → EachJudged (P js) ds js → (d : Decl) → In d ds → Turn ds js d →
    P ks d (decl_judged t d (names_so_far ds js))) where
  one_more : (js ks : SoFar) → OneTurn t ds js ks → EachJudged (P js) ds js → (es : List Decl) (ls ms : SoFar) →
      ((d : Decl) → In d es → In d ds) → JudgesOne t ds js es ls ms → EachJudged (P js) es ls → EachJudged (P ks) es ms
  one_more js ks o all [] ls ms i h a = absurd h
  one_more js ks o all (e ∷ es) [] ms i h a = absurd h
  one_more js ks o all (e ∷ es) (l ∷ ls) [] i h a = absurd h
  one_more js ks o all (e ∷ es) (l ∷ ls) (m ∷ ms) i (inl h) a = (
    subst (λ z. P ks e z) h.1 (judges js ks o all e (i e (inl refl)) (ready_turn ds js e l h.0).1),
    subst (λ z. EachJudged (P ks) es z) h.2 (each_map (P js) (P ks) es ls (λ d j c. stays js ks o all d j) a.1),
  )
  one_more js ks o all (e ∷ es) (l ∷ ls) (m ∷ ms) i (inr h) a = (
    subst (λ z. P ks e z) h.0 (stays js ks o all e l a.0),
    one_more js ks o all es ls ms (λ d k. i d (inr k)) h.1 a.1,
  )

  pub turn_holds_in : (js ks : SoFar) → OneTurn t ds js ks → EachJudged (P js) ds js → EachJudged (P ks) ds ks
  turn_holds_in js ks o a = one_more js ks o a ds js ks (λ d i. i) o a

  pub turns_hold_in : (n : ℕ) (js : SoFar) → EachJudged (P js) ds js → EachJudged (P (turns t n ds js)) ds (turns t n ds js)
  turns_hold_in n js a = turns_keep t ds (λ ks. EachJudged (P ks) ds ks) turn_holds_in n js a

module _ (t : Tests) (ds : List Decl) (P : Decl → Judged → Type 0)
    (judges : (js : SoFar) → EachJudged P ds js → (d : Decl) → In d ds → Turn ds js d → P d (decl_judged t d (names_so_far ds js))) where
  pub turn_holds : (js ks : SoFar) → OneTurn t ds js ks → EachJudged P ds js → EachJudged P ds ks
  turn_holds js ks o a = turn_holds_in t ds (λ ks. P) (λ js ks o b d j p. p) (λ js ks o b. judges js b) js ks o a

  pub turns_hold : (n : ℕ) (js : SoFar) → EachJudged P ds js → EachJudged P ds (turns t n ds js)
  turns_hold n js a = turns_hold_in t ds (λ ks. P) (λ js ks o b d j p. p) (λ js ks o b. judges js b) n js a
