-- Whose turn it is among declarations, by the graph of those that use one another.
use Rattle.std.proofs.Common.{◌≡◌, ℕ, zero, suc, ◌+◌, ◌≤◌, Bool, true, false, cond, ◌&&◌, ◌||◌, not, List, [], ◌∷◌, ◌++◌, map, length, set}
use Rattle.std.proofs.Common.{Some, refl, sym, ap, ◌∙◌, subst, append_assoc, arith}
use Rattle.std.specs.Prelude.{◌==◌}
use Rattle.std.proofs.lemmas.Bool.{eq-eqb}
use Rattle.std.proofs.lemmas.List.{append-nil, map-set}
use Rattle.asl_syn.specs.declared.tree.Decl.{Decl}
use Rattle.asl_rules.specs.declarations.Names.{all_declared}
use Rattle.asl_rules.specs.declarations.Uses.{uses, uses_one_of}
use Rattle.asl_rules.specs.declarations.Turns.{Judged, Waiting, Fine, Faulty, SoFar, is_waiting, is_fine, takes_turn, all_fine, is_ready}
use Rattle.asl_rules.specs.declarations.Turns.{all_waiting}
use Rattle.asl_rules.specs.declarations.Turns as rules
use Rattle.asl_rules.proofs.basics.Tests.{no, some_same, none_some, both, and_true, or_first, or_second}
use Rattle.asl_rules.proofs.verdict.Distinct.{Distinct}
use Rattle.asl_rules.proofs.verdict.Turning.{ready_turn}
use Rattle.asl_names.specs.private.Firsts.{Places}
use Rattle.asl_names.specs.private.Graphs.{declarers, added, graph_by, graph_of}
use Rattle.asl_names.proofs.Bridge.{At, edge_is, edge_at}
use Rattle.asl_turns.proofs.Marks.{among_marked}
use Rattle.asl_turns.specs.Graphs.{Graph, row, has_mark, all_marked, is_among}
use Rattle.asl_turns.specs.Turns.{Marked, begun, with_settled, none_settled}
use Rattle.asl_turns.specs.Turns as turns
use Rattle.asl_judge.specs.private.Waiting.{turns_after}

-- ---- declarations as the nodes of a graph

-- which of them wait for their turns
abbrev pub who_wait : List Decl → SoFar → List Bool
who_wait [] js = []
who_wait (d ∷ ds) [] = []
who_wait (d ∷ ds) (j ∷ js) = (takes_turn d && is_waiting j) ∷ who_wait ds js

-- those that are well formed are settled
abbrev pub marked : List Decl → SoFar → Marked
marked ds js = record { graph = graph_of ds; waiting = who_wait ds js; settled = map is_fine js }

map_at : {A : Type 0} (f : A → List ℕ) (xs : List A) (n : ℕ) (x : A) → At xs n x → row (map f xs) n ≡ f x
map_at f [] n x h = none_some x h
map_at f (y ∷ xs) zero x h = ap f (some_same y x h)
map_at f (y ∷ xs) (suc n) x h = map_at f xs n x h

-- ---- a declaration is ready where its row is settled

same_truth : (a b : Bool) → (a ≡ true → b ≡ true) → (b ≡ true → a ≡ true) → a ≡ b
same_truth true b f g = sym (f refl)
same_truth false true f g = g refl
same_truth false false f g = refl

or_mark : (a b : Bool) → (not a || b) ≡ true → a ≡ true → b ≡ true
or_mark true b h k = h
or_mark false b h k = no k

mark_or : (a b : Bool) → (a ≡ true → b ≡ true) → (not a || b) ≡ true
mark_or true b f = f refl
mark_or false b f = refl

-- all that is used is well formed, by places
abbrev FineAt : Decl → List Decl → SoFar → Type 0
FineAt d es js = (k : ℕ) (e : Decl) → At es k e → uses_one_of d e ≡ true → has_mark (map is_fine js) k ≡ true

fine_at : (d : Decl) (es : List Decl) (js : SoFar) → all_fine d es js ≡ true → FineAt d es js
fine_at d [] js h k e a u = none_some e a
fine_at d (x ∷ es) [] h zero e a u =
    let p = both (not (uses_one_of d x)) (all_fine d es []) h in
    no (sym (not_true (uses_one_of d x) p.0) ∙ subst (λ z. uses_one_of d z ≡ true) (sym (some_same x e a)) u)
  where
    not_true : (b : Bool) → not b ≡ true → b ≡ false
    not_true true q = no q
    not_true false q = refl
fine_at d (x ∷ es) [] h (suc k) e a u = fine_at d es [] (both (not (uses_one_of d x)) (all_fine d es []) h).1 k e a u
fine_at d (x ∷ es) (j ∷ js) h zero e a u =
    let p = both (not (uses_one_of d x) || is_fine j) (all_fine d es js) h in
    or_mark (uses_one_of d x) (is_fine j) p.0 (subst (λ z. uses_one_of d z ≡ true) (sym (some_same x e a)) u)
fine_at d (x ∷ es) (j ∷ js) h (suc k) e a u = fine_at d es js (both (not (uses_one_of d x) || is_fine j) (all_fine d es js) h).1 k e a u

is_fine_at : (d : Decl) (es : List Decl) (js : SoFar) → FineAt d es js → all_fine d es js ≡ true
is_fine_at d [] js h = refl
is_fine_at d (x ∷ es) [] h =
    and_true (not (uses_one_of d x)) (all_fine d es []) (unused (uses_one_of d x) (h 0 x refl)) (is_fine_at d es [] (λ k. h (suc k)))
  where
    unused : (b : Bool) → (b ≡ true → false ≡ true) → not b ≡ true
    unused true f = no (f refl)
    unused false f = refl
is_fine_at d (x ∷ es) (j ∷ js) h =
    and_true (not (uses_one_of d x) || is_fine j) (all_fine d es js) (mark_or (uses_one_of d x) (is_fine j) (h 0 x refl))
    (is_fine_at d es js (λ k. h (suc k)))

marked_all : (marks : List Bool) (ns : List ℕ) → ((k : ℕ) → is_among k ns ≡ true → has_mark marks k ≡ true) → all_marked marks ns ≡ true
marked_all marks [] f = refl
marked_all marks (n ∷ ns) f =
    and_true (has_mark marks n) (all_marked marks ns) (f n (or_first (n == n) (is_among n ns) (eq-eqb n n refl)))
    (marked_all marks ns (λ k i. f k (or_second (n == k) (is_among k ns) i)))

module _ (ds : List Decl) (distinct : Distinct (all_declared ds)) where
  -- the row of the declaration at a place is settled where all that it uses is well formed
  row_settled : (js : SoFar) (n : ℕ) (d : Decl) → At ds n d → all_marked (map is_fine js) (row (graph_of ds) n) ≡ all_fine d ds js
  row_settled js n d a = same_truth (all_marked (map is_fine js) (row (graph_of ds) n)) (all_fine d ds js) there back
    where
      there : all_marked (map is_fine js) (row (graph_of ds) n) ≡ true → all_fine d ds js ≡ true
      there h =
          is_fine_at d ds js (λ k e b u. among_marked (map is_fine js) (row (graph_of ds) n) k h (edge_is ds distinct n k d e a b ∙ u))

      back : all_fine d ds js ≡ true → all_marked (map is_fine js) (row (graph_of ds) n) ≡ true
      back h = marked_all (map is_fine js) (row (graph_of ds) n) (λ k i.
          let e = edge_at ds distinct n k i in
          fine_at d ds js h k e.0 e.1 (sym (edge_is ds distinct n k d e.0 a e.1) ∙ i))

  -- ---- whose turn it is

  join_three : (a b c : Bool) → ((a && b) && c) ≡ (a && (b && c))
  join_three true b c = refl
  join_three false b c = refl

  -- these declarations stand behind so many of all
  abbrev Behind : ℕ → List Decl → Type 0
  Behind m xs = (k : ℕ) (x : Decl) → At xs k x → At ds (m + k) x

  next_behind : (m : ℕ) (x : Decl) (xs : List Decl) → Behind m (x ∷ xs) → Behind (suc m) xs
  next_behind m x xs b k y a = let e : m + suc k ≡ suc m + k = omega arith in subst (λ n. At ds n y) e (b (suc k) y a)

  ready_from : (js : SoFar) (m : ℕ) (xs : List Decl) (ks : SoFar) → Behind m xs →
      turns.first_ready (map is_fine js) m (graph_by (declarers ds) xs) (who_wait xs ks) ≡ rules.first_ready ds js m xs ks
  ready_from js m [] ks b = refl
  ready_from js m (x ∷ xs) [] b = refl
  ready_from js m (x ∷ xs) (k ∷ ks) b =
      ap (λ z. cond z (Some m) (turns.first_ready (map is_fine js) (suc m) (graph_by (declarers ds) xs) (who_wait xs ks)))
      (ap (λ z. (takes_turn x && is_waiting k) && z) (here b) ∙ join_three (takes_turn x) (is_waiting k) (all_fine x ds js))
      ∙ ap (cond (is_ready ds js x k) (Some m)) (ready_from js (suc m) xs ks (next_behind m x xs b))
    where
      here : Behind m (x ∷ xs) → all_marked (map is_fine js) (added (declarers ds) (uses x) []) ≡ all_fine x ds js
      here b =
          let e : m + 0 ≡ m = omega arith in
          let a = subst (λ n. At ds n x) e (b 0 x refl) in
          ap (all_marked (map is_fine js)) (sym (row_at x a)) ∙ row_settled js m x a
        where
          row_at : (x : Decl) → At ds m x → row (graph_of ds) m ≡ added (declarers ds) (uses x) []
          row_at x a = map_at (λ d. added (declarers ds) (uses d) []) ds m x a

  pub turn_is : (js : SoFar) → turns.next_turn (marked ds js) ≡ rules.next_turn ds js
  turn_is js = ready_from js 0 ds js all_behind
    where
      all_behind : Behind 0 ds
      all_behind k x a = let e : k ≡ 0 + k = omega arith in subst (λ n. At ds n x) e a

-- ---- the next state

-- the place of the one whose turn it is
pub record Chosen (ds : List Decl) (js : SoFar) (n : ℕ) : Type 0 where
  pub decl : Decl
  pub at : At ds n decl
  pub takes : takes_turn decl ≡ true
  pub waiting : At js n Waiting

record ChosenFrom (m n : ℕ) (xs : List Decl) (ks : SoFar) : Type 0 where
  place : ℕ
  is : n ≡ m + place
  chosen : Chosen xs ks place

chosen_from : (ds : List Decl) (js : SoFar) (m n : ℕ) (xs : List Decl) (ks : SoFar) → rules.first_ready ds js m xs ks ≡ Some n →
    ChosenFrom m n xs ks
chosen_from ds js m n [] ks h = none_some n h
chosen_from ds js m n (x ∷ xs) [] h = none_some n h
chosen_from ds js m n (x ∷ xs) (k ∷ ks) h = by (is_ready ds js x k) refl h (chosen_from ds js (suc m) n xs ks)
  where
    by : (b : Bool) → is_ready ds js x k ≡ b → cond b (Some m) (rules.first_ready ds js (suc m) xs ks) ≡ Some n →
        (rules.first_ready ds js (suc m) xs ks ≡ Some n → ChosenFrom (suc m) n xs ks) → ChosenFrom m n (x ∷ xs) (k ∷ ks)
    by true q h next =
        let r : m ≡ n = some_same m n h in
        let t = ready_turn ds js x k q in
        record { place = 0; is = omega (arith, r); chosen = record { decl = x; at = refl; takes = t.1.takes; waiting = ap Some t.0 } }
    by false q h next =
        let r = next h in
        let i : n ≡ suc m + r.place = r.is in
        let c = r.chosen in
        record {
          place = suc r.place;
          is = omega (arith, i);
          chosen = record { decl = c.decl; at = c.at; takes = c.takes; waiting = c.waiting };
        }

pub chosen : (ds : List Decl) (js : SoFar) (n : ℕ) → rules.next_turn ds js ≡ Some n → Chosen ds js n
chosen ds js n h =
    let r = chosen_from ds js 0 n ds js h in
    let i : n ≡ 0 + r.place = r.is in
    let e : r.place ≡ n = omega (arith, i) in
    subst (Chosen ds js) e r.chosen

and_none : (b : Bool) → (b && false) ≡ false
and_none true = refl
and_none false = refl

waits_no_more : (ds : List Decl) (js : SoFar) (n : ℕ) (k : Judged) → is_waiting k ≡ false →
    set (who_wait ds js) n false ≡ who_wait ds (set js n k)
waits_no_more [] js n k h = refl
waits_no_more (d ∷ ds) [] n k h = refl
waits_no_more (d ∷ ds) (j ∷ js) zero k h = ap (λ b. b ∷ who_wait ds js) (sym (ap (λ b. takes_turn d && b) h ∙ and_none (takes_turn d)))
waits_no_more (d ∷ ds) (j ∷ js) (suc n) k h = ap (λ bs. (takes_turn d && is_waiting j) ∷ bs) (waits_no_more ds js n k h)

set_same : {A : Type 0} (xs : List A) (n : ℕ) (x : A) → At xs n x → set xs n x ≡ xs
set_same [] n x h = refl
set_same (y ∷ xs) zero x h = ap (λ z. z ∷ xs) (sym (some_same y x h))
set_same (y ∷ xs) (suc n) x h = ap (λ zs. y ∷ zs) (set_same xs n x h)

map_some : {A B : Type 0} (f : A → B) (xs : List A) (n : ℕ) (x : A) → At xs n x → At (map f xs) n (f x)
map_some f [] n x h = none_some x h
map_some f (y ∷ xs) zero x h = ap (λ z. Some (f z)) (some_same y x h)
map_some f (y ∷ xs) (suc n) x h = map_some f xs n x h

with_marks : List Decl → List Bool → List Bool → Marked
with_marks ds ws ss = record { graph = graph_of ds; waiting = ws; settled = ss }

-- the declaration at a place was judged so, and is settled where it is well formed
pub marked_after : (ds : List Decl) (js : SoFar) (n : ℕ) (k : Judged) (m a : Marked) → At js n Waiting → is_waiting k ≡ false →
    m ≡ turns.turned (Some n) (marked ds js) → a ≡ cond (is_fine k) (with_settled n m) m → a ≡ marked ds (set js n k)
unfolding with_marks
marked_after ds js n k m a w h e q =
    q ∙ by (is_fine k) ∙ ap (with_marks ds (who_wait ds (set js n k))) (sym (map-set is_fine js n k))
  where
    by : (b : Bool) → cond b (with_settled n m) m ≡ with_marks ds (who_wait ds (set js n k)) (set (map is_fine js) n b)
    by true = ap (with_settled n) e ∙ ap (λ ws. with_marks ds ws (set (map is_fine js) n true)) (waits_no_more ds js n k h)
    by false =
        e ∙ ap (λ ws. with_marks ds ws (map is_fine js)) (waits_no_more ds js n k h)
        ∙ ap (with_marks ds (who_wait ds (set js n k))) (sym (set_same (map is_fine js) n false (map_some is_fine js n Waiting w)))

-- ---- before the first turn

and_so : (b : Bool) → (b && true) ≡ b
and_so true = refl
and_so false = refl

first_waiting : (bs : List Bool) (ds : List Decl) → turns_after bs ds ≡ bs ++ who_wait ds (all_waiting ds)
first_waiting bs [] = sym (append-nil bs)
first_waiting bs (d ∷ ds) =
    first_waiting (bs ++ takes_turn d ∷ []) ds
    ∙ append_assoc bs (takes_turn d ∷ []) (who_wait ds (all_waiting ds))
    ∙ ap (λ b. bs ++ b ∷ who_wait ds (all_waiting ds)) (sym (and_so (takes_turn d)))

first_settled : (t : Places) (ds : List Decl) → none_settled (graph_by t ds) ≡ map is_fine (all_waiting ds)
first_settled t [] = refl
first_settled t (d ∷ ds) = ap (λ bs. false ∷ bs) (first_settled t ds)

pub first_marked : (ds : List Decl) (g : Graph) (ws : List Bool) (m : Marked) → g ≡ graph_of ds → ws ≡ turns_after [] ds → m ≡ begun g ws →
    m ≡ marked ds (all_waiting ds)
unfolding with_marks
first_marked ds g ws m q w h =
    h ∙ ap (λ g. begun g ws) q ∙ ap (begun (graph_of ds)) (w ∙ first_waiting [] ds)
    ∙ ap (with_marks ds (who_wait ds (all_waiting ds))) (first_settled (declarers ds) ds)

-- no more wait than there are
pub few_wait : (ds : List Decl) (js : SoFar) → turns.waits (who_wait ds js) ≤ length ds
few_wait [] js = omega arith
few_wait (d ∷ ds) [] = omega arith
few_wait (d ∷ ds) (j ∷ js) = by (takes_turn d && is_waiting j) (few_wait ds js)
  where
    by : (b : Bool) → turns.waits (who_wait ds js) ≤ length ds → turns.waits (b ∷ who_wait ds js) ≤ length (d ∷ ds)
    by true h = omega (arith, h)
    by false h = omega (arith, h)
