-- Walks over a graph come to what there is a way to.
use Rattle.std.proofs.Common.{◌≡◌, ℕ, zero, suc, ◌+◌, ◌<◌, ◌≤◌, ◌⊎◌, inl, inr, Bool, true, false, List, [], ◌∷◌, ◌++◌, length, get_or, set, refl, sym, ap, ◌∙◌, subst, arith, append_assoc}
use Rattle.std.specs.Prelude.{◌==◌}
use Rattle.std.proofs.lemmas.Bool.{eqb-true}
use Rattle.std.proofs.lemmas.List.{append-nil}
use Rattle.asl_turns.specs.Graphs.{Graph, row, has_mark, all_marked, is_among}
use Rattle.asl_names.specs.private.Ways.{IsListed, is_way, HasWay, MarkedMore, Goes, FoundOne, MarkedTo, ClosedTo, Reached}
use Rattle.asl_turns.proofs.Marks.{among_marked, marked_more, mark_kept}
use Rattle.asl_rules.proofs.basics.Tests.{no, both, and_true, either, or_first, or_second}

pub way_last : (g : Graph) (ks : List ℕ) (n k m : ℕ) → is_way g n ks k ≡ true → is_among m (row g k) ≡ true → is_way g n (ks ++ k ∷ []) m ≡ true
way_last g [] n k m h i = and_true (is_among k (row g n)) (is_among m (row g k)) h i
way_last g (j ∷ ks) n k m h i =
    let p = both (is_among j (row g n)) (is_way g j ks k) h in
    and_true (is_among j (row g n)) (is_way g j (ks ++ k ∷ []) m) p.0 (way_last g ks j k m p.1 i)

pub way_on : (g : Graph) (n k m : ℕ) → HasWay g n k → is_among m (row g k) ≡ true → HasWay g n m
way_on g n k m w i = (w.0 ++ k ∷ [], way_last g w.0 n k m w.1 i)

-- where all that is used by what has a mark has one, so has all that there is a way to
pub way_marked : (g : Graph) (marks : List Bool) → ((k : ℕ) → has_mark marks k ≡ true → all_marked marks (row g k) ≡ true) → (ks : List ℕ) (n m : ℕ) → all_marked marks (row g n) ≡ true → is_way g n ks m ≡ true → has_mark marks m ≡ true
way_marked g marks f [] n m h w = among_marked marks (row g n) m h w
way_marked g marks f (k ∷ ks) n m h w =
    let p = both (is_among k (row g n)) (is_way g k ks m) w in
    way_marked g marks f ks k m (f k (among_marked marks (row g n) k h p.0)) p.1

-- ---- nodes at places of a list

pub place_of : (ns : List ℕ) (k : ℕ) → is_among k ns ≡ true → (i : ℕ) × (i < length ns) × (get_or ns i 0 ≡ k)
place_of [] k h = no h
place_of (n ∷ ns) k h = either (n == k) (is_among k ns) h (λ q. (0, omega arith, eqb-true n k q)) (λ q. let r = place_of ns k q in let l = r.1 in (suc r.0, omega (arith, l), r.2))

pub at_place : (ns more : List ℕ) (i : ℕ) → i < length ns → get_or (ns ++ more) i 0 ≡ get_or ns i 0
at_place [] more i h = absurd (omega (arith, h))
at_place (n ∷ ns) more zero h = refl
at_place (n ∷ ns) more (suc i) h = at_place ns more i (omega (arith, h))

pub closed_all : (g : Graph) (marks : List Bool) (nodes : List ℕ) (at : ℕ) → IsListed nodes marks → ClosedTo g marks nodes at → length nodes ≤ at → (k : ℕ) → has_mark marks k ≡ true → all_marked marks (row g k) ≡ true
closed_all g marks nodes at l c e k h =
    let p = place_of nodes k (sym (l k) ∙ h) in
    let s = p.1 in
    subst (λ n. all_marked marks (row g n) ≡ true) p.2 (c p.0 (omega (arith, s, e)))

up : (i at : ℕ) → (i < at) ⊎ (i ≡ at) → (suc i < suc at) ⊎ (suc i ≡ suc at)
up i at (inl a) = inl (omega (arith, a))
up i at (inr a) = inr (omega (arith, a))

pub below_or : (i at : ℕ) → i ≤ at → (i < at) ⊎ (i ≡ at)
below_or zero zero h = inr refl
below_or (suc i) zero h = absurd (omega (arith, h))
below_or zero (suc at) h = inl (omega arith)
below_or (suc i) (suc at) h = up i at (below_or i at (omega (arith, h)))

pub closed_next : (g : Graph) (marks more : List Bool) (nodes rest : List ℕ) (at : ℕ) → at < length nodes → ClosedTo g marks nodes at → ((k : ℕ) → has_mark marks k ≡ true → has_mark more k ≡ true) → all_marked more (row g (get_or nodes at 0)) ≡ true → ClosedTo g more (nodes ++ rest) (at + 1)
closed_next g marks more nodes rest at l c f h i j = by (below_or i at (omega (arith, j)))
  where
    by : (i < at) ⊎ (i ≡ at) → all_marked more (row g (get_or (nodes ++ rest) i 0)) ≡ true
    by (inl a) = subst (λ n. all_marked more (row g n) ≡ true) (sym (at_place nodes rest i (omega (arith, a, l)))) (marked_more marks more f (row g (get_or nodes i 0)) (c i a))
    by (inr a) = subst (λ n. all_marked more (row g (get_or (nodes ++ rest) n 0)) ≡ true) (sym a) (subst (λ n. all_marked more (row g n) ≡ true) (sym (at_place nodes rest at l)) h)

-- ---- one more that is found

pub among_split : (k : ℕ) (ms ns : List ℕ) → is_among k (ms ++ ns) ≡ true → (is_among k ms ≡ true) ⊎ (is_among k ns ≡ true)
among_split k [] ns h = inr h
among_split k (m ∷ ms) ns h = either (m == k) (is_among k (ms ++ ns)) h (λ q. inl (or_first (m == k) (is_among k ms) q)) (λ q. later (among_split k ms ns q))
  where
    later : (is_among k ms ≡ true) ⊎ (is_among k ns ≡ true) → (is_among k (m ∷ ms) ≡ true) ⊎ (is_among k ns ≡ true)
    later (inl q) = inl (or_second (m == k) (is_among k ms) q)
    later (inr q) = inr q

pub goes_none : (nodes ns : List ℕ) → Goes nodes ns nodes
goes_none nodes ns = ([], sym (append-nil nodes), λ k h. no h)

pub goes_more : (nodes ns all : List ℕ) (n : ℕ) → Goes nodes ns all → is_among n ns ≡ true → Goes nodes ns (all ++ n ∷ [])
goes_more nodes ns all n w h = (
  w.0 ++ n ∷ [],
  ap (λ l. l ++ n ∷ []) w.1 ∙ append_assoc nodes w.0 (n ∷ []),
  λ k i. by k (among_split k w.0 (n ∷ []) i),
)
  where
    by : (k : ℕ) → (is_among k w.0 ≡ true) ⊎ (is_among k (n ∷ []) ≡ true) → is_among k ns ≡ true
    by k (inl q) = w.2 k q
    by k (inr q) = either (n == k) false q (λ z. subst (λ m. is_among m ns ≡ true) (eqb-true n k z) h) (λ z. no z)

-- what is found by a way, and then what those use
pub goes_reached : (g : Graph) (start node : ℕ) (nodes all : List ℕ) → ((k : ℕ) → is_among k nodes ≡ true → HasWay g start k) → HasWay g start node → Goes nodes (row g node) all → (k : ℕ) → is_among k all ≡ true → HasWay g start k
goes_reached g start node nodes all f w q k i = by (among_split k nodes q.0 (subst (λ l. is_among k l ≡ true) q.1 i))
  where
    by : (is_among k nodes ≡ true) ⊎ (is_among k q.0 ≡ true) → HasWay g start k
    by (inl a) = f k a
    by (inr a) = way_on g start node k w (q.2 k a)

pub goes_first : (g : Graph) (start : ℕ) (all : List ℕ) → Goes [] (row g start) all → (k : ℕ) → is_among k all ≡ true → HasWay g start k
goes_first g start all q k i = ([], q.2 k (subst (λ l. is_among k l ≡ true) q.1 i))

pub set_more : (marks : List Bool) (n : ℕ) → n < length marks → MarkedMore marks (set marks n true)
set_more marks n l = mark_kept marks n

pub goes_one : (nodes ns all new : List ℕ) (n : ℕ) → Goes nodes ns all → FoundOne all n new → is_among n ns ≡ true → Goes nodes ns new
goes_one nodes ns all new n w (inl e) h = subst (Goes nodes ns) (sym e) w
goes_one nodes ns all new n w (inr e) h = subst (Goes nodes ns) (sym e) (goes_more nodes ns all n w h)

pub marked_to_next : (marks more : List Bool) (ns : List ℕ) (at n : ℕ) → MarkedTo marks ns at → MarkedMore marks more → n ≡ get_or ns at 0 → has_mark more n ≡ true → MarkedTo more ns (at + 1)
marked_to_next marks more ns at n t m e h i j = by (below_or i at (omega (arith, j)))
  where
    by : (i < at) ⊎ (i ≡ at) → has_mark more (get_or ns i 0) ≡ true
    by (inl a) = m (get_or ns i 0) (t i a)
    by (inr a) = subst (λ z. has_mark more (get_or ns z 0) ≡ true) (sym a) (subst (λ z. has_mark more z ≡ true) e h)

pub marked_to_all : (marks : List Bool) (ns : List ℕ) → MarkedTo marks ns (length ns) → all_marked marks ns ≡ true
marked_to_all marks [] t = refl
marked_to_all marks (n ∷ ns) t = and_true (has_mark marks n) (all_marked marks ns) (t 0 (omega arith)) (marked_to_all marks ns (λ i h. t (suc i) (omega (arith, h))))

pub more_trans : (a b c : List Bool) → MarkedMore a b → MarkedMore b c → MarkedMore a c
more_trans a b c f g k h = g k (f k h)

-- a mark is that of a way
pub mark_way : (g : Graph) (start : ℕ) (nodes : List ℕ) (marks : List Bool) → IsListed nodes marks → Reached g start nodes → (k : ℕ) → has_mark marks k ≡ true → HasWay g start k
mark_way g start nodes marks l r k h = r k (sym (l k) ∙ h)

pub way_mark : (g : Graph) (start : ℕ) (nodes : List ℕ) (marks : List Bool) (at : ℕ) → IsListed nodes marks → ClosedTo g marks nodes at → length nodes ≤ at → all_marked marks (row g start) ≡ true → (k : ℕ) → HasWay g start k → has_mark marks k ≡ true
way_mark g start nodes marks at l c e h k w = way_marked g marks (closed_all g marks nodes at l c e) w.0 start k h w.1

pub marked_to_end : (marks : List Bool) (ns : List ℕ) (at : ℕ) → MarkedTo marks ns at → length ns ≤ at → all_marked marks ns ≡ true
marked_to_end marks ns at t l = marked_to_all marks ns (λ i h. t i (omega (arith, h, l)))
