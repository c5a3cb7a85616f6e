-- Marks that are set, and nodes that rows have.
use Rattle.std.proofs.Common.{⊎_elim, ◌≡◌, ℕ, zero, suc, ◌+◌, ◌<◌, ◌≤◌, Bool, true, false, ◌&&◌, ◌==◌, List, [], ◌∷◌, ◌++◌, length, get_or, set, drop, refl, ap, subst, ◌∙◌, arith}
use Rattle.std.proofs.lemmas.List.{drop_more, drop_all}
use Rattle.std.proofs.lemmas.Bool.{false≢true, eq-eqb, eqb-true, and_parts, and_from, or_cases, or_left, or_right}
use Rattle.asl_turns.specs.Graphs.{row, has_mark, all_marked, is_among}
use Rattle.asl_turns.specs.Turns.{waits}

-- ---- writes

pub set_past : {A : Type 0} → (xs : List A) (i : ℕ) (a : A) → length xs ≤ i → set xs i a ≡ xs
set_past [] i a l = refl
set_past (x ∷ xs) zero a l = absurd (omega (arith, l))
set_past (x ∷ xs) (suc i) a l = ap (λ ys. x ∷ ys) (set_past xs i a (omega (arith, l)))

-- one mark more takes none away
pub mark_kept : (marks : List Bool) (n k : ℕ) → has_mark marks k ≡ true → has_mark (set marks n true) k ≡ true
mark_kept [] n k h = h
mark_kept (b ∷ marks) zero zero h = refl
mark_kept (b ∷ marks) zero (suc k) h = h
mark_kept (b ∷ marks) (suc n) zero h = h
mark_kept (b ∷ marks) (suc n) (suc k) h = mark_kept marks n k h

pub marked_more : (marks more : List Bool) → ((k : ℕ) → has_mark marks k ≡ true → has_mark more k ≡ true) →
    (ns : List ℕ) → all_marked marks ns ≡ true → all_marked more ns ≡ true
marked_more marks more f [] h = refl
marked_more marks more f (n ∷ ns) h =
    let p = and_parts (has_mark marks n) (all_marked marks ns) h in
    and_from (has_mark more n) (all_marked more ns) (f n p.0) (marked_more marks more f ns p.1)

pub one_waits_less : (ws : List Bool) (n : ℕ) → has_mark ws n ≡ true → 1 + waits (set ws n false) ≡ waits ws
one_waits_less [] n h = absurd (false≢true h)
one_waits_less (true ∷ ws) zero h = refl
one_waits_less (false ∷ ws) zero h = absurd (false≢true h)
one_waits_less (true ∷ ws) (suc n) h = let e = one_waits_less ws n h in omega (arith, e)
one_waits_less (false ∷ ws) (suc n) h = one_waits_less ws n h

-- ---- nodes of a row

pub among_marked : (marks : List Bool) (ns : List ℕ) (k : ℕ) → all_marked marks ns ≡ true → is_among k ns ≡ true → has_mark marks k ≡ true
among_marked marks [] k h i = absurd (false≢true i)
among_marked marks (n ∷ ns) k h i =
    let p = and_parts (has_mark marks n) (all_marked marks ns) h in
    ⊎_elim (λ e. subst (λ m. has_mark marks m ≡ true) (eqb-true n k e) p.0) (among_marked marks ns k p.1)
    (or_cases (n == k) (is_among k ns) i)

pub among_place : (ns : List ℕ) (i : ℕ) → i < length ns → is_among (get_or ns i 0) ns ≡ true
among_place [] i l = absurd (omega (arith, l))
among_place (n ∷ ns) zero l = or_left (n == n) (is_among n ns) (eq-eqb n n refl)
among_place (n ∷ ns) (suc i) l = or_right (n == get_or ns i 0) (is_among (get_or ns i 0) ns) (among_place ns i (omega (arith, l)))

pub among_last : (n : ℕ) (ns : List ℕ) → is_among n (ns ++ n ∷ []) ≡ true
among_last n [] = or_left (n == n) false (eq-eqb n n refl)
among_last n (m ∷ ns) = or_right (m == n) (is_among n (ns ++ n ∷ [])) (among_last n ns)

pub among_front : (n : ℕ) (ns ms : List ℕ) → is_among n ns ≡ true → is_among n (ns ++ ms) ≡ true
among_front n [] ms h = absurd (false≢true h)
among_front n (m ∷ ns) ms h =
    ⊎_elim (or_left (m == n) (is_among n (ns ++ ms))) (λ r. or_right (m == n) (is_among n (ns ++ ms)) (among_front n ns ms r))
    (or_cases (m == n) (is_among n ns) h)

-- a row is written over by one that keeps this node
pub among_kept : (rows : List (List ℕ)) (at k n : ℕ) (r : List ℕ) → (is_among n (row rows at) ≡ true → is_among n r ≡ true) →
    is_among n (row rows k) ≡ true → is_among n (row (set rows at r) k) ≡ true
among_kept [] at k n r f h = h
among_kept (x ∷ rows) zero zero n r f h = f h
among_kept (x ∷ rows) zero (suc k) n r f h = h
among_kept (x ∷ rows) (suc at) zero n r f h = h
among_kept (x ∷ rows) (suc at) (suc k) n r f h = among_kept rows at k n r f h

-- ---- a walk along a row

pub marked_next : (marks : List Bool) (ns : List ℕ) (i : ℕ) → i < length ns → has_mark marks (get_or ns i 0) ≡ true →
    all_marked marks (drop i ns) ≡ all_marked marks (drop (i + 1) ns)
marked_next marks ns i l h = ap (all_marked marks) (drop_more ns i 0 l) ∙ ap (λ b. b && all_marked marks (drop (i + 1) ns)) h

pub marked_end : (marks : List Bool) (ns : List ℕ) (i : ℕ) → length ns ≤ i → all_marked marks (drop i ns) ≡ true
marked_end marks ns i l = ap (all_marked marks) (drop_all i ns l)
