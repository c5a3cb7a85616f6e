-- Marks, and the nodes that are listed with them.
use Rattle.std.proofs.Common.{◌≡◌, ◌≢◌, ℕ, zero, suc, ◌+◌, ◌<◌, Bool, true, false, ◌||◌, List, [], ◌∷◌, ◌++◌, length, get_or, set, replicate, refl, sym, ap, ◌∙◌, subst, arith, get_or-set_same, get_or-set_other}
use Rattle.std.proofs.lemmas.Bool.{eqb-true, eqb-false}
use Rattle.std.specs.Prelude.{◌==◌}
use Rattle.asl_turns.specs.Graphs.{has_mark, is_among}
use Rattle.asl_names.specs.private.Ways.{unmarked, IsListed, room}
use Rattle.asl_rules.proofs.basics.Tests.{no}
use Rattle.asl_turns.proofs.Marks.{among_last}

-- ---- one more mark

pub unmarked_set : (marks : List Bool) (n : ℕ) → n < length marks → has_mark marks n ≡ false → 1 + unmarked (set marks n true) ≡ unmarked marks
unmarked_set [] n l h = absurd (omega (arith, l))
unmarked_set (true ∷ marks) zero l h = no (sym h)
unmarked_set (false ∷ marks) zero l h = refl
unmarked_set (true ∷ marks) (suc n) l h = unmarked_set marks n (omega (arith, l)) h
unmarked_set (false ∷ marks) (suc n) l h = let e = unmarked_set marks n (omega (arith, l)) h in omega (arith, e)

among_other : (n m : ℕ) (ns : List ℕ) → (n == m) ≡ false → is_among m (ns ++ n ∷ []) ≡ is_among m ns
among_other n m [] h = ap (λ b. b || false) h
among_other n m (k ∷ ns) h = ap (λ b. (k == m) || b) (among_other n m ns h)

pub listed_more : (nodes : List ℕ) (marks : List Bool) (n : ℕ) → n < length marks → IsListed nodes marks → IsListed (nodes ++ n ∷ []) (set marks n true)
listed_more nodes marks n l h = λ m. by m (n == m) refl
  where
    by : (m : ℕ) (b : Bool) → (n == m) ≡ b → has_mark (set marks n true) m ≡ is_among m (nodes ++ n ∷ [])
    by m true e =
        let q = eqb-true n m e in
        subst (λ k. has_mark (set marks n true) k ≡ is_among k (nodes ++ n ∷ [])) q (get_or-set_same marks n true false l ∙ sym (among_last n nodes))
    by m false e =
        let q : m ≢ n = λ z. eqb-false n m e (sym z) in
        get_or-set_other marks n m true false q ∙ h m ∙ sym (among_other n m nodes e)

pub room_same : (nodes : List ℕ) (marks : List Bool) (n : ℕ) → n < length marks → has_mark marks n ≡ false → room (nodes ++ n ∷ []) (set marks n true) ≡ room nodes marks
room_same nodes marks n l h = let e = unmarked_set marks n l h in let q = length_last nodes n in omega (arith, e, q)
  where
    length_last : (ns : List ℕ) (n : ℕ) → length (ns ++ n ∷ []) ≡ length ns + 1
    length_last [] n = refl
    length_last (m ∷ ns) n = omega (arith, length_last ns n)

-- ---- none at first

none_listed : (count n : ℕ) → get_or (replicate count false) n false ≡ false
none_listed zero n = refl
none_listed (suc count) zero = refl
none_listed (suc count) (suc n) = none_listed count n

pub listed_none : (count : ℕ) → IsListed [] (replicate count false)
listed_none count = none_listed count
