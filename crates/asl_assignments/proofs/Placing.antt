-- Places and their suffixes: what is gathered of them one by one, and the parts of a tuple by their numbers.
use Rattle.std.proofs.Common.{◌≡◌, ℕ, zero, suc, ◌+◌, ◌<◌, ◌≤◌, length, get_or, drop, List, [], ◌∷◌, ◌++◌, map, Option, Some, None, Result, Ok, refl, sym, ap, ◌∙◌, append_assoc, arith}
use Rattle.std.proofs.lemmas.List.{drop_all}
use Rattle.asl_syn.specs.declared.code.Fault.{Fault}
use Rattle.asl_rules.specs.Faults.{◌>>=◌}
use Rattle.asl_rules.specs.statements.Targets.{TypedPlace, part_number}
use Rattle.asl_rules.specs.types.Types.{Ty}
use Rattle.asl_types.specs.View.{parts_of}
use Rattle.asl_blocks.specs.private.Walks.{led}
use Rattle.asl_assignments.proofs.Assigning.{led_whole}
use Rattle.asl_blocks.proofs.Chains.{then_same, then_itself, append_nothing, next_of}

-- ---- what is gathered of a list

-- one more of a list, of each of which some are gathered
pub gather_next : {X Y : Type 0} (R : List X → List Y) (r : X → List Y) → ((x : X) (xs : List X) → R (x ∷ xs) ≡ r x ++ R xs) →
    (xs : List X) (k : ℕ) (x : X) (old new whole : List Y) → k < length xs → x ≡ get_or xs k x → new ≡ old ++ r x → old ++ R (drop k xs) ≡ whole → new ++ R (drop (k + 1) xs) ≡ whole
gather_next R r each xs k x old new whole within here m inv =
    ap (λ l. l ++ R (drop (k + 1) xs)) m
    ∙ append_assoc old (r x) (R (drop (k + 1) xs))
    ∙ ap (λ l. old ++ l) (sym (each x (drop (k + 1) xs)))
    ∙ ap (λ rest. old ++ R rest) (sym (next_of xs k x within here))
    ∙ inv

-- and none more
pub gather_last : {X Y : Type 0} (R : List X → List Y) → R [] ≡ [] → (xs : List X) (k : ℕ) (old whole : List Y) → length xs ≤ k → old ++ R (drop k xs) ≡ whole → old ≡ whole
gather_last R none xs k old whole past inv =
    sym (append_nothing old) ∙ ap (λ l. old ++ l) (sym none) ∙ ap (λ rest. old ++ R rest) (sym (drop_all k xs past)) ∙ inv

-- ---- ways

-- the places of no way more, behind none
pub places_whole : (r : Result (List TypedPlace) Fault) → (r >>= λ ps. Ok ([] ++ led [] ps)) ≡ r
places_whole r = then_same r _ _ (λ ps. ap Ok (led_whole ps)) ∙ then_itself r

-- ---- parts of a tuple by their numbers

pub number_in : (Ts : List Ty) (n : ℕ) (T : Ty) → n < length Ts → T ≡ get_or Ts n T → Some T ≡ part_number n (parts_of Ts)
number_in [] n T within here = absurd (omega (arith, within))
number_in (S ∷ Ts) zero T within here = ap Some here
number_in (S ∷ Ts) (suc n) T within here = number_in Ts n T (omega (arith, within)) here

pub number_past : (Ts : List Ty) (n : ℕ) → length Ts ≤ n → None ≡ part_number n (parts_of Ts)
number_past [] zero past = refl
number_past [] (suc n) past = refl
number_past (S ∷ Ts) zero past = absurd (omega (arith, past))
number_past (S ∷ Ts) (suc n) past = number_past Ts n (omega (arith, past))
