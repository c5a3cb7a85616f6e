-- The values of storage and the variables, exchanged one by one.
use Rattle.std.proofs.Common.{◌≡◌, ℕ, zero, suc, ◌<◌, Bool, true, false, List, [], ◌∷◌, ◌++◌, length, take, drop, map, refl, sym, ap, ◌∙◌, arith}
use Rattle.std.proofs.lemmas.List.{take-append-drop}
use Rattle.asl_value.specs.declared.value.Value.{Value}
use Rattle.asl_machine.specs.Storage.{given_one, given, taken}
use Rattle.asl_machine.specs.declared.memory.GlobalVar.{GlobalVar}

-- ---- all were exchanged

given_none : (ms : List Bool) (vs : List GlobalVar) → given ms [] vs ≡ []
given_none [] vs = refl
given_none (m ∷ ms) vs = refl

taken_none : (ms : List Bool) (vs : List GlobalVar) → taken ms [] vs ≡ vs
taken_none [] vs = refl
taken_none (m ∷ ms) vs = refl

-- at the end of the marks, or of the values, the rest is as it is
ended_given : (i : ℕ) (ms : List Bool) (xs : List Value) (vs : List GlobalVar) → (i < length ms → i < length xs → ⊥) → given (drop i ms) (drop i xs) vs ≡ drop i xs
ended_given zero [] xs vs h = refl
ended_given (suc i) [] xs vs h = refl
ended_given zero (m ∷ ms) [] vs h = refl
ended_given (suc i) (m ∷ ms) [] vs h = given_none (drop i ms) vs
ended_given zero (m ∷ ms) (x ∷ xs) vs h = absurd (h (omega arith) (omega arith))
ended_given (suc i) (m ∷ ms) (x ∷ xs) vs h = ended_given i ms xs vs (λ p q. h (omega (arith, p)) (omega (arith, q)))

ended_taken : (i : ℕ) (ms : List Bool) (xs : List Value) (vs : List GlobalVar) → (i < length ms → i < length xs → ⊥) → taken (drop i ms) (drop i xs) vs ≡ vs
ended_taken zero [] xs vs h = refl
ended_taken (suc i) [] xs vs h = refl
ended_taken zero (m ∷ ms) [] vs h = refl
ended_taken (suc i) (m ∷ ms) [] vs h = taken_none (drop i ms) vs
ended_taken zero (m ∷ ms) (x ∷ xs) vs h = absurd (h (omega arith) (omega arith))
ended_taken (suc i) (m ∷ ms) (x ∷ xs) vs h = ended_taken i ms xs vs (λ p q. h (omega (arith, p)) (omega (arith, q)))

pub given_all : (i k : ℕ) (ms : List Bool) (xs : List Value) (vs : List GlobalVar) → (i < length ms → i < length xs → ⊥) → take i xs ++ given (drop i ms) (drop i xs) (drop k vs) ≡ xs
given_all i k ms xs vs h = ap (λ z. take i xs ++ z) (ended_given i ms xs (drop k vs) h) ∙ take-append-drop i xs

pub taken_all : (i k : ℕ) (ms : List Bool) (xs : List Value) (vs : List GlobalVar) → (i < length ms → i < length xs → ⊥) → take k vs ++ taken (drop i ms) (drop i xs) (drop k vs) ≡ vs
taken_all i k ms xs vs h = ap (λ z. take k vs ++ z) (ended_taken i ms xs (drop k vs) h) ∙ take-append-drop k vs

-- ---- what an exchange leaves

none_taken : (ms : List Bool) (xs : List Value) → taken ms xs [] ≡ []
none_taken [] xs = refl
none_taken (m ∷ ms) [] = refl
none_taken (false ∷ ms) (x ∷ xs) = none_taken ms xs
none_taken (true ∷ ms) (x ∷ xs) = none_taken ms xs

-- the values that were given again are those that were taken
pub back : (ms : List Bool) (xs : List Value) (vs : List GlobalVar) → given ms (given ms xs vs) (taken ms xs vs) ≡ xs
back [] xs vs = refl
back (m ∷ ms) [] vs = refl
back (false ∷ ms) (x ∷ xs) vs = ap (λ z. x ∷ z) (back ms xs vs)
back (true ∷ ms) (x ∷ xs) [] =
    ap (λ ws. given_one true x ws (given ms (given ms xs []))) (none_taken ms xs) ∙ ap (λ z. x ∷ z) (ap (λ ws. given ms (given ms xs []) ws) (sym (none_taken ms xs)) ∙ back ms xs [])
back (true ∷ ms) (x ∷ xs) (v ∷ vs) = ap (λ z. x ∷ z) (back ms xs vs)

pub same_room : (ms : List Bool) (xs : List Value) (vs : List GlobalVar) → length (given ms xs vs) ≡ length xs
same_room [] xs vs = refl
same_room (m ∷ ms) [] vs = refl
same_room (false ∷ ms) (x ∷ xs) vs = ap suc (same_room ms xs vs)
same_room (true ∷ ms) (x ∷ xs) [] = ap suc (same_room ms xs [])
same_room (true ∷ ms) (x ∷ xs) (v ∷ vs) = ap suc (same_room ms xs vs)

abbrev pub names : List GlobalVar → List (List ℕ)
names vs = map (λ (v : GlobalVar). v.name) vs

pub same_names : (ms : List Bool) (xs : List Value) (vs : List GlobalVar) → names (taken ms xs vs) ≡ names vs
same_names [] xs vs = refl
same_names (m ∷ ms) [] vs = refl
same_names (false ∷ ms) (x ∷ xs) vs = same_names ms xs vs
same_names (true ∷ ms) (x ∷ xs) [] = same_names ms xs []
same_names (true ∷ ms) (x ∷ xs) (v ∷ vs) = ap (λ z. v.name ∷ z) (same_names ms xs vs)
