-- So many of a value.
use Rattle.std.proofs.Common.{◌≡◌, ℕ, zero, suc, ◌+◌, List, [], ◌∷◌, ◌++◌, refl, ap, ◌∙◌, arith}
use Rattle.asl_rules.specs.values.Values as rules
use Rattle.asl_value.specs.declared.value.Value.{Value}
use Rattle.asl_value.specs.View.{value_of, all_values}

abbrev pub times : {A : Type 0} → ℕ → A → List A
times zero x = []
times (suc n) x = x ∷ times n x

pub times_next : {A : Type 0} (n : ℕ) (x : A) → times n x ++ x ∷ [] ≡ times (suc n) x
times_next zero x = refl
times_next (suc n) x = ap (λ xs. x ∷ xs) (times_next n x)

pub times_more : (n : ℕ) (x y : Value) (made after : List Value) → made ≡ times n x → after ≡ made ++ y ∷ [] → y ≡ x → after ≡ times (n + 1) x
times_more n x y made after before grown same =
    let up : suc n ≡ n + 1 = omega arith in
    grown ∙ ap (λ l. l ++ y ∷ []) before ∙ ap (λ z. times n x ++ z ∷ []) same ∙ times_next n x ∙ ap (λ m. times m x) up

pub all_of_times : (n : ℕ) (x : Value) (made : List Value) → made ≡ times n x → all_values made ≡ rules.repeated n (value_of x)
all_of_times n x made h = ap all_values h ∙ each n
  where
    each : (m : ℕ) → all_values (times m x) ≡ rules.repeated m (value_of x)
    each zero = refl
    each (suc m) = ap (rules.value (value_of x)) (each m)
