-- Stacks whose newest is last in the code and first in the rules, and what is cut off them.
use Rattle.std.proofs.Common.{◌≡◌, ◌≤◌, ℕ, List, [], ◌∷◌, ◌++◌, length, take, map, refl, sym, ap, ◌∙◌, arith, length-take}
use Rattle.std.specs.Prelude.{reverse}
use Rattle.std.proofs.lemmas.List.{length-map, map-append, reverse-append, take-map}
use Rattle.asl_value.specs.declared.value.Value.{Value as Stored}
use Rattle.asl_value.specs.View.{value_of}

-- one that is pushed is the first
pub pushed_first : {A B : Type 0} (f : A → B) (xs : List A) (x : A) → reverse (map f (xs ++ x ∷ [])) ≡ f x ∷ reverse (map f xs)
pushed_first f xs x = ap (λ l. reverse l) (map-append f xs (x ∷ [])) ∙ reverse-append (map f xs) (f x ∷ [])

pub pushed_id : (xs : List ℕ) (x : ℕ) → reverse (xs ++ x ∷ []) ≡ x ∷ reverse xs
pushed_id xs x = reverse-append xs (x ∷ [])

-- what was pushed is cut again
pub cut_again : {A : Type 0} (xs : List A) (x : A) → take (length xs) (xs ++ x ∷ []) ≡ xs
cut_again [] x = refl
cut_again (y ∷ ys) x = ap (λ l. y ∷ l) (cut_again ys x)

-- ---- exceptions that are being handled

pub handled_more : (xs ys : List Stored) (x : Stored) → ys ≡ xs ++ x ∷ [] → reverse (map value_of ys) ≡ value_of x ∷ reverse (map value_of xs)
handled_more xs ys x e = ap (λ l. reverse (map value_of l)) e ∙ pushed_first value_of xs x

pub handled_back : (xs ys : List Stored) (x : Stored) → ys ≡ xs ++ x ∷ [] → take (length xs) ys ≡ xs
handled_back xs ys x e = ap (λ l. take (length xs) l) e ∙ cut_again xs x

-- ---- the values of a frame

pub cut_values : (xs ys : List Stored) → map value_of (take (length xs) ys) ≡ take (length (map value_of xs)) (map value_of ys)
cut_values xs ys = sym (ap (λ n. take n (map value_of ys)) (length-map xs value_of) ∙ take-map value_of (length xs) ys)

pub cut_height : {A : Type 0} (n : ℕ) (xs : List A) → length (take n xs) ≤ n
cut_height n xs = omega (arith, length-take n xs)
