-- The values that are given for fields, by the first places of their names.
use Rattle.std.proofs.Common.{◌≡◌, ℕ, zero, suc, Bool, true, false, List, [], ◌∷◌, map, cond, Option, Some, None, refl, sym, ap, ◌∙◌}
use Rattle.std.specs.Prelude.{option_map, slice_get}
use Rattle.std.specs.Str.{bytes_eq}
use Rattle.asl_rules.specs.declarations.Layouts.{place_of}
use Rattle.asl_rules.specs.values.Structures.{given_value}
use Rattle.asl_rules.specs.values.Values.{Value}
use Rattle.asl_value.specs.declared.value.Value as code
use Rattle.asl_value.specs.View.{value_of}
use Rattle.asl_names.specs.private.Firsts.{Places, first_place, placed}
use Rattle.asl_names.proofs.FirstLemmas.{place_is}

abbrev pub at : Option ℕ → List Value → Option Value
at None xs = None
at (Some i) xs = slice_get xs i

none_by : (b : Bool) (o : Option ℕ) → at o [] ≡ None → at (cond b (Some 0) (option_map (λ i. suc i) o)) [] ≡ None
none_by true o h = refl
none_by false None h = refl
none_by false (Some i) h = refl

none_at : (f : List ℕ) (ns : List (List ℕ)) → at (place_of f ns) [] ≡ None
none_at f [] = refl
none_at f (n ∷ ns) = none_by (bytes_eq n f) (place_of f ns) (none_at f ns)

first_by : (b : Bool) (x : Value) (xs : List Value) (o : Option ℕ) (p : Option Value) → p ≡ at o xs → cond b (Some x) p ≡ at (cond b (Some 0) (option_map (λ i. suc i) o)) (x ∷ xs)
first_by true x xs o p h = refl
first_by false x xs None p h = h
first_by false x xs (Some i) p h = h

pub given_at : (f : List ℕ) (ns : List (List ℕ)) (xs : List Value) → given_value f ns xs ≡ at (place_of f ns) xs
given_at f [] xs = refl
given_at f (n ∷ ns) [] = sym (none_at f (n ∷ ns))
given_at f (n ∷ ns) (x ∷ xs) = first_by (bytes_eq n f) x xs (place_of f ns) (given_value f ns xs) (given_at f ns xs)

place_known : (f : List ℕ) (ns : List (List ℕ)) (ps : Places) (o : Option ℕ) → ps ≡ placed ns 0 [] → o ≡ first_place f ps → place_of f ns ≡ o
place_known f ns ps o h e = sym (place_is f ns) ∙ (ap (first_place f) (sym h) ∙ sym e)

pub given_none : (f : List ℕ) (ns : List (List ℕ)) (xs : List Value) (ps : Places) (o : Option ℕ) → ps ≡ placed ns 0 [] → o ≡ first_place f ps → o ≡ None → None ≡ given_value f ns xs
given_none f ns xs ps o h e n = sym (given_at f ns xs ∙ ap (λ p. at p xs) (place_known f ns ps o h e ∙ n))

map_get : (xs : List code.Value) (i : ℕ) → option_map value_of (slice_get xs i) ≡ slice_get (map value_of xs) i
map_get [] i = refl
map_get (x ∷ xs) zero = refl
map_get (x ∷ xs) (suc i) = map_get xs i

twice : {A B C : Type 0} (f : A → B) (g : B → C) (o : Option A) → option_map (λ x. g (f x)) o ≡ option_map g (option_map f o)
twice f g None = refl
twice f g (Some x) = refl

pub given_some : {R : Type 0} (now : R → code.Value) (r : Option R) (f : List ℕ) (ns : List (List ℕ)) (xs : List code.Value) (ps : Places) (o : Option ℕ) (i : ℕ) → ps ≡ placed ns 0 [] → o ≡ first_place f ps → o ≡ Some i →
    option_map now r ≡ slice_get xs i → option_map (λ x. value_of (now x)) r ≡ given_value f ns (map value_of xs)
given_some now r f ns xs ps o i h e s g =
    twice now value_of r ∙ (ap (option_map value_of) g ∙ (map_get xs i ∙ sym (given_at f ns (map value_of xs) ∙ ap (λ p. at p (map value_of xs)) (place_known f ns ps o h e ∙ s))))
