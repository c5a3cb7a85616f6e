-- Lists of values that are made one behind another.
use Rattle.std.proofs.Common.{◌≡◌, List, [], ◌∷◌, ◌++◌, refl, sym, ap, ◌∙◌}
use Rattle.asl_rules.specs.values.Values as rules
use Rattle.asl_rules.specs.values.Values.{Values, no_value, value}
use Rattle.asl_value.specs.declared.value.Value.{Value}
use Rattle.asl_value.specs.View.{value_of, all_values}

-- values in front of others
abbrev pub in_front : List Value → Values → Values
in_front [] ys = ys
in_front (x ∷ xs) ys = value (value_of x) (in_front xs ys)

pub nothing_made : (all : Values) → all ≡ in_front [] all
nothing_made all = refl

in_front_more : (xs : List Value) (x : Value) (ys : Values) → in_front (xs ++ x ∷ []) ys ≡ in_front xs (value (value_of x) ys)
in_front_more [] x ys = refl
in_front_more (y ∷ xs) x ys = ap (value (value_of y)) (in_front_more xs x ys)

in_front_end : (xs : List Value) → in_front xs no_value ≡ all_values xs
in_front_end [] = refl
in_front_end (x ∷ xs) = ap (value (value_of x)) (in_front_end xs)

pub one_made : (made after : List Value) (y : Value) (v : rules.Value) (rest all more : Values) → value_of y ≡ v → after ≡ made ++ y ∷ [] → more ≡ value v rest → all ≡ in_front made more → all ≡ in_front after rest
one_made made after y v rest all more own grown is before =
    before ∙ ap (in_front made) is ∙ ap (λ w. in_front made (value w rest)) (sym own) ∙ sym (in_front_more made y rest) ∙ ap (λ l. in_front l rest) (sym grown)

pub all_made : (made : List Value) (all rest : Values) → rest ≡ no_value → all ≡ in_front made rest → all_values made ≡ all
all_made made all rest none before = sym (before ∙ ap (in_front made) none ∙ in_front_end made)
