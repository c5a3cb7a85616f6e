-- Values without bitfields, and with those of others.
use Rattle.std.proofs.Common.{◌≡◌, ℕ, zero, suc, ◌+◌, ◌<◌, ◌≤◌, Bool, true, false, List, [], ◌∷◌, ◌++◌, length, get_or, drop, refl, sym, ap, ◌∙◌, arith}
use Rattle.std.specs.Prelude.{◌||◌}
use Rattle.asl_rules.specs.values.Values as rules
use Rattle.asl_rules.specs.values.Values.{Values, no_value, value}
use Rattle.asl_rules.specs.types.Views.{stripped, all_stripped, adopted, all_adopted}
use Rattle.asl_value.specs.declared.value.Value.{Value}
use Rattle.asl_rules.specs.private.HoldsBits.{has_bits, have_bits}
use Rattle.asl_value.specs.private.Keeping.{adopted_at}
use Rattle.asl_value.specs.View.{value_of, all_values}
use Rattle.asl_value.proofs.Among.{at_front, none_after}
use Rattle.asl_value.proofs.Lists.{in_front, one_made, all_made}

-- ---- whether there are bits

pub bits_here : (xs : List Value) (i : ℕ) (x : Value) → i < length xs → x ≡ get_or xs i x → have_bits (all_values xs) ≡ have_bits (all_values (drop i xs)) → has_bits (value_of x) ≡ true → have_bits (all_values xs) ≡ true
bits_here xs i x within here before some = before ∙ ap (λ l. have_bits (all_values l)) (at_front xs i x within here) ∙ ap (λ b. b || have_bits (all_values (drop (i + 1) xs))) some

pub bits_later : (xs : List Value) (i : ℕ) (x : Value) → i < length xs → x ≡ get_or xs i x → have_bits (all_values xs) ≡ have_bits (all_values (drop i xs)) → has_bits (value_of x) ≡ false → have_bits (all_values xs) ≡ have_bits (all_values (drop (i + 1) xs))
bits_later xs i x within here before none = before ∙ ap (λ l. have_bits (all_values l)) (at_front xs i x within here) ∙ ap (λ b. b || have_bits (all_values (drop (i + 1) xs))) none

pub bits_none : (xs : List Value) (i : ℕ) → length xs ≤ i → have_bits (all_values xs) ≡ have_bits (all_values (drop i xs)) → have_bits (all_values xs) ≡ false
bits_none xs i past before = before ∙ ap (λ l. have_bits (all_values l)) (none_after xs i past)

-- ---- one item more

pub stripped_made : (xs made after : List Value) (i : ℕ) (x y : Value) (all : Values) → i < length xs → x ≡ get_or xs i x → value_of y ≡ stripped (value_of x) → after ≡ made ++ y ∷ [] → all ≡ in_front made (all_stripped (all_values (drop i xs)))
    → all ≡ in_front after (all_stripped (all_values (drop (i + 1) xs)))
stripped_made xs made after i x y all within here own grown before =
    one_made made after y (stripped (value_of x)) (all_stripped (all_values (drop (i + 1) xs))) all _ own grown (ap (λ l. all_stripped (all_values l)) (at_front xs i x within here)) before

pub all_stripped_made : (xs made : List Value) (i : ℕ) (all : Values) → length xs ≤ i → all ≡ in_front made (all_stripped (all_values (drop i xs))) → all_values made ≡ all
all_stripped_made xs made i all past before = all_made made all _ (ap (λ l. all_stripped (all_values l)) (none_after xs i past)) before

pub adopted_there : (xs : List Value) (i : ℕ) (x : Value) (y : rules.Value) → i < length xs → x ≡ get_or xs i x → adopted_at i xs y ≡ adopted (value_of x) y
adopted_there [] i x y h e = absurd (omega (arith, h))
adopted_there (z ∷ xs) zero x y h e = ap (λ u. adopted (value_of u) y) (sym e)
adopted_there (z ∷ xs) (suc i) x y h e = adopted_there xs i x y (omega (arith, h)) e

pub adopted_past : (xs : List Value) (i : ℕ) (y : rules.Value) → length xs ≤ i → adopted_at i xs y ≡ y
adopted_past [] i y h = refl
adopted_past (x ∷ xs) zero y h = absurd (omega (arith, h))
adopted_past (x ∷ xs) (suc i) y h = adopted_past xs i y (omega (arith, h))

adopted_none : (xs : Values) → all_adopted xs no_value ≡ no_value
adopted_none no_value = refl
adopted_none (value x xs) = refl

adopted_from : (xs : List Value) (i : ℕ) (y : rules.Value) (rest : Values) → all_adopted (all_values (drop i xs)) (value y rest) ≡ value (adopted_at i xs y) (all_adopted (all_values (drop (suc i) xs)) rest)
adopted_from [] zero y rest = refl
adopted_from [] (suc i) y rest = refl
adopted_from (x ∷ xs) zero y rest = refl
adopted_from (x ∷ xs) (suc i) y rest = adopted_from xs i y rest

pub adopted_made : (xs ys made after : List Value) (i : ℕ) (y z : Value) (all : Values) → i < length ys → y ≡ get_or ys i y → value_of z ≡ adopted_at i xs (value_of y) → after ≡ made ++ z ∷ [] → all ≡ in_front made (all_adopted (all_values (drop i xs)) (all_values (drop i ys)))
    → all ≡ in_front after (all_adopted (all_values (drop (i + 1) xs)) (all_values (drop (i + 1) ys)))
adopted_made xs ys made after i y z all within here own grown before =
    let up : suc i ≡ i + 1 = omega arith in
    one_made made after z (adopted_at i xs (value_of y)) (all_adopted (all_values (drop (i + 1) xs)) (all_values (drop (i + 1) ys))) all _ own grown
    (ap (λ l. all_adopted (all_values (drop i xs)) (all_values l)) (at_front ys i y within here) ∙ adopted_from xs i (value_of y) (all_values (drop (i + 1) ys)) ∙
    ap (λ n. value (adopted_at i xs (value_of y)) (all_adopted (all_values (drop n xs)) (all_values (drop (i + 1) ys)))) up) before

pub all_adopted_made : (xs ys made : List Value) (i : ℕ) (all : Values) → length ys ≤ i → all ≡ in_front made (all_adopted (all_values (drop i xs)) (all_values (drop i ys))) → all_values made ≡ all
all_adopted_made xs ys made i all past before = all_made made all _ (ap (λ l. all_adopted (all_values (drop i xs)) (all_values l)) (none_after ys i past) ∙ adopted_none (all_values (drop i xs))) before
