-- What the subprograms of the library give, by the parameters and the arguments that each takes.
use Rattle.std.proofs.Common.{◌≡◌, ◌≢◌, ℕ, suc, ◌==◌, Bool, true, false, List, [], ◌∷◌, length, get_or, Option, None, refl, ap, ◌∙◌, arith}
use Rattle.std.specs.Prelude.{ℤ, pos, map}
use Rattle.asl_syn.specs.declared.token.Span.{Span}
use Rattle.asl_bits.specs.Lists.{bits_value, signed_value}
use Rattle.asl_rules.specs.values.Library.{routine_value, all_equal, copies, extended, absolute, lesser, greater}
use Rattle.asl_rules.specs.values.Operators.{integer_of}
use Rattle.asl_rules.specs.declarations.Routines.{UInt, SInt, Zeros, Ones, ZeroExtend, SignExtend, IsZero, IsOnes, Len, Abs, Min, Max}
use Rattle.asl_rules.specs.values.Values.{Value, int, bool, bits_with, label, record_with, exception_with, tuple_with, array_with}
use Rattle.asl_rules.specs.runs.Plans.{Good}
use Rattle.asl_value.specs.declared.value.Value as code
use Rattle.asl_value.specs.View.{value_of}
use Rattle.asl_shape.specs.private.Arguments.{integer_in, bits_in, both, one_bits, one_integer, two_integers, beside_nothing, given}

-- ---- all that is given

pub not_one_bits : (xs : List code.Value) → length xs ≢ 1 → None ≡ one_bits (map value_of xs)
not_one_bits [] h = refl
not_one_bits (x ∷ []) h = absurd (h refl)
not_one_bits (x ∷ y ∷ xs) h = refl

pub not_one_integer : (xs : List code.Value) → length xs ≢ 1 → None ≡ one_integer (map value_of xs)
not_one_integer [] h = refl
not_one_integer (x ∷ []) h = absurd (h refl)
not_one_integer (x ∷ y ∷ xs) h = refl

pub not_two_integers : (xs : List code.Value) → length xs ≢ 2 → None ≡ two_integers (map value_of xs)
not_two_integers [] h = refl
not_two_integers (x ∷ []) h = refl
not_two_integers (x ∷ y ∷ []) h = absurd (h refl)
not_two_integers (x ∷ y ∷ z ∷ xs) h = refl

pub one_bits_is : (r : Option (List Bool)) (xs : List code.Value) (x : code.Value) → length xs ≡ 1 → x ≡ get_or xs 0 x → r ≡ bits_in (value_of x) → r ≡ one_bits (map value_of xs)
one_bits_is r [] x h e is = absurd (omega (arith, h))
one_bits_is r (y ∷ []) x h e is = is ∙ ap (λ z. bits_in (value_of z)) e
one_bits_is r (y ∷ z ∷ xs) x h e is = absurd (omega (arith, h))

pub one_integer_is : (r : Option ℤ) (xs : List code.Value) (x : code.Value) → length xs ≡ 1 → x ≡ get_or xs 0 x → r ≡ integer_in (value_of x) → r ≡ one_integer (map value_of xs)
one_integer_is r [] x h e is = absurd (omega (arith, h))
one_integer_is r (y ∷ []) x h e is = is ∙ ap (λ z. integer_in (value_of z)) e
one_integer_is r (y ∷ z ∷ xs) x h e is = absurd (omega (arith, h))

pub two_integers_are : (xs : List code.Value) (x y : code.Value) (p q : Option ℤ) → length xs ≡ 2 → x ≡ get_or xs 0 x → y ≡ get_or xs 1 y → p ≡ integer_in (value_of x) → q ≡ integer_in (value_of y) → both p q ≡ two_integers (map value_of xs)
two_integers_are [] x y p q h e f i j = absurd (omega (arith, h))
two_integers_are (a ∷ []) x y p q h e f i j = absurd (omega (arith, h))
two_integers_are (a ∷ b ∷ []) x y p q h e f i j = ap (λ o. both o q) (i ∙ ap (λ z. integer_in (value_of z)) e) ∙ ap (both (integer_in (value_of a))) (j ∙ ap (λ z. integer_in (value_of z)) f)
two_integers_are (a ∷ b ∷ c ∷ xs) x y p q h e f i j = absurd (omega (arith, h))

pub beside_none : {A : Type 0} (xs : List code.Value) (o : Option A) → (length xs == 0) ≡ true → beside_nothing (map value_of xs) o ≡ o
beside_none [] o h = refl
beside_none (x ∷ xs) o h = absurd (some_more (length xs) h)
  where
    some_more : (n : ℕ) → (suc n == 0) ≡ true → ⊥
    some_more n e = grind arith

pub beside_some : {A : Type 0} (xs : List code.Value) (o : Option A) → (length xs == 0) ≡ false → beside_nothing (map value_of xs) o ≡ None
beside_some [] o h = cc
beside_some (x ∷ xs) o h = refl

-- ---- what each gives

pub unsigned_is : (limit : ℕ) (span : Span) (ps xs : List Value) → routine_value limit span UInt ps xs ≡ given span (beside_nothing ps (one_bits xs)) (λ bs. integer_of span (pos (bits_value bs)))
unsigned_is limit span (p ∷ ps) xs = refl
unsigned_is limit span [] [] = refl
unsigned_is limit span [] (bits_with bs u ∷ []) = refl
unsigned_is limit span [] (bits_with bs u ∷ x ∷ xs) = refl
unsigned_is limit span [] (int z ∷ []) = refl
unsigned_is limit span [] (int z ∷ x ∷ xs) = refl
unsigned_is limit span [] (bool b ∷ []) = refl
unsigned_is limit span [] (bool b ∷ x ∷ xs) = refl
unsigned_is limit span [] (label n l ∷ []) = refl
unsigned_is limit span [] (label n l ∷ x ∷ xs) = refl
unsigned_is limit span [] (record_with n fs ∷ []) = refl
unsigned_is limit span [] (record_with n fs ∷ x ∷ xs) = refl
unsigned_is limit span [] (exception_with o s n fs ∷ []) = refl
unsigned_is limit span [] (exception_with o s n fs ∷ x ∷ xs) = refl
unsigned_is limit span [] (tuple_with ys ∷ []) = refl
unsigned_is limit span [] (tuple_with ys ∷ x ∷ xs) = refl
unsigned_is limit span [] (array_with k ys ∷ []) = refl
unsigned_is limit span [] (array_with k ys ∷ x ∷ xs) = refl

pub signed_is : (limit : ℕ) (span : Span) (ps xs : List Value) → routine_value limit span SInt ps xs ≡ given span (beside_nothing ps (one_bits xs)) (λ bs. integer_of span (signed_value bs))
signed_is limit span (p ∷ ps) xs = refl
signed_is limit span [] [] = refl
signed_is limit span [] (bits_with bs u ∷ []) = refl
signed_is limit span [] (bits_with bs u ∷ x ∷ xs) = refl
signed_is limit span [] (int z ∷ []) = refl
signed_is limit span [] (int z ∷ x ∷ xs) = refl
signed_is limit span [] (bool b ∷ []) = refl
signed_is limit span [] (bool b ∷ x ∷ xs) = refl
signed_is limit span [] (label n l ∷ []) = refl
signed_is limit span [] (label n l ∷ x ∷ xs) = refl
signed_is limit span [] (record_with n fs ∷ []) = refl
signed_is limit span [] (record_with n fs ∷ x ∷ xs) = refl
signed_is limit span [] (exception_with o s n fs ∷ []) = refl
signed_is limit span [] (exception_with o s n fs ∷ x ∷ xs) = refl
signed_is limit span [] (tuple_with ys ∷ []) = refl
signed_is limit span [] (tuple_with ys ∷ x ∷ xs) = refl
signed_is limit span [] (array_with k ys ∷ []) = refl
signed_is limit span [] (array_with k ys ∷ x ∷ xs) = refl

pub zero_is : (limit : ℕ) (span : Span) (ps xs : List Value) → routine_value limit span IsZero ps xs ≡ given span (beside_nothing ps (one_bits xs)) (λ bs. Good (bool (all_equal false bs)))
zero_is limit span (p ∷ ps) xs = refl
zero_is limit span [] [] = refl
zero_is limit span [] (bits_with bs u ∷ []) = refl
zero_is limit span [] (bits_with bs u ∷ x ∷ xs) = refl
zero_is limit span [] (int z ∷ []) = refl
zero_is limit span [] (int z ∷ x ∷ xs) = refl
zero_is limit span [] (bool b ∷ []) = refl
zero_is limit span [] (bool b ∷ x ∷ xs) = refl
zero_is limit span [] (label n l ∷ []) = refl
zero_is limit span [] (label n l ∷ x ∷ xs) = refl
zero_is limit span [] (record_with n fs ∷ []) = refl
zero_is limit span [] (record_with n fs ∷ x ∷ xs) = refl
zero_is limit span [] (exception_with o s n fs ∷ []) = refl
zero_is limit span [] (exception_with o s n fs ∷ x ∷ xs) = refl
zero_is limit span [] (tuple_with ys ∷ []) = refl
zero_is limit span [] (tuple_with ys ∷ x ∷ xs) = refl
zero_is limit span [] (array_with k ys ∷ []) = refl
zero_is limit span [] (array_with k ys ∷ x ∷ xs) = refl

pub ones_is : (limit : ℕ) (span : Span) (ps xs : List Value) → routine_value limit span IsOnes ps xs ≡ given span (beside_nothing ps (one_bits xs)) (λ bs. Good (bool (all_equal true bs)))
ones_is limit span (p ∷ ps) xs = refl
ones_is limit span [] [] = refl
ones_is limit span [] (bits_with bs u ∷ []) = refl
ones_is limit span [] (bits_with bs u ∷ x ∷ xs) = refl
ones_is limit span [] (int z ∷ []) = refl
ones_is limit span [] (int z ∷ x ∷ xs) = refl
ones_is limit span [] (bool b ∷ []) = refl
ones_is limit span [] (bool b ∷ x ∷ xs) = refl
ones_is limit span [] (label n l ∷ []) = refl
ones_is limit span [] (label n l ∷ x ∷ xs) = refl
ones_is limit span [] (record_with n fs ∷ []) = refl
ones_is limit span [] (record_with n fs ∷ x ∷ xs) = refl
ones_is limit span [] (exception_with o s n fs ∷ []) = refl
ones_is limit span [] (exception_with o s n fs ∷ x ∷ xs) = refl
ones_is limit span [] (tuple_with ys ∷ []) = refl
ones_is limit span [] (tuple_with ys ∷ x ∷ xs) = refl
ones_is limit span [] (array_with k ys ∷ []) = refl
ones_is limit span [] (array_with k ys ∷ x ∷ xs) = refl

pub width_is : (limit : ℕ) (span : Span) (ps xs : List Value) → routine_value limit span Len ps xs ≡ given span (beside_nothing ps (one_bits xs)) (λ bs. Good (int (pos (length bs))))
width_is limit span (p ∷ ps) xs = refl
width_is limit span [] [] = refl
width_is limit span [] (bits_with bs u ∷ []) = refl
width_is limit span [] (bits_with bs u ∷ x ∷ xs) = refl
width_is limit span [] (int z ∷ []) = refl
width_is limit span [] (int z ∷ x ∷ xs) = refl
width_is limit span [] (bool b ∷ []) = refl
width_is limit span [] (bool b ∷ x ∷ xs) = refl
width_is limit span [] (label n l ∷ []) = refl
width_is limit span [] (label n l ∷ x ∷ xs) = refl
width_is limit span [] (record_with n fs ∷ []) = refl
width_is limit span [] (record_with n fs ∷ x ∷ xs) = refl
width_is limit span [] (exception_with o s n fs ∷ []) = refl
width_is limit span [] (exception_with o s n fs ∷ x ∷ xs) = refl
width_is limit span [] (tuple_with ys ∷ []) = refl
width_is limit span [] (tuple_with ys ∷ x ∷ xs) = refl
width_is limit span [] (array_with k ys ∷ []) = refl
width_is limit span [] (array_with k ys ∷ x ∷ xs) = refl

pub zeros_is : (limit : ℕ) (span : Span) (ps xs : List Value) → routine_value limit span Zeros ps xs ≡ given span (beside_nothing xs (one_integer ps)) (λ w. copies limit span false w)
zeros_is limit span [] [] = refl
zeros_is limit span (int w ∷ []) [] = refl
zeros_is limit span (int w ∷ p ∷ ps) [] = refl
zeros_is limit span (bool b ∷ []) [] = refl
zeros_is limit span (bool b ∷ p ∷ ps) [] = refl
zeros_is limit span (bits_with bs u ∷ []) [] = refl
zeros_is limit span (bits_with bs u ∷ p ∷ ps) [] = refl
zeros_is limit span (label n l ∷ []) [] = refl
zeros_is limit span (label n l ∷ p ∷ ps) [] = refl
zeros_is limit span (record_with n fs ∷ []) [] = refl
zeros_is limit span (record_with n fs ∷ p ∷ ps) [] = refl
zeros_is limit span (exception_with o s n fs ∷ []) [] = refl
zeros_is limit span (exception_with o s n fs ∷ p ∷ ps) [] = refl
zeros_is limit span (tuple_with ys ∷ []) [] = refl
zeros_is limit span (tuple_with ys ∷ p ∷ ps) [] = refl
zeros_is limit span (array_with k ys ∷ []) [] = refl
zeros_is limit span (array_with k ys ∷ p ∷ ps) [] = refl
zeros_is limit span [] (x ∷ xs) = refl
zeros_is limit span (int w ∷ []) (x ∷ xs) = refl
zeros_is limit span (int w ∷ p ∷ ps) (x ∷ xs) = refl
zeros_is limit span (bool b ∷ []) (x ∷ xs) = refl
zeros_is limit span (bool b ∷ p ∷ ps) (x ∷ xs) = refl
zeros_is limit span (bits_with bs u ∷ []) (x ∷ xs) = refl
zeros_is limit span (bits_with bs u ∷ p ∷ ps) (x ∷ xs) = refl
zeros_is limit span (label n l ∷ []) (x ∷ xs) = refl
zeros_is limit span (label n l ∷ p ∷ ps) (x ∷ xs) = refl
zeros_is limit span (record_with n fs ∷ []) (x ∷ xs) = refl
zeros_is limit span (record_with n fs ∷ p ∷ ps) (x ∷ xs) = refl
zeros_is limit span (exception_with o s n fs ∷ []) (x ∷ xs) = refl
zeros_is limit span (exception_with o s n fs ∷ p ∷ ps) (x ∷ xs) = refl
zeros_is limit span (tuple_with ys ∷ []) (x ∷ xs) = refl
zeros_is limit span (tuple_with ys ∷ p ∷ ps) (x ∷ xs) = refl
zeros_is limit span (array_with k ys ∷ []) (x ∷ xs) = refl
zeros_is limit span (array_with k ys ∷ p ∷ ps) (x ∷ xs) = refl

pub copied_ones_is : (limit : ℕ) (span : Span) (ps xs : List Value) → routine_value limit span Ones ps xs ≡ given span (beside_nothing xs (one_integer ps)) (λ w. copies limit span true w)
copied_ones_is limit span [] [] = refl
copied_ones_is limit span (int w ∷ []) [] = refl
copied_ones_is limit span (int w ∷ p ∷ ps) [] = refl
copied_ones_is limit span (bool b ∷ []) [] = refl
copied_ones_is limit span (bool b ∷ p ∷ ps) [] = refl
copied_ones_is limit span (bits_with bs u ∷ []) [] = refl
copied_ones_is limit span (bits_with bs u ∷ p ∷ ps) [] = refl
copied_ones_is limit span (label n l ∷ []) [] = refl
copied_ones_is limit span (label n l ∷ p ∷ ps) [] = refl
copied_ones_is limit span (record_with n fs ∷ []) [] = refl
copied_ones_is limit span (record_with n fs ∷ p ∷ ps) [] = refl
copied_ones_is limit span (exception_with o s n fs ∷ []) [] = refl
copied_ones_is limit span (exception_with o s n fs ∷ p ∷ ps) [] = refl
copied_ones_is limit span (tuple_with ys ∷ []) [] = refl
copied_ones_is limit span (tuple_with ys ∷ p ∷ ps) [] = refl
copied_ones_is limit span (array_with k ys ∷ []) [] = refl
copied_ones_is limit span (array_with k ys ∷ p ∷ ps) [] = refl
copied_ones_is limit span [] (x ∷ xs) = refl
copied_ones_is limit span (int w ∷ []) (x ∷ xs) = refl
copied_ones_is limit span (int w ∷ p ∷ ps) (x ∷ xs) = refl
copied_ones_is limit span (bool b ∷ []) (x ∷ xs) = refl
copied_ones_is limit span (bool b ∷ p ∷ ps) (x ∷ xs) = refl
copied_ones_is limit span (bits_with bs u ∷ []) (x ∷ xs) = refl
copied_ones_is limit span (bits_with bs u ∷ p ∷ ps) (x ∷ xs) = refl
copied_ones_is limit span (label n l ∷ []) (x ∷ xs) = refl
copied_ones_is limit span (label n l ∷ p ∷ ps) (x ∷ xs) = refl
copied_ones_is limit span (record_with n fs ∷ []) (x ∷ xs) = refl
copied_ones_is limit span (record_with n fs ∷ p ∷ ps) (x ∷ xs) = refl
copied_ones_is limit span (exception_with o s n fs ∷ []) (x ∷ xs) = refl
copied_ones_is limit span (exception_with o s n fs ∷ p ∷ ps) (x ∷ xs) = refl
copied_ones_is limit span (tuple_with ys ∷ []) (x ∷ xs) = refl
copied_ones_is limit span (tuple_with ys ∷ p ∷ ps) (x ∷ xs) = refl
copied_ones_is limit span (array_with k ys ∷ []) (x ∷ xs) = refl
copied_ones_is limit span (array_with k ys ∷ p ∷ ps) (x ∷ xs) = refl

pub zero_extended_is : (limit : ℕ) (span : Span) (ps xs : List Value) → routine_value limit span ZeroExtend ps xs ≡ given span (one_integer ps) (λ w. given span (one_bits xs) (λ bs. extended limit span false w bs))
zero_extended_is limit span [] xs = refl
zero_extended_is limit span (int w ∷ p ∷ ps) xs = refl
zero_extended_is limit span (int w ∷ []) [] = refl
zero_extended_is limit span (int w ∷ []) (bits_with bs u ∷ []) = refl
zero_extended_is limit span (int w ∷ []) (bits_with bs u ∷ x ∷ xs) = refl
zero_extended_is limit span (int w ∷ []) (int z ∷ []) = refl
zero_extended_is limit span (int w ∷ []) (int z ∷ x ∷ xs) = refl
zero_extended_is limit span (int w ∷ []) (bool b ∷ []) = refl
zero_extended_is limit span (int w ∷ []) (bool b ∷ x ∷ xs) = refl
zero_extended_is limit span (int w ∷ []) (label n l ∷ []) = refl
zero_extended_is limit span (int w ∷ []) (label n l ∷ x ∷ xs) = refl
zero_extended_is limit span (int w ∷ []) (record_with n fs ∷ []) = refl
zero_extended_is limit span (int w ∷ []) (record_with n fs ∷ x ∷ xs) = refl
zero_extended_is limit span (int w ∷ []) (exception_with o s n fs ∷ []) = refl
zero_extended_is limit span (int w ∷ []) (exception_with o s n fs ∷ x ∷ xs) = refl
zero_extended_is limit span (int w ∷ []) (tuple_with ys ∷ []) = refl
zero_extended_is limit span (int w ∷ []) (tuple_with ys ∷ x ∷ xs) = refl
zero_extended_is limit span (int w ∷ []) (array_with k ys ∷ []) = refl
zero_extended_is limit span (int w ∷ []) (array_with k ys ∷ x ∷ xs) = refl
zero_extended_is limit span (bool b ∷ []) xs = refl
zero_extended_is limit span (bool b ∷ p ∷ ps) xs = refl
zero_extended_is limit span (bits_with bs u ∷ []) xs = refl
zero_extended_is limit span (bits_with bs u ∷ p ∷ ps) xs = refl
zero_extended_is limit span (label n l ∷ []) xs = refl
zero_extended_is limit span (label n l ∷ p ∷ ps) xs = refl
zero_extended_is limit span (record_with n fs ∷ []) xs = refl
zero_extended_is limit span (record_with n fs ∷ p ∷ ps) xs = refl
zero_extended_is limit span (exception_with o s n fs ∷ []) xs = refl
zero_extended_is limit span (exception_with o s n fs ∷ p ∷ ps) xs = refl
zero_extended_is limit span (tuple_with ys ∷ []) xs = refl
zero_extended_is limit span (tuple_with ys ∷ p ∷ ps) xs = refl
zero_extended_is limit span (array_with k ys ∷ []) xs = refl
zero_extended_is limit span (array_with k ys ∷ p ∷ ps) xs = refl

pub sign_extended_is : (limit : ℕ) (span : Span) (ps xs : List Value) → routine_value limit span SignExtend ps xs ≡ given span (one_integer ps) (λ w. given span (one_bits xs) (λ bs. extended limit span true w bs))
sign_extended_is limit span [] xs = refl
sign_extended_is limit span (int w ∷ p ∷ ps) xs = refl
sign_extended_is limit span (int w ∷ []) [] = refl
sign_extended_is limit span (int w ∷ []) (bits_with bs u ∷ []) = refl
sign_extended_is limit span (int w ∷ []) (bits_with bs u ∷ x ∷ xs) = refl
sign_extended_is limit span (int w ∷ []) (int z ∷ []) = refl
sign_extended_is limit span (int w ∷ []) (int z ∷ x ∷ xs) = refl
sign_extended_is limit span (int w ∷ []) (bool b ∷ []) = refl
sign_extended_is limit span (int w ∷ []) (bool b ∷ x ∷ xs) = refl
sign_extended_is limit span (int w ∷ []) (label n l ∷ []) = refl
sign_extended_is limit span (int w ∷ []) (label n l ∷ x ∷ xs) = refl
sign_extended_is limit span (int w ∷ []) (record_with n fs ∷ []) = refl
sign_extended_is limit span (int w ∷ []) (record_with n fs ∷ x ∷ xs) = refl
sign_extended_is limit span (int w ∷ []) (exception_with o s n fs ∷ []) = refl
sign_extended_is limit span (int w ∷ []) (exception_with o s n fs ∷ x ∷ xs) = refl
sign_extended_is limit span (int w ∷ []) (tuple_with ys ∷ []) = refl
sign_extended_is limit span (int w ∷ []) (tuple_with ys ∷ x ∷ xs) = refl
sign_extended_is limit span (int w ∷ []) (array_with k ys ∷ []) = refl
sign_extended_is limit span (int w ∷ []) (array_with k ys ∷ x ∷ xs) = refl
sign_extended_is limit span (bool b ∷ []) xs = refl
sign_extended_is limit span (bool b ∷ p ∷ ps) xs = refl
sign_extended_is limit span (bits_with bs u ∷ []) xs = refl
sign_extended_is limit span (bits_with bs u ∷ p ∷ ps) xs = refl
sign_extended_is limit span (label n l ∷ []) xs = refl
sign_extended_is limit span (label n l ∷ p ∷ ps) xs = refl
sign_extended_is limit span (record_with n fs ∷ []) xs = refl
sign_extended_is limit span (record_with n fs ∷ p ∷ ps) xs = refl
sign_extended_is limit span (exception_with o s n fs ∷ []) xs = refl
sign_extended_is limit span (exception_with o s n fs ∷ p ∷ ps) xs = refl
sign_extended_is limit span (tuple_with ys ∷ []) xs = refl
sign_extended_is limit span (tuple_with ys ∷ p ∷ ps) xs = refl
sign_extended_is limit span (array_with k ys ∷ []) xs = refl
sign_extended_is limit span (array_with k ys ∷ p ∷ ps) xs = refl

pub absolute_is : (limit : ℕ) (span : Span) (ps xs : List Value) → routine_value limit span Abs ps xs ≡ given span (beside_nothing ps (one_integer xs)) (λ z. integer_of span (absolute z))
absolute_is limit span (p ∷ ps) xs = refl
absolute_is limit span [] [] = refl
absolute_is limit span [] (int z ∷ []) = refl
absolute_is limit span [] (int z ∷ x ∷ xs) = refl
absolute_is limit span [] (bool b ∷ []) = refl
absolute_is limit span [] (bool b ∷ x ∷ xs) = refl
absolute_is limit span [] (bits_with bs u ∷ []) = refl
absolute_is limit span [] (bits_with bs u ∷ x ∷ xs) = refl
absolute_is limit span [] (label n l ∷ []) = refl
absolute_is limit span [] (label n l ∷ x ∷ xs) = refl
absolute_is limit span [] (record_with n fs ∷ []) = refl
absolute_is limit span [] (record_with n fs ∷ x ∷ xs) = refl
absolute_is limit span [] (exception_with o s n fs ∷ []) = refl
absolute_is limit span [] (exception_with o s n fs ∷ x ∷ xs) = refl
absolute_is limit span [] (tuple_with ys ∷ []) = refl
absolute_is limit span [] (tuple_with ys ∷ x ∷ xs) = refl
absolute_is limit span [] (array_with k ys ∷ []) = refl
absolute_is limit span [] (array_with k ys ∷ x ∷ xs) = refl

pub lesser_is : (limit : ℕ) (span : Span) (ps xs : List Value) → routine_value limit span Min ps xs ≡ given span (beside_nothing ps (two_integers xs)) (λ p. Good (int (lesser p.0 p.1)))
lesser_is limit span (p ∷ ps) xs = refl
lesser_is limit span [] [] = refl
lesser_is limit span [] (int a ∷ []) = refl
lesser_is limit span [] (int a ∷ int b ∷ []) = refl
lesser_is limit span [] (int a ∷ int b ∷ x ∷ xs) = refl
lesser_is limit span [] (int a ∷ bool b ∷ []) = refl
lesser_is limit span [] (int a ∷ bool b ∷ x ∷ xs) = refl
lesser_is limit span [] (int a ∷ bits_with bs u ∷ []) = refl
lesser_is limit span [] (int a ∷ bits_with bs u ∷ x ∷ xs) = refl
lesser_is limit span [] (int a ∷ label n l ∷ []) = refl
lesser_is limit span [] (int a ∷ label n l ∷ x ∷ xs) = refl
lesser_is limit span [] (int a ∷ record_with n fs ∷ []) = refl
lesser_is limit span [] (int a ∷ record_with n fs ∷ x ∷ xs) = refl
lesser_is limit span [] (int a ∷ exception_with o s n fs ∷ []) = refl
lesser_is limit span [] (int a ∷ exception_with o s n fs ∷ x ∷ xs) = refl
lesser_is limit span [] (int a ∷ tuple_with ys ∷ []) = refl
lesser_is limit span [] (int a ∷ tuple_with ys ∷ x ∷ xs) = refl
lesser_is limit span [] (int a ∷ array_with k ys ∷ []) = refl
lesser_is limit span [] (int a ∷ array_with k ys ∷ x ∷ xs) = refl
lesser_is limit span [] (bool b ∷ []) = refl
lesser_is limit span [] (bool b ∷ x ∷ []) = refl
lesser_is limit span [] (bool b ∷ x ∷ y ∷ xs) = refl
lesser_is limit span [] (bits_with bs u ∷ []) = refl
lesser_is limit span [] (bits_with bs u ∷ x ∷ []) = refl
lesser_is limit span [] (bits_with bs u ∷ x ∷ y ∷ xs) = refl
lesser_is limit span [] (label n l ∷ []) = refl
lesser_is limit span [] (label n l ∷ x ∷ []) = refl
lesser_is limit span [] (label n l ∷ x ∷ y ∷ xs) = refl
lesser_is limit span [] (record_with n fs ∷ []) = refl
lesser_is limit span [] (record_with n fs ∷ x ∷ []) = refl
lesser_is limit span [] (record_with n fs ∷ x ∷ y ∷ xs) = refl
lesser_is limit span [] (exception_with o s n fs ∷ []) = refl
lesser_is limit span [] (exception_with o s n fs ∷ x ∷ []) = refl
lesser_is limit span [] (exception_with o s n fs ∷ x ∷ y ∷ xs) = refl
lesser_is limit span [] (tuple_with ys ∷ []) = refl
lesser_is limit span [] (tuple_with ys ∷ x ∷ []) = refl
lesser_is limit span [] (tuple_with ys ∷ x ∷ y ∷ xs) = refl
lesser_is limit span [] (array_with k ys ∷ []) = refl
lesser_is limit span [] (array_with k ys ∷ x ∷ []) = refl
lesser_is limit span [] (array_with k ys ∷ x ∷ y ∷ xs) = refl

pub greater_is : (limit : ℕ) (span : Span) (ps xs : List Value) → routine_value limit span Max ps xs ≡ given span (beside_nothing ps (two_integers xs)) (λ p. Good (int (greater p.0 p.1)))
greater_is limit span (p ∷ ps) xs = refl
greater_is limit span [] [] = refl
greater_is limit span [] (int a ∷ []) = refl
greater_is limit span [] (int a ∷ int b ∷ []) = refl
greater_is limit span [] (int a ∷ int b ∷ x ∷ xs) = refl
greater_is limit span [] (int a ∷ bool b ∷ []) = refl
greater_is limit span [] (int a ∷ bool b ∷ x ∷ xs) = refl
greater_is limit span [] (int a ∷ bits_with bs u ∷ []) = refl
greater_is limit span [] (int a ∷ bits_with bs u ∷ x ∷ xs) = refl
greater_is limit span [] (int a ∷ label n l ∷ []) = refl
greater_is limit span [] (int a ∷ label n l ∷ x ∷ xs) = refl
greater_is limit span [] (int a ∷ record_with n fs ∷ []) = refl
greater_is limit span [] (int a ∷ record_with n fs ∷ x ∷ xs) = refl
greater_is limit span [] (int a ∷ exception_with o s n fs ∷ []) = refl
greater_is limit span [] (int a ∷ exception_with o s n fs ∷ x ∷ xs) = refl
greater_is limit span [] (int a ∷ tuple_with ys ∷ []) = refl
greater_is limit span [] (int a ∷ tuple_with ys ∷ x ∷ xs) = refl
greater_is limit span [] (int a ∷ array_with k ys ∷ []) = refl
greater_is limit span [] (int a ∷ array_with k ys ∷ x ∷ xs) = refl
greater_is limit span [] (bool b ∷ []) = refl
greater_is limit span [] (bool b ∷ x ∷ []) = refl
greater_is limit span [] (bool b ∷ x ∷ y ∷ xs) = refl
greater_is limit span [] (bits_with bs u ∷ []) = refl
greater_is limit span [] (bits_with bs u ∷ x ∷ []) = refl
greater_is limit span [] (bits_with bs u ∷ x ∷ y ∷ xs) = refl
greater_is limit span [] (label n l ∷ []) = refl
greater_is limit span [] (label n l ∷ x ∷ []) = refl
greater_is limit span [] (label n l ∷ x ∷ y ∷ xs) = refl
greater_is limit span [] (record_with n fs ∷ []) = refl
greater_is limit span [] (record_with n fs ∷ x ∷ []) = refl
greater_is limit span [] (record_with n fs ∷ x ∷ y ∷ xs) = refl
greater_is limit span [] (exception_with o s n fs ∷ []) = refl
greater_is limit span [] (exception_with o s n fs ∷ x ∷ []) = refl
greater_is limit span [] (exception_with o s n fs ∷ x ∷ y ∷ xs) = refl
greater_is limit span [] (tuple_with ys ∷ []) = refl
greater_is limit span [] (tuple_with ys ∷ x ∷ []) = refl
greater_is limit span [] (tuple_with ys ∷ x ∷ y ∷ xs) = refl
greater_is limit span [] (array_with k ys ∷ []) = refl
greater_is limit span [] (array_with k ys ∷ x ∷ []) = refl
greater_is limit span [] (array_with k ys ∷ x ∷ y ∷ xs) = refl
