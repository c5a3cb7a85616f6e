-- What operators give of their operands' values: a value, a fault, or none.
use Rattle.std.specs.Prelude.{ℕ, ◌^◌, ◌+◌, ◌==◌, ℤ, pos, negsuc, ◌+ℤ◌, ◌-ℤ◌, ◌*ℤ◌, Bool, true, false, not, ◌&&◌, ◌||◌, if◌then◌else◌, nat_lt, nat_le, List, [], ◌∷◌, ◌++◌, length, map}
use Rattle.std.specs.Int.{int_pow}
use Rattle.std.specs.Str.{bytes_eq}
use Rattle.asl_syn.specs.declared.token.Span.{Span}
use Rattle.asl_syn.specs.declared.code.DynCode.TheVariants.{D01, D02, D03, D04, D14}
use Rattle.asl_syn.specs.declared.tree.UnaryOperator.{UnaryOperator}
use Rattle.asl_syn.specs.declared.tree.UnaryOperator.TheVariants as unary
use Rattle.asl_syn.specs.declared.tree.BinaryOperator.{BinaryOperator}
use Rattle.asl_syn.specs.declared.tree.BinaryOperator.TheVariants as binary
use Rattle.asl_num.specs.Exact.{floor_div, floor_mod}
use Rattle.asl_bits.specs.Lists.{bits_value, int_bits, both, and_bit, or_bit, xor_bit}
use Rattle.asl_rules.specs.values.Values.{Value, int, bool, bits_with, label}
use Rattle.asl_rules.specs.runs.Plans.{Faulted, Stuck, WrongKind, Pure, Good, Bad}

-- from -2^127 to 2^127 - 1
abbrev pub in_range : ℤ → Bool
in_range (pos n) = nat_lt n (2 ^ 127)
in_range (negsuc n) = nat_lt n (2 ^ 127)

abbrev pub less : ℤ → ℤ → Bool
less (pos a) (pos b) = nat_lt a b
less (pos a) (negsuc b) = false
less (negsuc a) (pos b) = true
less (negsuc a) (negsuc b) = nat_lt b a

abbrev pub same : ℤ → ℤ → Bool
same (pos a) (pos b) = a == b
same (pos a) (negsuc b) = false
same (negsuc a) (pos b) = false
same (negsuc a) (negsuc b) = a == b

abbrev pub same_bool : Bool → Bool → Bool
same_bool true b = b
same_bool false b = not b

-- an integer, D01 past the range
abbrev pub integer_of : Span → ℤ → Pure Value
integer_of span z = if in_range z then Good (int z) else Bad (Faulted D01 span)

-- exact division by a number above 0: D03 where there is a remainder
abbrev pub quotient : Span → ℤ → ℕ → Pure Value
quotient span a n = if floor_mod a n == 0 then Good (int (floor_div a n)) else Bad (Faulted D03 span)

-- a divisor is above 0, else D02
abbrev pub divided : Span → ℤ → (ℕ → Pure Value) → Pure Value
divided span (pos n) f = if nat_lt 0 n then f n else Bad (Faulted D02 span)
divided span (negsuc n) f = Bad (Faulted D02 span)

-- the right operand of a power or a shift is at least 0, else D04
abbrev pub raised : Span → ℤ → (ℕ → Pure Value) → Pure Value
raised span (pos n) f = f n
raised span (negsuc n) f = Bad (Faulted D04 span)

-- an operator on integers
abbrev pub of_integers : Span → BinaryOperator → ℤ → ℤ → Pure Value
of_integers span binary.Equal a b = Good (bool (same a b))
of_integers span binary.NotEqual a b = Good (bool (not (same a b)))
of_integers span binary.Less a b = Good (bool (less a b))
of_integers span binary.LessEqual a b = Good (bool (not (less b a)))
of_integers span binary.Greater a b = Good (bool (less b a))
of_integers span binary.GreaterEqual a b = Good (bool (not (less a b)))
of_integers span binary.Add a b = integer_of span (a +ℤ b)
of_integers span binary.Subtract a b = integer_of span (a -ℤ b)
of_integers span binary.Multiply a b = integer_of span (a *ℤ b)
of_integers span binary.DivideExact a b = divided span b (quotient span a)
of_integers span binary.DivideFloor a b = divided span b (λ n. Good (int (floor_div a n)))
of_integers span binary.Modulo a b = divided span b (λ n. Good (int (pos (floor_mod a n))))
of_integers span binary.ShiftLeft a b = raised span b (λ n. integer_of span (a *ℤ pos (2 ^ n)))
of_integers span binary.ShiftRight a b = raised span b (λ n. Good (int (floor_div a (2 ^ n))))
of_integers span binary.Power a b = raised span b (λ n. integer_of span (int_pow a n))
of_integers span o a b = Bad (Stuck WrongKind span)

-- an operator on booleans, both of which were evaluated
abbrev pub of_booleans : Span → BinaryOperator → Bool → Bool → Pure Value
of_booleans span binary.LogicalAnd a b = Good (bool (a && b))
of_booleans span binary.LogicalOr a b = Good (bool (a || b))
of_booleans span binary.Implies a b = Good (bool (not a || b))
of_booleans span binary.Equivalent a b = Good (bool (same_bool a b))
of_booleans span binary.Equal a b = Good (bool (same_bool a b))
of_booleans span binary.NotEqual a b = Good (bool (not (same_bool a b)))
of_booleans span o a b = Bad (Stuck WrongKind span)

-- an operator on labels of one enumeration
abbrev pub of_labels : Span → BinaryOperator → Bool → Pure Value
of_labels span binary.Equal same = Good (bool same)
of_labels span binary.NotEqual same = Good (bool (not same))
of_labels span o same = Bad (Stuck WrongKind span)

abbrev pub of_one_enumeration : Span → BinaryOperator → Bool → Bool → Pure Value
of_one_enumeration span o true same = of_labels span o same
of_one_enumeration span o false same = Bad (Stuck WrongKind span)

-- ---- bits

abbrev pub same_bits : List Bool → List Bool → Bool
same_bits [] [] = true
same_bits [] (b ∷ ys) = false
same_bits (a ∷ xs) [] = false
same_bits (a ∷ xs) (b ∷ ys) = same_bool a b && same_bits xs ys

-- bits without bitfields
abbrev pub plain_bits : List Bool → Value
plain_bits bs = bits_with bs []

-- the second behind the first, which is on top: D14 past the width limit
abbrev pub concatenated : ℕ → Span → List Bool → List Bool → Pure Value
concatenated limit span a b = if nat_le (length a + length b) limit then Good (plain_bits (b ++ a)) else Bad (Faulted D14 span)

-- an operator on bits of one width
abbrev pub of_one_width : Span → BinaryOperator → List Bool → List Bool → Pure Value
of_one_width span binary.Equal a b = Good (bool (same_bits a b))
of_one_width span binary.NotEqual a b = Good (bool (not (same_bits a b)))
of_one_width span binary.Add a b = Good (plain_bits (int_bits (length a) (pos (bits_value a) +ℤ pos (bits_value b))))
of_one_width span binary.Subtract a b = Good (plain_bits (int_bits (length a) (pos (bits_value a) -ℤ pos (bits_value b))))
of_one_width span binary.BitAnd a b = Good (plain_bits (both and_bit a b))
of_one_width span binary.BitOr a b = Good (plain_bits (both or_bit a b))
of_one_width span binary.BitXor a b = Good (plain_bits (both xor_bit a b))
of_one_width span o a b = Bad (Stuck WrongKind span)

abbrev pub of_bits : ℕ → Span → BinaryOperator → List Bool → List Bool → Pure Value
of_bits limit span binary.Concatenate a b = concatenated limit span a b
of_bits limit span o a b = if length a == length b then of_one_width span o a b else Bad (Stuck WrongKind span)

-- an operator on bits and an integer, which counts modulo 2^width
abbrev pub of_bits_and_integer : Span → BinaryOperator → List Bool → ℤ → Pure Value
of_bits_and_integer span binary.Add a z = Good (plain_bits (int_bits (length a) (pos (bits_value a) +ℤ z)))
of_bits_and_integer span binary.Subtract a z = Good (plain_bits (int_bits (length a) (pos (bits_value a) -ℤ z)))
of_bits_and_integer span o a z = Bad (Stuck WrongKind span)

abbrev pub binary_value : ℕ → Span → BinaryOperator → Value → Value → Pure Value
binary_value limit span o (int a) (int b) = of_integers span o a b
binary_value limit span o (bool a) (bool b) = of_booleans span o a b
binary_value limit span o (bits_with a u) (bits_with b v) = of_bits limit span o a b
binary_value limit span o (bits_with a u) (int z) = of_bits_and_integer span o a z
binary_value limit span o (label m a) (label n b) = of_one_enumeration span o (bytes_eq m n) (bytes_eq a b)
binary_value limit span o x y = Bad (Stuck WrongKind span)

abbrev pub unary_value : Span → UnaryOperator → Value → Pure Value
unary_value span unary.Negate (int a) = integer_of span (pos 0 -ℤ a)
unary_value span unary.Not (bool a) = Good (bool (not a))
unary_value span unary.Complement (bits_with a v) = Good (plain_bits (map not a))
unary_value span o x = Bad (Stuck WrongKind span)

-- a value that has to be a boolean
abbrev pub truth : Span → Value → Pure Bool
truth span (bool b) = Good b
truth span x = Bad (Stuck WrongKind span)

-- how `&&`, `||` and `-->` go on behind a left operand: the value that it decides, or the right operand is asked
pub data Decided : Type 0 where
  Already : Bool → Decided
  ByRight : Decided

abbrev pub decides : Bool → Bool → Decided
decides true b = Already b
decides false b = ByRight

-- whether an operator may be decided by its left operand, and how this value decides it
pub data Strictness : Type 0 where
  Strict : Strictness
  Lazy : (Bool → Decided) → Strictness

abbrev pub strictness : BinaryOperator → Strictness
strictness binary.LogicalAnd = Lazy (λ a. decides (not a) false)
strictness binary.LogicalOr = Lazy (λ a. decides a true)
strictness binary.Implies = Lazy (λ a. decides (not a) true)
strictness o = Strict
