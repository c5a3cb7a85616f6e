-- Bitvectors as lists of bits, lowest first.
use Rattle.std.specs.Prelude.{ℕ, zero, suc, ◌+◌, ◌-◌, ◌*◌, ◌/◌, ◌%◌, ◌^◌, List, [], ◌∷◌, ◌++◌, length, take, drop, replicate, Bool, false, not, ◌&&◌, ◌||◌, ◌==◌, ℤ, pos, ◌-ℤ◌, if◌then◌else◌}
use Rattle.std.proofs.Common.{get_or}
use Rattle.std.specs.Int.{from_bool}
use Rattle.asl_num.specs.Exact.{floor_mod}

-- the number that bits are read as
unfoldable pub bits_value : List Bool → ℕ
bits_value [] = 0
bits_value (b ∷ bs) = from_bool b + 2 * bits_value bs

-- the lowest w bits of a number
unfoldable pub bits_of : ℕ → ℕ → List Bool
bits_of zero n = []
bits_of (suc w) n = (n % 2 == 1) ∷ bits_of w (n / 2)

-- the lowest w bits of an integer in two's complement, that is, of the integer modulo 2^w
abbrev pub int_bits : ℕ → ℤ → List Bool
int_bits w z = bits_of w (floor_mod z (2 ^ w))

-- the highest bit, and false where there is none
abbrev pub top_bit : List Bool → Bool
top_bit bs = get_or bs (length bs - 1) false

-- the integer that bits are read as in two's complement
abbrev pub signed_value : List Bool → ℤ
signed_value bs = if top_bit bs then pos (bits_value bs) -ℤ pos (2 ^ length bs) else pos (bits_value bs)

-- n bits from the place lo on
abbrev pub slice_of : List Bool → ℕ → ℕ → List Bool
slice_of bs lo n = take n (drop lo bs)

-- the bits with others in place of those from lo on
abbrev pub with_slice : List Bool → ℕ → List Bool → List Bool
with_slice bs lo part = take lo bs ++ part ++ drop (lo + length part) bs

-- the bits with zeros, or copies of the highest bit, on top up to the width n
abbrev pub extension_of : List Bool → ℕ → Bool → List Bool
extension_of bs n signed = bs ++ replicate (n - length bs) (signed && top_bit bs)

-- two lists place by place
unfoldable pub both : (Bool → Bool → Bool) → List Bool → List Bool → List Bool
both f [] ys = []
both f (x ∷ xs) [] = []
both f (x ∷ xs) (y ∷ ys) = f x y ∷ both f xs ys

abbrev pub and_bit : Bool → Bool → Bool
and_bit a b = a && b

abbrev pub or_bit : Bool → Bool → Bool
or_bit a b = a || b

abbrev pub xor_bit : Bool → Bool → Bool
xor_bit a b = if a then not b else b
