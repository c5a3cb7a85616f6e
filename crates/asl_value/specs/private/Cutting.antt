-- Slices as the code reads them: where each begins may be a product, and its width the distance of two places.
use Rattle.std.specs.Prelude.{ℕ, ◌^◌, ℤ, pos, negsuc, Bool, ◌+ℤ◌, ◌-ℤ◌, ◌*ℤ◌, min, List, [], ◌∷◌, Option, Some, None}
use Rattle.asl_syn.specs.declared.token.Span.{Span}
use Rattle.asl_rules.specs.values.Operators.{plain_bits}
use Rattle.asl_rules.specs.values.Vectors as rules
use Rattle.asl_rules.specs.runs.Plans.{Pure, Good}
use Rattle.asl_rules.specs.runs.Pures.{◌>>=◌, there}
use Rattle.asl_rules.specs.types.Shapes.{SliceShape}
use Rattle.asl_rules.specs.values.Values.{Value, int}
use Rattle.asl_value.specs.declared.cuts.Slicing.{Slicing}
use Rattle.asl_value.specs.declared.cuts.Wide.{Wide}
use Rattle.asl_value.specs.declared.cuts.Low.{Low}
use Rattle.asl_value.specs.declared.cuts.Low.TheVariants as low
use Rattle.asl_value.specs.declared.cuts.Breadth.{Breadth}
use Rattle.asl_value.specs.declared.cuts.Breadth.TheVariants as breadth

abbrev pub low_of : Low → ℤ
low_of (low.At z) = z
low_of (low.Times k w) = k *ℤ w

abbrev pub breadth_of : Breadth → ℤ
breadth_of (breadth.Of w) = w
breadth_of (breadth.Between h l) = h -ℤ l +ℤ pos 1

abbrev pub slicing_of : Slicing → rules.Slicing
slicing_of s = record { low = low_of s.low; width = breadth_of s.width }

abbrev pub wide_of : Wide → rules.Wide
wide_of w = record { low = low_of w.low; width = w.width }

-- an integer in front of other values, and two
abbrev pub integer_first : List Value → Option (ℤ × List Value)
integer_first (int i ∷ xs) = Some (i, xs)
integer_first xs = None

abbrev pub with_second : ℤ → Option (ℤ × List Value) → Option ((ℤ × ℤ) × List Value)
with_second i None = None
with_second i (Some p) = Some ((i, p.0), p.1)

abbrev pub second_behind : Option (ℤ × List Value) → Option ((ℤ × ℤ) × List Value)
second_behind None = None
second_behind (Some p) = with_second p.0 (integer_first p.1)

abbrev pub two_first : List Value → Option ((ℤ × ℤ) × List Value)
two_first xs = second_behind (integer_first xs)

abbrev pub cut_of : Slicing × List Value → rules.Sliced
cut_of c = record { slicing = slicing_of c.0; left = c.1 }

-- a place, those past the range of integers as one
abbrev pub near : ℕ → ℕ
near n = min n (2 ^ 127)

abbrev pub near_start : ℤ → Option ℕ
near_start (pos n) = Some (near n)
near_start (negsuc n) = None

abbrev pub near_low : Pure ℕ → Pure ℕ
near_low r = r >>= λ l. Good (near l)

abbrev pub all_near : List rules.Places → List rules.Places
all_near [] = []
all_near (p ∷ ps) = record { low = near p.low; width = p.width } ∷ all_near ps

abbrev pub near_places : Pure (List rules.Places) → Pure (List rules.Places)
near_places r = r >>= λ ps. Good (all_near ps)

-- the slices of these values, with their widths tested, and then their places
abbrev pub wides_read : ℕ → Span → List SliceShape → List Value → Pure (List rules.Wide)
wides_read limit span ss xs = there span (rules.slicings ss xs) >>= λ cs. rules.widths_of limit span cs

abbrev pub places_read : ℕ → Span → Option ℕ → List SliceShape → List Value → Pure (List rules.Places)
places_read limit span top ss xs = wides_read limit span ss xs >>= λ ws. near_places (rules.places_of span top ws)

-- the bits in places that were tested, of bits and of an integer
abbrev pub bits_sliced : Pure (List rules.Places) → List Bool → Pure Value
bits_sliced r bs = r >>= λ ps. Good (plain_bits (rules.read_bits ps bs))

abbrev pub integer_sliced : Pure (List rules.Places) → ℤ → Pure Value
integer_sliced r z = r >>= λ ps. Good (plain_bits (rules.read_int ps z))
