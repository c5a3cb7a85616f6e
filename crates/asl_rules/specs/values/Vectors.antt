-- Bits by their places: literals, slices and bitfields, read and written.
use Rattle.std.specs.Prelude.{ℕ, ◌+◌, ◌^◌, ◌==◌, ℤ, pos, negsuc, ◌+ℤ◌, ◌-ℤ◌, ◌*ℤ◌, Bool, true, ◌&&◌, if◌then◌else◌, nat_le, List, [], ◌∷◌, ◌++◌, take, drop, length, Option, Some, None, option_map}
use Rattle.std.specs.Str.{bytes_eq}
use Rattle.asl_syn.specs.declared.token.Span.{Span}
use Rattle.asl_syn.specs.declared.code.DynCode.TheVariants.{D01, D05, D14}
use Rattle.asl_syn.specs.declared.tree.Ident.{Ident}
use Rattle.asl_num.specs.Exact.{floor_div}
use Rattle.asl_bits.specs.Lists.{int_bits, slice_of, with_slice}
use Rattle.asl_mask.specs.Digits.{fixed_bits}
use Rattle.asl_mask.specs.Texts.{mask_of}
use Rattle.asl_rules.specs.types.Types.{BitField, View, bitfield_width}
use Rattle.asl_rules.specs.types.Shapes.{SliceShape, at_bit, high_low, low_width, factor_width}
use Rattle.asl_rules.specs.values.Values.{Value, int, bits_with}
use Rattle.asl_rules.specs.runs.Pures.{◌>>=◌, there}
use Rattle.asl_rules.specs.values.Operators.{in_range, plain_bits}
use Rattle.asl_rules.specs.runs.Plans.{Faulted, Stuck, WrongKind, Pure, Good, Bad}

-- ---- literals

-- the digits of a literal of bits or of a mask, lowest first, whose text has its quotes
abbrev pub literal_digits : List ℕ → List (Option Bool)
literal_digits [] = []
literal_digits (quote ∷ rest) = mask_of rest

-- the bits of a literal: none where a digit is free, or past the width limit
abbrev pub literal_of : ℕ → List ℕ → Option (List Bool)
literal_of limit t = if nat_le (length (literal_digits t)) limit then fixed_bits (literal_digits t) else None

abbrev pub literal_bits : ℕ → Span → List ℕ → Pure Value
literal_bits limit span t = there span (option_map plain_bits (literal_of limit t))

-- ---- places among bits

-- where a slice begins, and its width, before they are tested
pub record Slicing : Type 0 where
  pub low : ℤ
  pub width : ℤ

-- so many places, from the lowest on
pub record Places : Type 0 where
  pub low : ℕ
  pub width : ℕ

-- a slice with the values of its expressions, the first of these, and the values that are left
pub record Sliced : Type 0 where
  pub slicing : Slicing
  pub left : List Value

-- the next value, and the next two, where they are integers
abbrev pub by_one : List Value → (ℤ → Slicing) → Option Sliced
by_one (int i ∷ xs) f = Some (record { slicing = f i; left = xs })
by_one xs f = None

abbrev pub by_two : List Value → (ℤ → ℤ → Slicing) → Option Sliced
by_two (int i ∷ int j ∷ xs) f = Some (record { slicing = f i j; left = xs })
by_two xs f = None

abbrev pub sliced : SliceShape → List Value → Option Sliced
sliced at_bit xs = by_one xs (λ i. record { low = i; width = pos 1 })
sliced high_low xs = by_two xs (λ h l. record { low = l; width = h -ℤ l +ℤ pos 1 })
sliced low_width xs = by_two xs (λ l w. record { low = l; width = w })
sliced factor_width xs = by_two xs (λ k w. record { low = k *ℤ w; width = w })

abbrev pub first_slicing : Option Sliced → (List Value → Option (List Slicing)) → Option (List Slicing)
first_slicing None rest = None
first_slicing (Some s) rest = option_map (λ ps. s.slicing ∷ ps) (rest s.left)

abbrev pub slicings : List SliceShape → List Value → Option (List Slicing)
slicings [] xs = Some []
slicings (s ∷ ss) xs = first_slicing (sliced s xs) (slicings ss)

-- ---- the tests of slices

-- where a slice begins, with a width that was tested
pub record Wide : Type 0 where
  pub low : ℤ
  pub width : ℕ

-- each width is an integer (D01) within the width limit (D14)
abbrev pub width_of : ℕ → Span → ℤ → Pure ℕ
width_of limit span (pos w) = if nat_le w limit then Good w else Bad (Faulted D14 span)
width_of limit span (negsuc w) = Bad (Faulted D14 span)

abbrev pub ranged_width : ℕ → Span → ℤ → Pure ℕ
ranged_width limit span w = if in_range w then width_of limit span w else Bad (Faulted D01 span)

abbrev pub widths_of : ℕ → Span → List Slicing → Pure (List Wide)
widths_of limit span [] = Good []
widths_of limit span (s ∷ ss) = ranged_width limit span s.width >>= λ w. widths_of limit span ss >>= λ rest. Good (record { low = s.low; width = w } ∷ rest)

-- the end of a value of so many places; an integer has none
abbrev pub ends_within : Option ℕ → ℕ → Bool
ends_within None end = true
ends_within (Some n) end = nat_le end n

-- each slice lies within its value (D05)
abbrev pub low_of : Span → Option ℕ → ℤ → ℕ → Pure ℕ
low_of span top (pos l) w = if ends_within top (l + w) then Good l else Bad (Faulted D05 span)
low_of span top (negsuc l) w = Bad (Faulted D05 span)

abbrev pub places_of : Span → Option ℕ → List Wide → Pure (List Places)
places_of span top [] = Good []
places_of span top (s ∷ ss) = low_of span top s.low s.width >>= λ l. places_of span top ss >>= λ rest. Good (record { low = l; width = s.width } ∷ rest)

abbrev pub total_width : List Places → ℕ
total_width [] = 0
total_width (p ∷ ps) = p.width + total_width ps

-- all together are within the width limit (D14)
abbrev pub within_limit : ℕ → Span → List Places → Pure (List Places)
within_limit limit span ps = if nat_le (total_width ps) limit then Good ps else Bad (Faulted D14 span)

-- the widths first, then the places, then the sum
abbrev pub tested : ℕ → Span → Option ℕ → Option (List Slicing) → Pure (List Places)
tested limit span top None = Bad (Stuck WrongKind span)
tested limit span top (Some ss) = widths_of limit span ss >>= λ ws. places_of span top ws >>= λ ps. within_limit limit span ps

-- ---- reading: the first is on top

abbrev pub read_bits : List Places → List Bool → List Bool
read_bits [] bs = []
read_bits (p ∷ ps) bs = read_bits ps bs ++ slice_of bs p.low p.width

abbrev pub read_int : List Places → ℤ → List Bool
read_int [] z = []
read_int (p ∷ ps) z = read_int ps z ++ int_bits p.width (floor_div z (2 ^ p.low))

-- slices of bits or of an integer, with the values of their expressions
abbrev pub slices_of : ℕ → Span → List SliceShape → List Value → Value → Pure Value
slices_of limit span ss xs (bits_with bs v) = tested limit span (Some (length bs)) (slicings ss xs) >>= λ ps. Good (plain_bits (read_bits ps bs))
slices_of limit span ss xs (int z) = tested limit span None (slicings ss xs) >>= λ ps. Good (plain_bits (read_int ps z))
slices_of limit span ss xs x = Bad (Stuck WrongKind span)

-- ---- writing, from the first to the last

abbrev pub write_bits : List Places → List Bool → List Bool → List Bool
write_bits [] r bs = bs
write_bits (p ∷ ps) r bs = write_bits ps (take (total_width ps) r) (with_slice bs p.low (drop (total_width ps) r))

-- so many places hold all of these
abbrev pub all_within : List Places → ℕ → Bool
all_within [] n = true
all_within (p ∷ ps) n = nat_le (p.low + p.width) n && all_within ps n

-- so many bits fill these places, of so many
abbrev pub fill : ℕ → List Places → ℕ → Bool
fill m ps n = (m == total_width ps) && all_within ps n

-- bits with others in these places, which they fill
abbrev pub with_places : Span → List Places → Value → Value → Pure Value
with_places span ps (bits_with r u) (bits_with bs v) = if fill (length r) ps (length bs) then Good (bits_with (write_bits ps r bs) v) else Bad (Stuck WrongKind span)
with_places span ps y x = Bad (Stuck WrongKind span)

-- the places of slices of bits alone
abbrev pub slice_places : ℕ → Span → List SliceShape → List Value → Value → Pure (List Places)
slice_places limit span ss xs (bits_with bs v) = tested limit span (Some (length bs)) (slicings ss xs)
slice_places limit span ss xs x = Bad (Stuck WrongKind span)

abbrev pub with_slices : ℕ → Span → List SliceShape → List Value → Value → Value → Pure Value
with_slices limit span ss xs y x = slice_places limit span ss xs x >>= λ ps. with_places span ps y x

-- ---- bitfields

abbrev pub places_of_field : BitField → Places
places_of_field f = record { low = f.low; width = bitfield_width f }

abbrev pub places_of_fields : List BitField → List Places
places_of_fields [] = []
places_of_fields (f ∷ fs) = places_of_field f ∷ places_of_fields fs

abbrev pub bits_at : Span → List Places → Value → Pure Value
bits_at span ps (bits_with bs v) = Good (plain_bits (read_bits ps bs))
bits_at span ps x = Bad (Stuck WrongKind span)

-- one bitfield, read and written
abbrev pub bitfield_of : Span → BitField → Value → Pure Value
bitfield_of span f x = bits_at span (places_of_field f ∷ []) x

abbrev pub with_bitfield : Span → BitField → Value → Value → Pure Value
with_bitfield span f y x = with_places span (places_of_field f ∷ []) y x

-- several that are taken together: D14 past the width limit
abbrev pub bitfields_of : ℕ → Span → List BitField → Value → Pure Value
bitfields_of limit span fs x = within_limit limit span (places_of_fields fs) >>= λ ps. bits_at span ps x

abbrev pub with_bitfields : ℕ → Span → List BitField → Value → Value → Pure Value
with_bitfields limit span fs y x = within_limit limit span (places_of_fields fs) >>= λ ps. with_places span ps y x

-- a bitfield by its name, among those that the bits carry
abbrev pub named_among : List ℕ → View → Option BitField
named_among name [] = None
named_among name (f ∷ fs) = if bytes_eq f.name name then Some f else named_among name fs

abbrev pub view_of : Value → Option View
view_of (bits_with bs v) = Some v
view_of x = None

abbrev pub bitfield_named : Span → List ℕ → View → Pure BitField
bitfield_named span name v = there span (named_among name v)

abbrev pub each_named : Span → List Ident → View → Pure (List BitField)
each_named span [] v = Good []
each_named span (i ∷ is) v = bitfield_named span i.text v >>= λ f. each_named span is v >>= λ fs. Good (f ∷ fs)

abbrev pub bitfields_named : Span → List Ident → Value → Pure (List BitField)
bitfields_named span is x = there span (view_of x) >>= λ v. each_named span is v
