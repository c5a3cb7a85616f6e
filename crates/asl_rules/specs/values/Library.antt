-- What the subprograms of the library give.
use Rattle.std.specs.Prelude.{ℕ, ℤ, pos, ◌-ℤ◌, Bool, true, false, not, ◌&&◌, if◌then◌else◌, nat_le, List, [], ◌∷◌, length, replicate}
use Rattle.asl_syn.specs.declared.token.Span.{Span}
use Rattle.asl_syn.specs.declared.code.DynCode.TheVariants.{D08}
use Rattle.asl_bits.specs.Lists.{bits_value, signed_value, extension_of}
use Rattle.asl_rules.specs.types.Closed.{not_above}
use Rattle.asl_rules.specs.declarations.Routines.{Routine, UInt, SInt, Zeros, Ones, ZeroExtend, SignExtend, IsZero, IsOnes, Len, Abs, Min, Max}
use Rattle.asl_rules.specs.values.Values.{Value, int, bool, bits_with}
use Rattle.asl_rules.specs.runs.Plans.{Faulted, Stuck, WrongKind, Pure, Good, Bad}
use Rattle.asl_rules.specs.runs.Pures.{◌>>=◌}
use Rattle.asl_rules.specs.values.Operators.{integer_of, plain_bits}
use Rattle.asl_rules.specs.values.Vectors.{width_of}

abbrev pub all_equal : Bool → List Bool → Bool
all_equal b [] = true
all_equal true (a ∷ bs) = a && all_equal true bs
all_equal false (a ∷ bs) = not a && all_equal false bs

-- so many copies of a bit (D14)
abbrev pub copies : ℕ → Span → Bool → ℤ → Pure Value
copies limit span b w = width_of limit span w >>= λ n. Good (plain_bits (replicate n b))

-- bits with more on top (D14, then D08 where there would be fewer)
abbrev pub extended : ℕ → Span → Bool → ℤ → List Bool → Pure Value
extended limit span signed w bs = width_of limit span w >>= λ n. if nat_le (length bs) n then Good (plain_bits (extension_of bs n signed)) else Bad (Faulted D08 span)

abbrev pub absolute : ℤ → ℤ
absolute z = if not_above (pos 0) z then z else pos 0 -ℤ z

abbrev pub lesser : ℤ → ℤ → ℤ
lesser a b = if not_above a b then a else b

abbrev pub greater : ℤ → ℤ → ℤ
greater a b = if not_above a b then b else a

-- what one gives, with its parameters and its arguments
abbrev pub routine_value : ℕ → Span → Routine → List Value → List Value → Pure Value
routine_value limit span UInt [] (bits_with bs v ∷ []) = integer_of span (pos (bits_value bs))
routine_value limit span SInt [] (bits_with bs v ∷ []) = integer_of span (signed_value bs)
routine_value limit span Zeros (int w ∷ []) [] = copies limit span false w
routine_value limit span Ones (int w ∷ []) [] = copies limit span true w
routine_value limit span ZeroExtend (int w ∷ []) (bits_with bs v ∷ []) = extended limit span false w bs
routine_value limit span SignExtend (int w ∷ []) (bits_with bs v ∷ []) = extended limit span true w bs
routine_value limit span IsZero [] (bits_with bs v ∷ []) = Good (bool (all_equal false bs))
routine_value limit span IsOnes [] (bits_with bs v ∷ []) = Good (bool (all_equal true bs))
routine_value limit span Len [] (bits_with bs v ∷ []) = Good (int (pos (length bs)))
routine_value limit span Abs [] (int z ∷ []) = integer_of span (absolute z)
routine_value limit span Min [] (int a ∷ int b ∷ []) = Good (int (lesser a b))
routine_value limit span Max [] (int a ∷ int b ∷ []) = Good (int (greater a b))
routine_value limit span r ps xs = Bad (Stuck WrongKind span)
