-- What the operations on bits answer, as the values of the library.
use Rattle.std.specs.Prelude.{ℕ, ℤ, pos, negsuc, Bool, if◌then◌else◌, nat_le, List, replicate, Option, Some, None, Result, Ok, Err}
use Rattle.asl_syn.specs.declared.token.Span.{Span}
use Rattle.asl_syn.specs.declared.code.DynCode.TheVariants.{D01, D08, D14}
use Rattle.asl_bits.specs.declared.BitsRefused.{BitsRefused}
use Rattle.asl_bits.specs.declared.BitsRefused.TheVariants.{TooWide, OutOfRange, Overflow}
use Rattle.asl_rules.specs.values.Operators.{plain_bits}
use Rattle.asl_rules.specs.values.Values.{Value, int}
use Rattle.asl_rules.specs.runs.Plans.{Faulted, Pure, Good, Bad}

-- an integer
abbrev pub number_of : Span → Result ℤ BitsRefused → Pure Value
number_of span (Ok z) = Good (int z)
number_of span (Err e) = Bad (Faulted D01 span)

-- what there is
abbrev pub kept : {A : Type 0} → Result A BitsRefused → Option A
kept (Ok x) = Some x
kept (Err e) = None

-- so many copies of a bit
abbrev pub copied : ℕ → Bool → ℤ → Option (List Bool)
copied limit b (pos n) = if nat_le n limit then Some (replicate n b) else None
copied limit b (negsuc n) = None

-- bits with more on top
abbrev pub extension : Span → Result (List Bool) BitsRefused → Pure Value
extension span (Ok bs) = Good (plain_bits bs)
extension span (Err OutOfRange) = Bad (Faulted D08 span)
extension span (Err TooWide) = Bad (Faulted D14 span)
extension span (Err Overflow) = Bad (Faulted D14 span)
