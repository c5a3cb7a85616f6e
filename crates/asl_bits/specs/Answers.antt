-- What the operations on bitvectors answer, and when they refuse. Integers are unbounded here.
use Rattle.std.specs.Prelude.{◌≡◌, ℕ, ◌+◌, ◌^◌, ◌<◌, ◌≤◌, List, ◌++◌, length, Bool, ℤ, pos, Result, Ok, Err}
use Rattle.std.specs.Int.{w128}
use Rattle.std.specs.Int.RustNames.{FitsSigned}
use Rattle.asl_num.specs.Exact.{floor_div}
use Rattle.asl_bits.specs.Lists.{int_bits, slice_of, with_slice, extension_of}
use Rattle.asl_bits.specs.declared.TheConstants.{WIDTH_LIMIT}
use Rattle.asl_bits.specs.declared.BitsRefused.{BitsRefused}
use Rattle.asl_bits.specs.declared.BitsRefused.TheVariants.{TooWide, OutOfRange, Overflow}

-- where z is a natural number n with Q n, P n holds, and else the result is the refusal
abbrev pub RefusedUnless : BitsRefused → Result (List Bool) BitsRefused → ℤ → (ℕ → Type 0) → (ℕ → Type 0) → Type 0
RefusedUnless refusal result z Q P =
    (((n : ℕ) → z ≡ pos n → Q n → ⊥) → result ≡ Err refusal) × ((n : ℕ) → z ≡ pos n → Q n → P n)

-- the answer of an operation with the width w
abbrev pub OfWidth : Result (List Bool) BitsRefused → ℤ → (ℕ → Type 0) → Type 0
OfWidth result w P = RefusedUnless TooWide result w (λ n. n ≤ WIDTH_LIMIT) P

-- the answer of an operation on n places from lo on, of m places
abbrev pub AtPlace : Result (List Bool) BitsRefused → ℤ → ℕ → ℕ → (ℕ → Type 0) → Type 0
AtPlace result lo n m P = RefusedUnless OutOfRange result lo (λ k. k + n ≤ m) P

abbrev pub IsSlice : Result (List Bool) BitsRefused → List Bool → ℤ → ℤ → Type 0
IsSlice result bs lo w =
    OfWidth result w (λ n. AtPlace result lo n (length bs) (λ k. result ≡ Ok (slice_of bs k n)))

-- an integer has no highest place
abbrev pub IsIntSlice : Result (List Bool) BitsRefused → ℤ → ℤ → ℤ → Type 0
IsIntSlice result z lo w =
    OfWidth result w
    (λ n. RefusedUnless OutOfRange result lo (λ _. Unit {0}) (λ k. result ≡ Ok (int_bits n (floor_div z (2 ^ k)))))

abbrev pub IsWithSlice : Result (List Bool) BitsRefused → List Bool → ℤ → List Bool → Type 0
IsWithSlice result bs lo part =
    AtPlace result lo (length part) (length bs) (λ k. result ≡ Ok (with_slice bs k part))

abbrev pub IsConcat : Result (List Bool) BitsRefused → List Bool → List Bool → Type 0
IsConcat result high low =
    (WIDTH_LIMIT < length high + length low → result ≡ Err TooWide)
    × (length high + length low ≤ WIDTH_LIMIT → result ≡ Ok (low ++ high))

abbrev pub IsExtension : Result (List Bool) BitsRefused → List Bool → ℤ → Bool → Type 0
IsExtension result bs w signed =
    OfWidth result w
    (λ n. (n < length bs → result ≡ Err OutOfRange) × (length bs ≤ n → result ≡ Ok (extension_of bs n signed)))

-- the integer z where it has 128 bits, and else `Overflow`
abbrev pub IsInt : Result ℤ BitsRefused → ℤ → Type 0
IsInt (Ok r) z = FitsSigned w128 z × (r ≡ z)
IsInt (Err Overflow) z = FitsSigned w128 z → ⊥
IsInt (Err TooWide) z = ⊥
IsInt (Err OutOfRange) z = ⊥

-- w as a width
abbrev pub IsWidth : Result ℕ BitsRefused → ℤ → Type 0
IsWidth (Ok n) w = (w ≡ pos n) × (n ≤ WIDTH_LIMIT)
IsWidth (Err e) w = (e ≡ TooWide) × ((n : ℕ) → w ≡ pos n → n ≤ WIDTH_LIMIT → ⊥)

-- lo as a place from which n places on are among m
abbrev pub IsPlace : Result ℕ BitsRefused → ℤ → ℕ → ℕ → Type 0
IsPlace (Ok k) lo n m = (lo ≡ pos k) × (k + n ≤ m)
IsPlace (Err e) lo n m = (e ≡ OutOfRange) × ((k : ℕ) → lo ≡ pos k → k + n ≤ m → ⊥)
