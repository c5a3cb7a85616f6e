-- The bytes that write the digits of literals.
use Rattle.std.specs.Prelude.{ℕ, Bool, true, false, Option, Some, None}

-- `x`, `1` and `0`
abbrev pub digit_byte : Option Bool → ℕ
digit_byte None = 120
digit_byte (Some true) = 49
digit_byte (Some false) = 48
