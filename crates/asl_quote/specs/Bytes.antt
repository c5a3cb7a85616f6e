-- The bytes of bitvector literals and masks.
use Rattle.std.specs.Prelude.{ℕ, ◌==◌, Bool, ◌||◌, not, List, count_by}
use Rattle.std.specs.List.{list_any}

-- `0` and `1`
abbrev pub is_bit : ℕ → Bool
is_bit b = (b == 48) || (b == 49)

-- `0`, `1` and `x`
abbrev pub is_digit : ℕ → Bool
is_digit b = is_bit b || (b == 120)

-- `x` and `(`
abbrev pub is_mask_byte : ℕ → Bool
is_mask_byte b = (b == 120) || (b == 40)

-- the literal is a mask: an `x` or a group stands in it
abbrev pub is_mask : List ℕ → Bool
is_mask text = list_any is_mask_byte text

-- how many digits a bitvector literal or a mask has
abbrev pub digit_count : List ℕ → ℕ
digit_count text = count_by is_digit text

-- any byte but `'`
abbrev pub is_no_quote : ℕ → Bool
is_no_quote b = not (b == 39)
