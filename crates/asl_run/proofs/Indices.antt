-- The index of a loop, and the next.
use Rattle.std.proofs.Common.{◌≡◌, ◌≢◌, true, false, arith}
use Rattle.std.specs.Prelude.{ℤ, pos, ◌+ℤ◌, ◌-ℤ◌}
use Rattle.std.proofs.lemmas.Int.{ints}
use Rattle.asl_rules.specs.values.Operators.{less}

pub next_up : (i last : ℤ) → less last i ≡ false → i ≢ last → less last (i +ℤ pos 1) ≡ false
next_up i last h k = grind (arith, ints)

pub next_down : (i last : ℤ) → less i last ≡ false → i ≢ last → less (i -ℤ pos 1) last ≡ false
next_down i last h k = grind (arith, ints)

pub no_next : (i : ℤ) → less i (i +ℤ pos 1) ≡ true
no_next i = grind (arith, ints)

pub no_former : (i : ℤ) → less (i -ℤ pos 1) i ≡ true
no_former i = grind (arith, ints)
