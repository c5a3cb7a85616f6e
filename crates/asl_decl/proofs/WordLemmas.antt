-- The width of what isn't bits is no word's.
use Rattle.std.proofs.Common.{◌≡◌, ℕ, ◌<◌, false, pos, arith}
use Rattle.std.proofs.lemmas.Bool.Decides.{nat_tests}
use Rattle.asl_poly.specs.Poly.{constant_map, constant_value}
use Rattle.asl_rules.specs.declarations.Programs.{is_wide}

pub no_word : (n : ℕ) → 0 < n → is_wide n (constant_value (constant_map (pos 0))) ≡ false
unfolding constant_map constant_value
no_word n h = grind (arith, nat_tests)
