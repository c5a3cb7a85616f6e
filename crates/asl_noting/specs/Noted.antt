-- What is known of bytes that were noted.
use Rattle.std.specs.Prelude.{◌≡◌, ℕ, Bool, false, List, Option, Some}
use Rattle.asl_rules.specs.runs.Told.{appended, open_after}

-- a sink took the bytes that are told: they stand behind what it had taken before, and text is open as they leave it
pub record Noted (told old new : Option (List ℕ)) (is_open : Bool) : Type 0 where
  pub bytes : List ℕ
  pub told_are : told ≡ Some bytes
  pub written : new ≡ appended old bytes
  pub open_is : is_open ≡ open_after false bytes
