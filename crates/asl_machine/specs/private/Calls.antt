-- A run whose sink was noted.
use Rattle.std.specs.Prelude.{ℕ, Bool, List, Option}
use Rattle.asl_noting.specs.Noted.{Noted}

-- it was a run over no text, and its own text was noted
pub record RanNoted (P : Option (List ℕ) → Type 0) (old new : Option (List ℕ)) (is_open : Bool) : Type 0 where
  pub own : Option (List ℕ)
  pub met : P own
  pub noted : Noted own old new is_open
