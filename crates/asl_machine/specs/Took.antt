-- What a call took of its text and of its steps, however it ended.
use Rattle.std.specs.Prelude.{◌≡◌, ◌≤◌, ℕ, Bool, false, List, Option, Some}
use Rattle.asl_rules.specs.runs.Plans.{Meter}
use Rattle.asl_rules.specs.runs.Told.{appended, open_after, Begins}

-- these bytes, with which the call's own text begins, were written behind what the sink held, and text is open as they leave it: where there are some and the
-- last is no line feed
pub record Took (whole old new : Option (List ℕ)) (is_open : Bool) : Type 0 where
  pub bytes : List ℕ
  pub begins : Begins (Some bytes) whole
  pub written : new ≡ appended old bytes
  pub open_is : is_open ≡ open_after false bytes

-- no step was given back, and no more were taken than the whole call takes
pub record Stepped (old new : ℕ) (whole : Meter) : Type 0 where
  pub fewer : new ≤ old
  pub no_more : whole.steps ≤ new
