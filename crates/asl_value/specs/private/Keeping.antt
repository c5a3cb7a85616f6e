-- What is asked of values part by part.
use Rattle.std.specs.Prelude.{ℕ, zero, suc, List, [], ◌∷◌}
use Rattle.asl_rules.specs.values.Values as rules
use Rattle.asl_rules.specs.types.Views.{adopted}
use Rattle.asl_value.specs.declared.value.Value.{Value}
use Rattle.asl_value.specs.View.{value_of}

-- a value over the one in its place, where there is one
abbrev pub adopted_at : ℕ → List Value → rules.Value → rules.Value
adopted_at i [] y = y
adopted_at zero (x ∷ xs) y = adopted (value_of x) y
adopted_at (suc i) (x ∷ xs) y = adopted_at i xs y
