-- The limits of a run.
use Rattle.std.specs.Prelude.{ℕ}

-- the turns of a loop, and the activations of a subprogram at one time, where no other number is written
unfoldable pub most_turns : ℕ
most_turns = 1048576

unfoldable pub most_activations : ℕ
most_activations = 256
