-- A value in a place of a tuple, with what the type that is written there adds.
use Rattle.std.specs.Prelude.{ℕ, zero, suc, List, [], ◌∷◌}
use Rattle.asl_rules.specs.types.Types.{Ty}
use Rattle.asl_rules.specs.values.Values.{Value}
use Rattle.asl_rules.specs.private.ByPlace.{seen_as}

abbrev pub part_seen : ℕ → List Ty → Value → Value
part_seen i [] x = x
part_seen zero (T ∷ Ts) x = seen_as T x
part_seen (suc i) (T ∷ Ts) x = part_seen i Ts x
