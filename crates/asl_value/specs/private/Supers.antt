-- The names of trees, one behind the other.
use Rattle.std.specs.Prelude.{ℕ, List, [], ◌∷◌, ◌++◌}
use Rattle.asl_value.specs.declared.supers.Below.{Below}
use Rattle.asl_value.specs.declared.supers.Below.TheVariants.{Nothing, Two}

abbrev pub names_below : Below → List (List ℕ)
names_below Nothing = []
names_below (Two left right) = left ++ right

abbrev pub joined : List (List (List ℕ)) → List (List ℕ)
joined [] = []
joined (t ∷ ts) = t ++ joined ts
