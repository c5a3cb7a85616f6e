-- Names with their places.
use Rattle.std.specs.Prelude.{ℕ, List, Option, map, Vec}
use Rattle.std.specs.Str.{bytes_eq}
use Rattle.std.specs.Map.{lookup}
use Rattle.indexmap.specs.IndexMap.{insert_entry}

abbrev pub Places : Type 0
Places = List (List ℕ × ℕ)

-- the names that a map holds
abbrev pub named : {Z : Type 0} → List (Vec ℕ Z × ℕ) → Places
named es = map (λ e. (e.0.items, e.1)) es

abbrev pub place_of : List ℕ → Places → Option ℕ
place_of name ps = lookup (bytes_eq name) ps

-- with this place of a name, in the stead of the one that it had
abbrev pub put : List ℕ → ℕ → Places → Places
put name n ps = insert_entry bytes_eq ps name n
