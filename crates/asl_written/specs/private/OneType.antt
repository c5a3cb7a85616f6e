-- Written types that are all one type, as far as their texts say it: one declared name, or integers in no constraint.
use Rattle.std.specs.Prelude.{ℕ, Bool, true, false, ◌&&◌, ◌||◌, List, [], ◌∷◌, Option, Some, None}
use Rattle.std.specs.Str.{bytes_eq}
use Rattle.asl_syn.specs.declared.tree.TypeExpr.{TypeExpr, out-TypeExpr}
use Rattle.asl_syn.specs.declared.tree.Bitfield.TheOpen as ex
use Rattle.asl_syn.specs.Layers.{TypeLayer}

abbrev pub name_in_layer : TypeLayer → Option (List ℕ)
name_in_layer (ex.IntegerType span parts) = None
name_in_layer (ex.BooleanType span) = None
name_in_layer (ex.BitType span) = None
name_in_layer (ex.NamedType span name) = Some name
name_in_layer (ex.BitsType span width fields) = None
name_in_layer (ex.TupleType span ts) = None
name_in_layer (ex.ArrayType span e t) = None

-- the declared name that is written
abbrev pub name_in : TypeExpr → Option (List ℕ)
name_in w = name_in_layer (out-TypeExpr w)

abbrev pub has_none : {A : Type 0} → List A → Bool
has_none [] = true
has_none (x ∷ xs) = false

abbrev pub whole_layer : TypeLayer → Bool
whole_layer (ex.IntegerType span parts) = has_none parts
whole_layer (ex.BooleanType span) = false
whole_layer (ex.BitType span) = false
whole_layer (ex.NamedType span name) = false
whole_layer (ex.BitsType span width fields) = false
whole_layer (ex.TupleType span ts) = false
whole_layer (ex.ArrayType span e t) = false

-- whether they are integers in no constraint
abbrev pub is_whole : TypeExpr → Bool
is_whole w = whole_layer (out-TypeExpr w)

abbrev pub same_names : Option (List ℕ) → Option (List ℕ) → Bool
same_names (Some m) (Some n) = bytes_eq m n
same_names (Some m) None = false
same_names None o = false

abbrev pub is_like : TypeExpr → TypeExpr → Bool
is_like w v = same_names (name_in w) (name_in v) || (is_whole w && is_whole v)

abbrev pub are_like : TypeExpr → List TypeExpr → Bool
are_like w [] = true
are_like w (v ∷ vs) = is_like w v && are_like w vs

abbrev pub is_one_type : List TypeExpr → Bool
is_one_type [] = true
is_one_type (w ∷ ws) = are_like w ws
