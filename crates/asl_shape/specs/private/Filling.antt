-- Written types with the values of their expressions, which each takes from those that are given in order.
use Rattle.std.specs.Prelude.{ℕ, ℤ, pos, negsuc, List, [], ◌∷◌, Option, Some, None, option_map, option_and_then}
use Rattle.asl_cons.specs.declared.End.TheVariants.{Int}
use Rattle.asl_cons.specs.declared.Part.{Part}
use Rattle.asl_rules.specs.types.Shapes as shapes
use Rattle.asl_rules.specs.types.Shapes.{PartShape, BitfieldShape, TypeShape, TypeShapes}
use Rattle.asl_rules.specs.types.Types.{View, BitField}
use Rattle.asl_rules.specs.values.Values.{Value, int}
use Rattle.asl_shape.specs.private.Filled.{Filled, Fills, integer_of, boolean, bits_of, known, tuple_of, array_of, no_fill, fill_and}

-- what was made, and the values that are left
pub record Taken (A : Type 0) : Type 0 where
  pub made : A
  pub left : List Value

abbrev pub taken : {A : Type 0} → A → List Value → Option (Taken A)
taken x zs = Some (record { made = x; left = zs })

-- something made of the next, and of what is behind it
abbrev pub and_then : {A B C : Type 0} → (A → B → C) → Option (Taken A) → (List Value → Option (Taken B)) → Option (Taken C)
and_then f None rest = None
and_then f (Some t) rest = option_map (λ (r : Taken _). record { made = f t.made r.made; left = r.left }) (rest t.left)

-- something made of the next
abbrev pub made_as : {A B : Type 0} → (A → B) → Option (Taken A) → Option (Taken B)
made_as f o = option_map (λ (t : Taken _). record { made = f t.made; left = t.left }) o

-- ---- numbers

abbrev pub next_integer : List Value → Option (Taken ℤ)
next_integer (int z ∷ zs) = taken z zs
next_integer zs = None

abbrev pub as_natural : ℤ → List Value → Option (Taken ℕ)
as_natural (pos n) zs = taken n zs
as_natural (negsuc n) zs = None

abbrev pub next_natural : List Value → Option (Taken ℕ)
next_natural zs = option_and_then (λ (t : Taken ℤ). as_natural t.made t.left) (next_integer zs)

-- ---- constraints

abbrev pub part_from : ℤ → ℤ → Part
part_from a b = record { low = Int a; high = Int b }

abbrev pub next_part : PartShape → List Value → Option (Taken Part)
next_part shapes.only zs = made_as (λ a. part_from a a) (next_integer zs)
next_part shapes.from_to zs = and_then part_from (next_integer zs) next_integer

abbrev pub all_parts : List PartShape → List Value → Option (Taken (List Part))
all_parts [] zs = taken [] zs
all_parts (p ∷ ps) zs = and_then (λ q qs. q ∷ qs) (next_part p zs) (all_parts ps)

-- ---- bitfields

abbrev pub field_from : List ℕ → ℕ → ℕ → BitField
field_from name h l = record { name = name; high = h; low = l }

abbrev pub next_bitfield : BitfieldShape → List Value → Option (Taken BitField)
next_bitfield (shapes.one_place name) zs = made_as (λ n. field_from name n n) (next_natural zs)
next_bitfield (shapes.many_places name) zs = and_then (field_from name) (next_natural zs) next_natural

abbrev pub all_fields : List BitfieldShape → List Value → Option (Taken View)
all_fields [] zs = taken [] zs
all_fields (b ∷ bs) zs = and_then (λ f fs. f ∷ fs) (next_bitfield b zs) (all_fields bs)

-- ---- types

abbrev mutual
  pub filling : TypeShape → List Value → Option (Taken Filled)
  filling (shapes.integer_of ps) zs = made_as integer_of (all_parts ps zs)
  filling shapes.boolean zs = taken boolean zs
  filling (shapes.one_bit span) zs = taken (bits_of span (pos 1) []) zs
  filling (shapes.bits_of span fs) zs = and_then (bits_of span) (next_integer zs) (all_fields fs)
  filling (shapes.known T) zs = taken (known T) zs
  filling (shapes.tuple_of ts) zs = made_as tuple_of (all_fillings ts zs)
  filling (shapes.array_of t) zs = and_then array_of (next_natural zs) (filling t)

  pub all_fillings : TypeShapes → List Value → Option (Taken Fills)
  all_fillings shapes.no_shape zs = taken no_fill zs
  all_fillings (shapes.shape_and t ts) zs = and_then fill_and (filling t zs) (all_fillings ts)
