-- Types as they are written, where each expression in them stands for a fraction: what a value is stored, passed and returned under.
use Rattle.std.specs.Prelude.{ℕ, ℤ, pos, negsuc, List, [], ◌∷◌, Option, Some, None, option_map, option_and_then}
use Rattle.asl_poly.specs.Fractions.{Fraction}
use Rattle.asl_rules.specs.types.Types.{BitField}
use Rattle.asl_rules.specs.types.Closed as cl
use Rattle.asl_rules.specs.types.Closed.{Range, Closed, ClosedParts, kind_at, width_in, range_in}
use Rattle.asl_rules.specs.types.Shapes as shapes
use Rattle.asl_rules.specs.types.Shapes.{PartShape, BitfieldShape, TypeShape, TypeShapes}

-- what was made of the first fractions, and those that are left
pub record Taken (A : Type 0) : Type 0 where
  pub made : A
  pub left : List Fraction

abbrev pub taken : {A : Type 0} → A → List Fraction → Option (Taken A)
taken x rs = Some (record { made = x; left = rs })

abbrev pub made_into : {A B : Type 0} → (A → B) → Option (Taken A) → Option (Taken B)
made_into f o = option_map (λ x. record { made = f x.made; left = x.left }) o

-- one, and another of the fractions that it leaves
abbrev pub followed : {A B C : Type 0} → (A → B → C) → Option (Taken A) → (List Fraction → Option (Taken B)) → Option (Taken C)
followed f o rest = option_and_then (λ x. made_into (f x.made) (rest x.left)) o

abbrev pub in_order : {X A : Type 0} → (X → List Fraction → Option (Taken A)) → List X → List Fraction → Option (Taken (List A))
in_order f [] rs = taken [] rs
in_order f (x ∷ xs) rs = followed (λ y ys. y ∷ ys) (f x rs) (in_order f xs)

-- an integer lies between two fractions where it lies between the integers in between
abbrev pub part_by : PartShape → List Fraction → Option (Taken Range)
part_by shapes.only (r ∷ rs) = taken (range_in r r) rs
part_by shapes.only [] = None
part_by shapes.from_to (r ∷ s ∷ rs) = taken (range_in r s) rs
part_by shapes.from_to rs = None

-- no parts are the whole constraint
abbrev pub constraint_by : List PartShape → List Fraction → Option (Taken (Option (List Range)))
constraint_by [] rs = taken None rs
constraint_by (p ∷ ps) rs = made_into (λ ranges. Some ranges) (in_order part_by (p ∷ ps) rs)

-- a length or a place, which is a whole number from 0
abbrev pub natural : ℤ → Option ℕ
natural (pos n) = Some n
natural (negsuc n) = None

abbrev pub place_by : List Fraction → Option (Taken ℕ)
place_by [] = None
place_by (r ∷ rs) = option_and_then (λ n. taken n rs) (natural (width_in r))

abbrev pub bitfield_by : BitfieldShape → List Fraction → Option (Taken BitField)
bitfield_by (shapes.one_place name) rs = made_into (λ n. record { name = name; high = n; low = n }) (place_by rs)
bitfield_by (shapes.many_places name) rs = followed (λ h l. record { name = name; high = h; low = l }) (place_by rs) place_by

abbrev pub bits_by : List BitfieldShape → List Fraction → Option (Taken Closed)
bits_by fs [] = None
bits_by fs (r ∷ rs) = made_into (λ view. cl.bits_of (width_in r) view) (in_order bitfield_by fs rs)

abbrev mutual
  pub type_by : TypeShape → List Fraction → Option (Taken Closed)
  type_by (shapes.integer_of ps) rs = made_into (λ c. cl.integer_in c) (constraint_by ps rs)
  type_by shapes.boolean rs = taken cl.boolean rs
  type_by (shapes.one_bit span) rs = taken (cl.bits_of (pos 1) []) rs
  type_by (shapes.bits_of span fs) rs = bits_by fs rs
  type_by (shapes.known T) rs = taken T rs
  type_by (shapes.tuple_of ts) rs = made_into (λ parts. cl.tuple_of parts) (parts_by ts rs)
  type_by (shapes.array_of t) rs = followed (λ n T. cl.array_of n (kind_at T) T) (place_by rs) (type_by t)

  pub parts_by : TypeShapes → List Fraction → Option (Taken ClosedParts)
  parts_by shapes.no_shape rs = taken cl.no_part rs
  parts_by (shapes.shape_and t ts) rs = followed (λ T parts. cl.part T parts) (type_by t rs) (parts_by ts)

-- a written type with the fractions of its expressions alone
abbrev pub present_type : List Fraction → Option TypeShape → Option Closed
present_type rs o = option_and_then (λ s. option_map (λ (t : Taken Closed). t.made) (type_by s rs)) o
