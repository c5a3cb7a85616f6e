-- Well-formed types and the values that a program has: what a name stands for is told by a function from names to declared
-- types.
use Rattle.std.specs.Prelude.{◌≡◌, ℕ, pos, nat_le, nat_lt, ◌&&◌, Bool, true, false, List, [], ◌∷◌, Option, Some, None}
use Rattle.asl_poly.specs.Terms.{Polynomial}
use Rattle.asl_poly.specs.Poly.{IsPolynomial}
use Rattle.asl_cons.specs.Constraint.{AllEnds}
use Rattle.asl_rules.specs.types.Types.{Ty, Fields, Parts, View, integer_of, boolean, bits_of, enumeration_of, record_of, exception_of, tuple_of, array_of, named, no_field, field, no_part, part, kind, misfit}
use Rattle.asl_rules.specs.Tests.{Tests, IsRight}
use Rattle.asl_rules.specs.types.Closed.{Assignment, type_with, width_at, closed}
use Rattle.asl_rules.specs.types.Views.{viewed}
use Rattle.asl_rules.specs.values.Values.{Value, FieldValues, Values, int, bool, bits_with, label, record_with, exception_with, tuple_with, array_with, no_value_of, value_of_field, no_value, value}

abbrev pub is_named : Ty → Bool
is_named (named name supers T) = true
is_named T = false

-- an exception without the declared name by which it can be thrown and caught
abbrev pub is_nameless_exception : Ty → Bool
is_nameless_exception (exception_of name fs) = true
is_nameless_exception T = false

abbrev pub HasLabel : List (List ℕ) → Type 0
HasLabel [] = ⊥
HasLabel (l ∷ ls) = Unit {0}

-- a type satisfies another, whichever right tests are taken
abbrev pub Fits : Ty → Ty → Type 0
Fits S T = (t : Tests) → IsRight t → misfit t S T ≡ None

-- the nearest of the names that a structure reaches is declared, with the others above it, and the structure fits what it
-- stands for, and is of its kind
abbrev pub Nearest : (List ℕ → Option Ty) → Ty → List (List ℕ) → Type 0
Nearest declared T [] = Unit {0}
Nearest declared T (n ∷ ns) = (U : Ty) × (declared n ≡ Some (named n ns U)) × Fits T U × (kind T ≡ kind U)

-- a declared name with the structure that it stands for and the names that it reaches, from the nearest
pub record Declared (declared : List ℕ → Option Ty) (name : List ℕ) (supers : List (List ℕ)) (T : Ty) : Type 0 where
  pub stands : declared name ≡ Some (named name supers T)
  pub nearest : Nearest declared T supers

-- the structure is the one that the declaration of the name writes
pub record Written (declared : List ℕ → Option Ty) (name : List ℕ) (T : Ty) : Type 0 where
  pub supers : List (List ℕ)
  pub stands : declared name ≡ Some (named name supers T)

-- bitfields lie within so many bits
abbrev pub AllInside : ℕ → View → Type 0
AllInside n [] = Unit {0}
AllInside n (f ∷ fs) = ((nat_le f.low f.high && nat_lt f.high n) ≡ true) × AllInside n fs

-- bits with bitfields have one width whatever the atoms stand for, within which these lie
abbrev pub ShapedView : Polynomial → View → Type 0
ShapedView w [] = Unit {0}
ShapedView w (f ∷ fs) = (n : ℕ) × ((a : Assignment) → width_at w a ≡ pos n) × AllInside n (f ∷ fs)

-- names agree with the declarations and stand for structures, widths and ends of constraints are polynomials within the limits, enumerations have a label,
-- bitfields lie within their bits, and exceptions have a name wherever they are fields, parts or elements
abbrev mutual
  pub Shaped : (List ℕ → Option Ty) → Ty → Type 0
  Shaped declared (integer_of ps) = AllEnds ps
  Shaped declared boolean = Unit {0}
  Shaped declared (bits_of w view) = IsPolynomial w × ShapedView w view
  Shaped declared (enumeration_of name labels) = Written declared name (enumeration_of name labels) × HasLabel labels
  Shaped declared (record_of name fs) = Written declared name (record_of name fs) × ShapedFields declared fs
  Shaped declared (exception_of name fs) = Written declared name (exception_of name fs) × ShapedFields declared fs
  Shaped declared (tuple_of ts) = ShapedParts declared ts
  Shaped declared (array_of n T) = (is_nameless_exception T ≡ false) × Shaped declared T
  Shaped declared (named name supers T) = (is_named T ≡ false) × Declared declared name supers T × Shaped declared T

  pub ShapedFields : (List ℕ → Option Ty) → Fields → Type 0
  ShapedFields declared no_field = Unit {0}
  ShapedFields declared (field f T fs) = (is_nameless_exception T ≡ false) × Shaped declared T × ShapedFields declared fs

  pub ShapedParts : (List ℕ → Option Ty) → Parts → Type 0
  ShapedParts declared no_part = Unit {0}
  ShapedParts declared (part T ts) = (is_nameless_exception T ≡ false) × Shaped declared T × ShapedParts declared ts

-- a type of storage and of expressions
pub record WellFormed (declared : List ℕ → Option Ty) (T : Ty) : Type 0 where
  pub shaped : Shaped declared T
  pub has_name : is_nameless_exception T ≡ false

-- a type without atoms
abbrev pub Fixed : Ty → Type 0
Fixed T = (a : Assignment) → type_with T a ≡ closed T

-- what a name stands for is well-formed, and has no atoms
pub record WellDeclared (declared : List ℕ → Option Ty) : Type 0 where
  pub each : (name : List ℕ) (T : Ty) → declared name ≡ Some T → WellFormed declared T
  pub fixed : (name : List ℕ) (T : Ty) → declared name ≡ Some T → Fixed T

-- more names are declared, and none otherwise
pub record Extends (declared later : List ℕ → Option Ty) : Type 0 where
  pub kept : (name : List ℕ) (T : Ty) → declared name ≡ Some T → later name ≡ Some T

-- ---- values that a program with these declared types can have: each exception in them was built with a declared type, and the bits in the fields of
-- records and exceptions have the bitfields that are written there

abbrev pub FieldsSeen : Fields → FieldValues → Type 0
FieldsSeen no_field no_value_of = Unit {0}
FieldsSeen (field f T fs) (value_of_field g x xs) = (viewed (closed T) x ≡ x) × FieldsSeen fs xs
FieldsSeen fs xs = ⊥

abbrev pub SeenAs : (List ℕ → Option Ty) → (Fields → Ty) → List ℕ → FieldValues → Type 0
SeenAs declared made name xs = (fs : Fields) × Written declared name (made fs) × FieldsSeen fs xs

abbrev mutual
  pub Built : (List ℕ → Option Ty) → Value → Type 0
  Built declared (int z) = Unit {0}
  Built declared (bool b) = Unit {0}
  Built declared (bits_with bs v) = Unit {0}
  Built declared (label name l) = Unit {0}
  Built declared (record_with name xs) = SeenAs declared (record_of name) name xs × BuiltFields declared xs
  Built declared (exception_with own supers name xs) = ((T : Ty) × (declared own ≡ Some (named own supers T))) × SeenAs declared (exception_of name) name xs × BuiltFields declared xs
  Built declared (tuple_with xs) = BuiltAll declared xs
  Built declared (array_with k xs) = BuiltAll declared xs

  pub BuiltFields : (List ℕ → Option Ty) → FieldValues → Type 0
  BuiltFields declared no_value_of = Unit {0}
  BuiltFields declared (value_of_field f x xs) = Built declared x × BuiltFields declared xs

  pub BuiltAll : (List ℕ → Option Ty) → Values → Type 0
  BuiltAll declared no_value = Unit {0}
  BuiltAll declared (value x xs) = Built declared x × BuiltAll declared xs
