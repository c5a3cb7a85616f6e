-- Values that belong to types at an assignment of integers to the atoms, and states all of whose values do.
use Rattle.std.specs.Prelude.{◌≡◌, ℕ, Bool, true, List, [], ◌∷◌, Option, Some}
use Rattle.asl_rules.specs.types.Types.{Ty, Fields, Parts, no_part, part}
use Rattle.asl_rules.specs.types.Closed.{Assignment, type_with, fields_with, parts_with}
use Rattle.asl_rules.specs.values.Values.{Value, FieldValues, Values, has, fields_in, parts_in, all_in}
use Rattle.asl_rules.specs.types.Views.{viewed}
use Rattle.asl_rules.specs.private.WellFormed.{Built}
use Rattle.asl_rules.specs.runs.States.{Binding, Frame, Core, kept}

-- the value is one of the type where the atoms stand for these integers
abbrev pub has_type : Assignment → Value → Ty → Bool
has_type a x T = has x (type_with T a)

abbrev pub fields_have : Assignment → FieldValues → Fields → Bool
fields_have a xs fs = fields_in xs (fields_with fs a)

abbrev pub parts_have : Assignment → Values → Parts → Bool
parts_have a xs ts = parts_in xs (parts_with ts a)

abbrev pub all_have : Assignment → Values → Ty → Bool
all_have a xs T = all_in xs (type_with T a)

-- a value of the type, with the type's bitfields, which a program with these declared types can have
abbrev pub InType : (List ℕ → Option Ty) → Assignment → Value → Ty → Type 0
InType declared a x T = (has_type a x T ≡ true) × Built declared x × (viewed (type_with T a) x ≡ x)

-- each place keeps its value as it is
abbrev pub AllBelong : List Binding → Type 0
AllBelong [] = Unit {0}
AllBelong (b ∷ bs) = (kept b.under b.value ≡ Some b.value) × AllBelong bs

abbrev pub AllFramesBelong : List Frame → Type 0
AllFramesBelong [] = Unit {0}
AllFramesBelong (f ∷ fs) = AllBelong f.names × AllFramesBelong fs

-- each value belongs where it is stored, in each frame, with the bitfields of its place
pub record Sound (c : Core) : Type 0 where
  pub globals : AllBelong c.globals
  pub frame : AllBelong c.frame
  pub callers : AllFramesBelong c.callers

-- values in order, each of the type in its place
abbrev pub Belong : (List ℕ → Option Ty) → Assignment → List Value → Parts → Type 0
Belong declared a [] no_part = Unit {0}
Belong declared a [] (part T Ts) = ⊥
Belong declared a (x ∷ xs) no_part = ⊥
Belong declared a (x ∷ xs) (part T Ts) = InType declared a x T × Belong declared a xs Ts
