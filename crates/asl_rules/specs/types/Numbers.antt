-- The numbers that width expressions stand for, where names stand for numbers. They are fractions, which no limit bounds and which are taken as they come,
-- not in lowest terms; to find them takes no step.
use Rattle.std.specs.Prelude.{ℕ, ◌*◌, ℤ, pos, ◌-ℤ◌, ◌*ℤ◌, List, [], ◌∷◌, if◌then◌else◌, Option, Some, None, option_map, option_and_then}
use Rattle.std.specs.Str.{bytes_eq}
use Rattle.asl_syn.specs.declared.tree.Expr.{Expr}
use Rattle.asl_poly.specs.Fractions.{Fraction, SameFraction, whole, plus, times}
use Rattle.asl_rules.specs.values.Values.{Value, int}
use Rattle.asl_rules.specs.runs.States.{Binding, Core}
use Rattle.asl_rules.specs.types.Arithmetic.{Arithmetic, Named, Worth, worth}

-- which integers names stand for
abbrev pub Numbers : Type 0
Numbers = Named ℤ

-- and which fractions
abbrev pub Fractions : Type 0
Fractions = Named Fraction

abbrev pub FractionOf : Type 0
FractionOf = Worth Fraction

abbrev pub less : Fraction → Fraction → Fraction
less r s = record { number = r.number *ℤ pos s.denominator -ℤ s.number *ℤ pos r.denominator; denominator = r.denominator * s.denominator }

-- a fraction divided by a number above 0
abbrev pub parted : Fraction → ℕ → Fraction
parted r k = record { number = r.number; denominator = r.denominator * k }

abbrev pub fractions : Arithmetic Fraction
fractions = record { literal = λ n. whole (pos n); plus = plus; minus = less; times = times; over = parted }

abbrev pub fraction : Expr → FractionOf
fraction = worth fractions

-- integers as fractions
abbrev pub wholes : Numbers → Fractions
wholes f name = option_map whole (f name)

-- the fraction is this integer
abbrev pub IsWhole : ℤ → Fraction → Type 0
IsWhole z r = SameFraction r (whole z)

-- ---- the names of a state that can't be assigned

abbrev pub integer_of_value : Value → Option ℤ
integer_of_value (int z) = Some z
integer_of_value x = None

abbrev pub fixed_number : Binding → Option ℤ
fixed_number b = if b.is_mutable then None else integer_of_value b.value

abbrev pub number_among : List ℕ → List Binding → Option ℤ
number_among name [] = None
number_among name (b ∷ bs) = if bytes_eq b.name name then fixed_number b else number_among name bs

abbrev pub or_number : Option ℤ → Option ℤ → Option ℤ
or_number None o = o
or_number (Some z) o = Some z

-- the integers of the frame and of the globals
abbrev pub present : Core → Numbers
present c name = or_number (number_among name c.frame) (number_among name c.globals)

-- the integers of the globals alone
abbrev pub outside : Core → Numbers
outside c name = number_among name c.globals

-- what expressions in order stand for, where all stand for something
abbrev pub all_fractions : Fractions → List Expr → Option (List Fraction)
all_fractions f [] = Some []
all_fractions f (e ∷ es) = option_and_then (λ r. option_map (λ rs. r ∷ rs) (all_fractions f es)) (fraction e f)
