-- The parameters and the arguments that the subprograms of the library take.
use Rattle.std.specs.Prelude.{ℤ, Bool, List, [], ◌∷◌, Option, Some, None}
use Rattle.asl_syn.specs.declared.token.Span.{Span}
use Rattle.asl_rules.specs.values.Values.{Value, int, bits_with}
use Rattle.asl_rules.specs.runs.Plans.{Stuck, WrongKind, Pure, Bad}

abbrev pub integer_in : Value → Option ℤ
integer_in (int z) = Some z
integer_in x = None

abbrev pub bits_in : Value → Option (List Bool)
bits_in (bits_with bs v) = Some bs
bits_in x = None

abbrev pub both : {A B : Type 0} → Option A → Option B → Option (A × B)
both None p = None
both (Some a) None = None
both (Some a) (Some b) = Some (a, b)

-- ---- all that is given

abbrev pub one_bits : List Value → Option (List Bool)
one_bits [] = None
one_bits (x ∷ []) = bits_in x
one_bits (x ∷ y ∷ xs) = None

abbrev pub one_integer : List Value → Option ℤ
one_integer [] = None
one_integer (x ∷ []) = integer_in x
one_integer (x ∷ y ∷ xs) = None

abbrev pub two_integers : List Value → Option (ℤ × ℤ)
two_integers [] = None
two_integers (x ∷ []) = None
two_integers (x ∷ y ∷ []) = both (integer_in x) (integer_in y)
two_integers (x ∷ y ∷ z ∷ xs) = None

-- what is found where nothing is given beside it
abbrev pub beside_nothing : {A : Type 0} → List Value → Option A → Option A
beside_nothing [] o = o
beside_nothing (x ∷ xs) o = None

-- what is made of what there has to be
abbrev pub given : {A B : Type 0} → Span → Option A → (A → Pure B) → Pure B
given span None f = Bad (Stuck WrongKind span)
given span (Some x) f = f x
