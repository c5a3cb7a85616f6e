-- Steps that give a value or end a run, one behind the other.
use Rattle.std.specs.Prelude.{Option, Some, None}
use Rattle.asl_syn.specs.declared.token.Span.{Span}
use Rattle.asl_rules.specs.runs.Plans.{Mistake, Stuck, WrongKind, UnknownName, UnknownType, Pure, Good, Bad}

infixl 10 ◌>>=◌
abbrev pub ◌>>=◌ : {A B : Type 0} → Pure A → (A → Pure B) → Pure B
(Good x) >>= f = f x
(Bad e) >>= f = Bad e

-- what there is, where there is something
abbrev pub or_stuck : {A : Type 0} → Mistake → Span → Option A → Pure A
or_stuck mistake span None = Bad (Stuck mistake span)
or_stuck mistake span (Some x) = Good x

-- a value of the kind that is asked for
abbrev pub there : {A : Type 0} → Span → Option A → Pure A
there span o = or_stuck WrongKind span o

-- what a name stands for
abbrev pub known : {A : Type 0} → Span → Option A → Pure A
known span o = or_stuck UnknownName span o

-- a type whose names and numbers are known
abbrev pub found_type : {A : Type 0} → Span → Option A → Pure A
found_type span o = or_stuck UnknownType span o
