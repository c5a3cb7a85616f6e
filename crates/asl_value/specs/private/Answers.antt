-- How the answers of operations on values are related to the rules.
use Rattle.std.specs.Prelude.{◌≡◌, Result, Ok, Err}
use Rattle.asl_rules.specs.runs.Plans.{Faulted, Stuck, WrongKind, UnknownType, Pure, Good, Bad}
use Rattle.asl_rules.specs.values.Values as rules
use Rattle.asl_value.specs.declared.failure.Failure.{Failure}
use Rattle.asl_value.specs.declared.failure.Failure.TheVariants as failure
use Rattle.asl_value.specs.declared.value.Value.{Value}
use Rattle.asl_value.specs.View.{value_of}

-- an answer is what the rules give, or memory was wanting
abbrev pub Is : {A B : Type 0} → (A → B) → Result A Failure → Pure B → Type 0
Is view (Ok x) r = r ≡ Good (view x)
Is view (Err (failure.Fault code span)) r = r ≡ Bad (Faulted code span)
Is view (Err (failure.WrongKind span)) r = r ≡ Bad (Stuck WrongKind span)
Is view (Err (failure.UnknownType span)) r = r ≡ Bad (Stuck UnknownType span)
Is view (Err failure.NoMemory) r = Unit {0}

-- a value was changed into what the rules give, or they give none and it is the same, or memory was wanting
abbrev pub Changes : Result (Unit {0}) Failure → Pure rules.Value → Value → Value → Type 0
Changes (Ok x) r old new = r ≡ Good (value_of new)
Changes (Err (failure.Fault code span)) r old new = (r ≡ Bad (Faulted code span)) × (new ≡ old)
Changes (Err (failure.WrongKind span)) r old new = (r ≡ Bad (Stuck WrongKind span)) × (new ≡ old)
Changes (Err (failure.UnknownType span)) r old new = (r ≡ Bad (Stuck UnknownType span)) × (new ≡ old)
Changes (Err failure.NoMemory) r old new = Unit {0}
