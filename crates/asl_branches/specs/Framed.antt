-- What contracts see of the frames of a run.
use Rattle.std.specs.Prelude.{◌≡◌, ℕ, List, Some, Result, refl, set, slice_get}
use Rattle.std.specs.Coded.{Coded, code_by, coded×, coded_ℕ, coded_list}
use Rattle.asl_rules.specs.runs.Plans.{Pure}
use Rattle.asl_rules.specs.values.Values as rules
use Rattle.asl_value.specs.View.{value_of}
use Rattle.asl_value.specs.declared.failure.Failure.{Failure}
use Rattle.asl_value.specs.declared.value.Value.{Value}
use Rattle.asl_value.specs.contracts.value.Value as value_type
use Rattle.asl_value.specs.private.Answers.{Changes}

-- the frame of a caller: its values in order, how many slots it has, and the exceptions that are being handled in it, the innermost last
pub record Kept : Type 0 where
  pub values : List Value
  pub slots : ℕ
  pub handled : List Value

-- the globals, the values of the present frame in order, how many slots that has, and the frames of the callers, the innermost last
pub record Framed : Type 0 where
  pub globals : List Value
  pub values : List Value
  pub slots : ℕ
  pub callers : List Kept

abbrev pub values_code : Coded (List Value)
values_code = coded_list value_type.the_row.coded

abbrev pub kept_code : Coded Kept
kept_code = code_by (List Value × (ℕ × List Value)) (coded× values_code (coded× coded_ℕ values_code))
    (λ k. (k.values, (k.slots, k.handled))) (λ p. record { values = p.0; slots = p.1.0; handled = p.1.1 }) (λ _. refl)

abbrev pub framed_code : Coded Framed
framed_code = code_by (List Value × (List Value × (ℕ × List Kept))) (coded× values_code (coded× values_code (coded× coded_ℕ (coded_list kept_code))))
    (λ f. (f.globals, (f.values, (f.slots, f.callers)))) (λ p. record { globals = p.0; values = p.1.0; slots = p.1.1.0; callers = p.1.1.1 }) (λ _. refl)

-- one of these values was changed into what f gives of it, or f gives none and it is the same
pub record Changed (result : Result (Unit {0}) Failure) (f : rules.Value → Pure rules.Value) (i : ℕ) (xs ys : List Value) : Type 0 where
  pub old : Value
  pub new : Value
  pub was : slice_get xs i ≡ Some old
  pub now_is : ys ≡ set xs i new
  pub changes : Changes result (f (value_of old)) old new
