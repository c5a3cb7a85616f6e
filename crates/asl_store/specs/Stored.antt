-- What contracts see of a store.
use Rattle.std.specs.Prelude.{◌≡◌, ℕ, ◌+◌, Bool, true, false, List, [], ◌∷◌, Option, Some, None, Result, drop, refl, set, slice_get, take}
use Rattle.std.specs.Coded.{Coded, code_by, coded×, coded_list, coded_option}
use Rattle.asl_rules.specs.runs.Plans.{Pure}
use Rattle.asl_rules.specs.values.Values as rules
use Rattle.asl_value.specs.View.{value_of}
use Rattle.asl_value.specs.declared.failure.Failure.{Failure}
use Rattle.asl_value.specs.declared.value.Value.{Value}
use Rattle.asl_value.specs.contracts.value.Value as values
use Rattle.asl_value.specs.private.Answers.{Changes}

-- a frame: for each of its slots the value that it is bound to, none where it isn't bound
abbrev pub Frame : Type 0
Frame = List (Option Value)

-- the globals by their numbers, the newest frame, and those before it, the oldest first
pub record Stored : Type 0 where
  pub globals : List Value
  pub newest : List (Option Value)
  pub older : List (List (Option Value))

abbrev pub stored_code : Coded Stored
stored_code = code_by (List Value × (List (Option Value) × List (List (Option Value))))
    (coded× (coded_list values.the_row.coded) (coded× (coded_list (coded_option values.the_row.coded)) (coded_list (coded_list (coded_option values.the_row.coded)))))
    (λ s. (s.globals, (s.newest, s.older))) (λ p. record { globals = p.0; newest = p.1.0; older = p.1.1 }) (λ _. refl)

-- ---- slots

abbrev pub joined : {A : Type 0} → Option (Option A) → Option A
joined None = None
joined (Some o) = o

-- what a slot is bound to, none also past the last slot
abbrev pub bound_at : {A : Type 0} → List (Option A) → ℕ → Option A
bound_at os i = joined (slice_get os i)

-- a slot of the newest frame is bound so
abbrev pub with_slot : Stored → ℕ → Option Value → Stored
with_slot s i o = record s { newest = set s.newest i o }

-- the value that a slot of the newest frame is bound to was changed into what f gives of it, or f gives none and it is the same
pub record Replaced (result : Result (Unit {0}) Failure) (f : rules.Value → Pure rules.Value) (i : ℕ) (s s1 : Stored) : Type 0 where
  pub old : Value
  pub new : Value
  pub was : bound_at s.newest i ≡ Some old
  pub now_is : s1 ≡ with_slot s i (Some new)
  pub changes : Changes result (f (value_of old)) old new

-- that of a global was
pub record ReplacedGlobal (result : Result (Unit {0}) Failure) (f : rules.Value → Pure rules.Value) (i : ℕ) (s s1 : Stored) : Type 0 where
  pub old : Value
  pub new : Value
  pub was : slice_get s.globals i ≡ Some old
  pub now_is : s1 ≡ record s { globals = set s.globals i new }
  pub changes : Changes result (f (value_of old)) old new

-- ---- how it is kept

-- slots by their marks and what they hold
abbrev pub seen_one : {A : Type 0} → Bool → A → Option A
seen_one true x = Some x
seen_one false x = None

abbrev pub seen : {A : Type 0} → List Bool → List A → List (Option A)
seen [] xs = []
seen (m ∷ ms) [] = []
seen (m ∷ ms) (x ∷ xs) = seen_one m x ∷ seen ms xs

-- how many these are together
abbrev pub all_of : List ℕ → ℕ
all_of [] = 0
all_of (n ∷ ns) = n + all_of ns

-- a list in pieces of these lengths
abbrev pub split : {A : Type 0} → List ℕ → List A → List (List A)
split [] xs = []
split (n ∷ ns) xs = take n xs ∷ split ns (drop n xs)
