-- The signatures of one name: the number of the last, and the links from each to the next older.
use Rattle.std.specs.Prelude.{◌≡◌, ℕ, suc, Bool, true, false, if◌then◌else◌, ◌&&◌, List, [], ◌∷◌, Option, Some, None, length, take, slice_get, Vec}
use Rattle.std.specs.Str.{bytes_eq}
use Rattle.std.specs.Map.{lookup}
use Rattle.asl_rules.specs.types.Types.{Parts, same_kinds}
use Rattle.asl_rules.specs.declarations.Scopes.{Signature, Chosen}

-- the number of the last that has this name, where the first has the number n and o is the last before
abbrev pub last_from : ℕ → Option ℕ → List ℕ → List Signature → Option ℕ
last_from n o name [] = o
last_from n o name (f ∷ fs) = last_from (suc n) (if bytes_eq f.name name then Some n else o) name fs

abbrev pub last_of : List ℕ → List Signature → Option ℕ
last_of name fs = last_from 0 None name fs

-- what an earlier one is, and else what a later one is
abbrev pub or_found : Option Chosen → Option Chosen → Option Chosen
or_found None later = later
or_found (Some c) later = Some c

-- a signature where this holds
abbrev pub taken_by : Bool → ℕ → Signature → Option Chosen
taken_by true n f = Some (record { number = n; signature = f })
taken_by false n f = None

-- a signature where it has this name and formals of the kinds of these types
abbrev pub taken : ℕ → List ℕ → Parts → Signature → Option Chosen
taken n name Ts f = if bytes_eq f.name name && same_kinds f.formals Ts then Some (record { number = n; signature = f }) else None

-- the number of the last of each name is in the map, and each signature has the next older one of its name
pub record IsLinked {Z : Type 0} (fs : List Signature) (older : List (Option ℕ)) (es : List (Vec ℕ Z × ℕ)) : Type 0 where
  pub many : length older ≡ length fs
  pub newest : (name : List ℕ) → lookup (λ k. bytes_eq name k.items) es ≡ last_of name fs
  pub links : (i : ℕ) (f : Signature) → slice_get fs i ≡ Some f → slice_get older i ≡ Some (last_of f.name (take i fs))
