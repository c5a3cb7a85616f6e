-- The values of global storage, all in source order, and beside them the variables, which are the storage that can be assigned: the places that are marked.
use Rattle.std.specs.Prelude.{ℕ, Bool, true, false, List, [], ◌∷◌, map, if◌then◌else◌}
use Rattle.asl_rules.specs.runs.States.{Binding}
use Rattle.asl_rules.specs.values.Values as rules
use Rattle.asl_tree.specs.declared.checked.Global.{Global}
use Rattle.asl_value.specs.declared.value.Value.{Value}
use Rattle.asl_value.specs.View.{value_of}
use Rattle.asl_machine.specs.declared.memory.GlobalVar.{GlobalVar}

-- ---- the values in their places

-- one place: where it is marked it takes the value of the next variable
abbrev pub given_one : Bool → Value → List GlobalVar → (List GlobalVar → List Value) → List Value
given_one false x vs rest = x ∷ rest vs
given_one true x [] rest = x ∷ rest []
given_one true x (v ∷ vs) rest = v.value ∷ rest vs

-- the values, with those of the variables in the places that are marked, as far as they go
abbrev pub given : List Bool → List Value → List GlobalVar → List Value
given [] xs vs = xs
given (m ∷ ms) [] vs = []
given (m ∷ ms) (x ∷ xs) vs = given_one m x vs (given ms xs)

abbrev pub taken_one : Bool → Value → List GlobalVar → (List GlobalVar → List GlobalVar) → List GlobalVar
taken_one false x vs rest = rest vs
taken_one true x [] rest = rest []
taken_one true x (v ∷ vs) rest = record v { value = x } ∷ rest vs

-- and the variables, with the values that stood in these places
abbrev pub taken : List Bool → List Value → List GlobalVar → List GlobalVar
taken [] xs vs = vs
taken (m ∷ ms) [] vs = vs
taken (m ∷ ms) (x ∷ xs) vs = taken_one m x vs (taken ms xs)

-- ---- before the first call

abbrev pub marks_of : List Global → List Bool
marks_of gs = map (λ (g : Global). g.is_mutable) gs

abbrev pub values_in : List Global → List Value
values_in gs = map (λ (g : Global). g.value) gs

abbrev pub vars_from : List Global → List GlobalVar
vars_from [] = []
vars_from (g ∷ gs) = if g.is_mutable then record { name = g.name; value = g.value } ∷ vars_from gs else vars_from gs

-- ---- as the rules see them

-- a variable: its name and its value
pub record Var : Type 0 where
  pub name : List ℕ
  pub value : rules.Value

abbrev pub var_of : GlobalVar → Var
var_of v = record { name = v.name; value = value_of v.value }

-- the variables among bindings
abbrev pub vars_in : List Binding → List Var
vars_in [] = []
vars_in (b ∷ bs) = if b.is_mutable then record { name = b.name; value = b.value } ∷ vars_in bs else vars_in bs

-- these bindings with other values, as far as they go
abbrev pub with_values : List Binding → List rules.Value → List Binding
with_values [] xs = []
with_values (b ∷ bs) [] = b ∷ bs
with_values (b ∷ bs) (x ∷ xs) = record b { value = x } ∷ with_values bs xs
