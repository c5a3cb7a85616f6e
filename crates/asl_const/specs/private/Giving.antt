-- The fields of a type with the values that are given, one by one.
use Rattle.std.specs.Prelude.{ℕ, List, [], ◌∷◌, ◌++◌, map, Option, option_map, option_and_then}
use Rattle.std.specs.Borrow.{Bor}
use Rattle.asl_syn.specs.declared.token.Span.{Span}
use Rattle.asl_syn.specs.declared.tree.FieldValue.{FieldValue}
use Rattle.asl_rules.specs.types.Closed.{Closed, closed}
use Rattle.asl_rules.specs.runs.Plans.{Pure, Good}
use Rattle.asl_rules.specs.runs.Pures.{◌>>=◌, there}
use Rattle.asl_rules.specs.types.Shaped.{itself, shapes_in}
use Rattle.asl_rules.specs.runs.States.{of_type, kept}
use Rattle.asl_rules.specs.values.Structures.{given_value}
use Rattle.asl_rules.specs.types.Types as types
use Rattle.asl_rules.specs.values.Values.{Value}
use Rattle.asl_types.specs.declared.ty.FieldType.{FieldType}
use Rattle.asl_types.specs.declared.ty.FieldType.TheVariants as f
use Rattle.asl_value.specs.View.{Of}
use Rattle.asl_const.specs.private.Finds.{known_given}

-- the names of fields that are given
abbrev pub given_names : List FieldValue → List (List ℕ)
given_names fs = shapes_in itself (map known_given fs)

-- a field with a value
abbrev pub of_value : List ℕ → Value → Of
of_value f x = record { name = f; value = x }

-- a value as a field of this type keeps it
abbrev pub kept_in : types.Ty → Value → Option Value
kept_in T x = kept (of_type (closed T)) x

abbrev pub filled_with : Span → FieldType → Option Value → Pure Of
filled_with span (f.Field n T) o = there span (option_map (of_value n) (option_and_then (kept_in T) o))

abbrev pub name_in : FieldType → List ℕ
name_in (f.Field n T) = n

-- a field of a type with the value that is given for it
abbrev pub filled_one : Span → FieldType → List (List ℕ) → List Value → Pure Of
filled_one span x gs ys = filled_with span x (given_value (name_in x) gs ys)

-- the fields of a type with the values that are given for them, behind those before
abbrev pub filled_after : Span → List Of → List FieldType → List (List ℕ) → List Value → Pure (List Of)
filled_after span xs [] gs ys = Good xs
filled_after span xs (f ∷ fs) gs ys = filled_one span f gs ys >>= λ x. filled_after span (xs ++ x ∷ []) fs gs ys

-- what a type behind a reference is, where there is one
abbrev pub type_behind : Option (Bor types.Ty) → Option Closed
type_behind o = option_map (λ t. closed t.now) o
