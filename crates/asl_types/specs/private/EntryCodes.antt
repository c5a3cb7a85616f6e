-- The values and the entries of the rules as data of the code, by which one can be told from another.
use Rattle.std.specs.Prelude.{◌≡◌, ℕ, ℤ, Bool, List, [], ◌∷◌, Option, Some, None, refl}
use Rattle.std.specs.Coded.{Coded, code_by, coded×, coded⊎, coded_bool, coded_ℕ, coded_ℤ, coded_list, coded_option}
use Rattle.std.proofs.Common.{ap, ◌∙◌, ◌⊎◌, inl, inr}
use Rattle.asl_poly.specs.Terms.{Polynomial, Summand}
use Rattle.asl_value.specs.declared.value.Kind.{Kind, roll-Kind}
use Rattle.asl_value.specs.declared.value.Kind.TheOpen as k
use Rattle.asl_value.specs.declared.value.Kind.TheFolds.{fold-roll-Kind}
use Rattle.asl_value.specs.declared.value.Value.{Value, roll-Value}
use Rattle.asl_value.specs.declared.value.FieldValue.{FieldValue, roll-FieldValue}
use Rattle.asl_value.specs.declared.value.FieldValue.TheOpen as v
use Rattle.asl_value.specs.declared.value.FieldValue.TheFolds.{fold-roll-Value, fold-roll-FieldValue}
use Rattle.asl_value.specs.contracts.value.Value as value_in_code
use Rattle.asl_value.specs.View as values
use Rattle.asl_rules.specs.types.Types as types
use Rattle.asl_rules.specs.values.Values as rules
use Rattle.asl_rules.specs.declarations.Scopes.{Counted, Storage, Standing, Stored, Subprogram, TypeName, Label, Entry}
use Rattle.asl_types.specs.private.Codes.{ty_code}

-- ---- kinds

abbrev mutual
  pub kind_back : types.Kind → Kind
  kind_back types.integers = roll-Kind k.Integers
  kind_back types.booleans = roll-Kind k.Booleans
  kind_back types.bitvectors = roll-Kind k.Bitvectors
  kind_back (types.enumerations n) = roll-Kind (k.Enumerations n)
  kind_back (types.records n) = roll-Kind (k.Records n)
  kind_back (types.exceptions n) = roll-Kind (k.Exceptions n)
  kind_back (types.tuples ks) = roll-Kind (k.Tuples (kinds_back ks))
  kind_back (types.arrays n l) = roll-Kind (k.Arrays n (kind_back l))

  pub kinds_back : types.Kinds → List Kind
  kinds_back types.no_kind = []
  kinds_back (types.one_more l ls) = kind_back l ∷ kinds_back ls

mutual
  pub kind_again : (K : types.Kind) → values.kind_of (kind_back K) ≡ K
  kind_again types.integers = fold-roll-Kind types.Kind values.kind_rule k.Integers
  kind_again types.booleans = fold-roll-Kind types.Kind values.kind_rule k.Booleans
  kind_again types.bitvectors = fold-roll-Kind types.Kind values.kind_rule k.Bitvectors
  kind_again (types.enumerations n) = fold-roll-Kind types.Kind values.kind_rule (k.Enumerations n)
  kind_again (types.records n) = fold-roll-Kind types.Kind values.kind_rule (k.Records n)
  kind_again (types.exceptions n) = fold-roll-Kind types.Kind values.kind_rule (k.Exceptions n)
  kind_again (types.tuples ks) = fold-roll-Kind types.Kind values.kind_rule (k.Tuples (kinds_back ks)) ∙ ap (λ ls. types.tuples ls) (kinds_again ks)
  kind_again (types.arrays n l) = fold-roll-Kind types.Kind values.kind_rule (k.Arrays n (kind_back l)) ∙ ap (λ m. types.arrays n m) (kind_again l)

  pub kinds_again : (Ks : types.Kinds) → values.all_kinds (kinds_back Ks) ≡ Ks
  kinds_again types.no_kind = refl
  kinds_again (types.one_more k ks) = λ i. types.one_more (kind_again k i) (kinds_again ks i)

-- ---- values

abbrev mutual
  pub value_back : rules.Value → Value
  value_back (rules.int z) = roll-Value (v.Int z)
  value_back (rules.bool b) = roll-Value (v.Bool b)
  value_back (rules.bits_with bs u) = roll-Value (v.Bits bs (Some u))
  value_back (rules.label name l) = roll-Value (v.Label name l)
  value_back (rules.record_with name xs) = roll-Value (v.Record name (fields_back xs))
  value_back (rules.exception_with own supers name xs) = roll-Value (v.Exception own supers name (fields_back xs))
  value_back (rules.tuple_with xs) = roll-Value (v.Tuple (values_back xs))
  value_back (rules.array_with k xs) = roll-Value (v.Array (kind_back k) (values_back xs))

  pub fields_back : rules.FieldValues → List FieldValue
  fields_back rules.no_value_of = []
  fields_back (rules.value_of_field f x xs) = roll-FieldValue (v.Given f (value_back x)) ∷ fields_back xs

  pub values_back : rules.Values → List Value
  values_back rules.no_value = []
  values_back (rules.value x xs) = value_back x ∷ values_back xs

mutual
  pub value_again : (x : rules.Value) → values.value_of (value_back x) ≡ x
  value_again (rules.int z) = fold-roll-Value values.Of rules.Value values.field_rule values.value_rule (v.Int z)
  value_again (rules.bool b) = fold-roll-Value values.Of rules.Value values.field_rule values.value_rule (v.Bool b)
  value_again (rules.bits_with bs u) = fold-roll-Value values.Of rules.Value values.field_rule values.value_rule (v.Bits bs (Some u))
  value_again (rules.label n l) = fold-roll-Value values.Of rules.Value values.field_rule values.value_rule (v.Label n l)
  value_again (rules.record_with n xs) = fold-roll-Value values.Of rules.Value values.field_rule values.value_rule (v.Record n (fields_back xs)) ∙ ap (λ ys. rules.record_with n ys) (field_values_again xs)
  value_again (rules.exception_with own supers n xs) = fold-roll-Value values.Of rules.Value values.field_rule values.value_rule (v.Exception own supers n (fields_back xs)) ∙ ap (λ ys. rules.exception_with own supers n ys) (field_values_again xs)
  value_again (rules.tuple_with xs) = fold-roll-Value values.Of rules.Value values.field_rule values.value_rule (v.Tuple (values_back xs)) ∙ ap (λ ys. rules.tuple_with ys) (values_again xs)
  value_again (rules.array_with l xs) = fold-roll-Value values.Of rules.Value values.field_rule values.value_rule (v.Array (kind_back l) (values_back xs)) ∙ λ i. rules.array_with (kind_again l i) (values_again xs i)

  pub field_values_again : (xs : rules.FieldValues) → values.all_fields (fields_back xs) ≡ xs
  field_values_again rules.no_value_of = refl
  field_values_again (rules.value_of_field f x xs) =
      ap (λ (o : values.Of). rules.value_of_field o.name o.value (values.all_fields (fields_back xs))) (fold-roll-FieldValue values.Of rules.Value values.field_rule values.value_rule (v.Given f (value_back x)))
      ∙ λ i. rules.value_of_field f (value_again x i) (field_values_again xs i)

  pub values_again : (xs : rules.Values) → values.all_values (values_back xs) ≡ xs
  values_again rules.no_value = refl
  values_again (rules.value x xs) = λ i. rules.value (value_again x i) (values_again xs i)

-- ---- entries

abbrev value_code : Coded rules.Value
value_code = code_by Value value_in_code.the_row.coded value_back values.value_of value_again

abbrev summand_code : Coded Summand
summand_code = code_by (ℤ × List ℕ) (coded× coded_ℤ (coded_list coded_ℕ)) (λ t. (t.coefficient, t.factors)) (λ p. record { coefficient = p.0; factors = p.1 }) (λ _. refl)

abbrev polynomial_code : Coded Polynomial
polynomial_code = code_by (List Summand × ℕ) (coded× (coded_list summand_code) coded_ℕ) (λ p. (p.terms, p.denominator)) (λ q. record { terms = q.0; denominator = q.1 }) (λ _. refl)

abbrev counted_code : Coded Counted
counted_code = code_by (Polynomial × Bool) (coded× polynomial_code coded_bool) (λ c. (c.poly, c.has_atom)) (λ p. record { poly = p.0; has_atom = p.1 }) (λ _. refl)

abbrev storage_code : Coded Storage
storage_code =
    code_by (types.Ty × (Bool × (Bool × (Option rules.Value × Option Counted)))) (coded× ty_code (coded× coded_bool (coded× coded_bool (coded× (coded_option value_code) (coded_option counted_code)))))
    (λ s. (s.ty, (s.is_global, (s.is_mutable, (s.initial, s.counted))))) (λ p. record { ty = p.0; is_global = p.1.0; is_mutable = p.1.1.0; initial = p.1.1.1.0; counted = p.1.1.1.1 }) (λ _. refl)

-- a standing as storage, or a type with a value, one of them or none
abbrev Other : Type 0
Other = Option (types.Ty × Option rules.Value)

abbrev standing_back : Standing → Storage ⊎ Other
standing_back (Stored s) = inl s
standing_back Subprogram = inr None
standing_back (TypeName T) = inr (Some (T, None))
standing_back (Label T x) = inr (Some (T, Some x))

abbrev standing_by : Storage ⊎ Other → Standing
standing_by (inl s) = Stored s
standing_by (inr None) = Subprogram
standing_by (inr (Some (T, None))) = TypeName T
standing_by (inr (Some (T, Some x))) = Label T x

pub standing_again : (s : Standing) → standing_by (standing_back s) ≡ s
standing_again (Stored s) = refl
standing_again Subprogram = refl
standing_again (TypeName T) = refl
standing_again (Label T x) = refl

abbrev standing_code : Coded Standing
standing_code = code_by (Storage ⊎ Other) (coded⊎ storage_code (coded_option (coded× ty_code (coded_option value_code)))) standing_back standing_by standing_again

abbrev entry_code : Coded Entry
entry_code = code_by (List ℕ × Standing) (coded× (coded_list coded_ℕ) standing_code) (λ e. (e.name, e.standing)) (λ p. record { name = p.0; standing = p.1 }) (λ _. refl)

abbrev pub entries_code : Coded (List Entry)
entries_code = coded_list entry_code
