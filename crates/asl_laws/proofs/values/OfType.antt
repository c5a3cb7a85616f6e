-- What a value is whose type has a kind.
use Rattle.std.proofs.Common.{◌≡◌, ℕ, Bool, true, List, ℤ, ◌∙◌}
use Rattle.asl_rules.specs.types.Types.{Ty, View, Kind, Kinds, integers, booleans, bitvectors, enumerations, records, exceptions, tuples, arrays, kind}
use Rattle.asl_rules.specs.values.Values.{Value, Values, FieldValues, int, bool, bits_with, label, record_with, tuple_with, array_with, count, kinds_of}
use Rattle.asl_rules.specs.types.Closed.{Assignment}
use Rattle.asl_rules.specs.private.Belonging.{has_type}
use Rattle.asl_rules.proofs.values.KindOf.{has_kind}
use Rattle.asl_rules.proofs.values.Shapes.{Thrown, integer_is, boolean_is, bits_is, label_is, record_is, exception_is, tuple_is, array_is}

module _ (av : Assignment) where
  pub of_integers : (T : Ty) (x : Value) → has_type av x T ≡ true → kind T ≡ integers → (z : ℤ) × (x ≡ int z)
  of_integers T x h k = integer_is x (has_kind av T x h ∙ k)

  pub of_booleans : (T : Ty) (x : Value) → has_type av x T ≡ true → kind T ≡ booleans → (b : Bool) × (x ≡ bool b)
  of_booleans T x h k = boolean_is x (has_kind av T x h ∙ k)

  pub of_bits : (T : Ty) (x : Value) → has_type av x T ≡ true → kind T ≡ bitvectors → (bs : List Bool) × (v : View) × (x ≡ bits_with bs v)
  of_bits T x h k = bits_is x (has_kind av T x h ∙ k)

  pub of_enumerations : (T : Ty) (n : List ℕ) (x : Value) → has_type av x T ≡ true → kind T ≡ enumerations n → (l : List ℕ) × (x ≡ label n l)
  of_enumerations T n x h k = label_is n x (has_kind av T x h ∙ k)

  pub of_records : (T : Ty) (n : List ℕ) (x : Value) → has_type av x T ≡ true → kind T ≡ records n → (xs : FieldValues) × (x ≡ record_with n xs)
  of_records T n x h k = record_is n x (has_kind av T x h ∙ k)

  pub of_exceptions : (T : Ty) (n : List ℕ) (x : Value) → has_type av x T ≡ true → kind T ≡ exceptions n → Thrown n x
  of_exceptions T n x h k = exception_is n x (has_kind av T x h ∙ k)

  pub of_tuples : (T : Ty) (ks : Kinds) (x : Value) → has_type av x T ≡ true → kind T ≡ tuples ks → (xs : Values) × (x ≡ tuple_with xs) × (kinds_of xs ≡ ks)
  of_tuples T ks x h k = tuple_is ks x (has_kind av T x h ∙ k)

  pub of_arrays : (T : Ty) (n : ℕ) (l : Kind) (x : Value) → has_type av x T ≡ true → kind T ≡ arrays n l → (xs : Values) × (x ≡ array_with l xs) × (count xs ≡ n)
  of_arrays T n l x h k = array_is n l x (has_kind av T x h ∙ k)
