-- What a value is that belongs to a type or has a kind.
use Rattle.std.proofs.Common.{◌≡◌, ℕ, Bool, true, List, ℤ, refl, ap}
use Rattle.asl_rules.specs.types.Types.{Ty, View, Kind, Kinds, named, integers, booleans, bitvectors, enumerations, records, exceptions, tuples, arrays, kind_eq}
use Rattle.asl_rules.specs.values.Values.{Value, Values, FieldValues, int, bool, bits_with, label, record_with, exception_with, tuple_with, array_with, count, kind_of, kinds_of, is_exception}
use Rattle.asl_rules.specs.types.Closed.{Assignment}
use Rattle.asl_rules.specs.private.Belonging.{has_type}
use Rattle.std.specs.Prelude.{◌==◌}
use Rattle.asl_rules.proofs.basics.Tests.{no, both, and_true, same_name}
use Rattle.asl_rules.proofs.values.SameKind.{equal_kinds, equal_all, tests_equal, same_number}

module _ (av : Assignment) where
  -- ---- of a declared name

  pub named_parts : (x : Value) (name : List ℕ) (supers : List (List ℕ)) (T : Ty) → has_type av x (named name supers T) ≡ true → (is_exception name x ≡ true) × (has_type av x T ≡ true)
  named_parts x name supers T h = both (is_exception name x) (has_type av x T) h

  pub named_from : (x : Value) (name : List ℕ) (supers : List (List ℕ)) (T : Ty) → is_exception name x ≡ true → has_type av x T ≡ true → has_type av x (named name supers T) ≡ true
  named_from x name supers T p q = and_true (is_exception name x) (has_type av x T) p q

-- ---- of a kind

integer_tested : (x : Value) → kind_eq (kind_of x) integers ≡ true → (z : ℤ) × (x ≡ int z)
integer_tested (int z) h = (z, refl)
integer_tested x h = no h

pub integer_is : (x : Value) → kind_of x ≡ integers → (z : ℤ) × (x ≡ int z)
integer_is x h = integer_tested x (tests_equal (kind_of x) integers h)

boolean_tested : (x : Value) → kind_eq (kind_of x) booleans ≡ true → (b : Bool) × (x ≡ bool b)
boolean_tested (bool b) h = (b, refl)
boolean_tested x h = no h

pub boolean_is : (x : Value) → kind_of x ≡ booleans → (b : Bool) × (x ≡ bool b)
boolean_is x h = boolean_tested x (tests_equal (kind_of x) booleans h)

bits_tested : (x : Value) → kind_eq (kind_of x) bitvectors ≡ true → (bs : List Bool) × (v : View) × (x ≡ bits_with bs v)
bits_tested (bits_with bs v) h = (bs, v, refl)
bits_tested x h = no h

pub bits_is : (x : Value) → kind_of x ≡ bitvectors → (bs : List Bool) × (v : View) × (x ≡ bits_with bs v)
bits_is x h = bits_tested x (tests_equal (kind_of x) bitvectors h)

label_tested : (n : List ℕ) (x : Value) → kind_eq (kind_of x) (enumerations n) ≡ true → (l : List ℕ) × (x ≡ label n l)
label_tested n (label m l) h = (l, ap (λ i. label i l) (same_name m n h))
label_tested n x h = no h

pub label_is : (n : List ℕ) (x : Value) → kind_of x ≡ enumerations n → (l : List ℕ) × (x ≡ label n l)
label_is n x h = label_tested n x (tests_equal (kind_of x) (enumerations n) h)

record_tested : (n : List ℕ) (x : Value) → kind_eq (kind_of x) (records n) ≡ true → (xs : FieldValues) × (x ≡ record_with n xs)
record_tested n (record_with m xs) h = (xs, ap (λ i. record_with i xs) (same_name m n h))
record_tested n x h = no h

pub record_is : (n : List ℕ) (x : Value) → kind_of x ≡ records n → (xs : FieldValues) × (x ≡ record_with n xs)
record_is n x h = record_tested n x (tests_equal (kind_of x) (records n) h)

-- an exception with the names that it was built with
pub record Thrown (n : List ℕ) (x : Value) : Type 0 where
  pub own : List ℕ
  pub supers : List (List ℕ)
  pub fields : FieldValues
  pub is : x ≡ exception_with own supers n fields

exception_tested : (n : List ℕ) (x : Value) → kind_eq (kind_of x) (exceptions n) ≡ true → Thrown n x
exception_tested n (exception_with own supers m xs) h = record { own = own; supers = supers; fields = xs; is = ap (λ i. exception_with own supers i xs) (same_name m n h) }
exception_tested n x h = no h

pub exception_is : (n : List ℕ) (x : Value) → kind_of x ≡ exceptions n → Thrown n x
exception_is n x h = exception_tested n x (tests_equal (kind_of x) (exceptions n) h)

tuple_tested : (ks : Kinds) (x : Value) → kind_eq (kind_of x) (tuples ks) ≡ true → (xs : Values) × (x ≡ tuple_with xs) × (kinds_of xs ≡ ks)
tuple_tested ks (tuple_with xs) h = (xs, refl, equal_all (kinds_of xs) ks h)
tuple_tested ks x h = no h

pub tuple_is : (ks : Kinds) (x : Value) → kind_of x ≡ tuples ks → (xs : Values) × (x ≡ tuple_with xs) × (kinds_of xs ≡ ks)
tuple_is ks x h = tuple_tested ks x (tests_equal (kind_of x) (tuples ks) h)

array_tested : (n : ℕ) (k : Kind) (x : Value) → kind_eq (kind_of x) (arrays n k) ≡ true → (xs : Values) × (x ≡ array_with k xs) × (count xs ≡ n)
array_tested n k (array_with l xs) h =
    let p = both (count xs == n) (kind_eq l k) h in
    (xs, ap (λ i. array_with i xs) (equal_kinds l k p.1), same_number (count xs) n p.0)
array_tested n k x h = no h

pub array_is : (n : ℕ) (k : Kind) (x : Value) → kind_of x ≡ arrays n k → (xs : Values) × (x ≡ array_with k xs) × (count xs ≡ n)
array_is n k x h = array_tested n k x (tests_equal (kind_of x) (arrays n k) h)
