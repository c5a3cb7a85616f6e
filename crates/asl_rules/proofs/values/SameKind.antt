-- The test of kinds decides whether they are equal.
use Rattle.std.proofs.Common.{◌≡◌, ℕ, true, refl, sym, ap, ap₂, subst}
use Rattle.std.specs.Cmp.{both_ways}
use Rattle.std.specs.Prelude.{◌==◌}
use Rattle.std.proofs.lemmas.Bool.Decides.{Decides-eqb}
use Rattle.asl_rules.specs.types.Types.{Kind, Kinds, integers, booleans, bitvectors, enumerations, records, exceptions, tuples, arrays, no_kind, one_more, kind_eq, kinds_eq}
use Rattle.asl_rules.proofs.basics.Tests.{no, both, and_true, same_name, name_is}

pub same_number : (m n : ℕ) → (m == n) ≡ true → m ≡ n
same_number m n = (Decides-eqb m n).0

pub number_is : (n : ℕ) → (n == n) ≡ true
number_is n = (Decides-eqb n n).1 refl

mutual
  pub equal_kinds : (k l : Kind) → kind_eq k l ≡ true → k ≡ l
  equal_kinds integers integers h = refl
  equal_kinds booleans booleans h = refl
  equal_kinds bitvectors bitvectors h = refl
  equal_kinds (enumerations m) (enumerations n) h = ap enumerations (same_name m n h)
  equal_kinds (records m) (records n) h = ap records (same_name m n h)
  equal_kinds (exceptions m) (exceptions n) h = ap exceptions (same_name m n h)
  equal_kinds (tuples ks) (tuples ls) h = ap tuples (equal_all ks ls h)
  equal_kinds (arrays m k) (arrays n l) h =
      let p = both (m == n) (kind_eq k l) h in
      ap₂ arrays (same_number m n p.0) (equal_kinds k l p.1)
  equal_kinds k l h = no h

  pub equal_all : (ks ls : Kinds) → kinds_eq ks ls ≡ true → ks ≡ ls
  equal_all no_kind no_kind h = refl
  equal_all (one_more k ks) (one_more l ls) h =
      let p = both (kind_eq k l) (kinds_eq ks ls) h in
      ap₂ one_more (equal_kinds k l p.0) (equal_all ks ls p.1)
  equal_all ks ls h = no h

mutual
  pub kind_is : (k : Kind) → kind_eq k k ≡ true
  kind_is integers = refl
  kind_is booleans = refl
  kind_is bitvectors = refl
  kind_is (enumerations n) = name_is n
  kind_is (records n) = name_is n
  kind_is (exceptions n) = name_is n
  kind_is (tuples ks) = kinds_are ks
  kind_is (arrays n k) = and_true (n == n) (kind_eq k k) (number_is n) (kind_is k)

  kinds_are : (ks : Kinds) → kinds_eq ks ks ≡ true
  kinds_are no_kind = refl
  kinds_are (one_more k ks) = and_true (kind_eq k k) (kinds_eq ks ks) (kind_is k) (kinds_are ks)

pub tests_equal : (k l : Kind) → k ≡ l → kind_eq k l ≡ true
tests_equal k l h = subst (λ m. kind_eq k m ≡ true) h (kind_is k)

-- the test says the same either way round
pub tests_turned : (k l : Kind) → kind_eq k l ≡ kind_eq l k
tests_turned k l = both_ways (kind_eq k l) (kind_eq l k) (λ h. tests_equal l k (sym (equal_kinds k l h))) (λ h. tests_equal k l (sym (equal_kinds l k h)))
