-- A value has the kind of its type.
use Rattle.std.proofs.Common.{◌≡◌, true, refl, ap, ap₂}
use Rattle.std.specs.Prelude.{◌==◌}
use Rattle.asl_rules.specs.types.Types.{Ty, Parts, integer_of, boolean, bits_of, enumeration_of, record_of, exception_of, tuple_of, array_of, named, no_part, part, enumerations, records, exceptions, tuples, arrays, one_more, kind, kinds, kind_eq}
use Rattle.asl_rules.specs.values.Values.{Value, Values, int, bool, bits_with, label, record_with, exception_with, tuple_with, array_with, no_value, value, count, kind_of, kinds_of}
use Rattle.asl_rules.specs.types.Closed.{Assignment, type_with, parts_with, kind_at, kinds_at}
use Rattle.asl_rules.specs.private.Belonging.{has_type, parts_have}
use Rattle.asl_rules.proofs.basics.Tests.{no, both, same_name}
use Rattle.asl_rules.proofs.values.SameKind.{equal_kinds, same_number}
use Rattle.asl_rules.proofs.values.Shapes.{named_parts}

-- a type has one kind, whatever the atoms stand for
mutual
  pub kind_same : (T : Ty) (a : Assignment) → kind_at (type_with T a) ≡ kind T
  kind_same (integer_of ps) a = refl
  kind_same boolean a = refl
  kind_same (bits_of w u) a = refl
  kind_same (enumeration_of n labels) a = refl
  kind_same (record_of n fs) a = refl
  kind_same (exception_of n fs) a = refl
  kind_same (tuple_of ts) a = ap tuples (kinds_same ts a)
  kind_same (array_of n T) a = refl
  kind_same (named n supers T) a = kind_same T a

  pub kinds_same : (ts : Parts) (a : Assignment) → kinds_at (parts_with ts a) ≡ kinds ts
  kinds_same no_part a = refl
  kinds_same (part T ts) a = ap₂ one_more (kind_same T a) (kinds_same ts a)

module _ (av : Assignment) where
  mutual
    pub has_kind : (T : Ty) (x : Value) → has_type av x T ≡ true → kind_of x ≡ kind T
    has_kind (integer_of ps) (int z) h = refl
    has_kind (integer_of ps) x h = no h
    has_kind (bits_of w u) (bits_with bs v) h = refl
    has_kind (bits_of w u) x h = no h
    has_kind boolean (bool b) h = refl
    has_kind boolean x h = no h
    has_kind (enumeration_of n labels) (label m l) h = ap enumerations (same_name m n (both _ _ h).0)
    has_kind (enumeration_of n labels) x h = no h
    has_kind (record_of n fs) (record_with m xs) h = ap records (same_name m n (both _ _ h).0)
    has_kind (record_of n fs) x h = no h
    has_kind (exception_of n fs) (exception_with own supers m xs) h = ap exceptions (same_name m n (both _ _ h).0)
    has_kind (exception_of n fs) x h = no h
    has_kind (tuple_of ts) (tuple_with xs) h = ap tuples (have_kinds ts xs h)
    has_kind (tuple_of ts) x h = no h
    has_kind (array_of n T) (array_with k xs) h =
        let p = both (kind_eq k (kind T)) (count xs == n) (both _ _ h).0 in
        ap₂ arrays (same_number (count xs) n p.1) (equal_kinds k (kind T) p.0)
    has_kind (array_of n T) x h = no h
    has_kind (named name supers T) x h = has_kind T x (named_parts av x name supers T h).1

    pub have_kinds : (ts : Parts) (xs : Values) → parts_have av xs ts ≡ true → kinds_of xs ≡ kinds ts
    have_kinds no_part no_value h = refl
    have_kinds (part T ts) (value x xs) h =
        let p = both (has_type av x T) (parts_have av xs ts) h in
        ap₂ one_more (has_kind T x p.0) (have_kinds ts xs p.1)
    have_kinds ts xs h = no h
