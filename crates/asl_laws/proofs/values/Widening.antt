-- The type of an unannotated `var`, which has no constraint: it is well formed, and has each value of the type of its initialiser.
use Rattle.std.proofs.Common.{◌≡◌, ℕ, true, false, List, Option, refl, ap, ap₂, ◌∙◌}
use Rattle.asl_rules.specs.types.Types.{Ty, Parts, integer_of, boolean, bits_of, enumeration_of, record_of, exception_of, tuple_of, array_of, named, no_part, part, widened, widened_parts}
use Rattle.asl_rules.specs.types.Closed.{Assignment, type_with, parts_with}
use Rattle.asl_rules.specs.values.Values.{Value, Values, int, tuple_with, no_value, value, has, parts_in}
use Rattle.asl_rules.specs.types.Views.{viewed, parts_viewed}
use Rattle.asl_rules.specs.private.WellFormed.{Shaped, ShapedParts, WellFormed, is_nameless_exception}
use Rattle.asl_rules.specs.private.Belonging.{InType}
use Rattle.asl_rules.proofs.basics.Tests.{no, both, and_true}

module _ (av : Assignment) where
  mutual
    widened_has : (T : Ty) (x : Value) → has x (type_with T av) ≡ true → has x (type_with (widened T) av) ≡ true
    widened_has (integer_of ps) (int z) h = refl
    widened_has (integer_of ps) x h = no h
    widened_has boolean x h = h
    widened_has (bits_of w u) x h = h
    widened_has (enumeration_of n ls) x h = h
    widened_has (record_of n fs) x h = h
    widened_has (exception_of n fs) x h = h
    widened_has (tuple_of ts) (tuple_with xs) h = widened_parts_have ts xs h
    widened_has (tuple_of ts) x h = no h
    widened_has (array_of n T) x h = h
    widened_has (named n supers T) x h = h

    widened_parts_have : (ts : Parts) (xs : Values) → parts_in xs (parts_with ts av) ≡ true → parts_in xs (parts_with (widened_parts ts) av) ≡ true
    widened_parts_have no_part no_value h = refl
    widened_parts_have no_part (value x xs) h = no h
    widened_parts_have (part T ts) no_value h = no h
    widened_parts_have (part T ts) (value x xs) h =
        let p = both (has x (type_with T av)) (parts_in xs (parts_with ts av)) h in
        and_true (has x (type_with (widened T) av)) (parts_in xs (parts_with (widened_parts ts) av)) (widened_has T x p.0) (widened_parts_have ts xs p.1)

  mutual
    widened_seen : (T : Ty) (x : Value) → viewed (type_with (widened T) av) x ≡ viewed (type_with T av) x
    widened_seen (integer_of ps) x = refl
    widened_seen boolean x = refl
    widened_seen (bits_of w u) x = refl
    widened_seen (enumeration_of n ls) x = refl
    widened_seen (record_of n fs) x = refl
    widened_seen (exception_of n fs) x = refl
    widened_seen (tuple_of ts) (tuple_with xs) = ap (λ ys. tuple_with ys) (widened_parts_seen ts xs)
    widened_seen (tuple_of ts) x = refl
    widened_seen (array_of n T) x = refl
    widened_seen (named n supers T) x = refl

    widened_parts_seen : (ts : Parts) (xs : Values) → parts_viewed (parts_with (widened_parts ts) av) xs ≡ parts_viewed (parts_with ts av) xs
    widened_parts_seen no_part xs = refl
    widened_parts_seen (part T ts) no_value = refl
    widened_parts_seen (part T ts) (value x xs) = ap₂ (λ y ys. value y ys) (widened_seen T x) (widened_parts_seen ts xs)

widened_named : (T : Ty) → is_nameless_exception T ≡ false → is_nameless_exception (widened T) ≡ false
widened_named (integer_of ps) h = refl
widened_named boolean h = h
widened_named (bits_of w u) h = h
widened_named (enumeration_of n ls) h = h
widened_named (record_of n fs) h = h
widened_named (exception_of n fs) h = h
widened_named (tuple_of ts) h = refl
widened_named (array_of n T) h = h
widened_named (named n supers T) h = h

mutual
  widened_shaped : (d : List ℕ → Option Ty) (T : Ty) → Shaped d T → Shaped d (widened T)
  widened_shaped d (integer_of ps) s = tt
  widened_shaped d boolean s = s
  widened_shaped d (bits_of w u) s = s
  widened_shaped d (enumeration_of n ls) s = s
  widened_shaped d (record_of n fs) s = s
  widened_shaped d (exception_of n fs) s = s
  widened_shaped d (tuple_of ts) s = widened_parts_shaped d ts s
  widened_shaped d (array_of n T) s = s
  widened_shaped d (named n supers T) s = s

  widened_parts_shaped : (d : List ℕ → Option Ty) (ts : Parts) → ShapedParts d ts → ShapedParts d (widened_parts ts)
  widened_parts_shaped d no_part s = s
  widened_parts_shaped d (part T ts) s = (widened_named T s.0, widened_shaped d T s.1, widened_parts_shaped d ts s.2)

pub widened_formed : (d : List ℕ → Option Ty) (T : Ty) → WellFormed d T → WellFormed d (widened T)
widened_formed d T w = record { shaped = widened_shaped d T w.shaped; has_name = widened_named T w.has_name }

pub widened_in : (d : List ℕ → Option Ty) (av : Assignment) (T : Ty) (x : Value) → InType d av x T → InType d av x (widened T)
widened_in d av T x i = (widened_has av T x i.0, i.1, widened_seen av T x ∙ i.2)
