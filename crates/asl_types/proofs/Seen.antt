-- Values with what written types add to them.
use Rattle.std.proofs.Common.{◌≡◌, ℕ, zero, suc, ◌+◌, ◌<◌, ◌≤◌, Bool, true, false, List, [], ◌∷◌, ◌++◌, length, get_or, drop, refl, sym, ap, ◌∙◌, arith}
use Rattle.std.specs.Prelude.{◌||◌, Result, Ok, Err, IfOk}
use Rattle.asl_rules.specs.types.Types as ty
use Rattle.asl_rules.specs.types.Types.{Ty, Parts}
use Rattle.asl_rules.specs.values.Values as rules
use Rattle.asl_rules.specs.values.Values.{Values, no_value, value}
use Rattle.asl_rules.specs.private.ByPlace.{seen_as, parts_seen_as, all_seen_as}
use Rattle.asl_value.specs.declared.value.Value.{Value}
use Rattle.asl_value.specs.View.{value_of, all_values}
use Rattle.asl_value.proofs.Lists.{in_front, one_made, all_made}
use Rattle.asl_rules.specs.private.HoldsBits.{holds_bits, parts_hold_bits}
use Rattle.asl_types.specs.private.Seeing.{part_seen}
use Rattle.asl_types.specs.View.{parts_of}
use Rattle.asl_types.proofs.Rest.{at_next, none_after}

-- ---- a type without bits adds nothing

neither : (b c : Bool) → (b || c) ≡ false → (b ≡ false) × (c ≡ false)
neither false c h = (refl, h)
neither true c h = cc h

mutual
  pub unseen : (T : Ty) → holds_bits T ≡ false → (x : rules.Value) → seen_as T x ≡ x
  unseen (ty.named name supers T) h x = unseen T h x
  unseen (ty.integer_of ps) h x = refl
  unseen ty.boolean h x = refl
  unseen (ty.enumeration_of name labels) h x = refl
  unseen (ty.record_of name fs) h x = refl
  unseen (ty.exception_of name fs) h x = refl
  unseen (ty.bits_of w u) h x = cc h
  unseen (ty.tuple_of ts) h (rules.int z) = refl
  unseen (ty.tuple_of ts) h (rules.bool b) = refl
  unseen (ty.tuple_of ts) h (rules.bits_with bs v) = refl
  unseen (ty.tuple_of ts) h (rules.label n l) = refl
  unseen (ty.tuple_of ts) h (rules.record_with n xs) = refl
  unseen (ty.tuple_of ts) h (rules.exception_with o s n xs) = refl
  unseen (ty.tuple_of ts) h (rules.tuple_with xs) = ap rules.tuple_with (parts_unseen ts h xs)
  unseen (ty.tuple_of ts) h (rules.array_with k xs) = refl
  unseen (ty.array_of n T) h (rules.int z) = refl
  unseen (ty.array_of n T) h (rules.bool b) = refl
  unseen (ty.array_of n T) h (rules.bits_with bs v) = refl
  unseen (ty.array_of n T) h (rules.label m l) = refl
  unseen (ty.array_of n T) h (rules.record_with m xs) = refl
  unseen (ty.array_of n T) h (rules.exception_with o s m xs) = refl
  unseen (ty.array_of n T) h (rules.tuple_with xs) = refl
  unseen (ty.array_of n T) h (rules.array_with k xs) = ap (rules.array_with k) (all_unseen T h xs)

  parts_unseen : (ts : Parts) → parts_hold_bits ts ≡ false → (xs : Values) → parts_seen_as ts xs ≡ xs
  parts_unseen ty.no_part h xs = refl
  parts_unseen (ty.part T ts) h no_value = refl
  parts_unseen (ty.part T ts) h (value x xs) =
      let n = neither (holds_bits T) (parts_hold_bits ts) h in
      ap (λ y. value y (parts_seen_as ts xs)) (unseen T n.0 x) ∙ ap (value x) (parts_unseen ts n.1 xs)

  all_unseen : (T : Ty) → holds_bits T ≡ false → (xs : Values) → all_seen_as T xs ≡ xs
  all_unseen T h no_value = refl
  all_unseen T h (value x xs) = ap (λ y. value y (all_seen_as T xs)) (unseen T h x) ∙ ap (value x) (all_unseen T h xs)

-- ---- parts of tuples

pub part_there : (Ts : List Ty) (i : ℕ) (T : Ty) (x : rules.Value) → i < length Ts → T ≡ get_or Ts i T → part_seen i Ts x ≡ seen_as T x
part_there [] i T x h e = absurd (omega (arith, h))
part_there (U ∷ Ts) zero T x h e = ap (λ V. seen_as V x) (sym e)
part_there (U ∷ Ts) (suc i) T x h e = part_there Ts i T x (omega (arith, h)) e

pub part_past : (Ts : List Ty) (i : ℕ) (x : rules.Value) → length Ts ≤ i → part_seen i Ts x ≡ x
part_past [] i x h = refl
part_past (T ∷ Ts) zero x h = absurd (omega (arith, h))
part_past (T ∷ Ts) (suc i) x h = part_past Ts i x (omega (arith, h))

parts_none : (ts : Parts) → parts_seen_as ts no_value ≡ no_value
parts_none ty.no_part = refl
parts_none (ty.part T ts) = refl

parts_from : (Ts : List Ty) (i : ℕ) (x : rules.Value) (rest : Values) → parts_seen_as (parts_of (drop i Ts)) (value x rest) ≡ value (part_seen i Ts x) (parts_seen_as (parts_of (drop (suc i) Ts)) rest)
parts_from [] zero x rest = refl
parts_from [] (suc i) x rest = refl
parts_from (T ∷ Ts) zero x rest = refl
parts_from (T ∷ Ts) (suc i) x rest = parts_from Ts i x rest

pub part_made : (Ts : List Ty) (xs made after : List Value) (i : ℕ) (x y : Value) (all : Values) → i < length xs → x ≡ get_or xs i x → value_of y ≡ part_seen i Ts (value_of x) → after ≡ made ++ y ∷ [] →
    all ≡ in_front made (parts_seen_as (parts_of (drop i Ts)) (all_values (drop i xs))) → all ≡ in_front after (parts_seen_as (parts_of (drop (i + 1) Ts)) (all_values (drop (i + 1) xs)))
part_made Ts xs made after i x y all within here own grown before =
    let up : suc i ≡ i + 1 = omega arith in
    one_made made after y (part_seen i Ts (value_of x)) (parts_seen_as (parts_of (drop (i + 1) Ts)) (all_values (drop (i + 1) xs))) all _ own grown
    (ap (λ l. parts_seen_as (parts_of (drop i Ts)) (all_values l)) (at_next xs i x within here) ∙ parts_from Ts i (value_of x) (all_values (drop (i + 1) xs)) ∙
    ap (λ n. value (part_seen i Ts (value_of x)) (parts_seen_as (parts_of (drop n Ts)) (all_values (drop (i + 1) xs)))) up) before

pub parts_made : (Ts : List Ty) (xs made : List Value) (i : ℕ) (all : Values) → length xs ≤ i → all ≡ in_front made (parts_seen_as (parts_of (drop i Ts)) (all_values (drop i xs))) → all_values made ≡ all
parts_made Ts xs made i all past before = all_made made all _ (ap (λ l. parts_seen_as (parts_of (drop i Ts)) (all_values l)) (none_after xs i past) ∙ parts_none (parts_of (drop i Ts))) before

-- ---- elements of arrays

pub element_made : (T : Ty) (xs made after : List Value) (i : ℕ) (x y : Value) (all : Values) → i < length xs → x ≡ get_or xs i x → value_of y ≡ seen_as T (value_of x) → after ≡ made ++ y ∷ [] →
    all ≡ in_front made (all_seen_as T (all_values (drop i xs))) → all ≡ in_front after (all_seen_as T (all_values (drop (i + 1) xs)))
element_made T xs made after i x y all within here own grown before =
    one_made made after y (seen_as T (value_of x)) (all_seen_as T (all_values (drop (i + 1) xs))) all _ own grown (ap (λ l. all_seen_as T (all_values l)) (at_next xs i x within here)) before

pub elements_made : (T : Ty) (xs made : List Value) (i : ℕ) (all : Values) → length xs ≤ i → all ≡ in_front made (all_seen_as T (all_values (drop i xs))) → all_values made ≡ all
elements_made T xs made i all past before = all_made made all _ (ap (λ l. all_seen_as T (all_values l)) (none_after xs i past)) before

pub same_seen : {E : Type 0} (T : Ty) (x : Value) (b : Bool) (result : Result Value E) → b ≡ holds_bits T → b ≡ false → IfOk result (λ y. y ≡ x) → IfOk result (λ y. value_of y ≡ seen_as T (value_of x))
same_seen T x b (Ok y) h e r = ap value_of r ∙ sym (unseen T (sym h ∙ e) (value_of x))
same_seen T x b (Err err) h e r = tt
