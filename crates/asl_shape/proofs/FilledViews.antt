-- Values as they go through written types, one behind another.
use Rattle.std.proofs.Common.{◌≡◌, ℕ, zero, suc, ◌+◌, ◌<◌, ◌≤◌, List, [], ◌∷◌, ◌++◌, length, get_or, drop, refl, sym, ap, ◌∙◌, arith}
use Rattle.std.specs.Prelude.{pos}
use Rattle.asl_rules.specs.private.ByPlace.{seen_as}
use Rattle.asl_rules.specs.types.Closed as cl
use Rattle.asl_rules.specs.types.Closed.{ClosedParts, closed}
use Rattle.asl_rules.specs.types.Types.{Ty}
use Rattle.asl_rules.specs.values.Values as rules
use Rattle.asl_rules.specs.values.Values.{Values, no_value}
use Rattle.asl_rules.specs.types.Views.{viewed, parts_viewed, all_viewed}
use Rattle.asl_rules.proofs.values.Constructs.{seen_is}
use Rattle.asl_value.specs.declared.value.Value.{Value}
use Rattle.asl_value.specs.View.{value_of, all_values}
use Rattle.asl_value.proofs.Among.{at_front, none_after}
use Rattle.asl_value.proofs.Lists.{in_front, one_made, all_made}
use Rattle.asl_shape.specs.declared.filled.Filled.{Filled}
use Rattle.asl_shape.specs.private.Filled.{closed_of, closed_parts}
use Rattle.asl_shape.specs.private.FilledView.{filled_of, all_fills, part_viewed}

pub known_seen : (T : Ty) (x y : rules.Value) → y ≡ seen_as T x → y ≡ viewed (closed T) x
known_seen T x y h = h ∙ seen_is (λ n. pos 0) T x

-- ---- the elements of an array

pub element_made : (t : Filled) (xs made after : List Value) (i : ℕ) (x y : Value) (all : Values) → i < length xs → x ≡ get_or xs i x → value_of y ≡ viewed (closed_of (filled_of t)) (value_of x) → after ≡ made ++ y ∷ []
    → all ≡ in_front made (all_viewed (closed_of (filled_of t)) (all_values (drop i xs))) → all ≡ in_front after (all_viewed (closed_of (filled_of t)) (all_values (drop (i + 1) xs)))
element_made t xs made after i x y all within here own grown before =
    one_made made after y (viewed (closed_of (filled_of t)) (value_of x)) (all_viewed (closed_of (filled_of t)) (all_values (drop (i + 1) xs))) all _ own grown
    (ap (λ l. all_viewed (closed_of (filled_of t)) (all_values l)) (at_front xs i x within here)) before

pub elements_made : (t : Filled) (xs made : List Value) (i : ℕ) (all : Values) → length xs ≤ i → all ≡ in_front made (all_viewed (closed_of (filled_of t)) (all_values (drop i xs))) → all_values made ≡ all
elements_made t xs made i all past before = all_made made all _ (ap (λ l. all_viewed (closed_of (filled_of t)) (all_values l)) (none_after xs i past)) before

-- ---- the parts of a tuple

pub part_there : (ts : List Filled) (i : ℕ) (t : Filled) (x : rules.Value) → i < length ts → t ≡ get_or ts i t → part_viewed i ts x ≡ viewed (closed_of (filled_of t)) x
part_there [] i t x h e = absurd (omega (arith, h))
part_there (u ∷ ts) zero t x h e = ap (λ w. viewed (closed_of (filled_of w)) x) (sym e)
part_there (u ∷ ts) (suc i) t x h e = part_there ts i t x (omega (arith, h)) e

pub part_past : (ts : List Filled) (i : ℕ) (x : rules.Value) → length ts ≤ i → part_viewed i ts x ≡ x
part_past [] i x h = refl
part_past (t ∷ ts) zero x h = absurd (omega (arith, h))
part_past (t ∷ ts) (suc i) x h = part_past ts i x (omega (arith, h))

viewed_from : (ts : List Filled) (i : ℕ) (x : rules.Value) (rest : Values) → parts_viewed (closed_parts (all_fills (drop i ts))) (rules.value x rest) ≡ rules.value (part_viewed i ts x) (parts_viewed (closed_parts (all_fills (drop (suc i) ts))) rest)
viewed_from [] zero x rest = refl
viewed_from [] (suc i) x rest = refl
viewed_from (t ∷ ts) zero x rest = refl
viewed_from (t ∷ ts) (suc i) x rest = viewed_from ts i x rest

pub part_made : (ts : List Filled) (xs made after : List Value) (i : ℕ) (x y : Value) (all : Values) → i < length xs → x ≡ get_or xs i x → value_of y ≡ part_viewed i ts (value_of x) → after ≡ made ++ y ∷ []
    → all ≡ in_front made (parts_viewed (closed_parts (all_fills (drop i ts))) (all_values (drop i xs))) → all ≡ in_front after (parts_viewed (closed_parts (all_fills (drop (i + 1) ts))) (all_values (drop (i + 1) xs)))
part_made ts xs made after i x y all within here own grown before =
    let up : suc i ≡ i + 1 = omega arith in
    one_made made after y (part_viewed i ts (value_of x)) (parts_viewed (closed_parts (all_fills (drop (i + 1) ts))) (all_values (drop (i + 1) xs))) all _ own grown
    (ap (λ l. parts_viewed (closed_parts (all_fills (drop i ts))) (all_values l)) (at_front xs i x within here) ∙ viewed_from ts i (value_of x) (all_values (drop (i + 1) xs)) ∙
    ap (λ n. rules.value (part_viewed i ts (value_of x)) (parts_viewed (closed_parts (all_fills (drop n ts))) (all_values (drop (i + 1) xs)))) up) before

nothing_viewed : (ts : ClosedParts) → parts_viewed ts no_value ≡ no_value
nothing_viewed cl.no_part = refl
nothing_viewed (cl.part T ts) = refl

pub parts_made : (ts : List Filled) (xs made : List Value) (i : ℕ) (all : Values) → length xs ≤ i → all ≡ in_front made (parts_viewed (closed_parts (all_fills (drop i ts))) (all_values (drop i xs))) → all_values made ≡ all
parts_made ts xs made i all past before =
    all_made made all _ (ap (λ l. parts_viewed (closed_parts (all_fills (drop i ts))) (all_values l)) (none_after xs i past) ∙ nothing_viewed (closed_parts (all_fills (drop i ts)))) before
