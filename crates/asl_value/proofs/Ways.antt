-- Ways into tuples.
use Rattle.std.proofs.Common.{◌≡◌, ℕ, suc, ◌+◌, ◌<◌, ◌≤◌, List, ◌∷◌, length, get_or, drop, Some, None, refl, ap, ◌∙◌, arith}
use Rattle.asl_syn.specs.declared.token.Span.{Span}
use Rattle.asl_rules.specs.values.Values as rules
use Rattle.asl_rules.specs.runs.Pures.{◌>>=◌, there}
use Rattle.asl_rules.specs.runs.Plans.{Stuck, WrongKind, Good, Bad}
use Rattle.asl_rules.specs.private.ByPlace.{part_in}
use Rattle.asl_value.specs.private.Reaching.{part_of_tuple}
use Rattle.asl_value.proofs.Among.{none_after}
use Rattle.std.proofs.Math.Seq.{drop-cons}

one_step : (span : Span) (i : ℕ) (is : List ℕ) (x : rules.Value) → part_in span (i ∷ is) x ≡ (there span (part_of_tuple i x) >>= λ y. part_in span is y)
one_step span i is (rules.int z) = refl
one_step span i is (rules.bool b) = refl
one_step span i is (rules.bits_with bs u) = refl
one_step span i is (rules.label n l) = refl
one_step span i is (rules.record_with n xs) = refl
one_step span i is (rules.exception_with o s n xs) = refl
one_step span i is (rules.tuple_with xs) = refl
one_step span i is (rules.array_with k xs) = refl

at_way : (way : List ℕ) (i : ℕ) → i < length way → drop i way ≡ get_or way i 0 ∷ drop (i + 1) way
at_way way i within =
    let up : suc i ≡ i + 1 = omega arith in
    drop-cons way i 0 within ∙ ap (λ n. get_or way i 0 ∷ drop n way) up

pub way_on : (span : Span) (way : List ℕ) (i : ℕ) (x here part : rules.Value) → i < length way → part_in span way x ≡ part_in span (drop i way) here → part_of_tuple (get_or way i 0) here ≡ Some part → part_in span way x ≡ part_in span (drop (i + 1) way) part
way_on span way i x here part within before found =
    before ∙ ap (λ is. part_in span is here) (at_way way i within) ∙ one_step span (get_or way i 0) (drop (i + 1) way) here ∙
    ap (λ o. there span o >>= λ y. part_in span (drop (i + 1) way) y) found

pub way_off : (span : Span) (way : List ℕ) (i : ℕ) (x here : rules.Value) → i < length way → part_in span way x ≡ part_in span (drop i way) here → part_of_tuple (get_or way i 0) here ≡ None → part_in span way x ≡ Bad (Stuck WrongKind span)
way_off span way i x here within before found =
    before ∙ ap (λ is. part_in span is here) (at_way way i within) ∙ one_step span (get_or way i 0) (drop (i + 1) way) here ∙
    ap (λ o. there span o >>= λ y. part_in span (drop (i + 1) way) y) found

pub way_end : (span : Span) (way : List ℕ) (i : ℕ) (x here : rules.Value) → length way ≤ i → part_in span way x ≡ part_in span (drop i way) here → part_in span way x ≡ Good here
way_end span way i x here past before = before ∙ ap (λ is. part_in span is here) (none_after way i past)
