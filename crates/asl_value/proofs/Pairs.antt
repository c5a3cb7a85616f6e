-- Two lists of kinds place by place.
use Rattle.std.proofs.Common.{◌≡◌, ◌≢◌, ℕ, suc, ◌+◌, ◌<◌, ◌≤◌, Bool, true, false, List, [], ◌∷◌, length, get_or, drop, refl, ap, ◌∙◌, arith}
use Rattle.std.specs.Prelude.{◌&&◌}
use Rattle.asl_rules.specs.types.Types.{kind_eq, kinds_eq}
use Rattle.asl_value.specs.declared.value.Kind.{Kind}
use Rattle.asl_value.specs.View.{kind_of, all_kinds}
use Rattle.asl_value.proofs.Among.{at_front, none_after}

pub equal_longer : (ks ls : List Kind) → length ks ≢ length ls → kinds_eq (all_kinds ks) (all_kinds ls) ≡ false
equal_longer [] [] h = absurd (h refl)
equal_longer [] (l ∷ ls) h = refl
equal_longer (k ∷ ks) [] h = refl
equal_longer (k ∷ ks) (l ∷ ls) h = ap (λ b. kind_eq (kind_of k) (kind_of l) && b) (equal_longer ks ls (λ e. h (ap suc e))) ∙ and_false (kind_eq (kind_of k) (kind_of l))
  where
    and_false : (b : Bool) → (b && false) ≡ false
    and_false true = refl
    and_false false = refl

equal_from : (ks ls : List Kind) (i : ℕ) (k l : Kind) → i < length ks → i < length ls → k ≡ get_or ks i k → l ≡ get_or ls i l
    → kinds_eq (all_kinds (drop i ks)) (all_kinds (drop i ls)) ≡ (kind_eq (kind_of k) (kind_of l) && kinds_eq (all_kinds (drop (i + 1) ks)) (all_kinds (drop (i + 1) ls)))
equal_from ks ls i k l g h e f = ap (λ w. kinds_eq (all_kinds w) (all_kinds (drop i ls))) (at_front ks i k g e) ∙ ap (λ w. kinds_eq (all_kinds (k ∷ drop (i + 1) ks)) (all_kinds w)) (at_front ls i l h f)

pub equal_here : (ks ls : List Kind) (i : ℕ) (k l : Kind) → i < length ks → i < length ls → k ≡ get_or ks i k → l ≡ get_or ls i l → kinds_eq (all_kinds ks) (all_kinds ls) ≡ kinds_eq (all_kinds (drop i ks)) (all_kinds (drop i ls))
    → kind_eq (kind_of k) (kind_of l) ≡ true → kinds_eq (all_kinds ks) (all_kinds ls) ≡ kinds_eq (all_kinds (drop (i + 1) ks)) (all_kinds (drop (i + 1) ls))
equal_here ks ls i k l g h e f before same = before ∙ equal_from ks ls i k l g h e f ∙ ap (λ b. b && kinds_eq (all_kinds (drop (i + 1) ks)) (all_kinds (drop (i + 1) ls))) same

pub equal_apart : (ks ls : List Kind) (i : ℕ) (k l : Kind) → i < length ks → i < length ls → k ≡ get_or ks i k → l ≡ get_or ls i l → kinds_eq (all_kinds ks) (all_kinds ls) ≡ kinds_eq (all_kinds (drop i ks)) (all_kinds (drop i ls))
    → kind_eq (kind_of k) (kind_of l) ≡ false → kinds_eq (all_kinds ks) (all_kinds ls) ≡ false
equal_apart ks ls i k l g h e f before other = before ∙ equal_from ks ls i k l g h e f ∙ ap (λ b. b && kinds_eq (all_kinds (drop (i + 1) ks)) (all_kinds (drop (i + 1) ls))) other

pub equal_end : (ks ls : List Kind) (i : ℕ) → length ks ≤ i → length ks ≡ length ls → kinds_eq (all_kinds ks) (all_kinds ls) ≡ kinds_eq (all_kinds (drop i ks)) (all_kinds (drop i ls)) → kinds_eq (all_kinds ks) (all_kinds ls) ≡ true
equal_end ks ls i past same before =
    let other : length ls ≤ i = omega arith in
    before ∙ ap (λ w. kinds_eq (all_kinds w) (all_kinds (drop i ls))) (none_after ks i past) ∙ ap (λ w. kinds_eq (all_kinds []) (all_kinds w)) (none_after ls i other)
