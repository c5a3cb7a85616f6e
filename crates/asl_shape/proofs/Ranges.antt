-- The parts of a constraint one behind another.
use Rattle.std.proofs.Common.{◌≡◌, ℕ, suc, ◌+◌, ◌<◌, ◌≤◌, ◌==◌, Bool, true, false, cond, List, [], ◌∷◌, length, get_or, drop, Option, Some, None, refl, ap, ◌∙◌, arith}
use Rattle.std.specs.Prelude.{ℤ, pos, ◌||◌}
use Rattle.asl_cons.specs.declared.Part.{Part}
use Rattle.asl_rules.specs.types.Closed.{Range, floor, ceiling, end_at, ranges_at, constraint_at, in_one, in_some, is_in, lowest, first_in, not_above}
use Rattle.asl_value.proofs.Among.{at_front, none_after}
use Rattle.asl_shape.specs.private.Numbers.{range}

abbrev pub ranges : List Part → List Range
ranges ps = ranges_at ps (λ n. pos 0)

-- the least and the greatest integer of a part
abbrev low : Part → ℤ
low p = ceiling (end_at p.low (λ n. pos 0))

abbrev high : Part → ℤ
high p = floor (end_at p.high (λ n. pos 0))

abbrev pub end : Part → Range
end p = range (low p) (high p)

pub in_here : (z : ℤ) (ps : List Part) (i : ℕ) (p : Part) (all : Bool) → i < length ps → p ≡ get_or ps i p → in_one z (end p) ≡ true → all ≡ in_some z (ranges (drop i ps)) → all ≡ true
in_here z ps i p all within here this before = before ∙ ap (λ l. in_some z (ranges l)) (at_front ps i p within here) ∙ ap (λ b. b || in_some z (ranges (drop (i + 1) ps))) this

pub in_later : (z : ℤ) (ps : List Part) (i : ℕ) (p : Part) (all : Bool) → i < length ps → p ≡ get_or ps i p → in_one z (end p) ≡ false → all ≡ in_some z (ranges (drop i ps)) → all ≡ in_some z (ranges (drop (i + 1) ps))
in_later z ps i p all within here this before = before ∙ ap (λ l. in_some z (ranges l)) (at_front ps i p within here) ∙ ap (λ b. b || in_some z (ranges (drop (i + 1) ps))) this

pub in_none : (z : ℤ) (ps : List Part) (i : ℕ) (all : Bool) → length ps ≤ i → all ≡ in_some z (ranges (drop i ps)) → all ≡ false
in_none z ps i all past before = before ∙ ap (λ l. in_some z (ranges l)) (none_after ps i past)

some_more : (n : ℕ) → (suc n == 0) ≡ true → ⊥
some_more n e = grind arith

pub whole_has : (z : ℤ) (ps : List Part) → (length ps == 0) ≡ true → is_in z (constraint_at ps (λ n. pos 0)) ≡ true
whole_has z [] h = refl
whole_has z (p ∷ ps) h = absurd (some_more (length ps) h)

pub parts_have : (z : ℤ) (ps : List Part) → (length ps == 0) ≡ false → is_in z (constraint_at ps (λ n. pos 0)) ≡ in_some z (ranges ps)
parts_have z [] h = cc
parts_have z (p ∷ ps) h = refl

pub lowest_here : (ps : List Part) (i : ℕ) (p : Part) (all : Option ℤ) → i < length ps → p ≡ get_or ps i p → not_above (low p) (high p) ≡ true → all ≡ lowest (ranges (drop i ps)) → all ≡ Some (low p)
lowest_here ps i p all within here this before = before ∙ ap (λ l. lowest (ranges l)) (at_front ps i p within here) ∙ ap (λ b. cond b (Some (low p)) (lowest (ranges (drop (i + 1) ps)))) this

pub lowest_later : (ps : List Part) (i : ℕ) (p : Part) (all : Option ℤ) → i < length ps → p ≡ get_or ps i p → not_above (low p) (high p) ≡ false → all ≡ lowest (ranges (drop i ps)) → all ≡ lowest (ranges (drop (i + 1) ps))
lowest_later ps i p all within here this before = before ∙ ap (λ l. lowest (ranges l)) (at_front ps i p within here) ∙ ap (λ b. cond b (Some (low p)) (lowest (ranges (drop (i + 1) ps)))) this

pub lowest_none : (ps : List Part) (i : ℕ) (all : Option ℤ) → length ps ≤ i → all ≡ lowest (ranges (drop i ps)) → all ≡ None
lowest_none ps i all past before = before ∙ ap (λ l. lowest (ranges l)) (none_after ps i past)

pub first_whole : (ps : List Part) → (length ps == 0) ≡ true → first_in (constraint_at ps (λ n. pos 0)) ≡ Some (pos 0)
first_whole [] h = refl
first_whole (p ∷ ps) h = absurd (some_more (length ps) h)

pub first_zero : (ps : List Part) → (length ps == 0) ≡ false → in_some (pos 0) (ranges ps) ≡ true → first_in (constraint_at ps (λ n. pos 0)) ≡ Some (pos 0)
first_zero [] h k = cc
first_zero (p ∷ ps) h k = ap (λ b. cond b (Some (pos 0)) (lowest (ranges (p ∷ ps)))) k

pub first_lowest : (ps : List Part) → (length ps == 0) ≡ false → in_some (pos 0) (ranges ps) ≡ false → first_in (constraint_at ps (λ n. pos 0)) ≡ lowest (ranges ps)
first_lowest [] h k = cc
first_lowest (p ∷ ps) h k = ap (λ b. cond b (Some (pos 0)) (lowest (ranges (p ∷ ps)))) k
