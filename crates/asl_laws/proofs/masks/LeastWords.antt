-- The least word with a property: it has it, each word that is less lacks it, and where there is none each word lacks it.
use Rattle.std.proofs.Common.{◌≡◌, ℕ, zero, suc, ◌+◌, ◌^◌, ◌<◌, List, [], ◌∷◌, length, take, Bool, true, false, not, ◌||◌, Option, Some, None, option_map, nat_le, if◌then◌else◌, ◌↔◌, refl, sym, ◌∙◌, ap, subst, arith}
use Rattle.std.proofs.lemmas.Bool.{leb-false, lt-leb}
use Rattle.std.proofs.lemmas.List.{length_push, take_all}
use Rattle.std.proofs.lemmas.List.Elements.{All-head, All-tail}
use Rattle.asl_bits.specs.Lists.{bits_value}
use Rattle.asl_bits.proofs.Lists.{value_small}
use Rattle.asl_bits.proofs.Laws.{bits_value-append}
use Rattle.asl_mask.specs.Digits.{mask_matches}
use Rattle.asl_mask.specs.Least.{or_else, on_top, least}
use Rattle.asl_mask.specs.Covers.{Digits, some_match, least_free, splits, covered, cover_of}
use Rattle.asl_mask.specs.declared.cover.Cover.{Cover}
use Rattle.asl_mask.specs.declared.cover.Cover.TheVariants as cover
use Rattle.asl_laws.specs.Masks.{LeastWord, EachWord, one_matches, AllWide}

-- ---- a word with one more digit above its own

record Top (w : ℕ) (u : List Bool) : Type 0 where
  below : List Bool
  top : Bool
  digits : length below ≡ w
  is : u ≡ on_top top below

more_below : (w : ℕ) (b : Bool) (u : List Bool) → Top w u → Top (suc w) (b ∷ u)
more_below w b u t = record { below = b ∷ t.below; top = t.top; digits = ap suc t.digits; is = ap (λ z. b ∷ z) t.is }

top_of : (w : ℕ) (u : List Bool) → length u ≡ suc w → Top w u
top_of w [] h = absurd (omega (arith, h))
top_of zero (b ∷ []) h = record { below = []; top = b; digits = refl; is = refl }
top_of zero (b ∷ c ∷ u) h = absurd (omega (arith, h))
top_of (suc w) (b ∷ u) h = more_below w b u (top_of w u (omega (arith, h)))

value_low : (v : List Bool) → bits_value (on_top false v) ≡ bits_value v
unfolding bits_value
value_low v = omega (arith, bits_value-append v (false ∷ []))

value_high : (v : List Bool) → bits_value (on_top true v) ≡ bits_value v + 2 ^ length v
unfolding bits_value
value_high v = omega (arith, bits_value-append v (true ∷ []))

high_is : (w : ℕ) (u : List Bool) → length u ≡ w → bits_value (on_top true u) ≡ bits_value u + 2 ^ w
high_is w u p = subst (λ n. bits_value (on_top true u) ≡ bits_value u + 2 ^ n) p (value_high u)

-- a word with 0 on top is less than each with 1 on top
low_first : (w : ℕ) (u v : List Bool) → length u ≡ w → length v ≡ w → bits_value (on_top true u) < bits_value (on_top false v) → ⊥
low_first w u v p q h =
    let s : bits_value v < 2 ^ w = subst (λ n. bits_value v < 2 ^ n) q (value_small v) in
    omega (arith, h, s, high_is w u p, value_low v)

same_top : (w : ℕ) (b : Bool) (u v : List Bool) → length u ≡ w → length v ≡ w → bits_value (on_top b u) < bits_value (on_top b v) →
    bits_value u < bits_value v
same_top w false u v p q h = omega (arith, h, value_low u, value_low v)
same_top w true u v p q h = omega (arith, h, high_is w u p, high_is w v q)

-- ---- the least word

-- what is found is the least word that passes, or none does
LeastIs : ℕ → (List Bool → Bool) → Option (List Bool) → Type 0
LeastIs w p (Some v) = LeastWord w p true v
LeastIs w p None = EachWord w p false

module _ (w : ℕ) (p : List Bool → Bool) where
  abbrev below : Bool → List Bool → Bool
  below b v = p (on_top b v)

  before_low : (v u : List Bool) → LeastWord w (below false) true v → Top w u → bits_value u < bits_value (on_top false v) → p u ≡ false
  before_low v u h t less = by t.top t.is (subst (λ z. bits_value z < bits_value (on_top false v)) t.is less)
    where
      by : (b : Bool) → u ≡ on_top b t.below → bits_value (on_top b t.below) < bits_value (on_top false v) → p u ≡ false
      by false is less = ap p is ∙ h.before t.below t.digits (same_top w false t.below v t.digits h.digits less)
      by true is less = absurd (low_first w t.below v t.digits h.digits less)

  before_high : (v u : List Bool) → EachWord w (below false) false → LeastWord w (below true) true v → Top w u →
      bits_value u < bits_value (on_top true v) → p u ≡ false
  before_high v u none h t less = by t.top t.is (subst (λ z. bits_value z < bits_value (on_top true v)) t.is less)
    where
      by : (b : Bool) → u ≡ on_top b t.below → bits_value (on_top b t.below) < bits_value (on_top true v) → p u ≡ false
      by false is less = ap p is ∙ none t.below t.digits
      by true is less = ap p is ∙ h.before t.below t.digits (same_top w true t.below v t.digits h.digits less)

  none_below : (u : List Bool) → EachWord w (below false) false → EachWord w (below true) false → Top w u → p u ≡ false
  none_below u low high t = by t.top t.is where
    by : (b : Bool) → u ≡ on_top b t.below → p u ≡ false
    by false is = ap p is ∙ low t.below t.digits
    by true is = ap p is ∙ high t.below t.digits

  one_longer : (b : Bool) (v : List Bool) → length v ≡ w → length (on_top b v) ≡ suc w
  one_longer b v h = omega (arith, h, length_push v b)

  least_joined : (low high : Option (List Bool)) → LeastIs w (below false) low → LeastIs w (below true) high →
      LeastIs (suc w) p (or_else (option_map (on_top false) low) (option_map (on_top true) high))
  unfolding LeastIs
  least_joined (Some v) high h k = record {
    digits = one_longer false v h.digits;
    says = h.says;
    before = λ u l less. before_low v u h (top_of w u l) less;
  }
  least_joined None (Some v) h k = record {
    digits = one_longer true v k.digits;
    says = k.says;
    before = λ u l less. before_high v u h k (top_of w u l) less;
  }
  least_joined None None h k = λ u l. none_below u h k (top_of w u l)

empty_fails : (p : List Bool → Bool) (u : List Bool) → p [] ≡ false → length u ≡ 0 → p u ≡ false
empty_fails p [] is l = is
empty_fails p (b ∷ u) is l = absurd (omega (arith, l))

least_empty : (p : List Bool → Bool) (b : Bool) → p [] ≡ b → LeastIs 0 p (if b then Some [] else None)
unfolding LeastIs bits_value
least_empty p true is = record { digits = refl; says = is; before = λ u l less. absurd (omega (arith, less)) }
least_empty p false is = λ u l. empty_fails p u is l

least_is : (w : ℕ) (p : List Bool → Bool) → LeastIs w p (least w p)
unfolding least
least_is zero p = least_empty p (p []) refl
least_is (suc w) p = least_joined w p (least w (λ v. p (on_top false v))) (least w (λ v. p (on_top true v)))
    (least_is w (λ v. p (on_top false v))) (least_is w (λ v. p (on_top true v)))

pub least_word : (w : ℕ) (p : List Bool → Bool) (v : List Bool) → least w p ≡ Some v → LeastWord w p true v
unfolding LeastIs
least_word w p v h = subst (LeastIs w p) h (least_is w p)

pub no_word : (w : ℕ) (p : List Bool → Bool) → least w p ≡ None → EachWord w p false
unfolding LeastIs
no_word w p h = subst (LeastIs w p) h (least_is w p)

-- ---- the least word that no mask matches

some_is_one : (w : ℕ) (ms : List Digits) (v : List Bool) → AllWide w ms → some_match w ms v ≡ one_matches ms v
some_is_one w [] v h = refl
some_is_one w (m ∷ ms) v h =
    let e : take w m ≡ m = take_all w m (omega (arith, All-head (λ m. length m ≡ w) m ms h)) in
    let more = some_is_one w ms v (All-tail (λ m. length m ≡ w) m ms h) in
    ap (λ z. mask_matches z v || some_match w ms v) e ∙ ap (λ z. mask_matches m v || z) more

back : (b c : Bool) → not b ≡ c → b ≡ not c
back true c h = grind (arith, h)
back false c h = grind (arith, h)

free_word : (w : ℕ) (ms : List Digits) (v : List Bool) → AllWide w ms → LeastWord w (λ u. not (some_match w ms u)) true v →
    LeastWord w (one_matches ms) false v
free_word w ms v h l = record {
  digits = l.digits;
  says = sym (some_is_one w ms v h) ∙ back (some_match w ms v) true l.says;
  before = λ u d less. sym (some_is_one w ms u h) ∙ back (some_match w ms u) false (l.before u d less);
}

every_word : (w : ℕ) (ms : List Digits) → AllWide w ms → EachWord w (λ u. not (some_match w ms u)) false → EachWord w (one_matches ms) true
every_word w ms h e u d = sym (some_is_one w ms u h) ∙ back (some_match w ms u) false (e u d)

IsFree : List Bool → Cover → Type 0
IsFree v cover.Budget = ⊥
IsFree v cover.Total = ⊥
IsFree v (cover.Free u) = u ≡ v

IsTotal : Cover → Type 0
IsTotal cover.Budget = ⊥
IsTotal cover.Total = Unit {0}
IsTotal (cover.Free u) = ⊥

free_found : (within : Bool) (o : Option (List Bool)) (v : List Bool) → IsFree v (if within then covered o else cover.Budget) → o ≡ Some v
unfolding IsFree
free_found true (Some u) v h = ap Some h
free_found true None v h = absurd h
free_found false o v h = absurd h

total_found : (within : Bool) (o : Option (List Bool)) → IsTotal (if within then covered o else cover.Budget) → o ≡ None
unfolding IsTotal
total_found true (Some u) h = absurd h
total_found true None h = refl
total_found false o h = absurd h

pub free_is_least : (w budget : ℕ) (ms : List Digits) (v : List Bool) → AllWide w ms → cover_of w budget ms ≡ cover.Free v →
    LeastWord w (one_matches ms) false v
unfolding IsFree
free_is_least w budget ms v h is =
    let f = free_found (nat_le (splits w ms) budget) (least_free w ms) v (subst (IsFree v) (sym is) refl) in
    free_word w ms v h (least_word w (λ u. not (some_match w ms u)) v f)

pub total_is_all : (w budget : ℕ) (ms : List Digits) → AllWide w ms → cover_of w budget ms ≡ cover.Total → EachWord w (one_matches ms) true
unfolding IsTotal
total_is_all w budget ms h is =
    let f = total_found (nat_le (splits w ms) budget) (least_free w ms) (subst IsTotal (sym is) tt) in
    every_word w ms h (no_word w (λ u. not (some_match w ms u)) f)

-- ---- past the budget

IsBudget : Cover → Type 0
IsBudget cover.Budget = Unit {0}
IsBudget cover.Total = ⊥
IsBudget (cover.Free u) = ⊥

budget_found : (within : Bool) (o : Option (List Bool)) → IsBudget (if within then covered o else cover.Budget) → within ≡ false
unfolding IsBudget
budget_found true (Some u) h = absurd h
budget_found true None h = absurd h
budget_found false o h = refl

pub budget_is_passed : (w budget : ℕ) (ms : List Digits) → (cover_of w budget ms ≡ cover.Budget) ↔ (budget < splits w ms)
unfolding IsBudget
budget_is_passed w budget ms = (
  (λ is. leb-false (splits w ms) budget (budget_found (nat_le (splits w ms) budget) (least_free w ms) (subst IsBudget (sym is) tt))),
  (λ less. ap (λ b. if b then covered (least_free w ms) else cover.Budget) (lt-leb (splits w ms) budget less)),
)
