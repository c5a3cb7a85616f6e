-- The highest fixed place of a mask as the code looks for it, and what is left of a mask behind a split.
use Rattle.std.proofs.Common.{◌≡◌, ℕ, suc, ◌<◌, ◌≤◌, get_or, Bool, true, false, cond, refl, sym, ◌∙◌, ap, subst, arith}
use Rattle.std.specs.Prelude.{Option, Some, None, is_some, is_none, slice_get, not}
use Rattle.std.proofs.lemmas.Option.{get_or_from_slice_get}
use mathlib.Core.Bool.{beq}
use Rattle.asl_mask.specs.Digits.{digit_matches}
use Rattle.asl_table.specs.declared.live.Live.{Live}
use Rattle.asl_mask.specs.Covers.{Digits, allows, is_free_at}
use Rattle.asl_table.specs.private.Listed.{top_fixed, half_of, IsLive}
use Rattle.asl_table.proofs.Free.{free_allows}
use Rattle.asl_table.proofs.Splitting.{free_above, top_below, top_free}

-- ---- one place

step_at : (n : ℕ) (m : Digits) (o : Option Bool) → get_or m n None ≡ o → top_fixed (suc n) m ≡ cond (is_some o) (suc n) (top_fixed n m)
unfolding top_fixed
step_at n m o e = ap (λ (x : Option Bool). cond (is_some x) (suc n) (top_fixed n m)) e

pub top_step : (t n : ℕ) (m : Digits) (o : Option Bool) → t ≡ suc n → slice_get m n ≡ Some o →
    top_fixed t m ≡ cond (is_some o) t (top_fixed n m)
top_step t n m o e h =
    ap (λ (k : ℕ). top_fixed k m) e ∙ step_at n m o (get_or_from_slice_get m n o None h)
    ∙ ap (λ (k : ℕ). cond (is_some o) k (top_fixed n m)) (sym e)

-- the place below is free: the top is that below it
pub top_lower : (t n : ℕ) (m : Digits) (o : Option Bool) → t ≡ suc n → slice_get m n ≡ Some o → is_none o ≡ true →
    top_fixed t m ≡ top_fixed n m
top_lower t n m None e h f = top_step t n m None e h
top_lower t n m (Some d) e h f = absurd cc

-- it is fixed: it is the top
pub top_found : (t n : ℕ) (m : Digits) (o : Option Bool) → t ≡ suc n → slice_get m n ≡ Some o → is_none o ≡ false → top_fixed t m ≡ t
top_found t n m None e h f = absurd cc
top_found t n m (Some d) e h f = top_step t n m (Some d) e h

pub top_nothing : (m : Digits) → top_fixed 0 m ≡ 0
unfolding top_fixed
top_nothing m = refl

-- ---- one half

half_if : (c : Bool) (l : Live) (x : ℕ) → c ≡ true → l.top ≡ x → Some l ≡ cond c (Some (record l { top = x })) None
half_if true l x h e = ap (λ (t : ℕ). Some (record l { top = t })) e
half_if false l x h e = absurd cc

pub half_above : (p : ℕ) (b : Bool) (l : Live) → IsLive (suc p) l → l.top ≤ p → Some l ≡ half_of p b l
half_above p b l h k =
    let low : top_fixed (suc p) l.mask.now ≤ p = subst (λ (n : ℕ). n ≤ p) h.0 k in
    half_if (allows p b l.mask.now) l (top_fixed p l.mask.now) (free_allows (get_or l.mask.now p None) b (free_above p l.mask.now low)) (h.0 ∙ top_below p l.mask.now low)

-- a place that is free is above the top
pub not_free : (p : ℕ) (l : Live) → IsLive (suc p) l → p < l.top → slice_get l.mask.now p ≡ Some None → ⊥
not_free p l h k e =
    let free : is_free_at p l.mask.now ≡ true = ap is_none (get_or_from_slice_get l.mask.now p None None e) in
    let low : top_fixed (suc p) l.mask.now ≤ p = top_free p l.mask.now free in
    let top : l.top ≡ top_fixed (suc p) l.mask.now = h.0 in
    absurd (omega (arith, low, top, k))

same_matches : (d b : Bool) → beq d b ≡ true → digit_matches (Some d) b ≡ true
same_matches true true h = refl
same_matches true false h = absurd cc
same_matches false true h = absurd cc
same_matches false false h = refl

other_matches : (d b : Bool) → beq d b ≡ false → digit_matches (Some d) b ≡ false
other_matches true true h = absurd cc
other_matches true false h = refl
other_matches false true h = refl
other_matches false false h = absurd cc

taken_if : (c : Bool) (l k : Live) → c ≡ true → Some k ≡ cond c (Some k) None
taken_if true l k h = refl
taken_if false l k h = absurd cc

dropped_if : (c : Bool) (k : Live) → c ≡ false → None ≡ cond c (Some k) None
dropped_if true k h = absurd cc
dropped_if false k h = refl

pub half_taken : (p : ℕ) (b d : Bool) (l k : Live) → slice_get l.mask.now p ≡ Some (Some d) → beq d b ≡ true →
    k ≡ record l { top = top_fixed p l.mask.now } → Some k ≡ half_of p b l
half_taken p b d l k e s is =
    let allowed : allows p b l.mask.now ≡ true = ap (λ (o : Option Bool). digit_matches o b) (get_or_from_slice_get l.mask.now p (Some d) None e) ∙ same_matches d b s in
    ap Some is ∙ taken_if (allows p b l.mask.now) l (record l { top = top_fixed p l.mask.now }) allowed

pub half_dropped : (p : ℕ) (b d : Bool) (l : Live) → slice_get l.mask.now p ≡ Some (Some d) → beq d b ≡ false → None ≡ half_of p b l
half_dropped p b d l e s =
    let refused : allows p b l.mask.now ≡ false = ap (λ (o : Option Bool). digit_matches o b) (get_or_from_slice_get l.mask.now p (Some d) None e) ∙ other_matches d b s in
    dropped_if (allows p b l.mask.now) (record l { top = top_fixed p l.mask.now }) refused

-- ---- the test of the code

pub none_there : (o : Option Bool) (r : Bool) → is_some o ≡ not r → r ≡ true → is_none o ≡ true
none_there None r h e = refl
none_there (Some d) r h e = let no : true ≡ false = h ∙ ap not e in cc

pub some_there : (o : Option Bool) (r : Bool) → is_some o ≡ not r → r ≡ false → is_none o ≡ false
some_there None r h e = let no : false ≡ true = h ∙ ap not e in cc
some_there (Some d) r h e = refl
