-- How often the search splits, and where: at the highest place with a fixed digit.
use Rattle.std.proofs.Common.{◌≡◌, ℕ, zero, suc, ◌+◌, ◌<◌, ◌≤◌, List, [], ◌∷◌, ◌++◌, length, drop, get_or, Bool, true, false, cond, replicate, refl, sym, ◌∙◌, ap, subst, arith, append_assoc, drop-cons}
use Rattle.std.specs.Prelude.{Option, Some, None, ◌&&◌, ◌||◌, option_map, is_none, is_some, max}
use Rattle.std.proofs.lemmas.List.{replicate_more}
use Rattle.asl_table.specs.declared.live.Live.{Live}
use Rattle.asl_mask.specs.Least.{on_top}
use Rattle.asl_mask.specs.Covers.{Digits, least_free, match_every, allows, allowing, is_free_at, is_free, one_is_free, all_free_at, is_empty, splits}
use Rattle.asl_table.specs.private.Listed.{top_fixed, masks_of, half_of, IsLive, AreLive, highest, is_zero, has_zero}
use Rattle.asl_table.proofs.Free.{AreLong, least_free_skip}

-- ---- the highest fixed place

free_by : (o : Option Bool) (w : ℕ) (m : Digits) → is_free w m ≡ is_zero (top_fixed w m) →
    (is_none o && is_free w m) ≡ is_zero (cond (is_some o) (suc w) (top_fixed w m))
free_by None w m h = h
free_by (Some d) w m h = refl

pub is_free_is : (w : ℕ) (m : Digits) → is_free w m ≡ is_zero (top_fixed w m)
unfolding top_fixed
is_free_is zero m = refl
is_free_is (suc w) m = free_by (get_or m w None) w m (is_free_is w m)

top_if : (o : Option Bool) (w x : ℕ) → x ≤ w → cond (is_some o) (suc w) x ≤ suc w
top_if None w x h = omega (arith, h)
top_if (Some d) w x h = omega arith

pub top_within : (w : ℕ) (m : Digits) → top_fixed w m ≤ w
unfolding top_fixed
top_within zero m = omega arith
top_within (suc w) m = top_if (get_or m w None) w (top_fixed w m) (top_within w m)

none_if : (o : Option Bool) (w x : ℕ) → cond (is_some o) (suc w) x ≤ w → is_none o ≡ true
none_if None w x h = refl
none_if (Some d) w x h = absurd (omega (arith, h))

same_if : (o : Option Bool) (w x : ℕ) → cond (is_some o) (suc w) x ≤ w → cond (is_some o) (suc w) x ≡ x
same_if None w x h = refl
same_if (Some d) w x h = absurd (omega (arith, h))

-- a place above it is free
pub free_above : (w : ℕ) (m : Digits) → top_fixed (suc w) m ≤ w → is_free_at w m ≡ true
unfolding top_fixed
free_above w m h = none_if (get_or m w None) w (top_fixed w m) h

pub top_below : (w : ℕ) (m : Digits) → top_fixed (suc w) m ≤ w → top_fixed (suc w) m ≡ top_fixed w m
unfolding top_fixed
top_below w m h = same_if (get_or m w None) w (top_fixed w m) h

-- ---- lists

pub long_masks : (w : ℕ) (ls : List Live) → AreLive w ls → AreLong w (masks_of ls)
unfolding AreLong
long_masks w [] h = tt
long_masks w (l ∷ ls) h = (h.0.1, long_masks w ls h.1)

pub zero_is : (w : ℕ) (ls : List Live) → AreLive w ls → one_is_free w (masks_of ls) ≡ has_zero ls
zero_is w [] h = refl
zero_is w (l ∷ ls) h =
    let here : is_free w l.mask.now ≡ is_zero l.top = is_free_is w l.mask.now ∙ ap is_zero (sym h.0.0) in
    ap (λ (b : Bool). b || one_is_free w (masks_of ls)) here ∙ ap (λ (b : Bool). is_zero l.top || b) (zero_is w ls h.1)

-- one place less counts, above all that are fixed
lower_one : (w : ℕ) (ls : List Live) → AreLive (suc w) ls → highest ls ≤ w → AreLive w ls
lower_one w [] h k = tt
lower_one w (l ∷ ls) h k =
    let top : l.top ≡ top_fixed (suc w) l.mask.now = h.0.0 in
    ((top ∙ top_below w l.mask.now (omega (arith, top, k)), omega (arith, h.0.1)), lower_one w ls h.1 (omega (arith, k)))

free_all : (w : ℕ) (ls : List Live) → AreLive (suc w) ls → highest ls ≤ w → all_free_at w (masks_of ls) ≡ true
free_all w [] h k = refl
free_all w (l ∷ ls) h k =
    let top : l.top ≡ top_fixed (suc w) l.mask.now = h.0.0 in
    ap (λ (b : Bool). b && all_free_at w (masks_of ls)) (free_above w l.mask.now (omega (arith, top, k)))
    ∙ free_all w ls h.1 (omega (arith, k))

-- the digits of a word with zeros on top
abbrev pub padded : ℕ → List Bool → List Bool
padded k v = v ++ replicate k false

pad_none : (v : List Bool) → padded 0 v ≡ v
pad_none [] = refl
pad_none (b ∷ v) = ap (λ (u : List Bool). b ∷ u) (pad_none v)

pad_more : (k : ℕ) (v : List Bool) → on_top false (padded k v) ≡ padded (suc k) v
pad_more k v =
    append_assoc v (replicate k false) (false ∷ [])
    ∙ ap (λ (u : List Bool). v ++ u) (replicate_more k false ∙ ap (λ (n : ℕ). replicate n false) (let e : k + 1 ≡ suc k = omega arith in e))

map_none : (o : Option (List Bool)) → option_map (padded 0) o ≡ o
map_none None = refl
map_none (Some v) = ap Some (pad_none v)

map_more : (k : ℕ) (o : Option (List Bool)) → option_map (on_top false) (option_map (padded k) o) ≡ option_map (padded (suc k)) o
map_more k None = refl
map_more k (Some v) = ap Some (pad_more k v)

pub record Skipped (w t k : ℕ) (ls : List Live) : Type 0 where
  pub live : AreLive t ls
  pub splits_same : splits w (masks_of ls) ≡ splits t (masks_of ls)
  pub free_same : least_free w (masks_of ls) ≡ option_map (padded k) (least_free t (masks_of ls))

abbrev pub is_none_of : List Live → Bool
is_none_of [] = true
is_none_of (l ∷ ls) = false

not_empty : (ls : List Live) → is_none_of ls ≡ false → is_empty (masks_of ls) ≡ false
not_empty [] h = absurd cc
not_empty (l ∷ ls) h = refl

splits_skip : (w : ℕ) (ms : List Digits) → is_empty ms ≡ false → one_is_free (suc w) ms ≡ false → all_free_at w ms ≡ true →
    splits (suc w) ms ≡ splits w ms
unfolding splits
splits_skip w ms e f a = rw (e, f, a) refl

-- places above all that are fixed don't split
pub skipped : (k w t : ℕ) (ls : List Live) → w ≡ k + t → AreLive w ls → highest ls ≤ t → has_zero ls ≡ false → is_none_of ls ≡ false →
    Skipped w t k ls
skipped zero w t ls e h k z n =
    let same : w ≡ t = omega (arith, e) in
    record {
      live = subst (λ (x : ℕ). AreLive x ls) same h;
      splits_same = ap (λ (x : ℕ). splits x (masks_of ls)) same;
      free_same = ap (λ (x : ℕ). least_free x (masks_of ls)) same ∙ sym (map_none (least_free t (masks_of ls)));
    }
skipped (suc j) zero t ls e h k z n = absurd (omega (arith, e))
skipped (suc j) (suc w) t ls e h k z n =
    let within : highest ls ≤ w = omega (arith, e, k) in
    let live : AreLive w ls = lower_one w ls h within in
    let all : all_free_at w (masks_of ls) ≡ true = free_all w ls h within in
    let rest = skipped j w t ls (omega (arith, e)) live k z n in
    record {
      live = rest.live;
      splits_same = splits_skip w (masks_of ls) (not_empty ls n) (zero_is (suc w) ls h ∙ z) all ∙ rest.splits_same;
      free_same = least_free_skip w (masks_of ls) (long_masks (suc w) ls h) all ∙ ap (option_map (on_top false)) rest.free_same
          ∙ map_more j (least_free t (masks_of ls));
    }

-- ---- where it splits

fixed_if : (o : Option Bool) (p x : ℕ) → x ≤ p → suc p ≤ cond (is_some o) (suc p) x → is_none o ≡ false
fixed_if None p x h k = absurd (omega (arith, h, k))
fixed_if (Some d) p x h k = refl

fixed_at_top : (p : ℕ) (m : Digits) → suc p ≤ top_fixed (suc p) m → is_free_at p m ≡ false
unfolding top_fixed
fixed_at_top p m h = fixed_if (get_or m p None) p (top_fixed p m) (top_within p m) h

and_false : (b : Bool) → (b && false) ≡ false
and_false true = refl
and_false false = refl

free_within : (o : Option Bool) (p x : ℕ) → x ≤ p → is_none o ≡ true → cond (is_some o) (suc p) x ≤ p
free_within None p x h k = h
free_within (Some d) p x h k = absurd cc

pub top_free : (p : ℕ) (m : Digits) → is_free_at p m ≡ true → top_fixed (suc p) m ≤ p
unfolding top_fixed
top_free p m h = free_within (get_or m p None) p (top_fixed p m) (top_within p m) h

split_by : (b : Bool) (p : ℕ) (l : Live) (ls : List Live) → is_free_at p l.mask.now ≡ b → l.top ≡ top_fixed (suc p) l.mask.now →
    suc p ≤ max l.top (highest ls) →
    (suc p ≤ highest ls → all_free_at p (masks_of ls) ≡ false) → (is_free_at p l.mask.now && all_free_at p (masks_of ls)) ≡ false
split_by false p l ls e t h more = ap (λ (b : Bool). b && all_free_at p (masks_of ls)) e
split_by true p l ls e t h more =
    let low : top_fixed (suc p) l.mask.now ≤ p = top_free p l.mask.now e in
    ap (λ (b : Bool). b && all_free_at p (masks_of ls)) e ∙ more (omega (arith, low, t, h))

not_all_free : (p : ℕ) (ls : List Live) → AreLive (suc p) ls → suc p ≤ highest ls → all_free_at p (masks_of ls) ≡ false
not_all_free p [] h k = absurd (omega (arith, k))
not_all_free p (l ∷ ls) h k = split_by (is_free_at p l.mask.now) p l ls refl h.0.0 k (λ j. not_all_free p ls h.1 j)

splits_there : (p : ℕ) (ms : List Digits) → is_empty ms ≡ false → one_is_free (suc p) ms ≡ false → all_free_at p ms ≡ false →
    splits (suc p) ms ≡ suc (splits p (allowing p false ms) + cond (match_every p (allowing p false ms)) (splits p (allowing p true ms)) 0)
unfolding splits
splits_there p ms e f a = rw (e, f, a) refl

pub splits_at : (p : ℕ) (ls : List Live) → AreLive (suc p) ls → suc p ≤ highest ls → has_zero ls ≡ false → is_none_of ls ≡ false →
    splits (suc p) (masks_of ls) ≡ suc (splits p (allowing p false (masks_of ls)) + cond (match_every p (allowing p false (masks_of ls))) (splits p (allowing p true (masks_of ls))) 0)
splits_at p ls h k z n = splits_there p (masks_of ls) (not_empty ls n) (zero_is (suc p) ls h ∙ z) (not_all_free p ls h k)

-- ---- the lists of the code

pub front : (ls : List Live) (i : ℕ) (l : Live) → i < length ls → l ≡ get_or ls i l → drop i ls ≡ l ∷ drop (i + 1) ls
front ls i l h e = drop-cons ls i l h ∙ ap (λ (x : Live). x ∷ drop (suc i) ls) (sym e) ∙ ap (λ (n : ℕ). l ∷ drop n ls) (let p : suc i ≡ i + 1 = omega arith in p)

pub masks_more : (ls : List Live) (l : Live) → masks_of (ls ++ l ∷ []) ≡ masks_of ls ++ l.mask.now ∷ []
masks_more [] l = refl
masks_more (k ∷ ls) l = ap (λ (ms : List Digits). k.mask.now ∷ ms) (masks_more ls l)

pub live_more : (w : ℕ) (ls : List Live) (l : Live) → AreLive w ls → IsLive w l → AreLive w (ls ++ l ∷ [])
live_more w [] l h k = (k, tt)
live_more w (m ∷ ls) l h k = (h.0, live_more w ls l h.1 k)

-- one more mask that allows a digit
more_by : (c : Bool) (ls : List Live) (l : Live) (p : ℕ) (b : Bool) (rest : List Live) (all : List Digits) → allows p b l.mask.now ≡ c →
    cond c (Some (record l { top = top_fixed p l.mask.now })) None ≡ Some (record l { top = top_fixed p l.mask.now }) →
    masks_of ls ++ allowing p b (masks_of (l ∷ rest)) ≡ all → masks_of (ls ++ record l { top = top_fixed p l.mask.now } ∷ []) ++ allowing p b (masks_of rest) ≡ all
more_by true ls l p b rest all c h e =
    ap (λ (ms : List Digits). ms ++ allowing p b (masks_of rest)) (masks_more ls (record l { top = top_fixed p l.mask.now }))
    ∙ append_assoc (masks_of ls) (l.mask.now ∷ []) (allowing p b (masks_of rest))
    ∙ ap (λ (x : Bool). masks_of ls ++ cond x (l.mask.now ∷ allowing p b (masks_of rest)) (allowing p b (masks_of rest))) (sym c) ∙ e
more_by false ls l p b rest all c h e = absurd cc

pub allowed_more : (ls : List Live) (l : Live) (p : ℕ) (b : Bool) (rest : List Live) (all : List Digits) →
    half_of p b l ≡ Some (record l { top = top_fixed p l.mask.now }) →
    masks_of ls ++ allowing p b (masks_of (l ∷ rest)) ≡ all → masks_of (ls ++ record l { top = top_fixed p l.mask.now } ∷ []) ++ allowing p b (masks_of rest) ≡ all
allowed_more ls l p b rest all h e = more_by (allows p b l.mask.now) ls l p b rest all refl h e
