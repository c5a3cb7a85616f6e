-- What `search` answers at each of its ends, and what its calls ask for.
use Rattle.std.proofs.Common.{◌≡◌, ℕ, zero, suc, ◌+◌, ◌-◌, ◌<◌, ◌≤◌, List, [], ◌∷◌, ◌++◌, length, Bool, true, false, cond, replicate, refl, sym, ◌∙◌, ap, subst, arith}
use Rattle.std.specs.Prelude.{Option, Some, None, ◌||◌, ◌==◌, option_map}
use Rattle.std.proofs.lemmas.List.{length-append}
use Rattle.std.proofs.lemmas.Bool.{eqb-true, eqb-false}
use Rattle.asl_table.specs.declared.search.Finding.TheVariants.{Budget, Total, Free}
use Rattle.asl_table.specs.declared.live.Live.{Live}
use Rattle.asl_mask.specs.Least.{or_else, on_top, least}
use Rattle.asl_mask.specs.Covers.{Digits, least_free, allowing, one_is_free, is_empty, splits}
use Rattle.asl_table.specs.private.Listed.{masks_of, AreLive, highest, is_zero, has_zero}
use Rattle.asl_table.specs.private.Found.{result_of, search_of}
use Rattle.asl_table.proofs.Free.{least_free_none, least_free_total}
use Rattle.asl_table.proofs.Splitting.{padded, long_masks, zero_is, skipped, is_none_of, top_within}
use Rattle.asl_table.proofs.Searching.{whole, joined, within_is, past_is, free_of, low_budget, low_free, high_budget, high_total, high_free, search_is}

-- ---- no mask, and a mask without fixed digits

splits_none : (w : ℕ) → splits w [] ≡ 0
unfolding splits
splits_none zero = refl
splits_none (suc w) = refl

or_right : (a b : Bool) → b ≡ true → (a || b) ≡ true
or_right true b h = refl
or_right false b h = h

splits_free : (w : ℕ) (ms : List Digits) → one_is_free w ms ≡ true → splits w ms ≡ 0
unfolding splits
splits_free zero ms h = refl
splits_free (suc w) ms h = rw (or_right (is_empty ms) (one_is_free (suc w) ms) h) refl

no_mask : (ls : List Live) → length ls ≡ 0 → ls ≡ []
no_mask [] h = refl
no_mask (l ∷ ls) h = absurd (omega (arith, h))

pub at_none : (w left : ℕ) (ls : List Live) (v : List Bool) → length ls ≡ 0 → v ≡ replicate w false →
    Free v ≡ search_of w left (masks_of ls)
at_none w left ls v h e =
    ap Free e
    ∙ sym (ap (λ (x : List Live). search_of w left (masks_of x)) (no_mask ls h)
    ∙ ap (λ (n : ℕ). result_of n left (least_free w [])) (splits_none w)
    ∙ ap (λ (o : Option (List Bool)). result_of 0 left o) (least_free_none w)
    ∙ within_is 0 left (Some (replicate w false)) (omega arith))

pub at_zero : (w left : ℕ) (ls : List Live) → AreLive w ls → has_zero ls ≡ true → Total left ≡ search_of w left (masks_of ls)
at_zero w left ls h z =
    let one : one_is_free w (masks_of ls) ≡ true = zero_is w ls h ∙ z in
    let rest : left - 0 ≡ left = omega arith in
    sym (ap (λ (n : ℕ). result_of n left (least_free w (masks_of ls))) (splits_free w (masks_of ls) one)
    ∙ ap (λ (o : Option (List Bool)). result_of 0 left o) (least_free_total w (masks_of ls) (long_masks w ls h) one)
    ∙ within_is 0 left None (omega arith) ∙ ap Total rest)

-- ---- the place where it splits

zero_below : (n : ℕ) → is_zero n ≡ false → 1 ≤ n
zero_below zero h = absurd cc
zero_below (suc n) h = omega arith

or_left : (a b : Bool) → (a || b) ≡ false → a ≡ false
or_left true b h = absurd cc
or_left false b h = refl

some_top : (ls : List Live) → 0 < length ls → has_zero ls ≡ false → 1 ≤ highest ls
some_top [] h z = absurd (omega (arith, h))
some_top (l ∷ ls) h z =
    let one : 1 ≤ l.top = zero_below l.top (or_left (is_zero l.top) (has_zero ls) z) in
    omega (arith, one)

highest_within : (w : ℕ) (ls : List Live) → AreLive w ls → highest ls ≤ w
highest_within w [] h = omega arith
highest_within w (l ∷ ls) h =
    let one : l.top ≤ w = subst (λ (n : ℕ). n ≤ w) (sym h.0.0) (top_within w l.mask.now) in
    let rest : highest ls ≤ w = highest_within w ls h.1 in
    omega (arith, one, rest)

is_some_of : (ls : List Live) → 0 < length ls → is_none_of ls ≡ false
is_some_of [] h = absurd (omega (arith, h))
is_some_of (l ∷ ls) h = refl

pub record Splits (w place : ℕ) (ls : List Live) : Type 0 where
  pub live : AreLive w ls
  pub some : 0 < length ls
  pub fixed : has_zero ls ≡ false
  pub at : place ≡ highest ls - 1

pub place_is : (w place : ℕ) (ls : List Live) → Splits w place ls → highest ls ≡ suc place
place_is w place ls s =
    let one : 1 ≤ highest ls = some_top ls s.some s.fixed in
    omega (arith, one, s.at)

pub place_less : (w place : ℕ) (ls : List Live) → Splits w place ls → place < w
place_less w place ls s =
    let within : highest ls ≤ w = highest_within w ls s.live in
    omega (arith, within, place_is w place ls s)

above_place : (w place : ℕ) (ls : List Live) → Splits w place ls → w ≡ (w - suc place) + suc place
above_place w place ls s = let less : place < w = place_less w place ls s in omega (arith, less)

pub live_there : (w place : ℕ) (ls : List Live) → Splits w place ls → AreLive (suc place) ls
live_there w place ls s =
    let top : highest ls ≡ suc place = place_is w place ls s in
    (skipped (w - suc place) w (suc place) ls (above_place w place ls s) s.live (omega (arith, top)) s.fixed (is_some_of ls s.some)).live

abbrev low_splits : ℕ → List Live → ℕ
low_splits p ls = splits p (allowing p false (masks_of ls))

abbrev high_splits : ℕ → List Live → ℕ
high_splits p ls = splits p (allowing p true (masks_of ls))

abbrev low_free_word : ℕ → List Live → Option (List Bool)
low_free_word p ls = least_free p (allowing p false (masks_of ls))

abbrev high_free_word : ℕ → List Live → Option (List Bool)
high_free_word p ls = least_free p (allowing p true (masks_of ls))

-- the whole by its halves
halves : (w place left l : ℕ) (ls : List Live) → Splits w place ls → left ≡ suc l →
    search_of w left (masks_of ls) ≡ result_of (whole (low_splits place ls) (high_splits place ls) (low_free_word place ls)) (suc l) (joined (w - suc place) (low_free_word place ls) (high_free_word place ls))
halves w place left l ls s e =
    search_is w place (w - suc place) left ls (above_place w place ls s) s.live (place_is w place ls s) s.fixed (is_some_of ls s.some)
    ∙ ap (λ (n : ℕ). result_of (whole (low_splits place ls) (high_splits place ls) (low_free_word place ls)) n (joined (w - suc place) (low_free_word place ls) (high_free_word place ls))) e

pub at_budget : (w place left : ℕ) (ls : List Live) → Splits w place ls → left ≡ 0 → Budget ≡ search_of w left (masks_of ls)
at_budget w place left ls s e =
    sym (search_is w place (w - suc place) left ls (above_place w place ls s) s.live (place_is w place ls s) s.fixed (is_some_of ls s.some)
    ∙ past_is (whole (low_splits place ls) (high_splits place ls) (low_free_word place ls)) left (joined (w - suc place) (low_free_word place ls) (high_free_word place ls)) (omega (arith, e)))

pub at_low_budget : (w place left l : ℕ) (ls : List Live) (ms : List Digits) → Splits w place ls → left ≡ suc l →
    ms ≡ allowing place false (masks_of ls) → Budget ≡ search_of place l ms → Budget ≡ search_of w left (masks_of ls)
at_low_budget w place left l ls ms s e m h =
    low_budget (low_splits place ls) (high_splits place ls) l (low_free_word place ls) (joined (w - suc place) (low_free_word place ls) (high_free_word place ls)) (h ∙ ap (search_of place l) m)
    ∙ sym (halves w place left l ls s e)

pub at_low_free : (w place left l : ℕ) (ls : List Live) (ms : List Digits) (v u : List Bool) → Splits w place ls → left ≡ suc l →
    ms ≡ allowing place false (masks_of ls) → Free v ≡ search_of place l ms →
    u ≡ padded (w - suc place) (on_top false v) → Free u ≡ search_of w left (masks_of ls)
at_low_free w place left l ls ms v u s e m h is =
    ap Free is ∙ low_free (low_splits place ls) (high_splits place ls) (w - suc place) l v (low_free_word place ls) (high_free_word place ls) (h ∙ ap (search_of place l) m)
    ∙ sym (halves w place left l ls s e)

pub at_high_budget : (w place left l n : ℕ) (ls : List Live) (ms ns : List Digits) → Splits w place ls → left ≡ suc l →
    ms ≡ allowing place false (masks_of ls) → Total n ≡ search_of place l ms →
    ns ≡ allowing place true (masks_of ls) → Budget ≡ search_of place n ns → Budget ≡ search_of w left (masks_of ls)
at_high_budget w place left l n ls ms ns s e m h k j =
    high_budget (low_splits place ls) (high_splits place ls) l n (low_free_word place ls) (high_free_word place ls) (joined (w - suc place) (low_free_word place ls) (high_free_word place ls)) (h ∙ ap (search_of place l) m) (j ∙ ap (search_of place n) k)
    ∙ sym (halves w place left l ls s e)

pub at_high_total : (w place left l n rest : ℕ) (ls : List Live) (ms ns : List Digits) → Splits w place ls → left ≡ suc l →
    ms ≡ allowing place false (masks_of ls) → Total n ≡ search_of place l ms →
    ns ≡ allowing place true (masks_of ls) → Total rest ≡ search_of place n ns → Total rest ≡ search_of w left (masks_of ls)
at_high_total w place left l n rest ls ms ns s e m h k j =
    high_total (low_splits place ls) (high_splits place ls) (w - suc place) l n rest (low_free_word place ls) (high_free_word place ls) (h ∙ ap (search_of place l) m) (j ∙ ap (search_of place n) k)
    ∙ sym (halves w place left l ls s e)

pub at_high_free : (w place left l n : ℕ) (ls : List Live) (ms ns : List Digits) (v u : List Bool) → Splits w place ls → left ≡ suc l →
    ms ≡ allowing place false (masks_of ls) → Total n ≡ search_of place l ms →
    ns ≡ allowing place true (masks_of ls) → Free v ≡ search_of place n ns → u ≡ padded (w - suc place) (on_top true v) → Free u ≡ search_of w left (masks_of ls)
at_high_free w place left l n ls ms ns v u s e m h k j is =
    ap Free is ∙ high_free (low_splits place ls) (high_splits place ls) (w - suc place) l n v (low_free_word place ls) (high_free_word place ls) (h ∙ ap (search_of place l) m) (j ∙ ap (search_of place n) k)
    ∙ sym (halves w place left l ls s e)

-- ---- the words that are found

cond_length : (c : Bool) (v : List Bool) → cond c (Some []) None ≡ Some v → length v ≡ 0
cond_length true v h = let e : [] ≡ v = cc in ap length (sym e)
cond_length false v h = absurd cc

top_length : (b : Bool) (u v : List Bool) (w : ℕ) → length u ≡ w → Some (on_top b u) ≡ Some v → length v ≡ suc w
top_length b u v w h e =
    let is : on_top b u ≡ v = cc in
    omega (arith, ap length is, length-append u (b ∷ []), h)

or_length : (o p : Option (List Bool)) (v : List Bool) (w : ℕ) → ((u : List Bool) → o ≡ Some u → length u ≡ w) →
    ((u : List Bool) → p ≡ Some u → length u ≡ w) →
    or_else (option_map (on_top false) o) (option_map (on_top true) p) ≡ Some v → length v ≡ suc w
or_length (Some u) p v w f g h = top_length false u v w (f u refl) h
or_length None (Some u) v w f g h = top_length true u v w (g u refl) h
or_length None None v w f g h = absurd cc

pub least_length : (w : ℕ) (p : List Bool → Bool) (v : List Bool) → least w p ≡ Some v → length v ≡ w
unfolding least
least_length zero p v h = cond_length (p []) v h
least_length (suc w) p v h =
    or_length (least w (λ u. p (on_top false u))) (least w (λ u. p (on_top true u))) v w (λ u e. least_length w (λ x. p (on_top false x)) u e) (λ u e. least_length w (λ x. p (on_top true x)) u e) h

-- ---- the tests of the code

pub no_length : (n : ℕ) (b : Bool) → b ≡ (n == 0) → b ≡ true → n ≡ 0
no_length n b h e = eqb-true n 0 (sym h ∙ e)

length_by : (n : ℕ) → (n ≡ 0 → ⊥) → 0 < n
length_by zero h = absurd (h refl)
length_by (suc n) h = omega arith

pub some_length : (n : ℕ) (b : Bool) → b ≡ (n == 0) → b ≡ false → 0 < n
some_length n b h e = let no : n ≡ 0 → ⊥ = eqb-false n 0 (sym h ∙ e) in length_by n no

pub splits_code : (w top : ℕ) (ls : List Live) (empty nought : Bool) → AreLive w ls → empty ≡ (length ls == 0) → empty ≡ false →
    nought ≡ has_zero ls → nought ≡ false → top ≡ highest ls → Splits w (top - 1) ls
splits_code w top ls empty nought h e f z y t = record { live = h; some = some_length (length ls) empty e f; fixed = sym z ∙ y; at = ap (λ (x : ℕ). x - 1) t }

pub some_top_code : (w place : ℕ) (ls : List Live) (top : ℕ) → Splits w place ls → top ≡ highest ls → 1 ≤ top
some_top_code w place ls top s t = let one : 1 ≤ highest ls = some_top ls s.some s.fixed in omega (arith, one, t)

-- a word that is found has the digits below the place
pub found_length : (place left : ℕ) (ms : List Digits) (v : List Bool) → Free v ≡ search_of place left ms → length v ≡ place
found_length place left ms v h = least_length place _ v (free_of (splits place ms) left v (least_free place ms) h).some

pub padded_is : (w place : ℕ) (v u : List Bool) (b : Bool) → length v ≡ place →
    u ≡ (v ++ b ∷ []) ++ replicate (w - suc (length v)) false → u ≡ padded (w - suc place) (on_top b v)
padded_is w place v u b h e = e ∙ ap (λ (n : ℕ). (v ++ b ∷ []) ++ replicate (w - suc n) false) h
