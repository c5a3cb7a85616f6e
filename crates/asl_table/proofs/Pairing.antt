-- The lines of the pairs of one mask, mask by mask.
use Rattle.std.proofs.Common.{◌≡◌, ℕ, zero, suc, ◌+◌, ◌<◌, ◌≤◌, List, [], ◌∷◌, ◌++◌, length, take, drop, get_or, Bool, true, false, cond, refl, sym, ◌∙◌, ap, subst, arith, drop-cons}
use Rattle.std.specs.Prelude.{Option, Some, None, ◌==◌}
use Rattle.std.proofs.lemmas.List.{get_or_default, take_more}
use Rattle.asl_mask.specs.Covers.{Digits}
use Rattle.asl_mask.specs.Least.{overlap_of}
use Rattle.asl_rules.specs.report.Texts.{Text}
use Rattle.asl_rules.specs.report.MaskTables.{Masks, pair_line, pair_text, pairs_with, digits_in}
use Rattle.asl_table.specs.declared.lowest.Low.{Low}
use Rattle.asl_table.specs.Pairs.{mask_at, IsNext, IsLow, AreLows}
use Rattle.asl_table.specs.Widths.{AreWide}

-- ---- the lists of a table

pub lows_length : (ms : Masks) (ls : List Low) → AreLows ms ls → length ls ≡ length ms
lows_length [] [] h = refl
lows_length [] (l ∷ ls) h = absurd h
lows_length ((n, m) ∷ ms) [] h = absurd h
lows_length ((n, m) ∷ ms) (l ∷ ls) h = omega (arith, lows_length ms ls h.1)

pub low_at : (ms : Masks) (ls : List Low) (k : ℕ) (d : Low) → AreLows ms ls → k < length ms →
    IsLow (mask_at ms k).0 (mask_at ms k).1 (get_or ls k d)
low_at [] ls k d h l = absurd (omega (arith, l))
low_at ((n, m) ∷ ms) [] k d h l = absurd h
low_at ((n, m) ∷ ms) (x ∷ ls) zero d h l = h.0
low_at ((n, m) ∷ ms) (x ∷ ls) (suc k) d h l = low_at ms ls k d h.1 (omega (arith, l))

pub width_at : (w : ℕ) (ms : Masks) (k : ℕ) → AreWide w (digits_in ms) → k < length ms → length (mask_at ms k).1 ≡ w
width_at w [] k h l = absurd (omega (arith, l))
width_at w ((n, m) ∷ ms) zero h l = h.0
width_at w ((n, m) ∷ ms) (suc k) h l = width_at w ms k h.1 (omega (arith, l))

pub lows_more : (ms : Masks) (ls : List Low) (x : ℕ × Digits) (l : Low) → AreLows ms ls → IsLow x.0 x.1 l →
    AreLows (ms ++ x ∷ []) (ls ++ l ∷ [])
lows_more [] [] x l h k = (k, tt)
lows_more [] (y ∷ ls) x l h k = absurd h
lows_more ((n, m) ∷ ms) [] x l h k = absurd h
lows_more ((n, m) ∷ ms) (y ∷ ls) x l h k = (h.0, lows_more ms ls x l h.1 k)

pub lows_next : (i : ℕ) (ls new : List Low) (l : Low) (ms : Masks) (x : ℕ × Digits) → new ≡ ls ++ l ∷ [] → i < length ms →
    x ≡ get_or ms i x → IsLow x.0 x.1 l → AreLows (take i ms) ls →
    AreLows (take (i + 1) ms) new
lows_next i ls new l ms x n k e s h =
    let next : take (i + 1) ms ≡ take i ms ++ x ∷ [] = take_more ms i x k ∙ ap (λ (y : ℕ × Digits). take i ms ++ y ∷ []) (sym e) in
    subst (AreLows (take (i + 1) ms)) (sym n) (subst (λ (ys : Masks). AreLows ys (ls ++ l ∷ [])) (sym next) (lows_more (take i ms) ls x l h s))

take_all : (ms : Masks) (i : ℕ) → length ms ≤ i → take i ms ≡ ms
take_all [] zero h = refl
take_all [] (suc i) h = refl
take_all (m ∷ ms) zero h = absurd (omega (arith, h))
take_all (m ∷ ms) (suc i) h = ap (λ (xs : Masks). m ∷ xs) (take_all ms i (omega (arith, h)))

pub lows_all : (i : ℕ) (ls : List Low) (ms : Masks) → length ms ≤ i → AreLows (take i ms) ls → AreLows ms ls
lows_all i ls ms k h = subst (λ (ys : Masks). AreLows ys ls) (take_all ms i k) h

-- a mask as the code reads it
pub same_at : (ms : Masks) (k : ℕ) (d : ℕ × Digits) → k < length ms → (get_or ms k d).1 ≡ (mask_at ms k).1
same_at ms k d h = ap (λ (x : ℕ × Digits). x.1) (get_or_default ms k d (0, []) h)

pub one_width : (ms : Masks) (ls : List Low) (i j : ℕ) (x y : Digits) → x ≡ (mask_at ms i).1 → y ≡ (mask_at ms j).1 →
    AreWide (length (mask_at ms i).1) (digits_in ms) → AreLows ms ls → j < length ls →
    length x ≡ length y
one_width ms ls i j x y e f w l k =
    let there : j < length ms = omega (arith, lows_length ms ls l, k) in
    ap length e ∙ sym (width_at _ ms j w there) ∙ sym (ap length f)

-- ---- one mask more

pair_step : (w n : ℕ) (a : ℕ × Digits) (ms : Masks) (j : ℕ) → j < length ms →
    pairs_with w n (suc j) a (drop j ms) ≡ pair_text w n (suc j) a (mask_at ms j) ++ pairs_with w n (suc (suc j)) a (drop (suc j) ms)
pair_step w n a ms j h = ap (pairs_with w n (suc j) a) (drop-cons ms j (0, []) h)

one_alternative : (w i j : ℕ) (a b : ℕ × Digits) → (a.0 == b.0) ≡ true → pair_text w i j a b ≡ []
one_alternative w i j (a, m) (b, n) h = ap (λ (c : Bool). cond c [] (pair_line i j (overlap_of w m n))) h

two_alternatives : (w i j : ℕ) (a b : ℕ × Digits) → (a.0 == b.0) ≡ false → pair_text w i j a b ≡ pair_line i j (overlap_of w a.1 b.1)
two_alternatives w i j (a, m) (b, n) h = ap (λ (c : Bool). cond c [] (pair_line i j (overlap_of w m n))) h

-- ---- the search for the next

-- nothing from `from` up to j
abbrev pub Passed : ℕ × Digits → Masks → ℕ → ℕ → Type 0
Passed a ms from j = (n : ℕ) → pairs_with (length a.1) n (suc from) a (drop from ms) ≡ pairs_with (length a.1) n (suc j) a (drop j ms)

pub passed_by : (a : ℕ × Digits) (ms : Masks) (from j k : ℕ) → k ≡ suc j → j < length ms →
    ((n : ℕ) → pair_text (length a.1) n (suc j) a (mask_at ms j) ≡ []) → Passed a ms from j → Passed a ms from k
passed_by a ms from j k e h none p =
    λ n. p n ∙ pair_step (length a.1) n a ms j h
    ∙ ap (λ (t : Text). t ++ pairs_with (length a.1) n (suc (suc j)) a (drop (suc j) ms)) (none n)
    ∙ ap (λ (i : ℕ). pairs_with (length a.1) n (suc i) a (drop i ms)) (sym e)

ended : (ms : Masks) (j : ℕ) → length ms ≤ j → drop j ms ≡ []
ended [] zero h = refl
ended [] (suc j) h = refl
ended (m ∷ ms) zero h = absurd (omega (arith, h))
ended (m ∷ ms) (suc j) h = ended ms j (omega (arith, h))

pub passed_all : (a : ℕ × Digits) (ms : Masks) (from j : ℕ) → length ms ≤ j → Passed a ms from j → (n : ℕ) →
    IsNext (length a.1) n a ms from None
passed_all a ms from j h p = λ n. p n ∙ ap (pairs_with (length a.1) n (suc j) a) (ended ms j h)

pub found_next : (a : ℕ × Digits) (ms : Masks) (from j : ℕ) (v : List Bool) → from ≤ j → j < length ms →
    (a.0 == (mask_at ms j).0) ≡ false → Some v ≡ overlap_of (length a.1) a.1 (mask_at ms j).1 →
    Passed a ms from j → (n : ℕ) → IsNext (length a.1) n a ms from (Some (j, v))
found_next a ms from j v k h s o p =
    λ n. (
      k,
      h,
      p n ∙ pair_step (length a.1) n a ms j h
          ∙ ap (λ (t : Text). t ++ pairs_with (length a.1) n (suc (suc j)) a (drop (suc j) ms))
          (two_alternatives (length a.1) n (suc j) a (mask_at ms j) s ∙ ap (pair_line n (suc j)) (sym o)),
    )

-- no word matches both
pub none_there : (a b : ℕ × Digits) (w j : ℕ) → (a.0 == b.0) ≡ false → overlap_of w a.1 b.1 ≡ None → (n : ℕ) →
    pair_text w n (suc j) a b ≡ []
none_there a b w j s o = λ n. two_alternatives w n (suc j) a b s ∙ ap (pair_line n (suc j)) o

skipped_by : (c : Bool) (a b : ℕ × Digits) (w j : ℕ) → (a.0 == b.0) ≡ c → ((a.0 == b.0) ≡ false → overlap_of w a.1 b.1 ≡ None) →
    (n : ℕ) → pair_text w n (suc j) a b ≡ []
skipped_by true a b w j s o = λ n. one_alternative w n (suc j) a b s
skipped_by false a b w j s o = none_there a b w j s (o s)

-- of one alternative, or no word matches both
pub skipped : (a b : ℕ × Digits) (w j : ℕ) → ((a.0 == b.0) ≡ false → overlap_of w a.1 b.1 ≡ None) → (n : ℕ) → pair_text w n (suc j) a b ≡ []
skipped a b w j o = skipped_by (a.0 == b.0) a b w j refl o

-- ---- as the code goes about it

-- what `overlap` answers of two masks
pub overlap_at : (m n x y : Digits) (o : Option (List Bool)) → x ≡ m → y ≡ n → o ≡ overlap_of (length x) x y → o ≡ overlap_of (length m) m n
overlap_at m n x y o e f h = h ∙ ap (λ (k : Digits). overlap_of (length k) k y) e ∙ ap (overlap_of (length m) m) f

-- the numbers of the alternatives
pub apart_at : (ms : Masks) (ls : List Low) (i j : ℕ) (d e : Low) → AreLows ms ls → i < length ms → j < length ls →
    ((get_or ls i d).alternative == (get_or ls j e).alternative) ≡ false →
    ((mask_at ms i).0 == (mask_at ms j).0) ≡ false
apart_at ms ls i j d e l h k s =
    let there : j < length ms = omega (arith, lows_length ms ls l, k) in
    ap (λ (n : ℕ). n == (mask_at ms j).0) (sym (low_at ms ls i d l h).0)
    ∙ ap (λ (n : ℕ). (get_or ls i d).alternative == n) (sym (low_at ms ls j e l there).0) ∙ s

-- what the lowest digits tell of two masks
abbrev pub Told : Low → Low → Bool → Type 0
Told a b r =
    (m n : Digits) → length m ≡ length n → IsLow a.alternative m a → IsLow b.alternative n b → (a.alternative == b.alternative) ≡ false → r ≡ false → overlap_of (length m) m n ≡ None

is_low : (n : ℕ) (m : Digits) (l : Low) → IsLow n m l → IsLow l.alternative m l
is_low n m l h = (refl, h.1, h.2)

pub told_none : (ms : Masks) (ls : List Low) (i j : ℕ) (d e : Low) (r : Bool) → AreWide (length (mask_at ms i).1) (digits_in ms) →
    AreLows ms ls → i < length ms → j < length ls →
    Told (get_or ls i d) (get_or ls j e) r → r ≡ false → ((mask_at ms i).0 == (mask_at ms j).0) ≡ false → overlap_of (length (mask_at ms i).1) (mask_at ms i).1 (mask_at ms j).1 ≡ None
told_none ms ls i j d e r w l h k t f s =
    let there : j < length ms = omega (arith, lows_length ms ls l, k) in
    let a = low_at ms ls i d l h in
    let b = low_at ms ls j e l there in
    let differ : ((get_or ls i d).alternative == (get_or ls j e).alternative) ≡ false =
    ap (λ (n : ℕ). n == (get_or ls j e).alternative) a.0 ∙ ap (λ (n : ℕ). (mask_at ms i).0 == n) b.0 ∙ s in
    t (mask_at ms i).1 (mask_at ms j).1 (sym (width_at _ ms j w there)) (is_low _ _ _ a) (is_low _ _ _ b) differ f
