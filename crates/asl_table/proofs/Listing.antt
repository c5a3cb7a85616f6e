-- The loops that make lists of masks: one more turn.
use Rattle.std.proofs.Common.{◌≡◌, ℕ, suc, ◌+◌, ◌<◌, ◌≤◌, List, [], ◌∷◌, ◌++◌, length, drop, get_or, Bool, true, false, cond, refl, sym, ◌∙◌, ap, subst, arith, append_assoc, drop-cons}
use Rattle.std.specs.Prelude.{Some, None}
use Rattle.asl_rules.specs.report.MaskTables.{Masks, digits_in}
use Rattle.asl_table.specs.declared.live.Live.{Live}
use Rattle.asl_mask.specs.Covers.{Digits, allows, allowing}
use Rattle.asl_table.specs.private.Listed.{top_fixed, masks_of, half_of, IsLive, AreLive}
use Rattle.asl_table.specs.Widths.{AreWide}
use Rattle.asl_table.proofs.Splitting.{front, masks_more, live_more}

mask_front : (ms : List Digits) (i : ℕ) (m : Digits) → i < length ms → m ≡ get_or ms i m → drop i ms ≡ m ∷ drop (i + 1) ms
mask_front ms i m h e = drop-cons ms i m h ∙ ap (λ (x : Digits). x ∷ drop (suc i) ms) (sym e) ∙ ap (λ (n : ℕ). m ∷ drop n ms) (let p : suc i ≡ i + 1 = omega arith in p)

table_front : (ms : Masks) (i : ℕ) (x : ℕ × Digits) → i < length ms → x ≡ get_or ms i x → drop i ms ≡ x ∷ drop (i + 1) ms
table_front ms i x h e = drop-cons ms i x h ∙ ap (λ (y : ℕ × Digits). y ∷ drop (suc i) ms) (sym e) ∙ ap (λ (n : ℕ). x ∷ drop n ms) (let p : suc i ≡ i + 1 = omega arith in p)

-- ---- all masks

pub all_more : (w i : ℕ) (ls new : List Live) (l : Live) (ms : List Digits) (m : Digits) → new ≡ ls ++ l ∷ [] → i < length ms →
    m ≡ get_or ms i m → l.mask.now ≡ m → l.top ≡ top_fixed w m →
    (masks_of ls ++ drop i ms ≡ ms) × (AreLive w ls × AreWide w (drop i ms)) →
    (masks_of new ++ drop (i + 1) ms ≡ ms) × (AreLive w new × AreWide w (drop (i + 1) ms))
all_more w i ls new l ms m n k e s t h =
    let next : drop i ms ≡ m ∷ drop (i + 1) ms = mask_front ms i m k e in
    let wide : AreWide w (m ∷ drop (i + 1) ms) = subst (AreWide w) next h.1.1 in
    let size : length l.mask.now ≡ w = ap length s ∙ wide.0 in
    let live : IsLive w l = (t ∙ ap (top_fixed w) (sym s), omega (arith, size)) in (
      ap (λ (x : List Live). masks_of x ++ drop (i + 1) ms) n
          ∙ ap (λ (x : List Digits). x ++ drop (i + 1) ms) (masks_more ls l)
          ∙ append_assoc (masks_of ls) (l.mask.now ∷ []) (drop (i + 1) ms)
          ∙ ap (λ (x : Digits). masks_of ls ++ x ∷ drop (i + 1) ms) s
          ∙ ap (λ (x : List Digits). masks_of ls ++ x) (sym next)
          ∙ h.0,
      (subst (AreLive w) (sym n) (live_more w ls l h.1.0 live), wide.1),
    )

-- those of a table
pub width_front : (w i : ℕ) (ms : Masks) (x : ℕ × Digits) → i < length ms → x ≡ get_or ms i x → AreWide w (digits_in (drop i ms)) →
    w ≤ length x.1
width_front w i ms x k e h =
    let wide : AreWide w (x.1 ∷ digits_in (drop (i + 1) ms)) = subst (AreWide w) (ap digits_in (table_front ms i x k e)) h in
    omega (arith, wide.0)

pub table_more : (w i : ℕ) (ls new : List Live) (l : Live) (ms : Masks) (x : ℕ × Digits) → new ≡ ls ++ l ∷ [] → i < length ms →
    x ≡ get_or ms i x → l.mask.now ≡ x.1 → l.top ≡ top_fixed w x.1 →
    (masks_of ls ++ digits_in (drop i ms) ≡ digits_in ms) × (AreLive w ls × AreWide w (digits_in (drop i ms))) →
    (masks_of new ++ digits_in (drop (i + 1) ms) ≡ digits_in ms) × (AreLive w new × AreWide w (digits_in (drop (i + 1) ms)))
table_more w i ls new l ms x n k e s t h =
    let next : digits_in (drop i ms) ≡ x.1 ∷ digits_in (drop (i + 1) ms) = ap digits_in (table_front ms i x k e) in
    let wide : AreWide w (x.1 ∷ digits_in (drop (i + 1) ms)) = subst (AreWide w) next h.1.1 in
    let size : length l.mask.now ≡ w = ap length s ∙ wide.0 in
    let live : IsLive w l = (t ∙ ap (top_fixed w) (sym s), omega (arith, size)) in (
      ap (λ (y : List Live). masks_of y ++ digits_in (drop (i + 1) ms)) n
          ∙ ap (λ (y : List Digits). y ++ digits_in (drop (i + 1) ms)) (masks_more ls l)
          ∙ append_assoc (masks_of ls) (l.mask.now ∷ []) (digits_in (drop (i + 1) ms))
          ∙ ap (λ (y : Digits). masks_of ls ++ y ∷ digits_in (drop (i + 1) ms)) s
          ∙ ap (λ (y : List Digits). masks_of ls ++ y) (sym next)
          ∙ h.0,
      (subst (AreLive w) (sym n) (live_more w ls l h.1.0 live), wide.1),
    )

-- ---- the masks that allow a digit

abbrev pub Going : ℕ → Bool → ℕ → List Live → List Live → Type 0
Going p b i ls all = (masks_of ls ++ allowing p b (masks_of (drop i all)) ≡ allowing p b (masks_of all)) × (AreLive p ls × AreLive (suc p) (drop i all))

allowing_some : (p : ℕ) (b : Bool) (l : Live) (rest : List Live) → allows p b l.mask.now ≡ true →
    allowing p b (masks_of (l ∷ rest)) ≡ l.mask.now ∷ allowing p b (masks_of rest)
allowing_some p b l rest h = ap (λ (c : Bool). cond c (l.mask.now ∷ allowing p b (masks_of rest)) (allowing p b (masks_of rest))) h

allowing_none : (p : ℕ) (b : Bool) (l : Live) (rest : List Live) → allows p b l.mask.now ≡ false →
    allowing p b (masks_of (l ∷ rest)) ≡ allowing p b (masks_of rest)
allowing_none p b l rest h = ap (λ (c : Bool). cond c (l.mask.now ∷ allowing p b (masks_of rest)) (allowing p b (masks_of rest))) h

some_is : (c : Bool) (k l : Live) → Some k ≡ cond c (Some l) None → (c ≡ true) × (k ≡ l)
some_is true k l h = (refl, cc)
some_is false k l h = absurd cc

none_is : (c : Bool) (l : Live) → None ≡ cond c (Some l) None → c ≡ false
none_is true l h = absurd cc
none_is false l h = refl

pub going_some : (p : ℕ) (b : Bool) (i : ℕ) (ls new all : List Live) (l k : Live) → new ≡ ls ++ k ∷ [] → i < length all →
    l ≡ get_or all i l → Some k ≡ half_of p b l → Going p b i ls all → Going p b (i + 1) new all
going_some p b i ls new all l k n j e s h =
    let next : drop i all ≡ l ∷ drop (i + 1) all = front all i l j e in
    let both = some_is (allows p b l.mask.now) k (record l { top = top_fixed p l.mask.now }) s in
    let live : AreLive (suc p) (l ∷ drop (i + 1) all) = subst (AreLive (suc p)) next h.1.1 in
    let same : k.mask.now ≡ l.mask.now = ap (λ (x : Live). x.mask.now) both.1 in
    let size : length k.mask.now ≡ length l.mask.now = ap length same in
    let top : k.top ≡ top_fixed p l.mask.now = ap (λ (x : Live). x.top) both.1 in
    let fresh : IsLive p k = (top ∙ ap (top_fixed p) (sym same), omega (arith, size, live.0.1)) in (
      ap (λ (x : List Live). masks_of x ++ allowing p b (masks_of (drop (i + 1) all))) n
          ∙ ap (λ (x : List Digits). x ++ allowing p b (masks_of (drop (i + 1) all))) (masks_more ls k)
          ∙ append_assoc (masks_of ls) (k.mask.now ∷ []) (allowing p b (masks_of (drop (i + 1) all)))
          ∙ ap (λ (x : Digits). masks_of ls ++ x ∷ allowing p b (masks_of (drop (i + 1) all))) same
          ∙ ap (λ (x : List Digits). masks_of ls ++ x) (sym (allowing_some p b l (drop (i + 1) all) both.0))
          ∙ ap (λ (x : List Live). masks_of ls ++ allowing p b (masks_of x)) (sym next)
          ∙ h.0,
      (subst (AreLive p) (sym n) (live_more p ls k h.1.0 fresh), live.1),
    )

pub going_none : (p : ℕ) (b : Bool) (i : ℕ) (ls new all : List Live) (l : Live) → new ≡ ls → i < length all → l ≡ get_or all i l →
    None ≡ half_of p b l → Going p b i ls all → Going p b (i + 1) new all
going_none p b i ls new all l n j e s h =
    let next : drop i all ≡ l ∷ drop (i + 1) all = front all i l j e in
    let refused : allows p b l.mask.now ≡ false = none_is (allows p b l.mask.now) (record l { top = top_fixed p l.mask.now }) s in
    let live : AreLive (suc p) (l ∷ drop (i + 1) all) = subst (AreLive (suc p)) next h.1.1 in (
      ap (λ (x : List Live). masks_of x ++ allowing p b (masks_of (drop (i + 1) all))) n
          ∙ ap (λ (x : List Digits). masks_of ls ++ x) (sym (allowing_none p b l (drop (i + 1) all) refused))
          ∙ ap (λ (x : List Live). masks_of ls ++ allowing p b (masks_of x)) (sym next)
          ∙ h.0,
      (subst (AreLive p) (sym n) h.1.0, live.1),
    )
