-- The lines of tables of masks, one behind another.
use Rattle.std.proofs.Common.{◌≡◌, ◌∙◌, ℕ, zero, suc, ◌+◌, ◌-◌, ◌<◌, Bool, List, [], ◌∷◌, ◌++◌, length, get_or, take, drop, map, Option, Some, None, refl, sym, ap, ap₂, subst, arith, append_assoc}
use Rattle.std.specs.Prelude.{slice_get, reverse}
use Rattle.std.proofs.lemmas.List.{length-map, reverse-append}
use Rattle.std.proofs.Math.Seq.{drop-cons}
use Rattle.asl_syn.specs.declared.read.ReadDecl.{ReadDecl}
use Rattle.asl_mask.specs.Covers.{Digits}
use Rattle.asl_rules.specs.report.Texts.{Text, File, digit}
use Rattle.asl_rules.specs.report.MaskTables.{Masks, all_pairs, cases_line, digits_in, masks_text, pair_line, pairs_with, table_text, tables_of, tables_text}
use Rattle.asl_table.specs.Pairs.{mask_at, IsNext}
use Rattle.asl_table.specs.Widths.{AreWide}
use Rattle.asl_table.specs.View.{table_view}
use Rattle.asl_value.proofs.Fronts.{TakesFront, none_taken}
use Rattle.asl_table.specs.declared.table.MaskTable.{MaskTable}

-- ---- words

-- the digits of bits, the highest first
abbrev pub digits_of : List Bool → Text
digits_of bs = map digit (reverse bs)

take_more : (bs : List Bool) (k : ℕ) (x : Bool) → slice_get bs k ≡ Some x → take (suc k) bs ≡ take k bs ++ x ∷ []
take_more [] k x h = cc
take_more (b ∷ bs) zero x h = cc
take_more (b ∷ bs) (suc k) x h = ap (λ l. b ∷ l) (take_more bs k x h)

take_whole : (bs : List Bool) → take (length bs) bs ≡ bs
take_whole [] = refl
take_whole (b ∷ bs) = ap (λ l. b ∷ l) (take_whole bs)

digits_more : (bs : List Bool) (i : ℕ) (x : Bool) → i < length bs → slice_get bs (length bs - 1 - i) ≡ Some x →
    digits_of (take (length bs - i) bs) ≡ digit x ∷ digits_of (take (length bs - (i + 1)) bs)
digits_more bs i x h at =
    let here : length bs - i ≡ suc (length bs - 1 - i) = omega arith in
    let left : length bs - 1 - i ≡ length bs - (i + 1) = omega arith in
    ap (λ n. digits_of (take n bs)) here ∙ ap digits_of (take_more bs (length bs - 1 - i) x at)
    ∙ ap (map digit) (reverse-append (take (length bs - 1 - i) bs) (x ∷ []))
    ∙ ap (λ n. digit x ∷ digits_of (take n bs)) left

pub no_digit : (text : Text) (bs : List Bool) → text ++ digits_of (take (length bs - 0) bs) ≡ text ++ digits_of bs
no_digit text bs =
    let all : length bs - 0 ≡ length bs = omega arith in
    ap (λ l. text ++ digits_of l) (ap (λ n. take n bs) all ∙ take_whole bs)

pub one_digit : (text before : Text) (bs : List Bool) (i : ℕ) (x : Bool) → i < length bs → slice_get bs (length bs - 1 - i) ≡ Some x →
    before ++ digits_of (take (length bs - i) bs) ≡ text → (before ++ digit x ∷ []) ++ digits_of (take (length bs - (i + 1)) bs) ≡ text
one_digit text before bs i x h at is =
    append_assoc before (digit x ∷ []) (digits_of (take (length bs - (i + 1)) bs))
    ∙ ap (λ t. before ++ t) (sym (digits_more bs i x h at))
    ∙ is

-- ---- masks

pub wide_at : (w : ℕ) (ms : Masks) (i : ℕ) → AreWide w (digits_in ms) → i < length ms → length (mask_at ms i).1 ≡ w
wide_at w [] i wide within = absurd (omega (arith, within))
wide_at w ((n, m) ∷ ms) zero wide within = wide.0
wide_at w ((n, m) ∷ ms) (suc i) wide within = wide_at w ms i wide.1 (omega (arith, within))

pub wide_as : (w : ℕ) (ms : Masks) (i : ℕ) → AreWide w (digits_in ms) → i < length ms → AreWide (length (mask_at ms i).1) (digits_in ms)
wide_as w ms i wide within = subst (λ n. AreWide n (digits_in ms)) (sym (wide_at w ms i wide within)) wide

-- the pairs from a mask on: those of this mask, and those behind
pub pairs_at : (w : ℕ) (ms : Masks) (i : ℕ) → AreWide w (digits_in ms) → i < length ms →
    all_pairs w (suc i) (drop i ms)
    ≡ pairs_with (length (mask_at ms i).1) (suc i) (suc (suc i)) (mask_at ms i) (drop (suc i) ms) ++ all_pairs w (suc (i + 1)) (drop (i + 1) ms)
pairs_at w ms i wide within =
    let up : suc i ≡ i + 1 = omega arith in
    ap (all_pairs w (suc i)) (drop-cons ms i (0, []) within)
    ∙ ap₂ (λ n k. pairs_with n (suc i) (suc (suc i)) (mask_at ms i) (drop (suc i) ms) ++ all_pairs w (suc k) (drop k ms))
    (sym (wide_at w ms i wide within)) up

-- the pairs of a mask from another on: none is left, or the next and those behind
abbrev pub pairs_from : ℕ → ℕ → ℕ × Digits → Masks → ℕ → Text
pairs_from w i a ms from = pairs_with w (suc i) (suc from) a (drop from ms)

pub no_pair : (o : Option (List ℕ)) (w i : ℕ) (a : ℕ × Digits) (ms : Masks) → TakesFront o o (pairs_from w i a ms (suc i)) (pairs_from w i a ms (i + 1))
no_pair o w i a ms =
    let up : suc i ≡ i + 1 = omega arith in
    subst (λ n. TakesFront o o (pairs_from w i a ms (suc i)) (pairs_from w i a ms n)) up (none_taken o (pairs_from w i a ms (suc i)))

pub next_is : (w i : ℕ) (a : ℕ × Digits) (ms : Masks) (from k : ℕ) (v : List Bool) → IsNext w (suc i) a ms from (Some (k, v)) →
    pairs_from w i a ms from ≡ pair_line (i + 1) (k + 1) (Some v) ++ pairs_from w i a ms (k + 1)
next_is w i a ms from k v next =
    let own : suc i ≡ i + 1 = omega arith in
    let other : suc k ≡ k + 1 = omega arith in
    next.2 ∙ ap₂ (λ m n. pair_line m n (Some v) ++ pairs_from w i a ms n) own other

-- ---- tables

pub tables_at : (files : List File) (budget : ℕ) (ts : List MaskTable) (i : ℕ) (t : MaskTable) → i < length ts → t ≡ get_or ts i t →
    tables_text files budget (map table_view (drop i ts))
    ≡ table_text files budget (table_view t) ++ tables_text files budget (map table_view (drop (i + 1) ts))
tables_at files budget ts i t within here =
    let up : suc i ≡ i + 1 = omega arith in
    ap (λ xs. tables_text files budget (map table_view xs))
    (drop-cons ts i t within ∙ ap (λ n. get_or ts i t ∷ drop n ts) up ∙ ap (λ x. x ∷ drop (i + 1) ts) (sym here))

-- the lines of the tables of declarations
pub masks_written : (files : List File) (budget : ℕ) (ts : List MaskTable) (ds : List ReadDecl) → map table_view ts ≡ tables_of ds →
    tables_text files budget (map table_view ts) ++ cases_line (length ts) ≡ masks_text files budget ds
masks_written files budget ts ds is =
    ap (λ n. tables_text files budget (map table_view ts) ++ cases_line n) (sym (length-map ts table_view))
    ∙ ap (λ xs. tables_text files budget xs ++ cases_line (length xs)) is
