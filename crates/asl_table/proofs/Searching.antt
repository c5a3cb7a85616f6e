-- What the search answers, from what the searches of both halves do.
use Rattle.std.proofs.Common.{◌≡◌, ℕ, suc, ◌+◌, ◌-◌, ◌<◌, ◌≤◌, List, Bool, true, false, cond, refl, sym, ◌∙◌, ap, arith}
use Rattle.std.specs.Prelude.{Option, Some, None, nat_le, option_map, is_none}
use Rattle.std.proofs.lemmas.Bool.{leb-true, leb-false, le-leb, lt-leb}
use Rattle.asl_table.specs.declared.search.Finding.TheVariants.{Budget, Total, Free}
use Rattle.asl_table.specs.declared.live.Live.{Live}
use Rattle.asl_mask.specs.Least.{or_else, on_top}
use Rattle.asl_mask.specs.Covers.{least_free, allowing, splits}
use Rattle.asl_table.specs.private.Listed.{masks_of, AreLive, highest, has_zero}
use Rattle.asl_table.specs.private.Found.{found, result_of, search_of}
use Rattle.asl_table.proofs.Free.{least_free_top}
use Rattle.asl_table.proofs.Splitting.{padded, long_masks, skipped, splits_at, is_none_of}

-- ---- numbers

abbrev pub whole : ℕ → ℕ → Option (List Bool) → ℕ
whole a b o = suc (a + cond (is_none o) b 0)

abbrev pub joined : ℕ → Option (List Bool) → Option (List Bool) → Option (List Bool)
joined k o p = option_map (padded k) (or_else (option_map (on_top false) o) (option_map (on_top true) p))

found_is : (n m : ℕ) (o : Option (List Bool)) → n ≡ m → found n o ≡ found m o
found_is n m o e = ap (λ (x : ℕ). found x o) e

within_if : (c : Bool) (n left : ℕ) (o : Option (List Bool)) → nat_le n left ≡ c → c ≡ true → result_of n left o ≡ found (left - n) o
within_if true n left o e h = ap (λ (b : Bool). cond b (found (left - n) o) Budget) e
within_if false n left o e h = absurd cc

pub within_is : (n left : ℕ) (o : Option (List Bool)) → n ≤ left → result_of n left o ≡ found (left - n) o
within_is n left o h = ap (λ (b : Bool). cond b (found (left - n) o) Budget) (le-leb n left h)

pub past_is : (n left : ℕ) (o : Option (List Bool)) → left < n → result_of n left o ≡ Budget
past_is n left o h = ap (λ (b : Bool). cond b (found (left - n) o) Budget) (lt-leb n left h)

-- what a result tells

budget_not_found : (n : ℕ) (o : Option (List Bool)) → Budget ≡ found n o → ⊥
budget_not_found n None h = cc
budget_not_found n (Some v) h = cc

past_by : (c : Bool) (n left : ℕ) (o : Option (List Bool)) → nat_le n left ≡ c → Budget ≡ cond c (found (left - n) o) Budget → left < n
past_by true n left o e h = absurd (budget_not_found (left - n) o h)
past_by false n left o e h = leb-false n left e

past_of : (n left : ℕ) (o : Option (List Bool)) → Budget ≡ result_of n left o → left < n
past_of n left o h = past_by (nat_le n left) n left o refl h

pub record IsTotal (n left m : ℕ) (o : Option (List Bool)) : Type 0 where
  pub within : n ≤ left
  pub rest : m ≡ left - n
  pub none : o ≡ None

total_found : (x m : ℕ) (o : Option (List Bool)) → Total m ≡ found x o → (m ≡ x) × (o ≡ None)
total_found x m None h = (cc, refl)
total_found x m (Some v) h = absurd cc

total_by : (c : Bool) (n left m : ℕ) (o : Option (List Bool)) → nat_le n left ≡ c → Total m ≡ cond c (found (left - n) o) Budget →
    IsTotal n left m o
total_by true n left m o e h = let f = total_found (left - n) m o h in record { within = leb-true n left e; rest = f.0; none = f.1 }
total_by false n left m o e h = absurd cc

total_of : (n left m : ℕ) (o : Option (List Bool)) → Total m ≡ result_of n left o → IsTotal n left m o
total_of n left m o h = total_by (nat_le n left) n left m o refl h

pub record IsFree (n left : ℕ) (v : List Bool) (o : Option (List Bool)) : Type 0 where
  pub within : n ≤ left
  pub some : o ≡ Some v

free_found : (x : ℕ) (v : List Bool) (o : Option (List Bool)) → Free v ≡ found x o → o ≡ Some v
free_found x v None h = absurd cc
free_found x v (Some u) h = let e : v ≡ u = cc in ap Some (sym e)

free_by : (c : Bool) (n left : ℕ) (v : List Bool) (o : Option (List Bool)) → nat_le n left ≡ c →
    Free v ≡ cond c (found (left - n) o) Budget → IsFree n left v o
free_by true n left v o e h = record { within = leb-true n left e; some = free_found (left - n) v o h }
free_by false n left v o e h = absurd cc

pub free_of : (n left : ℕ) (v : List Bool) (o : Option (List Bool)) → Free v ≡ result_of n left o → IsFree n left v o
free_of n left v o h = free_by (nat_le n left) n left v o refl h

-- the whole, from the halves

pub low_budget : (a b l : ℕ) (o q : Option (List Bool)) → Budget ≡ result_of a l o → Budget ≡ result_of (whole a b o) (suc l) q
low_budget a b l o q h =
    let past : l < a = past_of a l o h in
    sym (past_is (whole a b o) (suc l) q (omega (arith, past)))

pub low_free : (a b k l : ℕ) (v : List Bool) (o p : Option (List Bool)) → Free v ≡ result_of a l o →
    Free (padded k (on_top false v)) ≡ result_of (whole a b o) (suc l) (joined k o p)
low_free a b k l v o p h =
    let f = free_of a l v o h in
    let n : whole a b o ≡ suc (a + 0) = ap (λ (x : Option (List Bool)). whole a b x) f.some in
    let q : joined k o p ≡ Some (padded k (on_top false v)) = ap (λ (x : Option (List Bool)). joined k x p) f.some in
    sym (ap (λ (x : Option (List Bool)). result_of (whole a b o) (suc l) x) q ∙ within_is (whole a b o) (suc l) (Some (padded k (on_top false v))) (omega (arith, n, f.within)))

pub high_budget : (a b l n : ℕ) (o p q : Option (List Bool)) → Total n ≡ result_of a l o → Budget ≡ result_of b n p →
    Budget ≡ result_of (whole a b o) (suc l) q
high_budget a b l n o p q h j =
    let t = total_of a l n o h in
    let past : n < b = past_of b n p j in
    let size : whole a b o ≡ suc (a + b) = ap (λ (x : Option (List Bool)). whole a b x) t.none in
    sym (past_is (whole a b o) (suc l) q (omega (arith, size, past, t.within, t.rest)))

pub high_total : (a b k l n m : ℕ) (o p : Option (List Bool)) → Total n ≡ result_of a l o → Total m ≡ result_of b n p →
    Total m ≡ result_of (whole a b o) (suc l) (joined k o p)
high_total a b k l n m o p h j =
    let t = total_of a l n o h in
    let u = total_of b n m p j in
    let size : whole a b o ≡ suc (a + b) = ap (λ (x : Option (List Bool)). whole a b x) t.none in
    let q : joined k o p ≡ None = ap (λ (x : Option (List Bool)). joined k x p) t.none ∙ ap (λ (x : Option (List Bool)). joined k None x) u.none in
    let rest : suc l - whole a b o ≡ m = omega (arith, size, t.within, t.rest, u.within, u.rest) in
    sym (ap (λ (x : Option (List Bool)). result_of (whole a b o) (suc l) x) q
    ∙ within_is (whole a b o) (suc l) None (omega (arith, size, t.within, t.rest, u.within, u.rest)) ∙ ap Total rest)

pub high_free : (a b k l n : ℕ) (v : List Bool) (o p : Option (List Bool)) → Total n ≡ result_of a l o → Free v ≡ result_of b n p →
    Free (padded k (on_top true v)) ≡ result_of (whole a b o) (suc l) (joined k o p)
high_free a b k l n v o p h j =
    let t = total_of a l n o h in
    let u = free_of b n v p j in
    let size : whole a b o ≡ suc (a + b) = ap (λ (x : Option (List Bool)). whole a b x) t.none in
    let q : joined k o p ≡ Some (padded k (on_top true v)) = ap (λ (x : Option (List Bool)). joined k x p) t.none ∙ ap (λ (x : Option (List Bool)). joined k None x) u.some in
    sym (ap (λ (x : Option (List Bool)). result_of (whole a b o) (suc l) x) q ∙ within_is (whole a b o) (suc l) (Some (padded k (on_top true v))) (omega (arith, size, t.within, t.rest, u.within)))

-- ---- masks

-- what the search finds by the halves below its highest fixed place p
pub search_is : (w p k left : ℕ) (ls : List Live) → w ≡ k + suc p → AreLive w ls → highest ls ≡ suc p → has_zero ls ≡ false →
    is_none_of ls ≡ false →
    search_of w left (masks_of ls) ≡ result_of (whole (splits p (allowing p false (masks_of ls))) (splits p (allowing p true (masks_of ls))) (least_free p (allowing p false (masks_of ls)))) left
    (joined k (least_free p (allowing p false (masks_of ls))) (least_free p (allowing p true (masks_of ls))))
search_is w p k left ls e h t z n =
    let s = skipped k w (suc p) ls e h (omega (arith, t)) z n in
    let many = s.splits_same ∙ splits_at p ls s.live (omega (arith, t)) z n in
    let free = s.free_same ∙ ap (option_map (padded k)) (least_free_top p (masks_of ls) (long_masks (suc p) ls s.live)) in
    ap (λ (x : ℕ). result_of x left (least_free w (masks_of ls))) many
    ∙ ap (λ (o : Option (List Bool)). result_of (whole (splits p (allowing p false (masks_of ls))) (splits p (allowing p true (masks_of ls))) (least_free p (allowing p false (masks_of ls)))) left o) free
