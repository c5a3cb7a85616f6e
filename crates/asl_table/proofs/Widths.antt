-- The masks of each table have its width, which is within the limit.
use Rattle.std.proofs.Common.{◌≡◌, ◌≤◌, ℕ, Bool, true, false, cond, List, [], ◌∷◌, ◌++◌, length, map, refl, sym, subst, arith}
use Rattle.std.specs.Prelude.{◌&&◌, ◌==◌, nat_le, All}
use Rattle.std.specs.List.{AllByRecursion}
use Rattle.std.proofs.lemmas.Bool.Decides.{nat_tests}
use Rattle.std.proofs.lemmas.List.Elements.{All-nil, All-cons}
use Rattle.asl_syn.specs.declared.read.ReadDecl.{ReadDecl}
use Rattle.asl_bits.specs.declared.TheConstants.{WIDTH_LIMIT}
use Rattle.asl_rules.specs.report.MaskTables as rules
use Rattle.asl_rules.specs.report.MaskTables.{Masks, MaskCase, Cases, width_in, are_wide, is_even, is_narrow, table_of, tables_from, tables_of, cases_of, digits_in}
use Rattle.asl_table.specs.declared.table.MaskTable.{MaskTable}
use Rattle.asl_table.specs.View.{table_view, HasWidth}
use Rattle.asl_table.specs.Widths.{AreWide}

abbrev IsWide : rules.MaskTable → Type 0
IsWide x = (x.width ≤ WIDTH_LIMIT) × AreWide x.width (digits_in x.masks)

and_parts : (a b : Bool) → (a && b) ≡ true → (a ≡ true) × (b ≡ true)
and_parts true b h = (refl, h)
and_parts false b h = absurd cc

same_width : (m n : ℕ) → (m == n) ≡ true → m ≡ n
same_width m n h = grind (arith, nat_tests)

within_limit : (n : ℕ) → nat_le n WIDTH_LIMIT ≡ true → n ≤ WIDTH_LIMIT
within_limit n h = grind (arith, nat_tests)

all_of_width : (w : ℕ) (ms : Masks) → are_wide w ms ≡ true → AreWide w (digits_in ms)
all_of_width w [] h = tt
all_of_width w ((n, m) ∷ ms) h =
    let parts = and_parts (length m == w) (are_wide w ms) h in (same_width (length m) w parts.0, all_of_width w ms parts.1)

table_wide : (c : MaskCase) → AllByRecursion IsWide (table_of c)
table_wide c = by (is_even c.masks) (is_narrow c.masks) refl refl
  where
    by : (p q : Bool) → is_even c.masks ≡ p → is_narrow c.masks ≡ q →
        AllByRecursion IsWide (cond (p && q) (record { span = c.span; width = width_in c.masks; masks = c.masks } ∷ []) [])
    by true true e k = ((within_limit (width_in c.masks) k, all_of_width (width_in c.masks) c.masks e), tt)
    by true false e k = tt
    by false q e k = tt

append_wide : (xs ys : List rules.MaskTable) → AllByRecursion IsWide xs → AllByRecursion IsWide ys → AllByRecursion IsWide (xs ++ ys)
append_wide [] ys h k = k
append_wide (x ∷ xs) ys h k = (h.0, append_wide xs ys h.1 k)

tables_wide : (cs : Cases) → AllByRecursion IsWide (tables_from cs)
tables_wide [] = tt
tables_wide (c ∷ cs) = append_wide (table_of c) (tables_from cs) (table_wide c) (tables_wide cs)

seen : (ts : List MaskTable) → AllByRecursion IsWide (map table_view ts) → All HasWidth ts
seen [] h = All-nil HasWidth
seen (t ∷ ts) h = All-cons HasWidth t ts h.0 (seen ts h.1)

pub all_wide : (ts : List MaskTable) (found : List rules.MaskTable) (ds : List ReadDecl) → map table_view ts ≡ found → found ≡ tables_from (cases_of ds) →
    All HasWidth ts
all_wide ts found ds h k = seen ts (subst (AllByRecursion IsWide) (sym h) (subst (AllByRecursion IsWide) (sym k) (tables_wide (cases_of ds))))
