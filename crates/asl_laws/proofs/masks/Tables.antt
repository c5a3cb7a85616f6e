-- The tables of masks are those of the `case`s whose masks have one width, and each has masks of its width.
use Rattle.std.proofs.Common.{◌≡◌, ℕ, ◌≤◌, le_trans, Bool, true, false, ◌&&◌, if◌then◌else◌, List, [], ◌∷◌, ◌++◌, map, length, All, Ok, refl, ◌∙◌, ap}
use Rattle.std.specs.Prelude.{◌==◌}
use Rattle.std.specs.List.{AllByRecursion}
use Rattle.std.proofs.lemmas.List.Elements.{All-from_recursion, All-weaker}
use Rattle.std.proofs.lemmas.Bool.{le-leb}
use Rattle.asl_syn.specs.declared.read.ReadDecl.{ReadDecl}
use Rattle.asl_grammar.specs.lexemes.Refusals.{max_width}
use Rattle.asl_mask.specs.Covers.{Digits}
use Rattle.asl_rules.specs.declared.entry.Entry.{Entry}
use Rattle.asl_rules.specs.Tests.{Tests, IsRight}
use Rattle.asl_rules.specs.declarations.Programs.{Accepted, read_verdict}
use Rattle.asl_rules.specs.report.MaskTables.{Masks, MaskCase, Cases, MaskTable, is_even, is_narrow, are_wide, width_in, table_of, tables_from, tables_of, cases_of, digits_in}
use Rattle.asl_rules.proofs.basics.Tests.{no, both, and_true}
use Rattle.asl_rules.proofs.values.SameKind.{same_number}
use Rattle.asl_laws.proofs.basics.Lists.{AllOf}
use Rattle.asl_laws.specs.Masks.{AllWide, case_of_table}
use Rattle.asl_laws.proofs.masks.CaseWidths.{CaseEven, AllEven}
use Rattle.asl_laws.proofs.certificates.Sites.{all_append}
use Rattle.asl_laws.proofs.masks.BodyWidths.{cases_even}

by_recursion : {A : Type 0} (P : A → Type 0) (xs : List A) → AllOf P xs → AllByRecursion P xs
by_recursion P [] h = tt
by_recursion P (x ∷ xs) h = (h.0, by_recursion P xs h.1)

all_of : {A : Type 0} (P : A → Type 0) (xs : List A) → AllOf P xs → All P xs
all_of P xs h = All-from_recursion P xs (by_recursion P xs h)

module _ (t : Tests) (right : IsRight t) (e : Entry) (ds : List ReadDecl) (a : Accepted) (h : read_verdict e ds t ≡ Ok a) where
  all_cases : All (CaseEven t) (cases_of ds)
  all_cases = all_of (CaseEven t) (cases_of ds) (cases_even t right e ds a h)

  pub each_even : All (λ (c : MaskCase). is_even c.masks ≡ true) (cases_of ds)
  each_even = All-weaker (CaseEven t) (λ (c : MaskCase). is_even c.masks ≡ true) (λ c k. k.even) (cases_of ds) all_cases

  pub each_within : All (λ (c : MaskCase). width_in c.masks ≤ t.limit) (cases_of ds)
  each_within = All-weaker (CaseEven t) (λ (c : MaskCase). width_in c.masks ≤ t.limit) (λ c k. k.within) (cases_of ds) all_cases

-- ---- no `case` is left out

one_table : (b : Bool) (c : MaskCase) (xs : List MaskTable) → b ≡ true →
    map case_of_table ((if b then record { span = c.span; width = width_in c.masks; masks = c.masks } ∷ [] else []) ++ xs)
    ≡ c ∷ map case_of_table xs
one_table true c xs h = refl
one_table false c xs h = no h

all_tables : (t : Tests) (cs : Cases) → t.limit ≤ max_width → AllEven t cs → map case_of_table (tables_from cs) ≡ cs
all_tables t [] l h = refl
all_tables t (c ∷ cs) l h =
    let narrow = le-leb (width_in c.masks) max_width (le_trans h.0.within l) in
    one_table (is_even c.masks && is_narrow c.masks) c (tables_from cs) (and_true (is_even c.masks) (is_narrow c.masks) h.0.even narrow) ∙
    ap (λ z. c ∷ z) (all_tables t cs l h.1)

pub none_left_out : (t : Tests) → IsRight t → t.limit ≤ max_width → (e : Entry) (ds : List ReadDecl) (a : Accepted) →
    read_verdict e ds t ≡ Ok a → map case_of_table (tables_of ds) ≡ cases_of ds
unfolding tables_of
none_left_out t right l e ds a h = all_tables t (cases_of ds) l (cases_even t right e ds a h)

-- ---- the width of a table

wide_digits : (w : ℕ) (ms : Masks) → are_wide w ms ≡ true → AllOf (λ (m : Digits). length m ≡ w) (digits_in ms)
wide_digits w [] h = tt
wide_digits w ((n, m) ∷ ms) h =
    let b = both (length m == w) (are_wide w ms) h in
    (same_number (length m) w b.0, wide_digits w ms b.1)

abbrev IsWide : MaskTable → Type 0
IsWide x = AllWide x.width (digits_in x.masks)

table_wide : (b : Bool) (c : MaskCase) → (b ≡ true → is_even c.masks ≡ true) →
    AllOf IsWide (if b then record { span = c.span; width = width_in c.masks; masks = c.masks } ∷ [] else [])
table_wide true c h =
    (all_of (λ (m : Digits). length m ≡ width_in c.masks) (digits_in c.masks) (wide_digits (width_in c.masks) c.masks (h refl)), tt)
table_wide false c h = tt

tables_wide : (cs : Cases) → AllOf IsWide (tables_from cs)
tables_wide [] = tt
tables_wide (c ∷ cs) =
    all_append IsWide (table_of c) (tables_from cs)
    (table_wide (is_even c.masks && is_narrow c.masks) c (λ k. (both (is_even c.masks) (is_narrow c.masks) k).0)) (tables_wide cs)

pub each_wide : (ds : List ReadDecl) → All (λ (x : MaskTable). AllWide x.width (digits_in x.masks)) (tables_of ds)
unfolding tables_of
each_wide ds = all_of IsWide (tables_from (cases_of ds)) (tables_wide (cases_of ds))
