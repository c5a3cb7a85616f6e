-- The masks of patterns and of alternatives, read one behind another.
use Rattle.std.proofs.Common.{◌≡◌, ℕ, suc, ◌+◌, ◌<◌, ◌≤◌, Bool, true, false, cond, List, [], ◌∷◌, ◌++◌, length, map, get_or, drop, Option, Some, None, refl, sym, ap, ◌∙◌, subst, arith, append_assoc, append-nil}
use Rattle.std.specs.Prelude.{◌&&◌, nat_le, ◌==◌}
use Rattle.std.proofs.lemmas.Bool.Decides.{nat_tests}
use Rattle.asl_syn.specs.declared.tree.Pattern.{Pattern}
use Rattle.asl_syn.specs.declared.token.Span.{Span}
use Rattle.asl_syn.specs.declared.read.ReadAlternative.{ReadAlternative}
use Rattle.asl_bits.specs.declared.TheConstants.{WIDTH_LIMIT}
use Rattle.asl_mask.specs.Covers.{Digits}
use Rattle.asl_rules.specs.report.MaskTables.{Masks, Choice, MaskCase, MaskTable, literal_of, with_literal, literals, both, unless_where, masks_from, case_with, case_at, width_in, are_wide, is_even, is_narrow, table_of, tables_from}
use Rattle.asl_table.specs.private.Narrow.{fits, narrow, all_narrow, narrowed, kept, behind}
use Rattle.asl_table.specs.private.Walk.{choice_of}
use Rattle.asl_value.proofs.Among.{at_front, none_after}

-- ---- one behind another

and_apart : (a b c : Bool) → ((a && b) && c) ≡ (a && (b && c))
and_apart true b c = refl
and_apart false b c = refl

narrow_append : (ms ns : Masks) → all_narrow (ms ++ ns) ≡ (all_narrow ms && all_narrow ns)
narrow_append [] ns = refl
narrow_append ((n, m) ∷ ms) ns = ap (λ b. fits m && b) (narrow_append ms ns) ∙ sym (and_apart (fits m) (all_narrow ms) (all_narrow ns))

both_none : (a : Option Masks) → both a None ≡ None
both_none None = refl
both_none (Some ms) = refl

narrowed_both : (a b : Option Masks) → narrowed (both a b) ≡ both (narrowed a) (narrowed b)
narrowed_both None b = refl
narrowed_both (Some ms) None = sym (both_none (narrowed (Some ms)))
narrowed_both (Some ms) (Some ns) = ap (λ c. cond c (Some (ms ++ ns)) None) (narrow_append ms ns) ∙ by (all_narrow ms) (all_narrow ns)
  where
    by : (b c : Bool) → cond (b && c) (Some (ms ++ ns)) None ≡ both (cond b (Some ms) None) (cond c (Some ns) None)
    by true true = refl
    by true false = refl
    by false c = refl

behind_both : (old new : Masks) (a b : Option Masks) → Some new ≡ behind old a → behind new b ≡ behind old (both a b)
behind_both old new None b h = absurd cc
behind_both old new (Some ms) None h = refl
behind_both old new (Some ms) (Some ns) h =
    let is : new ≡ old ++ ms = cc in ap (λ l. Some (l ++ ns)) is ∙ ap Some (append_assoc old ms ns)

behind_neither : (old : Masks) (a b : Option Masks) → None ≡ behind old a → None ≡ behind old (both a b)
behind_neither old None b h = refl
behind_neither old (Some ms) b h = absurd cc

-- ---- patterns

literals_first : (n : ℕ) (p : Pattern) (ps : List Pattern) → literals n (p ∷ ps) ≡ both (literals n (p ∷ [])) (literals n ps)
literals_first n p ps = by (literal_of p) (literals n ps)
  where
    by : (o : Option Digits) (r : Option Masks) → with_literal n o r ≡ both (with_literal n o (Some [])) r
    by None r = refl
    by (Some m) None = refl
    by (Some m) (Some ms) = refl

-- these, with those of the patterns left, are those of all patterns
abbrev pub PatternsRead : ℕ → List Pattern → ℕ → Masks → Masks → Type 0
PatternsRead n ps i old made = behind made (narrowed (literals n (drop i ps))) ≡ behind old (narrowed (literals n ps))

pub no_patterns : (n : ℕ) (ps : List Pattern) (old : Masks) → PatternsRead n ps 0 old old
no_patterns n ps old = refl

first_pattern : (n : ℕ) (ps : List Pattern) (i : ℕ) (p : Pattern) → i < length ps → p ≡ get_or ps i p →
    narrowed (literals n (drop i ps)) ≡ both (narrowed (literals n (p ∷ []))) (narrowed (literals n (drop (i + 1) ps)))
first_pattern n ps i p within here =
    ap (λ l. narrowed (literals n l)) (at_front ps i p within here) ∙ ap narrowed (literals_first n p (drop (i + 1) ps))
    ∙ narrowed_both (literals n (p ∷ [])) (literals n (drop (i + 1) ps))

pub one_pattern : (n : ℕ) (ps : List Pattern) (i : ℕ) (p : Pattern) (old made new : Masks) → i < length ps → p ≡ get_or ps i p →
    kept true new ≡ behind made (narrowed (literals n (p ∷ []))) → PatternsRead n ps i old made → PatternsRead n ps (i + 1) old new
one_pattern n ps i p old made new within here e h =
    behind_both made new (narrowed (literals n (p ∷ []))) (narrowed (literals n (drop (i + 1) ps))) e
    ∙ ap (behind made) (sym (first_pattern n ps i p within here)) ∙ h

pub other_pattern : (n : ℕ) (ps : List Pattern) (i : ℕ) (p : Pattern) (old made new : Masks) → i < length ps → p ≡ get_or ps i p →
    kept false new ≡ behind made (narrowed (literals n (p ∷ []))) → PatternsRead n ps i old made → kept false new ≡ behind old (narrowed (literals n ps))
other_pattern n ps i p old made new within here e h =
    behind_neither made (narrowed (literals n (p ∷ []))) (narrowed (literals n (drop (i + 1) ps))) e
    ∙ ap (behind made) (sym (first_pattern n ps i p within here)) ∙ h

pub all_patterns : (n : ℕ) (ps : List Pattern) (i : ℕ) (old made : Masks) → length ps ≤ i → PatternsRead n ps i old made →
    kept true made ≡ behind old (narrowed (literals n ps))
all_patterns n ps i old made past h =
    ap Some (sym (append-nil made)) ∙ ap (λ l. behind made (narrowed (literals n l))) (sym (none_after ps i past)) ∙ h

-- ---- a single pattern

pub no_literal : (n : ℕ) (p : Pattern) (old new : Masks) → None ≡ literal_of p → kept false new ≡ behind old (narrowed (literals n (p ∷ [])))
no_literal n p old new e = ap (λ o. behind old (narrowed (with_literal n o (Some [])))) e

pub wide_literal : (n : ℕ) (p : Pattern) (m : Digits) (old new : Masks) → Some m ≡ literal_of p → None ≡ narrow m →
    kept false new ≡ behind old (narrowed (literals n (p ∷ [])))
wide_literal n p m old new e w = by (fits m) refl ∙ ap (λ o. behind old (narrowed (with_literal n o (Some [])))) e
  where
    by : (b : Bool) → fits m ≡ b → kept false new ≡ behind old (narrowed (Some ((n, m) ∷ [])))
    by true h = absurd (let k : narrow m ≡ Some m = rw h refl in cc)
    by false h = rw h refl

pub one_literal : (n : ℕ) (p : Pattern) (m mask : Digits) (old new : Masks) → Some m ≡ literal_of p → Some mask ≡ narrow m → new ≡ old ++ (n, mask) ∷ [] →
    kept true new ≡ behind old (narrowed (literals n (p ∷ [])))
one_literal n p m mask old new e w grown = by (fits m) refl ∙ ap (λ o. behind old (narrowed (with_literal n o (Some [])))) e
  where
    by : (b : Bool) → fits m ≡ b → kept true new ≡ behind old (narrowed (Some ((n, m) ∷ [])))
    by true h =
        let k : narrow m ≡ Some m = rw h refl in
        let is : mask ≡ m = cc in
        rw h (ap Some (grown ∙ ap (λ d. old ++ (n, d) ∷ []) is))
    by false h = absurd (let k : narrow m ≡ None = rw h refl in cc)

-- ---- alternatives

abbrev of_choice : ℕ → Choice → Option Masks
of_choice n c = unless_where c.condition (literals n c.patterns)

-- these, with those of the alternatives left, are those of all
abbrev pub AlternativesRead : List ReadAlternative → ℕ → Masks → Masks → Type 0
AlternativesRead xs i old made =
    behind made (narrowed (masks_from i (map choice_of (drop i xs)))) ≡ behind old (narrowed (masks_from 0 (map choice_of xs)))

pub no_alternatives : (xs : List ReadAlternative) (old : Masks) → AlternativesRead xs 0 old old
no_alternatives xs old = refl

first_alternative : (xs : List ReadAlternative) (i : ℕ) (x : ReadAlternative) → i < length xs → x ≡ get_or xs i x →
    narrowed (masks_from i (map choice_of (drop i xs)))
    ≡ both (narrowed (of_choice i (choice_of x))) (narrowed (masks_from (i + 1) (map choice_of (drop (i + 1) xs))))
first_alternative xs i x within here =
    let up : suc i ≡ i + 1 = omega arith in
    ap (λ l. narrowed (masks_from i (map choice_of l))) (at_front xs i x within here)
    ∙ ap (λ n. narrowed (both (of_choice i (choice_of x)) (masks_from n (map choice_of (drop (i + 1) xs))))) up
    ∙ narrowed_both (of_choice i (choice_of x)) (masks_from (i + 1) (map choice_of (drop (i + 1) xs)))

pub one_alternative : (xs : List ReadAlternative) (i : ℕ) (x : ReadAlternative) (old made new : Masks) → i < length xs → x ≡ get_or xs i x →
    kept true new ≡ behind made (narrowed (unless_where (choice_of x).condition (literals i (choice_of x).patterns))) →
    AlternativesRead xs i old made → AlternativesRead xs (i + 1) old new
one_alternative xs i x old made new within here e h =
    behind_both made new (narrowed (of_choice i (choice_of x))) (narrowed (masks_from (i + 1) (map choice_of (drop (i + 1) xs)))) e
    ∙ ap (behind made) (sym (first_alternative xs i x within here)) ∙ h

pub other_alternative : (xs : List ReadAlternative) (i : ℕ) (x : ReadAlternative) (old made new : Masks) → i < length xs → x ≡ get_or xs i x →
    kept false new ≡ behind made (narrowed (unless_where (choice_of x).condition (literals i (choice_of x).patterns))) →
    AlternativesRead xs i old made → kept false new ≡ behind old (narrowed (masks_from 0 (map choice_of xs)))
other_alternative xs i x old made new within here e h =
    behind_neither made (narrowed (of_choice i (choice_of x))) (narrowed (masks_from (i + 1) (map choice_of (drop (i + 1) xs)))) e
    ∙ ap (behind made) (sym (first_alternative xs i x within here)) ∙ h

pub all_alternatives : (xs : List ReadAlternative) (i : ℕ) (old made : Masks) → length xs ≤ i → AlternativesRead xs i old made →
    kept true made ≡ behind old (narrowed (masks_from 0 (map choice_of xs)))
all_alternatives xs i old made past h =
    ap Some (sym (append-nil made)) ∙ ap (λ l. behind made (narrowed (masks_from i (map choice_of l)))) (sym (none_after xs i past)) ∙ h

-- ---- the table of a `case`

abbrev case_of : Span → Masks → MaskCase
case_of span ms = record { span = span; masks = ms }

and_parts : (a b : Bool) → (a && b) ≡ true → (a ≡ true) × (b ≡ true)
and_parts true b h = (refl, h)
and_parts false b h = absurd cc

-- masks of a width within the limit are
even_narrow : (w : ℕ) (ms : Masks) → nat_le w WIDTH_LIMIT ≡ true → are_wide w ms ≡ true → all_narrow ms ≡ true
even_narrow w [] h k = refl
even_narrow w ((n, m) ∷ ms) h k =
    let parts = and_parts (length m == w) (are_wide w ms) k in
    let is : length m ≡ w = (let e = parts.0 in grind (arith, nat_tests)) in
    let short : fits m ≡ true = subst (λ l. nat_le l WIDTH_LIMIT ≡ true) (sym is) h in
    rw short (even_narrow w ms h parts.1)

wide_table : (span : Span) (ms : Masks) → all_narrow ms ≡ false → [] ≡ table_of (case_of span ms)
wide_table span ms h = by (is_even ms) (is_narrow ms) refl refl
  where
    by : (b c : Bool) → is_even ms ≡ b → is_narrow ms ≡ c →
        ◌≡◌ {A = List MaskTable} [] (cond (b && c) (record { span = span; width = width_in ms; masks = ms } ∷ []) [])
    by true true e k = absurd (let narrow = even_narrow (width_in ms) ms k e in cc)
    by true false e k = refl
    by false c e k = refl

-- what `case_at` is where there is an alternative
table_case : (span : Span) (o : Option Masks) (ms : Masks) → Some ms ≡ narrowed o → table_of (case_of span ms) ≡ tables_from (case_with span o)
table_case span None ms h = absurd cc
table_case span (Some ns) ms h = by (all_narrow ns) refl
  where
    by : (b : Bool) → all_narrow ns ≡ b → table_of (case_of span ms) ≡ tables_from (case_with span (Some ns))
    by true e =
        let is : ms ≡ ns = (let k : narrowed (Some ns) ≡ Some ns = rw e refl in cc) in
        ap (λ l. table_of (case_of span l)) is ∙ sym (append-nil (table_of (case_of span ns)))
    by false e = absurd (let k : narrowed (Some ns) ≡ None = rw e refl in cc)

no_table_case : (span : Span) (o : Option Masks) → None ≡ narrowed o → [] ≡ tables_from (case_with span o)
no_table_case span None h = refl
no_table_case span (Some ns) h = by (all_narrow ns) refl
  where
    by : (b : Bool) → all_narrow ns ≡ b → [] ≡ tables_from (case_with span (Some ns))
    by true e = absurd (let k : narrowed (Some ns) ≡ Some ns = rw e refl in cc)
    by false e = wide_table span ns e ∙ sym (append-nil (table_of (case_of span ns)))

behind_nothing : (o : Option Masks) → behind [] o ≡ o
behind_nothing None = refl
behind_nothing (Some ms) = refl

pub some_case : (span : Span) (xs : List ReadAlternative) (ms : Masks) → (length xs ≡ 0 → ⊥) →
    kept true ms ≡ behind [] (narrowed (masks_from 0 (map choice_of xs))) → table_of (case_of span ms) ≡ tables_from (case_at span (map choice_of xs))
some_case span [] ms n h = absurd (n refl)
some_case span (x ∷ xs) ms n h =
    table_case span (masks_from 0 (map choice_of (x ∷ xs))) ms (h ∙ behind_nothing (narrowed (masks_from 0 (map choice_of (x ∷ xs)))))

pub no_case : (span : Span) (xs : List ReadAlternative) (ms : Masks) → kept false ms ≡ behind [] (narrowed (masks_from 0 (map choice_of xs))) →
    [] ≡ tables_from (case_at span (map choice_of xs))
no_case span [] ms h = refl
no_case span (x ∷ xs) ms h =
    no_table_case span (masks_from 0 (map choice_of (x ∷ xs))) (h ∙ behind_nothing (narrowed (masks_from 0 (map choice_of (x ∷ xs)))))

pub no_case_added : (old : List MaskTable) (span : Span) (xs : List ReadAlternative) (start ms : Masks) (b : Bool) → b ≡ false → start ≡ [] →
    kept b ms ≡ behind start (narrowed (masks_from 0 (map choice_of xs))) → old ≡ old ++ tables_from (case_at span (map choice_of xs))
no_case_added old span xs start ms b e s h =
    let at_start : kept b ms ≡ behind [] (narrowed (masks_from 0 (map choice_of xs))) =
    subst (λ l. kept b ms ≡ behind l (narrowed (masks_from 0 (map choice_of xs)))) s h in
    let none : kept false ms ≡ behind [] (narrowed (masks_from 0 (map choice_of xs))) =
    subst (λ d. kept d ms ≡ behind [] (narrowed (masks_from 0 (map choice_of xs)))) e at_start in
    sym (append-nil old) ∙ ap (λ l. old ++ l) (no_case span xs ms none)

-- ---- the masks that the code has

pub within : (m : Digits) → length m ≤ WIDTH_LIMIT → Some m ≡ narrow m
within m h = let short : fits m ≡ true = grind (arith, nat_tests) in rw short refl

pub past : (m : Digits) → WIDTH_LIMIT < length m → None ≡ narrow m
past m h = let wide : fits m ≡ false = grind (arith, nat_tests) in rw wide refl
