-- Slices with the values of their expressions, read and tested one behind another.
use Rattle.std.proofs.Common.{◌≡◌, ℕ, zero, suc, ◌+◌, ◌^◌, ◌<◌, ◌≤◌, Bool, true, false, cond, List, [], ◌∷◌, ◌++◌, length, get_or, drop, map, Option, Some, None, Result, Err, refl, sym, ap, ◌∙◌, subst, arith}
use Rattle.std.specs.Prelude.{ℤ, pos, negsuc, ◌+ℤ◌, ◌-ℤ◌, ◌*ℤ◌, nat_le, option_map}
use Rattle.std.proofs.lemmas.Bool.Decides.{nat_tests}
use Rattle.asl_syn.specs.declared.token.Span.{Span}
use Rattle.asl_syn.specs.declared.code.DynCode.TheVariants.{D05}
use Rattle.asl_bits.specs.declared.TheConstants.{WIDTH_LIMIT}
use Rattle.asl_rules.specs.runs.Pures.{◌>>=◌, there}
use Rattle.asl_rules.specs.runs.Plans.{Faulted, Stuck, WrongKind, Pure, Good, Bad}
use Rattle.asl_rules.specs.types.Shapes as shapes
use Rattle.asl_rules.specs.values.Values as values
use Rattle.asl_rules.specs.values.Values.{Value}
use Rattle.asl_rules.specs.values.Vectors as rules
use Rattle.asl_rules.specs.values.Vectors.{Places, Sliced, by_one, by_two, sliced, slicings, first_slicing, ranged_width, widths_of, ends_within, places_of}
use Rattle.asl_value.specs.declared.failure.Failure.{Failure}
use Rattle.asl_value.specs.declared.failure.Failure.TheVariants as failure
use Rattle.asl_value.specs.declared.slices.SliceShape.{SliceShape}
use Rattle.asl_value.specs.declared.cuts.Slicing.{Slicing}
use Rattle.asl_value.specs.declared.cuts.Wide.{Wide}
use Rattle.asl_value.specs.private.Answers.{Is}
use Rattle.asl_value.specs.private.Cutting.{low_of, breadth_of, slicing_of, wide_of, integer_first, two_first, near, near_start, near_low, all_near, near_places}
use Rattle.asl_value.specs.View.{slice_of, all_slices}
use Rattle.asl_value.proofs.Among.{at_front, none_after}

-- what stands in a place is there whatever were given in its stead
pub same_item : {A : Type 0} (xs : List A) (i : ℕ) (d e : A) → i < length xs → get_or xs i d ≡ get_or xs i e
same_item [] i d e h = absurd (omega (arith, h))
same_item (x ∷ xs) zero d e h = refl
same_item (x ∷ xs) (suc i) d e h = same_item xs i d e (omega (arith, h))

-- ---- what is read

one_is : (xs : List Value) (f : ℤ → rules.Slicing) → by_one xs f ≡ option_map (λ (p : ℤ × List Value). record { slicing = f p.0; left = p.1 }) (integer_first xs)
one_is [] f = refl
one_is (values.int z ∷ xs) f = refl
one_is (values.bool b ∷ xs) f = refl
one_is (values.bits_with bs u ∷ xs) f = refl
one_is (values.label n l ∷ xs) f = refl
one_is (values.record_with n ys ∷ xs) f = refl
one_is (values.exception_with o s n ys ∷ xs) f = refl
one_is (values.tuple_with ys ∷ xs) f = refl
one_is (values.array_with k ys ∷ xs) f = refl

two_is : (xs : List Value) (f : ℤ → ℤ → rules.Slicing) → by_two xs f ≡ option_map (λ (t : (ℤ × ℤ) × List Value). record { slicing = f t.0.0 t.0.1; left = t.1 }) (two_first xs)
two_is [] f = refl
two_is (values.int z ∷ []) f = refl
two_is (values.int z ∷ values.int w ∷ xs) f = refl
two_is (values.int z ∷ values.bool b ∷ xs) f = refl
two_is (values.int z ∷ values.bits_with bs u ∷ xs) f = refl
two_is (values.int z ∷ values.label n l ∷ xs) f = refl
two_is (values.int z ∷ values.record_with n ys ∷ xs) f = refl
two_is (values.int z ∷ values.exception_with o s n ys ∷ xs) f = refl
two_is (values.int z ∷ values.tuple_with ys ∷ xs) f = refl
two_is (values.int z ∷ values.array_with k ys ∷ xs) f = refl
two_is (values.bool b ∷ xs) f = refl
two_is (values.bits_with bs u ∷ xs) f = refl
two_is (values.label n l ∷ xs) f = refl
two_is (values.record_with n ys ∷ xs) f = refl
two_is (values.exception_with o s n ys ∷ xs) f = refl
two_is (values.tuple_with ys ∷ xs) f = refl
two_is (values.array_with k ys ∷ xs) f = refl

by_one_from : (xs : List Value) (f : ℤ → rules.Slicing) (o : Option (ℤ × List Value)) → o ≡ integer_first xs → option_map (λ (p : ℤ × List Value). record { slicing = f p.0; left = p.1 }) o ≡ by_one xs f
by_one_from xs f o h = ap (option_map (λ (p : ℤ × List Value). record { slicing = f p.0; left = p.1 })) h ∙ sym (one_is xs f)

by_two_from : (xs : List Value) (f : ℤ → ℤ → rules.Slicing) (o : Option ((ℤ × ℤ) × List Value)) → o ≡ two_first xs → option_map (λ (t : (ℤ × ℤ) × List Value). record { slicing = f t.0.0 t.0.1; left = t.1 }) o ≡ by_two xs f
by_two_from xs f o h = ap (option_map (λ (t : (ℤ × ℤ) × List Value). record { slicing = f t.0.0 t.0.1; left = t.1 })) h ∙ sym (two_is xs f)

pub bit_some : (xs rest : List Value) (i : ℤ) → Some (i, rest) ≡ integer_first xs → Some (record { slicing = record { low = i; width = pos 1 }; left = rest }) ≡ sliced shapes.at_bit xs
bit_some xs rest i h = by_one_from xs (λ i. record { low = i; width = pos 1 }) (Some (i, rest)) h

pub bit_none : (xs : List Value) → None ≡ integer_first xs → None ≡ sliced shapes.at_bit xs
bit_none xs h = by_one_from xs (λ i. record { low = i; width = pos 1 }) None h

pub ends_some : (xs rest : List Value) (e : ℤ × ℤ) → Some (e, rest) ≡ two_first xs → Some (record { slicing = record { low = e.1; width = e.0 -ℤ e.1 +ℤ pos 1 }; left = rest }) ≡ sliced shapes.high_low xs
ends_some xs rest e h = by_two_from xs (λ h l. record { low = l; width = h -ℤ l +ℤ pos 1 }) (Some (e, rest)) h

pub ends_none : (xs : List Value) → None ≡ two_first xs → None ≡ sliced shapes.high_low xs
ends_none xs h = by_two_from xs (λ h l. record { low = l; width = h -ℤ l +ℤ pos 1 }) None h

pub low_some : (xs rest : List Value) (e : ℤ × ℤ) → Some (e, rest) ≡ two_first xs → Some (record { slicing = record { low = e.0; width = e.1 }; left = rest }) ≡ sliced shapes.low_width xs
low_some xs rest e h = by_two_from xs (λ l w. record { low = l; width = w }) (Some (e, rest)) h

pub low_none : (xs : List Value) → None ≡ two_first xs → None ≡ sliced shapes.low_width xs
low_none xs h = by_two_from xs (λ l w. record { low = l; width = w }) None h

pub factor_some : (xs rest : List Value) (e : ℤ × ℤ) → Some (e, rest) ≡ two_first xs → Some (record { slicing = record { low = e.0 *ℤ e.1; width = e.1 }; left = rest }) ≡ sliced shapes.factor_width xs
factor_some xs rest e h = by_two_from xs (λ k w. record { low = k *ℤ w; width = w }) (Some (e, rest)) h

pub factor_none : (xs : List Value) → None ≡ two_first xs → None ≡ sliced shapes.factor_width xs
factor_none xs h = by_two_from xs (λ k w. record { low = k *ℤ w; width = w }) None h

-- ---- one behind another

-- those that were made in front of others
abbrev pub in_front : {A B : Type 0} → (A → B) → List A → List B → List B
in_front view [] rest = rest
in_front view (x ∷ xs) rest = view x ∷ in_front view xs rest

grows : {A B : Type 0} (view : A → B) (made : List A) (x : A) (rest : List B) → in_front view made (view x ∷ rest) ≡ in_front view (made ++ x ∷ []) rest
grows view [] x rest = refl
grows view (y ∷ made) x rest = ap (λ l. view y ∷ l) (grows view made x rest)

alone : {A B : Type 0} (view : A → B) (made : List A) → in_front view made [] ≡ map view made
alone view [] = refl
alone view (y ∷ made) = ap (λ l. view y ∷ l) (alone view made)

as_they_are : {A : Type 0} (made : List A) → in_front (λ x. x) made [] ≡ made
as_they_are [] = refl
as_they_are (y ∷ made) = ap (λ l. y ∷ l) (as_they_are made)

abbrev pub behind : {A B : Type 0} → (A → B) → List A → Pure (List B) → Pure (List B)
behind view made r = r >>= λ rest. Good (in_front view made rest)

begins : {A B : Type 0} (view : A → B) (r : Pure (List B)) → r ≡ behind view [] r
begins view (Good xs) = refl
begins view (Bad e) = refl

behind_more : {A B : Type 0} (view : A → B) (made after : List A) (x : A) (r : Pure (List B)) → after ≡ made ++ x ∷ [] → behind view made (r >>= λ xs. Good (view x ∷ xs)) ≡ behind view after r
behind_more view made after x (Good xs) grown = ap Good (grows view made x xs ∙ ap (λ l. in_front view l xs) (sym grown))
behind_more view made after x (Bad e) grown = refl

-- ---- slices read

abbrev pub slicings_behind : List Slicing → Option (List rules.Slicing) → Option (List rules.Slicing)
slicings_behind made o = option_map (in_front slicing_of made) o

pub none_cut : (o : Option (List rules.Slicing)) → o ≡ slicings_behind [] o
none_cut None = refl
none_cut (Some cs) = refl

cut_more : (made after : List Slicing) (c : Slicing) (o : Option (List rules.Slicing)) → after ≡ made ++ c ∷ [] → slicings_behind made (option_map (λ ps. slicing_of c ∷ ps) o) ≡ slicings_behind after o
cut_more made after c None grown = refl
cut_more made after c (Some cs) grown = ap Some (grows slicing_of made c cs ∙ ap (λ l. in_front slicing_of l cs) (sym grown))

pub cut_on : (ss : List SliceShape) (i : ℕ) (s : SliceShape) (xs rest : List Value) (c : Slicing) (made after : List Slicing) (all : Option (List rules.Slicing)) → i < length ss → s ≡ get_or ss i s
    → Some (record { slicing = slicing_of c; left = rest }) ≡ sliced (slice_of s) xs → after ≡ made ++ c ∷ [] → all ≡ slicings_behind made (slicings (all_slices (drop i ss)) xs) → all ≡ slicings_behind after (slicings (all_slices (drop (i + 1) ss)) rest)
cut_on ss i s xs rest c made after all within here this grown old =
    let others = all_slices (drop (i + 1) ss) in
    old ∙ ap (λ l. slicings_behind made (slicings (all_slices l) xs)) (at_front ss i s within here) ∙
    ap (λ o. slicings_behind made (first_slicing o (slicings others))) (sym this) ∙
    cut_more made after c (slicings others rest) grown

pub cut_off : (span : Span) (ss : List SliceShape) (i : ℕ) (s : SliceShape) (xs : List Value) (made : List Slicing) (all : Option (List rules.Slicing)) → i < length ss → s ≡ get_or ss i s
    → None ≡ sliced (slice_of s) xs → all ≡ slicings_behind made (slicings (all_slices (drop i ss)) xs) → there span all ≡ Bad (Stuck WrongKind span)
cut_off span ss i s xs made all within here this old =
    ap (there span) (old ∙ ap (λ l. slicings_behind made (slicings (all_slices l) xs)) (at_front ss i s within here) ∙
    ap (λ o. slicings_behind made (first_slicing o (slicings (all_slices (drop (i + 1) ss))))) (sym this))

pub all_cut : (span : Span) (ss : List SliceShape) (i : ℕ) (xs : List Value) (made : List Slicing) (all : Option (List rules.Slicing)) → length ss ≤ i → all ≡ slicings_behind made (slicings (all_slices (drop i ss)) xs) → there span all ≡ Good (map slicing_of made)
all_cut span ss i xs made all past old =
    ap (there span) (old ∙ ap (λ l. slicings_behind made (slicings (all_slices l) xs)) (none_after ss i past)) ∙ ap Good (alone slicing_of made)

-- ---- failures

-- what fails where the steps behind it are left out
pub chain_off : {A B C D : Type 0} (f : A → B) (g : C → D) (e : Failure) (r : Pure B) (k : B → Pure D) → Is f (Err e) r → Is g (Err e) (r >>= k)
chain_off f g (failure.Fault code span) r k h = ap (λ q. q >>= k) h
chain_off f g (failure.WrongKind span) r k h = ap (λ q. q >>= k) h
chain_off f g (failure.UnknownType span) r k h = ap (λ q. q >>= k) h
chain_off f g failure.NoMemory r k h = tt

pub chain_on : {B C D : Type 0} (g : C → D) (result : Result C Failure) (b : B) (r : Pure B) (k : B → Pure D) → r ≡ Good b → Is g result (k b) → Is g result (r >>= k)
chain_on g result b r k h t = subst (Is g result) (sym (ap (λ q. q >>= k) h)) t

-- ---- widths

widths_from : (span : Span) (s : rules.Slicing) (ss : List rules.Slicing) (w : ℕ) → ranged_width WIDTH_LIMIT span s.width ≡ Good w → widths_of WIDTH_LIMIT span (s ∷ ss) ≡ (widths_of WIDTH_LIMIT span ss >>= λ rest. Good (record { low = s.low; width = w } ∷ rest))
widths_from span s ss w h = ap (λ q. q >>= λ v. widths_of WIDTH_LIMIT span ss >>= λ rest. Good (record { low = s.low; width = v } ∷ rest)) h

pub none_wide : (span : Span) (ss : List Slicing) → widths_of WIDTH_LIMIT span (map slicing_of ss) ≡ behind wide_of [] (widths_of WIDTH_LIMIT span (map slicing_of ss))
none_wide span ss = begins wide_of (widths_of WIDTH_LIMIT span (map slicing_of ss))

pub wide_on : (span : Span) (ss : List Slicing) (i : ℕ) (s : Slicing) (w : Wide) (made after : List Wide) (all : Pure (List rules.Wide)) → i < length ss → s ≡ get_or ss i s → w.low ≡ s.low
    → ranged_width WIDTH_LIMIT span (breadth_of s.width) ≡ Good w.width → after ≡ made ++ w ∷ [] → all ≡ behind wide_of made (widths_of WIDTH_LIMIT span (map slicing_of (drop i ss))) → all ≡ behind wide_of after (widths_of WIDTH_LIMIT span (map slicing_of (drop (i + 1) ss)))
wide_on span ss i s w made after all within here same this grown old =
    let others = map slicing_of (drop (i + 1) ss) in
    old ∙ ap (λ l. behind wide_of made (widths_of WIDTH_LIMIT span (map slicing_of l))) (at_front ss i s within here) ∙
    ap (behind wide_of made) (widths_from span (slicing_of s) others w.width this ∙ ap (λ z. widths_of WIDTH_LIMIT span others >>= λ rest. Good (record { low = low_of z; width = w.width } ∷ rest)) (sym same)) ∙
    behind_more wide_of made after w (widths_of WIDTH_LIMIT span others) grown

pub wide_off : (span : Span) (ss : List Slicing) (i : ℕ) (s : Slicing) (e : Failure) (made : List Wide) (all : Pure (List rules.Wide)) → i < length ss → s ≡ get_or ss i s
    → Is {A = ℕ} (λ n. n) (Err e) (ranged_width WIDTH_LIMIT span (breadth_of s.width)) → all ≡ behind wide_of made (widths_of WIDTH_LIMIT span (map slicing_of (drop i ss))) → Is {A = List Wide} (map wide_of) (Err e) all
wide_off span ss i s e made all within here this old =
    let others = map slicing_of (drop (i + 1) ss) in
    subst (Is {A = List Wide} (map wide_of) (Err e)) (sym (old ∙ ap (λ l. behind wide_of made (widths_of WIDTH_LIMIT span (map slicing_of l))) (at_front ss i s within here)))
    (chain_off {A = List Wide} (map wide_of) (map wide_of) e (widths_of WIDTH_LIMIT span (slicing_of s ∷ others)) (λ rest. Good (in_front wide_of made rest))
    (chain_off {A = ℕ} (λ n. n) (map wide_of) e (ranged_width WIDTH_LIMIT span (breadth_of s.width)) (λ v. widths_of WIDTH_LIMIT span others >>= λ rest. Good (record { low = low_of s.low; width = v } ∷ rest)) this))

pub all_wide : (span : Span) (ss : List Slicing) (i : ℕ) (made : List Wide) (all : Pure (List rules.Wide)) → length ss ≤ i → all ≡ behind wide_of made (widths_of WIDTH_LIMIT span (map slicing_of (drop i ss))) → all ≡ Good (map wide_of made)
all_wide span ss i made all past old =
    old ∙ ap (λ l. behind wide_of made (widths_of WIDTH_LIMIT span (map slicing_of l))) (none_after ss i past) ∙ ap Good (alone wide_of made)

-- ---- places

some_is : (a b : ℕ) → ◌≡◌ {A = Option ℕ} (Some a) (Some b) → a ≡ b
some_is a b h = ap inner h
  where
    inner : Option ℕ → ℕ
    inner (Some n) = n
    inner None = a

pub near_below : (b : Bool) (n low width most : ℕ) → most < 2 ^ 32 → low ≡ near n → b ≡ nat_le (low + width) most → b ≡ nat_le (n + width) most
near_below b n low width most few is h = h ∙ near_same n low width most few is
  where
    near_same : (n low width most : ℕ) → most < 2 ^ 32 → low ≡ near n → nat_le (low + width) most ≡ nat_le (n + width) most
    near_same n low width most few is = grind (arith, nat_tests)

pub low_there : (span : Span) (top : Option ℕ) (z : ℤ) (low width : ℕ) (b : Bool) → Some low ≡ near_start z → ((n : ℕ) → low ≡ near n → b ≡ ends_within top (n + width)) → b ≡ true → near_low (rules.low_of span top z width) ≡ Good low
low_there span top (pos n) low width b found same is =
    let e : low ≡ near n = some_is low (near n) found in
    ap (λ c. near_low (cond c (Good n) (Bad (Faulted D05 span)))) (sym (same n e) ∙ is) ∙ ap Good (sym e)
low_there span top (negsuc n) low width b found same is = cc

pub low_past : (span : Span) (top : Option ℕ) (z : ℤ) (low width : ℕ) (b : Bool) → Some low ≡ near_start z → ((n : ℕ) → low ≡ near n → b ≡ ends_within top (n + width)) → b ≡ false → near_low (rules.low_of span top z width) ≡ Bad (Faulted D05 span)
low_past span top (pos n) low width b found same is =
    let e : low ≡ near n = some_is low (near n) found in
    ap (λ c. near_low (cond c (Good n) (Bad (Faulted D05 span)))) (sym (same n e) ∙ is)
low_past span top (negsuc n) low width b found same is = cc

pub low_below : (span : Span) (top : Option ℕ) (z : ℤ) (width : ℕ) → None ≡ near_start z → near_low (rules.low_of span top z width) ≡ Bad (Faulted D05 span)
low_below span top (pos n) width none = cc
low_below span top (negsuc n) width none = refl

place_from : (low : Pure ℕ) (rest : Pure (List Places)) (l w : ℕ) → near_low low ≡ Good l → near_places (low >>= λ a. rest >>= λ ps. Good (record { low = a; width = w } ∷ ps)) ≡ (near_places rest >>= λ ps. Good (record { low = l; width = w } ∷ ps))
place_from (Good a) (Good ps) l w h = ap (λ q. q >>= λ b. Good (record { low = b; width = w } ∷ all_near ps)) h
place_from (Good a) (Bad e) l w h = refl
place_from (Bad e) rest l w h = cc

place_off : (low : Pure ℕ) (k : ℕ → Pure (List Places)) (e : Failure) → Is {A = ℕ} (λ n. n) (Err e) (near_low low) → Is {A = List Places} (λ ps. ps) (Err e) (near_places (low >>= k))
place_off (Good a) k (failure.Fault code span) h = cc
place_off (Good a) k (failure.WrongKind span) h = cc
place_off (Good a) k (failure.UnknownType span) h = cc
place_off (Good a) k failure.NoMemory h = tt
place_off (Bad f) k (failure.Fault code span) h = ap (λ q. q >>= λ n. Good []) h
place_off (Bad f) k (failure.WrongKind span) h = ap (λ q. q >>= λ n. Good []) h
place_off (Bad f) k (failure.UnknownType span) h = ap (λ q. q >>= λ n. Good []) h
place_off (Bad f) k failure.NoMemory h = tt

abbrev pub placed : Span → Option ℕ → List Wide → Pure (List Places)
placed span top ws = near_places (places_of span top (map wide_of ws))

pub none_placed : (span : Span) (top : Option ℕ) (ws : List Wide) → placed span top ws ≡ behind (λ p. p) [] (placed span top ws)
none_placed span top ws = begins (λ p. p) (placed span top ws)

pub placed_on : (span : Span) (top : Option ℕ) (ws : List Wide) (i : ℕ) (w : Wide) (l : ℕ) (p : Places) (made after : List Places) (all : Pure (List Places)) → i < length ws → w ≡ get_or ws i w
    → near_low (rules.low_of span top (low_of w.low) w.width) ≡ Good l → p ≡ record { low = l; width = w.width } → after ≡ made ++ p ∷ [] → all ≡ behind (λ p. p) made (placed span top (drop i ws)) → all ≡ behind (λ p. p) after (placed span top (drop (i + 1) ws))
placed_on span top ws i w l p made after all within here this same grown old =
    let others = drop (i + 1) ws in
    old ∙ ap (λ l. behind (λ p. p) made (placed span top l)) (at_front ws i w within here) ∙
    ap (behind (λ p. p) made) (place_from (rules.low_of span top (low_of w.low) w.width) (places_of span top (map wide_of others)) l w.width this ∙
    ap (λ (q : Places). placed span top others >>= λ ps. Good (q ∷ ps)) (sym same)) ∙
    behind_more (λ p. p) made after p (placed span top others) grown

pub placed_off : (span : Span) (top : Option ℕ) (ws : List Wide) (i : ℕ) (w : Wide) (e : Failure) (made : List Places) (all : Pure (List Places)) → i < length ws → w ≡ get_or ws i w
    → Is {A = ℕ} (λ n. n) (Err e) (near_low (rules.low_of span top (low_of w.low) w.width)) → all ≡ behind (λ p. p) made (placed span top (drop i ws)) → Is {A = List Places} (λ ps. ps) (Err e) all
placed_off span top ws i w e made all within here this old =
    subst (Is {A = List Places} (λ ps. ps) (Err e)) (sym (old ∙ ap (λ l. behind (λ p. p) made (placed span top l)) (at_front ws i w within here)))
    (chain_off {A = List Places} (λ ps. ps) (λ ps. ps) e (placed span top (w ∷ drop (i + 1) ws)) (λ rest. Good (in_front (λ p. p) made rest))
    (place_off (rules.low_of span top (low_of w.low) w.width) (λ l. places_of span top (map wide_of (drop (i + 1) ws)) >>= λ rest. Good (record { low = l; width = w.width } ∷ rest)) e this))

pub all_placed : (span : Span) (top : Option ℕ) (ws : List Wide) (i : ℕ) (made : List Places) (all : Pure (List Places)) → length ws ≤ i → all ≡ behind (λ p. p) made (placed span top (drop i ws)) → all ≡ Good made
all_placed span top ws i made all past old =
    old ∙ ap (λ l. behind (λ p. p) made (placed span top l)) (none_after ws i past) ∙ ap Good (as_they_are made)
