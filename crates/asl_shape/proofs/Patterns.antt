-- Patterns one behind another, and the values that each takes.
use Rattle.std.proofs.Common.{◌≡◌, ℕ, zero, suc, ◌+◌, ◌<◌, ◌≤◌, ◌==◌, Bool, true, false, cond, List, [], ◌∷◌, length, get_or, drop, Option, Some, None, refl, sym, ap, ◌∙◌, arith}
use Rattle.std.specs.Prelude.{ℤ, pos, negsuc, map, ◌&&◌, ◌||◌}
use Rattle.std.specs.Int.Signed.{le_z}
use Rattle.asl_syn.specs.declared.token.Span.{Span}
use Rattle.asl_syn.specs.declared.tree.BinaryOperator.TheVariants.{Equal}
use Rattle.asl_rules.specs.types.Closed.{not_above}
use Rattle.asl_rules.specs.values.Matching as rules
use Rattle.asl_rules.specs.values.Matching.{any_match, all_match, mask_match, at_most_match, at_least_match, range_match, value_match, is_matched}
use Rattle.asl_rules.specs.values.Operators.{binary_value, truth}
use Rattle.asl_rules.specs.runs.Plans.{Stuck, WrongKind, Pure, Good, Bad}
use Rattle.asl_rules.specs.runs.Pures.{◌>>=◌}
use Rattle.asl_rules.specs.types.Shapes as shapes
use Rattle.asl_mask.specs.Digits.{mask_matches}
use Rattle.asl_rules.specs.values.Structures.{values_in}
use Rattle.asl_rules.specs.types.Types.{View}
use Rattle.asl_rules.specs.values.Values as values
use Rattle.asl_rules.specs.values.Values.{int, bool}
use Rattle.asl_value.specs.declared.value.Value.{Value}
use Rattle.asl_value.specs.View.{value_of, all_values}
use Rattle.asl_value.proofs.Among.{at_front, none_after}
use Rattle.asl_shape.specs.declared.matching.Matched.{Matched}
use Rattle.asl_shape.specs.declared.shapes.PatternShape.{PatternShape}
use Rattle.asl_shape.specs.private.Arguments.{integer_in}
use Rattle.asl_shape.specs.private.Matched.{values_from, matched_at, integer_in_front}
use Rattle.asl_shape.specs.View.{pattern_of, all_patterns}

-- ---- one of some patterns

abbrev pub any_so_far : Bool → Pure rules.Matched → Pure rules.Matched
any_so_far h r = r >>= λ n. rules.matched (h || n.holds) n.left

pub any_begins : (r : Pure rules.Matched) → r ≡ any_so_far false r
any_begins (Good m) = refl
any_begins (Bad e) = refl

any_either : (h b : Bool) (r : Pure rules.Matched) → any_so_far h (r >>= λ n. rules.matched (b || n.holds) n.left) ≡ any_so_far (h || b) r
any_either true b (Good m) = refl
any_either false b (Good m) = refl
any_either h b (Bad e) = refl

pub any_more : (limit : ℕ) (ps : List PatternShape) (i : ℕ) (p : PatternShape) (x : values.Value) (xs : List Value) (h : Bool) (n : ℕ) (m : Matched) (all : Pure rules.Matched) → i < length ps → p ≡ get_or ps i p
    → rules.matches limit (pattern_of p) x (values_from xs n) ≡ Good (matched_at xs m) → all ≡ any_so_far h (any_match limit (all_patterns (drop i ps)) x (values_from xs n))
    → all ≡ any_so_far (h || m.holds) (any_match limit (all_patterns (drop (i + 1) ps)) x (values_from xs m.next))
any_more limit ps i p x xs h n m all within here this before =
    before ∙ ap (λ l. any_so_far h (any_match limit (all_patterns l) x (values_from xs n))) (at_front ps i p within here) ∙
    ap (λ r. any_so_far h (r >>= λ a. any_match limit (all_patterns (drop (i + 1) ps)) x a.left >>= λ b. rules.matched (a.holds || b.holds) b.left)) this ∙
    any_either h m.holds (any_match limit (all_patterns (drop (i + 1) ps)) x (values_from xs m.next))

or_false : (h : Bool) → (h || false) ≡ h
or_false true = refl
or_false false = refl

pub any_ends : (limit : ℕ) (ps : List PatternShape) (i : ℕ) (x : values.Value) (xs : List Value) (m : Matched) (all : Pure rules.Matched) → length ps ≤ i
    → all ≡ any_so_far m.holds (any_match limit (all_patterns (drop i ps)) x (values_from xs m.next)) → all ≡ Good (matched_at xs m)
any_ends limit ps i x xs m all past before =
    before ∙ ap (λ l. any_so_far m.holds (any_match limit (all_patterns l) x (values_from xs m.next))) (none_after ps i past) ∙ ap (λ b. rules.matched b (values_from xs m.next)) (or_false m.holds)

-- what a pattern gives alone
alone : (r : Pure rules.Matched) → (r >>= λ m. rules.matched false m.left >>= λ n. rules.matched (m.holds || n.holds) n.left) ≡ r
alone (Good m) = ap (λ b. rules.matched b m.left) (or_false m.holds)
alone (Bad e) = refl

pub one_pattern : (limit : ℕ) (p : shapes.PatternShape) (x : values.Value) (zs : List values.Value) → is_matched limit (shapes.pattern_and p shapes.no_pattern) zs x ≡ (rules.matches limit p x zs >>= λ m. Good m.holds)
one_pattern limit p x zs = ap (λ r. r >>= λ m. Good m.holds) (alone (rules.matches limit p x zs))

-- ---- the parts of tuples

-- the parts of a tuple, in order
abbrev pub parts_in : List Value → List values.Value
parts_in xs = values_in (all_values xs)

abbrev pub all_so_far : Bool → Pure rules.Matched → Pure rules.Matched
all_so_far h r = r >>= λ n. rules.matched (h && n.holds) n.left

pub all_begin : (r : Pure rules.Matched) → r ≡ all_so_far true r
all_begin (Good m) = refl
all_begin (Bad e) = refl

all_both : (h b : Bool) (r : Pure rules.Matched) → all_so_far h (r >>= λ n. rules.matched (b && n.holds) n.left) ≡ all_so_far (h && b) r
all_both true b (Good m) = refl
all_both false b (Good m) = refl
all_both h b (Bad e) = refl

pub all_more : (limit : ℕ) (span : Span) (ps : List PatternShape) (i : ℕ) (p : PatternShape) (x : Value) (rest more : List Value) (xs : List Value) (h : Bool) (n : ℕ) (m : Matched) (all : Pure rules.Matched) → i < length ps → p ≡ get_or ps i p → rest ≡ x ∷ more
    → rules.matches limit (pattern_of p) (value_of x) (values_from xs n) ≡ Good (matched_at xs m) → all ≡ all_so_far h (all_match limit span (all_patterns (drop i ps)) (parts_in rest) (values_from xs n))
    → all ≡ all_so_far (h && m.holds) (all_match limit span (all_patterns (drop (i + 1) ps)) (parts_in more) (values_from xs m.next))
all_more limit span ps i p x rest more xs h n m all within here is this before =
    before ∙ ap (λ l. all_so_far h (all_match limit span (all_patterns l) (parts_in rest) (values_from xs n))) (at_front ps i p within here) ∙
    ap (λ l. all_so_far h (all_match limit span (all_patterns (p ∷ drop (i + 1) ps)) (parts_in l) (values_from xs n))) is ∙
    ap (λ r. all_so_far h (r >>= λ a. all_match limit span (all_patterns (drop (i + 1) ps)) (parts_in more) a.left >>= λ b. rules.matched (a.holds && b.holds) b.left)) this ∙
    all_both h m.holds (all_match limit span (all_patterns (drop (i + 1) ps)) (parts_in more) (values_from xs m.next))

and_true : (h : Bool) → (h && true) ≡ h
and_true true = refl
and_true false = refl

pub all_end : (limit : ℕ) (span : Span) (ps : List PatternShape) (i : ℕ) (rest : List Value) (xs : List Value) (m : Matched) (all : Pure rules.Matched) → length ps ≤ i → rest ≡ []
    → all ≡ all_so_far m.holds (all_match limit span (all_patterns (drop i ps)) (parts_in rest) (values_from xs m.next)) → all ≡ Good (matched_at xs m)
all_end limit span ps i rest xs m all past none before =
    before ∙ ap (λ l. all_so_far m.holds (all_match limit span (all_patterns l) (parts_in rest) (values_from xs m.next))) (none_after ps i past) ∙
    ap (λ l. all_so_far m.holds (all_match limit span (all_patterns []) (parts_in l) (values_from xs m.next))) none ∙ ap (λ b. rules.matched b (values_from xs m.next)) (and_true m.holds)

pub fewer_parts : (limit : ℕ) (span : Span) (ps : List PatternShape) (i : ℕ) (p : PatternShape) (rest : List Value) (xs : List Value) (h : Bool) (n : ℕ) (all : Pure rules.Matched) → i < length ps → p ≡ get_or ps i p → rest ≡ []
    → all ≡ all_so_far h (all_match limit span (all_patterns (drop i ps)) (parts_in rest) (values_from xs n)) → all ≡ Bad (Stuck WrongKind span)
fewer_parts limit span ps i p rest xs h n all within here none before =
    before ∙ ap (λ l. all_so_far h (all_match limit span (all_patterns l) (parts_in rest) (values_from xs n))) (at_front ps i p within here) ∙
    ap (λ l. all_so_far h (all_match limit span (all_patterns (p ∷ drop (i + 1) ps)) (parts_in l) (values_from xs n))) none

some_left : (limit : ℕ) (span : Span) (rest : List Value) (xs : List Value) (h : Bool) (n : ℕ) → (length rest == 0) ≡ false → all_so_far h (all_match limit span shapes.no_pattern (parts_in rest) (values_from xs n)) ≡ Bad (Stuck WrongKind span)
some_left limit span [] xs h n some = cc
some_left limit span (x ∷ rest) xs h n some = refl

pub more_parts : (limit : ℕ) (span : Span) (ps : List PatternShape) (i : ℕ) (rest : List Value) (xs : List Value) (h : Bool) (n : ℕ) (all : Pure rules.Matched) → length ps ≤ i → (length rest == 0) ≡ false
    → all ≡ all_so_far h (all_match limit span (all_patterns (drop i ps)) (parts_in rest) (values_from xs n)) → all ≡ Bad (Stuck WrongKind span)
more_parts limit span ps i rest xs h n all past some before =
    before ∙ ap (λ l. all_so_far h (all_match limit span (all_patterns l) (parts_in rest) (values_from xs n))) (none_after ps i past) ∙ some_left limit span rest xs h n some

-- ---- masks

pub mask_some : (span : Span) (ms : List (Option Bool)) (bs : List Bool) (u : View) (zs : List values.Value) (b : Bool) → Some b ≡ cond (length ms == length bs) (Some (mask_matches ms bs)) None → mask_match span ms (values.bits_with bs u) zs ≡ rules.matched b zs
mask_some span ms bs u zs b h = by (length ms == length bs) refl
  where
    by : (t : Bool) → (length ms == length bs) ≡ t → mask_match span ms (values.bits_with bs u) zs ≡ rules.matched b zs
    by true e = let f : Some b ≡ Some (mask_matches ms bs) = h ∙ ap (λ t. cond t (Some (mask_matches ms bs)) None) e in let g : mask_matches ms bs ≡ b = cc in rw e (ap (λ y. rules.matched y zs) g)
    by false e = let f : Some b ≡ None = h ∙ ap (λ t. cond t (Some (mask_matches ms bs)) None) e in cc

pub mask_none : (span : Span) (ms : List (Option Bool)) (bs : List Bool) (u : View) (zs : List values.Value) → None ≡ cond (length ms == length bs) (Some (mask_matches ms bs)) None → mask_match span ms (values.bits_with bs u) zs ≡ Bad (Stuck WrongKind span)
mask_none span ms bs u zs h = by (length ms == length bs) refl
  where
    by : (t : Bool) → (length ms == length bs) ≡ t → mask_match span ms (values.bits_with bs u) zs ≡ Bad (Stuck WrongKind span)
    by true e = let f : None ≡ Some (mask_matches ms bs) = h ∙ ap (λ t. cond t (Some (mask_matches ms bs)) None) e in cc
    by false e = rw e refl

-- ---- the value in front

abbrev pub tail : List values.Value → List values.Value
tail [] = []
tail (v ∷ zs) = zs

front_is : (v : values.Value) (zs : List values.Value) (z : ℤ) → integer_in_front (v ∷ zs) ≡ Some z → v ≡ int z
front_is (int y) zs z h = cc
front_is (bool b) zs z h = cc
front_is (values.bits_with bs u) zs z h = cc
front_is (values.label n l) zs z h = cc
front_is (values.record_with n fs) zs z h = cc
front_is (values.exception_with o s n fs) zs z h = cc
front_is (values.tuple_with ys) zs z h = cc
front_is (values.array_with k ys) zs z h = cc

pub front_value : (xs : List Value) (i : ℕ) (x : Value) → i < length xs → x ≡ get_or xs i x → values_from xs i ≡ value_of x ∷ values_from xs (i + 1)
front_value xs i x within here = ap (λ l. map value_of l) (at_front xs i x within here)

pub integer_there : (r : Option ℤ) (xs : List Value) (i : ℕ) (x : Value) → i < length xs → x ≡ get_or xs i x → r ≡ integer_in (value_of x) → r ≡ integer_in_front (values_from xs i)
integer_there r xs i x within here is = is ∙ sym (ap integer_in_front (front_value xs i x within here))

pub integer_none : (xs : List Value) (i : ℕ) → length xs ≤ i → None ≡ integer_in_front (values_from xs i)
integer_none xs i past = sym (ap (λ l. integer_in_front (map value_of l)) (none_after xs i past))

front_some : (zs : List values.Value) (z : ℤ) → Some z ≡ integer_in_front zs → zs ≡ int z ∷ tail zs
front_some [] z h = cc
front_some (v ∷ zs) z h = ap (λ w. w ∷ zs) (front_is v zs z (sym h))

tail_at : (xs : List Value) (i : ℕ) → tail (values_from xs i) ≡ values_from xs (suc i)
tail_at [] zero = refl
tail_at [] (suc i) = refl
tail_at (x ∷ xs) zero = refl
tail_at (x ∷ xs) (suc i) = tail_at xs i

pub tail_from : (xs : List Value) (i : ℕ) → tail (values_from xs i) ≡ values_from xs (i + 1)
tail_from xs i = let up : suc i ≡ i + 1 = omega arith in tail_at xs i ∙ ap (values_from xs) up

integer_from : (xs : List Value) (i : ℕ) (z : ℤ) → Some z ≡ integer_in_front (values_from xs i) → values_from xs i ≡ int z ∷ values_from xs (i + 1)
integer_from xs i z h = front_some (values_from xs i) z h ∙ ap (λ l. int z ∷ l) (tail_from xs i)

pub at_most_is : (span : Span) (a z : ℤ) (xs : List Value) (i : ℕ) → Some z ≡ integer_in_front (values_from xs i) → at_most_match span (int a) (values_from xs i) ≡ rules.matched (not_above a z) (values_from xs (i + 1))
at_most_is span a z xs i h = ap (at_most_match span (int a)) (integer_from xs i z h)

pub at_least_is : (span : Span) (a z : ℤ) (xs : List Value) (i : ℕ) → Some z ≡ integer_in_front (values_from xs i) → at_least_match span (int a) (values_from xs i) ≡ rules.matched (not_above z a) (values_from xs (i + 1))
at_least_is span a z xs i h = ap (at_least_match span (int a)) (integer_from xs i z h)

pub between_is : (span : Span) (a y z : ℤ) (xs : List Value) (i : ℕ) → Some y ≡ integer_in_front (values_from xs i) → Some z ≡ integer_in_front (values_from xs (i + 1)) → range_match span (int a) (values_from xs i) ≡ rules.matched (not_above y a && not_above a z) (values_from xs (i + 2))
between_is span a y z xs i h k =
    let e : i + 1 + 1 ≡ i + 2 = omega arith in
    ap (range_match span (int a)) (integer_from xs i y h ∙ ap (λ l. int y ∷ l) (integer_from xs (i + 1) z k)) ∙ ap (λ n. rules.matched (not_above y a && not_above a z) (values_from xs n)) e

pub not_above_is : (a b : ℤ) → le_z a b ≡ not_above a b
not_above_is (pos a) (pos b) = refl
not_above_is (pos a) (negsuc b) = refl
not_above_is (negsuc a) (pos b) = refl
not_above_is (negsuc a) (negsuc b) = refl

pub at_most_none : (span : Span) (a : ℤ) (zs : List values.Value) → None ≡ integer_in_front zs → at_most_match span (int a) zs ≡ Bad (Stuck WrongKind span)
at_most_none span a [] h = refl
at_most_none span a (int y ∷ zs) h = cc
at_most_none span a (bool b ∷ zs) h = refl
at_most_none span a (values.bits_with bs u ∷ zs) h = refl
at_most_none span a (values.label n l ∷ zs) h = refl
at_most_none span a (values.record_with n fs ∷ zs) h = refl
at_most_none span a (values.exception_with o s n fs ∷ zs) h = refl
at_most_none span a (values.tuple_with ys ∷ zs) h = refl
at_most_none span a (values.array_with k ys ∷ zs) h = refl

pub at_least_none : (span : Span) (a : ℤ) (zs : List values.Value) → None ≡ integer_in_front zs → at_least_match span (int a) zs ≡ Bad (Stuck WrongKind span)
at_least_none span a [] h = refl
at_least_none span a (int y ∷ zs) h = cc
at_least_none span a (bool b ∷ zs) h = refl
at_least_none span a (values.bits_with bs u ∷ zs) h = refl
at_least_none span a (values.label n l ∷ zs) h = refl
at_least_none span a (values.record_with n fs ∷ zs) h = refl
at_least_none span a (values.exception_with o s n fs ∷ zs) h = refl
at_least_none span a (values.tuple_with ys ∷ zs) h = refl
at_least_none span a (values.array_with k ys ∷ zs) h = refl

pub no_low : (span : Span) (a : ℤ) (zs : List values.Value) → None ≡ integer_in_front zs → range_match span (int a) zs ≡ Bad (Stuck WrongKind span)
no_low span a [] h = refl
no_low span a (int y ∷ zs) h = cc
no_low span a (bool b ∷ zs) h = refl
no_low span a (values.bits_with bs u ∷ zs) h = refl
no_low span a (values.label n l ∷ zs) h = refl
no_low span a (values.record_with n fs ∷ zs) h = refl
no_low span a (values.exception_with o s n fs ∷ zs) h = refl
no_low span a (values.tuple_with ys ∷ zs) h = refl
no_low span a (values.array_with k ys ∷ zs) h = refl

none_high : (span : Span) (a y : ℤ) (zs : List values.Value) → None ≡ integer_in_front zs → range_match span (int a) (int y ∷ zs) ≡ Bad (Stuck WrongKind span)
none_high span a z [] h = refl
none_high span a z (int y ∷ zs) h = cc
none_high span a z (bool b ∷ zs) h = refl
none_high span a z (values.bits_with bs u ∷ zs) h = refl
none_high span a z (values.label n l ∷ zs) h = refl
none_high span a z (values.record_with n fs ∷ zs) h = refl
none_high span a z (values.exception_with o s n fs ∷ zs) h = refl
none_high span a z (values.tuple_with ys ∷ zs) h = refl
none_high span a z (values.array_with k ys ∷ zs) h = refl

pub no_high : (span : Span) (a y : ℤ) (xs : List Value) (i : ℕ) → Some y ≡ integer_in_front (values_from xs i) → None ≡ integer_in_front (values_from xs (i + 1)) → range_match span (int a) (values_from xs i) ≡ Bad (Stuck WrongKind span)
no_high span a y xs i h k = ap (range_match span (int a)) (integer_from xs i y h) ∙ none_high span a y (values_from xs (i + 1)) k

then_truth : (span : Span) (r : Pure values.Value) (zs : List values.Value) → (r >>= λ v. truth span v >>= λ b. rules.matched b zs) ≡ ((r >>= λ v. truth span v) >>= λ b. rules.matched b zs)
then_truth span (Good v) zs = refl
then_truth span (Bad e) zs = refl

pub equal_is : (limit : ℕ) (span : Span) (x : values.Value) (xs : List Value) (i : ℕ) (y : Value) → i < length xs → y ≡ get_or xs i y
    → value_match limit span x (values_from xs i) ≡ ((binary_value limit span Equal x (value_of y) >>= λ v. truth span v) >>= λ b. rules.matched b (values_from xs (i + 1)))
equal_is limit span x xs i y within here = ap (value_match limit span x) (front_value xs i y within here) ∙ then_truth span (binary_value limit span Equal x (value_of y)) (values_from xs (i + 1))

pub equal_none : (limit : ℕ) (span : Span) (x : values.Value) (xs : List Value) (i : ℕ) → length xs ≤ i → value_match limit span x (values_from xs i) ≡ Bad (Stuck WrongKind span)
equal_none limit span x xs i past = ap (λ l. value_match limit span x (map value_of l)) (none_after xs i past)
