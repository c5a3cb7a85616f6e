-- Widths of arguments, one behind another.
use Rattle.std.proofs.Common.{◌≡◌, ◌≢◌, ℕ, zero, suc, ◌+◌, ◌<◌, ◌≤◌, List, [], ◌∷◌, ◌++◌, length, get_or, drop, Option, Some, None, refl, sym, ap, ◌∙◌, arith}
use Rattle.std.specs.Prelude.{map, option_map, option_and_then, slice_get}
use Rattle.asl_syn.specs.declared.token.Span.{Span}
use Rattle.asl_rules.specs.runs.Evaluation.{width_of_bits}
use Rattle.asl_rules.specs.private.TypedMeaning.{widths_of, params_of}
use Rattle.asl_rules.specs.values.Values as rules
use Rattle.asl_rules.specs.runs.Pures.{◌>>=◌, there}
use Rattle.asl_rules.specs.runs.Plans.{Stuck, WrongKind, Pure, Good, Bad}
use Rattle.asl_value.specs.declared.value.Value.{Value}
use Rattle.asl_value.specs.View.{value_of}
use Rattle.asl_value.proofs.Among.{at_front, none_after}

value_in : (xs : List Value) (i : ℕ) (x : Value) → i < length xs → x ≡ get_or xs i x → slice_get (map value_of xs) i ≡ Some (value_of x)
value_in [] i x h e = absurd (omega (arith, h))
value_in (y ∷ xs) zero x h e = ap (λ z. Some (value_of z)) (sym e)
value_in (y ∷ xs) (suc i) x h e = value_in xs i x (omega (arith, h)) e

value_out : (xs : List Value) (i : ℕ) → length xs ≤ i → slice_get (map value_of xs) i ≡ None
value_out [] i h = refl
value_out (x ∷ xs) zero h = absurd (omega (arith, h))
value_out (x ∷ xs) (suc i) h = value_out xs i (omega (arith, h))

pub argument_there : (r : Option rules.Value) (xs : List Value) (i : ℕ) (x : Value) → i < length xs → x ≡ get_or xs i x → r ≡ width_of_bits (value_of x) → r ≡ option_and_then width_of_bits (slice_get (map value_of xs) i)
argument_there r xs i x within here is = is ∙ sym (ap (option_and_then width_of_bits) (value_in xs i x within here))

pub argument_none : (xs : List Value) (i : ℕ) → length xs ≤ i → option_map value_of None ≡ option_and_then width_of_bits (slice_get (map value_of xs) i)
argument_none xs i past = sym (ap (option_and_then width_of_bits) (value_out xs i past))

-- ---- one behind another

-- those that were found, in front of those left
abbrev pub behind : List Value → Pure (List rules.Value) → Pure (List rules.Value)
behind found r = r >>= λ ys. Good (map value_of found ++ ys)

pub widths_begin : (r : Pure (List rules.Value)) → r ≡ behind [] r
widths_begin (Good ys) = refl
widths_begin (Bad e) = refl

map_more : (found : List Value) (x : Value) (ys : List rules.Value) → map value_of (found ++ x ∷ []) ++ ys ≡ map value_of found ++ value_of x ∷ ys
map_more [] x ys = refl
map_more (y ∷ found) x ys = ap (λ l. value_of y ∷ l) (map_more found x ys)

push_one : (found : List Value) (x : Value) (r : Pure (List rules.Value)) → behind found (r >>= λ ys. Good (value_of x ∷ ys)) ≡ behind (found ++ x ∷ []) r
push_one found x (Good ys) = ap Good (sym (map_more found x ys))
push_one found x (Bad e) = refl

pub width_more : (span : Span) (is : List ℕ) (i : ℕ) (k : ℕ) (xs : List rules.Value) (found after : List Value) (x : Value) (all : Pure (List rules.Value)) → i < length is → k ≡ get_or is i k
    → Some (value_of x) ≡ option_and_then width_of_bits (slice_get xs k) → after ≡ found ++ x ∷ [] → all ≡ behind found (widths_of span (drop i is) xs) → all ≡ behind after (widths_of span (drop (i + 1) is) xs)
width_more span is i k xs found after x all within here this grown before =
    before ∙ ap (λ l. behind found (widths_of span l xs)) (at_front is i k within here) ∙
    ap (λ o. behind found (there span o >>= λ y. widths_of span (drop (i + 1) is) xs >>= λ ys. Good (y ∷ ys))) (sym this) ∙
    push_one found x (widths_of span (drop (i + 1) is) xs) ∙ ap (λ l. behind l (widths_of span (drop (i + 1) is) xs)) (sym grown)

pub width_none : (span : Span) (is : List ℕ) (i : ℕ) (k : ℕ) (xs : List rules.Value) (found : List Value) (all : Pure (List rules.Value)) → i < length is → k ≡ get_or is i k
    → None ≡ option_and_then width_of_bits (slice_get xs k) → all ≡ behind found (widths_of span (drop i is) xs) → all ≡ Bad (Stuck WrongKind span)
width_none span is i k xs found all within here this before =
    before ∙ ap (λ l. behind found (widths_of span l xs)) (at_front is i k within here) ∙
    ap (λ o. behind found (there span o >>= λ y. widths_of span (drop (i + 1) is) xs >>= λ ys. Good (y ∷ ys))) (sym this)

no_more : (ys : List rules.Value) → ys ++ [] ≡ ys
no_more [] = refl
no_more (y ∷ ys) = ap (λ l. y ∷ l) (no_more ys)

pub widths_end : (span : Span) (is : List ℕ) (i : ℕ) (xs : List rules.Value) (found : List Value) (all : Pure (List rules.Value)) → length is ≤ i → all ≡ behind found (widths_of span (drop i is) xs) → all ≡ Good (map value_of found)
widths_end span is i xs found all past before = before ∙ ap (λ l. behind found (widths_of span l xs)) (none_after is i past) ∙ ap Good (no_more (map value_of found))

pub params_omitted : (span : Span) (is : List ℕ) (ps : List Value) (xs : List rules.Value) → ps ≡ [] → params_of span is (map value_of ps) xs ≡ widths_of span is xs
params_omitted span is ps xs h = ap (λ l. params_of span is (map value_of l) xs) h

pub params_given : (span : Span) (is : List ℕ) (ps : List Value) (xs : List rules.Value) → ps ≢ [] → params_of span is (map value_of ps) xs ≡ Good (map value_of ps)
params_given span is [] xs h = absurd (h refl)
params_given span is (p ∷ ps) xs h = refl
