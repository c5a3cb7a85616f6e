-- Slices whose places past the range of integers are taken as one: they hold the same bits.
use Rattle.std.proofs.Common.{◌≡◌, ℕ, ◌+◌, ◌^◌, ◌<◌, ◌≤◌, Bool, true, false, cond, List, [], ◌∷◌, ◌++◌, Option, Some, None, Result, Err, refl, sym, ap, ◌∙◌, subst, arith}
use Rattle.std.specs.Prelude.{ℤ, pos, negsuc, nat_le}
use Rattle.std.proofs.lemmas.Bool.Decides.{nat_tests}
use Rattle.asl_syn.specs.declared.token.Span.{Span}
use Rattle.asl_syn.specs.declared.code.DynCode.TheVariants.{D05, D14}
use Rattle.asl_bits.specs.declared.TheConstants.{WIDTH_LIMIT}
use Rattle.asl_bits.specs.Lists.{int_bits}
use Rattle.asl_num.specs.Exact.{Fits, floor_div}
use Rattle.asl_rules.specs.values.Operators.{plain_bits}
use Rattle.asl_rules.specs.runs.Pures.{◌>>=◌, there}
use Rattle.asl_rules.specs.runs.Plans.{Faulted, Pure, Good, Bad}
use Rattle.asl_rules.specs.types.Shapes.{SliceShape}
use Rattle.asl_rules.specs.values.Values.{Value}
use Rattle.asl_rules.specs.values.Vectors.{Slicing, Wide, Places, slicings, widths_of, places_of, low_of, total_width, within_limit, tested, read_bits, read_int}
use Rattle.asl_value.specs.declared.failure.Failure.{Failure}
use Rattle.asl_value.specs.declared.failure.Failure.TheVariants as failure
use Rattle.asl_value.specs.declared.value.Value as code
use Rattle.asl_value.specs.private.Answers.{Is}
use Rattle.asl_value.specs.private.Cutting.{near, near_low, all_near, near_places, places_read, bits_sliced, integer_sliced}
use Rattle.asl_value.specs.View.{value_of}
use Rattle.asl_value.proofs.InPlaces.{same_above}
use Rattle.asl_value.proofs.SlicesRead.{chain_off}

-- ---- all together

total_near : (ps : List Places) → total_width (all_near ps) ≡ total_width ps
total_near [] = refl
total_near (p ∷ ps) = ap (λ n. p.width + n) (total_near ps)

limit_near : (limit : ℕ) (span : Span) (ps : List Places) → near_places (within_limit limit span ps) ≡ within_limit limit span (all_near ps)
limit_near limit span ps = by (nat_le (total_width ps) limit) ∙ ap (λ n. cond (nat_le n limit) (Good (all_near ps)) (Bad (Faulted D14 span))) (sym (total_near ps))
  where
    by : (b : Bool) → near_places (cond b (Good ps) (Bad (Faulted D14 span))) ≡ cond b (Good (all_near ps)) (Bad (Faulted D14 span))
    by true = refl
    by false = refl

limit_behind : (limit : ℕ) (span : Span) (q : Pure (List Places)) → near_places (q >>= λ ps. within_limit limit span ps) ≡ (near_places q >>= λ ps. within_limit limit span ps)
limit_behind limit span (Good ps) = limit_near limit span ps
limit_behind limit span (Bad e) = refl

wides_behind : (limit : ℕ) (span : Span) (top : Option ℕ) (r : Pure (List Wide)) → near_places (r >>= λ ws. places_of span top ws >>= λ ps. within_limit limit span ps) ≡ (r >>= λ ws. near_places (places_of span top ws) >>= λ ps. within_limit limit span ps)
wides_behind limit span top (Good ws) = limit_behind limit span (places_of span top ws)
wides_behind limit span top (Bad e) = refl

joined : {A B C : Type 0} (r : Pure A) (f : A → Pure B) (g : B → Pure C) → (r >>= λ a. f a >>= λ b. g b) ≡ ((r >>= λ a. f a) >>= λ b. g b)
joined (Good a) f g = refl
joined (Bad e) f g = refl

tested_from : (limit : ℕ) (span : Span) (top : Option ℕ) (o : Option (List Slicing)) → near_places (tested limit span top o) ≡ (((there span o >>= λ cs. widths_of limit span cs) >>= λ ws. near_places (places_of span top ws)) >>= λ ps. within_limit limit span ps)
tested_from limit span top None = refl
tested_from limit span top (Some cs) = wides_behind limit span top (widths_of limit span cs) ∙ joined (widths_of limit span cs) (λ ws. near_places (places_of span top ws)) (λ ps. within_limit limit span ps)

tested_is : (span : Span) (top : Option ℕ) (ss : List SliceShape) (xs : List Value) → near_places (tested WIDTH_LIMIT span top (slicings ss xs)) ≡ (places_read WIDTH_LIMIT span top ss xs >>= λ ps. within_limit WIDTH_LIMIT span ps)
tested_is span top ss xs = tested_from WIDTH_LIMIT span top (slicings ss xs)

pub tested_good : (span : Span) (top : Option ℕ) (ss : List SliceShape) (xs : List Value) (ps : List Places) → places_read WIDTH_LIMIT span top ss xs ≡ Good ps → true ≡ nat_le (total_width ps) WIDTH_LIMIT → near_places (tested WIDTH_LIMIT span top (slicings ss xs)) ≡ Good ps
tested_good span top ss xs ps h fits = tested_is span top ss xs ∙ ap (λ q. q >>= λ qs. within_limit WIDTH_LIMIT span qs) h ∙ ap (λ b. cond b (Good ps) (Bad (Faulted D14 span))) (sym fits)

pub tested_past : (span : Span) (top : Option ℕ) (ss : List SliceShape) (xs : List Value) (ps : List Places) → places_read WIDTH_LIMIT span top ss xs ≡ Good ps → false ≡ nat_le (total_width ps) WIDTH_LIMIT → near_places (tested WIDTH_LIMIT span top (slicings ss xs)) ≡ Bad (Faulted D14 span)
tested_past span top ss xs ps h long = tested_is span top ss xs ∙ ap (λ q. q >>= λ qs. within_limit WIDTH_LIMIT span qs) h ∙ ap (λ b. cond b (Good ps) (Bad (Faulted D14 span))) (sym long)

pub tested_off : (span : Span) (top : Option ℕ) (ss : List SliceShape) (xs : List Value) (e : Failure) → Is {A = List Places} (λ ps. ps) (Err e) (places_read WIDTH_LIMIT span top ss xs) → Is {A = List Places} (λ ps. ps) (Err e) (near_places (tested WIDTH_LIMIT span top (slicings ss xs)))
tested_off span top ss xs e h = subst (Is {A = List Places} (λ ps. ps) (Err e)) (sym (tested_is span top ss xs))
    (chain_off {A = List Places} (λ ps. ps) (λ ps. ps) e (places_read WIDTH_LIMIT span top ss xs) (λ ps. within_limit WIDTH_LIMIT span ps) h)

-- ---- bits: their places are near

good_is : {A : Type 0} (a b : A) → ◌≡◌ {A = Pure A} (Good a) (Good b) → a ≡ b
good_is {A = A} a b h = ap inner h
  where
    inner : Pure A → A
    inner (Good x) = x
    inner (Bad e) = a

near_is : (n l : ℕ) → n < 2 ^ 32 → l ≤ n → near l ≡ l
near_is n l few h = omega arith

low_near : (span : Span) (n : ℕ) (z : ℤ) (w : ℕ) → n < 2 ^ 32 → near_low (low_of span (Some n) z w) ≡ low_of span (Some n) z w
low_near span n (pos l) w few = by (nat_le (l + w) n) refl
  where
    by : (b : Bool) → nat_le (l + w) n ≡ b → near_low (cond b (Good l) (Bad (Faulted D05 span))) ≡ cond b (Good l) (Bad (Faulted D05 span))
    by true e =
        let h : l + w ≤ n = grind (arith, nat_tests) in
        ap Good (near_is n l few (omega arith))
    by false e = refl
low_near span n (negsuc l) w few = refl

both_near : (a : Pure ℕ) (r : Pure (List Places)) (w : ℕ) → near_low a ≡ a → near_places r ≡ r → near_places (a >>= λ l. r >>= λ rest. Good (record { low = l; width = w } ∷ rest)) ≡ (a >>= λ l. r >>= λ rest. Good (record { low = l; width = w } ∷ rest))
both_near (Good l) (Good ps) w h k = ap (λ n. Good (record { low = n; width = w } ∷ all_near ps)) (good_is (near l) l h) ∙ ap (λ qs. Good (record { low = l; width = w } ∷ qs)) (good_is (all_near ps) ps k)
both_near (Good l) (Bad e) w h k = refl
both_near (Bad e) r w h k = refl

places_near : (span : Span) (n : ℕ) (ws : List Wide) → n < 2 ^ 32 → near_places (places_of span (Some n) ws) ≡ places_of span (Some n) ws
places_near span n [] few = refl
places_near span n (w ∷ ws) few = both_near (low_of span (Some n) w.low w.width) (places_of span (Some n) ws) w.width (low_near span n w.low w.width few) (places_near span n ws few)

limited_near : (limit : ℕ) (span : Span) (q : Pure (List Places)) → near_places q ≡ q → near_places (q >>= λ ps. within_limit limit span ps) ≡ (q >>= λ ps. within_limit limit span ps)
limited_near limit span q h = limit_behind limit span q ∙ ap (λ r. r >>= λ ps. within_limit limit span ps) h

wides_near : (limit : ℕ) (span : Span) (n : ℕ) (r : Pure (List Wide)) → n < 2 ^ 32 → near_places (r >>= λ ws. places_of span (Some n) ws >>= λ ps. within_limit limit span ps) ≡ (r >>= λ ws. places_of span (Some n) ws >>= λ ps. within_limit limit span ps)
wides_near limit span n (Good ws) few = limited_near limit span (places_of span (Some n) ws) (places_near span n ws few)
wides_near limit span n (Bad e) few = refl

all_inside : (limit : ℕ) (span : Span) (n : ℕ) (o : Option (List Slicing)) → n < 2 ^ 32 → near_places (tested limit span (Some n) o) ≡ tested limit span (Some n) o
all_inside limit span n None few = refl
all_inside limit span n (Some cs) few = wides_near limit span n (widths_of limit span cs) few

pub of_bits : (result : Result (List Places) Failure) (span : Span) (n : ℕ) (o : Option (List Slicing)) → n < 2 ^ 32 → Is (λ ps. ps) result (near_places (tested WIDTH_LIMIT span (Some n) o)) → Is (λ ps. ps) result (tested WIDTH_LIMIT span (Some n) o)
of_bits result span n o few h = subst (Is (λ ps. ps) result) (all_inside WIDTH_LIMIT span n o few) h

-- ---- integers: they have the same bits at all places from 127 on

same_bits : (z : ℤ) (w m n : ℕ) → Fits z → m ≡ near n → int_bits w (floor_div z (2 ^ m)) ≡ int_bits w (floor_div z (2 ^ n))
same_bits z w m n f is = by (nat_le 127 n) refl
  where
    by : (b : Bool) → nat_le 127 n ≡ b → int_bits w (floor_div z (2 ^ m)) ≡ int_bits w (floor_div z (2 ^ n))
    by true e =
        let k : 127 ≤ n = grind (arith, nat_tests) in
        let h : 127 ≤ m = omega arith in
        sym (same_above z w m (int_bits w (floor_div z (2 ^ 127))) f h refl) ∙ same_above z w n (int_bits w (floor_div z (2 ^ 127))) f k refl
    by false e =
        let k : n < 127 = grind (arith, nat_tests) in
        let h : m ≡ n = omega arith in
        ap (λ i. int_bits w (floor_div z (2 ^ i))) h

read_near : (ps : List Places) (z : ℤ) → Fits z → read_int (all_near ps) z ≡ read_int ps z
read_near [] z f = refl
read_near (p ∷ ps) z f =
    ap (λ l. l ++ int_bits p.width (floor_div z (2 ^ near p.low))) (read_near ps z f) ∙
    ap (λ l. read_int ps z ++ l) (same_bits z p.width (near p.low) p.low f refl)

pub integer_read : (t : Pure (List Places)) (ps : List Places) (z : ℤ) → Fits z → near_places t ≡ Good ps → integer_sliced t z ≡ Good (plain_bits (read_int ps z))
integer_read (Good qs) ps z f h = ap (λ l. Good (plain_bits l)) (sym (read_near qs z f) ∙ ap (λ l. read_int l z) (good_is (all_near qs) ps h))
integer_read (Bad e) ps z f h = cc

integer_none : (t : Pure (List Places)) (e : Failure) (k : List Places → Pure Value) → Is {A = List Places} (λ ps. ps) (Err e) (near_places t) → Is {A = code.Value} value_of (Err e) (t >>= k)
integer_none (Good qs) (failure.Fault code span) k h = cc
integer_none (Good qs) (failure.WrongKind span) k h = cc
integer_none (Good qs) (failure.UnknownType span) k h = cc
integer_none (Good qs) failure.NoMemory k h = tt
integer_none (Bad f) (failure.Fault code span) k h = ap (λ q. q >>= k) h
integer_none (Bad f) (failure.WrongKind span) k h = ap (λ q. q >>= k) h
integer_none (Bad f) (failure.UnknownType span) k h = ap (λ q. q >>= k) h
integer_none (Bad f) failure.NoMemory k h = tt

pub integer_off : (t : Pure (List Places)) (e : Failure) (z : ℤ) → Is {A = List Places} (λ ps. ps) (Err e) (near_places t) → Is {A = code.Value} value_of (Err e) (integer_sliced t z)
integer_off t e z h = integer_none t e (λ ps. Good (plain_bits (read_int ps z))) h

pub bits_off : (t : Pure (List Places)) (e : Failure) (bs : List Bool) → Is {A = List Places} (λ ps. ps) (Err e) t → Is {A = code.Value} value_of (Err e) (bits_sliced t bs)
bits_off t e bs h = chain_off {A = List Places} (λ ps. ps) value_of e t (λ ps. Good (plain_bits (read_bits ps bs))) h
