-- What the operations on bits answer is what the subprograms of the library give.
use Rattle.std.proofs.Common.{◌≡◌, ℕ, zero, suc, ◌+◌, ◌≤◌, ◌<◌, Bool, true, false, cond, List, [], ◌∷◌, length, drop, replicate, Some, None, Ok, Err, refl, sym, ap, ◌∙◌, arith}
use Rattle.std.specs.Prelude.{ℤ, pos, negsuc, nat_le, Result, unsigned_abs, slice_get}
use Rattle.std.specs.Int.{w128}
use Rattle.std.specs.Int.RustNames.{FitsSigned}
use Rattle.std.proofs.lemmas.Int.{ints}
use Rattle.asl_syn.specs.declared.token.Span.{Span}
use Rattle.asl_syn.specs.declared.code.DynCode.TheVariants.{D01, D08, D14}
use Rattle.asl_bits.specs.Answers.{IsInt, OfWidth, IsExtension}
use Rattle.asl_bits.specs.declared.TheConstants.{WIDTH_LIMIT}
use Rattle.asl_bits.specs.declared.BitsRefused.{BitsRefused}
use Rattle.asl_bits.specs.declared.BitsRefused.TheVariants.{TooWide, OutOfRange, Overflow}
use Rattle.asl_bits.specs.Lists.{extension_of}
use Rattle.asl_rules.specs.values.Library.{all_equal, copies, extended, absolute}
use Rattle.asl_rules.specs.values.Operators.{in_range, integer_of, plain_bits, same_bool}
use Rattle.asl_rules.specs.values.Values.{int}
use Rattle.asl_rules.specs.runs.Plans.{Faulted, Good, Bad}
use Rattle.asl_shape.specs.private.Bits.{number_of, kept, copied, extension}

-- ---- integers

fits_range : (z : ℤ) → FitsSigned w128 z → in_range z ≡ true
fits_range (pos n) h = grind (arith, ints)
fits_range (negsuc n) h = grind (arith, ints)

range_fits : (z : ℤ) → in_range z ≡ true → FitsSigned w128 z
range_fits (pos n) h = grind (arith, ints)
range_fits (negsuc n) h = grind (arith, ints)

never : (b : Bool) → (b ≡ true → ⊥) → b ≡ false
never true h = absurd (h refl)
never false h = refl

pub number_is : (span : Span) (r : Result ℤ BitsRefused) (z : ℤ) → IsInt r z → number_of span r ≡ integer_of span z
number_is span (Ok w) z h = ap (λ v. Good (int v)) h.1 ∙ sym (ap (λ b. cond b (Good (int z)) (Bad (Faulted D01 span))) (fits_range z h.0))
number_is span (Err Overflow) z h = sym (ap (λ b. cond b (Good (int z)) (Bad (Faulted D01 span))) (never (in_range z) (λ k. h (range_fits z k))))
number_is span (Err TooWide) z h = absurd h
number_is span (Err OutOfRange) z h = absurd h

pub absolute_is : (z : ℤ) → pos (unsigned_abs z) ≡ absolute z
absolute_is (pos n) = grind (arith, ints)
absolute_is (negsuc n) = grind (arith, ints)

-- ---- copies of a bit

no_width : (n m : ℕ) → negsuc n ≡ pos m → ⊥
no_width n m e = cc

pub copied_is : (r : Result (List Bool) BitsRefused) (w : ℤ) (b : Bool) → OfWidth r w (λ n. r ≡ Ok (replicate n b)) → kept r ≡ copied WIDTH_LIMIT b w
copied_is r (pos n) b h = by (nat_le n WIDTH_LIMIT) refl
  where
    by : (t : Bool) → nat_le n WIDTH_LIMIT ≡ t → kept r ≡ cond t (Some (replicate n b)) None
    by true e = let k : n ≤ WIDTH_LIMIT = grind arith in ap kept (h.1 n refl k)
    by false e = let k : WIDTH_LIMIT < n = grind arith in ap kept (h.0 (λ m f g. let s : n ≡ m = cc in omega arith))
copied_is r (negsuc n) b h = ap kept (h.0 (λ m e k. no_width n m e))

pub copies_are : (limit : ℕ) (span : Span) (b : Bool) (w : ℤ) (bs : List Bool) → Some bs ≡ copied limit b w → copies limit span b w ≡ Good (plain_bits bs)
copies_are limit span b (pos n) bs h = by (nat_le n limit) refl
  where
    by : (t : Bool) → nat_le n limit ≡ t → copies limit span b (pos n) ≡ Good (plain_bits bs)
    by true e = let f : Some bs ≡ Some (replicate n b) = h ∙ ap (λ t. cond t (Some (replicate n b)) None) e in let g : replicate n b ≡ bs = cc in rw e (ap (λ l. Good (plain_bits l)) g)
    by false e = let f : Some bs ≡ None = h ∙ ap (λ t. cond t (Some (replicate n b)) None) e in cc
copies_are limit span b (negsuc n) bs h = cc

pub no_copies : (limit : ℕ) (span : Span) (b : Bool) (w : ℤ) → None ≡ copied limit b w → copies limit span b w ≡ Bad (Faulted D14 span)
no_copies limit span b (pos n) h = by (nat_le n limit) refl
  where
    by : (t : Bool) → nat_le n limit ≡ t → copies limit span b (pos n) ≡ Bad (Faulted D14 span)
    by true e = let f : None ≡ Some (replicate n b) = h ∙ ap (λ t. cond t (Some (replicate n b)) None) e in cc
    by false e = rw e refl
no_copies limit span b (negsuc n) h = refl

-- ---- bits with more on top

pub extension_is : (span : Span) (r : Result (List Bool) BitsRefused) (bs : List Bool) (w : ℤ) (signed : Bool) → IsExtension r bs w signed → extension span r ≡ extended WIDTH_LIMIT span signed w bs
extension_is span r bs (negsuc n) signed h = ap (extension span) (h.0 (λ m e k. no_width n m e))
extension_is span r bs (pos n) signed h = by (nat_le n WIDTH_LIMIT) refl
  where
    here : n ≤ WIDTH_LIMIT → (t : Bool) → nat_le (length bs) n ≡ t → extension span r ≡ cond t (Good (plain_bits (extension_of bs n signed))) (Bad (Faulted D08 span))
    here k true e = let g : length bs ≤ n = grind arith in ap (extension span) ((h.1 n refl k).1 g)
    here k false e = let g : n < length bs = grind arith in ap (extension span) ((h.1 n refl k).0 g)

    by : (t : Bool) → nat_le n WIDTH_LIMIT ≡ t → extension span r ≡ extended WIDTH_LIMIT span signed (pos n) bs
    by true e = let k : n ≤ WIDTH_LIMIT = grind arith in rw e (here k (nat_le (length bs) n) refl)
    by false e = let k : WIDTH_LIMIT < n = grind arith in rw e (ap (extension span) (h.0 (λ m f g. let s : n ≡ m = cc in omega arith)))

-- ---- bits that are all one bit

bit_at : (bs : List Bool) (i : ℕ) (a : Bool) → slice_get bs i ≡ Some a → drop i bs ≡ a ∷ drop (suc i) bs
bit_at [] zero a h = cc
bit_at [] (suc i) a h = cc
bit_at (b ∷ bs) zero a h = let e : b ≡ a = cc in ap (λ x. x ∷ bs) e
bit_at (b ∷ bs) (suc i) a h = bit_at bs i a h

bit_from : (bs : List Bool) (i : ℕ) (a : Bool) → slice_get bs i ≡ Some a → drop i bs ≡ a ∷ drop (i + 1) bs
bit_from bs i a h = let up : suc i ≡ i + 1 = omega arith in bit_at bs i a h ∙ ap (λ n. a ∷ drop n bs) up

pub equal_on : (bs : List Bool) (i : ℕ) (a b : Bool) (all : Bool) → slice_get bs i ≡ Some a → same_bool a b ≡ true → all ≡ all_equal b (drop i bs) → all ≡ all_equal b (drop (i + 1) bs)
equal_on bs i true true all h on before = before ∙ ap (all_equal true) (bit_from bs i true h)
equal_on bs i false true all h on before = cc
equal_on bs i true false all h on before = cc
equal_on bs i false false all h on before = before ∙ ap (all_equal false) (bit_from bs i false h)

pub equal_off : (bs : List Bool) (i : ℕ) (a b : Bool) (all : Bool) → slice_get bs i ≡ Some a → same_bool a b ≡ false → all ≡ all_equal b (drop i bs) → false ≡ all
equal_off bs i true true all h off before = cc
equal_off bs i false true all h off before = sym (before ∙ ap (all_equal true) (bit_from bs i false h))
equal_off bs i true false all h off before = sym (before ∙ ap (all_equal false) (bit_from bs i true h))
equal_off bs i false false all h off before = cc

none_left : (bs : List Bool) (i : ℕ) → length bs ≤ i → drop i bs ≡ []
none_left [] zero h = refl
none_left [] (suc i) h = refl
none_left (b ∷ bs) zero h = absurd (omega (arith, h))
none_left (b ∷ bs) (suc i) h = none_left bs i (omega (arith, h))

pub equal_end : (bs : List Bool) (i : ℕ) (b : Bool) (all : Bool) → length bs ≤ i → all ≡ all_equal b (drop i bs) → all ≡ true
equal_end bs i b all past before = before ∙ ap (all_equal b) (none_left bs i past)
