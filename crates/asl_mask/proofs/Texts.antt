-- The clauses of `literal_law`.
use Rattle.std.proofs.Common.{◌≡◌, ℕ, List, [], ◌∷◌, length, reverse, Bool, true, false, refl, ◌∙◌, ap}
use Rattle.std.specs.Prelude.{Option, Some, None, ◌&&◌, not, is_some, map, option_map}
use Rattle.std.specs.List.{list_all}
use Rattle.std.proofs.lemmas.List.{length-reverse}
use Rattle.std.proofs.lemmas.Grind.{reverse_onto}
use Rattle.std.proofs.lemmas.List.Folds.{list_all-append}
use Rattle.asl_quote.specs.declared.QuoteState.TheVariants as at
use Rattle.asl_quote.specs.Bytes.{is_mask, digit_count}
use Rattle.asl_quote.specs.Quotes.{content_digits, is_fixed}
use Rattle.asl_quote.proofs.Contents.{content_width, fixed_unless_mask}
use Rattle.asl_mask.specs.Digits.{fixed_bits}
use Rattle.asl_mask.specs.Texts.{IsContent, mask_of}

pub length-mask_of : (text : List ℕ) → IsContent text → length (mask_of text) ≡ digit_count text
length-mask_of text h = length-reverse (content_digits at.Bits text) ∙ content_width text h

and_swap : (a b : Bool) → (a && (b && true)) ≡ (b && a)
and_swap true true = refl
and_swap true false = refl
and_swap false true = refl
and_swap false false = refl

all_reversed : (ms : List (Option Bool)) → list_all is_fixed (reverse ms) ≡ list_all is_fixed ms
all_reversed [] = refl
all_reversed (m ∷ ms) =
    ap (list_all is_fixed) (reverse_onto ms m [])
    ∙ list_all-append is_fixed (reverse ms) (m ∷ [])
    ∙ and_swap (list_all is_fixed (reverse ms)) (is_fixed m)
    ∙ ap (λ (b : Bool). is_fixed m && b) (all_reversed ms)

mapped : (b : Bool) (o : Option (List Bool)) → is_some (option_map (λ bs. b ∷ bs) o) ≡ is_some o
mapped b None = refl
mapped b (Some bs) = refl

all_bits : (ms : List (Option Bool)) → is_some (fixed_bits ms) ≡ list_all is_fixed ms
unfolding fixed_bits
all_bits [] = refl
all_bits (None ∷ ms) = refl
all_bits (Some b ∷ ms) = mapped b (fixed_bits ms) ∙ all_bits ms

pub bits_of_text : (text : List ℕ) → IsContent text → is_some (fixed_bits (mask_of text)) ≡ not (is_mask text)
bits_of_text text h = all_bits (mask_of text) ∙ all_reversed (content_digits at.Bits text) ∙ fixed_unless_mask text h

pub fixed_bits-some : (bs : List Bool) → fixed_bits (map (λ b. Some b) bs) ≡ Some bs
unfolding fixed_bits
fixed_bits-some [] = refl
fixed_bits-some (b ∷ bs) = rw (fixed_bits-some bs) refl

some_by : (b : Bool) (ms : List (Option Bool)) (bs : List Bool) (o : Option (List Bool)) → ((cs : List Bool) → o ≡ Some cs → ms ≡ map (λ c. Some c) cs) →
    option_map (λ cs. b ∷ cs) o ≡ Some bs → (Some b ∷ ms) ≡ map (λ c. Some c) bs
some_by b ms bs None more h = absurd cc
some_by b ms bs (Some cs) more h =
    let is : (b ∷ cs) ≡ bs = cc in
    ap (λ (xs : List (Option Bool)). Some b ∷ xs) (more cs refl) ∙ ap (map (λ c. Some c)) is

pub fixed_bits-is : (ms : List (Option Bool)) (bs : List Bool) → fixed_bits ms ≡ Some bs → ms ≡ map (λ b. Some b) bs
unfolding fixed_bits
fixed_bits-is [] bs h = let is : [] ≡ bs = cc in ap (map (λ b. Some b)) is
fixed_bits-is (None ∷ ms) bs h = absurd cc
fixed_bits-is (Some b ∷ ms) bs h = some_by b ms bs (fixed_bits ms) (λ cs e. fixed_bits-is ms cs e) h

pub ruleset text_laws = (length-mask_of, bits_of_text, fixed_bits-some, fixed_bits-is)
