-- The digits of literals, one behind another.
use Rattle.std.proofs.Common.{◌≡◌, ℕ, ◌+◌, ◌<◌, ◌≤◌, Bool, true, false, cond, List, [], ◌∷◌, ◌++◌, length, map, get_or, drop, Option, Some, None, Result, Ok, refl, sym, ap, ◌∙◌, subst, arith, append_assoc, append-nil}
use Rattle.std.specs.Prelude.{nat_le, ◌==◌, reverse}
use Rattle.std.specs.Option.{option_map_or}
use Rattle.std.specs.List.{cons_option}
use Rattle.std.proofs.lemmas.Bool.Decides.{nat_tests}
use Rattle.std.proofs.lemmas.List.{length-reverse}
use Rattle.asl_quote.specs.declared.QuoteState.{QuoteState}
use Rattle.asl_quote.specs.declared.QuoteState.TheVariants as at
use Rattle.asl_quote.specs.Quotes.{content_step, content_run, content_digits, quote_digit}
use Rattle.asl_bits.specs.declared.TheConstants.{WIDTH_LIMIT}
use Rattle.asl_mask.specs.Digits.{mask_matches, fixed_bits}
use Rattle.asl_mask.specs.Texts.{IsContent, IsRead, mask_of}
use Rattle.asl_mask.specs.declared.MaskFault.{MaskFault}
use Rattle.asl_rules.specs.values.Vectors.{literal_digits, literal_of}
use Rattle.asl_value.specs.private.Literals.{digit_byte}
use Rattle.asl_value.proofs.Among.{at_front, none_after}

abbrev Digit : Type 0
Digit = Option Bool

pub as_long : (ds : List Digit) → length ds ≡ length (reverse ds)
as_long ds = sym (length-reverse ds)

-- ---- matching

pub apart : (ms : List Digit) (bs : List Bool) → (length ms ≡ length bs → ⊥) → None ≡ cond (length ms == length bs) (Some (mask_matches ms bs)) None
apart ms bs h = by (length ms == length bs) refl
  where
    by : (b : Bool) → (length ms == length bs) ≡ b → None ≡ cond b (Some (mask_matches ms bs)) None
    by true e = absurd (h (grind (arith, nat_tests)))
    by false e = refl

pub matched : (ms : List Digit) (bs : List Bool) (r : Bool) → length ms ≡ length bs → r ≡ mask_matches ms bs → Some r ≡ cond (length ms == length bs) (Some (mask_matches ms bs)) None
matched ms bs r h e = by (length ms == length bs) refl
  where
    by : (b : Bool) → (length ms == length bs) ≡ b → Some r ≡ cond b (Some (mask_matches ms bs)) None
    by true f = ap Some e
    by false f = absurd (let g : (length ms == length bs) ≡ true = grind (arith, nat_tests) in cc)

-- ---- bits

pub too_long : (ds : List Digit) (text : List ℕ) → reverse ds ≡ literal_digits text → WIDTH_LIMIT < length ds → None ≡ literal_of WIDTH_LIMIT text
too_long ds text e h = by (nat_le (length (literal_digits text)) WIDTH_LIMIT) refl
  where
    by : (b : Bool) → nat_le (length (literal_digits text)) WIDTH_LIMIT ≡ b → None ≡ cond b (fixed_bits (literal_digits text)) None
    by true f =
        let g : length (literal_digits text) ≡ length ds = ap (λ l. length l) (sym e) ∙ length-reverse ds in
        let k : length (literal_digits text) ≤ WIDTH_LIMIT = grind (arith, nat_tests) in
        absurd (omega arith)
    by false f = refl

pub short : (ds ms : List Digit) (text : List ℕ) (r : Option (List Bool)) → reverse ds ≡ literal_digits text → length ds ≤ WIDTH_LIMIT → ms ≡ reverse ds → r ≡ fixed_bits ms → r ≡ literal_of WIDTH_LIMIT text
short ds ms text r e h is v = by (nat_le (length (literal_digits text)) WIDTH_LIMIT) refl
  where
    by : (b : Bool) → nat_le (length (literal_digits text)) WIDTH_LIMIT ≡ b → r ≡ cond b (fixed_bits (literal_digits text)) None
    by true f = v ∙ ap fixed_bits (is ∙ e)
    by false f =
        let g : length (literal_digits text) ≡ length ds = ap (λ l. length l) (sym e) ∙ length-reverse ds in
        let k : WIDTH_LIMIT < length (literal_digits text) = grind (arith, nat_tests) in
        absurd (omega arith)

-- ---- reading

pub no_text : (text : List ℕ) → text ≡ [] → reverse {A = Digit} [] ≡ literal_digits text
no_text [] e = refl
no_text (b ∷ bs) e = cc

pub content_of : (text rest : List ℕ) (b : ℕ) (ds : List Digit) → text ≡ b ∷ rest → ds ≡ content_digits at.Bits rest → reverse ds ≡ literal_digits text
content_of text rest b ds e h = ap reverse h ∙ ap literal_digits (sym e)

-- those read stand in front of those that the bytes left write
abbrev pub DigitsRead : List ℕ → ℕ → QuoteState → List Digit → Type 0
DigitsRead bytes i state made = content_digits at.Bits bytes ≡ made ++ content_digits state (drop i bytes)

pub no_digits : (bytes : List ℕ) → DigitsRead bytes 0 at.Bits []
no_digits bytes = refl

-- the digit of a byte in front of others, where it writes one
abbrev digits_before : Option Digit → List Digit → List Digit
digits_before d ds = cons_option d ds

abbrev step_by : Option QuoteState → Option Digit → List ℕ → List Digit
step_by o d bs = option_map_or (λ next. cons_option d (content_digits next bs)) o []

some_is : (s t : QuoteState) → Some s ≡ Some t → s ≡ t
some_is s t k = cc

further : (b : ℕ) (bs : List ℕ) (state next : QuoteState) (d : Option Digit) → content_step state b ≡ Some next → quote_digit state b ≡ d → content_digits state (b ∷ bs) ≡ digits_before d (content_digits next bs)
further b bs state next d e f = by (content_step state b) (quote_digit state b) e f
  where
    by : (o : Option QuoteState) (p : Option Digit) → o ≡ Some next → p ≡ d → step_by o p bs ≡ digits_before d (content_digits next bs)
    by None p k l = cc
    by (Some s) p k l = ap (λ q. digits_before p (content_digits q bs)) (some_is s next k) ∙ ap (λ q. digits_before q (content_digits next bs)) l

pub one_digit : (bytes : List ℕ) (i b : ℕ) (state next : QuoteState) (d : Digit) (made after : List Digit) → i < length bytes → b ≡ get_or bytes i b → content_step state b ≡ Some next → quote_digit state b ≡ Some d → after ≡ made ++ d ∷ [] → DigitsRead bytes i state made → DigitsRead bytes (i + 1) next after
one_digit bytes i b state next d made after within here e f grown h =
    h ∙ ap (λ l. made ++ content_digits state l) (at_front bytes i b within here) ∙ ap (λ l. made ++ l) (further b (drop (i + 1) bytes) state next (Some d) e f) ∙
    sym (append_assoc made (d ∷ []) (content_digits next (drop (i + 1) bytes))) ∙ ap (λ l. l ++ content_digits next (drop (i + 1) bytes)) (sym grown)

pub no_digit : (bytes : List ℕ) (i b : ℕ) (state next : QuoteState) (made : List Digit) → i < length bytes → b ≡ get_or bytes i b → content_step state b ≡ Some next → quote_digit state b ≡ None → DigitsRead bytes i state made → DigitsRead bytes (i + 1) next made
no_digit bytes i b state next made within here e f h =
    h ∙ ap (λ l. made ++ content_digits state l) (at_front bytes i b within here) ∙ ap (λ l. made ++ l) (further b (drop (i + 1) bytes) state next None e f)

pub end_of_content : (bytes : List ℕ) (i b : ℕ) (state : QuoteState) (made : List Digit) → i < length bytes → b ≡ get_or bytes i b → content_step state b ≡ None → DigitsRead bytes i state made → made ≡ content_digits at.Bits bytes
end_of_content bytes i b state made within here e h =
    sym (h ∙ ap (λ l. made ++ content_digits state l) (at_front bytes i b within here) ∙ ap (λ l. made ++ l) (stopped b (drop (i + 1) bytes) state e) ∙ append-nil made)
  where
    stopped : (b : ℕ) (bs : List ℕ) (state : QuoteState) → content_step state b ≡ None → content_digits state (b ∷ bs) ≡ []
    stopped b bs state e = by (content_step state b) e
      where
        by : (o : Option QuoteState) → o ≡ None → step_by o (quote_digit state b) bs ≡ []
        by None k = refl
        by (Some s) k = cc

pub all_digits : (bytes : List ℕ) (i : ℕ) (state : QuoteState) (made : List Digit) → length bytes ≤ i → DigitsRead bytes i state made → made ≡ content_digits at.Bits bytes
all_digits bytes i state made past h = sym (h ∙ ap (λ l. made ++ content_digits state l) (none_after bytes i past) ∙ append-nil made)

-- ---- writing

is_written : (ds : List Digit) → content_run at.Bits (map digit_byte ds) ≡ Some at.Bits
is_written [] = refl
is_written (None ∷ ds) = is_written ds
is_written (Some true ∷ ds) = is_written ds
is_written (Some false ∷ ds) = is_written ds

as_written : (ds : List Digit) → content_digits at.Bits (map digit_byte ds) ≡ ds
as_written [] = refl
as_written (None ∷ ds) = ap (λ l. None ∷ l) (as_written ds)
as_written (Some true ∷ ds) = ap (λ l. Some true ∷ l) (as_written ds)
as_written (Some false ∷ ds) = ap (λ l. Some false ∷ l) (as_written ds)

pub mask_read : (ds : List Digit) (text : List ℕ) (r : Result (List Digit) MaskFault) → text ≡ map digit_byte ds → length ds ≤ WIDTH_LIMIT → IsRead r text → r ≡ Ok (reverse ds)
mask_read ds text r e h i =
    let content : IsContent text = ap (content_run at.Bits) e ∙ is_written ds in
    let digits : mask_of text ≡ reverse ds = ap (λ l. reverse (content_digits at.Bits l)) e ∙ ap reverse (as_written ds) in
    i.whole content (subst (λ n. n ≤ WIDTH_LIMIT) (sym (ap (λ l. length l) digits ∙ length-reverse ds)) h) ∙ ap Ok digits

abbrev pub BytesMade : List Digit → ℕ → List ℕ → Type 0
BytesMade ds i made = map digit_byte ds ≡ made ++ map digit_byte (drop i ds)

pub none_written : (ds : List Digit) → BytesMade ds 0 []
none_written ds = refl

pub one_written : (ds : List Digit) (i b : ℕ) (d : Digit) (made after : List ℕ) → i < length ds → d ≡ get_or ds i d → b ≡ digit_byte d → after ≡ made ++ b ∷ [] → BytesMade ds i made → BytesMade ds (i + 1) after
one_written ds i b d made after within here is grown h =
    h ∙ ap (λ l. made ++ map digit_byte l) (at_front ds i d within here) ∙ ap (λ c. made ++ c ∷ map digit_byte (drop (i + 1) ds)) (sym is) ∙
    sym (append_assoc made (b ∷ []) (map digit_byte (drop (i + 1) ds))) ∙ ap (λ l. l ++ map digit_byte (drop (i + 1) ds)) (sym grown)

pub all_written : (ds : List Digit) (i : ℕ) (made : List ℕ) → length ds ≤ i → BytesMade ds i made → made ≡ map digit_byte ds
all_written ds i made past h = sym (h ∙ ap (λ l. made ++ map digit_byte l) (none_after ds i past) ∙ append-nil made)
