-- The text of a token of bits is a literal: a number stands at each of its digits, of which there are as many as the width limit allows.
use Rattle.std.proofs.Common.{◌≡◌, ℕ, ◌≤◌, ◌||◌, List, [], ◌∷◌, ◌++◌, length, Bool, true, false, cond, Option, Some, None, refl, sym, ◌∙◌, ap, subst, arith, rules}
use Rattle.std.specs.Prelude.{not, is_some, option_and_then, nat_le, reverse}
use Rattle.std.specs.Option.{option_map_or}
use Rattle.std.specs.List.{cons_option, list_any}
use Rattle.std.proofs.lemmas.Bool.Decides.{nat_tests}
use Rattle.std.proofs.lemmas.List.{length-map}
use Rattle.std.proofs.lemmas.List.Folds.{list_any-append}
use Rattle.asl_syn.specs.declared.code.StaticCode.{StaticCode}
use Rattle.asl_syn.specs.declared.code.StaticCode.TheVariants.{L04}
use Rattle.asl_syn.specs.declared.token.TokenKind.TheVariants as kinds
use Rattle.asl_quote.specs.declared.QuoteState.{QuoteState}
use Rattle.asl_quote.specs.declared.QuoteState.TheVariants as at
use Rattle.asl_quote.specs.Bytes.{is_mask_byte, is_mask, digit_count}
use Rattle.asl_quote.specs.Quotes.{closes, content_step, quote_digit, quote_run, content_run, content_digits, ClosedAt}
use Rattle.asl_quote.proofs.Contents.{is_digital, content_closed, digit_count-cons}
use Rattle.asl_mask.specs.Digits.{fixed_bits}
use Rattle.asl_mask.specs.Texts.{mask_of}
use Rattle.asl_mask.proofs.Texts.{length-mask_of, bits_of_text, fixed_bits-is}
use Rattle.asl_grammar.specs.lexemes.Lexemes.{IsLexeme, IsQuoted}
use Rattle.asl_grammar.specs.lexemes.Refusals.{refusal, too_many}
use Rattle.asl_cons.proofs.EndsAsWidths.{true_le}
use Rattle.asl_rules.specs.values.Vectors.{literal_digits, literal_of}

-- the text has the bits of a literal under this width limit
abbrev pub IsLiteral : ℕ → List ℕ → Type 0
IsLiteral limit text = (bs : List Bool) × (literal_of limit text ≡ Some bs)

-- it has as many digits as the limit allows
pub digits_within : (limit : ℕ) (text : List ℕ) (bs : List Bool) → literal_of limit text ≡ Some bs → length bs ≤ limit
digits_within limit text bs = by (nat_le (length (literal_digits text)) limit) refl
  where
    by : (b : Bool) → nat_le (length (literal_digits text)) limit ≡ b → cond b (fixed_bits (literal_digits text)) None ≡ Some bs →
        length bs ≤ limit
    by true e h =
        subst (λ n. n ≤ limit) (ap length (fixed_bits-is (literal_digits text) bs h) ∙ length-map bs (λ b. Some b))
        (true_le (length (literal_digits text)) limit e)
    by false e h = absurd cc

-- ---- the closing quote

-- a text that isn't empty has a last byte
last_of : (b : ℕ) (bs : List ℕ) → (front : List ℕ) × ((q : ℕ) × (b ∷ bs ≡ front ++ q ∷ []))
last_of b [] = ([], (b, refl))
last_of b (c ∷ cs) = let r = last_of c cs in (b ∷ r.0, (r.1.0, ap (λ l. b ∷ l) r.1.1))

-- a literal of digits goes on as one
stays : (p q : Bool) (x y t : QuoteState) → is_digital x ≡ true → is_digital y ≡ true → cond p (Some x) (cond q (Some y) None) ≡ Some t →
    is_digital t ≡ true
stays true q x y t dx dy h = let e : x ≡ t = cc in subst (λ z. is_digital z ≡ true) e dx
stays false true x y t dx dy h = let e : y ≡ t = cc in subst (λ z. is_digital z ≡ true) e dy
stays false false x y t dx dy h = absurd cc

digital_step : (s t : QuoteState) (b : ℕ) → is_digital s ≡ true → content_step s b ≡ Some t → is_digital t ≡ true
digital_step at.Bits t b d h = stays _ _ at.Bits at.EmptyGroup t refl refl h
digital_step at.EmptyGroup t b d h = stays _ _ at.Group at.EmptyGroup t refl refl h
digital_step at.Group t b d h = stays _ _ at.Group at.Bits t refl refl h
digital_step at.Text t b d h = absurd cc
digital_step at.Escape t b d h = absurd cc
digital_step at.Closed t b d h = absurd cc

digital_by : (s e : QuoteState) (bs : List ℕ) (o : Option QuoteState) →
    ((t : QuoteState) → o ≡ Some t → content_run t bs ≡ Some e → is_digital e ≡ true) →
    option_and_then (λ next. content_run next bs) o ≡ Some e → is_digital e ≡ true
digital_by s e bs None more h = absurd cc
digital_by s e bs (Some t) more h = more t refl h

digital_run : (s e : QuoteState) (bs : List ℕ) → is_digital s ≡ true → content_run s bs ≡ Some e → is_digital e ≡ true
digital_run s e [] d h = let is : s ≡ e = cc in subst (λ z. is_digital z ≡ true) is d
digital_run s e (b ∷ bs) d h = digital_by s e bs (content_step s b) (λ t i k. digital_run t e bs (digital_step s t b d i) k) h

-- where a literal of digits closes it is outside of groups, and the quote is no content
closes_bits : (e : QuoteState) (q : ℕ) → is_digital e ≡ true → closes e q ≡ true → (e ≡ at.Bits) × (content_step e q ≡ None)
closes_bits at.Bits q d h = let is : q ≡ 39 = search rules in (refl, subst (λ (k : ℕ). content_step at.Bits k ≡ None) (sym is) refl)
closes_bits at.EmptyGroup q d h = absurd cc
closes_bits at.Group q d h = absurd cc
closes_bits at.Text q d h = absurd cc
closes_bits at.Escape q d h = absurd cc
closes_bits at.Closed q d h = absurd cc

-- so it writes no digit
digits_by : (s e : QuoteState) (b : ℕ) (bs more : List ℕ) (o : Option QuoteState) →
    ((t : QuoteState) → content_run t bs ≡ Some e → content_digits t (bs ++ more) ≡ content_digits t bs) →
    option_and_then (λ next. content_run next bs) o ≡ Some e →
    option_map_or (λ next. cons_option (quote_digit s b) (content_digits next (bs ++ more))) o []
    ≡ option_map_or (λ next. cons_option (quote_digit s b) (content_digits next bs)) o []
digits_by s e b bs more None f h = absurd cc
digits_by s e b bs more (Some t) f h = ap (λ ds. cons_option (quote_digit s b) ds) (f t h)

digits_closed : (s e : QuoteState) (bs : List ℕ) (q : ℕ) → content_run s bs ≡ Some e → content_step e q ≡ None →
    content_digits s (bs ++ q ∷ []) ≡ content_digits s bs
digits_closed s e [] q h n =
    let is : s ≡ e = cc in let k : content_step s q ≡ None = subst (λ z. content_step z q ≡ None) (sym is) n in rw k refl
digits_closed s e (b ∷ bs) q h n = digits_by s e b bs (q ∷ []) (content_step s b) (λ t k. digits_closed t e bs q k n) h

-- ---- what is counted of a text is no less than of a part

count_front : (bs : List ℕ) (q : ℕ) → digit_count bs ≤ digit_count (bs ++ q ∷ [])
count_front [] q = omega arith
count_front (b ∷ bs) q =
    let m = count_front bs q in let x = digit_count-cons b bs in let y = digit_count-cons b (bs ++ q ∷ []) in omega (arith, m, x, y)

count_behind : (b : ℕ) (bs : List ℕ) → digit_count bs ≤ digit_count (b ∷ bs)
count_behind b bs = let x = digit_count-cons b bs in omega (arith, x)

neither_first : (a b : Bool) → (a || b) ≡ false → (a ≡ false) × (b ≡ false)
neither_first true b h = absurd cc
neither_first false b h = (refl, h)

-- a part of a text without mask bytes has none
front_bits : (b : ℕ) (bs : List ℕ) (q : ℕ) → is_mask (b ∷ (bs ++ q ∷ [])) ≡ false → is_mask bs ≡ false
front_bits b bs q h =
    (neither_first (list_any is_mask_byte bs) (list_any is_mask_byte (q ∷ []))
    (sym (list_any-append is_mask_byte bs (q ∷ [])) ∙ (neither_first (is_mask_byte b) (list_any is_mask_byte (bs ++ q ∷ [])) h).1)).0

-- ---- the literal

bits_there : (o : Option (List Bool)) → is_some o ≡ true → (bs : List Bool) × (o ≡ Some bs)
bits_there None h = absurd cc
bits_there (Some bs) h = (bs, refl)

allowed : (limit n : ℕ) → (let r : Option StaticCode = cond (nat_le n limit) (too_many 0) (Some L04) in r) ≡ None → nat_le n limit ≡ true
allowed limit n h = by (nat_le n limit) h
  where
    by : (b : Bool) → (let r : Option StaticCode = cond b (too_many 0) (Some L04) in r) ≡ None → b ≡ true
    by true h = refl
    by false h = absurd cc

nat_le_is : (m n : ℕ) → nat_le m n ≡ true → m ≤ n
nat_le_is m n h = grind (arith, nat_tests)

le_is_nat : (m n : ℕ) → m ≤ n → nat_le m n ≡ true
le_is_nat m n h = grind (arith, nat_tests)

quoted_literal : (limit b : ℕ) (bs : List ℕ) (q : ℕ) → quote_run at.Bits (bs ++ q ∷ []) ≡ Some at.Closed →
    is_mask (b ∷ (bs ++ q ∷ [])) ≡ false →
    nat_le (digit_count (b ∷ (bs ++ q ∷ []))) limit ≡ true → IsLiteral limit (b ∷ (bs ++ q ∷ []))
quoted_literal limit b bs q run bits few =
    let c : ClosedAt at.Bits bs q = content_closed at.Bits bs q run in
    let e = closes_bits c.end q (digital_run at.Bits c.end bs refl c.content) c.closing in
    let content : content_run at.Bits bs ≡ Some at.Bits = subst (λ z. content_run at.Bits bs ≡ Some z) e.0 c.content in
    let same : mask_of (bs ++ q ∷ []) ≡ mask_of bs = ap reverse (digits_closed at.Bits c.end bs q c.content e.1) in
    let fixed = bits_there (fixed_bits (mask_of bs)) (bits_of_text bs content ∙ ap not (front_bits b bs q bits)) in
    let width : length (mask_of bs) ≤ limit =
    (let m = length-mask_of bs content in let x = count_front bs q in let y = count_behind b (bs ++ q ∷ []) in
    let z = nat_le_is (digit_count (b ∷ (bs ++ q ∷ []))) limit few in omega (arith, m, x, y, z)) in (
      fixed.0,
      subst (λ ms. (cond (nat_le (length ms) limit) (fixed_bits ms) None) ≡ Some fixed.0) (sym same)
          (rw (le_is_nat (length (mask_of bs)) limit width) fixed.1),
    )

last_literal : (limit b : ℕ) (rest : List ℕ) (front : List ℕ) (q : ℕ) → rest ≡ front ++ q ∷ [] →
    quote_run at.Bits rest ≡ Some at.Closed → is_mask (b ∷ rest) ≡ false →
    nat_le (digit_count (b ∷ rest)) limit ≡ true → IsLiteral limit (b ∷ rest)
last_literal limit b rest front q is run bits few =
    subst (λ (l : List ℕ). IsLiteral limit (b ∷ l)) (sym is) (quoted_literal limit b front q
    (subst (λ l. quote_run at.Bits l ≡ Some at.Closed) is run) (subst (λ (l : List ℕ). is_mask (b ∷ l) ≡ false) is bits)
    (subst (λ (l : List ℕ). nat_le (digit_count (b ∷ l)) limit ≡ true) is few))

text_literal : (limit : ℕ) (text : List ℕ) → IsQuoted at.Bits text → is_mask text ≡ false → nat_le (digit_count text) limit ≡ true →
    IsLiteral limit text
text_literal limit [] h bits few = absurd h
text_literal limit (b ∷ []) h bits few = absurd (let k = h.1 in cc)
text_literal limit (b ∷ c ∷ rest) h bits few = let l = last_of c rest in last_literal limit b (c ∷ rest) l.0 l.1.0 l.1.1 h.1 bits few

-- a text that is a lexeme of bits, and isn't refused
pub token_literal : (limit : ℕ) (text : List ℕ) → IsLexeme text kinds.Bits → refusal limit kinds.Bits text 0 ≡ None → IsLiteral limit text
token_literal limit text h k = text_literal limit text h.0 h.1 (allowed limit (digit_count text) k)
