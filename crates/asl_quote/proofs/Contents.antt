-- What stands between the quotes: after its opening quote a literal is its content and the closing quote, and the digits
-- of the content are as many as the literal's, all fixed unless it is a mask.
use Rattle.std.proofs.Common.{◌≡◌, ℕ, ◌+◌, List, [], ◌∷◌, ◌++◌, length, Bool, true, false, cond, Option, Some, None, refl, sym, ◌∙◌, ap, subst, arith, rules}
use Rattle.std.specs.Prelude.{◌==◌, ◌||◌, not, is_some, option_and_then}
use Rattle.std.specs.Int.{from_bool}
use Rattle.std.proofs.lemmas.Bool.{and_parts, not-true}
use Rattle.std.proofs.lemmas.List.Sums.{sum_by-cons}
use Rattle.std.specs.Option.{option_map_or}
use Rattle.std.specs.List.{cons_option, list_all}
use Rattle.asl_quote.specs.declared.QuoteState.{QuoteState}
use Rattle.asl_quote.specs.declared.QuoteState.TheVariants as at
use Rattle.asl_quote.specs.Bytes.{is_bit, is_digit, is_mask, digit_count, is_no_quote}
use Rattle.asl_quote.specs.Quotes.{closes, content_step, quote_step, quote_digit, quote_run, content_run, content_digits, content_len, quote_len, is_fixed, ClosedAt}

-- ---- the closing quote

no_quote_bits : (b : ℕ) (t : QuoteState) (x : Bool) → (b == 39) ≡ x → content_step at.Bits b ≡ Some t → x ≡ false
no_quote_bits b t false e h = refl
no_quote_bits b t true e h = let is : b ≡ 39 = search rules in absurd (let n : content_step at.Bits 39 ≡ Some t = subst (λ (k : ℕ). content_step at.Bits k ≡ Some t) is h in cc)

no_quote_text : (b : ℕ) (t : QuoteState) (x : Bool) → (b == 34) ≡ x → content_step at.Text b ≡ Some t → x ≡ false
no_quote_text b t false e h = refl
no_quote_text b t true e h = let is : b ≡ 34 = search rules in absurd (let n : content_step at.Text 34 ≡ Some t = subst (λ (k : ℕ). content_step at.Text k ≡ Some t) is h in cc)

-- no byte of the content closes the literal
not_closing : (s t : QuoteState) (b : ℕ) → content_step s b ≡ Some t → closes s b ≡ false
not_closing at.Bits t b h = no_quote_bits b t (b == 39) refl h
not_closing at.EmptyGroup t b h = refl
not_closing at.Group t b h = refl
not_closing at.Text t b h = no_quote_text b t (b == 34) refl h
not_closing at.Escape t b h = refl
not_closing at.Closed t b h = refl

two_ways : (p q : Bool) (x y : QuoteState) → (x ≡ at.Closed → ⊥) → (y ≡ at.Closed → ⊥) →
    cond p (Some x) (cond q (Some y) None) ≡ Some at.Closed → ⊥
two_ways true q x y no_x no_y h = no_x cc
two_ways false true x y no_x no_y h = no_y cc
two_ways false false x y no_x no_y h = absurd cc

one_way : (p : Bool) (x : QuoteState) → (x ≡ at.Closed → ⊥) → cond p (Some x) None ≡ Some at.Closed → ⊥
one_way true x no_x h = no_x cc
one_way false x no_x h = absurd cc

-- the content doesn't close the literal
content_open : (s : QuoteState) (b : ℕ) → content_step s b ≡ Some at.Closed → ⊥
content_open at.Bits b h = two_ways _ _ at.Bits at.EmptyGroup (λ e. absurd cc) (λ e. absurd cc) h
content_open at.EmptyGroup b h = two_ways _ _ at.Group at.EmptyGroup (λ e. absurd cc) (λ e. absurd cc) h
content_open at.Group b h = two_ways _ _ at.Group at.Bits (λ e. absurd cc) (λ e. absurd cc) h
content_open at.Text b h = two_ways _ _ at.Escape at.Text (λ e. absurd cc) (λ e. absurd cc) h
content_open at.Escape b h = one_way _ at.Text (λ e. absurd cc) h
content_open at.Closed b h = absurd cc

step_more : (s t : QuoteState) (b : ℕ) → content_step s b ≡ Some t → quote_step s b ≡ Some t
step_more s t b h = rw (not_closing s t b h) h

closed_more : (s e : QuoteState) (b : ℕ) (bs : List ℕ) (q : ℕ) → ((t : QuoteState) → content_run t bs ≡ Some e → quote_run t (bs ++ q ∷ []) ≡ Some at.Closed) →
    (o : Option QuoteState) → content_step s b ≡ o → option_and_then (λ next. content_run next bs) o ≡ Some e →
    option_and_then (λ next. quote_run next (bs ++ q ∷ [])) (quote_step s b) ≡ Some at.Closed
closed_more s e b bs q more None i k = absurd cc
closed_more s e b bs q more (Some t) i k = rw (step_more s t b i) (more t k)

-- content and its closing quote are a whole literal
pub closed_content : (s e : QuoteState) (bs : List ℕ) (q : ℕ) → content_run s bs ≡ Some e → closes e q ≡ true → quote_run s (bs ++ q ∷ []) ≡ Some at.Closed
closed_content s e [] q h c = let same : s ≡ e = cc in rw (same, c) refl
closed_content s e (b ∷ bs) q h c = closed_more s e b bs q (λ t k. closed_content t e bs q k c) (content_step s b) refl h

closed_stops : (bs : List ℕ) (q : ℕ) → quote_run at.Closed (bs ++ q ∷ []) ≡ None
closed_stops [] q = refl
closed_stops (b ∷ bs) q = refl

never_closed : (s : QuoteState) (q : ℕ) (o : Option QuoteState) → content_step s q ≡ o → option_and_then (λ next. Some next) o ≡ Some at.Closed → ⊥
never_closed s q None i j = absurd cc
never_closed s q (Some t) i j = content_open s q cc

last_byte : (s : QuoteState) (q : ℕ) (c : Bool) → closes s q ≡ c → option_and_then (λ next. Some next) (cond c (Some at.Closed) (content_step s q)) ≡ Some at.Closed → ClosedAt s [] q
last_byte s q true e k = record { end = s; content = refl; closing = e }
last_byte s q false e k = absurd (never_closed s q (content_step s q) refl k)

content_more : (s : QuoteState) (b : ℕ) (bs : List ℕ) (q : ℕ) → ((t : QuoteState) → quote_run t (bs ++ q ∷ []) ≡ Some at.Closed → ClosedAt t bs q) →
    (o : Option QuoteState) → content_step s b ≡ o → option_and_then (λ next. quote_run next (bs ++ q ∷ [])) o ≡ Some at.Closed → ClosedAt s (b ∷ bs) q
content_more s b bs q more None i j = absurd cc
content_more s b bs q more (Some t) i j = let r = more t j in record { end = r.end; content = rw i r.content; closing = r.closing }

first_byte : (s : QuoteState) (b : ℕ) (bs : List ℕ) (q : ℕ) → ((t : QuoteState) → quote_run t (bs ++ q ∷ []) ≡ Some at.Closed → ClosedAt t bs q) →
    (c : Bool) → closes s b ≡ c → option_and_then (λ next. quote_run next (bs ++ q ∷ [])) (cond c (Some at.Closed) (content_step s b)) ≡ Some at.Closed → ClosedAt s (b ∷ bs) q
first_byte s b bs q more true e k = absurd (let n = closed_stops bs q in cc)
first_byte s b bs q more false e k = content_more s b bs q more (content_step s b) refl k

-- a whole literal is content and its closing quote
pub content_closed : (s : QuoteState) (bs : List ℕ) (q : ℕ) → quote_run s (bs ++ q ∷ []) ≡ Some at.Closed → ClosedAt s bs q
content_closed s [] q h = last_byte s q (closes s q) refl h
content_closed s (b ∷ bs) q h = first_byte s b bs q (λ t k. content_closed t bs q k) (closes s b) refl h

-- ---- digits

abbrev pub is_digital : QuoteState → Bool
is_digital at.Bits = true
is_digital at.EmptyGroup = true
is_digital at.Group = true
is_digital at.Text = false
is_digital at.Escape = false
is_digital at.Closed = false

stays : (p q : Bool) (x y t : QuoteState) → is_digital x ≡ true → is_digital y ≡ true → cond p (Some x) (cond q (Some y) None) ≡ Some t → is_digital t ≡ true
stays true q x y t dx dy h = let e : x ≡ t = cc in rw (sym e) dx
stays false true x y t dx dy h = let e : y ≡ t = cc in rw (sym e) dy
stays false false x y t dx dy h = absurd cc

digital_step : (s t : QuoteState) (b : ℕ) → is_digital s ≡ true → content_step s b ≡ Some t → is_digital t ≡ true
digital_step at.Bits t b d h = stays _ _ at.Bits at.EmptyGroup t refl refl h
digital_step at.EmptyGroup t b d h = stays _ _ at.Group at.EmptyGroup t refl refl h
digital_step at.Group t b d h = stays _ _ at.Group at.Bits t refl refl h
digital_step at.Text t b d h = absurd cc
digital_step at.Escape t b d h = absurd cc
digital_step at.Closed t b d h = absurd cc

-- a digit that isn't fixed
abbrev none_bit : Option Bool
none_bit = None

bits_write : (p q r : Bool) → is_some (cond p (Some (Some false)) (cond q (Some (Some true)) (cond r (Some none_bit) None))) ≡ ((p || q) || r)
bits_write true q r = refl
bits_write false true r = refl
bits_write false false true = refl
bits_write false false false = refl

group_write : (p r : Bool) → r ≡ false → is_some (cond p (Some none_bit) None) ≡ (p || r)
group_write true r h = refl
group_write false r h = sym h

no_x : (s t : QuoteState) (b : ℕ) (x : Bool) → (b == 120) ≡ x → content_step s 120 ≡ None → content_step s b ≡ Some t → x ≡ false
no_x s t b false e n h = refl
no_x s t b true e n h = let is : b ≡ 120 = search rules in absurd (let k : content_step s 120 ≡ Some t = subst (λ (m : ℕ). content_step s m ≡ Some t) is h in cc)

-- the bytes that write a digit
writes : (s t : QuoteState) (b : ℕ) → is_digital s ≡ true → content_step s b ≡ Some t → is_some (quote_digit s b) ≡ is_digit b
writes at.Bits t b d h = bits_write (b == 48) (b == 49) (b == 120)
writes at.EmptyGroup t b d h = group_write (is_bit b) (b == 120) (no_x at.EmptyGroup t b (b == 120) refl refl h)
writes at.Group t b d h = group_write (is_bit b) (b == 120) (no_x at.Group t b (b == 120) refl refl h)
writes at.Text t b d h = absurd cc
writes at.Escape t b d h = absurd cc
writes at.Closed t b d h = absurd cc

pub digit_count-cons : (b : ℕ) (bs : List ℕ) → digit_count (b ∷ bs) ≡ from_bool (is_digit b) + digit_count bs
digit_count-cons b bs = sum_by-cons (λ x. cond (is_digit x) 1 0) b bs ∙ ap (λ (n : ℕ). n + digit_count bs) (one_if (is_digit b))
  where
    one_if : (x : Bool) → cond x 1 0 ≡ from_bool x
    one_if true = refl
    one_if false = refl

one_more : (o : Option (Option Bool)) (n : ℕ) (ds : List (Option Bool)) → length ds ≡ n → length (cons_option o ds) ≡ from_bool (is_some o) + n
one_more None n ds h = omega (arith, h)
one_more (Some d) n ds h = omega (arith, h)

digits_more : (s e : QuoteState) (b : ℕ) (bs : List ℕ) → is_digital s ≡ true →
    ((t : QuoteState) → is_digital t ≡ true → content_run t bs ≡ Some e → length (content_digits t bs) ≡ digit_count bs) →
    (o : Option QuoteState) → content_step s b ≡ o → option_and_then (λ next. content_run next bs) o ≡ Some e →
    length (option_map_or (λ next. cons_option (quote_digit s b) (content_digits next bs)) o []) ≡ from_bool (is_digit b) + digit_count bs
digits_more s e b bs d more None i k = absurd cc
digits_more s e b bs d more (Some t) i k =
    one_more (quote_digit s b) (digit_count bs) (content_digits t bs) (more t (digital_step s t b d i) k)
    ∙ ap (λ (x : Bool). from_bool x + digit_count bs) (writes s t b d i)

-- the content of bits or a mask writes as many digits as the literal has
pub length-content_digits : (s e : QuoteState) (bs : List ℕ) → is_digital s ≡ true → content_run s bs ≡ Some e → length (content_digits s bs) ≡ digit_count bs
length-content_digits s e [] d h = refl
length-content_digits s e (b ∷ bs) d h =
    digits_more s e b bs d (λ t k j. length-content_digits t e bs k j) (content_step s b) refl h
    ∙ sym (digit_count-cons b bs)

-- ---- masks

-- what a whole content and one that a group begins say of their digits
abbrev FixedUnlessMask : List ℕ → Type 0
FixedUnlessMask bs = content_run at.Bits bs ≡ Some at.Bits → list_all is_fixed (content_digits at.Bits bs) ≡ not (is_mask bs)

abbrev FreeInGroup : List ℕ → Type 0
FreeInGroup bs = content_run at.EmptyGroup bs ≡ Some at.Bits → list_all is_fixed (content_digits at.EmptyGroup bs) ≡ false

bits_byte : (b : ℕ) (bs : List ℕ) (zero one space x paren : Bool) → (b == 48) ≡ zero → (b == 49) ≡ one → (b == 32) ≡ space → (b == 120) ≡ x → (b == 40) ≡ paren →
    FixedUnlessMask bs → FreeInGroup bs → FixedUnlessMask (b ∷ bs)
bits_byte b bs true _ _ _ _ e f g i j fixed free = let is : b ≡ 48 = search rules in subst (λ (k : ℕ). FixedUnlessMask (k ∷ bs)) (sym is) fixed
bits_byte b bs false true _ _ _ e f g i j fixed free = let is : b ≡ 49 = search rules in subst (λ (k : ℕ). FixedUnlessMask (k ∷ bs)) (sym is) fixed
bits_byte b bs false false true _ _ e f g i j fixed free = let is : b ≡ 32 = search rules in subst (λ (k : ℕ). FixedUnlessMask (k ∷ bs)) (sym is) fixed
bits_byte b bs false false false true _ e f g i j fixed free = let is : b ≡ 120 = search rules in subst (λ (k : ℕ). FixedUnlessMask (k ∷ bs)) (sym is) (λ h. refl)
bits_byte b bs false false false false true e f g i j fixed free = let is : b ≡ 40 = search rules in subst (λ (k : ℕ). FixedUnlessMask (k ∷ bs)) (sym is) free
bits_byte b bs false false false false false e f g i j fixed free = λ h. absurd (let n : content_step at.Bits b ≡ None = rw (e, f, g, i, j) refl in cc)

group_byte : (b : ℕ) (bs : List ℕ) (zero one space : Bool) → (b == 48) ≡ zero → (b == 49) ≡ one → (b == 32) ≡ space → FreeInGroup bs → FreeInGroup (b ∷ bs)
group_byte b bs true _ _ e f g free = let is : b ≡ 48 = search rules in subst (λ (k : ℕ). FreeInGroup (k ∷ bs)) (sym is) (λ h. refl)
group_byte b bs false true _ e f g free = let is : b ≡ 49 = search rules in subst (λ (k : ℕ). FreeInGroup (k ∷ bs)) (sym is) (λ h. refl)
group_byte b bs false false true e f g free = let is : b ≡ 32 = search rules in subst (λ (k : ℕ). FreeInGroup (k ∷ bs)) (sym is) free
group_byte b bs false false false e f g free = λ h. absurd (let n : content_step at.EmptyGroup b ≡ None = rw (e, f, g) refl in cc)

free_in_group : (bs : List ℕ) → FreeInGroup bs
free_in_group [] = λ h. absurd cc
free_in_group (b ∷ bs) = group_byte b bs (b == 48) (b == 49) (b == 32) refl refl refl (free_in_group bs)

-- the digits of a literal are all fixed exactly where it is no mask
pub fixed_unless_mask : (bs : List ℕ) → content_run at.Bits bs ≡ Some at.Bits → list_all is_fixed (content_digits at.Bits bs) ≡ not (is_mask bs)
fixed_unless_mask [] = λ h. refl
fixed_unless_mask (b ∷ bs) = bits_byte b bs (b == 48) (b == 49) (b == 32) (b == 120) (b == 40) refl refl refl refl refl (fixed_unless_mask bs) (free_in_group bs)

-- ---- where a malformed literal stops

stop_more : (s : QuoteState) (b : ℕ) (bs rest : List ℕ) →
    ((t : QuoteState) → is_digital t ≡ true → (content_run t bs ≡ Some at.Bits → ⊥) → quote_len t (bs ++ 39 ∷ rest) ≡ content_len t bs) →
    is_digital s ≡ true → (o : Option QuoteState) → content_step s b ≡ o → (option_and_then (λ next. content_run next bs) o ≡ Some at.Bits → ⊥) →
    option_map_or (λ next. 1 + quote_len next (bs ++ 39 ∷ rest)) o 0 ≡ option_map_or (λ next. 1 + content_len next bs) o 0
stop_more s b bs rest more d None i bad = refl
stop_more s b bs rest more d (Some t) i bad = ap (λ (n : ℕ). 1 + n) (more t (digital_step s t b d i) bad)

no_closing : (s : QuoteState) (b : ℕ) → is_digital s ≡ true → is_no_quote b ≡ true → closes s b ≡ false
no_closing at.Bits b d h = not-true (b == 39) h
no_closing at.EmptyGroup b d h = refl
no_closing at.Group b d h = refl
no_closing at.Text b d h = absurd cc
no_closing at.Escape b d h = absurd cc
no_closing at.Closed b d h = absurd cc

-- a malformed literal of bits or a mask goes on, behind its opening quote, as far as its content does
pub quote_len-malformed : (s : QuoteState) (bs rest : List ℕ) → is_digital s ≡ true → list_all is_no_quote bs ≡ true →
    (content_run s bs ≡ Some at.Bits → ⊥) → quote_len s (bs ++ 39 ∷ rest) ≡ content_len s bs
quote_len-malformed at.Bits [] rest d n bad = absurd (bad refl)
quote_len-malformed at.EmptyGroup [] rest d n bad = refl
quote_len-malformed at.Group [] rest d n bad = refl
quote_len-malformed at.Text [] rest d n bad = absurd cc
quote_len-malformed at.Escape [] rest d n bad = absurd cc
quote_len-malformed at.Closed [] rest d n bad = absurd cc
quote_len-malformed s (b ∷ bs) rest d n bad =
    let p = and_parts (is_no_quote b) (list_all is_no_quote bs) n in
    rw (no_closing s b d p.0) (stop_more s b bs rest (λ t e k. quote_len-malformed t bs rest e p.1 k) d (content_step s b) refl bad)

-- the two above for bits and masks behind the opening quote
pub content_width : (bs : List ℕ) → content_run at.Bits bs ≡ Some at.Bits → length (content_digits at.Bits bs) ≡ digit_count bs
content_width bs h = length-content_digits at.Bits at.Bits bs refl h

pub bits_malformed : (bs rest : List ℕ) → list_all is_no_quote bs ≡ true → (content_run at.Bits bs ≡ Some at.Bits → ⊥) → quote_len at.Bits (bs ++ 39 ∷ rest) ≡ content_len at.Bits bs
bits_malformed bs rest n bad = quote_len-malformed at.Bits bs rest refl n bad

pub ruleset literal_facts = (closed_content, content_closed, content_width, fixed_unless_mask, bits_malformed)
