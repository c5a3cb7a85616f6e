-- What is found by the first byte is the longest lexeme; where nothing is found, none begins.
use Rattle.std.proofs.Common.{◌≡◌, ℕ, zero, suc, ◌+◌, ◌≤◌, ◌<◌, ◌==◌, ◌⊎◌, inl, inr, Bool, true, false, ◌&&◌, ◌||◌, List, [], ◌∷◌, Option, Some, None, length, take, drop, refl, ap, sym, subst, arith, cond, min, one-add, rules, MatchOption}
use Rattle.std.specs.Option.{option_map_or}
use Rattle.std.proofs.lemmas.Grind.{common_steps}
use Rattle.std.proofs.Math.Seq.{take-nil}
use Rattle.std.proofs.lemmas.List.Sums.{prefix_len-le-length}
use Rattle.std.proofs.lemmas.List.{length-take-le, length-take, take_min}
use Rattle.std.specs.List.{prefix_len, list_all}
use Rattle.std.specs.Char.{is_ascii_digit}
use Rattle.asl_syn.specs.declared.token.Word.{Word}
use Rattle.asl_syn.specs.declared.token.Mark.{Mark}
use Rattle.asl_syn.specs.declared.token.TokenKind.{TokenKind}
use Rattle.asl_syn.specs.declared.token.TokenKind.TheVariants as kinds
use Rattle.asl_grammar.specs.lexemes.Bytes.{is_name_start, is_name_byte, is_decimal_byte, is_hex_digit, is_hex_byte, value_of}
use Rattle.asl_grammar.specs.lexemes.Words.{word_spelling, word_of}
use Rattle.asl_grammar.specs.lexemes.Marks.{mark_spelling, mark_of}
use Rattle.asl_grammar.specs.lexemes.Lexemes.{is_name, is_decimal, is_hex, IsLexeme, IsQuoted, LexemeAt, Longest}
use Rattle.asl_grammar.specs.private.Scanning.{kind_of_name, opens_hex, hex_len, mark_at, or_else, lexeme_of, quoted_of, longest_mark, kind_of_quote, is_closed}
use Rattle.asl_grammar.specs.lexemes.Gaps.{opens_block}
use Rattle.asl_grammar.specs.lexemes.Tokens.{NoLexeme}
use Rattle.asl_grammar.proofs.lexemes.Munch.{and_left, and_right, munch, munched}
use Rattle.asl_grammar.proofs.lexemes.Tables.{word_of_spelling, mark_of_spelling, mark_short}
use Rattle.asl_grammar.proofs.lexemes.Heads.{Head, name, number, quote, mark, head_of_byte, class_of}
use Rattle.asl_quote.specs.declared.QuoteState.{QuoteState}
use Rattle.asl_quote.specs.declared.QuoteState.TheVariants as at
use Rattle.asl_quote.specs.Bytes.{is_mask}
use Rattle.asl_quote.specs.Quotes.{opens_quote, quote_run, quote_len}
use Rattle.asl_quote.proofs.Quoting.{quote_stops, quote_len-le}
use Rattle.asl_grammar.proofs.lexemes.OneLexeme.{word_of_is, mark_of_is, name_all, decimal_all, name_class, number_class, quote_class, mark_class, digit_head, quote_head, in_class, not_empty}

-- no lexeme is longer than what the scanner finds: by the sort of the first byte
sort_at : (b : ℕ) (bs : List ℕ) (m : ℕ) (k : TokenKind) (h : Head) → head_of_byte b ≡ h → IsLexeme (take m (b ∷ bs)) k → class_of k ≡ h
sort_at b bs zero k h e l = absurd (not_empty k l)
sort_at b bs (suc m) k h e l = let c = in_class (b ∷ take m bs) k l in cc

bound_name : (b : ℕ) (bs : List ℕ) (m : ℕ) (k : TokenKind) → head_of_byte b ≡ name → m ≤ length (b ∷ bs) →
    IsLexeme (take m (b ∷ bs)) k → m ≤ prefix_len is_name_byte (b ∷ bs)
bound_name b bs m k s fits h =
    munch is_name_byte (b ∷ bs) m fits (name_all (take m (b ∷ bs)) (name_class (take m (b ∷ bs)) k (sort_at b bs m k name s h) h))

-- the scanner's number: hexadecimal where one opens, else decimal
hex_all : (m : ℕ) (bytes : List ℕ) → m ≤ length bytes → is_hex (take m bytes) ≡ true → (opens_hex bytes ≡ true) × (m ≤ hex_len bytes)
hex_all (suc (suc (suc m))) (a ∷ b ∷ c ∷ rest) fits h =
    let opened : ((a == 48) && (b == 120) && is_hex_digit c) ≡ true = and_left ((a == 48) && (b == 120) && is_hex_digit c) _ h in
    let digit : is_hex_digit c ≡ true = and_right ((a == 48) && (b == 120)) _ opened in
    let others : list_all is_hex_byte (take m rest) ≡ true = and_right ((a == 48) && (b == 120) && is_hex_digit c) _ h in
    let all : list_all is_hex_byte (take (suc m) (c ∷ rest)) ≡ true = rw digit others in
    let below : suc m ≤ prefix_len is_hex_byte (c ∷ rest) = munch is_hex_byte (c ∷ rest) (suc m) (omega arith) all in
    (opened, omega arith)
hex_all zero bytes fits h = absurd cc
hex_all (suc m) [] fits h = absurd cc
hex_all (suc zero) (a ∷ rest) fits h = absurd cc
hex_all (suc (suc m)) (a ∷ []) fits h = absurd cc
hex_all (suc (suc zero)) (a ∷ b ∷ rest) fits h = absurd cc
hex_all (suc (suc (suc m))) (a ∷ b ∷ []) fits h = absurd cc

-- where a hexadecimal number opens, a decimal one is its first digit
dec_in_hex : (bytes : List ℕ) (m : ℕ) → opens_hex bytes ≡ true → m ≤ length bytes → is_decimal (take m bytes) ≡ true → m ≤ 1
dec_in_hex bytes zero o fits h = omega arith
dec_in_hex bytes (suc zero) o fits h = omega arith
dec_in_hex (a ∷ b ∷ c ∷ rest) (suc (suc m)) o fits h = absurd (grind (arith, common_steps))
dec_in_hex (a ∷ b ∷ []) (suc (suc m)) o fits h = absurd cc
dec_in_hex (a ∷ []) (suc (suc m)) o fits h = absurd cc
dec_in_hex [] (suc (suc m)) o fits h = absurd cc

number_bound : (bytes : List ℕ) (m : ℕ) → m ≤ length bytes → (is_decimal (take m bytes) ≡ true) ⊎ (is_hex (take m bytes) ≡ true) →
    ((m ≤ prefix_len is_decimal_byte bytes) × (opens_hex bytes ≡ true → m ≤ 1)) ⊎ ((opens_hex bytes ≡ true) × (m ≤ hex_len bytes))
number_bound bytes m fits (inl h) = inl (munch is_decimal_byte bytes m fits (decimal_all (take m bytes) h), λ o. dec_in_hex bytes m o fits h)
number_bound bytes m fits (inr h) = inr (hex_all m bytes fits h)

bound_number : (b : ℕ) (bs : List ℕ) (m : ℕ) (k : TokenKind) → head_of_byte b ≡ number → m ≤ length (b ∷ bs) →
    IsLexeme (take m (b ∷ bs)) k → ((m ≤ prefix_len is_decimal_byte (b ∷ bs)) × (opens_hex (b ∷ bs) ≡ true → m ≤ 1)) ⊎ ((opens_hex (b ∷ bs) ≡ true) × (m ≤ hex_len (b ∷ bs)))
bound_number b bs m k d fits h = number_bound (b ∷ bs) m fits (number_class (take m (b ∷ bs)) k (sort_at b bs m k number d h) h)

bound_mark : (b : ℕ) (bs : List ℕ) (m : ℕ) (k : TokenKind) → head_of_byte b ≡ mark → m ≤ length (b ∷ bs) →
    IsLexeme (take m (b ∷ bs)) k → (0 < m) × (m ≤ 3) × ((l : Mark) × (take m (b ∷ bs) ≡ mark_spelling l))
bound_mark b bs zero k d fits h = absurd (not_empty k h)
bound_mark b bs (suc m) k d fits h =
    let l = mark_class (take (suc m) (b ∷ bs)) k (sort_at b bs (suc m) k mark d h) h in
    let size : length (take (suc m) (b ∷ bs)) ≡ suc m = length-take-le (suc m) (b ∷ bs) fits in
    let short : length (mark_spelling l.0) ≤ 3 = search (rules, mark_short l.0) in
    (omega arith, omega (arith, ap length l.1), l)

bound_quote : (b : ℕ) (bs : List ℕ) (state : QuoteState) (m : ℕ) (k : TokenKind) → opens_quote (b ∷ bs) ≡ Some state → m ≤ length (b ∷ bs) →
    IsLexeme (take m (b ∷ bs)) k → (m ≡ 1 + quote_len state bs) × (quote_run state (take (quote_len state bs) bs) ≡ Some at.Closed)
bound_quote b bs state zero k o fits h = absurd (not_empty k h)
bound_quote b bs state (suc m) k o fits h =
    let q = quote_class (take (suc m) (b ∷ bs)) k (sort_at b bs (suc m) k quote (quote_head b bs state o) h) h in
    let one : opens_quote (b ∷ take m bs) ≡ Some q.0 = q.1.0 in
    let same : q.0 ≡ state = cc in
    let run : quote_run state (take m bs) ≡ Some at.Closed = subst (λ z. quote_run z (take m bs) ≡ Some at.Closed) same q.1.1 in
    let size : m ≡ quote_len state bs = quote_stops state bs m (omega arith) run in
    (omega arith, subst (λ z. quote_run state (take z bs) ≡ Some at.Closed) size run)

closed_is : (o : Option QuoteState) → is_closed o ≡ true → o ≡ Some at.Closed
closed_is (Some at.Closed) h = refl
closed_is (Some at.Bits) h = absurd cc
closed_is (Some at.Group) h = absurd cc
closed_is (Some at.EmptyGroup) h = absurd cc
closed_is (Some at.Text) h = absurd cc
closed_is (Some at.Escape) h = absurd cc
closed_is None h = absurd cc

bits_or_mask : (text : List ℕ) (m : Bool) → is_mask text ≡ m → IsQuoted at.Bits text → IsLexeme text (cond m kinds.Mask kinds.Bits)
bits_or_mask text true e h = (h, e)
bits_or_mask text false e h = (h, e)

no_such : (b x y : ℕ) (s : QuoteState) (p q : Bool) → cond p (Some at.Bits) (cond q (Some at.Text) None) ≡ Some s → (s ≡ at.Bits) ⊎ (s ≡ at.Text)
no_such b x y s true q h = inl cc
no_such b x y s false true h = inr cc
no_such b x y s false false h = absurd cc

by_state : (text : List ℕ) (state : QuoteState) → (state ≡ at.Bits) ⊎ (state ≡ at.Text) → IsQuoted state text → IsLexeme text (kind_of_quote state text)
by_state text state (inl e) h = rw e (bits_or_mask text (is_mask text) refl (subst (λ z. IsQuoted z text) e h))
by_state text state (inr e) h = rw e (subst (λ z. IsQuoted z text) e h)

quoted_kind : (b : ℕ) (bs text : List ℕ) (state : QuoteState) → opens_quote (b ∷ bs) ≡ Some state → IsQuoted state text → IsLexeme text (kind_of_quote state text)
quoted_kind b bs text state o h = by_state text state (no_such b 0 0 state (b == 39) (b == 34) o) h

-- what the scanner finds is the longest lexeme, and where it finds none there is none
abbrev pub FoundAt : List ℕ → Option (ℕ × TokenKind) → Type 0
FoundAt bytes found = MatchOption found (NoLexeme bytes) (λ r. Longest bytes r.0 r.1)

name_kind : (text : List ℕ) (o : Option Word) → word_of text ≡ o → is_name text ≡ true → IsLexeme text (kind_of_name text)
name_kind text (Some w) e h = rw e (word_of_is text w e)
name_kind text None e h = rw e (h, λ w same. let f = word_of_spelling w in let g : word_of text ≡ word_of (word_spelling w) = ap word_of same in cc)

is_name_front : (b : ℕ) (bs : List ℕ) → is_name_start b ≡ true → is_name (take (prefix_len is_name_byte (b ∷ bs)) (b ∷ bs)) ≡ true
is_name_front b bs s = rw s (rw one-add (rw s (munched is_name_byte bs)))

found_name : (b : ℕ) (bs : List ℕ) → opens_block (b ∷ bs) ≡ false → is_name_start b ≡ true →
    Longest (b ∷ bs) (prefix_len is_name_byte (b ∷ bs)) (kind_of_name (take (prefix_len is_name_byte (b ∷ bs)) (b ∷ bs)))
found_name b bs apart s = record {
  here = record {
    fits = prefix_len-le-length is_name_byte (b ∷ bs);
    lexeme = name_kind (take (prefix_len is_name_byte (b ∷ bs)) (b ∷ bs)) _ refl (is_name_front b bs s);
    apart = apart;
  };
  longest = λ m j h. bound_name b bs m j (rw s refl) h.fits h.lexeme;
}

is_decimal_front : (b : ℕ) (bs : List ℕ) → is_ascii_digit b ≡ true → is_decimal (take (prefix_len is_decimal_byte (b ∷ bs)) (b ∷ bs)) ≡ true
is_decimal_front b bs s = rw s (rw one-add (rw s (munched is_decimal_byte bs)))

is_hex_front : (bytes : List ℕ) → opens_hex bytes ≡ true → (is_hex (take (hex_len bytes) bytes) ≡ true) × (hex_len bytes ≤ length bytes) × (1 ≤ hex_len bytes)
is_hex_front [] o = absurd cc
is_hex_front (a ∷ []) o = absurd cc
is_hex_front (a ∷ b ∷ []) o = absurd cc
is_hex_front (a ∷ b ∷ c ∷ rest) o =
    let digit : is_hex_digit c ≡ true = and_right ((a == 48) && (b == 120)) _ o in
    let len : hex_len (a ∷ b ∷ c ∷ rest) ≡ suc (suc (suc (prefix_len is_hex_byte rest))) = rw digit (omega arith) in
    let front : is_hex (take (suc (suc (suc (prefix_len is_hex_byte rest)))) (a ∷ b ∷ c ∷ rest)) ≡ true = rw (o, munched is_hex_byte rest) refl in
    let below : prefix_len is_hex_byte rest ≤ length rest = prefix_len-le-length is_hex_byte rest in
    (subst (λ n. is_hex (take n (a ∷ b ∷ c ∷ rest)) ≡ true) (sym len) front, omega arith, omega arith)

either_bound : (bytes : List ℕ) (m : ℕ) → opens_hex bytes ≡ false →
    ((m ≤ prefix_len is_decimal_byte bytes) × (opens_hex bytes ≡ true → m ≤ 1)) ⊎ ((opens_hex bytes ≡ true) × (m ≤ hex_len bytes)) → m ≤ prefix_len is_decimal_byte bytes
either_bound bytes m o (inl h) = h.0
either_bound bytes m o (inr h) = let t = h.0 in absurd cc

either_hex : (bytes : List ℕ) (m : ℕ) → opens_hex bytes ≡ true → 1 ≤ hex_len bytes →
    ((m ≤ prefix_len is_decimal_byte bytes) × (opens_hex bytes ≡ true → m ≤ 1)) ⊎ ((opens_hex bytes ≡ true) × (m ≤ hex_len bytes)) → m ≤ hex_len bytes
either_hex bytes m o few (inl h) = let small : m ≤ 1 = h.1 o in omega arith
either_hex bytes m o few (inr h) = h.1

found_decimal : (b : ℕ) (bs : List ℕ) → opens_block (b ∷ bs) ≡ false → is_ascii_digit b ≡ true → opens_hex (b ∷ bs) ≡ false →
    Longest (b ∷ bs) (prefix_len is_decimal_byte (b ∷ bs)) (kinds.Int (value_of 10 (take (prefix_len is_decimal_byte (b ∷ bs)) (b ∷ bs))))
found_decimal b bs apart d o = record {
  here = record {
    fits = prefix_len-le-length is_decimal_byte (b ∷ bs);
    lexeme = inl (is_decimal_front b bs d, refl);
    apart = apart;
  };
  longest = λ m j h. either_bound (b ∷ bs) m o (bound_number b bs m j (digit_head b d) h.fits h.lexeme);
}

found_hex : (b : ℕ) (bs : List ℕ) → opens_block (b ∷ bs) ≡ false → is_ascii_digit b ≡ true → opens_hex (b ∷ bs) ≡ true →
    Longest (b ∷ bs) (hex_len (b ∷ bs)) (kinds.Int (value_of 16 (drop 2 (take (hex_len (b ∷ bs)) (b ∷ bs)))))
found_hex b bs apart d o =
    let front = is_hex_front (b ∷ bs) o in
    record {
      here = record {
        fits = front.1;
        lexeme = inr (front.0, refl);
        apart = apart;
      };
      longest = λ m j h. either_hex (b ∷ bs) m o front.2 (bound_number b bs m j (digit_head b d) h.fits h.lexeme);
    }

no_mark : (bytes : List ℕ) (n m : ℕ) → mark_of (take n bytes) ≡ None → ((l : Mark) × (take m bytes ≡ mark_spelling l)) → m ≡ n → ⊥
no_mark bytes n m e (l, h) same =
    let f = mark_of_spelling l in
    let g : mark_of (take m bytes) ≡ mark_of (mark_spelling l) = ap mark_of h in
    let k : mark_of (take m bytes) ≡ None = subst (λ z. mark_of (take z bytes) ≡ None) (sym same) e in cc

-- a mark of the first n bytes, where no longer lexeme begins
mark_here : (bytes : List ℕ) (n : ℕ) (l : Mark) → opens_block bytes ≡ false → mark_of (take n bytes) ≡ Some l →
    ((m : ℕ) (j : TokenKind) → LexemeAt bytes m j → m ≤ n) → Longest bytes (length (take n bytes)) (kinds.Mark l)
mark_here bytes n l apart e below =
    let size : length (take n bytes) ≡ min n (length bytes) = length-take n bytes in
    record {
      here = record {
        fits = omega arith;
        lexeme = rw size (rw take_min (mark_of_is (take n bytes) l e));
        apart = apart;
      };
      longest = λ m j h. let a : m ≤ n = below m j h in let b : m ≤ length bytes = h.fits in omega arith;
    }

found_mark : (b : ℕ) (bs : List ℕ) → opens_block (b ∷ bs) ≡ false → head_of_byte b ≡ mark →
    (x y z : Option Mark) → mark_of (take 3 (b ∷ bs)) ≡ x → mark_of (take 2 (b ∷ bs)) ≡ y → mark_of (take 1 (b ∷ bs)) ≡ z →
    FoundAt (b ∷ bs) (or_else (mark_at 3 (b ∷ bs)) (or_else (mark_at 2 (b ∷ bs)) (mark_at 1 (b ∷ bs))))
found_mark b bs apart s (Some l) y z ex ey ez =
    rw ex (mark_here (b ∷ bs) 3 l apart ex (λ m j h. (bound_mark b bs m j s h.fits h.lexeme).1))
found_mark b bs apart s None (Some l) z ex ey ez =
    rw (ex, ey) (mark_here (b ∷ bs) 2 l apart ey (λ m j h.
    let k = bound_mark b bs m j s h.fits h.lexeme in
    let not_three = no_mark (b ∷ bs) 3 m ex k.2 in omega arith))
found_mark b bs apart s None None (Some l) ex ey ez =
    rw (ex, ey, ez) (mark_here (b ∷ bs) 1 l apart ez (λ m j h.
    let k = bound_mark b bs m j s h.fits h.lexeme in
    let not_three = no_mark (b ∷ bs) 3 m ex k.2 in
    let not_two = no_mark (b ∷ bs) 2 m ey k.2 in omega arith))
found_mark b bs apart s None None None ex ey ez =
    rw (ex, ey, ez) (λ m j h.
    let k = bound_mark b bs m j s h.fits h.lexeme in
    let not_three = no_mark (b ∷ bs) 3 m ex k.2 in
    let not_two = no_mark (b ∷ bs) 2 m ey k.2 in
    let not_one = no_mark (b ∷ bs) 1 m ez k.2 in omega arith)

found_quote : (b : ℕ) (bs : List ℕ) (state : QuoteState) → opens_block (b ∷ bs) ≡ false → opens_quote (b ∷ bs) ≡ Some state →
    (c : Bool) → is_closed (quote_run state (take (quote_len state bs) bs)) ≡ c →
    FoundAt (b ∷ bs) (cond c (Some (1 + quote_len state bs, kind_of_quote state (take (1 + quote_len state bs) (b ∷ bs)))) None)
found_quote b bs state apart o true e =
    let whole : IsQuoted state (take (1 + quote_len state bs) (b ∷ bs)) = rw one-add (o, closed_is _ e) in
    let fits : quote_len state bs ≤ length bs = quote_len-le state bs in
    record {
      here = record { fits = omega arith; lexeme = quoted_kind b bs (take (1 + quote_len state bs) (b ∷ bs)) state o whole; apart = apart };
      longest = λ m j h. let q = (bound_quote b bs state m j o h.fits h.lexeme).0 in omega arith;
    }
found_quote b bs state apart o false e = λ m j h.
    let q = (bound_quote b bs state m j o h.fits h.lexeme).1 in
    let f : is_closed (quote_run state (take (quote_len state bs) bs)) ≡ true = ap is_closed q in cc

no_quote : (x y : Bool) → cond x (Some at.Bits) (cond y (Some at.Text) None) ≡ None → (x || y) ≡ false
no_quote true y h = absurd cc
no_quote false true h = absurd cc
no_quote false false h = refl

found_other : (b : ℕ) (bs : List ℕ) → opens_block (b ∷ bs) ≡ false → is_name_start b ≡ false → is_ascii_digit b ≡ false →
    (q : Option QuoteState) → opens_quote (b ∷ bs) ≡ q →
    FoundAt (b ∷ bs) (option_map_or (λ state. quoted_of state (b ∷ bs)) q (longest_mark (b ∷ bs)))
found_other b bs apart s d (Some state) o = found_quote b bs state apart o _ refl
found_other b bs apart s d None o =
    let n : ((b == 39) || (b == 34)) ≡ false = no_quote (b == 39) (b == 34) o in
    let h : head_of_byte b ≡ mark = rw (s, d, n) refl in
    found_mark b bs apart h _ _ _ refl refl refl

found_cases : (b : ℕ) (bs : List ℕ) → opens_block (b ∷ bs) ≡ false → (s d o : Bool) → is_name_start b ≡ s → is_ascii_digit b ≡ d → opens_hex (b ∷ bs) ≡ o →
    FoundAt (b ∷ bs) (cond s (Some (prefix_len is_name_byte (b ∷ bs), kind_of_name (take (prefix_len is_name_byte (b ∷ bs)) (b ∷ bs))))
    (cond d (cond o
    (Some (hex_len (b ∷ bs), kinds.Int (value_of 16 (drop 2 (take (hex_len (b ∷ bs)) (b ∷ bs))))))
    (Some (prefix_len is_decimal_byte (b ∷ bs), kinds.Int (value_of 10 (take (prefix_len is_decimal_byte (b ∷ bs)) (b ∷ bs))))))
    (option_map_or (λ state. quoted_of state (b ∷ bs)) (opens_quote (b ∷ bs)) (longest_mark (b ∷ bs)))))
found_cases b bs apart true d o es ed eo = found_name b bs apart es
found_cases b bs apart false true true es ed eo = found_hex b bs apart ed eo
found_cases b bs apart false true false es ed eo = found_decimal b bs apart ed eo
found_cases b bs apart false false o es ed eo = found_other b bs apart es ed (opens_quote (b ∷ bs)) refl

pub lexeme_is : (bytes : List ℕ) → opens_block bytes ≡ false → FoundAt bytes (lexeme_of bytes)
unfolding lexeme_of
lexeme_is [] apart = λ n k h. not_empty k (let e : take n [] ≡ [] = take-nil n in subst (λ t. IsLexeme t k) e h.lexeme)
lexeme_is (b ∷ bs) apart = found_cases b bs apart _ _ _ refl refl refl
