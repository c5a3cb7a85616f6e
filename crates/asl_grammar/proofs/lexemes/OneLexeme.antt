-- A text is a lexeme of one kind at most, and at one place one lexeme is the longest. The first byte says the sort of a lexeme,
-- and sort and text say its kind.
use Rattle.std.proofs.Common.{◌≡◌, ℕ, ◌≤◌, ◌==◌, ◌⊎◌, inl, inr, Bool, true, false, ◌&&◌, List, [], ◌∷◌, Option, Some, None, take, drop, refl, ap, sym, ◌∙◌, subst, arith, cond, rules, find}
use Rattle.std.specs.Option.{option_map_or}
use Rattle.std.proofs.lemmas.Grind.{common_steps}
use Rattle.std.specs.List.{list_all}
use Rattle.std.specs.Char.{is_ascii_digit}
use Rattle.std.specs.Str.{bytes_eq}
use Rattle.std.proofs.lemmas.Slice.Eq.{bytes_eq-Decides}
use Rattle.asl_syn.specs.declared.token.Word.{Word}
use Rattle.asl_syn.specs.declared.token.Mark.{Mark}
use Rattle.asl_syn.specs.declared.token.TokenKind.{TokenKind}
use Rattle.asl_syn.specs.declared.token.TokenKind.TheVariants as kinds
use Rattle.asl_grammar.specs.lexemes.Bytes.{is_name_start, is_name_byte, is_decimal_byte, is_hex_digit, value_of}
use Rattle.asl_grammar.specs.lexemes.Words.{word_spelling, word_of, words}
use Rattle.asl_grammar.specs.lexemes.Marks.{mark_spelling, mark_of, marks}
use Rattle.asl_grammar.specs.lexemes.Lexemes.{is_name, is_decimal, is_hex, IsLexeme, IsQuoted, Longest}
use Rattle.asl_grammar.specs.private.Scanning.{kind_of_name, opens_hex, kind_of_quote}
use Rattle.asl_grammar.proofs.lexemes.Munch.{and_left, and_right}
use Rattle.asl_grammar.proofs.lexemes.Tables.{word_of_spelling, mark_of_spelling, word_is_name, mark_head}
use Rattle.asl_grammar.proofs.lexemes.Heads.{Head, name, number, quote, mark, head_of_byte, head_of, class_of}
use Rattle.asl_quote.specs.declared.QuoteState.{QuoteState}
use Rattle.asl_quote.specs.declared.QuoteState.TheVariants as at
use Rattle.asl_quote.specs.Quotes.{opens_quote}

find_some_step : {X : Type 0} (p : X → Bool) (x y : X) (xs : List X) (b : Bool) → p x ≡ b →
    (find p xs ≡ Some y → p y ≡ true) → cond b (Some x) (find p xs) ≡ Some y → p y ≡ true
find_some_step p x y xs true e rest h = let same : x ≡ y = cc in subst (λ z. p z ≡ true) same e
find_some_step p x y xs false e rest h = rest h

pub find_some : {X : Type 0} (p : X → Bool) (xs : List X) (y : X) → find p xs ≡ Some y → p y ≡ true
find_some p [] y h = absurd cc
find_some p (x ∷ xs) y h = find_some_step p x y xs (p x) refl (find_some p xs y) h

pub word_of_is : (text : List ℕ) (w : Word) → word_of text ≡ Some w → text ≡ word_spelling w
unfolding word_of
word_of_is text w h = sym ((bytes_eq-Decides (word_spelling w) text).0 (find_some (λ v. bytes_eq (word_spelling v) text) words w h))

pub mark_of_is : (text : List ℕ) (m : Mark) → mark_of text ≡ Some m → text ≡ mark_spelling m
unfolding mark_of
mark_of_is text m h = sym ((bytes_eq-Decides (mark_spelling m) text).0 (find_some (λ v. bytes_eq (mark_spelling v) text) marks m h))

pub name_start_ge : (b : ℕ) → is_name_start b ≡ true → 58 ≤ b
name_start_ge b h = grind (arith, common_steps)

pub digit_le : (b : ℕ) → is_ascii_digit b ≡ true → b ≤ 57
digit_le b h = grind (arith, common_steps)

pub digit_ge : (b : ℕ) → is_ascii_digit b ≡ true → 48 ≤ b
digit_ge b h = grind (arith, common_steps)

-- what the kinds of a sort have in common
pub name_all : (text : List ℕ) → is_name text ≡ true → list_all is_name_byte text ≡ true
name_all [] h = refl
name_all (b ∷ bs) h = rw (and_left (is_name_start b) _ h) (and_right (is_name_start b) _ h)

pub decimal_all : (text : List ℕ) → is_decimal text ≡ true → list_all is_decimal_byte text ≡ true
decimal_all [] h = refl
decimal_all (b ∷ bs) h = rw (and_left (is_ascii_digit b) _ h) (and_right (is_ascii_digit b) _ h)

hex_digit_head : (a : ℕ) (rest : List ℕ) → is_hex (a ∷ rest) ≡ true → is_ascii_digit a ≡ true
hex_digit_head a (b ∷ c ∷ rest) h = grind (arith, common_steps)
hex_digit_head a (b ∷ []) h = absurd cc
hex_digit_head a [] h = absurd cc

pub name_class : (text : List ℕ) (k : TokenKind) → class_of k ≡ name → IsLexeme text k → is_name text ≡ true
name_class text kinds.Name e h = h.0
name_class text (kinds.Word w) e h = rw h (word_is_name w)
name_class text _ e h = absurd cc

pub number_class : (text : List ℕ) (k : TokenKind) → class_of k ≡ number → IsLexeme text k → (is_decimal text ≡ true) ⊎ (is_hex text ≡ true)
number_class text (kinds.Int n) e (inl h) = inl h.0
number_class text (kinds.Int n) e (inr h) = inr h.0
number_class text kinds.Name e h = absurd cc
number_class text kinds.Bits e h = absurd cc
number_class text kinds.Mask e h = absurd cc
number_class text kinds.Text e h = absurd cc
number_class text (kinds.Word w) e h = absurd cc
number_class text (kinds.Mark m) e h = absurd cc

pub quote_class : (text : List ℕ) (k : TokenKind) → class_of k ≡ quote → IsLexeme text k → (state : QuoteState) × IsQuoted state text
quote_class text kinds.Bits e h = (at.Bits, h.0)
quote_class text kinds.Mask e h = (at.Bits, h.0)
quote_class text kinds.Text e h = (at.Text, h)
quote_class text _ e h = absurd cc

pub mark_class : (text : List ℕ) (k : TokenKind) → class_of k ≡ mark → IsLexeme text k → (m : Mark) × (text ≡ mark_spelling m)
mark_class text (kinds.Mark m) e h = (m, h)
mark_class text _ e h = absurd cc

-- the first byte says the sort
not_start : (b : ℕ) (s : Bool) → is_name_start b ≡ s → b ≤ 57 → s ≡ false
not_start b false e h = refl
not_start b true e h = absurd (let low = name_start_ge b e in omega arith)

quote_cases : (b : ℕ) (state : QuoteState) (x y : Bool) → (b == 39) ≡ x → (b == 34) ≡ y →
    cond x (Some at.Bits) (cond y (Some at.Text) None) ≡ Some state → head_of_byte b ≡ quote
quote_cases b state true y ex ey h = let e : b ≡ 39 = search rules in rw e refl
quote_cases b state false true ex ey h = let e : b ≡ 34 = search rules in rw e refl
quote_cases b state false false ex ey h = absurd cc

pub digit_head : (b : ℕ) → is_ascii_digit b ≡ true → head_of_byte b ≡ number
digit_head b d = let low = digit_le b d in let n : is_name_start b ≡ false = not_start b (is_name_start b) refl low in rw (n, d) refl

pub quote_head : (b : ℕ) (bs : List ℕ) (state : QuoteState) → opens_quote (b ∷ bs) ≡ Some state → head_of_byte b ≡ quote
quote_head b bs state h = quote_cases b state (b == 39) (b == 34) refl refl h

name_head : (text : List ℕ) → is_name text ≡ true → head_of text ≡ Some name
name_head [] h = absurd cc
name_head (b ∷ bs) h = rw (and_left (is_name_start b) _ h) refl

decimal_head : (text : List ℕ) → is_decimal text ≡ true → head_of text ≡ Some number
decimal_head [] h = absurd cc
decimal_head (b ∷ bs) h = ap Some (digit_head b (and_left (is_ascii_digit b) _ h))

hex_head : (text : List ℕ) → is_hex text ≡ true → head_of text ≡ Some number
hex_head [] h = absurd cc
hex_head (b ∷ bs) h = ap Some (digit_head b (hex_digit_head b bs h))

quoted_head : (text : List ℕ) (state : QuoteState) → IsQuoted state text → head_of text ≡ Some quote
quoted_head [] state h = absurd h
quoted_head (b ∷ bs) state h = ap Some (quote_head b bs state h.0)

pub in_class : (text : List ℕ) (k : TokenKind) → IsLexeme text k → head_of text ≡ Some (class_of k)
in_class text kinds.Name h = name_head text h.0
in_class text (kinds.Int n) (inl h) = decimal_head text h.0
in_class text (kinds.Int n) (inr h) = hex_head text h.0
in_class text kinds.Bits h = quoted_head text at.Bits h.0
in_class text kinds.Mask h = quoted_head text at.Bits h.0
in_class text kinds.Text h = quoted_head text at.Text h
in_class text (kinds.Word w) h = name_head text (rw h (word_is_name w))
in_class text (kinds.Mark m) h = rw h (mark_head m)

-- no lexeme is empty
pub not_empty : (k : TokenKind) → IsLexeme [] k → ⊥
not_empty k h = let e : None ≡ Some (class_of k) = in_class [] k h in cc

-- the kind of a text of this sort
kind_in : Head → List ℕ → Option TokenKind
kind_in name text = Some (kind_of_name text)
kind_in number text = Some (cond (opens_hex text) (kinds.Int (value_of 16 (drop 2 text))) (kinds.Int (value_of 10 text)))
kind_in quote text = option_map_or (λ state. Some (kind_of_quote state text)) (opens_quote text) None
kind_in mark text = option_map_or (λ m. Some (kinds.Mark m)) (mark_of text) None

no_word : (text : List ℕ) (o : Option Word) → word_of text ≡ o → ((w : Word) → text ≡ word_spelling w → ⊥) → o ≡ None
no_word text None e h = refl
no_word text (Some w) e h = absurd (h w (word_of_is text w e))

hex_opens : (text : List ℕ) → is_hex text ≡ true → opens_hex text ≡ true
hex_opens (a ∷ b ∷ c ∷ rest) h = and_left ((a == 48) && (b == 120) && is_hex_digit c) _ h
hex_opens (a ∷ b ∷ []) h = absurd cc
hex_opens (a ∷ []) h = absurd cc
hex_opens [] h = absurd cc

decimal_opens : (text : List ℕ) (o : Bool) → opens_hex text ≡ o → is_decimal text ≡ true → o ≡ false
decimal_opens text false e h = refl
decimal_opens (a ∷ b ∷ c ∷ rest) true e h = absurd (grind (arith, common_steps))
decimal_opens (a ∷ b ∷ []) true e h = absurd cc
decimal_opens (a ∷ []) true e h = absurd cc
decimal_opens [] true e h = absurd cc

quoted_opens : (text : List ℕ) (state : QuoteState) → IsQuoted state text → opens_quote text ≡ Some state
quoted_opens [] state h = absurd h
quoted_opens (b ∷ bs) state h = h.0

kind_is : (text : List ℕ) (k : TokenKind) → IsLexeme text k → kind_in (class_of k) text ≡ Some k
unfolding kind_in
kind_is text kinds.Name h = let e = no_word text (word_of text) refl h.1 in rw e refl
kind_is text (kinds.Int n) (inl h) = let e = decimal_opens text (opens_hex text) refl h.0 in let v = h.1 in rw e cc
kind_is text (kinds.Int n) (inr h) = let e = hex_opens text h.0 in let v = h.1 in rw e cc
kind_is text kinds.Bits h = let e = quoted_opens text at.Bits h.0 in let m = h.1 in rw (e, m) refl
kind_is text kinds.Mask h = let e = quoted_opens text at.Bits h.0 in let m = h.1 in rw (e, m) refl
kind_is text kinds.Text h = let e = quoted_opens text at.Text h in rw e refl
kind_is text (kinds.Word w) h = let e : word_of text ≡ Some w = ap word_of h ∙ word_of_spelling w in rw e refl
kind_is text (kinds.Mark m) h = let e : mark_of text ≡ Some m = ap mark_of h ∙ mark_of_spelling m in rw e refl

-- one text has one kind
pub one_kind : (text : List ℕ) (j k : TokenKind) → IsLexeme text j → IsLexeme text k → j ≡ k
one_kind text j k a b =
    let c = in_class text j a in let d = in_class text k b in
    let e = kind_is text j a in let f = kind_is text k b in
    let same : class_of j ≡ class_of k = cc in
    let g : kind_in (class_of j) text ≡ kind_in (class_of k) text = ap (λ z. kind_in z text) same in cc

-- one place has one longest lexeme
pub one_longest : (bytes : List ℕ) (m n : ℕ) (j k : TokenKind) → Longest bytes m j → Longest bytes n k → (m ≡ n) × (j ≡ k)
one_longest bytes m n j k a b =
    let up : m ≤ n = b.longest m j a.here in
    let down : n ≤ m = a.longest n k b.here in
    let same : m ≡ n = omega arith in
    (same, one_kind (take n bytes) j k (subst (λ z. IsLexeme (take z bytes) j) same a.here.lexeme) b.here.lexeme)
