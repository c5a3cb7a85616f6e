-- Made names: no token is one, and those of two statements differ.
use Rattle.std.proofs.Common.{◌≡◌, ℕ, ◌+◌, ◌≤◌, ◌<◌, ◌^◌, ◌%◌, inl, inr, true, false, List, [], ◌∷◌, ◌++◌, Option, None, Some, refl, sym, ap, ap₂, ◌∙◌, subst, arith}
use Rattle.std.proofs.Math.Nat.{mod-lt}
use Rattle.std.proofs.lemmas.Fmt.{decimal_by_steps, decimal_injective}
use Rattle.std.specs.Fmt.{decimal}
use Rattle.std.specs.List.{AllByRecursion}
use Rattle.asl_syn.specs.declared.token.Span.{Span}
use Rattle.asl_syn.specs.declared.token.Mark.{Mark}
use Rattle.asl_syn.specs.declared.token.Mark.TheVariants as mark
use Rattle.asl_syn.specs.declared.token.Word.{Word}
use Rattle.asl_syn.specs.declared.token.Word.TheVariants as word
use Rattle.asl_syn.specs.declared.token.Token.{Token}
use Rattle.asl_syn.specs.declared.token.TokenKind.{TokenKind}
use Rattle.asl_syn.specs.declared.token.TokenKind.TheVariants as kinds
use Rattle.asl_quote.specs.declared.QuoteState.{QuoteState}
use Rattle.asl_quote.specs.declared.QuoteState.TheVariants as at
use Rattle.asl_grammar.specs.Reading.{Text}
use Rattle.asl_grammar.specs.lexemes.Tokens.{Tokens}
use Rattle.asl_grammar.specs.lexemes.Lexemes.{IsLexeme}
use Rattle.asl_grammar.specs.lexemes.Words.{word_spelling}
use Rattle.asl_grammar.specs.lexemes.Marks.{mark_spelling}
use Rattle.asl_grammar.specs.lexemes.Refusals.{is_reserved, refusal}
use Rattle.asl_grammar.specs.lexemes.Texts.{HasText, text_at}
use Rattle.asl_grammar.proofs.lexemes.Placing.{tokens_stand}
use Rattle.asl_rules.specs.declarations.WrittenOut.{made_value, made_place}
use Rattle.asl_laws.specs.MadeNames.{IsMade, NoneMade, MadeApart}

-- ---- no token

word_free : (w : Word) → is_reserved (word_spelling w) ≡ false
word_free word.Bits = refl
word_free w = refl

mark_free : (m : Mark) → is_reserved (mark_spelling m) ≡ false
mark_free mark.OpenParen = refl
mark_free m = refl

both_ways : (xs : List ℕ) (ys : List ℕ) → is_reserved xs ≡ true → xs ≡ ys → is_reserved ys ≡ false → ⊥
both_ways xs ys h e k = no_way (sym h ∙ ap is_reserved e ∙ k)
  where
    no_way : true ≡ false → ⊥
    no_way h = cc

false_true : false ≡ true → ⊥
false_true h = cc

quoteless : (q : QuoteState) → (let o : Option QuoteState = None in o) ≡ Some q → ⊥
quoteless q h = cc

-- what begins with two underscores is refused as a name, and is no other lexeme
no_lexeme : (limit : ℕ) (k : TokenKind) (rest : List ℕ) → IsLexeme (95 ∷ 95 ∷ rest) k → refusal limit k (95 ∷ 95 ∷ rest) 0 ≡ None → ⊥
no_lexeme limit kinds.Name rest h r = cc
no_lexeme limit (kinds.Int n) rest (inl h) r = false_true h.0
no_lexeme limit (kinds.Int n) [] (inr h) r = false_true h.0
no_lexeme limit (kinds.Int n) (b ∷ rest) (inr h) r = false_true h.0
no_lexeme limit kinds.Bits rest h r = quoteless at.Bits h.0.0
no_lexeme limit kinds.Mask rest h r = quoteless at.Bits h.0.0
no_lexeme limit kinds.Text rest h r = quoteless at.Text h.0
no_lexeme limit (kinds.Word w) rest h r = both_ways (95 ∷ 95 ∷ rest) (word_spelling w) refl h (word_free w)
no_lexeme limit (kinds.Mark m) rest h r = both_ways (95 ∷ 95 ∷ rest) (mark_spelling m) refl h (mark_free m)

-- a made name begins so
begun : (name : List ℕ) → IsMade name → (rest : List ℕ) × (name ≡ 95 ∷ 95 ∷ rest)
begun name (at, inl (n, e)) = (_, e)
begun name (at, inr e) = (_, e)

one_unmade : (limit file : ℕ) (text : Text) (t : Token) → HasText limit file text t → IsMade (text_at text t.span) → ⊥
one_unmade limit file text t h m =
    let b = begun (text_at text t.span) m in
    no_lexeme limit t.kind b.0 (subst (λ x. IsLexeme x t.kind) b.1 h.lexeme) (subst (λ x. refusal limit t.kind x 0 ≡ None) b.1 h.taken)

unmade_in : (limit file : ℕ) (text : Text) (ts : List Token) → AllByRecursion (HasText limit file text) ts → NoneMade text ts
unmade_in limit file text [] h = tt
unmade_in limit file text (t ∷ ts) h = (one_unmade limit file text t h.0, unmade_in limit file text ts h.1)

pub none_made : (limit file : ℕ) (text : Text) (ts : List Token) → Tokens limit file text ts → NoneMade text ts
none_made limit file text ts h = unmade_in limit file text ts (tokens_stand limit file text ts h)

-- ---- two names

abbrev Digits : List ℕ → Type 0
Digits ds = AllByRecursion (λ b. (48 ≤ b) × (b ≤ 57)) ds

one_digit : (n : ℕ) → n < 10 → Digits ((48 + n) ∷ [])
one_digit n h = ((omega arith, omega (arith, h)), tt)

and_digits : (ds es : List ℕ) → Digits ds → Digits es → Digits (ds ++ es)
and_digits [] es g h = h
and_digits (d ∷ ds) es g h = (g.0, and_digits ds es g.1 h)

more_digits : (n : ℕ) (ds : List ℕ) → 10 ≤ n → Digits ds → Digits (ds ++ ((48 + n % 10) ∷ []))
more_digits n ds le h = and_digits ds _ h (one_digit (n % 10) (mod-lt n (omega arith)))

digits : (n : ℕ) → n < 2 ^ 64 → Digits (decimal n)
digits n h = decimal_by_steps (λ n ds. Digits ds) one_digit more_digits n h

head_same : (x y : ℕ) (xs ys : List ℕ) → x ∷ xs ≡ y ∷ ys → x ≡ y
head_same x y xs ys h = cc

tail_same : (x y : ℕ) (xs ys : List ℕ) → x ∷ xs ≡ y ∷ ys → xs ≡ ys
tail_same x y xs ys h = cc

no_digit : (b : ℕ) → (48 ≤ b) × (b ≤ 57) → 57 < b → ⊥
no_digit b h k = omega (arith, h.1, k)

-- two lists of digits before the first byte that is none
apart : (xs ys us vs : List ℕ) → Digits xs → Digits ys → xs ++ (64 ∷ us) ≡ ys ++ (64 ∷ vs) → (xs ≡ ys) × (us ≡ vs)
apart [] [] us vs g h e = (refl, tail_same 64 64 us vs e)
apart [] (y ∷ ys) us vs g h e = absurd (no_digit y h.0 (subst (λ b. 57 < b) (head_same 64 y us _ e) (omega arith)))
apart (x ∷ xs) [] us vs g h e = absurd (no_digit x g.0 (subst (λ b. 57 < b) (sym (head_same x 64 _ vs e)) (omega arith)))
apart (x ∷ xs) (y ∷ ys) us vs g h e =
    let r = apart xs ys us vs g.1 h.1 (tail_same x y _ _ e) in
    (ap₂ (λ b bs. b ∷ bs) (head_same x y _ _ e) r.0, r.1)

-- digits, and behind them a byte that is none, don't begin like a letter
no_letter : (xs us vs : List ℕ) → Digits xs → xs ++ (64 ∷ us) ≡ 116 ∷ vs → ⊥
no_letter [] us vs g e = omega (arith, head_same 64 116 us vs e)
no_letter (x ∷ xs) us vs g e = no_digit x g.0 (subst (λ b. 57 < b) (sym (head_same x 116 _ vs e)) (omega arith))

behind_two : (xs ys : List ℕ) → 95 ∷ 95 ∷ xs ≡ 95 ∷ 95 ∷ ys → xs ≡ ys
behind_two xs ys h = tail_same 95 95 xs ys (tail_same 95 95 (95 ∷ xs) (95 ∷ ys) h)

values_apart : (at bt : Span) → at.start < 2 ^ 64 → bt.start < 2 ^ 64 → (m n : ℕ) → m < 2 ^ 64 → n < 2 ^ 64 → made_value at m ≡ made_value bt n →
    (at.start ≡ bt.start) × (m ≡ n)
values_apart at bt p q m n g h e =
    let r = apart (decimal m) (decimal n) (decimal at.start) (decimal bt.start) (digits m g) (digits n h) (behind_two _ _ e) in
    (decimal_injective at.start bt.start p q r.1, decimal_injective m n g h r.0)

places_apart : (at bt : Span) → at.start < 2 ^ 64 → bt.start < 2 ^ 64 → made_place at ≡ made_place bt → at.start ≡ bt.start
places_apart at bt p q e = decimal_injective at.start bt.start p q (tail_same 64 64 _ _ (tail_same 116 116 _ _ (behind_two _ _ e)))

value_no_place : (at bt : Span) (m : ℕ) → m < 2 ^ 64 → made_value at m ≡ made_place bt → ⊥
value_no_place at bt m g e = no_letter (decimal m) (decimal at.start) _ (digits m g) (behind_two _ _ e)

pub made_apart : (at bt : Span) → at.start < 2 ^ 64 → bt.start < 2 ^ 64 → MadeApart at bt
made_apart at bt p q = record { values = values_apart at bt p q; places = places_apart at bt p q; value_no_place = value_no_place at bt }
