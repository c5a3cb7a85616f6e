-- What the digits of a line are worth, by hex and by the definition.
use Rattle.std.proofs.Common.{◌≡◌, ℕ, ◌+◌, ◌*◌, ◌%◌, nat_lt, ◌<◌, ◌≤◌, Bool, true, false, List, [], ◌∷◌, length, Option, Some, None, Result, Ok, Err, ◌⊎◌, inl, inr, refl, sym, ap, ◌∙◌, arith}
use Rattle.std.specs.Prelude.{IsOk, ◌↔◌}
use Rattle.std.specs.Char.{digit_value}
use Rattle.std.specs.Int.{from_be_bytes, w16, w32}
use Rattle.std.specs.List.{list_all}
use Rattle.std.specs.Str.Parse.{digits_value_after}
use Rattle.std.proofs.lemmas.Bool.Decides.{nat_tests}
use Rattle.std.proofs.lemmas.List.Sums.{AllPass-from_list_all, list_all-from_AllPass}
use Rattle.hex.proofs.HexLemmas.{IsOk-decode_sized, decode_of-even, decode_pairs-ok, decode_sized-twice}
use Rattle.hex.specs.Hex.{decode_pairs, decode_sized, digit_or_error, hex_digit_value, is_hex_digit, ◌>>=◌}
use Rattle.hex.specs.declared.error.FromHexError.{FromHexError}
use Rattle.asl_syn.specs.declared.code.StaticCode.TheVariants.{N02, N03}
use Rattle.asl_rules.specs.report.WordList.{has_word_length, is_digit}
use Rattle.asl_words.specs.private.Steps.{word_of}

-- both crates have the same digits
is_hex_digit-is : (c : ℕ) → is_hex_digit c ≡ is_digit c
is_hex_digit-is c = grind (arith, nat_tests)

-- and these are worth the same
hex_digit_value-is : (c v : ℕ) → hex_digit_value c ≡ Some v → digit_value c ≡ v
hex_digit_value-is c v h = grind (arith, nat_tests)

-- the bytes that bytes and more stand for, each worth 256 of the next
abbrev bytes_after : ℕ → List ℕ → ℕ
bytes_after n [] = n
bytes_after n (b ∷ bs) = bytes_after (n * 256 + b) bs

-- what a pair of digits that read shows
pair_read : (a b i : ℕ) (o p : Option ℕ) (r : Result (List ℕ) FromHexError) (bytes : List ℕ)
    → ((digit_or_error a i o >>= (λ h. digit_or_error b (i + 1) p >>= (λ l. Ok (h * 16 + l)))) >>= (λ byte. r >>= (λ rest. Ok (byte ∷ rest)))) ≡ Ok bytes
    → (h : ℕ) × (l : ℕ) × (rest : List ℕ) × (o ≡ Some h) × (p ≡ Some l) × (r ≡ Ok rest) × (bytes ≡ (h * 16 + l) ∷ rest)
pair_read a b i (Some h) (Some l) (Ok rest) bytes e = (h, l, rest, refl, refl, refl, cc)
pair_read a b i None p r bytes e = cc e
pair_read a b i (Some h) None r bytes e = cc e
pair_read a b i (Some h) (Some l) (Err f) bytes e = cc e

-- the digits are worth what their bytes are
digits_value_after-is : (n i : ℕ) (s bytes : List ℕ) → decode_pairs i s ≡ Ok bytes → digits_value_after 16 n s ≡ bytes_after n bytes
unfolding decode_pairs
digits_value_after-is n i [] bytes e =
    let none : [] ≡ bytes = cc in
    rw (← none) refl
digits_value_after-is n i (a ∷ []) bytes e = cc e
digits_value_after-is n i (a ∷ b ∷ rest) bytes e =
    let read = pair_read a b i (hex_digit_value a) (hex_digit_value b) (decode_pairs (i + 2) rest) bytes e in
    let high = hex_digit_value-is a read.0 read.3 in
    let low = hex_digit_value-is b read.1 read.4 in
    let same : (n * 16 + read.0) * 16 + read.1 ≡ n * 256 + (read.0 * 16 + read.1) = omega arith in
    rw (read.6, high, low, same) (digits_value_after-is (n * 256 + (read.0 * 16 + read.1)) (i + 2) rest read.2 read.5)

-- four bytes, packed at once
four_bytes : (bytes : List ℕ) → length bytes ≡ 4 → from_be_bytes w32 bytes ≡ bytes_after 0 bytes
four_bytes (a ∷ b ∷ c ∷ d ∷ []) h = omega arith
four_bytes [] h = cc h
four_bytes (a ∷ []) h = cc h
four_bytes (a ∷ b ∷ []) h = cc h
four_bytes (a ∷ b ∷ c ∷ []) h = cc h
four_bytes (a ∷ b ∷ c ∷ d ∷ e ∷ rest) h = absurd (omega arith)

-- and two
two_bytes : (bytes : List ℕ) → length bytes ≡ 2 → from_be_bytes w16 bytes ≡ bytes_after 0 bytes
two_bytes (a ∷ b ∷ []) h = omega arith
two_bytes [] h = cc h
two_bytes (a ∷ []) h = cc h
two_bytes (a ∷ b ∷ c ∷ rest) h = absurd (omega arith)

-- tests that are the same are passed by the same lists
list_all-is : (p q : ℕ → Bool) → ((b : ℕ) → p b ≡ q b) → (bs : List ℕ) → list_all p bs ≡ list_all q bs
list_all-is p q same [] = refl
list_all-is p q same (b ∷ bs) = rw (same b, list_all-is p q same bs) refl

-- an answer that is no error
ok_is : (r : Result (List ℕ) FromHexError) → IsOk r → (bytes : List ℕ) × (r ≡ Ok bytes)
ok_is (Ok bytes) h = (bytes, refl)
ok_is (Err e) h = cc h

-- a test that isn't passed
not_all : (b : Bool) → (b ≡ true → ⊥) → b ≡ false
not_all false h = refl
not_all true h = absurd (h refl)

-- a line of twice as many bytes as are asked for has digits alone where it decodes
digits_decode : (line : List ℕ) (n : ℕ) → length line ≡ 2 * n → IsOk (decode_sized line n) ↔ (list_all is_digit line ≡ true)
digits_decode line n h =
    let both = IsOk-decode_sized line n in
    let same = list_all-is is_hex_digit is_digit is_hex_digit-is line in (
      λ ok. sym same ∙ list_all-from_AllPass is_hex_digit line (both.0 ok).1,
      λ all. both.1 (h, AllPass-from_list_all is_hex_digit line (same ∙ all)),
    )

-- ---- the answers of a line of eight bytes, or of four, whose length is right

-- it doesn't decode
pub word_of-digit : (line : List ℕ) (n number before : ℕ) (e : FromHexError) → length line ≡ 2 * n → has_word_length line ≡ true → Err e ≡ decode_sized line n
    → word_of line number before ≡ Err (record { code = N02; line = number })
word_of-digit line n number before e len right read =
    let none : list_all is_digit line ≡ false = not_all (list_all is_digit line) (λ all. cc (read ∙ (ok_is (decode_sized line n) ((digits_decode line n len).1 all)).1)) in
    rw (right, none) refl

-- it has digits alone, and is a word too many
pub word_of-many : (line bytes : List ℕ) (n number before : ℕ) → length line ≡ 2 * n → has_word_length line ≡ true → Ok bytes ≡ decode_sized line n → 65536 ≤ before
    → word_of line number before ≡ Err (record { code = N03; line = number })
word_of-many line bytes n number before len right read many =
    let all = (digits_decode line n len).0 (rw (← read) refl) in
    let above : nat_lt 65536 (before + 1) ≡ true = grind (arith, nat_tests) in
    rw (right, all, above) refl

-- or none too many
word_of-read : (line bytes : List ℕ) (n number before word : ℕ) → length line ≡ 2 * n → has_word_length line ≡ true → Ok bytes ≡ decode_sized line n → before < 65536
    → (length bytes ≡ n → word ≡ bytes_after 0 bytes) → word_of line number before ≡ Ok (record { bits = word; digits = length line })
word_of-read line bytes n number before word len right read few packed =
    let all = (digits_decode line n len).0 (rw (← read) refl) in
    let within : nat_lt 65536 (before + 1) ≡ false = grind (arith, nat_tests) in
    let even : length line % 2 ≡ 0 = omega arith in
    let pairs : decode_pairs 0 line ≡ Ok bytes = sym (decode_of-even line even) ∙ sym (decode_sized-twice line n len) ∙ sym read in
    let as_many : length bytes ≡ n = omega (arith, (decode_pairs-ok 0 line bytes pairs).1) in
    rw (right, all, within) (ap (λ m. Ok (record { bits = m; digits = length line })) (digits_value_after-is 0 0 line bytes pairs ∙ sym (packed as_many)))

right_length : (line : List ℕ) (n : ℕ) → length line ≡ n → (n ≡ 8) ⊎ (n ≡ 4) → has_word_length line ≡ true
right_length line n len (inl h) = rw (len, h) refl
right_length line n len (inr h) = rw (len, h) refl

pub eight : (line : List ℕ) → length line ≡ 8 → has_word_length line ≡ true
eight line len = right_length line 8 len (inl refl)

pub four : (line : List ℕ) → length line ≡ 4 → has_word_length line ≡ true
four line len = right_length line 4 len (inr refl)

pub long_read : (line bytes : List ℕ) (number before word : ℕ) → length line ≡ 8 → Ok bytes ≡ decode_sized line 4 → before < 65536
    → word ≡ from_be_bytes w32 bytes → word_of line number before ≡ Ok (record { bits = word; digits = 8 })
long_read line bytes number before word len read few packed =
    word_of-read line bytes 4 number before word len (eight line len) read few (λ h. packed ∙ four_bytes bytes h) ∙ ap (λ n. Ok (record { bits = word; digits = n })) len

pub short_read : (line bytes : List ℕ) (number before word : ℕ) → length line ≡ 4 → Ok bytes ≡ decode_sized line 2 → before < 65536
    → word ≡ from_be_bytes w16 bytes → word_of line number before ≡ Ok (record { bits = word; digits = 4 })
short_read line bytes number before word len read few packed =
    word_of-read line bytes 2 number before word len (four line len) read few (λ h. packed ∙ two_bytes bytes h) ∙ ap (λ n. Ok (record { bits = word; digits = n })) len
