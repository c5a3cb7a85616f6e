-- Which lines are of the format of certificates, in its exact spelling: no number has a needless 0, the terms of a width stand in
-- order, each with its coefficient and no product of names twice, and no range has ends that are spelled alike. A type has at most 100
-- levels. A line that no certificate has for another cause, as an array that is too long, may be of the format.
use Rattle.std.specs.Prelude.{ℕ, zero, suc, pos, ◌-◌, ◌==◌, nat_le, Bool, true, false, not, ◌&&◌, ◌||◌, if◌then◌else◌, List, [], ◌∷◌, ◌++◌}
use Rattle.std.specs.Prelude.{length, map, take, drop, reverse, is_some, codes, nat_eq}
use Rattle.std.specs.Str.{bytes_eq}
use Rattle.std.specs.Str.Parse.{digits_value}
use Rattle.std.specs.List.{list_all, slice_split, starts_with}
use Rattle.asl_grammar.specs.lexemes.Bytes.{is_name_start, is_name_byte}
use Rattle.asl_grammar.specs.lexemes.Words.{word_of}
use Rattle.asl_rules.specs.report.Texts.{Text}
use Rattle.asl_laws.specs.certificates.Texts.{Term, term_before, text_before, first_line}

-- ---- parts of texts

abbrev pub begins : Text → Text → Bool
begins front t = starts_with nat_eq t front

abbrev pub closes : Text → Text → Bool
closes end t = starts_with nat_eq (reverse t) (reverse end)

-- a text without its front and its end
abbrev pub inside : Text → Text → Text → Text
inside front end t = take (length t - length front - length end) (drop (length front) t)

-- it begins with the one and ends with the other, which don't overlap
abbrev pub framed : Text → Text → Text → Bool
framed front end t = begins front t && (closes end t && nat_le (length front) (length t - length end))

-- a byte within these two
abbrev pub is_between : ℕ → ℕ → ℕ → Bool
is_between low b high = nat_le low b && nat_le b high

-- one more byte in front of the first of several texts
abbrev pub byte_first : ℕ → List Text → List Text
byte_first b [] = (b ∷ []) ∷ []
byte_first b (t ∷ ts) = (b ∷ t) ∷ ts

abbrev pub is_opening : ℕ → Bool
is_opening b = (b == 40) || ((b == 91) || (b == 123))

abbrev pub is_closing : ℕ → Bool
is_closing b = (b == 41) || ((b == 93) || (b == 125))

-- how many brackets are open behind a byte, where so many were before it
abbrev pub level : ℕ → ℕ → ℕ
level n b = if is_opening b then suc n else (if is_closing b then n - 1 else n)

-- the texts between the commas that stand outside all brackets, where so many are open at the beginning
abbrev pub outer_parts : ℕ → Text → List Text
outer_parts n [] = [] ∷ []
outer_parts n (b ∷ bs) = if (b == 44) && (n == 0) then [] ∷ outer_parts n bs else byte_first b (outer_parts (level n b) bs)

-- ---- numbers and names

abbrev pub is_digit : ℕ → Bool
is_digit b = is_between 48 b 57

-- decimal digits without a needless 0
abbrev pub is_number : Text → Bool
is_number [] = false
is_number (b ∷ []) = is_digit b
is_number (b ∷ c ∷ bs) = not (b == 48) && list_all is_digit (b ∷ c ∷ bs)

-- a word that is no name: all but the two that are words only where an accessor asks for them
abbrev pub is_word : Text → Bool
is_word t = is_some (word_of t) && not (bytes_eq t (codes "getter") || bytes_eq t (codes "setter"))

-- a name of the language, which none of its words is
abbrev pub is_name : Text → Bool
is_name [] = false
is_name (b ∷ bs) = is_name_start b && (list_all is_name_byte bs && not (is_word (b ∷ bs)))

-- ---- widths

abbrev pub is_star : ℕ → Bool
is_star b = b == 42

-- each at or behind the one before it: a name may be a factor several times
abbrev pub in_order : List Text → Bool
in_order [] = true
in_order (m ∷ []) = true
in_order (m ∷ n ∷ ns) = not (text_before n m) && in_order (n ∷ ns)

-- a term without its sign: a coefficient above 0, and names in order
abbrev pub is_term_of : List Text → Bool
is_term_of [] = false
is_term_of (c ∷ ns) = is_number c && (not (bytes_eq c (codes "0")) && (list_all is_name ns && in_order ns))

abbrev pub is_term : Text → Bool
is_term t = is_term_of (slice_split is_star t)

-- what is read between the stars, to compare terms
abbrev pub term_parts : List Text → Term
term_parts [] = record { coefficient = pos 0; names = [] }
term_parts (c ∷ ns) = record { coefficient = pos (digits_value 10 c); names = ns }

abbrev pub term_in : Text → Term
term_in t = term_parts (slice_split is_star t)

abbrev pub is_sign : ℕ → Bool
is_sign b = (b == 43) || (b == 45)

-- each behind the one before it
abbrev pub terms_rise : List Term → Bool
terms_rise [] = true
terms_rise (s ∷ []) = true
terms_rise (s ∷ t ∷ ts) = term_before s t && terms_rise (t ∷ ts)

abbrev pub are_terms : List Text → Bool
are_terms ts = list_all is_term ts && terms_rise (map term_in ts)

abbrev pub without_minus : Text → Text
without_minus t = if begins (codes "-") t then drop 1 t else t

-- the text before the first `)` outside of brackets, where so many are open at the beginning
abbrev pub before_close : ℕ → Text → Text
before_close n [] = []
before_close n (b ∷ bs) = if (b == 41) && (n == 0) then [] else b ∷ before_close (level n b) bs

-- terms with signs between, a `-` before the first where it is below 0
abbrev pub is_sum : Text → Bool
is_sum t = are_terms (slice_split is_sign (without_minus t))

-- a number above 1
abbrev pub is_denominator : Text → Bool
is_denominator t = is_number t && not (bytes_eq t (codes "0") || bytes_eq t (codes "1"))

-- what stands behind `(`: terms, the bracket that closes, and what they are divided by
abbrev pub is_quotient : Text → Bool
is_quotient t = is_sum (before_close 0 t) && (begins (before_close 0 t ++ codes ")/") t && is_denominator (drop (length (before_close 0 t ++ codes ")/")) t))

-- `0`, terms, or terms over a denominator
abbrev pub is_width : Text → Bool
is_width t = bytes_eq t (codes "0") || (is_sum t || (begins (codes "(") t && is_quotient (drop 1 t)))

-- ---- types

-- the texts between `..`, wherever it stands
abbrev pub ends_of : Text → List Text
ends_of [] = [] ∷ []
ends_of (a ∷ []) = (a ∷ []) ∷ []
ends_of (a ∷ b ∷ bs) = if (a == 46) && (b == 46) then [] ∷ ends_of bs else byte_first a (ends_of (b ∷ bs))

abbrev pub are_ends : List Text → Bool
are_ends [] = false
are_ends (low ∷ []) = is_width low
are_ends (low ∷ high ∷ []) = is_width low && (is_width high && not (bytes_eq low high))
are_ends (low ∷ high ∷ more ∷ rest) = false

-- `P`, or `P..Q` of ends that are spelled apart
abbrev pub is_range : Text → Bool
is_range t = are_ends (ends_of t)

-- `[H:L]NAME`
abbrev pub is_colon : ℕ → Bool
is_colon b = b == 58

abbrev pub is_bracket : ℕ → Bool
is_bracket b = b == 93

abbrev pub are_numbers : List Text → Bool
are_numbers (h ∷ l ∷ []) = is_number h && is_number l
are_numbers ts = false

abbrev pub is_bitfield_of : List Text → Bool
is_bitfield_of (places ∷ n ∷ []) = begins (codes "[") places && (are_numbers (slice_split is_colon (drop 1 places)) && is_name n)
is_bitfield_of ts = false

abbrev pub is_bitfield : Text → Bool
is_bitfield t = is_bitfield_of (slice_split is_bracket t)

-- at least two, and each is so
abbrev pub all_parts : (Text → Bool) → List Text → Bool
all_parts is [] = false
all_parts is (t ∷ []) = false
all_parts is (t ∷ u ∷ ts) = list_all is (t ∷ u ∷ ts)

-- nothing, or bitfields in braces
abbrev pub is_view : Text → Bool
is_view [] = true
is_view (b ∷ bs) = framed (codes "{") (codes "}") (b ∷ bs) && list_all is_bitfield (outer_parts 0 (inside (codes "{") (codes "}") (b ∷ bs)))

-- what stands behind `bits(`: a width, the bracket that closes, and bitfields where there are some
abbrev pub is_bits : Text → Bool
is_bits t = is_width (before_close 0 t) && (begins (before_close 0 t ++ codes ")") t && is_view (drop (suc (length (before_close 0 t))) t))

abbrev pub before_bracket : Text → Text
before_bracket [] = []
before_bracket (b ∷ bs) = if b == 93 then [] else b ∷ before_bracket bs

-- a type of at most so many levels. A step isn't opened by itself: each level stands twice in the next
unfoldable pub is_type : ℕ → Text → Bool
is_type zero t = false
is_type (suc n) t =
    bytes_eq t (codes "integer") || (bytes_eq t (codes "boolean") || (is_name t
    || ((framed (codes "integer{") (codes "}") t && list_all is_range (outer_parts 0 (inside (codes "integer{") (codes "}") t)))
    || ((begins (codes "bits(") t && is_bits (drop 5 t))
    || ((framed (codes "(") (codes ")") t && all_parts (is_type n) (outer_parts 0 (inside (codes "(") (codes ")") t)))
    || (begins (codes "array[") t && (is_number (before_bracket (drop 6 t)) && (begins (before_bracket (drop 6 t) ++ codes "]") (drop 6 t)
    && is_type n (drop (suc (length (before_bracket (drop 6 t)))) (drop 6 t))))))))))

-- ---- lines

abbrev pub is_space : ℕ → Bool
is_space b = b == 32

abbrev pub is_plus : ℕ → Bool
is_plus b = b == 43

-- `F:START+LENGTH`
abbrev pub is_length_of : List Text → Bool
is_length_of (s ∷ n ∷ []) = is_number s && is_number n
is_length_of ts = false

abbrev pub is_span_of : List Text → Bool
is_span_of (f ∷ rest ∷ []) = is_number f && is_length_of (slice_split is_plus rest)
is_span_of ts = false

abbrev pub is_span : Text → Bool
is_span t = is_span_of (slice_split is_colon t)

abbrev pub is_effect : Text → Bool
is_effect t = bytes_eq t (codes "P") || (bytes_eq t (codes "R") || bytes_eq t (codes "W"))

abbrev pub is_ending : Text → Bool
is_ending t = bytes_eq t (codes "falls") || bytes_eq t (codes "ends")

-- nothing, ` call I`, or ` call I` and widths
abbrev pub is_call : List Text → Bool
is_call [] = true
is_call (w ∷ []) = false
is_call (w ∷ i ∷ []) = bytes_eq w (codes "call") && (is_number i && not (bytes_eq i (codes "0")))
is_call (w ∷ i ∷ ws ∷ []) = is_call (w ∷ i ∷ []) && list_all is_width (outer_parts 0 ws)
is_call (w ∷ i ∷ ws ∷ more ∷ rest) = false

-- what stands between the spaces of a line
abbrev pub is_line_of : List Text → Bool
is_line_of (k ∷ s ∷ e ∷ x ∷ call) =
    is_span s && (is_effect e && (is_call call && ((bytes_eq k (codes "E") && is_type 100 x) || (bytes_eq k (codes "S") && is_ending x))))
is_line_of (k ∷ n ∷ []) = (bytes_eq k (codes "B") && is_name n) || (bytes_eq k (codes "end") && is_number n)
is_line_of ts = false

abbrev pub is_line : Text → Bool
is_line t = bytes_eq t first_line || is_line_of (slice_split is_space t)

-- what a line of the format is about: for expressions and statements their kind and span, for a body its name
abbrev pub about_of : List Text → Text
about_of (k ∷ s ∷ e ∷ x ∷ call) = k ++ (codes " " ++ s)
about_of (k ∷ n ∷ []) = if bytes_eq k (codes "end") then k else k ++ (codes " " ++ n)
about_of ts = []

abbrev pub about : Text → Text
about t = if bytes_eq t first_line then first_line else about_of (slice_split is_space t)
