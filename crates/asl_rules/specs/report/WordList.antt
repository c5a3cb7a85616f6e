-- The words that a text lists, or its first fault.
--
-- A line ends in LF (10), the last one also without; tabs (9), CRs (13) and spaces (32) at the end of a line are dropped. A line that is blank then, or
-- begins with `//`, is passed over, and each other line writes a word in 8 or 4 hexadecimal digits. There are at most 65,536 words.
use Rattle.std.specs.Prelude.{ℕ, ◌-◌, ◌==◌, Bool, not, ◌||◌, nat_eq, nat_lt, List, [], ◌∷◌, length, take, map, filter, Option, Some, None, Result, Ok, Err, codes, if◌then◌else◌}
use Rattle.std.specs.List.{enumerate_from, filter_map, list_all, slice_split, starts_with, suffix_len}
use Rattle.std.specs.Char.{digit_value}
use Rattle.std.specs.Str.Parse.{digits_value}
use Rattle.asl_syn.specs.declared.code.StaticCode.{StaticCode}
use Rattle.asl_syn.specs.declared.code.StaticCode.TheVariants.{N01, N02, N03}
use Rattle.asl_grammar.specs.Reading.{Text}

-- ---- lines

abbrev pub is_line_end : ℕ → Bool
is_line_end b = b == 10

abbrev pub is_dropped : ℕ → Bool
is_dropped b = (b == 9) || (b == 13) || (b == 32)

-- the line without what is dropped at its end
abbrev pub without_end : Text → Text
without_end line = take (length line - suffix_len is_dropped line) line

-- the lines of a text. Where it ends in LF, a blank line more stands here behind that; as it is passed over, that is the same
abbrev pub lines_of : Text → List Text
lines_of text = map without_end (slice_split is_line_end text)

-- the line is blank or begins with `//`
abbrev pub is_passed_over : Text → Bool
is_passed_over line = (length line == 0) || starts_with nat_eq line (codes "//")

-- the lines that write words, each with its number, which counts all lines from 1
abbrev pub word_lines : Text → List (ℕ × Text)
word_lines text = filter (λ line. not (is_passed_over line.1)) (enumerate_from 1 (lines_of text))

-- ---- words and faults

-- a word: its number, and in how many hexadecimal digits it is written
pub record Word : Type 0 where
  pub bits : ℕ
  pub digits : ℕ

-- a code, and the number of the line that has it
pub record ListFault : Type 0 where
  pub code : StaticCode
  pub line : ℕ

abbrev pub at_line : StaticCode → ℕ → Option ListFault
at_line code line = Some (record { code = code; line = line })

-- a hexadecimal digit, of either case
abbrev pub is_digit : ℕ → Bool
is_digit b = nat_lt (digit_value b) 16

-- a word is written in 8 digits or in 4
abbrev pub has_word_length : Text → Bool
has_word_length line = (length line == 8) || (length line == 4)

-- the fault of a line with its number, which writes the n-th word, counted from 1
abbrev pub fault_of : ℕ → ℕ × Text → Option ListFault
fault_of n (number, line) =
    if not (has_word_length line) then at_line N01 number
    else (if not (list_all is_digit line) then at_line N02 number
    else (if nat_lt 65536 n then at_line N03 number else None))

-- the faults of a text, in the order of its lines
abbrev pub faults_of : Text → List ListFault
faults_of text = filter_map (λ nth. fault_of nth.0 nth.1) (enumerate_from 1 (word_lines text))

-- the word that a line writes
abbrev pub word_in : Text → Word
word_in line = record { bits = digits_value 16 line; digits = length line }

-- the words of a text, where it has no fault
abbrev pub words_of : Text → List Word
words_of text = map (λ line. word_in line.1) (word_lines text)

-- the first of the faults, or else the words
abbrev pub words_unless : List ListFault → List Word → Result (List Word) ListFault
words_unless [] words = Ok words
words_unless (first ∷ more) words = Err first

-- the words that a text lists, or its first fault
unfoldable pub words_read : Text → Result (List Word) ListFault
words_read text = words_unless (faults_of text) (words_of text)
