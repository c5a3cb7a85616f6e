-- The text read line by line, for the private functions alone.
use Rattle.std.specs.Prelude.{ℕ, ◌+◌, List, [], ◌∷◌, ◌++◌, length, Option, Some, None, Result, Ok, Err, if◌then◌else◌}
use Rattle.asl_rules.specs.report.WordList.{ListFault, Word, is_passed_over, fault_of, word_in}

-- the fault, or else the word
abbrev pub word_unless : Option ListFault → Word → Result Word ListFault
word_unless None word = Ok word
word_unless (Some fault) word = Err fault

-- the word of a line with its number, where so many words stand before it
abbrev pub word_of : List ℕ → ℕ → ℕ → Result Word ListFault
word_of line number before = word_unless (fault_of (before + 1) (number, line)) (word_in line)

-- the words with one more
abbrev pub pushed : List Word → Result Word ListFault → Result (List Word) ListFault
pushed words (Ok word) = Ok (words ++ word ∷ [])
pushed words (Err fault) = Err fault

-- the words so far with that of one more line
abbrev pub with_line : List Word → List ℕ → ℕ → Result (List Word) ListFault
with_line words line number =
    if is_passed_over line then Ok words else pushed words (word_of line number (length words))
