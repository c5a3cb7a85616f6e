-- Runs over instruction words: one machine calls a subprogram once for each word, in order, up to the first call that doesn't
-- return. A word of 4 digits has 16 bits, and each other 32; a program has an entry for each of these two.
use Rattle.std.specs.Prelude.{ℕ, zero, suc, ◌+◌, ◌/◌, ◌%◌, ◌==◌, Bool, false, ◌||◌, not, if◌then◌else◌, nat_lt, List, [], ◌∷◌, ◌++◌, Option, Some, None, codes}
use Rattle.asl_rules.specs.declared.entry.Entry.{Entry}
use Rattle.asl_rules.specs.declared.entry.Entry.TheVariants as entry
use Rattle.asl_rules.specs.declarations.Programs.{Environment, Entries, origin}
use Rattle.asl_bits.specs.Lists.{bits_of}
use Rattle.asl_rules.specs.values.Values.{Value, bits_with}
use Rattle.asl_rules.specs.runs.States.{Binding, Core, resting}
use Rattle.asl_rules.specs.runs.Plans.{Meter, UnknownName, End, Stuck, Outcome, Done, Thrown, Halt, wrote}
use Rattle.asl_rules.specs.report.Texts.{Text, line_feed}
use Rattle.asl_rules.specs.report.WordList.{Word}
use Rattle.asl_rules.specs.runs.Machines.{run_of}

-- ---- what a word asks for

-- the word has 16 bits
abbrev pub is_short : Word → Bool
is_short w = w.digits == 4

abbrev pub some_short : List Word → Bool
some_short [] = false
some_short (w ∷ ws) = is_short w || some_short ws

abbrev pub some_long : List Word → Bool
some_long [] = false
some_long (w ∷ ws) = not (is_short w) || some_long ws

-- the entries that words need: `decode16` where one of them has 16 bits, and `decode` where one has 32, or where there is none
abbrev pub wanted : List Word → Entry
wanted words = if some_short words then (if some_long words then entry.Both else entry.Decode16) else entry.Decode

-- the number of the subprogram that is called for a word
abbrev pub entry_for : Entries → Word → Option ℕ
entry_for entries w = if is_short w then entries.entry16 else entries.main

abbrev pub word_width : Word → ℕ
word_width w = if is_short w then 16 else 32

-- a word as the argument of a call
abbrev pub word_value : Word → Value
word_value w = bits_with (bits_of (word_width w) w.bits) []

-- ---- the line of a word

abbrev pub digit_text : ℕ → ℕ
digit_text d = if nat_lt d 10 then 48 + d else 87 + d

-- the lowest digits of a number in hexadecimal, as many as are asked for, the highest first
abbrev pub digits_text : ℕ → ℕ → Text
digits_text zero n = []
digits_text (suc k) n = digits_text k (n / 16) ++ digit_text (n % 16) ∷ []

-- its digits, as many as it is written in
abbrev pub word_digits : Word → Text
word_digits w = if is_short w then digits_text 4 w.bits else digits_text 8 w.bits

-- the line before a call, on a line of its own
abbrev pub word_line : Bool → Word → Text
word_line is_open w = (if is_open then line_feed else []) ++ (codes "word " ++ (word_digits w ++ line_feed))

-- ---- runs

-- how the words end: all of them returned, or an exception or the end of a run came first
pub data WordsEnd : Type 0 where
  AllReturned : List Binding → Meter → WordsEnd
  WordThrew : Value → List Binding → Meter → WordsEnd
  WordHalted : End → List Binding → Meter → WordsEnd

-- the meter at the end
abbrev pub words_final : WordsEnd → Meter
words_final (AllReturned globals h) = h
words_final (WordThrew x globals h) = h
words_final (WordHalted e globals h) = h

abbrev pub behind_word : (List Binding → Meter → WordsEnd) → Outcome Core (Option Value) → WordsEnd
behind_word rest (Done o c h) = rest c.globals h
behind_word rest (Thrown x c h) = WordThrew x c.globals h
behind_word rest (Halt e c h) = WordHalted e c.globals h

-- the call for a word; without a subprogram for it, the rules give no outcome
abbrev pub run_word : Environment → Option ℕ → Word → List Binding → Meter → Outcome Core (Option Value)
run_word env None w globals h = Halt (Stuck UnknownName origin) (resting globals) h
run_word env (Some id) w globals h = run_of env id (word_value w ∷ []) globals h

-- the words in order, with the globals and the steps that the calls before have left
abbrev pub run_words : Environment → Entries → List Word → List Binding → Meter → WordsEnd
run_words env entries [] globals h = AllReturned globals h
run_words env entries (w ∷ ws) globals h =
    behind_word (run_words env entries ws) (run_word env (entry_for entries w) w globals (wrote h (word_line h.text_open w)))
