-- The answer of a command, by what came of the reading of all its files.
use Rattle.std.specs.Prelude.{ℕ, List, [], ◌∷◌}
use Rattle.asl_syn.specs.Command.{Command, usage, check, run, exec, self, masks}
use Rattle.asl_grammar.specs.Reading.{Reader}
use Rattle.asl_rules.specs.report.Made.{made_text}
use Rattle.asl_rules.specs.Tests.{Tests}
use Rattle.asl_rules.specs.report.Texts.{Text, File, usage_line, long_line, many_line}
use Rattle.asl_rules.specs.report.Report.{Answer, answer, on_reading, on_words_read, on_check, on_run, on_words, on_made, on_masks, made_file}
use Rattle.asl_rules.specs.report.WordList.{Word, words_read}

-- what came of all reading: the source files with the bytes of the word list, none where there is no list; the name of a file that is too long; or more
-- source files than are allowed
pub data Came : Type 0 where
  whole : List File → Text → Came
  too_long : Text → Came
  too_many : Came

-- the answers of the commands for source files
abbrev pub check_answer : Tests → Reader → List File → Answer
check_answer t read files = on_reading files (on_check t files) (read files)

abbrev pub run_answer : Tests → Reader → ℕ → List File → Answer
run_answer t read steps files = on_reading files (on_run t steps files) (read files)

abbrev pub exec_answer : Tests → Reader → ℕ → List Word → List File → Answer
exec_answer t read steps words files = on_reading files (on_words t steps words files) (read files)

-- the same by the bytes of the word list
abbrev pub list_answer : Tests → Reader → ℕ → Text → List File → Text → Answer
list_answer t read steps list files bytes = on_words_read list (words_read bytes) (λ words. exec_answer t read steps words files)

abbrev pub made_answer : Tests → Reader → ℕ → ℕ → Text → List File → Answer
made_answer t read number size text files = on_reading files (on_made t number size text files) (read files)

abbrev pub self_answer : Tests → Reader → ℕ → ℕ → Text → Answer
self_answer t read number size text = made_answer t read number size text (made_file text ∷ [])

abbrev pub masks_answer : Tests → Reader → ℕ → List File → Answer
masks_answer t read budget files = on_reading files (on_masks t budget files) (read files)

-- the answer where all was read
unfoldable pub answer_on_files : Tests → Reader → Command → List File → Text → Answer
answer_on_files t read usage files bytes = answer usage_line 2
answer_on_files t read (check names) files bytes = check_answer t read files
answer_on_files t read (run steps names) files bytes = run_answer t read steps files
answer_on_files t read (exec steps list names) files bytes = list_answer t read steps list files bytes
answer_on_files t read (self number size) files bytes = self_answer t read number size (made_text number size)
answer_on_files t read (masks budget names) files bytes = masks_answer t read budget files

-- the answer for what came of the reading
abbrev pub answer_of : Tests → Reader → Command → Came → Answer
answer_of t read command (whole files bytes) = answer_on_files t read command files bytes
answer_of t read command (too_long name) = answer (long_line name) 1
answer_of t read command too_many = answer many_line 1
