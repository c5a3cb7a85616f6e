-- The report: what a command writes, and its status, as a function of the bytes that files hold. It is the same by all right tests, and by all that files are
-- read to.
use Rattle.std.specs.Prelude.{ℕ, Bool, List, [], ◌∷◌, ◌++◌, length, nat_lt, if◌then◌else◌, Option, Some, None, Result, Ok, Err, codes}
use Rattle.asl_syn.specs.Command.{Command, usage, check, run, exec, self, masks, default_steps}
use Rattle.asl_syn.specs.declared.code.Fault.{Fault}
use Rattle.asl_syn.specs.declared.read.ReadDecl.{ReadDecl}
use Rattle.asl_grammar.specs.Reading.{Reader}
use Rattle.asl_rules.specs.declared.entry.Entry.TheVariants as entry
use Rattle.asl_rules.specs.Tests.{Tests}
use Rattle.asl_rules.specs.values.Values.{Value}
use Rattle.asl_rules.specs.runs.States.{Binding, Core}
use Rattle.asl_rules.specs.runs.Plans.{Outcome, Done, Thrown, Halt, End, Faulted, Stuck, starting}
use Rattle.asl_rules.specs.declarations.Programs.{Environment, environment, Entries, Accepted, final_decls, read_verdict}
use Rattle.asl_rules.specs.runs.Machines.{run_of}
use Rattle.asl_rules.specs.runs.Words.{WordsEnd, AllReturned, WordThrew, WordHalted, run_words, wanted}
use Rattle.asl_rules.specs.runs.Evaluation.{initial_globals}
use Rattle.asl_rules.specs.report.WordList.{ListFault, Word, words_read}
use Rattle.asl_rules.specs.report.Made.{made_text}
use Rattle.asl_rules.specs.report.MaskTables.{masks_text}
use Rattle.asl_rules.specs.report.Texts.{Text, File, fault_line, dynamic_line, usage_line, long_line, many_line, list_fault_line, made_words, accepted_line, returned_line, uncaught_line, done_line, closing, global_line}

-- what is written, and the status of it
pub record Answer : Type 0 where
  pub text : Text
  pub status : ℕ

abbrev pub answer : Text → ℕ → Answer
answer text status = record { text = text; status = status }

-- ---- files

-- the bytes of a file are more than 1,048,576
abbrev pub is_long : Text → Bool
is_long bytes = nat_lt 1048576 (length bytes)

-- what came of reading the source files: all of them, one that is too long, or more names than are allowed
pub data Reading : Type 0 where
  all : List File → Reading
  long : Text → Reading
  many : Reading

abbrev pub with_file : File → Reading → Reading
with_file f (all rest) = all (f ∷ rest)
with_file f (long name) = long name
with_file f many = many

-- the files in order, up to the first that is too long
abbrev pub read_by : (Text → Text) → List Text → Reading
read_by held [] = all []
read_by held (name ∷ names) = if is_long (held name) then long name
    else with_file (name, held name) (read_by held names)

-- at most 64 files
abbrev pub read_files : (Text → Text) → List Text → Reading
read_files held names = if nat_lt 64 (length names) then many else read_by held names

-- the answer where files were read, and what follows where all of them were
abbrev pub on_files : Reading → (List File → Answer) → Answer
on_files (all files) go = go files
on_files (long name) go = answer (long_line name) 1
on_files many go = answer many_line 1

-- the answer where a word list was read, and what follows where it has no fault
abbrev pub on_words_read : Text → Result (List Word) ListFault → (List Word → Answer) → Answer
on_words_read name (Ok words) go = go words
on_words_read name (Err f) go = answer (list_fault_line name f) 1

abbrev pub on_list : Text → Text → (List Word → Answer) → Answer
on_list name bytes go = if is_long bytes then answer (long_line name) 1 else on_words_read name (words_read bytes) go

-- ---- the end of a run

abbrev pub told_text : Option Text → Text
told_text None = []
told_text (Some text) = text

-- a line of the product behind printed text
abbrev pub behind : Text → Text → Text
behind printed line = printed ++ (closing printed ++ line)

-- the value that was returned, where there is one
abbrev pub outcome_line : Option Value → Text
outcome_line None = []
outcome_line (Some x) = returned_line x

-- the globals that can be assigned, in source order
abbrev pub globals_text : List Binding → Text
globals_text [] = []
globals_text (b ∷ bs) = if b.is_mutable then global_line b.name b.value ++ globals_text bs else globals_text bs

abbrev pub halted : List File → End → List Binding → Text → Answer
halted files (Faulted code span) globals printed = answer (behind printed (dynamic_line files code span ++ globals_text globals)) 4
halted files (Stuck mistake span) globals printed = answer printed 4

-- the end of a run: its printed text, the line that says how it ended, and the globals
abbrev pub run_answer : List File → Outcome Core (Option Value) → Answer
run_answer files (Done x c h) = answer (behind (told_text h.told) (outcome_line x ++ globals_text c.globals)) 0
run_answer files (Thrown x c h) = answer (behind (told_text h.told) (uncaught_line x ++ globals_text c.globals)) 3
run_answer files (Halt e c h) = halted files e c.globals (told_text h.told)

-- the same for a word list of n words, whose outcome line counts the words where all calls returned
abbrev pub words_answer : List File → ℕ → WordsEnd → Answer
words_answer files n (AllReturned globals h) = answer (behind (told_text h.told) (done_line n ++ globals_text globals)) 0
words_answer files n (WordThrew x globals h) = answer (behind (told_text h.told) (uncaught_line x ++ globals_text globals)) 3
words_answer files n (WordHalted e globals h) = halted files e globals (told_text h.told)

-- the same for a text that was made, without the globals: these words stand before the value that was returned
abbrev pub made_answer : Text → List File → Outcome Core (Option Value) → Answer
made_answer words files (Done x c h) = answer (behind (told_text h.told) (words ++ outcome_line x)) 0
made_answer words files (Thrown x c h) = answer (behind (told_text h.told) (uncaught_line x)) 3
made_answer words files (Halt e c h) = halted files e [] (told_text h.told)

-- ---- runs

-- a run of the subprogram with this number, from the globals as they begin
abbrev pub begun : (Outcome Core (Option Value) → Answer) → Environment → ℕ → Option ℕ → Answer
begun end env steps None = answer [] 0
begun end env steps (Some main) = end (run_of env main [] (initial_globals env) (starting steps (Some [])))

abbrev pub started : List File → Environment → ℕ → Entries → Answer
started files env steps found = begun (run_answer files) env steps found.main

-- calls for words, one for each
abbrev pub worked : List File → Environment → ℕ → List Word → Entries → Answer
worked files env steps words found = words_answer files (length words) (run_words env found words (initial_globals env) (starting steps (Some [])))

-- ---- programs

-- the answer for declarations by their verdict: their fault, or what comes of them where they are accepted
abbrev pub on_verdict : List File → (Entries → Answer) → Result Accepted Fault → Answer
on_verdict files go (Ok a) = go a.entries
on_verdict files go (Err f) = answer (fault_line files f) 1

-- the answers for files that were read to these declarations, by right tests
abbrev pub on_check : Tests → List File → List ReadDecl → Answer
on_check t files ds = on_verdict files (λ found. answer (accepted_line (length ds)) 0) (read_verdict entry.None ds t)

abbrev pub on_run : Tests → ℕ → List File → List ReadDecl → Answer
on_run t steps files ds = on_verdict files (started files (environment t (final_decls ds)) steps) (read_verdict entry.Main ds t)

abbrev pub on_words : Tests → ℕ → List Word → List File → List ReadDecl → Answer
on_words t steps words files ds = on_verdict files (worked files (environment t (final_decls ds)) steps words) (read_verdict (wanted words) ds t)

abbrev pub on_made : Tests → ℕ → ℕ → Text → List File → List ReadDecl → Answer
on_made t number size text files ds =
    on_verdict files (λ found. begun (made_answer (made_words number size (length text) (length ds)) files) (environment t (final_decls ds)) default_steps found.main)
    (read_verdict entry.Main ds t)

abbrev pub on_masks : Tests → ℕ → List File → List ReadDecl → Answer
on_masks t budget files ds = on_verdict files (λ found. answer (masks_text files budget ds) 0) (read_verdict entry.None ds t)

-- the answer for files that are read to declarations, or have a fault
abbrev pub on_reading : List File → (List ReadDecl → Answer) → Result (List ReadDecl) Fault → Answer
on_reading files go (Ok ds) = go ds
on_reading files go (Err f) = answer (fault_line files f) 1

-- ---- commands

-- the file of a made text
abbrev pub made_file : Text → File
made_file text = (codes "self", text)

-- the report of a command, by what files are read to, over files that hold these bytes under their names
unfoldable pub report_of : Tests → Reader → Command → (Text → Text) → Answer
report_of t read usage held = answer usage_line 2
report_of t read (check names) held = on_files (read_files held names) (λ files. on_reading files (on_check t files) (read files))
report_of t read (run steps names) held = on_files (read_files held names) (λ files. on_reading files (on_run t steps files) (read files))
report_of t read (exec steps list names) held =
    on_files (read_files held names) (λ files. on_list list (held list) (λ words. on_reading files (on_words t steps words files) (read files)))
report_of t read (self number size) held =
    let text = made_text number size in
    let files = made_file text ∷ [] in
    on_reading files (on_made t number size text files) (read files)
report_of t read (masks budget names) held = on_files (read_files held names) (λ files. on_reading files (on_masks t budget files) (read files))
