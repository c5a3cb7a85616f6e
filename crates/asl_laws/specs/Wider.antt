-- What the width limit decides: nothing but whether a run ends with the fault D14.
use Rattle.std.specs.Prelude.{◌≡◌, ◌≢◌, ℕ, Bool, true, false, List, [], ◌∷◌, Option, Some, None, Result, Ok, Err}
use Rattle.asl_syn.specs.Command.{Command, usage, check, run, exec, self, masks, default_steps}
use Rattle.asl_syn.specs.declared.code.DynCode.TheVariants.{D14}
use Rattle.asl_syn.specs.declared.code.Fault.{Fault}
use Rattle.asl_syn.specs.declared.tree.Decl.{Decl}
use Rattle.asl_syn.specs.declared.read.ReadDecl.{ReadDecl}
use Rattle.asl_grammar.specs.Reading.{Reader}
use Rattle.asl_rules.specs.declared.entry.Entry.{Entry}
use Rattle.asl_rules.specs.declared.entry.Entry.TheVariants as entry
use Rattle.asl_rules.specs.Tests.{Tests}
use Rattle.asl_rules.specs.runs.Plans.{End, Faulted, Stuck, Outcome, Done, Thrown, Halt, starting}
use Rattle.asl_rules.specs.declarations.Programs.{Environment, environment, Entries, Accepted, final_decls, read_verdict}
use Rattle.asl_rules.specs.runs.Machines.{run_of}
use Rattle.asl_rules.specs.runs.Words.{WordsEnd, AllReturned, WordThrew, WordHalted, run_words, wanted}
use Rattle.asl_rules.specs.report.WordList.{ListFault, Word, words_read}
use Rattle.asl_rules.specs.runs.Evaluation.{initial_globals}
use Rattle.asl_rules.specs.report.Made.{made_text}
use Rattle.asl_rules.specs.report.Texts.{Text, File}
use Rattle.asl_rules.specs.report.Report.{Reading, all, long, many, is_long, read_files, made_file}

-- an end that a wider limit may change: the fault D14, or a place where the rules give no outcome, as at a literal that is wider than the
-- limit
abbrev pub IsNarrow : End → Type 0
IsNarrow (Faulted code span) = code ≡ D14
IsNarrow (Stuck mistake span) = Unit {0}

-- a run that ends in another way
abbrev pub FitsLimit : {C A : Type 0} → Outcome C A → Type 0
FitsLimit (Done x c h) = Unit {0}
FitsLimit (Thrown x c h) = Unit {0}
FitsLimit (Halt e c h) = IsNarrow e → ⊥

abbrev pub WordsFitLimit : WordsEnd → Type 0
WordsFitLimit (AllReturned globals h) = Unit {0}
WordsFitLimit (WordThrew x globals h) = Unit {0}
WordsFitLimit (WordHalted e globals h) = IsNarrow e → ⊥

-- ---- what a report is put together from, at the narrower limit

-- a run that doesn't end with the fault D14
abbrev pub NotTooWide : {C A : Type 0} → Outcome C A → Type 0
NotTooWide (Done x c h) = Unit {0}
NotTooWide (Thrown x c h) = Unit {0}
NotTooWide (Halt (Faulted code span) c h) = code ≢ D14
NotTooWide (Halt (Stuck mistake span) c h) = Unit {0}

abbrev pub WordsNotTooWide : WordsEnd → Type 0
WordsNotTooWide (AllReturned globals h) = Unit {0}
WordsNotTooWide (WordThrew x globals h) = Unit {0}
WordsNotTooWide (WordHalted (Faulted code span) globals h) = code ≢ D14
WordsNotTooWide (WordHalted (Stuck mistake span) globals h) = Unit {0}

-- the run of the entry, where there is one, from the globals as they begin
abbrev pub RunFits : Environment → ℕ → Option ℕ → Type 0
RunFits env steps None = Unit {0}
RunFits env steps (Some main) = NotTooWide (run_of env main [] (initial_globals env) (starting steps (Some [])))

-- calls for words, one for each
abbrev pub WordsFit : Environment → ℕ → List Word → Entries → Type 0
WordsFit env steps words found = WordsNotTooWide (run_words env found words (initial_globals env) (starting steps (Some [])))

-- files that were read to declarations which are accepted with this entry, and this holds of the program that runs
abbrev pub Accepts : Tests → Entry → (List Decl → Entries → Type 0) → Result (List ReadDecl) Fault → Type 0
Accepts t e P r = (ds : List ReadDecl) × (a : Accepted) × (r ≡ Ok ds) × (read_verdict e ds t ≡ Ok a) × P (final_decls ds) a.entries

-- where all source files were read, and where a word list has no fault
abbrev pub OnFiles : Reading → (List File → Type 0) → Type 0
OnFiles (all files) P = P files
OnFiles (long name) P = Unit {0}
OnFiles many P = Unit {0}

abbrev pub OnWords : Result (List Word) ListFault → (List Word → Type 0) → Type 0
OnWords (Ok words) P = P words
OnWords (Err f) P = Unit {0}

abbrev pub UnlessLong : Bool → Type 0 → Type 0
UnlessLong true P = Unit {0}
UnlessLong false P = P

abbrev pub OnList : Text → (List Word → Type 0) → Type 0
OnList bytes P = UnlessLong (is_long bytes) (OnWords (words_read bytes) P)

-- what a command reads is accepted with its entry, and its run doesn't end with the fault D14
abbrev pub Fits : Tests → Reader → Command → (Text → Text) → Type 0
Fits t read usage held = Unit {0}
Fits t read (check names) held = OnFiles (read_files held names) (λ files. Accepts t entry.None (λ ds found. Unit {0}) (read files))
Fits t read (run steps names) held = OnFiles (read_files held names)
    (λ files. Accepts t entry.Main (λ ds found. RunFits (environment t ds) steps found.main) (read files))
Fits t read (exec steps list names) held = OnFiles (read_files held names)
    (λ files. OnList (held list) (λ words. Accepts t (wanted words) (λ ds found. WordsFit (environment t ds) steps words found) (read files)))
Fits t read (self number size) held = Accepts t entry.Main (λ ds found. RunFits (environment t ds) default_steps found.main)
    (read (made_file (made_text number size) ∷ []))
Fits t read (masks budget names) held = OnFiles (read_files held names) (λ files. Accepts t entry.None (λ ds found. Unit {0}) (read files))
