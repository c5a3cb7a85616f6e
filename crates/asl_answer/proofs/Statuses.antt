-- The statuses of reports: 0 to 4, and 2 for no command alone.
use Rattle.std.proofs.Common.{◌≡◌, ◌<◌, ◌∙◌, ℕ, List, [], ◌∷◌, length, Option, Some, None, Result, Ok, Err, refl, sym, ap, arith}
use Rattle.asl_syn.specs.Command.{Command, usage, check, run, exec, self, masks, default_steps}
use Rattle.asl_syn.specs.declared.code.Fault.{Fault}
use Rattle.asl_syn.specs.declared.read.ReadDecl.{ReadDecl}
use Rattle.asl_rules.specs.values.Values.{Value}
use Rattle.asl_rules.specs.runs.States.{Binding, Core}
use Rattle.asl_rules.specs.runs.Plans.{Outcome, Done, Thrown, Halt, End, Faulted, Stuck}
use Rattle.asl_rules.specs.declarations.Programs.{Environment, Accepted, Entries}
use Rattle.asl_rules.specs.Tests.{Tests}
use Rattle.asl_rules.specs.report.Texts.{Text, File, made_words}
use Rattle.asl_rules.specs.runs.Words.{WordsEnd, AllReturned, WordThrew, WordHalted}
use Rattle.asl_rules.specs.report.WordList.{ListFault, words_read, Word}
use Rattle.asl_rules.specs.report.Made.{made_text}
use Rattle.asl_rules.specs.report.Report.{Answer, halted, run_answer, words_answer, made_answer, begun, worked, on_verdict, on_reading, on_words_read, on_check, on_run, on_words, on_made, on_masks, made_file}
use Rattle.asl_answer.specs.declared.status.Status.{Status}
use Rattle.asl_answer.specs.declared.status.Status.TheVariants as status
use Rattle.asl_grammar.specs.Reading.{Reader}
use Rattle.asl_answer.specs.private.Report.{Came, whole, too_long, too_many, answer_on_files, answer_of}
use Rattle.asl_answer.specs.Statuses.{code_of}

-- a status of a report
record IsOrdinary (command : Command) (n : ℕ) : Type 0 where
  low : n < 5
  usage_alone : n ≡ 2 → command ≡ usage

ordinary : (command : Command) (n : ℕ) → n < 5 → (n ≡ 2 → ⊥) → IsOrdinary command n
ordinary command n low other = record { low = low; usage_alone = λ h. absurd (other h) }

zero_is : (command : Command) → IsOrdinary command 0
zero_is command = ordinary command 0 (omega arith) (λ h. omega (arith, h))

one_is : (command : Command) → IsOrdinary command 1
one_is command = ordinary command 1 (omega arith) (λ h. omega (arith, h))

three_is : (command : Command) → IsOrdinary command 3
three_is command = ordinary command 3 (omega arith) (λ h. omega (arith, h))

four_is : (command : Command) → IsOrdinary command 4
four_is command = ordinary command 4 (omega arith) (λ h. omega (arith, h))

of_halted : (command : Command) (files : List File) (e : End) (globals : List Binding) (printed : Text) → IsOrdinary command (halted files e globals printed).status
of_halted command files (Faulted code span) globals printed = four_is command
of_halted command files (Stuck mistake span) globals printed = four_is command

of_run : (command : Command) (files : List File) (o : Outcome Core (Option Value)) → IsOrdinary command (run_answer files o).status
of_run command files (Done x c h) = zero_is command
of_run command files (Thrown x c h) = three_is command
of_run command files (Halt e c h) = of_halted command files e c.globals _

of_words : (command : Command) (files : List File) (n : ℕ) (o : WordsEnd) → IsOrdinary command (words_answer files n o).status
of_words command files n (AllReturned globals h) = zero_is command
of_words command files n (WordThrew x globals h) = three_is command
of_words command files n (WordHalted e globals h) = of_halted command files e globals _

of_made_run : (command : Command) (words : Text) (files : List File) (o : Outcome Core (Option Value)) → IsOrdinary command (made_answer words files o).status
of_made_run command words files (Done x c h) = zero_is command
of_made_run command words files (Thrown x c h) = three_is command
of_made_run command words files (Halt e c h) = of_halted command files e [] _

of_begun : (command : Command) (end : Outcome Core (Option Value) → Answer) → ((o : Outcome Core (Option Value)) → IsOrdinary command (end o).status) → (env : Environment) (steps : ℕ) (main : Option ℕ) → IsOrdinary command (begun end env steps main).status
of_begun command end each env steps None = zero_is command
of_begun command end each env steps (Some main) = each _

of_worked : (command : Command) (files : List File) (env : Environment) (steps : ℕ) (words : List Word) (found : Entries) → IsOrdinary command (worked files env steps words found).status
of_worked command files env steps words found = of_words command files _ _

of_verdict : (command : Command) (files : List File) (go : Entries → Answer) → ((found : Entries) → IsOrdinary command (go found).status) → (v : Result Accepted Fault) → IsOrdinary command (on_verdict files go v).status
of_verdict command files go each (Ok a) = each a.entries
of_verdict command files go each (Err f) = one_is command

of_reading : (command : Command) (files : List File) (go : List ReadDecl → Answer) → ((ds : List ReadDecl) → IsOrdinary command (go ds).status) → (r : Result (List ReadDecl) Fault) → IsOrdinary command (on_reading files go r).status
of_reading command files go each (Ok ds) = each ds
of_reading command files go each (Err f) = one_is command

of_list : (command : Command) (name : Text) (go : List Word → Answer) → ((words : List Word) → IsOrdinary command (go words).status) → (r : Result (List Word) ListFault) → IsOrdinary command (on_words_read name r go).status
of_list command name go each (Ok words) = each words
of_list command name go each (Err f) = one_is command

of_check : (t : Tests) (command : Command) (files : List File) (ds : List ReadDecl) → IsOrdinary command (on_check t files ds).status
of_check t command files ds = of_verdict command files _ (λ found. zero_is command) _

of_run_on : (t : Tests) (command : Command) (steps : ℕ) (files : List File) (ds : List ReadDecl) → IsOrdinary command (on_run t steps files ds).status
of_run_on t command steps files ds = of_verdict command files _ (λ found. of_begun command (run_answer files) (of_run command files) _ steps found.main) _

of_words_on : (t : Tests) (command : Command) (steps : ℕ) (words : List Word) (files : List File) (ds : List ReadDecl) → IsOrdinary command (on_words t steps words files ds).status
of_words_on t command steps words files ds = of_verdict command files _ (λ found. of_worked command files _ steps words found) _

of_made_on : (t : Tests) (command : Command) (number size : ℕ) (text : Text) (files : List File) (ds : List ReadDecl) → IsOrdinary command (on_made t number size text files ds).status
of_made_on t command number size text files ds =
    let words = made_words number size (length text) (length ds) in
    of_verdict command files _ (λ found. of_begun command (made_answer words files) (of_made_run command words files) _ default_steps found.main) _

of_masks : (t : Tests) (command : Command) (budget : ℕ) (files : List File) (ds : List ReadDecl) → IsOrdinary command (on_masks t budget files ds).status
of_masks t command budget files ds = of_verdict command files _ (λ found. zero_is command) _

of_files : (t : Tests) (read : Reader) (command : Command) (files : List File) (bytes : Text) → IsOrdinary command (answer_on_files t read command files bytes).status
unfolding answer_on_files
of_files t read usage files bytes = record { low = omega arith; usage_alone = λ _. refl }
of_files t read (check names) files bytes = of_reading (check names) files _ (of_check t (check names) files) (read files)
of_files t read (run steps names) files bytes = of_reading (run steps names) files _ (of_run_on t (run steps names) steps files) (read files)
of_files t read (exec steps list names) files bytes =
    of_list (exec steps list names) list _ (λ words. of_reading (exec steps list names) files _ (of_words_on t (exec steps list names) steps words files) (read files)) (words_read bytes)
of_files t read (self number size) files bytes =
    let text = made_text number size in
    let made = made_file text ∷ [] in
    of_reading (self number size) made _ (of_made_on t (self number size) number size text made) (read made)
of_files t read (masks budget names) files bytes = of_reading (masks budget names) files _ (of_masks t (masks budget names) budget files) (read files)

of_answer : (t : Tests) (read : Reader) (command : Command) (came : Came) → IsOrdinary command (answer_of t read command came).status
of_answer t read command (whole files bytes) = of_files t read command files bytes
of_answer t read command (too_long name) = one_is command
of_answer t read command too_many = one_is command

-- a status that has the number of a report's is no fault of the files or of the sink
pub not_read : (t : Tests) (read : Reader) (command : Command) (came : Came) (s : Status) → code_of s ≡ (answer_of t read command came).status → s ≡ status.ReadFault → ⊥
not_read t read command came s same is =
    let low = (of_answer t read command came).low in
    let five : 5 ≡ (answer_of t read command came).status = sym (ap code_of is) ∙ same in
    omega (arith, low, five)

pub not_write : (t : Tests) (read : Reader) (command : Command) (came : Came) (s : Status) → code_of s ≡ (answer_of t read command came).status → s ≡ status.WriteFault → ⊥
not_write t read command came s same is =
    let low = (of_answer t read command came).low in
    let six : 6 ≡ (answer_of t read command came).status = sym (ap code_of is) ∙ same in
    omega (arith, low, six)

pub usage_alone : (t : Tests) (read : Reader) (command : Command) (came : Came) (s : Status) → code_of s ≡ (answer_of t read command came).status → s ≡ status.Usage → command ≡ usage
usage_alone t read command came s same is = (of_answer t read command came).usage_alone (sym same ∙ ap code_of is)
