-- A report that was written: the code reads all files first, and then answers.
use Rattle.std.proofs.Common.{◌≡◌, ℕ, Bool, true, false, cond, List, Option, refl, sym, subst}
use Rattle.asl_io.specs.Told.{Takes, TakesPrefix}
use Rattle.asl_io.proofs.ToldLemmas.{TakesPrefix-all}
use Rattle.asl_syn.specs.Command.{Command, usage, check, run, exec, self, masks}
use Rattle.asl_grammar.specs.Reading.{Reader}
use Rattle.asl_rules.specs.report.Report.{Answer, answer, Reading, all, long, many, is_long, read_files, on_files, on_list, report_of}
use Rattle.asl_rules.specs.Tests.{Tests}
use Rattle.asl_rules.specs.report.Texts.{Text, File, long_line}
use Rattle.asl_answer.specs.private.Report.{Came, whole, too_long, check_answer, run_answer, exec_answer, list_answer, masks_answer, answer_on_files, answer_of}
use Rattle.asl_cmd.specs.private.Reading.{list_behind, without_list, came_of}

-- ---- the report, by the two steps of the code

plain_read : (t : Tests) (read : Reader) (names : List Text) (r : Reading) → on_files r (check_answer t read) ≡ answer_of t read (check names) (without_list r)
unfolding answer_on_files
plain_read t read names (all files) = refl
plain_read t read names (long name) = refl
plain_read t read names many = refl

steps_read : (t : Tests) (read : Reader) (steps : ℕ) (names : List Text) (r : Reading) → on_files r (run_answer t read steps) ≡ answer_of t read (run steps names) (without_list r)
unfolding answer_on_files
steps_read t read steps names (all files) = refl
steps_read t read steps names (long name) = refl
steps_read t read steps names many = refl

masks_read : (t : Tests) (read : Reader) (budget : ℕ) (names : List Text) (r : Reading) →
    on_files r (masks_answer t read budget) ≡ answer_of t read (masks budget names) (without_list r)
unfolding answer_on_files
masks_read t read budget names (all files) = refl
masks_read t read budget names (long name) = refl
masks_read t read budget names many = refl

list_read : (t : Tests) (read : Reader) (steps : ℕ) (list bytes : Text) (names : List Text) (files : List File) (b : Bool) →
    cond b (answer (long_line list) 1) (list_answer t read steps list files bytes) ≡ answer_of t read (exec steps list names) (cond b (too_long list) (whole files bytes))
unfolding answer_on_files
list_read t read steps list bytes names files true = refl
list_read t read steps list bytes names files false = refl

words_read_behind : (t : Tests) (read : Reader) (steps : ℕ) (list bytes : Text) (names : List Text) (r : Reading) →
    on_files r (λ files. on_list list bytes (λ words. exec_answer t read steps words files)) ≡ answer_of t read (exec steps list names) (list_behind list bytes r)
words_read_behind t read steps list bytes names (all files) = list_read t read steps list bytes names files (is_long bytes)
words_read_behind t read steps list bytes names (long name) = refl
words_read_behind t read steps list bytes names many = refl

pub report_is : (t : Tests) (read : Reader) (command : Command) (held : Text → Text) → report_of t read command held ≡ answer_of t read command (came_of command held)
unfolding report_of answer_on_files
report_is t read usage held = refl
report_is t read (check names) held = plain_read t read names (read_files held names)
report_is t read (run steps names) held = steps_read t read steps names (read_files held names)
report_is t read (exec steps list names) held = words_read_behind t read steps list (held list) names (read_files held names)
report_is t read (self number size) held = refl
report_is t read (masks budget names) held = masks_read t read budget names (read_files held names)

-- what is true of the answer is true of the report
pub of_report : (P : Answer → Type 0) (t : Tests) (read : Reader) (command named : Command) (came : Came) (held : Text → Text) → command ≡ named → came ≡ came_of command held
    → P (answer_of t read command came) → P (report_of t read named held)
of_report P t read command named came held same is h =
    subst P (sym (report_is t read named held))
    (subst (λ k. P (answer_of t read k (came_of k held))) same (subst (λ z. P (answer_of t read command z)) is h))

pub written_prefix : (t : Tests) (read : Reader) (command named : Command) (came : Came) (held : Text → Text) (old new : Option (List ℕ)) → command ≡ named → came ≡ came_of command held
    → Takes old new (answer_of t read command came).text → TakesPrefix old new (report_of t read named held).text
written_prefix t read command named came held old new same is text =
    TakesPrefix-all old new (report_of t read named held).text (of_report (λ a. Takes old new a.text) t read command named came held same is text)

pub prefix_written : (t : Tests) (read : Reader) (command named : Command) (came : Came) (held : Text → Text) (old new : Option (List ℕ)) → command ≡ named → came ≡ came_of command held
    → TakesPrefix old new (answer_of t read command came).text → TakesPrefix old new (report_of t read named held).text
prefix_written t read command named came held old new same is text = of_report (λ a. TakesPrefix old new a.text) t read command named came held same is text
