-- What comes of the files that a command names: the code reads all of them first, and then answers.
use Rattle.std.specs.Prelude.{[], if◌then◌else◌}
use Rattle.asl_syn.specs.Command.{Command, usage, check, run, exec, self, masks}
use Rattle.asl_rules.specs.report.Texts.{Text}
use Rattle.asl_rules.specs.report.Report.{Reading, all, long, many, is_long, read_files}
use Rattle.asl_answer.specs.private.Report.{Came, whole, too_long, too_many}

-- the word list is read behind the source files
abbrev pub list_behind : Text → Text → Reading → Came
list_behind name bytes (all files) = if is_long bytes then too_long name else whole files bytes
list_behind name bytes (long other) = too_long other
list_behind name bytes many = too_many

abbrev pub without_list : Reading → Came
without_list (all files) = whole files []
without_list (long name) = too_long name
without_list many = too_many

abbrev pub came_of : Command → (Text → Text) → Came
came_of usage held = whole [] []
came_of (check names) held = without_list (read_files held names)
came_of (run steps names) held = without_list (read_files held names)
came_of (exec steps list names) held = list_behind list (held list) (read_files held names)
came_of (self number size) held = whole [] []
came_of (masks budget names) held = without_list (read_files held names)
