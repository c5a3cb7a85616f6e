-- The exit statuses.
use Rattle.std.specs.Prelude.{ℕ}
use Rattle.asl_answer.specs.declared.status.Status.{Status}
use Rattle.asl_answer.specs.declared.status.Status.TheVariants as status

-- the number of a status
abbrev pub code_of : Status → ℕ
code_of status.Done = 0
code_of status.Refused = 1
code_of status.Usage = 2
code_of status.Uncaught = 3
code_of status.Dynamic = 4
code_of status.ReadFault = 5
code_of status.WriteFault = 6
code_of status.NoMemory = 7
