-- The lines that end the answer of a run, by where the machine stands then.
use Rattle.std.specs.Prelude.{◌≡◌, ℕ, List, [], ◌∷◌, ◌++◌, option_map, Ok}
use Rattle.asl_rules.specs.report.Texts.{Text, File, done_line, dynamic_line, uncaught_line, global_line}
use Rattle.asl_rules.specs.runs.States.{Binding}
use Rattle.asl_rules.specs.private.Grown.{AreGrown}
use Rattle.asl_rules.specs.declarations.Programs.{Accepted, verdict}
use Rattle.asl_rules.specs.report.Report.{outcome_line, globals_text}
use Rattle.asl_rules.specs.Tests.{Tests}
use Rattle.asl_rules.specs.declared.entry.Entry.TheVariants.{Main}
use Rattle.asl_tree.specs.Sealed.{Sealed}
use Rattle.asl_machine.specs.Storage.{Var}
use Rattle.asl_machine.specs.Work.{Work, globals_of}
use Rattle.asl_value.specs.View.{value_of}
use Rattle.asl_machine.specs.declared.stage.Outcome.{Outcome}
use Rattle.asl_machine.specs.declared.stage.Outcome.TheVariants as outcome
use Rattle.asl_machine.specs.declared.stage.Stage.{Stage}
use Rattle.asl_machine.specs.declared.stage.Stage.TheVariants as stage

-- the value that was returned or thrown, or the fault; nothing of a run that was given up
abbrev pub end_line : List File → Stage → Text
end_line files (stage.Ready x) = outcome_line (option_map value_of x)
end_line files (stage.Uncaught x) = uncaught_line (value_of x)
end_line files (stage.Fault code span) = dynamic_line files code span
end_line files (stage.Refused e) = []

-- the same with a line for each global that can be assigned
abbrev pub ending : List File → Stage → List Binding → Text
ending files s globals = end_line files s ++ globals_text globals

-- the same of words, where their number stands in place of a value
abbrev pub words_line : List File → ℕ → Stage → Text
words_line files n (stage.Ready x) = done_line n
words_line files n (stage.Uncaught x) = uncaught_line (value_of x)
words_line files n (stage.Fault code span) = dynamic_line files code span
words_line files n (stage.Refused e) = []

-- and of a made text, where words stand before a value that was returned
abbrev pub made_line : Text → List File → Stage → Text
made_line words files (stage.Ready x) = words ++ outcome_line (option_map value_of x)
made_line words files (stage.Uncaught x) = uncaught_line (value_of x)
made_line words files (stage.Fault code span) = dynamic_line files code span
made_line words files (stage.Refused e) = []

-- these words where a run returned, and nothing elsewhere
abbrev pub where_returned : Text → Outcome → Text
where_returned words outcome.Returned = words
where_returned words outcome.Uncaught = []
where_returned words (outcome.Fault code span) = []

-- the status that goes with it
abbrev pub end_status : Stage → ℕ
end_status (stage.Ready x) = 0
end_status (stage.Uncaught x) = 3
end_status (stage.Fault code span) = 4
end_status (stage.Refused e) = 7

-- a line for each variable
abbrev pub vars_text : List Var → Text
vars_text [] = []
vars_text (v ∷ vs) = global_line v.name v.value ++ vars_text vs

-- the end of a run that leaves a machine so
abbrev pub globals_ending : Tests → List File → Work → Text
globals_ending t files w = ending files w.stage (globals_of t w)

abbrev pub words_ending : Tests → List File → ℕ → Work → Text
words_ending t files n w = words_line files n w.stage ++ globals_text (globals_of t w)

-- a program that was accepted with the entry `main`
pub record Starts (t : Tests) (c : Sealed) : Type 0 where
  pub grown : AreGrown c.decls
  pub asked : c.asked ≡ Main
  pub accepted : Accepted
  pub is : verdict c.asked c.decls t ≡ Ok accepted
  pub main : accepted.entries.main ≡ c.entries.main
