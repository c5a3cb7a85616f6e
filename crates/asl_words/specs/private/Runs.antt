-- What contracts see of a run over words: an entry of a machine's program is called once for each word, in order, up to the first call that doesn't return.
use Rattle.std.specs.Prelude.{◌≡◌, ℕ, true, List, ◌∷◌, ◌++◌, Option, Some, None}
use Rattle.asl_rules.specs.types.Closed.{Closed}
use Rattle.asl_rules.specs.runs.Plans.{Meter, Faulted}
use Rattle.asl_rules.specs.declarations.Programs.{environment}
use Rattle.asl_rules.specs.runs.States.{Binding}
use Rattle.asl_rules.specs.Tests.{Tests}
use Rattle.asl_rules.specs.runs.Told.{Begins, Part}
use Rattle.asl_rules.specs.values.Values as rules
use Rattle.asl_rules.specs.types.Views.{viewed}
use Rattle.asl_rules.specs.report.WordList.{Word}
use Rattle.asl_rules.specs.runs.Words.{WordsEnd, AllReturned, WordThrew, WordHalted, run_words, word_line, word_value}
use Rattle.asl_value.specs.View.{value_of}
use Rattle.asl_machine.specs.declared.stage.Stage.{Stage}
use Rattle.asl_machine.specs.declared.stage.Stage.TheVariants as stage
use Rattle.asl_machine.specs.Stages.{is_ready}
use Rattle.asl_machine.specs.Work.{Work, globals_of}
use Rattle.asl_words.specs.declared.running.ExecEnd.{ExecEnd}
use Rattle.asl_words.specs.declared.running.ExecEnd.TheVariants.{Done, Uncaught, Fault}

-- the steps of a machine, where the sink holds this text
abbrev pub meter_of : Work → Option (List ℕ) → Meter
meter_of w told = record { steps = w.steps; told = told; text_open = w.text_open }

-- what words come to on a machine, where the sink holds this text
abbrev pub words_with : Tests → Work → List Word → Option (List ℕ) → WordsEnd
words_with t w words told = run_words (environment t w.checked.decls) w.checked.entries words (globals_of t w) (meter_of w told)

-- words end so, with these globals and this meter
abbrev pub EndsWords : Stage → List Binding → Meter → WordsEnd → Type 0
EndsWords (stage.Ready x) globals h r = r ≡ AllReturned globals h
EndsWords (stage.Uncaught x) globals h r = r ≡ WordThrew (value_of x) globals h
EndsWords (stage.Fault code span) globals h r = r ≡ WordHalted (Faulted code span) globals h
EndsWords (stage.Refused e) globals h r = Unit {0}

-- they leave a machine so, and the sink with this text
abbrev pub LeavesWords : Tests → Work → Option (List ℕ) → WordsEnd → Type 0
LeavesWords t w told r = EndsWords w.stage (globals_of t w) (meter_of w told) r

-- the answer of n words that leave the machine so
abbrev pub end_of : ℕ → Stage → Option ExecEnd
end_of n (stage.Ready x) = Some (Done n)
end_of n (stage.Uncaught x) = Some Uncaught
end_of n (stage.Fault code span) = Some (Fault code span)
end_of n (stage.Refused e) = None

-- some of a text was written
pub record Between (old new whole : Option (List ℕ)) : Type 0 where
  pub before : Begins old new
  pub behind : Begins new whole

-- the machine hasn't ended, and stands as before one of the words: the sink took the text of those in front of it, and behind that a part of its line
pub record StandsBefore (t : Tests) (old new : Work) (words : List Word) (told told1 : Option (List ℕ)) : Type 0 where
  pub done : List Word
  pub word : Word
  pub rest : List Word
  pub is : words ≡ done ++ word ∷ rest
  pub ready : is_ready new.stage ≡ true
  pub text : Option (List ℕ)
  pub leaves : LeavesWords t new text (words_with t old done told)
  pub line : Part text told1 (word_line new.text_open word)

-- a word as an argument: its bits, with the bitfields of some type
pub record IsWord (word : Word) (x : rules.Value) : Type 0 where
  pub type_is : Closed
  pub is : x ≡ viewed type_is (word_value word)
