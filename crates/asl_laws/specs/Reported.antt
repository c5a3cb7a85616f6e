-- What a report is put together from: where a program is accepted with entries, they are there, and runs of them aren't stuck.
use Rattle.std.specs.Prelude.{◌≡◌, ℕ, List, [], Some, Ok}
use Rattle.asl_syn.specs.declared.tree.Decl.{Decl}
use Rattle.asl_rules.specs.declared.entry.Entry.TheVariants as entry
use Rattle.asl_rules.specs.Tests.{Tests}
use Rattle.asl_rules.specs.runs.Plans.{Faulted, Stuck, starting}
use Rattle.asl_rules.specs.declarations.Programs.{Accepted, environment, verdict}
use Rattle.asl_rules.specs.runs.Machines.{run_of}
use Rattle.asl_rules.specs.report.WordList.{Word}
use Rattle.asl_rules.specs.runs.Words.{WordsEnd, AllReturned, WordThrew, WordHalted, run_words, wanted}
use Rattle.asl_rules.specs.runs.Evaluation.{initial_globals}
use Rattle.asl_laws.specs.Soundness.{NotStuck}

-- words end where all calls returned, or at an exception or a dynamic fault
abbrev pub WordsNotStuck : WordsEnd → Type 0
WordsNotStuck (AllReturned globals h) = Unit {0}
WordsNotStuck (WordThrew x globals h) = Unit {0}
WordsNotStuck (WordHalted (Faulted code span) globals h) = Unit {0}
WordsNotStuck (WordHalted (Stuck mistake span) globals h) = ⊥

-- from the globals as they begin, with any number of steps and no text so far, the entry `main` runs once, as `run` tells it, and where a program was accepted
-- with the entries that words need, these are called once for each word, as `exec` tells it. What `self` runs is a run of the entry `main` too, so `run` says it
-- of both
pub record RunsWell (t : Tests) (ds : List Decl) : Type 0 where
  pub run : (a : Accepted) → verdict entry.Main ds t ≡ Ok a → (steps : ℕ) →
      (main : ℕ) × ((a.entries.main ≡ Some main) × NotStuck (run_of (environment t ds) main [] (initial_globals (environment t ds)) (starting steps (Some []))))
  pub words : (a : Accepted) (words : List Word) → verdict (wanted words) ds t ≡ Ok a → (steps : ℕ) →
      WordsNotStuck (run_words (environment t ds) a.entries words (initial_globals (environment t ds)) (starting steps (Some [])))
