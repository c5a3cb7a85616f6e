-- What the number of steps decides: nothing but whether a run ends for want of steps.
use Rattle.std.specs.Prelude.{◌≡◌, ℕ, ◌+◌, ◌⊎◌}
use Rattle.asl_syn.specs.declared.code.DynCode.TheVariants.{D13}
use Rattle.asl_rules.specs.runs.Told.{Begins}
use Rattle.asl_rules.specs.runs.Plans.{Meter, Faulted, Stuck, Outcome, Done, Thrown, Halt, final}
use Rattle.asl_rules.specs.runs.Words.{WordsEnd, AllReturned, WordThrew, WordHalted, words_final}

-- the meter with k steps more
abbrev pub with_more : ℕ → Meter → Meter
with_more k h = record h { steps = h.steps + k }

-- ---- one run

-- the same end, with k steps more left
abbrev pub with_more_left : {C A : Type 0} → ℕ → Outcome C A → Outcome C A
with_more_left k (Done x c h) = Done x c (with_more k h)
with_more_left k (Thrown x c h) = Thrown x c (with_more k h)
with_more_left k (Halt e c h) = Halt e c (with_more k h)

-- it ended for want of steps: with the fault D13, and no step left
abbrev pub Spent : {C A : Type 0} → Outcome C A → Type 0
Spent (Done x c h) = ⊥
Spent (Thrown x c h) = ⊥
Spent (Halt (Stuck mistake span) c h) = ⊥
Spent (Halt (Faulted code span) c h) = (code ≡ D13) × (h.steps ≡ 0)

-- the first is a run that had k steps more than the second: it ends as the second, with k steps more left, or the second ended for want of steps, with a text
-- that begins the text of the first
abbrev pub SameWithMore : {C A : Type 0} → ℕ → Outcome C A → Outcome C A → Type 0
SameWithMore k r s = (r ≡ with_more_left k s) ⊎ (Spent s × Begins (final s).told (final r).told)

-- ---- the same of a run over words

abbrev pub words_with_more_left : ℕ → WordsEnd → WordsEnd
words_with_more_left k (AllReturned globals h) = AllReturned globals (with_more k h)
words_with_more_left k (WordThrew x globals h) = WordThrew x globals (with_more k h)
words_with_more_left k (WordHalted e globals h) = WordHalted e globals (with_more k h)

abbrev pub WordsSpent : WordsEnd → Type 0
WordsSpent (AllReturned globals h) = ⊥
WordsSpent (WordThrew x globals h) = ⊥
WordsSpent (WordHalted (Stuck mistake span) globals h) = ⊥
WordsSpent (WordHalted (Faulted code span) globals h) = (code ≡ D13) × (h.steps ≡ 0)

abbrev pub SameWordsWithMore : ℕ → WordsEnd → WordsEnd → Type 0
SameWordsWithMore k r s = (r ≡ words_with_more_left k s) ⊎ (WordsSpent s × Begins (words_final s).told (words_final r).told)
