-- Calls from outside, and calls for words, with more steps.
use Rattle.std.proofs.Common.{ℕ, inl, inr, List, [], ◌∷◌, Option, Some, None, refl, sym, subst}
use Rattle.asl_rules.specs.runs.Told.{Begins}
use Rattle.asl_rules.specs.values.Values.{Value}
use Rattle.asl_rules.specs.runs.States.{Binding, Core, resting}
use Rattle.asl_rules.specs.runs.Plans.{Meter, Faulted, Stuck, Outcome, Done, Thrown, Halt, final, wrote, meanings}
use Rattle.asl_rules.specs.declarations.Programs.{Environment, Entries}
use Rattle.asl_rules.specs.runs.Evaluation.{nodes, call_of}
use Rattle.asl_rules.specs.runs.Machines.{most_open, run_of}
use Rattle.asl_rules.specs.report.WordList.{Word}
use Rattle.asl_rules.specs.runs.Words.{WordsEnd, behind_word, entry_for, run_word, run_words, word_line, word_value, words_final}
use Rattle.asl_laws.proofs.runs.Budget.{longer, After, self, grows}
use Rattle.asl_laws.proofs.runs.WordRuns.{words_after}
use Rattle.asl_laws.specs.Budgets.{with_more, with_more_left, Spent, SameWithMore, WordsSpent, SameWordsWithMore}
use Rattle.asl_laws.proofs.budgets.MorePlans.{run_more, mores}

pub call_more : (env : Environment) (id : ℕ) (args : List Value) (globals : List Binding) (h : Meter) (k : ℕ) → SameWithMore k (run_of env id args globals (with_more k h)) (run_of env id args globals h)
unfolding run_of
call_more env id args globals h k =
    run_more (meanings (nodes env) most_open) (grows (nodes env) most_open) (mores (nodes env) most_open) (call_of env id args (resting globals)) k h

-- ---- words

-- no word comes behind a call that ended for want of steps
spent_word : (s : Outcome Core (Option Value)) (f : List Binding → Meter → WordsEnd) (t : Option (List ℕ)) → Spent s → Begins (final s).told t → WordsSpent (behind_word f s) × Begins (words_final (behind_word f s)).told t
spent_word (Done x c h) f t p b = absurd p
spent_word (Thrown x c h) f t p b = absurd p
spent_word (Halt (Stuck mistake span) c h) f t p b = absurd p
spent_word (Halt (Faulted code span) c h) f t p b = (p, b)

same_word : (k : ℕ) (s : Outcome Core (Option Value)) (f : List Binding → Meter → WordsEnd) → ((globals : List Binding) (h : Meter) → SameWordsWithMore k (f globals (with_more k h)) (f globals h)) → SameWordsWithMore k (behind_word f (with_more_left k s)) (behind_word f s)
same_word k (Done x c h) f m = m c.globals h
same_word k (Thrown x c h) f m = inl refl
same_word k (Halt e c h) f m = inl refl

behind_after : (r : Outcome Core (Option Value)) (f : List Binding → Meter → WordsEnd) → ((globals : List Binding) (h : Meter) → After h (words_final (f globals h))) → After (final r) (words_final (behind_word f r))
behind_after (Done x c h) f a = a c.globals h
behind_after (Thrown x c h) f a = self h
behind_after (Halt e c h) f a = self h

word_more : (k : ℕ) (r s : Outcome Core (Option Value)) (f : List Binding → Meter → WordsEnd) → SameWithMore k r s → ((globals : List Binding) (h : Meter) → SameWordsWithMore k (f globals (with_more k h)) (f globals h)) → ((globals : List Binding) (h : Meter) → After h (words_final (f globals h)))
    → SameWordsWithMore k (behind_word f r) (behind_word f s)
word_more k r s f (inl e) m a = subst (λ x. SameWordsWithMore k (behind_word f x) (behind_word f s)) (sym e) (same_word k s f m)
word_more k r s f (inr q) m a = inr (spent_word s f (words_final (behind_word f r)).told q.0 (longer q.1 (behind_after r f a).told))

one_more : (env : Environment) (o : Option ℕ) (w : Word) (globals : List Binding) (h : Meter) (k : ℕ) →
    SameWithMore k (run_word env o w globals (with_more k h)) (run_word env o w globals h)
one_more env None w globals h k = inl refl
one_more env (Some id) w globals h k = call_more env id (word_value w ∷ []) globals h k

each_more : (env : Environment) (es : Entries) (words : List Word) (k : ℕ) (globals : List Binding) (h : Meter) →
    SameWordsWithMore k (run_words env es words globals (with_more k h)) (run_words env es words globals h)
each_more env es [] k globals h = inl refl
each_more env es (w ∷ words) k globals h =
    let begun = wrote h (word_line h.text_open w) in
    let o = entry_for es w in
    word_more k (run_word env o w globals (with_more k begun)) (run_word env o w globals begun) (run_words env es words)
    (one_more env o w globals begun k) (each_more env es words k) (words_after env es words)

pub words_more : (env : Environment) (es : Entries) (words : List Word) (globals : List Binding) (h : Meter) (k : ℕ) →
    SameWordsWithMore k (run_words env es words globals (with_more k h)) (run_words env es words globals h)
words_more env es words globals h k = each_more env es words k globals h
