-- The text of a run over words: it begins with what stood before it, and with that of fewer words.
use Rattle.std.proofs.Common.{◌≡◌, ℕ, zero, suc, ◌-◌, ◌<◌, List, [], ◌∷◌, ◌++◌, Option, refl, sym, ap, ◌∙◌, subst, arith}
use Rattle.asl_rules.specs.runs.Machines.{GivenUp, text_of_run}
use Rattle.asl_rules.specs.runs.Plans.{Meter, Outcome, Done, Thrown, Halt, final, starting}
use Rattle.asl_rules.specs.declarations.Programs.{Environment, Entries}
use Rattle.asl_rules.specs.runs.States.{Binding, Core}
use Rattle.asl_rules.specs.runs.Told.{Begins, appended}
use Rattle.asl_rules.specs.values.Values.{Value}
use Rattle.asl_rules.specs.report.WordList.{Word}
use Rattle.asl_rules.specs.runs.Words.{WordsEnd, AllReturned, WordThrew, WordHalted, behind_word, entry_for, run_word, run_words, word_line, words_final}
use Rattle.asl_laws.proofs.runs.Budget.{same_text, longer}
use Rattle.asl_laws.proofs.runs.WordRuns.{behind_words, words_behind_words, run_of_after, run_word_after, words_after, line_starts}

-- ---- a call that was given up

-- what was written stands behind what the sink held
pub held_before : (env : Environment) (id : ℕ) (args : List Value) (globals : List Binding) (old new : Option (List ℕ)) (steps n : ℕ) → GivenUp (text_of_run env id args globals old) old new steps n → Begins old new
held_before env id args globals old new steps zero g = subst (λ t. Begins old t) (sym (g.none refl)) (same_text old)
held_before env id args globals old new steps (suc n) g =
    let some : 0 < suc n = omega arith in
    longer (run_of_after env id args globals (starting (suc n - 1) old)).told (g.last some)

-- ---- one word

-- the call for a word, behind its line
abbrev pub called_with : Environment → Entries → Word → List Binding → Meter → Outcome Core (Option Value)
called_with env es w globals h = run_word env (entry_for es w) w globals (starting h.steps (appended h.told (word_line h.text_open w)))

pub words_next : (env : Environment) (es : Entries) (w : Word) (ws : List Word) (globals : List Binding) (h : Meter) → run_words env es (w ∷ ws) globals h ≡ behind_word (run_words env es ws) (called_with env es w globals h)
words_next env es w ws globals h = ap (λ k. behind_word (run_words env es ws) (run_word env (entry_for es w) w globals k)) (line_starts h w)

one_final : (r : Outcome Core (Option Value)) → words_final (behind_word AllReturned r) ≡ final r
one_final (Done x c h) = refl
one_final (Thrown x c h) = refl
one_final (Halt e c h) = refl

-- the text of a word alone is that of its call
pub one_told : (env : Environment) (es : Entries) (w : Word) (globals : List Binding) (h : Meter) → (words_final (run_words env es (w ∷ []) globals h)).told ≡ (final (called_with env es w globals h)).told
one_told env es w globals h = ap (λ r. (words_final r).told) (words_next env es w [] globals h) ∙ ap (λ (k : Meter). k.told) (one_final (called_with env es w globals h))

-- and it begins with the line of the word
pub line_first : (env : Environment) (es : Entries) (w : Word) (globals : List Binding) (h : Meter) → Begins (appended h.told (word_line h.text_open w)) (words_final (run_words env es (w ∷ []) globals h)).told
line_first env es w globals h =
    subst (λ t. Begins (appended h.told (word_line h.text_open w)) t) (sym (one_told env es w globals h))
    (run_word_after env (entry_for es w) w globals (starting h.steps (appended h.told (word_line h.text_open w)))).told

-- ---- fewer words

after_some : (env : Environment) (es : Entries) (ws : List Word) (r : WordsEnd) → Begins (words_final r).told (words_final (behind_words (run_words env es ws) r)).told
after_some env es ws (AllReturned globals h) = (words_after env es ws globals h).told
after_some env es ws (WordThrew x globals h) = same_text h.told
after_some env es ws (WordHalted e globals h) = same_text h.told

pub fewer_words : (env : Environment) (es : Entries) (vs ws : List Word) (globals : List Binding) (h : Meter) → Begins (words_final (run_words env es vs globals h)).told (words_final (run_words env es (vs ++ ws) globals h)).told
fewer_words env es vs ws globals h =
    subst (λ r. Begins (words_final (run_words env es vs globals h)).told (words_final r).told) (sym (words_behind_words env es vs ws globals h))
    (after_some env es ws (run_words env es vs globals h))

-- words behind others that all returned
pub words_behind_returned : (env : Environment) (es : Entries) (vs ws : List Word) (globals after : List Binding) (h k : Meter) → run_words env es vs globals h ≡ AllReturned after k → run_words env es (vs ++ ws) globals h ≡ run_words env es ws after k
words_behind_returned env es vs ws globals after h k e = words_behind_words env es vs ws globals h ∙ ap (behind_words (run_words env es ws)) e
