-- The answer of a run over words, by what its call says.
use Rattle.std.proofs.Common.{◌≡◌, ◌∙◌, ℕ, Bool, true, false, List, [], ◌++◌, length, Option, Some, Result, Ok, refl, sym, ap, subst, append_assoc, append-nil}
use Rattle.std.specs.Prelude.{if◌then◌else◌}
use Rattle.std.specs.List.{All}
use Rattle.asl_io.specs.Told.{TakesPrefix}
use Rattle.asl_rules.specs.runs.Told.{appended, open_after}
use Rattle.asl_rules.specs.runs.States.{Binding}
use Rattle.asl_rules.specs.runs.Plans.{Meter, starting, Faulted, Stuck}
use Rattle.asl_rules.specs.declarations.Programs.{Environment, environment}
use Rattle.asl_rules.specs.Tests.{Tests}
use Rattle.asl_rules.specs.runs.Evaluation.{initial_globals}
use Rattle.asl_rules.specs.report.Texts.{Text, File, line_feed, done_line, dynamic_line, uncaught_line}
use Rattle.asl_rules.specs.report.Report.{answer, behind, told_text, globals_text, words_answer, worked}
use Rattle.asl_rules.specs.runs.Words.{WordsEnd, AllReturned, WordThrew, WordHalted, run_words, words_final}
use Rattle.asl_rules.specs.report.WordList.{Word}
use Rattle.asl_laws.proofs.runs.Shift as shift
use Rattle.asl_laws.proofs.runs.Shift.{OwnText, retold, behind_own}
use Rattle.asl_laws.proofs.runs.WordRuns.{retold_words, words_behind, words_own_text}
use Rattle.asl_tree.specs.Sealed.{Sealed}
use Rattle.asl_types.specs.Suits.{Suits}
use Rattle.asl_machine.specs.declared.stage.Stage.{Stage}
use Rattle.asl_machine.specs.declared.stage.Stage.TheVariants as stage
use Rattle.asl_machine.specs.Stages.{OnRefused, is_ready}
use Rattle.asl_machine.specs.Work.{Work, IsNew, globals_of, globals_with}
use Rattle.asl_words.specs.declared.running.ExecEnd.{ExecEnd}
use Rattle.asl_words.specs.private.Runs.{Between, EndsWords, LeavesWords, end_of, meter_of, words_with}
use Rattle.asl_words.specs.Shapes.{IsNamed}
use Rattle.asl_answer.specs.declared.status.Stop.{Stop}
use Rattle.asl_answer.specs.declared.status.Status.{Status}
use Rattle.asl_answer.specs.private.Ends.{end_status, words_line}
use Rattle.asl_answer.specs.private.Writes.{Answers}
use Rattle.asl_answer.proofs.Answering.{Answers-after}
use Rattle.asl_answer.proofs.RunLemmas.{line_behind, open_is}
use Rattle.asl_answer.proofs.WordRuns.{part_of}

-- ---- the end of the words that began with no text

record OwnWords (s : Stage) (globals : List Binding) (steps : ℕ) (text_open : Bool) (old new : Option (List ℕ)) (r : WordsEnd) : Type 0 where
  text : List ℕ
  written : new ≡ appended old text
  is_open : text_open ≡ open_after false text
  ends : EndsWords s globals (record { steps = steps; told = Some text; text_open = text_open }) r

-- what two equal meters say, of which one had another text before it
record Meters (h : Meter) (steps : ℕ) (text_open : Bool) (old new : Option (List ℕ)) (text : List ℕ) : Type 0 where
  same : h ≡ record { steps = steps; told = Some text; text_open = text_open }
  written : new ≡ appended old text
  is_open : text_open ≡ open_after false text

meters : (h : Meter) (steps : ℕ) (text_open : Bool) (old new : Option (List ℕ)) (own : OwnText h) → retold (shift.behind old) h ≡ record { steps = steps; told = new; text_open = text_open } → Meters h steps text_open old new own.text
meters h steps text_open old new own e = record {
  same =
      ap (λ n. record { steps = n; told = h.told; text_open = h.text_open }) (ap (λ (k : Meter). k.steps) e) ∙
      ap (λ t. record { steps = steps; told = t; text_open = h.text_open }) own.told ∙
      ap (λ b. record { steps = steps; told = Some own.text; text_open = b }) (ap (λ (k : Meter). k.text_open) e);
  written = sym (ap (λ (k : Meter). k.told) e) ∙ ap (shift.behind old) own.told ∙ behind_own old own.text;
  is_open = sym (ap (λ (k : Meter). k.text_open) e) ∙ own.text_open;
}

own_words : (s : Stage) (globals : List Binding) (steps : ℕ) (text_open : Bool) (old new : Option (List ℕ)) (r : WordsEnd) → OwnText (words_final r) → OnRefused s ⊥ →
    EndsWords s globals (record { steps = steps; told = new; text_open = text_open }) (retold_words (shift.behind old) r) → OwnWords s globals steps text_open old new r
own_words (stage.Ready x) globals steps text_open old new (AllReturned gs h) own went e =
    let m = meters h steps text_open old new own (ap words_final e) in
    let same = m.same in
    record { text = own.text; written = m.written; is_open = m.is_open; ends = cc }
own_words (stage.Ready x) globals steps text_open old new (WordThrew y gs h) own went e = cc
own_words (stage.Ready x) globals steps text_open old new (WordHalted y gs h) own went e = cc
own_words (stage.Uncaught x) globals steps text_open old new (AllReturned gs h) own went e = cc
own_words (stage.Uncaught x) globals steps text_open old new (WordThrew y gs h) own went e =
    let m = meters h steps text_open old new own (ap words_final e) in
    let same = m.same in
    record { text = own.text; written = m.written; is_open = m.is_open; ends = cc }
own_words (stage.Uncaught x) globals steps text_open old new (WordHalted y gs h) own went e = cc
own_words (stage.Fault code span) globals steps text_open old new (AllReturned gs h) own went e = cc
own_words (stage.Fault code span) globals steps text_open old new (WordThrew y gs h) own went e = cc
own_words (stage.Fault code span) globals steps text_open old new (WordHalted y gs h) own went e =
    let m = meters h steps text_open old new own (ap words_final e) in
    let same = m.same in
    record { text = own.text; written = m.written; is_open = m.is_open; ends = cc }
own_words (stage.Refused x) globals steps text_open old new r own went e = absurd went

-- ---- the answer

words_ends : (files : List File) (n : ℕ) (s : Stage) (globals : List Binding) (steps : ℕ) (text_open : Bool) (text : Text) (r : WordsEnd) → OnRefused s ⊥ → EndsWords s globals (record { steps = steps; told = Some text; text_open = text_open }) r
    → words_answer files n r ≡ answer (behind text (words_line files n s ++ globals_text globals)) (end_status s)
words_ends files n (stage.Ready x) globals steps text_open text r went ends = ap (words_answer files n) ends
words_ends files n (stage.Uncaught x) globals steps text_open text r went ends = ap (words_answer files n) ends
words_ends files n (stage.Fault code span) globals steps text_open text r went ends = ap (words_answer files n) ends
words_ends files n (stage.Refused e) globals steps text_open text r went ends = absurd went

words_begins : (files : List File) (n : ℕ) (r : WordsEnd) (text : Text) → (words_final r).told ≡ Some text → (more : Text) × ((words_answer files n r).text ≡ text ++ more)
words_begins files n (AllReturned globals h) text told = line_behind text h.told (done_line n ++ globals_text globals) told
words_begins files n (WordThrew x globals h) text told = line_behind text h.told (uncaught_line x ++ globals_text globals) told
words_begins files n (WordHalted (Faulted code span) globals h) text told = line_behind text h.told (dynamic_line files code span ++ globals_text globals) told
words_begins files n (WordHalted (Stuck mistake span) globals h) text told = ([], ap told_text told ∙ sym (append-nil text))

-- words that ended didn't give their run up
went_on : (n : ℕ) (s : Stage) (end : ExecEnd) → end_of n s ≡ Some end → OnRefused s ⊥
went_on n (stage.Ready x) end h = tt
went_on n (stage.Uncaught x) end h = tt
went_on n (stage.Fault code span) end h = tt
went_on n (stage.Refused e) end h = cc

-- ---- a machine that is new

told_behind : (old : Option (List ℕ)) (r : WordsEnd) → (words_final (retold_words (shift.behind old) r)).told ≡ shift.behind old (words_final r).told
told_behind old (AllReturned globals h) = refl
told_behind old (WordThrew x globals h) = refl
told_behind old (WordHalted e globals h) = refl

pub stands_ready : (checked : Sealed) (n : ℕ) (w : Work) → IsNew w checked n → is_ready w.stage ≡ true
stands_ready checked n w new = ap is_ready new.stage_is

-- and asks for the entries of the words
pub asks_named : (checked : Sealed) (n : ℕ) (w : Work) (words : List Word) → IsNew w checked n → All (IsNamed checked.asked) words → All (IsNamed w.checked.asked) words
asks_named checked n w words new named = subst (λ (c : Sealed). All (IsNamed c.asked) words) (sym new.checked_is) named

module _ (t : Tests) (u : Suits t) (files : List File) (checked : Sealed) (n steps : ℕ) (w : Work) (words : List Word) (new : IsNew w checked n) (same : n ≡ steps) where
  env : Environment
  env = environment t checked.decls

  first : List Binding
  first = initial_globals env

  -- the words over no text
  all : WordsEnd
  all = run_words env checked.entries words first (starting steps (Some []))

  own : OwnText (words_final all)
  unfolding all
  own = words_own_text env checked.entries words first steps

  globals_are : globals_of t w ≡ first
  unfolding env first
  globals_are = ap (λ (c : Sealed). globals_with t c w.storage) new.checked_is ∙ new.globals_are t u

  -- what the call says of them
  words_are : (old : Option (List ℕ)) → words_with t w words old ≡ retold_words (shift.behind old) all
  unfolding env all
  words_are old =
      ap (λ (c : Sealed). run_words (environment t c.decls) c.entries words (globals_of t w) (meter_of w old)) new.checked_is
      ∙ ap (λ bs. run_words env checked.entries words bs (meter_of w old)) globals_are
      ∙ ap (λ k. run_words env checked.entries words first (record { steps = k; told = old; text_open = w.text_open })) (new.steps_are ∙ same)
      ∙ ap (λ b. run_words env checked.entries words first (record { steps = steps; told = old; text_open = b })) new.text_is_closed
      ∙ words_behind env checked.entries words first steps old

  -- words that ended, and the line of their end behind their text
  pub ended : (old mid last : Option (List ℕ)) (after : Work) (end : ExecEnd) (result : Result Status Stop) → end_of (length words) after.stage ≡ Some end
      → LeavesWords t after mid (words_with t w words old)
      → Answers result mid last (answer ((if after.text_open then line_feed else []) ++ (words_line files (length words) after.stage ++ globals_text (globals_of t after))) (end_status after.stage))
      → Answers result old last (worked files (environment t checked.decls) steps words checked.entries)
  unfolding env first all
  ended old mid last after end result ok leaves written =
      let went = went_on (length words) after.stage end ok in
      let over : LeavesWords t after mid (retold_words (shift.behind old) all) = subst (LeavesWords t after mid) (words_are old) leaves in
      let o = own_words after.stage (globals_of t after) after.steps after.text_open old mid all own went over in
      let shown = words_ends files (length words) after.stage (globals_of t after) after.steps after.text_open o.text all went o.ends in
      let last_line = words_line files (length words) after.stage ++ globals_text (globals_of t after) in
      let behind_it = Answers-after result old mid last o.text ((if after.text_open then line_feed else []) ++ last_line) (end_status after.stage) o.written written in
      subst (Answers result old last) (sym shown)
      (subst (λ b. Answers result old last (answer (o.text ++ ((if b then line_feed else []) ++ last_line)) (end_status after.stage))) (o.is_open ∙ open_is o.text) behind_it)

  -- words that were given up wrote a prefix of the answer
  pub were_given_up : (old mid : Option (List ℕ)) → Between old mid (words_final (words_with t w words old)).told → TakesPrefix old mid (worked files (environment t checked.decls) steps words checked.entries).text
  unfolding env first all
  were_given_up old mid between =
      let told : (words_final (words_with t w words old)).told ≡ appended old own.text = ap (λ r. (words_final r).told) (words_are old) ∙ told_behind old all ∙ ap (shift.behind old) own.told ∙ behind_own old own.text in
      let part = part_of old mid (words_final (words_with t w words old)).told own.text between.before between.behind told in
      let more = words_begins files (length words) all own.text own.told in
      let whole : (words_answer files (length words) all).text ≡ part.taken ++ (part.rest ++ more.0) = more.1 ∙ ap (λ z. z ++ more.0) part.whole ∙ append_assoc part.taken part.rest more.0 in
      (part.taken, part.rest ++ more.0, whole, part.is)
