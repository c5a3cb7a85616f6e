-- The answer of a run, by what the call of the machine says.
use Rattle.std.proofs.Common.{◌≡◌, ◌∙◌, ℕ, Bool, false, List, [], ◌∷◌, ◌++◌, map, Option, Some, Result, Ok, Err, refl, sym, ap, subst, append_assoc, append-nil}
use Rattle.std.specs.Prelude.{if◌then◌else◌}
use Rattle.asl_io.specs.Told.{TakesPrefix}
use Rattle.asl_rules.specs.runs.Told.{open_after}
use Rattle.asl_rules.specs.runs.States.{Binding, Core}
use Rattle.asl_rules.specs.values.Values.{Value}
use Rattle.asl_rules.specs.runs.Plans.{starting, Outcome, Done, Thrown, Halt, Faulted, Stuck, final}
use Rattle.asl_rules.specs.declarations.Programs.{Environment, environment}
use Rattle.asl_rules.specs.Tests.{Tests}
use Rattle.asl_rules.specs.runs.Machines.{GivenUp, run_of, text_of_run}
use Rattle.asl_rules.specs.runs.Evaluation.{initial_globals}
use Rattle.asl_rules.specs.report.Texts.{Text, File, is_open, closing, line_feed, dynamic_line, uncaught_line}
use Rattle.asl_rules.specs.report.Report.{Answer, answer, behind, told_text, outcome_line, globals_text, run_answer, made_answer, begun}
use Rattle.asl_laws.proofs.runs.Shift.{own_text}
use Rattle.asl_tree.specs.Sealed.{Sealed}
use Rattle.asl_types.specs.Suits.{Suits}
use Rattle.asl_value.specs.declared.value.Value.{Value as Given}
use Rattle.asl_value.specs.View.{value_of}
use Rattle.asl_machine.specs.declared.stage.Outcome.{Outcome as Ended}
use Rattle.asl_machine.specs.declared.stage.Outcome.TheVariants as outcome
use Rattle.asl_machine.specs.declared.stage.RunRefused.{RunRefused}
use Rattle.asl_machine.specs.declared.stage.RunRefused.TheVariants as refused
use Rattle.asl_machine.specs.declared.stage.Stage.{Stage}
use Rattle.asl_machine.specs.declared.stage.Stage.TheVariants as stage
use Rattle.asl_machine.specs.Stages.{Ends, OnReady, OnRefused, answer_of, Counted}
use Rattle.asl_machine.specs.Work.{Work, IsNew, IsCallable, EndsWith, globals_of, globals_with, run_with, text_with}
use Rattle.asl_machine.proofs.Entries.{main_callable}
use Rattle.asl_machine.proofs.OwnRuns.{own_run, own_part}
use Rattle.asl_answer.specs.declared.status.Stop.{Stop}
use Rattle.asl_answer.specs.declared.status.Status.{Status}
use Rattle.asl_answer.specs.private.Ends.{end_line, end_status, ending, made_line, where_returned, Starts}
use Rattle.asl_answer.specs.private.Writes.{Answers}
use Rattle.asl_answer.proofs.Answering.{Answers-after}

-- both tests of open text agree
pub open_is : (text : List ℕ) → open_after false text ≡ is_open text
open_is [] = refl
open_is (b ∷ []) = refl
open_is (b ∷ c ∷ rest) = open_is (c ∷ rest)

-- a machine that gave an answer didn't give its run up
went_on : (s : Stage) (o : Ended) → Ok o ≡ answer_of s → OnRefused s ⊥
went_on (stage.Ready x) o h = tt
went_on (stage.Uncaught x) o h = tt
went_on (stage.Fault code span) o h = tt
went_on (stage.Refused e) o h = cc

pub line_behind : (text : Text) (told : Option Text) (line : Text) → told ≡ Some text → (more : Text) × (behind (told_text told) line ≡ text ++ more)
line_behind text told line is = (closing (told_text told) ++ line, ap (λ t. t ++ (closing (told_text told) ++ line)) (ap told_text is))

-- what the end of a run is answered by: the line of its end behind its text, with the status that goes with it; and its text begins with that of the run
pub record IsEnding (end : Outcome Core (Option Value) → Answer) (line : Stage → List Binding → Text) : Type 0 where
  pub ends : (s : Stage) (globals : List Binding) (steps : ℕ) (text_open : Bool) (text : Text) (r : Outcome Core (Option Value)) → OnRefused s ⊥ → Ends s globals (record { steps = steps; told = Some text; text_open = text_open }) r
      → end r ≡ answer (behind text (line s globals)) (end_status s)
  pub begins : (r : Outcome Core (Option Value)) (text : Text) → (final r).told ≡ Some text → (more : Text) × ((end r).text ≡ text ++ more)

run_ends : (files : List File) (s : Stage) (globals : List Binding) (steps : ℕ) (text_open : Bool) (text : Text) (r : Outcome Core (Option Value)) → OnRefused s ⊥ → Ends s globals (record { steps = steps; told = Some text; text_open = text_open }) r → run_answer files r ≡ answer (behind text (ending files s globals)) (end_status s)
run_ends files (stage.Ready x) globals steps text_open text r went ends = ap (run_answer files) ends
run_ends files (stage.Uncaught x) globals steps text_open text r went ends = ap (run_answer files) ends
run_ends files (stage.Fault code span) globals steps text_open text r went ends =
    ap (run_answer files) ends.is ∙ ap (λ gs. answer (behind text (dynamic_line files code span ++ globals_text gs)) 4) ends.globals_are
run_ends files (stage.Refused e) globals steps text_open text r went ends = absurd went

run_begins : (files : List File) (r : Outcome Core (Option Value)) (text : Text) → (final r).told ≡ Some text → (more : Text) × ((run_answer files r).text ≡ text ++ more)
run_begins files (Done x c h) text told = line_behind text h.told (outcome_line x ++ globals_text c.globals) told
run_begins files (Thrown x c h) text told = line_behind text h.told (uncaught_line x ++ globals_text c.globals) told
run_begins files (Halt (Faulted code span) c h) text told = line_behind text h.told (dynamic_line files code span ++ globals_text c.globals) told
run_begins files (Halt (Stuck mistake span) c h) text told = ([], ap told_text told ∙ sym (append-nil text))

pub run_ending : (files : List File) → IsEnding (run_answer files) (ending files)
run_ending files = record { ends = run_ends files; begins = run_begins files }

-- the same for a text that was made, without globals
made_ends : (words : Text) (files : List File) (s : Stage) (globals : List Binding) (steps : ℕ) (text_open : Bool) (text : Text) (r : Outcome Core (Option Value)) → OnRefused s ⊥ → Ends s globals (record { steps = steps; told = Some text; text_open = text_open }) r → made_answer words files r ≡ answer (behind text (made_line words files s)) (end_status s)
made_ends words files (stage.Ready x) globals steps text_open text r went ends = ap (made_answer words files) ends
made_ends words files (stage.Uncaught x) globals steps text_open text r went ends = ap (made_answer words files) ends
made_ends words files (stage.Fault code span) globals steps text_open text r went ends =
    ap (made_answer words files) ends.is ∙ ap (λ line. answer (behind text line) 4) (append-nil (dynamic_line files code span))
made_ends words files (stage.Refused e) globals steps text_open text r went ends = absurd went

made_begins : (words : Text) (files : List File) (r : Outcome Core (Option Value)) (text : Text) → (final r).told ≡ Some text → (more : Text) × ((made_answer words files r).text ≡ text ++ more)
made_begins words files (Done x c h) text told = line_behind text h.told (words ++ outcome_line x) told
made_begins words files (Thrown x c h) text told = line_behind text h.told (uncaught_line x) told
made_begins words files (Halt (Faulted code span) c h) text told = line_behind text h.told (dynamic_line files code span ++ []) told
made_begins words files (Halt (Stuck mistake span) c h) text told = ([], ap told_text told ∙ sym (append-nil text))

pub made_ending : (words : Text) (files : List File) → IsEnding (made_answer words files) (λ s globals. made_line words files s)
made_ending words files = record { ends = made_ends words files; begins = made_begins words files }

-- the line of the end is the words, where they stand there, and the line of any run
pub made_line_is : (words : Text) (files : List File) (s : Stage) (o : Ended) → answer_of s ≡ Ok o → made_line words files s ≡ where_returned words o ++ end_line files s
made_line_is words files (stage.Ready x) o h = let same : o ≡ outcome.Returned = cc in ap (λ z. where_returned words z ++ end_line files (stage.Ready x)) (sym same)
made_line_is words files (stage.Uncaught x) o h = let same : o ≡ outcome.Uncaught = cc in ap (λ z. where_returned words z ++ end_line files (stage.Uncaught x)) (sym same)
made_line_is words files (stage.Fault code span) o h =
    let same : o ≡ outcome.Fault code span = cc in ap (λ z. where_returned words z ++ end_line files (stage.Fault code span)) (sym same)
made_line_is words files (stage.Refused e) o h = cc

-- ---- a machine that is new

module _ (t : Tests) (u : Suits t) (end : Outcome Core (Option Value) → Answer) (line : Stage → List Binding → Text) (by : IsEnding end line) (checked : Sealed) (main n steps : ℕ) (w : Work) (args : List Given) (new : IsNew w checked n) (same : n ≡ steps) (none : args ≡ []) (entered : Some main ≡ checked.entries.main) where
  env : Environment
  env = environment t checked.decls

  first : List Binding
  first = initial_globals env

  globals_are : globals_of t w ≡ first
  unfolding env first
  globals_are = ap (λ (c : Sealed). globals_with t c w.storage) new.checked_is ∙ new.globals_are t u

  -- what it runs from its entry
  started_run : (old : Option (List ℕ)) → run_with t w main (map value_of args) old ≡ run_of env main [] first (starting steps old)
  unfolding env first
  started_run old =
      ap (λ (c : Sealed). run_of (environment t c.decls) main (map value_of args) (globals_of t w) (starting w.steps old)) new.checked_is
      ∙ ap (λ (xs : List Given). run_of env main (map value_of xs) (globals_of t w) (starting w.steps old)) none
      ∙ ap (λ bs. run_of env main [] bs (starting w.steps old)) globals_are
      ∙ ap (λ k. run_of env main [] first (starting k old)) (new.steps_are ∙ same)

  pub callable : Starts t checked → IsCallable t w.checked main (map value_of args)
  callable s =
      subst (λ (c : Sealed). IsCallable t c main (map value_of args)) (sym new.checked_is)
      (subst (λ (xs : List Given). IsCallable t checked main (map value_of xs)) (sym none)
      (main_callable t u checked s.grown s.accepted s.is s.asked main (s.main ∙ sym entered)))

  -- a call that ended, and the line of its end behind its text
  pub ended : (old mid last : Option (List ℕ)) (after : Work) (o : Ended) (result : Result Status Stop) → Ok o ≡ answer_of after.stage
      → OnReady w.stage (EndsWith t after mid (run_with t w main (map value_of args) old))
      → Answers result mid last (answer ((if after.text_open then line_feed else []) ++ line after.stage (globals_of t after)) (end_status after.stage))
      → Answers result old last (begun end (environment t checked.decls) steps checked.entries.main)
  unfolding env first
  ended old mid last after o result ok ends written =
      let went = went_on after.stage o ok in
      let here : EndsWith t after mid (run_with t w main (map value_of args) old) = subst (λ s. OnReady s (EndsWith t after mid (run_with t w main (map value_of args) old))) new.stage_is ends in
      let over = subst (EndsWith t after mid) (started_run old) here in
      let own = own_run env main [] first (globals_of t after) steps after.stage after.steps after.text_open old mid went over in
      let r = run_of env main [] first (starting steps (Some [])) in
      let shown = by.ends after.stage (globals_of t after) after.steps after.text_open own.text r went own.ends in
      let last_line = line after.stage (globals_of t after) in
      let behind_it = Answers-after result old mid last own.text ((if after.text_open then line_feed else []) ++ last_line) (end_status after.stage) own.written written in
      subst (λ e. Answers result old last (begun end env steps e)) entered
      (subst (Answers result old last) (sym shown)
      (subst (λ b. Answers result old last (answer (own.text ++ ((if b then line_feed else []) ++ last_line)) (end_status after.stage))) (own.is_open ∙ open_is own.text) behind_it))

  -- a call that was given up wrote a prefix of the answer
  pub was_given_up : (entered_nodes : ℕ) (old mid : Option (List ℕ)) → OnReady w.stage (GivenUp (text_with t w main (map value_of args) old) old mid w.steps entered_nodes)
      → TakesPrefix old mid (begun end (environment t checked.decls) steps checked.entries.main).text
  unfolding env first
  was_given_up entered_nodes old mid given =
      let here : GivenUp (text_with t w main (map value_of args) old) old mid w.steps entered_nodes = subst (λ s. OnReady s (GivenUp (text_with t w main (map value_of args) old) old mid w.steps entered_nodes)) new.stage_is given in
      let of_program : GivenUp (text_of_run env main (map value_of args) (globals_of t w) old) old mid w.steps entered_nodes =
      subst (λ (c : Sealed). GivenUp (text_of_run (environment t c.decls) main (map value_of args) (globals_of t w) old) old mid w.steps entered_nodes) new.checked_is here in
      let of_none : GivenUp (text_of_run env main [] (globals_of t w) old) old mid w.steps entered_nodes = subst (λ (xs : List Given). GivenUp (text_of_run env main (map value_of xs) (globals_of t w) old) old mid w.steps entered_nodes) none of_program in
      let at_start : GivenUp (text_of_run env main [] first old) old mid w.steps entered_nodes = subst (λ bs. GivenUp (text_of_run env main [] bs old) old mid w.steps entered_nodes) globals_are of_none in
      let with_steps : GivenUp (text_of_run env main [] first old) old mid steps entered_nodes = subst (λ k. GivenUp (text_of_run env main [] first old) old mid k entered_nodes) (new.steps_are ∙ same) at_start in
      let part = own_part env main [] first steps entered_nodes old mid with_steps in
      let own = own_text env main [] first steps in
      let more = by.begins (run_of env main [] first (starting steps (Some []))) own.text own.told in
      let whole : (end (run_of env main [] first (starting steps (Some [])))).text ≡ part.taken ++ (part.rest ++ more.0) = more.1 ∙ ap (λ z. z ++ more.0) part.whole ∙ append_assoc part.taken part.rest more.0 in
      subst (λ e. TakesPrefix old mid (begun end env steps e).text) entered
      (part.taken, part.rest ++ more.0, whole, part.is)

refused_as : (s : Stage) (e : RunRefused) (before after : ℕ) → Err e ≡ answer_of s → Counted s before after → Counted (stage.Refused e) before after
refused_as (stage.Ready x) e before after h counts = absurd cc
refused_as (stage.Uncaught x) e before after h counts = absurd cc
refused_as (stage.Fault code span) e before after h counts = absurd cc
refused_as (stage.Refused f) e before after h counts =
    let same : f ≡ e = cc in
    subst (λ r. Counted (stage.Refused r) before after) same counts

-- a call of a new machine that was given up: the sink's count of faults rose where a write was refused
pub refused_fault : (checked : Sealed) (n : ℕ) (w : Work) (s : Stage) (e : RunRefused) (before after : ℕ) → IsNew w checked n → Err e ≡ answer_of s
    → OnReady w.stage (Counted s before after) → e ≡ refused.SinkFault → Counted (stage.Refused refused.SinkFault) before after
refused_fault checked n w s e before after new is counts why =
    let here : Counted s before after = subst (λ t. OnReady t (Counted s before after)) new.stage_is counts in
    subst (λ r. Counted (stage.Refused r) before after) why (refused_as s e before after is here)

-- and is as it was where memory was wanting
pub refused_memory : (checked : Sealed) (n : ℕ) (w : Work) (s : Stage) (e : RunRefused) (before after : ℕ) → IsNew w checked n → Err e ≡ answer_of s
    → OnReady w.stage (Counted s before after) → e ≡ refused.NoMemory → after ≡ before
refused_memory checked n w s e before after new is counts why =
    let here : Counted s before after = subst (λ t. OnReady t (Counted s before after)) new.stage_is counts in
    subst (λ r. Counted (stage.Refused r) before after) why (refused_as s e before after is here)
