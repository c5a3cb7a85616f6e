-- What the calls of a machine say of a run over words.
use Rattle.std.proofs.Common.{◌≡◌, ℕ, ◌+◌, ◌<◌, true, false, List, [], ◌∷◌, ◌++◌, take, drop, get_or, length, ◌⊎◌, inl, inr, Option, Some, Result, Ok, Err, refl, sym, ap, ◌∙◌, subst}
use Rattle.std.specs.Prelude.{IfOk, OnErr}
use Rattle.std.proofs.lemmas.List.{drop_more, take-append-drop, take_more}
use Rattle.asl_rules.specs.runs.Machines.{GivenUp, run_of}
use Rattle.asl_rules.specs.runs.Plans.{Meter, Outcome, Faulted, final, starting}
use Rattle.asl_rules.specs.declarations.Programs.{Environment, Entries, environment}
use Rattle.asl_rules.specs.runs.States.{Binding, Core}
use Rattle.asl_rules.specs.Tests.{Tests}
use Rattle.asl_bits.specs.Lists.{bits_of}
use Rattle.asl_io.specs.Told.{TakesPrefix}
use Rattle.asl_rules.specs.runs.Told.{Begins, Part, appended}
use Rattle.asl_rules.specs.values.Values as rules
use Rattle.asl_rules.specs.report.WordList.{Word}
use Rattle.asl_rules.specs.runs.Words.{WordsEnd, AllReturned, WordHalted, behind_word, entry_for, run_word, run_words, word_line, word_value, word_width, words_final}
use Rattle.asl_laws.proofs.runs.Budget.{appended_nil, same_text, longer, taken_after, taken_before}
use Rattle.asl_laws.proofs.runs.WordRuns.{words_after, run_viewed}
use Rattle.asl_tree.specs.Sealed.{Sealed}
use Rattle.asl_types.specs.Suits.{Suits}
use Rattle.asl_machine.specs.declared.stage.Outcome.{Outcome as Answer}
use Rattle.asl_machine.specs.declared.stage.Outcome.TheVariants as answer
use Rattle.asl_machine.specs.declared.stage.RunRefused.{RunRefused}
use Rattle.asl_machine.specs.declared.stage.Stage.{Stage}
use Rattle.asl_machine.specs.declared.stage.Stage.TheVariants as stage
use Rattle.asl_machine.specs.Stages.{Ends, is_ready, OnReady, answer_of, Counted}
use Rattle.asl_machine.specs.Work.{Work, EndsWith, globals_of, run_with, text_with}
use Rattle.asl_words.specs.declared.running.ExecEnd.TheVariants as end
use Rattle.asl_words.specs.private.Runs.{Between, EndsWords, LeavesWords, IsWord, StandsBefore, end_of, meter_of, words_with}
use Rattle.asl_words.proofs.WordTexts.{called_with, held_before, words_next, one_told, line_first, fewer_words, words_behind_returned}

-- ---- what the answer of a call says of where the machine stands

pub on_ready : (s : Stage) (P : Type 0) → is_ready s ≡ true → OnReady s P → P
on_ready (stage.Ready x) P ready p = p
on_ready (stage.Uncaught x) P ready p = cc ready
on_ready (stage.Fault code span) P ready p = cc ready
on_ready (stage.Refused e) P ready p = cc ready

pub returned_ready : (s : Stage) → answer_of s ≡ Ok answer.Returned → is_ready s ≡ true
returned_ready (stage.Ready x) h = refl
returned_ready (stage.Uncaught x) h = cc h
returned_ready (stage.Fault code span) h = cc h
returned_ready (stage.Refused e) h = cc h

pub refused_stage : (s : Stage) (e : RunRefused) → answer_of s ≡ Err e → s ≡ stage.Refused e
refused_stage (stage.Ready x) e h = cc h
refused_stage (stage.Uncaught x) e h = cc h
refused_stage (stage.Fault code span) e h = cc h
refused_stage (stage.Refused d) e h = let same : d ≡ e = cc in ap stage.Refused same

pub count_kept : (s : Stage) (o : Answer) (before after : ℕ) → answer_of s ≡ Ok o → Counted s before after → after ≡ before
count_kept (stage.Ready x) o before after h c = c
count_kept (stage.Uncaught x) o before after h c = c
count_kept (stage.Fault code span) o before after h c = c
count_kept (stage.Refused e) o before after h c = cc h

-- and of the end of the words
pub end_done : (n : ℕ) (s : Stage) → is_ready s ≡ true → end_of n s ≡ Some (end.Done n)
end_done n (stage.Ready x) h = refl
end_done n (stage.Uncaught x) h = cc h
end_done n (stage.Fault code span) h = cc h
end_done n (stage.Refused e) h = cc h

pub end_uncaught : (n : ℕ) (s : Stage) → answer_of s ≡ Ok answer.Uncaught → (end_of n s ≡ Some end.Uncaught) × (is_ready s ≡ false)
end_uncaught n (stage.Ready x) h = cc h
end_uncaught n (stage.Uncaught x) h = (refl, refl)
end_uncaught n (stage.Fault code span) h = cc h
end_uncaught n (stage.Refused e) h = cc h

pub end_fault : (n : ℕ) (s : Stage) (code : _) (span : _) → answer_of s ≡ Ok (answer.Fault code span) → (end_of n s ≡ Some (end.Fault code span)) × (is_ready s ≡ false)
end_fault n (stage.Ready x) code span h = cc h
end_fault n (stage.Uncaught x) code span h = cc h
end_fault n (stage.Fault d place) code span h =
    let first : d ≡ code = cc in
    let second : place ≡ span = cc in
    (rw (first, second) refl, refl)
end_fault n (stage.Refused e) code span h = cc h

-- ---- the end of a call, as the words end behind it

ready_ends : (s : Stage) (globals : List Binding) (h : Meter) (r : WordsEnd) → is_ready s ≡ true → r ≡ AllReturned globals h → EndsWords s globals h r
ready_ends (stage.Ready x) globals h r ready e = e
ready_ends (stage.Uncaught x) globals h r ready e = cc ready
ready_ends (stage.Fault code span) globals h r ready e = cc ready
ready_ends (stage.Refused x) globals h r ready e = tt

ready_words : (s : Stage) (globals : List Binding) (h : Meter) (r : WordsEnd) → is_ready s ≡ true → EndsWords s globals h r → r ≡ AllReturned globals h
ready_words (stage.Ready x) globals h r ready e = e
ready_words (stage.Uncaught x) globals h r ready e = cc ready
ready_words (stage.Fault code span) globals h r ready e = cc ready
ready_words (stage.Refused x) globals h r ready e = cc ready

one_ends : (s : Stage) (globals : List Binding) (h : Meter) (r : Outcome Core (Option rules.Value)) → Ends s globals h r → EndsWords s globals h (behind_word AllReturned r)
one_ends (stage.Ready x) globals h r e = ap (behind_word AllReturned) e
one_ends (stage.Uncaught x) globals h r e = ap (behind_word AllReturned) e
one_ends (stage.Fault code span) globals h r e = ap (behind_word AllReturned) e.is ∙ ap (λ gs. WordHalted (Faulted code span) gs h) e.globals_are
one_ends (stage.Refused x) globals h r e = tt

-- where it didn't return, no words come behind
last_ends : (s : Stage) (globals : List Binding) (h : Meter) (next : List Binding → Meter → WordsEnd) (r : Outcome Core (Option rules.Value)) → is_ready s ≡ false → Ends s globals h r → EndsWords s globals h (behind_word next r)
last_ends (stage.Ready x) globals h next r went e = cc went
last_ends (stage.Uncaught x) globals h next r went e = ap (behind_word next) e
last_ends (stage.Fault code span) globals h next r went e = ap (behind_word next) e.is ∙ ap (λ gs. WordHalted (Faulted code span) gs h) e.globals_are
last_ends (stage.Refused x) globals h next r went e = tt

-- what was taken of a line that was refused, and of one that wasn't begun
pub part_taken : (old new : Option (List ℕ)) (bytes : List ℕ) → TakesPrefix old new bytes → Part old new bytes
part_taken old new bytes k = record { taken = k.0; rest = k.1; is = k.3; whole = k.2 }

pub none_taken : (old : Option (List ℕ)) (bytes : List ℕ) → Part old old bytes
none_taken old bytes = record { taken = []; rest = bytes; is = sym (appended_nil old); whole = refl }

-- ---- words on a machine

module _ (t : Tests) where
  -- the call for a word on a machine, behind its line
  abbrev pub called_on : Work → Word → Option (List ℕ) → Outcome Core (Option rules.Value)
  called_on w n told = called_with (environment t w.checked.decls) w.checked.entries n (globals_of t w) (meter_of w told)

  -- without words nothing changes
  pub none_leave : (w : Work) → is_ready w.stage ≡ true → (told : Option (List ℕ)) → LeavesWords t w told (words_with t w [] told)
  none_leave w ready told = ready_ends w.stage (globals_of t w) (meter_of w told) (words_with t w [] told) ready refl

  -- a call with a word in some type is that with the word
  pub call_is : (w : Work) (n : Word) (id : ℕ) → entry_for w.checked.entries n ≡ Some id → (xs : List rules.Value) (x : rules.Value) → xs ≡ x ∷ [] → IsWord n x → (old mid : Option (List ℕ)) → mid ≡ appended old (word_line w.text_open n) →
      run_with t w id xs mid ≡ called_on w n old
  call_is w n id is xs x one word old mid line =
      let env = environment t w.checked.decls in
      ap (λ ys. run_of env id ys (globals_of t w) (starting w.steps mid)) (one ∙ ap (λ y. y ∷ []) word.is)
      ∙ run_viewed env id word.type_is (bits_of (word_width n) n.bits) (globals_of t w) (starting w.steps mid)
      ∙ ap (λ m. run_of env id (word_value n ∷ []) (globals_of t w) (starting w.steps m)) line
      ∙ ap (λ o. run_word env o n (globals_of t w) (starting w.steps (appended old (word_line w.text_open n)))) (sym is)

  -- what is written before the call for a word
  pub before_line : (w : Work) (n : Word) (old new : Option (List ℕ)) → Begins old new → Begins new (appended old (word_line w.text_open n)) → Between old new (words_final (words_with t w (n ∷ []) old)).told
  before_line w n old new b e = record {
    before = b;
    behind = longer e (line_first (environment t w.checked.decls) w.checked.entries n (globals_of t w) (meter_of w old));
  }

  -- and in it, where it is given up
  pub before_end : (w : Work) (n : Word) (old mid new : Option (List ℕ)) → mid ≡ appended old (word_line w.text_open n) → Begins mid new → Begins new (final (called_on w n old)).told →
      Between old new (words_final (words_with t w (n ∷ []) old)).told
  before_end w n old mid new line b e = record {
    before = longer (record { rest = word_line w.text_open n; is = line }) b;
    behind = subst (λ z. Begins new z) (sym (one_told (environment t w.checked.decls) w.checked.entries n (globals_of t w) (meter_of w old))) e;
  }

  -- a line that was refused
  pub refused_line : (w : Work) (n : Word) (old new : Option (List ℕ)) → TakesPrefix old new (word_line w.text_open n) → Between old new (words_final (words_with t w (n ∷ []) old)).told
  refused_line w n old new k =
      let part = part_taken old new (word_line w.text_open n) k in
      before_line w n old new (taken_after old new (word_line w.text_open n) part) (taken_before old new (word_line w.text_open n) part)

  -- a line that wasn't begun
  pub no_line : (w : Work) (n : Word) (old : Option (List ℕ)) → Between old old (words_final (words_with t w (n ∷ []) old)).told
  no_line w n old = before_line w n old old (same_text old) (record { rest = word_line w.text_open n; is = refl })

  -- the words so far have all returned
  module _ (old now : Work) (same : now.checked ≡ old.checked) (told0 told : Option (List ℕ)) (done : List Word) (ready : is_ready now.stage ≡ true) (leaves : LeavesWords t now told (words_with t old done told0)) where
    env : Environment
    env = environment t old.checked.decls

    es : Entries
    es = old.checked.entries

    returned : run_words env es done (globals_of t old) (meter_of old told0) ≡ AllReturned (globals_of t now) (meter_of now told)
    unfolding env es
    returned = ready_words now.stage (globals_of t now) (meter_of now told) (words_with t old done told0) ready leaves

    others : (ns : List Word) → words_with t old (done ++ ns) told0 ≡ run_words env es ns (globals_of t now) (meter_of now told)
    unfolding env es
    others ns = words_behind_returned env es done ns (globals_of t old) (globals_of t now) (meter_of old told0) (meter_of now told) returned

    called_same : (n : Word) → called_on now n told ≡ called_with env es n (globals_of t now) (meter_of now told)
    unfolding env es
    called_same n = ap (λ (c : Sealed). called_with (environment t c.decls) c.entries n (globals_of t now) (meter_of now told)) same

    next_is : (n : Word) (ns : List Word) → words_with t old (done ++ n ∷ ns) told0 ≡ behind_word (run_words env es ns) (called_on now n told)
    next_is n ns = others (n ∷ ns) ∙ words_next env es n ns (globals_of t now) (meter_of now told) ∙ ap (behind_word (run_words env es ns)) (sym (called_same n))

    -- a call more
    pub one_more : (after : Work) (told1 : Option (List ℕ)) (n : Word) → EndsWith t after told1 (called_on now n told) → LeavesWords t after told1 (words_with t old (done ++ n ∷ []) told0)
    one_more after told1 n e = subst (EndsWords after.stage (globals_of t after) (meter_of after told1)) (sym (next_is n [])) (one_ends after.stage (globals_of t after) (meter_of after told1) (called_on now n told) e)

    -- a call that didn't return
    pub the_last : (after : Work) (told1 : Option (List ℕ)) (n : Word) (ns : List Word) → is_ready after.stage ≡ false → EndsWith t after told1 (called_on now n told) → LeavesWords t after told1 (words_with t old (done ++ n ∷ ns) told0)
    the_last after told1 n ns went e =
        subst (EndsWords after.stage (globals_of t after) (meter_of after told1)) (sym (next_is n ns)) (last_ends after.stage (globals_of t after) (meter_of after told1) (run_words env es ns) (called_on now n told) went e)

    -- what was written until a call was given up
    pub between : (new : Option (List ℕ)) (n : Word) (ns : List Word) → Between told new (words_final (words_with t now (n ∷ []) told)).told → Between told0 new (words_final (words_with t old (done ++ n ∷ ns) told0)).told
    unfolding env es
    between new n ns b = record {
      before = longer (subst (λ r. Begins told0 (words_final r).told) returned (words_after env es done (globals_of t old) (meter_of old told0)).told) b.before;
      behind = longer b.behind
          (subst (λ z. Begins z (words_final (words_with t old (done ++ n ∷ ns) told0)).told) (ap (λ r. (words_final r).told) (sym (alone n)))
          (subst (λ r. Begins (words_final (run_words env es (n ∷ []) (globals_of t now) (meter_of now told))).told (words_final r).told) (sym (others (n ∷ ns)))
          (fewer_words env es (n ∷ []) ns (globals_of t now) (meter_of now told))));
    }
      where
        alone : (n : Word) → words_with t now (n ∷ []) told ≡ run_words env es (n ∷ []) (globals_of t now) (meter_of now told)
        alone n = ap (λ (c : Sealed). run_words (environment t c.decls) c.entries (n ∷ []) (globals_of t now) (meter_of now told)) same

-- ---- the clauses of a call

-- a call that ended
pub call_ended : {A E : Type 0} (r : Result A E) (w after : Work) (id : ℕ) (n : Word) → entry_for w.checked.entries n ≡ Some id → is_ready w.stage ≡ true → (xs : List rules.Value) (x : rules.Value) → xs ≡ x ∷ [] → IsWord n x →
    (old mid new : Option (List ℕ)) → mid ≡ appended old (word_line w.text_open n) →
    ((t : Tests) → Suits t → OnReady w.stage (EndsWith t after new (run_with t w id xs mid))) → IfOk r (λ o. (t : Tests) → Suits t → EndsWith t after new (called_on t w n old))
call_ended (Ok o) w after id n is ready xs x one word old mid new line h = λ t u. subst (EndsWith t after new) (call_is t w n id is xs x one word old mid line) (on_ready w.stage _ ready (h t u))
call_ended (Err e) w after id n is ready xs x one word old mid new line h = tt

-- a call that was given up
pub call_refused : {A E : Type 0} (r : Result A E) (w : Work) (id : ℕ) (n : Word) → entry_for w.checked.entries n ≡ Some id → is_ready w.stage ≡ true → (xs : List rules.Value) (x : rules.Value) → xs ≡ x ∷ [] → IsWord n x →
    (old mid new : Option (List ℕ)) → mid ≡ appended old (word_line w.text_open n) → (k : ℕ) →
    ((t : Tests) → Suits t → OnReady w.stage (OnErr r (GivenUp (text_with t w id xs mid) mid new w.steps k))) → OnErr r ((t : Tests) → Suits t → Between old new (words_final (words_with t w (n ∷ []) old)).told)
call_refused (Ok o) w id n is ready xs x one word old mid new line k h = tt
call_refused (Err e) w id n is ready xs x one word old mid new line k h = λ t u.
    let given = on_ready w.stage _ ready (h t u) in
    before_end t w n old mid new line (held_before (environment t w.checked.decls) id xs (globals_of t w) mid new w.steps k given)
    (subst (λ (o : Outcome Core (Option rules.Value)). Begins new (final o).told) (call_is t w n id is xs x one word old mid line) given.whole)

-- ---- the clauses of a run over words, of which so many calls have returned

module _ (old now : Work) (same : now.checked ≡ old.checked) (told0 told : Option (List ℕ)) (words : List Word) (i : ℕ) (within : i < length words) (n : Word) (here : n ≡ get_or words i n) (ready : is_ready now.stage ≡ true)
    (leaves : (t : Tests) → Suits t → LeavesWords t now told (words_with t old (take i words) told0)) where
  split : take i words ++ n ∷ drop (i + 1) words ≡ words
  split = ap (λ ns. take i words ++ ns) (ap (λ m. m ∷ drop (i + 1) words) here ∙ sym (drop_more words i n within)) ∙ take-append-drop i words

  with_one : take i words ++ n ∷ [] ≡ take (i + 1) words
  with_one = ap (λ m. take i words ++ m ∷ []) here ∙ sym (take_more words i n within)

  -- one more returned
  pub goes_on : (after : Work) (told1 : Option (List ℕ)) → ((t : Tests) → Suits t → EndsWith t after told1 (called_on t now (n) told)) → (t : Tests) → Suits t → LeavesWords t after told1 (words_with t old (take (i + 1) words) told0)
  goes_on after told1 h t u =
      subst (λ ns. LeavesWords t after told1 (words_with t old ns told0)) with_one
      (one_more t old now same told0 told (take i words) ready (leaves t u) after told1 (n) (h t u))

  -- one didn't return
  pub ends_there : (after : Work) (told1 : Option (List ℕ)) → is_ready after.stage ≡ false → ((t : Tests) → Suits t → EndsWith t after told1 (called_on t now (n) told)) → (t : Tests) → Suits t →
      LeavesWords t after told1 (words_with t old words told0)
  ends_there after told1 went h t u =
      subst (λ ns. LeavesWords t after told1 (words_with t old ns told0)) split
      (the_last t old now same told0 told (take i words) ready (leaves t u) after told1 (n) (drop (i + 1) words) went (h t u))

  -- one was refused
  pub prefix_there : (new : Option (List ℕ)) → ((t : Tests) → Suits t → Between told new (words_final (words_with t now (n ∷ []) told)).told) → (t : Tests) → Suits t → Between told0 new (words_final (words_with t old words told0)).told
  prefix_there new h t u =
      subst (λ ns. Between told0 new (words_final (words_with t old ns told0)).told) split
      (between t old now same told0 told (take i words) ready (leaves t u) new (n) (drop (i + 1) words) (h t u))

  pub refused_there : (e : RunRefused) (after : Work) (told1 : Option (List ℕ)) →
      (after.stage ≡ stage.Refused e) ⊎ ((after ≡ now) × Part told told1 (word_line now.text_open n)) →
      (after.stage ≡ stage.Refused e) ⊎ ((t : Tests) → Suits t → StandsBefore t old after words told0 told1)
  refused_there e after told1 (inl h) = inl h
  refused_there e after told1 (inr h) = inr (λ t u. subst (λ w. StandsBefore t old w words told0 told1) (sym h.0) (record {
    done = take i words;
    word = n;
    rest = drop (i + 1) words;
    is = sym split;
    ready = ready;
    text = told;
    leaves = leaves t u;
    line = h.1;
  }))
