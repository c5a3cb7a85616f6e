-- A command has the same report under a wider limit, where its program is accepted and its run doesn't end with the fault D14.
use Rattle.std.proofs.Common.{◌≡◌, ℕ, ◌≤◌, Bool, true, false, cond, List, [], ◌∷◌, length, Option, Some, Result, Ok, Err, refl, sym, ap, inr}
use Rattle.std.proofs.Common.{subst, ◌∙◌}
use Rattle.asl_poly.specs.WidthLimits.{heaviest}
use Rattle.asl_syn.specs.Command.{Command, usage, check, run, exec, self, masks, default_steps}
use Rattle.asl_syn.specs.declared.tree.Decl.{Decl}
use Rattle.asl_grammar.specs.Reading.{File, Reader, ReadsAt, IsReadingAt}
use Rattle.asl_rules.specs.declared.entry.Entry.{Entry}
use Rattle.asl_rules.specs.declared.entry.Entry.TheVariants as entry
use Rattle.asl_laws.specs.Answers.{FilesOk}
use Rattle.asl_rules.specs.Tests.{Tests, IsRight}
use Rattle.asl_rules.proofs.verdict.SomeTests.{light_limit, limit_light}
use Rattle.asl_rules.specs.values.Values.{Value}
use Rattle.asl_rules.specs.runs.States.{Binding, Core}
use Rattle.asl_rules.specs.runs.Plans.{Meter, Faulted, Stuck, Outcome, Done, Thrown, Halt, starting}
use Rattle.asl_rules.specs.declarations.Programs.{environment, Accepted, Entries, verdict, read_verdict, final_decls}
use Rattle.asl_rules.specs.runs.Machines.{run_of}
use Rattle.asl_rules.specs.runs.Words.{WordsEnd, AllReturned, WordThrew, WordHalted, run_words, wanted}
use Rattle.asl_rules.specs.report.WordList.{ListFault, Word, words_read}
use Rattle.asl_rules.specs.runs.Evaluation.{initial_globals}
use Rattle.asl_laws.specs.Soundness.{NotStuck}
use Rattle.asl_rules.specs.report.Made.{made_text}
use Rattle.asl_rules.specs.report.Texts.{Text, made_words}
use Rattle.asl_rules.specs.report.Report.{Reading, all, long, many, Answer, is_long, on_files, on_words_read, on_list, read_files, begun}
use Rattle.asl_rules.specs.report.Report.{worked, words_answer, made_answer, run_answer, on_verdict, on_check, on_run, on_words, on_made, on_masks}
use Rattle.asl_rules.specs.report.Report.{on_reading, made_file, report_of}
use Rattle.asl_laws.proofs.verdict.OneVerdict.{one_test}
use Rattle.asl_laws.specs.Reported.{RunsWell, WordsNotStuck}
use Rattle.asl_laws.specs.Wider.{FitsLimit, WordsFitLimit, NotTooWide, WordsNotTooWide, RunFits, WordsFit, Accepts, OnFiles, OnWords}
use Rattle.asl_laws.specs.Wider.{UnlessLong, OnList, Fits}
use Rattle.asl_laws.proofs.reported.Reports.{reports_run_well}
use Rattle.asl_laws.proofs.wider.Plans.{out_fits}
use Rattle.asl_laws.proofs.wider.Runs.{run_wider, words_wider, words_fit}
use Rattle.asl_laws.proofs.wider.Verdict.{same_environment, same_read_verdict}
use Rattle.asl_laws.proofs.wider.Reading.{reads_stay, read_same}
use Rattle.asl_syn.specs.declared.read.ReadDecl.{ReadDecl}
use Rattle.asl_laws.proofs.verdict.ReadVerdict.{steps_of}

-- ---- the tests

right_at : (t : Tests) (m : ℕ) → m ≤ heaviest → IsRight t → IsRight (record t { limit = m })
right_at t m light r =
    record { within = light_limit m light; same_yes = r.same_yes; same_all = r.same_all; below_yes = r.below_yes; below_all = r.below_all }

-- right tests of the wider limit are those of the narrower one with another limit
tests_are : (t u : Tests) → IsRight t → IsRight u → u ≡ record t { limit = u.limit }
tests_are t u p q = one_test u (record t { limit = u.limit }) q (right_at t u.limit (limit_light u.limit q.within) p) refl

-- ---- a derivation

pub derivation_stays : (l m : ℕ) → l ≤ m → m ≤ heaviest → (e : Entry) (files : List File) (a : Accepted) → FilesOk l e files a →
    FilesOk m e files a
derivation_stays l m le light e files a h =
    let p = h.ok in
    record {
      decls = h.decls;
      reads = reads_stay m l le files h.decls h.reads;
      ok = record {
        tests = record p.tests { limit = m };
        right = right_at p.tests m light p.right;
        within = refl;
        is = same_read_verdict p.tests m (subst (λ n. n ≤ m) (sym p.within) le) e h.decls a p.is;
      };
    }

-- ---- runs

pub run_stays : (t u : Tests) → IsRight t → IsRight u → t.limit ≤ u.limit → (e : Entry) (ds : List Decl) (a : Accepted) →
    verdict e ds t ≡ Ok a → (id : ℕ) (args : List Value) (globals : List Binding) (h : Meter)
    → FitsLimit (run_of (environment t ds) id args globals h) →
    run_of (environment u ds) id args globals h ≡ run_of (environment t ds) id args globals h
run_stays t u p q le e ds a ok id args globals h f =
    ap (λ v. run_of (environment v ds) id args globals h) (tests_are t u p q)
    ∙ ap (λ env. run_of env id args globals h) (same_environment t u.limit le e ds a ok)
    ∙ out_fits _ _ (run_wider (environment t ds) u.limit le id args globals h) f

pub words_stay : (t u : Tests) → IsRight t → IsRight u → t.limit ≤ u.limit → (e : Entry) (ds : List Decl) (a : Accepted) →
    verdict e ds t ≡ Ok a → (es : Entries) (words : List Word) (globals : List Binding) (h : Meter)
    → WordsFitLimit (run_words (environment t ds) es words globals h) →
    run_words (environment u ds) es words globals h ≡ run_words (environment t ds) es words globals h
words_stay t u p q le e ds a ok es words globals h f =
    ap (λ v. run_words (environment v ds) es words globals h) (tests_are t u p q)
    ∙ ap (λ env. run_words env es words globals h) (same_environment t u.limit le e ds a ok)
    ∙ words_fit (environment t ds) u.limit le _ _ (words_wider (environment t ds) u.limit le es words globals h) f

-- ---- reports

fits_of : {A : Type 0} (r : Outcome Core A) → NotStuck r → NotTooWide r → FitsLimit r
fits_of (Done x c h) n f = tt
fits_of (Thrown x c h) n f = tt
fits_of (Halt (Faulted code span) c h) n f = f
fits_of (Halt (Stuck mistake span) c h) n f = absurd n

words_of : (r : WordsEnd) → WordsNotStuck r → WordsNotTooWide r → WordsFitLimit r
words_of (AllReturned globals h) n f = tt
words_of (WordThrew x globals h) n f = tt
words_of (WordHalted (Faulted code span) globals h) n f = f
words_of (WordHalted (Stuck mistake span) globals h) n f = absurd n

files_same : (r : Reading) (P : List File → Type 0) (f g : List File → Answer) → OnFiles r P →
    ((files : List File) → P files → g files ≡ f files) → on_files r g ≡ on_files r f
files_same (all files) P f g h k = k files h
files_same (long name) P f g h k = refl
files_same many P f g h k = refl

read_words_same : (name : Text) (r : Result (List Word) ListFault) (P : List Word → Type 0) (f g : List Word → Answer) → OnWords r P →
    ((words : List Word) → P words → g words ≡ f words) → on_words_read name r g ≡ on_words_read name r f
read_words_same name (Ok words) P f g h k = k words h
read_words_same name (Err e) P f g h k = refl

by_long : (b : Bool) (P : Type 0) (x y z : Answer) → UnlessLong b P → (P → z ≡ y) → cond b x z ≡ cond b x y
by_long true P x y z h k = refl
by_long false P x y z h k = k h

list_same : (name bytes : Text) (P : List Word → Type 0) (f g : List Word → Answer) → OnList bytes P →
    ((words : List Word) → P words → g words ≡ f words) → on_list name bytes g ≡ on_list name bytes f
list_same name bytes P f g h k = by_long (is_long bytes) (OnWords (words_read bytes) P) _ (on_words_read name (words_read bytes) f)
    (on_words_read name (words_read bytes) g) h (λ i. read_words_same name (words_read bytes) P f g i k)

module _ (t u : Tests) (p : IsRight t) (q : IsRight u) (le : t.limit ≤ u.limit) where
  read_verdict_same : (e : Entry) (ds : List ReadDecl) (a : Accepted) → read_verdict e ds t ≡ Ok a → read_verdict e ds u ≡ Ok a
  read_verdict_same e ds a ok = ap (λ v. read_verdict e ds v) (tests_are t u p q) ∙ same_read_verdict t u.limit le e ds a ok

  globals_same : (e : Entry) (ds : List Decl) (a : Accepted) → verdict e ds t ≡ Ok a →
      initial_globals (environment u ds) ≡ initial_globals (environment t ds)
  globals_same e ds a ok = ap (λ v. initial_globals (environment v ds)) (tests_are t u p q)
      ∙ ap initial_globals (same_environment t u.limit le e ds a ok)

  -- a run of the entry
  begun_same : (end : Outcome Core (Option Value) → Answer) (ds : List Decl) (a : Accepted) (steps : ℕ) → verdict entry.Main ds t ≡ Ok a →
      RunsWell t ds → RunFits (environment t ds) steps a.entries.main →
      begun end (environment u ds) steps a.entries.main ≡ begun end (environment t ds) steps a.entries.main
  begun_same end ds a steps ok well =
      let w = well.run a ok steps in
      subst (λ o. RunFits (environment t ds) steps o → begun end (environment u ds) steps o ≡ begun end (environment t ds) steps o)
      (sym w.1.0) (λ f.
      ap (λ gs. end (run_of (environment u ds) w.0 [] gs (starting steps (Some [])))) (globals_same entry.Main ds a ok)
      ∙ ap end (run_stays t u p q le entry.Main ds a ok w.0 [] (initial_globals (environment t ds)) (starting steps (Some []))
      (fits_of _ w.1.1 f)))

  worked_same : (files : List File) (ds : List Decl) (a : Accepted) (steps : ℕ) (words : List Word) → verdict (wanted words) ds t ≡ Ok a →
      RunsWell t ds → WordsFit (environment t ds) steps words a.entries →
      worked files (environment u ds) steps words a.entries ≡ worked files (environment t ds) steps words a.entries
  worked_same files ds a steps words ok well f =
      ap (λ gs. words_answer files (length words) (run_words (environment u ds) a.entries words gs (starting steps (Some []))))
      (globals_same (wanted words) ds a ok)
      ∙ ap (λ r. words_answer files (length words) r)
      (words_stay t u p q le (wanted words) ds a ok a.entries words (initial_globals (environment t ds)) (starting steps (Some []))
      (words_of _ (well.words a words ok steps) f))

  -- what comes of a verdict that is the same
  on_same : (files : List File) (e : Entry) (ds : List ReadDecl) (a : Accepted) (f g : Entries → Answer) → read_verdict e ds t ≡ Ok a →
      g a.entries ≡ f a.entries → on_verdict files g (read_verdict e ds u) ≡ on_verdict files f (read_verdict e ds t)
  on_same files e ds a f g ok h = ap (on_verdict files g) (read_verdict_same e ds a ok) ∙ h ∙ sym (ap (on_verdict files f) ok)

  module _ (read other : Reader) (x : IsReadingAt t.limit read) (y : IsReadingAt u.limit other) where
    reading_same : (files : List File) (e : Entry) (P : List Decl → Entries → Type 0) (f g : List ReadDecl → Answer) →
        Accepts t e P (read files)
        → ((ds : List ReadDecl) (a : Accepted) → read_verdict e ds t ≡ Ok a → RunsWell t (final_decls ds) → P (final_decls ds) a.entries → g ds ≡ f ds) →
        on_reading files g (other files) ≡ on_reading files f (read files)
    reading_same files e P f g (ds, a, r, ok, h) k =
        ap (on_reading files g) (read_same u.limit t.limit le read other x y files ds r)
        ∙ k ds a ok (reports_run_well t p files (final_decls ds) (record { read = ds; reads = subst (λ z. ReadsAt t.limit files z) r (x files); are = inr refl })) h
        ∙ sym (ap (on_reading files f) r)

    check_same : (files : List File) → Accepts t entry.None (λ ds found. Unit {0}) (read files) →
        on_reading files (on_check u files) (other files) ≡ on_reading files (on_check t files) (read files)
    check_same files h = reading_same files entry.None (λ ds found. Unit {0}) (on_check t files) (on_check u files) h
        (λ ds a ok well i. on_same files entry.None ds a _ _ ok refl)

    masks_same : (budget : ℕ) (files : List File) → Accepts t entry.None (λ ds found. Unit {0}) (read files) →
        on_reading files (on_masks u budget files) (other files) ≡ on_reading files (on_masks t budget files) (read files)
    masks_same budget files h = reading_same files entry.None (λ ds found. Unit {0}) (on_masks t budget files) (on_masks u budget files) h
        (λ ds a ok well i. on_same files entry.None ds a _ _ ok refl)

    run_same : (steps : ℕ) (files : List File) →
        Accepts t entry.Main (λ ds found. RunFits (environment t ds) steps found.main) (read files) →
        on_reading files (on_run u steps files) (other files) ≡ on_reading files (on_run t steps files) (read files)
    run_same steps files h = reading_same files entry.Main (λ ds found. RunFits (environment t ds) steps found.main) (on_run t steps files)
        (on_run u steps files) h (λ ds a ok well i. on_same files entry.Main ds a _ _ ok
        (begun_same (run_answer files) (final_decls ds) a steps (steps_of entry.Main ds t a ok).final_is well i))

    words_same : (steps : ℕ) (words : List Word) (files : List File) →
        Accepts t (wanted words) (λ ds found. WordsFit (environment t ds) steps words found) (read files) →
        on_reading files (on_words u steps words files) (other files) ≡ on_reading files (on_words t steps words files) (read files)
    words_same steps words files h = reading_same files (wanted words) (λ ds found. WordsFit (environment t ds) steps words found)
        (on_words t steps words files) (on_words u steps words files) h
        (λ ds a ok well i. on_same files (wanted words) ds a _ _ ok (worked_same files (final_decls ds) a steps words (steps_of (wanted words) ds t a ok).final_is well i))

    made_same : (number size : ℕ) (text : Text) (files : List File) →
        Accepts t entry.Main (λ ds found. RunFits (environment t ds) default_steps found.main) (read files) →
        on_reading files (on_made u number size text files) (other files) ≡ on_reading files (on_made t number size text files) (read files)
    made_same number size text files h = reading_same files entry.Main (λ ds found. RunFits (environment t ds) default_steps found.main)
        (on_made t number size text files) (on_made u number size text files) h
        (λ ds a ok well i. on_same files entry.Main ds a _ _ ok
        (begun_same (made_answer (made_words number size (length text) (length ds)) files) (final_decls ds) a default_steps
        (steps_of entry.Main ds t a ok).final_is well i))

    pub report_same : (command : Command) (held : Text → Text) → Fits t read command held →
        report_of u other command held ≡ report_of t read command held
    unfolding report_of
    report_same usage held h = refl
    report_same (check names) held h = files_same (read_files held names) _ _ _ h check_same
    report_same (run steps names) held h = files_same (read_files held names) _ _ _ h (run_same steps)
    report_same (exec steps list names) held h = files_same (read_files held names) _ _ _ h
        (λ files i. list_same list (held list) _ _ _ i (λ words j. words_same steps words files j))
    report_same (self number size) held h = made_same number size (made_text number size) (made_file (made_text number size) ∷ []) h
    report_same (masks budget names) held h = files_same (read_files held names) _ _ _ h (masks_same budget)
