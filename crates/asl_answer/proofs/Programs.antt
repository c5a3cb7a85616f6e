-- What any reader makes of files, and the answers for programs that were checked.
use Rattle.std.proofs.Common.{◌≡◌, inr, ℕ, List, [], ◌∷◌, Option, Result, Ok, refl, sym, ap, ◌∙◌, subst}
use Rattle.std.specs.List.{All}
use Rattle.asl_syn.specs.declared.code.Fault.{Fault}
use Rattle.asl_syn.specs.declared.tree.Decl.{Decl}
use Rattle.asl_syn.specs.declared.read.ReadDecl.{ReadDecl}
use Rattle.asl_laws.proofs.scopes.GrownTexts.{written_grown}
use Rattle.asl_laws.proofs.verdict.ReadVerdict.{steps_of}
use Rattle.asl_rules.specs.private.Grown.{AreGrown, AreReadGrown}
use Rattle.asl_rules.specs.declarations.Programs.{Entries, verdict, read_verdict, final_decls, Accepted}
use Rattle.asl_grammar.specs.Reading.{IsReading, Reader, Reads}
use Rattle.asl_grammar.proofs.OneProgram.{one_answer}
use Rattle.asl_rules.specs.report.WordList.{Word}
use Rattle.asl_rules.specs.runs.Words.{wanted}
use Rattle.asl_words.specs.Shapes.{HasShape, IsNamed}
use Rattle.asl_words.proofs.Named.{all_named}
use Rattle.asl_rules.specs.report.Report.{Answer, made_file, on_made, on_reading, on_verdict}
use Rattle.asl_rules.specs.Tests.{Tests}
use Rattle.asl_rules.specs.report.Texts.{File, Text}
use Rattle.asl_rules.specs.declared.entry.Entry.{Entry}
use Rattle.asl_rules.specs.declared.entry.Entry.TheVariants.{Main}
use Rattle.asl_rules.proofs.basics.Inversions.{ok_ok, bind_ok}
use Rattle.asl_types.specs.Suits.{Suits}
use Rattle.asl_check.specs.private.Verdicts.{IsReadVerdict}
use Rattle.asl_tree.specs.Sealed.{Sealed}
use Rattle.asl_answer.specs.declared.status.Stop.{Stop}
use Rattle.asl_answer.specs.declared.status.Status.{Status}
use Rattle.asl_answer.specs.private.Ends.{Starts}
use Rattle.asl_answer.specs.private.Report.{self_answer}
use Rattle.asl_answer.specs.private.Writes.{Answers}

pub read_as : (files : List File) (r : Result (List ReadDecl) Fault) → Reads files r → (read : Reader) → IsReading read → read files ≡ r
read_as files r it read is = one_answer files (read files) r (is files) it

-- what was accepted of declarations with an entry, which is this
record IsAccepted (t : Tests) (e : Entry) (ds : List ReadDecl) (found : Entries) : Type 0 where
  accepted : Accepted
  is : read_verdict e ds t ≡ Ok accepted
  entries_are : accepted.entries ≡ found

accepted_with : (t : Tests) (e : Entry) (ds : List ReadDecl) (c : Sealed) → IsReadVerdict t e ds (Ok c) → IsAccepted t e ds c.entries
accepted_with t e ds c h =
    let b = bind_ok (read_verdict e ds t) (λ a. Ok a.entries) c.entries h.1.1 in
    record { accepted = b.value; is = b.first; entries_are = ok_ok b.value.entries c.entries b.then }

-- a program that was checked with the entry `main` can be run
pub starts : (t : Tests) → Suits t → (ds : List ReadDecl) (c : Sealed) → AreReadGrown ds → IsReadVerdict t Main ds (Ok c) → Starts t c
starts t u ds c grown h =
    let a = accepted_with t Main ds c h in
    record {
      grown = subst AreGrown (sym h.0) (written_grown ds (final_decls ds) (inr refl) grown);
      asked = h.1.0;
      accepted = a.accepted;
      is = ap (λ e. verdict e c.decls t) h.1.0 ∙ ap (λ zs. verdict Main zs t) h.0 ∙ (steps_of Main ds t a.accepted a.is).final_is;
      main = ap (λ (n : Entries). n.main) a.entries_are;
    }

-- words whose entries were asked for have them
pub named_by : (t : Tests) (e : Entry) (ds : List ReadDecl) (c : Sealed) (words : List Word) → IsReadVerdict t e ds (Ok c) → e ≡ wanted words → All HasShape words → All (IsNamed c.asked) words
named_by t e ds c words h asked shapes = subst (λ (f : Entry). All (IsNamed f) words) (sym (h.1.0 ∙ asked)) (all_named words shapes)

-- what comes of a program that was accepted
pub answered : (t : Tests) (e : Entry) (files : List File) (ds : List ReadDecl) (c : Sealed) (go : List Decl → Entries → Answer) (r : Result Status Stop) (old new : Option (List ℕ)) → IsReadVerdict t e ds (Ok c) →
    Answers r old new (go c.decls c.entries) → Answers r old new (on_verdict files (go (final_decls ds)) (read_verdict e ds t))
answered t e files ds c go r old new h answers =
    let a = accepted_with t e ds c h in
    subst (λ v. Answers r old new (on_verdict files (go (final_decls ds)) v)) (sym a.is)
    (subst (λ m. Answers r old new (go (final_decls ds) m)) (sym a.entries_are)
    (subst (λ zs. Answers r old new (go zs c.entries)) h.0 answers))

-- what comes of a made text that was read so
pub made_read : (t : Tests) (read : Reader) → IsReading read → (number size : ℕ) (text bytes : Text) (file : File) (made : Result (List ReadDecl) Fault) (r : Result Status Stop) (old new : Option (List ℕ)) → bytes ≡ text → file ≡ made_file text → Reads (file ∷ []) made
    → Answers r old new (on_reading (file ∷ []) (on_made t number size bytes (file ∷ [])) made) → Answers r old new (self_answer t read number size text)
made_read t read is number size text bytes file made r old new bytes_are file_is reads answers =
    subst (λ f. Answers r old new (on_reading (f ∷ []) (on_made t number size text (f ∷ [])) (read (f ∷ [])))) file_is
    (subst (λ b. Answers r old new (on_reading (file ∷ []) (on_made t number size b (file ∷ [])) (read (file ∷ [])))) bytes_are
    (subst (λ m. Answers r old new (on_reading (file ∷ []) (on_made t number size bytes (file ∷ [])) m)) (sym (read_as (file ∷ []) made reads read is)) answers))
