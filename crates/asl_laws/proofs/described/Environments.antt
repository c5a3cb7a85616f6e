-- The environment of a program that is well formed is described by its declarations.
use Rattle.std.proofs.Common.{◌≡◌, ℕ, inl, inr, List, [], ◌∷◌, Ok, refl, true}
use Rattle.asl_syn.specs.declared.tree.Decl.{Decl}
use Rattle.asl_syn.specs.declared.tree.Decl.TheVariants as dc
use Rattle.asl_grammar.specs.Reading.{File}
use Rattle.asl_laws.specs.Answers.{AreJudged}
use Rattle.asl_rules.specs.declared.entry.Entry.{Entry as Asked}
use Rattle.asl_rules.specs.Tests.{Tests, IsRight}
use Rattle.asl_rules.specs.declarations.Names.{names_rule, all_declared}
use Rattle.asl_rules.specs.declarations.Uses.{cycles_rule}
use Rattle.asl_rules.specs.private.Grown.{AreGrown}
use Rattle.asl_rules.specs.declarations.Turns.{final, faults_rule, globals_rule, names_of_program}
use Rattle.asl_rules.specs.declarations.Programs.{verdict, Accepted, ProgramOk, environment}
use Rattle.asl_rules.specs.runs.Evaluation.{initial_globals}
use Rattle.asl_laws.specs.Described.{Described, AllDescribed, Describes}
use Rattle.asl_rules.proofs.basics.Inversions.{bind_ok, then_ok}
use Rattle.asl_laws.proofs.constants.KnownTypes.{resting_agrees}
use Rattle.asl_laws.proofs.scopes.Globals.{AllBelong, grown_labels, names_good, globals_good}
use Rattle.asl_laws.proofs.scopes.GrownTexts.{judged_grown}
use Rattle.asl_laws.proofs.soundness.GivenTypes.{belong_by_forms}
use Rattle.asl_laws.proofs.soundness.Soundness.{others_of}
use Rattle.asl_laws.proofs.soundness.SoundnessEnds.{no_calls, no_procedures}
use Rattle.asl_rules.proofs.verdict.Distinct.{Distinct, distinct_of, In}
use Rattle.asl_laws.proofs.names.Turned.{all_bring}
use Rattle.asl_laws.proofs.described.WrittenTypes.{Outside}
use Rattle.asl_laws.proofs.described.DeclaredTypes.{type_described}
use Rattle.asl_laws.proofs.described.DeclaredStorage.{storage_described}

module _ (t : Tests) (ds : List Decl) (g : Outside t ds) where
  one_described : (d : Decl) → In d ds → Described (environment t ds) d
  one_described (dc.Type d) i = type_described t ds g d i
  one_described (dc.Storage d) i = storage_described t ds g d i
  one_described (dc.Func f) i = tt

  all_described : (rs : List Decl) → ((d : Decl) → In d rs → In d ds) → AllDescribed (environment t ds) rs
  all_described [] f = tt
  all_described (d ∷ rs) f = (one_described d (f d (inl refl)), all_described rs (λ e i. f e (inr i)))

outside : (t : Tests) (ds : List Decl) → IsRight t → AreGrown ds → names_rule [] (all_declared ds) ≡ Ok tt → cycles_rule ds ds ≡ Ok tt →
    faults_rule (final t ds) ≡ Ok tt → Outside t ds
outside t ds right grown apart cycles faults =
    let distinct : Distinct (all_declared ds) = distinct_of (all_declared ds) [] apart in
    let labels = grown_labels ds grown in
    let belong : AllBelong t ds = belong_by_forms t right ds (λ b w. (no_calls t right ds b w, others_of t right ds b [] true [] w (no_procedures t right ds b w))) in
    record {
      right = right;
      distinct = distinct;
      brings = all_bring t ds cycles faults;
      named = names_good t right ds distinct labels belong;
      agrees = resting_agrees (names_of_program t ds) (initial_globals (environment t ds)) (globals_good t right ds distinct labels belong);
    }

program_described : (t : Tests) (e : Asked) (ds : List Decl) (a : Accepted) → IsRight t → AreGrown ds → verdict e ds t ≡ Ok a → Describes (environment t ds)
unfolding verdict
program_described t e ds a right grown h =
    let n = then_ok (names_rule [] (all_declared ds)) _ a h in
    let c = then_ok (cycles_rule ds ds) _ a n.then in
    let s = bind_ok (globals_rule t ds) _ a c.then in
    let f = then_ok (faults_rule (final t ds)) (Ok (names_of_program t ds)) s.value s.first in
    all_described t ds (outside t ds right grown n.first c.first f.first) ds (λ d i. i)

-- so it is of each program that is read from files
pub read_described : (limit : ℕ) (e : Asked) (files : List File) (ds : List Decl) (a : Accepted) → AreJudged limit files ds → (p : ProgramOk limit e ds a) → Describes (environment p.tests ds)
read_described limit e files ds a r p = program_described p.tests e ds a p.right (judged_grown limit files ds r) p.is
