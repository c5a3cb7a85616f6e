-- The typed tree of each node that a call visits does what the node does, for all files that are read.
use Rattle.std.proofs.Common.{ℕ, List, [], subst, true}
use Rattle.asl_syn.specs.declared.tree.Decl.{Decl}
use Rattle.asl_grammar.specs.Reading.{File}
use Rattle.asl_laws.specs.Answers.{AreJudged}
use Rattle.asl_rules.specs.declared.entry.Entry.{Entry as Asked}
use Rattle.asl_rules.specs.Tests.{Tests, IsRight}
use Rattle.asl_rules.specs.values.Values.{Value}
use Rattle.asl_rules.specs.runs.States.{Binding}
use Rattle.asl_rules.specs.runs.Plans.{Meter}
use Rattle.asl_rules.specs.declarations.Turns.{names_of_program}
use Rattle.asl_rules.specs.private.Grown.{AreGrown}
use Rattle.asl_rules.specs.declarations.Programs.{signatures, Accepted, ProgramOk, environment}
use Rattle.asl_rules.specs.runs.Machines.{visits_of}
use Rattle.asl_laws.specs.Soundness.{IsCall}
use Rattle.asl_rules.proofs.scopes.Naming.{WellNamed}
use Rattle.asl_laws.proofs.scopes.Globals.{well_named}
use Rattle.asl_laws.proofs.scopes.NamesOutside.{program_outside}
use Rattle.asl_laws.proofs.scopes.GrownTexts.{judged_grown}
use Rattle.asl_laws.proofs.soundness.GivenTypes.{belong_by_forms}
use Rattle.asl_laws.proofs.soundness.Soundness.{others_of, subs_formed, functions, procedures, calls}
use Rattle.asl_laws.proofs.soundness.SoundnessEnds.{no_calls, no_procedures}
use Rattle.asl_laws.proofs.soundness.SoundnessFacts.{Facts, facts_of}
use Rattle.asl_laws.specs.Visited.{AllSame}
use Rattle.asl_laws.proofs.visited.SameNodes.{visits_same}
use Rattle.asl_laws.proofs.visited.ChosenNodes.{expr_chosen, stmt_chosen}

-- in each call from outside of an accepted program
abbrev CallsSame : Tests → List Decl → Accepted → Type 0
CallsSame t ds a = (id : ℕ) (args : List Value) (globals : List Binding) (h : Meter) → IsCall a id args globals → AllSame t ds a (visits_of (environment t ds) id args globals h)

calls_same : (t : Tests) (right : IsRight t) (ds : List Decl) (a : Accepted) → Facts t ds a → AreGrown ds → CallsSame t ds a
calls_same t right ds a f grown =
    let base = names_of_program t ds in
    let belong = belong_by_forms t right ds (λ b w. (no_calls t right ds b w, others_of t right ds b [] true [] w (no_procedures t right ds b w))) in
    let w : WellNamed base = well_named t right ds base grown f.apart f.globals belong in
    let out = program_outside t ds in
    let s = subs_formed t right ds base out f.heads f.trees w f.heads_are f.bodies in
    let own = functions t right ds base out f.heads f.trees w f.heads_are f.bodies in
    let stmts = procedures t right ds base out f.heads f.trees w f.heads_are f.bodies in
    subst (CallsSame t ds) f.is (visits_same t right ds base f.asked f.main (signatures f.heads) f.trees w s own stmts
    (expr_chosen t right ds base out true f.heads f.trees w s f.heads_are f.bodies (own true) (stmts true))
    (stmt_chosen t right ds base out true f.heads f.trees w s f.heads_are f.bodies (own true) (stmts true))
    (calls t right ds base out f.heads f.trees w f.heads_are f.bodies f.asked f.main))

pub read_same : (limit : ℕ) (e : Asked) (files : List File) (ds : List Decl) (a : Accepted) → AreJudged limit files ds → (p : ProgramOk limit e ds a) → CallsSame p.tests ds a
read_same limit e files ds a r p = calls_same p.tests p.right ds a (facts_of p.tests e ds a p.is) (judged_grown limit files ds r)
