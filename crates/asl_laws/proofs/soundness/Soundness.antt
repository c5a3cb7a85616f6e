-- Soundness of all runs over names outside bodies, where the subprograms are well formed, and of their typed trees; and so of a
-- well-formed program.
use Rattle.std.proofs.Common.{◌≡◌, ℕ, Bool, true, List, [], Ok, subst, false}
use Rattle.asl_syn.specs.declared.token.Span.{Span}
use Rattle.asl_syn.specs.declared.tree.Decl.{Decl}
use Rattle.asl_syn.specs.declared.tree.Ident.{Ident}
use Rattle.asl_syn.specs.declared.tree.Expr.{Expr}
use Rattle.asl_syn.specs.declared.tree.Alternative.TheOpen as st
use Rattle.asl_grammar.specs.Reading.{File}
use Rattle.asl_laws.specs.Answers.{AreJudged}
use Rattle.asl_rules.specs.declared.entry.Entry.{Entry as Asked}
use Rattle.asl_rules.specs.Tests.{Tests, IsRight}
use Rattle.asl_rules.specs.declarations.Scopes.{Entry, Signature}
use Rattle.asl_rules.specs.runs.Trees.{TreeFunc}
use Rattle.asl_rules.specs.statements.Stmts.{invoke_rule, found_stmt}
use Rattle.asl_rules.specs.runs.States.{Binding, Core}
use Rattle.asl_rules.specs.declarations.Turns.{names_of_program}
use Rattle.asl_rules.specs.private.Grown.{AreGrown}
use Rattle.asl_rules.specs.declarations.Programs.{Entries, Head, funcs_of, signatures, signatures_rule, bodies_rule}
use Rattle.asl_rules.specs.declarations.Programs.{Accepted, accepted, ProgramOk}
use Rattle.asl_rules.specs.values.Values.{Value}
use Rattle.asl_rules.specs.private.Agreement.{types_in, GlobalsMatch}
use Rattle.asl_rules.specs.runs.Evaluation.{initial_globals}
use Rattle.asl_laws.specs.Soundness.{IsCall, SoundRuns, SameRuns, Soundness, SameMeaning}
use Rattle.asl_rules.specs.private.WellFormed.{WellDeclared}
use Rattle.asl_rules.proofs.scopes.Naming.{WellNamed, well_declared}
use Rattle.asl_laws.proofs.scopes.Globals.{well_named, initial_match}
use Rattle.asl_laws.proofs.scopes.NamesOutside.{NamesOutside, program_outside}
use Rattle.asl_laws.proofs.scopes.WellTyped.{FormedSubs}
use Rattle.asl_laws.proofs.constants.KnownTypes.{over_names}
use Rattle.asl_laws.proofs.expressions.Claims.{StmtClaim}
use Rattle.asl_laws.proofs.statements.StmtForms.{Held, Acted}
use Rattle.asl_laws.proofs.expressions.AllExprs.{Others}
use Rattle.asl_laws.proofs.statements.AllStmts.{OtherStmts}
use Rattle.asl_laws.proofs.soundness.GivenTypes.{belong_by_forms}
use Rattle.asl_laws.proofs.statements.TryForms.{try_acted}
use Rattle.asl_laws.proofs.soundness.SoundnessFacts.{Facts, facts_of}
use Rattle.asl_laws.proofs.soundness.SoundnessHeads.{heads_formed}
use Rattle.asl_laws.proofs.soundness.SoundnessEnds.{CallSame, no_calls, no_procedures, sound_with, same_with}
use Rattle.asl_laws.proofs.soundness.SoundnessCalls.{call_same}
use Rattle.asl_laws.proofs.calls.OwnForms.{own_formed, invoke_acted}
use Rattle.asl_laws.proofs.scopes.GrownTexts.{judged_grown}
use Rattle.asl_syn.specs.declared.tree.Stmt.{Stmt}

-- calls of procedures
abbrev pub InvokesSo : (tests : Tests) (right : IsRight tests) (ds : List Decl) (base : List Entry) (subs : List Signature) (loose : Bool) (funcs : List TreeFunc) (w : WellNamed base) → Type 0
InvokesSo tests right ds base subs loose funcs w =
    (j : StmtClaim) (s : Stmt) (span : Span) (i : Ident) (ps es : List Expr) (c : Core) → found_stmt tests s j.body ≡ Ok j.done → invoke_rule tests span i ps es j.body.scope ≡ Ok j.done → Held tests right ds base subs loose funcs w j c → Acted tests right ds base subs loose funcs w j true (st.Invoke span i ps es) c

pub others_of : (tests : Tests) (right : IsRight tests) (ds : List Decl) (base : List Entry) (subs : List Signature) (loose : Bool) (funcs : List TreeFunc) (w : WellNamed base) → InvokesSo tests right ds base subs loose funcs w → OtherStmts tests right ds base subs loose funcs w
others_of tests right ds base subs loose funcs w i = record { invoke = i; try = λ j span ss cs o c h k. try_acted tests right ds base subs loose funcs w j span ss cs o c h k }

-- ---- over names outside bodies

module _ (tests : Tests) (right : IsRight tests) (ds : List Decl) (base : List Entry) (out : NamesOutside base) (heads : List Head)
    (trees : List TreeFunc) (w : WellNamed base) (heads_are : signatures_rule tests base (funcs_of ds) ≡ Ok heads)
    (bodies : bodies_rule tests (signatures heads) heads ≡ Ok trees) where
  abbrev pub subs : List Signature
  subs = signatures heads

  abbrev pub whole : Asked → Entries → Accepted
  whole asked main = accepted asked main subs trees base

  abbrev pub subs_formed : FormedSubs tests right (types_in base) (well_declared base w) subs
  subs_formed = heads_formed tests right (types_in base) (well_declared base w) base (funcs_of ds) heads w.good heads_are

  pub functions : (loose : Bool) → Others tests right ds base subs loose trees w subs_formed
  functions loose = record { own = own_formed tests right ds base out loose heads trees w subs_formed heads_are bodies }

  pub procedures : (loose : Bool) → OtherStmts tests right ds base subs loose trees w
  procedures loose =
      others_of tests right ds base subs loose trees w
      (invoke_acted tests right ds base out loose heads trees w subs_formed heads_are bodies)

  pub calls : (asked : Asked) (main : Entries) (id : ℕ) (args : List Value) (globals : List Binding) →
      IsCall (whole asked main) id args globals → CallSame tests right ds base asked main subs trees w subs_formed false id args globals
  calls asked main = call_same tests right ds base out asked main false heads trees w subs_formed heads_are bodies

  -- all runs over them
  pub sound_runs : (asked : Asked) (main : Entries) → GlobalsMatch base (initial_globals (over_names tests ds base)) →
      SoundRuns tests (over_names tests ds base) (whole asked main)
  sound_runs asked main = sound_with tests right ds base asked main subs trees w subs_formed functions procedures (calls asked main)

  pub same_runs : (asked : Asked) (main : Entries) → SameRuns tests (over_names tests ds base) (whole asked main)
  same_runs asked main = same_with tests right ds base asked main subs trees w subs_formed functions procedures (calls asked main)

-- ---- a program

pub soundness : (tests : Tests) (right : IsRight tests) (ds : List Decl) (a : Accepted) (f : Facts tests ds a) → AreGrown ds → Soundness tests ds a × SameMeaning tests ds a
soundness tests right ds a f grown =
    let base = names_of_program tests ds in
    let belong = belong_by_forms tests right ds (λ b w. (no_calls tests right ds b w, others_of tests right ds b [] true [] w (no_procedures tests right ds b w))) in
    let w : WellNamed base = well_named tests right ds base grown f.apart f.globals belong in
    let out = program_outside tests ds in
    subst (λ z. Soundness tests ds z × SameMeaning tests ds z) f.is (
      sound_runs tests right ds base out f.heads f.trees w f.heads_are f.bodies f.asked f.main
          (initial_match tests right ds base grown f.apart f.globals belong),
      same_runs tests right ds base out f.heads f.trees w f.heads_are f.bodies f.asked f.main,
    )

-- so it is of what the rules accept
pub accepted_sound : (limit : ℕ) (e : Asked) (ds : List Decl) (a : Accepted) → AreGrown ds → (p : ProgramOk limit e ds a) → Soundness p.tests ds a × SameMeaning p.tests ds a
accepted_sound limit e ds a grown p = soundness p.tests p.right ds a (facts_of p.tests e ds a p.is) grown

-- and of each program that is read from files
pub read_sound : (limit : ℕ) (e : Asked) (files : List File) (ds : List Decl) (a : Accepted) → AreJudged limit files ds → (p : ProgramOk limit e ds a) → Soundness p.tests ds a × SameMeaning p.tests ds a
read_sound limit e files ds a r p = accepted_sound limit e ds a (judged_grown limit files ds r) p

-- the declared types of such a program agree with one another
pub read_declared : (limit : ℕ) (e : Asked) (files : List File) (ds : List Decl) (a : Accepted) → AreJudged limit files ds → (p : ProgramOk limit e ds a) → WellDeclared (types_in a.names)
read_declared limit e files ds a r p =
    let f = facts_of p.tests e ds a p.is in
    let base = names_of_program p.tests ds in
    let belong = belong_by_forms p.tests p.right ds (λ b w. (no_calls p.tests p.right ds b w, others_of p.tests p.right ds b [] true [] w (no_procedures p.tests p.right ds b w))) in
    let w : WellNamed base = well_named p.tests p.right ds base (judged_grown limit files ds r) f.apart f.globals belong in
    subst (λ z. WellDeclared (types_in z.names)) f.is (well_declared base w)
