-- What soundness says of runs, where each pair of forms does the same: runs are never stuck, keep the globals, and give values of their types; each node is
-- visited in a state that agrees with its scope; and typed trees do what the untyped trees do. What calls from outside are is a premise.
use Rattle.std.proofs.Common.{◌≡◌, ℕ, inl, Bool, true, List, [], ◌∷◌, Option, Some, None, Ok, refl, sym, ap, ◌∙◌, subst, map, false}
use Rattle.asl_syn.specs.declared.tree.Expr.{Expr}
use Rattle.asl_syn.specs.declared.tree.Stmt.{Stmt}
use Rattle.asl_syn.specs.declared.tree.Alternative.TheOpen as st
use Rattle.asl_syn.specs.declared.tree.Decl.{Decl}
use Rattle.asl_syn.specs.declared.tree.Ident.{Ident}
use Rattle.asl_syn.specs.declared.token.Span.{Span}
use Rattle.asl_syn.specs.declared.code.StaticCode.TheVariants.{T09, T18}
use Rattle.asl_rules.specs.declared.entry.Entry.{Entry as Entered_by}
use Rattle.asl_rules.specs.Tests.{Tests, IsRight}
use Rattle.asl_rules.specs.types.Closed.{Assignment}
use Rattle.asl_rules.specs.values.Values.{Value}
use Rattle.asl_rules.specs.declarations.Scopes.{Scope, Entry, Signature, choose}
use Rattle.asl_rules.specs.expressions.Typing.{Typed, Operand, types_of}
use Rattle.asl_rules.specs.runs.Trees.{TreeFunc}
use Rattle.asl_rules.specs.expressions.Exprs.{found, typed}
use Rattle.asl_rules.specs.Faults.{fault, fault_of}
use Rattle.asl_rules.specs.declarations.Routines.{Routine, routine_named}
use Rattle.asl_rules.specs.statements.Stmts.{invoke_rule, found_stmt}
use Rattle.asl_rules.specs.expressions.Calls.{chosen, Called, call_begun, routine_taken, procedure_of, procedure_rule}
use Rattle.asl_rules.specs.declarations.Programs.{Entries, Accepted, accepted}
use Rattle.asl_rules.specs.runs.States.{Binding, Core, resting}
use Rattle.asl_rules.specs.private.Belonging.{InType}
use Rattle.asl_rules.specs.private.Agreement.{types_in, GlobalsMatch, Agrees}
use Rattle.asl_rules.specs.runs.Plans.{Meter, Faulted, Stuck, Outcome, Done, Thrown, Halt}
use Rattle.asl_rules.specs.runs.Evaluation.{nodes, meaning, call_of, initial_globals}
use Rattle.asl_rules.specs.runs.Machines.{most_open, run_of, visits_of}
use Rattle.asl_rules.specs.runs.Visits.{Visit, trails}
use Rattle.asl_rules.specs.private.TypedMeaning.{BareCore, tree_nodes, tree_meaning, tree_call}
use Rattle.asl_rules.specs.private.Erasure.{erased, erased_outcome}
use Rattle.asl_laws.specs.Soundness.{NotStuck, AllVisited, IsCall, KeepsGlobals, SoundRuns, trees_of, tree_run, SameRuns}
use Rattle.asl_laws.proofs.constants.KnownTypes.{over_names}
use Rattle.asl_rules.proofs.basics.Inversions.{err_ok, bind_ok, then_ok, found_ok}
use Rattle.asl_rules.proofs.basics.Tests.{none_some}
use Rattle.asl_rules.proofs.scopes.Naming.{WellNamed, well_declared}
use Rattle.asl_laws.proofs.scopes.WellTyped.{FormedSubs}
use Rattle.asl_laws.proofs.expressions.Twins.{Twins, SameEnd, twins_run}
use Rattle.asl_laws.proofs.soundness.SoundnessVisits.{AllHold, twins_visits, visits_hold}
use Rattle.asl_laws.proofs.runs.Several.{one}
use Rattle.asl_laws.proofs.expressions.Claims.{Here, of_type, StmtClaim, At, Over, our, around_of}
use Rattle.asl_laws.proofs.expressions.ExprForms.{env, program}
use Rattle.asl_laws.proofs.statements.StmtForms.{Held, Acted}
use Rattle.asl_laws.proofs.expressions.AllExprs.{Others}
use Rattle.asl_laws.proofs.statements.AllStmts.{OtherStmts, all_forms, all_meet}
use Rattle.asl_laws.proofs.soundness.GivenTypes.{typed_run}
use Rattle.asl_laws.proofs.soundness.SoundnessNodes.{AtNode, at_exprs, at_stmts}
use Rattle.asl_laws.proofs.widths.WidthValues.{width_gives, number_gives}

-- ---- ends

not_stuck : {A B : Type 0} (K : Core → Type 0) (Q : A → B → Core → Type 0) (R : Value → Core → Type 0) (r : Outcome Core A) (t : Outcome BareCore B) → SameEnd erased K Q R r t → NotStuck r
not_stuck K Q R (Done x c h) t w = tt
not_stuck K Q R (Thrown x c h) t w = tt
not_stuck K Q R (Halt (Faulted code span) c h) t w = tt
not_stuck K Q R (Halt (Stuck mistake span) c h) t w = w

same_end : {A : Type 0} (K : Core → Type 0) (Z : A → Core → Type 0) (R : Value → Core → Type 0) (r : Outcome Core A) (t : Outcome BareCore A) → SameEnd erased K (λ x y c. (x ≡ y) × Z x c) R r t → t ≡ erased_outcome r
same_end K Z R (Done x c h) (Done y d k) w = ap (λ z. Done y z k) (sym w.0) ∙ ap (λ z. Done y (erased c) z) (sym w.1) ∙ ap (λ z. Done z (erased c) h) (sym w.2.0)
same_end K Z R (Thrown x c h) (Thrown y d k) w = ap (λ z. Thrown y z k) (sym w.0) ∙ ap (λ z. Thrown y (erased c) z) (sym w.1) ∙ ap (λ z. Thrown z (erased c) h) (sym w.2)
same_end K Z R (Halt (Faulted code span) c h) (Halt e d k) w = ap (λ z. Halt e z k) (sym w.0) ∙ ap (λ z. Halt e (erased c) z) (sym w.1) ∙ ap (λ z. Halt z (erased c) h) (sym w.2)
same_end K Z R r t w = absurd w

kept : {A B : Type 0} (base : List Entry) (r : Outcome Core A) (t : Outcome BareCore B) (Z : A → B → Core → Type 0) → SameEnd erased (λ c. GlobalsMatch base c.globals) (λ x y c. Z x y c × GlobalsMatch base c.globals) (λ x c. GlobalsMatch base c.globals) r t → KeepsGlobals base r
kept base (Done x c h) (Done y d k) Z w = w.2.1
kept base (Thrown x c h) (Thrown y d k) Z w = w.3
kept base (Halt (Faulted code span) c h) (Halt e d k) Z w = w.3
kept base r t Z w = absurd w

-- ---- before any subprogram is judged

-- no call of a program's own function has a type where there is no subprogram
pub no_calls : (tests : Tests) (right : IsRight tests) (ds : List Decl) (base : List Entry) (w : WellNamed base) → Others tests right ds base [] true [] w tt
no_calls tests right ds base w = record {
  own = λ H S e span i ps es os c t n p o h a.
      let b = bind_ok (chosen span i os H.scope.subs) _ S h in
      none_some b.value (found_ok (choose i.text (types_of os) []) T09 span b.value (subst (λ fs. chosen span i os fs ≡ Ok b.value) a.subs_are b.first));
}

-- nor is a procedure called
pub no_procedures : (tests : Tests) (right : IsRight tests) (ds : List Decl) (base : List Entry) (w : WellNamed base) (j : StmtClaim) (s : Stmt) (span : Span) (i : Ident) (ps es : List Expr) (c : Core) → found_stmt tests s j.body ≡ Ok j.done → invoke_rule tests span i ps es j.body.scope ≡ Ok j.done → Held tests right ds base [] true [] w j c →
    Acted tests right ds base [] true [] w j true (st.Invoke span i ps es) c
no_procedures tests right ds base w j s span i ps es c is_found h k =
    let b = bind_ok (procedure_rule tests span i (map (found tests) ps) (map (found tests) es) j.body.scope) _ j.done h in
    let o = bind_ok (call_begun i (map (found tests) es) j.body.scope) _ b.value b.first in
    by (routine_named i.text) o.value b.value o.then
  where
    by : (r : Option Routine) (os : List Operand) (d : Called) → procedure_of tests span i (map (found tests) ps) os j.body.scope r ≡ Ok d → Acted tests right ds base [] true [] w j true (st.Invoke span i ps es) c
    by (Some r) os d q = let u = then_ok (routine_taken span r os) (fault T18 span) d q in err_ok (fault_of T18 span) d u.then
    by None os d q =
        let u = bind_ok (chosen span i os j.body.scope.subs) _ d q in
        none_some u.value (found_ok (choose i.text (types_of os) []) T09 span u.value (subst (λ fs. chosen span i os fs ≡ Ok u.value) k.at.subs_are u.first))

-- ---- over names outside bodies

module _ (tests : Tests) (right : IsRight tests) (ds : List Decl) (base : List Entry) (asked : Entered_by) (main : Entries) (subs : List Signature) (funcs : List TreeFunc) (w : WellNamed base) (s : FormedSubs tests right (types_in base) (well_declared base w) subs) where
  abbrev whole : Accepted
  whole = accepted asked main subs funcs base

  -- ---- calls from outside

  -- a call and that of its typed tree do the same, and keep the globals
  abbrev pub CallSame : Bool → ℕ → List Value → List Binding → Type 0
  CallSame loose id args globals =
      Twins (our tests base subs loose) (λ x y c. (x ≡ y) × GlobalsMatch base c.globals) (λ x c. GlobalsMatch base c.globals)
      (call_of (env tests right ds base subs loose funcs w) id args (resting globals)) (tree_call (program tests right ds base subs loose funcs w) id args (erased (resting globals)))

  module _ (o : (loose : Bool) → Others tests right ds base subs loose funcs w s) (q : (loose : Bool) → OtherStmts tests right ds base subs loose funcs w) (calls : (id : ℕ) (args : List Value) (globals : List Binding) → IsCall whole id args globals → CallSame false id args globals) where
    -- ---- visits

    all_seen : (vs : List (Visit Core Expr Stmt)) → AllHold (AtNode tests (over_names tests ds base) whole) vs → AllVisited tests (over_names tests ds base) whole vs
    all_seen [] h = tt
    all_seen (v ∷ vs) h = (h.0.0, h.0.1, h.0.2, all_seen vs h.1)

    -- ---- whole calls

    ends : (id : ℕ) (args : List Value) (globals : List Binding) (h : Meter) → IsCall whole id args globals →
        SameEnd erased (λ c. GlobalsMatch base c.globals) (λ x y c. (x ≡ y) × GlobalsMatch base c.globals) (λ x c. GlobalsMatch base c.globals) (run_of (over_names tests ds base) id args globals h) (tree_run (trees_of tests whole) id args (erased (resting globals)) h)
    unfolding run_of
    ends id args globals h k =
        twins_run (our tests base subs false) (meaning (over_names tests ds base) most_open) (tree_meaning (trees_of tests whole) most_open) (all_meet tests right ds base subs false funcs w s (o false) (q false) most_open)
        (λ x y c. (x ≡ y) × GlobalsMatch base c.globals) (λ x c. GlobalsMatch base c.globals) (call_of (over_names tests ds base) id args (resting globals)) (tree_call (trees_of tests whole) id args (erased (resting globals))) h (calls id args globals k)

    all_at : (id : ℕ) (args : List Value) (globals : List Binding) (h : Meter) → IsCall whole id args globals → AllHold (AtNode tests (over_names tests ds base) whole) (visits_of (over_names tests ds base) id args globals h)
    unfolding visits_of
    all_at id args globals h k =
        twins_visits (our tests base subs false) (meaning (over_names tests ds base) most_open) (tree_meaning (trees_of tests whole) most_open) (trails (nodes (over_names tests ds base)) most_open 0) (AtNode tests (over_names tests ds base) whole) (all_meet tests right ds base subs false funcs w s (o false) (q false) most_open)
        (visits_hold (nodes (over_names tests ds base)) (tree_nodes (trees_of tests whole)) (our tests base subs false) (AtNode tests (over_names tests ds base) whole) (all_forms tests right ds base subs false funcs w s (o false) (q false)) (at_exprs tests right ds base asked main subs funcs w s (o true) (q true)) (at_stmts tests right ds base asked main subs funcs w s (o true) (q true)) most_open 0)
        (λ x y c. (x ≡ y) × GlobalsMatch base c.globals) (λ x c. GlobalsMatch base c.globals) (call_of (over_names tests ds base) id args (resting globals)) (tree_call (trees_of tests whole) id args (erased (resting globals))) h (calls id args globals k)

    -- ---- expressions

    abbrev there : Scope → Assignment → Core → Here
    there G p c = record { scope = G; present = p; around = around_of c }

    expr_ends : (d : ℕ) (e : Expr) (G : Scope) (S : Typed) (p : Assignment) (c : Core) (h : Meter) → typed tests e G ≡ Ok S → G.subs ≡ subs → Agrees base G.names p c →
        SameEnd erased (λ c1. GlobalsMatch base c1.globals) (λ x y c1. (x ≡ y) × (InType (types_in base) p x S.ty × At tests base subs true (there G p c) c1)) (λ x c1. Over tests base subs true G.class G.names p (around_of c) x c1) ((meaning (over_names tests ds base) d).expr e c h) ((tree_meaning (trees_of tests whole) d).expr S.tree (erased c) h)
    expr_ends d e G S p c h t g k =
        (all_meet tests right ds base subs true funcs w s (o true) (q true) d).expr (one (there G p c, of_type S)) e S.tree c h (record { answers = t; is_tree = refl; at = record { agrees = k; subs_are = g; around_is = refl; stands = inl refl; counted = inl refl } })

    -- ---- both

    pub sound_with : GlobalsMatch base (initial_globals (over_names tests ds base)) → SoundRuns tests (over_names tests ds base) whole
    sound_with m = record {
      initial = m;
      never_stuck = λ id args globals h k. not_stuck (λ c. GlobalsMatch base c.globals) (λ x y c. (x ≡ y) × GlobalsMatch base c.globals) (λ x c. GlobalsMatch base c.globals) _ _ (ends id args globals h k);
      keeps_globals = λ id args globals h k. kept base _ _ (λ x y c. x ≡ y) (ends id args globals h k);
      visited = λ id args globals h k. all_seen _ (all_at id args globals h k);
      typed_values = λ d e G S p c h t g k. typed_run tests right ds base subs true funcs w s (o true) (q true) d e (there G p c) S c h t (record { agrees = k; subs_are = g; around_is = refl; stands = inl refl; counted = inl refl });
      width_values = record {
        widths = λ d e G W p c h t k. width_gives tests right ds base subs funcs w d e G W p c h t k;
        numbers = λ d e G N p c h t k. number_gives tests right ds base subs funcs w d e G N p c h t k;
      };
    }

    pub same_with : SameRuns tests (over_names tests ds base) whole
    same_with = record {
      expr = λ d e G S p c h t g k. same_end (λ c1. GlobalsMatch base c1.globals) (λ x c1. InType (types_in base) p x S.ty × At tests base subs true (there G p c) c1) (λ x c1. Over tests base subs true G.class G.names p (around_of c) x c1) _ _ (expr_ends d e G S p c h t g k);
      call = λ id args globals h k. same_end (λ c. GlobalsMatch base c.globals) (λ x c. GlobalsMatch base c.globals) (λ x c. GlobalsMatch base c.globals) _ _ (ends id args globals h k);
    }
