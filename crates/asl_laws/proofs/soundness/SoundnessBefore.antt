-- A run of its own before any call from outside, which evaluates an expression outside bodies over the names and the subprograms that are
-- well formed by then: it is never stuck, gives values of the type, throws nothing unless its effect is that of what writes, and is the run
-- of the typed tree.
use Rattle.std.proofs.Common.{◌≡◌, ℕ, true, List, Ok, None, refl, inl}
use Rattle.asl_syn.specs.declared.tree.Decl.{Decl}
use Rattle.asl_syn.specs.declared.tree.Expr.{Expr}
use Rattle.asl_rules.specs.declared.effect.Effect.{Effect}
use Rattle.asl_rules.specs.declared.entry.Entry.TheVariants as asked
use Rattle.asl_rules.specs.Tests.{Tests, IsRight}
use Rattle.asl_rules.specs.declarations.Scopes.{Entry, Signature, Scope}
use Rattle.asl_rules.specs.declarations.Programs.{Environment, Head, entries, funcs_of, signatures, signatures_rule, bodies_rule}
use Rattle.asl_rules.specs.runs.Trees.{TreeFunc}
use Rattle.asl_rules.specs.expressions.Typing.{Typed}
use Rattle.asl_rules.specs.expressions.Exprs.{typed}
use Rattle.asl_rules.specs.values.Values.{Value}
use Rattle.asl_rules.specs.runs.States.{Core, resting}
use Rattle.asl_rules.specs.runs.Plans.{Meter, Outcome}
use Rattle.asl_rules.specs.runs.Evaluation.{meaning, initial_globals}
use Rattle.asl_rules.specs.private.Agreement.{no_atoms, GlobalsMatch}
use Rattle.asl_rules.specs.private.TypedMeaning.{TreeProgram, tree_meaning}
use Rattle.asl_rules.specs.private.Erasure.{erased, erased_outcome}
use Rattle.asl_laws.specs.Soundness.{NotStuck, GivesType}
use Rattle.asl_rules.proofs.scopes.Naming.{WellNamed}
use Rattle.asl_laws.proofs.expressions.Claims.{Here, around_of}
use Rattle.asl_laws.proofs.scopes.NamesOutside.{NamesOutside}
use Rattle.asl_laws.proofs.constants.KnownTypes.{over_names, resting_agrees}
use Rattle.asl_laws.proofs.expressions.LesserClass.{typed_lesser}
use Rattle.asl_laws.proofs.calls.OwnStanding.{itself_below}
use Rattle.asl_laws.proofs.soundness.GivenTypes.{ThrownIn, typed_thrown}
use Rattle.asl_laws.proofs.soundness.Soundness.{subs_formed, functions, procedures, sound_runs, same_runs}

-- the scope of an expression outside bodies, in a class
abbrev pub scope_outside : List Entry → List Signature → Effect → Scope
scope_outside base subs k = record { names = base; subs = subs; class = k }

-- what an expression does in the state before any call, where so many nodes may be open
abbrev pub run_outside : Environment → Expr → ℕ → Meter → Outcome Core Value
run_outside env e d h = (meaning env d).expr e (resting (initial_globals env)) h

-- it was judged to have this type, this effect and this tree, over these bodies
pub record SoundBefore (env : Environment) (trees : List TreeFunc) (e : Expr) (S : Typed) (d : ℕ) (h : Meter) : Type 0 where
  pub not_stuck : NotStuck (run_outside env e d h)
  pub gives : GivesType env.names env.names no_atoms S.ty (run_outside env e d h)
  pub throws : ThrownIn S.effect (run_outside env e d h)
  pub same : (let p : TreeProgram = record { funcs = trees; limit = env.limit } in
      (tree_meaning p d).expr S.tree (erased (resting (initial_globals env))) h) ≡ erased_outcome (run_outside env e d h)

module _ (tests : Tests) (right : IsRight tests) (ds : List Decl) (base : List Entry) (out : NamesOutside base) (heads : List Head)
    (trees : List TreeFunc) (w : WellNamed base) (heads_are : signatures_rule tests base (funcs_of ds) ≡ Ok heads)
    (bodies : bodies_rule tests (signatures heads) heads ≡ Ok trees)
    (m : GlobalsMatch base (initial_globals (over_names tests ds base))) where
  pub sound_before : (k : Effect) (e : Expr) (S : Typed) (d : ℕ) (h : Meter) →
      typed tests e (scope_outside base (signatures heads) k) ≡ Ok S → SoundBefore (over_names tests ds base) trees e S d h
  sound_before k e S d h t =
      let G = scope_outside base (signatures heads) k in
      let begun : Core = resting (initial_globals (over_names tests ds base)) in
      let here : Here = record { scope = scope_outside base (signatures heads) S.effect; present = no_atoms; around = around_of begun } in
      let agrees = resting_agrees base (initial_globals (over_names tests ds base)) m in
      let sound = sound_runs tests right ds base out heads trees w heads_are bodies asked.None (entries None None) m in
      let same = same_runs tests right ds base out heads trees w heads_are bodies asked.None (entries None None) in
      let given = sound.typed_values d e G S no_atoms begun h t refl agrees in
      record {
        not_stuck = given.0;
        gives = given.1;
        throws = typed_thrown tests right ds base (signatures heads) true trees w
            (subs_formed tests right ds base out heads trees w heads_are bodies)
            (functions tests right ds base out heads trees w heads_are bodies true)
            (procedures tests right ds base out heads trees w heads_are bodies true)
            d e here S begun h (typed_lesser tests S.effect e G S t (itself_below S.effect))
            (record { agrees = agrees; subs_are = refl; around_is = refl; stands = inl refl; counted = inl refl });
        same = same.expr d e G S no_atoms begun h t refl agrees;
      }
