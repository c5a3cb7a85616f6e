-- Where each node does what its typed tree does, runs of expressions give values of their types and no mistake of the meaning; and so constants belong to their types.
use Rattle.std.proofs.Common.{◌≡◌, ℕ, Bool, List, [], Ok, refl, true, inl}
use Rattle.asl_syn.specs.declared.tree.Expr.{Expr}
use Rattle.asl_syn.specs.declared.tree.Decl.{Decl}
use Rattle.asl_rules.specs.declared.effect.Effect.{Effect}
use Rattle.asl_rules.specs.declared.effect.Effect.TheVariants.{Writes}
use Rattle.asl_rules.specs.types.Effects.{at_most}
use Rattle.asl_rules.specs.Tests.{Tests, IsRight}
use Rattle.asl_rules.specs.declarations.Scopes.{Entry, Signature}
use Rattle.asl_rules.specs.runs.Trees.{TreeFunc}
use Rattle.asl_rules.specs.expressions.Typing.{Typed}
use Rattle.asl_rules.specs.expressions.Exprs.{typed}
use Rattle.asl_rules.specs.values.Values.{Value}
use Rattle.asl_rules.specs.runs.States.{Core, resting}
use Rattle.asl_rules.specs.private.Belonging.{InType}
use Rattle.asl_rules.specs.private.Agreement.{no_atoms, types_in, GlobalsMatch}
use Rattle.asl_rules.specs.runs.Plans.{Meter, Faulted, Stuck, Outcome, Done, Thrown, Halt}
use Rattle.asl_rules.specs.declarations.Declarations.{in_names}
use Rattle.asl_rules.specs.runs.Evaluation.{meaning, globals_among}
use Rattle.asl_rules.specs.private.TypedMeaning.{BareCore, tree_meaning}
use Rattle.asl_rules.specs.private.Erasure.{erased}
use Rattle.asl_laws.specs.Soundness.{NotStuck, GivesType}
use Rattle.asl_rules.proofs.scopes.Naming.{WellNamed, well_declared}
use Rattle.asl_laws.proofs.scopes.WellTyped.{FormedSubs}
use Rattle.asl_laws.proofs.expressions.Twins.{SameEnd}
use Rattle.asl_laws.proofs.runs.Several.{one}
use Rattle.asl_laws.proofs.expressions.Claims.{Here, At, Over, of_type, around_of}
use Rattle.asl_laws.proofs.expressions.ExprForms.{env, program}
use Rattle.asl_laws.proofs.expressions.AllExprs.{Others}
use Rattle.asl_laws.proofs.statements.AllStmts.{OtherStmts, all_meet}
use Rattle.asl_laws.proofs.scopes.Globals.{AllBelong}
use Rattle.asl_laws.proofs.constants.KnownTypes.{GivesTypes, resting_agrees, all_belong}

-- an exception comes out only where the class allows what writes
abbrev pub ThrownIn : {A : Type 0} → Effect → Outcome Core A → Type 0
ThrownIn k (Done x c h) = Unit {0}
ThrownIn k (Thrown x c h) = at_most Writes k ≡ true
ThrownIn k (Halt e c h) = Unit {0}

module _ (tests : Tests) (base : List Entry) (subs : List Signature) (loose : Bool) where
  abbrev EndsSame : Here → Typed → Outcome Core Value → Outcome BareCore Value → Type 0
  EndsSame H S r t =
      SameEnd erased (λ c. GlobalsMatch base c.globals)
      (λ x y c. (x ≡ y) × (InType (types_in base) H.present x S.ty × At tests base subs loose H c))
      (λ x c. Over tests base subs loose H.scope.class H.scope.names H.present H.around x c) r t

  thrown_there : (H : Here) (S : Typed) (r : Outcome Core Value) (t : Outcome BareCore Value) → EndsSame H S r t → ThrownIn H.scope.class r
  thrown_there H S (Done x c h) t q = tt
  thrown_there H S (Halt e c h) t q = tt
  thrown_there H S (Thrown x c h) (Thrown y d k) q = q.3.writes
  thrown_there H S (Thrown x c h) (Done y d k) q = absurd q
  thrown_there H S (Thrown x c h) (Halt e d k) q = absurd q

  gives_it : (H : Here) (S : Typed) (r : Outcome Core Value) (t : Outcome BareCore Value) → EndsSame H S r t →
      NotStuck r × GivesType base H.scope.names H.present S.ty r
  gives_it H S (Done x c h) (Done y d k) q = (tt, (q.2.1.0, q.2.1.1.agrees))
  gives_it H S (Thrown x c h) (Thrown y d k) q = (tt, (q.3.raised, q.3.agrees.globals))
  gives_it H S (Halt (Faulted code span) c h) (Halt e d k) q = (tt, q.3)
  gives_it H S (Halt (Stuck mistake span) c h) t q = absurd q
  gives_it H S (Done x c h) (Thrown y d k) q = absurd q
  gives_it H S (Done x c h) (Halt e d k) q = absurd q
  gives_it H S (Thrown x c h) (Done y d k) q = absurd q
  gives_it H S (Thrown x c h) (Halt e d k) q = absurd q
  gives_it H S (Halt (Faulted code span) c h) (Done y d k) q = absurd q
  gives_it H S (Halt (Faulted code span) c h) (Thrown y d k) q = absurd q

module _ (tests : Tests) (right : IsRight tests) (ds : List Decl) (base : List Entry) (subs : List Signature) (loose : Bool) (funcs : List TreeFunc) (w : WellNamed base) (s : FormedSubs tests right (types_in base) (well_declared base w) subs) where
  -- in a state that agrees with its scope
  pub typed_run : Others tests right ds base subs loose funcs w s → OtherStmts tests right ds base subs loose funcs w → (d : ℕ) (e : Expr) (H : Here) (S : Typed) (c : Core) (h : Meter) → typed tests e H.scope ≡ Ok S → At tests base subs loose H c →
      NotStuck ((meaning (env tests right ds base subs loose funcs w) d).expr e c h) × GivesType base H.scope.names H.present S.ty ((meaning (env tests right ds base subs loose funcs w) d).expr e c h)
  typed_run o q d e H S c h t a =
      gives_it tests base subs loose H S ((meaning (env tests right ds base subs loose funcs w) d).expr e c h) ((tree_meaning (program tests right ds base subs loose funcs w) d).expr S.tree (erased c) h)
      ((all_meet tests right ds base subs loose funcs w s o q d).expr (one (H, of_type S)) e S.tree c h (record { answers = t; is_tree = refl; at = a }))

  -- what is thrown there is thrown where it may be
  pub typed_thrown : Others tests right ds base subs loose funcs w s → OtherStmts tests right ds base subs loose funcs w →
      (d : ℕ) (e : Expr) (H : Here) (S : Typed) (c : Core) (h : Meter) → typed tests e H.scope ≡ Ok S → At tests base subs loose H c →
      ThrownIn H.scope.class ((meaning (env tests right ds base subs loose funcs w) d).expr e c h)
  typed_thrown o q d e H S c h t a =
      thrown_there tests base subs loose H S ((meaning (env tests right ds base subs loose funcs w) d).expr e c h)
      ((tree_meaning (program tests right ds base subs loose funcs w) d).expr S.tree (erased c) h)
      ((all_meet tests right ds base subs loose funcs w s o q d).expr (one (H, of_type S)) e S.tree c h
      (record { answers = t; is_tree = refl; at = a }))

-- outside bodies there are no subprograms of the program
pub gives_types : (tests : Tests) (right : IsRight tests) (ds : List Decl) (base : List Entry) (w : WellNamed base) → Others tests right ds base [] true [] w tt → OtherStmts tests right ds base [] true [] w → GlobalsMatch base (globals_among ds base) → GivesTypes tests ds base
gives_types tests right ds base w o q m d e S h t =
    (typed_run tests right ds base [] true [] w tt o q d e (record { scope = in_names base; present = no_atoms; around = around_of (resting (globals_among ds base)) }) S (resting (globals_among ds base)) h t
    (record { agrees = resting_agrees base (globals_among ds base) m; subs_are = refl; around_is = refl; stands = inl refl; counted = inl refl })).1

pub belong_by_forms : (tests : Tests) (right : IsRight tests) (ds : List Decl) → ((base : List Entry) (w : WellNamed base) → Others tests right ds base [] true [] w tt × OtherStmts tests right ds base [] true [] w) → AllBelong tests ds
belong_by_forms tests right ds forms = all_belong tests ds (λ base w m. let f = forms base w in gives_types tests right ds base w f.0 f.1 m)
