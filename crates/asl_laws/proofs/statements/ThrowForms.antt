-- `throw` with its typed tree: what is thrown belongs to a type of exceptions, which has no atoms.
use Rattle.std.proofs.Common.{◌≡◌, ℕ, Bool, true, List, [], ◌∷◌, Option, Some, None, Ok, refl, sym, ap, ◌∙◌, subst}
use Rattle.asl_syn.specs.declared.token.Span.{Span}
use Rattle.asl_syn.specs.declared.code.StaticCode.TheVariants.{T21}
use Rattle.asl_syn.specs.declared.tree.Expr.{Expr}
use Rattle.asl_syn.specs.declared.tree.Alternative.TheOpen as st
use Rattle.asl_syn.specs.declared.tree.Decl.{Decl}
use Rattle.asl_rules.specs.declared.effect.Effect.{Effect}
use Rattle.asl_rules.specs.declared.effect.Effect.TheVariants.{Pure, Readonly, Writes}
use Rattle.asl_rules.specs.Faults.{need}
use Rattle.asl_rules.specs.Tests.{Tests, IsRight}
use Rattle.asl_rules.specs.types.Types.{Ty, kind, exceptions, exception_of, named}
use Rattle.asl_rules.specs.types.Closed as cl
use Rattle.asl_rules.specs.types.Closed.{Assignment, type_with}
use Rattle.asl_rules.specs.types.Effects.{at_most, greater}
use Rattle.asl_rules.specs.declarations.Scopes.{Entry, Signature}
use Rattle.asl_rules.specs.private.WellFormed.{WellFormed, WellDeclared, Shaped}
use Rattle.asl_rules.specs.runs.Trees as tree
use Rattle.asl_rules.specs.runs.Trees.{Act, TreeFunc}
use Rattle.asl_rules.specs.statements.Acting.{done, operand_of}
use Rattle.asl_rules.specs.statements.Branches.{is_exception}
use Rattle.asl_rules.specs.statements.Stmts.{throw_rule}
use Rattle.asl_rules.specs.values.Values.{Value, exception_with, has}
use Rattle.asl_rules.specs.types.Views.{viewed}
use Rattle.asl_rules.specs.runs.States.{Core}
use Rattle.asl_rules.specs.private.Belonging.{InType}
use Rattle.asl_rules.specs.private.Agreement.{types_in, no_atoms, Raised, AllRaised, Agrees}
use Rattle.asl_rules.specs.runs.StatementForms.{thrown, thrown_again}
use Rattle.asl_rules.specs.private.Erasure.{erased}
use Rattle.asl_rules.proofs.basics.Inversions.{bind_ok, then_ok, need_ok}
use Rattle.asl_rules.proofs.basics.Tests.{no}
use Rattle.asl_rules.proofs.values.Shapes.{Thrown, exception_is}
use Rattle.asl_rules.proofs.values.KindOf.{has_kind}
use Rattle.asl_rules.proofs.expressions.MemberForms.{no_atoms_in_exception}
use Rattle.asl_rules.proofs.scopes.Naming.{WellNamed, well_declared, scope_good}
use Rattle.asl_laws.proofs.scopes.WellTyped.{FormedSubs, typed_formed}
use Rattle.asl_laws.proofs.expressions.Claims.{StmtClaim, Handles, At, Over, Around}
use Rattle.asl_laws.proofs.expressions.TreePlans.{operand, append_nil}
use Rattle.asl_laws.proofs.expressions.Standing.{below_both}
use Rattle.asl_laws.proofs.statements.StmtForms.{here, Held, OutAct, ActSame, Acted, acted, operand_typed, ended_is, ended_below}

-- the kind of an exception
pub exception_kind : (T : Ty) → is_exception T ≡ true → (n : List ℕ) × (kind T ≡ exceptions n)
exception_kind (exception_of n fs) h = (n, refl)
exception_kind (named n supers T) h = exception_kind T h
exception_kind T h = no h

below_greater : (k : Effect) → at_most Writes (greater k Writes) ≡ true
below_greater Pure = refl
below_greater Readonly = refl
below_greater Writes = refl

module _ (d : List ℕ → Option Ty) (w : WellDeclared d) (av : Assignment) (tests : Tests) (right : IsRight tests) where
  -- no exception has atoms
  pub exception_fixed : (T : Ty) → Shaped d T → is_exception T ≡ true → type_with T av ≡ type_with T no_atoms
  exception_fixed (exception_of n fs) s h = ap (cl.exception_of n) (no_atoms_in_exception d w av tests right n fs s.0)
  exception_fixed (named n supers T) s h = ap (cl.named n supers) (exception_fixed T s.2 h)
  exception_fixed T s h = no h

  -- what belongs to a type of exceptions can be thrown
  pub raised_of : (T : Ty) (x : Value) → WellFormed d T → is_exception T ≡ true → InType d av x T → Raised d x
  raised_of T x s h i =
      let k = exception_kind T h in
      let e = exception_fixed T s.shaped h in
      record { ty = T; name = k.0; well_formed = s; kind_is = k.1; belongs = (subst (λ V. has x V ≡ true) e i.0, i.1, subst (λ V. viewed V x ≡ x) e i.2) }

module _ (tests : Tests) (right : IsRight tests) (ds : List Decl) (base : List Entry) (subs : List Signature) (loose : Bool) (funcs : List TreeFunc) (w : WellNamed base) where
  over_here : (j : StmtClaim) (x : Value) (c : Core) → Raised (types_in base) x → at_most Writes j.body.scope.class ≡ true → At tests base subs loose (here tests right ds base subs loose funcs w j) c → Over tests base subs loose j.body.scope.class j.body.scope.names j.present j.around x c
  over_here j x c r h a = record { raised = r; writes = h; more = []; later = j.present; same = λ n l. refl; agrees = subst (λ ns. Agrees base ns j.present c) (sym (append_nil j.body.scope.names)) a.agrees; around_is = a.around_is }

  again_same : (j : StmtClaim) (b : Bool) (span : Span) (xs : List Value) (c : Core) → Handles xs → AllRaised (types_in base) xs → at_most Writes j.body.scope.class ≡ true → At tests base subs loose (here tests right ds base subs loose funcs w j) c → ActSame tests right ds base subs loose funcs w j b (thrown_again span xs c) (thrown_again span xs (erased c))
  again_same j b span [] c h r g a = absurd h
  again_same j b span (x ∷ xs) c h r g a = (refl, refl, over_here j x c r.0 g a)

  thrown_same : (j : StmtClaim) (b : Bool) (span : Span) (n : List ℕ) (x : Value) (c : Core) → Thrown n x → Raised (types_in base) x → at_most Writes j.body.scope.class ≡ true → At tests base subs loose (here tests right ds base subs loose funcs w j) c → ActSame tests right ds base subs loose funcs w j b (thrown span x c) (thrown span x (erased c))
  thrown_same j b span n x c t r g a =
      subst (λ y. Raised (types_in base) y → ActSame tests right ds base subs loose funcs w j b (thrown span y c) (thrown span y (erased c))) (sym t.is) (λ q. (refl, refl, over_here j (exception_with t.own t.supers n t.fields) c q g a)) r

  pub throw_acted : (j : StmtClaim) (b : Bool) (span : Span) (o : Option Expr) (c : Core) → throw_rule tests span o j.body ≡ Ok j.done → Held tests right ds base subs loose funcs w j c → Acted tests right ds base subs loose funcs w j b (st.Throw span o) c
  throw_acted j b span None c h k =
      let n = then_ok (need j.body.handles T21 span) _ j.done h in
      let G = j.body.scope in
      let act : Act = tree.Throw span None in
      acted tests right ds base subs loose funcs w j b (st.Throw span None) c (done G.names Writes act) (ended_is G.class span true Writes G.names act j.done n.then) refl
      (λ i. again_same j b span c.handled c (subst (λ (r : Around). Handles r.handled) (sym k.at.around_is) (k.handles (need_ok j.body.handles T21 span tt n.first))) k.at.agrees.handled (ended_below G.class span true Writes G.names act j.done n.then) k.at)
  throw_acted j b span (Some e) c h k =
      let G = j.body.scope in
      let o = bind_ok (operand_of tests e G) _ j.done h in
      let n = then_ok (need (is_exception o.value.typed.ty) T21 o.value.span) _ j.done o.then in
      let S = o.value.typed in
      let t = operand_typed tests e G o.value o.first in
      let s = typed_formed tests right (types_in base) (well_declared base w) e G S (scope_good j.present base G.names c w k.at.agrees) (subst (FormedSubs tests right (types_in base) (well_declared base w)) (sym k.at.subs_are) k.subs_formed) t in
      let q = need_ok (is_exception S.ty) T21 o.value.span tt n.first in
      let act : Act = tree.Throw span (Some S.tree) in
      let m = exception_kind S.ty q in
      acted tests right ds base subs loose funcs w j b (st.Throw span (Some e)) c (done G.names (greater S.effect Writes) act) (ended_is G.class span true (greater S.effect Writes) G.names act j.done n.then) refl
      (λ i. operand tests right base subs loose (here tests right ds base subs loose funcs w j) (OutAct tests right ds base subs loose funcs w j b) e S c (thrown span) (thrown span) t k.at
      (λ x c1 v a1. thrown_same j b span m.0 x c1 (exception_is m.0 x (has_kind j.present S.ty x v.0 ∙ m.1)) (raised_of (types_in base) (well_declared base w) j.present tests right S.ty x s q v)
      (below_both Writes (greater S.effect Writes) G.class (below_greater S.effect)
      (ended_below G.class span true (greater S.effect Writes) G.names act j.done n.then)) a1))
