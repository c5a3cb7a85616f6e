-- `try` with its typed tree: a catcher takes an exception of its type, which may have a name in its list.
use Rattle.std.proofs.Common.{◌≡◌, ℕ, Bool, true, false, List, [], ◌∷◌, ◌++◌, length, map, Option, Some, None, Ok, refl, sym, ap, ◌∙◌, subst, append_assoc}
use Rattle.std.specs.Prelude.{if◌then◌else◌}
use Rattle.asl_syn.specs.declared.tree.Ident.{Ident}
use Rattle.asl_syn.specs.declared.tree.Stmt.{Stmt}
use Rattle.asl_syn.specs.declared.tree.Decl.{Decl}
use Rattle.asl_rules.specs.Tests.{Tests, IsRight}
use Rattle.asl_rules.specs.declared.effect.Effect.TheVariants.{Pure, Writes}
use Rattle.asl_rules.specs.types.Effects.{at_most}
use Rattle.asl_rules.specs.types.Types.{Ty, reaches, integer_of, boolean, bits_of, enumeration_of, record_of, exception_of, tuple_of, array_of, named}
use Rattle.asl_rules.specs.types.Closed.{Assignment, Closed, type_with, closed}
use Rattle.asl_rules.specs.declarations.Scopes.{Entry, Standing, Signature, body_names, handling, fixed, is_free, is_absent, standing_of, with_names}
use Rattle.asl_rules.specs.private.WellFormed.{WellFormed}
use Rattle.asl_rules.specs.runs.Trees.{TreeFunc}
use Rattle.asl_rules.specs.statements.Acting.{Listed, block}
use Rattle.asl_rules.specs.statements.Branches.{is_exception}
use Rattle.asl_rules.specs.statements.Stmts.{found_stmt}
use Rattle.asl_rules.specs.statements.Falling.{falls_through}
use Rattle.asl_rules.specs.values.Values.{Value, exception_with, has, Exit, Normal, Returned}
use Rattle.asl_rules.specs.types.Views.{viewed}
use Rattle.asl_rules.specs.runs.States.{of_type, Binding, Core, kept}
use Rattle.asl_rules.specs.private.Belonging.{InType}
use Rattle.asl_rules.specs.private.Agreement.{no_atoms, types_in, FrameMatches, local_matches, IsPlain, AllPlain, AllFresh, Raised, AllRaised, Agrees}
use Rattle.asl_rules.specs.runs.Plans.{Pure as PureOf, Good, Raise, lift}
use Rattle.asl_rules.specs.runs.Pures.{◌>>=◌, known, there}
use Rattle.asl_rules.specs.runs.StatementForms as plan
use Rattle.asl_rules.specs.runs.StatementForms.{scope, scope_from, scope_with, leave, is_caught, catch_list}
use Rattle.asl_rules.specs.runs.ByNames.{types_among}
use Rattle.asl_rules.specs.runs.Evaluation.{Does, frames, declare, declared, caught_as}
use Rattle.asl_rules.specs.private.TypedMeaning.{BareCore, Runs, in_bare, acts_of, with_next}
use Rattle.asl_rules.specs.private.Erasure.{erased, values_of}
use Rattle.asl_rules.proofs.basics.Tests.{no, none_some, some_same}
use Rattle.asl_rules.proofs.scopes.Lookups.{before_is}
use Rattle.asl_rules.proofs.scopes.Naming.{WellNamed, well_declared}
use Rattle.asl_rules.proofs.values.Keeping.{caught_of}
use Rattle.asl_laws.proofs.values.OfType.{of_exceptions}
use Rattle.asl_laws.proofs.expressions.Twins.{Twins, twins_weaker}
use Rattle.asl_laws.proofs.expressions.Claims.{StmtClaim, At, Ends, our}
use Rattle.asl_laws.proofs.expressions.Standing.{around_again}
use Rattle.asl_laws.proofs.expressions.TreePlans.{Throws, append_nil}
use Rattle.asl_laws.proofs.statements.StmtForms.{here, Held, OutAct, ActSame}
use Rattle.asl_laws.proofs.expressions.ExprForms.{env}
use Rattle.asl_laws.proofs.scopes.ScopesKept.{GoodScope}
use Rattle.asl_rules.proofs.scopes.Longer.{Longer, list_longer, same_on_fewer}
use Rattle.asl_laws.proofs.statements.ListForms.{onward, held_onward, list_same, cut_agrees, values_length, erased_cut}

-- ---- a caught exception

viewed_exception : (a : Assignment) (T : Ty) (x : Value) → is_exception T ≡ true → viewed (type_with T a) x ≡ x
viewed_exception a (exception_of n fs) x h = refl
viewed_exception a (named n supers T) x h = viewed_exception a T x h
viewed_exception a (integer_of ps) x h = no h
viewed_exception a boolean x h = no h
viewed_exception a (bits_of v u) x h = no h
viewed_exception a (enumeration_of n ls) x h = no h
viewed_exception a (record_of n fs) x h = no h
viewed_exception a (tuple_of ts) x h = no h
viewed_exception a (array_of n T) x h = no h

module _ (tests : Tests) (right : IsRight tests) (base : List Entry) (w : WellNamed base) where
  -- it belongs to the type of the catcher that takes it
  pub caught_in : (T : Ty) (t : List ℕ) (x : Value) → Raised (types_in base) x → types_in base t ≡ Some T → is_exception T ≡ true → is_caught t x ≡ true → InType (types_in base) no_atoms x T
  caught_in T t x r e i k =
      let z = of_exceptions no_atoms r.ty r.name x r.belongs.0 r.kind_is in
      let j : InType (types_in base) no_atoms (exception_with z.own z.supers r.name z.fields) r.ty = subst (λ y. InType (types_in base) no_atoms y r.ty) z.is r.belongs in
      let l : reaches z.own z.supers t ≡ true = subst (λ y. is_caught t y ≡ true) z.is k in
      subst (λ y. InType (types_in base) no_atoms y T) (sym z.is)
      (caught_of no_atoms tests right (types_in base) (well_declared base w) r.ty T z.own z.supers r.name z.fields t r.well_formed j.1.0 e j.0 l, j.1, viewed_exception no_atoms T (exception_with z.own z.supers r.name z.fields) i)

-- ---- one more name in the frame

free_none : (o : Option Standing) → is_absent o ≡ true → o ≡ None
free_none None h = refl
free_none (Some s) h = no h

in_base : (base locals : List Entry) (name : List ℕ) (o : Option Standing) → standing_of name base ≡ o → standing_of name (base ++ locals) ≡ None → o ≡ None
in_base base locals name None q h = refl
in_base base locals name (Some s) q h = none_some s (sym h ∙ before_is base locals name s q)

fresh_snoc : (base es : List Entry) (e : Entry) → AllFresh base es → standing_of e.name base ≡ None → AllFresh base (es ++ e ∷ [])
fresh_snoc base [] e f n = (n, tt)
fresh_snoc base (d ∷ es) e f n = (f.0, fresh_snoc base es e f.1 n)

plain_snoc : (es : List Entry) (e : Entry) → AllPlain es → IsPlain e.standing → AllPlain (es ++ e ∷ [])
plain_snoc [] e f p = (p, tt)
plain_snoc (d ∷ es) e f p = (f.0, plain_snoc es e f.1 p)

frame_snoc : (d : List ℕ → Option Ty) (a : Assignment) (es : List Entry) (bs : List Binding) (e : Entry) (b : Binding) → FrameMatches d a es bs → local_matches d a e.name e.standing b → FrameMatches d a (es ++ e ∷ []) (bs ++ b ∷ [])
frame_snoc d a [] [] e b m k = (k, tt)
frame_snoc d a [] (x ∷ bs) e b m k = absurd m
frame_snoc d a (y ∷ es) [] e b m k = absurd m
frame_snoc d a (y ∷ es) (x ∷ bs) e b m k = (m.0, frame_snoc d a es bs e b m.1 k)

pub agrees_more : (base names : List Entry) (a : Assignment) (c : Core) (e : Entry) (b : Binding) → Agrees base names a c → is_free e.name names ≡ true → IsPlain e.standing → local_matches (types_in base) a e.name e.standing b → Agrees base (names ++ e ∷ []) a (record c { frame = c.frame ++ b ∷ [] })
agrees_more base names a c e b k f p m = record {
  locals = k.locals ++ e ∷ [];
  names_are = ap (λ l. l ++ e ∷ []) k.names_are ∙ append_assoc base k.locals (e ∷ []);
  fresh = fresh_snoc base k.locals e k.fresh (in_base base k.locals e.name (standing_of e.name base) refl (sym (ap (standing_of e.name) k.names_are) ∙ free_none (standing_of e.name names) f));
  plain = plain_snoc k.locals e k.plain p;
  frame = frame_snoc (types_in base) a k.locals c.frame e b k.frame m;
  globals = k.globals;
  handled = k.handled;
  callers = k.callers;
}

values_snoc : (bs : List Binding) (b : Binding) → values_of (bs ++ b ∷ []) ≡ values_of bs ++ b.value ∷ []
values_snoc [] b = refl
values_snoc (x ∷ bs) b = ap (λ l. x.value ∷ l) (values_snoc bs b)

-- the exceptions that are being handled don't matter to the names
pub handled_agrees : (base names : List Entry) (a : Assignment) (hs : List Value) (c : Core) → AllRaised (types_in base) hs → Agrees base names a c → Agrees base names a (record c { handled = hs })
handled_agrees base names a hs c r k = record { locals = k.locals; names_are = k.names_are; fresh = k.fresh; plain = k.plain; frame = k.frame; globals = k.globals; handled = r; callers = k.callers }

module _ (tests : Tests) (right : IsRight tests) (ds : List Decl) (base : List Entry) (subs : List Signature) (loose : Bool) (funcs : List TreeFunc) (w : WellNamed base) where
  -- an exception that comes out here
  pub over_here : (j : StmtClaim) (x : Value) (c : Core) → Raised (types_in base) x → at_most Writes j.body.scope.class ≡ true → At tests base subs loose (here tests right ds base subs loose funcs w j) c → Throws tests right base subs loose (here tests right ds base subs loose funcs w j) x c
  over_here j x c r h a = record { raised = r; writes = h; more = []; later = j.present; same = λ n l. refl; agrees = subst (λ ns. Agrees base ns j.present c) (sym (append_nil j.body.scope.names)) a.agrees; around_is = a.around_is }

  -- ---- what runs while an exception is being handled

  abbrev pub inside : StmtClaim → Value → StmtClaim
  inside j x = record { body = handling j.body; done = j.done; present = j.present; params = j.params; around = record j.around { handled = x ∷ j.around.handled } }

  outside_again : (j : StmtClaim) (b : Bool) (x : Value) (c : Core) → At tests base subs loose (here tests right ds base subs loose funcs w j) c → (e : Exit) (c1 : Core) → Ends tests base subs loose (inside j x) b e c1 → Ends tests base subs loose j b e (record c1 { handled = c.handled })
  outside_again j b x c a Normal c1 e = record { reached = e.reached; later = e.later; same = e.same; agrees = handled_agrees base j.done.names e.later c.handled c1 a.agrees.handled e.agrees; around_is = around_again j.around x c c1 a.around_is e.around_is }
  outside_again j b x c a (Returned o) c1 e = record { gives = e.gives; more = e.more; later = e.later; agrees = handled_agrees base (j.body.scope.names ++ e.more) e.later c.handled c1 a.agrees.handled e.agrees; around_is = around_again j.around x c c1 a.around_is e.around_is }

  pub handling_same : (j : StmtClaim) (b : Bool) (x : Value) (c : Core) (q : Core → Does Exit) (r : BareCore → Runs Exit) → At tests base subs loose (here tests right ds base subs loose funcs w j) c →
      ActSame tests right ds base subs loose funcs w (inside j x) b (q (record c { handled = x ∷ c.handled })) (r (erased (record c { handled = x ∷ c.handled }))) →
      ActSame tests right ds base subs loose funcs w j b (plan.handling frames x q c) (plan.handling in_bare x r (erased c))
  handling_same j b x c q r a s =
      twins_weaker (our tests base subs loose) (OutAct tests right ds base subs loose funcs w (inside j x) b) (λ e f c1. (refl_of c1) × OutAct tests right ds base subs loose funcs w j b e f (record c1 { handled = c.handled }))
      (Throws tests right base subs loose (here tests right ds base subs loose funcs w (inside j x))) (λ y c1. (refl_of c1) × (y ≡ y) × Throws tests right base subs loose (here tests right ds base subs loose funcs w j) y (record c1 { handled = c.handled }))
      (λ e f c1 o. (refl, (o.0, outside_again j b x c a e c1 o.1)))
      (λ y c1 o. (refl, refl, record { raised = o.raised; writes = o.writes; more = o.more; later = o.later; same = o.same; agrees = handled_agrees base (j.body.scope.names ++ o.more) o.later c.handled c1 a.agrees.handled o.agrees; around_is = around_again j.around x c c1 a.around_is o.around_is }))
      (q (record c { handled = x ∷ c.handled })) (r (erased (record c { handled = x ∷ c.handled }))) s
    where
      refl_of : Core → Type 0
      refl_of c1 = erased (record c1 { handled = c.handled }) ≡ record (erased c1) { handled = c.handled }

  -- the exception in the next place
  kept_is : (b : Bool) (C : Closed) (x : Value) → has x C ≡ b → b ≡ true → viewed C x ≡ x → kept (of_type C) x ≡ Some x
  kept_is b C x q h v = ap (λ z. if z then Some (viewed C x) else None) (q ∙ h) ∙ ap Some v

  abbrev onward_of : Ident → Closed → Core → Option Value → PureOf Core
  onward_of i C c o = there i.span o >>= λ y. Good (declared i.text y (of_type C) false c)

  declared_is : (i : Ident) (C : Closed) (x : Value) (c : Core) → has x C ≡ true → viewed C x ≡ x → declare i.span i.text false (Some (of_type C)) x c ≡ Good (declared i.text x (of_type C) false c)
  declared_is i C x c h v = kept_on (kept (of_type C) x) (kept_is (has x C) C x refl h v)
    where
      kept_on : (o : Option Value) → o ≡ Some x → onward_of i C c o ≡ Good (declared i.text x (of_type C) false c)
      kept_on None e = none_some x e
      kept_on (Some y) e = ap (λ z. Good (declared i.text z (of_type C) false c)) (some_same y x e)

  caught_as_is : (i : Ident) (t : List ℕ) (C : Closed) (x : Value) (c : Core) → types_among base t ≡ Some C → has x C ≡ true → viewed C x ≡ x → caught_as (env tests right ds base subs loose funcs w) i t x c ≡ Good (declared i.text x (of_type C) false c)
  caught_as_is i t C x c e h v = ap (λ o. known i.span o >>= λ D. declare i.span i.text false (Some (of_type D)) x c) e ∙ declared_is i C x c h v

  abbrev bound : List ℕ → Closed → Value → Binding
  bound n C x = record { name = n; value = x; under = of_type C; is_mutable = false }

  with_next_is : (n : List ℕ) (C : Closed) (x : Value) (c : Core) → with_next (x ∷ []) (erased c) ≡ erased (declared n x (of_type C) false c)
  with_next_is n C x c = ap (λ xs. record (erased c) { frame = xs }) (sym (values_snoc c.frame (bound n C x)))

  abbrev StmtAt : StmtClaim → Core → Type 0
  StmtAt j c = Held tests right ds base subs loose funcs w j c

  -- a list in whose scope the exception has a name
  pub named_same : (j : StmtClaim) (b : Bool) (i : Ident) (t : List ℕ) (T : Ty) (x : Value) (l : Listed) (ss : List Stmt) (c : Core) → is_free i.text j.body.scope.names ≡ true → block (map (found_stmt tests) ss) (body_names j.body (j.body.scope.names ++ fixed i.text T None ∷ [])) ≡ Ok l →
      StmtAt j c → j.body.scope.names ≡ j.done.names → (falls_through ss ≡ true → b ≡ true) → types_among base t ≡ Some (closed T) → WellFormed (types_in base) T → InType (types_in base) j.present x T → type_with T j.present ≡ closed T → GoodScope tests (with_names j.body.scope (j.body.scope.names ++ fixed i.text T None ∷ [])) →
      ActSame tests right ds base subs loose funcs w j b (scope_with frames (caught_as (env tests right ds base subs loose funcs w) i t x) ss c) (scope_with in_bare (λ d. Good (with_next (x ∷ []) d)) (acts_of l.acts) (erased c))
  named_same j b i t T x l ss c f h held names g e wf k fix good =
      let C = closed T in
      let c2 = declared i.text x (of_type C) false c in
      let entry = fixed i.text T None in
      let later = j.body.scope.names ++ entry ∷ [] in
      let longer : Longer j.body.scope.names later = record { more = entry ∷ []; is = refl } in
      let n = length c.frame in
      let has_it : has x C ≡ true = subst (λ D. has x D ≡ true) fix k.0 in
      let seen_so : viewed C x ≡ x = subst (λ D. viewed D x ≡ x) fix k.2 in
      let more : Agrees base later j.present c2 = agrees_more base j.body.scope.names j.present c entry (bound i.text C x) held.at.agrees f (refl, refl, λ m. refl)
      (record { name_is = refl; under_is = sym fix; mutable_is = refl; well_formed = wf; belongs = k; known = tt; counts = tt }) in
      let held2 = held_onward tests right ds base subs loose funcs w j later j.present c c2 held longer (λ m z. refl) more held.at.around_is good in
      subst (λ r. ActSame tests right ds base subs loose funcs w j b (lift r c (λ d. scope_from frames n ss d)) (scope_with in_bare (λ d. Good (with_next (x ∷ []) d)) (acts_of l.acts) (erased c))) (sym (caught_as_is i t C x c e has_it seen_so))
      (subst (λ d. ActSame tests right ds base subs loose funcs w j b (scope_from frames n ss c2) (scope_from in_bare (length (values_of c.frame)) (acts_of l.acts) d)) (sym (with_next_is i.text C x c))
      (subst (λ m. ActSame tests right ds base subs loose funcs w j b (scope_from frames n ss c2) (scope_from in_bare m (acts_of l.acts) (erased c2))) (sym (values_length c.frame))
      (list_same tests right ds base subs loose funcs w (onward tests right ds base subs loose funcs w j later j.present) Pure l
      (λ y z c1. Twins (our tests base subs loose) (OutAct tests right ds base subs loose funcs w j b) (Throws tests right base subs loose (here tests right ds base subs loose funcs w j)) (leave frames n y c1) (leave in_bare n z (erased c1)))
      (λ y c1. Twins (our tests base subs loose) (OutAct tests right ds base subs loose funcs w j b) (Throws tests right base subs loose (here tests right ds base subs loose funcs w j)) (Raise y c1) (Raise y (erased c1))) ss c2 h held2
      (λ c1 m q. (
        erased_cut n c1,
        (
          refl,
          record {
            reached = g q;
            later = m.later;
            same = same_on_fewer j.body.scope.names later j.present m.later longer m.same;
            agrees = subst (λ ns. Agrees base ns m.later (frames.cut n c1)) names (cut_behind j later entry l.names m.later c c1 held refl (list_longer tests ss Pure (body_names j.body later) l h) m.agrees);
            around_is = m.around_is;
          },
        ),
      ))
      (λ o c1 m. (erased_cut n c1, (refl, record { gives = m.gives; more = []; later = m.later; agrees = subst (λ ns. Agrees base ns m.later (frames.cut n c1)) (sym (append_nil j.body.scope.names)) (cut_agrees base j.body.scope.names (entry ∷ m.more) j.present m.later c c1 held.at.agrees (subst (λ ns. Agrees base ns m.later c1) (append_assoc j.body.scope.names (entry ∷ []) m.more) m.agrees)); around_is = m.around_is })))
      (λ y c1 m. (refl, refl, record { raised = m.raised; writes = m.writes; more = entry ∷ m.more; later = m.later; same = same_on_fewer j.body.scope.names later j.present m.later longer m.same; agrees = subst (λ ns. Agrees base ns m.later c1) (append_assoc j.body.scope.names (entry ∷ []) m.more) m.agrees; around_is = m.around_is })))))
    where
      cut_behind : (j : StmtClaim) (later : List Entry) (entry : Entry) (names : List Entry) (a : Assignment) (c c1 : Core) → StmtAt j c → later ≡ j.body.scope.names ++ entry ∷ [] → Longer later names → Agrees base names a c1 → Agrees base j.body.scope.names a (frames.cut (length c.frame) c1)
      cut_behind j later entry names a c c1 held q m k =
          cut_agrees base j.body.scope.names (entry ∷ m.more) j.present a c c1 held.at.agrees (subst (λ ns. Agrees base ns a c1) (m.is ∙ ap (λ ns. ns ++ m.more) q ∙ append_assoc j.body.scope.names (entry ∷ []) m.more) k)
