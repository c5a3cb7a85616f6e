-- Declarations of the parts of a tuple with their typed trees.
use Rattle.std.proofs.Common.{◌≡◌, ℕ, ◌&&◌, not, Bool, true, false, cond, List, [], ◌∷◌, ◌++◌, Option, Some, None, option_map, Ok, refl, sym, ap, ◌∙◌, subst, append_assoc}
use Rattle.asl_syn.specs.declared.token.Span.{Span}
use Rattle.asl_syn.specs.declared.code.StaticCode.TheVariants.{T01, T05}
use Rattle.asl_syn.specs.declared.tree.Expr.{Expr}
use Rattle.asl_syn.specs.declared.tree.Ident.{Ident}
use Rattle.asl_syn.specs.declared.tree.TypeExpr.{TypeExpr}
use Rattle.asl_syn.specs.declared.tree.LocalKind.{LocalKind}
use Rattle.asl_syn.specs.declared.tree.LocalKind.TheVariants as local
use Rattle.asl_syn.specs.declared.tree.Binder.{Binder}
use Rattle.asl_syn.specs.declared.tree.Binder.TheVariants.{Bound, Unbound}
use Rattle.asl_syn.specs.declared.tree.Bind.TheVariants.{Several}
use Rattle.asl_syn.specs.declared.tree.Alternative.TheOpen as st
use Rattle.asl_syn.specs.declared.tree.Decl.{Decl}
use Rattle.asl_rules.specs.Faults.{need, found_or}
use Rattle.asl_rules.specs.Tests.{Tests, IsRight}
use Rattle.asl_rules.specs.types.Types.{Ty, Parts, tuple_of, named, no_part, part, is_integer, tuple_parts}
use Rattle.asl_rules.specs.types.Closed.{Assignment, ClosedParts, type_with, parts_with, parts_at}
use Rattle.asl_rules.specs.declarations.Scopes.{Entry, Signature, Counted, atom_at, next_atom, is_free, fixed}
use Rattle.asl_rules.specs.private.WellFormed.{WellFormed, Shaped, ShapedParts, Built, BuiltAll}
use Rattle.asl_rules.specs.runs.Trees as tree
use Rattle.asl_rules.specs.runs.Trees.{TreeFunc}
use Rattle.asl_rules.specs.values.Members.{has_name}
use Rattle.asl_rules.specs.statements.Acting.{Done, done}
use Rattle.asl_rules.specs.statements.Locals as rules
use Rattle.asl_rules.specs.statements.Locals.{is_var, initialised, type_declared, part_declared, itself, taken, written_or, binders_free, bound_parts, bound_in, bind_rule}
use Rattle.asl_rules.specs.values.Values.{Value, Values, tuple_with, no_value, value, has, parts_in, is_exception}
use Rattle.asl_rules.specs.types.Views.{viewed}
use Rattle.asl_rules.specs.runs.States.{Under, of_type, of_value, Core, kept}
use Rattle.asl_rules.specs.private.Belonging.{InType}
use Rattle.asl_rules.specs.private.Agreement.{types_in, IsUnder, Agrees, SameOn}
use Rattle.asl_rules.specs.runs.Plans.{Good, lift}
use Rattle.asl_rules.specs.runs.Pures.{◌>>=◌, there}
use Rattle.asl_rules.specs.private.ByPlace.{seen_as, parts_seen_as, seen_where}
use Rattle.asl_rules.specs.values.Structures.{values_in, parts}
use Rattle.asl_rules.specs.runs.StatementForms.{done_normal}
use Rattle.asl_rules.specs.runs.Evaluation.{declared, unders_of_values, unders_of_parts, unders_in, unders_or, declare_each, bound_to}
use Rattle.asl_rules.specs.private.TypedMeaning as bare
use Rattle.asl_rules.specs.private.TypedMeaning.{with_next, parts_taken}
use Rattle.asl_rules.specs.private.Erasure.{erased, values_of}
use Rattle.asl_rules.proofs.basics.Inversions.{bind_ok, then_ok, found_ok}
use Rattle.asl_rules.proofs.basics.Tests.{no, both, some_same, none_some}
use Rattle.asl_rules.proofs.values.Viewing.{viewed_has, viewed_twice, tuple_same, same_first, same_rest}
use Rattle.asl_rules.proofs.values.Bare.{viewed_built}
use Rattle.asl_rules.proofs.values.Constructs.{seen_is}
use Rattle.asl_rules.proofs.expressions.OperatorForms.{is_int}
use Rattle.asl_rules.proofs.scopes.Naming.{WellNamed}
use Rattle.asl_laws.proofs.widths.WholeWidths.{atom_counts}
use Rattle.asl_laws.proofs.widths.TypesOver.{AllOver, all_more}
use Rattle.asl_laws.proofs.scopes.OverScope.{NamesOver}
use Rattle.asl_laws.proofs.scopes.ScopesOver.{Below, type_same_on}
use Rattle.asl_rules.proofs.widths.ScopesCounted.{Fresh, fresh_start, fresh_more, tested}
use Rattle.asl_laws.proofs.scopes.BodiesOver.{part_type_over, tuple_over, one_added, if_itself, below_more}
use Rattle.asl_rules.proofs.widths.Counting.{atoms_snoc}
use Rattle.asl_laws.proofs.scopes.Moved.{in_type_moved, under_moved, extended, extended_at, extended_same}
use Rattle.asl_laws.proofs.scopes.Agreeing.{erased_declared}
use Rattle.asl_laws.proofs.soundness.SoundnessStates.{kept_as_is}
use Rattle.asl_laws.proofs.expressions.Claims.{StmtClaim, around_of}
use Rattle.asl_laws.proofs.expressions.TreePlans.{operand}
use Rattle.asl_rules.proofs.scopes.Longer.{same_on_fewer, same_on_both}
use Rattle.asl_laws.proofs.statements.StmtForms.{here, Held, OutAct, ActSame, Acted, acted, ended_is}
use Rattle.asl_laws.proofs.statements.DeclareForms.{Way, init_says, Counts, new_name, unmoved, environment_of, unannotated_in, unannotated_formed}

tuple_shaped : (d : List ℕ → Option Ty) (T : Ty) (ts : Parts) → tuple_parts T ≡ Some ts → Shaped d T → ShapedParts d ts
tuple_shaped d (tuple_of us) ts h s = subst (ShapedParts d) (some_same us ts h) s
tuple_shaped d (named n supers T) ts h s = tuple_shaped d T ts h s.2
tuple_shaped d T ts h s = none_some ts h

module _ (d : List ℕ → Option Ty) (av : Assignment) where
  -- a value of a type that is a tuple
  record Tupled (T : Ty) (ts : Parts) (x : Value) : Type 0 where
    inner : Values
    is : x ≡ tuple_with inner
    have : parts_in inner (parts_with ts av) ≡ true
    built : BuiltAll d inner
    closed_is : parts_at (type_with T av) ≡ Some (parts_with ts av)
    seen : (ys : Values) → seen_as T (tuple_with ys) ≡ tuple_with (parts_seen_as ts ys)

  tupled : (T : Ty) (ts : Parts) (x : Value) → tuple_parts T ≡ Some ts → has x (type_with T av) ≡ true → Built d x → Tupled T ts x
  tupled (tuple_of us) ts (tuple_with xs) q h b = subst (λ z. Tupled (tuple_of us) z (tuple_with xs)) (some_same us ts q) (record { inner = xs; is = refl; have = h; built = b; closed_is = refl; seen = λ ys. refl })
  tupled (tuple_of us) ts x q h b = no h
  tupled (named n supers T) ts x q h b =
      let r = tupled T ts x q (both (is_exception n x) (has x (type_with T av)) h).1 b in
      record { inner = r.inner; is = r.is; have = r.have; built = r.built; closed_is = r.closed_is; seen = r.seen }
  tupled T ts x q h b = none_some ts q

module _ (tests : Tests) (right : IsRight tests) (ds : List Decl) (base : List Entry) (subs : List Signature) (loose : Bool) (funcs : List TreeFunc) (w : WellNamed base) where
  abbrev d : List ℕ → Option Ty
  d = types_in base

  -- ---- the parts of a value, and where each is stored

  abbrev AllPlaced : Assignment → LocalKind → Option Ty → List Under → List Value → List Value → Parts → Type 0
  AllPlaced av kind wr [] [] [] no_part = Unit {0}
  AllPlaced av kind wr (u ∷ us) (x ∷ xs) (y ∷ ys) (part T ts) = IsUnder d av u (part_declared kind wr T) × (kept u x ≡ Some y) × InType d av y (part_declared kind wr T) × AllPlaced av kind wr us xs ys ts
  AllPlaced av kind wr us xs ys ts = ⊥

  by_values : (av : Assignment) (kind : LocalKind) (vs : Values) (ts : Parts) → parts_in vs (parts_with ts av) ≡ true → BuiltAll d vs → parts_seen_as ts vs ≡ vs → AllPlaced av kind None (unders_of_values vs) (values_in vs) (values_in vs) ts
  by_values av kind no_value no_part h b e = tt
  by_values av kind no_value (part T ts) h b e = no h
  by_values av kind (value x xs) no_part h b e = no h
  by_values av kind (value x xs) (part T ts) h b e =
      let p = both (has x (type_with T av)) (parts_in xs (parts_with ts av)) h in
      let i : InType d av x T = (p.0, b.0, sym (seen_is av T x) ∙ same_first (seen_as T x) x (parts_seen_as ts xs) xs e) in
      let k = unannotated_in tests right ds base subs loose funcs w av kind T x i in
      (k, kept_as_is d av (of_value x) T x i i, k, by_values av kind xs ts p.1 b.1 (same_rest (seen_as T x) x (parts_seen_as ts xs) xs e))

  by_types : (av : Assignment) (kind : LocalKind) (U : Ty) (vs : Values) (ts : Parts) → parts_in vs (parts_with ts av) ≡ true → BuiltAll d vs → AllPlaced av kind (Some U) (unders_of_parts (parts_with ts av)) (values_in vs) (values_in (parts_seen_as ts vs)) ts
  by_types av kind U no_value no_part h b = tt
  by_types av kind U no_value (part T ts) h b = no h
  by_types av kind U (value x xs) no_part h b = no h
  by_types av kind U (value x xs) (part T ts) h b =
      let p = both (has x (type_with T av)) (parts_in xs (parts_with ts av)) h in
      let C = type_with T av in
      (refl, ap (λ z. cond z (Some (viewed C x)) None) p.0 ∙ ap Some (sym (seen_is av T x)), subst (λ y. InType d av y T) (sym (seen_is av T x)) (viewed_has C x p.0, viewed_built d C x b.0, viewed_twice C x), by_types av kind U xs ts p.1 b.1)

  record PlacedParts (av : Assignment) (kind : LocalKind) (wr : Option Ty) (ts : Parts) (u : Under) (x : Value) : Type 0 where
    unders : List Under
    values : List Value
    seen : List Value
    are : unders_in u ≡ Some unders
    values_are : (span : Span) → parts span x ≡ Good values
    seen_are : (span : Span) → parts span (seen_where wr x) ≡ Good seen
    all : AllPlaced av kind wr unders values seen ts

  parts_placed : (av : Assignment) (kind : LocalKind) (wr : Option Ty) (D : Ty) (ts : Parts) (u : Under) (x : Value) → tuple_parts D ≡ Some ts → Way tests right ds base subs loose funcs w av wr u x D → PlacedParts av kind wr ts u x
  parts_placed av kind None D ts u x q v =
      let r = tupled d av D ts x q v.1.0 v.1.1 in
      let e : parts_seen_as ts r.inner ≡ r.inner = tuple_same (parts_seen_as ts r.inner) r.inner (sym (r.seen r.inner) ∙ sym (ap (seen_as D) r.is) ∙ seen_is av D x ∙ v.1.2 ∙ r.is) in
      subst (λ z. PlacedParts av kind None ts z x) (sym v.0)
      (subst (λ z. PlacedParts av kind None ts (of_value z) z) (sym r.is)
      (record { unders = unders_of_values r.inner; values = values_in r.inner; seen = values_in r.inner; are = refl; values_are = λ span. refl; seen_are = λ span. refl; all = by_values av kind r.inner ts r.have r.built e }))
  parts_placed av kind (Some T) D ts u x q v =
      let r = tupled d av T ts x (ap tuple_parts v.0 ∙ q) v.2 v.3 in
      subst (λ z. PlacedParts av kind (Some T) ts z x) (sym v.1)
      (subst (λ z. PlacedParts av kind (Some T) ts (of_type (type_with T av)) z) (sym r.is)
      (record {
        unders = unders_of_parts (parts_with ts av);
        values = values_in r.inner;
        seen = values_in (parts_seen_as ts r.inner);
        are = under_parts (parts_at (type_with T av)) (parts_with ts av) r.closed_is;
        values_are = λ span. refl;
        seen_are = λ span. ap (parts span) (r.seen r.inner);
        all = by_types av kind T r.inner ts r.have r.built;
      }))
    where
      under_parts : (o : Option ClosedParts) (cs : ClosedParts) → o ≡ Some cs → option_map unders_of_parts o ≡ Some (unders_of_parts cs)
      under_parts o cs e = ap (option_map unders_of_parts) e

  all_moved : (names : List Entry) (a b : Assignment) (kind : LocalKind) (wr : Option Ty) (us : List Under) (xs ys : List Value) (ts : Parts) → SameOn names a b → AllOver (Below names) ts → AllPlaced a kind wr us xs ys ts → AllPlaced b kind wr us xs ys ts
  all_moved names a b kind wr [] [] [] no_part s o p = tt
  all_moved names a b kind wr (u ∷ us) (x ∷ xs) (y ∷ ys) (part T ts) s o p =
      let D = part_declared kind wr T in
      let e = type_same_on names a b D s (part_type_over tests (Below names) kind wr T o.0) in
      (under_moved d a b u D e p.0, p.1, in_type_moved d a b D y e p.2, all_moved names a b kind wr us xs ys ts s o.1 p.3)
  all_moved names a b kind wr us xs ys ts s o p = absurd p

  -- ---- each name

  record Next (kind : LocalKind) (names : List Entry) (a : Assignment) (o : Option Counted) (y : Value) : Type 0 where
    later : Assignment
    same : SameOn names a later
    counts : Counts tests right ds base subs loose funcs w kind later o y

  next_by : (kind : LocalKind) (names : List Entry) (a : Assignment) (D : Ty) (y : Value) (b : Bool) → is_integer D ≡ b → InType d a y D → Next kind names a (cond b (Some (atom_at (next_atom names))) None) y
  next_by local.Var names a D y b q i = record { later = a; same = λ n l. refl; counts = tt }
  next_by local.Let names a D y false q i = record { later = a; same = λ n l. refl; counts = tt }
  next_by local.Let names a D y true q i =
      let z = is_int d a tests right D y q i in
      let n = next_atom names in
      record { later = extended n z.0 a; same = extended_same names z.0 a; counts = atom_counts (extended n z.0 a) n y z.0 z.1 (extended_at n z.0 a) }

  record Bindings (span : Span) (bs : List Binder) (kind : LocalKind) (us : List Under) (xs ys : List Value) (names after : List Entry) (a : Assignment) (c : Core) : Type 0 where
    state : Core
    later : Assignment
    more : List Value
    runs : declare_each span bs (is_var kind) us xs c ≡ Good state
    takes : parts_taken span (taken bs) ys ≡ Good more
    erased_is : erased state ≡ with_next more (erased c)
    same : SameOn names a later
    agrees : Agrees base after later state
    handled_is : around_of state ≡ around_of c

  part_formed : (kind : LocalKind) (wr : Option Ty) (T : Ty) → WellFormed d T → WellFormed d (part_declared kind wr T)
  part_formed kind None T f = unannotated_formed tests right ds base subs loose funcs w kind T f
  part_formed kind (Some U) T f = f

  each_bound : (span : Span) (bs : List Binder) (kind : LocalKind) (wr : Option Ty) (ts : Parts) (us : List Under) (xs ys : List Value) (start : List Entry) (before : List (List ℕ)) (names after : List Entry) (a : Assignment) (c : Core) → bound_parts bs kind wr ts names ≡ Some after →
      binders_free bs before start ≡ Ok tt → Fresh start before names → NamesOver (Below names) names → AllOver (Below names) ts → ShapedParts d ts → AllPlaced a kind wr us xs ys ts → Agrees base names a c → Bindings span bs kind us xs ys names after a c
  each_bound span [] kind wr no_part [] [] [] start before names after a c k f fresh g o s p ag =
      record { state = c; later = a; more = []; runs = refl; takes = refl; erased_is = unmoved tests right ds base subs loose funcs w c; same = λ n l. refl; agrees = subst (λ ns. Agrees base ns a c) (some_same names after k) ag; handled_is = refl }
  each_bound span [] kind wr (part T ts) us xs ys start before names after a c k f fresh g o s p ag = none_some after k
  each_bound span (Bound i ∷ bs) kind wr no_part us xs ys start before names after a c k f fresh g o s p ag = none_some after k
  each_bound span (Unbound at ∷ bs) kind wr no_part us xs ys start before names after a c k f fresh g o s p ag = none_some after k
  each_bound span (Unbound at ∷ bs) kind wr (part T ts) (u ∷ us) (x ∷ xs) (y ∷ ys) start before names after a c k f fresh g o s p ag =
      let r = each_bound span bs kind wr ts us xs ys start before names after a c k f fresh g o.1 s.2 p.3 ag in
      record { state = r.state; later = r.later; more = r.more; runs = r.runs; takes = r.takes; erased_is = r.erased_is; same = r.same; agrees = r.agrees; handled_is = r.handled_is }
  each_bound span (Bound i ∷ bs) kind wr (part T ts) (u ∷ us) (x ∷ xs) (y ∷ ys) start before names after a c k f fresh g o s p ag =
      let D = part_declared kind wr T in
      let counted = itself D names in
      let entry : Entry = rules.declared kind i.text D counted in
      let b = then_ok (need (is_free i.text start && not (has_name i.text before)) T01 i.span) (binders_free bs (before ++ i.text ∷ []) start) tt f in
      let free = tested start names before i fresh b.first in
      let over = part_type_over tests (Below names) kind wr T o.0 in
      let n = next_by kind names a D y (is_integer D) refl p.2 in
      let c1 = declared i.text y u (is_var kind) c in
      let after1 = new_name tests right ds base subs loose funcs w kind names a i.text D counted n.later u y c p.0 p.2 n.same over (part_formed kind wr T (record { shaped = s.1; has_name = s.0 })) free ag g.each n.counts in
      let g1 = one_added tests kind names i.text D counted g over (λ z q. if_itself (Below (names ++ fixed i.text D counted ∷ [])) (is_integer D) (next_atom names) z (atoms_snoc names (fixed i.text D counted) refl) q) in
      let o1 = all_more (Below names) (Below (names ++ entry ∷ [])) (below_more names (entry ∷ [])) ts o.1 in
      let r = each_bound span bs kind wr ts us xs ys start (before ++ i.text ∷ []) (names ++ entry ∷ []) after n.later c1 k b.then (fresh_next kind i D counted fresh) g1 o1 s.2 (all_moved names a n.later kind wr us xs ys ts n.same o.1 p.3) after1 in
      record {
        state = r.state;
        later = r.later;
        more = y ∷ r.more;
        runs = ap (λ z. (there span z >>= λ v. Good (declared i.text v u (is_var kind) c)) >>= λ c2. declare_each span bs (is_var kind) us xs c2) p.1 ∙ r.runs;
        takes = ap (λ z. z >>= λ zs. Good (y ∷ zs)) r.takes;
        erased_is = r.erased_is ∙ ap (with_next r.more) (erased_declared i.text y u (is_var kind) c) ∙ ap (λ l. record (erased c) { frame = l }) (append_assoc (values_of c.frame) (y ∷ []) r.more);
        same = same_on_both names a n.later r.later n.same (same_on_fewer names (names ++ entry ∷ []) n.later r.later (record { more = entry ∷ []; is = refl }) r.same);
        agrees = r.agrees;
        handled_is = r.handled_is;
      }
    where
      fresh_next : (kind : LocalKind) (i : Ident) (D : Ty) (o : Option Counted) → Fresh start before names → Fresh start (before ++ i.text ∷ []) (names ++ rules.declared kind i.text D o ∷ [])
      fresh_next local.Let i D o f = fresh_more start before names (rules.declared local.Let i.text D o) f
      fresh_next local.Var i D o f = fresh_more start before names (rules.declared local.Var i.text D o) f
  each_bound span [] kind wr no_part [] [] (y ∷ ys) start before names after a c k f fresh g o s p ag = absurd p
  each_bound span [] kind wr no_part [] (x ∷ xs) ys start before names after a c k f fresh g o s p ag = absurd p
  each_bound span [] kind wr no_part (u ∷ us) [] ys start before names after a c k f fresh g o s p ag = absurd p
  each_bound span [] kind wr no_part (u ∷ us) (x ∷ xs) [] start before names after a c k f fresh g o s p ag = absurd p
  each_bound span [] kind wr no_part (u ∷ us) (x ∷ xs) (y ∷ ys) start before names after a c k f fresh g o s p ag = absurd p
  each_bound span (Bound i ∷ bs) kind wr (part T ts) [] [] [] start before names after a c k f fresh g o s p ag = absurd p
  each_bound span (Bound i ∷ bs) kind wr (part T ts) [] [] (y ∷ ys) start before names after a c k f fresh g o s p ag = absurd p
  each_bound span (Bound i ∷ bs) kind wr (part T ts) [] (x ∷ xs) ys start before names after a c k f fresh g o s p ag = absurd p
  each_bound span (Bound i ∷ bs) kind wr (part T ts) (u ∷ us) [] ys start before names after a c k f fresh g o s p ag = absurd p
  each_bound span (Bound i ∷ bs) kind wr (part T ts) (u ∷ us) (x ∷ xs) [] start before names after a c k f fresh g o s p ag = absurd p
  each_bound span (Unbound at ∷ bs) kind wr (part T ts) [] [] [] start before names after a c k f fresh g o s p ag = absurd p
  each_bound span (Unbound at ∷ bs) kind wr (part T ts) [] [] (y ∷ ys) start before names after a c k f fresh g o s p ag = absurd p
  each_bound span (Unbound at ∷ bs) kind wr (part T ts) [] (x ∷ xs) ys start before names after a c k f fresh g o s p ag = absurd p
  each_bound span (Unbound at ∷ bs) kind wr (part T ts) (u ∷ us) [] ys start before names after a c k f fresh g o s p ag = absurd p
  each_bound span (Unbound at ∷ bs) kind wr (part T ts) (u ∷ us) (x ∷ xs) [] start before names after a c k f fresh g o s p ag = absurd p

  -- ---- all together

  record InParts (bs : List Binder) (kind : LocalKind) (wr : Option Ty) (o : Option Parts) (names after : List Entry) : Type 0 where
    inner : Parts
    is : o ≡ Some inner
    bound : bound_parts bs kind wr inner names ≡ Some after

  in_the_parts : (bs : List Binder) (kind : LocalKind) (wr : Option Ty) (o : Option Parts) (names after : List Entry) → bound_in bs kind wr o names ≡ Some after → InParts bs kind wr o names after
  in_the_parts bs kind wr None names after h = none_some after h
  in_the_parts bs kind wr (Some ts) names after h = record { inner = ts; is = refl; bound = h }

  let_is : (o : Option Ty) (S : Ty) → type_declared local.Let o S ≡ written_or o S
  let_is None S = refl
  let_is (Some T) S = refl

  pub several_acted : (j : StmtClaim) (span : Span) (kind : LocalKind) (at : Span) (bs : List Binder) (t : Option TypeExpr) (e : Expr) (c : Core) → bind_rule tests span kind (Several at bs) t e j.body.scope ≡ Ok j.done → Held tests right ds base subs loose funcs w j c → Acted tests right ds base subs loose funcs w j true (st.Local span kind (Several at bs) t e) c
  several_acted j span kind at bs t e c h held =
      let G = j.body.scope in
      let m = bind_ok (initialised tests t e G) _ j.done h in
      let wr = m.value.written in
      let S = m.value.value in
      let f = then_ok (binders_free bs [] G.names) _ j.done m.then in
      let o = bound_in bs kind wr (tuple_parts (written_or wr S.ty)) G.names in
      let v = bind_ok (found_or o T05 span) _ j.done f.then in
      let b = in_the_parts bs kind wr (tuple_parts (written_or wr S.ty)) G.names v.value (found_ok o T05 span v.value v.first) in
      let D = type_declared local.Let wr S.ty in
      let q : tuple_parts D ≡ Some b.inner = ap tuple_parts (let_is wr S.ty) ∙ b.is in
      let s = init_says tests right ds base subs loose funcs w j c local.Let t e m.value m.first held in
      let act = tree.Declare span wr (tree.in_parts (taken bs)) S.tree in
      let env = environment_of tests right ds base subs loose funcs w in
      acted tests right ds base subs loose funcs w j true (st.Local span kind (Several at bs) t e) c (done v.value S.effect act) (ended_is G.class span true S.effect v.value act j.done v.then) refl
      (λ z. operand tests right base subs loose (here tests right ds base subs loose funcs w j) (OutAct tests right ds base subs loose funcs w j true) e S c (λ x c1. lift (bound_to env span (Several at bs) (is_var kind) t x c1) c1 done_normal) (λ x c1. lift (bare.declared span wr (tree.in_parts (taken bs)) x c1) c1 done_normal) s.typed_is held.at
      (λ x c1 i a.
      let p = s.placed x c1 i a in
      let k = parts_placed j.present kind wr D b.inner p.under x q p.way in
      let r = each_bound span bs kind wr b.inner k.unders k.values k.seen G.names [] G.names v.value j.present c1 b.bound f.first (fresh_start G.names) held.scope_good.over (tuple_over tests (Below G.names) D b.inner s.over q) (tuple_shaped d D b.inner q s.formed.shaped) k.all a.agrees in
      let runs : bound_to env span (Several at bs) (is_var kind) t x c1 ≡ Good r.state =
      ap (λ y. unders_or span y >>= λ us. parts span x >>= λ xs. declare_each span bs (is_var kind) us xs c1) p.is
      ∙ ap (λ y. there span y >>= λ us. parts span x >>= λ xs. declare_each span bs (is_var kind) us xs c1) k.are
      ∙ ap (λ y. y >>= λ xs. declare_each span bs (is_var kind) k.unders xs c1) (k.values_are span) ∙ r.runs in
      let takes : bare.declared span wr (tree.in_parts (taken bs)) x (erased c1) ≡ Good (erased r.state) =
      ap (λ y. (y >>= λ xs. parts_taken span (taken bs) xs) >>= λ xs. Good (with_next xs (erased c1))) (k.seen_are span) ∙ ap (λ y. y >>= λ xs. Good (with_next xs (erased c1))) r.takes ∙ ap Good (sym r.erased_is) in
      subst (λ y. ActSame tests right ds base subs loose funcs w j true (lift y c1 done_normal) (lift (bare.declared span wr (tree.in_parts (taken bs)) x (erased c1)) (erased c1) done_normal)) (sym runs)
      (subst (λ y. ActSame tests right ds base subs loose funcs w j true (done_normal r.state) (lift y (erased c1) done_normal)) (sym takes)
      (refl, (refl, record { reached = refl; later = r.later; same = r.same; agrees = subst (λ ns. Agrees base ns r.later r.state) (ap (λ (y : Done). y.names) z) r.agrees; around_is = r.handled_is ∙ a.around_is })))))
