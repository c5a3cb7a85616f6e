-- Declarations in bodies with their typed trees: each new name has a value of its type, and where it counts in widths, its integer.
use Rattle.std.proofs.Common.{◌≡◌, ℕ, ℤ, Bool, true, false, cond, List, [], ◌∷◌, ◌++◌, Option, Some, None, Result, Ok, Err, refl, sym, ap, ◌∙◌, subst}
use Rattle.asl_syn.specs.declared.token.Span.{Span}
use Rattle.asl_syn.specs.declared.code.Fault.{Fault}
use Rattle.asl_syn.specs.declared.code.StaticCode.TheVariants.{T01}
use Rattle.asl_syn.specs.declared.tree.Expr.{Expr}
use Rattle.asl_syn.specs.declared.tree.Ident.{Ident}
use Rattle.asl_syn.specs.declared.tree.TypeExpr.{TypeExpr}
use Rattle.asl_syn.specs.declared.tree.LocalKind.{LocalKind}
use Rattle.asl_syn.specs.declared.tree.LocalKind.TheVariants as local
use Rattle.asl_syn.specs.declared.tree.Binder.TheVariants.{Bound, Unbound}
use Rattle.asl_syn.specs.declared.tree.Bind.TheVariants.{Single}
use Rattle.asl_syn.specs.declared.tree.Alternative.TheOpen as st
use Rattle.asl_syn.specs.declared.tree.Decl.{Decl}
use Rattle.asl_rules.specs.Faults.{need}
use Rattle.asl_rules.specs.declarations.Programs.{Environment}
use Rattle.asl_rules.specs.Tests.{Tests, IsRight}
use Rattle.asl_rules.specs.types.Types.{Ty, is_integer, misfit}
use Rattle.asl_rules.specs.types.Closed.{Assignment, type_with, width_at}
use Rattle.asl_rules.specs.declarations.Scopes.{Entry, Signature, Counted, atom_at, next_atom, is_free}
use Rattle.asl_rules.specs.private.WellFormed.{WellFormed, Built}
use Rattle.asl_rules.specs.runs.Trees as tree
use Rattle.asl_rules.specs.runs.Trees.{TreeFunc}
use Rattle.asl_rules.specs.expressions.Typing.{Typed, Width}
use Rattle.asl_rules.specs.expressions.Exprs.{found, typed, written}
use Rattle.asl_rules.specs.statements.Acting.{Done, done, operand_of, fits}
use Rattle.asl_rules.specs.statements.Locals as rules
use Rattle.asl_rules.specs.statements.Locals.{counted_as, initialised_as, is_var, unannotated, Initialised, initialised_with, initialised, type_declared, bind_rule}
use Rattle.asl_rules.specs.values.Values.{Value, int, has, Exit}
use Rattle.asl_rules.specs.types.Views.{viewed}
use Rattle.asl_rules.specs.runs.States.{Under, of_type, of_value, Core, kept}
use Rattle.asl_rules.specs.private.Belonging.{InType}
use Rattle.asl_rules.specs.private.Agreement.{types_in, IsUnder, CountsAs, Agrees, SameOn}
use Rattle.asl_rules.specs.runs.Plans.{Eval, Good, lift}
use Rattle.asl_rules.specs.runs.Pures.{◌>>=◌, found_type, there}
use Rattle.asl_rules.specs.private.ByPlace.{seen_where}
use Rattle.asl_rules.specs.runs.StatementForms.{done_normal}
use Rattle.asl_rules.specs.runs.Evaluation.{Does, declared, stored_under, type_under, bound_to}
use Rattle.asl_rules.specs.private.TypedMeaning as bare
use Rattle.asl_rules.specs.private.TypedMeaning.{BareCore, Runs, with_next}
use Rattle.asl_rules.specs.private.Erasure.{erased, values_of}
use Rattle.asl_rules.proofs.basics.Inversions.{ok_ok, bind_ok, then_ok, need_ok, fitted_ok}
use Rattle.asl_rules.proofs.basics.Tests.{no}
use Rattle.asl_rules.proofs.values.Keeping.{satisfying_keeps}
use Rattle.asl_rules.proofs.values.Viewing.{viewed_has, viewed_twice}
use Rattle.asl_rules.proofs.values.Bare.{viewed_built}
use Rattle.asl_rules.proofs.values.Constructs.{seen_is}
use Rattle.asl_rules.proofs.expressions.OperatorForms.{is_int}
use Rattle.asl_rules.proofs.scopes.Naming.{WellNamed, well_declared, scope_good}
use Rattle.asl_laws.proofs.scopes.WellTyped.{FormedSubs, typed_formed, written_formed}
use Rattle.asl_laws.proofs.widths.WholeWidths.{atom_counts}
use Rattle.asl_laws.proofs.widths.TypesOver.{Over}
use Rattle.asl_laws.proofs.scopes.OverScope.{EachOver}
use Rattle.asl_laws.proofs.scopes.ScopesOver.{Below, type_same_on}
use Rattle.asl_laws.proofs.scopes.BodiesOver.{initialised_over, declared_type_over}
use Rattle.asl_laws.proofs.scopes.ScopesKept.{GoodScope}
use Rattle.asl_laws.proofs.values.Widening.{widened_formed, widened_in}
use Rattle.asl_laws.proofs.scopes.Moved.{in_type_moved, under_moved, agrees_moved, extended, extended_at, extended_same, counted_fixed}
use Rattle.asl_laws.proofs.scopes.Agreeing.{declared_agrees, erased_declared}
use Rattle.asl_laws.proofs.values.PresentTypes.{type_present}
use Rattle.asl_laws.proofs.soundness.SoundnessStates.{kept_as_is}
use Rattle.asl_laws.proofs.expressions.Claims.{Here, of_width, StmtClaim, At}
use Rattle.asl_laws.proofs.expressions.TreePlans.{operand, operand_also, append_nil}
use Rattle.asl_laws.proofs.statements.StmtForms.{here, Held, OutAct, ActSame, Acted, acted, operand_typed, ended_is, ends_here}
use Rattle.asl_laws.proofs.statements.ForForms.{viewed_int}
use Rattle.asl_laws.proofs.expressions.ExprForms.{env}

module _ (tests : Tests) (right : IsRight tests) (ds : List Decl) (base : List Entry) (subs : List Signature) (loose : Bool) (funcs : List TreeFunc) (w : WellNamed base) where
  abbrev HeldAt : StmtClaim → Core → Type 0
  HeldAt j c = Held tests right ds base subs loose funcs w j c

  abbrev Both : StmtClaim → Does Exit → Runs Exit → Type 0
  Both j p q = ActSame tests right ds base subs loose funcs w j true p q

  abbrev spot : StmtClaim → Here
  spot j = here tests right ds base subs loose funcs w j

  abbrev pub environment_of : Environment
  environment_of = env tests right ds base subs loose funcs w

  -- ---- where a value is stored

  -- how it is stored: under the type that is written, to which it belongs but for its bitfields, or under itself
  abbrev pub Way : Assignment → Option Ty → Under → Value → Ty → Type 0
  Way av (Some T) u x D = (T ≡ D) × (u ≡ of_type (type_with T av)) × (has x (type_with T av) ≡ true) × Built (types_in base) x
  Way av None u x D = (u ≡ of_value x) × InType (types_in base) av x D

  -- the place of a value that is declared: what it is stored under, and the value as the place and the typed tree have it
  pub record Placed (av : Assignment) (t : Option TypeExpr) (o : Option Ty) (D : Ty) (c : Core) (x : Value) : Type 0 where
    pub under : Under
    pub value : Value
    pub is : stored_under environment_of c t x ≡ Some under
    pub is_under : IsUnder (types_in base) av under D
    pub keeps : kept under x ≡ Some value
    pub seen : seen_where o x ≡ value
    pub belongs : InType (types_in base) av value D
    pub way : Way av o under x D

  pub unannotated_in : (av : Assignment) (kind : LocalKind) (S : Ty) (x : Value) → InType (types_in base) av x S → InType (types_in base) av x (unannotated kind S)
  unannotated_in av local.Let S x i = i
  unannotated_in av local.Var S x i = widened_in (types_in base) av S x i

  pub unannotated_formed : (kind : LocalKind) (S : Ty) → WellFormed (types_in base) S → WellFormed (types_in base) (unannotated kind S)
  unannotated_formed local.Let S f = f
  unannotated_formed local.Var S f = widened_formed (types_in base) S f

  placed_untyped : (av : Assignment) (kind : LocalKind) (S : Ty) (c : Core) (x : Value) → InType (types_in base) av x S → Placed av None None (unannotated kind S) c x
  placed_untyped av kind S c x i = record { under = of_value x; value = x; is = refl; is_under = unannotated_in av kind S x i; keeps = kept_as_is (types_in base) av (of_value x) S x i i; seen = refl; belongs = unannotated_in av kind S x i; way = (refl, unannotated_in av kind S x i) }

  placed_typed : (av : Assignment) (t : TypeExpr) (T : Ty) (c : Core) (x : Value) → stored_under environment_of c (Some t) x ≡ Some (of_type (type_with T av)) → has x (type_with T av) ≡ true → Built (types_in base) x → Placed av (Some t) (Some T) T c x
  placed_typed av t T c x e h b =
      let C = type_with T av in
      record { under = of_type C; value = viewed C x; is = e; is_under = refl; keeps = ap (λ z. cond z (Some (viewed C x)) None) h; seen = seen_is av T x; belongs = (viewed_has C x h, viewed_built (types_in base) C x b, viewed_twice C x); way = (refl, refl, h, b) }

  -- what an initialiser says
  pub record Says (j : StmtClaim) (kind : LocalKind) (t : Option TypeExpr) (e : Expr) (d : Initialised) : Type 0 where
    pub typed_is : typed tests e j.body.scope ≡ Ok d.value
    pub formed : WellFormed (types_in base) (type_declared kind d.written d.value.ty)
    pub over : Over (Below j.body.scope.names) (type_declared kind d.written d.value.ty)
    pub placed : (x : Value) (c1 : Core) → InType (types_in base) j.present x d.value.ty → At tests base subs loose (spot j) c1 → Placed j.present t d.written (type_declared kind d.written d.value.ty) c1 x

  type_of_init : (j : StmtClaim) (c : Core) (e : Expr) (S : Typed) → HeldAt j c → typed tests e j.body.scope ≡ Ok S → WellFormed (types_in base) S.ty
  type_of_init j c e S held h =
      typed_formed tests right (types_in base) (well_declared base w) e j.body.scope S (scope_good j.present base j.body.scope.names c w held.at.agrees) (subst (FormedSubs tests right (types_in base) (well_declared base w)) (sym held.at.subs_are) held.subs_formed) h

  init_over : (j : StmtClaim) (c : Core) (kind : LocalKind) (t : Option TypeExpr) (e : Expr) (d : Initialised) → initialised tests t e j.body.scope ≡ Ok d → HeldAt j c → Over (Below j.body.scope.names) (type_declared kind d.written d.value.ty)
  init_over j c kind t e d h held =
      let k = initialised_over tests (Below j.body.scope.names) t e j.body.scope d held.scope_good.over held.scope_good.subs h in
      declared_type_over tests (Below j.body.scope.names) kind d.written d.value.ty k.0 k.1

  pub init_says : (j : StmtClaim) (c : Core) (kind : LocalKind) (t : Option TypeExpr) (e : Expr) (d : Initialised) → initialised tests t e j.body.scope ≡ Ok d → HeldAt j c → Says j kind t e d
  init_says j c kind None e d h held =
      let o = bind_ok (operand_of tests e j.body.scope) _ d h in
      let S = o.value.typed in
      let g = operand_typed tests e j.body.scope o.value o.first in
      let f = type_of_init j c e S held g in
      subst (λ z. Over (Below j.body.scope.names) (type_declared kind z.written z.value.ty) → Says j kind None e z) (ok_ok (initialised_with None S) d o.then)
      (λ v. record { typed_is = g; formed = unannotated_formed kind S.ty f; over = v; placed = λ x c1 i a. placed_untyped j.present kind S.ty c1 x i }) (init_over j c kind None e d h held)
  init_says j c kind (Some t) e d h held =
      let W = bind_ok (written tests t false j.body.scope) _ d h in
      let o = bind_ok (operand_of tests e j.body.scope) _ d W.then in
      let f = then_ok (fits tests W.value.ty o.value) _ d o.then in
      let S = o.value.typed in
      let T = W.value.ty in
      let good = scope_good j.present base j.body.scope.names c w held.at.agrees in
      let g = operand_typed tests e j.body.scope o.value o.first in
      let wf = written_formed tests right (types_in base) (well_declared base w) t false j.body.scope W.value good W.first in
      let m : misfit tests S.ty T ≡ None = fitted_ok (misfit tests S.ty T) o.value.span tt f.first in
      let fixed_counts = counted_fixed (Below j.body.scope.names) j.body.scope.names held.scope_good.over.each in
      subst (λ z. Over (Below j.body.scope.names) (type_declared kind z.written z.value.ty) → Says j kind (Some t) e z) (ok_ok (initialised_with (Some T) S) d f.then)
      (λ v. record {
        typed_is = g;
        formed = wf;
        over = v;
        placed = λ x c1 i a. placed_typed j.present t T c1 x (ap type_under (type_present tests right ds base subs loose funcs w j.body.scope j.present c1 t false W.value fixed_counts a.agrees W.first))
            (satisfying_keeps j.present tests right (types_in base) (well_declared base w) S.ty T x (type_of_init j c e S held g) wf i.1 m i.0) i.1;
      }) (init_over j c kind (Some t) e d h held)

  -- ---- one name more

  -- what the value of a `let` counts as
  abbrev pub Counts : LocalKind → Assignment → Option Counted → Value → Type 0
  Counts local.Let a o x = CountsAs a o x
  Counts local.Var a o x = Unit {0}

  pub new_name : (kind : LocalKind) (names : List Entry) (a : Assignment) (name : List ℕ) (D : Ty) (o : Option Counted) (later : Assignment) (u : Under) (y : Value) (c : Core) → IsUnder (types_in base) a u D → InType (types_in base) a y D → SameOn names a later →
      Over (Below names) D → WellFormed (types_in base) D → is_free name names ≡ true → Agrees base names a c → EachOver (Below names) names → Counts kind later o y → Agrees base (names ++ rules.declared kind name D o ∷ []) later (declared name y u (is_var kind) c)
  new_name local.Let names av name D o later u y c v i s over formed free a each k =
      let e = type_same_on names av later D s over in
      declared_agrees base names later c (rules.declared local.Let name D o) y u false (agrees_moved base names av later c each s a) free (refl, refl, λ m. no m)
      (record { name_is = refl; under_is = under_moved (types_in base) av later u D e v; mutable_is = refl; well_formed = formed; belongs = in_type_moved (types_in base) av later D y e i; known = tt; counts = k })
  new_name local.Var names av name D o later u y c v i s over formed free a each k =
      let e = type_same_on names av later D s over in
      declared_agrees base names later c (rules.declared local.Var name D o) y u true (agrees_moved base names av later c each s a) free (refl, refl, λ m. refl)
      (record { name_is = refl; under_is = under_moved (types_in base) av later u D e v; mutable_is = refl; well_formed = formed; belongs = in_type_moved (types_in base) av later D y e i; known = tt; counts = tt })

  -- ---- one name

  abbrev stores : Span → Ident → LocalKind → Option TypeExpr → Value → Core → Does Exit
  stores span i kind t x c = lift (bound_to environment_of span (Single (Bound i)) (is_var kind) t x c) c done_normal

  abbrev stores_bare : Span → Option Ty → Value → BareCore → Runs Exit
  stores_bare span o x c = lift (bare.declared span o tree.whole x c) c done_normal

  stored_same : (j : StmtClaim) (span : Span) (i : Ident) (kind : LocalKind) (t : Option TypeExpr) (wr : Option Ty) (D : Ty) (o : Option Counted) (later : Assignment) (x : Value) (c : Core) → (j.body.scope.names ++ rules.declared kind i.text D o ∷ []) ≡ j.done.names → (p : Placed j.present t wr D c x) → SameOn j.body.scope.names j.present later →
      Over (Below j.body.scope.names) D → WellFormed (types_in base) D → is_free i.text j.body.scope.names ≡ true → At tests base subs loose (spot j) c → GoodScope tests j.body.scope → Counts kind later o p.value → Both j (stores span i kind t x c) (stores_bare span wr x (erased c))
  stored_same j span i kind t wr D o later x c q p s over formed free a good k =
      let c2 = declared i.text p.value p.under (is_var kind) c in
      let e : bound_to environment_of span (Single (Bound i)) (is_var kind) t x c ≡ Good c2 =
      ap (λ z. found_type span z >>= λ u. there span (kept u x) >>= λ y. Good (declared i.text y u (is_var kind) c)) p.is ∙ ap (λ z. there span z >>= λ y. Good (declared i.text y p.under (is_var kind) c)) p.keeps in
      let f : bare.declared span wr tree.whole x (erased c) ≡ Good (erased c2) = ap (λ z. Good (with_next (z ∷ []) (erased c))) p.seen ∙ ap Good (sym (erased_declared i.text p.value p.under (is_var kind) c)) in
      subst (λ r. Both j (lift r c done_normal) (stores_bare span wr x (erased c))) (sym e)
      (subst (λ r. Both j (done_normal c2) (lift r (erased c) done_normal)) (sym f)
      (refl, (refl, record { reached = refl; later = later; same = s; agrees = subst (λ ns. Agrees base ns later c2) q (new_name kind j.body.scope.names j.present i.text D o later p.under p.value c p.is_under p.belongs s over formed free a.agrees good.over.each k); around_is = a.around_is })))

  int_seen : (av : Assignment) (o : Option Ty) (z : ℤ) → seen_where o (int z) ≡ int z
  int_seen av None z = refl
  int_seen av (Some T) z = seen_is av T (int z) ∙ viewed_int (type_with T av) z

  abbrev Whole : StmtClaim → Span → Ident → LocalKind → Option TypeExpr → Expr → Initialised → Core → Type 0
  Whole j span i kind t e d c = Both j (Eval e c (λ x c1. stores span i kind t x c1)) (Eval d.value.tree (erased c) (λ x c1. stores_bare span d.written x c1))

  -- where what it counts as is known without its value
  one_plain : (j : StmtClaim) (span : Span) (i : Ident) (kind : LocalKind) (t : Option TypeExpr) (e : Expr) (d : Initialised) (o : Option Counted) (c : Core) → (j.body.scope.names ++ rules.declared kind i.text (type_declared kind d.written d.value.ty) o ∷ []) ≡ j.done.names → Says j kind t e d → is_free i.text j.body.scope.names ≡ true → HeldAt j c →
      ((x : Value) → Counts kind j.present o x) → Whole j span i kind t e d c
  one_plain j span i kind t e d o c q s free held k =
      operand tests right base subs loose (spot j) (OutAct tests right ds base subs loose funcs w j true) e d.value c (λ x c1. stores span i kind t x c1) (λ x c1. stores_bare span d.written x c1) s.typed_is held.at
      (λ x c1 v a. let p = s.placed x c1 v a in stored_same j span i kind t d.written (type_declared kind d.written d.value.ty) o j.present x c1 q p (λ n l. refl) s.over s.formed free a held.scope_good (k p.value))

  one_counted : (j : StmtClaim) (span : Span) (i : Ident) (t : Option TypeExpr) (e : Expr) (d : Initialised) (r : Result Width Fault) (b : Bool) (c : Core) → (j.body.scope.names ++ rules.declared local.Let i.text (type_declared local.Let d.written d.value.ty) (Some (counted_as r b (next_atom j.body.scope.names))) ∷ []) ≡ j.done.names →
      (found tests e).width j.body.scope ≡ r → is_integer (type_declared local.Let d.written d.value.ty) ≡ true → Says j local.Let t e d → is_free i.text j.body.scope.names ≡ true → HeldAt j c → Whole j span i local.Let t e d c
  one_counted j span i t e d (Ok W) b c q g n s free held =
      operand_also tests right base subs loose (spot j) (OutAct tests right ds base subs loose funcs w j true) e d.value (of_width W) c (λ x c1. stores span i local.Let t x c1) (λ x c1. stores_bare span d.written x c1) s.typed_is g held.at
      (λ x c1 v l a. let p = s.placed x c1 v a in
      stored_same j span i local.Let t d.written (type_declared local.Let d.written d.value.ty) (Some (record { poly = W.poly; has_atom = b })) j.present x c1 q p (λ m k. refl) s.over s.formed free a held.scope_good
      (sym p.seen ∙ ap (seen_where d.written) l.0 ∙ int_seen j.present d.written (width_at W.poly j.present), l.1, l.2))
  one_counted j span i t e d (Err f) b c q g n s free held =
      let D = type_declared local.Let d.written d.value.ty in
      let m = next_atom j.body.scope.names in
      operand tests right base subs loose (spot j) (OutAct tests right ds base subs loose funcs w j true) e d.value c (λ x c1. stores span i local.Let t x c1) (λ x c1. stores_bare span d.written x c1) s.typed_is held.at
      (λ x c1 v a. let p = s.placed x c1 v a in
      let z = is_int (types_in base) j.present tests right D p.value n p.belongs in
      stored_same j span i local.Let t d.written D (Some (atom_at m)) (extended m z.0 j.present) x c1 q p (extended_same j.body.scope.names z.0 j.present) s.over s.formed free a held.scope_good
      (atom_counts (extended m z.0 j.present) m p.value z.0 z.1 (extended_at m z.0 j.present)))

  one_let : (j : StmtClaim) (span : Span) (i : Ident) (t : Option TypeExpr) (e : Expr) (d : Initialised) (x : Bool) (c : Core) → is_integer (type_declared local.Let d.written d.value.ty) ≡ x →
      (j.body.scope.names ++ rules.declared local.Let i.text (type_declared local.Let d.written d.value.ty) (cond x (Some (counted_as ((found tests e).width j.body.scope) ((found tests e).has_atom j.body.scope) (next_atom j.body.scope.names))) None) ∷ []) ≡ j.done.names →
      Says j local.Let t e d → is_free i.text j.body.scope.names ≡ true → HeldAt j c → Whole j span i local.Let t e d c
  one_let j span i t e d true c n q s free held = one_counted j span i t e d ((found tests e).width j.body.scope) ((found tests e).has_atom j.body.scope) c q refl n s free held
  one_let j span i t e d false c n q s free held = one_plain j span i local.Let t e d None c q s free held (λ x. tt)

  one_same : (kind : LocalKind) (j : StmtClaim) (span : Span) (i : Ident) (t : Option TypeExpr) (e : Expr) (d : Initialised) (c : Core) →
      (j.body.scope.names ++ rules.declared kind i.text (type_declared kind d.written d.value.ty) (initialised_as tests (type_declared kind d.written d.value.ty) e j.body.scope) ∷ []) ≡ j.done.names → Says j kind t e d → is_free i.text j.body.scope.names ≡ true → HeldAt j c → Whole j span i kind t e d c
  one_same local.Let j span i t e d c q s free held = one_let j span i t e d (is_integer (type_declared local.Let d.written d.value.ty)) c refl q s free held
  one_same local.Var j span i t e d c q s free held = one_plain j span i local.Var t e d (initialised_as tests (type_declared local.Var d.written d.value.ty) e j.body.scope) c q s free held (λ x. tt)

  -- ---- one name, or none

  -- no value more in the frame
  pub unmoved : (c : Core) → erased c ≡ with_next [] (erased c)
  unmoved c = ap (λ xs. record (erased c) { frame = xs }) (sym (append_nil (values_of c.frame)))

  pub single_acted : (j : StmtClaim) (span : Span) (kind : LocalKind) (i : Ident) (t : Option TypeExpr) (e : Expr) (c : Core) → bind_rule tests span kind (Single (Bound i)) t e j.body.scope ≡ Ok j.done → HeldAt j c → Acted tests right ds base subs loose funcs w j true (st.Local span kind (Single (Bound i)) t e) c
  single_acted j span kind i t e c h held =
      let G = j.body.scope in
      let d = bind_ok (initialised tests t e G) _ j.done h in
      let f = then_ok (need (is_free i.text G.names) T01 i.span) _ j.done d.then in
      let D = type_declared kind d.value.written d.value.value.ty in
      let names = G.names ++ rules.declared kind i.text D (initialised_as tests D e G) ∷ [] in
      let act = tree.Declare span d.value.written tree.whole d.value.value.tree in
      let k = d.value.value.effect in
      acted tests right ds base subs loose funcs w j true (st.Local span kind (Single (Bound i)) t e) c (done names k act) (ended_is G.class span true k names act j.done f.then) refl
      (λ z. one_same kind j span i t e d.value c (ap (λ (y : Done). y.names) z) (init_says j c kind t e d.value d.first held) (need_ok (is_free i.text G.names) T01 i.span tt f.first) held)

  pub none_acted : (j : StmtClaim) (span : Span) (kind : LocalKind) (at : Span) (t : Option TypeExpr) (e : Expr) (c : Core) → bind_rule tests span kind (Single (Unbound at)) t e j.body.scope ≡ Ok j.done → HeldAt j c → Acted tests right ds base subs loose funcs w j true (st.Local span kind (Single (Unbound at)) t e) c
  none_acted j span kind at t e c h held =
      let G = j.body.scope in
      let d = bind_ok (initialised tests t e G) _ j.done h in
      let act = tree.Declare span d.value.written tree.nothing d.value.value.tree in
      let k = d.value.value.effect in
      let s = init_says j c kind t e d.value d.first held in
      acted tests right ds base subs loose funcs w j true (st.Local span kind (Single (Unbound at)) t e) c (done G.names k act) (ended_is G.class span true k G.names act j.done d.then) refl
      (λ z. operand tests right base subs loose (spot j) (OutAct tests right ds base subs loose funcs w j true) e d.value.value c (λ x c1. done_normal c1) (λ x c1. lift (bare.declared span d.value.written tree.nothing x c1) c1 done_normal) s.typed_is held.at
      (λ x c1 v a. (unmoved c1, (refl, ends_here tests right ds base subs loose funcs w j c1 (done G.names k act) z refl a))))
