-- `as` with its typed tree: both do the same, and give a value of the type.
use Rattle.std.proofs.Common.{◌≡◌, cond, Bool, true, false, List, [], Some, Ok, refl, sym, ap, ◌∙◌, subst}
use Rattle.asl_syn.specs.declared.token.Span.{Span}
use Rattle.asl_syn.specs.declared.code.StaticCode.TheVariants.{T05}
use Rattle.asl_syn.specs.declared.code.DynCode.TheVariants.{D07}
use Rattle.asl_syn.specs.declared.tree.Expr.{Expr}
use Rattle.asl_syn.specs.declared.tree.TypeExpr.{TypeExpr}
use Rattle.asl_syn.specs.declared.tree.Bitfield.TheOpen as ex
use Rattle.asl_syn.specs.declared.tree.Decl.{Decl}
use Rattle.asl_rules.specs.Faults.{need}
use Rattle.asl_rules.specs.Tests.{Tests, IsRight}
use Rattle.asl_rules.specs.types.Types.{Ty, same_kind, kind, kind_eq}
use Rattle.asl_rules.specs.types.Closed.{Assignment, type_with, kind_at}
use Rattle.asl_rules.specs.declarations.Scopes.{Entry, Signature}
use Rattle.asl_rules.specs.private.WellFormed.{Built, WellFormed}
use Rattle.asl_rules.specs.types.Shaped.{type_parts}
use Rattle.asl_rules.specs.runs.Trees as tree
use Rattle.asl_rules.specs.runs.Trees.{Note, Tree, TreeFunc}
use Rattle.asl_rules.specs.expressions.Typing.{Typed, trees_from}
use Rattle.asl_rules.specs.types.Writing.{as_rule}
use Rattle.asl_rules.specs.expressions.Exprs.{found, typed, found_type, written}
use Rattle.asl_rules.specs.values.Values.{Value, has, kind_of}
use Rattle.asl_rules.specs.types.Views.{viewed}
use Rattle.asl_rules.specs.runs.States.{Core}
use Rattle.asl_rules.specs.private.Belonging.{InType}
use Rattle.asl_rules.specs.private.Agreement.{types_in}
use Rattle.asl_rules.specs.runs.Plans.{Faulted, Stuck, WrongKind, Pure as PureOf, Good, Bad}
use Rattle.asl_rules.specs.runs.Pures.{◌>>=◌, found_type as type_or_stuck}
use Rattle.asl_rules.specs.types.Written.{type_of_sized, in_type, of_kind_of, converted}
use Rattle.asl_rules.specs.runs.ByNames.{types_among}
use Rattle.asl_rules.specs.runs.Forms.{behind_more}
use Rattle.asl_rules.specs.private.Erasure.{erased}
use Rattle.asl_rules.proofs.basics.Inversions.{bind_ok, then_ok, need_ok}
use Rattle.asl_rules.proofs.scopes.Lookups.{same_types}
use Rattle.asl_rules.proofs.scopes.Naming.{WellNamed, scope_good, type_fixed, well_declared}
use Rattle.asl_laws.proofs.scopes.WellTyped.{written_formed}
use Rattle.asl_rules.proofs.values.KindsByNames.{one_kind}
use Rattle.asl_rules.proofs.values.KindOf.{has_kind, kind_same}
use Rattle.asl_rules.proofs.values.Viewing.{viewed_has, viewed_twice}
use Rattle.asl_rules.proofs.values.Bare.{viewed_built}
use Rattle.asl_rules.proofs.expressions.OperatorForms.{Gives}
use Rattle.asl_rules.proofs.basics.Opening.{in_class_is}
use Rattle.asl_laws.proofs.expressions.Claims.{Here, At}
use Rattle.asl_laws.proofs.expressions.TreePlans.{Out, Same, behind_more_same, append_nil, list_from}
use Rattle.asl_laws.proofs.expressions.SizeForms.{type_says}
use Rattle.asl_laws.proofs.expressions.ExprForms.{Formed, formed}

module _ (tests : Tests) (right : IsRight tests) (ds : List Decl) (base : List Entry) (subs : List Signature) (loose : Bool) (funcs : List TreeFunc) (w : WellNamed base) where
  -- a value of the kind of a type: it goes through the type, or D07
  within_gives : (av : Assignment) (b : Bool) (span : Span) (T : Ty) (x : Value) → Built (types_in base) x → has x (type_with T av) ≡ b → Gives (types_in base) av T (cond b (Good (viewed (type_with T av) x)) (Bad (Faulted D07 span)))
  within_gives av true span T x b h = (viewed_has (type_with T av) x h, viewed_built (types_in base) (type_with T av) x b, viewed_twice (type_with T av) x)
  within_gives av false span T x b h = tt

  kind_gives : (av : Assignment) (span : Span) (S T : Ty) (x : Value) → kind_eq (kind S) (kind T) ≡ true → InType (types_in base) av x S → Gives (types_in base) av T (of_kind_of span (type_with T av) x)
  kind_gives av span S T x k i =
      let e : kind_eq (kind_of x) (kind_at (type_with T av)) ≡ true = ap (λ m. kind_eq m (kind_at (type_with T av))) (has_kind av S x i.0) ∙ ap (kind_eq (kind S)) (kind_same T av) ∙ k in
      subst (λ b. Gives (types_in base) av T (cond b (in_type span (type_with T av) x) (Bad (Stuck WrongKind span)))) (sym e) (within_gives av (has x (type_with T av)) span T x i.1 refl)

  pub as_formed : (H : Here) (S : Typed) (span : Span) (e : Expr) (t : TypeExpr) (c : Core) → ((T : Typed) → typed tests e H.scope ≡ Ok T → WellFormed (types_in base) T.ty) → as_rule span (found tests e) (found_type tests t) H.scope ≡ Ok S → At tests base subs loose H c → Formed tests right ds base subs loose funcs w H S (ex.As span e t) c
  as_formed H S span e t c good h a =
      let s = bind_ok (typed tests e H.scope) _ S h in
      let v = bind_ok (written tests t false H.scope) _ S s.then in
      let k = then_ok (need (same_kind s.value.ty v.value.ty) T05 span) _ S v.then in
      let names_good = scope_good H.present base H.scope.names c w a.agrees in
      let to_well = written_formed tests right (types_in base) (well_declared base w) t false H.scope v.value names_good v.first in
      let of_kind = one_kind (types_in base) (well_declared base w) s.value.ty v.value.ty (good s.value s.first).shaped to_well.shaped (need_ok (same_kind s.value.ty v.value.ty) T05 span tt k.first) in
      let q = type_says tests right base subs loose H (λ name T o. type_fixed (types_in base) H.scope.names name names_good T o) (λ name. same_types H.present base H.scope.names c name a.agrees) t false v.value v.first in
      let make : Note → Tree = λ n. tree.As n s.value.tree v.value.shape (trees_from v.value.sizes) in
      let f : Value → List Value → PureOf Value = λ x zs. converted tests.limit span ((type_parts t).shape (types_among base)) zs x in
      let g : Value → List Value → PureOf Value = λ x zs. converted tests.limit span (Some v.value.shape) zs x in
      formed tests right ds base subs loose funcs w H S (ex.As span e t) c span v.value.ty s.value.effect make (in_class_is H.scope.class span s.value.effect v.value.ty make S k.then) refl
      (subst (λ ts. Same tests right base subs loose H (Out tests right base subs loose H v.value.ty) (behind_more e (type_parts t).exprs c f) (behind_more s.value.tree ts (erased c) g)) (sym (list_from v.value.sizes))
      (behind_more_same tests right base subs loose H v.value.ty e s.value (type_parts t).exprs v.value.sizes q.asked c f g s.first q.asks a
      (λ x xs i l.
      let e2 : f x xs ≡ g x xs = ap (λ o. converted tests.limit span o xs x) q.shape_is in
      let fills = q.fills span xs [] l in
      let e3 : g x xs ≡ of_kind_of span (type_with v.value.ty H.present) x =
      ap (λ zs. converted tests.limit span (Some v.value.shape) zs x) (sym (append_nil xs))
      ∙ ap (λ o. type_or_stuck span (type_of_sized o) >>= λ T. of_kind_of span T x) fills.is ∙ ap (λ T. of_kind_of span T x) fills.type_is in
      (e2, subst (Gives (types_in base) H.present v.value.ty) (sym (e2 ∙ e3)) (kind_gives H.present span s.value.ty v.value.ty x of_kind i)))))
