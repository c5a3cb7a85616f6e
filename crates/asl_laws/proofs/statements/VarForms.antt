-- Declarations without an initialiser with their typed trees: each name has the first value of the type.
use Rattle.std.proofs.Common.{◌≡◌, Bool, List, [], ◌∷◌, ◌++◌, length, replicate, true, false, Some, None, Ok, refl, sym, ap, ◌∙◌, subst, append_assoc}
use Rattle.asl_syn.specs.declared.token.Span.{Span}
use Rattle.asl_syn.specs.declared.code.StaticCode.TheVariants.{T01}
use Rattle.asl_syn.specs.declared.tree.Ident.{Ident}
use Rattle.asl_syn.specs.declared.tree.TypeExpr.{TypeExpr, out-TypeExpr}
use Rattle.asl_syn.specs.declared.tree.LocalKind.TheVariants as local
use Rattle.asl_syn.specs.declared.tree.Bitfield.TheOpen as ex
use Rattle.asl_syn.specs.declared.tree.Bitfield.TheFolds.{fold_out-TypeExpr}
use Rattle.asl_syn.specs.declared.tree.Alternative.TheOpen as st
use Rattle.asl_syn.specs.declared.tree.Decl.{Decl}
use Rattle.asl_syn.specs.Layers.{TypeLayer}
use Rattle.asl_rules.specs.declared.effect.Effect.TheVariants.{Pure}
use Rattle.asl_rules.specs.Faults.{need}
use Rattle.asl_rules.specs.Tests.{Tests, IsRight}
use Rattle.asl_rules.specs.types.Types.{Ty}
use Rattle.asl_rules.specs.types.Closed.{Assignment, Closed, type_with}
use Rattle.asl_rules.specs.declarations.Scopes.{Entry, Signature, variable, is_free}
use Rattle.asl_rules.specs.private.WellFormed.{WellFormed}
use Rattle.asl_rules.specs.types.Shaped.{sizes_in}
use Rattle.asl_rules.specs.runs.Trees as tree
use Rattle.asl_rules.specs.runs.Trees.{TreeFunc}
use Rattle.asl_rules.specs.expressions.Typing.{Found, trees_from}
use Rattle.asl_rules.specs.expressions.Slicing.{FoundSlice}
use Rattle.asl_rules.specs.expressions.Patterns.{FoundPattern}
use Rattle.asl_rules.specs.types.Writing.{FoundPart, FoundBitfield, FoundType}
use Rattle.asl_rules.specs.expressions.Exprs as exprs
use Rattle.asl_rules.specs.expressions.Exprs.{FoundField, found_type, written, expr_rule, given_rule, slice_rule, part_rule, bitfield_rule, type_rule, pattern_rule}
use Rattle.asl_rules.specs.statements.Acting.{Done, done}
use Rattle.asl_rules.specs.statements.Locals.{names_rule, vars_rule}
use Rattle.asl_rules.specs.values.Values.{Value}
use Rattle.asl_rules.specs.runs.States.{of_type, Core}
use Rattle.asl_rules.specs.private.Belonging.{InType}
use Rattle.asl_rules.specs.private.Agreement.{types_in, Agrees}
use Rattle.asl_rules.specs.runs.Plans.{Faulted, Stuck, Pure as PureOf, Good, Bad, lift}
use Rattle.asl_rules.specs.runs.Pures.{◌>>=◌, found_type as type_or_stuck}
use Rattle.asl_rules.specs.types.Written.{first_value, filled, sized, type_span, type_layer_span}
use Rattle.asl_rules.specs.runs.Forms.{eval_all}
use Rattle.asl_rules.specs.runs.StatementForms.{done_normal}
use Rattle.asl_rules.specs.runs.Evaluation.{declared, declare_all, declare_first, sized_at, stmt_node}
use Rattle.asl_rules.specs.private.TypedMeaning as bare
use Rattle.asl_rules.specs.private.TypedMeaning.{with_next}
use Rattle.asl_rules.specs.private.Erasure.{erased, values_of}
use Rattle.asl_rules.proofs.basics.Inversions.{ok_ok, bind_ok, then_ok, need_ok}
use Rattle.asl_rules.proofs.basics.Tests.{none_some}
use Rattle.asl_rules.proofs.scopes.Lookups.{same_types}
use Rattle.asl_rules.proofs.scopes.Naming.{WellNamed, well_declared, scope_good, type_fixed}
use Rattle.asl_laws.proofs.scopes.WellTyped.{written_formed}
use Rattle.asl_rules.proofs.basics.Opening.{type_opened}
use Rattle.asl_laws.proofs.widths.TypesOver.{Over, over_more}
use Rattle.asl_laws.proofs.scopes.OverScope.{NamesOver, written_over}
use Rattle.asl_laws.proofs.scopes.ScopesOver.{Below}
use Rattle.asl_laws.proofs.scopes.BodiesOver.{one_added, below_more}
use Rattle.asl_laws.proofs.scopes.Agreeing.{erased_declared}
use Rattle.asl_laws.proofs.values.FirstFilled.{Unstuck, filled_begins}
use Rattle.asl_laws.proofs.values.FirstPresent.{first_present}
use Rattle.asl_laws.proofs.expressions.Claims.{StmtClaim, At, around_of}
use Rattle.asl_laws.proofs.expressions.TreePlans.{all_same, append_nil, list_from}
use Rattle.asl_laws.proofs.expressions.SizeForms.{type_says}
use Rattle.asl_laws.proofs.statements.StmtForms.{here, Held, OutAct, ActSame, Acted, acted}
use Rattle.asl_laws.proofs.statements.DeclareForms.{new_name, unmoved, environment_of}

module _ (tests : Tests) (right : IsRight tests) (ds : List Decl) (base : List Entry) (subs : List Signature) (loose : Bool) (funcs : List TreeFunc) (w : WellNamed base) where
  -- ---- where a written type stands

  layer_span : (x : TypeLayer) → exprs.type_span (type_opened tests x) ≡ type_layer_span x
  layer_span (ex.IntegerType span ps) = refl
  layer_span (ex.BooleanType span) = refl
  layer_span (ex.BitType span) = refl
  layer_span (ex.NamedType span name) = refl
  layer_span (ex.BitsType span e fs) = refl
  layer_span (ex.TupleType span ts) = refl
  layer_span (ex.ArrayType span e t) = refl

  span_is : (t : TypeExpr) → (found_type tests t).span ≡ type_span t
  span_is t = ap (λ (f : FoundType). f.span) (fold_out-TypeExpr FoundBitfield FoundPart Found FoundField FoundPattern FoundSlice FoundType bitfield_rule part_rule (expr_rule tests) given_rule (pattern_rule tests) slice_rule (type_rule tests) t) ∙ layer_span (out-TypeExpr t)

  -- ---- each name

  record Begun (is : List Ident) (T : Ty) (a : Assignment) (x : Value) (after : List Entry) (c : Core) : Type 0 where
    agrees : Agrees base after a (declare_all is (type_with T a) x c)
    erased_is : erased (declare_all is (type_with T a) x c) ≡ with_next (replicate (length is) x) (erased c)
    handled_is : around_of (declare_all is (type_with T a) x c) ≡ around_of c

  each_begun : (is : List Ident) (T : Ty) (a : Assignment) (x : Value) (names after : List Entry) (c : Core) → names_rule is T names ≡ Ok after → NamesOver (Below names) names → Over (Below names) T → WellFormed (types_in base) T → InType (types_in base) a x T → Agrees base names a c → Begun is T a x after c
  each_begun [] T a x names after c h g over formed i ag = record { agrees = subst (λ ns. Agrees base ns a c) (ok_ok names after h) ag; erased_is = unmoved tests right ds base subs loose funcs w c; handled_is = refl }
  each_begun (n ∷ is) T a x names after c h g over formed i ag =
      let entry : Entry = variable n.text T in
      let u = then_ok (need (is_free n.text names) T01 n.span) (names_rule is T (names ++ entry ∷ [])) after h in
      let free = need_ok (is_free n.text names) T01 n.span tt u.first in
      let C = type_with T a in
      let c1 = declared n.text x (of_type C) true c in
      let next = new_name tests right ds base subs loose funcs w local.Var names a n.text T None a (of_type C) x c refl i (λ m l. refl) over formed free ag g.each tt in
      let g1 = one_added tests local.Var names n.text T None g over (λ z q. none_some z q) in
      let over1 = over_more (Below names) (Below (names ++ entry ∷ [])) (below_more names (entry ∷ [])) T over in
      let r = each_begun is T a x (names ++ entry ∷ []) after c1 u.then g1 over1 formed i next in
      record {
        agrees = r.agrees;
        erased_is = r.erased_is ∙ ap (with_next (replicate (length is) x)) (erased_declared n.text x (of_type C) true c) ∙ ap (λ l. record (erased c) { frame = l }) (append_assoc (values_of c.frame) (x ∷ []) (replicate (length is) x));
        handled_is = r.handled_is;
      }

  -- ---- all names

  -- what both begin with
  begun_same : (j : StmtClaim) (is : List Ident) (C : Closed) (r : PureOf Value) (c : Core) → At tests base subs loose (here tests right ds base subs loose funcs w j) c → Unstuck r → ((x : Value) → r ≡ Good x → ActSame tests right ds base subs loose funcs w j true (done_normal (declare_all is C x c)) (done_normal (with_next (replicate (length is) x) (erased c)))) →
      ActSame tests right ds base subs loose funcs w j true (lift (r >>= λ x. Good (declare_all is C x c)) c done_normal) (lift (r >>= λ x. Good (with_next (replicate (length is) x) (erased c))) (erased c) done_normal)
  begun_same j is C (Good x) c a u f = f x refl
  begun_same j is C (Bad (Faulted code span)) c a u f = (refl, refl, a.agrees.globals)
  begun_same j is C (Bad (Stuck mistake span)) c a u f = absurd u

  pub vars_acted : (j : StmtClaim) (span : Span) (is : List Ident) (t : TypeExpr) (c : Core) → vars_rule tests span is t j.body.scope ≡ Ok j.done → Held tests right ds base subs loose funcs w j c → Acted tests right ds base subs loose funcs w j true (st.LocalVars span is t) c
  vars_acted j span is t c h held =
      let G = j.body.scope in
      let H = here tests right ds base subs loose funcs w j in
      let env = environment_of tests right ds base subs loose funcs w in
      let v = bind_ok (written tests t false G) _ j.done h in
      let W = v.value in
      let n = bind_ok (names_rule is W.ty G.names) _ j.done v.then in
      let good = scope_good j.present base G.names c w held.at.agrees in
      let wf = written_formed tests right (types_in base) (well_declared base w) t false G W good v.first in
      let over = written_over (Below G.names) tests t false G W held.scope_good.over v.first in
      let q = type_says tests right base subs loose H (λ name T o. type_fixed (types_in base) G.names name good T o) (λ name. same_types j.present base G.names c name held.at.agrees) t false W v.first in
      let at = (found_type tests t).span in
      let whole = type_span t in
      let act = tree.DeclareFirst span (length is) at W.shape (trees_from W.sizes) in
      let C = type_with W.ty j.present in
      acted tests right ds base subs loose funcs w j true (st.LocalVars span is t) c (done n.value Pure act) (ok_ok (done n.value Pure act) j.done n.then) refl
      (λ z. subst (λ ts. ActSame tests right ds base subs loose funcs w j true (stmt_node env (st.LocalVars span is t) c) (eval_all ts [] (erased c) (λ zs c1. lift (bare.declared_first span (length is) (filled tests.limit at W.shape zs) c1) c1 done_normal))) (sym (list_from W.sizes))
      (all_same tests right base subs loose H (OutAct tests right ds base subs loose funcs w j true) (sizes_in t) W.sizes q.asked [] c (λ zs c1. lift (declare_first env span is t zs c1) c1 done_normal) (λ zs c1. lift (bare.declared_first span (length is) (filled tests.limit at W.shape zs) c1) c1 done_normal) q.asks held.at
      (λ zs c1 i a.
      let k = q.fills whole zs [] i in
      let one = k.one in
      let b = filled_begins tests.limit whole W.shape (zs ++ []) one k.is in
      let full : filled tests.limit whole W.shape zs ≡ Some one = ap (λ l. filled tests.limit whole W.shape l) (sym (append_nil zs)) ∙ k.is in
      let untyped : sized_at env t zs ≡ Some one = ap (λ o. sized tests.limit whole zs o) q.shape_is ∙ full in
      let typed : filled tests.limit at W.shape zs ≡ Some one = ap (λ m. filled tests.limit m W.shape zs) (span_is t) ∙ full in
      subst (λ o. ActSame tests right ds base subs loose funcs w j true (lift (type_or_stuck span o >>= λ s. s.first >>= λ x. Good (declare_all is s.type_is x c1)) c1 done_normal) (lift (bare.declared_first span (length is) (filled tests.limit at W.shape zs) (erased c1)) (erased c1) done_normal)) (sym untyped)
      (subst (λ o. ActSame tests right ds base subs loose funcs w j true (lift (one.first >>= λ x. Good (declare_all is one.type_is x c1)) c1 done_normal) (lift (bare.declared_first span (length is) o (erased c1)) (erased c1) done_normal)) (sym typed)
      (subst (λ D. ActSame tests right ds base subs loose funcs w j true (lift (one.first >>= λ x. Good (declare_all is D x c1)) c1 done_normal) (lift (one.first >>= λ x. Good (with_next (replicate (length is) x) (erased c1))) (erased c1) done_normal)) (sym k.type_is)
      (begun_same j is C one.first c1 a b.unstuck
      (λ x e.
      let belongs = first_present j.present (types_in base) (well_declared base w) tests.limit whole W.ty wf x (ap (first_value tests.limit whole) (sym k.type_is) ∙ b.first x e) in
      let r = each_begun is W.ty j.present x G.names n.value c1 n.first held.scope_good.over over wf belongs a.agrees in
      (r.erased_is, (refl, record { reached = refl; later = j.present; same = λ m l. refl; agrees = subst (λ ns. Agrees base ns j.present (declare_all is C x c1)) (ap (λ (y : Done). y.names) z) r.agrees; around_is = r.handled_is ∙ a.around_is })))))))))
