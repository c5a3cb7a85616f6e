-- What names stand for in the scopes of bodies: at the head of a body, behind each statement, in loops and catchers.
use Rattle.std.proofs.Common.{◌≡◌, ℕ, true, false, List, [], ◌∷◌, ◌++◌, Option, Some, None, Result, Ok, refl, sym, ap, ◌∙◌, subst}
use Rattle.std.specs.Prelude.{◌&&◌, not}
use Rattle.asl_syn.specs.declared.token.Span.{Span}
use Rattle.asl_syn.specs.declared.code.Fault.{Fault}
use Rattle.asl_syn.specs.declared.code.StaticCode.TheVariants.{T01}
use Rattle.asl_syn.specs.declared.tree.Expr.{Expr}
use Rattle.asl_syn.specs.declared.tree.Ident.{Ident}
use Rattle.asl_syn.specs.declared.tree.TypeExpr.{TypeExpr}
use Rattle.asl_syn.specs.declared.tree.Decl.{Decl}
use Rattle.asl_syn.specs.declared.tree.Formal.{Formal}
use Rattle.asl_syn.specs.declared.tree.Param.{Param as WrittenParam}
use Rattle.asl_syn.specs.declared.tree.Func.{Func}
use Rattle.asl_syn.specs.declared.tree.Stmt.{Stmt, out-Stmt}
use Rattle.asl_syn.specs.declared.tree.Alternative.TheOpen as st
use Rattle.asl_syn.specs.declared.tree.Alternative.TheFolds.{fold_out-Stmt}
use Rattle.asl_syn.specs.Layers.{StmtLayer}
use Rattle.asl_rules.specs.Faults.{need}
use Rattle.asl_rules.specs.Tests.{Tests}
use Rattle.asl_rules.specs.types.Types.{Ty, Parts, no_part, part}
use Rattle.asl_rules.specs.values.Members.{has_name}
use Rattle.asl_rules.specs.declarations.Scopes.{Entry, Body, Param, fixed, variable, next_atom, is_free, body_names}
use Rattle.asl_rules.specs.declarations.Turns.{names_of_program}
use Rattle.asl_rules.specs.declarations.Programs.{Head, params_free, formals_free, param_written, param_entry, type_or_itself, params_rule}
use Rattle.asl_rules.specs.declarations.Programs.{formals_rule, result_rule, limit_typed, params_are_integers, limit_rule, with_formals}
use Rattle.asl_rules.specs.declarations.Programs.{signature_rule}
use Rattle.asl_rules.specs.expressions.Exprs.{written}
use Rattle.asl_rules.specs.statements.Acting.{Done, FoundStmt, FoundOtherwise}
use Rattle.asl_rules.specs.statements.Locals.{itself, names_rule, vars_rule}
use Rattle.asl_rules.specs.statements.Branches.{FoundBranch, FoundAlternative, FoundCatcher, with_index, with_caught}
use Rattle.asl_rules.specs.statements.Stmts.{StmtOf, return_rule, throw_rule, stmt_layer_rule, branch_found, alternative_found}
use Rattle.asl_rules.specs.statements.Stmts.{catcher_found, otherwise_found, found_stmt}
use Rattle.asl_rules.specs.private.Worth.{Integers, Obeys, WellCounted}
use Rattle.asl_laws.specs.WidthScopes.{StmtSays, SaysSo, StandsAsBefore}
use Rattle.asl_rules.proofs.basics.Answering.{OfAnswer, steps_before, of_this}
use Rattle.asl_rules.proofs.basics.Inversions.{ok_ok, bind_ok, then_ok, need_ok}
use Rattle.asl_rules.proofs.scopes.KeptNames.{DeclarationsKeep, stmt_opened}
use Rattle.asl_rules.proofs.widths.ScopesCounted.{Fresh, fresh_start, fresh_more, tested, names_counted, bind_counted, vars_counted}
use Rattle.asl_laws.proofs.widths.Obeying.{nothing_more, further, variable_nothing, atom_nothing, plain_nothing, itself_nothing, bind_says}

-- ---- the head of a body

module _ (t : Tests) where
  params_ask : (ps : List WrittenParam) (pre : List Param) (base names : List Entry) (before after : List (List ℕ))
      (r : List Param × List Entry) → WellCounted names → Fresh base before names → params_free ps before base ≡ Ok after → params_rule t ps pre names ≡ Ok r →
      StandsAsBefore names r.1 × Fresh base after r.1
  params_ask [] pre base names before after r w f h k =
      let here : Fresh base after names = subst (λ b. Fresh base b names) (ok_ok before after h) f in
      subst (λ (z : List Param × List Entry). StandsAsBefore names z.1 × Fresh base after z.1) (ok_ok (pre, names) r k)
      (nothing_more names w, here)
  params_ask (p ∷ ps) pre base names before after r w f h k =
      let rest = params_free ps (before ++ p.name.text ∷ []) base in
      let u = then_ok (need (is_free p.name.text base && not (has_name p.name.text before)) T01 p.name.span) rest after h in
      let v = bind_ok (param_written t p.ty names) _ r k in
      let e : Entry = param_entry p.name.text v.value (next_atom names) in
      let first = atom_nothing names p.name.text (type_or_itself v.value (next_atom names)) w (tested base names before p.name f u.first) in
      let q : Param = record { atom = next_atom names; ty = v.value } in
      let m = params_ask ps (pre ++ q ∷ []) base (names ++ e ∷ []) (before ++ p.name.text ∷ []) after r first.counted
      (fresh_more base before names e f) u.then v.then in
      (further names (names ++ e ∷ []) r.1 first m.0, m.1)

  formals_ask : (fs : List Formal) (Ts : Parts) (base names : List Entry) (before : List (List ℕ)) → WellCounted names →
      Fresh base before names → formals_free fs before base ≡ Ok tt → StandsAsBefore names (with_formals fs Ts names)
  formals_ask [] Ts base names before w f h = nothing_more names w
  formals_ask (x ∷ fs) no_part base names before w f h = nothing_more names w
  formals_ask (x ∷ fs) (part T Ts) base names before w f h =
      let rest = formals_free fs (before ++ x.name.text ∷ []) base in
      let u = then_ok (need (is_free x.name.text base && not (has_name x.name.text before)) T01 x.name.span) rest tt h in
      let e : Entry = fixed x.name.text T (itself T names) in
      let first = itself_nothing names x.name.text T w (tested base names before x.name f u.first) in
      further names (names ++ e ∷ []) (with_formals fs Ts (names ++ e ∷ [])) first
      (formals_ask fs Ts base (names ++ e ∷ []) (before ++ x.name.text ∷ []) first.counted (fresh_more base before names e f) u.then)

  pub head_asks : (ds : List Decl) (f : Func) (head : Head) → signature_rule t (names_of_program t ds) f ≡ Ok head →
      StandsAsBefore (names_of_program t ds) head.names
  head_asks ds f head h =
      let base = names_of_program t ds in
      let a = bind_ok (params_free f.params [] base) _ head h in
      let b = then_ok (formals_free f.formals a.value base) _ head a.then in
      let c = bind_ok (params_rule t f.params [] base) _ head b.then in
      let d = bind_ok (formals_rule t f.formals c.value.1) _ head c.then in
      let e = bind_ok (result_rule t f.result c.value.1) _ head d.then in
      let g = bind_ok (limit_typed t f.limit base) _ head e.then in
      let k = then_ok (params_are_integers t f.params c.value.0) _ head g.then in
      let l = bind_ok (limit_rule t f.limit g.value base) _ head k.then in
      let p = params_ask f.params [] base base [] a.value c.value (names_counted t ds) (fresh_start base) a.first c.first in
      subst (λ (z : Head). StandsAsBefore base z.names) (ok_ok _ head l.then)
      (further base c.value.1 (with_formals f.formals d.value c.value.1) p.0
      (formals_ask f.formals d.value base c.value.1 a.value p.0.counted p.1 b.first))

-- ---- in loops and catchers

pub index_asks : (i : Ident) (T : Ty) (B : Body) → WellCounted B.scope.names → is_free i.text B.scope.names ≡ true →
    StandsAsBefore B.scope.names (with_index i T B).scope.names
index_asks i T B w f = atom_nothing B.scope.names i.text T w f

pub caught_asks : (o : Option Ident) (T : Ty) (B C : Body) → WellCounted B.scope.names → with_caught o T B ≡ Ok C →
    StandsAsBefore B.scope.names C.scope.names
caught_asks None T B C w h = subst (λ (z : Body). StandsAsBefore B.scope.names z.scope.names) (ok_ok B C h) (nothing_more B.scope.names w)
caught_asks (Some i) T B C w h =
    let u = then_ok (need (is_free i.text B.scope.names) T01 i.span) _ C h in
    let inside = body_names B (B.scope.names ++ fixed i.text T None ∷ []) in
    subst (λ (z : Body). StandsAsBefore B.scope.names z.scope.names) (ok_ok inside C u.then)
    (plain_nothing B.scope.names i.text T w (need_ok (is_free i.text B.scope.names) T01 i.span tt u.first))

-- ---- behind statements

-- names without an initialiser
names_ask : (is : List Ident) (T : Ty) (names more : List Entry) → WellCounted names → names_rule is T names ≡ Ok more →
    StandsAsBefore names more
names_ask [] T names more w h = subst (StandsAsBefore names) (ok_ok names more h) (nothing_more names w)
names_ask (i ∷ is) T names more w h =
    let u = then_ok (need (is_free i.text names) T01 i.span) (names_rule is T (names ++ variable i.text T ∷ [])) more h in
    let first = variable_nothing names i.text T w (need_ok (is_free i.text names) T01 i.span tt u.first) in
    further names (names ++ variable i.text T ∷ []) more first (names_ask is T (names ++ variable i.text T ∷ []) more first.counted u.then)

module _ (t : Tests) where
  vars_ask : (span : Span) (is : List Ident) (ty : TypeExpr) (B : Body) (d : Done) → WellCounted B.scope.names →
      vars_rule t span is ty B.scope ≡ Ok d → StandsAsBefore B.scope.names d.names
  vars_ask span is ty B d w h =
      let u = bind_ok (written t ty false B.scope) _ d h in
      let v = bind_ok (names_rule is u.value.ty B.scope.names) _ d u.then in
      subst (StandsAsBefore B.scope.names) (ap (λ (z : Done). z.names) (ok_ok _ d v.then))
      (names_ask is u.value.ty B.scope.names v.value w v.first)

  counted_kept : DeclarationsKeep t (λ G. WellCounted G.names)
  counted_kept = record {
    bind = λ span kind b ty e G d w h. bind_counted t span kind b ty e G d w h;
    vars = λ span is ty G d w h. vars_counted t span is ty G d w h;
  }

  -- a statement that declares nothing
  abbrev KeepsNames : Body → Result Done Fault → Type 0
  KeepsNames B r = OfAnswer (λ d. d.names ≡ B.scope.names) r

  return_names : (span : Span) (e : Option Expr) (result : Option Ty) (B : Body) → B.scope.names ≡ B.scope.names →
      KeepsNames B (return_rule t span e B.scope result)
  return_names span None None B p = p
  return_names span None (Some T) B p = tt
  return_names span (Some e) None B p = search steps_before
  return_names span (Some e) (Some T) B p = search (steps_before, p)

  throw_names : (span : Span) (e : Option Expr) (B : Body) → B.scope.names ≡ B.scope.names → KeepsNames B (throw_rule t span e B)
  throw_names span None B p = search (steps_before, p)
  throw_names span (Some e) B p = search (steps_before, p)

  abbrev opened : StmtLayer → StmtOf
  opened = stmt_opened t (λ G. WellCounted G.names) counted_kept

  abbrev LayerSays : StmtLayer → Body → Done → Type 0
  LayerSays x B d = StandsAsBefore B.scope.names d.names × ((a : Integers) → Obeys B.scope.names a → StmtSays t x B.scope d.names a)

  same_names : (B : Body) (d : Done) (r : Result Done Fault) → WellCounted B.scope.names → r ≡ Ok d → KeepsNames B r →
      StandsAsBefore B.scope.names d.names
  same_names B d r w h k =
      let e = of_this (λ (z : Done). z.names ≡ B.scope.names) r d h k in
      subst (StandsAsBefore B.scope.names) (sym e) (nothing_more B.scope.names w)

  layer_says : (x : StmtLayer) (B : Body) (d : Done) → WellCounted B.scope.names → B.scope.names ≡ B.scope.names →
      stmt_layer_rule t (opened x) B ≡ Ok d → LayerSays x B d
  layer_says (st.Local span kind b ty e) B d w p h = bind_says t span kind b ty e B.scope d w h
  layer_says (st.LocalVars span is ty) B d w p h = (vars_ask span is ty B d w h, λ a o. tt)
  layer_says (st.Return span e) B d w p h = (same_names B d _ w h (return_names span e B.result B p), λ a o. tt)
  layer_says (st.Throw span e) B d w p h = (same_names B d _ w h (throw_names span e B p), λ a o. tt)
  layer_says x B d w p h = (same_names B d _ w h (search (steps_before, p) depth 20), λ a o. tt)

  pub stmt_says : (s : Stmt) (B : Body) (d : Done) → WellCounted B.scope.names → found_stmt t s B ≡ Ok d → SaysSo t s B d
  stmt_says s B d w h =
      let rule = fold_out-Stmt FoundAlternative FoundCatcher FoundBranch FoundOtherwise FoundStmt
      alternative_found catcher_found branch_found otherwise_found (stmt_layer_rule t) s in
      let k = layer_says (out-Stmt s) B d w refl (sym (ap (λ (f : FoundStmt). f B) rule) ∙ h) in
      record { before = k.0; says = k.1 }
