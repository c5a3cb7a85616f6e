-- The names that are visible after a statement are those before it, and behind them those that it declares.
use Rattle.std.proofs.Common.{◌≡◌, ℕ, suc, ◌<◌, ◌≤◌, Bool, true, false, cond, List, [], ◌∷◌, ◌++◌, map, Option, Some, None, Ok, refl, sym, ap, ◌∙◌, subst, append_assoc, arith}
use Rattle.asl_syn.specs.declared.token.Span.{Span}
use Rattle.asl_syn.specs.declared.code.StaticCode.TheVariants.{T01, T05}
use Rattle.asl_syn.specs.declared.tree.Expr.{Expr}
use Rattle.asl_syn.specs.declared.tree.Ident.{Ident}
use Rattle.asl_syn.specs.declared.tree.TypeExpr.{TypeExpr}
use Rattle.asl_syn.specs.declared.tree.LocalKind.{LocalKind}
use Rattle.asl_syn.specs.declared.tree.Binder.{Binder}
use Rattle.asl_syn.specs.declared.tree.Binder.TheVariants.{Bound, Unbound}
use Rattle.asl_syn.specs.declared.tree.Bind.{Bind}
use Rattle.asl_syn.specs.declared.tree.Bind.TheVariants.{Single, Several}
use Rattle.asl_syn.specs.declared.tree.Stmt.{Stmt}
use Rattle.asl_rules.specs.declared.effect.Effect.{Effect}
use Rattle.asl_rules.specs.Faults.{need, found_or}
use Rattle.asl_rules.specs.Tests.{Tests}
use Rattle.asl_rules.specs.types.Types.{Ty, Parts, no_part, part, tuple_parts}
use Rattle.asl_rules.specs.types.Closed.{Assignment}
use Rattle.asl_rules.specs.declarations.Scopes.{Scope, Body, Entry, is_free, variable, is_local, next_atom}
use Rattle.asl_rules.specs.runs.Trees as tree
use Rattle.asl_rules.specs.expressions.Exprs.{written}
use Rattle.asl_rules.specs.statements.Acting.{Done, Listed, in_order}
use Rattle.asl_rules.specs.statements.Locals.{Initialised, initialised, initialised_as, itself, declared, type_declared, part_declared, written_or, taken, binders_free, bound_parts, bound_in, bound, bind_rule, names_rule, vars_rule}
use Rattle.asl_rules.specs.statements.Stmts.{found_stmt}
use Rattle.asl_rules.specs.private.Agreement.{SameOn}
use Rattle.asl_rules.proofs.basics.Inversions.{ok_ok, bind_ok, then_ok, found_ok}
use Rattle.asl_rules.proofs.basics.Tests.{some_same, none_some}
use Rattle.asl_rules.proofs.widths.ScopesCounted.{ended_names}
use Rattle.asl_rules.proofs.scopes.KeptNames.{DeclarationsKeep, stmt_keeps, list_keeps}

pub record Longer (names after : List Entry) : Type 0 where
  pub more : List Entry
  pub is : after ≡ names ++ more

nothing_more : (xs : List Entry) → xs ++ [] ≡ xs
nothing_more [] = refl
nothing_more (x ∷ xs) = ap (λ l. x ∷ l) (nothing_more xs)

pub longer_self : (names : List Entry) → Longer names names
longer_self names = record { more = []; is = sym (nothing_more names) }

pub longer_on : (a b c : List Entry) → Longer a b → Longer b c → Longer a c
longer_on a b c h k = record { more = h.more ++ k.more; is = k.is ∙ ap (λ l. l ++ k.more) h.is ∙ append_assoc a h.more k.more }

one_more : (names : List Entry) (e : Entry) → Longer names (names ++ e ∷ [])
one_more names e = record { more = e ∷ []; is = refl }

-- ---- declarations

parts_longer : (bs : List Binder) (kind : LocalKind) (o : Option Ty) (Ts : Parts) (names after : List Entry) → bound_parts bs kind o Ts names ≡ Some after → Longer names after
parts_longer [] kind o no_part names after h = subst (Longer names) (some_same names after h) (longer_self names)
parts_longer [] kind o (part T Ts) names after h = none_some after h
parts_longer (Bound i ∷ bs) kind o no_part names after h = none_some after h
parts_longer (Unbound at ∷ bs) kind o no_part names after h = none_some after h
parts_longer (Bound i ∷ bs) kind o (part T Ts) names after h =
    let e : Entry = declared kind i.text (part_declared kind o T) (itself (part_declared kind o T) names) in
    longer_on names (names ++ e ∷ []) after (one_more names e) (parts_longer bs kind o Ts (names ++ e ∷ []) after h)
parts_longer (Unbound at ∷ bs) kind o (part T Ts) names after h = parts_longer bs kind o Ts names after h

parts_in_longer : (bs : List Binder) (kind : LocalKind) (o : Option Ty) (p : Option Parts) (names after : List Entry) → bound_in bs kind o p names ≡ Some after → Longer names after
parts_in_longer bs kind o None names after h = none_some after h
parts_in_longer bs kind o (Some Ts) names after h = parts_longer bs kind o Ts names after h

names_longer : (is : List Ident) (T : Ty) (names after : List Entry) → names_rule is T names ≡ Ok after → Longer names after
names_longer [] T names after h = subst (Longer names) (ok_ok names after h) (longer_self names)
names_longer (i ∷ is) T names after h =
    let u = then_ok (need (is_free i.text names) T01 i.span) (names_rule is T (names ++ variable i.text T ∷ [])) after h in
    longer_on names (names ++ variable i.text T ∷ []) after (one_more names (variable i.text T)) (names_longer is T (names ++ variable i.text T ∷ []) after u.then)

module _ (t : Tests) where
  bound_longer : (span : Span) (kind : LocalKind) (b : Bind) (e : Expr) (i : Initialised) (G : Scope) (d : Done) → bound t span kind b e i G ≡ Ok d → Longer G.names d.names
  bound_longer span kind (Single (Bound x)) e i G d h =
      let T : Ty = type_declared kind i.written i.value.ty in
      let u = then_ok (need (is_free x.text G.names) T01 x.span) _ d h in
      let y : Entry = declared kind x.text T (initialised_as t T e G) in
      subst (Longer G.names) (ended_names G.class span true i.value.effect (G.names ++ y ∷ []) (tree.Declare span i.written tree.whole i.value.tree) d u.then) (one_more G.names y)
  bound_longer span kind (Single (Unbound at)) e i G d h = subst (Longer G.names) (ended_names G.class span true i.value.effect G.names (tree.Declare span i.written tree.nothing i.value.tree) d h) (longer_self G.names)
  bound_longer span kind (Several at bs) e i G d h =
      let u = then_ok (binders_free bs [] G.names) _ d h in
      let o = bound_in bs kind i.written (tuple_parts (written_or i.written i.value.ty)) G.names in
      let v = bind_ok (found_or o T05 span) _ d u.then in
      subst (Longer G.names) (ended_names G.class span true i.value.effect v.value (tree.Declare span i.written (tree.in_parts (taken bs)) i.value.tree) d v.then)
      (parts_in_longer bs kind i.written (tuple_parts (written_or i.written i.value.ty)) G.names v.value (found_ok o T05 span v.value v.first))

  bind_longer : (span : Span) (kind : LocalKind) (b : Bind) (ty : Option TypeExpr) (e : Expr) (G : Scope) (d : Done) → bind_rule t span kind b ty e G ≡ Ok d → Longer G.names d.names
  bind_longer span kind b ty e G d h = let u = bind_ok (initialised t ty e G) _ d h in bound_longer span kind b e u.value G d u.then

  vars_longer : (span : Span) (is : List Ident) (ty : TypeExpr) (G : Scope) (d : Done) → vars_rule t span is ty G ≡ Ok d → Longer G.names d.names
  vars_longer span is ty G d h =
      let u = bind_ok (written t ty false G) _ d h in
      let v = bind_ok (names_rule is u.value.ty G.names) _ d u.then in
      subst (Longer G.names) (ap (λ (z : Done). z.names) (ok_ok _ d v.then)) (names_longer is u.value.ty G.names v.value v.first)

  kept : (first : List Entry) → DeclarationsKeep t (λ G. Longer first G.names)
  kept first = record {
    bind = λ span kind b ty e G d p h. longer_on first G.names d.names p (bind_longer span kind b ty e G d h);
    vars = λ span is ty G d p h. longer_on first G.names d.names p (vars_longer span is ty G d h);
  }

  pub stmt_longer : (s : Stmt) (B : Body) (d : Done) → found_stmt t s B ≡ Ok d → Longer B.scope.names d.names
  stmt_longer s B d h = stmt_keeps t (λ G. Longer B.scope.names G.names) (kept B.scope.names) s B d (longer_self B.scope.names) h

  pub list_longer : (ss : List Stmt) (k : Effect) (B : Body) (l : Listed) → in_order (map (found_stmt t) ss) k B ≡ Ok l → Longer B.scope.names l.names
  list_longer ss k B l h = list_keeps t (λ G. Longer B.scope.names G.names) (kept B.scope.names) ss k B l (longer_self B.scope.names) h

-- ---- atoms

atoms_more : (es fs : List Entry) → next_atom es ≤ next_atom (es ++ fs)
atoms_more [] fs = least (next_atom fs)
  where
    least : (n : ℕ) → 0 ≤ n
    least n = omega arith
atoms_more (e ∷ es) fs = by (is_local e.standing) (next_atom es) (next_atom (es ++ fs)) (atoms_more es fs)
  where
    by : (b : Bool) (m n : ℕ) → m ≤ n → cond b (suc (suc m)) m ≤ cond b (suc (suc n)) n
    by true m n h = omega arith
    by false m n h = h

-- what is the same on more names is so on fewer
pub same_on_fewer : (names after : List Entry) (a b : Assignment) → Longer names after → SameOn after a b → SameOn names a b
same_on_fewer names after a b l s n h = s n (subst (λ (es : List Entry). n < next_atom es) (sym l.is) (less n (next_atom names) (next_atom (names ++ l.more)) h (atoms_more names l.more)))
  where
    less : (n m k : ℕ) → n < m → m ≤ k → n < k
    less n m k h l = omega arith

pub same_on_both : (names : List Entry) (a b c : Assignment) → SameOn names a b → SameOn names b c → SameOn names a c
same_on_both names a b c h k n l = h n l ∙ k n l
