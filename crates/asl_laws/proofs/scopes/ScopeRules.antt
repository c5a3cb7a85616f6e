-- The three rules of scopes: they hold where a body begins, and statements, loops and catchers keep them.
use Rattle.std.proofs.Common.{◌≡◌, ℕ, Bool, true, false, cond, ◌&&◌, List, [], ◌∷◌, ◌++◌, Option, Some, None, Ok, refl, ap, ◌∙◌, subst}
use Rattle.std.specs.Prelude.{not}
use Rattle.std.specs.Str.{bytes_eq}
use Rattle.asl_syn.specs.declared.token.Span.{Span}
use Rattle.asl_syn.specs.declared.code.StaticCode.TheVariants.{T01, T05}
use Rattle.asl_syn.specs.declared.tree.Bind.{Bind}
use Rattle.asl_syn.specs.declared.tree.Bind.TheVariants.{Single, Several}
use Rattle.asl_syn.specs.declared.tree.Binder.{Binder}
use Rattle.asl_syn.specs.declared.tree.Binder.TheVariants.{Bound, Unbound}
use Rattle.asl_syn.specs.declared.tree.Decl.{Decl}
use Rattle.asl_syn.specs.declared.tree.Direction.{Direction}
use Rattle.asl_syn.specs.declared.tree.Expr.{Expr}
use Rattle.asl_syn.specs.declared.tree.Formal.{Formal}
use Rattle.asl_syn.specs.declared.tree.Func.{Func}
use Rattle.asl_syn.specs.declared.tree.Ident.{Ident}
use Rattle.asl_syn.specs.declared.tree.LocalKind.{LocalKind}
use Rattle.asl_syn.specs.declared.tree.LocalKind.TheVariants as local
use Rattle.asl_syn.specs.declared.tree.Param.{Param as WrittenParam}
use Rattle.asl_syn.specs.declared.tree.Stmt.{Stmt}
use Rattle.asl_syn.specs.declared.tree.TypeExpr.{TypeExpr}
use Rattle.asl_rules.specs.Faults.{need, found_or}
use Rattle.asl_rules.specs.Tests.{Tests}
use Rattle.asl_rules.specs.types.Types.{Ty, Parts, no_part, part, tuple_parts}
use Rattle.asl_rules.specs.runs.Trees as tree
use Rattle.asl_rules.specs.declarations.Scopes.{Scope, Body, Entry, Standing, Stored, Param, Signature, Counted, atom_at, next_atom, fixed, variable, standing_of, is_absent, is_free, type_of_name, body_names}
use Rattle.asl_rules.specs.expressions.Exprs.{written}
use Rattle.asl_rules.specs.values.Members.{has_name}
use Rattle.asl_rules.specs.statements.Acting.{Done}
use Rattle.asl_rules.specs.statements.Locals.{Initialised, initialised, initialised_as, itself, declared, type_declared, part_declared, written_or, taken, binders_free, bound_parts, bound_in, bound, bind_rule, names_rule, vars_rule}
use Rattle.asl_rules.specs.statements.Branches.{index_type, with_index, with_caught}
use Rattle.asl_rules.specs.statements.Stmts.{found_stmt}
use Rattle.asl_rules.specs.declarations.Turns.{final, names_of_program}
use Rattle.asl_rules.specs.declarations.Programs.{Head, funcs_of, signatures, params_free, formals_free, param_written, param_entry, params_rule, formals_rule, result_rule, limit_typed, params_are_integers, limit_rule, with_formals, signature_rule, signatures_rule}
use Rattle.asl_rules.proofs.basics.Inversions.{ok_ok, bind_ok, then_ok, need_ok, found_ok}
use Rattle.asl_rules.proofs.basics.Tests.{no, some_same, some_none, none_some}
use Rattle.asl_rules.proofs.scopes.EachOnce.{Once, turned}
use Rattle.asl_rules.proofs.scopes.KeptNames.{DeclarationsKeep, stmt_keeps}
use Rattle.asl_rules.proofs.scopes.Lookups.{behind}
use Rattle.asl_rules.proofs.verdict.SharedNames.{names_once}
use Rattle.asl_rules.proofs.widths.Counting.{stored_of}
use Rattle.asl_rules.proofs.widths.ScopesCounted.{Fresh, fresh_start, fresh_more, tested, ended_names}
use Rattle.asl_laws.specs.ScopeRules.{NoneShadowed, Never, StandingOver, CountedOver, EachOver, Below, SubsOver, KeepsRules, OutsideRules, AllBegin, TypesOwn}
use Rattle.asl_laws.proofs.scopes.OverScope.{NamesOver, typed_over, written_over}
use Rattle.asl_laws.proofs.scopes.ScopesOver.{program_over}
use Rattle.asl_laws.proofs.scopes.BodiesOver.{signature_over, signatures_over, bind_over, vars_over, index_over, caught_over}

-- ---- no name is shadowed

none_free : (o : Option Standing) → is_absent o ≡ true → o ≡ None
none_free None h = refl
none_free (Some x) h = no h

none_here : (x : Entry) (n : List ℕ) (es : List Entry) → standing_of n (x ∷ es) ≡ None →
    (bytes_eq x.name n ≡ false) × (standing_of n es ≡ None)
none_here x n es h = by (bytes_eq x.name n) h
  where
    by : (b : Bool) → cond b (Some x.standing) (standing_of n es) ≡ None → (b ≡ false) × (standing_of n es ≡ None)
    by true k = some_none x.standing k
    by false k = (refl, k)

last_new : (es : List Entry) (e : Entry) → NoneShadowed es → standing_of e.name es ≡ None → NoneShadowed (es ++ e ∷ [])
last_new [] e o h = (refl, tt)
last_new (x ∷ es) e o h =
    let k = none_here x e.name es h in
    (behind es (e ∷ []) x.name o.0 ∙ ap (λ b. cond b (Some e.standing) None) (turned x.name e.name k.0), last_new es e o.1 k.1)

-- a name that wasn't visible
pub added : (names : List Entry) (e : Entry) → NoneShadowed names → is_free e.name names ≡ true → NoneShadowed (names ++ e ∷ [])
added names e o f = last_new names e o (none_free (standing_of e.name names) f)

declared_added : (kind : LocalKind) (names : List Entry) (name : List ℕ) (T : Ty) (c : Option Counted) → NoneShadowed names →
    is_free name names ≡ true → NoneShadowed (names ++ declared kind name T c ∷ [])
declared_added local.Let names name T c o f = added names (fixed name T c) o f
declared_added local.Var names name T c o f = added names (variable name T) o f

pub of_once : (es : List Entry) → Once es → NoneShadowed es
of_once [] o = tt
of_once (e ∷ es) o = (o.0, of_once es o.1)

-- ---- declarations in bodies

fresh_declared : (kind : LocalKind) (base : List Entry) (before : List (List ℕ)) (names : List Entry) (name : List ℕ) (T : Ty)
    (c : Option Counted) → Fresh base before names →
    Fresh base (before ++ name ∷ []) (names ++ declared kind name T c ∷ [])
fresh_declared local.Let base before names name T c f = fresh_more base before names (fixed name T c) f
fresh_declared local.Var base before names name T c f = fresh_more base before names (variable name T) f

binders_added : (bs : List Binder) (kind : LocalKind) (o : Option Ty) (Ts : Parts) (base names more : List Entry)
    (before : List (List ℕ)) → NoneShadowed names → Fresh base before names →
    binders_free bs before base ≡ Ok tt → bound_parts bs kind o Ts names ≡ Some more → NoneShadowed more
binders_added [] kind o no_part base names more before w f h k = subst NoneShadowed (some_same names more k) w
binders_added [] kind o (part T Ts) base names more before w f h k = none_some more k
binders_added (Bound i ∷ bs) kind o no_part base names more before w f h k = none_some more k
binders_added (Unbound at ∷ bs) kind o no_part base names more before w f h k = none_some more k
binders_added (Bound i ∷ bs) kind o (part T Ts) base names more before w f h k =
    let u = then_ok (need (is_free i.text base && not (has_name i.text before)) T01 i.span)
    (binders_free bs (before ++ i.text ∷ []) base) tt h in
    let S : Ty = part_declared kind o T in
    binders_added bs kind o Ts base (names ++ declared kind i.text S (itself S names) ∷ []) more (before ++ i.text ∷ [])
    (declared_added kind names i.text S (itself S names) w (tested base names before i f u.first))
    (fresh_declared kind base before names i.text S (itself S names) f) u.then k
binders_added (Unbound at ∷ bs) kind o (part T Ts) base names more before w f h k =
    binders_added bs kind o Ts base names more before w f h k

bound_in_added : (bs : List Binder) (kind : LocalKind) (o : Option Ty) (p : Option Parts) (names more : List Entry) → NoneShadowed names →
    binders_free bs [] names ≡ Ok tt → bound_in bs kind o p names ≡ Some more → NoneShadowed more
bound_in_added bs kind o None names more w h k = none_some more k
bound_in_added bs kind o (Some Ts) names more w h k = binders_added bs kind o Ts names names more [] w (fresh_start names) h k

names_added : (is : List Ident) (T : Ty) (names more : List Entry) → NoneShadowed names → names_rule is T names ≡ Ok more →
    NoneShadowed more
names_added [] T names more w h = subst NoneShadowed (ok_ok names more h) w
names_added (i ∷ is) T names more w h =
    let u = then_ok (need (is_free i.text names) T01 i.span) (names_rule is T (names ++ variable i.text T ∷ [])) more h in
    names_added is T (names ++ variable i.text T ∷ []) more
    (added names (variable i.text T) w (need_ok (is_free i.text names) T01 i.span tt u.first)) u.then

module _ (t : Tests) where
  bound_added : (span : Span) (kind : LocalKind) (b : Bind) (e : Expr) (i : Initialised) (G : Scope) (d : Done) → NoneShadowed G.names →
      bound t span kind b e i G ≡ Ok d → NoneShadowed d.names
  bound_added span kind (Single (Bound x)) e i G d w h =
      let T : Ty = type_declared kind i.written i.value.ty in
      let c : Option Counted = initialised_as t T e G in
      let u = then_ok (need (is_free x.text G.names) T01 x.span) _ d h in
      let names : List Entry = G.names ++ declared kind x.text T c ∷ [] in
      subst NoneShadowed (ended_names G.class span true i.value.effect names (tree.Declare span i.written tree.whole i.value.tree) d u.then)
      (declared_added kind G.names x.text T c w (need_ok (is_free x.text G.names) T01 x.span tt u.first))
  bound_added span kind (Single (Unbound at)) e i G d w h =
      subst NoneShadowed
      (ended_names G.class span true i.value.effect G.names (tree.Declare span i.written tree.nothing i.value.tree) d h) w
  bound_added span kind (Several at bs) e i G d w h =
      let u = then_ok (binders_free bs [] G.names) _ d h in
      let o = bound_in bs kind i.written (tuple_parts (written_or i.written i.value.ty)) G.names in
      let v = bind_ok (found_or o T05 span) _ d u.then in
      subst NoneShadowed (ended_names G.class span true i.value.effect v.value (tree.Declare span i.written
      (tree.in_parts (taken bs)) i.value.tree) d v.then)
      (bound_in_added bs kind i.written (tuple_parts (written_or i.written i.value.ty)) G.names v.value w u.first
      (found_ok o T05 span v.value v.first))

  pub bind_added : (span : Span) (kind : LocalKind) (b : Bind) (ty : Option TypeExpr) (e : Expr) (G : Scope) (d : Done) →
      NoneShadowed G.names → bind_rule t span kind b ty e G ≡ Ok d → NoneShadowed d.names
  bind_added span kind b ty e G d w h = let u = bind_ok (initialised t ty e G) _ d h in bound_added span kind b e u.value G d w u.then

  pub vars_added : (span : Span) (is : List Ident) (ty : TypeExpr) (G : Scope) (d : Done) → NoneShadowed G.names →
      vars_rule t span is ty G ≡ Ok d → NoneShadowed d.names
  vars_added span is ty G d w h =
      let u = bind_ok (written t ty false G) _ d h in
      let v = bind_ok (names_rule is u.value.ty G.names) _ d u.then in
      subst NoneShadowed (ap (λ (z : Done). z.names) (ok_ok _ d v.then)) (names_added is u.value.ty G.names v.value w v.first)

  -- ---- signatures

  params_added : (ps : List WrittenParam) (pre : List Param) (base names : List Entry) (before after : List (List ℕ))
      (r : List Param × List Entry) → NoneShadowed names → Fresh base before names →
      params_free ps before base ≡ Ok after → params_rule t ps pre names ≡ Ok r → NoneShadowed r.1 × Fresh base after r.1
  params_added [] pre base names before after r w f h k =
      let here : Fresh base after names = subst (λ b. Fresh base b names) (ok_ok before after h) f in
      subst (λ (z : List Param × List Entry). NoneShadowed z.1 × Fresh base after z.1) (ok_ok (pre, names) r k) (w, here)
  params_added (p ∷ ps) pre base names before after r w f h k =
      let u = then_ok (need (is_free p.name.text base && not (has_name p.name.text before)) T01 p.name.span)
      (params_free ps (before ++ p.name.text ∷ []) base) after h in
      let v = bind_ok (param_written t p.ty names) _ r k in
      let e : Entry = param_entry p.name.text v.value (next_atom names) in
      params_added ps (pre ++ record { atom = next_atom names; ty = v.value } ∷ []) base (names ++ e ∷ [])
      (before ++ p.name.text ∷ []) after r
      (added names e w (tested base names before p.name f u.first)) (fresh_more base before names e f) u.then v.then

  formals_added : (fs : List Formal) (Ts : Parts) (base names : List Entry) (before : List (List ℕ)) → NoneShadowed names →
      Fresh base before names → formals_free fs before base ≡ Ok tt →
      NoneShadowed (with_formals fs Ts names)
  formals_added [] Ts base names before w f h = w
  formals_added (x ∷ fs) no_part base names before w f h = w
  formals_added (x ∷ fs) (part T Ts) base names before w f h =
      let u = then_ok (need (is_free x.name.text base && not (has_name x.name.text before)) T01 x.name.span)
      (formals_free fs (before ++ x.name.text ∷ []) base) tt h in
      let e : Entry = fixed x.name.text T (itself T names) in
      formals_added fs Ts base (names ++ e ∷ []) (before ++ x.name.text ∷ [])
      (added names e w (tested base names before x.name f u.first)) (fresh_more base before names e f) u.then

  pub head_added : (base : List Entry) (f : Func) (head : Head) → NoneShadowed base → signature_rule t base f ≡ Ok head →
      NoneShadowed head.names
  head_added base f head w h =
      let a = bind_ok (params_free f.params [] base) _ head h in
      let b = then_ok (formals_free f.formals a.value base) _ head a.then in
      let c = bind_ok (params_rule t f.params [] base) _ head b.then in
      let d = bind_ok (formals_rule t f.formals c.value.1) _ head c.then in
      let e = bind_ok (result_rule t f.result c.value.1) _ head d.then in
      let g = bind_ok (limit_typed t f.limit base) _ head e.then in
      let k = then_ok (params_are_integers t f.params c.value.0) _ head g.then in
      let l = bind_ok (limit_rule t f.limit g.value base) _ head k.then in
      let p = params_added f.params [] base base [] a.value c.value w (fresh_start base) a.first c.first in
      subst (λ (z : Head). NoneShadowed z.names) (ok_ok _ head l.then)
      (formals_added f.formals d.value base c.value.1 a.value p.0 p.1 b.first)

-- ---- what holds of each name holds of the one that is found

found_over : (A : ℕ → Type 0) (names : List Entry) → EachOver A names → (name : List ℕ) (x : Standing) →
    standing_of name names ≡ Some x → StandingOver A x × CountedOver A x
found_over A [] g name x h = none_some x h
found_over A (e ∷ es) g name x h = by (bytes_eq e.name name) (found_over A es g.1.1 name x) h
  where
    by : (b : Bool) → (standing_of name es ≡ Some x → StandingOver A x × CountedOver A x) →
        cond b (Some e.standing) (standing_of name es) ≡ Some x → StandingOver A x × CountedOver A x
    by true more k = subst (λ z. StandingOver A z × CountedOver A z) (some_same e.standing x k) (g.0, g.1.0)
    by false more k = more k

names_over : (A : ℕ → Type 0) (names : List Entry) → EachOver A names → NamesOver A names
names_over A names g = record {
  each = g;
  standing = λ name x h. (found_over A names g name x h).0;
  counts = λ name s c h q. ((found_over A names g name (Stored s) (stored_of (standing_of name names) s h)).1 s c refl q).0;
}

-- ---- the rules

pub outside_rules : (t : Tests) (ds : List Decl) → OutsideRules (names_of_program t ds)
outside_rules t ds = record {
  shadowed = of_once (names_of_program t ds) (names_once ds (final t ds));
  types = (program_over t Never ds).each;
}

heads_begin : (t : Tests) (base : List Entry) → NoneShadowed base → NamesOver Never base → (subs : List Signature) → SubsOver subs →
    (fs : List Func) (hs : List Head) → signatures_rule t base fs ≡ Ok hs → AllBegin subs hs
heads_begin t base w g subs s [] hs h = subst (AllBegin subs) (ok_ok [] hs h) tt
heads_begin t base w g subs s (f ∷ fs) hs h =
    let u = bind_ok (signature_rule t base f) _ hs h in
    let v = bind_ok (signatures_rule t base fs) _ hs u.then in
    subst (AllBegin subs) (ok_ok (u.value ∷ v.value) hs v.then) (
      record {
        shadowed =
            head_added t base f u.value w u.first;
        types = (signature_over t base f u.value g u.first).names.each;
        results = s;
      },
      heads_begin t base w g subs s fs v.value v.first,
    )

pub bodies_begin : (t : Tests) (ds : List Decl) (hs : List Head) → signatures_rule t (names_of_program t ds) (funcs_of ds) ≡ Ok hs →
    AllBegin (signatures hs) hs
bodies_begin t ds hs h =
    let base = names_of_program t ds in
    let o = outside_rules t ds in
    let g = program_over t Never ds in
    heads_begin t base o.shadowed g (signatures hs) (signatures_over t base (funcs_of ds) hs g h) (funcs_of ds) hs h

pub types_own : (t : Tests) (G : Scope) → KeepsRules G → TypesOwn t G
types_own t G k = record {
  typed = λ e S h. typed_over (Below G.names) t e G S (names_over (Below G.names) G.names k.types) k.results h;
  written = λ ty outside W h. written_over (Below G.names) t ty outside G W (names_over (Below G.names) G.names k.types) h;
}

kept : (t : Tests) → DeclarationsKeep t KeepsRules
kept t = record {
  bind = λ span kind b ty e G d k h. record {
    shadowed = bind_added t span kind b ty e G d k.shadowed h;
    types = (bind_over t span kind b ty e G d (names_over (Below G.names) G.names k.types) k.results h).each;
    results = k.results;
  };
  vars = λ span is ty G d k h. record {
    shadowed = vars_added t span is ty G d k.shadowed h;
    types = (vars_over t span is ty G d (names_over (Below G.names) G.names k.types) h).each;
    results = k.results;
  };
}

pub statements_keep : (t : Tests) (s : Stmt) (B : Body) (d : Done) → KeepsRules B.scope → found_stmt t s B ≡ Ok d →
    KeepsRules (record B.scope { names = d.names })
statements_keep t s B d k h = stmt_keeps t KeepsRules (kept t) s B d k h

pub indices_keep : (t : Tests) (i : Ident) (d : Direction) (a b : Expr) (B : Body) → KeepsRules B.scope →
    is_free i.text B.scope.names ≡ true → KeepsRules (with_index i (index_type t d a b B.scope) B).scope
indices_keep t i d a b B k f = record {
  shadowed = added B.scope.names (fixed i.text (index_type t d a b B.scope) (Some (atom_at (next_atom B.scope.names)))) k.shadowed f;
  types = (index_over t i d a b B (names_over (Below B.scope.names) B.scope.names k.types)).each;
  results = k.results;
}

pub caught_added : (o : Option Ident) (T : Ty) (B C : Body) → NoneShadowed B.scope.names → with_caught o T B ≡ Ok C → NoneShadowed C.scope.names
caught_added None T B C w h = subst (λ (z : Body). NoneShadowed z.scope.names) (ok_ok B C h) w
caught_added (Some i) T B C w h =
    let u = then_ok (need (is_free i.text B.scope.names) T01 i.span) _ C h in
    subst (λ (z : Body). NoneShadowed z.scope.names) (ok_ok (body_names B (B.scope.names ++ fixed i.text T None ∷ [])) C u.then)
    (added B.scope.names (fixed i.text T None) w (need_ok (is_free i.text B.scope.names) T01 i.span tt u.first))

caught_subs : (o : Option Ident) (T : Ty) (B C : Body) → SubsOver B.scope.subs → with_caught o T B ≡ Ok C → SubsOver C.scope.subs
caught_subs None T B C s h = subst (λ (z : Body). SubsOver z.scope.subs) (ok_ok B C h) s
caught_subs (Some i) T B C s h =
    let u = then_ok (need (is_free i.text B.scope.names) T01 i.span) _ C h in
    subst (λ (z : Body). SubsOver z.scope.subs) (ok_ok (body_names B (B.scope.names ++ fixed i.text T None ∷ [])) C u.then) s

pub catchers_keep : (t : Tests) (o : Option Ident) (name : List ℕ) (T : Ty) (B C : Body) → KeepsRules B.scope →
    type_of_name name B.scope.names ≡ Some T → with_caught o T B ≡ Ok C → KeepsRules C.scope
catchers_keep t o name T B C k q h = record {
  shadowed = caught_added o T B C k.shadowed h;
  types = (caught_over t o T name B C (names_over (Below B.scope.names) B.scope.names k.types) q h).each;
  results = caught_subs o T B C k.results h;
}
