-- The scopes of bodies: outside bodies no name counts in widths, and each name that a signature or a statement adds keeps that a `let` counts as names that
-- stand for themselves.
use Rattle.std.proofs.Common.{◌≡◌, ℕ, Bool, true, false, ◌&&◌, List, [], ◌∷◌, ◌++◌, length, Option, Some, None, Result, Ok, Err, refl, sym, ap, ◌∙◌, subst}
use Rattle.std.specs.Prelude.{if◌then◌else◌, not}
use Rattle.std.specs.Str.{bytes_eq}
use Rattle.asl_syn.specs.declared.token.Span.{Span}
use Rattle.asl_syn.specs.declared.code.Fault.{Fault}
use Rattle.asl_syn.specs.declared.code.StaticCode.TheVariants.{T01, T05, T12, T13}
use Rattle.asl_syn.specs.declared.tree.Expr.{Expr}
use Rattle.asl_syn.specs.declared.tree.TypeExpr.{TypeExpr}
use Rattle.asl_syn.specs.declared.tree.Ident.{Ident}
use Rattle.asl_syn.specs.declared.tree.Formal.{Formal}
use Rattle.asl_syn.specs.declared.tree.Param.{Param as WrittenParam}
use Rattle.asl_syn.specs.declared.tree.TypeDef.{TypeDef}
use Rattle.asl_syn.specs.declared.tree.TypeDef.TheVariants as td
use Rattle.asl_syn.specs.declared.tree.Decl.{Decl}
use Rattle.asl_syn.specs.declared.tree.Decl.TheVariants as dc
use Rattle.asl_syn.specs.declared.tree.Func.{Func}
use Rattle.asl_syn.specs.declared.tree.LocalKind.{LocalKind}
use Rattle.asl_syn.specs.declared.tree.LocalKind.TheVariants as local
use Rattle.asl_syn.specs.declared.tree.Binder.{Binder}
use Rattle.asl_syn.specs.declared.tree.Binder.TheVariants.{Bound, Unbound}
use Rattle.asl_syn.specs.declared.tree.Bind.{Bind}
use Rattle.asl_syn.specs.declared.tree.Bind.TheVariants.{Single, Several}
use Rattle.asl_rules.specs.declared.effect.Effect.{Effect}
use Rattle.asl_rules.specs.Faults.{◌>>◌, need, found_or}
use Rattle.asl_rules.specs.Tests.{Tests}
use Rattle.asl_rules.specs.types.Types.{Ty, Parts, no_part, part, is_integer, tuple_parts}
use Rattle.asl_rules.specs.runs.Trees as tree
use Rattle.asl_rules.specs.runs.Trees.{Act}
use Rattle.asl_rules.specs.types.Effects.{at_most}
use Rattle.asl_rules.specs.declarations.Scopes.{Scope, Entry, Storage, Standing, Stored, Subprogram, TypeName, Label, Param, Counted, atom_at, next_atom, fixed, variable, subprogram, standing_of, storage_of, is_free, is_absent}
use Rattle.asl_rules.specs.expressions.Typing.{Width}
use Rattle.asl_rules.specs.values.Members.{has_name}
use Rattle.asl_rules.specs.expressions.Exprs.{found, written}
use Rattle.asl_rules.specs.statements.Acting.{Done, done, ended}
use Rattle.asl_rules.specs.declarations.Declarations.{def_rule, supertype_rule, label_entries, storage_rule, is_var, decl_rule, in_names}
use Rattle.asl_rules.specs.declarations.Turns.{names_of_program}
use Rattle.asl_rules.specs.statements.Locals.{Initialised, taken, itself, counted_as, initialised_as, declared, type_declared, part_declared, written_or, initialised, binders_free, bound_parts, bound_in, bound, bind_rule, names_rule, vars_rule}
use Rattle.asl_rules.specs.declarations.Programs.{Head, params_free, formals_free, param_written, param_entry, type_or_itself, params_rule, formals_rule, result_rule, limit_typed, params_are_integers, limit_rule, with_formals, signature_rule}
use Rattle.asl_rules.specs.private.Worth.{WellCounted}
use Rattle.asl_rules.proofs.basics.Inversions.{ok_ok, bind_ok, then_ok, need_ok, found_ok}
use Rattle.asl_rules.proofs.basics.Tests.{no, none_some, some_same, both}
use Rattle.asl_rules.proofs.widths.Counting.{NewCounted, stored_of, well_kept, variable_counts, let_counts, atom_counts}
use Rattle.asl_rules.proofs.widths.WidthAtoms.{width_is_alone}
use Rattle.asl_rules.proofs.widths.WidthsHeld.{width_is_held}
use Rattle.asl_rules.proofs.verdict.EachName.{EachName, name_has, visible_have}

-- ---- names outside bodies count as nothing

abbrev IsUncounted : Standing → Type 0
IsUncounted (Stored s) = s.counted ≡ None
IsUncounted Subprogram = Unit {0}
IsUncounted (TypeName T) = Unit {0}
IsUncounted (Label T x) = Unit {0}

abbrev AllUncounted : List Entry → Type 0
AllUncounted es = EachName (λ e. IsUncounted e.standing) es

uncounted_at : (name : List ℕ) (es : List Entry) (x : Standing) → AllUncounted es → standing_of name es ≡ Some x → IsUncounted x
uncounted_at name es x a h = name_has (λ n st. IsUncounted st) es name x a h

uncounted_stored : (name : List ℕ) (es : List Entry) (s : Storage) → AllUncounted es → storage_of name es ≡ Some s → s.counted ≡ None
uncounted_stored name es s a h = uncounted_at name es (Stored s) a (stored_of (standing_of name es) s h)

pub well_uncounted : (es : List Entry) → AllUncounted es → WellCounted es
well_uncounted es a = record {
  alone = λ name s c h q. none_some c (sym (uncounted_stored name es s a h) ∙ q);
  within = λ name s c h q. none_some c (sym (uncounted_stored name es s a h) ∙ q);
  unknown = λ name s c h q. none_some c (sym (uncounted_stored name es s a h) ∙ q);
}

-- ---- declarations

labels_uncounted : (def : TypeDef) (name : List ℕ) (T : Ty) → AllUncounted (label_entries def name T)
labels_uncounted (td.Alias ty) name T = tt
labels_uncounted (td.Labels span is) name T = each is
  where
    each : (is : List Ident) → AllUncounted (label_entries (td.Labels span is) name T)
    each [] = tt
    each (i ∷ is) = (tt, each is)
labels_uncounted (td.Record span fs) name T = tt
labels_uncounted (td.Exception span fs) name T = tt

decl_uncounted : (t : Tests) (d : Decl) (G : Scope) (es : List Entry) → decl_rule t d G ≡ Ok es → AllUncounted es
decl_uncounted t (dc.Type d) G es h =
    let u = bind_ok (def_rule t d.name.text d.def G) _ es h in
    let v = bind_ok (supertype_rule t d.supertype u.value G) _ es u.then in
    subst (λ z. AllUncounted z) (ok_ok _ es v.then) (tt, labels_uncounted d.def d.name.text _)
decl_uncounted t (dc.Storage d) G es h =
    let u = bind_ok (storage_rule t d (is_var d.kind) d.ty d.init G) _ es h in
    subst (λ z. AllUncounted z) (ok_ok _ es u.then) (refl, tt)
decl_uncounted t (dc.Func f) G es h = subst (λ z. AllUncounted z) (ok_ok (subprogram f.name.text ∷ []) es h) (tt, tt)

-- the names that are visible in all bodies
pub names_counted : (t : Tests) (ds : List Decl) → WellCounted (names_of_program t ds)
names_counted t ds =
    well_uncounted (names_of_program t ds)
    (visible_have (λ e. IsUncounted e.standing) (λ n. tt) t ds (λ d i. refl)
    (λ d i names a es h. decl_uncounted t d (in_names names) es h) (length ds))

-- ---- names that aren't visible yet

abbrev pub Fresh : List Entry → List (List ℕ) → List Entry → Type 0
Fresh base before names = (n : List ℕ) → is_free n base ≡ true → has_name n before ≡ false → is_free n names ≡ true

pub fresh_start : (base : List Entry) → Fresh base [] base
fresh_start base n f h = f

if_false : (b : Bool) → (if b then true else false) ≡ false → b ≡ false
if_false true h = h
if_false false h = refl

split_if : {A : Type 0} (b r s : Bool) → (if b then true else r) ≡ false → (r ≡ false → (s ≡ false) × A) → ((if b then true else s) ≡ false) × A
split_if true r s h f = no (sym h)
split_if false r s h f = f h

has_split : (n : List ℕ) (before : List (List ℕ)) (m : List ℕ) → has_name n (before ++ m ∷ []) ≡ false → (has_name n before ≡ false) × (bytes_eq m n ≡ false)
has_split n [] m h = (refl, if_false (bytes_eq m n) h)
has_split n (x ∷ xs) m h = split_if (bytes_eq x n) (has_name n (xs ++ m ∷ [])) (has_name n xs) h (λ k. has_split n xs m k)

snoc_if : (b : Bool) (x : Standing) (o p : Option Standing) → is_absent (if b then Some x else o) ≡ true → (is_absent o ≡ true → is_absent p ≡ true) → is_absent (if b then Some x else p) ≡ true
snoc_if true x o p f g = no f
snoc_if false x o p f g = g f

only_if : (b : Bool) (x : Standing) → b ≡ false → is_absent (if b then Some x else None) ≡ true
only_if true x h = no (sym h)
only_if false x h = refl

free_snoc : (names : List Entry) (e : Entry) (n : List ℕ) → is_free n names ≡ true → bytes_eq e.name n ≡ false → is_free n (names ++ e ∷ []) ≡ true
free_snoc [] e n f h = only_if (bytes_eq e.name n) e.standing h
free_snoc (d ∷ ds) e n f h = snoc_if (bytes_eq d.name n) d.standing (standing_of n ds) (standing_of n (ds ++ e ∷ [])) f (λ k. free_snoc ds e n k h)

-- one name more
pub fresh_more : (base : List Entry) (before : List (List ℕ)) (names : List Entry) (e : Entry) → Fresh base before names → Fresh base (before ++ e.name ∷ []) (names ++ e ∷ [])
fresh_more base before names e f n g h = let p = has_split n before e.name h in free_snoc names e n (f n g p.0) p.1

not_false : (b : Bool) → not b ≡ true → b ≡ false
not_false true h = sym h
not_false false h = refl

-- a name that was tested isn't visible
pub tested : (base names : List Entry) (before : List (List ℕ)) (i : Ident) → Fresh base before names → need (is_free i.text base && not (has_name i.text before)) T01 i.span ≡ Ok tt → is_free i.text names ≡ true
tested base names before i f h =
    let p = both (is_free i.text base) (not (has_name i.text before)) (need_ok (is_free i.text base && not (has_name i.text before)) T01 i.span tt h) in
    f i.text p.0 (not_false (has_name i.text before) p.1)

-- ---- each name that is added

pub stored_is : (z s : Storage) → Stored z ≡ Stored s → z ≡ s
stored_is z s h = cc

pub plain_counts : (names : List Entry) (name : List ℕ) (T : Ty) → NewCounted names (fixed name T None)
plain_counts names name T s c k q = none_some c (sym (ap (λ (z : Storage). z.counted) (sym (stored_is _ s k))) ∙ q)

itself_if : (b : Bool) (names : List Entry) (name : List ℕ) (T : Ty) → is_free name names ≡ true → NewCounted names (fixed name T (if b then Some (atom_at (next_atom names)) else None))
itself_if true names name T f = atom_counts names name T f
itself_if false names name T f = plain_counts names name T

pub itself_counts : (names : List Entry) (name : List ℕ) (T : Ty) → is_free name names ≡ true → NewCounted names (fixed name T (itself T names))
itself_counts names name T f = itself_if (is_integer T) names name T f

pub part_counts : (kind : LocalKind) (names : List Entry) (name : List ℕ) (T : Ty) → is_free name names ≡ true → NewCounted names (declared kind name T (itself T names))
part_counts local.Let names name T f = itself_counts names name T f
part_counts local.Var names name T f = variable_counts names name T

module _ (t : Tests) where
  counted_by : (e : Expr) (G : Scope) (name : List ℕ) (T : Ty) → WellCounted G.names → is_free name G.names ≡ true → (r : Result Width Fault) → (found t e).width G ≡ r →
      NewCounted G.names (fixed name T (Some (counted_as r ((found t e).has_atom G) (next_atom G.names))))
  counted_by e G name T w f (Ok v) q = let_counts G.names name T (record { poly = v.poly; has_atom = (found t e).has_atom G }) (width_is_alone t e G w v q) (width_is_held t e G w.within v q)
  counted_by e G name T w f (Err x) q = atom_counts G.names name T f

  initialised_if : (b : Bool) (e : Expr) (G : Scope) (name : List ℕ) (T : Ty) → WellCounted G.names → is_free name G.names ≡ true →
      NewCounted G.names (fixed name T (if b then Some (counted_as ((found t e).width G) ((found t e).has_atom G) (next_atom G.names)) else None))
  initialised_if true e G name T w f = counted_by e G name T w f ((found t e).width G) refl
  initialised_if false e G name T w f = plain_counts G.names name T

  pub declared_counts : (kind : LocalKind) (e : Expr) (G : Scope) (name : List ℕ) (T : Ty) → WellCounted G.names → is_free name G.names ≡ true → NewCounted G.names (declared kind name T (initialised_as t T e G))
  declared_counts local.Let e G name T w f = initialised_if (is_integer T) e G name T w f
  declared_counts local.Var e G name T w f = variable_counts G.names name T

  -- ---- parameters and formals

  params_counted : (ps : List WrittenParam) (pre : List Param) (base names : List Entry) (before after : List (List ℕ)) (r : List Param × List Entry) → WellCounted names → Fresh base before names →
      params_free ps before base ≡ Ok after → params_rule t ps pre names ≡ Ok r → WellCounted r.1 × Fresh base after r.1
  params_counted [] pre base names before after r w f h k =
      let here : Fresh base after names = subst (λ b. Fresh base b names) (ok_ok before after h) f in
      subst (λ (z : List Param × List Entry). WellCounted z.1 × Fresh base after z.1) (ok_ok (pre, names) r k) (w, here)
  params_counted (p ∷ ps) pre base names before after r w f h k =
      let u = then_ok (need (is_free p.name.text base && not (has_name p.name.text before)) T01 p.name.span) (params_free ps (before ++ p.name.text ∷ []) base) after h in
      let v = bind_ok (param_written t p.ty names) _ r k in
      let e : Entry = param_entry p.name.text v.value (next_atom names) in
      params_counted ps (pre ++ record { atom = next_atom names; ty = v.value } ∷ []) base (names ++ e ∷ []) (before ++ p.name.text ∷ []) after r
      (well_kept names e w (atom_counts names p.name.text (type_or_itself v.value (next_atom names)) (tested base names before p.name f u.first)))
      (fresh_more base before names e f) u.then v.then

  formals_counted : (fs : List Formal) (Ts : Parts) (base names : List Entry) (before : List (List ℕ)) → WellCounted names → Fresh base before names → formals_free fs before base ≡ Ok tt →
      WellCounted (with_formals fs Ts names)
  formals_counted [] Ts base names before w f h = w
  formals_counted (x ∷ fs) no_part base names before w f h = w
  formals_counted (x ∷ fs) (part T Ts) base names before w f h =
      let u = then_ok (need (is_free x.name.text base && not (has_name x.name.text before)) T01 x.name.span) (formals_free fs (before ++ x.name.text ∷ []) base) tt h in
      let e : Entry = fixed x.name.text T (itself T names) in
      formals_counted fs Ts base (names ++ e ∷ []) (before ++ x.name.text ∷ [])
      (well_kept names e w (itself_counts names x.name.text T (tested base names before x.name f u.first))) (fresh_more base before names e f) u.then

  -- the names that a body begins with
  pub signature_counted : (base : List Entry) (f : Func) (head : Head) → WellCounted base → signature_rule t base f ≡ Ok head → WellCounted head.names
  signature_counted base f head w h =
      let a = bind_ok (params_free f.params [] base) _ head h in
      let b = then_ok (formals_free f.formals a.value base) _ head a.then in
      let c = bind_ok (params_rule t f.params [] base) _ head b.then in
      let d = bind_ok (formals_rule t f.formals c.value.1) _ head c.then in
      let e = bind_ok (result_rule t f.result c.value.1) _ head d.then in
      let g = bind_ok (limit_typed t f.limit base) _ head e.then in
      let k = then_ok (params_are_integers t f.params c.value.0) _ head g.then in
      let l = bind_ok (limit_rule t f.limit g.value base) _ head k.then in
      let p = params_counted f.params [] base base [] a.value c.value w (fresh_start base) a.first c.first in
      subst (λ (z : Head). WellCounted z.names) (ok_ok _ head l.then) (formals_counted f.formals d.value base c.value.1 a.value p.0 p.1 b.first)

-- ---- declarations in bodies

pub ended_names : (class : Effect) (span : Span) (ok : Bool) (k : Effect) (names : List Entry) (act : Act) (d : Done) → ended class span ok k names act ≡ Ok d → names ≡ d.names
ended_names class span ok k names act d h =
    let u = then_ok (need ok T13 span) (need (at_most k class) T12 span >> Ok (done names k act)) d h in
    let v = then_ok (need (at_most k class) T12 span) (Ok (done names k act)) d u.then in
    ap (λ (z : Done). z.names) (ok_ok (done names k act) d v.then)

binders_counted : (bs : List Binder) (kind : LocalKind) (o : Option Ty) (Ts : Parts) (base names more : List Entry) (before : List (List ℕ)) → WellCounted names → Fresh base before names →
    binders_free bs before base ≡ Ok tt → bound_parts bs kind o Ts names ≡ Some more → WellCounted more
binders_counted [] kind o no_part base names more before w f h k = subst WellCounted (some_same names more k) w
binders_counted [] kind o (part T Ts) base names more before w f h k = none_some more k
binders_counted (Bound i ∷ bs) kind o no_part base names more before w f h k = none_some more k
binders_counted (Unbound at ∷ bs) kind o no_part base names more before w f h k = none_some more k
binders_counted (Bound i ∷ bs) kind o (part T Ts) base names more before w f h k =
    let u = then_ok (need (is_free i.text base && not (has_name i.text before)) T01 i.span) (binders_free bs (before ++ i.text ∷ []) base) tt h in
    let e : Entry = declared kind i.text (part_declared kind o T) (itself (part_declared kind o T) names) in
    binders_counted bs kind o Ts base (names ++ e ∷ []) more (before ++ i.text ∷ [])
    (well_kept names e w (part_counts kind names i.text (part_declared kind o T) (tested base names before i f u.first)))
    (fresh_declared kind base before names i.text (part_declared kind o T) (itself (part_declared kind o T) names) f) u.then k
  where
    fresh_declared : (kind : LocalKind) (base : List Entry) (before : List (List ℕ)) (names : List Entry) (name : List ℕ) (T : Ty) (c : Option Counted) → Fresh base before names →
        Fresh base (before ++ name ∷ []) (names ++ declared kind name T c ∷ [])
    fresh_declared local.Let base before names name T c f = fresh_more base before names (fixed name T c) f
    fresh_declared local.Var base before names name T c f = fresh_more base before names (variable name T) f
binders_counted (Unbound at ∷ bs) kind o (part T Ts) base names more before w f h k = binders_counted bs kind o Ts base names more before w f h k

bound_in_counted : (bs : List Binder) (kind : LocalKind) (o : Option Ty) (p : Option Parts) (names more : List Entry) → WellCounted names →
    binders_free bs [] names ≡ Ok tt → bound_in bs kind o p names ≡ Some more → WellCounted more
bound_in_counted bs kind o None names more w h k = none_some more k
bound_in_counted bs kind o (Some Ts) names more w h k = binders_counted bs kind o Ts names names more [] w (fresh_start names) h k

names_rule_counted : (is : List Ident) (T : Ty) (names more : List Entry) → WellCounted names → names_rule is T names ≡ Ok more → WellCounted more
names_rule_counted [] T names more w h = subst WellCounted (ok_ok names more h) w
names_rule_counted (i ∷ is) T names more w h =
    let u = then_ok (need (is_free i.text names) T01 i.span) (names_rule is T (names ++ variable i.text T ∷ [])) more h in
    names_rule_counted is T (names ++ variable i.text T ∷ []) more (well_kept names (variable i.text T) w (variable_counts names i.text T)) u.then

module _ (t : Tests) where
  bound_counted : (span : Span) (kind : LocalKind) (b : Bind) (e : Expr) (i : Initialised) (G : Scope) (d : Done) → WellCounted G.names → bound t span kind b e i G ≡ Ok d → WellCounted d.names
  bound_counted span kind (Single (Bound x)) e i G d w h =
      let T : Ty = type_declared kind i.written i.value.ty in
      let u = then_ok (need (is_free x.text G.names) T01 x.span) _ d h in
      let names : List Entry = G.names ++ declared kind x.text T (initialised_as t T e G) ∷ [] in
      subst WellCounted (ended_names G.class span true i.value.effect names (tree.Declare span i.written tree.whole i.value.tree) d u.then)
      (well_kept G.names (declared kind x.text T (initialised_as t T e G)) w (declared_counts t kind e G x.text T w (need_ok (is_free x.text G.names) T01 x.span tt u.first)))
  bound_counted span kind (Single (Unbound at)) e i G d w h = subst WellCounted (ended_names G.class span true i.value.effect G.names (tree.Declare span i.written tree.nothing i.value.tree) d h) w
  bound_counted span kind (Several at bs) e i G d w h =
      let u = then_ok (binders_free bs [] G.names) _ d h in
      let v = bind_ok (found_or (bound_in bs kind i.written (tuple_parts (written_or i.written i.value.ty)) G.names) T05 span) _ d u.then in
      subst WellCounted (ended_names G.class span true i.value.effect v.value (tree.Declare span i.written (tree.in_parts (taken bs)) i.value.tree) d v.then)
      (bound_in_counted bs kind i.written (tuple_parts (written_or i.written i.value.ty)) G.names v.value w u.first
      (found_ok (bound_in bs kind i.written (tuple_parts (written_or i.written i.value.ty)) G.names) T05 span v.value v.first))

  -- the names that are visible behind a declaration
  pub bind_counted : (span : Span) (kind : LocalKind) (b : Bind) (ty : Option TypeExpr) (e : Expr) (G : Scope) (d : Done) → WellCounted G.names → bind_rule t span kind b ty e G ≡ Ok d → WellCounted d.names
  bind_counted span kind b ty e G d w h = let u = bind_ok (initialised t ty e G) _ d h in bound_counted span kind b e u.value G d w u.then

  pub vars_counted : (span : Span) (is : List Ident) (ty : TypeExpr) (G : Scope) (d : Done) → WellCounted G.names → vars_rule t span is ty G ≡ Ok d → WellCounted d.names
  vars_counted span is ty G d w h =
      let u = bind_ok (written t ty false G) _ d h in
      let v = bind_ok (names_rule is u.value.ty G.names) _ d u.then in
      subst WellCounted (ap (λ (z : Done). z.names) (ok_ok _ d v.then)) (names_rule_counted is u.value.ty G.names v.value w v.first)
