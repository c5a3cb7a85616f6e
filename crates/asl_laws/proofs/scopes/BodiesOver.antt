-- The scopes of bodies: the types of their names have atoms of names of that body alone, and results atoms of parameters alone.
use Rattle.std.proofs.Common.{◌≡◌, ◌⊎◌, inl, inr, ℕ, ◌<◌, ◌≤◌, Bool, true, false, List, [], ◌∷◌, ◌++◌, Option, Some, None, Result, Ok, Err, refl, sym, ap, ◌∙◌, subst, arith}
use Rattle.std.specs.Prelude.{if◌then◌else◌}
use Rattle.asl_syn.specs.declared.token.Span.{Span}
use Rattle.asl_syn.specs.declared.code.Fault.{Fault}
use Rattle.asl_syn.specs.declared.code.StaticCode.TheVariants.{T01, T05}
use Rattle.asl_syn.specs.declared.tree.Expr.{Expr}
use Rattle.asl_syn.specs.declared.tree.TypeExpr.{TypeExpr}
use Rattle.asl_syn.specs.declared.tree.Ident.{Ident}
use Rattle.asl_syn.specs.declared.tree.Formal.{Formal}
use Rattle.asl_syn.specs.declared.tree.Param.{Param as WrittenParam}
use Rattle.asl_syn.specs.declared.tree.Func.{Func}
use Rattle.asl_syn.specs.declared.tree.LocalKind.{LocalKind}
use Rattle.asl_syn.specs.declared.tree.LocalKind.TheVariants as local
use Rattle.asl_syn.specs.declared.tree.Binder.{Binder}
use Rattle.asl_syn.specs.declared.tree.Binder.TheVariants.{Bound, Unbound}
use Rattle.asl_syn.specs.declared.tree.Bind.{Bind}
use Rattle.asl_syn.specs.declared.tree.Bind.TheVariants.{Single, Several}
use Rattle.asl_syn.specs.declared.tree.Direction.{Direction}
use Rattle.asl_syn.specs.declared.tree.Direction.TheVariants.{Up, Down}
use Rattle.asl_poly.specs.Poly.{atom_map}
use Rattle.asl_rules.specs.Faults.{need, found_or}
use Rattle.asl_rules.specs.Tests.{Tests}
use Rattle.asl_rules.specs.types.Types.{Ty, Parts, tuple_of, named, no_part, part, is_integer, tuple_parts}
use Rattle.asl_rules.specs.runs.Trees as tree
use Rattle.asl_rules.specs.declarations.Scopes.{Scope, Body, Entry, Storage, Standing, Stored, Subprogram, TypeName, Label, Param, Counted, is_local, next_atom, atom_at, fixed, variable, standing_of, storage_in, is_free, type_of_name}
use Rattle.asl_rules.specs.expressions.Typing.{Width, Operand}
use Rattle.asl_rules.specs.types.Writing.{WrittenPart, range_rule}
use Rattle.asl_rules.specs.expressions.Exprs.{found, typed, written}
use Rattle.asl_rules.specs.statements.Acting.{Done, operand_of, fits}
use Rattle.asl_rules.specs.statements.Locals.{Initialised, initialised_with, taken, itself, counted_as, initialised_as, declared, unannotated, type_declared, part_declared, written_or, initialised, binders_free, bound_parts, bound_in, bound, bind_rule, names_rule, vars_rule}
use Rattle.asl_rules.specs.statements.Branches.{of_range, index_type, with_index, with_caught}
use Rattle.asl_rules.specs.declarations.Declarations.{in_names}
use Rattle.asl_rules.specs.declarations.Programs.{Head, signatures, params_free, formals_free, param_written, param_entry, type_or_itself, params_rule, formals_rule, result_rule, limit_typed, params_are_integers, limit_rule, with_formals, signature_rule, signatures_rule}
use Rattle.asl_rules.proofs.basics.Inversions.{ok_ok, bind_ok, then_ok, found_ok}
use Rattle.asl_rules.proofs.basics.Tests.{none_some, some_same}
use Rattle.asl_rules.proofs.widths.Counting.{stored_of, standing_back, no_fewer, atoms_snoc}
use Rattle.asl_rules.proofs.widths.ScopesCounted.{ended_names, stored_is}
use Rattle.asl_rules.proofs.widths.WidthAtoms.{Good, CountsOver, width_is_over}
use Rattle.asl_laws.proofs.widths.TypesOver.{Never, Over, AllOver, over_more, all_more, atoms_more, widened_over, only_width_over}
use Rattle.asl_laws.proofs.scopes.OverScope.{StandingOver, CountedOver, EachOver, NamesOver, IsAtomOf, ResultOver, SubsOver, type_over, range_by, typed_over, written_over}
use Rattle.asl_laws.proofs.scopes.ScopesOver.{Below}

-- ---- one name more

each_snoc : (A : ℕ → Type 0) (names : List Entry) (e : Entry) → EachOver A names → StandingOver A e.standing → CountedOver A e.standing → EachOver A (names ++ e ∷ [])
each_snoc A [] e g st f = (st, (f, tt))
each_snoc A (x ∷ names) e g st f = (g.0, (g.1.0, each_snoc A names e g.1.1 st f))

pub added_over : (A : ℕ → Type 0) (names : List Entry) (e : Entry) → NamesOver A names → StandingOver A e.standing → CountedOver A e.standing → NamesOver A (names ++ e ∷ [])
added_over A names e g st f = record {
  each = each_snoc A names e g.each st f;
  standing = λ name x h. elim (standing_back name names e x h) [ inl k ↦ g.standing name x k | inr k ↦ subst (λ z. StandingOver A z) k st ];
  counts = λ name s c h q. elim (standing_back name names e (Stored s) (stored_of (standing_of name (names ++ e ∷ [])) s h)) [
    | inl k ↦ g.counts name s c (ap storage_in k) q
    | inr k ↦ (f s c k q).0
  ];
}

module _ (A B : ℕ → Type 0) (more : (n : ℕ) → A n → B n) where
  standing_more : (x : Standing) → StandingOver A x → StandingOver B x
  standing_more (Stored s) h = over_more A B more s.ty h
  standing_more Subprogram h = tt
  standing_more (TypeName T) h = over_more A B more T h
  standing_more (Label T x) h = over_more A B more T h

  each_more : (names : List Entry) → EachOver A names → EachOver B names
  each_more [] g = tt
  each_more (e ∷ names) g = (standing_more e.standing g.0, ((λ s c k q. (atoms_more A B more c.poly.terms (g.1.0 s c k q).0, (g.1.0 s c k q).1)), each_more names g.1.1))

  pub names_more : (names : List Entry) → NamesOver A names → NamesOver B names
  names_more names g = record {
    each = each_more names g.each;
    standing = λ name x h. standing_more x (g.standing name x h);
    counts = λ name s c h q. atoms_more A B more c.poly.terms (g.counts name s c h q);
  }

atom_good : (A : ℕ → Type 0) (n : ℕ) → A n → Good A (atom_map n)
unfolding atom_map
atom_good A n h = ((h, tt), tt)

pub below_more : (names more : List Entry) (n : ℕ) → n < next_atom names → n < next_atom (names ++ more)
below_more names more n h = let k : next_atom names ≤ next_atom (names ++ more) = no_fewer names more in omega (arith, h, k)

-- a name of a body
pub local_added : (names : List Entry) (e : Entry) → NamesOver (Below names) names → StandingOver (Below (names ++ e ∷ [])) e.standing → CountedOver (Below (names ++ e ∷ [])) e.standing →
    NamesOver (Below (names ++ e ∷ [])) (names ++ e ∷ [])
local_added names e g st f = added_over (Below (names ++ e ∷ [])) names e (names_more (Below names) (Below (names ++ e ∷ [])) (below_more names (e ∷ [])) names g) st f

-- what the storage of a name counts as
pub counted_in : (A : ℕ → Type 0) (name : List ℕ) (T : Ty) (o : Option Counted) → ((c : Counted) → o ≡ Some c → Good A c.poly) → CountedOver A (fixed name T o).standing
counted_in A name T o f s c k q = (f c (ap (λ (z : Storage). z.counted) (stored_is _ s k) ∙ q), ap (λ (z : Storage). z.is_mutable) (sym (stored_is _ s k)))

variable_in : (A : ℕ → Type 0) (name : List ℕ) (T : Ty) → CountedOver A (variable name T).standing
variable_in A name T s c k q = none_some c (ap (λ (z : Storage). z.counted) (stored_is _ s k) ∙ q)

-- a name that stands for itself
pub itself_in : (A : ℕ → Type 0) (n : ℕ) (c : Counted) → A n → Some (atom_at n) ≡ Some c → Good A c.poly
itself_in A n c h q = subst (λ (z : Counted). Good A z.poly) (some_same (atom_at n) c q) (atom_good A n h)

pub if_itself : (A : ℕ → Type 0) (b : Bool) (n : ℕ) (c : Counted) → A n → (if b then Some (atom_at n) else None) ≡ Some c → Good A c.poly
if_itself A true n c h q = itself_in A n c h q
if_itself A false n c h q = none_some c q

-- ---- parameters

in_before : (ps : List Param) (q : Param) (n : ℕ) → IsAtomOf ps n → IsAtomOf (ps ++ q ∷ []) n
in_before [] q n h = absurd h
in_before (p ∷ ps) q n (inl e) = inl e
in_before (p ∷ ps) q n (inr h) = inr (in_before ps q n h)

in_last : (ps : List Param) (q : Param) → IsAtomOf (ps ++ q ∷ []) q.atom
in_last [] q = inl refl
in_last (p ∷ ps) q = inr (in_last ps q)

in_either : (ps : List Param) (q : Param) (n : ℕ) → IsAtomOf (ps ++ q ∷ []) n → IsAtomOf ps n ⊎ (n ≡ q.atom)
in_either [] q n (inl e) = inr e
in_either [] q n (inr h) = absurd h
in_either (p ∷ ps) q n (inl e) = inl (inl e)
in_either (p ∷ ps) q n (inr h) = behind (in_either ps q n h)
  where
    behind : IsAtomOf ps n ⊎ (n ≡ q.atom) → IsAtomOf (p ∷ ps) n ⊎ (n ≡ q.atom)
    behind (inl k) = inl (inr k)
    behind (inr e) = inr e

-- the atoms of parameters are those of names
abbrev pub AreBelow : List Param → List Entry → Type 0
AreBelow ps names = (n : ℕ) → IsAtomOf ps n → n < next_atom names

one_below : (ps : List Param) (q : Param) (names : List Entry) (e : Entry) → q.atom ≡ next_atom names → is_local e.standing ≡ true → AreBelow ps names → AreBelow (ps ++ q ∷ []) (names ++ e ∷ [])
one_below ps q names e at l b n h = elim (in_either ps q n h) [
  | inl k ↦ below_more names (e ∷ []) n (b n k)
  | inr k ↦ subst (λ m. m < next_atom (names ++ e ∷ [])) (sym (k ∙ at)) (atoms_snoc names e l)
]

module _ (t : Tests) where
  pub param_over : (A : ℕ → Type 0) (o : Option TypeExpr) (names : List Entry) (w : Option Ty) (n : ℕ) → NamesOver A names → A n → param_written t o names ≡ Ok w → Over A (type_or_itself w n)
  param_over A None names w n g h k = subst (λ z. Over A (type_or_itself z n)) (ok_ok None w k) (only_width_over A (atom_map n) (atom_good A n h))
  param_over A (Some ty) names w n g h k =
      let u = bind_ok (written t ty false (in_names names)) _ w k in
      subst (λ z. Over A (type_or_itself z n)) (ok_ok (Some u.value.ty) w u.then) (written_over A t ty false (in_names names) u.value g u.first)

  pub params_over : (ps : List WrittenParam) (pre : List Param) (names : List Entry) (r : List Param × List Entry) → NamesOver (IsAtomOf pre) names → AreBelow pre names → params_rule t ps pre names ≡ Ok r →
      NamesOver (IsAtomOf r.0) r.1 × AreBelow r.0 r.1
  params_over [] pre names r g b k = subst (λ (z : List Param × List Entry). NamesOver (IsAtomOf z.0) z.1 × AreBelow z.0 z.1) (ok_ok (pre, names) r k) (g, b)
  params_over (p ∷ ps) pre names r g b k =
      let v = bind_ok (param_written t p.ty names) _ r k in
      let q : Param = record { atom = next_atom names; ty = v.value } in
      let e : Entry = param_entry p.name.text v.value (next_atom names) in
      let m : NamesOver (IsAtomOf (pre ++ q ∷ [])) names = names_more (IsAtomOf pre) (IsAtomOf (pre ++ q ∷ [])) (in_before pre q) names g in
      params_over ps (pre ++ q ∷ []) (names ++ e ∷ []) r
      (added_over (IsAtomOf (pre ++ q ∷ [])) names e m (param_over (IsAtomOf (pre ++ q ∷ [])) p.ty names v.value (next_atom names) m (in_last pre q) v.first)
      (counted_in (IsAtomOf (pre ++ q ∷ [])) p.name.text (type_or_itself v.value (next_atom names)) (Some (atom_at (next_atom names))) (λ c h. itself_in (IsAtomOf (pre ++ q ∷ [])) (next_atom names) c (in_last pre q) h)))
      (one_below pre q names e refl refl b) v.then

  -- ---- formals and results

  formals_over : (A : ℕ → Type 0) (fs : List Formal) (names : List Entry) (Ts : Parts) → NamesOver A names → formals_rule t fs names ≡ Ok Ts → AllOver A Ts
  formals_over A [] names Ts g k = subst (λ z. AllOver A z) (ok_ok no_part Ts k) tt
  formals_over A (f ∷ fs) names Ts g k =
      let u = bind_ok (written t f.ty false (in_names names)) _ Ts k in
      let v = bind_ok (formals_rule t fs names) _ Ts u.then in
      subst (λ z. AllOver A z) (ok_ok (part u.value.ty v.value) Ts v.then) (written_over A t f.ty false (in_names names) u.value g u.first, formals_over A fs names v.value g v.first)

  result_over : (A : ℕ → Type 0) (o : Option TypeExpr) (names : List Entry) (w : Option Ty) (T : Ty) → NamesOver A names → result_rule t o names ≡ Ok w → w ≡ Some T → Over A T
  result_over A None names w T g k e = none_some T (ok_ok None w k ∙ e)
  result_over A (Some ty) names w T g k e =
      let u = bind_ok (written t ty false (in_names names)) _ w k in
      subst (Over A) (some_same u.value.ty T (ok_ok (Some u.value.ty) w u.then ∙ e)) (written_over A t ty false (in_names names) u.value g u.first)

  with_formals_over : (fs : List Formal) (Ts : Parts) (names : List Entry) → NamesOver (Below names) names → AllOver (Below names) Ts → NamesOver (Below (with_formals fs Ts names)) (with_formals fs Ts names)
  with_formals_over [] Ts names g h = g
  with_formals_over (f ∷ fs) no_part names g h = g
  with_formals_over (f ∷ fs) (part T Ts) names g h =
      let e : Entry = fixed f.name.text T (itself T names) in
      let A : ℕ → Type 0 = Below (names ++ e ∷ []) in
      with_formals_over fs Ts (names ++ e ∷ [])
      (local_added names e g (over_more (Below names) (Below (names ++ e ∷ [])) (below_more names (e ∷ [])) T h.0)
      (counted_in (Below (names ++ e ∷ [])) f.name.text T (itself T names) (λ c q. if_itself (Below (names ++ e ∷ [])) (is_integer T) (next_atom names) c (atoms_snoc names e refl) q)))
      (all_more (Below names) (Below (names ++ e ∷ [])) (below_more names (e ∷ [])) Ts h.1)

  -- a subprogram: its result and its formals are over its parameters, and the names that its body begins with over themselves
  pub record HeadOver (h : Head) : Type 0 where
    pub result : ResultOver h.signature
    pub formals : AllOver (IsAtomOf h.signature.params) h.signature.formals
    pub names : NamesOver (Below h.names) h.names

  pub signature_over : (base : List Entry) (f : Func) (head : Head) → NamesOver Never base → signature_rule t base f ≡ Ok head → HeadOver head
  signature_over base f head g h =
      let a = bind_ok (params_free f.params [] base) _ head h in
      let b = then_ok (formals_free f.formals a.value base) _ head a.then in
      let c = bind_ok (params_rule t f.params [] base) _ head b.then in
      let d = bind_ok (formals_rule t f.formals c.value.1) _ head c.then in
      let e = bind_ok (result_rule t f.result c.value.1) _ head d.then in
      let l = bind_ok (limit_typed t f.limit base) _ head e.then in
      let k = then_ok (params_are_integers t f.params c.value.0) _ head l.then in
      let m = bind_ok (limit_rule t f.limit l.value base) _ head k.then in
      let p = params_over f.params [] base c.value g (λ n i. absurd i) c.first in
      let formals = formals_over (IsAtomOf c.value.0) f.formals c.value.1 d.value p.0 d.first in
      subst (λ (z : Head). HeadOver z) (ok_ok _ head m.then) (record {
        result = λ T q. result_over (IsAtomOf c.value.0) f.result c.value.1 e.value T p.0 e.first q;
        formals = formals;
        names = with_formals_over f.formals d.value c.value.1 (names_more (IsAtomOf c.value.0) (Below c.value.1) p.1 c.value.1 p.0) (all_more (IsAtomOf c.value.0) (Below c.value.1) p.1 d.value formals);
      })

  pub signatures_over : (base : List Entry) (fs : List Func) (hs : List Head) → NamesOver Never base → signatures_rule t base fs ≡ Ok hs → SubsOver (signatures hs)
  signatures_over base [] hs g h = subst (λ z. SubsOver (signatures z)) (ok_ok [] hs h) tt
  signatures_over base (f ∷ fs) hs g h =
      let u = bind_ok (signature_rule t base f) _ hs h in
      let v = bind_ok (signatures_rule t base fs) _ hs u.then in
      subst (λ z. SubsOver (signatures z)) (ok_ok (u.value ∷ v.value) hs v.then) ((signature_over base f u.value g u.first).result, signatures_over base fs v.value g v.first)

  -- ---- declarations in bodies

  pub initialised_over : (A : ℕ → Type 0) (ty : Option TypeExpr) (e : Expr) (G : Scope) (d : Initialised) → NamesOver A G.names → SubsOver G.subs → initialised t ty e G ≡ Ok d →
      Over A d.value.ty × ((T : Ty) → d.written ≡ Some T → Over A T)
  initialised_over A None e G d g u h =
      let o = bind_ok (operand_of t e G) _ d h in
      let s = bind_ok (typed t e G) _ o.value o.first in
      let k : Over A o.value.typed.ty = subst (λ (z : Operand). Over A z.typed.ty) (ok_ok _ o.value s.then) (typed_over A t e G s.value g u s.first) in
      subst (λ (z : Initialised). Over A z.value.ty × ((T : Ty) → z.written ≡ Some T → Over A T)) (ok_ok (initialised_with None o.value.typed) d o.then) (k, λ T q. none_some T q)
  initialised_over A (Some ty) e G d g u h =
      let w = bind_ok (written t ty false G) _ d h in
      let o = bind_ok (operand_of t e G) _ d w.then in
      let f = then_ok (fits t w.value.ty o.value) _ d o.then in
      let s = bind_ok (typed t e G) _ o.value o.first in
      let k : Over A o.value.typed.ty = subst (λ (z : Operand). Over A z.typed.ty) (ok_ok _ o.value s.then) (typed_over A t e G s.value g u s.first) in
      let l : Over A w.value.ty = written_over A t ty false G w.value g w.first in
      subst (λ (z : Initialised). Over A z.value.ty × ((T : Ty) → z.written ≡ Some T → Over A T)) (ok_ok (initialised_with (Some w.value.ty) o.value.typed) d f.then)
      (k, λ T q. subst (Over A) (some_same w.value.ty T q) l)

  unannotated_over : (A : ℕ → Type 0) (kind : LocalKind) (S : Ty) → Over A S → Over A (unannotated kind S)
  unannotated_over A local.Let S h = h
  unannotated_over A local.Var S h = widened_over A S h

  pub declared_type_over : (A : ℕ → Type 0) (kind : LocalKind) (o : Option Ty) (S : Ty) → Over A S → ((T : Ty) → o ≡ Some T → Over A T) → Over A (type_declared kind o S)
  declared_type_over A kind None S h f = unannotated_over A kind S h
  declared_type_over A kind (Some T) S h f = f T refl

  pub written_or_over : (A : ℕ → Type 0) (o : Option Ty) (S : Ty) → Over A S → ((T : Ty) → o ≡ Some T → Over A T) → Over A (written_or o S)
  written_or_over A None S h f = h
  written_or_over A (Some T) S h f = f T refl

  pub part_type_over : (A : ℕ → Type 0) (kind : LocalKind) (o : Option Ty) (S : Ty) → Over A S → Over A (part_declared kind o S)
  part_type_over A kind None S h = unannotated_over A kind S h
  part_type_over A kind (Some T) S h = h

  let_counted : (A : ℕ → Type 0) (e : Expr) (G : Scope) (r : Result Width Fault) (b : Bool) (n : ℕ) (c : Counted) → CountsOver A G.names → A n → (found t e).width G ≡ r → Some (counted_as r b n) ≡ Some c → Good A c.poly
  let_counted A e G (Ok w) b n c g h k q = subst (λ (z : Counted). Good A z.poly) (some_same _ c q) (width_is_over t A e G g w k)
  let_counted A e G (Err f) b n c g h k q = itself_in A n c h q

  if_counted : (A : ℕ → Type 0) (x : Bool) (e : Expr) (G : Scope) (b : Bool) (n : ℕ) (c : Counted) → CountsOver A G.names → A n → (if x then Some (counted_as ((found t e).width G) b n) else None) ≡ Some c → Good A c.poly
  if_counted A true e G b n c g h q = let_counted A e G ((found t e).width G) b n c g h refl q
  if_counted A false e G b n c g h q = none_some c q

  -- a name that is declared
  pub one_added : (kind : LocalKind) (names : List Entry) (name : List ℕ) (T : Ty) (o : Option Counted) → NamesOver (Below names) names → Over (Below names) T →
      ((c : Counted) → o ≡ Some c → Good (Below (names ++ fixed name T o ∷ [])) c.poly) → NamesOver (Below (names ++ declared kind name T o ∷ [])) (names ++ declared kind name T o ∷ [])
  one_added local.Let names name T o g h f =
      local_added names (fixed name T o) g (over_more (Below names) (Below (names ++ fixed name T o ∷ [])) (below_more names (fixed name T o ∷ [])) T h) (counted_in (Below (names ++ fixed name T o ∷ [])) name T o f)
  one_added local.Var names name T o g h f =
      local_added names (variable name T) g (over_more (Below names) (Below (names ++ variable name T ∷ [])) (below_more names (variable name T ∷ [])) T h) (variable_in (Below (names ++ variable name T ∷ [])) name T)

  parts_added : (bs : List Binder) (kind : LocalKind) (o : Option Ty) (Ts : Parts) (names more : List Entry) → NamesOver (Below names) names → AllOver (Below names) Ts → bound_parts bs kind o Ts names ≡ Some more → NamesOver (Below more) more
  parts_added [] kind o no_part names more g h k = subst (λ z. NamesOver (Below z) z) (some_same names more k) g
  parts_added [] kind o (part T Ts) names more g h k = none_some more k
  parts_added (Bound i ∷ bs) kind o no_part names more g h k = none_some more k
  parts_added (Unbound at ∷ bs) kind o no_part names more g h k = none_some more k
  parts_added (Unbound at ∷ bs) kind o (part T Ts) names more g h k = parts_added bs kind o Ts names more g h.1 k
  parts_added (Bound i ∷ bs) kind o (part T Ts) names more g h k =
      let S : Ty = part_declared kind o T in
      let e : Entry = declared kind i.text S (itself S names) in
      let f : Entry = fixed i.text S (itself S names) in
      parts_added bs kind o Ts (names ++ e ∷ []) more
      (one_added kind names i.text S (itself S names) g (part_type_over (Below names) kind o T h.0)
      (λ c q. if_itself (Below (names ++ f ∷ [])) (is_integer S) (next_atom names) c (atoms_snoc names f refl) q))
      (all_more (Below names) (Below (names ++ e ∷ [])) (below_more names (e ∷ [])) Ts h.1) k

  pub tuple_over : (A : ℕ → Type 0) (T : Ty) (Ts : Parts) → Over A T → tuple_parts T ≡ Some Ts → AllOver A Ts
  tuple_over A (tuple_of us) Ts h k = subst (λ z. AllOver A z) (some_same us Ts k) h
  tuple_over A (named name supers T) Ts h k = tuple_over A T Ts (over_more Never A (λ n i. absurd i) T h) k
  tuple_over A T Ts h k = none_some Ts k

  bound_in_over : (bs : List Binder) (kind : LocalKind) (o : Option Ty) (p : Option Parts) (names more : List Entry) → NamesOver (Below names) names → ((Ts : Parts) → p ≡ Some Ts → AllOver (Below names) Ts) →
      bound_in bs kind o p names ≡ Some more → NamesOver (Below more) more
  bound_in_over bs kind o None names more g f k = none_some more k
  bound_in_over bs kind o (Some Ts) names more g f k = parts_added bs kind o Ts names more g (f Ts refl) k

  abbrev pub ScopeOver : List Entry → Type 0
  ScopeOver names = NamesOver (Below names) names

  bound_over : (span : Span) (kind : LocalKind) (b : Bind) (e : Expr) (i : Initialised) (G : Scope) (d : Done) → ScopeOver G.names → Over (Below G.names) i.value.ty → ((T : Ty) → i.written ≡ Some T → Over (Below G.names) T) →
      bound t span kind b e i G ≡ Ok d → ScopeOver d.names
  bound_over span kind (Single (Bound x)) e i G d g a f h =
      let T : Ty = type_declared kind i.written i.value.ty in
      let o : Option Counted = initialised_as t T e G in
      let names : List Entry = G.names ++ declared kind x.text T o ∷ [] in
      let B : List Entry = G.names ++ fixed x.text T o ∷ [] in
      let u = then_ok (need (is_free x.text G.names) T01 x.span) _ d h in
      let more : CountsOver (Below B) G.names = (names_more (Below G.names) (Below B) (below_more G.names (fixed x.text T o ∷ [])) G.names g).counts in
      subst ScopeOver (ended_names G.class span true i.value.effect names (tree.Declare span i.written tree.whole i.value.tree) d u.then)
      (one_added kind G.names x.text T o g (declared_type_over (Below G.names) kind i.written i.value.ty a f)
      (λ c q. if_counted (Below B) (is_integer T) e G ((found t e).has_atom G) (next_atom G.names) c more (atoms_snoc G.names (fixed x.text T o) refl) q))
  bound_over span kind (Single (Unbound at)) e i G d g a f h = subst ScopeOver (ended_names G.class span true i.value.effect G.names (tree.Declare span i.written tree.nothing i.value.tree) d h) g
  bound_over span kind (Several at bs) e i G d g a f h =
      let T : Ty = written_or i.written i.value.ty in
      let u = then_ok (binders_free bs [] G.names) _ d h in
      let v = bind_ok (found_or (bound_in bs kind i.written (tuple_parts T) G.names) T05 span) _ d u.then in
      subst ScopeOver (ended_names G.class span true i.value.effect v.value (tree.Declare span i.written (tree.in_parts (taken bs)) i.value.tree) d v.then)
      (bound_in_over bs kind i.written (tuple_parts T) G.names v.value g (λ Ts k. tuple_over (Below G.names) T Ts (written_or_over (Below G.names) i.written i.value.ty a f) k)
      (found_ok (bound_in bs kind i.written (tuple_parts T) G.names) T05 span v.value v.first))

  pub bind_over : (span : Span) (kind : LocalKind) (b : Bind) (ty : Option TypeExpr) (e : Expr) (G : Scope) (d : Done) → ScopeOver G.names → SubsOver G.subs → bind_rule t span kind b ty e G ≡ Ok d → ScopeOver d.names
  bind_over span kind b ty e G d g s h =
      let u = bind_ok (initialised t ty e G) _ d h in
      let k = initialised_over (Below G.names) ty e G u.value g s u.first in
      bound_over span kind b e u.value G d g k.0 k.1 u.then

  names_rule_over : (is : List Ident) (T : Ty) (names more : List Entry) → ScopeOver names → Over (Below names) T → names_rule is T names ≡ Ok more → ScopeOver more
  names_rule_over [] T names more g a h = subst ScopeOver (ok_ok names more h) g
  names_rule_over (i ∷ is) T names more g a h =
      let u = then_ok (need (is_free i.text names) T01 i.span) (names_rule is T (names ++ variable i.text T ∷ [])) more h in
      let b : Over (Below (names ++ variable i.text T ∷ [])) T = over_more (Below names) (Below (names ++ variable i.text T ∷ [])) (below_more names (variable i.text T ∷ [])) T a in
      names_rule_over is T (names ++ variable i.text T ∷ []) more (local_added names (variable i.text T) g b (variable_in (Below (names ++ variable i.text T ∷ [])) i.text T)) b u.then

  pub vars_over : (span : Span) (is : List Ident) (ty : TypeExpr) (G : Scope) (d : Done) → ScopeOver G.names → vars_rule t span is ty G ≡ Ok d → ScopeOver d.names
  vars_over span is ty G d g h =
      let u = bind_ok (written t ty false G) _ d h in
      let v = bind_ok (names_rule is u.value.ty G.names) _ d u.then in
      subst ScopeOver (ap (λ (z : Done). z.names) (ok_ok _ d v.then)) (names_rule_over is u.value.ty G.names v.value g (written_over (Below G.names) t ty false G u.value g u.first) v.first)

  -- ---- indices and caught exceptions

  range_type_over : (A : ℕ → Type 0) (e f : Expr) (G : Scope) (r : Result WrittenPart Fault) → CountsOver A G.names → range_rule (found t e) (found t f) G ≡ r → Over A (of_range r)
  range_type_over A e f G (Ok p) c h = (range_by A t _ e f G p c h, tt)
  range_type_over A e f G (Err x) c h = tt

  pub index_type_over : (A : ℕ → Type 0) (d : Direction) (e f : Expr) (G : Scope) → CountsOver A G.names → Over A (index_type t d e f G)
  index_type_over A Up e f G c = range_type_over A e f G (range_rule (found t e) (found t f) G) c refl
  index_type_over A Down e f G c = range_type_over A f e G (range_rule (found t f) (found t e) G) c refl

  pub index_over : (i : Ident) (d : Direction) (e f : Expr) (B : Body) → ScopeOver B.scope.names → ScopeOver (with_index i (index_type t d e f B.scope) B).scope.names
  index_over i d e f B g =
      let names : List Entry = B.scope.names in
      let T : Ty = index_type t d e f B.scope in
      let x : Entry = fixed i.text T (Some (atom_at (next_atom names))) in
      local_added names x g (over_more (Below names) (Below (names ++ x ∷ [])) (below_more names (x ∷ [])) T (index_type_over (Below names) d e f B.scope g.counts))
      (counted_in (Below (names ++ x ∷ [])) i.text T (Some (atom_at (next_atom names))) (λ c q. itself_in (Below (names ++ x ∷ [])) (next_atom names) c (atoms_snoc names x refl) q))

  pub caught_over : (i : Option Ident) (T : Ty) (name : List ℕ) (B C : Body) → ScopeOver B.scope.names → type_of_name name B.scope.names ≡ Some T → with_caught i T B ≡ Ok C → ScopeOver C.scope.names
  caught_over None T name B C g h k = subst (λ (z : Body). ScopeOver z.scope.names) (ok_ok B C k) g
  caught_over (Some i) T name B C g h k =
      let names : List Entry = B.scope.names in
      let x : Entry = fixed i.text T None in
      let u = then_ok (need (is_free i.text names) T01 i.span) _ C k in
      subst (λ (z : Body). ScopeOver z.scope.names) (ok_ok _ C u.then)
      (local_added names x g (over_more (Below names) (Below (names ++ x ∷ [])) (below_more names (x ∷ [])) T (type_over (Below names) t names name T g h))
      (counted_in (Below (names ++ x ∷ [])) i.text T None (λ c q. none_some c q)))
