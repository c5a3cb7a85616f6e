-- The subprogram that a run finds for a call is the one that the rules chose, with its judged head and body; and its limit is the judged one.
use Rattle.std.proofs.Common.{◌≡◌, ℕ, suc, ◌+◌, ℤ, Bool, true, false, cond, ◌&&◌, List, [], ◌∷◌, ◌++◌, Option, Some, None, option_map, Ok, refl, sym, ap, ◌∙◌, subst, arith}
use Rattle.std.specs.Prelude.{slice_get}
use Rattle.std.specs.Str.{bytes_eq}
use Rattle.asl_syn.specs.declared.token.Span.{Span}
use Rattle.asl_syn.specs.declared.code.StaticCode.TheVariants.{T02, T04, T05}
use Rattle.asl_syn.specs.declared.tree.Decl.{Decl}
use Rattle.asl_syn.specs.declared.tree.Expr.{Expr}
use Rattle.asl_syn.specs.declared.tree.Formal.{Formal}
use Rattle.asl_syn.specs.declared.tree.Func.{Func}
use Rattle.asl_syn.specs.declared.tree.Param.{Param as WrittenParam}
use Rattle.asl_syn.specs.declared.tree.TypeExpr.{TypeExpr}
use Rattle.asl_poly.specs.Terms.{Polynomial}
use Rattle.asl_poly.specs.Poly.{constant_map}
use Rattle.asl_rules.specs.Faults.{need, fault_of}
use Rattle.asl_rules.specs.Tests.{Tests, IsRight}
use Rattle.asl_rules.specs.types.Types.{Ty, Parts, no_part, part, kind, kinds, kinds_eq, kind_eq, is_integer, same_kinds}
use Rattle.asl_rules.specs.types.Closed.{closed}
use Rattle.asl_rules.specs.values.Values.{Value, int, bool, bits_with, label, record_with, exception_with, tuple_with, array_with, kind_of}
use Rattle.asl_rules.specs.declarations.Scopes.{Entry, Signature, Param, Chosen, Standing, Stored, Subprogram, TypeName, Label, standing_of, type_of_name, type_in, known_value, next_atom, choose_from}
use Rattle.asl_rules.specs.runs.Trees.{TreeFunc}
use Rattle.asl_rules.specs.expressions.Typing.{Typed}
use Rattle.asl_rules.specs.types.Widths.{width_of_known, width_of_counted, width_of_standing}
use Rattle.asl_rules.specs.types.Writing.{Written}
use Rattle.asl_rules.specs.expressions.Exprs.{found, written}
use Rattle.asl_rules.specs.types.Alone.{Polynomials, polynomial}
use Rattle.asl_rules.specs.declarations.Declarations.{in_names, evaluated}
use Rattle.asl_rules.specs.declarations.Constants.{constant}
use Rattle.asl_rules.specs.declarations.Programs.{Head, class_of, params_free, formals_free, params_rule, param_written, param_entry, formals_rule, result_rule, limit_typed, params_are_integers, limit_rule, as_number, with_formals, signature_rule, signatures_rule, signatures, body_rule, bodies_rule}
use Rattle.asl_rules.specs.types.Numbers.{Numbers, outside}
use Rattle.asl_rules.specs.runs.States.{Core}
use Rattle.asl_rules.specs.private.Agreement.{types_in, no_atoms, GlobalsMatch}
use Rattle.asl_rules.specs.runs.Plans.{Faulted, Stuck, Pure as PureOf, Good, Bad}
use Rattle.asl_rules.specs.runs.Pures as pures
use Rattle.asl_rules.specs.runs.ByNames.{types_among}
use Rattle.asl_rules.specs.types.Written.{kind_written}
use Rattle.asl_rules.specs.runs.Evaluation.{width_over, takes, is_kind, overload, limit_of, limit_in}
use Rattle.asl_rules.proofs.basics.Inversions.{ok_ok, err_ok, bind_ok, then_ok}
use Rattle.asl_rules.proofs.basics.Tests.{some_same, none_some}
use Rattle.asl_rules.proofs.scopes.Lookups.{before_is, behind}
use Rattle.asl_rules.proofs.scopes.Naming.{WellNamed, well_declared}
use Rattle.asl_laws.proofs.expressions.ExprForms.{env}
use Rattle.asl_laws.proofs.widths.Omitted.{Outside, formal_width}
use Rattle.asl_laws.proofs.widths.PresentNumbers.{outside_known}
use Rattle.asl_laws.proofs.calls.OwnParams.{none_counted}
use Rattle.asl_laws.proofs.calls.OwnKinds.{kind_is}
use Rattle.asl_rules.specs.private.WellFormed.{ShapedParts}
use Rattle.asl_rules.proofs.values.KindsByNames.{all_by_names}
use Rattle.asl_rules.proofs.widths.Known.{integer_of_width}

-- ---- a judged head, taken apart

abbrev pub head_of : Func → List Param × List Entry → Parts → Option Ty → ℤ → Head
head_of f p Ts T limit = record {
  func = f;
  signature = record { name = f.name.text; class = class_of f.qualifier; params = p.0; formals = Ts; result = T; limit = limit };
  names = with_formals f.formals Ts p.1;
}

pub record HeadIs (t : Tests) (base : List Entry) (f : Func) (h : Head) : Type 0 where
  pub before : List (List ℕ)
  pub params : List Param × List Entry
  pub formals : Parts
  pub result : Option Ty
  pub typed_limit : Option Typed
  pub limit : ℤ
  pub params_new : params_free f.params [] base ≡ Ok before
  pub formals_new : formals_free f.formals before base ≡ Ok tt
  pub params_are : params_rule t f.params [] base ≡ Ok params
  pub formals_are : formals_rule t f.formals params.1 ≡ Ok formals
  pub result_is : result_rule t f.result params.1 ≡ Ok result
  pub limit_is_typed : limit_typed t f.limit base ≡ Ok typed_limit
  pub integers : params_are_integers t f.params params.0 ≡ Ok tt
  pub limit_is : limit_rule t f.limit typed_limit base ≡ Ok limit
  pub is : head_of f params formals result limit ≡ h

pub head_is : (t : Tests) (base : List Entry) (f : Func) (h : Head) → signature_rule t base f ≡ Ok h → HeadIs t base f h
head_is t base f h e =
    let a = bind_ok (params_free f.params [] base) _ h e in
    let b = then_ok (formals_free f.formals a.value base) _ h a.then in
    let p = bind_ok (params_rule t f.params [] base) _ h b.then in
    let g = bind_ok (formals_rule t f.formals p.value.1) _ h p.then in
    let r = bind_ok (result_rule t f.result p.value.1) _ h g.then in
    let l = bind_ok (limit_typed t f.limit base) _ h r.then in
    let i = then_ok (params_are_integers t f.params p.value.0) _ h l.then in
    let m = bind_ok (limit_rule t f.limit l.value base) _ h i.then in
    record {
      before = a.value;
      params = p.value;
      formals = g.value;
      result = r.value;
      typed_limit = l.value;
      limit = m.value;
      params_new = a.first;
      formals_new = b.first;
      params_are = p.first;
      formals_are = g.first;
      result_is = r.first;
      limit_is_typed = l.first;
      integers = i.first;
      limit_is = m.first;
      is = ok_ok (head_of f p.value g.value r.value m.value) h m.then;
    }

-- ---- what is outside bodies

known_number : (span : Span) (v : Option Value) (p : Polynomial) → width_of_known span v ≡ Ok p → (y : ℤ) × ((v ≡ Some (int y)) × (constant_map y ≡ p))
known_number span v p h =
    let w = integer_of_width span v p h in
    (w.number, (w.is, ok_ok (constant_map w.number) p (then_ok _ (Ok (constant_map w.number)) p w.made).then))

outside_by : (base : List Entry) (c : Core) → GlobalsMatch base c.globals → (span : Span) (name : List ℕ) (p : Polynomial) (o : Option Standing) → standing_of name base ≡ o → width_of_standing span o ≡ Ok p → option_map constant_map (outside c name) ≡ Some p
outside_by base c m span name p (Some (Stored s)) e h =
    let u = then_ok (need (is_integer s.ty) T05 span) (width_of_counted span s.counted (known_value s)) p h in
    let k = known_number span (known_value s) p (subst (λ o. width_of_counted span o (known_value s) ≡ Ok p) (none_counted (types_in base) base name s c.globals m e) u.then) in
    ap (option_map constant_map) (outside_known no_atoms base c.globals name s k.0 m e k.1.0) ∙ ap Some k.1.1
outside_by base c m span name p (Some (Label T x)) e h = err_ok (fault_of T05 span) p h
outside_by base c m span name p (Some Subprogram) e h = err_ok (fault_of T02 span) p h
outside_by base c m span name p (Some (TypeName T)) e h = err_ok (fault_of T02 span) p h
outside_by base c m span name p None e h = err_ok (fault_of T02 span) p h

pub outside_is : (t : Tests) (base : List Entry) (c : Core) → GlobalsMatch base c.globals → Outside t (outside c) base
outside_is t base c m span name p h = outside_by base c m span name p (standing_of name base) refl h

-- no parameter is a type
type_back : (names : List Entry) (e : Entry) (n : List ℕ) (T : Ty) → type_in (Some e.standing) ≡ None → type_of_name n (names ++ e ∷ []) ≡ Some T → type_of_name n names ≡ Some T
type_back names e n T i h = by (standing_of n names) refl
  where
    last : (b : Bool) → type_in (cond b (Some e.standing) None) ≡ Some T → type_of_name n names ≡ Some T
    last true k = none_some T (sym i ∙ k)
    last false k = none_some T k

    by : (o : Option Standing) → standing_of n names ≡ o → type_of_name n names ≡ Some T
    by None q = last (bytes_eq e.name n) (sym (ap type_in (behind names (e ∷ []) n q)) ∙ h)
    by (Some st) q = ap type_in q ∙ sym (ap type_in (before_is names (e ∷ []) n st q)) ∙ h

pub types_back : (t : Tests) (ps : List WrittenParam) (pre : List Param) (names : List Entry) (r : List Param × List Entry) (n : List ℕ) (T : Ty) → params_rule t ps pre names ≡ Ok r → type_of_name n r.1 ≡ Some T → type_of_name n names ≡ Some T
types_back t [] pre names r n T h k = subst (λ (z : List Param × List Entry). type_of_name n z.1 ≡ Some T) (sym (ok_ok (pre, names) r h)) k
types_back t (p ∷ ps) pre names r n T h k =
    let v = bind_ok (param_written t p.ty names) _ r h in
    type_back names (param_entry p.name.text v.value (next_atom names)) n T refl (types_back t ps _ (names ++ param_entry p.name.text v.value (next_atom names) ∷ []) r n T v.then k)

-- ---- the limit

good_of : (r : PureOf Value) (x : Value) → evaluated r ≡ Ok x → r ≡ Good x
good_of (Good y) x h = ap Good (ok_ok y x h)
good_of (Bad (Faulted code span)) x h = err_ok _ x h
good_of (Bad (Stuck mistake span)) x h = err_ok (fault_of T04 span) x h

number_of : (at span : Span) (x : Value) (z : ℤ) → as_number at x ≡ Ok z → limit_in span x ≡ Good z
number_of at span (int y) z h = ap Good (ok_ok y z h)
number_of at span (bool b) z h = err_ok (fault_of T04 at) z h
number_of at span (bits_with bs u) z h = err_ok (fault_of T04 at) z h
number_of at span (label n l) z h = err_ok (fault_of T04 at) z h
number_of at span (record_with n xs) z h = err_ok (fault_of T04 at) z h
number_of at span (exception_with own supers n xs) z h = err_ok (fault_of T04 at) z h
number_of at span (tuple_with xs) z h = err_ok (fault_of T04 at) z h
number_of at span (array_with k xs) z h = err_ok (fault_of T04 at) z h

-- arguments of these kinds
abbrev pub KindsAre : List Value → Parts → Type 0
KindsAre [] no_part = Unit {0}
KindsAre [] (part T Ts) = ⊥
KindsAre (x ∷ xs) no_part = ⊥
KindsAre (x ∷ xs) (part T Ts) = (kind_of x ≡ kind T) × KindsAre xs Ts

module _ (tests : Tests) (right : IsRight tests) (ds : List Decl) (base : List Entry) (subs : List Signature) (loose : Bool) (funcs : List TreeFunc) (w : WellNamed base) where
  limit_by : (span : Span) (e : Option Expr) (o : Option Typed) (z : ℤ) → limit_typed tests e base ≡ Ok o → limit_rule tests e o base ≡ Ok z → limit_of (env tests right ds base subs loose funcs w) span e ≡ Good z
  limit_by span None o z k h = ap Good (ok_ok _ z h)
  limit_by span (Some e) None z k h =
      let u = then_ok _ _ None k in
      let s = bind_ok _ (λ S. Ok (Some S)) None u.then in
      none_some s.value (sym (ok_ok (Some s.value) None s.then))
  limit_by span (Some e) (Some S) z k h =
      let u = then_ok (need (is_integer S.ty) T05 (found tests e).span) _ z h in
      let x = bind_ok (evaluated (constant tests.limit e base)) _ z u.then in
      ap (λ r. pures.◌>>=◌ r (λ y. limit_in span y)) (good_of (constant tests.limit e base) x.value x.first) ∙ number_of (found tests e).span span x.value z x.then

  pub head_limit : (span : Span) (f : Func) (h : Head) → HeadIs tests base f h → limit_of (env tests right ds base subs loose funcs w) span f.limit ≡ Good h.signature.limit
  head_limit span f h i = limit_by span f.limit i.typed_limit i.limit i.limit_is_typed i.limit_is ∙ ap (λ (z : Head). Good z.signature.limit) i.is

  takes_by : (over : List Entry) (p : Polynomials) → ((t : TypeExpr) (W : Written) → written tests t false (in_names over) ≡ Ok W → kind_written (types_among base) p t ≡ Some (kind W.ty)) → (fs : List Formal) (Ts : Parts) (xs : List Value) (Ss : Parts) → formals_rule tests fs over ≡ Ok Ts → KindsAre xs Ss →
      takes (env tests right ds base subs loose funcs w) p fs xs ≡ kinds_eq (kinds Ts) (kinds Ss)
  takes_by over p g [] Ts [] no_part h k = ap (λ z. kinds_eq (kinds z) (kinds no_part)) (ok_ok no_part Ts h)
  takes_by over p g [] Ts (x ∷ xs) (part S Ss) h k = ap (λ z. kinds_eq (kinds z) (kinds (part S Ss))) (ok_ok no_part Ts h)
  takes_by over p g (f ∷ fs) Ts [] no_part h k =
      let W = bind_ok (written tests f.ty false (in_names over)) _ Ts h in
      let R = bind_ok (formals_rule tests fs over) _ Ts W.then in
      ap (λ z. kinds_eq (kinds z) (kinds no_part)) (ok_ok (part W.value.ty R.value) Ts R.then)
  takes_by over p g (f ∷ fs) Ts (x ∷ xs) (part S Ss) h k =
      let W = bind_ok (written tests f.ty false (in_names over)) _ Ts h in
      let R = bind_ok (formals_rule tests fs over) _ Ts W.then in
      ap (λ o. is_kind x o && takes (env tests right ds base subs loose funcs w) p fs xs) (g f.ty W.value W.first)
      ∙ ap (λ m. kind_eq (kind W.value.ty) m && takes (env tests right ds base subs loose funcs w) p fs xs) k.0
      ∙ ap (λ b. kind_eq (kind W.value.ty) (kind S) && b) (takes_by over p g fs R.value xs Ss R.first k.1)
      ∙ ap (λ z. kinds_eq (kinds z) (kinds (part S Ss))) (ok_ok (part W.value.ty R.value) Ts R.then)
  takes_by over p g [] Ts [] (part S Ss) h k = absurd k
  takes_by over p g [] Ts (x ∷ xs) no_part h k = absurd k
  takes_by over p g (f ∷ fs) Ts [] (part S Ss) h k = absurd k
  takes_by over p g (f ∷ fs) Ts (x ∷ xs) no_part h k = absurd k

  -- a subprogram takes arguments as its signature says
  pub head_takes : (c : Core) (f : Func) (h : Head) (xs : List Value) (Ss : Parts) → GlobalsMatch base c.globals → next_atom base ≡ 0 → HeadIs tests base f h → KindsAre xs Ss → takes (env tests right ds base subs loose funcs w) (width_over (outside c) f.params 0) f.formals xs ≡ kinds_eq (kinds h.signature.formals) (kinds Ss)
  head_takes c f h xs Ss m z i k =
      takes_by i.params.1 (width_over (outside c) f.params 0)
      (λ t W e. kind_is tests (types_among base) (width_over (outside c) f.params 0) (in_names i.params.1)
      (λ name T q. ap (option_map closed) (types_back tests f.params [] base i.params name T i.params_are q))
      (λ d v q. subst (λ n. polynomial d (λ name. width_over (outside c) f.params n name) ≡ Some v.poly) z (formal_width tests (outside c) f.params base i.before i.params d v (outside_is tests base c m) i.params_new i.params_are q)) t false W e)
      f.formals i.formals xs Ss i.formals_are k
      ∙ ap (λ (y : Head). kinds_eq (kinds y.signature.formals) (kinds Ss)) i.is

  -- ---- the subprogram that is chosen

  pub record Chose (f : Numbers) (n : ℕ) (gs : List Func) (name : List ℕ) (xs : List Value) (chosen : Chosen) : Type 0 where
    pub func : Func
    pub head : Head
    pub found_so : overload (env tests right ds base subs loose funcs w) f n gs name xs ≡ Some (record { id = chosen.number; func = func })
    pub signature_is : head.signature ≡ chosen.signature
    pub judged : signature_rule tests base func ≡ Ok head
    pub tree : TreeFunc
    pub body : body_rule tests subs head ≡ Ok tree
    pub tree_is : slice_get funcs chosen.number ≡ Some tree

  chose_by : (b : Bool) (c : Core) (n : ℕ) (g : Func) (gs : List Func) (h : Head) (t : TreeFunc) (name : List ℕ) (xs : List Value) (chosen : Chosen) (o : Option Chosen) → (bytes_eq g.name.text name && takes (env tests right ds base subs loose funcs w) (width_over (outside c) g.params 0) g.formals xs) ≡ b → signature_rule tests base g ≡ Ok h → body_rule tests subs h ≡ Ok t → slice_get funcs n ≡ Some t →
      cond b (Some (record { number = n; signature = h.signature })) o ≡ Some chosen → (o ≡ Some chosen → Chose (outside c) (n + 1) gs name xs chosen) → Chose (outside c) n (g ∷ gs) name xs chosen
  chose_by true c n g gs h t name xs chosen o e j k s q next =
      subst (λ (z : Chosen). Chose (outside c) n (g ∷ gs) name xs z) (some_same (record { number = n; signature = h.signature }) chosen q)
      (record { func = g; head = h; found_so = ap (λ b. cond b (Some (record { id = n; func = g })) (overload (env tests right ds base subs loose funcs w) (outside c) (n + 1) gs name xs)) e; signature_is = refl; judged = j; tree = t; body = k; tree_is = s })
  chose_by false c n g gs h t name xs chosen o e j k s q next =
      let r = next q in
      record { func = r.func; head = r.head; found_so = ap (λ b. cond b (Some (record { id = n; func = g })) (overload (env tests right ds base subs loose funcs w) (outside c) (n + 1) gs name xs)) e ∙ r.found_so; signature_is = r.signature_is; judged = r.judged; tree = r.tree; body = r.body; tree_is = r.tree_is }

  after_one : (n : ℕ) → suc n ≡ n + 1
  after_one n = omega arith

  first_place : (n : ℕ) → 0 + n ≡ n
  first_place n = omega arith

  later_place : (m n : ℕ) → suc m + n ≡ m + suc n
  later_place m n = omega arith

  pub chose : (c : Core) (n : ℕ) (gs : List Func) (hs : List Head) (ts : List TreeFunc) (name : List ℕ) (xs : List Value) (Ss : Parts) (chosen : Chosen) → GlobalsMatch base c.globals → next_atom base ≡ 0 → signatures_rule tests base gs ≡ Ok hs → bodies_rule tests subs hs ≡ Ok ts → ((m : ℕ) → slice_get ts m ≡ slice_get funcs (m + n)) → KindsAre xs Ss → ShapedParts (types_in base) Ss → ((f : Func) (h : Head) → signature_rule tests base f ≡ Ok h → ShapedParts (types_in base) h.signature.formals) →
      choose_from n name Ss (signatures hs) ≡ Some chosen → Chose (outside c) n gs name xs chosen
  chose c n [] hs ts name xs Ss chosen m z hr br at k shaped formals q = none_some chosen (subst (λ l. choose_from n name Ss (signatures l) ≡ Some chosen) (sym (ok_ok [] hs hr)) q)
  chose c n (g ∷ gs) hs ts name xs Ss chosen m z hr br at k shaped formals q =
      let h = bind_ok (signature_rule tests base g) _ hs hr in
      let r = bind_ok (signatures_rule tests base gs) _ hs h.then in
      let e : h.value ∷ r.value ≡ hs = ok_ok (h.value ∷ r.value) hs r.then in
      let br2 = subst (λ l. bodies_rule tests subs l ≡ Ok ts) (sym e) br in
      let q2 = subst (λ l. choose_from n name Ss (signatures l) ≡ Some chosen) (sym e) q in
      let b = bind_ok (body_rule tests subs h.value) _ ts br2 in
      let bs = bind_ok (bodies_rule tests subs r.value) _ ts b.then in
      let at2 : (i : ℕ) → slice_get (b.value ∷ bs.value) i ≡ slice_get funcs (i + n) = λ i. subst (λ l. slice_get l i ≡ slice_get funcs (i + n)) (sym (ok_ok (b.value ∷ bs.value) ts bs.then)) (at i) in
      let i = head_is tests base g h.value h.first in
      let same : (bytes_eq g.name.text name && takes (env tests right ds base subs loose funcs w) (width_over (outside c) g.params 0) g.formals xs) ≡ (bytes_eq h.value.signature.name name && same_kinds h.value.signature.formals Ss) =
      ap (λ y. bytes_eq g.name.text name && y) (head_takes c g h.value xs Ss m z i k) ∙ ap (λ (y : Head). bytes_eq y.signature.name name && kinds_eq (kinds h.value.signature.formals) (kinds Ss)) i.is
      ∙ ap (λ y. bytes_eq h.value.signature.name name && y) (sym (all_by_names (types_in base) (well_declared base w) h.value.signature.formals Ss (formals g h.value h.first) shaped)) in
      chose_by (bytes_eq h.value.signature.name name && same_kinds h.value.signature.formals Ss) c n g gs h.value b.value name xs chosen (choose_from (suc n) name Ss (signatures r.value)) same h.first b.first (sym (at2 0 ∙ ap (slice_get funcs) (first_place n))) q2
      (λ o. subst (λ l. Chose (outside c) l gs name xs chosen) (after_one n)
      (chose c (suc n) gs r.value bs.value name xs Ss chosen m z r.first bs.first (λ l. at2 (suc l) ∙ ap (slice_get funcs) (later_place l n)) k shaped formals o))
