-- A declaration, a signature and a body are judged alike in two scopes with the same names in the same places, where each name that is used
-- stands for the same and calls of it choose the same.
use Rattle.std.proofs.Common.{◌≡◌, ℕ, ℤ, not, cond, Bool, true, false, ◌&&◌, List, [], ◌∷◌, ◌++◌, Option, Some, None, Ok, refl, sym, ap}
use Rattle.std.proofs.Common.{ap₂, ◌∙◌, append_assoc, append-nil}
use Rattle.std.specs.Prelude.{Result}
use Rattle.asl_syn.specs.declared.token.Span.{Span}
use Rattle.asl_syn.specs.declared.code.Fault.{Fault}
use Rattle.asl_syn.specs.declared.code.StaticCode.TheVariants.{T01, T02, T04, T05, T15, T25}
use Rattle.asl_syn.specs.declared.tree.Ident.{Ident}
use Rattle.asl_syn.specs.declared.tree.Expr.{Expr}
use Rattle.asl_syn.specs.declared.tree.TypeExpr.{TypeExpr}
use Rattle.asl_syn.specs.declared.tree.Formal.{Formal}
use Rattle.asl_syn.specs.declared.tree.Param.{Param as WrittenParam}
use Rattle.asl_syn.specs.declared.tree.TypeDef.{TypeDef}
use Rattle.asl_syn.specs.declared.tree.TypeDef.TheVariants as td
use Rattle.asl_syn.specs.declared.tree.StorageDecl.{StorageDecl}
use Rattle.asl_syn.specs.declared.tree.Func.{Func}
use Rattle.asl_syn.specs.declared.tree.Decl.{Decl}
use Rattle.asl_syn.specs.declared.tree.Decl.TheVariants as dc
use Rattle.asl_rules.specs.declared.effect.Effect.{Effect}
use Rattle.asl_rules.specs.declared.effect.Effect.TheVariants.{Pure}
use Rattle.asl_rules.specs.Faults.{◌>>=◌, ◌>>◌, need, none_at, found_or, fitted}
use Rattle.asl_rules.specs.Tests.{Tests}
use Rattle.asl_rules.specs.types.Types.{Ty, Parts, no_part, part, field, record_of, exception_of, structure, named, misfit, is_integer}
use Rattle.asl_rules.specs.types.Closed.{closed}
use Rattle.asl_rules.specs.types.Views.{viewed}
use Rattle.asl_rules.specs.declarations.Scopes.{Scope, Entry, Signature, Param, atom_at, fixed, next_atom, storage_in, type_in, global}
use Rattle.asl_rules.specs.expressions.Typing.{Typed}
use Rattle.asl_rules.specs.types.Widths.{bounded}
use Rattle.asl_rules.specs.values.Members.{has_name}
use Rattle.asl_rules.specs.declarations.Layouts.{slot_of}
use Rattle.asl_rules.specs.expressions.Exprs.{found, found_type}
use Rattle.asl_rules.specs.declarations.Barred.{at_var, barred_at, barred}
use Rattle.asl_rules.specs.statements.Locals.{itself}
use Rattle.asl_rules.specs.declarations.Declarations.{in_names, fields_written, once, def_rule, supertype_rule, reached, is_none}
use Rattle.asl_rules.specs.declarations.Declarations.{type_entries, evaluated, with_type, unannotated, first_in, known, storage_rule}
use Rattle.asl_rules.specs.declarations.Declarations.{is_var, decl_rule}
use Rattle.asl_rules.specs.declarations.Programs.{Head, params_free, formals_free, param_written, param_entry, params_rule, formals_rule}
use Rattle.asl_rules.specs.declarations.Programs.{result_rule, limit_typed, params_are_integers, as_number, limit_rule, with_formals}
use Rattle.asl_rules.specs.declarations.Programs.{class_of, signature_rule, body_rule}
use Rattle.asl_rules.proofs.basics.Tests.{some_none}
use Rattle.asl_rules.specs.declarations.UsedNames.{Use, Uses, of_value, of_subprogram, of_type, or_else, first_said, Each, expr_uses}
use Rattle.asl_rules.specs.declarations.UsedNames.{type_uses, maybe_expr_uses, maybe_type_uses, formal_uses, def_uses, supertype_uses}
use Rattle.asl_rules.specs.declarations.UsedNames.{decl_uses}
use Rattle.asl_laws.specs.StmtUses.{param_uses, head_uses, body_uses}
use Rattle.asl_laws.proofs.names.ByUses.{each_first, each_second, each_map}
use Rattle.asl_laws.proofs.names.SameExprs.{SameAt, scope_at, expr_in, written_in, expr_same}
use Rattle.asl_laws.proofs.names.SameWidths.{SameInWidths, written_same}
use Rattle.asl_laws.proofs.names.SamePlaces.{SamePlaces, Stands, Shows, same_atom, widths_behind}
use Rattle.asl_laws.proofs.names.SameStmts.{stmts_same}
use Rattle.asl_laws.proofs.names.SameValues.{constant_same}
use Rattle.asl_laws.proofs.names.Over.{Over, over_ok, over_by, over_after, over_then, over_same, same_then}

module _ (t : Tests) (A B : List Entry) (ss rs : List Signature) (p : SamePlaces A B) where
  abbrev P : Use → Type 0
  P = Shows A B

  -- ---- what a use looks up

  width_here : (u : Use) → P u → SameInWidths A B u
  width_here (of_value span name) h = (h, ap (slot_of name) p.layout)
  width_here (of_subprogram span name) h = tt
  width_here (of_type name) h = h

  written_here : (w : TypeExpr) → Each P (type_uses w) → written_in A ss (found_type t w) ≡ written_in B rs (found_type t w)
  written_here w g = written_same t A B ss rs w (each_map P (SameInWidths A B) width_here (type_uses w) g)

  -- ---- what is barred

  barred_use : (u : Use) → P u → barred_at A u ≡ barred_at B u
  barred_use (of_value span name) h = ap (λ o. at_var span (storage_in o)) h
  barred_use (of_subprogram span name) h = refl
  barred_use (of_type name) h = refl

  pub barred_uses : (us : Uses) → Each P us → first_said (barred_at A) us ≡ first_said (barred_at B) us
  barred_uses [] g = refl
  barred_uses (u ∷ us) g = ap₂ or_else (barred_use u g.0) (barred_uses us g.1)

  said_later : (o rest : Option Span) → or_else o rest ≡ None → rest ≡ None
  said_later None rest h = h
  said_later (Some x) rest h = some_none x h

  -- where nothing is barred, nothing is called
  uncalled : (us : Uses) → Each P us → first_said (barred_at A) us ≡ None → Each (SameAt A B ss rs) us
  uncalled [] g h = tt
  uncalled (of_value span name ∷ us) g h =
      ((g.0, ap (slot_of name) p.layout), uncalled us g.1 (said_later (barred_at A (of_value span name)) (first_said (barred_at A) us) h))
  uncalled (of_subprogram span name ∷ us) g h = some_none span h
  uncalled (of_type name ∷ us) g h = (g.0, uncalled us g.1 h)

  -- what follows where nothing is barred
  unless_barred : {X : Type 0} (e : Expr) (x y : Result X Fault) → Each P (expr_uses e) →
      (expr_in A ss (found t e) ≡ expr_in B rs (found t e) → x ≡ y) → (none_at T04 (barred e A) >> x) ≡ (none_at T04 (barred e B) >> y)
  unless_barred e x y g f = by (barred e A) refl ∙ ap (λ o. none_at T04 o >> y) (barred_uses (expr_uses e) g)
    where
      by : (o : Option Span) → barred e A ≡ o → (none_at T04 o >> x) ≡ (none_at T04 o >> y)
      by None h = f (expr_same t A B ss rs e (uncalled (expr_uses e) g h))
      by (Some span) h = refl

  -- ---- types and storage

  abbrev first : Effect → Scope
  first k = scope_at A ss k

  abbrev second : Effect → Scope
  second k = scope_at B rs k

  fields_same : (fs : List Formal) → Each P (formal_uses fs) → (k : Effect) → fields_written t fs (first k) ≡ fields_written t fs (second k)
  fields_same [] g k = refl
  fields_same (f ∷ fs) g k = λ i.
      (written_here f.ty (each_first P (type_uses f.ty) (formal_uses fs) g) i).ty true (first k) >>= λ W.
      fields_same fs (each_second P (type_uses f.ty) (formal_uses fs) g) k i >>= λ Fs. Ok (field f.name.text W.ty Fs)

  def_same : (name : List ℕ) (def : TypeDef) → Each P (def_uses def) → (k : Effect) →
      def_rule t name def (first k) ≡ def_rule t name def (second k)
  def_same name (td.Alias w) g k = λ i. (written_here w g i).ty true (first k) >>= λ W. Ok W.ty
  def_same name (td.Labels span is) g k = refl
  def_same name (td.Record span fs) g k = λ i. fields_same fs g k i >>= λ Fs. need (once fs []) T15 span >> bounded span (record_of name Fs)
  def_same name (td.Exception span fs) g k = λ i. fields_same fs g k i >>= λ Fs. need (once fs []) T15 span
      >> bounded span (exception_of name Fs)

  super_same : (o : Option Ident) (T : Ty) → Each P (supertype_uses o) → (k : Effect) →
      supertype_rule t o T (first k) ≡ supertype_rule t o T (second k)
  super_same None T g k = refl
  super_same (Some u) T g k = λ i.
      found_or (type_in (g.0 i)) T02 u.span >>= λ U. need (is_none (misfit t (structure T) (structure U))) T25 u.span
      >> Ok (reached u.text U)

  storage_same : (d : StorageDecl) (b : Bool) (w : Option TypeExpr) (e : Option Expr) → Each P (maybe_type_uses w ++ maybe_expr_uses e) →
      (k : Effect) → storage_rule t d b w e (first k) ≡ storage_rule t d b w e (second k)
  storage_same d b None None g k = refl
  storage_same d b (Some w) None g k = λ i. (written_here w (each_first P (type_uses w) [] g) i).ty true (first k)
      >>= λ W. first_in t (found_type t w).span W.ty
  storage_same d b None (Some e) g k =
      unless_barred e _ _ g (λ h i. (h i).typed (first k) >>= λ S. evaluated (constant_same t.limit A B e g i)
      >>= λ x. Ok (with_type (unannotated b S.ty) x))
  storage_same d b (Some w) (Some e) g k =
      let j = each_second P (type_uses w) (expr_uses e) g in
      unless_barred e _ _ j (λ h i.
      (written_here w (each_first P (type_uses w) (expr_uses e) g) i).ty true (first k) >>= λ W. (h i).typed (first k) >>= λ S.
      fitted (misfit t S.ty W.ty) (found t e).span >>
      evaluated (constant_same t.limit A B e j i) >>= λ x. Ok (with_type W.ty (viewed (closed W.ty) x)))

  -- a declaration of a type or of storage
  pub decl_same : (d : Decl) → Each P (decl_uses d) → (k : Effect) → decl_rule t d (first k) ≡ decl_rule t d (second k)
  decl_same (dc.Type d) g k = λ i.
      def_same d.name.text d.def (each_first P (def_uses d.def) (supertype_uses d.supertype) g) k i >>= λ T.
      super_same d.supertype T (each_second P (def_uses d.def) (supertype_uses d.supertype) g) k i >>= λ supers.
      Ok (type_entries d (named d.name.text supers (structure T)))
  decl_same (dc.Storage d) g k = λ i. storage_same d (is_var d.kind) d.ty d.init g k i
      >>= λ s. Ok (global d.name.text s.ty (is_var d.kind) s.value ∷ [])
  decl_same (dc.Func f) g k = refl

-- ---- signatures and bodies

abbrev pub head_over : List Entry → Head → Head
head_over X h = record h { names = X ++ h.names }

abbrev params_over : List Entry → (List Param × List Entry) → (List Param × List Entry)
params_over X q = (q.0, X ++ q.1)

module _ (t : Tests) (A B : List Entry) (p : SamePlaces A B) where
  abbrev Q : Use → Type 0
  Q = Shows A B

  type_behind : (w : TypeExpr) → Each Q (type_uses w) → (es : List Entry) →
      written_in (A ++ es) [] (found_type t w) ≡ written_in (B ++ es) [] (found_type t w)
  type_behind w g es = written_same t (A ++ es) (B ++ es) [] [] w (widths_behind A B p es (type_uses w) g)

  maybe_same : (w : Option TypeExpr) → Each Q (maybe_type_uses w) → (es : List Entry) →
      param_written t w (A ++ es) ≡ param_written t w (B ++ es)
  maybe_same None g es = refl
  maybe_same (Some w) g es = λ i. (type_behind w g es i).ty false (in_names (A ++ es)) >>= λ W. Ok (Some W.ty)

  result_same : (w : Option TypeExpr) → Each Q (maybe_type_uses w) → (es : List Entry) →
      result_rule t w (A ++ es) ≡ result_rule t w (B ++ es)
  result_same None g es = refl
  result_same (Some w) g es = λ i. (type_behind w g es i).ty false (in_names (A ++ es)) >>= λ W. Ok (Some W.ty)

  formals_same : (fs : List Formal) → Each Q (formal_uses fs) → (es : List Entry) →
      formals_rule t fs (A ++ es) ≡ formals_rule t fs (B ++ es)
  formals_same [] g es = refl
  formals_same (f ∷ fs) g es = λ i.
      (type_behind f.ty (each_first Q (type_uses f.ty) (formal_uses fs) g) es i).ty false (in_names (A ++ es)) >>= λ W.
      formals_same fs (each_second Q (type_uses f.ty) (formal_uses fs) g) es i >>= λ Ts. Ok (part W.ty Ts)

  params_free_same : (qs : List WrittenParam) (before : List (List ℕ)) → params_free qs before A ≡ params_free qs before B
  params_free_same [] before = refl
  params_free_same (q ∷ qs) before = λ i. need (p.free q.name.text i && not (has_name q.name.text before)) T01 q.name.span
      >> params_free_same qs (before ++ q.name.text ∷ []) i

  formals_free_same : (fs : List Formal) (before : List (List ℕ)) → formals_free fs before A ≡ formals_free fs before B
  formals_free_same [] before = refl
  formals_free_same (f ∷ fs) before = λ i. need (p.free f.name.text i && not (has_name f.name.text before)) T01 f.name.span
      >> formals_free_same fs (before ++ f.name.text ∷ []) i

  -- the parameters, with the names that are visible with them
  params_same : (qs : List WrittenParam) → Each Q (param_uses qs) → (before : List Param) (es : List Entry) →
      Over (params_over A) (params_over B) (params_rule t qs before (A ++ es)) (params_rule t qs before (B ++ es))
  params_same [] g before es = over_ok (params_over A) (params_over B) (before, es)
  params_same (q ∷ qs) g before es =
      over_same _ _ (maybe_same q.ty (each_first Q (maybe_type_uses q.ty) (param_uses qs) g) es) (λ T.
      let n = next_atom (A ++ es) in
      let e = param_entry q.name.text T n in
      over_by (ap (λ ns. params_rule t qs (before ++ record { atom = n; ty = T } ∷ []) ns) (append_assoc A es (e ∷ [])))
      ((λ i. let m = sym (same_atom A B p es) i in
      params_rule t qs (before ++ record { atom = m; ty = T } ∷ []) ((B ++ es) ++ param_entry q.name.text T m ∷ []))
      ∙ ap (λ ns. params_rule t qs (before ++ record { atom = n; ty = T } ∷ []) ns) (append_assoc B es (e ∷ [])))
      (params_same qs (each_second Q (maybe_type_uses q.ty) (param_uses qs) g) (before ++ record { atom = n; ty = T } ∷ []) (es ++ e ∷ [])))

  -- the names that a body begins with
  pub record Begun (fs : List Formal) (Ts : Parts) (es : List Entry) : Type 0 where
    pub names : List Entry
    pub first : with_formals fs Ts (A ++ es) ≡ A ++ names
    pub second : with_formals fs Ts (B ++ es) ≡ B ++ names

  begun : (fs : List Formal) (Ts : Parts) (es : List Entry) → Begun fs Ts es
  begun [] Ts es = record { names = es; first = refl; second = refl }
  begun (f ∷ fs) no_part es = record { names = es; first = refl; second = refl }
  begun (f ∷ fs) (part T Ts) es =
      let e = fixed f.name.text T (itself T (A ++ es)) in
      let r = begun fs Ts (es ++ e ∷ []) in
      record {
        names = r.names;
        first = ap (with_formals fs Ts) (append_assoc A es (e ∷ [])) ∙ r.first;
        second = (λ i. with_formals fs Ts ((B ++ es)
            ++ fixed f.name.text T (cond (is_integer T) (Some (atom_at (sym (same_atom A B p es) i))) None) ∷ []))
            ∙ ap (with_formals fs Ts) (append_assoc B es (e ∷ [])) ∙ r.second;
      }

  -- ---- the limit of a subprogram

  value_same : (e : Expr) → Each Q (expr_uses e) → known t e (in_names A) ≡ known t e (in_names B)
  value_same e g = ap evaluated (constant_same t.limit A B e g)

  limit_typed_same : (e : Option Expr) → Each Q (maybe_expr_uses e) → limit_typed t e A ≡ limit_typed t e B
  limit_typed_same None g = refl
  limit_typed_same (Some e) g = unless_barred t A B [] [] p e _ _ g (λ h i. (h i).typed (scope_at A [] Pure) >>= λ S. Ok (Some S))

  limit_same : (e : Option Expr) → Each Q (maybe_expr_uses e) → (S : Option Typed) → limit_rule t e S A ≡ limit_rule t e S B
  limit_same None g S = refl
  limit_same (Some e) g None = refl
  limit_same (Some e) g (Some S) = λ i. need (is_integer S.ty) T05 (found t e).span >> value_same e g i
      >>= λ x. as_number (found t e).span x

  -- ---- signatures

  abbrev pub HeadOver : Result Head Fault → Result Head Fault → Type 0
  HeadOver = Over (head_over A) (head_over B)

  -- a signature is judged alike
  pub signature_behind : (f : Func) → Each Q (head_uses f) → HeadOver (signature_rule t A f) (signature_rule t B f)
  signature_behind f g =
      let a = param_uses f.params in
      let b = formal_uses f.formals in
      let c = maybe_type_uses f.result in
      let d = maybe_expr_uses f.limit in
      let h = each_second Q a (b ++ (c ++ d)) g in
      let j = each_second Q b (c ++ d) h in
      over_same _ _ (params_free_same f.params []) (λ before.
      over_by refl (ap (λ r. r >> params_then B f) (sym (formals_free_same f.formals before)))
      (over_after _
      (over_by (ap (λ ns. params_rule t f.params [] ns >>= rest A f) (sym (append-nil A)))
      (ap (λ ns. params_rule t f.params [] ns >>= rest B f) (sym (append-nil B)))
      (over_then (rest A f) (rest B f) (params_same f.params (each_first Q a (b ++ (c ++ d)) g) [] []) (λ q.
      over_same _ _ (formals_same f.formals (each_first Q b (c ++ d) h) q.1) (λ Ts.
      over_same _ _ (result_same f.result (each_first Q c d j) q.1) (λ T.
      over_same _ _ (limit_typed_same f.limit (each_second Q c d j)) (λ l.
      over_after (params_are_integers t f.params q.0)
      (over_same _ _ (limit_same f.limit (each_second Q c d j) l) (λ limit.
      let r = begun f.formals Ts q.1 in
      over_by (ap (λ ns. Ok (headed f q.0 Ts T limit ns)) r.first) (ap (λ ns. Ok (headed f q.0 Ts T limit ns)) r.second)
      (over_ok (head_over A) (head_over B) (headed f q.0 Ts T limit r.names))))))))))))
    where
      headed : Func → List Param → Parts → Option Ty → ℤ → List Entry → Head
      headed f ps Ts T limit ns = record {
        func = f;
        signature = record { name = f.name.text; class = class_of f.qualifier; params = ps; formals = Ts; result = T; limit = limit };
        names = ns;
      }

      rest : List Entry → Func → (List Param × List Entry) → Result Head Fault
      rest X f q =
          formals_rule t f.formals q.1 >>= λ Ts.
          result_rule t f.result q.1 >>= λ T.
          limit_typed t f.limit X >>= λ l.
          params_are_integers t f.params q.0 >>
          limit_rule t f.limit l X >>= λ limit.
          Ok (headed f q.0 Ts T limit (with_formals f.formals Ts q.1))

      params_then : List Entry → Func → Result Head Fault
      params_then X f = params_rule t f.params [] X >>= rest X f

  -- a body over a signature is judged alike
  pub body_same : (ss rs : List Signature) (h : Head) → Each (Stands A B ss rs) (body_uses h.func) →
      body_rule t ss (head_over A h) ≡ body_rule t rs (head_over B h)
  body_same ss rs h g =
      same_then _ _ (stmts_same t A B ss rs p h.func.body g Pure
      (record { locals = h.names; class = h.signature.class; result = h.signature.result; handles = false })) (λ l. refl)
