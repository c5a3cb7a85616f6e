-- Storage outside bodies has the written type and begins with what evaluating its declaration gives.
use Rattle.std.proofs.Common.{◌≡◌, Bool, true, cond, List, [], ◌∷◌, Option, Some, None, Ok, refl, sym, ap, ◌∙◌, subst}
use Rattle.asl_syn.specs.declared.code.StaticCode.TheVariants.{S03, T04}
use Rattle.asl_syn.specs.declared.tree.Expr.{Expr}
use Rattle.asl_syn.specs.declared.tree.TypeExpr.{TypeExpr, out-TypeExpr}
use Rattle.asl_syn.specs.declared.tree.Bitfield.TheOpen as ex
use Rattle.asl_syn.specs.declared.tree.Bitfield.TheFolds.{fold_out-TypeExpr}
use Rattle.asl_syn.specs.declared.tree.StorageDecl.{StorageDecl}
use Rattle.asl_syn.specs.declared.tree.Decl.{Decl}
use Rattle.asl_syn.specs.declared.tree.Decl.TheVariants as dc
use Rattle.asl_syn.specs.Layers.{TypeLayer}
use Rattle.asl_rules.specs.Faults.{◌>>=◌, ◌>>◌, none_at, fitted, fault_of}
use Rattle.asl_rules.specs.Tests.{Tests}
use Rattle.asl_rules.specs.types.Types.{misfit}
use Rattle.asl_rules.specs.types.Closed.{Closed, closed}
use Rattle.asl_rules.specs.values.Values.{Value}
use Rattle.asl_rules.specs.types.Views.{viewed}
use Rattle.asl_rules.specs.declarations.Scopes.{Entry, Standing, Stored, Storage, global, standing_of, storage_in}
use Rattle.asl_rules.specs.declarations.Barred.{barred}
use Rattle.asl_rules.specs.expressions.Typing.{Found}
use Rattle.asl_rules.specs.expressions.Slicing.{FoundSlice}
use Rattle.asl_rules.specs.expressions.Patterns.{FoundPattern}
use Rattle.asl_rules.specs.types.Writing.{FoundPart, FoundBitfield, FoundType}
use Rattle.asl_rules.specs.expressions.Exprs as exprs
use Rattle.asl_rules.specs.expressions.Exprs.{FoundField, found, found_type, typed, written, expr_rule, given_rule, slice_rule, part_rule, bitfield_rule, type_rule, pattern_rule}
use Rattle.asl_rules.specs.runs.Plans.{Faulted, Stuck, Pure, Good, Bad}
use Rattle.asl_rules.specs.runs.Pures as pures
use Rattle.asl_rules.specs.declarations.Constants.{constant}
use Rattle.asl_rules.specs.types.Written.{Sized, first_value, type_span, type_layer_span}
use Rattle.asl_rules.specs.declarations.Declarations.{in_names, evaluated, Initial, with_type, unannotated, known, first_in, storage_rule, is_var}
use Rattle.asl_rules.specs.declarations.Turns.{names_of_program}
use Rattle.asl_rules.specs.declarations.Programs.{Environment, environment}
use Rattle.asl_laws.specs.Described.{begins_with, HasWritten, StorageDescribed}
use Rattle.asl_rules.proofs.basics.Inversions.{ok_ok, err_ok, bind_ok, then_ok}
use Rattle.asl_rules.proofs.basics.Opening.{type_opened}
use Rattle.asl_rules.proofs.basics.Tests.{name_is}
use Rattle.asl_rules.proofs.verdict.Distinct.{In}
use Rattle.asl_laws.proofs.described.WrittenTypes.{Outside, written_is, begun}
use Rattle.asl_laws.proofs.described.DeclaredTypes.{stands}

-- ---- evaluations

good_of : (p : Pure Value) (x : Value) → evaluated p ≡ Ok x → p ≡ Good x
good_of (Good y) x h = ap Good (ok_ok y x h)
good_of (Bad (Faulted code span)) x h = err_ok (record { code = T04; inner = Some code; span = span }) x h
good_of (Bad (Stuck mistake span)) x h = err_ok (fault_of T04 span) x h

-- ---- where a written type stands

layer_span : (t : Tests) (x : TypeLayer) → exprs.type_span (type_opened t x) ≡ type_layer_span x
layer_span t (ex.IntegerType span ps) = refl
layer_span t (ex.BooleanType span) = refl
layer_span t (ex.BitType span) = refl
layer_span t (ex.NamedType span name) = refl
layer_span t (ex.BitsType span e fs) = refl
layer_span t (ex.TupleType span ts) = refl
layer_span t (ex.ArrayType span e t1) = refl

span_is : (t : Tests) (ty : TypeExpr) → (found_type t ty).span ≡ type_span ty
span_is t ty = ap (λ (f : FoundType). f.span) (fold_out-TypeExpr FoundBitfield FoundPart Found FoundField FoundPattern FoundSlice FoundType bitfield_rule part_rule (expr_rule t) given_rule (pattern_rule t) slice_rule (type_rule t) ty) ∙ layer_span t (out-TypeExpr ty)

module _ (t : Tests) (ds : List Decl) (g : Outside t ds) where
  abbrev names : List Entry
  names = names_of_program t ds

  abbrev env : Environment
  env = environment t ds

  -- storage with this type and this value
  abbrev stored : Bool → Initial → Storage
  stored b s = record { ty = s.ty; is_global = true; is_mutable = b; initial = Some s.value; counted = None }

  record Begins (b : Bool) (o : Option TypeExpr) (e : Option Expr) (s : Initial) : Type 0 where
    is : begins_with env o e ≡ Some (Good s.value)
    has : HasWritten env o (stored b s)

  -- without an initialiser
  first_begins : (b : Bool) (ty : TypeExpr) (s : Initial) → (written t ty true (in_names names) >>= λ W. first_in t (found_type t ty).span W.ty) ≡ Ok s → Begins b (Some ty) None s
  first_begins b ty s h =
      let w = bind_ok (written t ty true (in_names names)) _ s h in
      let T : Closed = closed w.value.ty in
      let at = (found_type t ty).span in
      let v = bind_ok (evaluated (first_value t.limit at T)) _ s w.then in
      let x = v.value in
      let i = begun t ds g ty true w.value w.first in
      let first : first_value t.limit (type_span ty) i.sized.type_is ≡ Good x =
      ap (first_value t.limit (type_span ty)) i.type_is ∙ ap (λ span. first_value t.limit span T) (sym (span_is t ty)) ∙ good_of (first_value t.limit at T) x v.first in
      let n : with_type w.value.ty x ≡ s = ok_ok (with_type w.value.ty x) s v.then in
      subst (Begins b (Some ty) None) n (record {
        is = ap (λ o. Some (pures.◌>>=◌ (pures.found_type (type_span ty) o) (λ (z : Sized). z.first))) i.is ∙ ap Some (i.begins.gives x first);
        has = written_is t ds g ty true w.value w.first;
      })

  -- without a written type
  value_begins : (b : Bool) (e : Expr) (s : Initial) → (none_at T04 (barred e names) >> typed t e (in_names names) >>= λ S. known t e (in_names names) >>= λ x. Ok (with_type (unannotated b S.ty) x)) ≡ Ok s → Begins b None (Some e) s
  value_begins b e s h =
      let n = then_ok (none_at T04 (barred e names)) _ s h in
      let S = bind_ok (typed t e (in_names names)) _ s n.then in
      let v = bind_ok (known t e (in_names names)) _ s S.then in
      subst (Begins b None (Some e)) (ok_ok (with_type (unannotated b S.value.ty) v.value) s v.then) (record { is = ap Some (good_of (constant t.limit e names) v.value v.first); has = tt })

  -- with both
  fitting_begins : (b : Bool) (ty : TypeExpr) (e : Expr) (s : Initial) → (none_at T04 (barred e names) >> written t ty true (in_names names) >>= λ W. typed t e (in_names names) >>= λ S. fitted (misfit t S.ty W.ty) (found t e).span >> known t e (in_names names) >>= λ x. Ok (with_type W.ty (viewed (closed W.ty) x))) ≡ Ok s → Begins b (Some ty) (Some e) s
  fitting_begins b ty e s h =
      let n = then_ok (none_at T04 (barred e names)) _ s h in
      let w = bind_ok (written t ty true (in_names names)) _ s n.then in
      let S = bind_ok (typed t e (in_names names)) _ s w.then in
      let f = then_ok (fitted (misfit t S.value.ty w.value.ty) (found t e).span) _ s S.then in
      let v = bind_ok (known t e (in_names names)) _ s f.then in
      let T : Closed = closed w.value.ty in
      let written_so = written_is t ds g ty true w.value w.first in
      subst (Begins b (Some ty) (Some e)) (ok_ok (with_type w.value.ty (viewed T v.value)) s v.then) (record {
        is = ap (λ o. Some (pures.◌>>=◌ (pures.found_type (type_span ty) o) (λ C. pures.◌>>=◌ (constant t.limit e names) (λ x. Good (viewed C x))))) written_so
            ∙ ap (λ p. Some (pures.◌>>=◌ p (λ x. Good (viewed T x)))) (good_of (constant t.limit e names) v.value v.first);
        has = written_so;
      })

  begins : (d : StorageDecl) (b : Bool) (o : Option TypeExpr) (e : Option Expr) (s : Initial) → storage_rule t d b o e (in_names names) ≡ Ok s → Begins b o e s
  begins d b None None s h = err_ok (fault_of S03 d.span) s h
  begins d b (Some ty) None s h = first_begins b ty s h
  begins d b None (Some e) s h = value_begins b e s h
  begins d b (Some ty) (Some e) s h = fitting_begins b ty e s h

  -- ---- a declaration

  pub storage_described : (d : StorageDecl) → In (dc.Storage d) ds → StorageDescribed env d
  storage_described d i =
      let b = g.brings (dc.Storage d) i refl in
      let name = d.name.text in
      let s = bind_ok (storage_rule t d (is_var d.kind) d.ty d.init (in_names names)) _ b.entries b.gives in
      let st : Standing = Stored (stored (is_var d.kind) s.value) in
      let e : b.entries ≡ global name s.value.ty (is_var d.kind) s.value.value ∷ [] = sym (ok_ok (global name s.value.ty (is_var d.kind) s.value.value ∷ []) b.entries s.then) in
      let here : standing_of name b.entries ≡ Some st = ap (standing_of name) e ∙ ap (λ c. cond c (Some st) None) (name_is name) in
      let known_so : standing_of name names ≡ Some st = stands t ds g (dc.Storage d) b.entries name st b.is_of here tt in
      let k = begins d (is_var d.kind) d.ty d.init s.value s.first in
      record { storage = stored (is_var d.kind) s.value; stands = ap storage_in known_so; mutable = refl; value = s.value.value; is = k.is; begins = refl; has = k.has }
