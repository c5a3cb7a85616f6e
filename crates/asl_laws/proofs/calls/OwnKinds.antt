-- The kind of a written type, as a run finds it, is that of the type that was judged.
use Rattle.std.proofs.Common.{◌≡◌, ℕ, ℤ, pos, negsuc, Bool, List, [], ◌∷◌, Option, Some, option_map, Ok, refl, sym, ap, ◌∙◌, subst, map}
use Rattle.std.specs.Prelude.{option_and_then, nat_le, length}
use Rattle.asl_syn.specs.declared.token.Span.{Span}
use Rattle.asl_syn.specs.declared.code.StaticCode.TheVariants.{T02, T19, T20}
use Rattle.asl_syn.specs.declared.tree.Bitfield.{Bitfield}
use Rattle.asl_syn.specs.declared.tree.ConstraintPart.{ConstraintPart}
use Rattle.asl_syn.specs.declared.tree.Expr.{Expr}
use Rattle.asl_syn.specs.declared.tree.FieldValue.{FieldValue}
use Rattle.asl_syn.specs.declared.tree.Pattern.{Pattern}
use Rattle.asl_syn.specs.declared.tree.Slice.{Slice}
use Rattle.asl_syn.specs.declared.tree.TypeExpr.{TypeExpr, roll-TypeExpr}
use Rattle.asl_syn.specs.declared.tree.Bitfield.TheOpen as ex
use Rattle.asl_syn.specs.declared.tree.Bitfield.TheFolds.{fold-roll-TypeExpr, para-roll-TypeExpr, map-TypeExpr, ind-TypeExpr}
use Rattle.asl_syn.specs.Layers.{TypeLayer}
use Rattle.asl_poly.specs.Poly.{constant_value}
use Rattle.asl_rules.specs.Faults.{need, found_or, fault_of}
use Rattle.asl_rules.specs.Tests.{Tests}
use Rattle.asl_rules.specs.types.Types.{Ty, Kind, integer_of, boolean, bits_of, tuple_of, array_of, kind, kinds, bits_wide, integers, booleans, bitvectors, tuples, one_more}
use Rattle.asl_rules.specs.types.Closed.{closed, kind_at}
use Rattle.asl_rules.specs.declarations.Scopes.{Scope, type_of_name}
use Rattle.asl_rules.specs.types.Widths.{bounded, length_of}
use Rattle.asl_rules.specs.types.Shapes as shapes
use Rattle.asl_rules.specs.types.Shaped.{Named, Unread}
use Rattle.asl_rules.specs.types.Alone.{Polynomials, polynomial}
use Rattle.asl_rules.specs.expressions.Typing.{Found, Width}
use Rattle.asl_rules.specs.expressions.Slicing.{FoundSlice}
use Rattle.asl_rules.specs.expressions.Patterns.{FoundPattern}
use Rattle.asl_rules.specs.types.Writing.{FoundPart, FoundBitfield, Written, FoundType, written_as, all_parts, parts_written, part_shapes, part_trees, most_parts, all_fields, field_shapes, field_trees, view_rule, within_limits, types_in_order, types_written, type_shapes, all_sizes}
use Rattle.asl_rules.specs.expressions.Exprs.{FoundField, found_type, width, written, written_rule, expr_rule, given_rule, slice_rule, part_rule, bitfield_rule, type_rule, pattern_rule}
use Rattle.asl_rules.specs.types.Written.{kinds_first, all_kinds, array_kind, kind_layer, kind_written}
use Rattle.asl_rules.proofs.basics.Inversions.{ok_ok, err_ok, bind_ok, then_ok, found_ok}
use Rattle.asl_rules.proofs.values.KindOf.{kind_same}
use Rattle.asl_rules.proofs.basics.Opening.{found_part, found_bitfield, type_opened, bounded_ok}

module _ (tests : Tests) (types : Named) (f : Polynomials) (G : Scope) (names : (name : List ℕ) (T : Ty) → type_of_name name G.names ≡ Some T → types name ≡ Some (closed T)) (widths : (e : Expr) (w : Width) → width tests e G ≡ Ok w → polynomial e f ≡ Some w.poly) where
  KindIs : TypeExpr → Type 0
  KindIs t = (outside : Bool) (W : Written) → written tests t outside G ≡ Ok W → kind_written types f t ≡ Some (kind W.ty)

  abbrev Any : {A : Type 0} → A → Type 0
  Any x = Unit {0}

  abbrev Below : Type 0
  Below = ex.TypeExpr-F ((b : Bitfield) × Any b) ((p : ConstraintPart) × Any p) ((e : Expr) × Any e) ((f : FieldValue) × Any f) ((p : Pattern) × Any p) ((s : Slice) × Any s) ((t : TypeExpr) × KindIs t)

  abbrev trees : Below → TypeLayer
  trees = map-TypeExpr ((b : Bitfield) × Any b) ((p : ConstraintPart) × Any p) ((e : Expr) × Any e) ((f : FieldValue) × Any f) ((p : Pattern) × Any p) ((s : Slice) × Any s) ((t : TypeExpr) × KindIs t)
      Bitfield ConstraintPart Expr FieldValue Pattern Slice TypeExpr (λ x. x.0) (λ x. x.0) (λ x. x.0) (λ x. x.0) (λ x. x.0) (λ x. x.0) (λ x. x.0)

  abbrev with_kind : TypeExpr → TypeExpr × Option Kind
  with_kind t = (t, kind_written types f t)

  abbrev taken : TypeLayer → Option Kind
  taken z = kind_layer types f (map-TypeExpr Bitfield ConstraintPart Expr FieldValue Pattern Slice TypeExpr (Bitfield × Unread) (ConstraintPart × Unread) (Expr × Unread) (FieldValue × Unread) (Pattern × Unread) (Slice × Unread) (TypeExpr × Option Kind)
      (λ b. (b, tt)) (λ p. (p, tt)) (λ e. (e, tt)) (λ f. (f, tt)) (λ p. (p, tt)) (λ s. (s, tt)) with_kind z)

  says : (k : Option Kind) (V W : Written) → V ≡ W → k ≡ Some (kind V.ty) → k ≡ Some (kind W.ty)
  says k V W e h = subst (λ (Z : Written). k ≡ Some (kind Z.ty)) e h

  kinds_are : (ts : List ((t : TypeExpr) × KindIs t)) (outside : Bool) (Ws : List Written) → types_in_order outside (map (found_type tests) (map (λ t. t.0) ts)) G ≡ Ok Ws → all_kinds (map with_kind (map (λ t. t.0) ts)) ≡ Some (kinds (types_written Ws))
  unfolding KindIs
  kinds_are [] outside Ws h = ap (λ Vs. Some (kinds (types_written Vs))) (ok_ok [] Ws h)
  kinds_are (t ∷ ts) outside Ws h =
      let s = bind_ok (written tests t.0 outside G) _ Ws h in
      let r = bind_ok (types_in_order outside (map (found_type tests) (map (λ t. t.0) ts)) G) _ Ws s.then in
      ap (λ o. kinds_first o (all_kinds (map with_kind (map (λ t. t.0) ts)))) (t.1 outside s.value s.first)
      ∙ ap (option_map (λ ks. one_more (kind s.value.ty) ks)) (kinds_are ts outside r.value r.first)
      ∙ ap (λ Vs. Some (kinds (types_written Vs))) (ok_ok (s.value ∷ r.value) Ws r.then)

  long : (span : Span) (z : ℤ) (n : ℕ) → length_of span z ≡ Ok n → z ≡ pos n
  long span (pos m) n h = let p = then_ok _ (Ok m) n h in ap pos (ok_ok m n p.then)
  long span (negsuc m) n h = err_ok (fault_of T20 span) n h

  layer_kind : (y : Below) (outside : Bool) (W : Written) → written_rule tests (type_opened tests (trees y)) outside G ≡ Ok W → taken (trees y) ≡ Some (kind W.ty)
  unfolding KindIs
  layer_kind (ex.IntegerType span ps) outside W h =
      let p = bind_ok (all_parts (map (found_part tests) (map (λ p. p.0) ps)) G) _ W h in
      let n = then_ok (need (nat_le (length p.value) most_parts) T20 span) _ W p.then in
      says (Some integers) _ W (ok_ok (written_as (integer_of (parts_written p.value)) (shapes.integer_of (part_shapes p.value)) (part_trees p.value)) W n.then) refl
  layer_kind (ex.BooleanType span) outside W h = says (Some booleans) _ W (ok_ok (written_as boolean shapes.boolean []) W h) refl
  layer_kind (ex.BitType span) outside W h = says (Some bitvectors) _ W (ok_ok (written_as (bits_wide 1) (shapes.one_bit span) []) W h) refl
  layer_kind (ex.NamedType span name) outside W h =
      let t = bind_ok (found_or (type_of_name name G.names) T02 span) _ W h in
      says (option_map kind_at (types name)) _ W (ok_ok (written_as t.value (shapes.known (closed t.value)) []) W t.then)
      (ap (option_map kind_at) (names name t.value (found_ok (type_of_name name G.names) T02 span t.value t.first)) ∙ ap Some (kind_same t.value (λ n. pos 0)))
  layer_kind (ex.BitsType span e bs) outside W h =
      let w = bind_ok (width tests e.0 G) _ W h in
      let x = bind_ok (all_fields (map (found_bitfield tests) (map (λ b. b.0) bs)) G) _ W w.then in
      let v = bind_ok (view_rule span w.value.poly x.value) _ W x.then in
      let n = then_ok (need (within_limits tests.limit outside w.value.poly) T20 span) _ W v.then in
      says (Some bitvectors) _ W (ok_ok (written_as (bits_of w.value.poly v.value) (shapes.bits_of span (field_shapes x.value)) (w.value.tree ∷ field_trees x.value)) W n.then) refl
  layer_kind (ex.TupleType span ts) outside W h =
      let s = bind_ok (types_in_order outside (map (found_type tests) (map (λ t. t.0) ts)) G) _ W h in
      let t = bind_ok (bounded span (tuple_of (types_written s.value))) _ W s.then in
      says (option_map tuples (all_kinds (map with_kind (map (λ t. t.0) ts)))) _ W (ok_ok (written_as t.value (shapes.tuple_of (type_shapes s.value)) (all_sizes s.value)) W t.then)
      (ap (option_map tuples) (kinds_are ts outside s.value s.first) ∙ ap (λ T. Some (kind T)) (bounded_ok span (tuple_of (types_written s.value)) t.value t.first))
  layer_kind (ex.ArrayType span e t) outside W h =
      let w = bind_ok (width tests e.0 G) _ W h in
      let u = bind_ok (written tests t.0 outside G) _ W w.then in
      let z = bind_ok (found_or (constant_value w.value.poly) T19 span) _ W u.then in
      let n = bind_ok (length_of span z.value) _ W z.then in
      let b = bind_ok (bounded span (array_of n.value u.value.ty)) _ W n.then in
      says (array_kind (option_and_then constant_value (polynomial e.0 f)) (kind_written types f t.0)) _ W (ok_ok (written_as b.value (shapes.array_of u.value.shape) (w.value.tree ∷ u.value.sizes)) W b.then)
      (ap (λ o. array_kind (option_and_then constant_value o) (kind_written types f t.0)) (widths e.0 w.value w.first)
      ∙ ap (λ o. array_kind o (kind_written types f t.0)) (found_ok (constant_value w.value.poly) T19 span z.value z.first)
      ∙ ap (λ y. array_kind (Some y) (kind_written types f t.0)) (long span z.value n.value n.first)
      ∙ ap (array_kind (Some (pos n.value))) (t.1 outside u.value u.first)
      ∙ ap (λ T. Some (kind T)) (bounded_ok span (array_of n.value u.value.ty) b.value b.first))

  kind_step : (x : TypeLayer) (y : Below) → trees y ≡ x → KindIs (roll-TypeExpr x)
  unfolding KindIs
  kind_step x y is outside W h =
      let k : written_rule tests (type_opened tests x) outside G ≡ Ok W = sym (ap (λ (f : FoundType). f.ty outside G) (fold-roll-TypeExpr FoundBitfield FoundPart Found FoundField FoundPattern FoundSlice FoundType bitfield_rule part_rule (expr_rule tests) given_rule (pattern_rule tests) slice_rule (type_rule tests) x)) ∙ h in
      (para-roll-TypeExpr Unread Unread Unread Unread Unread Unread (Option Kind) (λ _. tt) (λ _. tt) (λ _. tt) (λ _. tt) (λ _. tt) (λ _. tt) (kind_layer types f) x)
      ∙ sym (ap taken is) ∙ layer_kind y outside W (ap (λ z. written_rule tests (type_opened tests z) outside G) is ∙ k)

  kinds_by : (t : TypeExpr) → KindIs t
  kinds_by = ind-TypeExpr Any Any Any Any Any Any KindIs (λ x y is. tt) (λ x y is. tt) (λ x y is. tt) (λ x y is. tt) (λ x y is. tt) (λ x y is. tt) kind_step

  pub kind_is : (t : TypeExpr) (outside : Bool) (W : Written) → written tests t outside G ≡ Ok W → kind_written types f t ≡ Some (kind W.ty)
  unfolding KindIs
  kind_is t outside W h = kinds_by t outside W h
