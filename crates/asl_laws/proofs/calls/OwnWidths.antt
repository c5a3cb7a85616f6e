-- A formal is written as the width of a parameter alone, for a run, just where its type is that for the rules.
use Rattle.std.proofs.Common.{◌≡◌, ℕ, pos, Bool, true, false, ◌==◌, ◌&&◌, List, [], ◌∷◌, Some, Ok, refl, sym, ap, ◌∙◌, subst, map}
use Rattle.std.specs.Prelude.{nat_le, length}
use Rattle.asl_syn.specs.declared.code.StaticCode.TheVariants.{T02, T19, T20}
use Rattle.asl_syn.specs.declared.tree.Expr.{Expr}
use Rattle.asl_syn.specs.declared.tree.TypeExpr.{TypeExpr, out-TypeExpr}
use Rattle.asl_syn.specs.declared.tree.Bitfield.TheOpen as ex
use Rattle.asl_syn.specs.declared.tree.Bitfield.TheFolds.{fold_out-TypeExpr}
use Rattle.asl_syn.specs.Layers.{TypeLayer}
use Rattle.asl_poly.specs.Terms.{Summand, Polynomial}
use Rattle.asl_poly.specs.Poly.{constant_value}
use Rattle.asl_rules.specs.Faults.{need, found_or}
use Rattle.asl_rules.specs.Tests.{Tests}
use Rattle.asl_rules.specs.types.Types.{Ty, integer_of, boolean, bits_of, enumeration_of, record_of, exception_of, tuple_of, array_of, named, bits_wide}
use Rattle.asl_rules.specs.types.Closed.{closed}
use Rattle.asl_rules.specs.declarations.Scopes.{Scope, type_of_name}
use Rattle.asl_rules.specs.types.Widths.{bounded, length_of}
use Rattle.asl_rules.specs.private.Worth.{AllOf, AtomsOf}
use Rattle.asl_rules.specs.types.Shapes as shapes
use Rattle.asl_poly.specs.Poly.{is_one, is_only, is_factor, is_atom}
use Rattle.asl_rules.specs.types.Alone.{Polynomials, polynomial, is_alone}
use Rattle.asl_rules.specs.expressions.Typing.{Found, Width}
use Rattle.asl_rules.specs.expressions.Slicing.{FoundSlice}
use Rattle.asl_rules.specs.expressions.Patterns.{FoundPattern}
use Rattle.asl_rules.specs.expressions.Calls as rules
use Rattle.asl_rules.specs.types.Writing.{FoundPart, FoundBitfield, Written, FoundType, written_as, all_parts, parts_written, part_shapes, part_trees, most_parts, all_fields, field_shapes, field_trees, view_rule, within_limits, types_in_order, types_written, type_shapes, all_sizes}
use Rattle.asl_rules.specs.expressions.Exprs.{FoundField, found_type, width, written, written_rule, expr_rule, given_rule, slice_rule, part_rule, bitfield_rule, type_rule, pattern_rule}
use Rattle.asl_rules.specs.runs.Evaluation as runs
use Rattle.asl_rules.proofs.basics.Inversions.{ok_ok, bind_ok, then_ok, found_ok}
use Rattle.asl_rules.proofs.widths.WidthAtoms.{constant_good}
use Rattle.asl_laws.proofs.widths.TypesOver.{Never, Over}
use Rattle.asl_rules.proofs.basics.Opening.{found_part, found_bitfield, type_opened, bounded_ok}

-- what has no atom is not one
never_and : (b : Bool) → (b && false) ≡ false
never_and true = refl
never_and false = refl

not_only : (n : ℕ) (xs : List ℕ) → AllOf Never xs → is_only n xs ≡ false
not_only n [] h = refl
not_only n (x ∷ xs) h = absurd h.0

never_factor : (n : ℕ) (ts : List Summand) → AtomsOf Never ts → is_factor n ts ≡ false
never_factor n [] h = refl
never_factor n (t ∷ []) h = ap (λ b. is_one t.coefficient && b) (not_only n t.factors h.0) ∙ never_and (is_one t.coefficient)
never_factor n (t ∷ u ∷ ts) h = refl

never_atom : (n : ℕ) (p : Polynomial) → AtomsOf Never p.terms → is_atom n p ≡ false
never_atom n p h = ap (λ b. (p.denominator == 1) && b) (never_factor n p.terms h) ∙ never_and (p.denominator == 1)

never_alone : (n : ℕ) (T : Ty) → Over Never T → rules.is_width_alone n T ≡ false
never_alone n (integer_of ps) h = refl
never_alone n boolean h = refl
never_alone n (bits_of w view) h = never_atom n w h
never_alone n (enumeration_of name labels) h = refl
never_alone n (record_of name fs) h = refl
never_alone n (exception_of name fs) h = refl
never_alone n (tuple_of ts) h = refl
never_alone n (array_of k T) h = refl
never_alone n (named name supers T) h = refl

module _ (tests : Tests) (p : Polynomials) (G : Scope) (widths : (e : Expr) (w : Width) → width tests e G ≡ Ok w → polynomial e p ≡ Some w.poly) (fixed : (name : List ℕ) (T : Ty) → type_of_name name G.names ≡ Some T → Over Never T) where
  says : (n : ℕ) (b : Bool) (V W : Written) → V ≡ W → b ≡ rules.is_width_alone n V.ty → b ≡ rules.is_width_alone n W.ty
  says n b V W e h = subst (λ (Z : Written). b ≡ rules.is_width_alone n Z.ty) e h

  alone_layer : (n : ℕ) (y : TypeLayer) (W : Written) → written_rule tests (type_opened tests y) false G ≡ Ok W → runs.is_width_alone p n y ≡ rules.is_width_alone n W.ty
  alone_layer n (ex.IntegerType span ps) W h =
      let q = bind_ok (all_parts (map (found_part tests) ps) G) _ W h in
      let m = then_ok (need (nat_le (length q.value) most_parts) T20 span) _ W q.then in
      says n false _ W (ok_ok (written_as (integer_of (parts_written q.value)) (shapes.integer_of (part_shapes q.value)) (part_trees q.value)) W m.then) refl
  alone_layer n (ex.BooleanType span) W h = says n false _ W (ok_ok (written_as boolean shapes.boolean []) W h) refl
  alone_layer n (ex.BitType span) W h = says n false _ W (ok_ok (written_as (bits_wide 1) (shapes.one_bit span) []) W h) (sym (never_alone n (bits_wide 1) (constant_good Never (pos 1))))
  alone_layer n (ex.NamedType span name) W h =
      let t = bind_ok (found_or (type_of_name name G.names) T02 span) _ W h in
      says n false _ W (ok_ok (written_as t.value (shapes.known (closed t.value)) []) W t.then) (sym (never_alone n t.value (fixed name t.value (found_ok (type_of_name name G.names) T02 span t.value t.first))))
  alone_layer n (ex.BitsType span e bs) W h =
      let w = bind_ok (width tests e G) _ W h in
      let x = bind_ok (all_fields (map (found_bitfield tests) bs) G) _ W w.then in
      let v = bind_ok (view_rule span w.value.poly x.value) _ W x.then in
      let m = then_ok (need (within_limits tests.limit false w.value.poly) T20 span) _ W v.then in
      says n (is_alone n (polynomial e p)) _ W (ok_ok (written_as (bits_of w.value.poly v.value) (shapes.bits_of span (field_shapes x.value)) (w.value.tree ∷ field_trees x.value)) W m.then) (ap (is_alone n) (widths e w.value w.first))
  alone_layer n (ex.TupleType span ts) W h =
      let s = bind_ok (types_in_order false (map (found_type tests) ts) G) _ W h in
      let t = bind_ok (bounded span (tuple_of (types_written s.value))) _ W s.then in
      says n false _ W (ok_ok (written_as t.value (shapes.tuple_of (type_shapes s.value)) (all_sizes s.value)) W t.then)
      (ap (rules.is_width_alone n) (bounded_ok span (tuple_of (types_written s.value)) t.value t.first))
  alone_layer n (ex.ArrayType span e t) W h =
      let w = bind_ok (width tests e G) _ W h in
      let u = bind_ok (written tests t false G) _ W w.then in
      let z = bind_ok (found_or (constant_value w.value.poly) T19 span) _ W u.then in
      let m = bind_ok (length_of span z.value) _ W z.then in
      let b = bind_ok (bounded span (array_of m.value u.value.ty)) _ W m.then in
      says n false _ W (ok_ok (written_as b.value (shapes.array_of u.value.shape) (w.value.tree ∷ u.value.sizes)) W b.then)
      (ap (rules.is_width_alone n) (bounded_ok span (array_of m.value u.value.ty) b.value b.first))

  pub alone_same : (n : ℕ) (t : TypeExpr) (W : Written) → written tests t false G ≡ Ok W → runs.is_width_alone p n (out-TypeExpr t) ≡ rules.is_width_alone n W.ty
  alone_same n t W h =
      alone_layer n (out-TypeExpr t) W (sym (ap (λ (f : FoundType). f.ty false G) (fold_out-TypeExpr FoundBitfield FoundPart Found FoundField FoundPattern FoundSlice FoundType bitfield_rule part_rule (expr_rule tests) given_rule (pattern_rule tests) slice_rule (type_rule tests) t)) ∙ h)
