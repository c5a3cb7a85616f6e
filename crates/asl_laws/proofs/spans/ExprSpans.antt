-- The faults of what is found at an expression or at a written type stand at spans of its tree, in every scope, and have other codes than T04.
use Rattle.std.proofs.Common.{Bool, List, map, sym, subst}
use Rattle.asl_syn.specs.declared.code.Fault.{Fault}
use Rattle.asl_syn.specs.declared.tree.Bitfield.{Bitfield}
use Rattle.asl_syn.specs.declared.tree.ConstraintPart.{ConstraintPart}
use Rattle.asl_syn.specs.declared.tree.Expr.{Expr}
use Rattle.asl_syn.specs.declared.tree.FieldValue.{FieldValue}
use Rattle.asl_syn.specs.declared.tree.Pattern.{Pattern}
use Rattle.asl_syn.specs.declared.tree.Slice.{Slice}
use Rattle.asl_syn.specs.declared.tree.TypeExpr.{TypeExpr}
use Rattle.asl_syn.specs.declared.tree.Bitfield.TheOpen as ex
use Rattle.asl_syn.specs.declared.tree.Bitfield.TheFolds.{fold-roll-Bitfield, fold-roll-ConstraintPart, fold-roll-Expr, fold-roll-FieldValue, fold-roll-Pattern, fold-roll-Slice, fold-roll-TypeExpr, map-Slice}
use Rattle.asl_syn.specs.declared.tree.UnaryOperator.TheVariants as unary
use Rattle.asl_rules.specs.Tests.{Tests}
use Rattle.asl_rules.specs.types.Types.{Ty}
use Rattle.asl_rules.specs.declarations.Scopes.{Scope}
use Rattle.asl_rules.specs.expressions.Typing.{Found}
use Rattle.asl_rules.specs.expressions.Slicing.{FoundSlice}
use Rattle.asl_rules.specs.types.Writing.{FoundPart, FoundBitfield, FoundType}
use Rattle.asl_rules.specs.expressions.Patterns.{FoundPattern}
use Rattle.asl_rules.specs.expressions.Exprs.{FoundField, span_of, type_span, typed_rule, width_rule, number_rule, written_rule, found, found_type, found_slice, found_pattern, expr_rule, given_rule, slice_rule, part_rule, bitfield_rule, type_rule, pattern_rule}
use Rattle.asl_rules.proofs.basics.Opening.{found_field, found_bitfield, found_part, opened, field_opened, pattern_opened, part_opened, bitfield_opened, type_opened}
use Rattle.asl_laws.proofs.basics.Lists.{AllOf}
use Rattle.asl_laws.specs.Spans.{Each, joined, in_bitfield, in_part, in_expr, in_field, in_pattern, in_slice, in_type, bitfield_spans, part_spans, expr_spans, given_spans, pattern_spans, slice_spans, type_spans}
use Rattle.asl_laws.proofs.spans.Inductions.{Shown, Bitfields, Parts, Exprs, Givens, Patterns, Slices, Types, BitfieldNode, ConstraintPartNode, ExprNode, FieldValueNode, PatternNode, SliceNode, TypeExprNode, bitfield_trees, part_trees, expr_trees, given_trees, pattern_trees, slice_trees, type_trees, Steps, each_expr, each_pattern, each_slice, each_type}
use Rattle.asl_laws.proofs.spans.SpanLayers.{spans_of_bitfield, spans_of_part, spans_of_expr, spans_of_given, spans_of_pattern, spans_of_slice, spans_of_type, inside_bitfield, inside_part, inside_expr, inside_given, inside_pattern, inside_slice, inside_type, all_parts}
use Rattle.asl_laws.proofs.spans.Standing.{At, Stands, names_there, steps, ExprStands, SliceStands, GivenStands, PatternStands, PartStands, BitfieldStands, TypeStands, Marked}
use Rattle.asl_laws.proofs.spans.ExprRows.{rows}

module _ (t : Tests) (P : Fault → Type 0) where
  -- what is found at a tree stands at its spans
  abbrev stands : Shown
  stands = record {
    of_bitfield = λ x. Each (Marked P t) (bitfield_spans x) → BitfieldStands P (found_bitfield t x);
    of_part = λ x. Each (Marked P t) (part_spans x) → PartStands P (found_part t x);
    of_expr = λ x. Each (Marked P t) (expr_spans x) → ExprStands P (found t x);
    of_given = λ x. Each (Marked P t) (given_spans x) → GivenStands P (found_field t x);
    of_pattern = λ x. Each (Marked P t) (pattern_spans x) → PatternStands P (found_pattern t x);
    of_slice = λ x. Each (Marked P t) (slice_spans x) → SliceStands P (found_slice t x);
    of_type = λ x. Each (Marked P t) (type_spans x) → TypeStands P (found_type t x);
  }

  abbrev slice_opened : ex.Slice-F Bitfield ConstraintPart Expr FieldValue Pattern Slice TypeExpr → ex.Slice-F FoundBitfield FoundPart Found FoundField FoundPattern FoundSlice FoundType
  slice_opened = map-Slice Bitfield ConstraintPart Expr FieldValue Pattern Slice TypeExpr FoundBitfield FoundPart Found FoundField FoundPattern FoundSlice FoundType (found_bitfield t) (found_part t) (found t) (found_field t) (found_pattern t) (found_slice t) (found_type t)

  -- ---- what is found at the parts of a node

  bitfield_parts : (es : List (Bitfields stands)) → Each (Marked P t) (joined (map bitfield_spans (map (λ x. x.0) es))) → AllOf (BitfieldStands P) (map (found_bitfield t) (map (λ x. x.0) es))
  bitfield_parts = all_parts (Marked P t) bitfield_spans (found_bitfield t) (BitfieldStands P)

  part_parts : (es : List (Parts stands)) → Each (Marked P t) (joined (map part_spans (map (λ x. x.0) es))) → AllOf (PartStands P) (map (found_part t) (map (λ x. x.0) es))
  part_parts = all_parts (Marked P t) part_spans (found_part t) (PartStands P)

  expr_part : (a : Exprs stands) → Each (Marked P t) (expr_spans a.0) → ExprStands P (found t a.0)
  expr_part a h = a.1 h

  expr_parts : (es : List (Exprs stands)) → Each (Marked P t) (joined (map expr_spans (map (λ x. x.0) es))) → AllOf (ExprStands P) (map (found t) (map (λ x. x.0) es))
  expr_parts = all_parts (Marked P t) expr_spans (found t) (ExprStands P)

  given_parts : (es : List (Givens stands)) → Each (Marked P t) (joined (map given_spans (map (λ x. x.0) es))) → AllOf (GivenStands P) (map (found_field t) (map (λ x. x.0) es))
  given_parts = all_parts (Marked P t) given_spans (found_field t) (GivenStands P)

  pattern_part : (a : Patterns stands) (T : Ty) (G : Scope) → Each (Marked P t) (pattern_spans a.0) → Stands P (found_pattern t a.0 T G)
  pattern_part a T G h = (a.1 h).matched_at T G

  pattern_parts : (es : List (Patterns stands)) → Each (Marked P t) (joined (map pattern_spans (map (λ x. x.0) es))) → AllOf (PatternStands P) (map (found_pattern t) (map (λ x. x.0) es))
  pattern_parts = all_parts (Marked P t) pattern_spans (found_pattern t) (PatternStands P)

  slice_parts : (es : List (Slices stands)) → Each (Marked P t) (joined (map slice_spans (map (λ x. x.0) es))) → AllOf (SliceStands P) (map (found_slice t) (map (λ x. x.0) es))
  slice_parts = all_parts (Marked P t) slice_spans (found_slice t) (SliceStands P)

  type_part : (a : Types stands) → Each (Marked P t) (type_spans a.0) → TypeStands P (found_type t a.0)
  type_part a h = a.1 h

  type_parts : (es : List (Types stands)) → Each (Marked P t) (joined (map type_spans (map (λ x. x.0) es))) → AllOf (TypeStands P) (map (found_type t) (map (λ x. x.0) es))
  type_parts = all_parts (Marked P t) type_spans (found_type t) (TypeStands P)

  -- the parts of a node, and its row
  ruleset layers = (steps, rows, bitfield_parts, part_parts, expr_part, expr_parts, given_parts, pattern_part, pattern_parts, slice_parts, type_part, type_parts)

  -- ---- each layer: the first clause names a form, so that the next is tried for each other one

  bitfield_layer : (y : BitfieldNode stands) → Each (Marked P t) (in_bitfield (spans_of_bitfield (bitfield_trees stands y))) → BitfieldStands P (bitfield_rule (bitfield_opened t (bitfield_trees stands y)))
  bitfield_layer (ex.OneBit e i) h = record { bitfield_at = λ G. search layers }
  bitfield_layer y h = record { bitfield_at = λ G. search layers }

  part_layer : (y : ConstraintPartNode stands) → Each (Marked P t) (in_part (spans_of_part (part_trees stands y))) → PartStands P (part_rule (part_opened t (part_trees stands y)))
  part_layer (ex.Only e) h = record { part_at = λ G. search layers depth 10 }
  part_layer y h = record { part_at = λ G. search layers depth 10 }

  span_layer : (y : ExprNode stands) → Each (Marked P t) (in_expr (spans_of_expr (expr_trees stands y))) → At P (span_of (opened t (expr_trees stands y)))
  span_layer (ex.Int span n) h = search
  span_layer y h = search

  typed_layer : (y : ExprNode stands) → Each (Marked P t) (in_expr (spans_of_expr (expr_trees stands y))) → (G : Scope) → Stands P (typed_rule t (opened t (expr_trees stands y)) G)
  typed_layer (ex.Fields span a is) h G = let named = names_there P t is h.1.1 in search (layers, named) depth 20
  typed_layer y h G = search layers depth 20

  width_layer : (y : ExprNode stands) → Each (Marked P t) (in_expr (spans_of_expr (expr_trees stands y))) → (G : Scope) → Stands P (width_rule (opened t (expr_trees stands y)) G)
  width_layer (ex.Unary span unary.Negate a) h G = search layers depth 10
  width_layer y h G = search layers depth 10

  number_layer : (y : ExprNode stands) → Each (Marked P t) (in_expr (spans_of_expr (expr_trees stands y))) → (G : Scope) → Stands P (number_rule (opened t (expr_trees stands y)) G)
  number_layer (ex.Unary span unary.Negate a) h G = search layers depth 10
  number_layer y h G = search layers depth 10

  expr_layer : (y : ExprNode stands) → Each (Marked P t) (in_expr (spans_of_expr (expr_trees stands y))) → ExprStands P (expr_rule t (opened t (expr_trees stands y)))
  expr_layer y h = record { at = span_layer y h; typed_at = typed_layer y h; width_at = width_layer y h; number_at = number_layer y h }

  given_layer : (y : FieldValueNode stands) → Each (Marked P t) (in_field (spans_of_given (given_trees stands y))) → GivenStands P (given_rule (field_opened t (given_trees stands y)))
  given_layer (ex.Given i e) h = record { name_at = h.0; value_at = e.1 h.1 }

  matched_layer : (y : PatternNode stands) → Each (Marked P t) (in_pattern (spans_of_pattern (pattern_trees stands y))) → (T : Ty) (G : Scope) → Stands P (pattern_rule t (pattern_opened t (pattern_trees stands y)) T G)
  matched_layer (ex.AnyPattern span) h T G = search layers depth 10
  matched_layer y h T G = search layers depth 10

  pattern_layer : (y : PatternNode stands) → Each (Marked P t) (in_pattern (spans_of_pattern (pattern_trees stands y))) → PatternStands P (pattern_rule t (pattern_opened t (pattern_trees stands y)))
  pattern_layer y h = record { matched_at = matched_layer y h }

  slice_layer : (y : SliceNode stands) → Each (Marked P t) (in_slice (spans_of_slice (slice_trees stands y))) → SliceStands P (slice_rule (slice_opened (slice_trees stands y)))
  slice_layer (ex.BitAt e) h = record { operands_at = λ G. search layers depth 10; adds_at = λ x G. search layers }
  slice_layer y h = record { operands_at = λ G. search layers depth 10; adds_at = λ x G. search layers }

  type_span_layer : (y : TypeExprNode stands) → Each (Marked P t) (in_type (spans_of_type (type_trees stands y))) → At P (type_span (type_opened t (type_trees stands y)))
  type_span_layer (ex.BooleanType span) h = search
  type_span_layer y h = search

  written_layer : (y : TypeExprNode stands) → Each (Marked P t) (in_type (spans_of_type (type_trees stands y))) → (outside : Bool) (G : Scope) → Stands P (written_rule t (type_opened t (type_trees stands y)) outside G)
  written_layer (ex.BooleanType span) h outside G = search layers depth 10
  written_layer y h outside G = search layers depth 10

  type_layer : (y : TypeExprNode stands) → Each (Marked P t) (in_type (spans_of_type (type_trees stands y))) → TypeStands P (type_rule t (type_opened t (type_trees stands y)))
  type_layer y h = record { at = type_span_layer y h; written_at = written_layer y h }

  -- ---- by induction over trees

  steps_all : Steps stands
  steps_all = record {
    bitfield_has = λ y h. subst (BitfieldStands P) (sym (fold-roll-Bitfield FoundBitfield FoundPart Found FoundField FoundPattern FoundSlice FoundType bitfield_rule part_rule (expr_rule t) given_rule (pattern_rule t) slice_rule (type_rule t) (bitfield_trees stands y))) (bitfield_layer y (inside_bitfield (Marked P t) (bitfield_trees stands y) h));
    part_has = λ y h. subst (PartStands P) (sym (fold-roll-ConstraintPart FoundBitfield FoundPart Found FoundField FoundPattern FoundSlice FoundType bitfield_rule part_rule (expr_rule t) given_rule (pattern_rule t) slice_rule (type_rule t) (part_trees stands y))) (part_layer y (inside_part (Marked P t) (part_trees stands y) h));
    expr_has = λ y h. subst (ExprStands P) (sym (fold-roll-Expr FoundBitfield FoundPart Found FoundField FoundPattern FoundSlice FoundType bitfield_rule part_rule (expr_rule t) given_rule (pattern_rule t) slice_rule (type_rule t) (expr_trees stands y))) (expr_layer y (inside_expr (Marked P t) (expr_trees stands y) h));
    given_has = λ y h. subst (GivenStands P) (sym (fold-roll-FieldValue FoundBitfield FoundPart Found FoundField FoundPattern FoundSlice FoundType bitfield_rule part_rule (expr_rule t) given_rule (pattern_rule t) slice_rule (type_rule t) (given_trees stands y))) (given_layer y (inside_given (Marked P t) (given_trees stands y) h));
    pattern_has = λ y h. subst (PatternStands P) (sym (fold-roll-Pattern FoundBitfield FoundPart Found FoundField FoundPattern FoundSlice FoundType bitfield_rule part_rule (expr_rule t) given_rule (pattern_rule t) slice_rule (type_rule t) (pattern_trees stands y))) (pattern_layer y (inside_pattern (Marked P t) (pattern_trees stands y) h));
    slice_has = λ y h. subst (SliceStands P) (sym (fold-roll-Slice FoundBitfield FoundPart Found FoundField FoundPattern FoundSlice FoundType bitfield_rule part_rule (expr_rule t) given_rule (pattern_rule t) slice_rule (type_rule t) (slice_trees stands y))) (slice_layer y (inside_slice (Marked P t) (slice_trees stands y) h));
    type_has = λ y h. subst (TypeStands P) (sym (fold-roll-TypeExpr FoundBitfield FoundPart Found FoundField FoundPattern FoundSlice FoundType bitfield_rule part_rule (expr_rule t) given_rule (pattern_rule t) slice_rule (type_rule t) (type_trees stands y))) (type_layer y (inside_type (Marked P t) (type_trees stands y) h));
  }

  pub expr_there : (x : Expr) → Each (Marked P t) (expr_spans x) → ExprStands P (found t x)
  expr_there = each_expr stands steps_all

  pub type_there : (x : TypeExpr) → Each (Marked P t) (type_spans x) → TypeStands P (found_type t x)
  type_there = each_type stands steps_all

  pub slice_there : (x : Slice) → Each (Marked P t) (slice_spans x) → SliceStands P (found_slice t x)
  slice_there = each_slice stands steps_all

  pub pattern_there : (x : Pattern) → Each (Marked P t) (pattern_spans x) → PatternStands P (found_pattern t x)
  pattern_there = each_pattern stands steps_all
