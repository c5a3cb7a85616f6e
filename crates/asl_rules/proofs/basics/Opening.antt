-- One layer of a tree with what is found at its parts, and what the ends of rows give.
use Rattle.std.proofs.Common.{◌≡◌, Bool, Ok}
use Rattle.asl_syn.specs.declared.token.Span.{Span}
use Rattle.asl_syn.specs.declared.code.StaticCode.TheVariants.{T12, T13}
use Rattle.asl_syn.specs.declared.tree.Bitfield.{Bitfield}
use Rattle.asl_syn.specs.declared.tree.ConstraintPart.{ConstraintPart}
use Rattle.asl_syn.specs.declared.tree.Expr.{Expr, out-Expr}
use Rattle.asl_syn.specs.declared.tree.FieldValue.{FieldValue}
use Rattle.asl_syn.specs.declared.tree.Pattern.{Pattern}
use Rattle.asl_syn.specs.declared.tree.Slice.{Slice}
use Rattle.asl_syn.specs.declared.tree.TypeExpr.{TypeExpr}
use Rattle.asl_syn.specs.declared.tree.Bitfield.TheOpen as ex
use Rattle.asl_syn.specs.declared.tree.Bitfield.TheFolds.{fold-FieldValue, fold-Bitfield, fold-ConstraintPart, fold_out-Expr, map-Bitfield, map-ConstraintPart, map-Expr, map-FieldValue, map-Pattern, map-TypeExpr}
use Rattle.asl_syn.specs.Layers.{ExprLayer, TypeLayer}
use Rattle.asl_rules.specs.declared.effect.Effect.{Effect}
use Rattle.asl_rules.specs.Faults.{need}
use Rattle.asl_rules.specs.Tests.{Tests}
use Rattle.asl_rules.specs.types.Types.{Ty}
use Rattle.asl_rules.specs.types.Effects.{at_most}
use Rattle.asl_rules.specs.types.Widths.{bounded}
use Rattle.asl_rules.specs.runs.Trees.{Tree, Note}
use Rattle.asl_rules.specs.expressions.Typing.{Found, Typed, typed_as, in_class, finish}
use Rattle.asl_rules.specs.expressions.Slicing.{FoundSlice}
use Rattle.asl_rules.specs.types.Writing.{FoundPart, FoundBitfield, FoundType}
use Rattle.asl_rules.specs.expressions.Patterns.{FoundPattern}
use Rattle.asl_rules.specs.expressions.Exprs.{FoundField, ExprOf, TypeOf, PatternOf, found, found_type, found_slice, found_pattern, expr_rule, given_rule, slice_rule, part_rule, bitfield_rule, type_rule, pattern_rule}
use Rattle.asl_rules.proofs.basics.Inversions.{ok_ok, then_ok}

module _ (tests : Tests) where
  abbrev pub found_field : FieldValue → FoundField
  found_field = fold-FieldValue FoundBitfield FoundPart Found FoundField FoundPattern FoundSlice FoundType bitfield_rule part_rule (expr_rule tests) given_rule (pattern_rule tests) slice_rule (type_rule tests)

  abbrev pub found_bitfield : Bitfield → FoundBitfield
  found_bitfield = fold-Bitfield FoundBitfield FoundPart Found FoundField FoundPattern FoundSlice FoundType bitfield_rule part_rule (expr_rule tests) given_rule (pattern_rule tests) slice_rule (type_rule tests)

  abbrev pub found_part : ConstraintPart → FoundPart
  found_part = fold-ConstraintPart FoundBitfield FoundPart Found FoundField FoundPattern FoundSlice FoundType bitfield_rule part_rule (expr_rule tests) given_rule (pattern_rule tests) slice_rule (type_rule tests)

  abbrev pub opened : ExprLayer → ExprOf
  opened = map-Expr Bitfield ConstraintPart Expr FieldValue Pattern Slice TypeExpr FoundBitfield FoundPart Found FoundField FoundPattern FoundSlice FoundType found_bitfield found_part (found tests) found_field (found_pattern tests) (found_slice tests) (found_type tests)

  abbrev pub field_opened : ex.FieldValue-F Bitfield ConstraintPart Expr FieldValue Pattern Slice TypeExpr → ex.FieldValue-F FoundBitfield FoundPart Found FoundField FoundPattern FoundSlice FoundType
  field_opened = map-FieldValue Bitfield ConstraintPart Expr FieldValue Pattern Slice TypeExpr FoundBitfield FoundPart Found FoundField FoundPattern FoundSlice FoundType found_bitfield found_part (found tests) found_field (found_pattern tests) (found_slice tests) (found_type tests)

  abbrev pub pattern_opened : ex.Pattern-F Bitfield ConstraintPart Expr FieldValue Pattern Slice TypeExpr → PatternOf
  pattern_opened = map-Pattern Bitfield ConstraintPart Expr FieldValue Pattern Slice TypeExpr FoundBitfield FoundPart Found FoundField FoundPattern FoundSlice FoundType found_bitfield found_part (found tests) found_field (found_pattern tests) (found_slice tests) (found_type tests)

  abbrev pub part_opened : ex.ConstraintPart-F Bitfield ConstraintPart Expr FieldValue Pattern Slice TypeExpr → ex.ConstraintPart-F FoundBitfield FoundPart Found FoundField FoundPattern FoundSlice FoundType
  part_opened = map-ConstraintPart Bitfield ConstraintPart Expr FieldValue Pattern Slice TypeExpr FoundBitfield FoundPart Found FoundField FoundPattern FoundSlice FoundType found_bitfield found_part (found tests) found_field (found_pattern tests) (found_slice tests) (found_type tests)

  abbrev pub bitfield_opened : ex.Bitfield-F Bitfield ConstraintPart Expr FieldValue Pattern Slice TypeExpr → ex.Bitfield-F FoundBitfield FoundPart Found FoundField FoundPattern FoundSlice FoundType
  bitfield_opened = map-Bitfield Bitfield ConstraintPart Expr FieldValue Pattern Slice TypeExpr FoundBitfield FoundPart Found FoundField FoundPattern FoundSlice FoundType found_bitfield found_part (found tests) found_field (found_pattern tests) (found_slice tests) (found_type tests)

  abbrev pub type_opened : TypeLayer → TypeOf
  type_opened = map-TypeExpr Bitfield ConstraintPart Expr FieldValue Pattern Slice TypeExpr FoundBitfield FoundPart Found FoundField FoundPattern FoundSlice FoundType found_bitfield found_part (found tests) found_field (found_pattern tests) (found_slice tests) (found_type tests)

  -- what is found at a tree is what its rule finds at its layer
  pub unrolled : (e : Expr) → found tests e ≡ expr_rule tests (opened (out-Expr e))
  unrolled e = fold_out-Expr FoundBitfield FoundPart Found FoundField FoundPattern FoundSlice FoundType bitfield_rule part_rule (expr_rule tests) given_rule (pattern_rule tests) slice_rule (type_rule tests) e

-- ---- the end of a row

pub in_class_is : (class : Effect) (span : Span) (k : Effect) (T : Ty) (make : Note → Tree) (S : Typed) → in_class class span k T make ≡ Ok S → typed_as span T k make ≡ S
in_class_is class span k T make S h = ok_ok (typed_as span T k make) S (then_ok (need (at_most k class) T12 span) (Ok (typed_as span T k make)) S h).then

pub finish_is : (class : Effect) (span : Span) (ok : Bool) (k : Effect) (T : Ty) (make : Note → Tree) (S : Typed) → finish class span ok k T make ≡ Ok S → typed_as span T k make ≡ S
finish_is class span ok k T make S h = in_class_is class span k T make S (then_ok (need ok T13 span) (in_class class span k T make) S h).then

pub bounded_ok : (span : Span) (T U : Ty) → bounded span T ≡ Ok U → T ≡ U
bounded_ok span T U h = let a = then_ok _ (Ok T) U h in ok_ok T U a.then
