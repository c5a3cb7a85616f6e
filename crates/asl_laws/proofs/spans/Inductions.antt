-- Induction over expressions and over what stands in them: something is shown of each kind of tree, where it is shown of a node whose parts have it.
use Rattle.std.proofs.Common.{◌≡◌, subst}
use Rattle.asl_syn.specs.declared.tree.Bitfield.{Bitfield, roll-Bitfield}
use Rattle.asl_syn.specs.declared.tree.ConstraintPart.{ConstraintPart, roll-ConstraintPart}
use Rattle.asl_syn.specs.declared.tree.Expr.{Expr, roll-Expr}
use Rattle.asl_syn.specs.declared.tree.FieldValue.{FieldValue, roll-FieldValue}
use Rattle.asl_syn.specs.declared.tree.Pattern.{Pattern, roll-Pattern}
use Rattle.asl_syn.specs.declared.tree.Slice.{Slice, roll-Slice}
use Rattle.asl_syn.specs.declared.tree.TypeExpr.{TypeExpr, roll-TypeExpr}
use Rattle.asl_syn.specs.declared.tree.Bitfield.TheOpen as ex
use Rattle.asl_syn.specs.declared.tree.Bitfield.TheFolds.{map-Bitfield, map-ConstraintPart, map-Expr, map-FieldValue, map-Pattern, map-Slice, map-TypeExpr, ind-Expr, ind-Pattern, ind-Slice, ind-TypeExpr}

-- what is shown of each kind of tree
pub record Shown : Type 1 where
  pub of_bitfield : Bitfield → Type 0
  pub of_part : ConstraintPart → Type 0
  pub of_expr : Expr → Type 0
  pub of_given : FieldValue → Type 0
  pub of_pattern : Pattern → Type 0
  pub of_slice : Slice → Type 0
  pub of_type : TypeExpr → Type 0

module _ (q : Shown) where
  -- trees that have it

  abbrev pub Bitfields : Type 0
  Bitfields = (x : Bitfield) × q.of_bitfield x

  abbrev pub Parts : Type 0
  Parts = (x : ConstraintPart) × q.of_part x

  abbrev pub Exprs : Type 0
  Exprs = (x : Expr) × q.of_expr x

  abbrev pub Givens : Type 0
  Givens = (x : FieldValue) × q.of_given x

  abbrev pub Patterns : Type 0
  Patterns = (x : Pattern) × q.of_pattern x

  abbrev pub Slices : Type 0
  Slices = (x : Slice) × q.of_slice x

  abbrev pub Types : Type 0
  Types = (x : TypeExpr) × q.of_type x

  -- nodes whose parts have it

  abbrev pub BitfieldNode : Type 0
  BitfieldNode = ex.Bitfield-F Bitfields Parts Exprs Givens Patterns Slices Types

  abbrev pub ConstraintPartNode : Type 0
  ConstraintPartNode = ex.ConstraintPart-F Bitfields Parts Exprs Givens Patterns Slices Types

  abbrev pub ExprNode : Type 0
  ExprNode = ex.Expr-F Bitfields Parts Exprs Givens Patterns Slices Types

  abbrev pub FieldValueNode : Type 0
  FieldValueNode = ex.FieldValue-F Bitfields Parts Exprs Givens Patterns Slices Types

  abbrev pub PatternNode : Type 0
  PatternNode = ex.Pattern-F Bitfields Parts Exprs Givens Patterns Slices Types

  abbrev pub SliceNode : Type 0
  SliceNode = ex.Slice-F Bitfields Parts Exprs Givens Patterns Slices Types

  abbrev pub TypeExprNode : Type 0
  TypeExprNode = ex.TypeExpr-F Bitfields Parts Exprs Givens Patterns Slices Types

  -- and the same without what is known of the parts

  abbrev pub bitfield_trees : BitfieldNode → ex.Bitfield-F Bitfield ConstraintPart Expr FieldValue Pattern Slice TypeExpr
  bitfield_trees = map-Bitfield Bitfields Parts Exprs Givens Patterns Slices Types Bitfield ConstraintPart Expr FieldValue Pattern Slice TypeExpr (λ x. x.0) (λ x. x.0) (λ x. x.0) (λ x. x.0) (λ x. x.0) (λ x. x.0) (λ x. x.0)

  abbrev pub part_trees : ConstraintPartNode → ex.ConstraintPart-F Bitfield ConstraintPart Expr FieldValue Pattern Slice TypeExpr
  part_trees = map-ConstraintPart Bitfields Parts Exprs Givens Patterns Slices Types Bitfield ConstraintPart Expr FieldValue Pattern Slice TypeExpr (λ x. x.0) (λ x. x.0) (λ x. x.0) (λ x. x.0) (λ x. x.0) (λ x. x.0) (λ x. x.0)

  abbrev pub expr_trees : ExprNode → ex.Expr-F Bitfield ConstraintPart Expr FieldValue Pattern Slice TypeExpr
  expr_trees = map-Expr Bitfields Parts Exprs Givens Patterns Slices Types Bitfield ConstraintPart Expr FieldValue Pattern Slice TypeExpr (λ x. x.0) (λ x. x.0) (λ x. x.0) (λ x. x.0) (λ x. x.0) (λ x. x.0) (λ x. x.0)

  abbrev pub given_trees : FieldValueNode → ex.FieldValue-F Bitfield ConstraintPart Expr FieldValue Pattern Slice TypeExpr
  given_trees = map-FieldValue Bitfields Parts Exprs Givens Patterns Slices Types Bitfield ConstraintPart Expr FieldValue Pattern Slice TypeExpr (λ x. x.0) (λ x. x.0) (λ x. x.0) (λ x. x.0) (λ x. x.0) (λ x. x.0) (λ x. x.0)

  abbrev pub pattern_trees : PatternNode → ex.Pattern-F Bitfield ConstraintPart Expr FieldValue Pattern Slice TypeExpr
  pattern_trees = map-Pattern Bitfields Parts Exprs Givens Patterns Slices Types Bitfield ConstraintPart Expr FieldValue Pattern Slice TypeExpr (λ x. x.0) (λ x. x.0) (λ x. x.0) (λ x. x.0) (λ x. x.0) (λ x. x.0) (λ x. x.0)

  abbrev pub slice_trees : SliceNode → ex.Slice-F Bitfield ConstraintPart Expr FieldValue Pattern Slice TypeExpr
  slice_trees = map-Slice Bitfields Parts Exprs Givens Patterns Slices Types Bitfield ConstraintPart Expr FieldValue Pattern Slice TypeExpr (λ x. x.0) (λ x. x.0) (λ x. x.0) (λ x. x.0) (λ x. x.0) (λ x. x.0) (λ x. x.0)

  abbrev pub type_trees : TypeExprNode → ex.TypeExpr-F Bitfield ConstraintPart Expr FieldValue Pattern Slice TypeExpr
  type_trees = map-TypeExpr Bitfields Parts Exprs Givens Patterns Slices Types Bitfield ConstraintPart Expr FieldValue Pattern Slice TypeExpr (λ x. x.0) (λ x. x.0) (λ x. x.0) (λ x. x.0) (λ x. x.0) (λ x. x.0) (λ x. x.0)

  -- so has each node
  pub record Steps : Type 0 where
    pub bitfield_has : (y : BitfieldNode) → q.of_bitfield (roll-Bitfield (bitfield_trees y))
    pub part_has : (y : ConstraintPartNode) → q.of_part (roll-ConstraintPart (part_trees y))
    pub expr_has : (y : ExprNode) → q.of_expr (roll-Expr (expr_trees y))
    pub given_has : (y : FieldValueNode) → q.of_given (roll-FieldValue (given_trees y))
    pub pattern_has : (y : PatternNode) → q.of_pattern (roll-Pattern (pattern_trees y))
    pub slice_has : (y : SliceNode) → q.of_slice (roll-Slice (slice_trees y))
    pub type_has : (y : TypeExprNode) → q.of_type (roll-TypeExpr (type_trees y))

  module _ (s : Steps) where
    bitfield_step : (x : ex.Bitfield-F Bitfield ConstraintPart Expr FieldValue Pattern Slice TypeExpr) (y : BitfieldNode) → bitfield_trees y ≡ x → q.of_bitfield (roll-Bitfield x)
    bitfield_step x y is = subst (λ z. q.of_bitfield (roll-Bitfield z)) is (s.bitfield_has y)

    part_step : (x : ex.ConstraintPart-F Bitfield ConstraintPart Expr FieldValue Pattern Slice TypeExpr) (y : ConstraintPartNode) → part_trees y ≡ x → q.of_part (roll-ConstraintPart x)
    part_step x y is = subst (λ z. q.of_part (roll-ConstraintPart z)) is (s.part_has y)

    expr_step : (x : ex.Expr-F Bitfield ConstraintPart Expr FieldValue Pattern Slice TypeExpr) (y : ExprNode) → expr_trees y ≡ x → q.of_expr (roll-Expr x)
    expr_step x y is = subst (λ z. q.of_expr (roll-Expr z)) is (s.expr_has y)

    given_step : (x : ex.FieldValue-F Bitfield ConstraintPart Expr FieldValue Pattern Slice TypeExpr) (y : FieldValueNode) → given_trees y ≡ x → q.of_given (roll-FieldValue x)
    given_step x y is = subst (λ z. q.of_given (roll-FieldValue z)) is (s.given_has y)

    pattern_step : (x : ex.Pattern-F Bitfield ConstraintPart Expr FieldValue Pattern Slice TypeExpr) (y : PatternNode) → pattern_trees y ≡ x → q.of_pattern (roll-Pattern x)
    pattern_step x y is = subst (λ z. q.of_pattern (roll-Pattern z)) is (s.pattern_has y)

    slice_step : (x : ex.Slice-F Bitfield ConstraintPart Expr FieldValue Pattern Slice TypeExpr) (y : SliceNode) → slice_trees y ≡ x → q.of_slice (roll-Slice x)
    slice_step x y is = subst (λ z. q.of_slice (roll-Slice z)) is (s.slice_has y)

    type_step : (x : ex.TypeExpr-F Bitfield ConstraintPart Expr FieldValue Pattern Slice TypeExpr) (y : TypeExprNode) → type_trees y ≡ x → q.of_type (roll-TypeExpr x)
    type_step x y is = subst (λ z. q.of_type (roll-TypeExpr z)) is (s.type_has y)

    pub each_expr : (x : Expr) → q.of_expr x
    each_expr = ind-Expr q.of_bitfield q.of_part q.of_expr q.of_given q.of_pattern q.of_slice q.of_type bitfield_step part_step expr_step given_step pattern_step slice_step type_step

    pub each_pattern : (x : Pattern) → q.of_pattern x
    each_pattern = ind-Pattern q.of_bitfield q.of_part q.of_expr q.of_given q.of_pattern q.of_slice q.of_type bitfield_step part_step expr_step given_step pattern_step slice_step type_step

    pub each_slice : (x : Slice) → q.of_slice x
    each_slice = ind-Slice q.of_bitfield q.of_part q.of_expr q.of_given q.of_pattern q.of_slice q.of_type bitfield_step part_step expr_step given_step pattern_step slice_step type_step

    pub each_type : (x : TypeExpr) → q.of_type x
    each_type = ind-TypeExpr q.of_bitfield q.of_part q.of_expr q.of_given q.of_pattern q.of_slice q.of_type bitfield_step part_step expr_step given_step pattern_step slice_step type_step
