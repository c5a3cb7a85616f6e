-- One layer of a tree, with the uses of its parts in their places.
use Rattle.asl_syn.specs.declared.tree.Bitfield.{Bitfield}
use Rattle.asl_syn.specs.declared.tree.ConstraintPart.{ConstraintPart}
use Rattle.asl_syn.specs.declared.tree.Expr.{Expr}
use Rattle.asl_syn.specs.declared.tree.FieldValue.{FieldValue}
use Rattle.asl_syn.specs.declared.tree.Pattern.{Pattern}
use Rattle.asl_syn.specs.declared.tree.Slice.{Slice}
use Rattle.asl_syn.specs.declared.tree.TypeExpr.{TypeExpr}
use Rattle.asl_syn.specs.declared.tree.Bitfield.TheOpen as ex
use Rattle.asl_syn.specs.declared.tree.Bitfield.TheFolds.{map-Bitfield, map-ConstraintPart, map-Expr, map-FieldValue, map-Pattern}
use Rattle.asl_syn.specs.declared.tree.Bitfield.TheFolds.{map-Slice, map-TypeExpr}
use Rattle.asl_rules.specs.declarations.UsedNames.{Uses, bitfield_uses, part_uses, given_uses, expr_uses, pattern_uses, slice_uses}
use Rattle.asl_rules.specs.declarations.UsedNames.{type_uses}

abbrev pub using_bitfield : ex.Bitfield-F Bitfield ConstraintPart Expr FieldValue Pattern Slice TypeExpr →
    ex.Bitfield-F Uses Uses Uses Uses Uses Uses Uses
using_bitfield = map-Bitfield Bitfield ConstraintPart Expr FieldValue Pattern Slice TypeExpr Uses Uses Uses Uses Uses Uses Uses
    bitfield_uses part_uses expr_uses given_uses pattern_uses slice_uses type_uses

abbrev pub using_part : ex.ConstraintPart-F Bitfield ConstraintPart Expr FieldValue Pattern Slice TypeExpr →
    ex.ConstraintPart-F Uses Uses Uses Uses Uses Uses Uses
using_part = map-ConstraintPart Bitfield ConstraintPart Expr FieldValue Pattern Slice TypeExpr Uses Uses Uses Uses Uses Uses Uses
    bitfield_uses part_uses expr_uses given_uses pattern_uses slice_uses type_uses

abbrev pub using_expr : ex.Expr-F Bitfield ConstraintPart Expr FieldValue Pattern Slice TypeExpr →
    ex.Expr-F Uses Uses Uses Uses Uses Uses Uses
using_expr = map-Expr Bitfield ConstraintPart Expr FieldValue Pattern Slice TypeExpr Uses Uses Uses Uses Uses Uses Uses
    bitfield_uses part_uses expr_uses given_uses pattern_uses slice_uses type_uses

abbrev pub using_given : ex.FieldValue-F Bitfield ConstraintPart Expr FieldValue Pattern Slice TypeExpr →
    ex.FieldValue-F Uses Uses Uses Uses Uses Uses Uses
using_given = map-FieldValue Bitfield ConstraintPart Expr FieldValue Pattern Slice TypeExpr Uses Uses Uses Uses Uses Uses Uses
    bitfield_uses part_uses expr_uses given_uses pattern_uses slice_uses type_uses

abbrev pub using_pattern : ex.Pattern-F Bitfield ConstraintPart Expr FieldValue Pattern Slice TypeExpr →
    ex.Pattern-F Uses Uses Uses Uses Uses Uses Uses
using_pattern = map-Pattern Bitfield ConstraintPart Expr FieldValue Pattern Slice TypeExpr Uses Uses Uses Uses Uses Uses Uses
    bitfield_uses part_uses expr_uses given_uses pattern_uses slice_uses type_uses

abbrev pub using_slice : ex.Slice-F Bitfield ConstraintPart Expr FieldValue Pattern Slice TypeExpr →
    ex.Slice-F Uses Uses Uses Uses Uses Uses Uses
using_slice = map-Slice Bitfield ConstraintPart Expr FieldValue Pattern Slice TypeExpr Uses Uses Uses Uses Uses Uses Uses
    bitfield_uses part_uses expr_uses given_uses pattern_uses slice_uses type_uses

abbrev pub using_type : ex.TypeExpr-F Bitfield ConstraintPart Expr FieldValue Pattern Slice TypeExpr →
    ex.TypeExpr-F Uses Uses Uses Uses Uses Uses Uses
using_type = map-TypeExpr Bitfield ConstraintPart Expr FieldValue Pattern Slice TypeExpr Uses Uses Uses Uses Uses Uses Uses
    bitfield_uses part_uses expr_uses given_uses pattern_uses slice_uses type_uses
