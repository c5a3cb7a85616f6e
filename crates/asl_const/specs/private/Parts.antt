-- The parts of expressions, by what a layer makes of each expression in them: a part is read without these, with what they come to, in order.
use Rattle.std.specs.Prelude.{ℕ, List}
use Rattle.asl_syn.specs.declared.tree.Bitfield.{Bitfield}
use Rattle.asl_syn.specs.declared.tree.ConstraintPart.{ConstraintPart}
use Rattle.asl_syn.specs.declared.tree.FieldValue.{FieldValue}
use Rattle.asl_syn.specs.declared.tree.Pattern.{Pattern}
use Rattle.asl_syn.specs.declared.tree.Slice.{Slice}
use Rattle.asl_syn.specs.declared.tree.TypeExpr.{TypeExpr}
use Rattle.asl_syn.specs.declared.tree.Bitfield.TheOpen as ex
use Rattle.asl_syn.specs.declared.tree.Bitfield.TheFolds.{fold-Bitfield, fold-ConstraintPart, fold-FieldValue, fold-Pattern, fold-Slice, fold-TypeExpr}
use Rattle.asl_rules.specs.types.Shaped.{Shaped, TypeOver, itself, bitfield_layer, part_layer, given_layer, pattern_layer, slice_layer, type_layer}
use Rattle.asl_rules.specs.types.Shapes.{SliceShape, PatternShape, PartShape, BitfieldShape}

-- one layer of an expression, over what stands for the expressions below it
abbrev pub Layer : Type 0 → Type 0
Layer V = ex.Expr-F (Shaped BitfieldShape V) (Shaped PartShape V) V (Shaped (List ℕ) V) (Shaped PatternShape V) (Shaped SliceShape V) (Shaped TypeOver V)

module _ {V : Type 0} (layer : Layer V → V) where
  abbrev pub given_by : FieldValue → Shaped (List ℕ) V
  given_by = fold-FieldValue (Shaped BitfieldShape V) (Shaped PartShape V) V (Shaped (List ℕ) V) (Shaped PatternShape V) (Shaped SliceShape V) (Shaped TypeOver V)
      (bitfield_layer itself) (part_layer itself) layer (given_layer itself) (pattern_layer itself itself) (slice_layer itself) (type_layer itself itself itself itself)

  abbrev pub slice_by : Slice → Shaped SliceShape V
  slice_by = fold-Slice (Shaped BitfieldShape V) (Shaped PartShape V) V (Shaped (List ℕ) V) (Shaped PatternShape V) (Shaped SliceShape V) (Shaped TypeOver V)
      (bitfield_layer itself) (part_layer itself) layer (given_layer itself) (pattern_layer itself itself) (slice_layer itself) (type_layer itself itself itself itself)

  abbrev pub pattern_by : Pattern → Shaped PatternShape V
  pattern_by = fold-Pattern (Shaped BitfieldShape V) (Shaped PartShape V) V (Shaped (List ℕ) V) (Shaped PatternShape V) (Shaped SliceShape V) (Shaped TypeOver V)
      (bitfield_layer itself) (part_layer itself) layer (given_layer itself) (pattern_layer itself itself) (slice_layer itself) (type_layer itself itself itself itself)

  abbrev pub part_by : ConstraintPart → Shaped PartShape V
  part_by = fold-ConstraintPart (Shaped BitfieldShape V) (Shaped PartShape V) V (Shaped (List ℕ) V) (Shaped PatternShape V) (Shaped SliceShape V) (Shaped TypeOver V)
      (bitfield_layer itself) (part_layer itself) layer (given_layer itself) (pattern_layer itself itself) (slice_layer itself) (type_layer itself itself itself itself)

  abbrev pub bitfield_by : Bitfield → Shaped BitfieldShape V
  bitfield_by = fold-Bitfield (Shaped BitfieldShape V) (Shaped PartShape V) V (Shaped (List ℕ) V) (Shaped PatternShape V) (Shaped SliceShape V) (Shaped TypeOver V)
      (bitfield_layer itself) (part_layer itself) layer (given_layer itself) (pattern_layer itself itself) (slice_layer itself) (type_layer itself itself itself itself)

  abbrev pub type_by : TypeExpr → Shaped TypeOver V
  type_by = fold-TypeExpr (Shaped BitfieldShape V) (Shaped PartShape V) V (Shaped (List ℕ) V) (Shaped PatternShape V) (Shaped SliceShape V) (Shaped TypeOver V)
      (bitfield_layer itself) (part_layer itself) layer (given_layer itself) (pattern_layer itself itself) (slice_layer itself) (type_layer itself itself itself itself)
