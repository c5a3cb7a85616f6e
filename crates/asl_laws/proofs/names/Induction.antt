-- One induction over the seven sorts of trees of expressions: what holds of a node where it holds of its parts holds of all.
use Rattle.std.proofs.Common.{◌≡◌, subst}
use Rattle.asl_syn.specs.declared.tree.Bitfield.{Bitfield, roll-Bitfield}
use Rattle.asl_syn.specs.declared.tree.ConstraintPart.{ConstraintPart, roll-ConstraintPart}
use Rattle.asl_syn.specs.declared.tree.Expr.{Expr, roll-Expr}
use Rattle.asl_syn.specs.declared.tree.FieldValue.{FieldValue, roll-FieldValue}
use Rattle.asl_syn.specs.declared.tree.Pattern.{Pattern, roll-Pattern}
use Rattle.asl_syn.specs.declared.tree.Slice.{Slice, roll-Slice}
use Rattle.asl_syn.specs.declared.tree.TypeExpr.{TypeExpr, roll-TypeExpr}
use Rattle.asl_syn.specs.declared.tree.Bitfield.TheOpen as ex
use Rattle.asl_syn.specs.declared.tree.Bitfield.TheFolds.{map-Bitfield, map-ConstraintPart, map-Expr, map-FieldValue, map-Pattern}
use Rattle.asl_syn.specs.declared.tree.Bitfield.TheFolds.{map-Slice, map-TypeExpr, ind-Bitfield, ind-ConstraintPart, ind-Expr}
use Rattle.asl_syn.specs.declared.tree.Bitfield.TheFolds.{ind-FieldValue, ind-Pattern, ind-Slice, ind-TypeExpr}

module _ (PB : Bitfield → Type 0) (PC : ConstraintPart → Type 0) (PE : Expr → Type 0) (PF : FieldValue → Type 0) (PP : Pattern → Type 0)
    (PS : Slice → Type 0) (PT : TypeExpr → Type 0) where
  abbrev pub WithBitfield : Type 0
  WithBitfield = (x : Bitfield) × PB x

  abbrev pub WithConstraintPart : Type 0
  WithConstraintPart = (x : ConstraintPart) × PC x

  abbrev pub WithExpr : Type 0
  WithExpr = (x : Expr) × PE x

  abbrev pub WithFieldValue : Type 0
  WithFieldValue = (x : FieldValue) × PF x

  abbrev pub WithPattern : Type 0
  WithPattern = (x : Pattern) × PP x

  abbrev pub WithSlice : Type 0
  WithSlice = (x : Slice) × PS x

  abbrev pub WithTypeExpr : Type 0
  WithTypeExpr = (x : TypeExpr) × PT x

  abbrev pub bitfield_trees : ex.Bitfield-F WithBitfield WithConstraintPart WithExpr WithFieldValue WithPattern WithSlice WithTypeExpr →
      ex.Bitfield-F Bitfield ConstraintPart Expr FieldValue Pattern Slice TypeExpr
  bitfield_trees = map-Bitfield WithBitfield WithConstraintPart WithExpr WithFieldValue WithPattern WithSlice WithTypeExpr Bitfield
      ConstraintPart Expr FieldValue Pattern Slice TypeExpr (λ x. x.0) (λ x. x.0) (λ x. x.0) (λ x. x.0) (λ x. x.0) (λ x. x.0) (λ x. x.0)

  abbrev pub part_trees : ex.ConstraintPart-F WithBitfield WithConstraintPart WithExpr WithFieldValue WithPattern WithSlice WithTypeExpr →
      ex.ConstraintPart-F Bitfield ConstraintPart Expr FieldValue Pattern Slice TypeExpr
  part_trees = map-ConstraintPart WithBitfield WithConstraintPart WithExpr WithFieldValue WithPattern WithSlice WithTypeExpr Bitfield
      ConstraintPart Expr FieldValue Pattern Slice TypeExpr (λ x. x.0) (λ x. x.0) (λ x. x.0) (λ x. x.0) (λ x. x.0) (λ x. x.0) (λ x. x.0)

  abbrev pub expr_trees : ex.Expr-F WithBitfield WithConstraintPart WithExpr WithFieldValue WithPattern WithSlice WithTypeExpr →
      ex.Expr-F Bitfield ConstraintPart Expr FieldValue Pattern Slice TypeExpr
  expr_trees = map-Expr WithBitfield WithConstraintPart WithExpr WithFieldValue WithPattern WithSlice WithTypeExpr Bitfield ConstraintPart
      Expr FieldValue Pattern Slice TypeExpr (λ x. x.0) (λ x. x.0) (λ x. x.0) (λ x. x.0) (λ x. x.0) (λ x. x.0) (λ x. x.0)

  abbrev pub given_trees : ex.FieldValue-F WithBitfield WithConstraintPart WithExpr WithFieldValue WithPattern WithSlice WithTypeExpr →
      ex.FieldValue-F Bitfield ConstraintPart Expr FieldValue Pattern Slice TypeExpr
  given_trees = map-FieldValue WithBitfield WithConstraintPart WithExpr WithFieldValue WithPattern WithSlice WithTypeExpr Bitfield
      ConstraintPart Expr FieldValue Pattern Slice TypeExpr (λ x. x.0) (λ x. x.0) (λ x. x.0) (λ x. x.0) (λ x. x.0) (λ x. x.0) (λ x. x.0)

  abbrev pub pattern_trees : ex.Pattern-F WithBitfield WithConstraintPart WithExpr WithFieldValue WithPattern WithSlice WithTypeExpr →
      ex.Pattern-F Bitfield ConstraintPart Expr FieldValue Pattern Slice TypeExpr
  pattern_trees = map-Pattern WithBitfield WithConstraintPart WithExpr WithFieldValue WithPattern WithSlice WithTypeExpr Bitfield
      ConstraintPart Expr FieldValue Pattern Slice TypeExpr (λ x. x.0) (λ x. x.0) (λ x. x.0) (λ x. x.0) (λ x. x.0) (λ x. x.0) (λ x. x.0)

  abbrev pub slice_trees : ex.Slice-F WithBitfield WithConstraintPart WithExpr WithFieldValue WithPattern WithSlice WithTypeExpr →
      ex.Slice-F Bitfield ConstraintPart Expr FieldValue Pattern Slice TypeExpr
  slice_trees = map-Slice WithBitfield WithConstraintPart WithExpr WithFieldValue WithPattern WithSlice WithTypeExpr Bitfield ConstraintPart
      Expr FieldValue Pattern Slice TypeExpr (λ x. x.0) (λ x. x.0) (λ x. x.0) (λ x. x.0) (λ x. x.0) (λ x. x.0) (λ x. x.0)

  abbrev pub type_trees : ex.TypeExpr-F WithBitfield WithConstraintPart WithExpr WithFieldValue WithPattern WithSlice WithTypeExpr →
      ex.TypeExpr-F Bitfield ConstraintPart Expr FieldValue Pattern Slice TypeExpr
  type_trees = map-TypeExpr WithBitfield WithConstraintPart WithExpr WithFieldValue WithPattern WithSlice WithTypeExpr Bitfield
      ConstraintPart Expr FieldValue Pattern Slice TypeExpr (λ x. x.0) (λ x. x.0) (λ x. x.0) (λ x. x.0) (λ x. x.0) (λ x. x.0) (λ x. x.0)

  -- of a node, where it holds of its parts
  pub record Steps : Type 0 where
    pub bitfield : (y : ex.Bitfield-F WithBitfield WithConstraintPart WithExpr WithFieldValue WithPattern WithSlice WithTypeExpr) →
        PB (roll-Bitfield (bitfield_trees y))
    pub part : (y : ex.ConstraintPart-F WithBitfield WithConstraintPart WithExpr WithFieldValue WithPattern WithSlice WithTypeExpr) →
        PC (roll-ConstraintPart (part_trees y))
    pub expr : (y : ex.Expr-F WithBitfield WithConstraintPart WithExpr WithFieldValue WithPattern WithSlice WithTypeExpr) →
        PE (roll-Expr (expr_trees y))
    pub given : (y : ex.FieldValue-F WithBitfield WithConstraintPart WithExpr WithFieldValue WithPattern WithSlice WithTypeExpr) →
        PF (roll-FieldValue (given_trees y))
    pub pattern : (y : ex.Pattern-F WithBitfield WithConstraintPart WithExpr WithFieldValue WithPattern WithSlice WithTypeExpr) →
        PP (roll-Pattern (pattern_trees y))
    pub slice : (y : ex.Slice-F WithBitfield WithConstraintPart WithExpr WithFieldValue WithPattern WithSlice WithTypeExpr) →
        PS (roll-Slice (slice_trees y))
    pub type : (y : ex.TypeExpr-F WithBitfield WithConstraintPart WithExpr WithFieldValue WithPattern WithSlice WithTypeExpr) →
        PT (roll-TypeExpr (type_trees y))

  module _ (s : Steps) where
    bitfield_step : (x : ex.Bitfield-F Bitfield ConstraintPart Expr FieldValue Pattern Slice TypeExpr)
        (y : ex.Bitfield-F WithBitfield WithConstraintPart WithExpr WithFieldValue WithPattern WithSlice WithTypeExpr) →
        bitfield_trees y ≡ x → PB (roll-Bitfield x)
    bitfield_step x y is = subst (λ z. PB (roll-Bitfield z)) is (s.bitfield y)

    part_step : (x : ex.ConstraintPart-F Bitfield ConstraintPart Expr FieldValue Pattern Slice TypeExpr)
        (y : ex.ConstraintPart-F WithBitfield WithConstraintPart WithExpr WithFieldValue WithPattern WithSlice WithTypeExpr) →
        part_trees y ≡ x → PC (roll-ConstraintPart x)
    part_step x y is = subst (λ z. PC (roll-ConstraintPart z)) is (s.part y)

    expr_step : (x : ex.Expr-F Bitfield ConstraintPart Expr FieldValue Pattern Slice TypeExpr)
        (y : ex.Expr-F WithBitfield WithConstraintPart WithExpr WithFieldValue WithPattern WithSlice WithTypeExpr) → expr_trees y ≡ x →
        PE (roll-Expr x)
    expr_step x y is = subst (λ z. PE (roll-Expr z)) is (s.expr y)

    given_step : (x : ex.FieldValue-F Bitfield ConstraintPart Expr FieldValue Pattern Slice TypeExpr)
        (y : ex.FieldValue-F WithBitfield WithConstraintPart WithExpr WithFieldValue WithPattern WithSlice WithTypeExpr) →
        given_trees y ≡ x → PF (roll-FieldValue x)
    given_step x y is = subst (λ z. PF (roll-FieldValue z)) is (s.given y)

    pattern_step : (x : ex.Pattern-F Bitfield ConstraintPart Expr FieldValue Pattern Slice TypeExpr)
        (y : ex.Pattern-F WithBitfield WithConstraintPart WithExpr WithFieldValue WithPattern WithSlice WithTypeExpr) →
        pattern_trees y ≡ x → PP (roll-Pattern x)
    pattern_step x y is = subst (λ z. PP (roll-Pattern z)) is (s.pattern y)

    slice_step : (x : ex.Slice-F Bitfield ConstraintPart Expr FieldValue Pattern Slice TypeExpr)
        (y : ex.Slice-F WithBitfield WithConstraintPart WithExpr WithFieldValue WithPattern WithSlice WithTypeExpr) → slice_trees y ≡ x →
        PS (roll-Slice x)
    slice_step x y is = subst (λ z. PS (roll-Slice z)) is (s.slice y)

    type_step : (x : ex.TypeExpr-F Bitfield ConstraintPart Expr FieldValue Pattern Slice TypeExpr)
        (y : ex.TypeExpr-F WithBitfield WithConstraintPart WithExpr WithFieldValue WithPattern WithSlice WithTypeExpr) → type_trees y ≡ x →
        PT (roll-TypeExpr x)
    type_step x y is = subst (λ z. PT (roll-TypeExpr z)) is (s.type y)

    pub all_bitfields : (x : Bitfield) → PB x
    all_bitfields = ind-Bitfield PB PC PE PF PP PS PT bitfield_step part_step expr_step given_step pattern_step slice_step type_step

    pub all_parts : (x : ConstraintPart) → PC x
    all_parts = ind-ConstraintPart PB PC PE PF PP PS PT bitfield_step part_step expr_step given_step pattern_step slice_step type_step

    pub all_exprs : (x : Expr) → PE x
    all_exprs = ind-Expr PB PC PE PF PP PS PT bitfield_step part_step expr_step given_step pattern_step slice_step type_step

    pub all_givens : (x : FieldValue) → PF x
    all_givens = ind-FieldValue PB PC PE PF PP PS PT bitfield_step part_step expr_step given_step pattern_step slice_step type_step

    pub all_patterns : (x : Pattern) → PP x
    all_patterns = ind-Pattern PB PC PE PF PP PS PT bitfield_step part_step expr_step given_step pattern_step slice_step type_step

    pub all_slices : (x : Slice) → PS x
    all_slices = ind-Slice PB PC PE PF PP PS PT bitfield_step part_step expr_step given_step pattern_step slice_step type_step

    pub all_types : (x : TypeExpr) → PT x
    all_types = ind-TypeExpr PB PC PE PF PP PS PT bitfield_step part_step expr_step given_step pattern_step slice_step type_step
