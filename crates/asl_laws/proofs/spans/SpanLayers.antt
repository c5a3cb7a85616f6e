-- The spans that stand in a tree are those of its layer, and those of trees in a list are those of each.
use Rattle.std.proofs.Common.{List, [], ◌∷◌, map, subst}
use Rattle.asl_syn.specs.declared.tree.Bitfield.{Bitfield, roll-Bitfield}
use Rattle.asl_syn.specs.declared.tree.ConstraintPart.{ConstraintPart, roll-ConstraintPart}
use Rattle.asl_syn.specs.declared.tree.Expr.{Expr, roll-Expr}
use Rattle.asl_syn.specs.declared.tree.FieldValue.{FieldValue, roll-FieldValue}
use Rattle.asl_syn.specs.declared.tree.Pattern.{Pattern, roll-Pattern}
use Rattle.asl_syn.specs.declared.tree.Slice.{Slice, roll-Slice}
use Rattle.asl_syn.specs.declared.tree.TypeExpr.{TypeExpr, roll-TypeExpr}
use Rattle.asl_syn.specs.declared.tree.Bitfield.TheOpen as ex
use Rattle.asl_syn.specs.declared.tree.Bitfield.TheFolds.{fold-roll-Bitfield, fold-roll-ConstraintPart, fold-roll-Expr, fold-roll-FieldValue, fold-roll-Pattern, fold-roll-Slice, fold-roll-TypeExpr, map-Bitfield, map-ConstraintPart, map-Expr, map-FieldValue, map-Pattern, map-Slice, map-TypeExpr}
use Rattle.asl_syn.specs.declared.tree.Alternative.{Alternative, roll-Alternative}
use Rattle.asl_syn.specs.declared.tree.Catcher.{Catcher, roll-Catcher}
use Rattle.asl_syn.specs.declared.tree.ElseIf.{ElseIf, roll-ElseIf}
use Rattle.asl_syn.specs.declared.tree.Otherwise.{Otherwise, roll-Otherwise}
use Rattle.asl_syn.specs.declared.tree.Stmt.{Stmt, roll-Stmt}
use Rattle.asl_syn.specs.declared.tree.Alternative.TheOpen as st
use Rattle.asl_syn.specs.declared.tree.Alternative.TheFolds.{fold-roll-Alternative, fold-roll-Catcher, fold-roll-ElseIf, fold-roll-Otherwise, fold-roll-Stmt, map-Alternative, map-Catcher, map-ElseIf, map-Otherwise, map-Stmt}
use Rattle.asl_laws.proofs.basics.Lists.{AllOf}
use Rattle.asl_laws.specs.Spans.{Mark, Spans, Each, joined, all_of, in_bitfield, in_part, in_expr, in_field, in_pattern, in_slice, in_type, in_alternative, in_catcher, in_branch, in_otherwise, in_stmt, bitfield_spans, part_spans, expr_spans, given_spans, pattern_spans, slice_spans, type_spans, alternative_spans, catcher_spans, branch_spans, otherwise_spans, stmt_spans}

-- ---- the spans of the parts of a layer

abbrev pub spans_of_bitfield : ex.Bitfield-F Bitfield ConstraintPart Expr FieldValue Pattern Slice TypeExpr → ex.Bitfield-F Spans Spans Spans Spans Spans Spans Spans
spans_of_bitfield = map-Bitfield Bitfield ConstraintPart Expr FieldValue Pattern Slice TypeExpr Spans Spans Spans Spans Spans Spans Spans bitfield_spans part_spans expr_spans given_spans pattern_spans slice_spans type_spans

abbrev pub spans_of_part : ex.ConstraintPart-F Bitfield ConstraintPart Expr FieldValue Pattern Slice TypeExpr → ex.ConstraintPart-F Spans Spans Spans Spans Spans Spans Spans
spans_of_part = map-ConstraintPart Bitfield ConstraintPart Expr FieldValue Pattern Slice TypeExpr Spans Spans Spans Spans Spans Spans Spans bitfield_spans part_spans expr_spans given_spans pattern_spans slice_spans type_spans

abbrev pub spans_of_expr : ex.Expr-F Bitfield ConstraintPart Expr FieldValue Pattern Slice TypeExpr → ex.Expr-F Spans Spans Spans Spans Spans Spans Spans
spans_of_expr = map-Expr Bitfield ConstraintPart Expr FieldValue Pattern Slice TypeExpr Spans Spans Spans Spans Spans Spans Spans bitfield_spans part_spans expr_spans given_spans pattern_spans slice_spans type_spans

abbrev pub spans_of_given : ex.FieldValue-F Bitfield ConstraintPart Expr FieldValue Pattern Slice TypeExpr → ex.FieldValue-F Spans Spans Spans Spans Spans Spans Spans
spans_of_given = map-FieldValue Bitfield ConstraintPart Expr FieldValue Pattern Slice TypeExpr Spans Spans Spans Spans Spans Spans Spans bitfield_spans part_spans expr_spans given_spans pattern_spans slice_spans type_spans

abbrev pub spans_of_pattern : ex.Pattern-F Bitfield ConstraintPart Expr FieldValue Pattern Slice TypeExpr → ex.Pattern-F Spans Spans Spans Spans Spans Spans Spans
spans_of_pattern = map-Pattern Bitfield ConstraintPart Expr FieldValue Pattern Slice TypeExpr Spans Spans Spans Spans Spans Spans Spans bitfield_spans part_spans expr_spans given_spans pattern_spans slice_spans type_spans

abbrev pub spans_of_slice : ex.Slice-F Bitfield ConstraintPart Expr FieldValue Pattern Slice TypeExpr → ex.Slice-F Spans Spans Spans Spans Spans Spans Spans
spans_of_slice = map-Slice Bitfield ConstraintPart Expr FieldValue Pattern Slice TypeExpr Spans Spans Spans Spans Spans Spans Spans bitfield_spans part_spans expr_spans given_spans pattern_spans slice_spans type_spans

abbrev pub spans_of_type : ex.TypeExpr-F Bitfield ConstraintPart Expr FieldValue Pattern Slice TypeExpr → ex.TypeExpr-F Spans Spans Spans Spans Spans Spans Spans
spans_of_type = map-TypeExpr Bitfield ConstraintPart Expr FieldValue Pattern Slice TypeExpr Spans Spans Spans Spans Spans Spans Spans bitfield_spans part_spans expr_spans given_spans pattern_spans slice_spans type_spans

abbrev pub spans_of_alternative : st.Alternative-F Alternative Catcher ElseIf Otherwise Stmt → st.Alternative-F Spans Spans Spans Spans Spans
spans_of_alternative = map-Alternative Alternative Catcher ElseIf Otherwise Stmt Spans Spans Spans Spans Spans alternative_spans catcher_spans branch_spans otherwise_spans stmt_spans

abbrev pub spans_of_catcher : st.Catcher-F Alternative Catcher ElseIf Otherwise Stmt → st.Catcher-F Spans Spans Spans Spans Spans
spans_of_catcher = map-Catcher Alternative Catcher ElseIf Otherwise Stmt Spans Spans Spans Spans Spans alternative_spans catcher_spans branch_spans otherwise_spans stmt_spans

abbrev pub spans_of_branch : st.ElseIf-F Alternative Catcher ElseIf Otherwise Stmt → st.ElseIf-F Spans Spans Spans Spans Spans
spans_of_branch = map-ElseIf Alternative Catcher ElseIf Otherwise Stmt Spans Spans Spans Spans Spans alternative_spans catcher_spans branch_spans otherwise_spans stmt_spans

abbrev pub spans_of_otherwise : st.Otherwise-F Alternative Catcher ElseIf Otherwise Stmt → st.Otherwise-F Spans Spans Spans Spans Spans
spans_of_otherwise = map-Otherwise Alternative Catcher ElseIf Otherwise Stmt Spans Spans Spans Spans Spans alternative_spans catcher_spans branch_spans otherwise_spans stmt_spans

abbrev pub spans_of_stmt : st.Stmt-F Alternative Catcher ElseIf Otherwise Stmt → st.Stmt-F Spans Spans Spans Spans Spans
spans_of_stmt = map-Stmt Alternative Catcher ElseIf Otherwise Stmt Spans Spans Spans Spans Spans alternative_spans catcher_spans branch_spans otherwise_spans stmt_spans

-- what holds of the spans of a tree holds of those of its layer

module _ (P : Mark → Type 0) where
  pub inside_bitfield : (x : ex.Bitfield-F Bitfield ConstraintPart Expr FieldValue Pattern Slice TypeExpr) → Each P (bitfield_spans (roll-Bitfield x)) → Each P (in_bitfield (spans_of_bitfield x))
  inside_bitfield x h = subst (Each P) (fold-roll-Bitfield Spans Spans Spans Spans Spans Spans Spans in_bitfield in_part in_expr in_field in_pattern in_slice in_type x) h

  pub inside_part : (x : ex.ConstraintPart-F Bitfield ConstraintPart Expr FieldValue Pattern Slice TypeExpr) → Each P (part_spans (roll-ConstraintPart x)) → Each P (in_part (spans_of_part x))
  inside_part x h = subst (Each P) (fold-roll-ConstraintPart Spans Spans Spans Spans Spans Spans Spans in_bitfield in_part in_expr in_field in_pattern in_slice in_type x) h

  pub inside_expr : (x : ex.Expr-F Bitfield ConstraintPart Expr FieldValue Pattern Slice TypeExpr) → Each P (expr_spans (roll-Expr x)) → Each P (in_expr (spans_of_expr x))
  inside_expr x h = subst (Each P) (fold-roll-Expr Spans Spans Spans Spans Spans Spans Spans in_bitfield in_part in_expr in_field in_pattern in_slice in_type x) h

  pub inside_given : (x : ex.FieldValue-F Bitfield ConstraintPart Expr FieldValue Pattern Slice TypeExpr) → Each P (given_spans (roll-FieldValue x)) → Each P (in_field (spans_of_given x))
  inside_given x h = subst (Each P) (fold-roll-FieldValue Spans Spans Spans Spans Spans Spans Spans in_bitfield in_part in_expr in_field in_pattern in_slice in_type x) h

  pub inside_pattern : (x : ex.Pattern-F Bitfield ConstraintPart Expr FieldValue Pattern Slice TypeExpr) → Each P (pattern_spans (roll-Pattern x)) → Each P (in_pattern (spans_of_pattern x))
  inside_pattern x h = subst (Each P) (fold-roll-Pattern Spans Spans Spans Spans Spans Spans Spans in_bitfield in_part in_expr in_field in_pattern in_slice in_type x) h

  pub inside_slice : (x : ex.Slice-F Bitfield ConstraintPart Expr FieldValue Pattern Slice TypeExpr) → Each P (slice_spans (roll-Slice x)) → Each P (in_slice (spans_of_slice x))
  inside_slice x h = subst (Each P) (fold-roll-Slice Spans Spans Spans Spans Spans Spans Spans in_bitfield in_part in_expr in_field in_pattern in_slice in_type x) h

  pub inside_type : (x : ex.TypeExpr-F Bitfield ConstraintPart Expr FieldValue Pattern Slice TypeExpr) → Each P (type_spans (roll-TypeExpr x)) → Each P (in_type (spans_of_type x))
  inside_type x h = subst (Each P) (fold-roll-TypeExpr Spans Spans Spans Spans Spans Spans Spans in_bitfield in_part in_expr in_field in_pattern in_slice in_type x) h

  pub inside_alternative : (x : st.Alternative-F Alternative Catcher ElseIf Otherwise Stmt) → Each P (alternative_spans (roll-Alternative x)) → Each P (in_alternative (spans_of_alternative x))
  inside_alternative x h = subst (Each P) (fold-roll-Alternative Spans Spans Spans Spans Spans in_alternative in_catcher in_branch in_otherwise in_stmt x) h

  pub inside_catcher : (x : st.Catcher-F Alternative Catcher ElseIf Otherwise Stmt) → Each P (catcher_spans (roll-Catcher x)) → Each P (in_catcher (spans_of_catcher x))
  inside_catcher x h = subst (Each P) (fold-roll-Catcher Spans Spans Spans Spans Spans in_alternative in_catcher in_branch in_otherwise in_stmt x) h

  pub inside_branch : (x : st.ElseIf-F Alternative Catcher ElseIf Otherwise Stmt) → Each P (branch_spans (roll-ElseIf x)) → Each P (in_branch (spans_of_branch x))
  inside_branch x h = subst (Each P) (fold-roll-ElseIf Spans Spans Spans Spans Spans in_alternative in_catcher in_branch in_otherwise in_stmt x) h

  pub inside_otherwise : (x : st.Otherwise-F Alternative Catcher ElseIf Otherwise Stmt) → Each P (otherwise_spans (roll-Otherwise x)) → Each P (in_otherwise (spans_of_otherwise x))
  inside_otherwise x h = subst (Each P) (fold-roll-Otherwise Spans Spans Spans Spans Spans in_alternative in_catcher in_branch in_otherwise in_stmt x) h

  pub inside_stmt : (x : st.Stmt-F Alternative Catcher ElseIf Otherwise Stmt) → Each P (stmt_spans (roll-Stmt x)) → Each P (in_stmt (spans_of_stmt x))
  inside_stmt x h = subst (Each P) (fold-roll-Stmt Spans Spans Spans Spans Spans in_alternative in_catcher in_branch in_otherwise in_stmt x) h

  -- ---- lists

  -- of trees that have something where all spans of each do
  pub all_parts : {X Y : Type 0} (spans : X → Spans) (f : X → Y) (Q : Y → Type 0) (xs : List ((x : X) × (Each P (spans x) → Q (f x)))) → Each P (joined (map spans (map (λ x. x.0) xs))) → AllOf Q (map f (map (λ x. x.0) xs))
  all_parts spans f Q [] h = tt
  all_parts spans f Q (x ∷ xs) h = (x.1 h.0, all_parts spans f Q xs h.1)

  pub all_there : {X Y : Type 0} (spans : X → Spans) (f : X → Y) (Q : Y → Type 0) → ((x : X) → Each P (spans x) → Q (f x)) → (xs : List X) → Each P (all_of spans xs) → AllOf Q (map f xs)
  all_there spans f Q k [] h = tt
  all_there spans f Q k (x ∷ xs) h = (k x h.0, all_there spans f Q k xs h.1)
