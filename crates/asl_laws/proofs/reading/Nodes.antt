-- Each form of expression, slice, written type, pattern and suffix: its spans lie in the file, where those of its parts do.
use Rattle.std.proofs.Common.{ℕ, Bool, List, sym, subst}
use Rattle.asl_syn.specs.declared.token.Span.{Span}
use Rattle.asl_syn.specs.declared.tree.Ident.{Ident}
use Rattle.asl_syn.specs.declared.tree.UnaryOperator.{UnaryOperator}
use Rattle.asl_syn.specs.declared.tree.BinaryOperator.{BinaryOperator}
use Rattle.asl_syn.specs.declared.tree.Bitfield.{Bitfield, roll-Bitfield}
use Rattle.asl_syn.specs.declared.tree.Bitfield.TheVariants as bf
use Rattle.asl_syn.specs.declared.tree.ConstraintPart.{ConstraintPart, roll-ConstraintPart}
use Rattle.asl_syn.specs.declared.tree.ConstraintPart.TheVariants as cp
use Rattle.asl_syn.specs.declared.tree.Expr.{Expr, roll-Expr}
use Rattle.asl_syn.specs.declared.tree.Expr.TheVariants as ex
use Rattle.asl_syn.specs.declared.tree.FieldValue.{FieldValue, roll-FieldValue}
use Rattle.asl_syn.specs.declared.tree.FieldValue.TheVariants as fv
use Rattle.asl_syn.specs.declared.tree.Pattern.{Pattern, roll-Pattern}
use Rattle.asl_syn.specs.declared.tree.Pattern.TheVariants as pa
use Rattle.asl_syn.specs.declared.tree.Slice.{Slice, roll-Slice}
use Rattle.asl_syn.specs.declared.tree.Slice.TheVariants as sl
use Rattle.asl_syn.specs.declared.tree.Suffix.TheVariants as su
use Rattle.asl_syn.specs.declared.tree.TypeExpr.{TypeExpr, roll-TypeExpr}
use Rattle.asl_syn.specs.declared.tree.TypeExpr.TheVariants as ty
use Rattle.asl_syn.specs.declared.tree.Bitfield.TheOpen as node
use Rattle.asl_syn.specs.declared.tree.Bitfield.TheFolds.{fold-roll-Bitfield, fold-roll-ConstraintPart, fold-roll-Expr, fold-roll-FieldValue, fold-roll-Pattern, fold-roll-Slice, fold-roll-TypeExpr, map-Bitfield, map-ConstraintPart, map-Expr, map-FieldValue, map-Pattern, map-Slice, map-TypeExpr}
use Rattle.asl_laws.proofs.basics.Lists.{AllOf}
use Rattle.asl_laws.specs.Spans.{Spans, Each, in_bitfield, in_part, in_expr, in_field, in_pattern, in_slice, in_type, bitfield_spans, part_spans, expr_spans, given_spans, pattern_spans, slice_spans, type_spans}
use Rattle.asl_laws.proofs.reading.Literals.{IsLiteral}
use Rattle.asl_laws.proofs.reading.Predicates.{P, MarkIn, IdentIn, ExprIn, SliceIn, FieldValueIn, TypeExprIn, ConstraintPartIn, BitfieldIn, PatternIn, SuffixIn, each_in, each_names_in}

module _ (n size limit : ℕ) where
  -- ---- one layer of a tree: its spans are those of the tree

  expr_layer_in : (x : node.Expr-F Bitfield ConstraintPart Expr FieldValue Pattern Slice TypeExpr) → Each (MarkIn n size limit) (in_expr (map-Expr Bitfield ConstraintPart Expr FieldValue Pattern Slice TypeExpr Spans Spans Spans Spans Spans Spans Spans bitfield_spans part_spans expr_spans given_spans pattern_spans slice_spans type_spans x)) → ExprIn n size limit (roll-Expr x)
  expr_layer_in x h = subst (Each (MarkIn n size limit)) (sym (fold-roll-Expr Spans Spans Spans Spans Spans Spans Spans in_bitfield in_part in_expr in_field in_pattern in_slice in_type x)) h

  slice_layer_in : (x : node.Slice-F Bitfield ConstraintPart Expr FieldValue Pattern Slice TypeExpr) → Each (MarkIn n size limit) (in_slice (map-Slice Bitfield ConstraintPart Expr FieldValue Pattern Slice TypeExpr Spans Spans Spans Spans Spans Spans Spans bitfield_spans part_spans expr_spans given_spans pattern_spans slice_spans type_spans x)) → SliceIn n size limit (roll-Slice x)
  slice_layer_in x h = subst (Each (MarkIn n size limit)) (sym (fold-roll-Slice Spans Spans Spans Spans Spans Spans Spans in_bitfield in_part in_expr in_field in_pattern in_slice in_type x)) h

  field_layer_in : (x : node.FieldValue-F Bitfield ConstraintPart Expr FieldValue Pattern Slice TypeExpr) → Each (MarkIn n size limit) (in_field (map-FieldValue Bitfield ConstraintPart Expr FieldValue Pattern Slice TypeExpr Spans Spans Spans Spans Spans Spans Spans bitfield_spans part_spans expr_spans given_spans pattern_spans slice_spans type_spans x)) → FieldValueIn n size limit (roll-FieldValue x)
  field_layer_in x h = subst (Each (MarkIn n size limit)) (sym (fold-roll-FieldValue Spans Spans Spans Spans Spans Spans Spans in_bitfield in_part in_expr in_field in_pattern in_slice in_type x)) h

  type_layer_in : (x : node.TypeExpr-F Bitfield ConstraintPart Expr FieldValue Pattern Slice TypeExpr) → Each (MarkIn n size limit) (in_type (map-TypeExpr Bitfield ConstraintPart Expr FieldValue Pattern Slice TypeExpr Spans Spans Spans Spans Spans Spans Spans bitfield_spans part_spans expr_spans given_spans pattern_spans slice_spans type_spans x)) → TypeExprIn n size limit (roll-TypeExpr x)
  type_layer_in x h = subst (Each (MarkIn n size limit)) (sym (fold-roll-TypeExpr Spans Spans Spans Spans Spans Spans Spans in_bitfield in_part in_expr in_field in_pattern in_slice in_type x)) h

  part_layer_in : (x : node.ConstraintPart-F Bitfield ConstraintPart Expr FieldValue Pattern Slice TypeExpr) → Each (MarkIn n size limit) (in_part (map-ConstraintPart Bitfield ConstraintPart Expr FieldValue Pattern Slice TypeExpr Spans Spans Spans Spans Spans Spans Spans bitfield_spans part_spans expr_spans given_spans pattern_spans slice_spans type_spans x)) → ConstraintPartIn n size limit (roll-ConstraintPart x)
  part_layer_in x h = subst (Each (MarkIn n size limit)) (sym (fold-roll-ConstraintPart Spans Spans Spans Spans Spans Spans Spans in_bitfield in_part in_expr in_field in_pattern in_slice in_type x)) h

  bitfield_layer_in : (x : node.Bitfield-F Bitfield ConstraintPart Expr FieldValue Pattern Slice TypeExpr) → Each (MarkIn n size limit) (in_bitfield (map-Bitfield Bitfield ConstraintPart Expr FieldValue Pattern Slice TypeExpr Spans Spans Spans Spans Spans Spans Spans bitfield_spans part_spans expr_spans given_spans pattern_spans slice_spans type_spans x)) → BitfieldIn n size limit (roll-Bitfield x)
  bitfield_layer_in x h = subst (Each (MarkIn n size limit)) (sym (fold-roll-Bitfield Spans Spans Spans Spans Spans Spans Spans in_bitfield in_part in_expr in_field in_pattern in_slice in_type x)) h

  pattern_layer_in : (x : node.Pattern-F Bitfield ConstraintPart Expr FieldValue Pattern Slice TypeExpr) → Each (MarkIn n size limit) (in_pattern (map-Pattern Bitfield ConstraintPart Expr FieldValue Pattern Slice TypeExpr Spans Spans Spans Spans Spans Spans Spans bitfield_spans part_spans expr_spans given_spans pattern_spans slice_spans type_spans x)) → PatternIn n size limit (roll-Pattern x)
  pattern_layer_in x h = subst (Each (MarkIn n size limit)) (sym (fold-roll-Pattern Spans Spans Spans Spans Spans Spans Spans in_bitfield in_part in_expr in_field in_pattern in_slice in_type x)) h

  -- ---- expressions

  pub int_node : (span : Span) (value : ℕ) → P n size limit span → ExprIn n size limit (ex.Int span value)
  unfolding roll-Expr denote.Hole.Carrier.roll
  int_node span value p = expr_layer_in (node.Int span value) p

  pub bits_node : (span : Span) (text : List ℕ) → P n size limit span → IsLiteral limit text → ExprIn n size limit (ex.Bits span text)
  unfolding roll-Expr denote.Hole.Carrier.roll
  bits_node span text p l = expr_layer_in (node.Bits span text) (p, l)

  pub bool_node : (span : Span) (b : Bool) → P n size limit span → ExprIn n size limit (ex.Bool span b)
  unfolding roll-Expr denote.Hole.Carrier.roll
  bool_node span b p = expr_layer_in (node.Bool span b) p

  pub name_node : (span : Span) (text : List ℕ) → P n size limit span → ExprIn n size limit (ex.Name span text)
  unfolding roll-Expr denote.Hole.Carrier.roll
  name_node span text p = expr_layer_in (node.Name span text) p

  pub unary_node : (span : Span) (operator : UnaryOperator) (a : Expr) → P n size limit span → ExprIn n size limit a → ExprIn n size limit (ex.Unary span operator a)
  unfolding roll-Expr denote.Hole.Carrier.roll
  unary_node span operator a p h = expr_layer_in (node.Unary span operator a) (p, h)

  pub binary_node : (span : Span) (operator : BinaryOperator) (a b : Expr) → P n size limit span → ExprIn n size limit a → ExprIn n size limit b → ExprIn n size limit (ex.Binary span operator a b)
  unfolding roll-Expr denote.Hole.Carrier.roll
  binary_node span operator a b p h k = expr_layer_in (node.Binary span operator a b) (p, (h, k))

  pub conditional_node : (span : Span) (c a b : Expr) → P n size limit span → ExprIn n size limit c → ExprIn n size limit a → ExprIn n size limit b → ExprIn n size limit (ex.Conditional span c a b)
  unfolding roll-Expr denote.Hole.Carrier.roll
  conditional_node span c a b p h k l = expr_layer_in (node.Conditional span c a b) (p, (h, (k, l)))

  pub tuple_node : (span : Span) (es : List Expr) → P n size limit span → AllOf (ExprIn n size limit) es → ExprIn n size limit (ex.Tuple span es)
  unfolding roll-Expr denote.Hole.Carrier.roll
  tuple_node span es p h = expr_layer_in (node.Tuple span es) (p, each_in n size limit expr_spans es h)

  pub construct_node : (span : Span) (i : Ident) (fs : List FieldValue) → P n size limit span → IdentIn n size limit i → AllOf (FieldValueIn n size limit) fs → ExprIn n size limit (ex.Construct span i fs)
  unfolding roll-Expr denote.Hole.Carrier.roll
  construct_node span i fs p h k = expr_layer_in (node.Construct span i fs) (p, (h, each_in n size limit given_spans fs k))

  pub call_node : (span : Span) (i : Ident) (ps es : List Expr) → P n size limit span → IdentIn n size limit i → AllOf (ExprIn n size limit) ps → AllOf (ExprIn n size limit) es → ExprIn n size limit (ex.Call span i ps es)
  unfolding roll-Expr denote.Hole.Carrier.roll
  call_node span i ps es p h k l = expr_layer_in (node.Call span i ps es) (p, (h, (each_in n size limit expr_spans ps k, each_in n size limit expr_spans es l)))

  pub field_node : (span : Span) (a : Expr) (i : Ident) → P n size limit span → ExprIn n size limit a → IdentIn n size limit i → ExprIn n size limit (ex.Field span a i)
  unfolding roll-Expr denote.Hole.Carrier.roll
  field_node span a i p h k = expr_layer_in (node.Field span a i) (p, (h, k))

  pub fields_node : (span : Span) (a : Expr) (is : List Ident) → P n size limit span → ExprIn n size limit a → AllOf (IdentIn n size limit) is → ExprIn n size limit (ex.Fields span a is)
  unfolding roll-Expr denote.Hole.Carrier.roll
  fields_node span a is p h k = expr_layer_in (node.Fields span a is) (p, (h, each_names_in n size limit is k))

  pub slices_node : (span : Span) (a : Expr) (ss : List Slice) → P n size limit span → ExprIn n size limit a → AllOf (SliceIn n size limit) ss → ExprIn n size limit (ex.Slices span a ss)
  unfolding roll-Expr denote.Hole.Carrier.roll
  slices_node span a ss p h k = expr_layer_in (node.Slices span a ss) (p, (h, each_in n size limit slice_spans ss k))

  pub element_node : (span : Span) (a b : Expr) → P n size limit span → ExprIn n size limit a → ExprIn n size limit b → ExprIn n size limit (ex.Element span a b)
  unfolding roll-Expr denote.Hole.Carrier.roll
  element_node span a b p h k = expr_layer_in (node.Element span a b) (p, (h, k))

  pub as_node : (span : Span) (a : Expr) (t : TypeExpr) → P n size limit span → ExprIn n size limit a → TypeExprIn n size limit t → ExprIn n size limit (ex.As span a t)
  unfolding roll-Expr denote.Hole.Carrier.roll
  as_node span a t p h k = expr_layer_in (node.As span a t) (p, (h, k))

  pub in_node : (span : Span) (a : Expr) (b : Pattern) → P n size limit span → ExprIn n size limit a → PatternIn n size limit b → ExprIn n size limit (ex.In span a b)
  unfolding roll-Expr denote.Hole.Carrier.roll
  in_node span a b p h k = expr_layer_in (node.In span a b) (p, (h, k))

  -- ---- slices and fields of a construction

  pub bit_at_node : (a : Expr) → ExprIn n size limit a → SliceIn n size limit (sl.BitAt a)
  unfolding roll-Slice denote.Hole.Carrier.roll
  bit_at_node a h = slice_layer_in (node.BitAt a) h

  pub high_low_node : (a b : Expr) → ExprIn n size limit a → ExprIn n size limit b → SliceIn n size limit (sl.HighLow a b)
  unfolding roll-Slice denote.Hole.Carrier.roll
  high_low_node a b h k = slice_layer_in (node.HighLow a b) (h, k)

  pub low_width_node : (a b : Expr) → ExprIn n size limit a → ExprIn n size limit b → SliceIn n size limit (sl.LowWidth a b)
  unfolding roll-Slice denote.Hole.Carrier.roll
  low_width_node a b h k = slice_layer_in (node.LowWidth a b) (h, k)

  pub factor_width_node : (a b : Expr) → ExprIn n size limit a → ExprIn n size limit b → SliceIn n size limit (sl.FactorWidth a b)
  unfolding roll-Slice denote.Hole.Carrier.roll
  factor_width_node a b h k = slice_layer_in (node.FactorWidth a b) (h, k)

  pub given_node : (i : Ident) (a : Expr) → IdentIn n size limit i → ExprIn n size limit a → FieldValueIn n size limit (fv.Given i a)
  unfolding roll-FieldValue denote.Hole.Carrier.roll
  given_node i a h k = field_layer_in (node.Given i a) (h, k)

  -- ---- written types

  pub integer_type_node : (span : Span) (xs : List ConstraintPart) → P n size limit span → AllOf (ConstraintPartIn n size limit) xs → TypeExprIn n size limit (ty.IntegerType span xs)
  unfolding roll-TypeExpr denote.Hole.Carrier.roll
  integer_type_node span xs p h = type_layer_in (node.IntegerType span xs) (p, each_in n size limit part_spans xs h)

  pub boolean_type_node : (span : Span) → P n size limit span → TypeExprIn n size limit (ty.BooleanType span)
  unfolding roll-TypeExpr denote.Hole.Carrier.roll
  boolean_type_node span p = type_layer_in (node.BooleanType span) p

  pub bit_type_node : (span : Span) → P n size limit span → TypeExprIn n size limit (ty.BitType span)
  unfolding roll-TypeExpr denote.Hole.Carrier.roll
  bit_type_node span p = type_layer_in (node.BitType span) p

  pub named_type_node : (span : Span) (text : List ℕ) → P n size limit span → TypeExprIn n size limit (ty.NamedType span text)
  unfolding roll-TypeExpr denote.Hole.Carrier.roll
  named_type_node span text p = type_layer_in (node.NamedType span text) p

  pub bits_type_node : (span : Span) (a : Expr) (fs : List Bitfield) → P n size limit span → ExprIn n size limit a → AllOf (BitfieldIn n size limit) fs → TypeExprIn n size limit (ty.BitsType span a fs)
  unfolding roll-TypeExpr denote.Hole.Carrier.roll
  bits_type_node span a fs p h k = type_layer_in (node.BitsType span a fs) (p, (h, each_in n size limit bitfield_spans fs k))

  pub tuple_type_node : (span : Span) (ts : List TypeExpr) → P n size limit span → AllOf (TypeExprIn n size limit) ts → TypeExprIn n size limit (ty.TupleType span ts)
  unfolding roll-TypeExpr denote.Hole.Carrier.roll
  tuple_type_node span ts p h = type_layer_in (node.TupleType span ts) (p, each_in n size limit type_spans ts h)

  pub array_type_node : (span : Span) (a : Expr) (t : TypeExpr) → P n size limit span → ExprIn n size limit a → TypeExprIn n size limit t → TypeExprIn n size limit (ty.ArrayType span a t)
  unfolding roll-TypeExpr denote.Hole.Carrier.roll
  array_type_node span a t p h k = type_layer_in (node.ArrayType span a t) (p, (h, k))

  pub only_node : (a : Expr) → ExprIn n size limit a → ConstraintPartIn n size limit (cp.Only a)
  unfolding roll-ConstraintPart denote.Hole.Carrier.roll
  only_node a h = part_layer_in (node.Only a) h

  pub from_to_node : (a b : Expr) → ExprIn n size limit a → ExprIn n size limit b → ConstraintPartIn n size limit (cp.FromTo a b)
  unfolding roll-ConstraintPart denote.Hole.Carrier.roll
  from_to_node a b h k = part_layer_in (node.FromTo a b) (h, k)

  pub one_bit_node : (a : Expr) (i : Ident) → ExprIn n size limit a → IdentIn n size limit i → BitfieldIn n size limit (bf.OneBit a i)
  unfolding roll-Bitfield denote.Hole.Carrier.roll
  one_bit_node a i h k = bitfield_layer_in (node.OneBit a i) (h, k)

  pub bit_range_node : (a b : Expr) (i : Ident) → ExprIn n size limit a → ExprIn n size limit b → IdentIn n size limit i → BitfieldIn n size limit (bf.BitRange a b i)
  unfolding roll-Bitfield denote.Hole.Carrier.roll
  bit_range_node a b i h k l = bitfield_layer_in (node.BitRange a b i) (h, (k, l))

  -- ---- patterns

  pub any_pattern_node : (span : Span) → P n size limit span → PatternIn n size limit (pa.AnyPattern span)
  unfolding roll-Pattern denote.Hole.Carrier.roll
  any_pattern_node span p = pattern_layer_in (node.AnyPattern span) p

  pub set_pattern_node : (span : Span) (negated : Bool) (ps : List Pattern) → P n size limit span → AllOf (PatternIn n size limit) ps → PatternIn n size limit (pa.SetPattern span negated ps)
  unfolding roll-Pattern denote.Hole.Carrier.roll
  set_pattern_node span negated ps p h = pattern_layer_in (node.SetPattern span negated ps) (p, each_in n size limit pattern_spans ps h)

  pub mask_pattern_node : (span : Span) (text : List ℕ) → P n size limit span → PatternIn n size limit (pa.MaskPattern span text)
  unfolding roll-Pattern denote.Hole.Carrier.roll
  mask_pattern_node span text p = pattern_layer_in (node.MaskPattern span text) p

  pub at_most_node : (span : Span) (a : Expr) → P n size limit span → ExprIn n size limit a → PatternIn n size limit (pa.AtMost span a)
  unfolding roll-Pattern denote.Hole.Carrier.roll
  at_most_node span a p h = pattern_layer_in (node.AtMost span a) (p, h)

  pub at_least_node : (span : Span) (a : Expr) → P n size limit span → ExprIn n size limit a → PatternIn n size limit (pa.AtLeast span a)
  unfolding roll-Pattern denote.Hole.Carrier.roll
  at_least_node span a p h = pattern_layer_in (node.AtLeast span a) (p, h)

  pub tuple_pattern_node : (span : Span) (ps : List Pattern) → P n size limit span → AllOf (PatternIn n size limit) ps → PatternIn n size limit (pa.TuplePattern span ps)
  unfolding roll-Pattern denote.Hole.Carrier.roll
  tuple_pattern_node span ps p h = pattern_layer_in (node.TuplePattern span ps) (p, each_in n size limit pattern_spans ps h)

  pub value_pattern_node : (span : Span) (a : Expr) → P n size limit span → ExprIn n size limit a → PatternIn n size limit (pa.ValuePattern span a)
  unfolding roll-Pattern denote.Hole.Carrier.roll
  value_pattern_node span a p h = pattern_layer_in (node.ValuePattern span a) (p, h)

  pub range_pattern_node : (span : Span) (a b : Expr) → P n size limit span → ExprIn n size limit a → ExprIn n size limit b → PatternIn n size limit (pa.RangePattern span a b)
  unfolding roll-Pattern denote.Hole.Carrier.roll
  range_pattern_node span a b p h k = pattern_layer_in (node.RangePattern span a b) (p, (h, k))

  -- ---- suffixes

  pub fields_of_node : (is : List Ident) → AllOf (IdentIn n size limit) is → SuffixIn n size limit (su.FieldsOf is)
  fields_of_node is h = each_names_in n size limit is h

  pub slices_of_node : (ss : List Slice) → AllOf (SliceIn n size limit) ss → SuffixIn n size limit (su.SlicesOf ss)
  slices_of_node ss h = each_in n size limit slice_spans ss h
