-- What the rules of braces behind a name, of slices, patterns and types read has its spans in the file.
-- Written by tools/grammar/generate.py from tools/grammar/table.py.
use Rattle.std.proofs.Common.{ℕ, ◌⊎◌, inl, inr, List, [], ◌∷◌, ◌++◌, Option, sym, subst}
use Rattle.asl_syn.specs.declared.tree.Expr.{Expr}
use Rattle.asl_syn.specs.declared.tree.FieldValue.{FieldValue}
use Rattle.asl_syn.specs.declared.tree.Slice.{Slice}
use Rattle.asl_syn.specs.declared.tree.TypeExpr.{TypeExpr}
use Rattle.asl_syn.specs.declared.tree.ConstraintPart.{ConstraintPart}
use Rattle.asl_syn.specs.declared.tree.Bitfield.{Bitfield}
use Rattle.asl_syn.specs.declared.tree.Pattern.{Pattern}
use Rattle.asl_syn.specs.declared.tree.Suffix.{Suffix}
use Rattle.asl_grammar.specs.declared.parts.Braces.{Braces}
use Rattle.asl_grammar.specs.declared.parts.SliceForm.{SliceForm}
use Rattle.asl_grammar.specs.declared.kinds.Kind.TheVariants as kind
use Rattle.asl_grammar.specs.grammar.Cursor.{whole}
use Rattle.asl_grammar.specs.grammar.Build.{Links, LateTail, NameTail, SumTail, LateRange}
use Rattle.asl_grammar.specs.grammar.Rules.{late_expression, expression_after_name, other_unary, other_chain, other_open_expression, other_expression, field_value, more_field_values, field_values_after_name, more_parameters, parameters_after_minus, parameters_after_name, minus_alone, after_minus, after_first_name, minus_in_braces, name_in_braces, other_in_braces, empty_braces, braced_in, slice_form, slice_rest, slice, slices, slices_in, element, bracketed_in, sum_rests, scoped_sum, range_end, late_sum, late_range, maybe_late_range, minus_pattern, after_bang, bang_pattern, at_most, at_least, pattern_in_parens, plain_unary, plain_chain, plain_sum, sum_pattern, pattern, patterns, set_parts, pattern_parts, constraint_end, constraint_part, constraint_list, constraint_parts, low_end, bit_ends, bitfield, bitfield_list, maybe_bitfield_list, bitfields_in, more_types, two_types, type_parts, array_length, array_parts, typed}
use Rattle.asl_laws.proofs.basics.Lists.{AllOf}
use Rattle.asl_laws.proofs.reading.Inside.{whole_in, in_opt}
use Rattle.asl_laws.proofs.reading.Predicates.{in_pair, in_sum, ExprIn, SliceIn, FieldValueIn, TypeExprIn, ConstraintPartIn, BitfieldIn, PatternIn, SuffixIn, SliceFormIn, BracesIn, LinkIn, LinksIn, LateTailIn, NameTailIn, SumTailIn, LateRangeIn, from_in, lex_from, seconds_in, or_nil_in, append_in, behind_in}
use Rattle.asl_laws.proofs.reading.Nodes.{given_node, at_most_node, at_least_node, slices_of_node}
use Rattle.asl_laws.proofs.reading.Builds.{chained_in, finished_in, minus_in_braces_of_in, name_in_braces_of_in, slice_of_in, constraint_part_of_in, bitfield_of_in, pattern_of_in, minus_pattern_of_in, bang_pattern_of_in, pattern_parens_of_in}
use Rattle.asl_laws.proofs.reading.Combining.{all_inside, opt_inside}
use Rattle.asl_laws.proofs.reading.Symbols.{In}
use Rattle.asl_laws.proofs.reading.RulesOfExpressions.{name_inside, maybe_after_name_inside, mask_pattern_inside, set_braces_inside, set_pattern_inside, post_rest_inside, post_literal_inside, post_parenthesized_inside, post_named_inside, prefixed_by_inside, unary_inside, power_rest_inside, product_rest_inside, sum_rest_inside, sum_inside, type_expression_inside, conditional_inside, expression_inside, rest_inside, more_expressions_inside}

module _ (n size limit : ℕ) where
  -- ---- Braces behind a name

  late_expression_inside : (v : LateTail) → In n size limit late_expression v → LateTailIn n size limit v
  unfolding late_expression
  late_expression_inside v h = ((unary_inside n size limit v.0.0 h.0.0, h.0.1), rest_inside n size limit v.1 h.1)

  expression_after_name_inside : (v : NameTail) → In n size limit expression_after_name v → NameTailIn n size limit v
  unfolding expression_after_name
  expression_after_name_inside v h = (maybe_after_name_inside n size limit v.0 h.0, (post_rest_inside n size limit v.1.0 h.1.0, rest_inside n size limit v.1.1 h.1.1))

  other_unary_inside : (v : Expr) → In n size limit other_unary v → ExprIn n size limit v
  unfolding other_unary
  other_unary_inside v (inl h) = prefixed_by_inside n size limit (kind.Bang ∷ kind.Not ∷ []) v h
  other_unary_inside v (inr (inl h)) = post_literal_inside n size limit v h
  other_unary_inside v (inr (inr h)) = post_parenthesized_inside n size limit v h

  other_chain_inside : (v : Expr) → In n size limit other_chain v → ExprIn n size limit v
  unfolding other_chain
  other_chain_inside v (x, h, e) = subst (ExprIn n size limit) (sym e) (finished_in n size limit x.0.1.from x.0.0 x.1 (from_in n size limit x.0.1 h.0.1) (other_unary_inside x.0.0 h.0.0) (rest_inside n size limit x.1 h.1))

  other_open_expression_inside : (v : Expr) → In n size limit other_open_expression v → ExprIn n size limit v
  unfolding other_open_expression
  other_open_expression_inside v (inl h) = conditional_inside n size limit v h
  other_open_expression_inside v (inr h) = other_chain_inside v h

  other_expression_inside : (v : Expr) → In n size limit other_expression v → ExprIn n size limit v
  unfolding other_expression
  other_expression_inside v h = other_open_expression_inside v h

  field_value_inside : (v : FieldValue) → In n size limit field_value v → FieldValueIn n size limit v
  unfolding field_value
  field_value_inside v (x, h, e) = subst (FieldValueIn n size limit) (sym e) (given_node n size limit x.0 x.1.1 (name_inside n size limit x.0 h.0) (expression_inside n size limit x.1.1 h.1.1))

  more_field_values_inside : (v : List FieldValue) → In n size limit more_field_values v → AllOf (FieldValueIn n size limit) v
  unfolding more_field_values
  more_field_values_inside v (x, h, e) = subst (AllOf (FieldValueIn n size limit)) (sym e) (seconds_in n size limit (FieldValueIn n size limit) x (all_inside (λ x h. (h.0.0, field_value_inside x.1 h.1)) x h))

  field_values_after_name_inside : (v : Expr × List FieldValue) → In n size limit field_values_after_name v → ExprIn n size limit v.0 × AllOf (FieldValueIn n size limit) v.1
  unfolding field_values_after_name
  field_values_after_name_inside v (x, h, e) = subst (in_pair (ExprIn n size limit) (AllOf (FieldValueIn n size limit))) (sym e) (expression_inside n size limit x.1.0 h.1.0, more_field_values_inside x.1.1.0 h.1.1.0)

  more_parameters_inside : (v : List Expr) → In n size limit more_parameters v → AllOf (ExprIn n size limit) v
  unfolding more_parameters
  more_parameters_inside v (x, h, e) = subst (AllOf (ExprIn n size limit)) (sym e) (more_expressions_inside n size limit x.0 h.0)

  parameters_after_minus_inside : (v : LateTail × List Expr) → In n size limit parameters_after_minus v → LateTailIn n size limit v.0 × AllOf (ExprIn n size limit) v.1
  unfolding parameters_after_minus
  parameters_after_minus_inside v h = (late_expression_inside v.0 h.0, more_parameters_inside v.1 h.1)

  parameters_after_name_inside : (v : NameTail × List Expr) → In n size limit parameters_after_name v → NameTailIn n size limit v.0 × AllOf (ExprIn n size limit) v.1
  unfolding parameters_after_name
  parameters_after_name_inside v h = (expression_after_name_inside v.0 h.0, more_parameters_inside v.1 h.1)

  minus_alone_inside : (v : Option (LateTail × List Expr)) → In n size limit minus_alone v → in_opt (in_pair (LateTailIn n size limit) (AllOf (ExprIn n size limit))) v
  unfolding minus_alone
  minus_alone_inside v (x, h, e) = subst (in_opt (in_pair (LateTailIn n size limit) (AllOf (ExprIn n size limit)))) (sym e) tt

  after_minus_inside : (v : Option (LateTail × List Expr)) → In n size limit after_minus v → in_opt (in_pair (LateTailIn n size limit) (AllOf (ExprIn n size limit))) v
  unfolding after_minus
  after_minus_inside v (inl h) = minus_alone_inside v h
  after_minus_inside v (inr h) = subst (in_opt (in_pair (LateTailIn n size limit) (AllOf (ExprIn n size limit)))) (sym h.2) (parameters_after_minus_inside h.0 h.1)

  after_first_name_inside : (v : (Expr × List FieldValue) ⊎ (NameTail × List Expr)) → In n size limit after_first_name v → in_sum (in_pair (ExprIn n size limit) (AllOf (FieldValueIn n size limit))) (in_pair (NameTailIn n size limit) (AllOf (ExprIn n size limit))) v
  unfolding after_first_name
  after_first_name_inside v (inl h) = subst (in_sum (in_pair (ExprIn n size limit) (AllOf (FieldValueIn n size limit))) (in_pair (NameTailIn n size limit) (AllOf (ExprIn n size limit)))) (sym h.2) (field_values_after_name_inside h.0 h.1)
  after_first_name_inside v (inr h) = subst (in_sum (in_pair (ExprIn n size limit) (AllOf (FieldValueIn n size limit))) (in_pair (NameTailIn n size limit) (AllOf (ExprIn n size limit)))) (sym h.2) (parameters_after_name_inside h.0 h.1)

  minus_in_braces_inside : (v : Braces) → In n size limit minus_in_braces v → BracesIn n size limit v
  unfolding minus_in_braces
  minus_in_braces_inside v (x, h, e) = subst (BracesIn n size limit) (sym e) (minus_in_braces_of_in n size limit x.0.span x.1 (lex_from n size limit x.0 h.0.0) (after_minus_inside x.1 h.1))

  name_in_braces_inside : (v : Braces) → In n size limit name_in_braces v → BracesIn n size limit v
  unfolding name_in_braces
  name_in_braces_inside v (x, h, e) = subst (BracesIn n size limit) (sym e) (name_in_braces_of_in n size limit x.0 x.1 (name_inside n size limit x.0 h.0) (after_first_name_inside x.1 h.1))

  other_in_braces_inside : (v : Braces) → In n size limit other_in_braces v → BracesIn n size limit v
  unfolding other_in_braces
  other_in_braces_inside v (x, h, e) = subst (BracesIn n size limit) (sym e) (other_expression_inside x.0 h.0, more_parameters_inside x.1 h.1)

  empty_braces_inside : (v : Braces) → In n size limit empty_braces v → BracesIn n size limit v
  unfolding empty_braces
  empty_braces_inside v (x, h, e) = subst (BracesIn n size limit) (sym e) tt

  pub braced_in_inside : (v : Braces) → In n size limit braced_in v → BracesIn n size limit v
  unfolding braced_in
  braced_in_inside v (inl h) = empty_braces_inside v h
  braced_in_inside v (inr (inl h)) = minus_in_braces_inside v h
  braced_in_inside v (inr (inr (inl h))) = name_in_braces_inside v h
  braced_in_inside v (inr (inr (inr h))) = other_in_braces_inside v h

  -- ---- Slices

  slice_form_inside : (v : SliceForm) → In n size limit slice_form v → SliceFormIn n size limit v
  unfolding slice_form
  slice_form_inside v (inl h) = subst (SliceFormIn n size limit) (sym h.2) tt
  slice_form_inside v (inr (inl h)) = subst (SliceFormIn n size limit) (sym h.2) tt
  slice_form_inside v (inr (inr h)) = subst (SliceFormIn n size limit) (sym h.2) tt

  slice_rest_inside : (v : Option (SliceForm × Expr)) → In n size limit slice_rest v → in_opt (in_pair (SliceFormIn n size limit) (ExprIn n size limit)) v
  unfolding slice_rest
  slice_rest_inside v h = opt_inside (λ x h. (slice_form_inside x.0 h.0, expression_inside n size limit x.1 h.1)) v h

  slice_inside : (v : Slice) → In n size limit slice v → SliceIn n size limit v
  unfolding slice
  slice_inside v (x, h, e) = subst (SliceIn n size limit) (sym e) (slice_of_in n size limit x.0 x.1 (expression_inside n size limit x.0 h.0) (slice_rest_inside x.1 h.1))

  slices_inside : (v : List Slice) → In n size limit slices v → AllOf (SliceIn n size limit) v
  unfolding slices
  slices_inside v (x, h, e) = subst (AllOf (SliceIn n size limit)) (sym e) (slice_inside x.0 h.0, seconds_in n size limit (SliceIn n size limit) x.1 (all_inside (λ x h. (h.0.0, slice_inside x.1 h.1)) x.1 h.1))

  slices_in_inside : (v : Suffix) → In n size limit slices_in v → SuffixIn n size limit v
  unfolding slices_in
  slices_in_inside v (x, h, e) = subst (SuffixIn n size limit) (sym e) (slices_of_node n size limit x.0 (slices_inside x.0 h.0))

  element_inside : (v : Suffix) → In n size limit element v → SuffixIn n size limit v
  unfolding element
  element_inside v (x, h, e) = subst (SuffixIn n size limit) (sym e) (subst (ExprIn n size limit) (sym h.0.2) (expression_inside n size limit h.0.0.1.0 h.0.1.1.0))

  pub bracketed_in_inside : (v : Suffix) → In n size limit bracketed_in v → SuffixIn n size limit v
  unfolding bracketed_in
  bracketed_in_inside v (inl h) = element_inside v h
  bracketed_in_inside v (inr h) = slices_in_inside v h

  -- ---- Patterns

  sum_rests_inside : (v : Links) → In n size limit sum_rests v → LinksIn n size limit v
  unfolding sum_rests
  sum_rests_inside v (x, h, e) = subst (LinksIn n size limit) (sym e) (append_in (LinkIn n size limit) x.0 (x.1.0 ++ x.1.1) (power_rest_inside n size limit x.0 h.0) (append_in (LinkIn n size limit) x.1.0 x.1.1 (product_rest_inside n size limit x.1.0 h.1.0) (sum_rest_inside n size limit x.1.1 h.1.1)))

  scoped_sum_inside : (v : Expr) → In n size limit scoped_sum v → ExprIn n size limit v
  unfolding scoped_sum
  scoped_sum_inside v h = sum_inside n size limit v h

  range_end_inside : (v : Option Expr) → In n size limit range_end v → in_opt (ExprIn n size limit) v
  unfolding range_end
  range_end_inside v h = opt_inside (λ x h. subst (ExprIn n size limit) (sym h.2) (scoped_sum_inside h.0.1 h.1.1)) v h

  late_sum_inside : (v : SumTail) → In n size limit late_sum v → SumTailIn n size limit v
  unfolding late_sum
  late_sum_inside v h = ((unary_inside n size limit v.0.0 h.0.0, h.0.1), sum_rests_inside v.1 h.1)

  late_range_inside : (v : LateRange) → In n size limit late_range v → LateRangeIn n size limit v
  unfolding late_range
  late_range_inside v h = (late_sum_inside v.0 h.0, range_end_inside v.1 h.1)

  maybe_late_range_inside : (v : Option LateRange) → In n size limit maybe_late_range v → in_opt (LateRangeIn n size limit) v
  unfolding maybe_late_range
  maybe_late_range_inside v h = opt_inside (late_range_inside) v h

  minus_pattern_inside : (v : Pattern) → In n size limit minus_pattern v → PatternIn n size limit v
  unfolding minus_pattern
  minus_pattern_inside v (x, h, e) = subst (PatternIn n size limit) (sym e) (minus_pattern_of_in n size limit x.1.from (whole x.1) x.0.1 (from_in n size limit x.1 h.1) (whole_in n size x.1 h.1) (maybe_late_range_inside x.0.1 h.0.1))

  after_bang_inside : (v : List Pattern ⊎ LateRange) → In n size limit after_bang v → in_sum (AllOf (PatternIn n size limit)) (LateRangeIn n size limit) v
  unfolding after_bang
  after_bang_inside v (inl h) = subst (in_sum (AllOf (PatternIn n size limit)) (LateRangeIn n size limit)) (sym h.2) (set_braces_inside n size limit h.0 h.1)
  after_bang_inside v (inr h) = subst (in_sum (AllOf (PatternIn n size limit)) (LateRangeIn n size limit)) (sym h.2) (late_range_inside h.0 h.1)

  bang_pattern_inside : (v : Pattern) → In n size limit bang_pattern v → PatternIn n size limit v
  unfolding bang_pattern
  bang_pattern_inside v (x, h, e) = subst (PatternIn n size limit) (sym e) (bang_pattern_of_in n size limit x.1.from (whole x.1) x.0.1 (from_in n size limit x.1 h.1) (whole_in n size x.1 h.1) (after_bang_inside x.0.1 h.0.1))

  at_most_inside : (v : Pattern) → In n size limit at_most v → PatternIn n size limit v
  unfolding at_most
  at_most_inside v (x, h, e) = subst (PatternIn n size limit) (sym e) (at_most_node n size limit (whole x.1) x.0.1 (whole_in n size x.1 h.1) (scoped_sum_inside x.0.1 h.0.1))

  at_least_inside : (v : Pattern) → In n size limit at_least v → PatternIn n size limit v
  unfolding at_least
  at_least_inside v (x, h, e) = subst (PatternIn n size limit) (sym e) (at_least_node n size limit (whole x.1) x.0.1 (whole_in n size x.1 h.1) (scoped_sum_inside x.0.1 h.0.1))

  pattern_in_parens_inside : (v : Pattern) → In n size limit pattern_in_parens v → PatternIn n size limit v
  unfolding pattern_in_parens
  pattern_in_parens_inside v (x, h, e) = subst (PatternIn n size limit) (sym e) (pattern_parens_of_in n size limit (whole x.1) x.0.1 (whole_in n size x.1 h.1) h.0.1)

  plain_unary_inside : (v : Expr) → In n size limit plain_unary v → ExprIn n size limit v
  unfolding plain_unary
  plain_unary_inside v (inl h) = prefixed_by_inside n size limit (kind.Not ∷ []) v h
  plain_unary_inside v (inr (inl h)) = post_literal_inside n size limit v h
  plain_unary_inside v (inr (inr h)) = post_named_inside n size limit v h

  plain_chain_inside : (v : Expr) → In n size limit plain_chain v → ExprIn n size limit v
  unfolding plain_chain
  plain_chain_inside v (x, h, e) = subst (ExprIn n size limit) (sym e) (chained_in n size limit x.0.1.from x.0.0 x.1 (from_in n size limit x.0.1 h.0.1) (plain_unary_inside x.0.0 h.0.0) (sum_rests_inside x.1 h.1))

  plain_sum_inside : (v : Expr) → In n size limit plain_sum v → ExprIn n size limit v
  unfolding plain_sum
  plain_sum_inside v h = plain_chain_inside v h

  sum_pattern_inside : (v : Pattern) → In n size limit sum_pattern v → PatternIn n size limit v
  unfolding sum_pattern
  sum_pattern_inside v (x, h, e) = subst (PatternIn n size limit) (sym e) (pattern_of_in n size limit x.0.0 (whole x.1) x.0.1 (plain_sum_inside x.0.0 h.0.0) (whole_in n size x.1 h.1) (range_end_inside x.0.1 h.0.1))

  pattern_inside : (v : Pattern) → In n size limit pattern v → PatternIn n size limit v
  unfolding pattern
  pattern_inside v (inl h) = minus_pattern_inside v h
  pattern_inside v (inr (inl h)) = bang_pattern_inside v h
  pattern_inside v (inr (inr (inl h))) = set_pattern_inside n size limit v h
  pattern_inside v (inr (inr (inr (inl h)))) = mask_pattern_inside n size limit v h
  pattern_inside v (inr (inr (inr (inr (inl h))))) = at_most_inside v h
  pattern_inside v (inr (inr (inr (inr (inr (inl h)))))) = at_least_inside v h
  pattern_inside v (inr (inr (inr (inr (inr (inr (inl h))))))) = pattern_in_parens_inside v h
  pattern_inside v (inr (inr (inr (inr (inr (inr (inr h))))))) = sum_pattern_inside v h

  pub patterns_inside : (v : List Pattern) → In n size limit patterns v → AllOf (PatternIn n size limit) v
  unfolding patterns
  patterns_inside v (x, h, e) = subst (AllOf (PatternIn n size limit)) (sym e) (pattern_inside x.0 h.0, seconds_in n size limit (PatternIn n size limit) x.1 (all_inside (λ x h. (h.0.0, pattern_inside x.1 h.1)) x.1 h.1))

  pub set_parts_inside : (v : List Pattern) → In n size limit set_parts v → AllOf (PatternIn n size limit) v
  unfolding set_parts
  set_parts_inside v (x, h, e) = subst (AllOf (PatternIn n size limit)) (sym e) (patterns_inside x.0 h.0)

  pub pattern_parts_inside : (v : List Pattern) → In n size limit pattern_parts v → AllOf (PatternIn n size limit) v
  unfolding pattern_parts
  pattern_parts_inside v (x, h, e) = subst (AllOf (PatternIn n size limit)) (sym e) (patterns_inside x.0 h.0)

  -- ---- Types

  constraint_end_inside : (v : Option Expr) → In n size limit constraint_end v → in_opt (ExprIn n size limit) v
  unfolding constraint_end
  constraint_end_inside v h = opt_inside (λ x h. subst (ExprIn n size limit) (sym h.2) (expression_inside n size limit h.0.1 h.1.1)) v h

  constraint_part_inside : (v : ConstraintPart) → In n size limit constraint_part v → ConstraintPartIn n size limit v
  unfolding constraint_part
  constraint_part_inside v (x, h, e) = subst (ConstraintPartIn n size limit) (sym e) (constraint_part_of_in n size limit x.0 x.1 (expression_inside n size limit x.0 h.0) (constraint_end_inside x.1 h.1))

  constraint_list_inside : (v : List ConstraintPart) → In n size limit constraint_list v → AllOf (ConstraintPartIn n size limit) v
  unfolding constraint_list
  constraint_list_inside v (x, h, e) = subst (AllOf (ConstraintPartIn n size limit)) (sym e) (constraint_part_inside x.0 h.0, seconds_in n size limit (ConstraintPartIn n size limit) x.1 (all_inside (λ x h. (h.0.0, constraint_part_inside x.1 h.1)) x.1 h.1))

  pub constraint_parts_inside : (v : List ConstraintPart) → In n size limit constraint_parts v → AllOf (ConstraintPartIn n size limit) v
  unfolding constraint_parts
  constraint_parts_inside v (x, h, e) = subst (AllOf (ConstraintPartIn n size limit)) (sym e) (constraint_list_inside x.0 h.0)

  low_end_inside : (v : Option Expr) → In n size limit low_end v → in_opt (ExprIn n size limit) v
  unfolding low_end
  low_end_inside v h = opt_inside (λ x h. subst (ExprIn n size limit) (sym h.2) (expression_inside n size limit h.0.1 h.1.1)) v h

  bit_ends_inside : (v : Expr × Option Expr) → In n size limit bit_ends v → ExprIn n size limit v.0 × in_opt (ExprIn n size limit) v.1
  unfolding bit_ends
  bit_ends_inside v h = subst (in_pair (ExprIn n size limit) (in_opt (ExprIn n size limit))) (sym h.2) (expression_inside n size limit h.0.1.0 h.1.1.0, low_end_inside h.0.1.1.0 h.1.1.1.0)

  bitfield_inside : (v : Bitfield) → In n size limit bitfield v → BitfieldIn n size limit v
  unfolding bitfield
  bitfield_inside v (x, h, e) = subst (BitfieldIn n size limit) (sym e) (bitfield_of_in n size limit x.0.0 x.0.1 x.1 ((bit_ends_inside x.0 h.0).0) ((bit_ends_inside x.0 h.0).1) (name_inside n size limit x.1 h.1))

  bitfield_list_inside : (v : List Bitfield) → In n size limit bitfield_list v → AllOf (BitfieldIn n size limit) v
  unfolding bitfield_list
  bitfield_list_inside v (x, h, e) = subst (AllOf (BitfieldIn n size limit)) (sym e) (bitfield_inside x.0 h.0, seconds_in n size limit (BitfieldIn n size limit) x.1.0 (all_inside (λ x h. (h.0, bitfield_inside x.1 h.1)) x.1.0 h.1.0))

  maybe_bitfield_list_inside : (v : List Bitfield) → In n size limit maybe_bitfield_list v → AllOf (BitfieldIn n size limit) v
  unfolding maybe_bitfield_list
  maybe_bitfield_list_inside v (x, h, e) = subst (AllOf (BitfieldIn n size limit)) (sym e) (or_nil_in (BitfieldIn n size limit) x (opt_inside (bitfield_list_inside) x h))

  pub bitfields_in_inside : (v : List Bitfield) → In n size limit bitfields_in v → AllOf (BitfieldIn n size limit) v
  unfolding bitfields_in
  bitfields_in_inside v (x, h, e) = subst (AllOf (BitfieldIn n size limit)) (sym e) (maybe_bitfield_list_inside x.0 h.0)

  more_types_inside : (v : List TypeExpr) → In n size limit more_types v → AllOf (TypeExprIn n size limit) v
  unfolding more_types
  more_types_inside v (x, h, e) = subst (AllOf (TypeExprIn n size limit)) (sym e) (seconds_in n size limit (TypeExprIn n size limit) x (all_inside (λ x h. (h.0.0, type_expression_inside n size limit x.1 h.1)) x h))

  two_types_inside : (v : List TypeExpr) → In n size limit two_types v → AllOf (TypeExprIn n size limit) v
  unfolding two_types
  two_types_inside v (x, h, e) = subst (AllOf (TypeExprIn n size limit)) (sym e) (behind_in (TypeExprIn n size limit) (x.0 ∷ x.1.1.0 ∷ []) x.1.1.1 (type_expression_inside n size limit x.0 h.0, (type_expression_inside n size limit x.1.1.0 h.1.1.0, tt)) (more_types_inside x.1.1.1 h.1.1.1))

  pub type_parts_inside : (v : List TypeExpr) → In n size limit type_parts v → AllOf (TypeExprIn n size limit) v
  unfolding type_parts
  type_parts_inside v (x, h, e) = subst (AllOf (TypeExprIn n size limit)) (sym e) (two_types_inside x.0 h.0)

  array_length_inside : (v : Expr) → In n size limit array_length v → ExprIn n size limit v
  unfolding array_length
  array_length_inside v h = subst (ExprIn n size limit) (sym h.2) (subst (ExprIn n size limit) (sym h.1.1.0.2) (expression_inside n size limit h.1.1.0.0.1.0 h.1.1.0.1.1.0))

  pub array_parts_inside : (v : Expr × TypeExpr) → In n size limit array_parts v → ExprIn n size limit v.0 × TypeExprIn n size limit v.1
  unfolding array_parts
  array_parts_inside v (x, h, e) = subst (in_pair (ExprIn n size limit) (TypeExprIn n size limit)) (sym e) (array_length_inside x.0 h.0, type_expression_inside n size limit x.1.1 h.1.1)

  pub typed_inside : (v : Option TypeExpr) → In n size limit typed v → in_opt (TypeExprIn n size limit) v
  unfolding typed
  typed_inside v h = opt_inside (λ x h. subst (TypeExprIn n size limit) (sym h.2) (type_expression_inside n size limit h.0.1 h.1.1)) v h
