-- What the rules of expressions, and those of types, patterns and slices that stand in them read has its spans in the file.
-- Written by tools/grammar/generate.py from tools/grammar/table.py.
use Rattle.std.proofs.Common.{ℕ, ◌⊎◌, inl, inr, true, false, List, [], ◌∷◌, Option, sym, subst}
use Rattle.asl_syn.specs.declared.tree.Expr.{Expr}
use Rattle.asl_syn.specs.declared.tree.Expr.TheVariants as ex
use Rattle.asl_syn.specs.declared.tree.FieldValue.{FieldValue}
use Rattle.asl_syn.specs.declared.tree.TypeExpr.{TypeExpr}
use Rattle.asl_syn.specs.declared.tree.ConstraintPart.{ConstraintPart}
use Rattle.asl_syn.specs.declared.tree.Bitfield.{Bitfield}
use Rattle.asl_syn.specs.declared.tree.Pattern.{Pattern}
use Rattle.asl_syn.specs.declared.tree.Suffix.{Suffix}
use Rattle.asl_syn.specs.declared.tree.PlacedSuffix.{PlacedSuffix}
use Rattle.asl_syn.specs.declared.tree.Ident.{Ident}
use Rattle.asl_grammar.specs.declared.parts.AfterName.{AfterName}
use Rattle.asl_grammar.specs.declared.parts.Braces.{Braces}
use Rattle.asl_grammar.specs.declared.kinds.Kind.{Kind}
use Rattle.asl_grammar.specs.declared.kinds.Kind.TheVariants as kind
use Rattle.asl_grammar.specs.grammar.Kinds.{kind_of, same_kind}
use Rattle.asl_grammar.specs.grammar.Operators.{unary_of}
use Rattle.asl_grammar.specs.grammar.Cursor.{Extent, Kinds, whole}
use Rattle.asl_grammar.specs.grammar.Build.{int_of, Link, Links, AsLinks, Posts, parameters_or, empty_or}
use Rattle.asl_grammar.specs.grammar.Combinators.{by}
use Rattle.asl_grammar.specs.grammar.Rules.{name, names, integer_literal, bits_literal, boolean_literal, literal, parenthesized, arguments, braces, braces_called, after_braces, after_name, maybe_after_name, named, field_list, dotted, dot, bracket, suffix_part, suffix, suffixes, bits_pattern, mask_pattern, set_braces, set_pattern, not_set_pattern, in_pattern, in_clause, post_rest, post_literal, post_parenthesized, post_named, prefixed_by, unary, power_rest, power, product_rest, product, sum_rest, sum, comparison_rest, comparison, equality_rest, equality, links_by, some_links_by, logic_links, logic_rest, logic, constraint, maybe_constraint, integer_type, boolean_type, bit_type, named_type, bitfields, maybe_bitfields, bits_type, tuple_type, array_type, type_expression, constraint_type, as_type, as_rest, as_chain, conditional, open_expression, expression, if_parts, rest, more_expressions, expressions, maybe_expressions, maybe_expression, parenthesized_in, arguments_in, width_in}
use Rattle.asl_laws.proofs.basics.Lists.{AllOf}
use Rattle.asl_laws.proofs.reading.Inside.{ExtIn, literal_read, whole_in, in_opt}
use Rattle.asl_laws.proofs.reading.Predicates.{in_pair, in_sum, IdentIn, ExprIn, FieldValueIn, TypeExprIn, ConstraintPartIn, BitfieldIn, PatternIn, SuffixIn, PlacedSuffixIn, BracesIn, AfterNameIn, LinkIn, LinksIn, AsLinksIn, PostsIn, from_in, ident_in, seconds_in, or_nil_in, behind_in}
use Rattle.asl_laws.proofs.reading.Nodes.{int_node, bits_node, bool_node, unary_node, conditional_node, integer_type_node, boolean_type_node, bit_type_node, named_type_node, bits_type_node, tuple_type_node, array_type_node, set_pattern_node, mask_pattern_node, value_pattern_node, fields_of_node}
use Rattle.asl_laws.proofs.reading.Builds.{chained_in, compared_in, as_chained_in, logically_in, joined_in, posted_in, parens_of_in, named_of_in, parameters_or_in, empty_or_in, braced_in as built_braced_in}
use Rattle.asl_laws.proofs.reading.Combining.{all_inside, opt_inside, follows_inside}
use Rattle.asl_laws.proofs.reading.Symbols.{In}

module _ (n size limit : ℕ) where
  -- ---- Names and literals

  pub name_inside : (v : Ident) → In n size limit name v → IdentIn n size limit v
  unfolding name
  name_inside v (x, h, e) = subst (IdentIn n size limit) (sym e) (ident_in n size limit x h.0)

  pub names_inside : (v : List Ident) → In n size limit names v → AllOf (IdentIn n size limit) v
  unfolding names
  names_inside v (x, h, e) = subst (AllOf (IdentIn n size limit)) (sym e) (name_inside x.0 h.0, seconds_in n size limit (IdentIn n size limit) x.1 (all_inside (λ x h. (h.0.0, name_inside x.1 h.1)) x.1 h.1))

  integer_literal_inside : (v : Expr) → In n size limit integer_literal v → ExprIn n size limit v
  unfolding integer_literal
  integer_literal_inside v (x, h, e) = subst (ExprIn n size limit) (sym e) (int_node n size limit x.span (int_of x.kind) h.0)

  bits_literal_inside : (v : Expr) → In n size limit bits_literal v → ExprIn n size limit v
  unfolding bits_literal
  bits_literal_inside v (x, h, e) = subst (ExprIn n size limit) (sym e) (bits_node n size limit x.span x.text h.0 (literal_read n size limit x h))

  boolean_literal_inside : (v : Expr) → In n size limit boolean_literal v → ExprIn n size limit v
  unfolding boolean_literal
  boolean_literal_inside v (x, h, e) = subst (ExprIn n size limit) (sym e) (bool_node n size limit x.span (same_kind (kind_of x.kind) kind.True) h.0)

  literal_inside : (v : Expr) → In n size limit literal v → ExprIn n size limit v
  unfolding literal
  literal_inside v (inl h) = integer_literal_inside v h
  literal_inside v (inr (inl h)) = bits_literal_inside v h
  literal_inside v (inr (inr h)) = boolean_literal_inside v h

  -- ---- Primaries and suffixes

  parenthesized_inside : (v : Expr) → In n size limit parenthesized v → ExprIn n size limit v
  unfolding parenthesized
  parenthesized_inside v (x, h, e) = subst (ExprIn n size limit) (sym e) (parens_of_in n size limit (whole x.1) x.0.1 (whole_in n size x.1 h.1) h.0.1)

  pub arguments_inside : (v : List Expr) → In n size limit arguments v → AllOf (ExprIn n size limit) v
  unfolding arguments
  arguments_inside v (x, h, e) = subst (AllOf (ExprIn n size limit)) (sym e) h.1

  braces_inside : (v : Braces) → In n size limit braces v → BracesIn n size limit v
  unfolding braces
  braces_inside v (x, h, e) = subst (BracesIn n size limit) (sym e) h.1

  braces_called_inside : (v : Option (List FieldValue) ⊎ (List Expr × List Expr)) → In n size limit braces_called v → in_sum (in_opt (AllOf (FieldValueIn n size limit))) (in_pair (AllOf (ExprIn n size limit)) (AllOf (ExprIn n size limit))) v
  unfolding braces_called
  braces_called_inside v h = follows_inside (In n size limit (by parameters_or braces)) (in_opt (AllOf (FieldValueIn n size limit))) (AllOf (ExprIn n size limit)) (AllOf (ExprIn n size limit)) (λ x h. subst (in_sum (in_opt (AllOf (FieldValueIn n size limit))) (AllOf (ExprIn n size limit))) (sym h.2) (parameters_or_in n size limit h.0 (braces_inside h.0 h.1))) (arguments_inside) v h

  after_braces_inside : (v : AfterName) → In n size limit after_braces v → AfterNameIn n size limit v
  unfolding after_braces
  after_braces_inside v (x, h, e) = subst (AfterNameIn n size limit) (sym e) (built_braced_in n size limit x (follows_inside (In n size limit (by empty_or braces_called)) (AfterNameIn n size limit) (AllOf (FieldValueIn n size limit)) (in_opt (AllOf (ExprIn n size limit))) (λ x h. subst (in_sum (AfterNameIn n size limit) (AllOf (FieldValueIn n size limit))) (sym h.2) (empty_or_in n size limit h.0 (braces_called_inside h.0 h.1))) (opt_inside (arguments_inside)) x h))

  after_name_inside : (v : AfterName) → In n size limit after_name v → AfterNameIn n size limit v
  unfolding after_name
  after_name_inside v (inl h) = subst (AfterNameIn n size limit) (sym h.2) (tt, arguments_inside h.0 h.1)
  after_name_inside v (inr h) = after_braces_inside v h

  pub maybe_after_name_inside : (v : Option (AfterName × Extent)) → In n size limit maybe_after_name v → in_opt (in_pair (AfterNameIn n size limit) (ExtIn n size)) v
  unfolding maybe_after_name
  maybe_after_name_inside v h = opt_inside (λ x h. (after_name_inside x.0 h.0, h.1)) v h

  named_inside : (v : Expr) → In n size limit named v → ExprIn n size limit v
  unfolding named
  named_inside v (x, h, e) = subst (ExprIn n size limit) (sym e) (named_of_in n size limit x.0 x.1 (name_inside x.0 h.0) (maybe_after_name_inside x.1 h.1))

  field_list_inside : (v : Suffix) → In n size limit field_list v → SuffixIn n size limit v
  unfolding field_list
  field_list_inside v (x, h, e) = subst (SuffixIn n size limit) (sym e) (fields_of_node n size limit x (subst (AllOf (IdentIn n size limit)) (sym h.2) (names_inside h.0.1.0 h.1.1.0)))

  dotted_inside : (v : Suffix) → In n size limit dotted v → SuffixIn n size limit v
  unfolding dotted
  dotted_inside v (inl h) = subst (SuffixIn n size limit) (sym h.2) (name_inside h.0 h.1)
  dotted_inside v (inr h) = field_list_inside v h

  dot_inside : (v : Suffix) → In n size limit dot v → SuffixIn n size limit v
  unfolding dot
  dot_inside v (x, h, e) = subst (SuffixIn n size limit) (sym e) (dotted_inside x.1 h.1)

  bracket_inside : (v : Suffix) → In n size limit bracket v → SuffixIn n size limit v
  unfolding bracket
  bracket_inside v (x, h, e) = subst (SuffixIn n size limit) (sym e) h.1

  suffix_part_inside : (v : Suffix) → In n size limit suffix_part v → SuffixIn n size limit v
  unfolding suffix_part
  suffix_part_inside v (inl h) = dot_inside v h
  suffix_part_inside v (inr h) = bracket_inside v h

  suffix_inside : (v : PlacedSuffix) → In n size limit suffix v → PlacedSuffixIn n size limit v
  unfolding suffix
  suffix_inside v (x, h, e) = subst (PlacedSuffixIn n size limit) (sym e) (suffix_part_inside x.0 h.0, h.1.ends)

  pub suffixes_inside : (v : List PlacedSuffix) → In n size limit suffixes v → AllOf (PlacedSuffixIn n size limit) v
  unfolding suffixes
  suffixes_inside v h = all_inside (suffix_inside) v h

  bits_pattern_inside : (v : Pattern) → In n size limit bits_pattern v → PatternIn n size limit v
  unfolding bits_pattern
  bits_pattern_inside v (x, h, e) = subst (PatternIn n size limit) (sym e) (value_pattern_node n size limit x.span (ex.Bits x.span x.text) h.0 (bits_node n size limit x.span x.text h.0 (literal_read n size limit x h)))

  pub mask_pattern_inside : (v : Pattern) → In n size limit mask_pattern v → PatternIn n size limit v
  unfolding mask_pattern
  mask_pattern_inside v (x, h, e) = subst (PatternIn n size limit) (sym e) (mask_pattern_node n size limit x.span x.text h.0)

  pub set_braces_inside : (v : List Pattern) → In n size limit set_braces v → AllOf (PatternIn n size limit) v
  unfolding set_braces
  set_braces_inside v (x, h, e) = subst (AllOf (PatternIn n size limit)) (sym e) h.1

  pub set_pattern_inside : (v : Pattern) → In n size limit set_pattern v → PatternIn n size limit v
  unfolding set_pattern
  set_pattern_inside v (x, h, e) = subst (PatternIn n size limit) (sym e) (set_pattern_node n size limit (whole x.1) false x.0 (whole_in n size x.1 h.1) (set_braces_inside x.0 h.0))

  not_set_pattern_inside : (v : Pattern) → In n size limit not_set_pattern v → PatternIn n size limit v
  unfolding not_set_pattern
  not_set_pattern_inside v (x, h, e) = subst (PatternIn n size limit) (sym e) (set_pattern_node n size limit (whole x.1) true x.0.1 (whole_in n size x.1 h.1) (set_braces_inside x.0.1 h.0.1))

  in_pattern_inside : (v : Pattern) → In n size limit in_pattern v → PatternIn n size limit v
  unfolding in_pattern
  in_pattern_inside v (inl h) = not_set_pattern_inside v h
  in_pattern_inside v (inr (inl h)) = set_pattern_inside v h
  in_pattern_inside v (inr (inr (inl h))) = bits_pattern_inside v h
  in_pattern_inside v (inr (inr (inr h))) = mask_pattern_inside v h

  in_clause_inside : (v : Option (Pattern × Extent)) → In n size limit in_clause v → in_opt (in_pair (PatternIn n size limit) (ExtIn n size)) v
  unfolding in_clause
  in_clause_inside v h = opt_inside (λ x h. subst (in_pair (PatternIn n size limit) (ExtIn n size)) (sym h.2) (in_pattern_inside h.0.1.0 h.1.1.0, h.1.1.1)) v h

  pub post_rest_inside : (v : Posts) → In n size limit post_rest v → PostsIn n size limit v
  unfolding post_rest
  post_rest_inside v h = (suffixes_inside v.0 h.0, in_clause_inside v.1 h.1)

  pub post_literal_inside : (v : Expr) → In n size limit post_literal v → ExprIn n size limit v
  unfolding post_literal
  post_literal_inside v (x, h, e) = subst (ExprIn n size limit) (sym e) (posted_in n size limit x.0.1.from x.0.0 x.1 (from_in n size limit x.0.1 h.0.1) (literal_inside x.0.0 h.0.0) (post_rest_inside x.1 h.1))

  pub post_parenthesized_inside : (v : Expr) → In n size limit post_parenthesized v → ExprIn n size limit v
  unfolding post_parenthesized
  post_parenthesized_inside v (x, h, e) = subst (ExprIn n size limit) (sym e) (posted_in n size limit x.0.1.from x.0.0 x.1 (from_in n size limit x.0.1 h.0.1) (parenthesized_inside x.0.0 h.0.0) (post_rest_inside x.1 h.1))

  pub post_named_inside : (v : Expr) → In n size limit post_named v → ExprIn n size limit v
  unfolding post_named
  post_named_inside v (x, h, e) = subst (ExprIn n size limit) (sym e) (posted_in n size limit x.0.1.from x.0.0 x.1 (from_in n size limit x.0.1 h.0.1) (named_inside x.0.0 h.0.0) (post_rest_inside x.1 h.1))

  -- ---- Operators

  pub prefixed_by_inside : (operators : Kinds) (v : Expr) → In n size limit (prefixed_by operators) v → ExprIn n size limit v
  unfolding prefixed_by
  prefixed_by_inside operators v (x, h, e) = subst (ExprIn n size limit) (sym e) (unary_node n size limit (whole x.1) (unary_of (kind_of x.0.0.kind)) x.0.1 (whole_in n size x.1 h.1) h.0.1)

  pub unary_inside : (v : Expr) → In n size limit unary v → ExprIn n size limit v
  unfolding unary
  unary_inside v (inl h) = prefixed_by_inside (kind.Minus ∷ kind.Bang ∷ kind.Not ∷ []) v h
  unary_inside v (inr (inl h)) = post_literal_inside v h
  unary_inside v (inr (inr (inl h))) = post_parenthesized_inside v h
  unary_inside v (inr (inr (inr h))) = post_named_inside v h

  pub power_rest_inside : (v : Links) → In n size limit power_rest v → LinksIn n size limit v
  unfolding power_rest
  power_rest_inside v h = all_inside (λ x h. (h.0, (unary_inside x.1.0 h.1.0, h.1.1))) v h

  power_inside : (v : Expr) → In n size limit power v → ExprIn n size limit v
  unfolding power
  power_inside v (x, h, e) = subst (ExprIn n size limit) (sym e) (chained_in n size limit x.0.1.from x.0.0 x.1 (from_in n size limit x.0.1 h.0.1) (unary_inside x.0.0 h.0.0) (power_rest_inside x.1 h.1))

  pub product_rest_inside : (v : Links) → In n size limit product_rest v → LinksIn n size limit v
  unfolding product_rest
  product_rest_inside v h = all_inside (λ x h. (h.0, (power_inside x.1.0 h.1.0, h.1.1))) v h

  product_inside : (v : Expr) → In n size limit product v → ExprIn n size limit v
  unfolding product
  product_inside v (x, h, e) = subst (ExprIn n size limit) (sym e) (chained_in n size limit x.0.1.from x.0.0 x.1 (from_in n size limit x.0.1 h.0.1) (power_inside x.0.0 h.0.0) (product_rest_inside x.1 h.1))

  pub sum_rest_inside : (v : Links) → In n size limit sum_rest v → LinksIn n size limit v
  unfolding sum_rest
  sum_rest_inside v h = all_inside (λ x h. (h.0, (product_inside x.1.0 h.1.0, h.1.1))) v h

  pub sum_inside : (v : Expr) → In n size limit sum v → ExprIn n size limit v
  unfolding sum
  sum_inside v (x, h, e) = subst (ExprIn n size limit) (sym e) (chained_in n size limit x.0.1.from x.0.0 x.1 (from_in n size limit x.0.1 h.0.1) (product_inside x.0.0 h.0.0) (sum_rest_inside x.1 h.1))

  comparison_rest_inside : (v : Option Link) → In n size limit comparison_rest v → in_opt (LinkIn n size limit) v
  unfolding comparison_rest
  comparison_rest_inside v h = opt_inside (λ x h. (h.0, (sum_inside x.1.0 h.1.0, h.1.1))) v h

  comparison_inside : (v : Expr) → In n size limit comparison v → ExprIn n size limit v
  unfolding comparison
  comparison_inside v (x, h, e) = subst (ExprIn n size limit) (sym e) (compared_in n size limit x.0.1.from x.0.0 x.1 (from_in n size limit x.0.1 h.0.1) (sum_inside x.0.0 h.0.0) (comparison_rest_inside x.1 h.1))

  equality_rest_inside : (v : Links) → In n size limit equality_rest v → LinksIn n size limit v
  unfolding equality_rest
  equality_rest_inside v h = all_inside (λ x h. (h.0, (comparison_inside x.1.0 h.1.0, h.1.1))) v h

  equality_inside : (v : Expr) → In n size limit equality v → ExprIn n size limit v
  unfolding equality
  equality_inside v (x, h, e) = subst (ExprIn n size limit) (sym e) (chained_in n size limit x.0.1.from x.0.0 x.1 (from_in n size limit x.0.1 h.0.1) (comparison_inside x.0.0 h.0.0) (equality_rest_inside x.1 h.1))

  links_by_inside : (operator : Kind) (v : Links) → In n size limit (links_by operator) v → LinksIn n size limit v
  unfolding links_by
  links_by_inside operator v h = all_inside (λ x h. (h.0, (equality_inside x.1.0 h.1.0, h.1.1))) v h

  some_links_by_inside : (operator : Kind) (v : Links) → In n size limit (some_links_by operator) v → LinksIn n size limit v
  unfolding some_links_by
  some_links_by_inside operator v (x, h, e) = subst (LinksIn n size limit) (sym e) ((h.0, (equality_inside x.1.0.0 h.1.0.0, h.1.0.1)), links_by_inside operator x.1.1 h.1.1)

  logic_links_inside : (v : Links) → In n size limit logic_links v → LinksIn n size limit v
  unfolding logic_links
  logic_links_inside v (inl h) = some_links_by_inside kind.AndAnd v h
  logic_links_inside v (inr (inl h)) = some_links_by_inside kind.OrOr v h
  logic_links_inside v (inr (inr (inl h))) = some_links_by_inside kind.Implies v h
  logic_links_inside v (inr (inr (inr h))) = some_links_by_inside kind.Iff v h

  logic_rest_inside : (v : Option Links) → In n size limit logic_rest v → in_opt (LinksIn n size limit) v
  unfolding logic_rest
  logic_rest_inside v h = opt_inside (logic_links_inside) v h

  logic_inside : (v : Expr) → In n size limit logic v → ExprIn n size limit v
  unfolding logic
  logic_inside v (x, h, e) = subst (ExprIn n size limit) (sym e) (logically_in n size limit x.0.1.from x.0.0 x.1 (from_in n size limit x.0.1 h.0.1) (equality_inside x.0.0 h.0.0) (logic_rest_inside x.1 h.1))

  -- ---- Types

  constraint_inside : (v : List ConstraintPart) → In n size limit constraint v → AllOf (ConstraintPartIn n size limit) v
  unfolding constraint
  constraint_inside v (x, h, e) = subst (AllOf (ConstraintPartIn n size limit)) (sym e) h.1

  maybe_constraint_inside : (v : List ConstraintPart) → In n size limit maybe_constraint v → AllOf (ConstraintPartIn n size limit) v
  unfolding maybe_constraint
  maybe_constraint_inside v (x, h, e) = subst (AllOf (ConstraintPartIn n size limit)) (sym e) (or_nil_in (ConstraintPartIn n size limit) x (opt_inside (constraint_inside) x h))

  integer_type_inside : (v : TypeExpr) → In n size limit integer_type v → TypeExprIn n size limit v
  unfolding integer_type
  integer_type_inside v (x, h, e) = subst (TypeExprIn n size limit) (sym e) (integer_type_node n size limit (whole x.1) x.0.1 (whole_in n size x.1 h.1) (maybe_constraint_inside x.0.1 h.0.1))

  boolean_type_inside : (v : TypeExpr) → In n size limit boolean_type v → TypeExprIn n size limit v
  unfolding boolean_type
  boolean_type_inside v (x, h, e) = subst (TypeExprIn n size limit) (sym e) (boolean_type_node n size limit x.span h.0)

  bit_type_inside : (v : TypeExpr) → In n size limit bit_type v → TypeExprIn n size limit v
  unfolding bit_type
  bit_type_inside v (x, h, e) = subst (TypeExprIn n size limit) (sym e) (bit_type_node n size limit x.span h.0)

  named_type_inside : (v : TypeExpr) → In n size limit named_type v → TypeExprIn n size limit v
  unfolding named_type
  named_type_inside v (x, h, e) = subst (TypeExprIn n size limit) (sym e) (named_type_node n size limit x.span x.text h.0)

  bitfields_inside : (v : List Bitfield) → In n size limit bitfields v → AllOf (BitfieldIn n size limit) v
  unfolding bitfields
  bitfields_inside v (x, h, e) = subst (AllOf (BitfieldIn n size limit)) (sym e) h.1

  maybe_bitfields_inside : (v : List Bitfield) → In n size limit maybe_bitfields v → AllOf (BitfieldIn n size limit) v
  unfolding maybe_bitfields
  maybe_bitfields_inside v (x, h, e) = subst (AllOf (BitfieldIn n size limit)) (sym e) (or_nil_in (BitfieldIn n size limit) x (opt_inside (bitfields_inside) x h))

  bits_type_inside : (v : TypeExpr) → In n size limit bits_type v → TypeExprIn n size limit v
  unfolding bits_type
  bits_type_inside v (x, h, e) = subst (TypeExprIn n size limit) (sym e) (bits_type_node n size limit (whole x.1) x.0.1.0.1 x.0.1.1 (whole_in n size x.1 h.1) h.0.1.0.1 (maybe_bitfields_inside x.0.1.1 h.0.1.1))

  tuple_type_inside : (v : TypeExpr) → In n size limit tuple_type v → TypeExprIn n size limit v
  unfolding tuple_type
  tuple_type_inside v (x, h, e) = subst (TypeExprIn n size limit) (sym e) (tuple_type_node n size limit (whole x.1) x.0.1 (whole_in n size x.1 h.1) h.0.1)

  array_type_inside : (v : TypeExpr) → In n size limit array_type v → TypeExprIn n size limit v
  unfolding array_type
  array_type_inside v (x, h, e) = subst (TypeExprIn n size limit) (sym e) (array_type_node n size limit (whole x.1) x.0.1.0 x.0.1.1 (whole_in n size x.1 h.1) h.0.1.0 h.0.1.1)

  pub type_expression_inside : (v : TypeExpr) → In n size limit type_expression v → TypeExprIn n size limit v
  unfolding type_expression
  type_expression_inside v (inl h) = integer_type_inside v h
  type_expression_inside v (inr (inl h)) = boolean_type_inside v h
  type_expression_inside v (inr (inr (inl h))) = bit_type_inside v h
  type_expression_inside v (inr (inr (inr (inl h)))) = named_type_inside v h
  type_expression_inside v (inr (inr (inr (inr (inl h))))) = bits_type_inside v h
  type_expression_inside v (inr (inr (inr (inr (inr (inl h)))))) = tuple_type_inside v h
  type_expression_inside v (inr (inr (inr (inr (inr (inr h)))))) = array_type_inside v h

  constraint_type_inside : (v : TypeExpr) → In n size limit constraint_type v → TypeExprIn n size limit v
  unfolding constraint_type
  constraint_type_inside v (x, h, e) = subst (TypeExprIn n size limit) (sym e) (integer_type_node n size limit (whole x.1) x.0 (whole_in n size x.1 h.1) (constraint_inside x.0 h.0))

  as_type_inside : (v : TypeExpr) → In n size limit as_type v → TypeExprIn n size limit v
  unfolding as_type
  as_type_inside v (inl h) = type_expression_inside v h
  as_type_inside v (inr h) = constraint_type_inside v h

  -- ---- Operators

  as_rest_inside : (v : AsLinks) → In n size limit as_rest v → AsLinksIn n size limit v
  unfolding as_rest
  as_rest_inside v h = all_inside (λ x h. subst (in_pair (TypeExprIn n size limit) (ExtIn n size)) (sym h.2) (as_type_inside h.0.1.0 h.1.1.0, h.1.1.1)) v h

  as_chain_inside : (v : Expr) → In n size limit as_chain v → ExprIn n size limit v
  unfolding as_chain
  as_chain_inside v (x, h, e) = subst (ExprIn n size limit) (sym e) (as_chained_in n size limit x.0.1.from x.0.0 x.1 (from_in n size limit x.0.1 h.0.1) (logic_inside x.0.0 h.0.0) (as_rest_inside x.1 h.1))

  pub conditional_inside : (v : Expr) → In n size limit conditional v → ExprIn n size limit v
  unfolding conditional
  conditional_inside v (x, h, e) = subst (ExprIn n size limit) (sym e) (conditional_node n size limit (whole x.1) x.0.1.0 x.0.1.1 x.0.1.2 (whole_in n size x.1 h.1) h.0.1.0 h.0.1.1 h.0.1.2)

  open_expression_inside : (v : Expr) → In n size limit open_expression v → ExprIn n size limit v
  unfolding open_expression
  open_expression_inside v (inl h) = conditional_inside v h
  open_expression_inside v (inr h) = as_chain_inside v h

  pub expression_inside : (v : Expr) → In n size limit expression v → ExprIn n size limit v
  unfolding expression
  expression_inside v h = open_expression_inside v h

  pub if_parts_inside : (v : Expr × Expr × Expr) → In n size limit if_parts v → ExprIn n size limit v.0 × ExprIn n size limit v.1 × ExprIn n size limit v.2
  unfolding if_parts
  if_parts_inside v (x, h, e) = subst (λ (v : Expr × Expr × Expr). ExprIn n size limit v.0 × ExprIn n size limit v.1 × ExprIn n size limit v.2) (sym e) (open_expression_inside x.0 h.0, open_expression_inside x.1.1.0 h.1.1.0, open_expression_inside x.1.1.1.1 h.1.1.1.1)

  pub rest_inside : (v : Links × AsLinks) → In n size limit rest v → LinksIn n size limit v.0 × AsLinksIn n size limit v.1
  unfolding rest
  rest_inside v (x, h, e) = subst (in_pair (LinksIn n size limit) (AsLinksIn n size limit)) (sym e) (joined_in n size limit x.0 x.1.0 x.1.1.0 x.1.1.1.0 x.1.1.1.1.0 x.1.1.1.1.1.0 (power_rest_inside x.0 h.0) (product_rest_inside x.1.0 h.1.0) (sum_rest_inside x.1.1.0 h.1.1.0) (comparison_rest_inside x.1.1.1.0 h.1.1.1.0) (equality_rest_inside x.1.1.1.1.0 h.1.1.1.1.0) (logic_rest_inside x.1.1.1.1.1.0 h.1.1.1.1.1.0), as_rest_inside x.1.1.1.1.1.1 h.1.1.1.1.1.1)

  pub more_expressions_inside : (v : List Expr) → In n size limit more_expressions v → AllOf (ExprIn n size limit) v
  unfolding more_expressions
  more_expressions_inside v (x, h, e) = subst (AllOf (ExprIn n size limit)) (sym e) (seconds_in n size limit (ExprIn n size limit) x (all_inside (λ x h. (h.0.0, expression_inside x.1 h.1)) x h))

  expressions_inside : (v : List Expr) → In n size limit expressions v → AllOf (ExprIn n size limit) v
  unfolding expressions
  expressions_inside v (x, h, e) = subst (AllOf (ExprIn n size limit)) (sym e) (behind_in (ExprIn n size limit) (x.0 ∷ []) x.1 (expression_inside x.0 h.0, tt) (more_expressions_inside x.1 h.1))

  pub maybe_expressions_inside : (v : List Expr) → In n size limit maybe_expressions v → AllOf (ExprIn n size limit) v
  unfolding maybe_expressions
  maybe_expressions_inside v (x, h, e) = subst (AllOf (ExprIn n size limit)) (sym e) (or_nil_in (ExprIn n size limit) x (opt_inside (expressions_inside) x h))

  pub maybe_expression_inside : (v : Option Expr) → In n size limit maybe_expression v → in_opt (ExprIn n size limit) v
  unfolding maybe_expression
  maybe_expression_inside v h = opt_inside (expression_inside) v h

  pub parenthesized_in_inside : (v : List Expr) → In n size limit parenthesized_in v → AllOf (ExprIn n size limit) v
  unfolding parenthesized_in
  parenthesized_in_inside v (x, h, e) = subst (AllOf (ExprIn n size limit)) (sym e) (expressions_inside x.0 h.0)

  pub arguments_in_inside : (v : List Expr) → In n size limit arguments_in v → AllOf (ExprIn n size limit) v
  unfolding arguments_in
  arguments_in_inside v (x, h, e) = subst (AllOf (ExprIn n size limit)) (sym e) (maybe_expressions_inside x.0 h.0)

  pub width_in_inside : (v : Expr) → In n size limit width_in v → ExprIn n size limit v
  unfolding width_in
  width_in_inside v (x, h, e) = subst (ExprIn n size limit) (sym e) (expression_inside x.0 h.0)
