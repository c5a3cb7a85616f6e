-- Each rule as the steps of the function that reads it.
-- Written by tools/grammar/generate.py from tools/grammar/table.py.
use Rattle.std.proofs.Common.{◌≡◌, ℕ, suc, List, [], ◌∷◌, length, Option, Some, None, Ok, refl}
use Rattle.asl_syn.specs.declared.tree.Expr.{Expr}
use Rattle.asl_syn.specs.declared.tree.Expr.TheVariants as ex
use Rattle.asl_syn.specs.declared.tree.FieldValue.{FieldValue}
use Rattle.asl_syn.specs.declared.tree.TypeExpr.{TypeExpr}
use Rattle.asl_grammar.specs.declared.parts.AfterName.{AfterName}
use Rattle.asl_grammar.specs.declared.parts.SliceForm.{SliceForm}
use Rattle.asl_grammar.specs.declared.parts.SliceForm.TheVariants as sf
use Rattle.asl_syn.specs.declared.token.Span.{Span}
use Rattle.asl_grammar.specs.declared.kinds.Kind.{Kind}
use Rattle.asl_grammar.specs.declared.kinds.Kind.TheVariants as kind
use Rattle.asl_grammar.specs.grammar.Cursor.{Extent, Cursor, starts, ahead, span_to, extent}
use Rattle.asl_grammar.specs.grammar.Combinators.{seq, spanned}
use Rattle.asl_grammar.specs.grammar.Reader.{bind, pick, run_tok, run_opens}
use Rattle.asl_grammar.specs.grammar.Build.{or_nil, behind, chained, as_chained}
use Rattle.asl_grammar.specs.grammar.Rules.{IfParts, name, names, integer_literal, bits_literal, boolean_literal, literal, parenthesized, arguments, braces, braces_called, after_braces, after_name, maybe_after_name, named, dot, bracket, suffix_part, suffix, suffixes, bits_pattern, mask_pattern, set_braces, set_pattern, not_set_pattern, in_pattern, post_literal, post_parenthesized, post_named, prefixed_by, unary, power_rest, power, product_rest, product, sum_rest, sum, comparison, equality_rest, equality, links_by, logic, integer_type, boolean_type, bit_type, named_type, bits_type, tuple_type, array_type, type_expression, constraint_type, as_type, as_rest, as_chain, conditional, open_expression, expression, more_expressions, expressions, maybe_expressions, maybe_expression, other_unary, field_value, more_field_values, minus_in_braces, name_in_braces, other_in_braces, empty_braces, braced_in, slice_form, slice_rest, slice, slices, minus_pattern, bang_pattern, at_most, at_least, pattern_in_parens, plain_unary, sum_pattern, pattern, patterns, constraint_part, constraint_list, bit_ends, bitfield, bitfield_list, more_types, two_types}
use Rattle.asl_parse_expr.specs.private.Code.{reading, symbol, then}
use Rattle.asl_parse_expr.proofs.Loops.{bind_bind, optional_as, optional_plain, run_items, items_are, run_chain, chain_is, run_as_chain, as_chain_are, run_more, more_are, commas_are, run_listed, listed_are}

pub names_is : (d : ℕ) (st : Cursor) → reading d names st ≡ bind (reading d name st) (λ x mid. run_more (reading d name) (length mid.toks) (x ∷ []) mid)
unfolding names
names_is d st = commas_are d name st

pub maybe_after_name_is : {B : Type 0} (d : ℕ) (f : (Option (AfterName × Extent)) → B) (st : Cursor) → then f (reading d maybe_after_name st) ≡ pick (starts (kind.OpenParen ∷ kind.OpenBrace ∷ []) st.toks) (bind (reading d after_name st) (λ x m. Ok (f (Some (x, (extent st.toks m.last))), m))) (Ok (f None, st))
unfolding maybe_after_name after_name arguments after_braces braces_called braces then
maybe_after_name_is d f st = optional_as d (spanned after_name) st (λ x end. Ok (f x, end)) (bind (reading d after_name st) (λ x m. Ok (f (Some (x, (extent st.toks m.last))), m))) (simp bind_bind)

pub suffixes_is : (d : ℕ) (st : Cursor) → reading d suffixes st ≡ run_items (reading d suffix) (kind.Dot ∷ kind.OpenBracket ∷ []) (length st.toks) [] st
unfolding suffixes suffix suffix_part dot bracket
suffixes_is d st = items_are d suffix st

pub in_pattern_is : (d : ℕ) (st : Cursor) → reading d in_pattern st ≡ pick (starts (kind.Bang ∷ []) st.toks) (reading d not_set_pattern st) (pick (starts (kind.OpenBrace ∷ []) st.toks) (reading d set_pattern st) (pick (starts (kind.BitsLiteral ∷ []) st.toks) (reading d bits_pattern st) (reading d mask_pattern st)))
unfolding in_pattern not_set_pattern set_pattern set_braces bits_pattern
in_pattern_is d st = refl

pub unary_is : (d : ℕ) (st : Cursor) → reading d unary st ≡ pick (starts (kind.Minus ∷ kind.Bang ∷ kind.Not ∷ []) st.toks) (reading d (prefixed_by (kind.Minus ∷ kind.Bang ∷ kind.Not ∷ [])) st) (pick (starts (kind.IntegerLiteral ∷ kind.BitsLiteral ∷ kind.True ∷ kind.False ∷ []) st.toks) (reading d post_literal st) (pick (starts (kind.OpenParen ∷ []) st.toks) (reading d post_parenthesized st) (reading d post_named st)))
unfolding unary prefixed_by post_literal literal integer_literal bits_literal boolean_literal post_parenthesized parenthesized
unary_is d st = refl

pub power_rest_is : (d : ℕ) (from : Span) (left : Expr) (st : Cursor) → then (chained from left) (reading d power_rest st) ≡ run_chain (reading d unary) (kind.Caret ∷ []) (kind.Caret ∷ []) from (length st.toks) left st
unfolding power_rest then
power_rest_is d from left st = chain_is d unary (kind.Caret ∷ []) from left st

pub product_rest_is : (d : ℕ) (from : Span) (left : Expr) (st : Cursor) → then (chained from left) (reading d product_rest st) ≡ run_chain (reading d power) (kind.Star ∷ kind.Div ∷ kind.DivRm ∷ kind.Mod ∷ kind.ShiftLeft ∷ kind.ShiftRight ∷ []) (kind.Star ∷ kind.Div ∷ kind.DivRm ∷ kind.Mod ∷ kind.ShiftLeft ∷ kind.ShiftRight ∷ []) from (length st.toks) left st
unfolding product_rest then
product_rest_is d from left st = chain_is d power (kind.Star ∷ kind.Div ∷ kind.DivRm ∷ kind.Mod ∷ kind.ShiftLeft ∷ kind.ShiftRight ∷ []) from left st

pub sum_rest_is : (d : ℕ) (from : Span) (left : Expr) (st : Cursor) → then (chained from left) (reading d sum_rest st) ≡ run_chain (reading d product) (kind.Plus ∷ kind.Minus ∷ kind.BitAnd ∷ kind.BitOr ∷ kind.BitXor ∷ kind.ColonColon ∷ []) (kind.Plus ∷ kind.Minus ∷ kind.BitAnd ∷ kind.BitOr ∷ kind.BitXor ∷ kind.ColonColon ∷ []) from (length st.toks) left st
unfolding sum_rest then
sum_rest_is d from left st = chain_is d product (kind.Plus ∷ kind.Minus ∷ kind.BitAnd ∷ kind.BitOr ∷ kind.BitXor ∷ kind.ColonColon ∷ []) from left st

pub equality_rest_is : (d : ℕ) (from : Span) (left : Expr) (st : Cursor) → then (chained from left) (reading d equality_rest st) ≡ run_chain (reading d comparison) (kind.Equal ∷ kind.NotEqual ∷ []) (kind.Equal ∷ kind.NotEqual ∷ []) from (length st.toks) left st
unfolding equality_rest then
equality_rest_is d from left st = chain_is d comparison (kind.Equal ∷ kind.NotEqual ∷ []) from left st

pub links_by_is : (d : ℕ) (operator : Kind) (from : Span) (left : Expr) (st : Cursor) → then (chained from left) (reading d (links_by operator) st) ≡ run_chain (reading d equality) (operator ∷ []) (operator ∷ []) from (length st.toks) left st
unfolding links_by then
links_by_is d operator from left st = chain_is d equality (operator ∷ []) from left st

pub type_expression_is : (d : ℕ) (st : Cursor) → reading d type_expression st ≡ pick (starts (kind.Integer ∷ []) st.toks) (reading d integer_type st) (pick (starts (kind.Boolean ∷ []) st.toks) (reading d boolean_type st) (pick (starts (kind.Bit ∷ []) st.toks) (reading d bit_type st) (pick (starts (kind.Name ∷ kind.Getter ∷ kind.Setter ∷ []) st.toks) (reading d named_type st) (pick (starts (kind.Bits ∷ []) st.toks) (reading d bits_type st) (pick (starts (kind.OpenParen ∷ []) st.toks) (reading d tuple_type st) (reading d array_type st))))))
unfolding type_expression integer_type boolean_type bit_type named_type bits_type tuple_type
type_expression_is d st = refl

pub as_type_is : (d : ℕ) (st : Cursor) → reading d as_type st ≡ pick (starts (kind.Integer ∷ kind.Boolean ∷ kind.Bit ∷ kind.Name ∷ kind.Getter ∷ kind.Setter ∷ kind.Bits ∷ kind.OpenParen ∷ kind.Array ∷ []) st.toks) (reading d type_expression st) (reading d constraint_type st)
unfolding as_type type_expression integer_type boolean_type bit_type named_type bits_type tuple_type array_type
as_type_is d st = refl

pub as_rest_is : (d : ℕ) (from : Span) (left : Expr) (st : Cursor) → then (as_chained from left) (reading d as_rest st) ≡ run_as_chain (reading d as_type) from (length st.toks) left st
unfolding as_rest then
as_rest_is d from left st = as_chain_are d as_type from left st

pub conditional_is : (d : ℕ) (st : Cursor) → reading d conditional st ≡ bind (run_opens (kind.If ∷ []) st.left st.toks) (λ t m. bind (symbol d IfParts m) (λ x m1. Ok ((ex.Conditional (span_to (ahead st.toks) m1.last) x.0 x.1 x.2), (record m1 { left = suc m1.left }))))
unfolding conditional
conditional_is d st = simp bind_bind

pub more_expressions_is : (d : ℕ) (found : List (Expr)) (st : Cursor) → then (behind found) (reading d more_expressions st) ≡ run_more (reading d expression) (length st.toks) found st
unfolding more_expressions then behind
more_expressions_is d found st = more_are d expression found st

pub maybe_expressions_is : (d : ℕ) (st : Cursor) → reading d maybe_expressions st ≡ pick (starts (kind.If ∷ kind.Minus ∷ kind.Bang ∷ kind.Not ∷ kind.IntegerLiteral ∷ kind.BitsLiteral ∷ kind.True ∷ kind.False ∷ kind.OpenParen ∷ kind.Name ∷ kind.Getter ∷ kind.Setter ∷ []) st.toks) (bind (reading d expressions st) (λ x m. Ok ((or_nil (Some x)), m))) (Ok ((or_nil None), st))
unfolding maybe_expressions expressions expression open_expression conditional as_chain logic equality comparison sum product power unary prefixed_by post_literal literal integer_literal bits_literal boolean_literal post_parenthesized parenthesized post_named named name
maybe_expressions_is d st = optional_as d expressions st (λ x end. Ok ((or_nil) x, end)) (bind (reading d expressions st) (λ x m. Ok ((or_nil (Some x)), m))) (refl)

pub maybe_expression_is : (d : ℕ) (st : Cursor) → reading d maybe_expression st ≡ pick (starts (kind.If ∷ kind.Minus ∷ kind.Bang ∷ kind.Not ∷ kind.IntegerLiteral ∷ kind.BitsLiteral ∷ kind.True ∷ kind.False ∷ kind.OpenParen ∷ kind.Name ∷ kind.Getter ∷ kind.Setter ∷ []) st.toks) (bind (reading d expression st) (λ x m. Ok ((Some x), m))) (Ok (None, st))
unfolding maybe_expression expression open_expression conditional as_chain logic equality comparison sum product power unary prefixed_by post_literal literal integer_literal bits_literal boolean_literal post_parenthesized parenthesized post_named named name
maybe_expression_is d st = optional_plain d expression st (bind (reading d expression st) (λ x m. Ok ((Some x), m))) (refl)

pub other_unary_is : (d : ℕ) (st : Cursor) → reading d other_unary st ≡ pick (starts (kind.Bang ∷ kind.Not ∷ []) st.toks) (reading d (prefixed_by (kind.Bang ∷ kind.Not ∷ [])) st) (pick (starts (kind.IntegerLiteral ∷ kind.BitsLiteral ∷ kind.True ∷ kind.False ∷ []) st.toks) (reading d post_literal st) (reading d post_parenthesized st))
unfolding other_unary prefixed_by post_literal literal integer_literal bits_literal boolean_literal
other_unary_is d st = refl

pub more_field_values_is : (d : ℕ) (found : List (FieldValue)) (st : Cursor) → then (behind found) (reading d more_field_values st) ≡ run_more (reading d field_value) (length st.toks) found st
unfolding more_field_values then behind
more_field_values_is d found st = more_are d field_value found st

pub braced_in_is : (d : ℕ) (st : Cursor) → reading d braced_in st ≡ pick (starts (kind.CloseBrace ∷ []) st.toks) (reading d empty_braces st) (pick (starts (kind.Minus ∷ []) st.toks) (reading d minus_in_braces st) (pick (starts (kind.Name ∷ kind.Getter ∷ kind.Setter ∷ []) st.toks) (reading d name_in_braces st) (reading d other_in_braces st)))
unfolding braced_in empty_braces minus_in_braces name_in_braces name
braced_in_is d st = refl

pub slice_form_is : (d : ℕ) (st : Cursor) → reading d slice_form st ≡ pick (starts (kind.Colon ∷ []) st.toks) (bind (run_tok (kind.Colon ∷ []) st st.toks) (λ t m. Ok (sf.HighLow, m))) (pick (starts (kind.PlusColon ∷ []) st.toks) (bind (run_tok (kind.PlusColon ∷ []) st st.toks) (λ t m. Ok (sf.LowWidth, m))) (bind (run_tok (kind.StarColon ∷ []) st st.toks) (λ t m. Ok (sf.FactorWidth, m))))
unfolding slice_form
slice_form_is d st = refl

pub slice_rest_is : {B : Type 0} (d : ℕ) (f : (Option (SliceForm × Expr)) → B) (st : Cursor) → then f (reading d slice_rest st) ≡ pick (starts (kind.Colon ∷ kind.PlusColon ∷ kind.StarColon ∷ []) st.toks) (bind (reading d slice_form st) (λ x m. bind (reading d expression m) (λ x1 m1. Ok (f (Some (x, x1)), m1)))) (Ok (f None, st))
unfolding slice_rest slice_form then
slice_rest_is d f st = optional_as d (seq slice_form expression) st (λ x end. Ok (f x, end)) (bind (reading d slice_form st) (λ x m. bind (reading d expression m) (λ x1 m1. Ok (f (Some (x, x1)), m1)))) (simp bind_bind)

pub slices_is : (d : ℕ) (st : Cursor) → reading d slices st ≡ bind (reading d slice st) (λ x mid. run_more (reading d slice) (length mid.toks) (x ∷ []) mid)
unfolding slices
slices_is d st = commas_are d slice st

pub plain_unary_is : (d : ℕ) (st : Cursor) → reading d plain_unary st ≡ pick (starts (kind.Not ∷ []) st.toks) (reading d (prefixed_by (kind.Not ∷ [])) st) (pick (starts (kind.IntegerLiteral ∷ kind.BitsLiteral ∷ kind.True ∷ kind.False ∷ []) st.toks) (reading d post_literal st) (reading d post_named st))
unfolding plain_unary prefixed_by post_literal literal integer_literal bits_literal boolean_literal
plain_unary_is d st = refl

pub pattern_is : (d : ℕ) (st : Cursor) → reading d pattern st ≡ pick (starts (kind.Minus ∷ []) st.toks) (reading d minus_pattern st) (pick (starts (kind.Bang ∷ []) st.toks) (reading d bang_pattern st) (pick (starts (kind.OpenBrace ∷ []) st.toks) (reading d set_pattern st) (pick (starts (kind.MaskLiteral ∷ []) st.toks) (reading d mask_pattern st) (pick (starts (kind.LessEqual ∷ []) st.toks) (reading d at_most st) (pick (starts (kind.GreaterEqual ∷ []) st.toks) (reading d at_least st) (pick (starts (kind.OpenParen ∷ []) st.toks) (reading d pattern_in_parens st) (reading d sum_pattern st)))))))
unfolding pattern minus_pattern bang_pattern set_pattern set_braces mask_pattern at_most at_least pattern_in_parens
pattern_is d st = refl

pub patterns_is : (d : ℕ) (st : Cursor) → reading d patterns st ≡ bind (reading d pattern st) (λ x mid. run_more (reading d pattern) (length mid.toks) (x ∷ []) mid)
unfolding patterns
patterns_is d st = commas_are d pattern st

pub constraint_list_is : (d : ℕ) (st : Cursor) → reading d constraint_list st ≡ bind (reading d constraint_part st) (λ x mid. run_more (reading d constraint_part) (length mid.toks) (x ∷ []) mid)
unfolding constraint_list
constraint_list_is d st = commas_are d constraint_part st

pub bitfield_list_is : (d : ℕ) (st : Cursor) → reading d bitfield_list st ≡ bind (reading d bitfield st) (λ x mid. run_listed (reading d bitfield) (kind.Comma ∷ []) (kind.OpenBracket ∷ []) (length mid.toks) (x ∷ []) mid)
unfolding bitfield_list bitfield bit_ends
bitfield_list_is d st = listed_are d bitfield (kind.Comma ∷ []) st

pub more_types_is : (d : ℕ) (found : List (TypeExpr)) (st : Cursor) → then (behind found) (reading d more_types st) ≡ run_more (reading d type_expression) (length st.toks) found st
unfolding more_types then behind
more_types_is d found st = more_are d type_expression found st

pub two_types_is : (d : ℕ) (st : Cursor) → reading d two_types st ≡ bind (reading d type_expression st) (λ x m. bind (run_tok (kind.Comma ∷ []) m m.toks) (λ t m1. bind (reading d type_expression m1) (λ x1 m2. then (behind (x ∷ x1 ∷ [])) (reading d more_types m2))))
unfolding two_types then
two_types_is d st = simp bind_bind
