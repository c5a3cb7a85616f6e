-- Texts with their trees or their faults, by computing.
-- Written by tools/grammar/generate.py from tools/grammar/samples.py.
use Rattle.std.proofs.Common.{◌≡◌, ℕ, ◌-◌, true, false, [], ◌∷◌, Some, None, Ok, Err, refl}
use Rattle.std.specs.Prelude.{codes}
use Rattle.asl_syn.specs.declared.token.Mark.TheVariants as mk
use Rattle.asl_syn.specs.declared.token.Word.TheVariants as wd
use Rattle.asl_syn.specs.declared.token.TokenKind.TheVariants as tk
use Rattle.asl_syn.specs.declared.token.TokenKind.{TokenKind}
use Rattle.asl_syn.specs.declared.token.Token.{Token}
use Rattle.asl_syn.specs.declared.tree.UnaryOperator.TheVariants as un
use Rattle.asl_syn.specs.declared.tree.BinaryOperator.TheVariants as bin
use Rattle.asl_syn.specs.declared.tree.Expr.TheVariants as ex
use Rattle.asl_syn.specs.declared.tree.Slice.TheVariants as sl
use Rattle.asl_syn.specs.declared.tree.TypeExpr.TheVariants as ty
use Rattle.asl_syn.specs.declared.tree.Pattern.TheVariants as pa
use Rattle.asl_syn.specs.declared.tree.Suffix.TheVariants as su
use Rattle.asl_syn.specs.declared.tree.Target.TheVariants as tg
use Rattle.asl_syn.specs.declared.tree.Stmt.TheVariants as stm
use Rattle.asl_syn.specs.declared.tree.TypeDef.TheVariants as td
use Rattle.asl_syn.specs.declared.tree.StorageKind.TheVariants as sk
use Rattle.asl_syn.specs.declared.tree.Qualifier.TheVariants as ql
use Rattle.asl_syn.specs.declared.read.ReadStmt.TheVariants as rs
use Rattle.asl_syn.specs.declared.read.BodyWord.TheVariants as bw
use Rattle.asl_syn.specs.declared.read.ReadDecl.TheVariants as rd
use Rattle.asl_syn.specs.declared.token.Span.{Span}
use Rattle.asl_grammar.specs.declared.error.ParseError.TheVariants.{Syntax, TooDeep}
use Rattle.asl_grammar.specs.grammar.Cursor.{end_of}
use Rattle.asl_grammar.specs.grammar.Build.{behind}
use Rattle.asl_grammar.specs.grammar.Language.{outcome, without_end}
use Rattle.asl_grammar.specs.grammar.Faults.{lexemes}
use Rattle.asl_grammar.specs.grammar.Rules.{name, names, integer_literal, bits_literal, boolean_literal, literal, parenthesized, arguments, braces, braces_called, after_braces, after_name, maybe_after_name, named, field_list, dotted, dot, bracket, suffix_part, suffix, suffixes, bits_pattern, mask_pattern, set_braces, set_pattern, not_set_pattern, in_pattern, in_clause, post_rest, post_literal, post_parenthesized, post_named, prefixed_by, unary, power_rest, power, product_rest, product, sum_rest, sum, comparison_rest, comparison, equality_rest, equality, links_by, some_links_by, logic_links, logic_rest, logic, constraint, maybe_constraint, integer_type, boolean_type, bit_type, named_type, bitfields, maybe_bitfields, bits_type, tuple_type, array_type, type_expression, constraint_type, as_type, as_rest, as_chain, conditional, open_expression, expression, if_parts, rest, more_expressions, expressions, maybe_expressions, maybe_expression, parenthesized_in, arguments_in, width_in, late_expression, expression_after_name, other_unary, other_chain, other_open_expression, other_expression, field_value, more_field_values, field_values_after_name, more_parameters, parameters_after_minus, parameters_after_name, minus_alone, after_minus, after_first_name, minus_in_braces, name_in_braces, other_in_braces, empty_braces, braced_in, slice_form, slice_rest, slice, slices, slices_in, element, bracketed_in, sum_rests, scoped_sum, range_end, late_sum, late_range, maybe_late_range, minus_pattern, after_bang, bang_pattern, at_most, at_least, pattern_in_parens, plain_unary, plain_chain, plain_sum, sum_pattern, pattern, patterns, set_parts, pattern_parts, constraint_end, constraint_part, constraint_list, constraint_parts, low_end, bit_ends, bitfield, bitfield_list, maybe_bitfield_list, bitfields_in, more_types, two_types, type_parts, array_length, array_parts, typed, pass, unreachable, assert, bind_name, no_binder, binder, more_binders, two_binders, several, other_bind, local_bind, value, let_statement, names_typed, no_value, maybe_value, typed_value, var_rest, var_names, var_other, var_tail, var_statement, no_target, targets, other_target, assignment, return_statement, throw_statement, print_kind, verbatim, print_item, print_items, maybe_print_items, print_arguments, print_statement, simple_statement, parameters, maybe_parameters, call_arguments, call_ends, target_suffixes, assigned, after_call, called, name_statement_rest, name_statement, if_statement, case_statement, for_statement, while_statement, repeat_statement, try_statement, statement, block, loop_limit, otherwise, maybe_otherwise, place, target, more_targets, two_targets, target_parts, else_if, else_ifs, else_block, maybe_else, if_body, where_clause, alternative, alternatives, case_body, direction, for_body, while_body, repeat_body, caught_type, catcher, catchers, some_catchers, handlers, try_body, formal, formal_list, maybe_formals, formals, param, param_list, maybe_param_list, params, maybe_params, label_list, label_braces, labels, no_members, listed_members, some_members, maybe_some_members, member_braces, members, record_type, exception_type, type_definition, supertype, type_decl, fixed_kind, fixed_storage, typed_var, global_rest, global_var, result_type, recursion_limit, written_qualifier, qualifier, body_word, maybe_body_word, function, getter, setter, accessor, behind_word, bodied, declaration, program}

abbrev at : ℕ → ℕ → Span
at from to = record { file = 0; start = from; len = to - from }

abbrev token : TokenKind → ℕ → ℕ → Token
token kind from to = record { kind = kind; span = at from to }

sample0 : without_end (outcome 20 (lexemes (codes "constant C = (-1 + y.f) * 2;") (token (tk.Word wd.Constant) 0 8 ∷ token (tk.Name) 9 10 ∷ token (tk.Mark mk.Assign) 11 12 ∷ token (tk.Mark mk.OpenParen) 13 14 ∷ token (tk.Mark mk.Minus) 14 15 ∷ token (tk.Int 1) 15 16 ∷ token (tk.Mark mk.Plus) 17 18 ∷ token (tk.Name) 19 20 ∷ token (tk.Mark mk.Dot) 20 21 ∷ token (tk.Name) 21 22 ∷ token (tk.Mark mk.CloseParen) 22 23 ∷ token (tk.Mark mk.Star) 24 25 ∷ token (tk.Int 2) 26 27 ∷ token (tk.Mark mk.Semicolon) 27 28 ∷ []))) ≡ Ok (rd.Storage (record { span = (at 0 28); kind = sk.Constant; name = (record { span = at 9 10; text = codes "C" }); ty = None; init = Some (ex.Binary (at 13 27) bin.Multiply (ex.Binary (at 14 22) bin.Add (ex.Unary (at 14 16) un.Negate (ex.Int (at 15 16) 1)) (ex.Field (at 19 22) (ex.Name (at 19 20) (codes "y")) (record { span = at 21 22; text = codes "f" }))) (ex.Int (at 26 27) 2)) }) ∷ [])
unfolding name names integer_literal bits_literal boolean_literal literal parenthesized arguments braces braces_called after_braces after_name maybe_after_name named field_list dotted dot bracket suffix_part suffix suffixes bits_pattern mask_pattern set_braces set_pattern not_set_pattern in_pattern in_clause post_rest post_literal post_parenthesized post_named prefixed_by unary power_rest power product_rest product sum_rest sum comparison_rest comparison equality_rest equality links_by some_links_by logic_links logic_rest logic constraint maybe_constraint integer_type boolean_type bit_type named_type bitfields maybe_bitfields bits_type tuple_type array_type type_expression constraint_type as_type as_rest as_chain conditional open_expression expression if_parts rest more_expressions expressions maybe_expressions maybe_expression parenthesized_in arguments_in width_in late_expression expression_after_name other_unary other_chain other_open_expression other_expression field_value more_field_values field_values_after_name more_parameters parameters_after_minus parameters_after_name minus_alone after_minus after_first_name minus_in_braces name_in_braces other_in_braces empty_braces braced_in slice_form slice_rest slice slices slices_in element bracketed_in sum_rests scoped_sum range_end late_sum late_range maybe_late_range minus_pattern after_bang bang_pattern at_most at_least pattern_in_parens plain_unary plain_chain plain_sum sum_pattern pattern patterns set_parts pattern_parts constraint_end constraint_part constraint_list constraint_parts low_end bit_ends bitfield bitfield_list maybe_bitfield_list bitfields_in more_types two_types type_parts array_length array_parts typed pass unreachable assert bind_name no_binder binder more_binders two_binders several other_bind local_bind value let_statement names_typed no_value maybe_value typed_value var_rest var_names var_other var_tail var_statement no_target targets other_target assignment return_statement throw_statement print_kind verbatim print_item print_items maybe_print_items print_arguments print_statement simple_statement parameters maybe_parameters call_arguments call_ends target_suffixes assigned after_call called name_statement_rest name_statement if_statement case_statement for_statement while_statement repeat_statement try_statement statement block loop_limit otherwise maybe_otherwise place target more_targets two_targets target_parts else_if else_ifs else_block maybe_else if_body where_clause alternative alternatives case_body direction for_body while_body repeat_body caught_type catcher catchers some_catchers handlers try_body formal formal_list maybe_formals formals param param_list maybe_param_list params maybe_params label_list label_braces labels no_members listed_members some_members maybe_some_members member_braces members record_type exception_type type_definition supertype type_decl fixed_kind fixed_storage typed_var global_rest global_var result_type recursion_limit written_qualifier qualifier body_word maybe_body_word function getter setter accessor behind_word bodied declaration program end_of behind
sample0 = refl

sample1 : without_end (outcome 20 (lexemes (codes "let x = R{-};") (token (tk.Word wd.Let) 0 3 ∷ token (tk.Name) 4 5 ∷ token (tk.Mark mk.Assign) 6 7 ∷ token (tk.Name) 8 9 ∷ token (tk.Mark mk.OpenBrace) 9 10 ∷ token (tk.Mark mk.Minus) 10 11 ∷ token (tk.Mark mk.CloseBrace) 11 12 ∷ token (tk.Mark mk.Semicolon) 12 13 ∷ []))) ≡ Ok (rd.Storage (record { span = (at 0 13); kind = sk.Let; name = (record { span = at 4 5; text = codes "x" }); ty = None; init = Some (ex.Construct (at 8 12) (record { span = at 8 9; text = codes "R" }) []) }) ∷ [])
unfolding name names integer_literal bits_literal boolean_literal literal parenthesized arguments braces braces_called after_braces after_name maybe_after_name named field_list dotted dot bracket suffix_part suffix suffixes bits_pattern mask_pattern set_braces set_pattern not_set_pattern in_pattern in_clause post_rest post_literal post_parenthesized post_named prefixed_by unary power_rest power product_rest product sum_rest sum comparison_rest comparison equality_rest equality links_by some_links_by logic_links logic_rest logic constraint maybe_constraint integer_type boolean_type bit_type named_type bitfields maybe_bitfields bits_type tuple_type array_type type_expression constraint_type as_type as_rest as_chain conditional open_expression expression if_parts rest more_expressions expressions maybe_expressions maybe_expression parenthesized_in arguments_in width_in late_expression expression_after_name other_unary other_chain other_open_expression other_expression field_value more_field_values field_values_after_name more_parameters parameters_after_minus parameters_after_name minus_alone after_minus after_first_name minus_in_braces name_in_braces other_in_braces empty_braces braced_in slice_form slice_rest slice slices slices_in element bracketed_in sum_rests scoped_sum range_end late_sum late_range maybe_late_range minus_pattern after_bang bang_pattern at_most at_least pattern_in_parens plain_unary plain_chain plain_sum sum_pattern pattern patterns set_parts pattern_parts constraint_end constraint_part constraint_list constraint_parts low_end bit_ends bitfield bitfield_list maybe_bitfield_list bitfields_in more_types two_types type_parts array_length array_parts typed pass unreachable assert bind_name no_binder binder more_binders two_binders several other_bind local_bind value let_statement names_typed no_value maybe_value typed_value var_rest var_names var_other var_tail var_statement no_target targets other_target assignment return_statement throw_statement print_kind verbatim print_item print_items maybe_print_items print_arguments print_statement simple_statement parameters maybe_parameters call_arguments call_ends target_suffixes assigned after_call called name_statement_rest name_statement if_statement case_statement for_statement while_statement repeat_statement try_statement statement block loop_limit otherwise maybe_otherwise place target more_targets two_targets target_parts else_if else_ifs else_block maybe_else if_body where_clause alternative alternatives case_body direction for_body while_body repeat_body caught_type catcher catchers some_catchers handlers try_body formal formal_list maybe_formals formals param param_list maybe_param_list params maybe_params label_list label_braces labels no_members listed_members some_members maybe_some_members member_braces members record_type exception_type type_definition supertype type_decl fixed_kind fixed_storage typed_var global_rest global_var result_type recursion_limit written_qualifier qualifier body_word maybe_body_word function getter setter accessor behind_word bodied declaration program end_of behind
sample1 = refl

sample2 : without_end (outcome 20 (lexemes (codes "let x = f{-a, 2}(b) IN {-, -1 .. 2, !{3}};") (token (tk.Word wd.Let) 0 3 ∷ token (tk.Name) 4 5 ∷ token (tk.Mark mk.Assign) 6 7 ∷ token (tk.Name) 8 9 ∷ token (tk.Mark mk.OpenBrace) 9 10 ∷ token (tk.Mark mk.Minus) 10 11 ∷ token (tk.Name) 11 12 ∷ token (tk.Mark mk.Comma) 12 13 ∷ token (tk.Int 2) 14 15 ∷ token (tk.Mark mk.CloseBrace) 15 16 ∷ token (tk.Mark mk.OpenParen) 16 17 ∷ token (tk.Name) 17 18 ∷ token (tk.Mark mk.CloseParen) 18 19 ∷ token (tk.Word wd.In) 20 22 ∷ token (tk.Mark mk.OpenBrace) 23 24 ∷ token (tk.Mark mk.Minus) 24 25 ∷ token (tk.Mark mk.Comma) 25 26 ∷ token (tk.Mark mk.Minus) 27 28 ∷ token (tk.Int 1) 28 29 ∷ token (tk.Mark mk.DotDot) 30 32 ∷ token (tk.Int 2) 33 34 ∷ token (tk.Mark mk.Comma) 34 35 ∷ token (tk.Mark mk.Bang) 36 37 ∷ token (tk.Mark mk.OpenBrace) 37 38 ∷ token (tk.Int 3) 38 39 ∷ token (tk.Mark mk.CloseBrace) 39 40 ∷ token (tk.Mark mk.CloseBrace) 40 41 ∷ token (tk.Mark mk.Semicolon) 41 42 ∷ []))) ≡ Ok (rd.Storage (record { span = (at 0 42); kind = sk.Let; name = (record { span = at 4 5; text = codes "x" }); ty = None; init = Some (ex.In (at 8 41) (ex.Call (at 8 19) (record { span = at 8 9; text = codes "f" }) (ex.Unary (at 10 12) un.Negate (ex.Name (at 11 12) (codes "a")) ∷ ex.Int (at 14 15) 2 ∷ []) (ex.Name (at 17 18) (codes "b") ∷ [])) (pa.SetPattern (at 23 41) false (pa.AnyPattern (at 24 25) ∷ pa.RangePattern (at 27 34) (ex.Unary (at 27 29) un.Negate (ex.Int (at 28 29) 1)) (ex.Int (at 33 34) 2) ∷ pa.SetPattern (at 36 40) true (pa.ValuePattern (at 38 39) (ex.Int (at 38 39) 3) ∷ []) ∷ []))) }) ∷ [])
unfolding name names integer_literal bits_literal boolean_literal literal parenthesized arguments braces braces_called after_braces after_name maybe_after_name named field_list dotted dot bracket suffix_part suffix suffixes bits_pattern mask_pattern set_braces set_pattern not_set_pattern in_pattern in_clause post_rest post_literal post_parenthesized post_named prefixed_by unary power_rest power product_rest product sum_rest sum comparison_rest comparison equality_rest equality links_by some_links_by logic_links logic_rest logic constraint maybe_constraint integer_type boolean_type bit_type named_type bitfields maybe_bitfields bits_type tuple_type array_type type_expression constraint_type as_type as_rest as_chain conditional open_expression expression if_parts rest more_expressions expressions maybe_expressions maybe_expression parenthesized_in arguments_in width_in late_expression expression_after_name other_unary other_chain other_open_expression other_expression field_value more_field_values field_values_after_name more_parameters parameters_after_minus parameters_after_name minus_alone after_minus after_first_name minus_in_braces name_in_braces other_in_braces empty_braces braced_in slice_form slice_rest slice slices slices_in element bracketed_in sum_rests scoped_sum range_end late_sum late_range maybe_late_range minus_pattern after_bang bang_pattern at_most at_least pattern_in_parens plain_unary plain_chain plain_sum sum_pattern pattern patterns set_parts pattern_parts constraint_end constraint_part constraint_list constraint_parts low_end bit_ends bitfield bitfield_list maybe_bitfield_list bitfields_in more_types two_types type_parts array_length array_parts typed pass unreachable assert bind_name no_binder binder more_binders two_binders several other_bind local_bind value let_statement names_typed no_value maybe_value typed_value var_rest var_names var_other var_tail var_statement no_target targets other_target assignment return_statement throw_statement print_kind verbatim print_item print_items maybe_print_items print_arguments print_statement simple_statement parameters maybe_parameters call_arguments call_ends target_suffixes assigned after_call called name_statement_rest name_statement if_statement case_statement for_statement while_statement repeat_statement try_statement statement block loop_limit otherwise maybe_otherwise place target more_targets two_targets target_parts else_if else_ifs else_block maybe_else if_body where_clause alternative alternatives case_body direction for_body while_body repeat_body caught_type catcher catchers some_catchers handlers try_body formal formal_list maybe_formals formals param param_list maybe_param_list params maybe_params label_list label_braces labels no_members listed_members some_members maybe_some_members member_braces members record_type exception_type type_definition supertype type_decl fixed_kind fixed_storage typed_var global_rest global_var result_type recursion_limit written_qualifier qualifier body_word maybe_body_word function getter setter accessor behind_word bodied declaration program end_of behind
sample2 = refl

sample3 : without_end (outcome 20 (lexemes (codes "type E of enumeration {A, B,};") (token (tk.Word wd.TypeWord) 0 4 ∷ token (tk.Name) 5 6 ∷ token (tk.Word wd.Of) 7 9 ∷ token (tk.Word wd.Enumeration) 10 21 ∷ token (tk.Mark mk.OpenBrace) 22 23 ∷ token (tk.Name) 23 24 ∷ token (tk.Mark mk.Comma) 24 25 ∷ token (tk.Name) 26 27 ∷ token (tk.Mark mk.Comma) 27 28 ∷ token (tk.Mark mk.CloseBrace) 28 29 ∷ token (tk.Mark mk.Semicolon) 29 30 ∷ []))) ≡ Ok (rd.Type (record { span = (at 0 30); name = (record { span = at 5 6; text = codes "E" }); def = td.Labels (at 10 29) ((record { span = at 23 24; text = codes "A" }) ∷ (record { span = at 26 27; text = codes "B" }) ∷ []); supertype = None }) ∷ [])
unfolding name names integer_literal bits_literal boolean_literal literal parenthesized arguments braces braces_called after_braces after_name maybe_after_name named field_list dotted dot bracket suffix_part suffix suffixes bits_pattern mask_pattern set_braces set_pattern not_set_pattern in_pattern in_clause post_rest post_literal post_parenthesized post_named prefixed_by unary power_rest power product_rest product sum_rest sum comparison_rest comparison equality_rest equality links_by some_links_by logic_links logic_rest logic constraint maybe_constraint integer_type boolean_type bit_type named_type bitfields maybe_bitfields bits_type tuple_type array_type type_expression constraint_type as_type as_rest as_chain conditional open_expression expression if_parts rest more_expressions expressions maybe_expressions maybe_expression parenthesized_in arguments_in width_in late_expression expression_after_name other_unary other_chain other_open_expression other_expression field_value more_field_values field_values_after_name more_parameters parameters_after_minus parameters_after_name minus_alone after_minus after_first_name minus_in_braces name_in_braces other_in_braces empty_braces braced_in slice_form slice_rest slice slices slices_in element bracketed_in sum_rests scoped_sum range_end late_sum late_range maybe_late_range minus_pattern after_bang bang_pattern at_most at_least pattern_in_parens plain_unary plain_chain plain_sum sum_pattern pattern patterns set_parts pattern_parts constraint_end constraint_part constraint_list constraint_parts low_end bit_ends bitfield bitfield_list maybe_bitfield_list bitfields_in more_types two_types type_parts array_length array_parts typed pass unreachable assert bind_name no_binder binder more_binders two_binders several other_bind local_bind value let_statement names_typed no_value maybe_value typed_value var_rest var_names var_other var_tail var_statement no_target targets other_target assignment return_statement throw_statement print_kind verbatim print_item print_items maybe_print_items print_arguments print_statement simple_statement parameters maybe_parameters call_arguments call_ends target_suffixes assigned after_call called name_statement_rest name_statement if_statement case_statement for_statement while_statement repeat_statement try_statement statement block loop_limit otherwise maybe_otherwise place target more_targets two_targets target_parts else_if else_ifs else_block maybe_else if_body where_clause alternative alternatives case_body direction for_body while_body repeat_body caught_type catcher catchers some_catchers handlers try_body formal formal_list maybe_formals formals param param_list maybe_param_list params maybe_params label_list label_braces labels no_members listed_members some_members maybe_some_members member_braces members record_type exception_type type_definition supertype type_decl fixed_kind fixed_storage typed_var global_rest global_var result_type recursion_limit written_qualifier qualifier body_word maybe_body_word function getter setter accessor behind_word bodied declaration program end_of behind
sample3 = refl

sample4 : without_end (outcome 20 (lexemes (codes "func f() begin a[1].b = if p then q else r; end;") (token (tk.Word wd.Func) 0 4 ∷ token (tk.Name) 5 6 ∷ token (tk.Mark mk.OpenParen) 6 7 ∷ token (tk.Mark mk.CloseParen) 7 8 ∷ token (tk.Word wd.Begin) 9 14 ∷ token (tk.Name) 15 16 ∷ token (tk.Mark mk.OpenBracket) 16 17 ∷ token (tk.Int 1) 17 18 ∷ token (tk.Mark mk.CloseBracket) 18 19 ∷ token (tk.Mark mk.Dot) 19 20 ∷ token (tk.Name) 20 21 ∷ token (tk.Mark mk.Assign) 22 23 ∷ token (tk.Word wd.If) 24 26 ∷ token (tk.Name) 27 28 ∷ token (tk.Word wd.Then) 29 33 ∷ token (tk.Name) 34 35 ∷ token (tk.Word wd.Else) 36 40 ∷ token (tk.Name) 41 42 ∷ token (tk.Mark mk.Semicolon) 42 43 ∷ token (tk.Word wd.End) 44 47 ∷ token (tk.Mark mk.Semicolon) 47 48 ∷ []))) ≡ Ok (rd.Func (record { span = (at 0 48); word = bw.NoWord; qualifier = ql.Unqualified; name = (record { span = at 5 6; text = codes "f" }); params = []; formals = []; result = None; limit = None; body = rs.Simple (stm.Assign (at 15 43) (tg.Place (at 15 21) (record { span = at 15 16; text = codes "a" }) (record { end = 19; suffix = su.SlicesOf (sl.BitAt (ex.Int (at 17 18) 1) ∷ []) } ∷ record { end = 21; suffix = su.FieldOf (record { span = at 20 21; text = codes "b" }) } ∷ [])) (ex.Conditional (at 24 42) (ex.Name (at 27 28) (codes "p")) (ex.Name (at 34 35) (codes "q")) (ex.Name (at 41 42) (codes "r")))) ∷ [] }) ∷ [])
unfolding name names integer_literal bits_literal boolean_literal literal parenthesized arguments braces braces_called after_braces after_name maybe_after_name named field_list dotted dot bracket suffix_part suffix suffixes bits_pattern mask_pattern set_braces set_pattern not_set_pattern in_pattern in_clause post_rest post_literal post_parenthesized post_named prefixed_by unary power_rest power product_rest product sum_rest sum comparison_rest comparison equality_rest equality links_by some_links_by logic_links logic_rest logic constraint maybe_constraint integer_type boolean_type bit_type named_type bitfields maybe_bitfields bits_type tuple_type array_type type_expression constraint_type as_type as_rest as_chain conditional open_expression expression if_parts rest more_expressions expressions maybe_expressions maybe_expression parenthesized_in arguments_in width_in late_expression expression_after_name other_unary other_chain other_open_expression other_expression field_value more_field_values field_values_after_name more_parameters parameters_after_minus parameters_after_name minus_alone after_minus after_first_name minus_in_braces name_in_braces other_in_braces empty_braces braced_in slice_form slice_rest slice slices slices_in element bracketed_in sum_rests scoped_sum range_end late_sum late_range maybe_late_range minus_pattern after_bang bang_pattern at_most at_least pattern_in_parens plain_unary plain_chain plain_sum sum_pattern pattern patterns set_parts pattern_parts constraint_end constraint_part constraint_list constraint_parts low_end bit_ends bitfield bitfield_list maybe_bitfield_list bitfields_in more_types two_types type_parts array_length array_parts typed pass unreachable assert bind_name no_binder binder more_binders two_binders several other_bind local_bind value let_statement names_typed no_value maybe_value typed_value var_rest var_names var_other var_tail var_statement no_target targets other_target assignment return_statement throw_statement print_kind verbatim print_item print_items maybe_print_items print_arguments print_statement simple_statement parameters maybe_parameters call_arguments call_ends target_suffixes assigned after_call called name_statement_rest name_statement if_statement case_statement for_statement while_statement repeat_statement try_statement statement block loop_limit otherwise maybe_otherwise place target more_targets two_targets target_parts else_if else_ifs else_block maybe_else if_body where_clause alternative alternatives case_body direction for_body while_body repeat_body caught_type catcher catchers some_catchers handlers try_body formal formal_list maybe_formals formals param param_list maybe_param_list params maybe_params label_list label_braces labels no_members listed_members some_members maybe_some_members member_braces members record_type exception_type type_definition supertype type_decl fixed_kind fixed_storage typed_var global_rest global_var result_type recursion_limit written_qualifier qualifier body_word maybe_body_word function getter setter accessor behind_word bodied declaration program end_of behind
sample4 = refl

sample5 : without_end (outcome 20 (lexemes (codes "func f() begin g{1}(a)[2].b = c; g(a) = c; getter(); end;") (token (tk.Word wd.Func) 0 4 ∷ token (tk.Name) 5 6 ∷ token (tk.Mark mk.OpenParen) 6 7 ∷ token (tk.Mark mk.CloseParen) 7 8 ∷ token (tk.Word wd.Begin) 9 14 ∷ token (tk.Name) 15 16 ∷ token (tk.Mark mk.OpenBrace) 16 17 ∷ token (tk.Int 1) 17 18 ∷ token (tk.Mark mk.CloseBrace) 18 19 ∷ token (tk.Mark mk.OpenParen) 19 20 ∷ token (tk.Name) 20 21 ∷ token (tk.Mark mk.CloseParen) 21 22 ∷ token (tk.Mark mk.OpenBracket) 22 23 ∷ token (tk.Int 2) 23 24 ∷ token (tk.Mark mk.CloseBracket) 24 25 ∷ token (tk.Mark mk.Dot) 25 26 ∷ token (tk.Name) 26 27 ∷ token (tk.Mark mk.Assign) 28 29 ∷ token (tk.Name) 30 31 ∷ token (tk.Mark mk.Semicolon) 31 32 ∷ token (tk.Name) 33 34 ∷ token (tk.Mark mk.OpenParen) 34 35 ∷ token (tk.Name) 35 36 ∷ token (tk.Mark mk.CloseParen) 36 37 ∷ token (tk.Mark mk.Assign) 38 39 ∷ token (tk.Name) 40 41 ∷ token (tk.Mark mk.Semicolon) 41 42 ∷ token (tk.Word wd.Getter) 43 49 ∷ token (tk.Mark mk.OpenParen) 49 50 ∷ token (tk.Mark mk.CloseParen) 50 51 ∷ token (tk.Mark mk.Semicolon) 51 52 ∷ token (tk.Word wd.End) 53 56 ∷ token (tk.Mark mk.Semicolon) 56 57 ∷ []))) ≡ Ok (rd.Func (record { span = (at 0 57); word = bw.NoWord; qualifier = ql.Unqualified; name = (record { span = at 5 6; text = codes "f" }); params = []; formals = []; result = None; limit = None; body = rs.Store (at 15 32) (record { span = at 15 16; text = codes "g" }) (ex.Int (at 17 18) 1 ∷ []) (ex.Name (at 20 21) (codes "a") ∷ []) (record { end = 25; suffix = su.SlicesOf (sl.BitAt (ex.Int (at 23 24) 2) ∷ []) } ∷ record { end = 27; suffix = su.FieldOf (record { span = at 26 27; text = codes "b" }) } ∷ []) (ex.Name (at 30 31) (codes "c")) ∷ rs.Store (at 33 42) (record { span = at 33 34; text = codes "g" }) [] (ex.Name (at 35 36) (codes "a") ∷ []) [] (ex.Name (at 40 41) (codes "c")) ∷ rs.Simple (stm.Invoke (at 43 52) (record { span = at 43 49; text = codes "getter" }) [] []) ∷ [] }) ∷ [])
unfolding name names integer_literal bits_literal boolean_literal literal parenthesized arguments braces braces_called after_braces after_name maybe_after_name named field_list dotted dot bracket suffix_part suffix suffixes bits_pattern mask_pattern set_braces set_pattern not_set_pattern in_pattern in_clause post_rest post_literal post_parenthesized post_named prefixed_by unary power_rest power product_rest product sum_rest sum comparison_rest comparison equality_rest equality links_by some_links_by logic_links logic_rest logic constraint maybe_constraint integer_type boolean_type bit_type named_type bitfields maybe_bitfields bits_type tuple_type array_type type_expression constraint_type as_type as_rest as_chain conditional open_expression expression if_parts rest more_expressions expressions maybe_expressions maybe_expression parenthesized_in arguments_in width_in late_expression expression_after_name other_unary other_chain other_open_expression other_expression field_value more_field_values field_values_after_name more_parameters parameters_after_minus parameters_after_name minus_alone after_minus after_first_name minus_in_braces name_in_braces other_in_braces empty_braces braced_in slice_form slice_rest slice slices slices_in element bracketed_in sum_rests scoped_sum range_end late_sum late_range maybe_late_range minus_pattern after_bang bang_pattern at_most at_least pattern_in_parens plain_unary plain_chain plain_sum sum_pattern pattern patterns set_parts pattern_parts constraint_end constraint_part constraint_list constraint_parts low_end bit_ends bitfield bitfield_list maybe_bitfield_list bitfields_in more_types two_types type_parts array_length array_parts typed pass unreachable assert bind_name no_binder binder more_binders two_binders several other_bind local_bind value let_statement names_typed no_value maybe_value typed_value var_rest var_names var_other var_tail var_statement no_target targets other_target assignment return_statement throw_statement print_kind verbatim print_item print_items maybe_print_items print_arguments print_statement simple_statement parameters maybe_parameters call_arguments call_ends target_suffixes assigned after_call called name_statement_rest name_statement if_statement case_statement for_statement while_statement repeat_statement try_statement statement block loop_limit otherwise maybe_otherwise place target more_targets two_targets target_parts else_if else_ifs else_block maybe_else if_body where_clause alternative alternatives case_body direction for_body while_body repeat_body caught_type catcher catchers some_catchers handlers try_body formal formal_list maybe_formals formals param param_list maybe_param_list params maybe_params label_list label_braces labels no_members listed_members some_members maybe_some_members member_braces members record_type exception_type type_definition supertype type_decl fixed_kind fixed_storage typed_var global_rest global_var result_type recursion_limit written_qualifier qualifier body_word maybe_body_word function getter setter accessor behind_word bodied declaration program end_of behind
sample5 = refl

sample6 : without_end (outcome 20 (lexemes (codes "impdef accessor a{N}() <=> v: T begin pure getter end; setter pass; end; end;") (token (tk.Word wd.ImpDef) 0 6 ∷ token (tk.Word wd.Accessor) 7 15 ∷ token (tk.Name) 16 17 ∷ token (tk.Mark mk.OpenBrace) 17 18 ∷ token (tk.Name) 18 19 ∷ token (tk.Mark mk.CloseBrace) 19 20 ∷ token (tk.Mark mk.OpenParen) 20 21 ∷ token (tk.Mark mk.CloseParen) 21 22 ∷ token (tk.Mark mk.Access) 23 26 ∷ token (tk.Name) 27 28 ∷ token (tk.Mark mk.Colon) 28 29 ∷ token (tk.Name) 30 31 ∷ token (tk.Word wd.Begin) 32 37 ∷ token (tk.Word wd.Pure) 38 42 ∷ token (tk.Word wd.Getter) 43 49 ∷ token (tk.Word wd.End) 50 53 ∷ token (tk.Mark mk.Semicolon) 53 54 ∷ token (tk.Word wd.Setter) 55 61 ∷ token (tk.Word wd.Pass) 62 66 ∷ token (tk.Mark mk.Semicolon) 66 67 ∷ token (tk.Word wd.End) 68 71 ∷ token (tk.Mark mk.Semicolon) 71 72 ∷ token (tk.Word wd.End) 73 76 ∷ token (tk.Mark mk.Semicolon) 76 77 ∷ []))) ≡ Ok (rd.Accessor (record { span = (at 0 77); word = bw.ImpDef; name = (record { span = at 16 17; text = codes "a" }); params = record { name = (record { span = at 18 19; text = codes "N" }); ty = None } ∷ []; formals = []; value = record { name = (record { span = at 27 28; text = codes "v" }); ty = ty.NamedType (at 30 31) (codes "T") }; qualifier = ql.Pure; getter = []; setter = rs.Simple (stm.Pass (at 62 67)) ∷ [] }) ∷ [])
unfolding name names integer_literal bits_literal boolean_literal literal parenthesized arguments braces braces_called after_braces after_name maybe_after_name named field_list dotted dot bracket suffix_part suffix suffixes bits_pattern mask_pattern set_braces set_pattern not_set_pattern in_pattern in_clause post_rest post_literal post_parenthesized post_named prefixed_by unary power_rest power product_rest product sum_rest sum comparison_rest comparison equality_rest equality links_by some_links_by logic_links logic_rest logic constraint maybe_constraint integer_type boolean_type bit_type named_type bitfields maybe_bitfields bits_type tuple_type array_type type_expression constraint_type as_type as_rest as_chain conditional open_expression expression if_parts rest more_expressions expressions maybe_expressions maybe_expression parenthesized_in arguments_in width_in late_expression expression_after_name other_unary other_chain other_open_expression other_expression field_value more_field_values field_values_after_name more_parameters parameters_after_minus parameters_after_name minus_alone after_minus after_first_name minus_in_braces name_in_braces other_in_braces empty_braces braced_in slice_form slice_rest slice slices slices_in element bracketed_in sum_rests scoped_sum range_end late_sum late_range maybe_late_range minus_pattern after_bang bang_pattern at_most at_least pattern_in_parens plain_unary plain_chain plain_sum sum_pattern pattern patterns set_parts pattern_parts constraint_end constraint_part constraint_list constraint_parts low_end bit_ends bitfield bitfield_list maybe_bitfield_list bitfields_in more_types two_types type_parts array_length array_parts typed pass unreachable assert bind_name no_binder binder more_binders two_binders several other_bind local_bind value let_statement names_typed no_value maybe_value typed_value var_rest var_names var_other var_tail var_statement no_target targets other_target assignment return_statement throw_statement print_kind verbatim print_item print_items maybe_print_items print_arguments print_statement simple_statement parameters maybe_parameters call_arguments call_ends target_suffixes assigned after_call called name_statement_rest name_statement if_statement case_statement for_statement while_statement repeat_statement try_statement statement block loop_limit otherwise maybe_otherwise place target more_targets two_targets target_parts else_if else_ifs else_block maybe_else if_body where_clause alternative alternatives case_body direction for_body while_body repeat_body caught_type catcher catchers some_catchers handlers try_body formal formal_list maybe_formals formals param param_list maybe_param_list params maybe_params label_list label_braces labels no_members listed_members some_members maybe_some_members member_braces members record_type exception_type type_definition supertype type_decl fixed_kind fixed_storage typed_var global_rest global_var result_type recursion_limit written_qualifier qualifier body_word maybe_body_word function getter setter accessor behind_word bodied declaration program end_of behind
sample6 = refl

sample7 : without_end (outcome 2 (lexemes (codes "let x = y IN {-1};") (token (tk.Word wd.Let) 0 3 ∷ token (tk.Name) 4 5 ∷ token (tk.Mark mk.Assign) 6 7 ∷ token (tk.Name) 8 9 ∷ token (tk.Word wd.In) 10 12 ∷ token (tk.Mark mk.OpenBrace) 13 14 ∷ token (tk.Mark mk.Minus) 14 15 ∷ token (tk.Int 1) 15 16 ∷ token (tk.Mark mk.CloseBrace) 16 17 ∷ token (tk.Mark mk.Semicolon) 17 18 ∷ []))) ≡ Err (TooDeep 3 true)
unfolding name names integer_literal bits_literal boolean_literal literal parenthesized arguments braces braces_called after_braces after_name maybe_after_name named field_list dotted dot bracket suffix_part suffix suffixes bits_pattern mask_pattern set_braces set_pattern not_set_pattern in_pattern in_clause post_rest post_literal post_parenthesized post_named prefixed_by unary power_rest power product_rest product sum_rest sum comparison_rest comparison equality_rest equality links_by some_links_by logic_links logic_rest logic constraint maybe_constraint integer_type boolean_type bit_type named_type bitfields maybe_bitfields bits_type tuple_type array_type type_expression constraint_type as_type as_rest as_chain conditional open_expression expression if_parts rest more_expressions expressions maybe_expressions maybe_expression parenthesized_in arguments_in width_in late_expression expression_after_name other_unary other_chain other_open_expression other_expression field_value more_field_values field_values_after_name more_parameters parameters_after_minus parameters_after_name minus_alone after_minus after_first_name minus_in_braces name_in_braces other_in_braces empty_braces braced_in slice_form slice_rest slice slices slices_in element bracketed_in sum_rests scoped_sum range_end late_sum late_range maybe_late_range minus_pattern after_bang bang_pattern at_most at_least pattern_in_parens plain_unary plain_chain plain_sum sum_pattern pattern patterns set_parts pattern_parts constraint_end constraint_part constraint_list constraint_parts low_end bit_ends bitfield bitfield_list maybe_bitfield_list bitfields_in more_types two_types type_parts array_length array_parts typed pass unreachable assert bind_name no_binder binder more_binders two_binders several other_bind local_bind value let_statement names_typed no_value maybe_value typed_value var_rest var_names var_other var_tail var_statement no_target targets other_target assignment return_statement throw_statement print_kind verbatim print_item print_items maybe_print_items print_arguments print_statement simple_statement parameters maybe_parameters call_arguments call_ends target_suffixes assigned after_call called name_statement_rest name_statement if_statement case_statement for_statement while_statement repeat_statement try_statement statement block loop_limit otherwise maybe_otherwise place target more_targets two_targets target_parts else_if else_ifs else_block maybe_else if_body where_clause alternative alternatives case_body direction for_body while_body repeat_body caught_type catcher catchers some_catchers handlers try_body formal formal_list maybe_formals formals param param_list maybe_param_list params maybe_params label_list label_braces labels no_members listed_members some_members maybe_some_members member_braces members record_type exception_type type_definition supertype type_decl fixed_kind fixed_storage typed_var global_rest global_var result_type recursion_limit written_qualifier qualifier body_word maybe_body_word function getter setter accessor behind_word bodied declaration program end_of behind
sample7 = refl

sample8 : without_end (outcome 2 (lexemes (codes "let x = y IN {-};") (token (tk.Word wd.Let) 0 3 ∷ token (tk.Name) 4 5 ∷ token (tk.Mark mk.Assign) 6 7 ∷ token (tk.Name) 8 9 ∷ token (tk.Word wd.In) 10 12 ∷ token (tk.Mark mk.OpenBrace) 13 14 ∷ token (tk.Mark mk.Minus) 14 15 ∷ token (tk.Mark mk.CloseBrace) 15 16 ∷ token (tk.Mark mk.Semicolon) 16 17 ∷ []))) ≡ Ok (rd.Storage (record { span = (at 0 17); kind = sk.Let; name = (record { span = at 4 5; text = codes "x" }); ty = None; init = Some (ex.In (at 8 16) (ex.Name (at 8 9) (codes "y")) (pa.SetPattern (at 13 16) false (pa.AnyPattern (at 14 15) ∷ []))) }) ∷ [])
unfolding name names integer_literal bits_literal boolean_literal literal parenthesized arguments braces braces_called after_braces after_name maybe_after_name named field_list dotted dot bracket suffix_part suffix suffixes bits_pattern mask_pattern set_braces set_pattern not_set_pattern in_pattern in_clause post_rest post_literal post_parenthesized post_named prefixed_by unary power_rest power product_rest product sum_rest sum comparison_rest comparison equality_rest equality links_by some_links_by logic_links logic_rest logic constraint maybe_constraint integer_type boolean_type bit_type named_type bitfields maybe_bitfields bits_type tuple_type array_type type_expression constraint_type as_type as_rest as_chain conditional open_expression expression if_parts rest more_expressions expressions maybe_expressions maybe_expression parenthesized_in arguments_in width_in late_expression expression_after_name other_unary other_chain other_open_expression other_expression field_value more_field_values field_values_after_name more_parameters parameters_after_minus parameters_after_name minus_alone after_minus after_first_name minus_in_braces name_in_braces other_in_braces empty_braces braced_in slice_form slice_rest slice slices slices_in element bracketed_in sum_rests scoped_sum range_end late_sum late_range maybe_late_range minus_pattern after_bang bang_pattern at_most at_least pattern_in_parens plain_unary plain_chain plain_sum sum_pattern pattern patterns set_parts pattern_parts constraint_end constraint_part constraint_list constraint_parts low_end bit_ends bitfield bitfield_list maybe_bitfield_list bitfields_in more_types two_types type_parts array_length array_parts typed pass unreachable assert bind_name no_binder binder more_binders two_binders several other_bind local_bind value let_statement names_typed no_value maybe_value typed_value var_rest var_names var_other var_tail var_statement no_target targets other_target assignment return_statement throw_statement print_kind verbatim print_item print_items maybe_print_items print_arguments print_statement simple_statement parameters maybe_parameters call_arguments call_ends target_suffixes assigned after_call called name_statement_rest name_statement if_statement case_statement for_statement while_statement repeat_statement try_statement statement block loop_limit otherwise maybe_otherwise place target more_targets two_targets target_parts else_if else_ifs else_block maybe_else if_body where_clause alternative alternatives case_body direction for_body while_body repeat_body caught_type catcher catchers some_catchers handlers try_body formal formal_list maybe_formals formals param param_list maybe_param_list params maybe_params label_list label_braces labels no_members listed_members some_members maybe_some_members member_braces members record_type exception_type type_definition supertype type_decl fixed_kind fixed_storage typed_var global_rest global_var result_type recursion_limit written_qualifier qualifier body_word maybe_body_word function getter setter accessor behind_word bodied declaration program end_of behind
sample8 = refl

sample9 : without_end (outcome 2 (lexemes (codes "let x = y IN {-;") (token (tk.Word wd.Let) 0 3 ∷ token (tk.Name) 4 5 ∷ token (tk.Mark mk.Assign) 6 7 ∷ token (tk.Name) 8 9 ∷ token (tk.Word wd.In) 10 12 ∷ token (tk.Mark mk.OpenBrace) 13 14 ∷ token (tk.Mark mk.Minus) 14 15 ∷ token (tk.Mark mk.Semicolon) 15 16 ∷ []))) ≡ Err (Syntax 1)
unfolding name names integer_literal bits_literal boolean_literal literal parenthesized arguments braces braces_called after_braces after_name maybe_after_name named field_list dotted dot bracket suffix_part suffix suffixes bits_pattern mask_pattern set_braces set_pattern not_set_pattern in_pattern in_clause post_rest post_literal post_parenthesized post_named prefixed_by unary power_rest power product_rest product sum_rest sum comparison_rest comparison equality_rest equality links_by some_links_by logic_links logic_rest logic constraint maybe_constraint integer_type boolean_type bit_type named_type bitfields maybe_bitfields bits_type tuple_type array_type type_expression constraint_type as_type as_rest as_chain conditional open_expression expression if_parts rest more_expressions expressions maybe_expressions maybe_expression parenthesized_in arguments_in width_in late_expression expression_after_name other_unary other_chain other_open_expression other_expression field_value more_field_values field_values_after_name more_parameters parameters_after_minus parameters_after_name minus_alone after_minus after_first_name minus_in_braces name_in_braces other_in_braces empty_braces braced_in slice_form slice_rest slice slices slices_in element bracketed_in sum_rests scoped_sum range_end late_sum late_range maybe_late_range minus_pattern after_bang bang_pattern at_most at_least pattern_in_parens plain_unary plain_chain plain_sum sum_pattern pattern patterns set_parts pattern_parts constraint_end constraint_part constraint_list constraint_parts low_end bit_ends bitfield bitfield_list maybe_bitfield_list bitfields_in more_types two_types type_parts array_length array_parts typed pass unreachable assert bind_name no_binder binder more_binders two_binders several other_bind local_bind value let_statement names_typed no_value maybe_value typed_value var_rest var_names var_other var_tail var_statement no_target targets other_target assignment return_statement throw_statement print_kind verbatim print_item print_items maybe_print_items print_arguments print_statement simple_statement parameters maybe_parameters call_arguments call_ends target_suffixes assigned after_call called name_statement_rest name_statement if_statement case_statement for_statement while_statement repeat_statement try_statement statement block loop_limit otherwise maybe_otherwise place target more_targets two_targets target_parts else_if else_ifs else_block maybe_else if_body where_clause alternative alternatives case_body direction for_body while_body repeat_body caught_type catcher catchers some_catchers handlers try_body formal formal_list maybe_formals formals param param_list maybe_param_list params maybe_params label_list label_braces labels no_members listed_members some_members maybe_some_members member_braces members record_type exception_type type_definition supertype type_decl fixed_kind fixed_storage typed_var global_rest global_var result_type recursion_limit written_qualifier qualifier body_word maybe_body_word function getter setter accessor behind_word bodied declaration program end_of behind
sample9 = refl

sample10 : without_end (outcome 2 (lexemes (codes "let x = a[0];") (token (tk.Word wd.Let) 0 3 ∷ token (tk.Name) 4 5 ∷ token (tk.Mark mk.Assign) 6 7 ∷ token (tk.Name) 8 9 ∷ token (tk.Mark mk.OpenBracket) 9 10 ∷ token (tk.Int 0) 10 11 ∷ token (tk.Mark mk.CloseBracket) 11 12 ∷ token (tk.Mark mk.Semicolon) 12 13 ∷ []))) ≡ Ok (rd.Storage (record { span = (at 0 13); kind = sk.Let; name = (record { span = at 4 5; text = codes "x" }); ty = None; init = Some (ex.Slices (at 8 12) (ex.Name (at 8 9) (codes "a")) (sl.BitAt (ex.Int (at 10 11) 0) ∷ [])) }) ∷ [])
unfolding name names integer_literal bits_literal boolean_literal literal parenthesized arguments braces braces_called after_braces after_name maybe_after_name named field_list dotted dot bracket suffix_part suffix suffixes bits_pattern mask_pattern set_braces set_pattern not_set_pattern in_pattern in_clause post_rest post_literal post_parenthesized post_named prefixed_by unary power_rest power product_rest product sum_rest sum comparison_rest comparison equality_rest equality links_by some_links_by logic_links logic_rest logic constraint maybe_constraint integer_type boolean_type bit_type named_type bitfields maybe_bitfields bits_type tuple_type array_type type_expression constraint_type as_type as_rest as_chain conditional open_expression expression if_parts rest more_expressions expressions maybe_expressions maybe_expression parenthesized_in arguments_in width_in late_expression expression_after_name other_unary other_chain other_open_expression other_expression field_value more_field_values field_values_after_name more_parameters parameters_after_minus parameters_after_name minus_alone after_minus after_first_name minus_in_braces name_in_braces other_in_braces empty_braces braced_in slice_form slice_rest slice slices slices_in element bracketed_in sum_rests scoped_sum range_end late_sum late_range maybe_late_range minus_pattern after_bang bang_pattern at_most at_least pattern_in_parens plain_unary plain_chain plain_sum sum_pattern pattern patterns set_parts pattern_parts constraint_end constraint_part constraint_list constraint_parts low_end bit_ends bitfield bitfield_list maybe_bitfield_list bitfields_in more_types two_types type_parts array_length array_parts typed pass unreachable assert bind_name no_binder binder more_binders two_binders several other_bind local_bind value let_statement names_typed no_value maybe_value typed_value var_rest var_names var_other var_tail var_statement no_target targets other_target assignment return_statement throw_statement print_kind verbatim print_item print_items maybe_print_items print_arguments print_statement simple_statement parameters maybe_parameters call_arguments call_ends target_suffixes assigned after_call called name_statement_rest name_statement if_statement case_statement for_statement while_statement repeat_statement try_statement statement block loop_limit otherwise maybe_otherwise place target more_targets two_targets target_parts else_if else_ifs else_block maybe_else if_body where_clause alternative alternatives case_body direction for_body while_body repeat_body caught_type catcher catchers some_catchers handlers try_body formal formal_list maybe_formals formals param param_list maybe_param_list params maybe_params label_list label_braces labels no_members listed_members some_members maybe_some_members member_braces members record_type exception_type type_definition supertype type_decl fixed_kind fixed_storage typed_var global_rest global_var result_type recursion_limit written_qualifier qualifier body_word maybe_body_word function getter setter accessor behind_word bodied declaration program end_of behind
sample10 = refl

sample11 : without_end (outcome 1 (lexemes (codes "let x = a[0];") (token (tk.Word wd.Let) 0 3 ∷ token (tk.Name) 4 5 ∷ token (tk.Mark mk.Assign) 6 7 ∷ token (tk.Name) 8 9 ∷ token (tk.Mark mk.OpenBracket) 9 10 ∷ token (tk.Int 0) 10 11 ∷ token (tk.Mark mk.CloseBracket) 11 12 ∷ token (tk.Mark mk.Semicolon) 12 13 ∷ []))) ≡ Err (TooDeep 4 false)
unfolding name names integer_literal bits_literal boolean_literal literal parenthesized arguments braces braces_called after_braces after_name maybe_after_name named field_list dotted dot bracket suffix_part suffix suffixes bits_pattern mask_pattern set_braces set_pattern not_set_pattern in_pattern in_clause post_rest post_literal post_parenthesized post_named prefixed_by unary power_rest power product_rest product sum_rest sum comparison_rest comparison equality_rest equality links_by some_links_by logic_links logic_rest logic constraint maybe_constraint integer_type boolean_type bit_type named_type bitfields maybe_bitfields bits_type tuple_type array_type type_expression constraint_type as_type as_rest as_chain conditional open_expression expression if_parts rest more_expressions expressions maybe_expressions maybe_expression parenthesized_in arguments_in width_in late_expression expression_after_name other_unary other_chain other_open_expression other_expression field_value more_field_values field_values_after_name more_parameters parameters_after_minus parameters_after_name minus_alone after_minus after_first_name minus_in_braces name_in_braces other_in_braces empty_braces braced_in slice_form slice_rest slice slices slices_in element bracketed_in sum_rests scoped_sum range_end late_sum late_range maybe_late_range minus_pattern after_bang bang_pattern at_most at_least pattern_in_parens plain_unary plain_chain plain_sum sum_pattern pattern patterns set_parts pattern_parts constraint_end constraint_part constraint_list constraint_parts low_end bit_ends bitfield bitfield_list maybe_bitfield_list bitfields_in more_types two_types type_parts array_length array_parts typed pass unreachable assert bind_name no_binder binder more_binders two_binders several other_bind local_bind value let_statement names_typed no_value maybe_value typed_value var_rest var_names var_other var_tail var_statement no_target targets other_target assignment return_statement throw_statement print_kind verbatim print_item print_items maybe_print_items print_arguments print_statement simple_statement parameters maybe_parameters call_arguments call_ends target_suffixes assigned after_call called name_statement_rest name_statement if_statement case_statement for_statement while_statement repeat_statement try_statement statement block loop_limit otherwise maybe_otherwise place target more_targets two_targets target_parts else_if else_ifs else_block maybe_else if_body where_clause alternative alternatives case_body direction for_body while_body repeat_body caught_type catcher catchers some_catchers handlers try_body formal formal_list maybe_formals formals param param_list maybe_param_list params maybe_params label_list label_braces labels no_members listed_members some_members maybe_some_members member_braces members record_type exception_type type_definition supertype type_decl fixed_kind fixed_storage typed_var global_rest global_var result_type recursion_limit written_qualifier qualifier body_word maybe_body_word function getter setter accessor behind_word bodied declaration program end_of behind
sample11 = refl
