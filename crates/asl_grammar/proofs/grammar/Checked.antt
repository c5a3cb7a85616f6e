-- One token is enough to choose by, in each rule: each is gone through once, from the facts of its parts.
-- Written by tools/grammar/generate.py from tools/grammar/table.py.
use Rattle.std.proofs.Common.{◌≡◌, ◌⊎◌, inl, inr, true, false, List, [], ◌∷◌, ◌++◌, Option, Some, None, refl}
use Rattle.asl_syn.specs.declared.tree.Expr.{Expr}
use Rattle.asl_syn.specs.declared.tree.Expr.TheVariants as ex
use Rattle.asl_syn.specs.declared.tree.FieldValue.{FieldValue}
use Rattle.asl_syn.specs.declared.tree.FieldValue.TheVariants as fv
use Rattle.asl_syn.specs.declared.tree.Slice.{Slice}
use Rattle.asl_syn.specs.declared.tree.TypeExpr.{TypeExpr}
use Rattle.asl_syn.specs.declared.tree.TypeExpr.TheVariants as ty
use Rattle.asl_syn.specs.declared.tree.ConstraintPart.{ConstraintPart}
use Rattle.asl_syn.specs.declared.tree.Bitfield.{Bitfield}
use Rattle.asl_syn.specs.declared.tree.Pattern.{Pattern}
use Rattle.asl_syn.specs.declared.tree.Pattern.TheVariants as pa
use Rattle.asl_syn.specs.declared.tree.Suffix.{Suffix}
use Rattle.asl_syn.specs.declared.tree.Suffix.TheVariants as su
use Rattle.asl_syn.specs.declared.tree.PlacedSuffix.{PlacedSuffix}
use Rattle.asl_syn.specs.declared.tree.Target.{Target}
use Rattle.asl_syn.specs.declared.tree.Target.TheVariants as tg
use Rattle.asl_syn.specs.declared.tree.Binder.{Binder}
use Rattle.asl_syn.specs.declared.tree.Binder.TheVariants as bd
use Rattle.asl_syn.specs.declared.tree.Bind.{Bind}
use Rattle.asl_syn.specs.declared.tree.Bind.TheVariants as bi
use Rattle.asl_syn.specs.declared.tree.PrintItem.{PrintItem}
use Rattle.asl_syn.specs.declared.tree.PrintItem.TheVariants as pi
use Rattle.asl_syn.specs.declared.tree.Stmt.{Stmt}
use Rattle.asl_syn.specs.declared.tree.Stmt.TheVariants as stm
use Rattle.asl_syn.specs.declared.tree.Formal.{Formal}
use Rattle.asl_syn.specs.declared.tree.Param.{Param}
use Rattle.asl_syn.specs.declared.tree.TypeDef.{TypeDef}
use Rattle.asl_syn.specs.declared.tree.TypeDef.TheVariants as td
use Rattle.asl_syn.specs.declared.tree.StorageKind.{StorageKind}
use Rattle.asl_syn.specs.declared.tree.StorageKind.TheVariants as sk
use Rattle.asl_syn.specs.declared.tree.Qualifier.{Qualifier}
use Rattle.asl_syn.specs.declared.tree.Qualifier.TheVariants as ql
use Rattle.asl_syn.specs.declared.tree.Ident.{Ident}
use Rattle.asl_syn.specs.declared.tree.LocalKind.TheVariants as lk
use Rattle.asl_syn.specs.declared.tree.Direction.{Direction}
use Rattle.asl_syn.specs.declared.tree.Direction.TheVariants as dr
use Rattle.asl_syn.specs.declared.tree.PrintKind.{PrintKind}
use Rattle.asl_syn.specs.declared.tree.PrintKind.TheVariants as pk
use Rattle.asl_syn.specs.declared.read.ReadStmt.{ReadStmt}
use Rattle.asl_syn.specs.declared.read.ReadStmt.TheVariants as rs
use Rattle.asl_syn.specs.declared.read.ReadElseIf.{ReadElseIf}
use Rattle.asl_syn.specs.declared.read.ReadElseIf.TheVariants as re
use Rattle.asl_syn.specs.declared.read.ReadAlternative.{ReadAlternative}
use Rattle.asl_syn.specs.declared.read.ReadAlternative.TheVariants as ra
use Rattle.asl_syn.specs.declared.read.ReadOtherwise.{ReadOtherwise}
use Rattle.asl_syn.specs.declared.read.ReadOtherwise.TheVariants as ro
use Rattle.asl_syn.specs.declared.read.ReadCatcher.{ReadCatcher}
use Rattle.asl_syn.specs.declared.read.BodyWord.{BodyWord}
use Rattle.asl_syn.specs.declared.read.BodyWord.TheVariants as bw
use Rattle.asl_syn.specs.declared.read.ReadDecl.{ReadDecl}
use Rattle.asl_syn.specs.declared.read.ReadDecl.TheVariants as rd
use Rattle.asl_grammar.specs.declared.parts.AfterName.{AfterName}
use Rattle.asl_grammar.specs.declared.parts.AfterName.TheVariants as an
use Rattle.asl_grammar.specs.declared.parts.Braces.{Braces}
use Rattle.asl_grammar.specs.declared.parts.Braces.TheVariants as br
use Rattle.asl_grammar.specs.declared.parts.VarTail.{VarTail}
use Rattle.asl_grammar.specs.declared.parts.VarTail.TheVariants as vt
use Rattle.asl_grammar.specs.declared.parts.SliceForm.{SliceForm}
use Rattle.asl_grammar.specs.declared.parts.SliceForm.TheVariants as sf
use Rattle.asl_grammar.specs.declared.parts.Bodied.{Bodied}
use Rattle.asl_grammar.specs.declared.parts.Bodied.TheVariants as bo
use Rattle.asl_grammar.specs.declared.kinds.Kind.TheVariants as kind
use Rattle.asl_grammar.specs.grammar.Kinds.{kind_of, same_kind}
use Rattle.asl_grammar.specs.grammar.Operators.{unary_of}
use Rattle.asl_grammar.specs.grammar.Cursor.{Extent, whole}
use Rattle.asl_grammar.specs.grammar.Combinators.{tok, opens, into, seq, either, opt, many, by, spanned, scope, closed, trail, costs, follows}
use Rattle.asl_grammar.specs.grammar.Reader.{by_one, cont, covers}
use Rattle.asl_grammar.specs.grammar.Build.{seconds, or_nil, behind, int_of, ident, or_unqualified, Link, Links, AsLinks, chained, compared, as_chained, logically, joined, finished, Posts, posted, parens_of, named_of, parameters_or, empty_or, braced, LateTail, NameTail, minus_in_braces_of, name_in_braces_of, slice_of, constraint_part_of, bitfield_of, pattern_of, SumTail, LateRange, minus_pattern_of, bang_pattern_of, pattern_parens_of, place_of, var_tail_of, var_of, name_statement_of, or_no_otherwise, no_catchers, catch_of, untyped, or_no_word, bodied_of, VarRest, MoreNames, Typed, Untyped}
use Rattle.asl_grammar.specs.grammar.Rules.{Sym, Parenthesized, Arguments, Braced, Operand, IfParts, Bracketed, Width, SetParts, PatternParts, ConstraintParts, Bitfields, TypeParts, ArrayParts, TargetParts, IfBody, CaseBody, ForBody, WhileBody, RepeatBody, TryBody, Program, rule, after, name, names, integer_literal, bits_literal, boolean_literal, literal, parenthesized, arguments, braces, braces_called, after_braces, after_name, maybe_after_name, named, field_list, dotted, dot, bracket, suffix_part, suffix, suffixes, bits_pattern, mask_pattern, set_braces, set_pattern, not_set_pattern, in_pattern, in_clause, post_rest, post_literal, post_parenthesized, post_named, prefixed_by, unary, power_rest, power, product_rest, product, sum_rest, sum, comparison_rest, comparison, equality_rest, equality, links_by, some_links_by, logic_links, logic_rest, logic, constraint, maybe_constraint, integer_type, boolean_type, bit_type, named_type, bitfields, maybe_bitfields, bits_type, tuple_type, array_type, type_expression, constraint_type, as_type, as_rest, as_chain, conditional, open_expression, expression, if_parts, rest, more_expressions, expressions, maybe_expressions, maybe_expression, parenthesized_in, arguments_in, width_in, late_expression, expression_after_name, other_unary, other_chain, other_open_expression, other_expression, field_value, more_field_values, field_values_after_name, more_parameters, parameters_after_minus, parameters_after_name, minus_alone, after_minus, after_first_name, minus_in_braces, name_in_braces, other_in_braces, empty_braces, braced_in, slice_form, slice_rest, slice, slices, slices_in, element, bracketed_in, sum_rests, scoped_sum, range_end, late_sum, late_range, maybe_late_range, minus_pattern, after_bang, bang_pattern, at_most, at_least, pattern_in_parens, plain_unary, plain_chain, plain_sum, sum_pattern, pattern, patterns, set_parts, pattern_parts, constraint_end, constraint_part, constraint_list, constraint_parts, low_end, bit_ends, bitfield, bitfield_list, maybe_bitfield_list, bitfields_in, more_types, two_types, type_parts, array_length, array_parts, typed, pass, unreachable, assert, bind_name, no_binder, binder, more_binders, two_binders, several, other_bind, local_bind, value, let_statement, names_typed, no_value, maybe_value, typed_value, var_rest, var_names, var_other, var_tail, var_statement, no_target, targets, other_target, assignment, return_statement, throw_statement, print_kind, verbatim, print_item, print_items, maybe_print_items, print_arguments, print_statement, simple_statement, parameters, maybe_parameters, call_arguments, call_ends, target_suffixes, assigned, after_call, called, name_statement_rest, name_statement, if_statement, case_statement, for_statement, while_statement, repeat_statement, try_statement, statement, block, loop_limit, otherwise, maybe_otherwise, place, target, more_targets, two_targets, target_parts, else_if, else_ifs, else_block, maybe_else, if_body, where_clause, alternative, alternatives, case_body, direction, for_body, while_body, repeat_body, caught_type, catcher, catchers, some_catchers, handlers, try_body, formal, formal_list, maybe_formals, formals, param, param_list, maybe_param_list, params, maybe_params, label_list, label_braces, labels, no_members, listed_members, some_members, maybe_some_members, member_braces, members, record_type, exception_type, type_definition, supertype, type_decl, fixed_kind, fixed_storage, typed_var, global_rest, global_var, result_type, recursion_limit, written_qualifier, qualifier, body_word, maybe_body_word, function, getter, setter, accessor, behind_word, bodied, declaration, program}
use Rattle.asl_grammar.proofs.grammar.Facts.{Facts, fit, tok_f, opens_f, into_f, closed_f, seq_f, either_f, opt_f, many_f, by_f, spanned_f, scope_f, trail_f, costs_f, follows_f, covered_by}

f_name : Facts name false (kind.Name ∷ kind.Getter ∷ kind.Setter ∷ []) []
unfolding name
f_name =
    let raw : Facts {A = Ident} (by ident (tok (kind.Name ∷ kind.Getter ∷ kind.Setter ∷ []))) false (kind.Name ∷ kind.Getter ∷ kind.Setter ∷ []) [] = (by_f tok_f) in
    fit (kind.Name ∷ kind.Getter ∷ kind.Setter ∷ []) [] raw refl refl

f_names : Facts names false (kind.Name ∷ kind.Getter ∷ kind.Setter ∷ []) (kind.Comma ∷ [])
unfolding names
f_names =
    let raw : Facts {A = List Ident} (by (λ r. r.0 ∷ seconds r.1) (seq name (many (seq (tok (kind.Comma ∷ [])) name)))) false (kind.Name ∷ kind.Getter ∷ kind.Setter ∷ []) (kind.Comma ∷ []) = (by_f (seq_f f_name (many_f (seq_f tok_f f_name refl) refl) refl)) in
    fit (kind.Name ∷ kind.Getter ∷ kind.Setter ∷ []) (kind.Comma ∷ []) raw refl refl

f_integer_literal : Facts integer_literal false (kind.IntegerLiteral ∷ []) []
unfolding integer_literal
f_integer_literal =
    let raw : Facts {A = Expr} (by (λ r. ex.Int r.span (int_of r.kind)) (tok (kind.IntegerLiteral ∷ []))) false (kind.IntegerLiteral ∷ []) [] = (by_f tok_f) in
    fit (kind.IntegerLiteral ∷ []) [] raw refl refl

f_bits_literal : Facts bits_literal false (kind.BitsLiteral ∷ []) []
unfolding bits_literal
f_bits_literal =
    let raw : Facts {A = Expr} (by (λ r. ex.Bits r.span r.text) (tok (kind.BitsLiteral ∷ []))) false (kind.BitsLiteral ∷ []) [] = (by_f tok_f) in
    fit (kind.BitsLiteral ∷ []) [] raw refl refl

f_boolean_literal : Facts boolean_literal false (kind.False ∷ kind.True ∷ []) []
unfolding boolean_literal
f_boolean_literal =
    let raw : Facts {A = Expr} (by (λ r. ex.Bool r.span (same_kind (kind_of r.kind) kind.True)) (tok (kind.True ∷ kind.False ∷ []))) false (kind.True ∷ kind.False ∷ []) [] = (by_f tok_f) in
    fit (kind.False ∷ kind.True ∷ []) [] raw refl refl

f_literal : Facts literal false (kind.IntegerLiteral ∷ kind.BitsLiteral ∷ kind.False ∷ kind.True ∷ []) []
unfolding literal
f_literal =
    let raw : Facts {A = Expr} (either integer_literal (either bits_literal boolean_literal)) false (kind.IntegerLiteral ∷ kind.BitsLiteral ∷ kind.False ∷ kind.True ∷ []) [] = (either_f f_integer_literal (either_f f_bits_literal f_boolean_literal refl) refl) in
    fit (kind.IntegerLiteral ∷ kind.BitsLiteral ∷ kind.False ∷ kind.True ∷ []) [] raw refl refl

f_parenthesized : Facts parenthesized false (kind.OpenParen ∷ []) []
unfolding parenthesized
f_parenthesized =
    let raw : Facts {A = Expr} (by (λ r. parens_of (whole r.1) r.0.1) (spanned (scope (into (kind.OpenParen ∷ []) Parenthesized)))) false (kind.OpenParen ∷ []) [] = (by_f (spanned_f (scope_f (into_f {s = Parenthesized})))) in
    fit (kind.OpenParen ∷ []) [] raw refl refl

f_arguments : Facts arguments false (kind.OpenParen ∷ []) []
unfolding arguments
f_arguments =
    let raw : Facts {A = List Expr} (by (λ r. r.1) (scope (into (kind.OpenParen ∷ []) Arguments))) false (kind.OpenParen ∷ []) [] = (by_f (scope_f (into_f {s = Arguments}))) in
    fit (kind.OpenParen ∷ []) [] raw refl refl

f_braces : Facts braces false (kind.OpenBrace ∷ []) []
unfolding braces
f_braces =
    let raw : Facts {A = Braces} (by (λ r. r.1) (scope (into (kind.OpenBrace ∷ []) Braced))) false (kind.OpenBrace ∷ []) [] = (by_f (scope_f (into_f {s = Braced}))) in
    fit (kind.OpenBrace ∷ []) [] raw refl refl

f_braces_called : Facts braces_called false (kind.OpenBrace ∷ []) []
unfolding braces_called
f_braces_called =
    let raw : Facts {A = Option (List FieldValue) ⊎ (List Expr × List Expr)} (follows (by parameters_or braces) arguments) false (kind.OpenBrace ∷ []) [] = (follows_f (by_f f_braces) f_arguments refl) in
    fit (kind.OpenBrace ∷ []) [] raw refl refl

f_after_braces : Facts after_braces false (kind.OpenBrace ∷ []) (kind.OpenParen ∷ [])
unfolding after_braces
f_after_braces =
    let raw : Facts {A = AfterName} (by braced (follows (by empty_or braces_called) (opt arguments))) false (kind.OpenBrace ∷ []) (kind.OpenParen ∷ []) = (by_f (follows_f (by_f f_braces_called) (opt_f f_arguments) refl)) in
    fit (kind.OpenBrace ∷ []) (kind.OpenParen ∷ []) raw refl refl

f_after_name : Facts after_name false (kind.OpenParen ∷ kind.OpenBrace ∷ []) (kind.OpenParen ∷ [])
unfolding after_name
f_after_name =
    let raw : Facts {A = AfterName} (either (by (an.Called []) arguments) after_braces) false (kind.OpenParen ∷ kind.OpenBrace ∷ []) (kind.OpenParen ∷ []) = (either_f (by_f f_arguments) f_after_braces refl) in
    fit (kind.OpenParen ∷ kind.OpenBrace ∷ []) (kind.OpenParen ∷ []) raw refl refl

f_maybe_after_name : Facts maybe_after_name true (kind.OpenParen ∷ kind.OpenBrace ∷ []) (kind.OpenParen ∷ kind.OpenBrace ∷ [])
unfolding maybe_after_name
f_maybe_after_name =
    let raw : Facts {A = Option (AfterName × Extent)} (opt (spanned after_name)) true (kind.OpenParen ∷ kind.OpenBrace ∷ []) (kind.OpenParen ∷ kind.OpenBrace ∷ kind.OpenParen ∷ []) = (opt_f (spanned_f f_after_name)) in
    fit (kind.OpenParen ∷ kind.OpenBrace ∷ []) (kind.OpenParen ∷ kind.OpenBrace ∷ []) raw refl refl

f_named : Facts named false (kind.Name ∷ kind.Getter ∷ kind.Setter ∷ []) (kind.OpenParen ∷ kind.OpenBrace ∷ [])
unfolding named
f_named =
    let raw : Facts {A = Expr} (by (λ r. named_of r.0 r.1) (seq name maybe_after_name)) false (kind.Name ∷ kind.Getter ∷ kind.Setter ∷ []) (kind.OpenParen ∷ kind.OpenBrace ∷ []) = (by_f (seq_f f_name f_maybe_after_name refl)) in
    fit (kind.Name ∷ kind.Getter ∷ kind.Setter ∷ []) (kind.OpenParen ∷ kind.OpenBrace ∷ []) raw refl refl

f_field_list : Facts field_list false (kind.OpenBracket ∷ []) []
unfolding field_list
f_field_list =
    let raw : Facts {A = Suffix} (by (λ r. su.FieldsOf r) (scope (by (λ r. r.1.0) (seq (opens (kind.OpenBracket ∷ [])) (seq names (tok (kind.CloseBracket ∷ []))))))) false (kind.OpenBracket ∷ []) [] = (by_f (scope_f (by_f (seq_f opens_f (seq_f f_names tok_f refl) refl)))) in
    fit (kind.OpenBracket ∷ []) [] raw refl refl

f_dotted : Facts dotted false (kind.Name ∷ kind.OpenBracket ∷ kind.Getter ∷ kind.Setter ∷ []) []
unfolding dotted
f_dotted =
    let raw : Facts {A = Suffix} (either (by su.FieldOf name) field_list) false (kind.Name ∷ kind.Getter ∷ kind.Setter ∷ kind.OpenBracket ∷ []) [] = (either_f (by_f f_name) f_field_list refl) in
    fit (kind.Name ∷ kind.OpenBracket ∷ kind.Getter ∷ kind.Setter ∷ []) [] raw refl refl

f_dot : Facts dot false (kind.Dot ∷ []) []
unfolding dot
f_dot =
    let raw : Facts {A = Suffix} (by (λ r. r.1) (seq (opens (kind.Dot ∷ [])) dotted)) false (kind.Dot ∷ []) [] = (by_f (seq_f opens_f f_dotted refl)) in
    fit (kind.Dot ∷ []) [] raw refl refl

f_bracket : Facts bracket false (kind.OpenBracket ∷ []) []
unfolding bracket
f_bracket =
    let raw : Facts {A = Suffix} (by (λ r. r.1) (costs false (scope (into (kind.OpenBracket ∷ []) Bracketed)))) false (kind.OpenBracket ∷ []) [] = (by_f (costs_f (scope_f (into_f {s = Bracketed})))) in
    fit (kind.OpenBracket ∷ []) [] raw refl refl

f_suffix_part : Facts suffix_part false (kind.OpenBracket ∷ kind.Dot ∷ []) []
unfolding suffix_part
f_suffix_part =
    let raw : Facts {A = Suffix} (either dot bracket) false (kind.Dot ∷ kind.OpenBracket ∷ []) [] = (either_f f_dot f_bracket refl) in
    fit (kind.OpenBracket ∷ kind.Dot ∷ []) [] raw refl refl

f_suffix : Facts suffix false (kind.OpenBracket ∷ kind.Dot ∷ []) []
unfolding suffix
f_suffix =
    let raw : Facts {A = PlacedSuffix} (by (λ r. record { end = r.1.to; suffix = r.0 }) (spanned suffix_part)) false (kind.OpenBracket ∷ kind.Dot ∷ []) [] = (by_f (spanned_f f_suffix_part)) in
    fit (kind.OpenBracket ∷ kind.Dot ∷ []) [] raw refl refl

f_suffixes : Facts suffixes true (kind.OpenBracket ∷ kind.Dot ∷ []) (kind.OpenBracket ∷ kind.Dot ∷ [])
unfolding suffixes
f_suffixes =
    let raw : Facts {A = List PlacedSuffix} (many suffix) true (kind.OpenBracket ∷ kind.Dot ∷ []) (kind.OpenBracket ∷ kind.Dot ∷ []) = (many_f f_suffix refl) in
    fit (kind.OpenBracket ∷ kind.Dot ∷ []) (kind.OpenBracket ∷ kind.Dot ∷ []) raw refl refl

f_bits_pattern : Facts bits_pattern false (kind.BitsLiteral ∷ []) []
unfolding bits_pattern
f_bits_pattern =
    let raw : Facts {A = Pattern} (by (λ r. pa.ValuePattern r.span (ex.Bits r.span r.text)) (tok (kind.BitsLiteral ∷ []))) false (kind.BitsLiteral ∷ []) [] = (by_f tok_f) in
    fit (kind.BitsLiteral ∷ []) [] raw refl refl

f_mask_pattern : Facts mask_pattern false (kind.MaskLiteral ∷ []) []
unfolding mask_pattern
f_mask_pattern =
    let raw : Facts {A = Pattern} (by (λ r. pa.MaskPattern r.span r.text) (tok (kind.MaskLiteral ∷ []))) false (kind.MaskLiteral ∷ []) [] = (by_f tok_f) in
    fit (kind.MaskLiteral ∷ []) [] raw refl refl

f_set_braces : Facts set_braces false (kind.OpenBrace ∷ []) []
unfolding set_braces
f_set_braces =
    let raw : Facts {A = List Pattern} (by (λ r. r.1) (scope (into (kind.OpenBrace ∷ []) SetParts))) false (kind.OpenBrace ∷ []) [] = (by_f (scope_f (into_f {s = SetParts}))) in
    fit (kind.OpenBrace ∷ []) [] raw refl refl

f_set_pattern : Facts set_pattern false (kind.OpenBrace ∷ []) []
unfolding set_pattern
f_set_pattern =
    let raw : Facts {A = Pattern} (by (λ r. pa.SetPattern (whole r.1) false r.0) (spanned set_braces)) false (kind.OpenBrace ∷ []) [] = (by_f (spanned_f f_set_braces)) in
    fit (kind.OpenBrace ∷ []) [] raw refl refl

f_not_set_pattern : Facts not_set_pattern false (kind.Bang ∷ []) []
unfolding not_set_pattern
f_not_set_pattern =
    let raw : Facts {A = Pattern} (by (λ r. pa.SetPattern (whole r.1) true r.0.1) (spanned (seq (tok (kind.Bang ∷ [])) set_braces))) false (kind.Bang ∷ []) [] = (by_f (spanned_f (seq_f tok_f f_set_braces refl))) in
    fit (kind.Bang ∷ []) [] raw refl refl

f_in_pattern : Facts in_pattern false (kind.BitsLiteral ∷ kind.MaskLiteral ∷ kind.OpenBrace ∷ kind.Bang ∷ []) []
unfolding in_pattern
f_in_pattern =
    let raw : Facts {A = Pattern} (either not_set_pattern (either set_pattern (either bits_pattern mask_pattern))) false (kind.Bang ∷ kind.OpenBrace ∷ kind.BitsLiteral ∷ kind.MaskLiteral ∷ []) [] = (either_f f_not_set_pattern (either_f f_set_pattern (either_f f_bits_pattern f_mask_pattern refl) refl) refl) in
    fit (kind.BitsLiteral ∷ kind.MaskLiteral ∷ kind.OpenBrace ∷ kind.Bang ∷ []) [] raw refl refl

f_in_clause : Facts in_clause true (kind.In ∷ []) (kind.In ∷ [])
unfolding in_clause
f_in_clause =
    let raw : Facts {A = Option (Pattern × Extent)} (opt (by (λ r. r.1) (seq (opens (kind.In ∷ [])) (spanned in_pattern)))) true (kind.In ∷ []) (kind.In ∷ []) = (opt_f (by_f (seq_f opens_f (spanned_f f_in_pattern) refl))) in
    fit (kind.In ∷ []) (kind.In ∷ []) raw refl refl

f_post_rest : Facts post_rest true (kind.OpenBracket ∷ kind.Dot ∷ kind.In ∷ []) (kind.OpenBracket ∷ kind.Dot ∷ kind.In ∷ [])
unfolding post_rest
f_post_rest =
    let raw : Facts {A = Posts} (seq suffixes in_clause) true (kind.OpenBracket ∷ kind.Dot ∷ kind.In ∷ []) (kind.In ∷ kind.OpenBracket ∷ kind.Dot ∷ []) = (seq_f f_suffixes f_in_clause refl) in
    fit (kind.OpenBracket ∷ kind.Dot ∷ kind.In ∷ []) (kind.OpenBracket ∷ kind.Dot ∷ kind.In ∷ []) raw refl refl

f_post_literal : Facts post_literal false (kind.IntegerLiteral ∷ kind.BitsLiteral ∷ kind.False ∷ kind.True ∷ []) (kind.OpenBracket ∷ kind.Dot ∷ kind.In ∷ [])
unfolding post_literal
f_post_literal =
    let raw : Facts {A = Expr} (by (λ r. posted r.0.1.from r.0.0 r.1) (seq (spanned literal) post_rest)) false (kind.IntegerLiteral ∷ kind.BitsLiteral ∷ kind.False ∷ kind.True ∷ []) (kind.OpenBracket ∷ kind.Dot ∷ kind.In ∷ []) = (by_f (seq_f (spanned_f f_literal) f_post_rest refl)) in
    fit (kind.IntegerLiteral ∷ kind.BitsLiteral ∷ kind.False ∷ kind.True ∷ []) (kind.OpenBracket ∷ kind.Dot ∷ kind.In ∷ []) raw refl refl

f_post_parenthesized : Facts post_parenthesized false (kind.OpenParen ∷ []) (kind.OpenBracket ∷ kind.Dot ∷ kind.In ∷ [])
unfolding post_parenthesized
f_post_parenthesized =
    let raw : Facts {A = Expr} (by (λ r. posted r.0.1.from r.0.0 r.1) (seq (spanned parenthesized) post_rest)) false (kind.OpenParen ∷ []) (kind.OpenBracket ∷ kind.Dot ∷ kind.In ∷ []) = (by_f (seq_f (spanned_f f_parenthesized) f_post_rest refl)) in
    fit (kind.OpenParen ∷ []) (kind.OpenBracket ∷ kind.Dot ∷ kind.In ∷ []) raw refl refl

f_post_named : Facts post_named false (kind.Name ∷ kind.Getter ∷ kind.Setter ∷ []) (kind.OpenParen ∷ kind.OpenBracket ∷ kind.OpenBrace ∷ kind.Dot ∷ kind.In ∷ [])
unfolding post_named
f_post_named =
    let raw : Facts {A = Expr} (by (λ r. posted r.0.1.from r.0.0 r.1) (seq (spanned named) post_rest)) false (kind.Name ∷ kind.Getter ∷ kind.Setter ∷ []) (kind.OpenBracket ∷ kind.Dot ∷ kind.In ∷ kind.OpenParen ∷ kind.OpenBrace ∷ []) = (by_f (seq_f (spanned_f f_named) f_post_rest refl)) in
    fit (kind.Name ∷ kind.Getter ∷ kind.Setter ∷ []) (kind.OpenParen ∷ kind.OpenBracket ∷ kind.OpenBrace ∷ kind.Dot ∷ kind.In ∷ []) raw refl refl

f_prefixed_by_minus_bang_not : Facts (prefixed_by (kind.Minus ∷ kind.Bang ∷ kind.Not ∷ [])) false (kind.Bang ∷ kind.Minus ∷ kind.Not ∷ []) (kind.OpenParen ∷ kind.OpenBracket ∷ kind.OpenBrace ∷ kind.Dot ∷ kind.In ∷ [])
unfolding prefixed_by
f_prefixed_by_minus_bang_not =
    let raw : Facts {A = Expr} (by (λ r. ex.Unary (whole r.1) (unary_of (kind_of r.0.0.kind)) r.0.1) (spanned (into (kind.Minus ∷ kind.Bang ∷ kind.Not ∷ []) Operand))) false (kind.Minus ∷ kind.Bang ∷ kind.Not ∷ []) (kind.OpenParen ∷ kind.OpenBracket ∷ kind.OpenBrace ∷ kind.Dot ∷ kind.In ∷ []) = (by_f (spanned_f (into_f {s = Operand}))) in
    fit (kind.Bang ∷ kind.Minus ∷ kind.Not ∷ []) (kind.OpenParen ∷ kind.OpenBracket ∷ kind.OpenBrace ∷ kind.Dot ∷ kind.In ∷ []) raw refl refl

f_unary : Facts unary false (kind.Name ∷ kind.IntegerLiteral ∷ kind.BitsLiteral ∷ kind.OpenParen ∷ kind.Bang ∷ kind.Minus ∷ kind.False ∷ kind.Not ∷ kind.True ∷ kind.Getter ∷ kind.Setter ∷ []) (kind.OpenParen ∷ kind.OpenBracket ∷ kind.OpenBrace ∷ kind.Dot ∷ kind.In ∷ [])
unfolding unary
f_unary =
    let raw : Facts {A = Expr} (either (prefixed_by (kind.Minus ∷ kind.Bang ∷ kind.Not ∷ [])) (either post_literal (either post_parenthesized post_named))) false (kind.Bang ∷ kind.Minus ∷ kind.Not ∷ kind.IntegerLiteral ∷ kind.BitsLiteral ∷ kind.False ∷ kind.True ∷ kind.OpenParen ∷ kind.Name ∷ kind.Getter ∷ kind.Setter ∷ []) (kind.OpenParen ∷ kind.OpenBracket ∷ kind.OpenBrace ∷ kind.Dot ∷ kind.In ∷ kind.OpenBracket ∷ kind.Dot ∷ kind.In ∷ kind.OpenBracket ∷ kind.Dot ∷ kind.In ∷ kind.OpenParen ∷ kind.OpenBracket ∷ kind.OpenBrace ∷ kind.Dot ∷ kind.In ∷ []) = (either_f f_prefixed_by_minus_bang_not (either_f f_post_literal (either_f f_post_parenthesized f_post_named refl) refl) refl) in
    fit (kind.Name ∷ kind.IntegerLiteral ∷ kind.BitsLiteral ∷ kind.OpenParen ∷ kind.Bang ∷ kind.Minus ∷ kind.False ∷ kind.Not ∷ kind.True ∷ kind.Getter ∷ kind.Setter ∷ []) (kind.OpenParen ∷ kind.OpenBracket ∷ kind.OpenBrace ∷ kind.Dot ∷ kind.In ∷ []) raw refl refl

f_power_rest : Facts power_rest true (kind.Caret ∷ []) (kind.OpenParen ∷ kind.OpenBracket ∷ kind.OpenBrace ∷ kind.Dot ∷ kind.Caret ∷ kind.In ∷ [])
unfolding power_rest
f_power_rest =
    let raw : Facts {A = Links} (many (seq (opens (kind.Caret ∷ [])) (spanned unary))) true (kind.Caret ∷ []) (kind.Caret ∷ kind.OpenParen ∷ kind.OpenBracket ∷ kind.OpenBrace ∷ kind.Dot ∷ kind.In ∷ []) = (many_f (seq_f opens_f (spanned_f f_unary) refl) refl) in
    fit (kind.Caret ∷ []) (kind.OpenParen ∷ kind.OpenBracket ∷ kind.OpenBrace ∷ kind.Dot ∷ kind.Caret ∷ kind.In ∷ []) raw refl refl

f_power : Facts power false (kind.Name ∷ kind.IntegerLiteral ∷ kind.BitsLiteral ∷ kind.OpenParen ∷ kind.Bang ∷ kind.Minus ∷ kind.False ∷ kind.Not ∷ kind.True ∷ kind.Getter ∷ kind.Setter ∷ []) (kind.OpenParen ∷ kind.OpenBracket ∷ kind.OpenBrace ∷ kind.Dot ∷ kind.Caret ∷ kind.In ∷ [])
unfolding power
f_power =
    let raw : Facts {A = Expr} (by (λ r. chained r.0.1.from r.0.0 r.1) (seq (spanned unary) power_rest)) false (kind.Name ∷ kind.IntegerLiteral ∷ kind.BitsLiteral ∷ kind.OpenParen ∷ kind.Bang ∷ kind.Minus ∷ kind.False ∷ kind.Not ∷ kind.True ∷ kind.Getter ∷ kind.Setter ∷ []) (kind.OpenParen ∷ kind.OpenBracket ∷ kind.OpenBrace ∷ kind.Dot ∷ kind.Caret ∷ kind.In ∷ kind.OpenParen ∷ kind.OpenBracket ∷ kind.OpenBrace ∷ kind.Dot ∷ kind.In ∷ []) = (by_f (seq_f (spanned_f f_unary) f_power_rest refl)) in
    fit (kind.Name ∷ kind.IntegerLiteral ∷ kind.BitsLiteral ∷ kind.OpenParen ∷ kind.Bang ∷ kind.Minus ∷ kind.False ∷ kind.Not ∷ kind.True ∷ kind.Getter ∷ kind.Setter ∷ []) (kind.OpenParen ∷ kind.OpenBracket ∷ kind.OpenBrace ∷ kind.Dot ∷ kind.Caret ∷ kind.In ∷ []) raw refl refl

f_product_rest : Facts product_rest true (kind.ShiftLeft ∷ kind.ShiftRight ∷ kind.Star ∷ kind.Div ∷ kind.DivRm ∷ kind.Mod ∷ []) (kind.OpenParen ∷ kind.OpenBracket ∷ kind.OpenBrace ∷ kind.Dot ∷ kind.ShiftLeft ∷ kind.ShiftRight ∷ kind.Star ∷ kind.Caret ∷ kind.Div ∷ kind.DivRm ∷ kind.In ∷ kind.Mod ∷ [])
unfolding product_rest
f_product_rest =
    let raw : Facts {A = Links} (many (seq (opens (kind.Star ∷ kind.Div ∷ kind.DivRm ∷ kind.Mod ∷ kind.ShiftLeft ∷ kind.ShiftRight ∷ [])) (spanned power))) true (kind.Star ∷ kind.Div ∷ kind.DivRm ∷ kind.Mod ∷ kind.ShiftLeft ∷ kind.ShiftRight ∷ []) (kind.Star ∷ kind.Div ∷ kind.DivRm ∷ kind.Mod ∷ kind.ShiftLeft ∷ kind.ShiftRight ∷ kind.OpenParen ∷ kind.OpenBracket ∷ kind.OpenBrace ∷ kind.Dot ∷ kind.Caret ∷ kind.In ∷ []) = (many_f (seq_f opens_f (spanned_f f_power) refl) refl) in
    fit (kind.ShiftLeft ∷ kind.ShiftRight ∷ kind.Star ∷ kind.Div ∷ kind.DivRm ∷ kind.Mod ∷ []) (kind.OpenParen ∷ kind.OpenBracket ∷ kind.OpenBrace ∷ kind.Dot ∷ kind.ShiftLeft ∷ kind.ShiftRight ∷ kind.Star ∷ kind.Caret ∷ kind.Div ∷ kind.DivRm ∷ kind.In ∷ kind.Mod ∷ []) raw refl refl

f_product : Facts product false (kind.Name ∷ kind.IntegerLiteral ∷ kind.BitsLiteral ∷ kind.OpenParen ∷ kind.Bang ∷ kind.Minus ∷ kind.False ∷ kind.Not ∷ kind.True ∷ kind.Getter ∷ kind.Setter ∷ []) (kind.OpenParen ∷ kind.OpenBracket ∷ kind.OpenBrace ∷ kind.Dot ∷ kind.ShiftLeft ∷ kind.ShiftRight ∷ kind.Star ∷ kind.Caret ∷ kind.Div ∷ kind.DivRm ∷ kind.In ∷ kind.Mod ∷ [])
unfolding product
f_product =
    let raw : Facts {A = Expr} (by (λ r. chained r.0.1.from r.0.0 r.1) (seq (spanned power) product_rest)) false (kind.Name ∷ kind.IntegerLiteral ∷ kind.BitsLiteral ∷ kind.OpenParen ∷ kind.Bang ∷ kind.Minus ∷ kind.False ∷ kind.Not ∷ kind.True ∷ kind.Getter ∷ kind.Setter ∷ []) (kind.OpenParen ∷ kind.OpenBracket ∷ kind.OpenBrace ∷ kind.Dot ∷ kind.ShiftLeft ∷ kind.ShiftRight ∷ kind.Star ∷ kind.Caret ∷ kind.Div ∷ kind.DivRm ∷ kind.In ∷ kind.Mod ∷ kind.OpenParen ∷ kind.OpenBracket ∷ kind.OpenBrace ∷ kind.Dot ∷ kind.Caret ∷ kind.In ∷ []) = (by_f (seq_f (spanned_f f_power) f_product_rest refl)) in
    fit (kind.Name ∷ kind.IntegerLiteral ∷ kind.BitsLiteral ∷ kind.OpenParen ∷ kind.Bang ∷ kind.Minus ∷ kind.False ∷ kind.Not ∷ kind.True ∷ kind.Getter ∷ kind.Setter ∷ []) (kind.OpenParen ∷ kind.OpenBracket ∷ kind.OpenBrace ∷ kind.Dot ∷ kind.ShiftLeft ∷ kind.ShiftRight ∷ kind.Star ∷ kind.Caret ∷ kind.Div ∷ kind.DivRm ∷ kind.In ∷ kind.Mod ∷ []) raw refl refl

f_sum_rest : Facts sum_rest true (kind.ColonColon ∷ kind.Plus ∷ kind.Minus ∷ kind.BitAnd ∷ kind.BitOr ∷ kind.BitXor ∷ []) (kind.OpenParen ∷ kind.OpenBracket ∷ kind.OpenBrace ∷ kind.Dot ∷ kind.ColonColon ∷ kind.ShiftLeft ∷ kind.ShiftRight ∷ kind.Plus ∷ kind.Minus ∷ kind.Star ∷ kind.Caret ∷ kind.BitAnd ∷ kind.Div ∷ kind.DivRm ∷ kind.In ∷ kind.Mod ∷ kind.BitOr ∷ kind.BitXor ∷ [])
unfolding sum_rest
f_sum_rest =
    let raw : Facts {A = Links} (many (seq (opens (kind.Plus ∷ kind.Minus ∷ kind.BitAnd ∷ kind.BitOr ∷ kind.BitXor ∷ kind.ColonColon ∷ [])) (spanned product))) true (kind.Plus ∷ kind.Minus ∷ kind.BitAnd ∷ kind.BitOr ∷ kind.BitXor ∷ kind.ColonColon ∷ []) (kind.Plus ∷ kind.Minus ∷ kind.BitAnd ∷ kind.BitOr ∷ kind.BitXor ∷ kind.ColonColon ∷ kind.OpenParen ∷ kind.OpenBracket ∷ kind.OpenBrace ∷ kind.Dot ∷ kind.ShiftLeft ∷ kind.ShiftRight ∷ kind.Star ∷ kind.Caret ∷ kind.Div ∷ kind.DivRm ∷ kind.In ∷ kind.Mod ∷ []) = (many_f (seq_f opens_f (spanned_f f_product) refl) refl) in
    fit (kind.ColonColon ∷ kind.Plus ∷ kind.Minus ∷ kind.BitAnd ∷ kind.BitOr ∷ kind.BitXor ∷ []) (kind.OpenParen ∷ kind.OpenBracket ∷ kind.OpenBrace ∷ kind.Dot ∷ kind.ColonColon ∷ kind.ShiftLeft ∷ kind.ShiftRight ∷ kind.Plus ∷ kind.Minus ∷ kind.Star ∷ kind.Caret ∷ kind.BitAnd ∷ kind.Div ∷ kind.DivRm ∷ kind.In ∷ kind.Mod ∷ kind.BitOr ∷ kind.BitXor ∷ []) raw refl refl

f_sum : Facts sum false (kind.Name ∷ kind.IntegerLiteral ∷ kind.BitsLiteral ∷ kind.OpenParen ∷ kind.Bang ∷ kind.Minus ∷ kind.False ∷ kind.Not ∷ kind.True ∷ kind.Getter ∷ kind.Setter ∷ []) (kind.OpenParen ∷ kind.OpenBracket ∷ kind.OpenBrace ∷ kind.Dot ∷ kind.ColonColon ∷ kind.ShiftLeft ∷ kind.ShiftRight ∷ kind.Plus ∷ kind.Minus ∷ kind.Star ∷ kind.Caret ∷ kind.BitAnd ∷ kind.Div ∷ kind.DivRm ∷ kind.In ∷ kind.Mod ∷ kind.BitOr ∷ kind.BitXor ∷ [])
unfolding sum
f_sum =
    let raw : Facts {A = Expr} (by (λ r. chained r.0.1.from r.0.0 r.1) (seq (spanned product) sum_rest)) false (kind.Name ∷ kind.IntegerLiteral ∷ kind.BitsLiteral ∷ kind.OpenParen ∷ kind.Bang ∷ kind.Minus ∷ kind.False ∷ kind.Not ∷ kind.True ∷ kind.Getter ∷ kind.Setter ∷ []) (kind.OpenParen ∷ kind.OpenBracket ∷ kind.OpenBrace ∷ kind.Dot ∷ kind.ColonColon ∷ kind.ShiftLeft ∷ kind.ShiftRight ∷ kind.Plus ∷ kind.Minus ∷ kind.Star ∷ kind.Caret ∷ kind.BitAnd ∷ kind.Div ∷ kind.DivRm ∷ kind.In ∷ kind.Mod ∷ kind.BitOr ∷ kind.BitXor ∷ kind.OpenParen ∷ kind.OpenBracket ∷ kind.OpenBrace ∷ kind.Dot ∷ kind.ShiftLeft ∷ kind.ShiftRight ∷ kind.Star ∷ kind.Caret ∷ kind.Div ∷ kind.DivRm ∷ kind.In ∷ kind.Mod ∷ []) = (by_f (seq_f (spanned_f f_product) f_sum_rest refl)) in
    fit (kind.Name ∷ kind.IntegerLiteral ∷ kind.BitsLiteral ∷ kind.OpenParen ∷ kind.Bang ∷ kind.Minus ∷ kind.False ∷ kind.Not ∷ kind.True ∷ kind.Getter ∷ kind.Setter ∷ []) (kind.OpenParen ∷ kind.OpenBracket ∷ kind.OpenBrace ∷ kind.Dot ∷ kind.ColonColon ∷ kind.ShiftLeft ∷ kind.ShiftRight ∷ kind.Plus ∷ kind.Minus ∷ kind.Star ∷ kind.Caret ∷ kind.BitAnd ∷ kind.Div ∷ kind.DivRm ∷ kind.In ∷ kind.Mod ∷ kind.BitOr ∷ kind.BitXor ∷ []) raw refl refl

f_comparison_rest : Facts comparison_rest true (kind.Less ∷ kind.LessEqual ∷ kind.Greater ∷ kind.GreaterEqual ∷ []) (kind.OpenParen ∷ kind.OpenBracket ∷ kind.OpenBrace ∷ kind.Dot ∷ kind.ColonColon ∷ kind.Less ∷ kind.LessEqual ∷ kind.ShiftLeft ∷ kind.Greater ∷ kind.GreaterEqual ∷ kind.ShiftRight ∷ kind.Plus ∷ kind.Minus ∷ kind.Star ∷ kind.Caret ∷ kind.BitAnd ∷ kind.Div ∷ kind.DivRm ∷ kind.In ∷ kind.Mod ∷ kind.BitOr ∷ kind.BitXor ∷ [])
unfolding comparison_rest
f_comparison_rest =
    let raw : Facts {A = Option Link} (opt (seq (opens (kind.Less ∷ kind.LessEqual ∷ kind.Greater ∷ kind.GreaterEqual ∷ [])) (spanned sum))) true (kind.Less ∷ kind.LessEqual ∷ kind.Greater ∷ kind.GreaterEqual ∷ []) (kind.Less ∷ kind.LessEqual ∷ kind.Greater ∷ kind.GreaterEqual ∷ kind.OpenParen ∷ kind.OpenBracket ∷ kind.OpenBrace ∷ kind.Dot ∷ kind.ColonColon ∷ kind.ShiftLeft ∷ kind.ShiftRight ∷ kind.Plus ∷ kind.Minus ∷ kind.Star ∷ kind.Caret ∷ kind.BitAnd ∷ kind.Div ∷ kind.DivRm ∷ kind.In ∷ kind.Mod ∷ kind.BitOr ∷ kind.BitXor ∷ []) = (opt_f (seq_f opens_f (spanned_f f_sum) refl)) in
    fit (kind.Less ∷ kind.LessEqual ∷ kind.Greater ∷ kind.GreaterEqual ∷ []) (kind.OpenParen ∷ kind.OpenBracket ∷ kind.OpenBrace ∷ kind.Dot ∷ kind.ColonColon ∷ kind.Less ∷ kind.LessEqual ∷ kind.ShiftLeft ∷ kind.Greater ∷ kind.GreaterEqual ∷ kind.ShiftRight ∷ kind.Plus ∷ kind.Minus ∷ kind.Star ∷ kind.Caret ∷ kind.BitAnd ∷ kind.Div ∷ kind.DivRm ∷ kind.In ∷ kind.Mod ∷ kind.BitOr ∷ kind.BitXor ∷ []) raw refl refl

f_comparison : Facts comparison false (kind.Name ∷ kind.IntegerLiteral ∷ kind.BitsLiteral ∷ kind.OpenParen ∷ kind.Bang ∷ kind.Minus ∷ kind.False ∷ kind.Not ∷ kind.True ∷ kind.Getter ∷ kind.Setter ∷ []) (kind.OpenParen ∷ kind.OpenBracket ∷ kind.OpenBrace ∷ kind.Dot ∷ kind.ColonColon ∷ kind.Less ∷ kind.LessEqual ∷ kind.ShiftLeft ∷ kind.Greater ∷ kind.GreaterEqual ∷ kind.ShiftRight ∷ kind.Plus ∷ kind.Minus ∷ kind.Star ∷ kind.Caret ∷ kind.BitAnd ∷ kind.Div ∷ kind.DivRm ∷ kind.In ∷ kind.Mod ∷ kind.BitOr ∷ kind.BitXor ∷ [])
unfolding comparison
f_comparison =
    let raw : Facts {A = Expr} (by (λ r. compared r.0.1.from r.0.0 r.1) (seq (spanned sum) comparison_rest)) false (kind.Name ∷ kind.IntegerLiteral ∷ kind.BitsLiteral ∷ kind.OpenParen ∷ kind.Bang ∷ kind.Minus ∷ kind.False ∷ kind.Not ∷ kind.True ∷ kind.Getter ∷ kind.Setter ∷ []) (kind.OpenParen ∷ kind.OpenBracket ∷ kind.OpenBrace ∷ kind.Dot ∷ kind.ColonColon ∷ kind.Less ∷ kind.LessEqual ∷ kind.ShiftLeft ∷ kind.Greater ∷ kind.GreaterEqual ∷ kind.ShiftRight ∷ kind.Plus ∷ kind.Minus ∷ kind.Star ∷ kind.Caret ∷ kind.BitAnd ∷ kind.Div ∷ kind.DivRm ∷ kind.In ∷ kind.Mod ∷ kind.BitOr ∷ kind.BitXor ∷ kind.OpenParen ∷ kind.OpenBracket ∷ kind.OpenBrace ∷ kind.Dot ∷ kind.ColonColon ∷ kind.ShiftLeft ∷ kind.ShiftRight ∷ kind.Plus ∷ kind.Minus ∷ kind.Star ∷ kind.Caret ∷ kind.BitAnd ∷ kind.Div ∷ kind.DivRm ∷ kind.In ∷ kind.Mod ∷ kind.BitOr ∷ kind.BitXor ∷ []) = (by_f (seq_f (spanned_f f_sum) f_comparison_rest refl)) in
    fit (kind.Name ∷ kind.IntegerLiteral ∷ kind.BitsLiteral ∷ kind.OpenParen ∷ kind.Bang ∷ kind.Minus ∷ kind.False ∷ kind.Not ∷ kind.True ∷ kind.Getter ∷ kind.Setter ∷ []) (kind.OpenParen ∷ kind.OpenBracket ∷ kind.OpenBrace ∷ kind.Dot ∷ kind.ColonColon ∷ kind.Less ∷ kind.LessEqual ∷ kind.ShiftLeft ∷ kind.Greater ∷ kind.GreaterEqual ∷ kind.ShiftRight ∷ kind.Plus ∷ kind.Minus ∷ kind.Star ∷ kind.Caret ∷ kind.BitAnd ∷ kind.Div ∷ kind.DivRm ∷ kind.In ∷ kind.Mod ∷ kind.BitOr ∷ kind.BitXor ∷ []) raw refl refl

f_equality_rest : Facts equality_rest true (kind.Equal ∷ kind.NotEqual ∷ []) (kind.OpenParen ∷ kind.OpenBracket ∷ kind.OpenBrace ∷ kind.Dot ∷ kind.ColonColon ∷ kind.Equal ∷ kind.NotEqual ∷ kind.Less ∷ kind.LessEqual ∷ kind.ShiftLeft ∷ kind.Greater ∷ kind.GreaterEqual ∷ kind.ShiftRight ∷ kind.Plus ∷ kind.Minus ∷ kind.Star ∷ kind.Caret ∷ kind.BitAnd ∷ kind.Div ∷ kind.DivRm ∷ kind.In ∷ kind.Mod ∷ kind.BitOr ∷ kind.BitXor ∷ [])
unfolding equality_rest
f_equality_rest =
    let raw : Facts {A = Links} (many (seq (opens (kind.Equal ∷ kind.NotEqual ∷ [])) (spanned comparison))) true (kind.Equal ∷ kind.NotEqual ∷ []) (kind.Equal ∷ kind.NotEqual ∷ kind.OpenParen ∷ kind.OpenBracket ∷ kind.OpenBrace ∷ kind.Dot ∷ kind.ColonColon ∷ kind.Less ∷ kind.LessEqual ∷ kind.ShiftLeft ∷ kind.Greater ∷ kind.GreaterEqual ∷ kind.ShiftRight ∷ kind.Plus ∷ kind.Minus ∷ kind.Star ∷ kind.Caret ∷ kind.BitAnd ∷ kind.Div ∷ kind.DivRm ∷ kind.In ∷ kind.Mod ∷ kind.BitOr ∷ kind.BitXor ∷ []) = (many_f (seq_f opens_f (spanned_f f_comparison) refl) refl) in
    fit (kind.Equal ∷ kind.NotEqual ∷ []) (kind.OpenParen ∷ kind.OpenBracket ∷ kind.OpenBrace ∷ kind.Dot ∷ kind.ColonColon ∷ kind.Equal ∷ kind.NotEqual ∷ kind.Less ∷ kind.LessEqual ∷ kind.ShiftLeft ∷ kind.Greater ∷ kind.GreaterEqual ∷ kind.ShiftRight ∷ kind.Plus ∷ kind.Minus ∷ kind.Star ∷ kind.Caret ∷ kind.BitAnd ∷ kind.Div ∷ kind.DivRm ∷ kind.In ∷ kind.Mod ∷ kind.BitOr ∷ kind.BitXor ∷ []) raw refl refl

f_equality : Facts equality false (kind.Name ∷ kind.IntegerLiteral ∷ kind.BitsLiteral ∷ kind.OpenParen ∷ kind.Bang ∷ kind.Minus ∷ kind.False ∷ kind.Not ∷ kind.True ∷ kind.Getter ∷ kind.Setter ∷ []) (kind.OpenParen ∷ kind.OpenBracket ∷ kind.OpenBrace ∷ kind.Dot ∷ kind.ColonColon ∷ kind.Equal ∷ kind.NotEqual ∷ kind.Less ∷ kind.LessEqual ∷ kind.ShiftLeft ∷ kind.Greater ∷ kind.GreaterEqual ∷ kind.ShiftRight ∷ kind.Plus ∷ kind.Minus ∷ kind.Star ∷ kind.Caret ∷ kind.BitAnd ∷ kind.Div ∷ kind.DivRm ∷ kind.In ∷ kind.Mod ∷ kind.BitOr ∷ kind.BitXor ∷ [])
unfolding equality
f_equality =
    let raw : Facts {A = Expr} (by (λ r. chained r.0.1.from r.0.0 r.1) (seq (spanned comparison) equality_rest)) false (kind.Name ∷ kind.IntegerLiteral ∷ kind.BitsLiteral ∷ kind.OpenParen ∷ kind.Bang ∷ kind.Minus ∷ kind.False ∷ kind.Not ∷ kind.True ∷ kind.Getter ∷ kind.Setter ∷ []) (kind.OpenParen ∷ kind.OpenBracket ∷ kind.OpenBrace ∷ kind.Dot ∷ kind.ColonColon ∷ kind.Equal ∷ kind.NotEqual ∷ kind.Less ∷ kind.LessEqual ∷ kind.ShiftLeft ∷ kind.Greater ∷ kind.GreaterEqual ∷ kind.ShiftRight ∷ kind.Plus ∷ kind.Minus ∷ kind.Star ∷ kind.Caret ∷ kind.BitAnd ∷ kind.Div ∷ kind.DivRm ∷ kind.In ∷ kind.Mod ∷ kind.BitOr ∷ kind.BitXor ∷ kind.OpenParen ∷ kind.OpenBracket ∷ kind.OpenBrace ∷ kind.Dot ∷ kind.ColonColon ∷ kind.Less ∷ kind.LessEqual ∷ kind.ShiftLeft ∷ kind.Greater ∷ kind.GreaterEqual ∷ kind.ShiftRight ∷ kind.Plus ∷ kind.Minus ∷ kind.Star ∷ kind.Caret ∷ kind.BitAnd ∷ kind.Div ∷ kind.DivRm ∷ kind.In ∷ kind.Mod ∷ kind.BitOr ∷ kind.BitXor ∷ []) = (by_f (seq_f (spanned_f f_comparison) f_equality_rest refl)) in
    fit (kind.Name ∷ kind.IntegerLiteral ∷ kind.BitsLiteral ∷ kind.OpenParen ∷ kind.Bang ∷ kind.Minus ∷ kind.False ∷ kind.Not ∷ kind.True ∷ kind.Getter ∷ kind.Setter ∷ []) (kind.OpenParen ∷ kind.OpenBracket ∷ kind.OpenBrace ∷ kind.Dot ∷ kind.ColonColon ∷ kind.Equal ∷ kind.NotEqual ∷ kind.Less ∷ kind.LessEqual ∷ kind.ShiftLeft ∷ kind.Greater ∷ kind.GreaterEqual ∷ kind.ShiftRight ∷ kind.Plus ∷ kind.Minus ∷ kind.Star ∷ kind.Caret ∷ kind.BitAnd ∷ kind.Div ∷ kind.DivRm ∷ kind.In ∷ kind.Mod ∷ kind.BitOr ∷ kind.BitXor ∷ []) raw refl refl

f_links_by_and_and : Facts (links_by kind.AndAnd) true (kind.AndAnd ∷ []) (kind.OpenParen ∷ kind.OpenBracket ∷ kind.OpenBrace ∷ kind.Dot ∷ kind.ColonColon ∷ kind.Equal ∷ kind.NotEqual ∷ kind.AndAnd ∷ kind.Less ∷ kind.LessEqual ∷ kind.ShiftLeft ∷ kind.Greater ∷ kind.GreaterEqual ∷ kind.ShiftRight ∷ kind.Plus ∷ kind.Minus ∷ kind.Star ∷ kind.Caret ∷ kind.BitAnd ∷ kind.Div ∷ kind.DivRm ∷ kind.In ∷ kind.Mod ∷ kind.BitOr ∷ kind.BitXor ∷ [])
unfolding links_by
f_links_by_and_and =
    let raw : Facts {A = Links} (many (seq (opens (kind.AndAnd ∷ [])) (spanned equality))) true (kind.AndAnd ∷ []) (kind.AndAnd ∷ kind.OpenParen ∷ kind.OpenBracket ∷ kind.OpenBrace ∷ kind.Dot ∷ kind.ColonColon ∷ kind.Equal ∷ kind.NotEqual ∷ kind.Less ∷ kind.LessEqual ∷ kind.ShiftLeft ∷ kind.Greater ∷ kind.GreaterEqual ∷ kind.ShiftRight ∷ kind.Plus ∷ kind.Minus ∷ kind.Star ∷ kind.Caret ∷ kind.BitAnd ∷ kind.Div ∷ kind.DivRm ∷ kind.In ∷ kind.Mod ∷ kind.BitOr ∷ kind.BitXor ∷ []) = (many_f (seq_f opens_f (spanned_f f_equality) refl) refl) in
    fit (kind.AndAnd ∷ []) (kind.OpenParen ∷ kind.OpenBracket ∷ kind.OpenBrace ∷ kind.Dot ∷ kind.ColonColon ∷ kind.Equal ∷ kind.NotEqual ∷ kind.AndAnd ∷ kind.Less ∷ kind.LessEqual ∷ kind.ShiftLeft ∷ kind.Greater ∷ kind.GreaterEqual ∷ kind.ShiftRight ∷ kind.Plus ∷ kind.Minus ∷ kind.Star ∷ kind.Caret ∷ kind.BitAnd ∷ kind.Div ∷ kind.DivRm ∷ kind.In ∷ kind.Mod ∷ kind.BitOr ∷ kind.BitXor ∷ []) raw refl refl

f_some_links_by_and_and : Facts (some_links_by kind.AndAnd) false (kind.AndAnd ∷ []) (kind.OpenParen ∷ kind.OpenBracket ∷ kind.OpenBrace ∷ kind.Dot ∷ kind.ColonColon ∷ kind.Equal ∷ kind.NotEqual ∷ kind.AndAnd ∷ kind.Less ∷ kind.LessEqual ∷ kind.ShiftLeft ∷ kind.Greater ∷ kind.GreaterEqual ∷ kind.ShiftRight ∷ kind.Plus ∷ kind.Minus ∷ kind.Star ∷ kind.Caret ∷ kind.BitAnd ∷ kind.Div ∷ kind.DivRm ∷ kind.In ∷ kind.Mod ∷ kind.BitOr ∷ kind.BitXor ∷ [])
unfolding some_links_by
f_some_links_by_and_and =
    let raw : Facts {A = Links} (by (λ r. (r.0, r.1.0) ∷ r.1.1) (seq (opens (kind.AndAnd ∷ [])) (seq (spanned equality) (links_by kind.AndAnd)))) false (kind.AndAnd ∷ []) (kind.OpenParen ∷ kind.OpenBracket ∷ kind.OpenBrace ∷ kind.Dot ∷ kind.ColonColon ∷ kind.Equal ∷ kind.NotEqual ∷ kind.AndAnd ∷ kind.Less ∷ kind.LessEqual ∷ kind.ShiftLeft ∷ kind.Greater ∷ kind.GreaterEqual ∷ kind.ShiftRight ∷ kind.Plus ∷ kind.Minus ∷ kind.Star ∷ kind.Caret ∷ kind.BitAnd ∷ kind.Div ∷ kind.DivRm ∷ kind.In ∷ kind.Mod ∷ kind.BitOr ∷ kind.BitXor ∷ kind.OpenParen ∷ kind.OpenBracket ∷ kind.OpenBrace ∷ kind.Dot ∷ kind.ColonColon ∷ kind.Equal ∷ kind.NotEqual ∷ kind.Less ∷ kind.LessEqual ∷ kind.ShiftLeft ∷ kind.Greater ∷ kind.GreaterEqual ∷ kind.ShiftRight ∷ kind.Plus ∷ kind.Minus ∷ kind.Star ∷ kind.Caret ∷ kind.BitAnd ∷ kind.Div ∷ kind.DivRm ∷ kind.In ∷ kind.Mod ∷ kind.BitOr ∷ kind.BitXor ∷ []) = (by_f (seq_f opens_f (seq_f (spanned_f f_equality) f_links_by_and_and refl) refl)) in
    fit (kind.AndAnd ∷ []) (kind.OpenParen ∷ kind.OpenBracket ∷ kind.OpenBrace ∷ kind.Dot ∷ kind.ColonColon ∷ kind.Equal ∷ kind.NotEqual ∷ kind.AndAnd ∷ kind.Less ∷ kind.LessEqual ∷ kind.ShiftLeft ∷ kind.Greater ∷ kind.GreaterEqual ∷ kind.ShiftRight ∷ kind.Plus ∷ kind.Minus ∷ kind.Star ∷ kind.Caret ∷ kind.BitAnd ∷ kind.Div ∷ kind.DivRm ∷ kind.In ∷ kind.Mod ∷ kind.BitOr ∷ kind.BitXor ∷ []) raw refl refl

f_links_by_or_or : Facts (links_by kind.OrOr) true (kind.OrOr ∷ []) (kind.OpenParen ∷ kind.OpenBracket ∷ kind.OpenBrace ∷ kind.Dot ∷ kind.ColonColon ∷ kind.Equal ∷ kind.NotEqual ∷ kind.OrOr ∷ kind.Less ∷ kind.LessEqual ∷ kind.ShiftLeft ∷ kind.Greater ∷ kind.GreaterEqual ∷ kind.ShiftRight ∷ kind.Plus ∷ kind.Minus ∷ kind.Star ∷ kind.Caret ∷ kind.BitAnd ∷ kind.Div ∷ kind.DivRm ∷ kind.In ∷ kind.Mod ∷ kind.BitOr ∷ kind.BitXor ∷ [])
unfolding links_by
f_links_by_or_or =
    let raw : Facts {A = Links} (many (seq (opens (kind.OrOr ∷ [])) (spanned equality))) true (kind.OrOr ∷ []) (kind.OrOr ∷ kind.OpenParen ∷ kind.OpenBracket ∷ kind.OpenBrace ∷ kind.Dot ∷ kind.ColonColon ∷ kind.Equal ∷ kind.NotEqual ∷ kind.Less ∷ kind.LessEqual ∷ kind.ShiftLeft ∷ kind.Greater ∷ kind.GreaterEqual ∷ kind.ShiftRight ∷ kind.Plus ∷ kind.Minus ∷ kind.Star ∷ kind.Caret ∷ kind.BitAnd ∷ kind.Div ∷ kind.DivRm ∷ kind.In ∷ kind.Mod ∷ kind.BitOr ∷ kind.BitXor ∷ []) = (many_f (seq_f opens_f (spanned_f f_equality) refl) refl) in
    fit (kind.OrOr ∷ []) (kind.OpenParen ∷ kind.OpenBracket ∷ kind.OpenBrace ∷ kind.Dot ∷ kind.ColonColon ∷ kind.Equal ∷ kind.NotEqual ∷ kind.OrOr ∷ kind.Less ∷ kind.LessEqual ∷ kind.ShiftLeft ∷ kind.Greater ∷ kind.GreaterEqual ∷ kind.ShiftRight ∷ kind.Plus ∷ kind.Minus ∷ kind.Star ∷ kind.Caret ∷ kind.BitAnd ∷ kind.Div ∷ kind.DivRm ∷ kind.In ∷ kind.Mod ∷ kind.BitOr ∷ kind.BitXor ∷ []) raw refl refl

f_some_links_by_or_or : Facts (some_links_by kind.OrOr) false (kind.OrOr ∷ []) (kind.OpenParen ∷ kind.OpenBracket ∷ kind.OpenBrace ∷ kind.Dot ∷ kind.ColonColon ∷ kind.Equal ∷ kind.NotEqual ∷ kind.OrOr ∷ kind.Less ∷ kind.LessEqual ∷ kind.ShiftLeft ∷ kind.Greater ∷ kind.GreaterEqual ∷ kind.ShiftRight ∷ kind.Plus ∷ kind.Minus ∷ kind.Star ∷ kind.Caret ∷ kind.BitAnd ∷ kind.Div ∷ kind.DivRm ∷ kind.In ∷ kind.Mod ∷ kind.BitOr ∷ kind.BitXor ∷ [])
unfolding some_links_by
f_some_links_by_or_or =
    let raw : Facts {A = Links} (by (λ r. (r.0, r.1.0) ∷ r.1.1) (seq (opens (kind.OrOr ∷ [])) (seq (spanned equality) (links_by kind.OrOr)))) false (kind.OrOr ∷ []) (kind.OpenParen ∷ kind.OpenBracket ∷ kind.OpenBrace ∷ kind.Dot ∷ kind.ColonColon ∷ kind.Equal ∷ kind.NotEqual ∷ kind.OrOr ∷ kind.Less ∷ kind.LessEqual ∷ kind.ShiftLeft ∷ kind.Greater ∷ kind.GreaterEqual ∷ kind.ShiftRight ∷ kind.Plus ∷ kind.Minus ∷ kind.Star ∷ kind.Caret ∷ kind.BitAnd ∷ kind.Div ∷ kind.DivRm ∷ kind.In ∷ kind.Mod ∷ kind.BitOr ∷ kind.BitXor ∷ kind.OpenParen ∷ kind.OpenBracket ∷ kind.OpenBrace ∷ kind.Dot ∷ kind.ColonColon ∷ kind.Equal ∷ kind.NotEqual ∷ kind.Less ∷ kind.LessEqual ∷ kind.ShiftLeft ∷ kind.Greater ∷ kind.GreaterEqual ∷ kind.ShiftRight ∷ kind.Plus ∷ kind.Minus ∷ kind.Star ∷ kind.Caret ∷ kind.BitAnd ∷ kind.Div ∷ kind.DivRm ∷ kind.In ∷ kind.Mod ∷ kind.BitOr ∷ kind.BitXor ∷ []) = (by_f (seq_f opens_f (seq_f (spanned_f f_equality) f_links_by_or_or refl) refl)) in
    fit (kind.OrOr ∷ []) (kind.OpenParen ∷ kind.OpenBracket ∷ kind.OpenBrace ∷ kind.Dot ∷ kind.ColonColon ∷ kind.Equal ∷ kind.NotEqual ∷ kind.OrOr ∷ kind.Less ∷ kind.LessEqual ∷ kind.ShiftLeft ∷ kind.Greater ∷ kind.GreaterEqual ∷ kind.ShiftRight ∷ kind.Plus ∷ kind.Minus ∷ kind.Star ∷ kind.Caret ∷ kind.BitAnd ∷ kind.Div ∷ kind.DivRm ∷ kind.In ∷ kind.Mod ∷ kind.BitOr ∷ kind.BitXor ∷ []) raw refl refl

f_links_by_implies : Facts (links_by kind.Implies) true (kind.Implies ∷ []) (kind.OpenParen ∷ kind.OpenBracket ∷ kind.OpenBrace ∷ kind.Dot ∷ kind.ColonColon ∷ kind.Equal ∷ kind.NotEqual ∷ kind.Implies ∷ kind.Less ∷ kind.LessEqual ∷ kind.ShiftLeft ∷ kind.Greater ∷ kind.GreaterEqual ∷ kind.ShiftRight ∷ kind.Plus ∷ kind.Minus ∷ kind.Star ∷ kind.Caret ∷ kind.BitAnd ∷ kind.Div ∷ kind.DivRm ∷ kind.In ∷ kind.Mod ∷ kind.BitOr ∷ kind.BitXor ∷ [])
unfolding links_by
f_links_by_implies =
    let raw : Facts {A = Links} (many (seq (opens (kind.Implies ∷ [])) (spanned equality))) true (kind.Implies ∷ []) (kind.Implies ∷ kind.OpenParen ∷ kind.OpenBracket ∷ kind.OpenBrace ∷ kind.Dot ∷ kind.ColonColon ∷ kind.Equal ∷ kind.NotEqual ∷ kind.Less ∷ kind.LessEqual ∷ kind.ShiftLeft ∷ kind.Greater ∷ kind.GreaterEqual ∷ kind.ShiftRight ∷ kind.Plus ∷ kind.Minus ∷ kind.Star ∷ kind.Caret ∷ kind.BitAnd ∷ kind.Div ∷ kind.DivRm ∷ kind.In ∷ kind.Mod ∷ kind.BitOr ∷ kind.BitXor ∷ []) = (many_f (seq_f opens_f (spanned_f f_equality) refl) refl) in
    fit (kind.Implies ∷ []) (kind.OpenParen ∷ kind.OpenBracket ∷ kind.OpenBrace ∷ kind.Dot ∷ kind.ColonColon ∷ kind.Equal ∷ kind.NotEqual ∷ kind.Implies ∷ kind.Less ∷ kind.LessEqual ∷ kind.ShiftLeft ∷ kind.Greater ∷ kind.GreaterEqual ∷ kind.ShiftRight ∷ kind.Plus ∷ kind.Minus ∷ kind.Star ∷ kind.Caret ∷ kind.BitAnd ∷ kind.Div ∷ kind.DivRm ∷ kind.In ∷ kind.Mod ∷ kind.BitOr ∷ kind.BitXor ∷ []) raw refl refl

f_some_links_by_implies : Facts (some_links_by kind.Implies) false (kind.Implies ∷ []) (kind.OpenParen ∷ kind.OpenBracket ∷ kind.OpenBrace ∷ kind.Dot ∷ kind.ColonColon ∷ kind.Equal ∷ kind.NotEqual ∷ kind.Implies ∷ kind.Less ∷ kind.LessEqual ∷ kind.ShiftLeft ∷ kind.Greater ∷ kind.GreaterEqual ∷ kind.ShiftRight ∷ kind.Plus ∷ kind.Minus ∷ kind.Star ∷ kind.Caret ∷ kind.BitAnd ∷ kind.Div ∷ kind.DivRm ∷ kind.In ∷ kind.Mod ∷ kind.BitOr ∷ kind.BitXor ∷ [])
unfolding some_links_by
f_some_links_by_implies =
    let raw : Facts {A = Links} (by (λ r. (r.0, r.1.0) ∷ r.1.1) (seq (opens (kind.Implies ∷ [])) (seq (spanned equality) (links_by kind.Implies)))) false (kind.Implies ∷ []) (kind.OpenParen ∷ kind.OpenBracket ∷ kind.OpenBrace ∷ kind.Dot ∷ kind.ColonColon ∷ kind.Equal ∷ kind.NotEqual ∷ kind.Implies ∷ kind.Less ∷ kind.LessEqual ∷ kind.ShiftLeft ∷ kind.Greater ∷ kind.GreaterEqual ∷ kind.ShiftRight ∷ kind.Plus ∷ kind.Minus ∷ kind.Star ∷ kind.Caret ∷ kind.BitAnd ∷ kind.Div ∷ kind.DivRm ∷ kind.In ∷ kind.Mod ∷ kind.BitOr ∷ kind.BitXor ∷ kind.OpenParen ∷ kind.OpenBracket ∷ kind.OpenBrace ∷ kind.Dot ∷ kind.ColonColon ∷ kind.Equal ∷ kind.NotEqual ∷ kind.Less ∷ kind.LessEqual ∷ kind.ShiftLeft ∷ kind.Greater ∷ kind.GreaterEqual ∷ kind.ShiftRight ∷ kind.Plus ∷ kind.Minus ∷ kind.Star ∷ kind.Caret ∷ kind.BitAnd ∷ kind.Div ∷ kind.DivRm ∷ kind.In ∷ kind.Mod ∷ kind.BitOr ∷ kind.BitXor ∷ []) = (by_f (seq_f opens_f (seq_f (spanned_f f_equality) f_links_by_implies refl) refl)) in
    fit (kind.Implies ∷ []) (kind.OpenParen ∷ kind.OpenBracket ∷ kind.OpenBrace ∷ kind.Dot ∷ kind.ColonColon ∷ kind.Equal ∷ kind.NotEqual ∷ kind.Implies ∷ kind.Less ∷ kind.LessEqual ∷ kind.ShiftLeft ∷ kind.Greater ∷ kind.GreaterEqual ∷ kind.ShiftRight ∷ kind.Plus ∷ kind.Minus ∷ kind.Star ∷ kind.Caret ∷ kind.BitAnd ∷ kind.Div ∷ kind.DivRm ∷ kind.In ∷ kind.Mod ∷ kind.BitOr ∷ kind.BitXor ∷ []) raw refl refl

f_links_by_iff : Facts (links_by kind.Iff) true (kind.Iff ∷ []) (kind.OpenParen ∷ kind.OpenBracket ∷ kind.OpenBrace ∷ kind.Dot ∷ kind.ColonColon ∷ kind.Equal ∷ kind.NotEqual ∷ kind.Iff ∷ kind.Less ∷ kind.LessEqual ∷ kind.ShiftLeft ∷ kind.Greater ∷ kind.GreaterEqual ∷ kind.ShiftRight ∷ kind.Plus ∷ kind.Minus ∷ kind.Star ∷ kind.Caret ∷ kind.BitAnd ∷ kind.Div ∷ kind.DivRm ∷ kind.In ∷ kind.Mod ∷ kind.BitOr ∷ kind.BitXor ∷ [])
unfolding links_by
f_links_by_iff =
    let raw : Facts {A = Links} (many (seq (opens (kind.Iff ∷ [])) (spanned equality))) true (kind.Iff ∷ []) (kind.Iff ∷ kind.OpenParen ∷ kind.OpenBracket ∷ kind.OpenBrace ∷ kind.Dot ∷ kind.ColonColon ∷ kind.Equal ∷ kind.NotEqual ∷ kind.Less ∷ kind.LessEqual ∷ kind.ShiftLeft ∷ kind.Greater ∷ kind.GreaterEqual ∷ kind.ShiftRight ∷ kind.Plus ∷ kind.Minus ∷ kind.Star ∷ kind.Caret ∷ kind.BitAnd ∷ kind.Div ∷ kind.DivRm ∷ kind.In ∷ kind.Mod ∷ kind.BitOr ∷ kind.BitXor ∷ []) = (many_f (seq_f opens_f (spanned_f f_equality) refl) refl) in
    fit (kind.Iff ∷ []) (kind.OpenParen ∷ kind.OpenBracket ∷ kind.OpenBrace ∷ kind.Dot ∷ kind.ColonColon ∷ kind.Equal ∷ kind.NotEqual ∷ kind.Iff ∷ kind.Less ∷ kind.LessEqual ∷ kind.ShiftLeft ∷ kind.Greater ∷ kind.GreaterEqual ∷ kind.ShiftRight ∷ kind.Plus ∷ kind.Minus ∷ kind.Star ∷ kind.Caret ∷ kind.BitAnd ∷ kind.Div ∷ kind.DivRm ∷ kind.In ∷ kind.Mod ∷ kind.BitOr ∷ kind.BitXor ∷ []) raw refl refl

f_some_links_by_iff : Facts (some_links_by kind.Iff) false (kind.Iff ∷ []) (kind.OpenParen ∷ kind.OpenBracket ∷ kind.OpenBrace ∷ kind.Dot ∷ kind.ColonColon ∷ kind.Equal ∷ kind.NotEqual ∷ kind.Iff ∷ kind.Less ∷ kind.LessEqual ∷ kind.ShiftLeft ∷ kind.Greater ∷ kind.GreaterEqual ∷ kind.ShiftRight ∷ kind.Plus ∷ kind.Minus ∷ kind.Star ∷ kind.Caret ∷ kind.BitAnd ∷ kind.Div ∷ kind.DivRm ∷ kind.In ∷ kind.Mod ∷ kind.BitOr ∷ kind.BitXor ∷ [])
unfolding some_links_by
f_some_links_by_iff =
    let raw : Facts {A = Links} (by (λ r. (r.0, r.1.0) ∷ r.1.1) (seq (opens (kind.Iff ∷ [])) (seq (spanned equality) (links_by kind.Iff)))) false (kind.Iff ∷ []) (kind.OpenParen ∷ kind.OpenBracket ∷ kind.OpenBrace ∷ kind.Dot ∷ kind.ColonColon ∷ kind.Equal ∷ kind.NotEqual ∷ kind.Iff ∷ kind.Less ∷ kind.LessEqual ∷ kind.ShiftLeft ∷ kind.Greater ∷ kind.GreaterEqual ∷ kind.ShiftRight ∷ kind.Plus ∷ kind.Minus ∷ kind.Star ∷ kind.Caret ∷ kind.BitAnd ∷ kind.Div ∷ kind.DivRm ∷ kind.In ∷ kind.Mod ∷ kind.BitOr ∷ kind.BitXor ∷ kind.OpenParen ∷ kind.OpenBracket ∷ kind.OpenBrace ∷ kind.Dot ∷ kind.ColonColon ∷ kind.Equal ∷ kind.NotEqual ∷ kind.Less ∷ kind.LessEqual ∷ kind.ShiftLeft ∷ kind.Greater ∷ kind.GreaterEqual ∷ kind.ShiftRight ∷ kind.Plus ∷ kind.Minus ∷ kind.Star ∷ kind.Caret ∷ kind.BitAnd ∷ kind.Div ∷ kind.DivRm ∷ kind.In ∷ kind.Mod ∷ kind.BitOr ∷ kind.BitXor ∷ []) = (by_f (seq_f opens_f (seq_f (spanned_f f_equality) f_links_by_iff refl) refl)) in
    fit (kind.Iff ∷ []) (kind.OpenParen ∷ kind.OpenBracket ∷ kind.OpenBrace ∷ kind.Dot ∷ kind.ColonColon ∷ kind.Equal ∷ kind.NotEqual ∷ kind.Iff ∷ kind.Less ∷ kind.LessEqual ∷ kind.ShiftLeft ∷ kind.Greater ∷ kind.GreaterEqual ∷ kind.ShiftRight ∷ kind.Plus ∷ kind.Minus ∷ kind.Star ∷ kind.Caret ∷ kind.BitAnd ∷ kind.Div ∷ kind.DivRm ∷ kind.In ∷ kind.Mod ∷ kind.BitOr ∷ kind.BitXor ∷ []) raw refl refl

f_logic_links : Facts logic_links false (kind.AndAnd ∷ kind.OrOr ∷ kind.Implies ∷ kind.Iff ∷ []) (kind.OpenParen ∷ kind.OpenBracket ∷ kind.OpenBrace ∷ kind.Dot ∷ kind.ColonColon ∷ kind.Equal ∷ kind.NotEqual ∷ kind.AndAnd ∷ kind.OrOr ∷ kind.Implies ∷ kind.Iff ∷ kind.Less ∷ kind.LessEqual ∷ kind.ShiftLeft ∷ kind.Greater ∷ kind.GreaterEqual ∷ kind.ShiftRight ∷ kind.Plus ∷ kind.Minus ∷ kind.Star ∷ kind.Caret ∷ kind.BitAnd ∷ kind.Div ∷ kind.DivRm ∷ kind.In ∷ kind.Mod ∷ kind.BitOr ∷ kind.BitXor ∷ [])
unfolding logic_links
f_logic_links =
    let raw : Facts {A = Links} (either (some_links_by kind.AndAnd) (either (some_links_by kind.OrOr) (either (some_links_by kind.Implies) (some_links_by kind.Iff)))) false (kind.AndAnd ∷ kind.OrOr ∷ kind.Implies ∷ kind.Iff ∷ []) (kind.OpenParen ∷ kind.OpenBracket ∷ kind.OpenBrace ∷ kind.Dot ∷ kind.ColonColon ∷ kind.Equal ∷ kind.NotEqual ∷ kind.AndAnd ∷ kind.Less ∷ kind.LessEqual ∷ kind.ShiftLeft ∷ kind.Greater ∷ kind.GreaterEqual ∷ kind.ShiftRight ∷ kind.Plus ∷ kind.Minus ∷ kind.Star ∷ kind.Caret ∷ kind.BitAnd ∷ kind.Div ∷ kind.DivRm ∷ kind.In ∷ kind.Mod ∷ kind.BitOr ∷ kind.BitXor ∷ kind.OpenParen ∷ kind.OpenBracket ∷ kind.OpenBrace ∷ kind.Dot ∷ kind.ColonColon ∷ kind.Equal ∷ kind.NotEqual ∷ kind.OrOr ∷ kind.Implies ∷ kind.Iff ∷ kind.Less ∷ kind.LessEqual ∷ kind.ShiftLeft ∷ kind.Greater ∷ kind.GreaterEqual ∷ kind.ShiftRight ∷ kind.Plus ∷ kind.Minus ∷ kind.Star ∷ kind.Caret ∷ kind.BitAnd ∷ kind.Div ∷ kind.DivRm ∷ kind.In ∷ kind.Mod ∷ kind.BitOr ∷ kind.BitXor ∷ []) = (either_f f_some_links_by_and_and (fit (kind.OrOr ∷ kind.Implies ∷ kind.Iff ∷ []) (kind.OpenParen ∷ kind.OpenBracket ∷ kind.OpenBrace ∷ kind.Dot ∷ kind.ColonColon ∷ kind.Equal ∷ kind.NotEqual ∷ kind.OrOr ∷ kind.Implies ∷ kind.Iff ∷ kind.Less ∷ kind.LessEqual ∷ kind.ShiftLeft ∷ kind.Greater ∷ kind.GreaterEqual ∷ kind.ShiftRight ∷ kind.Plus ∷ kind.Minus ∷ kind.Star ∷ kind.Caret ∷ kind.BitAnd ∷ kind.Div ∷ kind.DivRm ∷ kind.In ∷ kind.Mod ∷ kind.BitOr ∷ kind.BitXor ∷ []) (either_f f_some_links_by_or_or (either_f f_some_links_by_implies f_some_links_by_iff refl) refl) refl refl) refl) in
    fit (kind.AndAnd ∷ kind.OrOr ∷ kind.Implies ∷ kind.Iff ∷ []) (kind.OpenParen ∷ kind.OpenBracket ∷ kind.OpenBrace ∷ kind.Dot ∷ kind.ColonColon ∷ kind.Equal ∷ kind.NotEqual ∷ kind.AndAnd ∷ kind.OrOr ∷ kind.Implies ∷ kind.Iff ∷ kind.Less ∷ kind.LessEqual ∷ kind.ShiftLeft ∷ kind.Greater ∷ kind.GreaterEqual ∷ kind.ShiftRight ∷ kind.Plus ∷ kind.Minus ∷ kind.Star ∷ kind.Caret ∷ kind.BitAnd ∷ kind.Div ∷ kind.DivRm ∷ kind.In ∷ kind.Mod ∷ kind.BitOr ∷ kind.BitXor ∷ []) raw refl refl

f_logic_rest : Facts logic_rest true (kind.AndAnd ∷ kind.OrOr ∷ kind.Implies ∷ kind.Iff ∷ []) (kind.OpenParen ∷ kind.OpenBracket ∷ kind.OpenBrace ∷ kind.Dot ∷ kind.ColonColon ∷ kind.Equal ∷ kind.NotEqual ∷ kind.AndAnd ∷ kind.OrOr ∷ kind.Implies ∷ kind.Iff ∷ kind.Less ∷ kind.LessEqual ∷ kind.ShiftLeft ∷ kind.Greater ∷ kind.GreaterEqual ∷ kind.ShiftRight ∷ kind.Plus ∷ kind.Minus ∷ kind.Star ∷ kind.Caret ∷ kind.BitAnd ∷ kind.Div ∷ kind.DivRm ∷ kind.In ∷ kind.Mod ∷ kind.BitOr ∷ kind.BitXor ∷ [])
unfolding logic_rest
f_logic_rest =
    let raw : Facts {A = Option Links} (opt logic_links) true (kind.AndAnd ∷ kind.OrOr ∷ kind.Implies ∷ kind.Iff ∷ []) (kind.AndAnd ∷ kind.OrOr ∷ kind.Implies ∷ kind.Iff ∷ kind.OpenParen ∷ kind.OpenBracket ∷ kind.OpenBrace ∷ kind.Dot ∷ kind.ColonColon ∷ kind.Equal ∷ kind.NotEqual ∷ kind.AndAnd ∷ kind.OrOr ∷ kind.Implies ∷ kind.Iff ∷ kind.Less ∷ kind.LessEqual ∷ kind.ShiftLeft ∷ kind.Greater ∷ kind.GreaterEqual ∷ kind.ShiftRight ∷ kind.Plus ∷ kind.Minus ∷ kind.Star ∷ kind.Caret ∷ kind.BitAnd ∷ kind.Div ∷ kind.DivRm ∷ kind.In ∷ kind.Mod ∷ kind.BitOr ∷ kind.BitXor ∷ []) = (opt_f f_logic_links) in
    fit (kind.AndAnd ∷ kind.OrOr ∷ kind.Implies ∷ kind.Iff ∷ []) (kind.OpenParen ∷ kind.OpenBracket ∷ kind.OpenBrace ∷ kind.Dot ∷ kind.ColonColon ∷ kind.Equal ∷ kind.NotEqual ∷ kind.AndAnd ∷ kind.OrOr ∷ kind.Implies ∷ kind.Iff ∷ kind.Less ∷ kind.LessEqual ∷ kind.ShiftLeft ∷ kind.Greater ∷ kind.GreaterEqual ∷ kind.ShiftRight ∷ kind.Plus ∷ kind.Minus ∷ kind.Star ∷ kind.Caret ∷ kind.BitAnd ∷ kind.Div ∷ kind.DivRm ∷ kind.In ∷ kind.Mod ∷ kind.BitOr ∷ kind.BitXor ∷ []) raw refl refl

f_logic : Facts logic false (kind.Name ∷ kind.IntegerLiteral ∷ kind.BitsLiteral ∷ kind.OpenParen ∷ kind.Bang ∷ kind.Minus ∷ kind.False ∷ kind.Not ∷ kind.True ∷ kind.Getter ∷ kind.Setter ∷ []) (kind.OpenParen ∷ kind.OpenBracket ∷ kind.OpenBrace ∷ kind.Dot ∷ kind.ColonColon ∷ kind.Equal ∷ kind.NotEqual ∷ kind.AndAnd ∷ kind.OrOr ∷ kind.Implies ∷ kind.Iff ∷ kind.Less ∷ kind.LessEqual ∷ kind.ShiftLeft ∷ kind.Greater ∷ kind.GreaterEqual ∷ kind.ShiftRight ∷ kind.Plus ∷ kind.Minus ∷ kind.Star ∷ kind.Caret ∷ kind.BitAnd ∷ kind.Div ∷ kind.DivRm ∷ kind.In ∷ kind.Mod ∷ kind.BitOr ∷ kind.BitXor ∷ [])
unfolding logic
f_logic =
    let raw : Facts {A = Expr} (by (λ r. logically r.0.1.from r.0.0 r.1) (seq (spanned equality) logic_rest)) false (kind.Name ∷ kind.IntegerLiteral ∷ kind.BitsLiteral ∷ kind.OpenParen ∷ kind.Bang ∷ kind.Minus ∷ kind.False ∷ kind.Not ∷ kind.True ∷ kind.Getter ∷ kind.Setter ∷ []) (kind.OpenParen ∷ kind.OpenBracket ∷ kind.OpenBrace ∷ kind.Dot ∷ kind.ColonColon ∷ kind.Equal ∷ kind.NotEqual ∷ kind.AndAnd ∷ kind.OrOr ∷ kind.Implies ∷ kind.Iff ∷ kind.Less ∷ kind.LessEqual ∷ kind.ShiftLeft ∷ kind.Greater ∷ kind.GreaterEqual ∷ kind.ShiftRight ∷ kind.Plus ∷ kind.Minus ∷ kind.Star ∷ kind.Caret ∷ kind.BitAnd ∷ kind.Div ∷ kind.DivRm ∷ kind.In ∷ kind.Mod ∷ kind.BitOr ∷ kind.BitXor ∷ []) = (by_f (fit (kind.Name ∷ kind.IntegerLiteral ∷ kind.BitsLiteral ∷ kind.OpenParen ∷ kind.Bang ∷ kind.Minus ∷ kind.False ∷ kind.Not ∷ kind.True ∷ kind.Getter ∷ kind.Setter ∷ []) (kind.OpenParen ∷ kind.OpenBracket ∷ kind.OpenBrace ∷ kind.Dot ∷ kind.ColonColon ∷ kind.Equal ∷ kind.NotEqual ∷ kind.AndAnd ∷ kind.OrOr ∷ kind.Implies ∷ kind.Iff ∷ kind.Less ∷ kind.LessEqual ∷ kind.ShiftLeft ∷ kind.Greater ∷ kind.GreaterEqual ∷ kind.ShiftRight ∷ kind.Plus ∷ kind.Minus ∷ kind.Star ∷ kind.Caret ∷ kind.BitAnd ∷ kind.Div ∷ kind.DivRm ∷ kind.In ∷ kind.Mod ∷ kind.BitOr ∷ kind.BitXor ∷ []) (seq_f (spanned_f f_equality) f_logic_rest refl) refl refl)) in
    fit (kind.Name ∷ kind.IntegerLiteral ∷ kind.BitsLiteral ∷ kind.OpenParen ∷ kind.Bang ∷ kind.Minus ∷ kind.False ∷ kind.Not ∷ kind.True ∷ kind.Getter ∷ kind.Setter ∷ []) (kind.OpenParen ∷ kind.OpenBracket ∷ kind.OpenBrace ∷ kind.Dot ∷ kind.ColonColon ∷ kind.Equal ∷ kind.NotEqual ∷ kind.AndAnd ∷ kind.OrOr ∷ kind.Implies ∷ kind.Iff ∷ kind.Less ∷ kind.LessEqual ∷ kind.ShiftLeft ∷ kind.Greater ∷ kind.GreaterEqual ∷ kind.ShiftRight ∷ kind.Plus ∷ kind.Minus ∷ kind.Star ∷ kind.Caret ∷ kind.BitAnd ∷ kind.Div ∷ kind.DivRm ∷ kind.In ∷ kind.Mod ∷ kind.BitOr ∷ kind.BitXor ∷ []) raw refl refl

f_constraint : Facts constraint false (kind.OpenBrace ∷ []) []
unfolding constraint
f_constraint =
    let raw : Facts {A = List ConstraintPart} (by (λ r. r.1) (scope (into (kind.OpenBrace ∷ []) ConstraintParts))) false (kind.OpenBrace ∷ []) [] = (by_f (scope_f (into_f {s = ConstraintParts}))) in
    fit (kind.OpenBrace ∷ []) [] raw refl refl

f_maybe_constraint : Facts maybe_constraint true (kind.OpenBrace ∷ []) (kind.OpenBrace ∷ [])
unfolding maybe_constraint
f_maybe_constraint =
    let raw : Facts {A = List ConstraintPart} (by or_nil (opt constraint)) true (kind.OpenBrace ∷ []) (kind.OpenBrace ∷ []) = (by_f (opt_f f_constraint)) in
    fit (kind.OpenBrace ∷ []) (kind.OpenBrace ∷ []) raw refl refl

f_integer_type : Facts integer_type false (kind.Integer ∷ []) (kind.OpenBrace ∷ [])
unfolding integer_type
f_integer_type =
    let raw : Facts {A = TypeExpr} (by (λ r. ty.IntegerType (whole r.1) r.0.1) (spanned (seq (tok (kind.Integer ∷ [])) maybe_constraint))) false (kind.Integer ∷ []) (kind.OpenBrace ∷ []) = (by_f (spanned_f (seq_f tok_f f_maybe_constraint refl))) in
    fit (kind.Integer ∷ []) (kind.OpenBrace ∷ []) raw refl refl

f_boolean_type : Facts boolean_type false (kind.Boolean ∷ []) []
unfolding boolean_type
f_boolean_type =
    let raw : Facts {A = TypeExpr} (by (λ r. ty.BooleanType r.span) (tok (kind.Boolean ∷ []))) false (kind.Boolean ∷ []) [] = (by_f tok_f) in
    fit (kind.Boolean ∷ []) [] raw refl refl

f_bit_type : Facts bit_type false (kind.Bit ∷ []) []
unfolding bit_type
f_bit_type =
    let raw : Facts {A = TypeExpr} (by (λ r. ty.BitType r.span) (tok (kind.Bit ∷ []))) false (kind.Bit ∷ []) [] = (by_f tok_f) in
    fit (kind.Bit ∷ []) [] raw refl refl

f_named_type : Facts named_type false (kind.Name ∷ kind.Getter ∷ kind.Setter ∷ []) []
unfolding named_type
f_named_type =
    let raw : Facts {A = TypeExpr} (by (λ r. ty.NamedType r.span r.text) (tok (kind.Name ∷ kind.Getter ∷ kind.Setter ∷ []))) false (kind.Name ∷ kind.Getter ∷ kind.Setter ∷ []) [] = (by_f tok_f) in
    fit (kind.Name ∷ kind.Getter ∷ kind.Setter ∷ []) [] raw refl refl

f_bitfields : Facts bitfields false (kind.OpenBrace ∷ []) []
unfolding bitfields
f_bitfields =
    let raw : Facts {A = List Bitfield} (by (λ r. r.1) (scope (into (kind.OpenBrace ∷ []) Bitfields))) false (kind.OpenBrace ∷ []) [] = (by_f (scope_f (into_f {s = Bitfields}))) in
    fit (kind.OpenBrace ∷ []) [] raw refl refl

f_maybe_bitfields : Facts maybe_bitfields true (kind.OpenBrace ∷ []) (kind.OpenBrace ∷ [])
unfolding maybe_bitfields
f_maybe_bitfields =
    let raw : Facts {A = List Bitfield} (by or_nil (opt bitfields)) true (kind.OpenBrace ∷ []) (kind.OpenBrace ∷ []) = (by_f (opt_f f_bitfields)) in
    fit (kind.OpenBrace ∷ []) (kind.OpenBrace ∷ []) raw refl refl

f_bits_type : Facts bits_type false (kind.Bits ∷ []) (kind.OpenBrace ∷ [])
unfolding bits_type
f_bits_type =
    let raw : Facts {A = TypeExpr} (by (λ r. ty.BitsType (whole r.1) r.0.1.0.1 r.0.1.1) (spanned (seq (tok (kind.Bits ∷ [])) (seq (scope (into (kind.OpenParen ∷ []) Width)) maybe_bitfields)))) false (kind.Bits ∷ []) (kind.OpenBrace ∷ []) = (by_f (spanned_f (seq_f tok_f (seq_f (scope_f (into_f {s = Width})) f_maybe_bitfields refl) refl))) in
    fit (kind.Bits ∷ []) (kind.OpenBrace ∷ []) raw refl refl

f_tuple_type : Facts tuple_type false (kind.OpenParen ∷ []) []
unfolding tuple_type
f_tuple_type =
    let raw : Facts {A = TypeExpr} (by (λ r. ty.TupleType (whole r.1) r.0.1) (spanned (scope (into (kind.OpenParen ∷ []) TypeParts)))) false (kind.OpenParen ∷ []) [] = (by_f (spanned_f (scope_f (into_f {s = TypeParts})))) in
    fit (kind.OpenParen ∷ []) [] raw refl refl

f_array_type : Facts array_type false (kind.Array ∷ []) (kind.OpenBrace ∷ [])
unfolding array_type
f_array_type =
    let raw : Facts {A = TypeExpr} (by (λ r. ty.ArrayType (whole r.1) r.0.1.0 r.0.1.1) (spanned (scope (into (kind.Array ∷ []) ArrayParts)))) false (kind.Array ∷ []) (kind.OpenBrace ∷ []) = (by_f (spanned_f (scope_f (into_f {s = ArrayParts})))) in
    fit (kind.Array ∷ []) (kind.OpenBrace ∷ []) raw refl refl

f_type_expression : Facts type_expression false (kind.Name ∷ kind.OpenParen ∷ kind.Array ∷ kind.Bit ∷ kind.Bits ∷ kind.Boolean ∷ kind.Integer ∷ kind.Getter ∷ kind.Setter ∷ []) (kind.OpenBrace ∷ [])
unfolding type_expression
f_type_expression =
    let raw : Facts {A = TypeExpr} (either integer_type (either boolean_type (either bit_type (either named_type (either bits_type (either tuple_type array_type)))))) false (kind.Integer ∷ kind.Boolean ∷ kind.Bit ∷ kind.Name ∷ kind.Getter ∷ kind.Setter ∷ kind.Bits ∷ kind.OpenParen ∷ kind.Array ∷ []) (kind.OpenBrace ∷ kind.OpenBrace ∷ kind.OpenBrace ∷ []) = (either_f f_integer_type (either_f f_boolean_type (either_f f_bit_type (either_f f_named_type (either_f f_bits_type (either_f f_tuple_type f_array_type refl) refl) refl) refl) refl) refl) in
    fit (kind.Name ∷ kind.OpenParen ∷ kind.Array ∷ kind.Bit ∷ kind.Bits ∷ kind.Boolean ∷ kind.Integer ∷ kind.Getter ∷ kind.Setter ∷ []) (kind.OpenBrace ∷ []) raw refl refl

f_constraint_type : Facts constraint_type false (kind.OpenBrace ∷ []) []
unfolding constraint_type
f_constraint_type =
    let raw : Facts {A = TypeExpr} (by (λ r. ty.IntegerType (whole r.1) r.0) (spanned constraint)) false (kind.OpenBrace ∷ []) [] = (by_f (spanned_f f_constraint)) in
    fit (kind.OpenBrace ∷ []) [] raw refl refl

f_as_type : Facts as_type false (kind.Name ∷ kind.OpenParen ∷ kind.OpenBrace ∷ kind.Array ∷ kind.Bit ∷ kind.Bits ∷ kind.Boolean ∷ kind.Integer ∷ kind.Getter ∷ kind.Setter ∷ []) (kind.OpenBrace ∷ [])
unfolding as_type
f_as_type =
    let raw : Facts {A = TypeExpr} (either type_expression constraint_type) false (kind.Name ∷ kind.OpenParen ∷ kind.Array ∷ kind.Bit ∷ kind.Bits ∷ kind.Boolean ∷ kind.Integer ∷ kind.Getter ∷ kind.Setter ∷ kind.OpenBrace ∷ []) (kind.OpenBrace ∷ []) = (either_f f_type_expression f_constraint_type refl) in
    fit (kind.Name ∷ kind.OpenParen ∷ kind.OpenBrace ∷ kind.Array ∷ kind.Bit ∷ kind.Bits ∷ kind.Boolean ∷ kind.Integer ∷ kind.Getter ∷ kind.Setter ∷ []) (kind.OpenBrace ∷ []) raw refl refl

f_as_rest : Facts as_rest true (kind.As ∷ []) (kind.OpenBrace ∷ kind.As ∷ [])
unfolding as_rest
f_as_rest =
    let raw : Facts {A = AsLinks} (many (by (λ r. r.1) (seq (opens (kind.As ∷ [])) (spanned as_type)))) true (kind.As ∷ []) (kind.As ∷ kind.OpenBrace ∷ []) = (many_f (by_f (seq_f opens_f (spanned_f f_as_type) refl)) refl) in
    fit (kind.As ∷ []) (kind.OpenBrace ∷ kind.As ∷ []) raw refl refl

f_as_chain : Facts as_chain false (kind.Name ∷ kind.IntegerLiteral ∷ kind.BitsLiteral ∷ kind.OpenParen ∷ kind.Bang ∷ kind.Minus ∷ kind.False ∷ kind.Not ∷ kind.True ∷ kind.Getter ∷ kind.Setter ∷ []) (kind.OpenParen ∷ kind.OpenBracket ∷ kind.OpenBrace ∷ kind.Dot ∷ kind.ColonColon ∷ kind.Equal ∷ kind.NotEqual ∷ kind.AndAnd ∷ kind.OrOr ∷ kind.Implies ∷ kind.Iff ∷ kind.Less ∷ kind.LessEqual ∷ kind.ShiftLeft ∷ kind.Greater ∷ kind.GreaterEqual ∷ kind.ShiftRight ∷ kind.Plus ∷ kind.Minus ∷ kind.Star ∷ kind.Caret ∷ kind.BitAnd ∷ kind.Div ∷ kind.DivRm ∷ kind.In ∷ kind.Mod ∷ kind.BitOr ∷ kind.BitXor ∷ kind.As ∷ [])
unfolding as_chain
f_as_chain =
    let raw : Facts {A = Expr} (by (λ r. as_chained r.0.1.from r.0.0 r.1) (seq (spanned logic) as_rest)) false (kind.Name ∷ kind.IntegerLiteral ∷ kind.BitsLiteral ∷ kind.OpenParen ∷ kind.Bang ∷ kind.Minus ∷ kind.False ∷ kind.Not ∷ kind.True ∷ kind.Getter ∷ kind.Setter ∷ []) (kind.OpenBrace ∷ kind.As ∷ kind.OpenParen ∷ kind.OpenBracket ∷ kind.OpenBrace ∷ kind.Dot ∷ kind.ColonColon ∷ kind.Equal ∷ kind.NotEqual ∷ kind.AndAnd ∷ kind.OrOr ∷ kind.Implies ∷ kind.Iff ∷ kind.Less ∷ kind.LessEqual ∷ kind.ShiftLeft ∷ kind.Greater ∷ kind.GreaterEqual ∷ kind.ShiftRight ∷ kind.Plus ∷ kind.Minus ∷ kind.Star ∷ kind.Caret ∷ kind.BitAnd ∷ kind.Div ∷ kind.DivRm ∷ kind.In ∷ kind.Mod ∷ kind.BitOr ∷ kind.BitXor ∷ []) = (by_f (seq_f (spanned_f f_logic) f_as_rest refl)) in
    fit (kind.Name ∷ kind.IntegerLiteral ∷ kind.BitsLiteral ∷ kind.OpenParen ∷ kind.Bang ∷ kind.Minus ∷ kind.False ∷ kind.Not ∷ kind.True ∷ kind.Getter ∷ kind.Setter ∷ []) (kind.OpenParen ∷ kind.OpenBracket ∷ kind.OpenBrace ∷ kind.Dot ∷ kind.ColonColon ∷ kind.Equal ∷ kind.NotEqual ∷ kind.AndAnd ∷ kind.OrOr ∷ kind.Implies ∷ kind.Iff ∷ kind.Less ∷ kind.LessEqual ∷ kind.ShiftLeft ∷ kind.Greater ∷ kind.GreaterEqual ∷ kind.ShiftRight ∷ kind.Plus ∷ kind.Minus ∷ kind.Star ∷ kind.Caret ∷ kind.BitAnd ∷ kind.Div ∷ kind.DivRm ∷ kind.In ∷ kind.Mod ∷ kind.BitOr ∷ kind.BitXor ∷ kind.As ∷ []) raw refl refl

f_conditional : Facts conditional false (kind.If ∷ []) (kind.OpenParen ∷ kind.OpenBracket ∷ kind.OpenBrace ∷ kind.Dot ∷ kind.ColonColon ∷ kind.Equal ∷ kind.NotEqual ∷ kind.AndAnd ∷ kind.OrOr ∷ kind.Implies ∷ kind.Iff ∷ kind.Less ∷ kind.LessEqual ∷ kind.ShiftLeft ∷ kind.Greater ∷ kind.GreaterEqual ∷ kind.ShiftRight ∷ kind.Plus ∷ kind.Minus ∷ kind.Star ∷ kind.Caret ∷ kind.BitAnd ∷ kind.Div ∷ kind.DivRm ∷ kind.In ∷ kind.Mod ∷ kind.BitOr ∷ kind.BitXor ∷ kind.As ∷ [])
unfolding conditional
f_conditional =
    let raw : Facts {A = Expr} (by (λ r. ex.Conditional (whole r.1) r.0.1.0 r.0.1.1 r.0.1.2) (spanned (closed (kind.If ∷ []) IfParts))) false (kind.If ∷ []) (kind.OpenParen ∷ kind.OpenBracket ∷ kind.OpenBrace ∷ kind.Dot ∷ kind.ColonColon ∷ kind.Equal ∷ kind.NotEqual ∷ kind.AndAnd ∷ kind.OrOr ∷ kind.Implies ∷ kind.Iff ∷ kind.Less ∷ kind.LessEqual ∷ kind.ShiftLeft ∷ kind.Greater ∷ kind.GreaterEqual ∷ kind.ShiftRight ∷ kind.Plus ∷ kind.Minus ∷ kind.Star ∷ kind.Caret ∷ kind.BitAnd ∷ kind.Div ∷ kind.DivRm ∷ kind.In ∷ kind.Mod ∷ kind.BitOr ∷ kind.BitXor ∷ kind.As ∷ []) = (by_f (spanned_f (closed_f {s = IfParts}))) in
    fit (kind.If ∷ []) (kind.OpenParen ∷ kind.OpenBracket ∷ kind.OpenBrace ∷ kind.Dot ∷ kind.ColonColon ∷ kind.Equal ∷ kind.NotEqual ∷ kind.AndAnd ∷ kind.OrOr ∷ kind.Implies ∷ kind.Iff ∷ kind.Less ∷ kind.LessEqual ∷ kind.ShiftLeft ∷ kind.Greater ∷ kind.GreaterEqual ∷ kind.ShiftRight ∷ kind.Plus ∷ kind.Minus ∷ kind.Star ∷ kind.Caret ∷ kind.BitAnd ∷ kind.Div ∷ kind.DivRm ∷ kind.In ∷ kind.Mod ∷ kind.BitOr ∷ kind.BitXor ∷ kind.As ∷ []) raw refl refl

f_open_expression : Facts open_expression false (kind.Name ∷ kind.IntegerLiteral ∷ kind.BitsLiteral ∷ kind.OpenParen ∷ kind.Bang ∷ kind.Minus ∷ kind.False ∷ kind.Not ∷ kind.True ∷ kind.If ∷ kind.Getter ∷ kind.Setter ∷ []) (kind.OpenParen ∷ kind.OpenBracket ∷ kind.OpenBrace ∷ kind.Dot ∷ kind.ColonColon ∷ kind.Equal ∷ kind.NotEqual ∷ kind.AndAnd ∷ kind.OrOr ∷ kind.Implies ∷ kind.Iff ∷ kind.Less ∷ kind.LessEqual ∷ kind.ShiftLeft ∷ kind.Greater ∷ kind.GreaterEqual ∷ kind.ShiftRight ∷ kind.Plus ∷ kind.Minus ∷ kind.Star ∷ kind.Caret ∷ kind.BitAnd ∷ kind.Div ∷ kind.DivRm ∷ kind.In ∷ kind.Mod ∷ kind.BitOr ∷ kind.BitXor ∷ kind.As ∷ [])
unfolding open_expression
f_open_expression =
    let raw : Facts {A = Expr} (either conditional as_chain) false (kind.Name ∷ kind.IntegerLiteral ∷ kind.BitsLiteral ∷ kind.OpenParen ∷ kind.Bang ∷ kind.Minus ∷ kind.False ∷ kind.Not ∷ kind.True ∷ kind.If ∷ kind.Getter ∷ kind.Setter ∷ []) (kind.OpenParen ∷ kind.OpenBracket ∷ kind.OpenBrace ∷ kind.Dot ∷ kind.ColonColon ∷ kind.Equal ∷ kind.NotEqual ∷ kind.AndAnd ∷ kind.OrOr ∷ kind.Implies ∷ kind.Iff ∷ kind.Less ∷ kind.LessEqual ∷ kind.ShiftLeft ∷ kind.Greater ∷ kind.GreaterEqual ∷ kind.ShiftRight ∷ kind.Plus ∷ kind.Minus ∷ kind.Star ∷ kind.Caret ∷ kind.BitAnd ∷ kind.Div ∷ kind.DivRm ∷ kind.In ∷ kind.Mod ∷ kind.BitOr ∷ kind.BitXor ∷ kind.As ∷ []) = (fit (kind.Name ∷ kind.IntegerLiteral ∷ kind.BitsLiteral ∷ kind.OpenParen ∷ kind.Bang ∷ kind.Minus ∷ kind.False ∷ kind.Not ∷ kind.True ∷ kind.If ∷ kind.Getter ∷ kind.Setter ∷ []) (kind.OpenParen ∷ kind.OpenBracket ∷ kind.OpenBrace ∷ kind.Dot ∷ kind.ColonColon ∷ kind.Equal ∷ kind.NotEqual ∷ kind.AndAnd ∷ kind.OrOr ∷ kind.Implies ∷ kind.Iff ∷ kind.Less ∷ kind.LessEqual ∷ kind.ShiftLeft ∷ kind.Greater ∷ kind.GreaterEqual ∷ kind.ShiftRight ∷ kind.Plus ∷ kind.Minus ∷ kind.Star ∷ kind.Caret ∷ kind.BitAnd ∷ kind.Div ∷ kind.DivRm ∷ kind.In ∷ kind.Mod ∷ kind.BitOr ∷ kind.BitXor ∷ kind.As ∷ []) (either_f f_conditional f_as_chain refl) refl refl) in
    fit (kind.Name ∷ kind.IntegerLiteral ∷ kind.BitsLiteral ∷ kind.OpenParen ∷ kind.Bang ∷ kind.Minus ∷ kind.False ∷ kind.Not ∷ kind.True ∷ kind.If ∷ kind.Getter ∷ kind.Setter ∷ []) (kind.OpenParen ∷ kind.OpenBracket ∷ kind.OpenBrace ∷ kind.Dot ∷ kind.ColonColon ∷ kind.Equal ∷ kind.NotEqual ∷ kind.AndAnd ∷ kind.OrOr ∷ kind.Implies ∷ kind.Iff ∷ kind.Less ∷ kind.LessEqual ∷ kind.ShiftLeft ∷ kind.Greater ∷ kind.GreaterEqual ∷ kind.ShiftRight ∷ kind.Plus ∷ kind.Minus ∷ kind.Star ∷ kind.Caret ∷ kind.BitAnd ∷ kind.Div ∷ kind.DivRm ∷ kind.In ∷ kind.Mod ∷ kind.BitOr ∷ kind.BitXor ∷ kind.As ∷ []) raw refl refl

f_expression : Facts expression false (kind.Name ∷ kind.IntegerLiteral ∷ kind.BitsLiteral ∷ kind.OpenParen ∷ kind.Bang ∷ kind.Minus ∷ kind.False ∷ kind.Not ∷ kind.True ∷ kind.If ∷ kind.Getter ∷ kind.Setter ∷ []) (kind.OpenParen ∷ kind.OpenBracket ∷ kind.OpenBrace ∷ kind.Dot ∷ kind.ColonColon ∷ kind.Equal ∷ kind.NotEqual ∷ kind.AndAnd ∷ kind.OrOr ∷ kind.Implies ∷ kind.Iff ∷ kind.Less ∷ kind.LessEqual ∷ kind.ShiftLeft ∷ kind.Greater ∷ kind.GreaterEqual ∷ kind.ShiftRight ∷ kind.Plus ∷ kind.Minus ∷ kind.Star ∷ kind.Caret ∷ kind.BitAnd ∷ kind.Div ∷ kind.DivRm ∷ kind.In ∷ kind.Mod ∷ kind.BitOr ∷ kind.BitXor ∷ kind.As ∷ [])
unfolding expression
f_expression =
    let raw : Facts {A = Expr} (scope open_expression) false (kind.Name ∷ kind.IntegerLiteral ∷ kind.BitsLiteral ∷ kind.OpenParen ∷ kind.Bang ∷ kind.Minus ∷ kind.False ∷ kind.Not ∷ kind.True ∷ kind.If ∷ kind.Getter ∷ kind.Setter ∷ []) (kind.OpenParen ∷ kind.OpenBracket ∷ kind.OpenBrace ∷ kind.Dot ∷ kind.ColonColon ∷ kind.Equal ∷ kind.NotEqual ∷ kind.AndAnd ∷ kind.OrOr ∷ kind.Implies ∷ kind.Iff ∷ kind.Less ∷ kind.LessEqual ∷ kind.ShiftLeft ∷ kind.Greater ∷ kind.GreaterEqual ∷ kind.ShiftRight ∷ kind.Plus ∷ kind.Minus ∷ kind.Star ∷ kind.Caret ∷ kind.BitAnd ∷ kind.Div ∷ kind.DivRm ∷ kind.In ∷ kind.Mod ∷ kind.BitOr ∷ kind.BitXor ∷ kind.As ∷ []) = (scope_f f_open_expression) in
    fit (kind.Name ∷ kind.IntegerLiteral ∷ kind.BitsLiteral ∷ kind.OpenParen ∷ kind.Bang ∷ kind.Minus ∷ kind.False ∷ kind.Not ∷ kind.True ∷ kind.If ∷ kind.Getter ∷ kind.Setter ∷ []) (kind.OpenParen ∷ kind.OpenBracket ∷ kind.OpenBrace ∷ kind.Dot ∷ kind.ColonColon ∷ kind.Equal ∷ kind.NotEqual ∷ kind.AndAnd ∷ kind.OrOr ∷ kind.Implies ∷ kind.Iff ∷ kind.Less ∷ kind.LessEqual ∷ kind.ShiftLeft ∷ kind.Greater ∷ kind.GreaterEqual ∷ kind.ShiftRight ∷ kind.Plus ∷ kind.Minus ∷ kind.Star ∷ kind.Caret ∷ kind.BitAnd ∷ kind.Div ∷ kind.DivRm ∷ kind.In ∷ kind.Mod ∷ kind.BitOr ∷ kind.BitXor ∷ kind.As ∷ []) raw refl refl

f_if_parts : Facts if_parts false (kind.Name ∷ kind.IntegerLiteral ∷ kind.BitsLiteral ∷ kind.OpenParen ∷ kind.Bang ∷ kind.Minus ∷ kind.False ∷ kind.Not ∷ kind.True ∷ kind.If ∷ kind.Getter ∷ kind.Setter ∷ []) (kind.OpenParen ∷ kind.OpenBracket ∷ kind.OpenBrace ∷ kind.Dot ∷ kind.ColonColon ∷ kind.Equal ∷ kind.NotEqual ∷ kind.AndAnd ∷ kind.OrOr ∷ kind.Implies ∷ kind.Iff ∷ kind.Less ∷ kind.LessEqual ∷ kind.ShiftLeft ∷ kind.Greater ∷ kind.GreaterEqual ∷ kind.ShiftRight ∷ kind.Plus ∷ kind.Minus ∷ kind.Star ∷ kind.Caret ∷ kind.BitAnd ∷ kind.Div ∷ kind.DivRm ∷ kind.In ∷ kind.Mod ∷ kind.BitOr ∷ kind.BitXor ∷ kind.As ∷ [])
unfolding if_parts
f_if_parts =
    let raw : Facts {A = Expr × Expr × Expr} (by (λ r. (r.0, r.1.1.0, r.1.1.1.1)) (seq open_expression (seq (tok (kind.Then ∷ [])) (seq open_expression (seq (tok (kind.Else ∷ [])) open_expression))))) false (kind.Name ∷ kind.IntegerLiteral ∷ kind.BitsLiteral ∷ kind.OpenParen ∷ kind.Bang ∷ kind.Minus ∷ kind.False ∷ kind.Not ∷ kind.True ∷ kind.If ∷ kind.Getter ∷ kind.Setter ∷ []) (kind.OpenParen ∷ kind.OpenBracket ∷ kind.OpenBrace ∷ kind.Dot ∷ kind.ColonColon ∷ kind.Equal ∷ kind.NotEqual ∷ kind.AndAnd ∷ kind.OrOr ∷ kind.Implies ∷ kind.Iff ∷ kind.Less ∷ kind.LessEqual ∷ kind.ShiftLeft ∷ kind.Greater ∷ kind.GreaterEqual ∷ kind.ShiftRight ∷ kind.Plus ∷ kind.Minus ∷ kind.Star ∷ kind.Caret ∷ kind.BitAnd ∷ kind.Div ∷ kind.DivRm ∷ kind.In ∷ kind.Mod ∷ kind.BitOr ∷ kind.BitXor ∷ kind.As ∷ []) = (by_f (seq_f f_open_expression (seq_f tok_f (seq_f f_open_expression (seq_f tok_f f_open_expression refl) refl) refl) refl)) in
    fit (kind.Name ∷ kind.IntegerLiteral ∷ kind.BitsLiteral ∷ kind.OpenParen ∷ kind.Bang ∷ kind.Minus ∷ kind.False ∷ kind.Not ∷ kind.True ∷ kind.If ∷ kind.Getter ∷ kind.Setter ∷ []) (kind.OpenParen ∷ kind.OpenBracket ∷ kind.OpenBrace ∷ kind.Dot ∷ kind.ColonColon ∷ kind.Equal ∷ kind.NotEqual ∷ kind.AndAnd ∷ kind.OrOr ∷ kind.Implies ∷ kind.Iff ∷ kind.Less ∷ kind.LessEqual ∷ kind.ShiftLeft ∷ kind.Greater ∷ kind.GreaterEqual ∷ kind.ShiftRight ∷ kind.Plus ∷ kind.Minus ∷ kind.Star ∷ kind.Caret ∷ kind.BitAnd ∷ kind.Div ∷ kind.DivRm ∷ kind.In ∷ kind.Mod ∷ kind.BitOr ∷ kind.BitXor ∷ kind.As ∷ []) raw refl refl

f_rest : Facts rest true (kind.ColonColon ∷ kind.Equal ∷ kind.NotEqual ∷ kind.AndAnd ∷ kind.OrOr ∷ kind.Implies ∷ kind.Iff ∷ kind.Less ∷ kind.LessEqual ∷ kind.ShiftLeft ∷ kind.Greater ∷ kind.GreaterEqual ∷ kind.ShiftRight ∷ kind.Plus ∷ kind.Minus ∷ kind.Star ∷ kind.Caret ∷ kind.BitAnd ∷ kind.Div ∷ kind.DivRm ∷ kind.Mod ∷ kind.BitOr ∷ kind.BitXor ∷ kind.As ∷ []) (kind.OpenParen ∷ kind.OpenBracket ∷ kind.OpenBrace ∷ kind.Dot ∷ kind.ColonColon ∷ kind.Equal ∷ kind.NotEqual ∷ kind.AndAnd ∷ kind.OrOr ∷ kind.Implies ∷ kind.Iff ∷ kind.Less ∷ kind.LessEqual ∷ kind.ShiftLeft ∷ kind.Greater ∷ kind.GreaterEqual ∷ kind.ShiftRight ∷ kind.Plus ∷ kind.Minus ∷ kind.Star ∷ kind.Caret ∷ kind.BitAnd ∷ kind.Div ∷ kind.DivRm ∷ kind.In ∷ kind.Mod ∷ kind.BitOr ∷ kind.BitXor ∷ kind.As ∷ [])
unfolding rest
f_rest =
    let raw : Facts {A = Links × AsLinks} (by (λ r. (joined r.0 r.1.0 r.1.1.0 r.1.1.1.0 r.1.1.1.1.0 r.1.1.1.1.1.0, r.1.1.1.1.1.1)) (seq power_rest (seq product_rest (seq sum_rest (seq comparison_rest (seq equality_rest (seq logic_rest as_rest))))))) true (kind.Caret ∷ kind.ColonColon ∷ kind.Equal ∷ kind.NotEqual ∷ kind.AndAnd ∷ kind.OrOr ∷ kind.Implies ∷ kind.Iff ∷ kind.Less ∷ kind.LessEqual ∷ kind.ShiftLeft ∷ kind.Greater ∷ kind.GreaterEqual ∷ kind.ShiftRight ∷ kind.Plus ∷ kind.Minus ∷ kind.Star ∷ kind.BitAnd ∷ kind.Div ∷ kind.DivRm ∷ kind.Mod ∷ kind.BitOr ∷ kind.BitXor ∷ kind.As ∷ []) (kind.OpenParen ∷ kind.OpenBracket ∷ kind.OpenBrace ∷ kind.Dot ∷ kind.ColonColon ∷ kind.Equal ∷ kind.NotEqual ∷ kind.AndAnd ∷ kind.OrOr ∷ kind.Implies ∷ kind.Iff ∷ kind.Less ∷ kind.LessEqual ∷ kind.ShiftLeft ∷ kind.Greater ∷ kind.GreaterEqual ∷ kind.ShiftRight ∷ kind.Plus ∷ kind.Minus ∷ kind.Star ∷ kind.Caret ∷ kind.BitAnd ∷ kind.Div ∷ kind.DivRm ∷ kind.In ∷ kind.Mod ∷ kind.BitOr ∷ kind.BitXor ∷ kind.As ∷ kind.OpenParen ∷ kind.OpenBracket ∷ kind.OpenBrace ∷ kind.Dot ∷ kind.Caret ∷ kind.In ∷ []) = (by_f (seq_f f_power_rest (fit (kind.ColonColon ∷ kind.Equal ∷ kind.NotEqual ∷ kind.AndAnd ∷ kind.OrOr ∷ kind.Implies ∷ kind.Iff ∷ kind.Less ∷ kind.LessEqual ∷ kind.ShiftLeft ∷ kind.Greater ∷ kind.GreaterEqual ∷ kind.ShiftRight ∷ kind.Plus ∷ kind.Minus ∷ kind.Star ∷ kind.BitAnd ∷ kind.Div ∷ kind.DivRm ∷ kind.Mod ∷ kind.BitOr ∷ kind.BitXor ∷ kind.As ∷ []) (kind.OpenParen ∷ kind.OpenBracket ∷ kind.OpenBrace ∷ kind.Dot ∷ kind.ColonColon ∷ kind.Equal ∷ kind.NotEqual ∷ kind.AndAnd ∷ kind.OrOr ∷ kind.Implies ∷ kind.Iff ∷ kind.Less ∷ kind.LessEqual ∷ kind.ShiftLeft ∷ kind.Greater ∷ kind.GreaterEqual ∷ kind.ShiftRight ∷ kind.Plus ∷ kind.Minus ∷ kind.Star ∷ kind.Caret ∷ kind.BitAnd ∷ kind.Div ∷ kind.DivRm ∷ kind.In ∷ kind.Mod ∷ kind.BitOr ∷ kind.BitXor ∷ kind.As ∷ []) (seq_f f_product_rest (fit (kind.ColonColon ∷ kind.Equal ∷ kind.NotEqual ∷ kind.AndAnd ∷ kind.OrOr ∷ kind.Implies ∷ kind.Iff ∷ kind.Less ∷ kind.LessEqual ∷ kind.Greater ∷ kind.GreaterEqual ∷ kind.Plus ∷ kind.Minus ∷ kind.BitAnd ∷ kind.BitOr ∷ kind.BitXor ∷ kind.As ∷ []) (kind.OpenParen ∷ kind.OpenBracket ∷ kind.OpenBrace ∷ kind.Dot ∷ kind.ColonColon ∷ kind.Equal ∷ kind.NotEqual ∷ kind.AndAnd ∷ kind.OrOr ∷ kind.Implies ∷ kind.Iff ∷ kind.Less ∷ kind.LessEqual ∷ kind.ShiftLeft ∷ kind.Greater ∷ kind.GreaterEqual ∷ kind.ShiftRight ∷ kind.Plus ∷ kind.Minus ∷ kind.Star ∷ kind.Caret ∷ kind.BitAnd ∷ kind.Div ∷ kind.DivRm ∷ kind.In ∷ kind.Mod ∷ kind.BitOr ∷ kind.BitXor ∷ kind.As ∷ []) (seq_f f_sum_rest (fit (kind.Equal ∷ kind.NotEqual ∷ kind.AndAnd ∷ kind.OrOr ∷ kind.Implies ∷ kind.Iff ∷ kind.Less ∷ kind.LessEqual ∷ kind.Greater ∷ kind.GreaterEqual ∷ kind.As ∷ []) (kind.OpenParen ∷ kind.OpenBracket ∷ kind.OpenBrace ∷ kind.Dot ∷ kind.ColonColon ∷ kind.Equal ∷ kind.NotEqual ∷ kind.AndAnd ∷ kind.OrOr ∷ kind.Implies ∷ kind.Iff ∷ kind.Less ∷ kind.LessEqual ∷ kind.ShiftLeft ∷ kind.Greater ∷ kind.GreaterEqual ∷ kind.ShiftRight ∷ kind.Plus ∷ kind.Minus ∷ kind.Star ∷ kind.Caret ∷ kind.BitAnd ∷ kind.Div ∷ kind.DivRm ∷ kind.In ∷ kind.Mod ∷ kind.BitOr ∷ kind.BitXor ∷ kind.As ∷ []) (seq_f f_comparison_rest (fit (kind.Equal ∷ kind.NotEqual ∷ kind.AndAnd ∷ kind.OrOr ∷ kind.Implies ∷ kind.Iff ∷ kind.As ∷ []) (kind.OpenParen ∷ kind.OpenBracket ∷ kind.OpenBrace ∷ kind.Dot ∷ kind.ColonColon ∷ kind.Equal ∷ kind.NotEqual ∷ kind.AndAnd ∷ kind.OrOr ∷ kind.Implies ∷ kind.Iff ∷ kind.Less ∷ kind.LessEqual ∷ kind.ShiftLeft ∷ kind.Greater ∷ kind.GreaterEqual ∷ kind.ShiftRight ∷ kind.Plus ∷ kind.Minus ∷ kind.Star ∷ kind.Caret ∷ kind.BitAnd ∷ kind.Div ∷ kind.DivRm ∷ kind.In ∷ kind.Mod ∷ kind.BitOr ∷ kind.BitXor ∷ kind.As ∷ []) (seq_f f_equality_rest (seq_f f_logic_rest f_as_rest refl) refl) refl refl) refl) refl refl) refl) refl refl) refl) refl refl) refl)) in
    fit (kind.ColonColon ∷ kind.Equal ∷ kind.NotEqual ∷ kind.AndAnd ∷ kind.OrOr ∷ kind.Implies ∷ kind.Iff ∷ kind.Less ∷ kind.LessEqual ∷ kind.ShiftLeft ∷ kind.Greater ∷ kind.GreaterEqual ∷ kind.ShiftRight ∷ kind.Plus ∷ kind.Minus ∷ kind.Star ∷ kind.Caret ∷ kind.BitAnd ∷ kind.Div ∷ kind.DivRm ∷ kind.Mod ∷ kind.BitOr ∷ kind.BitXor ∷ kind.As ∷ []) (kind.OpenParen ∷ kind.OpenBracket ∷ kind.OpenBrace ∷ kind.Dot ∷ kind.ColonColon ∷ kind.Equal ∷ kind.NotEqual ∷ kind.AndAnd ∷ kind.OrOr ∷ kind.Implies ∷ kind.Iff ∷ kind.Less ∷ kind.LessEqual ∷ kind.ShiftLeft ∷ kind.Greater ∷ kind.GreaterEqual ∷ kind.ShiftRight ∷ kind.Plus ∷ kind.Minus ∷ kind.Star ∷ kind.Caret ∷ kind.BitAnd ∷ kind.Div ∷ kind.DivRm ∷ kind.In ∷ kind.Mod ∷ kind.BitOr ∷ kind.BitXor ∷ kind.As ∷ []) raw refl refl

f_more_expressions : Facts more_expressions true (kind.Comma ∷ []) (kind.OpenParen ∷ kind.OpenBracket ∷ kind.OpenBrace ∷ kind.Comma ∷ kind.Dot ∷ kind.ColonColon ∷ kind.Equal ∷ kind.NotEqual ∷ kind.AndAnd ∷ kind.OrOr ∷ kind.Implies ∷ kind.Iff ∷ kind.Less ∷ kind.LessEqual ∷ kind.ShiftLeft ∷ kind.Greater ∷ kind.GreaterEqual ∷ kind.ShiftRight ∷ kind.Plus ∷ kind.Minus ∷ kind.Star ∷ kind.Caret ∷ kind.BitAnd ∷ kind.Div ∷ kind.DivRm ∷ kind.In ∷ kind.Mod ∷ kind.BitOr ∷ kind.BitXor ∷ kind.As ∷ [])
unfolding more_expressions
f_more_expressions =
    let raw : Facts {A = List Expr} (by seconds (many (seq (tok (kind.Comma ∷ [])) expression))) true (kind.Comma ∷ []) (kind.Comma ∷ kind.OpenParen ∷ kind.OpenBracket ∷ kind.OpenBrace ∷ kind.Dot ∷ kind.ColonColon ∷ kind.Equal ∷ kind.NotEqual ∷ kind.AndAnd ∷ kind.OrOr ∷ kind.Implies ∷ kind.Iff ∷ kind.Less ∷ kind.LessEqual ∷ kind.ShiftLeft ∷ kind.Greater ∷ kind.GreaterEqual ∷ kind.ShiftRight ∷ kind.Plus ∷ kind.Minus ∷ kind.Star ∷ kind.Caret ∷ kind.BitAnd ∷ kind.Div ∷ kind.DivRm ∷ kind.In ∷ kind.Mod ∷ kind.BitOr ∷ kind.BitXor ∷ kind.As ∷ []) = (by_f (many_f (seq_f tok_f f_expression refl) refl)) in
    fit (kind.Comma ∷ []) (kind.OpenParen ∷ kind.OpenBracket ∷ kind.OpenBrace ∷ kind.Comma ∷ kind.Dot ∷ kind.ColonColon ∷ kind.Equal ∷ kind.NotEqual ∷ kind.AndAnd ∷ kind.OrOr ∷ kind.Implies ∷ kind.Iff ∷ kind.Less ∷ kind.LessEqual ∷ kind.ShiftLeft ∷ kind.Greater ∷ kind.GreaterEqual ∷ kind.ShiftRight ∷ kind.Plus ∷ kind.Minus ∷ kind.Star ∷ kind.Caret ∷ kind.BitAnd ∷ kind.Div ∷ kind.DivRm ∷ kind.In ∷ kind.Mod ∷ kind.BitOr ∷ kind.BitXor ∷ kind.As ∷ []) raw refl refl

f_expressions : Facts expressions false (kind.Name ∷ kind.IntegerLiteral ∷ kind.BitsLiteral ∷ kind.OpenParen ∷ kind.Bang ∷ kind.Minus ∷ kind.False ∷ kind.Not ∷ kind.True ∷ kind.If ∷ kind.Getter ∷ kind.Setter ∷ []) (kind.OpenParen ∷ kind.OpenBracket ∷ kind.OpenBrace ∷ kind.Comma ∷ kind.Dot ∷ kind.ColonColon ∷ kind.Equal ∷ kind.NotEqual ∷ kind.AndAnd ∷ kind.OrOr ∷ kind.Implies ∷ kind.Iff ∷ kind.Less ∷ kind.LessEqual ∷ kind.ShiftLeft ∷ kind.Greater ∷ kind.GreaterEqual ∷ kind.ShiftRight ∷ kind.Plus ∷ kind.Minus ∷ kind.Star ∷ kind.Caret ∷ kind.BitAnd ∷ kind.Div ∷ kind.DivRm ∷ kind.In ∷ kind.Mod ∷ kind.BitOr ∷ kind.BitXor ∷ kind.As ∷ [])
unfolding expressions
f_expressions =
    let raw : Facts {A = List Expr} (by (λ r. behind (r.0 ∷ []) r.1) (seq expression more_expressions)) false (kind.Name ∷ kind.IntegerLiteral ∷ kind.BitsLiteral ∷ kind.OpenParen ∷ kind.Bang ∷ kind.Minus ∷ kind.False ∷ kind.Not ∷ kind.True ∷ kind.If ∷ kind.Getter ∷ kind.Setter ∷ []) (kind.OpenParen ∷ kind.OpenBracket ∷ kind.OpenBrace ∷ kind.Comma ∷ kind.Dot ∷ kind.ColonColon ∷ kind.Equal ∷ kind.NotEqual ∷ kind.AndAnd ∷ kind.OrOr ∷ kind.Implies ∷ kind.Iff ∷ kind.Less ∷ kind.LessEqual ∷ kind.ShiftLeft ∷ kind.Greater ∷ kind.GreaterEqual ∷ kind.ShiftRight ∷ kind.Plus ∷ kind.Minus ∷ kind.Star ∷ kind.Caret ∷ kind.BitAnd ∷ kind.Div ∷ kind.DivRm ∷ kind.In ∷ kind.Mod ∷ kind.BitOr ∷ kind.BitXor ∷ kind.As ∷ []) = (by_f (fit (kind.Name ∷ kind.IntegerLiteral ∷ kind.BitsLiteral ∷ kind.OpenParen ∷ kind.Bang ∷ kind.Minus ∷ kind.False ∷ kind.Not ∷ kind.True ∷ kind.If ∷ kind.Getter ∷ kind.Setter ∷ []) (kind.OpenParen ∷ kind.OpenBracket ∷ kind.OpenBrace ∷ kind.Comma ∷ kind.Dot ∷ kind.ColonColon ∷ kind.Equal ∷ kind.NotEqual ∷ kind.AndAnd ∷ kind.OrOr ∷ kind.Implies ∷ kind.Iff ∷ kind.Less ∷ kind.LessEqual ∷ kind.ShiftLeft ∷ kind.Greater ∷ kind.GreaterEqual ∷ kind.ShiftRight ∷ kind.Plus ∷ kind.Minus ∷ kind.Star ∷ kind.Caret ∷ kind.BitAnd ∷ kind.Div ∷ kind.DivRm ∷ kind.In ∷ kind.Mod ∷ kind.BitOr ∷ kind.BitXor ∷ kind.As ∷ []) (seq_f f_expression f_more_expressions refl) refl refl)) in
    fit (kind.Name ∷ kind.IntegerLiteral ∷ kind.BitsLiteral ∷ kind.OpenParen ∷ kind.Bang ∷ kind.Minus ∷ kind.False ∷ kind.Not ∷ kind.True ∷ kind.If ∷ kind.Getter ∷ kind.Setter ∷ []) (kind.OpenParen ∷ kind.OpenBracket ∷ kind.OpenBrace ∷ kind.Comma ∷ kind.Dot ∷ kind.ColonColon ∷ kind.Equal ∷ kind.NotEqual ∷ kind.AndAnd ∷ kind.OrOr ∷ kind.Implies ∷ kind.Iff ∷ kind.Less ∷ kind.LessEqual ∷ kind.ShiftLeft ∷ kind.Greater ∷ kind.GreaterEqual ∷ kind.ShiftRight ∷ kind.Plus ∷ kind.Minus ∷ kind.Star ∷ kind.Caret ∷ kind.BitAnd ∷ kind.Div ∷ kind.DivRm ∷ kind.In ∷ kind.Mod ∷ kind.BitOr ∷ kind.BitXor ∷ kind.As ∷ []) raw refl refl

f_maybe_expressions : Facts maybe_expressions true (kind.Name ∷ kind.IntegerLiteral ∷ kind.BitsLiteral ∷ kind.OpenParen ∷ kind.Bang ∷ kind.Minus ∷ kind.False ∷ kind.Not ∷ kind.True ∷ kind.If ∷ kind.Getter ∷ kind.Setter ∷ []) (kind.Name ∷ kind.IntegerLiteral ∷ kind.BitsLiteral ∷ kind.OpenParen ∷ kind.OpenBracket ∷ kind.OpenBrace ∷ kind.Comma ∷ kind.Dot ∷ kind.ColonColon ∷ kind.Equal ∷ kind.Bang ∷ kind.NotEqual ∷ kind.AndAnd ∷ kind.OrOr ∷ kind.Implies ∷ kind.Iff ∷ kind.Less ∷ kind.LessEqual ∷ kind.ShiftLeft ∷ kind.Greater ∷ kind.GreaterEqual ∷ kind.ShiftRight ∷ kind.Plus ∷ kind.Minus ∷ kind.Star ∷ kind.Caret ∷ kind.BitAnd ∷ kind.Div ∷ kind.DivRm ∷ kind.False ∷ kind.In ∷ kind.Mod ∷ kind.Not ∷ kind.BitOr ∷ kind.True ∷ kind.BitXor ∷ kind.As ∷ kind.If ∷ kind.Getter ∷ kind.Setter ∷ [])
unfolding maybe_expressions
f_maybe_expressions =
    let raw : Facts {A = List Expr} (by or_nil (opt expressions)) true (kind.Name ∷ kind.IntegerLiteral ∷ kind.BitsLiteral ∷ kind.OpenParen ∷ kind.Bang ∷ kind.Minus ∷ kind.False ∷ kind.Not ∷ kind.True ∷ kind.If ∷ kind.Getter ∷ kind.Setter ∷ []) (kind.Name ∷ kind.IntegerLiteral ∷ kind.BitsLiteral ∷ kind.OpenParen ∷ kind.Bang ∷ kind.Minus ∷ kind.False ∷ kind.Not ∷ kind.True ∷ kind.If ∷ kind.Getter ∷ kind.Setter ∷ kind.OpenParen ∷ kind.OpenBracket ∷ kind.OpenBrace ∷ kind.Comma ∷ kind.Dot ∷ kind.ColonColon ∷ kind.Equal ∷ kind.NotEqual ∷ kind.AndAnd ∷ kind.OrOr ∷ kind.Implies ∷ kind.Iff ∷ kind.Less ∷ kind.LessEqual ∷ kind.ShiftLeft ∷ kind.Greater ∷ kind.GreaterEqual ∷ kind.ShiftRight ∷ kind.Plus ∷ kind.Minus ∷ kind.Star ∷ kind.Caret ∷ kind.BitAnd ∷ kind.Div ∷ kind.DivRm ∷ kind.In ∷ kind.Mod ∷ kind.BitOr ∷ kind.BitXor ∷ kind.As ∷ []) = (by_f (opt_f f_expressions)) in
    fit (kind.Name ∷ kind.IntegerLiteral ∷ kind.BitsLiteral ∷ kind.OpenParen ∷ kind.Bang ∷ kind.Minus ∷ kind.False ∷ kind.Not ∷ kind.True ∷ kind.If ∷ kind.Getter ∷ kind.Setter ∷ []) (kind.Name ∷ kind.IntegerLiteral ∷ kind.BitsLiteral ∷ kind.OpenParen ∷ kind.OpenBracket ∷ kind.OpenBrace ∷ kind.Comma ∷ kind.Dot ∷ kind.ColonColon ∷ kind.Equal ∷ kind.Bang ∷ kind.NotEqual ∷ kind.AndAnd ∷ kind.OrOr ∷ kind.Implies ∷ kind.Iff ∷ kind.Less ∷ kind.LessEqual ∷ kind.ShiftLeft ∷ kind.Greater ∷ kind.GreaterEqual ∷ kind.ShiftRight ∷ kind.Plus ∷ kind.Minus ∷ kind.Star ∷ kind.Caret ∷ kind.BitAnd ∷ kind.Div ∷ kind.DivRm ∷ kind.False ∷ kind.In ∷ kind.Mod ∷ kind.Not ∷ kind.BitOr ∷ kind.True ∷ kind.BitXor ∷ kind.As ∷ kind.If ∷ kind.Getter ∷ kind.Setter ∷ []) raw refl refl

f_maybe_expression : Facts maybe_expression true (kind.Name ∷ kind.IntegerLiteral ∷ kind.BitsLiteral ∷ kind.OpenParen ∷ kind.Bang ∷ kind.Minus ∷ kind.False ∷ kind.Not ∷ kind.True ∷ kind.If ∷ kind.Getter ∷ kind.Setter ∷ []) (kind.Name ∷ kind.IntegerLiteral ∷ kind.BitsLiteral ∷ kind.OpenParen ∷ kind.OpenBracket ∷ kind.OpenBrace ∷ kind.Dot ∷ kind.ColonColon ∷ kind.Equal ∷ kind.Bang ∷ kind.NotEqual ∷ kind.AndAnd ∷ kind.OrOr ∷ kind.Implies ∷ kind.Iff ∷ kind.Less ∷ kind.LessEqual ∷ kind.ShiftLeft ∷ kind.Greater ∷ kind.GreaterEqual ∷ kind.ShiftRight ∷ kind.Plus ∷ kind.Minus ∷ kind.Star ∷ kind.Caret ∷ kind.BitAnd ∷ kind.Div ∷ kind.DivRm ∷ kind.False ∷ kind.In ∷ kind.Mod ∷ kind.Not ∷ kind.BitOr ∷ kind.True ∷ kind.BitXor ∷ kind.As ∷ kind.If ∷ kind.Getter ∷ kind.Setter ∷ [])
unfolding maybe_expression
f_maybe_expression =
    let raw : Facts {A = Option Expr} (opt expression) true (kind.Name ∷ kind.IntegerLiteral ∷ kind.BitsLiteral ∷ kind.OpenParen ∷ kind.Bang ∷ kind.Minus ∷ kind.False ∷ kind.Not ∷ kind.True ∷ kind.If ∷ kind.Getter ∷ kind.Setter ∷ []) (kind.Name ∷ kind.IntegerLiteral ∷ kind.BitsLiteral ∷ kind.OpenParen ∷ kind.Bang ∷ kind.Minus ∷ kind.False ∷ kind.Not ∷ kind.True ∷ kind.If ∷ kind.Getter ∷ kind.Setter ∷ kind.OpenParen ∷ kind.OpenBracket ∷ kind.OpenBrace ∷ kind.Dot ∷ kind.ColonColon ∷ kind.Equal ∷ kind.NotEqual ∷ kind.AndAnd ∷ kind.OrOr ∷ kind.Implies ∷ kind.Iff ∷ kind.Less ∷ kind.LessEqual ∷ kind.ShiftLeft ∷ kind.Greater ∷ kind.GreaterEqual ∷ kind.ShiftRight ∷ kind.Plus ∷ kind.Minus ∷ kind.Star ∷ kind.Caret ∷ kind.BitAnd ∷ kind.Div ∷ kind.DivRm ∷ kind.In ∷ kind.Mod ∷ kind.BitOr ∷ kind.BitXor ∷ kind.As ∷ []) = (opt_f f_expression) in
    fit (kind.Name ∷ kind.IntegerLiteral ∷ kind.BitsLiteral ∷ kind.OpenParen ∷ kind.Bang ∷ kind.Minus ∷ kind.False ∷ kind.Not ∷ kind.True ∷ kind.If ∷ kind.Getter ∷ kind.Setter ∷ []) (kind.Name ∷ kind.IntegerLiteral ∷ kind.BitsLiteral ∷ kind.OpenParen ∷ kind.OpenBracket ∷ kind.OpenBrace ∷ kind.Dot ∷ kind.ColonColon ∷ kind.Equal ∷ kind.Bang ∷ kind.NotEqual ∷ kind.AndAnd ∷ kind.OrOr ∷ kind.Implies ∷ kind.Iff ∷ kind.Less ∷ kind.LessEqual ∷ kind.ShiftLeft ∷ kind.Greater ∷ kind.GreaterEqual ∷ kind.ShiftRight ∷ kind.Plus ∷ kind.Minus ∷ kind.Star ∷ kind.Caret ∷ kind.BitAnd ∷ kind.Div ∷ kind.DivRm ∷ kind.False ∷ kind.In ∷ kind.Mod ∷ kind.Not ∷ kind.BitOr ∷ kind.True ∷ kind.BitXor ∷ kind.As ∷ kind.If ∷ kind.Getter ∷ kind.Setter ∷ []) raw refl refl

f_parenthesized_in : Facts parenthesized_in false (kind.Name ∷ kind.IntegerLiteral ∷ kind.BitsLiteral ∷ kind.OpenParen ∷ kind.Bang ∷ kind.Minus ∷ kind.False ∷ kind.Not ∷ kind.True ∷ kind.If ∷ kind.Getter ∷ kind.Setter ∷ []) []
unfolding parenthesized_in
f_parenthesized_in =
    let raw : Facts {A = List Expr} (by (λ r. r.0) (seq expressions (tok (kind.CloseParen ∷ [])))) false (kind.Name ∷ kind.IntegerLiteral ∷ kind.BitsLiteral ∷ kind.OpenParen ∷ kind.Bang ∷ kind.Minus ∷ kind.False ∷ kind.Not ∷ kind.True ∷ kind.If ∷ kind.Getter ∷ kind.Setter ∷ []) [] = (by_f (seq_f f_expressions tok_f refl)) in
    fit (kind.Name ∷ kind.IntegerLiteral ∷ kind.BitsLiteral ∷ kind.OpenParen ∷ kind.Bang ∷ kind.Minus ∷ kind.False ∷ kind.Not ∷ kind.True ∷ kind.If ∷ kind.Getter ∷ kind.Setter ∷ []) [] raw refl refl

f_arguments_in : Facts arguments_in false (kind.Name ∷ kind.IntegerLiteral ∷ kind.BitsLiteral ∷ kind.OpenParen ∷ kind.CloseParen ∷ kind.Bang ∷ kind.Minus ∷ kind.False ∷ kind.Not ∷ kind.True ∷ kind.If ∷ kind.Getter ∷ kind.Setter ∷ []) []
unfolding arguments_in
f_arguments_in =
    let raw : Facts {A = List Expr} (by (λ r. r.0) (seq maybe_expressions (tok (kind.CloseParen ∷ [])))) false (kind.Name ∷ kind.IntegerLiteral ∷ kind.BitsLiteral ∷ kind.OpenParen ∷ kind.Bang ∷ kind.Minus ∷ kind.False ∷ kind.Not ∷ kind.True ∷ kind.If ∷ kind.Getter ∷ kind.Setter ∷ kind.CloseParen ∷ []) [] = (by_f (seq_f f_maybe_expressions tok_f refl)) in
    fit (kind.Name ∷ kind.IntegerLiteral ∷ kind.BitsLiteral ∷ kind.OpenParen ∷ kind.CloseParen ∷ kind.Bang ∷ kind.Minus ∷ kind.False ∷ kind.Not ∷ kind.True ∷ kind.If ∷ kind.Getter ∷ kind.Setter ∷ []) [] raw refl refl

f_width_in : Facts width_in false (kind.Name ∷ kind.IntegerLiteral ∷ kind.BitsLiteral ∷ kind.OpenParen ∷ kind.Bang ∷ kind.Minus ∷ kind.False ∷ kind.Not ∷ kind.True ∷ kind.If ∷ kind.Getter ∷ kind.Setter ∷ []) []
unfolding width_in
f_width_in =
    let raw : Facts {A = Expr} (by (λ r. r.0) (seq expression (tok (kind.CloseParen ∷ [])))) false (kind.Name ∷ kind.IntegerLiteral ∷ kind.BitsLiteral ∷ kind.OpenParen ∷ kind.Bang ∷ kind.Minus ∷ kind.False ∷ kind.Not ∷ kind.True ∷ kind.If ∷ kind.Getter ∷ kind.Setter ∷ []) [] = (by_f (seq_f f_expression tok_f refl)) in
    fit (kind.Name ∷ kind.IntegerLiteral ∷ kind.BitsLiteral ∷ kind.OpenParen ∷ kind.Bang ∷ kind.Minus ∷ kind.False ∷ kind.Not ∷ kind.True ∷ kind.If ∷ kind.Getter ∷ kind.Setter ∷ []) [] raw refl refl

f_late_expression : Facts late_expression false (kind.Name ∷ kind.IntegerLiteral ∷ kind.BitsLiteral ∷ kind.OpenParen ∷ kind.Bang ∷ kind.Minus ∷ kind.False ∷ kind.Not ∷ kind.True ∷ kind.Getter ∷ kind.Setter ∷ []) (kind.OpenParen ∷ kind.OpenBracket ∷ kind.OpenBrace ∷ kind.Dot ∷ kind.ColonColon ∷ kind.Equal ∷ kind.NotEqual ∷ kind.AndAnd ∷ kind.OrOr ∷ kind.Implies ∷ kind.Iff ∷ kind.Less ∷ kind.LessEqual ∷ kind.ShiftLeft ∷ kind.Greater ∷ kind.GreaterEqual ∷ kind.ShiftRight ∷ kind.Plus ∷ kind.Minus ∷ kind.Star ∷ kind.Caret ∷ kind.BitAnd ∷ kind.Div ∷ kind.DivRm ∷ kind.In ∷ kind.Mod ∷ kind.BitOr ∷ kind.BitXor ∷ kind.As ∷ [])
unfolding late_expression
f_late_expression =
    let raw : Facts {A = LateTail} (scope (costs true (seq (spanned unary) rest))) false (kind.Name ∷ kind.IntegerLiteral ∷ kind.BitsLiteral ∷ kind.OpenParen ∷ kind.Bang ∷ kind.Minus ∷ kind.False ∷ kind.Not ∷ kind.True ∷ kind.Getter ∷ kind.Setter ∷ []) (kind.OpenParen ∷ kind.OpenBracket ∷ kind.OpenBrace ∷ kind.Dot ∷ kind.ColonColon ∷ kind.Equal ∷ kind.NotEqual ∷ kind.AndAnd ∷ kind.OrOr ∷ kind.Implies ∷ kind.Iff ∷ kind.Less ∷ kind.LessEqual ∷ kind.ShiftLeft ∷ kind.Greater ∷ kind.GreaterEqual ∷ kind.ShiftRight ∷ kind.Plus ∷ kind.Minus ∷ kind.Star ∷ kind.Caret ∷ kind.BitAnd ∷ kind.Div ∷ kind.DivRm ∷ kind.In ∷ kind.Mod ∷ kind.BitOr ∷ kind.BitXor ∷ kind.As ∷ kind.OpenParen ∷ kind.OpenBracket ∷ kind.OpenBrace ∷ kind.Dot ∷ kind.In ∷ []) = (scope_f (costs_f (seq_f (spanned_f f_unary) f_rest refl))) in
    fit (kind.Name ∷ kind.IntegerLiteral ∷ kind.BitsLiteral ∷ kind.OpenParen ∷ kind.Bang ∷ kind.Minus ∷ kind.False ∷ kind.Not ∷ kind.True ∷ kind.Getter ∷ kind.Setter ∷ []) (kind.OpenParen ∷ kind.OpenBracket ∷ kind.OpenBrace ∷ kind.Dot ∷ kind.ColonColon ∷ kind.Equal ∷ kind.NotEqual ∷ kind.AndAnd ∷ kind.OrOr ∷ kind.Implies ∷ kind.Iff ∷ kind.Less ∷ kind.LessEqual ∷ kind.ShiftLeft ∷ kind.Greater ∷ kind.GreaterEqual ∷ kind.ShiftRight ∷ kind.Plus ∷ kind.Minus ∷ kind.Star ∷ kind.Caret ∷ kind.BitAnd ∷ kind.Div ∷ kind.DivRm ∷ kind.In ∷ kind.Mod ∷ kind.BitOr ∷ kind.BitXor ∷ kind.As ∷ []) raw refl refl

f_expression_after_name : Facts expression_after_name true (kind.OpenParen ∷ kind.OpenBracket ∷ kind.OpenBrace ∷ kind.Dot ∷ kind.ColonColon ∷ kind.Equal ∷ kind.NotEqual ∷ kind.AndAnd ∷ kind.OrOr ∷ kind.Implies ∷ kind.Iff ∷ kind.Less ∷ kind.LessEqual ∷ kind.ShiftLeft ∷ kind.Greater ∷ kind.GreaterEqual ∷ kind.ShiftRight ∷ kind.Plus ∷ kind.Minus ∷ kind.Star ∷ kind.Caret ∷ kind.BitAnd ∷ kind.Div ∷ kind.DivRm ∷ kind.In ∷ kind.Mod ∷ kind.BitOr ∷ kind.BitXor ∷ kind.As ∷ []) (kind.OpenParen ∷ kind.OpenBracket ∷ kind.OpenBrace ∷ kind.Dot ∷ kind.ColonColon ∷ kind.Equal ∷ kind.NotEqual ∷ kind.AndAnd ∷ kind.OrOr ∷ kind.Implies ∷ kind.Iff ∷ kind.Less ∷ kind.LessEqual ∷ kind.ShiftLeft ∷ kind.Greater ∷ kind.GreaterEqual ∷ kind.ShiftRight ∷ kind.Plus ∷ kind.Minus ∷ kind.Star ∷ kind.Caret ∷ kind.BitAnd ∷ kind.Div ∷ kind.DivRm ∷ kind.In ∷ kind.Mod ∷ kind.BitOr ∷ kind.BitXor ∷ kind.As ∷ [])
unfolding expression_after_name
f_expression_after_name =
    let raw : Facts {A = NameTail} (scope (seq maybe_after_name (seq post_rest rest))) true (kind.OpenParen ∷ kind.OpenBracket ∷ kind.OpenBrace ∷ kind.Dot ∷ kind.ColonColon ∷ kind.Equal ∷ kind.NotEqual ∷ kind.AndAnd ∷ kind.OrOr ∷ kind.Implies ∷ kind.Iff ∷ kind.Less ∷ kind.LessEqual ∷ kind.ShiftLeft ∷ kind.Greater ∷ kind.GreaterEqual ∷ kind.ShiftRight ∷ kind.Plus ∷ kind.Minus ∷ kind.Star ∷ kind.Caret ∷ kind.BitAnd ∷ kind.Div ∷ kind.DivRm ∷ kind.In ∷ kind.Mod ∷ kind.BitOr ∷ kind.BitXor ∷ kind.As ∷ []) (kind.OpenParen ∷ kind.OpenBracket ∷ kind.OpenBrace ∷ kind.Dot ∷ kind.ColonColon ∷ kind.Equal ∷ kind.NotEqual ∷ kind.AndAnd ∷ kind.OrOr ∷ kind.Implies ∷ kind.Iff ∷ kind.Less ∷ kind.LessEqual ∷ kind.ShiftLeft ∷ kind.Greater ∷ kind.GreaterEqual ∷ kind.ShiftRight ∷ kind.Plus ∷ kind.Minus ∷ kind.Star ∷ kind.Caret ∷ kind.BitAnd ∷ kind.Div ∷ kind.DivRm ∷ kind.In ∷ kind.Mod ∷ kind.BitOr ∷ kind.BitXor ∷ kind.As ∷ []) = (scope_f (fit (kind.OpenParen ∷ kind.OpenBracket ∷ kind.OpenBrace ∷ kind.Dot ∷ kind.ColonColon ∷ kind.Equal ∷ kind.NotEqual ∷ kind.AndAnd ∷ kind.OrOr ∷ kind.Implies ∷ kind.Iff ∷ kind.Less ∷ kind.LessEqual ∷ kind.ShiftLeft ∷ kind.Greater ∷ kind.GreaterEqual ∷ kind.ShiftRight ∷ kind.Plus ∷ kind.Minus ∷ kind.Star ∷ kind.Caret ∷ kind.BitAnd ∷ kind.Div ∷ kind.DivRm ∷ kind.In ∷ kind.Mod ∷ kind.BitOr ∷ kind.BitXor ∷ kind.As ∷ []) (kind.OpenParen ∷ kind.OpenBracket ∷ kind.OpenBrace ∷ kind.Dot ∷ kind.ColonColon ∷ kind.Equal ∷ kind.NotEqual ∷ kind.AndAnd ∷ kind.OrOr ∷ kind.Implies ∷ kind.Iff ∷ kind.Less ∷ kind.LessEqual ∷ kind.ShiftLeft ∷ kind.Greater ∷ kind.GreaterEqual ∷ kind.ShiftRight ∷ kind.Plus ∷ kind.Minus ∷ kind.Star ∷ kind.Caret ∷ kind.BitAnd ∷ kind.Div ∷ kind.DivRm ∷ kind.In ∷ kind.Mod ∷ kind.BitOr ∷ kind.BitXor ∷ kind.As ∷ []) (seq_f f_maybe_after_name (seq_f f_post_rest f_rest refl) refl) refl refl)) in
    fit (kind.OpenParen ∷ kind.OpenBracket ∷ kind.OpenBrace ∷ kind.Dot ∷ kind.ColonColon ∷ kind.Equal ∷ kind.NotEqual ∷ kind.AndAnd ∷ kind.OrOr ∷ kind.Implies ∷ kind.Iff ∷ kind.Less ∷ kind.LessEqual ∷ kind.ShiftLeft ∷ kind.Greater ∷ kind.GreaterEqual ∷ kind.ShiftRight ∷ kind.Plus ∷ kind.Minus ∷ kind.Star ∷ kind.Caret ∷ kind.BitAnd ∷ kind.Div ∷ kind.DivRm ∷ kind.In ∷ kind.Mod ∷ kind.BitOr ∷ kind.BitXor ∷ kind.As ∷ []) (kind.OpenParen ∷ kind.OpenBracket ∷ kind.OpenBrace ∷ kind.Dot ∷ kind.ColonColon ∷ kind.Equal ∷ kind.NotEqual ∷ kind.AndAnd ∷ kind.OrOr ∷ kind.Implies ∷ kind.Iff ∷ kind.Less ∷ kind.LessEqual ∷ kind.ShiftLeft ∷ kind.Greater ∷ kind.GreaterEqual ∷ kind.ShiftRight ∷ kind.Plus ∷ kind.Minus ∷ kind.Star ∷ kind.Caret ∷ kind.BitAnd ∷ kind.Div ∷ kind.DivRm ∷ kind.In ∷ kind.Mod ∷ kind.BitOr ∷ kind.BitXor ∷ kind.As ∷ []) raw refl refl

f_prefixed_by_bang_not : Facts (prefixed_by (kind.Bang ∷ kind.Not ∷ [])) false (kind.Bang ∷ kind.Not ∷ []) (kind.OpenParen ∷ kind.OpenBracket ∷ kind.OpenBrace ∷ kind.Dot ∷ kind.In ∷ [])
unfolding prefixed_by
f_prefixed_by_bang_not =
    let raw : Facts {A = Expr} (by (λ r. ex.Unary (whole r.1) (unary_of (kind_of r.0.0.kind)) r.0.1) (spanned (into (kind.Bang ∷ kind.Not ∷ []) Operand))) false (kind.Bang ∷ kind.Not ∷ []) (kind.OpenParen ∷ kind.OpenBracket ∷ kind.OpenBrace ∷ kind.Dot ∷ kind.In ∷ []) = (by_f (spanned_f (into_f {s = Operand}))) in
    fit (kind.Bang ∷ kind.Not ∷ []) (kind.OpenParen ∷ kind.OpenBracket ∷ kind.OpenBrace ∷ kind.Dot ∷ kind.In ∷ []) raw refl refl

f_other_unary : Facts other_unary false (kind.IntegerLiteral ∷ kind.BitsLiteral ∷ kind.OpenParen ∷ kind.Bang ∷ kind.False ∷ kind.Not ∷ kind.True ∷ []) (kind.OpenParen ∷ kind.OpenBracket ∷ kind.OpenBrace ∷ kind.Dot ∷ kind.In ∷ [])
unfolding other_unary
f_other_unary =
    let raw : Facts {A = Expr} (either (prefixed_by (kind.Bang ∷ kind.Not ∷ [])) (either post_literal post_parenthesized)) false (kind.Bang ∷ kind.Not ∷ kind.IntegerLiteral ∷ kind.BitsLiteral ∷ kind.False ∷ kind.True ∷ kind.OpenParen ∷ []) (kind.OpenParen ∷ kind.OpenBracket ∷ kind.OpenBrace ∷ kind.Dot ∷ kind.In ∷ kind.OpenBracket ∷ kind.Dot ∷ kind.In ∷ kind.OpenBracket ∷ kind.Dot ∷ kind.In ∷ []) = (either_f f_prefixed_by_bang_not (either_f f_post_literal f_post_parenthesized refl) refl) in
    fit (kind.IntegerLiteral ∷ kind.BitsLiteral ∷ kind.OpenParen ∷ kind.Bang ∷ kind.False ∷ kind.Not ∷ kind.True ∷ []) (kind.OpenParen ∷ kind.OpenBracket ∷ kind.OpenBrace ∷ kind.Dot ∷ kind.In ∷ []) raw refl refl

f_other_chain : Facts other_chain false (kind.IntegerLiteral ∷ kind.BitsLiteral ∷ kind.OpenParen ∷ kind.Bang ∷ kind.False ∷ kind.Not ∷ kind.True ∷ []) (kind.OpenParen ∷ kind.OpenBracket ∷ kind.OpenBrace ∷ kind.Dot ∷ kind.ColonColon ∷ kind.Equal ∷ kind.NotEqual ∷ kind.AndAnd ∷ kind.OrOr ∷ kind.Implies ∷ kind.Iff ∷ kind.Less ∷ kind.LessEqual ∷ kind.ShiftLeft ∷ kind.Greater ∷ kind.GreaterEqual ∷ kind.ShiftRight ∷ kind.Plus ∷ kind.Minus ∷ kind.Star ∷ kind.Caret ∷ kind.BitAnd ∷ kind.Div ∷ kind.DivRm ∷ kind.In ∷ kind.Mod ∷ kind.BitOr ∷ kind.BitXor ∷ kind.As ∷ [])
unfolding other_chain
f_other_chain =
    let raw : Facts {A = Expr} (by (λ r. finished r.0.1.from r.0.0 r.1) (seq (spanned other_unary) rest)) false (kind.IntegerLiteral ∷ kind.BitsLiteral ∷ kind.OpenParen ∷ kind.Bang ∷ kind.False ∷ kind.Not ∷ kind.True ∷ []) (kind.OpenParen ∷ kind.OpenBracket ∷ kind.OpenBrace ∷ kind.Dot ∷ kind.ColonColon ∷ kind.Equal ∷ kind.NotEqual ∷ kind.AndAnd ∷ kind.OrOr ∷ kind.Implies ∷ kind.Iff ∷ kind.Less ∷ kind.LessEqual ∷ kind.ShiftLeft ∷ kind.Greater ∷ kind.GreaterEqual ∷ kind.ShiftRight ∷ kind.Plus ∷ kind.Minus ∷ kind.Star ∷ kind.Caret ∷ kind.BitAnd ∷ kind.Div ∷ kind.DivRm ∷ kind.In ∷ kind.Mod ∷ kind.BitOr ∷ kind.BitXor ∷ kind.As ∷ kind.OpenParen ∷ kind.OpenBracket ∷ kind.OpenBrace ∷ kind.Dot ∷ kind.In ∷ []) = (by_f (seq_f (spanned_f f_other_unary) f_rest refl)) in
    fit (kind.IntegerLiteral ∷ kind.BitsLiteral ∷ kind.OpenParen ∷ kind.Bang ∷ kind.False ∷ kind.Not ∷ kind.True ∷ []) (kind.OpenParen ∷ kind.OpenBracket ∷ kind.OpenBrace ∷ kind.Dot ∷ kind.ColonColon ∷ kind.Equal ∷ kind.NotEqual ∷ kind.AndAnd ∷ kind.OrOr ∷ kind.Implies ∷ kind.Iff ∷ kind.Less ∷ kind.LessEqual ∷ kind.ShiftLeft ∷ kind.Greater ∷ kind.GreaterEqual ∷ kind.ShiftRight ∷ kind.Plus ∷ kind.Minus ∷ kind.Star ∷ kind.Caret ∷ kind.BitAnd ∷ kind.Div ∷ kind.DivRm ∷ kind.In ∷ kind.Mod ∷ kind.BitOr ∷ kind.BitXor ∷ kind.As ∷ []) raw refl refl

f_other_open_expression : Facts other_open_expression false (kind.IntegerLiteral ∷ kind.BitsLiteral ∷ kind.OpenParen ∷ kind.Bang ∷ kind.False ∷ kind.Not ∷ kind.True ∷ kind.If ∷ []) (kind.OpenParen ∷ kind.OpenBracket ∷ kind.OpenBrace ∷ kind.Dot ∷ kind.ColonColon ∷ kind.Equal ∷ kind.NotEqual ∷ kind.AndAnd ∷ kind.OrOr ∷ kind.Implies ∷ kind.Iff ∷ kind.Less ∷ kind.LessEqual ∷ kind.ShiftLeft ∷ kind.Greater ∷ kind.GreaterEqual ∷ kind.ShiftRight ∷ kind.Plus ∷ kind.Minus ∷ kind.Star ∷ kind.Caret ∷ kind.BitAnd ∷ kind.Div ∷ kind.DivRm ∷ kind.In ∷ kind.Mod ∷ kind.BitOr ∷ kind.BitXor ∷ kind.As ∷ [])
unfolding other_open_expression
f_other_open_expression =
    let raw : Facts {A = Expr} (either conditional other_chain) false (kind.IntegerLiteral ∷ kind.BitsLiteral ∷ kind.OpenParen ∷ kind.Bang ∷ kind.False ∷ kind.Not ∷ kind.True ∷ kind.If ∷ []) (kind.OpenParen ∷ kind.OpenBracket ∷ kind.OpenBrace ∷ kind.Dot ∷ kind.ColonColon ∷ kind.Equal ∷ kind.NotEqual ∷ kind.AndAnd ∷ kind.OrOr ∷ kind.Implies ∷ kind.Iff ∷ kind.Less ∷ kind.LessEqual ∷ kind.ShiftLeft ∷ kind.Greater ∷ kind.GreaterEqual ∷ kind.ShiftRight ∷ kind.Plus ∷ kind.Minus ∷ kind.Star ∷ kind.Caret ∷ kind.BitAnd ∷ kind.Div ∷ kind.DivRm ∷ kind.In ∷ kind.Mod ∷ kind.BitOr ∷ kind.BitXor ∷ kind.As ∷ []) = (fit (kind.IntegerLiteral ∷ kind.BitsLiteral ∷ kind.OpenParen ∷ kind.Bang ∷ kind.False ∷ kind.Not ∷ kind.True ∷ kind.If ∷ []) (kind.OpenParen ∷ kind.OpenBracket ∷ kind.OpenBrace ∷ kind.Dot ∷ kind.ColonColon ∷ kind.Equal ∷ kind.NotEqual ∷ kind.AndAnd ∷ kind.OrOr ∷ kind.Implies ∷ kind.Iff ∷ kind.Less ∷ kind.LessEqual ∷ kind.ShiftLeft ∷ kind.Greater ∷ kind.GreaterEqual ∷ kind.ShiftRight ∷ kind.Plus ∷ kind.Minus ∷ kind.Star ∷ kind.Caret ∷ kind.BitAnd ∷ kind.Div ∷ kind.DivRm ∷ kind.In ∷ kind.Mod ∷ kind.BitOr ∷ kind.BitXor ∷ kind.As ∷ []) (either_f f_conditional f_other_chain refl) refl refl) in
    fit (kind.IntegerLiteral ∷ kind.BitsLiteral ∷ kind.OpenParen ∷ kind.Bang ∷ kind.False ∷ kind.Not ∷ kind.True ∷ kind.If ∷ []) (kind.OpenParen ∷ kind.OpenBracket ∷ kind.OpenBrace ∷ kind.Dot ∷ kind.ColonColon ∷ kind.Equal ∷ kind.NotEqual ∷ kind.AndAnd ∷ kind.OrOr ∷ kind.Implies ∷ kind.Iff ∷ kind.Less ∷ kind.LessEqual ∷ kind.ShiftLeft ∷ kind.Greater ∷ kind.GreaterEqual ∷ kind.ShiftRight ∷ kind.Plus ∷ kind.Minus ∷ kind.Star ∷ kind.Caret ∷ kind.BitAnd ∷ kind.Div ∷ kind.DivRm ∷ kind.In ∷ kind.Mod ∷ kind.BitOr ∷ kind.BitXor ∷ kind.As ∷ []) raw refl refl

f_other_expression : Facts other_expression false (kind.IntegerLiteral ∷ kind.BitsLiteral ∷ kind.OpenParen ∷ kind.Bang ∷ kind.False ∷ kind.Not ∷ kind.True ∷ kind.If ∷ []) (kind.OpenParen ∷ kind.OpenBracket ∷ kind.OpenBrace ∷ kind.Dot ∷ kind.ColonColon ∷ kind.Equal ∷ kind.NotEqual ∷ kind.AndAnd ∷ kind.OrOr ∷ kind.Implies ∷ kind.Iff ∷ kind.Less ∷ kind.LessEqual ∷ kind.ShiftLeft ∷ kind.Greater ∷ kind.GreaterEqual ∷ kind.ShiftRight ∷ kind.Plus ∷ kind.Minus ∷ kind.Star ∷ kind.Caret ∷ kind.BitAnd ∷ kind.Div ∷ kind.DivRm ∷ kind.In ∷ kind.Mod ∷ kind.BitOr ∷ kind.BitXor ∷ kind.As ∷ [])
unfolding other_expression
f_other_expression =
    let raw : Facts {A = Expr} (scope other_open_expression) false (kind.IntegerLiteral ∷ kind.BitsLiteral ∷ kind.OpenParen ∷ kind.Bang ∷ kind.False ∷ kind.Not ∷ kind.True ∷ kind.If ∷ []) (kind.OpenParen ∷ kind.OpenBracket ∷ kind.OpenBrace ∷ kind.Dot ∷ kind.ColonColon ∷ kind.Equal ∷ kind.NotEqual ∷ kind.AndAnd ∷ kind.OrOr ∷ kind.Implies ∷ kind.Iff ∷ kind.Less ∷ kind.LessEqual ∷ kind.ShiftLeft ∷ kind.Greater ∷ kind.GreaterEqual ∷ kind.ShiftRight ∷ kind.Plus ∷ kind.Minus ∷ kind.Star ∷ kind.Caret ∷ kind.BitAnd ∷ kind.Div ∷ kind.DivRm ∷ kind.In ∷ kind.Mod ∷ kind.BitOr ∷ kind.BitXor ∷ kind.As ∷ []) = (scope_f f_other_open_expression) in
    fit (kind.IntegerLiteral ∷ kind.BitsLiteral ∷ kind.OpenParen ∷ kind.Bang ∷ kind.False ∷ kind.Not ∷ kind.True ∷ kind.If ∷ []) (kind.OpenParen ∷ kind.OpenBracket ∷ kind.OpenBrace ∷ kind.Dot ∷ kind.ColonColon ∷ kind.Equal ∷ kind.NotEqual ∷ kind.AndAnd ∷ kind.OrOr ∷ kind.Implies ∷ kind.Iff ∷ kind.Less ∷ kind.LessEqual ∷ kind.ShiftLeft ∷ kind.Greater ∷ kind.GreaterEqual ∷ kind.ShiftRight ∷ kind.Plus ∷ kind.Minus ∷ kind.Star ∷ kind.Caret ∷ kind.BitAnd ∷ kind.Div ∷ kind.DivRm ∷ kind.In ∷ kind.Mod ∷ kind.BitOr ∷ kind.BitXor ∷ kind.As ∷ []) raw refl refl

f_field_value : Facts field_value false (kind.Name ∷ kind.Getter ∷ kind.Setter ∷ []) (kind.OpenParen ∷ kind.OpenBracket ∷ kind.OpenBrace ∷ kind.Dot ∷ kind.ColonColon ∷ kind.Equal ∷ kind.NotEqual ∷ kind.AndAnd ∷ kind.OrOr ∷ kind.Implies ∷ kind.Iff ∷ kind.Less ∷ kind.LessEqual ∷ kind.ShiftLeft ∷ kind.Greater ∷ kind.GreaterEqual ∷ kind.ShiftRight ∷ kind.Plus ∷ kind.Minus ∷ kind.Star ∷ kind.Caret ∷ kind.BitAnd ∷ kind.Div ∷ kind.DivRm ∷ kind.In ∷ kind.Mod ∷ kind.BitOr ∷ kind.BitXor ∷ kind.As ∷ [])
unfolding field_value
f_field_value =
    let raw : Facts {A = FieldValue} (by (λ r. fv.Given r.0 r.1.1) (seq name (seq (tok (kind.Assign ∷ [])) expression))) false (kind.Name ∷ kind.Getter ∷ kind.Setter ∷ []) (kind.OpenParen ∷ kind.OpenBracket ∷ kind.OpenBrace ∷ kind.Dot ∷ kind.ColonColon ∷ kind.Equal ∷ kind.NotEqual ∷ kind.AndAnd ∷ kind.OrOr ∷ kind.Implies ∷ kind.Iff ∷ kind.Less ∷ kind.LessEqual ∷ kind.ShiftLeft ∷ kind.Greater ∷ kind.GreaterEqual ∷ kind.ShiftRight ∷ kind.Plus ∷ kind.Minus ∷ kind.Star ∷ kind.Caret ∷ kind.BitAnd ∷ kind.Div ∷ kind.DivRm ∷ kind.In ∷ kind.Mod ∷ kind.BitOr ∷ kind.BitXor ∷ kind.As ∷ []) = (by_f (seq_f f_name (seq_f tok_f f_expression refl) refl)) in
    fit (kind.Name ∷ kind.Getter ∷ kind.Setter ∷ []) (kind.OpenParen ∷ kind.OpenBracket ∷ kind.OpenBrace ∷ kind.Dot ∷ kind.ColonColon ∷ kind.Equal ∷ kind.NotEqual ∷ kind.AndAnd ∷ kind.OrOr ∷ kind.Implies ∷ kind.Iff ∷ kind.Less ∷ kind.LessEqual ∷ kind.ShiftLeft ∷ kind.Greater ∷ kind.GreaterEqual ∷ kind.ShiftRight ∷ kind.Plus ∷ kind.Minus ∷ kind.Star ∷ kind.Caret ∷ kind.BitAnd ∷ kind.Div ∷ kind.DivRm ∷ kind.In ∷ kind.Mod ∷ kind.BitOr ∷ kind.BitXor ∷ kind.As ∷ []) raw refl refl

f_more_field_values : Facts more_field_values true (kind.Comma ∷ []) (kind.OpenParen ∷ kind.OpenBracket ∷ kind.OpenBrace ∷ kind.Comma ∷ kind.Dot ∷ kind.ColonColon ∷ kind.Equal ∷ kind.NotEqual ∷ kind.AndAnd ∷ kind.OrOr ∷ kind.Implies ∷ kind.Iff ∷ kind.Less ∷ kind.LessEqual ∷ kind.ShiftLeft ∷ kind.Greater ∷ kind.GreaterEqual ∷ kind.ShiftRight ∷ kind.Plus ∷ kind.Minus ∷ kind.Star ∷ kind.Caret ∷ kind.BitAnd ∷ kind.Div ∷ kind.DivRm ∷ kind.In ∷ kind.Mod ∷ kind.BitOr ∷ kind.BitXor ∷ kind.As ∷ [])
unfolding more_field_values
f_more_field_values =
    let raw : Facts {A = List FieldValue} (by seconds (many (seq (tok (kind.Comma ∷ [])) field_value))) true (kind.Comma ∷ []) (kind.Comma ∷ kind.OpenParen ∷ kind.OpenBracket ∷ kind.OpenBrace ∷ kind.Dot ∷ kind.ColonColon ∷ kind.Equal ∷ kind.NotEqual ∷ kind.AndAnd ∷ kind.OrOr ∷ kind.Implies ∷ kind.Iff ∷ kind.Less ∷ kind.LessEqual ∷ kind.ShiftLeft ∷ kind.Greater ∷ kind.GreaterEqual ∷ kind.ShiftRight ∷ kind.Plus ∷ kind.Minus ∷ kind.Star ∷ kind.Caret ∷ kind.BitAnd ∷ kind.Div ∷ kind.DivRm ∷ kind.In ∷ kind.Mod ∷ kind.BitOr ∷ kind.BitXor ∷ kind.As ∷ []) = (by_f (many_f (seq_f tok_f f_field_value refl) refl)) in
    fit (kind.Comma ∷ []) (kind.OpenParen ∷ kind.OpenBracket ∷ kind.OpenBrace ∷ kind.Comma ∷ kind.Dot ∷ kind.ColonColon ∷ kind.Equal ∷ kind.NotEqual ∷ kind.AndAnd ∷ kind.OrOr ∷ kind.Implies ∷ kind.Iff ∷ kind.Less ∷ kind.LessEqual ∷ kind.ShiftLeft ∷ kind.Greater ∷ kind.GreaterEqual ∷ kind.ShiftRight ∷ kind.Plus ∷ kind.Minus ∷ kind.Star ∷ kind.Caret ∷ kind.BitAnd ∷ kind.Div ∷ kind.DivRm ∷ kind.In ∷ kind.Mod ∷ kind.BitOr ∷ kind.BitXor ∷ kind.As ∷ []) raw refl refl

f_field_values_after_name : Facts field_values_after_name false (kind.Assign ∷ []) []
unfolding field_values_after_name
f_field_values_after_name =
    let raw : Facts {A = Expr × List FieldValue} (by (λ r. (r.1.0, r.1.1.0)) (seq (tok (kind.Assign ∷ [])) (seq expression (seq more_field_values (tok (kind.CloseBrace ∷ [])))))) false (kind.Assign ∷ []) [] = (by_f (seq_f tok_f (seq_f f_expression (seq_f f_more_field_values tok_f refl) refl) refl)) in
    fit (kind.Assign ∷ []) [] raw refl refl

f_more_parameters : Facts more_parameters false (kind.CloseBrace ∷ kind.Comma ∷ []) []
unfolding more_parameters
f_more_parameters =
    let raw : Facts {A = List Expr} (by (λ r. r.0) (seq more_expressions (tok (kind.CloseBrace ∷ [])))) false (kind.Comma ∷ kind.CloseBrace ∷ []) [] = (by_f (seq_f f_more_expressions tok_f refl)) in
    fit (kind.CloseBrace ∷ kind.Comma ∷ []) [] raw refl refl

f_parameters_after_minus : Facts parameters_after_minus false (kind.Name ∷ kind.IntegerLiteral ∷ kind.BitsLiteral ∷ kind.OpenParen ∷ kind.Bang ∷ kind.Minus ∷ kind.False ∷ kind.Not ∷ kind.True ∷ kind.Getter ∷ kind.Setter ∷ []) []
unfolding parameters_after_minus
f_parameters_after_minus =
    let raw : Facts {A = LateTail × List Expr} (seq late_expression more_parameters) false (kind.Name ∷ kind.IntegerLiteral ∷ kind.BitsLiteral ∷ kind.OpenParen ∷ kind.Bang ∷ kind.Minus ∷ kind.False ∷ kind.Not ∷ kind.True ∷ kind.Getter ∷ kind.Setter ∷ []) [] = (seq_f f_late_expression f_more_parameters refl) in
    fit (kind.Name ∷ kind.IntegerLiteral ∷ kind.BitsLiteral ∷ kind.OpenParen ∷ kind.Bang ∷ kind.Minus ∷ kind.False ∷ kind.Not ∷ kind.True ∷ kind.Getter ∷ kind.Setter ∷ []) [] raw refl refl

f_parameters_after_name : Facts parameters_after_name false (kind.OpenParen ∷ kind.OpenBracket ∷ kind.OpenBrace ∷ kind.CloseBrace ∷ kind.Comma ∷ kind.Dot ∷ kind.ColonColon ∷ kind.Equal ∷ kind.NotEqual ∷ kind.AndAnd ∷ kind.OrOr ∷ kind.Implies ∷ kind.Iff ∷ kind.Less ∷ kind.LessEqual ∷ kind.ShiftLeft ∷ kind.Greater ∷ kind.GreaterEqual ∷ kind.ShiftRight ∷ kind.Plus ∷ kind.Minus ∷ kind.Star ∷ kind.Caret ∷ kind.BitAnd ∷ kind.Div ∷ kind.DivRm ∷ kind.In ∷ kind.Mod ∷ kind.BitOr ∷ kind.BitXor ∷ kind.As ∷ []) []
unfolding parameters_after_name
f_parameters_after_name =
    let raw : Facts {A = NameTail × List Expr} (seq expression_after_name more_parameters) false (kind.OpenParen ∷ kind.OpenBracket ∷ kind.OpenBrace ∷ kind.Dot ∷ kind.ColonColon ∷ kind.Equal ∷ kind.NotEqual ∷ kind.AndAnd ∷ kind.OrOr ∷ kind.Implies ∷ kind.Iff ∷ kind.Less ∷ kind.LessEqual ∷ kind.ShiftLeft ∷ kind.Greater ∷ kind.GreaterEqual ∷ kind.ShiftRight ∷ kind.Plus ∷ kind.Minus ∷ kind.Star ∷ kind.Caret ∷ kind.BitAnd ∷ kind.Div ∷ kind.DivRm ∷ kind.In ∷ kind.Mod ∷ kind.BitOr ∷ kind.BitXor ∷ kind.As ∷ kind.CloseBrace ∷ kind.Comma ∷ []) [] = (seq_f f_expression_after_name f_more_parameters refl) in
    fit (kind.OpenParen ∷ kind.OpenBracket ∷ kind.OpenBrace ∷ kind.CloseBrace ∷ kind.Comma ∷ kind.Dot ∷ kind.ColonColon ∷ kind.Equal ∷ kind.NotEqual ∷ kind.AndAnd ∷ kind.OrOr ∷ kind.Implies ∷ kind.Iff ∷ kind.Less ∷ kind.LessEqual ∷ kind.ShiftLeft ∷ kind.Greater ∷ kind.GreaterEqual ∷ kind.ShiftRight ∷ kind.Plus ∷ kind.Minus ∷ kind.Star ∷ kind.Caret ∷ kind.BitAnd ∷ kind.Div ∷ kind.DivRm ∷ kind.In ∷ kind.Mod ∷ kind.BitOr ∷ kind.BitXor ∷ kind.As ∷ []) [] raw refl refl

f_minus_alone : Facts minus_alone false (kind.CloseBrace ∷ []) []
unfolding minus_alone
f_minus_alone =
    let raw : Facts {A = Option (LateTail × List Expr)} (by (λ r. None) (tok (kind.CloseBrace ∷ []))) false (kind.CloseBrace ∷ []) [] = (by_f tok_f) in
    fit (kind.CloseBrace ∷ []) [] raw refl refl

f_after_minus : Facts after_minus false (kind.Name ∷ kind.IntegerLiteral ∷ kind.BitsLiteral ∷ kind.OpenParen ∷ kind.CloseBrace ∷ kind.Bang ∷ kind.Minus ∷ kind.False ∷ kind.Not ∷ kind.True ∷ kind.Getter ∷ kind.Setter ∷ []) []
unfolding after_minus
f_after_minus =
    let raw : Facts {A = Option (LateTail × List Expr)} (either minus_alone (by Some parameters_after_minus)) false (kind.CloseBrace ∷ kind.Name ∷ kind.IntegerLiteral ∷ kind.BitsLiteral ∷ kind.OpenParen ∷ kind.Bang ∷ kind.Minus ∷ kind.False ∷ kind.Not ∷ kind.True ∷ kind.Getter ∷ kind.Setter ∷ []) [] = (either_f f_minus_alone (by_f f_parameters_after_minus) refl) in
    fit (kind.Name ∷ kind.IntegerLiteral ∷ kind.BitsLiteral ∷ kind.OpenParen ∷ kind.CloseBrace ∷ kind.Bang ∷ kind.Minus ∷ kind.False ∷ kind.Not ∷ kind.True ∷ kind.Getter ∷ kind.Setter ∷ []) [] raw refl refl

f_after_first_name : Facts after_first_name false (kind.OpenParen ∷ kind.OpenBracket ∷ kind.OpenBrace ∷ kind.CloseBrace ∷ kind.Comma ∷ kind.Dot ∷ kind.ColonColon ∷ kind.Assign ∷ kind.Equal ∷ kind.NotEqual ∷ kind.AndAnd ∷ kind.OrOr ∷ kind.Implies ∷ kind.Iff ∷ kind.Less ∷ kind.LessEqual ∷ kind.ShiftLeft ∷ kind.Greater ∷ kind.GreaterEqual ∷ kind.ShiftRight ∷ kind.Plus ∷ kind.Minus ∷ kind.Star ∷ kind.Caret ∷ kind.BitAnd ∷ kind.Div ∷ kind.DivRm ∷ kind.In ∷ kind.Mod ∷ kind.BitOr ∷ kind.BitXor ∷ kind.As ∷ []) []
unfolding after_first_name
f_after_first_name =
    let raw : Facts {A = (Expr × List FieldValue) ⊎ (NameTail × List Expr)} (either (by inl field_values_after_name) (by inr parameters_after_name)) false (kind.Assign ∷ kind.OpenParen ∷ kind.OpenBracket ∷ kind.OpenBrace ∷ kind.CloseBrace ∷ kind.Comma ∷ kind.Dot ∷ kind.ColonColon ∷ kind.Equal ∷ kind.NotEqual ∷ kind.AndAnd ∷ kind.OrOr ∷ kind.Implies ∷ kind.Iff ∷ kind.Less ∷ kind.LessEqual ∷ kind.ShiftLeft ∷ kind.Greater ∷ kind.GreaterEqual ∷ kind.ShiftRight ∷ kind.Plus ∷ kind.Minus ∷ kind.Star ∷ kind.Caret ∷ kind.BitAnd ∷ kind.Div ∷ kind.DivRm ∷ kind.In ∷ kind.Mod ∷ kind.BitOr ∷ kind.BitXor ∷ kind.As ∷ []) [] = (either_f (by_f f_field_values_after_name) (by_f f_parameters_after_name) refl) in
    fit (kind.OpenParen ∷ kind.OpenBracket ∷ kind.OpenBrace ∷ kind.CloseBrace ∷ kind.Comma ∷ kind.Dot ∷ kind.ColonColon ∷ kind.Assign ∷ kind.Equal ∷ kind.NotEqual ∷ kind.AndAnd ∷ kind.OrOr ∷ kind.Implies ∷ kind.Iff ∷ kind.Less ∷ kind.LessEqual ∷ kind.ShiftLeft ∷ kind.Greater ∷ kind.GreaterEqual ∷ kind.ShiftRight ∷ kind.Plus ∷ kind.Minus ∷ kind.Star ∷ kind.Caret ∷ kind.BitAnd ∷ kind.Div ∷ kind.DivRm ∷ kind.In ∷ kind.Mod ∷ kind.BitOr ∷ kind.BitXor ∷ kind.As ∷ []) [] raw refl refl

f_minus_in_braces : Facts minus_in_braces false (kind.Minus ∷ []) []
unfolding minus_in_braces
f_minus_in_braces =
    let raw : Facts {A = Braces} (by (λ r. minus_in_braces_of r.0.span r.1) (seq (tok (kind.Minus ∷ [])) after_minus)) false (kind.Minus ∷ []) [] = (by_f (seq_f tok_f f_after_minus refl)) in
    fit (kind.Minus ∷ []) [] raw refl refl

f_name_in_braces : Facts name_in_braces false (kind.Name ∷ kind.Getter ∷ kind.Setter ∷ []) []
unfolding name_in_braces
f_name_in_braces =
    let raw : Facts {A = Braces} (by (λ r. name_in_braces_of r.0 r.1) (seq name after_first_name)) false (kind.Name ∷ kind.Getter ∷ kind.Setter ∷ []) [] = (by_f (seq_f f_name f_after_first_name refl)) in
    fit (kind.Name ∷ kind.Getter ∷ kind.Setter ∷ []) [] raw refl refl

f_other_in_braces : Facts other_in_braces false (kind.IntegerLiteral ∷ kind.BitsLiteral ∷ kind.OpenParen ∷ kind.Bang ∷ kind.False ∷ kind.Not ∷ kind.True ∷ kind.If ∷ []) []
unfolding other_in_braces
f_other_in_braces =
    let raw : Facts {A = Braces} (by (λ r. br.Parameters (r.0 ∷ r.1)) (seq other_expression more_parameters)) false (kind.IntegerLiteral ∷ kind.BitsLiteral ∷ kind.OpenParen ∷ kind.Bang ∷ kind.False ∷ kind.Not ∷ kind.True ∷ kind.If ∷ []) [] = (by_f (seq_f f_other_expression f_more_parameters refl)) in
    fit (kind.IntegerLiteral ∷ kind.BitsLiteral ∷ kind.OpenParen ∷ kind.Bang ∷ kind.False ∷ kind.Not ∷ kind.True ∷ kind.If ∷ []) [] raw refl refl

f_empty_braces : Facts empty_braces false (kind.CloseBrace ∷ []) []
unfolding empty_braces
f_empty_braces =
    let raw : Facts {A = Braces} (by (λ r. br.Empty) (tok (kind.CloseBrace ∷ []))) false (kind.CloseBrace ∷ []) [] = (by_f tok_f) in
    fit (kind.CloseBrace ∷ []) [] raw refl refl

f_braced_in : Facts braced_in false (kind.Name ∷ kind.IntegerLiteral ∷ kind.BitsLiteral ∷ kind.OpenParen ∷ kind.CloseBrace ∷ kind.Bang ∷ kind.Minus ∷ kind.False ∷ kind.Not ∷ kind.True ∷ kind.If ∷ kind.Getter ∷ kind.Setter ∷ []) []
unfolding braced_in
f_braced_in =
    let raw : Facts {A = Braces} (either empty_braces (either minus_in_braces (either name_in_braces other_in_braces))) false (kind.CloseBrace ∷ kind.Minus ∷ kind.Name ∷ kind.Getter ∷ kind.Setter ∷ kind.IntegerLiteral ∷ kind.BitsLiteral ∷ kind.OpenParen ∷ kind.Bang ∷ kind.False ∷ kind.Not ∷ kind.True ∷ kind.If ∷ []) [] = (either_f f_empty_braces (either_f f_minus_in_braces (either_f f_name_in_braces f_other_in_braces refl) refl) refl) in
    fit (kind.Name ∷ kind.IntegerLiteral ∷ kind.BitsLiteral ∷ kind.OpenParen ∷ kind.CloseBrace ∷ kind.Bang ∷ kind.Minus ∷ kind.False ∷ kind.Not ∷ kind.True ∷ kind.If ∷ kind.Getter ∷ kind.Setter ∷ []) [] raw refl refl

f_slice_form : Facts slice_form false (kind.Colon ∷ kind.PlusColon ∷ kind.StarColon ∷ []) []
unfolding slice_form
f_slice_form =
    let raw : Facts {A = SliceForm} (either (by (λ r. sf.HighLow) (tok (kind.Colon ∷ []))) (either (by (λ r. sf.LowWidth) (tok (kind.PlusColon ∷ []))) (by (λ r. sf.FactorWidth) (tok (kind.StarColon ∷ []))))) false (kind.Colon ∷ kind.PlusColon ∷ kind.StarColon ∷ []) [] = (either_f (by_f tok_f) (either_f (by_f tok_f) (by_f tok_f) refl) refl) in
    fit (kind.Colon ∷ kind.PlusColon ∷ kind.StarColon ∷ []) [] raw refl refl

f_slice_rest : Facts slice_rest true (kind.Colon ∷ kind.PlusColon ∷ kind.StarColon ∷ []) (kind.OpenParen ∷ kind.OpenBracket ∷ kind.OpenBrace ∷ kind.Dot ∷ kind.Colon ∷ kind.ColonColon ∷ kind.Equal ∷ kind.NotEqual ∷ kind.AndAnd ∷ kind.OrOr ∷ kind.Implies ∷ kind.Iff ∷ kind.Less ∷ kind.LessEqual ∷ kind.ShiftLeft ∷ kind.Greater ∷ kind.GreaterEqual ∷ kind.ShiftRight ∷ kind.Plus ∷ kind.PlusColon ∷ kind.Minus ∷ kind.Star ∷ kind.StarColon ∷ kind.Caret ∷ kind.BitAnd ∷ kind.Div ∷ kind.DivRm ∷ kind.In ∷ kind.Mod ∷ kind.BitOr ∷ kind.BitXor ∷ kind.As ∷ [])
unfolding slice_rest
f_slice_rest =
    let raw : Facts {A = Option (SliceForm × Expr)} (opt (seq slice_form expression)) true (kind.Colon ∷ kind.PlusColon ∷ kind.StarColon ∷ []) (kind.Colon ∷ kind.PlusColon ∷ kind.StarColon ∷ kind.OpenParen ∷ kind.OpenBracket ∷ kind.OpenBrace ∷ kind.Dot ∷ kind.ColonColon ∷ kind.Equal ∷ kind.NotEqual ∷ kind.AndAnd ∷ kind.OrOr ∷ kind.Implies ∷ kind.Iff ∷ kind.Less ∷ kind.LessEqual ∷ kind.ShiftLeft ∷ kind.Greater ∷ kind.GreaterEqual ∷ kind.ShiftRight ∷ kind.Plus ∷ kind.Minus ∷ kind.Star ∷ kind.Caret ∷ kind.BitAnd ∷ kind.Div ∷ kind.DivRm ∷ kind.In ∷ kind.Mod ∷ kind.BitOr ∷ kind.BitXor ∷ kind.As ∷ []) = (opt_f (seq_f f_slice_form f_expression refl)) in
    fit (kind.Colon ∷ kind.PlusColon ∷ kind.StarColon ∷ []) (kind.OpenParen ∷ kind.OpenBracket ∷ kind.OpenBrace ∷ kind.Dot ∷ kind.Colon ∷ kind.ColonColon ∷ kind.Equal ∷ kind.NotEqual ∷ kind.AndAnd ∷ kind.OrOr ∷ kind.Implies ∷ kind.Iff ∷ kind.Less ∷ kind.LessEqual ∷ kind.ShiftLeft ∷ kind.Greater ∷ kind.GreaterEqual ∷ kind.ShiftRight ∷ kind.Plus ∷ kind.PlusColon ∷ kind.Minus ∷ kind.Star ∷ kind.StarColon ∷ kind.Caret ∷ kind.BitAnd ∷ kind.Div ∷ kind.DivRm ∷ kind.In ∷ kind.Mod ∷ kind.BitOr ∷ kind.BitXor ∷ kind.As ∷ []) raw refl refl

f_slice : Facts slice false (kind.Name ∷ kind.IntegerLiteral ∷ kind.BitsLiteral ∷ kind.OpenParen ∷ kind.Bang ∷ kind.Minus ∷ kind.False ∷ kind.Not ∷ kind.True ∷ kind.If ∷ kind.Getter ∷ kind.Setter ∷ []) (kind.OpenParen ∷ kind.OpenBracket ∷ kind.OpenBrace ∷ kind.Dot ∷ kind.Colon ∷ kind.ColonColon ∷ kind.Equal ∷ kind.NotEqual ∷ kind.AndAnd ∷ kind.OrOr ∷ kind.Implies ∷ kind.Iff ∷ kind.Less ∷ kind.LessEqual ∷ kind.ShiftLeft ∷ kind.Greater ∷ kind.GreaterEqual ∷ kind.ShiftRight ∷ kind.Plus ∷ kind.PlusColon ∷ kind.Minus ∷ kind.Star ∷ kind.StarColon ∷ kind.Caret ∷ kind.BitAnd ∷ kind.Div ∷ kind.DivRm ∷ kind.In ∷ kind.Mod ∷ kind.BitOr ∷ kind.BitXor ∷ kind.As ∷ [])
unfolding slice
f_slice =
    let raw : Facts {A = Slice} (by (λ r. slice_of r.0 r.1) (seq expression slice_rest)) false (kind.Name ∷ kind.IntegerLiteral ∷ kind.BitsLiteral ∷ kind.OpenParen ∷ kind.Bang ∷ kind.Minus ∷ kind.False ∷ kind.Not ∷ kind.True ∷ kind.If ∷ kind.Getter ∷ kind.Setter ∷ []) (kind.OpenParen ∷ kind.OpenBracket ∷ kind.OpenBrace ∷ kind.Dot ∷ kind.Colon ∷ kind.ColonColon ∷ kind.Equal ∷ kind.NotEqual ∷ kind.AndAnd ∷ kind.OrOr ∷ kind.Implies ∷ kind.Iff ∷ kind.Less ∷ kind.LessEqual ∷ kind.ShiftLeft ∷ kind.Greater ∷ kind.GreaterEqual ∷ kind.ShiftRight ∷ kind.Plus ∷ kind.PlusColon ∷ kind.Minus ∷ kind.Star ∷ kind.StarColon ∷ kind.Caret ∷ kind.BitAnd ∷ kind.Div ∷ kind.DivRm ∷ kind.In ∷ kind.Mod ∷ kind.BitOr ∷ kind.BitXor ∷ kind.As ∷ []) = (by_f (fit (kind.Name ∷ kind.IntegerLiteral ∷ kind.BitsLiteral ∷ kind.OpenParen ∷ kind.Bang ∷ kind.Minus ∷ kind.False ∷ kind.Not ∷ kind.True ∷ kind.If ∷ kind.Getter ∷ kind.Setter ∷ []) (kind.OpenParen ∷ kind.OpenBracket ∷ kind.OpenBrace ∷ kind.Dot ∷ kind.Colon ∷ kind.ColonColon ∷ kind.Equal ∷ kind.NotEqual ∷ kind.AndAnd ∷ kind.OrOr ∷ kind.Implies ∷ kind.Iff ∷ kind.Less ∷ kind.LessEqual ∷ kind.ShiftLeft ∷ kind.Greater ∷ kind.GreaterEqual ∷ kind.ShiftRight ∷ kind.Plus ∷ kind.PlusColon ∷ kind.Minus ∷ kind.Star ∷ kind.StarColon ∷ kind.Caret ∷ kind.BitAnd ∷ kind.Div ∷ kind.DivRm ∷ kind.In ∷ kind.Mod ∷ kind.BitOr ∷ kind.BitXor ∷ kind.As ∷ []) (seq_f f_expression f_slice_rest refl) refl refl)) in
    fit (kind.Name ∷ kind.IntegerLiteral ∷ kind.BitsLiteral ∷ kind.OpenParen ∷ kind.Bang ∷ kind.Minus ∷ kind.False ∷ kind.Not ∷ kind.True ∷ kind.If ∷ kind.Getter ∷ kind.Setter ∷ []) (kind.OpenParen ∷ kind.OpenBracket ∷ kind.OpenBrace ∷ kind.Dot ∷ kind.Colon ∷ kind.ColonColon ∷ kind.Equal ∷ kind.NotEqual ∷ kind.AndAnd ∷ kind.OrOr ∷ kind.Implies ∷ kind.Iff ∷ kind.Less ∷ kind.LessEqual ∷ kind.ShiftLeft ∷ kind.Greater ∷ kind.GreaterEqual ∷ kind.ShiftRight ∷ kind.Plus ∷ kind.PlusColon ∷ kind.Minus ∷ kind.Star ∷ kind.StarColon ∷ kind.Caret ∷ kind.BitAnd ∷ kind.Div ∷ kind.DivRm ∷ kind.In ∷ kind.Mod ∷ kind.BitOr ∷ kind.BitXor ∷ kind.As ∷ []) raw refl refl

f_slices : Facts slices false (kind.Name ∷ kind.IntegerLiteral ∷ kind.BitsLiteral ∷ kind.OpenParen ∷ kind.Bang ∷ kind.Minus ∷ kind.False ∷ kind.Not ∷ kind.True ∷ kind.If ∷ kind.Getter ∷ kind.Setter ∷ []) (kind.OpenParen ∷ kind.OpenBracket ∷ kind.OpenBrace ∷ kind.Comma ∷ kind.Dot ∷ kind.Colon ∷ kind.ColonColon ∷ kind.Equal ∷ kind.NotEqual ∷ kind.AndAnd ∷ kind.OrOr ∷ kind.Implies ∷ kind.Iff ∷ kind.Less ∷ kind.LessEqual ∷ kind.ShiftLeft ∷ kind.Greater ∷ kind.GreaterEqual ∷ kind.ShiftRight ∷ kind.Plus ∷ kind.PlusColon ∷ kind.Minus ∷ kind.Star ∷ kind.StarColon ∷ kind.Caret ∷ kind.BitAnd ∷ kind.Div ∷ kind.DivRm ∷ kind.In ∷ kind.Mod ∷ kind.BitOr ∷ kind.BitXor ∷ kind.As ∷ [])
unfolding slices
f_slices =
    let raw : Facts {A = List Slice} (by (λ r. r.0 ∷ seconds r.1) (seq slice (many (seq (tok (kind.Comma ∷ [])) slice)))) false (kind.Name ∷ kind.IntegerLiteral ∷ kind.BitsLiteral ∷ kind.OpenParen ∷ kind.Bang ∷ kind.Minus ∷ kind.False ∷ kind.Not ∷ kind.True ∷ kind.If ∷ kind.Getter ∷ kind.Setter ∷ []) (kind.OpenParen ∷ kind.OpenBracket ∷ kind.OpenBrace ∷ kind.Comma ∷ kind.Dot ∷ kind.Colon ∷ kind.ColonColon ∷ kind.Equal ∷ kind.NotEqual ∷ kind.AndAnd ∷ kind.OrOr ∷ kind.Implies ∷ kind.Iff ∷ kind.Less ∷ kind.LessEqual ∷ kind.ShiftLeft ∷ kind.Greater ∷ kind.GreaterEqual ∷ kind.ShiftRight ∷ kind.Plus ∷ kind.PlusColon ∷ kind.Minus ∷ kind.Star ∷ kind.StarColon ∷ kind.Caret ∷ kind.BitAnd ∷ kind.Div ∷ kind.DivRm ∷ kind.In ∷ kind.Mod ∷ kind.BitOr ∷ kind.BitXor ∷ kind.As ∷ []) = (by_f (fit (kind.Name ∷ kind.IntegerLiteral ∷ kind.BitsLiteral ∷ kind.OpenParen ∷ kind.Bang ∷ kind.Minus ∷ kind.False ∷ kind.Not ∷ kind.True ∷ kind.If ∷ kind.Getter ∷ kind.Setter ∷ []) (kind.OpenParen ∷ kind.OpenBracket ∷ kind.OpenBrace ∷ kind.Comma ∷ kind.Dot ∷ kind.Colon ∷ kind.ColonColon ∷ kind.Equal ∷ kind.NotEqual ∷ kind.AndAnd ∷ kind.OrOr ∷ kind.Implies ∷ kind.Iff ∷ kind.Less ∷ kind.LessEqual ∷ kind.ShiftLeft ∷ kind.Greater ∷ kind.GreaterEqual ∷ kind.ShiftRight ∷ kind.Plus ∷ kind.PlusColon ∷ kind.Minus ∷ kind.Star ∷ kind.StarColon ∷ kind.Caret ∷ kind.BitAnd ∷ kind.Div ∷ kind.DivRm ∷ kind.In ∷ kind.Mod ∷ kind.BitOr ∷ kind.BitXor ∷ kind.As ∷ []) (seq_f f_slice (many_f (seq_f tok_f f_slice refl) refl) refl) refl refl)) in
    fit (kind.Name ∷ kind.IntegerLiteral ∷ kind.BitsLiteral ∷ kind.OpenParen ∷ kind.Bang ∷ kind.Minus ∷ kind.False ∷ kind.Not ∷ kind.True ∷ kind.If ∷ kind.Getter ∷ kind.Setter ∷ []) (kind.OpenParen ∷ kind.OpenBracket ∷ kind.OpenBrace ∷ kind.Comma ∷ kind.Dot ∷ kind.Colon ∷ kind.ColonColon ∷ kind.Equal ∷ kind.NotEqual ∷ kind.AndAnd ∷ kind.OrOr ∷ kind.Implies ∷ kind.Iff ∷ kind.Less ∷ kind.LessEqual ∷ kind.ShiftLeft ∷ kind.Greater ∷ kind.GreaterEqual ∷ kind.ShiftRight ∷ kind.Plus ∷ kind.PlusColon ∷ kind.Minus ∷ kind.Star ∷ kind.StarColon ∷ kind.Caret ∷ kind.BitAnd ∷ kind.Div ∷ kind.DivRm ∷ kind.In ∷ kind.Mod ∷ kind.BitOr ∷ kind.BitXor ∷ kind.As ∷ []) raw refl refl

f_slices_in : Facts slices_in false (kind.Name ∷ kind.IntegerLiteral ∷ kind.BitsLiteral ∷ kind.OpenParen ∷ kind.Bang ∷ kind.Minus ∷ kind.False ∷ kind.Not ∷ kind.True ∷ kind.If ∷ kind.Getter ∷ kind.Setter ∷ []) []
unfolding slices_in
f_slices_in =
    let raw : Facts {A = Suffix} (by (λ r. su.SlicesOf r.0) (seq slices (tok (kind.CloseBracket ∷ [])))) false (kind.Name ∷ kind.IntegerLiteral ∷ kind.BitsLiteral ∷ kind.OpenParen ∷ kind.Bang ∷ kind.Minus ∷ kind.False ∷ kind.Not ∷ kind.True ∷ kind.If ∷ kind.Getter ∷ kind.Setter ∷ []) [] = (by_f (seq_f f_slices tok_f refl)) in
    fit (kind.Name ∷ kind.IntegerLiteral ∷ kind.BitsLiteral ∷ kind.OpenParen ∷ kind.Bang ∷ kind.Minus ∷ kind.False ∷ kind.Not ∷ kind.True ∷ kind.If ∷ kind.Getter ∷ kind.Setter ∷ []) [] raw refl refl

f_element : Facts element false (kind.OpenBracket ∷ []) []
unfolding element
f_element =
    let raw : Facts {A = Suffix} (by (λ r. su.ElementOf r.0) (seq (scope (by (λ r. r.1.0) (seq (opens (kind.OpenBracket ∷ [])) (seq expression (tok (kind.CloseBracket ∷ [])))))) (tok (kind.CloseBracket ∷ [])))) false (kind.OpenBracket ∷ []) [] = (by_f (seq_f (scope_f (by_f (seq_f opens_f (seq_f f_expression tok_f refl) refl))) tok_f refl)) in
    fit (kind.OpenBracket ∷ []) [] raw refl refl

f_bracketed_in : Facts bracketed_in false (kind.Name ∷ kind.IntegerLiteral ∷ kind.BitsLiteral ∷ kind.OpenParen ∷ kind.OpenBracket ∷ kind.Bang ∷ kind.Minus ∷ kind.False ∷ kind.Not ∷ kind.True ∷ kind.If ∷ kind.Getter ∷ kind.Setter ∷ []) []
unfolding bracketed_in
f_bracketed_in =
    let raw : Facts {A = Suffix} (either element slices_in) false (kind.OpenBracket ∷ kind.Name ∷ kind.IntegerLiteral ∷ kind.BitsLiteral ∷ kind.OpenParen ∷ kind.Bang ∷ kind.Minus ∷ kind.False ∷ kind.Not ∷ kind.True ∷ kind.If ∷ kind.Getter ∷ kind.Setter ∷ []) [] = (either_f f_element f_slices_in refl) in
    fit (kind.Name ∷ kind.IntegerLiteral ∷ kind.BitsLiteral ∷ kind.OpenParen ∷ kind.OpenBracket ∷ kind.Bang ∷ kind.Minus ∷ kind.False ∷ kind.Not ∷ kind.True ∷ kind.If ∷ kind.Getter ∷ kind.Setter ∷ []) [] raw refl refl

f_sum_rests : Facts sum_rests true (kind.ColonColon ∷ kind.ShiftLeft ∷ kind.ShiftRight ∷ kind.Plus ∷ kind.Minus ∷ kind.Star ∷ kind.Caret ∷ kind.BitAnd ∷ kind.Div ∷ kind.DivRm ∷ kind.Mod ∷ kind.BitOr ∷ kind.BitXor ∷ []) (kind.OpenParen ∷ kind.OpenBracket ∷ kind.OpenBrace ∷ kind.Dot ∷ kind.ColonColon ∷ kind.ShiftLeft ∷ kind.ShiftRight ∷ kind.Plus ∷ kind.Minus ∷ kind.Star ∷ kind.Caret ∷ kind.BitAnd ∷ kind.Div ∷ kind.DivRm ∷ kind.In ∷ kind.Mod ∷ kind.BitOr ∷ kind.BitXor ∷ [])
unfolding sum_rests
f_sum_rests =
    let raw : Facts {A = Links} (by (λ r. r.0 ++ (r.1.0 ++ r.1.1)) (seq power_rest (seq product_rest sum_rest))) true (kind.Caret ∷ kind.ShiftLeft ∷ kind.ShiftRight ∷ kind.Star ∷ kind.Div ∷ kind.DivRm ∷ kind.Mod ∷ kind.ColonColon ∷ kind.Plus ∷ kind.Minus ∷ kind.BitAnd ∷ kind.BitOr ∷ kind.BitXor ∷ []) (kind.OpenParen ∷ kind.OpenBracket ∷ kind.OpenBrace ∷ kind.Dot ∷ kind.ColonColon ∷ kind.ShiftLeft ∷ kind.ShiftRight ∷ kind.Plus ∷ kind.Minus ∷ kind.Star ∷ kind.Caret ∷ kind.BitAnd ∷ kind.Div ∷ kind.DivRm ∷ kind.In ∷ kind.Mod ∷ kind.BitOr ∷ kind.BitXor ∷ kind.OpenParen ∷ kind.OpenBracket ∷ kind.OpenBrace ∷ kind.Dot ∷ kind.ShiftLeft ∷ kind.ShiftRight ∷ kind.Star ∷ kind.Caret ∷ kind.Div ∷ kind.DivRm ∷ kind.In ∷ kind.Mod ∷ kind.OpenParen ∷ kind.OpenBracket ∷ kind.OpenBrace ∷ kind.Dot ∷ kind.Caret ∷ kind.In ∷ []) = (by_f (seq_f f_power_rest (seq_f f_product_rest f_sum_rest refl) refl)) in
    fit (kind.ColonColon ∷ kind.ShiftLeft ∷ kind.ShiftRight ∷ kind.Plus ∷ kind.Minus ∷ kind.Star ∷ kind.Caret ∷ kind.BitAnd ∷ kind.Div ∷ kind.DivRm ∷ kind.Mod ∷ kind.BitOr ∷ kind.BitXor ∷ []) (kind.OpenParen ∷ kind.OpenBracket ∷ kind.OpenBrace ∷ kind.Dot ∷ kind.ColonColon ∷ kind.ShiftLeft ∷ kind.ShiftRight ∷ kind.Plus ∷ kind.Minus ∷ kind.Star ∷ kind.Caret ∷ kind.BitAnd ∷ kind.Div ∷ kind.DivRm ∷ kind.In ∷ kind.Mod ∷ kind.BitOr ∷ kind.BitXor ∷ []) raw refl refl

f_scoped_sum : Facts scoped_sum false (kind.Name ∷ kind.IntegerLiteral ∷ kind.BitsLiteral ∷ kind.OpenParen ∷ kind.Bang ∷ kind.Minus ∷ kind.False ∷ kind.Not ∷ kind.True ∷ kind.Getter ∷ kind.Setter ∷ []) (kind.OpenParen ∷ kind.OpenBracket ∷ kind.OpenBrace ∷ kind.Dot ∷ kind.ColonColon ∷ kind.ShiftLeft ∷ kind.ShiftRight ∷ kind.Plus ∷ kind.Minus ∷ kind.Star ∷ kind.Caret ∷ kind.BitAnd ∷ kind.Div ∷ kind.DivRm ∷ kind.In ∷ kind.Mod ∷ kind.BitOr ∷ kind.BitXor ∷ [])
unfolding scoped_sum
f_scoped_sum =
    let raw : Facts {A = Expr} (scope sum) false (kind.Name ∷ kind.IntegerLiteral ∷ kind.BitsLiteral ∷ kind.OpenParen ∷ kind.Bang ∷ kind.Minus ∷ kind.False ∷ kind.Not ∷ kind.True ∷ kind.Getter ∷ kind.Setter ∷ []) (kind.OpenParen ∷ kind.OpenBracket ∷ kind.OpenBrace ∷ kind.Dot ∷ kind.ColonColon ∷ kind.ShiftLeft ∷ kind.ShiftRight ∷ kind.Plus ∷ kind.Minus ∷ kind.Star ∷ kind.Caret ∷ kind.BitAnd ∷ kind.Div ∷ kind.DivRm ∷ kind.In ∷ kind.Mod ∷ kind.BitOr ∷ kind.BitXor ∷ []) = (scope_f f_sum) in
    fit (kind.Name ∷ kind.IntegerLiteral ∷ kind.BitsLiteral ∷ kind.OpenParen ∷ kind.Bang ∷ kind.Minus ∷ kind.False ∷ kind.Not ∷ kind.True ∷ kind.Getter ∷ kind.Setter ∷ []) (kind.OpenParen ∷ kind.OpenBracket ∷ kind.OpenBrace ∷ kind.Dot ∷ kind.ColonColon ∷ kind.ShiftLeft ∷ kind.ShiftRight ∷ kind.Plus ∷ kind.Minus ∷ kind.Star ∷ kind.Caret ∷ kind.BitAnd ∷ kind.Div ∷ kind.DivRm ∷ kind.In ∷ kind.Mod ∷ kind.BitOr ∷ kind.BitXor ∷ []) raw refl refl

f_range_end : Facts range_end true (kind.DotDot ∷ []) (kind.OpenParen ∷ kind.OpenBracket ∷ kind.OpenBrace ∷ kind.Dot ∷ kind.DotDot ∷ kind.ColonColon ∷ kind.ShiftLeft ∷ kind.ShiftRight ∷ kind.Plus ∷ kind.Minus ∷ kind.Star ∷ kind.Caret ∷ kind.BitAnd ∷ kind.Div ∷ kind.DivRm ∷ kind.In ∷ kind.Mod ∷ kind.BitOr ∷ kind.BitXor ∷ [])
unfolding range_end
f_range_end =
    let raw : Facts {A = Option Expr} (opt (by (λ r. r.1) (seq (tok (kind.DotDot ∷ [])) scoped_sum))) true (kind.DotDot ∷ []) (kind.DotDot ∷ kind.OpenParen ∷ kind.OpenBracket ∷ kind.OpenBrace ∷ kind.Dot ∷ kind.ColonColon ∷ kind.ShiftLeft ∷ kind.ShiftRight ∷ kind.Plus ∷ kind.Minus ∷ kind.Star ∷ kind.Caret ∷ kind.BitAnd ∷ kind.Div ∷ kind.DivRm ∷ kind.In ∷ kind.Mod ∷ kind.BitOr ∷ kind.BitXor ∷ []) = (opt_f (by_f (seq_f tok_f f_scoped_sum refl))) in
    fit (kind.DotDot ∷ []) (kind.OpenParen ∷ kind.OpenBracket ∷ kind.OpenBrace ∷ kind.Dot ∷ kind.DotDot ∷ kind.ColonColon ∷ kind.ShiftLeft ∷ kind.ShiftRight ∷ kind.Plus ∷ kind.Minus ∷ kind.Star ∷ kind.Caret ∷ kind.BitAnd ∷ kind.Div ∷ kind.DivRm ∷ kind.In ∷ kind.Mod ∷ kind.BitOr ∷ kind.BitXor ∷ []) raw refl refl

f_late_sum : Facts late_sum false (kind.Name ∷ kind.IntegerLiteral ∷ kind.BitsLiteral ∷ kind.OpenParen ∷ kind.Bang ∷ kind.Minus ∷ kind.False ∷ kind.Not ∷ kind.True ∷ kind.Getter ∷ kind.Setter ∷ []) (kind.OpenParen ∷ kind.OpenBracket ∷ kind.OpenBrace ∷ kind.Dot ∷ kind.ColonColon ∷ kind.ShiftLeft ∷ kind.ShiftRight ∷ kind.Plus ∷ kind.Minus ∷ kind.Star ∷ kind.Caret ∷ kind.BitAnd ∷ kind.Div ∷ kind.DivRm ∷ kind.In ∷ kind.Mod ∷ kind.BitOr ∷ kind.BitXor ∷ [])
unfolding late_sum
f_late_sum =
    let raw : Facts {A = SumTail} (scope (costs true (seq (spanned unary) sum_rests))) false (kind.Name ∷ kind.IntegerLiteral ∷ kind.BitsLiteral ∷ kind.OpenParen ∷ kind.Bang ∷ kind.Minus ∷ kind.False ∷ kind.Not ∷ kind.True ∷ kind.Getter ∷ kind.Setter ∷ []) (kind.OpenParen ∷ kind.OpenBracket ∷ kind.OpenBrace ∷ kind.Dot ∷ kind.ColonColon ∷ kind.ShiftLeft ∷ kind.ShiftRight ∷ kind.Plus ∷ kind.Minus ∷ kind.Star ∷ kind.Caret ∷ kind.BitAnd ∷ kind.Div ∷ kind.DivRm ∷ kind.In ∷ kind.Mod ∷ kind.BitOr ∷ kind.BitXor ∷ kind.OpenParen ∷ kind.OpenBracket ∷ kind.OpenBrace ∷ kind.Dot ∷ kind.In ∷ []) = (scope_f (costs_f (seq_f (spanned_f f_unary) f_sum_rests refl))) in
    fit (kind.Name ∷ kind.IntegerLiteral ∷ kind.BitsLiteral ∷ kind.OpenParen ∷ kind.Bang ∷ kind.Minus ∷ kind.False ∷ kind.Not ∷ kind.True ∷ kind.Getter ∷ kind.Setter ∷ []) (kind.OpenParen ∷ kind.OpenBracket ∷ kind.OpenBrace ∷ kind.Dot ∷ kind.ColonColon ∷ kind.ShiftLeft ∷ kind.ShiftRight ∷ kind.Plus ∷ kind.Minus ∷ kind.Star ∷ kind.Caret ∷ kind.BitAnd ∷ kind.Div ∷ kind.DivRm ∷ kind.In ∷ kind.Mod ∷ kind.BitOr ∷ kind.BitXor ∷ []) raw refl refl

f_late_range : Facts late_range false (kind.Name ∷ kind.IntegerLiteral ∷ kind.BitsLiteral ∷ kind.OpenParen ∷ kind.Bang ∷ kind.Minus ∷ kind.False ∷ kind.Not ∷ kind.True ∷ kind.Getter ∷ kind.Setter ∷ []) (kind.OpenParen ∷ kind.OpenBracket ∷ kind.OpenBrace ∷ kind.Dot ∷ kind.DotDot ∷ kind.ColonColon ∷ kind.ShiftLeft ∷ kind.ShiftRight ∷ kind.Plus ∷ kind.Minus ∷ kind.Star ∷ kind.Caret ∷ kind.BitAnd ∷ kind.Div ∷ kind.DivRm ∷ kind.In ∷ kind.Mod ∷ kind.BitOr ∷ kind.BitXor ∷ [])
unfolding late_range
f_late_range =
    let raw : Facts {A = LateRange} (seq late_sum range_end) false (kind.Name ∷ kind.IntegerLiteral ∷ kind.BitsLiteral ∷ kind.OpenParen ∷ kind.Bang ∷ kind.Minus ∷ kind.False ∷ kind.Not ∷ kind.True ∷ kind.Getter ∷ kind.Setter ∷ []) (kind.OpenParen ∷ kind.OpenBracket ∷ kind.OpenBrace ∷ kind.Dot ∷ kind.DotDot ∷ kind.ColonColon ∷ kind.ShiftLeft ∷ kind.ShiftRight ∷ kind.Plus ∷ kind.Minus ∷ kind.Star ∷ kind.Caret ∷ kind.BitAnd ∷ kind.Div ∷ kind.DivRm ∷ kind.In ∷ kind.Mod ∷ kind.BitOr ∷ kind.BitXor ∷ kind.OpenParen ∷ kind.OpenBracket ∷ kind.OpenBrace ∷ kind.Dot ∷ kind.ColonColon ∷ kind.ShiftLeft ∷ kind.ShiftRight ∷ kind.Plus ∷ kind.Minus ∷ kind.Star ∷ kind.Caret ∷ kind.BitAnd ∷ kind.Div ∷ kind.DivRm ∷ kind.In ∷ kind.Mod ∷ kind.BitOr ∷ kind.BitXor ∷ []) = (seq_f f_late_sum f_range_end refl) in
    fit (kind.Name ∷ kind.IntegerLiteral ∷ kind.BitsLiteral ∷ kind.OpenParen ∷ kind.Bang ∷ kind.Minus ∷ kind.False ∷ kind.Not ∷ kind.True ∷ kind.Getter ∷ kind.Setter ∷ []) (kind.OpenParen ∷ kind.OpenBracket ∷ kind.OpenBrace ∷ kind.Dot ∷ kind.DotDot ∷ kind.ColonColon ∷ kind.ShiftLeft ∷ kind.ShiftRight ∷ kind.Plus ∷ kind.Minus ∷ kind.Star ∷ kind.Caret ∷ kind.BitAnd ∷ kind.Div ∷ kind.DivRm ∷ kind.In ∷ kind.Mod ∷ kind.BitOr ∷ kind.BitXor ∷ []) raw refl refl

f_maybe_late_range : Facts maybe_late_range true (kind.Name ∷ kind.IntegerLiteral ∷ kind.BitsLiteral ∷ kind.OpenParen ∷ kind.Bang ∷ kind.Minus ∷ kind.False ∷ kind.Not ∷ kind.True ∷ kind.Getter ∷ kind.Setter ∷ []) (kind.Name ∷ kind.IntegerLiteral ∷ kind.BitsLiteral ∷ kind.OpenParen ∷ kind.OpenBracket ∷ kind.OpenBrace ∷ kind.Dot ∷ kind.DotDot ∷ kind.ColonColon ∷ kind.Bang ∷ kind.ShiftLeft ∷ kind.ShiftRight ∷ kind.Plus ∷ kind.Minus ∷ kind.Star ∷ kind.Caret ∷ kind.BitAnd ∷ kind.Div ∷ kind.DivRm ∷ kind.False ∷ kind.In ∷ kind.Mod ∷ kind.Not ∷ kind.BitOr ∷ kind.True ∷ kind.BitXor ∷ kind.Getter ∷ kind.Setter ∷ [])
unfolding maybe_late_range
f_maybe_late_range =
    let raw : Facts {A = Option LateRange} (opt late_range) true (kind.Name ∷ kind.IntegerLiteral ∷ kind.BitsLiteral ∷ kind.OpenParen ∷ kind.Bang ∷ kind.Minus ∷ kind.False ∷ kind.Not ∷ kind.True ∷ kind.Getter ∷ kind.Setter ∷ []) (kind.Name ∷ kind.IntegerLiteral ∷ kind.BitsLiteral ∷ kind.OpenParen ∷ kind.Bang ∷ kind.Minus ∷ kind.False ∷ kind.Not ∷ kind.True ∷ kind.Getter ∷ kind.Setter ∷ kind.OpenParen ∷ kind.OpenBracket ∷ kind.OpenBrace ∷ kind.Dot ∷ kind.DotDot ∷ kind.ColonColon ∷ kind.ShiftLeft ∷ kind.ShiftRight ∷ kind.Plus ∷ kind.Minus ∷ kind.Star ∷ kind.Caret ∷ kind.BitAnd ∷ kind.Div ∷ kind.DivRm ∷ kind.In ∷ kind.Mod ∷ kind.BitOr ∷ kind.BitXor ∷ []) = (opt_f f_late_range) in
    fit (kind.Name ∷ kind.IntegerLiteral ∷ kind.BitsLiteral ∷ kind.OpenParen ∷ kind.Bang ∷ kind.Minus ∷ kind.False ∷ kind.Not ∷ kind.True ∷ kind.Getter ∷ kind.Setter ∷ []) (kind.Name ∷ kind.IntegerLiteral ∷ kind.BitsLiteral ∷ kind.OpenParen ∷ kind.OpenBracket ∷ kind.OpenBrace ∷ kind.Dot ∷ kind.DotDot ∷ kind.ColonColon ∷ kind.Bang ∷ kind.ShiftLeft ∷ kind.ShiftRight ∷ kind.Plus ∷ kind.Minus ∷ kind.Star ∷ kind.Caret ∷ kind.BitAnd ∷ kind.Div ∷ kind.DivRm ∷ kind.False ∷ kind.In ∷ kind.Mod ∷ kind.Not ∷ kind.BitOr ∷ kind.True ∷ kind.BitXor ∷ kind.Getter ∷ kind.Setter ∷ []) raw refl refl

f_minus_pattern : Facts minus_pattern false (kind.Minus ∷ []) (kind.Name ∷ kind.IntegerLiteral ∷ kind.BitsLiteral ∷ kind.OpenParen ∷ kind.OpenBracket ∷ kind.OpenBrace ∷ kind.Dot ∷ kind.DotDot ∷ kind.ColonColon ∷ kind.Bang ∷ kind.ShiftLeft ∷ kind.ShiftRight ∷ kind.Plus ∷ kind.Minus ∷ kind.Star ∷ kind.Caret ∷ kind.BitAnd ∷ kind.Div ∷ kind.DivRm ∷ kind.False ∷ kind.In ∷ kind.Mod ∷ kind.Not ∷ kind.BitOr ∷ kind.True ∷ kind.BitXor ∷ kind.Getter ∷ kind.Setter ∷ [])
unfolding minus_pattern
f_minus_pattern =
    let raw : Facts {A = Pattern} (by (λ r. minus_pattern_of r.1.from (whole r.1) r.0.1) (spanned (seq (tok (kind.Minus ∷ [])) maybe_late_range))) false (kind.Minus ∷ []) (kind.Name ∷ kind.IntegerLiteral ∷ kind.BitsLiteral ∷ kind.OpenParen ∷ kind.OpenBracket ∷ kind.OpenBrace ∷ kind.Dot ∷ kind.DotDot ∷ kind.ColonColon ∷ kind.Bang ∷ kind.ShiftLeft ∷ kind.ShiftRight ∷ kind.Plus ∷ kind.Minus ∷ kind.Star ∷ kind.Caret ∷ kind.BitAnd ∷ kind.Div ∷ kind.DivRm ∷ kind.False ∷ kind.In ∷ kind.Mod ∷ kind.Not ∷ kind.BitOr ∷ kind.True ∷ kind.BitXor ∷ kind.Getter ∷ kind.Setter ∷ []) = (by_f (spanned_f (seq_f tok_f f_maybe_late_range refl))) in
    fit (kind.Minus ∷ []) (kind.Name ∷ kind.IntegerLiteral ∷ kind.BitsLiteral ∷ kind.OpenParen ∷ kind.OpenBracket ∷ kind.OpenBrace ∷ kind.Dot ∷ kind.DotDot ∷ kind.ColonColon ∷ kind.Bang ∷ kind.ShiftLeft ∷ kind.ShiftRight ∷ kind.Plus ∷ kind.Minus ∷ kind.Star ∷ kind.Caret ∷ kind.BitAnd ∷ kind.Div ∷ kind.DivRm ∷ kind.False ∷ kind.In ∷ kind.Mod ∷ kind.Not ∷ kind.BitOr ∷ kind.True ∷ kind.BitXor ∷ kind.Getter ∷ kind.Setter ∷ []) raw refl refl

f_after_bang : Facts after_bang false (kind.Name ∷ kind.IntegerLiteral ∷ kind.BitsLiteral ∷ kind.OpenParen ∷ kind.OpenBrace ∷ kind.Bang ∷ kind.Minus ∷ kind.False ∷ kind.Not ∷ kind.True ∷ kind.Getter ∷ kind.Setter ∷ []) (kind.OpenParen ∷ kind.OpenBracket ∷ kind.OpenBrace ∷ kind.Dot ∷ kind.DotDot ∷ kind.ColonColon ∷ kind.ShiftLeft ∷ kind.ShiftRight ∷ kind.Plus ∷ kind.Minus ∷ kind.Star ∷ kind.Caret ∷ kind.BitAnd ∷ kind.Div ∷ kind.DivRm ∷ kind.In ∷ kind.Mod ∷ kind.BitOr ∷ kind.BitXor ∷ [])
unfolding after_bang
f_after_bang =
    let raw : Facts {A = List Pattern ⊎ LateRange} (either (by inl set_braces) (by inr late_range)) false (kind.OpenBrace ∷ kind.Name ∷ kind.IntegerLiteral ∷ kind.BitsLiteral ∷ kind.OpenParen ∷ kind.Bang ∷ kind.Minus ∷ kind.False ∷ kind.Not ∷ kind.True ∷ kind.Getter ∷ kind.Setter ∷ []) (kind.OpenParen ∷ kind.OpenBracket ∷ kind.OpenBrace ∷ kind.Dot ∷ kind.DotDot ∷ kind.ColonColon ∷ kind.ShiftLeft ∷ kind.ShiftRight ∷ kind.Plus ∷ kind.Minus ∷ kind.Star ∷ kind.Caret ∷ kind.BitAnd ∷ kind.Div ∷ kind.DivRm ∷ kind.In ∷ kind.Mod ∷ kind.BitOr ∷ kind.BitXor ∷ []) = (either_f (by_f f_set_braces) (by_f f_late_range) refl) in
    fit (kind.Name ∷ kind.IntegerLiteral ∷ kind.BitsLiteral ∷ kind.OpenParen ∷ kind.OpenBrace ∷ kind.Bang ∷ kind.Minus ∷ kind.False ∷ kind.Not ∷ kind.True ∷ kind.Getter ∷ kind.Setter ∷ []) (kind.OpenParen ∷ kind.OpenBracket ∷ kind.OpenBrace ∷ kind.Dot ∷ kind.DotDot ∷ kind.ColonColon ∷ kind.ShiftLeft ∷ kind.ShiftRight ∷ kind.Plus ∷ kind.Minus ∷ kind.Star ∷ kind.Caret ∷ kind.BitAnd ∷ kind.Div ∷ kind.DivRm ∷ kind.In ∷ kind.Mod ∷ kind.BitOr ∷ kind.BitXor ∷ []) raw refl refl

f_bang_pattern : Facts bang_pattern false (kind.Bang ∷ []) (kind.OpenParen ∷ kind.OpenBracket ∷ kind.OpenBrace ∷ kind.Dot ∷ kind.DotDot ∷ kind.ColonColon ∷ kind.ShiftLeft ∷ kind.ShiftRight ∷ kind.Plus ∷ kind.Minus ∷ kind.Star ∷ kind.Caret ∷ kind.BitAnd ∷ kind.Div ∷ kind.DivRm ∷ kind.In ∷ kind.Mod ∷ kind.BitOr ∷ kind.BitXor ∷ [])
unfolding bang_pattern
f_bang_pattern =
    let raw : Facts {A = Pattern} (by (λ r. bang_pattern_of r.1.from (whole r.1) r.0.1) (spanned (seq (tok (kind.Bang ∷ [])) after_bang))) false (kind.Bang ∷ []) (kind.OpenParen ∷ kind.OpenBracket ∷ kind.OpenBrace ∷ kind.Dot ∷ kind.DotDot ∷ kind.ColonColon ∷ kind.ShiftLeft ∷ kind.ShiftRight ∷ kind.Plus ∷ kind.Minus ∷ kind.Star ∷ kind.Caret ∷ kind.BitAnd ∷ kind.Div ∷ kind.DivRm ∷ kind.In ∷ kind.Mod ∷ kind.BitOr ∷ kind.BitXor ∷ []) = (by_f (spanned_f (seq_f tok_f f_after_bang refl))) in
    fit (kind.Bang ∷ []) (kind.OpenParen ∷ kind.OpenBracket ∷ kind.OpenBrace ∷ kind.Dot ∷ kind.DotDot ∷ kind.ColonColon ∷ kind.ShiftLeft ∷ kind.ShiftRight ∷ kind.Plus ∷ kind.Minus ∷ kind.Star ∷ kind.Caret ∷ kind.BitAnd ∷ kind.Div ∷ kind.DivRm ∷ kind.In ∷ kind.Mod ∷ kind.BitOr ∷ kind.BitXor ∷ []) raw refl refl

f_at_most : Facts at_most false (kind.LessEqual ∷ []) (kind.OpenParen ∷ kind.OpenBracket ∷ kind.OpenBrace ∷ kind.Dot ∷ kind.ColonColon ∷ kind.ShiftLeft ∷ kind.ShiftRight ∷ kind.Plus ∷ kind.Minus ∷ kind.Star ∷ kind.Caret ∷ kind.BitAnd ∷ kind.Div ∷ kind.DivRm ∷ kind.In ∷ kind.Mod ∷ kind.BitOr ∷ kind.BitXor ∷ [])
unfolding at_most
f_at_most =
    let raw : Facts {A = Pattern} (by (λ r. pa.AtMost (whole r.1) r.0.1) (spanned (seq (tok (kind.LessEqual ∷ [])) scoped_sum))) false (kind.LessEqual ∷ []) (kind.OpenParen ∷ kind.OpenBracket ∷ kind.OpenBrace ∷ kind.Dot ∷ kind.ColonColon ∷ kind.ShiftLeft ∷ kind.ShiftRight ∷ kind.Plus ∷ kind.Minus ∷ kind.Star ∷ kind.Caret ∷ kind.BitAnd ∷ kind.Div ∷ kind.DivRm ∷ kind.In ∷ kind.Mod ∷ kind.BitOr ∷ kind.BitXor ∷ []) = (by_f (spanned_f (seq_f tok_f f_scoped_sum refl))) in
    fit (kind.LessEqual ∷ []) (kind.OpenParen ∷ kind.OpenBracket ∷ kind.OpenBrace ∷ kind.Dot ∷ kind.ColonColon ∷ kind.ShiftLeft ∷ kind.ShiftRight ∷ kind.Plus ∷ kind.Minus ∷ kind.Star ∷ kind.Caret ∷ kind.BitAnd ∷ kind.Div ∷ kind.DivRm ∷ kind.In ∷ kind.Mod ∷ kind.BitOr ∷ kind.BitXor ∷ []) raw refl refl

f_at_least : Facts at_least false (kind.GreaterEqual ∷ []) (kind.OpenParen ∷ kind.OpenBracket ∷ kind.OpenBrace ∷ kind.Dot ∷ kind.ColonColon ∷ kind.ShiftLeft ∷ kind.ShiftRight ∷ kind.Plus ∷ kind.Minus ∷ kind.Star ∷ kind.Caret ∷ kind.BitAnd ∷ kind.Div ∷ kind.DivRm ∷ kind.In ∷ kind.Mod ∷ kind.BitOr ∷ kind.BitXor ∷ [])
unfolding at_least
f_at_least =
    let raw : Facts {A = Pattern} (by (λ r. pa.AtLeast (whole r.1) r.0.1) (spanned (seq (tok (kind.GreaterEqual ∷ [])) scoped_sum))) false (kind.GreaterEqual ∷ []) (kind.OpenParen ∷ kind.OpenBracket ∷ kind.OpenBrace ∷ kind.Dot ∷ kind.ColonColon ∷ kind.ShiftLeft ∷ kind.ShiftRight ∷ kind.Plus ∷ kind.Minus ∷ kind.Star ∷ kind.Caret ∷ kind.BitAnd ∷ kind.Div ∷ kind.DivRm ∷ kind.In ∷ kind.Mod ∷ kind.BitOr ∷ kind.BitXor ∷ []) = (by_f (spanned_f (seq_f tok_f f_scoped_sum refl))) in
    fit (kind.GreaterEqual ∷ []) (kind.OpenParen ∷ kind.OpenBracket ∷ kind.OpenBrace ∷ kind.Dot ∷ kind.ColonColon ∷ kind.ShiftLeft ∷ kind.ShiftRight ∷ kind.Plus ∷ kind.Minus ∷ kind.Star ∷ kind.Caret ∷ kind.BitAnd ∷ kind.Div ∷ kind.DivRm ∷ kind.In ∷ kind.Mod ∷ kind.BitOr ∷ kind.BitXor ∷ []) raw refl refl

f_pattern_in_parens : Facts pattern_in_parens false (kind.OpenParen ∷ []) []
unfolding pattern_in_parens
f_pattern_in_parens =
    let raw : Facts {A = Pattern} (by (λ r. pattern_parens_of (whole r.1) r.0.1) (spanned (scope (into (kind.OpenParen ∷ []) PatternParts)))) false (kind.OpenParen ∷ []) [] = (by_f (spanned_f (scope_f (into_f {s = PatternParts})))) in
    fit (kind.OpenParen ∷ []) [] raw refl refl

f_prefixed_by_not : Facts (prefixed_by (kind.Not ∷ [])) false (kind.Not ∷ []) (kind.OpenParen ∷ kind.OpenBracket ∷ kind.OpenBrace ∷ kind.Dot ∷ kind.In ∷ [])
unfolding prefixed_by
f_prefixed_by_not =
    let raw : Facts {A = Expr} (by (λ r. ex.Unary (whole r.1) (unary_of (kind_of r.0.0.kind)) r.0.1) (spanned (into (kind.Not ∷ []) Operand))) false (kind.Not ∷ []) (kind.OpenParen ∷ kind.OpenBracket ∷ kind.OpenBrace ∷ kind.Dot ∷ kind.In ∷ []) = (by_f (spanned_f (into_f {s = Operand}))) in
    fit (kind.Not ∷ []) (kind.OpenParen ∷ kind.OpenBracket ∷ kind.OpenBrace ∷ kind.Dot ∷ kind.In ∷ []) raw refl refl

f_plain_unary : Facts plain_unary false (kind.Name ∷ kind.IntegerLiteral ∷ kind.BitsLiteral ∷ kind.False ∷ kind.Not ∷ kind.True ∷ kind.Getter ∷ kind.Setter ∷ []) (kind.OpenParen ∷ kind.OpenBracket ∷ kind.OpenBrace ∷ kind.Dot ∷ kind.In ∷ [])
unfolding plain_unary
f_plain_unary =
    let raw : Facts {A = Expr} (either (prefixed_by (kind.Not ∷ [])) (either post_literal post_named)) false (kind.Not ∷ kind.IntegerLiteral ∷ kind.BitsLiteral ∷ kind.False ∷ kind.True ∷ kind.Name ∷ kind.Getter ∷ kind.Setter ∷ []) (kind.OpenParen ∷ kind.OpenBracket ∷ kind.OpenBrace ∷ kind.Dot ∷ kind.In ∷ kind.OpenBracket ∷ kind.Dot ∷ kind.In ∷ kind.OpenParen ∷ kind.OpenBracket ∷ kind.OpenBrace ∷ kind.Dot ∷ kind.In ∷ []) = (either_f f_prefixed_by_not (either_f f_post_literal f_post_named refl) refl) in
    fit (kind.Name ∷ kind.IntegerLiteral ∷ kind.BitsLiteral ∷ kind.False ∷ kind.Not ∷ kind.True ∷ kind.Getter ∷ kind.Setter ∷ []) (kind.OpenParen ∷ kind.OpenBracket ∷ kind.OpenBrace ∷ kind.Dot ∷ kind.In ∷ []) raw refl refl

f_plain_chain : Facts plain_chain false (kind.Name ∷ kind.IntegerLiteral ∷ kind.BitsLiteral ∷ kind.False ∷ kind.Not ∷ kind.True ∷ kind.Getter ∷ kind.Setter ∷ []) (kind.OpenParen ∷ kind.OpenBracket ∷ kind.OpenBrace ∷ kind.Dot ∷ kind.ColonColon ∷ kind.ShiftLeft ∷ kind.ShiftRight ∷ kind.Plus ∷ kind.Minus ∷ kind.Star ∷ kind.Caret ∷ kind.BitAnd ∷ kind.Div ∷ kind.DivRm ∷ kind.In ∷ kind.Mod ∷ kind.BitOr ∷ kind.BitXor ∷ [])
unfolding plain_chain
f_plain_chain =
    let raw : Facts {A = Expr} (by (λ r. chained r.0.1.from r.0.0 r.1) (seq (spanned plain_unary) sum_rests)) false (kind.Name ∷ kind.IntegerLiteral ∷ kind.BitsLiteral ∷ kind.False ∷ kind.Not ∷ kind.True ∷ kind.Getter ∷ kind.Setter ∷ []) (kind.OpenParen ∷ kind.OpenBracket ∷ kind.OpenBrace ∷ kind.Dot ∷ kind.ColonColon ∷ kind.ShiftLeft ∷ kind.ShiftRight ∷ kind.Plus ∷ kind.Minus ∷ kind.Star ∷ kind.Caret ∷ kind.BitAnd ∷ kind.Div ∷ kind.DivRm ∷ kind.In ∷ kind.Mod ∷ kind.BitOr ∷ kind.BitXor ∷ kind.OpenParen ∷ kind.OpenBracket ∷ kind.OpenBrace ∷ kind.Dot ∷ kind.In ∷ []) = (by_f (seq_f (spanned_f f_plain_unary) f_sum_rests refl)) in
    fit (kind.Name ∷ kind.IntegerLiteral ∷ kind.BitsLiteral ∷ kind.False ∷ kind.Not ∷ kind.True ∷ kind.Getter ∷ kind.Setter ∷ []) (kind.OpenParen ∷ kind.OpenBracket ∷ kind.OpenBrace ∷ kind.Dot ∷ kind.ColonColon ∷ kind.ShiftLeft ∷ kind.ShiftRight ∷ kind.Plus ∷ kind.Minus ∷ kind.Star ∷ kind.Caret ∷ kind.BitAnd ∷ kind.Div ∷ kind.DivRm ∷ kind.In ∷ kind.Mod ∷ kind.BitOr ∷ kind.BitXor ∷ []) raw refl refl

f_plain_sum : Facts plain_sum false (kind.Name ∷ kind.IntegerLiteral ∷ kind.BitsLiteral ∷ kind.False ∷ kind.Not ∷ kind.True ∷ kind.Getter ∷ kind.Setter ∷ []) (kind.OpenParen ∷ kind.OpenBracket ∷ kind.OpenBrace ∷ kind.Dot ∷ kind.ColonColon ∷ kind.ShiftLeft ∷ kind.ShiftRight ∷ kind.Plus ∷ kind.Minus ∷ kind.Star ∷ kind.Caret ∷ kind.BitAnd ∷ kind.Div ∷ kind.DivRm ∷ kind.In ∷ kind.Mod ∷ kind.BitOr ∷ kind.BitXor ∷ [])
unfolding plain_sum
f_plain_sum =
    let raw : Facts {A = Expr} (scope plain_chain) false (kind.Name ∷ kind.IntegerLiteral ∷ kind.BitsLiteral ∷ kind.False ∷ kind.Not ∷ kind.True ∷ kind.Getter ∷ kind.Setter ∷ []) (kind.OpenParen ∷ kind.OpenBracket ∷ kind.OpenBrace ∷ kind.Dot ∷ kind.ColonColon ∷ kind.ShiftLeft ∷ kind.ShiftRight ∷ kind.Plus ∷ kind.Minus ∷ kind.Star ∷ kind.Caret ∷ kind.BitAnd ∷ kind.Div ∷ kind.DivRm ∷ kind.In ∷ kind.Mod ∷ kind.BitOr ∷ kind.BitXor ∷ []) = (scope_f f_plain_chain) in
    fit (kind.Name ∷ kind.IntegerLiteral ∷ kind.BitsLiteral ∷ kind.False ∷ kind.Not ∷ kind.True ∷ kind.Getter ∷ kind.Setter ∷ []) (kind.OpenParen ∷ kind.OpenBracket ∷ kind.OpenBrace ∷ kind.Dot ∷ kind.ColonColon ∷ kind.ShiftLeft ∷ kind.ShiftRight ∷ kind.Plus ∷ kind.Minus ∷ kind.Star ∷ kind.Caret ∷ kind.BitAnd ∷ kind.Div ∷ kind.DivRm ∷ kind.In ∷ kind.Mod ∷ kind.BitOr ∷ kind.BitXor ∷ []) raw refl refl

f_sum_pattern : Facts sum_pattern false (kind.Name ∷ kind.IntegerLiteral ∷ kind.BitsLiteral ∷ kind.False ∷ kind.Not ∷ kind.True ∷ kind.Getter ∷ kind.Setter ∷ []) (kind.OpenParen ∷ kind.OpenBracket ∷ kind.OpenBrace ∷ kind.Dot ∷ kind.DotDot ∷ kind.ColonColon ∷ kind.ShiftLeft ∷ kind.ShiftRight ∷ kind.Plus ∷ kind.Minus ∷ kind.Star ∷ kind.Caret ∷ kind.BitAnd ∷ kind.Div ∷ kind.DivRm ∷ kind.In ∷ kind.Mod ∷ kind.BitOr ∷ kind.BitXor ∷ [])
unfolding sum_pattern
f_sum_pattern =
    let raw : Facts {A = Pattern} (by (λ r. pattern_of r.0.0 (whole r.1) r.0.1) (spanned (seq plain_sum range_end))) false (kind.Name ∷ kind.IntegerLiteral ∷ kind.BitsLiteral ∷ kind.False ∷ kind.Not ∷ kind.True ∷ kind.Getter ∷ kind.Setter ∷ []) (kind.OpenParen ∷ kind.OpenBracket ∷ kind.OpenBrace ∷ kind.Dot ∷ kind.DotDot ∷ kind.ColonColon ∷ kind.ShiftLeft ∷ kind.ShiftRight ∷ kind.Plus ∷ kind.Minus ∷ kind.Star ∷ kind.Caret ∷ kind.BitAnd ∷ kind.Div ∷ kind.DivRm ∷ kind.In ∷ kind.Mod ∷ kind.BitOr ∷ kind.BitXor ∷ kind.OpenParen ∷ kind.OpenBracket ∷ kind.OpenBrace ∷ kind.Dot ∷ kind.ColonColon ∷ kind.ShiftLeft ∷ kind.ShiftRight ∷ kind.Plus ∷ kind.Minus ∷ kind.Star ∷ kind.Caret ∷ kind.BitAnd ∷ kind.Div ∷ kind.DivRm ∷ kind.In ∷ kind.Mod ∷ kind.BitOr ∷ kind.BitXor ∷ []) = (by_f (spanned_f (seq_f f_plain_sum f_range_end refl))) in
    fit (kind.Name ∷ kind.IntegerLiteral ∷ kind.BitsLiteral ∷ kind.False ∷ kind.Not ∷ kind.True ∷ kind.Getter ∷ kind.Setter ∷ []) (kind.OpenParen ∷ kind.OpenBracket ∷ kind.OpenBrace ∷ kind.Dot ∷ kind.DotDot ∷ kind.ColonColon ∷ kind.ShiftLeft ∷ kind.ShiftRight ∷ kind.Plus ∷ kind.Minus ∷ kind.Star ∷ kind.Caret ∷ kind.BitAnd ∷ kind.Div ∷ kind.DivRm ∷ kind.In ∷ kind.Mod ∷ kind.BitOr ∷ kind.BitXor ∷ []) raw refl refl

f_pattern : Facts pattern false (kind.Name ∷ kind.IntegerLiteral ∷ kind.BitsLiteral ∷ kind.MaskLiteral ∷ kind.OpenParen ∷ kind.OpenBrace ∷ kind.Bang ∷ kind.LessEqual ∷ kind.GreaterEqual ∷ kind.Minus ∷ kind.False ∷ kind.Not ∷ kind.True ∷ kind.Getter ∷ kind.Setter ∷ []) (kind.Name ∷ kind.IntegerLiteral ∷ kind.BitsLiteral ∷ kind.OpenParen ∷ kind.OpenBracket ∷ kind.OpenBrace ∷ kind.Dot ∷ kind.DotDot ∷ kind.ColonColon ∷ kind.Bang ∷ kind.ShiftLeft ∷ kind.ShiftRight ∷ kind.Plus ∷ kind.Minus ∷ kind.Star ∷ kind.Caret ∷ kind.BitAnd ∷ kind.Div ∷ kind.DivRm ∷ kind.False ∷ kind.In ∷ kind.Mod ∷ kind.Not ∷ kind.BitOr ∷ kind.True ∷ kind.BitXor ∷ kind.Getter ∷ kind.Setter ∷ [])
unfolding pattern
f_pattern =
    let raw : Facts {A = Pattern} (either minus_pattern (either bang_pattern (either set_pattern (either mask_pattern (either at_most (either at_least (either pattern_in_parens sum_pattern))))))) false (kind.Name ∷ kind.IntegerLiteral ∷ kind.BitsLiteral ∷ kind.MaskLiteral ∷ kind.OpenParen ∷ kind.OpenBrace ∷ kind.Bang ∷ kind.LessEqual ∷ kind.GreaterEqual ∷ kind.Minus ∷ kind.False ∷ kind.Not ∷ kind.True ∷ kind.Getter ∷ kind.Setter ∷ []) (kind.Name ∷ kind.IntegerLiteral ∷ kind.BitsLiteral ∷ kind.OpenParen ∷ kind.OpenBracket ∷ kind.OpenBrace ∷ kind.Dot ∷ kind.DotDot ∷ kind.ColonColon ∷ kind.Bang ∷ kind.ShiftLeft ∷ kind.ShiftRight ∷ kind.Plus ∷ kind.Minus ∷ kind.Star ∷ kind.Caret ∷ kind.BitAnd ∷ kind.Div ∷ kind.DivRm ∷ kind.False ∷ kind.In ∷ kind.Mod ∷ kind.Not ∷ kind.BitOr ∷ kind.True ∷ kind.BitXor ∷ kind.Getter ∷ kind.Setter ∷ []) = (fit (kind.Name ∷ kind.IntegerLiteral ∷ kind.BitsLiteral ∷ kind.MaskLiteral ∷ kind.OpenParen ∷ kind.OpenBrace ∷ kind.Bang ∷ kind.LessEqual ∷ kind.GreaterEqual ∷ kind.Minus ∷ kind.False ∷ kind.Not ∷ kind.True ∷ kind.Getter ∷ kind.Setter ∷ []) (kind.Name ∷ kind.IntegerLiteral ∷ kind.BitsLiteral ∷ kind.OpenParen ∷ kind.OpenBracket ∷ kind.OpenBrace ∷ kind.Dot ∷ kind.DotDot ∷ kind.ColonColon ∷ kind.Bang ∷ kind.ShiftLeft ∷ kind.ShiftRight ∷ kind.Plus ∷ kind.Minus ∷ kind.Star ∷ kind.Caret ∷ kind.BitAnd ∷ kind.Div ∷ kind.DivRm ∷ kind.False ∷ kind.In ∷ kind.Mod ∷ kind.Not ∷ kind.BitOr ∷ kind.True ∷ kind.BitXor ∷ kind.Getter ∷ kind.Setter ∷ []) (either_f f_minus_pattern (either_f f_bang_pattern (either_f f_set_pattern (either_f f_mask_pattern (fit (kind.Name ∷ kind.IntegerLiteral ∷ kind.BitsLiteral ∷ kind.OpenParen ∷ kind.LessEqual ∷ kind.GreaterEqual ∷ kind.False ∷ kind.Not ∷ kind.True ∷ kind.Getter ∷ kind.Setter ∷ []) (kind.OpenParen ∷ kind.OpenBracket ∷ kind.OpenBrace ∷ kind.Dot ∷ kind.DotDot ∷ kind.ColonColon ∷ kind.ShiftLeft ∷ kind.ShiftRight ∷ kind.Plus ∷ kind.Minus ∷ kind.Star ∷ kind.Caret ∷ kind.BitAnd ∷ kind.Div ∷ kind.DivRm ∷ kind.In ∷ kind.Mod ∷ kind.BitOr ∷ kind.BitXor ∷ []) (either_f f_at_most (either_f f_at_least (either_f f_pattern_in_parens f_sum_pattern refl) refl) refl) refl refl) refl) refl) refl) refl) refl refl) in
    fit (kind.Name ∷ kind.IntegerLiteral ∷ kind.BitsLiteral ∷ kind.MaskLiteral ∷ kind.OpenParen ∷ kind.OpenBrace ∷ kind.Bang ∷ kind.LessEqual ∷ kind.GreaterEqual ∷ kind.Minus ∷ kind.False ∷ kind.Not ∷ kind.True ∷ kind.Getter ∷ kind.Setter ∷ []) (kind.Name ∷ kind.IntegerLiteral ∷ kind.BitsLiteral ∷ kind.OpenParen ∷ kind.OpenBracket ∷ kind.OpenBrace ∷ kind.Dot ∷ kind.DotDot ∷ kind.ColonColon ∷ kind.Bang ∷ kind.ShiftLeft ∷ kind.ShiftRight ∷ kind.Plus ∷ kind.Minus ∷ kind.Star ∷ kind.Caret ∷ kind.BitAnd ∷ kind.Div ∷ kind.DivRm ∷ kind.False ∷ kind.In ∷ kind.Mod ∷ kind.Not ∷ kind.BitOr ∷ kind.True ∷ kind.BitXor ∷ kind.Getter ∷ kind.Setter ∷ []) raw refl refl

f_patterns : Facts patterns false (kind.Name ∷ kind.IntegerLiteral ∷ kind.BitsLiteral ∷ kind.MaskLiteral ∷ kind.OpenParen ∷ kind.OpenBrace ∷ kind.Bang ∷ kind.LessEqual ∷ kind.GreaterEqual ∷ kind.Minus ∷ kind.False ∷ kind.Not ∷ kind.True ∷ kind.Getter ∷ kind.Setter ∷ []) (kind.Name ∷ kind.IntegerLiteral ∷ kind.BitsLiteral ∷ kind.OpenParen ∷ kind.OpenBracket ∷ kind.OpenBrace ∷ kind.Comma ∷ kind.Dot ∷ kind.DotDot ∷ kind.ColonColon ∷ kind.Bang ∷ kind.ShiftLeft ∷ kind.ShiftRight ∷ kind.Plus ∷ kind.Minus ∷ kind.Star ∷ kind.Caret ∷ kind.BitAnd ∷ kind.Div ∷ kind.DivRm ∷ kind.False ∷ kind.In ∷ kind.Mod ∷ kind.Not ∷ kind.BitOr ∷ kind.True ∷ kind.BitXor ∷ kind.Getter ∷ kind.Setter ∷ [])
unfolding patterns
f_patterns =
    let raw : Facts {A = List Pattern} (by (λ r. r.0 ∷ seconds r.1) (seq pattern (many (seq (tok (kind.Comma ∷ [])) pattern)))) false (kind.Name ∷ kind.IntegerLiteral ∷ kind.BitsLiteral ∷ kind.MaskLiteral ∷ kind.OpenParen ∷ kind.OpenBrace ∷ kind.Bang ∷ kind.LessEqual ∷ kind.GreaterEqual ∷ kind.Minus ∷ kind.False ∷ kind.Not ∷ kind.True ∷ kind.Getter ∷ kind.Setter ∷ []) (kind.Name ∷ kind.IntegerLiteral ∷ kind.BitsLiteral ∷ kind.OpenParen ∷ kind.OpenBracket ∷ kind.OpenBrace ∷ kind.Comma ∷ kind.Dot ∷ kind.DotDot ∷ kind.ColonColon ∷ kind.Bang ∷ kind.ShiftLeft ∷ kind.ShiftRight ∷ kind.Plus ∷ kind.Minus ∷ kind.Star ∷ kind.Caret ∷ kind.BitAnd ∷ kind.Div ∷ kind.DivRm ∷ kind.False ∷ kind.In ∷ kind.Mod ∷ kind.Not ∷ kind.BitOr ∷ kind.True ∷ kind.BitXor ∷ kind.Getter ∷ kind.Setter ∷ []) = (by_f (fit (kind.Name ∷ kind.IntegerLiteral ∷ kind.BitsLiteral ∷ kind.MaskLiteral ∷ kind.OpenParen ∷ kind.OpenBrace ∷ kind.Bang ∷ kind.LessEqual ∷ kind.GreaterEqual ∷ kind.Minus ∷ kind.False ∷ kind.Not ∷ kind.True ∷ kind.Getter ∷ kind.Setter ∷ []) (kind.Name ∷ kind.IntegerLiteral ∷ kind.BitsLiteral ∷ kind.OpenParen ∷ kind.OpenBracket ∷ kind.OpenBrace ∷ kind.Comma ∷ kind.Dot ∷ kind.DotDot ∷ kind.ColonColon ∷ kind.Bang ∷ kind.ShiftLeft ∷ kind.ShiftRight ∷ kind.Plus ∷ kind.Minus ∷ kind.Star ∷ kind.Caret ∷ kind.BitAnd ∷ kind.Div ∷ kind.DivRm ∷ kind.False ∷ kind.In ∷ kind.Mod ∷ kind.Not ∷ kind.BitOr ∷ kind.True ∷ kind.BitXor ∷ kind.Getter ∷ kind.Setter ∷ []) (seq_f f_pattern (many_f (seq_f tok_f f_pattern refl) refl) refl) refl refl)) in
    fit (kind.Name ∷ kind.IntegerLiteral ∷ kind.BitsLiteral ∷ kind.MaskLiteral ∷ kind.OpenParen ∷ kind.OpenBrace ∷ kind.Bang ∷ kind.LessEqual ∷ kind.GreaterEqual ∷ kind.Minus ∷ kind.False ∷ kind.Not ∷ kind.True ∷ kind.Getter ∷ kind.Setter ∷ []) (kind.Name ∷ kind.IntegerLiteral ∷ kind.BitsLiteral ∷ kind.OpenParen ∷ kind.OpenBracket ∷ kind.OpenBrace ∷ kind.Comma ∷ kind.Dot ∷ kind.DotDot ∷ kind.ColonColon ∷ kind.Bang ∷ kind.ShiftLeft ∷ kind.ShiftRight ∷ kind.Plus ∷ kind.Minus ∷ kind.Star ∷ kind.Caret ∷ kind.BitAnd ∷ kind.Div ∷ kind.DivRm ∷ kind.False ∷ kind.In ∷ kind.Mod ∷ kind.Not ∷ kind.BitOr ∷ kind.True ∷ kind.BitXor ∷ kind.Getter ∷ kind.Setter ∷ []) raw refl refl

f_set_parts : Facts set_parts false (kind.Name ∷ kind.IntegerLiteral ∷ kind.BitsLiteral ∷ kind.MaskLiteral ∷ kind.OpenParen ∷ kind.OpenBrace ∷ kind.Bang ∷ kind.LessEqual ∷ kind.GreaterEqual ∷ kind.Minus ∷ kind.False ∷ kind.Not ∷ kind.True ∷ kind.Getter ∷ kind.Setter ∷ []) []
unfolding set_parts
f_set_parts =
    let raw : Facts {A = List Pattern} (by (λ r. r.0) (seq patterns (tok (kind.CloseBrace ∷ [])))) false (kind.Name ∷ kind.IntegerLiteral ∷ kind.BitsLiteral ∷ kind.MaskLiteral ∷ kind.OpenParen ∷ kind.OpenBrace ∷ kind.Bang ∷ kind.LessEqual ∷ kind.GreaterEqual ∷ kind.Minus ∷ kind.False ∷ kind.Not ∷ kind.True ∷ kind.Getter ∷ kind.Setter ∷ []) [] = (by_f (seq_f f_patterns tok_f refl)) in
    fit (kind.Name ∷ kind.IntegerLiteral ∷ kind.BitsLiteral ∷ kind.MaskLiteral ∷ kind.OpenParen ∷ kind.OpenBrace ∷ kind.Bang ∷ kind.LessEqual ∷ kind.GreaterEqual ∷ kind.Minus ∷ kind.False ∷ kind.Not ∷ kind.True ∷ kind.Getter ∷ kind.Setter ∷ []) [] raw refl refl

f_pattern_parts : Facts pattern_parts false (kind.Name ∷ kind.IntegerLiteral ∷ kind.BitsLiteral ∷ kind.MaskLiteral ∷ kind.OpenParen ∷ kind.OpenBrace ∷ kind.Bang ∷ kind.LessEqual ∷ kind.GreaterEqual ∷ kind.Minus ∷ kind.False ∷ kind.Not ∷ kind.True ∷ kind.Getter ∷ kind.Setter ∷ []) []
unfolding pattern_parts
f_pattern_parts =
    let raw : Facts {A = List Pattern} (by (λ r. r.0) (seq patterns (tok (kind.CloseParen ∷ [])))) false (kind.Name ∷ kind.IntegerLiteral ∷ kind.BitsLiteral ∷ kind.MaskLiteral ∷ kind.OpenParen ∷ kind.OpenBrace ∷ kind.Bang ∷ kind.LessEqual ∷ kind.GreaterEqual ∷ kind.Minus ∷ kind.False ∷ kind.Not ∷ kind.True ∷ kind.Getter ∷ kind.Setter ∷ []) [] = (by_f (seq_f f_patterns tok_f refl)) in
    fit (kind.Name ∷ kind.IntegerLiteral ∷ kind.BitsLiteral ∷ kind.MaskLiteral ∷ kind.OpenParen ∷ kind.OpenBrace ∷ kind.Bang ∷ kind.LessEqual ∷ kind.GreaterEqual ∷ kind.Minus ∷ kind.False ∷ kind.Not ∷ kind.True ∷ kind.Getter ∷ kind.Setter ∷ []) [] raw refl refl

f_constraint_end : Facts constraint_end true (kind.DotDot ∷ []) (kind.OpenParen ∷ kind.OpenBracket ∷ kind.OpenBrace ∷ kind.Dot ∷ kind.DotDot ∷ kind.ColonColon ∷ kind.Equal ∷ kind.NotEqual ∷ kind.AndAnd ∷ kind.OrOr ∷ kind.Implies ∷ kind.Iff ∷ kind.Less ∷ kind.LessEqual ∷ kind.ShiftLeft ∷ kind.Greater ∷ kind.GreaterEqual ∷ kind.ShiftRight ∷ kind.Plus ∷ kind.Minus ∷ kind.Star ∷ kind.Caret ∷ kind.BitAnd ∷ kind.Div ∷ kind.DivRm ∷ kind.In ∷ kind.Mod ∷ kind.BitOr ∷ kind.BitXor ∷ kind.As ∷ [])
unfolding constraint_end
f_constraint_end =
    let raw : Facts {A = Option Expr} (opt (by (λ r. r.1) (seq (tok (kind.DotDot ∷ [])) expression))) true (kind.DotDot ∷ []) (kind.DotDot ∷ kind.OpenParen ∷ kind.OpenBracket ∷ kind.OpenBrace ∷ kind.Dot ∷ kind.ColonColon ∷ kind.Equal ∷ kind.NotEqual ∷ kind.AndAnd ∷ kind.OrOr ∷ kind.Implies ∷ kind.Iff ∷ kind.Less ∷ kind.LessEqual ∷ kind.ShiftLeft ∷ kind.Greater ∷ kind.GreaterEqual ∷ kind.ShiftRight ∷ kind.Plus ∷ kind.Minus ∷ kind.Star ∷ kind.Caret ∷ kind.BitAnd ∷ kind.Div ∷ kind.DivRm ∷ kind.In ∷ kind.Mod ∷ kind.BitOr ∷ kind.BitXor ∷ kind.As ∷ []) = (opt_f (by_f (seq_f tok_f f_expression refl))) in
    fit (kind.DotDot ∷ []) (kind.OpenParen ∷ kind.OpenBracket ∷ kind.OpenBrace ∷ kind.Dot ∷ kind.DotDot ∷ kind.ColonColon ∷ kind.Equal ∷ kind.NotEqual ∷ kind.AndAnd ∷ kind.OrOr ∷ kind.Implies ∷ kind.Iff ∷ kind.Less ∷ kind.LessEqual ∷ kind.ShiftLeft ∷ kind.Greater ∷ kind.GreaterEqual ∷ kind.ShiftRight ∷ kind.Plus ∷ kind.Minus ∷ kind.Star ∷ kind.Caret ∷ kind.BitAnd ∷ kind.Div ∷ kind.DivRm ∷ kind.In ∷ kind.Mod ∷ kind.BitOr ∷ kind.BitXor ∷ kind.As ∷ []) raw refl refl

f_constraint_part : Facts constraint_part false (kind.Name ∷ kind.IntegerLiteral ∷ kind.BitsLiteral ∷ kind.OpenParen ∷ kind.Bang ∷ kind.Minus ∷ kind.False ∷ kind.Not ∷ kind.True ∷ kind.If ∷ kind.Getter ∷ kind.Setter ∷ []) (kind.OpenParen ∷ kind.OpenBracket ∷ kind.OpenBrace ∷ kind.Dot ∷ kind.DotDot ∷ kind.ColonColon ∷ kind.Equal ∷ kind.NotEqual ∷ kind.AndAnd ∷ kind.OrOr ∷ kind.Implies ∷ kind.Iff ∷ kind.Less ∷ kind.LessEqual ∷ kind.ShiftLeft ∷ kind.Greater ∷ kind.GreaterEqual ∷ kind.ShiftRight ∷ kind.Plus ∷ kind.Minus ∷ kind.Star ∷ kind.Caret ∷ kind.BitAnd ∷ kind.Div ∷ kind.DivRm ∷ kind.In ∷ kind.Mod ∷ kind.BitOr ∷ kind.BitXor ∷ kind.As ∷ [])
unfolding constraint_part
f_constraint_part =
    let raw : Facts {A = ConstraintPart} (by (λ r. constraint_part_of r.0 r.1) (seq expression constraint_end)) false (kind.Name ∷ kind.IntegerLiteral ∷ kind.BitsLiteral ∷ kind.OpenParen ∷ kind.Bang ∷ kind.Minus ∷ kind.False ∷ kind.Not ∷ kind.True ∷ kind.If ∷ kind.Getter ∷ kind.Setter ∷ []) (kind.OpenParen ∷ kind.OpenBracket ∷ kind.OpenBrace ∷ kind.Dot ∷ kind.DotDot ∷ kind.ColonColon ∷ kind.Equal ∷ kind.NotEqual ∷ kind.AndAnd ∷ kind.OrOr ∷ kind.Implies ∷ kind.Iff ∷ kind.Less ∷ kind.LessEqual ∷ kind.ShiftLeft ∷ kind.Greater ∷ kind.GreaterEqual ∷ kind.ShiftRight ∷ kind.Plus ∷ kind.Minus ∷ kind.Star ∷ kind.Caret ∷ kind.BitAnd ∷ kind.Div ∷ kind.DivRm ∷ kind.In ∷ kind.Mod ∷ kind.BitOr ∷ kind.BitXor ∷ kind.As ∷ []) = (by_f (fit (kind.Name ∷ kind.IntegerLiteral ∷ kind.BitsLiteral ∷ kind.OpenParen ∷ kind.Bang ∷ kind.Minus ∷ kind.False ∷ kind.Not ∷ kind.True ∷ kind.If ∷ kind.Getter ∷ kind.Setter ∷ []) (kind.OpenParen ∷ kind.OpenBracket ∷ kind.OpenBrace ∷ kind.Dot ∷ kind.DotDot ∷ kind.ColonColon ∷ kind.Equal ∷ kind.NotEqual ∷ kind.AndAnd ∷ kind.OrOr ∷ kind.Implies ∷ kind.Iff ∷ kind.Less ∷ kind.LessEqual ∷ kind.ShiftLeft ∷ kind.Greater ∷ kind.GreaterEqual ∷ kind.ShiftRight ∷ kind.Plus ∷ kind.Minus ∷ kind.Star ∷ kind.Caret ∷ kind.BitAnd ∷ kind.Div ∷ kind.DivRm ∷ kind.In ∷ kind.Mod ∷ kind.BitOr ∷ kind.BitXor ∷ kind.As ∷ []) (seq_f f_expression f_constraint_end refl) refl refl)) in
    fit (kind.Name ∷ kind.IntegerLiteral ∷ kind.BitsLiteral ∷ kind.OpenParen ∷ kind.Bang ∷ kind.Minus ∷ kind.False ∷ kind.Not ∷ kind.True ∷ kind.If ∷ kind.Getter ∷ kind.Setter ∷ []) (kind.OpenParen ∷ kind.OpenBracket ∷ kind.OpenBrace ∷ kind.Dot ∷ kind.DotDot ∷ kind.ColonColon ∷ kind.Equal ∷ kind.NotEqual ∷ kind.AndAnd ∷ kind.OrOr ∷ kind.Implies ∷ kind.Iff ∷ kind.Less ∷ kind.LessEqual ∷ kind.ShiftLeft ∷ kind.Greater ∷ kind.GreaterEqual ∷ kind.ShiftRight ∷ kind.Plus ∷ kind.Minus ∷ kind.Star ∷ kind.Caret ∷ kind.BitAnd ∷ kind.Div ∷ kind.DivRm ∷ kind.In ∷ kind.Mod ∷ kind.BitOr ∷ kind.BitXor ∷ kind.As ∷ []) raw refl refl

f_constraint_list : Facts constraint_list false (kind.Name ∷ kind.IntegerLiteral ∷ kind.BitsLiteral ∷ kind.OpenParen ∷ kind.Bang ∷ kind.Minus ∷ kind.False ∷ kind.Not ∷ kind.True ∷ kind.If ∷ kind.Getter ∷ kind.Setter ∷ []) (kind.OpenParen ∷ kind.OpenBracket ∷ kind.OpenBrace ∷ kind.Comma ∷ kind.Dot ∷ kind.DotDot ∷ kind.ColonColon ∷ kind.Equal ∷ kind.NotEqual ∷ kind.AndAnd ∷ kind.OrOr ∷ kind.Implies ∷ kind.Iff ∷ kind.Less ∷ kind.LessEqual ∷ kind.ShiftLeft ∷ kind.Greater ∷ kind.GreaterEqual ∷ kind.ShiftRight ∷ kind.Plus ∷ kind.Minus ∷ kind.Star ∷ kind.Caret ∷ kind.BitAnd ∷ kind.Div ∷ kind.DivRm ∷ kind.In ∷ kind.Mod ∷ kind.BitOr ∷ kind.BitXor ∷ kind.As ∷ [])
unfolding constraint_list
f_constraint_list =
    let raw : Facts {A = List ConstraintPart} (by (λ r. r.0 ∷ seconds r.1) (seq constraint_part (many (seq (tok (kind.Comma ∷ [])) constraint_part)))) false (kind.Name ∷ kind.IntegerLiteral ∷ kind.BitsLiteral ∷ kind.OpenParen ∷ kind.Bang ∷ kind.Minus ∷ kind.False ∷ kind.Not ∷ kind.True ∷ kind.If ∷ kind.Getter ∷ kind.Setter ∷ []) (kind.OpenParen ∷ kind.OpenBracket ∷ kind.OpenBrace ∷ kind.Comma ∷ kind.Dot ∷ kind.DotDot ∷ kind.ColonColon ∷ kind.Equal ∷ kind.NotEqual ∷ kind.AndAnd ∷ kind.OrOr ∷ kind.Implies ∷ kind.Iff ∷ kind.Less ∷ kind.LessEqual ∷ kind.ShiftLeft ∷ kind.Greater ∷ kind.GreaterEqual ∷ kind.ShiftRight ∷ kind.Plus ∷ kind.Minus ∷ kind.Star ∷ kind.Caret ∷ kind.BitAnd ∷ kind.Div ∷ kind.DivRm ∷ kind.In ∷ kind.Mod ∷ kind.BitOr ∷ kind.BitXor ∷ kind.As ∷ []) = (by_f (fit (kind.Name ∷ kind.IntegerLiteral ∷ kind.BitsLiteral ∷ kind.OpenParen ∷ kind.Bang ∷ kind.Minus ∷ kind.False ∷ kind.Not ∷ kind.True ∷ kind.If ∷ kind.Getter ∷ kind.Setter ∷ []) (kind.OpenParen ∷ kind.OpenBracket ∷ kind.OpenBrace ∷ kind.Comma ∷ kind.Dot ∷ kind.DotDot ∷ kind.ColonColon ∷ kind.Equal ∷ kind.NotEqual ∷ kind.AndAnd ∷ kind.OrOr ∷ kind.Implies ∷ kind.Iff ∷ kind.Less ∷ kind.LessEqual ∷ kind.ShiftLeft ∷ kind.Greater ∷ kind.GreaterEqual ∷ kind.ShiftRight ∷ kind.Plus ∷ kind.Minus ∷ kind.Star ∷ kind.Caret ∷ kind.BitAnd ∷ kind.Div ∷ kind.DivRm ∷ kind.In ∷ kind.Mod ∷ kind.BitOr ∷ kind.BitXor ∷ kind.As ∷ []) (seq_f f_constraint_part (many_f (seq_f tok_f f_constraint_part refl) refl) refl) refl refl)) in
    fit (kind.Name ∷ kind.IntegerLiteral ∷ kind.BitsLiteral ∷ kind.OpenParen ∷ kind.Bang ∷ kind.Minus ∷ kind.False ∷ kind.Not ∷ kind.True ∷ kind.If ∷ kind.Getter ∷ kind.Setter ∷ []) (kind.OpenParen ∷ kind.OpenBracket ∷ kind.OpenBrace ∷ kind.Comma ∷ kind.Dot ∷ kind.DotDot ∷ kind.ColonColon ∷ kind.Equal ∷ kind.NotEqual ∷ kind.AndAnd ∷ kind.OrOr ∷ kind.Implies ∷ kind.Iff ∷ kind.Less ∷ kind.LessEqual ∷ kind.ShiftLeft ∷ kind.Greater ∷ kind.GreaterEqual ∷ kind.ShiftRight ∷ kind.Plus ∷ kind.Minus ∷ kind.Star ∷ kind.Caret ∷ kind.BitAnd ∷ kind.Div ∷ kind.DivRm ∷ kind.In ∷ kind.Mod ∷ kind.BitOr ∷ kind.BitXor ∷ kind.As ∷ []) raw refl refl

f_constraint_parts : Facts constraint_parts false (kind.Name ∷ kind.IntegerLiteral ∷ kind.BitsLiteral ∷ kind.OpenParen ∷ kind.Bang ∷ kind.Minus ∷ kind.False ∷ kind.Not ∷ kind.True ∷ kind.If ∷ kind.Getter ∷ kind.Setter ∷ []) []
unfolding constraint_parts
f_constraint_parts =
    let raw : Facts {A = List ConstraintPart} (by (λ r. r.0) (seq constraint_list (tok (kind.CloseBrace ∷ [])))) false (kind.Name ∷ kind.IntegerLiteral ∷ kind.BitsLiteral ∷ kind.OpenParen ∷ kind.Bang ∷ kind.Minus ∷ kind.False ∷ kind.Not ∷ kind.True ∷ kind.If ∷ kind.Getter ∷ kind.Setter ∷ []) [] = (by_f (seq_f f_constraint_list tok_f refl)) in
    fit (kind.Name ∷ kind.IntegerLiteral ∷ kind.BitsLiteral ∷ kind.OpenParen ∷ kind.Bang ∷ kind.Minus ∷ kind.False ∷ kind.Not ∷ kind.True ∷ kind.If ∷ kind.Getter ∷ kind.Setter ∷ []) [] raw refl refl

f_low_end : Facts low_end true (kind.Colon ∷ []) (kind.OpenParen ∷ kind.OpenBracket ∷ kind.OpenBrace ∷ kind.Dot ∷ kind.Colon ∷ kind.ColonColon ∷ kind.Equal ∷ kind.NotEqual ∷ kind.AndAnd ∷ kind.OrOr ∷ kind.Implies ∷ kind.Iff ∷ kind.Less ∷ kind.LessEqual ∷ kind.ShiftLeft ∷ kind.Greater ∷ kind.GreaterEqual ∷ kind.ShiftRight ∷ kind.Plus ∷ kind.Minus ∷ kind.Star ∷ kind.Caret ∷ kind.BitAnd ∷ kind.Div ∷ kind.DivRm ∷ kind.In ∷ kind.Mod ∷ kind.BitOr ∷ kind.BitXor ∷ kind.As ∷ [])
unfolding low_end
f_low_end =
    let raw : Facts {A = Option Expr} (opt (by (λ r. r.1) (seq (tok (kind.Colon ∷ [])) expression))) true (kind.Colon ∷ []) (kind.Colon ∷ kind.OpenParen ∷ kind.OpenBracket ∷ kind.OpenBrace ∷ kind.Dot ∷ kind.ColonColon ∷ kind.Equal ∷ kind.NotEqual ∷ kind.AndAnd ∷ kind.OrOr ∷ kind.Implies ∷ kind.Iff ∷ kind.Less ∷ kind.LessEqual ∷ kind.ShiftLeft ∷ kind.Greater ∷ kind.GreaterEqual ∷ kind.ShiftRight ∷ kind.Plus ∷ kind.Minus ∷ kind.Star ∷ kind.Caret ∷ kind.BitAnd ∷ kind.Div ∷ kind.DivRm ∷ kind.In ∷ kind.Mod ∷ kind.BitOr ∷ kind.BitXor ∷ kind.As ∷ []) = (opt_f (by_f (seq_f tok_f f_expression refl))) in
    fit (kind.Colon ∷ []) (kind.OpenParen ∷ kind.OpenBracket ∷ kind.OpenBrace ∷ kind.Dot ∷ kind.Colon ∷ kind.ColonColon ∷ kind.Equal ∷ kind.NotEqual ∷ kind.AndAnd ∷ kind.OrOr ∷ kind.Implies ∷ kind.Iff ∷ kind.Less ∷ kind.LessEqual ∷ kind.ShiftLeft ∷ kind.Greater ∷ kind.GreaterEqual ∷ kind.ShiftRight ∷ kind.Plus ∷ kind.Minus ∷ kind.Star ∷ kind.Caret ∷ kind.BitAnd ∷ kind.Div ∷ kind.DivRm ∷ kind.In ∷ kind.Mod ∷ kind.BitOr ∷ kind.BitXor ∷ kind.As ∷ []) raw refl refl

f_bit_ends : Facts bit_ends false (kind.OpenBracket ∷ []) []
unfolding bit_ends
f_bit_ends =
    let raw : Facts {A = Expr × Option Expr} (scope (by (λ r. (r.1.0, r.1.1.0)) (seq (opens (kind.OpenBracket ∷ [])) (seq expression (seq low_end (tok (kind.CloseBracket ∷ []))))))) false (kind.OpenBracket ∷ []) [] = (scope_f (by_f (seq_f opens_f (seq_f f_expression (seq_f f_low_end tok_f refl) refl) refl))) in
    fit (kind.OpenBracket ∷ []) [] raw refl refl

f_bitfield : Facts bitfield false (kind.OpenBracket ∷ []) []
unfolding bitfield
f_bitfield =
    let raw : Facts {A = Bitfield} (by (λ r. bitfield_of r.0.0 r.0.1 r.1) (seq bit_ends name)) false (kind.OpenBracket ∷ []) [] = (by_f (seq_f f_bit_ends f_name refl)) in
    fit (kind.OpenBracket ∷ []) [] raw refl refl

f_bitfield_list : Facts bitfield_list false (kind.OpenBracket ∷ []) (kind.OpenBracket ∷ kind.Comma ∷ [])
unfolding bitfield_list
f_bitfield_list =
    let raw : Facts {A = List Bitfield} (by (λ r. r.0 ∷ seconds r.1.0) (seq bitfield (trail (kind.Comma ∷ []) bitfield))) false (kind.OpenBracket ∷ []) (kind.Comma ∷ kind.OpenBracket ∷ []) = (by_f (seq_f f_bitfield (trail_f f_bitfield refl) refl)) in
    fit (kind.OpenBracket ∷ []) (kind.OpenBracket ∷ kind.Comma ∷ []) raw refl refl

f_maybe_bitfield_list : Facts maybe_bitfield_list true (kind.OpenBracket ∷ []) (kind.OpenBracket ∷ kind.Comma ∷ [])
unfolding maybe_bitfield_list
f_maybe_bitfield_list =
    let raw : Facts {A = List Bitfield} (by or_nil (opt bitfield_list)) true (kind.OpenBracket ∷ []) (kind.OpenBracket ∷ kind.OpenBracket ∷ kind.Comma ∷ []) = (by_f (opt_f f_bitfield_list)) in
    fit (kind.OpenBracket ∷ []) (kind.OpenBracket ∷ kind.Comma ∷ []) raw refl refl

f_bitfields_in : Facts bitfields_in false (kind.OpenBracket ∷ kind.CloseBrace ∷ []) []
unfolding bitfields_in
f_bitfields_in =
    let raw : Facts {A = List Bitfield} (by (λ r. r.0) (seq maybe_bitfield_list (tok (kind.CloseBrace ∷ [])))) false (kind.OpenBracket ∷ kind.CloseBrace ∷ []) [] = (by_f (seq_f f_maybe_bitfield_list tok_f refl)) in
    fit (kind.OpenBracket ∷ kind.CloseBrace ∷ []) [] raw refl refl

f_more_types : Facts more_types true (kind.Comma ∷ []) (kind.OpenBrace ∷ kind.Comma ∷ [])
unfolding more_types
f_more_types =
    let raw : Facts {A = List TypeExpr} (by seconds (many (seq (tok (kind.Comma ∷ [])) type_expression))) true (kind.Comma ∷ []) (kind.Comma ∷ kind.OpenBrace ∷ []) = (by_f (many_f (seq_f tok_f f_type_expression refl) refl)) in
    fit (kind.Comma ∷ []) (kind.OpenBrace ∷ kind.Comma ∷ []) raw refl refl

f_two_types : Facts two_types false (kind.Name ∷ kind.OpenParen ∷ kind.Array ∷ kind.Bit ∷ kind.Bits ∷ kind.Boolean ∷ kind.Integer ∷ kind.Getter ∷ kind.Setter ∷ []) (kind.OpenBrace ∷ kind.Comma ∷ [])
unfolding two_types
f_two_types =
    let raw : Facts {A = List TypeExpr} (by (λ r. behind (r.0 ∷ r.1.1.0 ∷ []) r.1.1.1) (seq type_expression (seq (tok (kind.Comma ∷ [])) (seq type_expression more_types)))) false (kind.Name ∷ kind.OpenParen ∷ kind.Array ∷ kind.Bit ∷ kind.Bits ∷ kind.Boolean ∷ kind.Integer ∷ kind.Getter ∷ kind.Setter ∷ []) (kind.OpenBrace ∷ kind.Comma ∷ kind.OpenBrace ∷ []) = (by_f (seq_f f_type_expression (seq_f tok_f (seq_f f_type_expression f_more_types refl) refl) refl)) in
    fit (kind.Name ∷ kind.OpenParen ∷ kind.Array ∷ kind.Bit ∷ kind.Bits ∷ kind.Boolean ∷ kind.Integer ∷ kind.Getter ∷ kind.Setter ∷ []) (kind.OpenBrace ∷ kind.Comma ∷ []) raw refl refl

f_type_parts : Facts type_parts false (kind.Name ∷ kind.OpenParen ∷ kind.Array ∷ kind.Bit ∷ kind.Bits ∷ kind.Boolean ∷ kind.Integer ∷ kind.Getter ∷ kind.Setter ∷ []) []
unfolding type_parts
f_type_parts =
    let raw : Facts {A = List TypeExpr} (by (λ r. r.0) (seq two_types (tok (kind.CloseParen ∷ [])))) false (kind.Name ∷ kind.OpenParen ∷ kind.Array ∷ kind.Bit ∷ kind.Bits ∷ kind.Boolean ∷ kind.Integer ∷ kind.Getter ∷ kind.Setter ∷ []) [] = (by_f (seq_f f_two_types tok_f refl)) in
    fit (kind.Name ∷ kind.OpenParen ∷ kind.Array ∷ kind.Bit ∷ kind.Bits ∷ kind.Boolean ∷ kind.Integer ∷ kind.Getter ∷ kind.Setter ∷ []) [] raw refl refl

f_array_length : Facts array_length false (kind.OpenBracket ∷ []) []
unfolding array_length
f_array_length =
    let raw : Facts {A = Expr} (scope (by (λ r. r.1.0) (seq (opens (kind.OpenBracket ∷ [])) (seq (scope (by (λ r. r.1.0) (seq (opens (kind.OpenBracket ∷ [])) (seq expression (tok (kind.CloseBracket ∷ [])))))) (tok (kind.CloseBracket ∷ [])))))) false (kind.OpenBracket ∷ []) [] = (scope_f (by_f (seq_f opens_f (seq_f (scope_f (by_f (seq_f opens_f (seq_f f_expression tok_f refl) refl))) tok_f refl) refl))) in
    fit (kind.OpenBracket ∷ []) [] raw refl refl

f_array_parts : Facts array_parts false (kind.OpenBracket ∷ []) (kind.OpenBrace ∷ [])
unfolding array_parts
f_array_parts =
    let raw : Facts {A = Expr × TypeExpr} (by (λ r. (r.0, r.1.1)) (seq array_length (seq (tok (kind.Of ∷ [])) type_expression))) false (kind.OpenBracket ∷ []) (kind.OpenBrace ∷ []) = (by_f (seq_f f_array_length (seq_f tok_f f_type_expression refl) refl)) in
    fit (kind.OpenBracket ∷ []) (kind.OpenBrace ∷ []) raw refl refl

f_typed : Facts typed true (kind.Colon ∷ []) (kind.OpenBrace ∷ kind.Colon ∷ [])
unfolding typed
f_typed =
    let raw : Facts {A = Option TypeExpr} (opt (by (λ r. r.1) (seq (tok (kind.Colon ∷ [])) type_expression))) true (kind.Colon ∷ []) (kind.Colon ∷ kind.OpenBrace ∷ []) = (opt_f (by_f (seq_f tok_f f_type_expression refl))) in
    fit (kind.Colon ∷ []) (kind.OpenBrace ∷ kind.Colon ∷ []) raw refl refl

f_pass : Facts pass false (kind.Pass ∷ []) []
unfolding pass
f_pass =
    let raw : Facts {A = Stmt} (by (λ r. stm.Pass (whole r.1)) (spanned (seq (tok (kind.Pass ∷ [])) (tok (kind.Semicolon ∷ []))))) false (kind.Pass ∷ []) [] = (by_f (spanned_f (seq_f tok_f tok_f refl))) in
    fit (kind.Pass ∷ []) [] raw refl refl

f_unreachable : Facts unreachable false (kind.Unreachable ∷ []) []
unfolding unreachable
f_unreachable =
    let raw : Facts {A = Stmt} (by (λ r. stm.Unreachable (whole r.1)) (spanned (seq (tok (kind.Unreachable ∷ [])) (tok (kind.Semicolon ∷ []))))) false (kind.Unreachable ∷ []) [] = (by_f (spanned_f (seq_f tok_f tok_f refl))) in
    fit (kind.Unreachable ∷ []) [] raw refl refl

f_assert : Facts assert false (kind.Assert ∷ []) []
unfolding assert
f_assert =
    let raw : Facts {A = Stmt} (by (λ r. stm.Assert (whole r.1) r.0.1.0) (spanned (seq (tok (kind.Assert ∷ [])) (seq expression (tok (kind.Semicolon ∷ [])))))) false (kind.Assert ∷ []) [] = (by_f (spanned_f (seq_f tok_f (seq_f f_expression tok_f refl) refl))) in
    fit (kind.Assert ∷ []) [] raw refl refl

f_bind_name : Facts bind_name false (kind.Name ∷ kind.Getter ∷ kind.Setter ∷ []) []
unfolding bind_name
f_bind_name =
    let raw : Facts {A = Bind} (by (λ r. bi.Single (bd.Bound r)) name) false (kind.Name ∷ kind.Getter ∷ kind.Setter ∷ []) [] = (by_f f_name) in
    fit (kind.Name ∷ kind.Getter ∷ kind.Setter ∷ []) [] raw refl refl

f_no_binder : Facts no_binder false (kind.Minus ∷ []) []
unfolding no_binder
f_no_binder =
    let raw : Facts {A = Binder} (by (λ r. bd.Unbound r.span) (tok (kind.Minus ∷ []))) false (kind.Minus ∷ []) [] = (by_f tok_f) in
    fit (kind.Minus ∷ []) [] raw refl refl

f_binder : Facts binder false (kind.Name ∷ kind.Minus ∷ kind.Getter ∷ kind.Setter ∷ []) []
unfolding binder
f_binder =
    let raw : Facts {A = Binder} (either (by bd.Bound name) no_binder) false (kind.Name ∷ kind.Getter ∷ kind.Setter ∷ kind.Minus ∷ []) [] = (either_f (by_f f_name) f_no_binder refl) in
    fit (kind.Name ∷ kind.Minus ∷ kind.Getter ∷ kind.Setter ∷ []) [] raw refl refl

f_more_binders : Facts more_binders true (kind.Comma ∷ []) (kind.Comma ∷ [])
unfolding more_binders
f_more_binders =
    let raw : Facts {A = List Binder} (by seconds (many (seq (tok (kind.Comma ∷ [])) binder))) true (kind.Comma ∷ []) (kind.Comma ∷ []) = (by_f (many_f (seq_f tok_f f_binder refl) refl)) in
    fit (kind.Comma ∷ []) (kind.Comma ∷ []) raw refl refl

f_two_binders : Facts two_binders false (kind.Name ∷ kind.Minus ∷ kind.Getter ∷ kind.Setter ∷ []) (kind.Comma ∷ [])
unfolding two_binders
f_two_binders =
    let raw : Facts {A = List Binder} (by (λ r. behind (r.0 ∷ r.1.1.0 ∷ []) r.1.1.1) (seq binder (seq (tok (kind.Comma ∷ [])) (seq binder more_binders)))) false (kind.Name ∷ kind.Minus ∷ kind.Getter ∷ kind.Setter ∷ []) (kind.Comma ∷ []) = (by_f (seq_f f_binder (seq_f tok_f (seq_f f_binder f_more_binders refl) refl) refl)) in
    fit (kind.Name ∷ kind.Minus ∷ kind.Getter ∷ kind.Setter ∷ []) (kind.Comma ∷ []) raw refl refl

f_several : Facts several false (kind.OpenParen ∷ []) []
unfolding several
f_several =
    let raw : Facts {A = Bind} (by (λ r. bi.Several (whole r.1) r.0) (spanned (scope (by (λ r. r.1.0) (seq (opens (kind.OpenParen ∷ [])) (seq two_binders (tok (kind.CloseParen ∷ [])))))))) false (kind.OpenParen ∷ []) [] = (by_f (spanned_f (scope_f (by_f (seq_f opens_f (seq_f f_two_binders tok_f refl) refl))))) in
    fit (kind.OpenParen ∷ []) [] raw refl refl

f_other_bind : Facts other_bind false (kind.OpenParen ∷ kind.Minus ∷ []) []
unfolding other_bind
f_other_bind =
    let raw : Facts {A = Bind} (either (by bi.Single no_binder) several) false (kind.Minus ∷ kind.OpenParen ∷ []) [] = (either_f (by_f f_no_binder) f_several refl) in
    fit (kind.OpenParen ∷ kind.Minus ∷ []) [] raw refl refl

f_local_bind : Facts local_bind false (kind.Name ∷ kind.OpenParen ∷ kind.Minus ∷ kind.Getter ∷ kind.Setter ∷ []) []
unfolding local_bind
f_local_bind =
    let raw : Facts {A = Bind} (either bind_name other_bind) false (kind.Name ∷ kind.Getter ∷ kind.Setter ∷ kind.OpenParen ∷ kind.Minus ∷ []) [] = (either_f f_bind_name f_other_bind refl) in
    fit (kind.Name ∷ kind.OpenParen ∷ kind.Minus ∷ kind.Getter ∷ kind.Setter ∷ []) [] raw refl refl

f_value : Facts value false (kind.Assign ∷ []) []
unfolding value
f_value =
    let raw : Facts {A = Expr} (by (λ r. r.1.0) (seq (tok (kind.Assign ∷ [])) (seq expression (tok (kind.Semicolon ∷ []))))) false (kind.Assign ∷ []) [] = (by_f (seq_f tok_f (seq_f f_expression tok_f refl) refl)) in
    fit (kind.Assign ∷ []) [] raw refl refl

f_let_statement : Facts let_statement false (kind.Let ∷ []) []
unfolding let_statement
f_let_statement =
    let raw : Facts {A = Stmt} (by (λ r. stm.Local (whole r.1) lk.Let r.0.1.0 r.0.1.1.0 r.0.1.1.1) (spanned (seq (tok (kind.Let ∷ [])) (seq local_bind (seq typed value))))) false (kind.Let ∷ []) [] = (by_f (spanned_f (seq_f tok_f (seq_f f_local_bind (seq_f f_typed f_value refl) refl) refl))) in
    fit (kind.Let ∷ []) [] raw refl refl

f_names_typed : Facts names_typed false (kind.Comma ∷ []) []
unfolding names_typed
f_names_typed =
    let raw : Facts {A = VarRest} (by (λ r. MoreNames r.1.0 r.1.1.1.0) (seq (tok (kind.Comma ∷ [])) (seq names (seq (tok (kind.Colon ∷ [])) (seq type_expression (tok (kind.Semicolon ∷ []))))))) false (kind.Comma ∷ []) [] = (by_f (seq_f tok_f (seq_f f_names (seq_f tok_f (seq_f f_type_expression tok_f refl) refl) refl) refl)) in
    fit (kind.Comma ∷ []) [] raw refl refl

f_no_value : Facts no_value false (kind.Semicolon ∷ []) []
unfolding no_value
f_no_value =
    let raw : Facts {A = Option Expr} (by (λ r. None) (tok (kind.Semicolon ∷ []))) false (kind.Semicolon ∷ []) [] = (by_f tok_f) in
    fit (kind.Semicolon ∷ []) [] raw refl refl

f_maybe_value : Facts maybe_value false (kind.Semicolon ∷ kind.Assign ∷ []) []
unfolding maybe_value
f_maybe_value =
    let raw : Facts {A = Option Expr} (either no_value (by Some value)) false (kind.Semicolon ∷ kind.Assign ∷ []) [] = (either_f f_no_value (by_f f_value) refl) in
    fit (kind.Semicolon ∷ kind.Assign ∷ []) [] raw refl refl

f_typed_value : Facts typed_value false (kind.Colon ∷ []) []
unfolding typed_value
f_typed_value =
    let raw : Facts {A = VarRest} (by (λ r. Typed r.1.0 r.1.1) (seq (tok (kind.Colon ∷ [])) (seq type_expression maybe_value))) false (kind.Colon ∷ []) [] = (by_f (seq_f tok_f (seq_f f_type_expression f_maybe_value refl) refl)) in
    fit (kind.Colon ∷ []) [] raw refl refl

f_var_rest : Facts var_rest false (kind.Comma ∷ kind.Colon ∷ kind.Assign ∷ []) []
unfolding var_rest
f_var_rest =
    let raw : Facts {A = VarRest} (either names_typed (either typed_value (by Untyped value))) false (kind.Comma ∷ kind.Colon ∷ kind.Assign ∷ []) [] = (either_f f_names_typed (either_f f_typed_value (by_f f_value) refl) refl) in
    fit (kind.Comma ∷ kind.Colon ∷ kind.Assign ∷ []) [] raw refl refl

f_var_names : Facts var_names false (kind.Name ∷ kind.Getter ∷ kind.Setter ∷ []) []
unfolding var_names
f_var_names =
    let raw : Facts {A = VarTail} (by (λ r. var_tail_of r.0 r.1) (seq name var_rest)) false (kind.Name ∷ kind.Getter ∷ kind.Setter ∷ []) [] = (by_f (seq_f f_name f_var_rest refl)) in
    fit (kind.Name ∷ kind.Getter ∷ kind.Setter ∷ []) [] raw refl refl

f_var_other : Facts var_other false (kind.OpenParen ∷ kind.Minus ∷ []) []
unfolding var_other
f_var_other =
    let raw : Facts {A = VarTail} (by (λ r. vt.Initialised r.0 r.1.0 r.1.1) (seq other_bind (seq typed value))) false (kind.OpenParen ∷ kind.Minus ∷ []) [] = (by_f (seq_f f_other_bind (seq_f f_typed f_value refl) refl)) in
    fit (kind.OpenParen ∷ kind.Minus ∷ []) [] raw refl refl

f_var_tail : Facts var_tail false (kind.Name ∷ kind.OpenParen ∷ kind.Minus ∷ kind.Getter ∷ kind.Setter ∷ []) []
unfolding var_tail
f_var_tail =
    let raw : Facts {A = VarTail} (either var_names var_other) false (kind.Name ∷ kind.Getter ∷ kind.Setter ∷ kind.OpenParen ∷ kind.Minus ∷ []) [] = (either_f f_var_names f_var_other refl) in
    fit (kind.Name ∷ kind.OpenParen ∷ kind.Minus ∷ kind.Getter ∷ kind.Setter ∷ []) [] raw refl refl

f_var_statement : Facts var_statement false (kind.Var ∷ []) []
unfolding var_statement
f_var_statement =
    let raw : Facts {A = Stmt} (by (λ r. var_of (whole r.1) r.0.1) (spanned (seq (tok (kind.Var ∷ [])) var_tail))) false (kind.Var ∷ []) [] = (by_f (spanned_f (seq_f tok_f f_var_tail refl))) in
    fit (kind.Var ∷ []) [] raw refl refl

f_no_target : Facts no_target false (kind.Minus ∷ []) []
unfolding no_target
f_no_target =
    let raw : Facts {A = Target} (by (λ r. tg.Discarded r.span) (tok (kind.Minus ∷ []))) false (kind.Minus ∷ []) [] = (by_f tok_f) in
    fit (kind.Minus ∷ []) [] raw refl refl

f_targets : Facts targets false (kind.OpenParen ∷ []) []
unfolding targets
f_targets =
    let raw : Facts {A = Target} (by (λ r. tg.Targets (whole r.1) r.0.1) (spanned (scope (into (kind.OpenParen ∷ []) TargetParts)))) false (kind.OpenParen ∷ []) [] = (by_f (spanned_f (scope_f (into_f {s = TargetParts})))) in
    fit (kind.OpenParen ∷ []) [] raw refl refl

f_other_target : Facts other_target false (kind.OpenParen ∷ kind.Minus ∷ []) []
unfolding other_target
f_other_target =
    let raw : Facts {A = Target} (either no_target targets) false (kind.Minus ∷ kind.OpenParen ∷ []) [] = (either_f f_no_target f_targets refl) in
    fit (kind.OpenParen ∷ kind.Minus ∷ []) [] raw refl refl

f_assignment : Facts assignment false (kind.OpenParen ∷ kind.Minus ∷ []) []
unfolding assignment
f_assignment =
    let raw : Facts {A = Stmt} (by (λ r. stm.Assign (whole r.1) r.0.0 r.0.1) (spanned (seq other_target value))) false (kind.OpenParen ∷ kind.Minus ∷ []) [] = (by_f (spanned_f (seq_f f_other_target f_value refl))) in
    fit (kind.OpenParen ∷ kind.Minus ∷ []) [] raw refl refl

f_return_statement : Facts return_statement false (kind.Return ∷ []) []
unfolding return_statement
f_return_statement =
    let raw : Facts {A = Stmt} (by (λ r. stm.Return (whole r.1) r.0.1.0) (spanned (seq (tok (kind.Return ∷ [])) (seq maybe_expression (tok (kind.Semicolon ∷ [])))))) false (kind.Return ∷ []) [] = (by_f (spanned_f (seq_f tok_f (seq_f f_maybe_expression tok_f refl) refl))) in
    fit (kind.Return ∷ []) [] raw refl refl

f_throw_statement : Facts throw_statement false (kind.Throw ∷ []) []
unfolding throw_statement
f_throw_statement =
    let raw : Facts {A = Stmt} (by (λ r. stm.Throw (whole r.1) r.0.1.0) (spanned (seq (tok (kind.Throw ∷ [])) (seq maybe_expression (tok (kind.Semicolon ∷ [])))))) false (kind.Throw ∷ []) [] = (by_f (spanned_f (seq_f tok_f (seq_f f_maybe_expression tok_f refl) refl))) in
    fit (kind.Throw ∷ []) [] raw refl refl

f_print_kind : Facts print_kind false (kind.Print ∷ kind.PrintLine ∷ []) []
unfolding print_kind
f_print_kind =
    let raw : Facts {A = PrintKind} (either (by (λ r. pk.Print) (tok (kind.Print ∷ []))) (by (λ r. pk.PrintLine) (tok (kind.PrintLine ∷ [])))) false (kind.Print ∷ kind.PrintLine ∷ []) [] = (either_f (by_f tok_f) (by_f tok_f) refl) in
    fit (kind.Print ∷ kind.PrintLine ∷ []) [] raw refl refl

f_verbatim : Facts verbatim false (kind.StringLiteral ∷ []) []
unfolding verbatim
f_verbatim =
    let raw : Facts {A = PrintItem} (by (λ r. pi.Verbatim r.span r.text) (tok (kind.StringLiteral ∷ []))) false (kind.StringLiteral ∷ []) [] = (by_f tok_f) in
    fit (kind.StringLiteral ∷ []) [] raw refl refl

f_print_item : Facts print_item false (kind.Name ∷ kind.IntegerLiteral ∷ kind.BitsLiteral ∷ kind.StringLiteral ∷ kind.OpenParen ∷ kind.Bang ∷ kind.Minus ∷ kind.False ∷ kind.Not ∷ kind.True ∷ kind.If ∷ kind.Getter ∷ kind.Setter ∷ []) (kind.OpenParen ∷ kind.OpenBracket ∷ kind.OpenBrace ∷ kind.Dot ∷ kind.ColonColon ∷ kind.Equal ∷ kind.NotEqual ∷ kind.AndAnd ∷ kind.OrOr ∷ kind.Implies ∷ kind.Iff ∷ kind.Less ∷ kind.LessEqual ∷ kind.ShiftLeft ∷ kind.Greater ∷ kind.GreaterEqual ∷ kind.ShiftRight ∷ kind.Plus ∷ kind.Minus ∷ kind.Star ∷ kind.Caret ∷ kind.BitAnd ∷ kind.Div ∷ kind.DivRm ∷ kind.In ∷ kind.Mod ∷ kind.BitOr ∷ kind.BitXor ∷ kind.As ∷ [])
unfolding print_item
f_print_item =
    let raw : Facts {A = PrintItem} (either verbatim (by pi.Shown expression)) false (kind.StringLiteral ∷ kind.Name ∷ kind.IntegerLiteral ∷ kind.BitsLiteral ∷ kind.OpenParen ∷ kind.Bang ∷ kind.Minus ∷ kind.False ∷ kind.Not ∷ kind.True ∷ kind.If ∷ kind.Getter ∷ kind.Setter ∷ []) (kind.OpenParen ∷ kind.OpenBracket ∷ kind.OpenBrace ∷ kind.Dot ∷ kind.ColonColon ∷ kind.Equal ∷ kind.NotEqual ∷ kind.AndAnd ∷ kind.OrOr ∷ kind.Implies ∷ kind.Iff ∷ kind.Less ∷ kind.LessEqual ∷ kind.ShiftLeft ∷ kind.Greater ∷ kind.GreaterEqual ∷ kind.ShiftRight ∷ kind.Plus ∷ kind.Minus ∷ kind.Star ∷ kind.Caret ∷ kind.BitAnd ∷ kind.Div ∷ kind.DivRm ∷ kind.In ∷ kind.Mod ∷ kind.BitOr ∷ kind.BitXor ∷ kind.As ∷ []) = (either_f f_verbatim (by_f f_expression) refl) in
    fit (kind.Name ∷ kind.IntegerLiteral ∷ kind.BitsLiteral ∷ kind.StringLiteral ∷ kind.OpenParen ∷ kind.Bang ∷ kind.Minus ∷ kind.False ∷ kind.Not ∷ kind.True ∷ kind.If ∷ kind.Getter ∷ kind.Setter ∷ []) (kind.OpenParen ∷ kind.OpenBracket ∷ kind.OpenBrace ∷ kind.Dot ∷ kind.ColonColon ∷ kind.Equal ∷ kind.NotEqual ∷ kind.AndAnd ∷ kind.OrOr ∷ kind.Implies ∷ kind.Iff ∷ kind.Less ∷ kind.LessEqual ∷ kind.ShiftLeft ∷ kind.Greater ∷ kind.GreaterEqual ∷ kind.ShiftRight ∷ kind.Plus ∷ kind.Minus ∷ kind.Star ∷ kind.Caret ∷ kind.BitAnd ∷ kind.Div ∷ kind.DivRm ∷ kind.In ∷ kind.Mod ∷ kind.BitOr ∷ kind.BitXor ∷ kind.As ∷ []) raw refl refl

f_print_items : Facts print_items false (kind.Name ∷ kind.IntegerLiteral ∷ kind.BitsLiteral ∷ kind.StringLiteral ∷ kind.OpenParen ∷ kind.Bang ∷ kind.Minus ∷ kind.False ∷ kind.Not ∷ kind.True ∷ kind.If ∷ kind.Getter ∷ kind.Setter ∷ []) (kind.OpenParen ∷ kind.OpenBracket ∷ kind.OpenBrace ∷ kind.Comma ∷ kind.Dot ∷ kind.ColonColon ∷ kind.Equal ∷ kind.NotEqual ∷ kind.AndAnd ∷ kind.OrOr ∷ kind.Implies ∷ kind.Iff ∷ kind.Less ∷ kind.LessEqual ∷ kind.ShiftLeft ∷ kind.Greater ∷ kind.GreaterEqual ∷ kind.ShiftRight ∷ kind.Plus ∷ kind.Minus ∷ kind.Star ∷ kind.Caret ∷ kind.BitAnd ∷ kind.Div ∷ kind.DivRm ∷ kind.In ∷ kind.Mod ∷ kind.BitOr ∷ kind.BitXor ∷ kind.As ∷ [])
unfolding print_items
f_print_items =
    let raw : Facts {A = List PrintItem} (by (λ r. r.0 ∷ seconds r.1) (seq print_item (many (seq (tok (kind.Comma ∷ [])) print_item)))) false (kind.Name ∷ kind.IntegerLiteral ∷ kind.BitsLiteral ∷ kind.StringLiteral ∷ kind.OpenParen ∷ kind.Bang ∷ kind.Minus ∷ kind.False ∷ kind.Not ∷ kind.True ∷ kind.If ∷ kind.Getter ∷ kind.Setter ∷ []) (kind.OpenParen ∷ kind.OpenBracket ∷ kind.OpenBrace ∷ kind.Comma ∷ kind.Dot ∷ kind.ColonColon ∷ kind.Equal ∷ kind.NotEqual ∷ kind.AndAnd ∷ kind.OrOr ∷ kind.Implies ∷ kind.Iff ∷ kind.Less ∷ kind.LessEqual ∷ kind.ShiftLeft ∷ kind.Greater ∷ kind.GreaterEqual ∷ kind.ShiftRight ∷ kind.Plus ∷ kind.Minus ∷ kind.Star ∷ kind.Caret ∷ kind.BitAnd ∷ kind.Div ∷ kind.DivRm ∷ kind.In ∷ kind.Mod ∷ kind.BitOr ∷ kind.BitXor ∷ kind.As ∷ []) = (by_f (fit (kind.Name ∷ kind.IntegerLiteral ∷ kind.BitsLiteral ∷ kind.StringLiteral ∷ kind.OpenParen ∷ kind.Bang ∷ kind.Minus ∷ kind.False ∷ kind.Not ∷ kind.True ∷ kind.If ∷ kind.Getter ∷ kind.Setter ∷ []) (kind.OpenParen ∷ kind.OpenBracket ∷ kind.OpenBrace ∷ kind.Comma ∷ kind.Dot ∷ kind.ColonColon ∷ kind.Equal ∷ kind.NotEqual ∷ kind.AndAnd ∷ kind.OrOr ∷ kind.Implies ∷ kind.Iff ∷ kind.Less ∷ kind.LessEqual ∷ kind.ShiftLeft ∷ kind.Greater ∷ kind.GreaterEqual ∷ kind.ShiftRight ∷ kind.Plus ∷ kind.Minus ∷ kind.Star ∷ kind.Caret ∷ kind.BitAnd ∷ kind.Div ∷ kind.DivRm ∷ kind.In ∷ kind.Mod ∷ kind.BitOr ∷ kind.BitXor ∷ kind.As ∷ []) (seq_f f_print_item (many_f (seq_f tok_f f_print_item refl) refl) refl) refl refl)) in
    fit (kind.Name ∷ kind.IntegerLiteral ∷ kind.BitsLiteral ∷ kind.StringLiteral ∷ kind.OpenParen ∷ kind.Bang ∷ kind.Minus ∷ kind.False ∷ kind.Not ∷ kind.True ∷ kind.If ∷ kind.Getter ∷ kind.Setter ∷ []) (kind.OpenParen ∷ kind.OpenBracket ∷ kind.OpenBrace ∷ kind.Comma ∷ kind.Dot ∷ kind.ColonColon ∷ kind.Equal ∷ kind.NotEqual ∷ kind.AndAnd ∷ kind.OrOr ∷ kind.Implies ∷ kind.Iff ∷ kind.Less ∷ kind.LessEqual ∷ kind.ShiftLeft ∷ kind.Greater ∷ kind.GreaterEqual ∷ kind.ShiftRight ∷ kind.Plus ∷ kind.Minus ∷ kind.Star ∷ kind.Caret ∷ kind.BitAnd ∷ kind.Div ∷ kind.DivRm ∷ kind.In ∷ kind.Mod ∷ kind.BitOr ∷ kind.BitXor ∷ kind.As ∷ []) raw refl refl

f_maybe_print_items : Facts maybe_print_items true (kind.Name ∷ kind.IntegerLiteral ∷ kind.BitsLiteral ∷ kind.StringLiteral ∷ kind.OpenParen ∷ kind.Bang ∷ kind.Minus ∷ kind.False ∷ kind.Not ∷ kind.True ∷ kind.If ∷ kind.Getter ∷ kind.Setter ∷ []) (kind.Name ∷ kind.IntegerLiteral ∷ kind.BitsLiteral ∷ kind.StringLiteral ∷ kind.OpenParen ∷ kind.OpenBracket ∷ kind.OpenBrace ∷ kind.Comma ∷ kind.Dot ∷ kind.ColonColon ∷ kind.Equal ∷ kind.Bang ∷ kind.NotEqual ∷ kind.AndAnd ∷ kind.OrOr ∷ kind.Implies ∷ kind.Iff ∷ kind.Less ∷ kind.LessEqual ∷ kind.ShiftLeft ∷ kind.Greater ∷ kind.GreaterEqual ∷ kind.ShiftRight ∷ kind.Plus ∷ kind.Minus ∷ kind.Star ∷ kind.Caret ∷ kind.BitAnd ∷ kind.Div ∷ kind.DivRm ∷ kind.False ∷ kind.In ∷ kind.Mod ∷ kind.Not ∷ kind.BitOr ∷ kind.True ∷ kind.BitXor ∷ kind.As ∷ kind.If ∷ kind.Getter ∷ kind.Setter ∷ [])
unfolding maybe_print_items
f_maybe_print_items =
    let raw : Facts {A = List PrintItem} (by or_nil (opt print_items)) true (kind.Name ∷ kind.IntegerLiteral ∷ kind.BitsLiteral ∷ kind.StringLiteral ∷ kind.OpenParen ∷ kind.Bang ∷ kind.Minus ∷ kind.False ∷ kind.Not ∷ kind.True ∷ kind.If ∷ kind.Getter ∷ kind.Setter ∷ []) (kind.Name ∷ kind.IntegerLiteral ∷ kind.BitsLiteral ∷ kind.StringLiteral ∷ kind.OpenParen ∷ kind.Bang ∷ kind.Minus ∷ kind.False ∷ kind.Not ∷ kind.True ∷ kind.If ∷ kind.Getter ∷ kind.Setter ∷ kind.OpenParen ∷ kind.OpenBracket ∷ kind.OpenBrace ∷ kind.Comma ∷ kind.Dot ∷ kind.ColonColon ∷ kind.Equal ∷ kind.NotEqual ∷ kind.AndAnd ∷ kind.OrOr ∷ kind.Implies ∷ kind.Iff ∷ kind.Less ∷ kind.LessEqual ∷ kind.ShiftLeft ∷ kind.Greater ∷ kind.GreaterEqual ∷ kind.ShiftRight ∷ kind.Plus ∷ kind.Minus ∷ kind.Star ∷ kind.Caret ∷ kind.BitAnd ∷ kind.Div ∷ kind.DivRm ∷ kind.In ∷ kind.Mod ∷ kind.BitOr ∷ kind.BitXor ∷ kind.As ∷ []) = (by_f (opt_f f_print_items)) in
    fit (kind.Name ∷ kind.IntegerLiteral ∷ kind.BitsLiteral ∷ kind.StringLiteral ∷ kind.OpenParen ∷ kind.Bang ∷ kind.Minus ∷ kind.False ∷ kind.Not ∷ kind.True ∷ kind.If ∷ kind.Getter ∷ kind.Setter ∷ []) (kind.Name ∷ kind.IntegerLiteral ∷ kind.BitsLiteral ∷ kind.StringLiteral ∷ kind.OpenParen ∷ kind.OpenBracket ∷ kind.OpenBrace ∷ kind.Comma ∷ kind.Dot ∷ kind.ColonColon ∷ kind.Equal ∷ kind.Bang ∷ kind.NotEqual ∷ kind.AndAnd ∷ kind.OrOr ∷ kind.Implies ∷ kind.Iff ∷ kind.Less ∷ kind.LessEqual ∷ kind.ShiftLeft ∷ kind.Greater ∷ kind.GreaterEqual ∷ kind.ShiftRight ∷ kind.Plus ∷ kind.Minus ∷ kind.Star ∷ kind.Caret ∷ kind.BitAnd ∷ kind.Div ∷ kind.DivRm ∷ kind.False ∷ kind.In ∷ kind.Mod ∷ kind.Not ∷ kind.BitOr ∷ kind.True ∷ kind.BitXor ∷ kind.As ∷ kind.If ∷ kind.Getter ∷ kind.Setter ∷ []) raw refl refl

f_print_arguments : Facts print_arguments false (kind.OpenParen ∷ []) []
unfolding print_arguments
f_print_arguments =
    let raw : Facts {A = List PrintItem} (scope (by (λ r. r.1.0) (seq (opens (kind.OpenParen ∷ [])) (seq maybe_print_items (tok (kind.CloseParen ∷ [])))))) false (kind.OpenParen ∷ []) [] = (scope_f (by_f (seq_f opens_f (seq_f f_maybe_print_items tok_f refl) refl))) in
    fit (kind.OpenParen ∷ []) [] raw refl refl

f_print_statement : Facts print_statement false (kind.Print ∷ kind.PrintLine ∷ []) []
unfolding print_statement
f_print_statement =
    let raw : Facts {A = Stmt} (by (λ r. stm.Print (whole r.1) r.0.0 r.0.1.0) (spanned (seq print_kind (seq print_arguments (tok (kind.Semicolon ∷ [])))))) false (kind.Print ∷ kind.PrintLine ∷ []) [] = (by_f (spanned_f (seq_f f_print_kind (seq_f f_print_arguments tok_f refl) refl))) in
    fit (kind.Print ∷ kind.PrintLine ∷ []) [] raw refl refl

f_simple_statement : Facts simple_statement false (kind.OpenParen ∷ kind.Minus ∷ kind.Assert ∷ kind.Let ∷ kind.Pass ∷ kind.Print ∷ kind.PrintLine ∷ kind.Return ∷ kind.Throw ∷ kind.Unreachable ∷ kind.Var ∷ []) []
unfolding simple_statement
f_simple_statement =
    let raw : Facts {A = Stmt} (either pass (either unreachable (either assert (either let_statement (either var_statement (either assignment (either return_statement (either throw_statement print_statement)))))))) false (kind.Pass ∷ kind.Unreachable ∷ kind.Assert ∷ kind.Let ∷ kind.Var ∷ kind.OpenParen ∷ kind.Minus ∷ kind.Return ∷ kind.Throw ∷ kind.Print ∷ kind.PrintLine ∷ []) [] = (either_f f_pass (either_f f_unreachable (either_f f_assert (either_f f_let_statement (either_f f_var_statement (either_f f_assignment (either_f f_return_statement (either_f f_throw_statement f_print_statement refl) refl) refl) refl) refl) refl) refl) refl) in
    fit (kind.OpenParen ∷ kind.Minus ∷ kind.Assert ∷ kind.Let ∷ kind.Pass ∷ kind.Print ∷ kind.PrintLine ∷ kind.Return ∷ kind.Throw ∷ kind.Unreachable ∷ kind.Var ∷ []) [] raw refl refl

f_parameters : Facts parameters false (kind.OpenBrace ∷ []) []
unfolding parameters
f_parameters =
    let raw : Facts {A = List Expr} (scope (by (λ r. r.1.0) (seq (opens (kind.OpenBrace ∷ [])) (seq maybe_expressions (tok (kind.CloseBrace ∷ [])))))) false (kind.OpenBrace ∷ []) [] = (scope_f (by_f (seq_f opens_f (seq_f f_maybe_expressions tok_f refl) refl))) in
    fit (kind.OpenBrace ∷ []) [] raw refl refl

f_maybe_parameters : Facts maybe_parameters true (kind.OpenBrace ∷ []) (kind.OpenBrace ∷ [])
unfolding maybe_parameters
f_maybe_parameters =
    let raw : Facts {A = List Expr} (by or_nil (opt parameters)) true (kind.OpenBrace ∷ []) (kind.OpenBrace ∷ []) = (by_f (opt_f f_parameters)) in
    fit (kind.OpenBrace ∷ []) (kind.OpenBrace ∷ []) raw refl refl

f_call_arguments : Facts call_arguments false (kind.OpenParen ∷ kind.OpenBrace ∷ []) []
unfolding call_arguments
f_call_arguments =
    let raw : Facts {A = List Expr × List Expr} (seq maybe_parameters arguments) false (kind.OpenBrace ∷ kind.OpenParen ∷ []) [] = (seq_f f_maybe_parameters f_arguments refl) in
    fit (kind.OpenParen ∷ kind.OpenBrace ∷ []) [] raw refl refl

f_call_ends : Facts call_ends false (kind.Semicolon ∷ []) []
unfolding call_ends
f_call_ends =
    let raw : Facts {A = Option (List PlacedSuffix × Expr)} (by (λ r. None) (tok (kind.Semicolon ∷ []))) false (kind.Semicolon ∷ []) [] = (by_f tok_f) in
    fit (kind.Semicolon ∷ []) [] raw refl refl

f_target_suffixes : Facts target_suffixes true (kind.OpenBracket ∷ kind.Dot ∷ []) (kind.OpenBracket ∷ kind.Dot ∷ [])
unfolding target_suffixes
f_target_suffixes =
    let raw : Facts {A = List PlacedSuffix} (scope suffixes) true (kind.OpenBracket ∷ kind.Dot ∷ []) (kind.OpenBracket ∷ kind.Dot ∷ []) = (scope_f f_suffixes) in
    fit (kind.OpenBracket ∷ kind.Dot ∷ []) (kind.OpenBracket ∷ kind.Dot ∷ []) raw refl refl

f_assigned : Facts assigned false (kind.OpenBracket ∷ kind.Dot ∷ kind.Assign ∷ []) []
unfolding assigned
f_assigned =
    let raw : Facts {A = List PlacedSuffix × Expr} (seq target_suffixes value) false (kind.OpenBracket ∷ kind.Dot ∷ kind.Assign ∷ []) [] = (seq_f f_target_suffixes f_value refl) in
    fit (kind.OpenBracket ∷ kind.Dot ∷ kind.Assign ∷ []) [] raw refl refl

f_after_call : Facts after_call false (kind.OpenBracket ∷ kind.Semicolon ∷ kind.Dot ∷ kind.Assign ∷ []) []
unfolding after_call
f_after_call =
    let raw : Facts {A = Option (List PlacedSuffix × Expr)} (either call_ends (by Some assigned)) false (kind.Semicolon ∷ kind.OpenBracket ∷ kind.Dot ∷ kind.Assign ∷ []) [] = (either_f f_call_ends (by_f f_assigned) refl) in
    fit (kind.OpenBracket ∷ kind.Semicolon ∷ kind.Dot ∷ kind.Assign ∷ []) [] raw refl refl

f_called : Facts called false (kind.OpenParen ∷ kind.OpenBrace ∷ []) []
unfolding called
f_called =
    let raw : Facts {A = (List Expr × List Expr) × Option (List PlacedSuffix × Expr)} (seq call_arguments after_call) false (kind.OpenParen ∷ kind.OpenBrace ∷ []) [] = (seq_f f_call_arguments f_after_call refl) in
    fit (kind.OpenParen ∷ kind.OpenBrace ∷ []) [] raw refl refl

f_name_statement_rest : Facts name_statement_rest false (kind.OpenParen ∷ kind.OpenBracket ∷ kind.OpenBrace ∷ kind.Dot ∷ kind.Assign ∷ []) []
unfolding name_statement_rest
f_name_statement_rest =
    let raw : Facts {A = ((List Expr × List Expr) × Option (List PlacedSuffix × Expr)) ⊎ (List PlacedSuffix × Expr)} (either (by inl called) (by inr assigned)) false (kind.OpenParen ∷ kind.OpenBrace ∷ kind.OpenBracket ∷ kind.Dot ∷ kind.Assign ∷ []) [] = (either_f (by_f f_called) (by_f f_assigned) refl) in
    fit (kind.OpenParen ∷ kind.OpenBracket ∷ kind.OpenBrace ∷ kind.Dot ∷ kind.Assign ∷ []) [] raw refl refl

f_name_statement : Facts name_statement false (kind.Name ∷ kind.Getter ∷ kind.Setter ∷ []) []
unfolding name_statement
f_name_statement =
    let raw : Facts {A = ReadStmt} (by (λ r. name_statement_of r.0.0 (whole r.1) r.0.1) (spanned (seq name name_statement_rest))) false (kind.Name ∷ kind.Getter ∷ kind.Setter ∷ []) [] = (by_f (spanned_f (seq_f f_name f_name_statement_rest refl))) in
    fit (kind.Name ∷ kind.Getter ∷ kind.Setter ∷ []) [] raw refl refl

f_if_statement : Facts if_statement false (kind.If ∷ []) []
unfolding if_statement
f_if_statement =
    let raw : Facts {A = ReadStmt} (by (λ r. rs.If (whole r.1) r.0.1.0 r.0.1.1 r.0.1.2 r.0.1.3) (spanned (scope (into (kind.If ∷ []) IfBody)))) false (kind.If ∷ []) [] = (by_f (spanned_f (scope_f (into_f {s = IfBody})))) in
    fit (kind.If ∷ []) [] raw refl refl

f_case_statement : Facts case_statement false (kind.Case ∷ []) []
unfolding case_statement
f_case_statement =
    let raw : Facts {A = ReadStmt} (by (λ r. rs.Case (whole r.1) r.0.1.0 r.0.1.1 r.0.1.2) (spanned (scope (into (kind.Case ∷ []) CaseBody)))) false (kind.Case ∷ []) [] = (by_f (spanned_f (scope_f (into_f {s = CaseBody})))) in
    fit (kind.Case ∷ []) [] raw refl refl

f_for_statement : Facts for_statement false (kind.For ∷ []) []
unfolding for_statement
f_for_statement =
    let raw : Facts {A = ReadStmt} (by (λ r. rs.For (whole r.1) r.0.1.0 r.0.1.1 r.0.1.2 r.0.1.3 r.0.1.4 r.0.1.5) (spanned (scope (into (kind.For ∷ []) ForBody)))) false (kind.For ∷ []) [] = (by_f (spanned_f (scope_f (into_f {s = ForBody})))) in
    fit (kind.For ∷ []) [] raw refl refl

f_while_statement : Facts while_statement false (kind.While ∷ []) []
unfolding while_statement
f_while_statement =
    let raw : Facts {A = ReadStmt} (by (λ r. rs.While (whole r.1) r.0.1.0 r.0.1.1 r.0.1.2) (spanned (scope (into (kind.While ∷ []) WhileBody)))) false (kind.While ∷ []) [] = (by_f (spanned_f (scope_f (into_f {s = WhileBody})))) in
    fit (kind.While ∷ []) [] raw refl refl

f_repeat_statement : Facts repeat_statement false (kind.Repeat ∷ []) []
unfolding repeat_statement
f_repeat_statement =
    let raw : Facts {A = ReadStmt} (by (λ r. rs.Repeat (whole r.1) r.0.1.0 r.0.1.1 r.0.1.2) (spanned (scope (into (kind.Repeat ∷ []) RepeatBody)))) false (kind.Repeat ∷ []) [] = (by_f (spanned_f (scope_f (into_f {s = RepeatBody})))) in
    fit (kind.Repeat ∷ []) [] raw refl refl

f_try_statement : Facts try_statement false (kind.Try ∷ []) []
unfolding try_statement
f_try_statement =
    let raw : Facts {A = ReadStmt} (by (λ r. rs.Try (whole r.1) r.0.1.0 r.0.1.1 r.0.1.2) (spanned (scope (into (kind.Try ∷ []) TryBody)))) false (kind.Try ∷ []) [] = (by_f (spanned_f (scope_f (into_f {s = TryBody})))) in
    fit (kind.Try ∷ []) [] raw refl refl

f_statement : Facts statement false (kind.Name ∷ kind.OpenParen ∷ kind.Minus ∷ kind.Assert ∷ kind.Case ∷ kind.For ∷ kind.If ∷ kind.Let ∷ kind.Pass ∷ kind.Print ∷ kind.PrintLine ∷ kind.Repeat ∷ kind.Return ∷ kind.Throw ∷ kind.Try ∷ kind.Unreachable ∷ kind.Var ∷ kind.While ∷ kind.Getter ∷ kind.Setter ∷ []) []
unfolding statement
f_statement =
    let raw : Facts {A = ReadStmt} (either (by rs.Simple simple_statement) (either name_statement (either if_statement (either case_statement (either for_statement (either while_statement (either repeat_statement try_statement))))))) false (kind.OpenParen ∷ kind.Minus ∷ kind.Assert ∷ kind.Let ∷ kind.Pass ∷ kind.Print ∷ kind.PrintLine ∷ kind.Return ∷ kind.Throw ∷ kind.Unreachable ∷ kind.Var ∷ kind.Name ∷ kind.Getter ∷ kind.Setter ∷ kind.If ∷ kind.Case ∷ kind.For ∷ kind.While ∷ kind.Repeat ∷ kind.Try ∷ []) [] = (either_f (by_f f_simple_statement) (either_f f_name_statement (either_f f_if_statement (either_f f_case_statement (either_f f_for_statement (either_f f_while_statement (either_f f_repeat_statement f_try_statement refl) refl) refl) refl) refl) refl) refl) in
    fit (kind.Name ∷ kind.OpenParen ∷ kind.Minus ∷ kind.Assert ∷ kind.Case ∷ kind.For ∷ kind.If ∷ kind.Let ∷ kind.Pass ∷ kind.Print ∷ kind.PrintLine ∷ kind.Repeat ∷ kind.Return ∷ kind.Throw ∷ kind.Try ∷ kind.Unreachable ∷ kind.Var ∷ kind.While ∷ kind.Getter ∷ kind.Setter ∷ []) [] raw refl refl

f_block : Facts block true (kind.Name ∷ kind.OpenParen ∷ kind.Minus ∷ kind.Assert ∷ kind.Case ∷ kind.For ∷ kind.If ∷ kind.Let ∷ kind.Pass ∷ kind.Print ∷ kind.PrintLine ∷ kind.Repeat ∷ kind.Return ∷ kind.Throw ∷ kind.Try ∷ kind.Unreachable ∷ kind.Var ∷ kind.While ∷ kind.Getter ∷ kind.Setter ∷ []) (kind.Name ∷ kind.OpenParen ∷ kind.Minus ∷ kind.Assert ∷ kind.Case ∷ kind.For ∷ kind.If ∷ kind.Let ∷ kind.Pass ∷ kind.Print ∷ kind.PrintLine ∷ kind.Repeat ∷ kind.Return ∷ kind.Throw ∷ kind.Try ∷ kind.Unreachable ∷ kind.Var ∷ kind.While ∷ kind.Getter ∷ kind.Setter ∷ [])
unfolding block
f_block =
    let raw : Facts {A = List ReadStmt} (many statement) true (kind.Name ∷ kind.OpenParen ∷ kind.Minus ∷ kind.Assert ∷ kind.Case ∷ kind.For ∷ kind.If ∷ kind.Let ∷ kind.Pass ∷ kind.Print ∷ kind.PrintLine ∷ kind.Repeat ∷ kind.Return ∷ kind.Throw ∷ kind.Try ∷ kind.Unreachable ∷ kind.Var ∷ kind.While ∷ kind.Getter ∷ kind.Setter ∷ []) (kind.Name ∷ kind.OpenParen ∷ kind.Minus ∷ kind.Assert ∷ kind.Case ∷ kind.For ∷ kind.If ∷ kind.Let ∷ kind.Pass ∷ kind.Print ∷ kind.PrintLine ∷ kind.Repeat ∷ kind.Return ∷ kind.Throw ∷ kind.Try ∷ kind.Unreachable ∷ kind.Var ∷ kind.While ∷ kind.Getter ∷ kind.Setter ∷ []) = (many_f f_statement refl) in
    fit (kind.Name ∷ kind.OpenParen ∷ kind.Minus ∷ kind.Assert ∷ kind.Case ∷ kind.For ∷ kind.If ∷ kind.Let ∷ kind.Pass ∷ kind.Print ∷ kind.PrintLine ∷ kind.Repeat ∷ kind.Return ∷ kind.Throw ∷ kind.Try ∷ kind.Unreachable ∷ kind.Var ∷ kind.While ∷ kind.Getter ∷ kind.Setter ∷ []) (kind.Name ∷ kind.OpenParen ∷ kind.Minus ∷ kind.Assert ∷ kind.Case ∷ kind.For ∷ kind.If ∷ kind.Let ∷ kind.Pass ∷ kind.Print ∷ kind.PrintLine ∷ kind.Repeat ∷ kind.Return ∷ kind.Throw ∷ kind.Try ∷ kind.Unreachable ∷ kind.Var ∷ kind.While ∷ kind.Getter ∷ kind.Setter ∷ []) raw refl refl

f_loop_limit : Facts loop_limit true (kind.LoopLimit ∷ []) (kind.OpenParen ∷ kind.OpenBracket ∷ kind.OpenBrace ∷ kind.Dot ∷ kind.ColonColon ∷ kind.Equal ∷ kind.NotEqual ∷ kind.AndAnd ∷ kind.OrOr ∷ kind.Implies ∷ kind.Iff ∷ kind.Less ∷ kind.LessEqual ∷ kind.ShiftLeft ∷ kind.Greater ∷ kind.GreaterEqual ∷ kind.ShiftRight ∷ kind.Plus ∷ kind.Minus ∷ kind.Star ∷ kind.Caret ∷ kind.BitAnd ∷ kind.Div ∷ kind.DivRm ∷ kind.In ∷ kind.Mod ∷ kind.BitOr ∷ kind.BitXor ∷ kind.As ∷ kind.LoopLimit ∷ [])
unfolding loop_limit
f_loop_limit =
    let raw : Facts {A = Option Expr} (opt (by (λ r. r.1) (seq (tok (kind.LoopLimit ∷ [])) expression))) true (kind.LoopLimit ∷ []) (kind.LoopLimit ∷ kind.OpenParen ∷ kind.OpenBracket ∷ kind.OpenBrace ∷ kind.Dot ∷ kind.ColonColon ∷ kind.Equal ∷ kind.NotEqual ∷ kind.AndAnd ∷ kind.OrOr ∷ kind.Implies ∷ kind.Iff ∷ kind.Less ∷ kind.LessEqual ∷ kind.ShiftLeft ∷ kind.Greater ∷ kind.GreaterEqual ∷ kind.ShiftRight ∷ kind.Plus ∷ kind.Minus ∷ kind.Star ∷ kind.Caret ∷ kind.BitAnd ∷ kind.Div ∷ kind.DivRm ∷ kind.In ∷ kind.Mod ∷ kind.BitOr ∷ kind.BitXor ∷ kind.As ∷ []) = (opt_f (by_f (seq_f tok_f f_expression refl))) in
    fit (kind.LoopLimit ∷ []) (kind.OpenParen ∷ kind.OpenBracket ∷ kind.OpenBrace ∷ kind.Dot ∷ kind.ColonColon ∷ kind.Equal ∷ kind.NotEqual ∷ kind.AndAnd ∷ kind.OrOr ∷ kind.Implies ∷ kind.Iff ∷ kind.Less ∷ kind.LessEqual ∷ kind.ShiftLeft ∷ kind.Greater ∷ kind.GreaterEqual ∷ kind.ShiftRight ∷ kind.Plus ∷ kind.Minus ∷ kind.Star ∷ kind.Caret ∷ kind.BitAnd ∷ kind.Div ∷ kind.DivRm ∷ kind.In ∷ kind.Mod ∷ kind.BitOr ∷ kind.BitXor ∷ kind.As ∷ kind.LoopLimit ∷ []) raw refl refl

f_otherwise : Facts otherwise false (kind.Otherwise ∷ []) (kind.Name ∷ kind.OpenParen ∷ kind.Minus ∷ kind.Assert ∷ kind.Case ∷ kind.For ∷ kind.If ∷ kind.Let ∷ kind.Pass ∷ kind.Print ∷ kind.PrintLine ∷ kind.Repeat ∷ kind.Return ∷ kind.Throw ∷ kind.Try ∷ kind.Unreachable ∷ kind.Var ∷ kind.While ∷ kind.Getter ∷ kind.Setter ∷ [])
unfolding otherwise
f_otherwise =
    let raw : Facts {A = ReadOtherwise} (by (λ r. ro.Otherwise r.1.1) (seq (tok (kind.Otherwise ∷ [])) (seq (tok (kind.FatArrow ∷ [])) block))) false (kind.Otherwise ∷ []) (kind.Name ∷ kind.OpenParen ∷ kind.Minus ∷ kind.Assert ∷ kind.Case ∷ kind.For ∷ kind.If ∷ kind.Let ∷ kind.Pass ∷ kind.Print ∷ kind.PrintLine ∷ kind.Repeat ∷ kind.Return ∷ kind.Throw ∷ kind.Try ∷ kind.Unreachable ∷ kind.Var ∷ kind.While ∷ kind.Getter ∷ kind.Setter ∷ []) = (by_f (seq_f tok_f (seq_f tok_f f_block refl) refl)) in
    fit (kind.Otherwise ∷ []) (kind.Name ∷ kind.OpenParen ∷ kind.Minus ∷ kind.Assert ∷ kind.Case ∷ kind.For ∷ kind.If ∷ kind.Let ∷ kind.Pass ∷ kind.Print ∷ kind.PrintLine ∷ kind.Repeat ∷ kind.Return ∷ kind.Throw ∷ kind.Try ∷ kind.Unreachable ∷ kind.Var ∷ kind.While ∷ kind.Getter ∷ kind.Setter ∷ []) raw refl refl

f_maybe_otherwise : Facts maybe_otherwise true (kind.Otherwise ∷ []) (kind.Name ∷ kind.OpenParen ∷ kind.Minus ∷ kind.Assert ∷ kind.Case ∷ kind.For ∷ kind.If ∷ kind.Let ∷ kind.Otherwise ∷ kind.Pass ∷ kind.Print ∷ kind.PrintLine ∷ kind.Repeat ∷ kind.Return ∷ kind.Throw ∷ kind.Try ∷ kind.Unreachable ∷ kind.Var ∷ kind.While ∷ kind.Getter ∷ kind.Setter ∷ [])
unfolding maybe_otherwise
f_maybe_otherwise =
    let raw : Facts {A = ReadOtherwise} (by or_no_otherwise (opt otherwise)) true (kind.Otherwise ∷ []) (kind.Otherwise ∷ kind.Name ∷ kind.OpenParen ∷ kind.Minus ∷ kind.Assert ∷ kind.Case ∷ kind.For ∷ kind.If ∷ kind.Let ∷ kind.Pass ∷ kind.Print ∷ kind.PrintLine ∷ kind.Repeat ∷ kind.Return ∷ kind.Throw ∷ kind.Try ∷ kind.Unreachable ∷ kind.Var ∷ kind.While ∷ kind.Getter ∷ kind.Setter ∷ []) = (by_f (opt_f f_otherwise)) in
    fit (kind.Otherwise ∷ []) (kind.Name ∷ kind.OpenParen ∷ kind.Minus ∷ kind.Assert ∷ kind.Case ∷ kind.For ∷ kind.If ∷ kind.Let ∷ kind.Otherwise ∷ kind.Pass ∷ kind.Print ∷ kind.PrintLine ∷ kind.Repeat ∷ kind.Return ∷ kind.Throw ∷ kind.Try ∷ kind.Unreachable ∷ kind.Var ∷ kind.While ∷ kind.Getter ∷ kind.Setter ∷ []) raw refl refl

f_place : Facts place false (kind.Name ∷ kind.Getter ∷ kind.Setter ∷ []) (kind.OpenBracket ∷ kind.Dot ∷ [])
unfolding place
f_place =
    let raw : Facts {A = Target} (by (λ r. place_of r.0 r.1) (seq name target_suffixes)) false (kind.Name ∷ kind.Getter ∷ kind.Setter ∷ []) (kind.OpenBracket ∷ kind.Dot ∷ []) = (by_f (seq_f f_name f_target_suffixes refl)) in
    fit (kind.Name ∷ kind.Getter ∷ kind.Setter ∷ []) (kind.OpenBracket ∷ kind.Dot ∷ []) raw refl refl

f_target : Facts target false (kind.Name ∷ kind.OpenParen ∷ kind.Minus ∷ kind.Getter ∷ kind.Setter ∷ []) (kind.OpenBracket ∷ kind.Dot ∷ [])
unfolding target
f_target =
    let raw : Facts {A = Target} (either no_target (either place targets)) false (kind.Minus ∷ kind.Name ∷ kind.Getter ∷ kind.Setter ∷ kind.OpenParen ∷ []) (kind.OpenBracket ∷ kind.Dot ∷ []) = (either_f f_no_target (either_f f_place f_targets refl) refl) in
    fit (kind.Name ∷ kind.OpenParen ∷ kind.Minus ∷ kind.Getter ∷ kind.Setter ∷ []) (kind.OpenBracket ∷ kind.Dot ∷ []) raw refl refl

f_more_targets : Facts more_targets true (kind.Comma ∷ []) (kind.OpenBracket ∷ kind.Comma ∷ kind.Dot ∷ [])
unfolding more_targets
f_more_targets =
    let raw : Facts {A = List Target} (by seconds (many (seq (tok (kind.Comma ∷ [])) target))) true (kind.Comma ∷ []) (kind.Comma ∷ kind.OpenBracket ∷ kind.Dot ∷ []) = (by_f (many_f (seq_f tok_f f_target refl) refl)) in
    fit (kind.Comma ∷ []) (kind.OpenBracket ∷ kind.Comma ∷ kind.Dot ∷ []) raw refl refl

f_two_targets : Facts two_targets false (kind.Name ∷ kind.OpenParen ∷ kind.Minus ∷ kind.Getter ∷ kind.Setter ∷ []) (kind.OpenBracket ∷ kind.Comma ∷ kind.Dot ∷ [])
unfolding two_targets
f_two_targets =
    let raw : Facts {A = List Target} (by (λ r. behind (r.0 ∷ r.1.1.0 ∷ []) r.1.1.1) (seq target (seq (tok (kind.Comma ∷ [])) (seq target more_targets)))) false (kind.Name ∷ kind.OpenParen ∷ kind.Minus ∷ kind.Getter ∷ kind.Setter ∷ []) (kind.OpenBracket ∷ kind.Comma ∷ kind.Dot ∷ kind.OpenBracket ∷ kind.Dot ∷ []) = (by_f (seq_f f_target (seq_f tok_f (seq_f f_target f_more_targets refl) refl) refl)) in
    fit (kind.Name ∷ kind.OpenParen ∷ kind.Minus ∷ kind.Getter ∷ kind.Setter ∷ []) (kind.OpenBracket ∷ kind.Comma ∷ kind.Dot ∷ []) raw refl refl

f_target_parts : Facts target_parts false (kind.Name ∷ kind.OpenParen ∷ kind.Minus ∷ kind.Getter ∷ kind.Setter ∷ []) []
unfolding target_parts
f_target_parts =
    let raw : Facts {A = List Target} (by (λ r. r.0) (seq two_targets (tok (kind.CloseParen ∷ [])))) false (kind.Name ∷ kind.OpenParen ∷ kind.Minus ∷ kind.Getter ∷ kind.Setter ∷ []) [] = (by_f (seq_f f_two_targets tok_f refl)) in
    fit (kind.Name ∷ kind.OpenParen ∷ kind.Minus ∷ kind.Getter ∷ kind.Setter ∷ []) [] raw refl refl

f_else_if : Facts else_if false (kind.ElsIf ∷ []) (kind.Name ∷ kind.OpenParen ∷ kind.Minus ∷ kind.Assert ∷ kind.Case ∷ kind.For ∷ kind.If ∷ kind.Let ∷ kind.Pass ∷ kind.Print ∷ kind.PrintLine ∷ kind.Repeat ∷ kind.Return ∷ kind.Throw ∷ kind.Try ∷ kind.Unreachable ∷ kind.Var ∷ kind.While ∷ kind.Getter ∷ kind.Setter ∷ [])
unfolding else_if
f_else_if =
    let raw : Facts {A = ReadElseIf} (by (λ r. re.ElseIf r.1.0 r.1.1.1) (seq (tok (kind.ElsIf ∷ [])) (seq expression (seq (tok (kind.Then ∷ [])) block)))) false (kind.ElsIf ∷ []) (kind.Name ∷ kind.OpenParen ∷ kind.Minus ∷ kind.Assert ∷ kind.Case ∷ kind.For ∷ kind.If ∷ kind.Let ∷ kind.Pass ∷ kind.Print ∷ kind.PrintLine ∷ kind.Repeat ∷ kind.Return ∷ kind.Throw ∷ kind.Try ∷ kind.Unreachable ∷ kind.Var ∷ kind.While ∷ kind.Getter ∷ kind.Setter ∷ []) = (by_f (seq_f tok_f (seq_f f_expression (seq_f tok_f f_block refl) refl) refl)) in
    fit (kind.ElsIf ∷ []) (kind.Name ∷ kind.OpenParen ∷ kind.Minus ∷ kind.Assert ∷ kind.Case ∷ kind.For ∷ kind.If ∷ kind.Let ∷ kind.Pass ∷ kind.Print ∷ kind.PrintLine ∷ kind.Repeat ∷ kind.Return ∷ kind.Throw ∷ kind.Try ∷ kind.Unreachable ∷ kind.Var ∷ kind.While ∷ kind.Getter ∷ kind.Setter ∷ []) raw refl refl

f_else_ifs : Facts else_ifs true (kind.ElsIf ∷ []) (kind.Name ∷ kind.OpenParen ∷ kind.Minus ∷ kind.Assert ∷ kind.Case ∷ kind.ElsIf ∷ kind.For ∷ kind.If ∷ kind.Let ∷ kind.Pass ∷ kind.Print ∷ kind.PrintLine ∷ kind.Repeat ∷ kind.Return ∷ kind.Throw ∷ kind.Try ∷ kind.Unreachable ∷ kind.Var ∷ kind.While ∷ kind.Getter ∷ kind.Setter ∷ [])
unfolding else_ifs
f_else_ifs =
    let raw : Facts {A = List ReadElseIf} (many else_if) true (kind.ElsIf ∷ []) (kind.ElsIf ∷ kind.Name ∷ kind.OpenParen ∷ kind.Minus ∷ kind.Assert ∷ kind.Case ∷ kind.For ∷ kind.If ∷ kind.Let ∷ kind.Pass ∷ kind.Print ∷ kind.PrintLine ∷ kind.Repeat ∷ kind.Return ∷ kind.Throw ∷ kind.Try ∷ kind.Unreachable ∷ kind.Var ∷ kind.While ∷ kind.Getter ∷ kind.Setter ∷ []) = (many_f f_else_if refl) in
    fit (kind.ElsIf ∷ []) (kind.Name ∷ kind.OpenParen ∷ kind.Minus ∷ kind.Assert ∷ kind.Case ∷ kind.ElsIf ∷ kind.For ∷ kind.If ∷ kind.Let ∷ kind.Pass ∷ kind.Print ∷ kind.PrintLine ∷ kind.Repeat ∷ kind.Return ∷ kind.Throw ∷ kind.Try ∷ kind.Unreachable ∷ kind.Var ∷ kind.While ∷ kind.Getter ∷ kind.Setter ∷ []) raw refl refl

f_else_block : Facts else_block false (kind.Else ∷ []) (kind.Name ∷ kind.OpenParen ∷ kind.Minus ∷ kind.Assert ∷ kind.Case ∷ kind.For ∷ kind.If ∷ kind.Let ∷ kind.Pass ∷ kind.Print ∷ kind.PrintLine ∷ kind.Repeat ∷ kind.Return ∷ kind.Throw ∷ kind.Try ∷ kind.Unreachable ∷ kind.Var ∷ kind.While ∷ kind.Getter ∷ kind.Setter ∷ [])
unfolding else_block
f_else_block =
    let raw : Facts {A = List ReadStmt} (by (λ r. r.1) (seq (tok (kind.Else ∷ [])) block)) false (kind.Else ∷ []) (kind.Name ∷ kind.OpenParen ∷ kind.Minus ∷ kind.Assert ∷ kind.Case ∷ kind.For ∷ kind.If ∷ kind.Let ∷ kind.Pass ∷ kind.Print ∷ kind.PrintLine ∷ kind.Repeat ∷ kind.Return ∷ kind.Throw ∷ kind.Try ∷ kind.Unreachable ∷ kind.Var ∷ kind.While ∷ kind.Getter ∷ kind.Setter ∷ []) = (by_f (seq_f tok_f f_block refl)) in
    fit (kind.Else ∷ []) (kind.Name ∷ kind.OpenParen ∷ kind.Minus ∷ kind.Assert ∷ kind.Case ∷ kind.For ∷ kind.If ∷ kind.Let ∷ kind.Pass ∷ kind.Print ∷ kind.PrintLine ∷ kind.Repeat ∷ kind.Return ∷ kind.Throw ∷ kind.Try ∷ kind.Unreachable ∷ kind.Var ∷ kind.While ∷ kind.Getter ∷ kind.Setter ∷ []) raw refl refl

f_maybe_else : Facts maybe_else true (kind.Else ∷ []) (kind.Name ∷ kind.OpenParen ∷ kind.Minus ∷ kind.Assert ∷ kind.Case ∷ kind.Else ∷ kind.For ∷ kind.If ∷ kind.Let ∷ kind.Pass ∷ kind.Print ∷ kind.PrintLine ∷ kind.Repeat ∷ kind.Return ∷ kind.Throw ∷ kind.Try ∷ kind.Unreachable ∷ kind.Var ∷ kind.While ∷ kind.Getter ∷ kind.Setter ∷ [])
unfolding maybe_else
f_maybe_else =
    let raw : Facts {A = List ReadStmt} (by or_nil (opt else_block)) true (kind.Else ∷ []) (kind.Else ∷ kind.Name ∷ kind.OpenParen ∷ kind.Minus ∷ kind.Assert ∷ kind.Case ∷ kind.For ∷ kind.If ∷ kind.Let ∷ kind.Pass ∷ kind.Print ∷ kind.PrintLine ∷ kind.Repeat ∷ kind.Return ∷ kind.Throw ∷ kind.Try ∷ kind.Unreachable ∷ kind.Var ∷ kind.While ∷ kind.Getter ∷ kind.Setter ∷ []) = (by_f (opt_f f_else_block)) in
    fit (kind.Else ∷ []) (kind.Name ∷ kind.OpenParen ∷ kind.Minus ∷ kind.Assert ∷ kind.Case ∷ kind.Else ∷ kind.For ∷ kind.If ∷ kind.Let ∷ kind.Pass ∷ kind.Print ∷ kind.PrintLine ∷ kind.Repeat ∷ kind.Return ∷ kind.Throw ∷ kind.Try ∷ kind.Unreachable ∷ kind.Var ∷ kind.While ∷ kind.Getter ∷ kind.Setter ∷ []) raw refl refl

f_if_body : Facts if_body false (kind.Name ∷ kind.IntegerLiteral ∷ kind.BitsLiteral ∷ kind.OpenParen ∷ kind.Bang ∷ kind.Minus ∷ kind.False ∷ kind.Not ∷ kind.True ∷ kind.If ∷ kind.Getter ∷ kind.Setter ∷ []) []
unfolding if_body
f_if_body =
    let raw : Facts {A = Expr × List ReadStmt × List ReadElseIf × List ReadStmt} (by (λ r. (r.0, r.1.1.0, r.1.1.1.0, r.1.1.1.1.0)) (seq expression (seq (tok (kind.Then ∷ [])) (seq block (seq else_ifs (seq maybe_else (seq (tok (kind.End ∷ [])) (tok (kind.Semicolon ∷ []))))))))) false (kind.Name ∷ kind.IntegerLiteral ∷ kind.BitsLiteral ∷ kind.OpenParen ∷ kind.Bang ∷ kind.Minus ∷ kind.False ∷ kind.Not ∷ kind.True ∷ kind.If ∷ kind.Getter ∷ kind.Setter ∷ []) [] = (by_f (seq_f f_expression (seq_f tok_f (seq_f f_block (seq_f f_else_ifs (seq_f f_maybe_else (seq_f tok_f tok_f refl) refl) refl) refl) refl) refl)) in
    fit (kind.Name ∷ kind.IntegerLiteral ∷ kind.BitsLiteral ∷ kind.OpenParen ∷ kind.Bang ∷ kind.Minus ∷ kind.False ∷ kind.Not ∷ kind.True ∷ kind.If ∷ kind.Getter ∷ kind.Setter ∷ []) [] raw refl refl

f_where_clause : Facts where_clause true (kind.Where ∷ []) (kind.OpenParen ∷ kind.OpenBracket ∷ kind.OpenBrace ∷ kind.Dot ∷ kind.ColonColon ∷ kind.Equal ∷ kind.NotEqual ∷ kind.AndAnd ∷ kind.OrOr ∷ kind.Implies ∷ kind.Iff ∷ kind.Less ∷ kind.LessEqual ∷ kind.ShiftLeft ∷ kind.Greater ∷ kind.GreaterEqual ∷ kind.ShiftRight ∷ kind.Plus ∷ kind.Minus ∷ kind.Star ∷ kind.Caret ∷ kind.BitAnd ∷ kind.Div ∷ kind.DivRm ∷ kind.In ∷ kind.Mod ∷ kind.BitOr ∷ kind.BitXor ∷ kind.As ∷ kind.Where ∷ [])
unfolding where_clause
f_where_clause =
    let raw : Facts {A = Option Expr} (opt (by (λ r. r.1) (seq (tok (kind.Where ∷ [])) expression))) true (kind.Where ∷ []) (kind.Where ∷ kind.OpenParen ∷ kind.OpenBracket ∷ kind.OpenBrace ∷ kind.Dot ∷ kind.ColonColon ∷ kind.Equal ∷ kind.NotEqual ∷ kind.AndAnd ∷ kind.OrOr ∷ kind.Implies ∷ kind.Iff ∷ kind.Less ∷ kind.LessEqual ∷ kind.ShiftLeft ∷ kind.Greater ∷ kind.GreaterEqual ∷ kind.ShiftRight ∷ kind.Plus ∷ kind.Minus ∷ kind.Star ∷ kind.Caret ∷ kind.BitAnd ∷ kind.Div ∷ kind.DivRm ∷ kind.In ∷ kind.Mod ∷ kind.BitOr ∷ kind.BitXor ∷ kind.As ∷ []) = (opt_f (by_f (seq_f tok_f f_expression refl))) in
    fit (kind.Where ∷ []) (kind.OpenParen ∷ kind.OpenBracket ∷ kind.OpenBrace ∷ kind.Dot ∷ kind.ColonColon ∷ kind.Equal ∷ kind.NotEqual ∷ kind.AndAnd ∷ kind.OrOr ∷ kind.Implies ∷ kind.Iff ∷ kind.Less ∷ kind.LessEqual ∷ kind.ShiftLeft ∷ kind.Greater ∷ kind.GreaterEqual ∷ kind.ShiftRight ∷ kind.Plus ∷ kind.Minus ∷ kind.Star ∷ kind.Caret ∷ kind.BitAnd ∷ kind.Div ∷ kind.DivRm ∷ kind.In ∷ kind.Mod ∷ kind.BitOr ∷ kind.BitXor ∷ kind.As ∷ kind.Where ∷ []) raw refl refl

f_alternative : Facts alternative false (kind.When ∷ []) (kind.Name ∷ kind.OpenParen ∷ kind.Minus ∷ kind.Assert ∷ kind.Case ∷ kind.For ∷ kind.If ∷ kind.Let ∷ kind.Pass ∷ kind.Print ∷ kind.PrintLine ∷ kind.Repeat ∷ kind.Return ∷ kind.Throw ∷ kind.Try ∷ kind.Unreachable ∷ kind.Var ∷ kind.While ∷ kind.Getter ∷ kind.Setter ∷ [])
unfolding alternative
f_alternative =
    let raw : Facts {A = ReadAlternative} (by (λ r. ra.When r.1.0 r.1.1.0 r.1.1.1.1) (seq (tok (kind.When ∷ [])) (seq patterns (seq where_clause (seq (tok (kind.FatArrow ∷ [])) block))))) false (kind.When ∷ []) (kind.Name ∷ kind.OpenParen ∷ kind.Minus ∷ kind.Assert ∷ kind.Case ∷ kind.For ∷ kind.If ∷ kind.Let ∷ kind.Pass ∷ kind.Print ∷ kind.PrintLine ∷ kind.Repeat ∷ kind.Return ∷ kind.Throw ∷ kind.Try ∷ kind.Unreachable ∷ kind.Var ∷ kind.While ∷ kind.Getter ∷ kind.Setter ∷ []) = (by_f (seq_f tok_f (seq_f f_patterns (seq_f f_where_clause (seq_f tok_f f_block refl) refl) refl) refl)) in
    fit (kind.When ∷ []) (kind.Name ∷ kind.OpenParen ∷ kind.Minus ∷ kind.Assert ∷ kind.Case ∷ kind.For ∷ kind.If ∷ kind.Let ∷ kind.Pass ∷ kind.Print ∷ kind.PrintLine ∷ kind.Repeat ∷ kind.Return ∷ kind.Throw ∷ kind.Try ∷ kind.Unreachable ∷ kind.Var ∷ kind.While ∷ kind.Getter ∷ kind.Setter ∷ []) raw refl refl

f_alternatives : Facts alternatives true (kind.When ∷ []) (kind.Name ∷ kind.OpenParen ∷ kind.Minus ∷ kind.Assert ∷ kind.Case ∷ kind.For ∷ kind.If ∷ kind.Let ∷ kind.Pass ∷ kind.Print ∷ kind.PrintLine ∷ kind.Repeat ∷ kind.Return ∷ kind.Throw ∷ kind.Try ∷ kind.Unreachable ∷ kind.Var ∷ kind.When ∷ kind.While ∷ kind.Getter ∷ kind.Setter ∷ [])
unfolding alternatives
f_alternatives =
    let raw : Facts {A = List ReadAlternative} (many alternative) true (kind.When ∷ []) (kind.When ∷ kind.Name ∷ kind.OpenParen ∷ kind.Minus ∷ kind.Assert ∷ kind.Case ∷ kind.For ∷ kind.If ∷ kind.Let ∷ kind.Pass ∷ kind.Print ∷ kind.PrintLine ∷ kind.Repeat ∷ kind.Return ∷ kind.Throw ∷ kind.Try ∷ kind.Unreachable ∷ kind.Var ∷ kind.While ∷ kind.Getter ∷ kind.Setter ∷ []) = (many_f f_alternative refl) in
    fit (kind.When ∷ []) (kind.Name ∷ kind.OpenParen ∷ kind.Minus ∷ kind.Assert ∷ kind.Case ∷ kind.For ∷ kind.If ∷ kind.Let ∷ kind.Pass ∷ kind.Print ∷ kind.PrintLine ∷ kind.Repeat ∷ kind.Return ∷ kind.Throw ∷ kind.Try ∷ kind.Unreachable ∷ kind.Var ∷ kind.When ∷ kind.While ∷ kind.Getter ∷ kind.Setter ∷ []) raw refl refl

f_case_body : Facts case_body false (kind.Name ∷ kind.IntegerLiteral ∷ kind.BitsLiteral ∷ kind.OpenParen ∷ kind.Bang ∷ kind.Minus ∷ kind.False ∷ kind.Not ∷ kind.True ∷ kind.If ∷ kind.Getter ∷ kind.Setter ∷ []) []
unfolding case_body
f_case_body =
    let raw : Facts {A = Expr × List ReadAlternative × ReadOtherwise} (by (λ r. (r.0, r.1.1.0, r.1.1.1.0)) (seq expression (seq (tok (kind.Of ∷ [])) (seq alternatives (seq maybe_otherwise (seq (tok (kind.End ∷ [])) (tok (kind.Semicolon ∷ [])))))))) false (kind.Name ∷ kind.IntegerLiteral ∷ kind.BitsLiteral ∷ kind.OpenParen ∷ kind.Bang ∷ kind.Minus ∷ kind.False ∷ kind.Not ∷ kind.True ∷ kind.If ∷ kind.Getter ∷ kind.Setter ∷ []) [] = (by_f (seq_f f_expression (seq_f tok_f (seq_f f_alternatives (seq_f f_maybe_otherwise (seq_f tok_f tok_f refl) refl) refl) refl) refl)) in
    fit (kind.Name ∷ kind.IntegerLiteral ∷ kind.BitsLiteral ∷ kind.OpenParen ∷ kind.Bang ∷ kind.Minus ∷ kind.False ∷ kind.Not ∷ kind.True ∷ kind.If ∷ kind.Getter ∷ kind.Setter ∷ []) [] raw refl refl

f_direction : Facts direction false (kind.DownTo ∷ kind.To ∷ []) []
unfolding direction
f_direction =
    let raw : Facts {A = Direction} (either (by (λ r. dr.Up) (tok (kind.To ∷ []))) (by (λ r. dr.Down) (tok (kind.DownTo ∷ [])))) false (kind.To ∷ kind.DownTo ∷ []) [] = (either_f (by_f tok_f) (by_f tok_f) refl) in
    fit (kind.DownTo ∷ kind.To ∷ []) [] raw refl refl

f_for_body : Facts for_body false (kind.Name ∷ kind.Getter ∷ kind.Setter ∷ []) []
unfolding for_body
f_for_body =
    let raw : Facts {A = Ident × Expr × Direction × Expr × Option Expr × List ReadStmt} (by (λ r. (r.0, r.1.1.0, r.1.1.1.0, r.1.1.1.1.0, r.1.1.1.1.1.0, r.1.1.1.1.1.1.1.0)) (seq name (seq (tok (kind.Assign ∷ [])) (seq expression (seq direction (seq expression (seq loop_limit (seq (tok (kind.Do ∷ [])) (seq block (seq (tok (kind.End ∷ [])) (tok (kind.Semicolon ∷ [])))))))))))) false (kind.Name ∷ kind.Getter ∷ kind.Setter ∷ []) [] = (by_f (seq_f f_name (seq_f tok_f (seq_f f_expression (seq_f f_direction (seq_f f_expression (seq_f f_loop_limit (seq_f tok_f (seq_f f_block (seq_f tok_f tok_f refl) refl) refl) refl) refl) refl) refl) refl) refl)) in
    fit (kind.Name ∷ kind.Getter ∷ kind.Setter ∷ []) [] raw refl refl

f_while_body : Facts while_body false (kind.Name ∷ kind.IntegerLiteral ∷ kind.BitsLiteral ∷ kind.OpenParen ∷ kind.Bang ∷ kind.Minus ∷ kind.False ∷ kind.Not ∷ kind.True ∷ kind.If ∷ kind.Getter ∷ kind.Setter ∷ []) []
unfolding while_body
f_while_body =
    let raw : Facts {A = Expr × Option Expr × List ReadStmt} (by (λ r. (r.0, r.1.0, r.1.1.1.0)) (seq expression (seq loop_limit (seq (tok (kind.Do ∷ [])) (seq block (seq (tok (kind.End ∷ [])) (tok (kind.Semicolon ∷ [])))))))) false (kind.Name ∷ kind.IntegerLiteral ∷ kind.BitsLiteral ∷ kind.OpenParen ∷ kind.Bang ∷ kind.Minus ∷ kind.False ∷ kind.Not ∷ kind.True ∷ kind.If ∷ kind.Getter ∷ kind.Setter ∷ []) [] = (by_f (seq_f f_expression (seq_f f_loop_limit (seq_f tok_f (seq_f f_block (seq_f tok_f tok_f refl) refl) refl) refl) refl)) in
    fit (kind.Name ∷ kind.IntegerLiteral ∷ kind.BitsLiteral ∷ kind.OpenParen ∷ kind.Bang ∷ kind.Minus ∷ kind.False ∷ kind.Not ∷ kind.True ∷ kind.If ∷ kind.Getter ∷ kind.Setter ∷ []) [] raw refl refl

f_repeat_body : Facts repeat_body false (kind.Name ∷ kind.OpenParen ∷ kind.Minus ∷ kind.Assert ∷ kind.Case ∷ kind.For ∷ kind.If ∷ kind.Let ∷ kind.Pass ∷ kind.Print ∷ kind.PrintLine ∷ kind.Repeat ∷ kind.Return ∷ kind.Throw ∷ kind.Try ∷ kind.Unreachable ∷ kind.Until ∷ kind.Var ∷ kind.While ∷ kind.Getter ∷ kind.Setter ∷ []) []
unfolding repeat_body
f_repeat_body =
    let raw : Facts {A = List ReadStmt × Expr × Option Expr} (by (λ r. (r.0, r.1.1.0, r.1.1.1.0)) (seq block (seq (tok (kind.Until ∷ [])) (seq expression (seq loop_limit (tok (kind.Semicolon ∷ []))))))) false (kind.Name ∷ kind.OpenParen ∷ kind.Minus ∷ kind.Assert ∷ kind.Case ∷ kind.For ∷ kind.If ∷ kind.Let ∷ kind.Pass ∷ kind.Print ∷ kind.PrintLine ∷ kind.Repeat ∷ kind.Return ∷ kind.Throw ∷ kind.Try ∷ kind.Unreachable ∷ kind.Var ∷ kind.While ∷ kind.Getter ∷ kind.Setter ∷ kind.Until ∷ []) [] = (by_f (seq_f f_block (seq_f tok_f (seq_f f_expression (seq_f f_loop_limit tok_f refl) refl) refl) refl)) in
    fit (kind.Name ∷ kind.OpenParen ∷ kind.Minus ∷ kind.Assert ∷ kind.Case ∷ kind.For ∷ kind.If ∷ kind.Let ∷ kind.Pass ∷ kind.Print ∷ kind.PrintLine ∷ kind.Repeat ∷ kind.Return ∷ kind.Throw ∷ kind.Try ∷ kind.Unreachable ∷ kind.Until ∷ kind.Var ∷ kind.While ∷ kind.Getter ∷ kind.Setter ∷ []) [] raw refl refl

f_caught_type : Facts caught_type true (kind.Colon ∷ []) (kind.Colon ∷ [])
unfolding caught_type
f_caught_type =
    let raw : Facts {A = Option Ident} (opt (by (λ r. r.1) (seq (tok (kind.Colon ∷ [])) name))) true (kind.Colon ∷ []) (kind.Colon ∷ []) = (opt_f (by_f (seq_f tok_f f_name refl))) in
    fit (kind.Colon ∷ []) (kind.Colon ∷ []) raw refl refl

f_catcher : Facts catcher false (kind.When ∷ []) (kind.Name ∷ kind.OpenParen ∷ kind.Minus ∷ kind.Assert ∷ kind.Case ∷ kind.For ∷ kind.If ∷ kind.Let ∷ kind.Pass ∷ kind.Print ∷ kind.PrintLine ∷ kind.Repeat ∷ kind.Return ∷ kind.Throw ∷ kind.Try ∷ kind.Unreachable ∷ kind.Var ∷ kind.While ∷ kind.Getter ∷ kind.Setter ∷ [])
unfolding catcher
f_catcher =
    let raw : Facts {A = ReadCatcher} (by (λ r. catch_of r.1.0 r.1.1.0 r.1.1.1.1) (seq (tok (kind.When ∷ [])) (seq name (seq caught_type (seq (tok (kind.FatArrow ∷ [])) block))))) false (kind.When ∷ []) (kind.Name ∷ kind.OpenParen ∷ kind.Minus ∷ kind.Assert ∷ kind.Case ∷ kind.For ∷ kind.If ∷ kind.Let ∷ kind.Pass ∷ kind.Print ∷ kind.PrintLine ∷ kind.Repeat ∷ kind.Return ∷ kind.Throw ∷ kind.Try ∷ kind.Unreachable ∷ kind.Var ∷ kind.While ∷ kind.Getter ∷ kind.Setter ∷ []) = (by_f (seq_f tok_f (seq_f f_name (seq_f f_caught_type (seq_f tok_f f_block refl) refl) refl) refl)) in
    fit (kind.When ∷ []) (kind.Name ∷ kind.OpenParen ∷ kind.Minus ∷ kind.Assert ∷ kind.Case ∷ kind.For ∷ kind.If ∷ kind.Let ∷ kind.Pass ∷ kind.Print ∷ kind.PrintLine ∷ kind.Repeat ∷ kind.Return ∷ kind.Throw ∷ kind.Try ∷ kind.Unreachable ∷ kind.Var ∷ kind.While ∷ kind.Getter ∷ kind.Setter ∷ []) raw refl refl

f_catchers : Facts catchers true (kind.When ∷ []) (kind.Name ∷ kind.OpenParen ∷ kind.Minus ∷ kind.Assert ∷ kind.Case ∷ kind.For ∷ kind.If ∷ kind.Let ∷ kind.Pass ∷ kind.Print ∷ kind.PrintLine ∷ kind.Repeat ∷ kind.Return ∷ kind.Throw ∷ kind.Try ∷ kind.Unreachable ∷ kind.Var ∷ kind.When ∷ kind.While ∷ kind.Getter ∷ kind.Setter ∷ [])
unfolding catchers
f_catchers =
    let raw : Facts {A = List ReadCatcher} (many catcher) true (kind.When ∷ []) (kind.When ∷ kind.Name ∷ kind.OpenParen ∷ kind.Minus ∷ kind.Assert ∷ kind.Case ∷ kind.For ∷ kind.If ∷ kind.Let ∷ kind.Pass ∷ kind.Print ∷ kind.PrintLine ∷ kind.Repeat ∷ kind.Return ∷ kind.Throw ∷ kind.Try ∷ kind.Unreachable ∷ kind.Var ∷ kind.While ∷ kind.Getter ∷ kind.Setter ∷ []) = (many_f f_catcher refl) in
    fit (kind.When ∷ []) (kind.Name ∷ kind.OpenParen ∷ kind.Minus ∷ kind.Assert ∷ kind.Case ∷ kind.For ∷ kind.If ∷ kind.Let ∷ kind.Pass ∷ kind.Print ∷ kind.PrintLine ∷ kind.Repeat ∷ kind.Return ∷ kind.Throw ∷ kind.Try ∷ kind.Unreachable ∷ kind.Var ∷ kind.When ∷ kind.While ∷ kind.Getter ∷ kind.Setter ∷ []) raw refl refl

f_some_catchers : Facts some_catchers false (kind.When ∷ []) (kind.Name ∷ kind.OpenParen ∷ kind.Minus ∷ kind.Assert ∷ kind.Case ∷ kind.For ∷ kind.If ∷ kind.Let ∷ kind.Otherwise ∷ kind.Pass ∷ kind.Print ∷ kind.PrintLine ∷ kind.Repeat ∷ kind.Return ∷ kind.Throw ∷ kind.Try ∷ kind.Unreachable ∷ kind.Var ∷ kind.When ∷ kind.While ∷ kind.Getter ∷ kind.Setter ∷ [])
unfolding some_catchers
f_some_catchers =
    let raw : Facts {A = List ReadCatcher × ReadOtherwise} (by (λ r. (r.0 ∷ r.1.0, r.1.1)) (seq catcher (seq catchers maybe_otherwise))) false (kind.When ∷ []) (kind.Name ∷ kind.OpenParen ∷ kind.Minus ∷ kind.Assert ∷ kind.Case ∷ kind.For ∷ kind.If ∷ kind.Let ∷ kind.Otherwise ∷ kind.Pass ∷ kind.Print ∷ kind.PrintLine ∷ kind.Repeat ∷ kind.Return ∷ kind.Throw ∷ kind.Try ∷ kind.Unreachable ∷ kind.Var ∷ kind.When ∷ kind.While ∷ kind.Getter ∷ kind.Setter ∷ []) = (by_f (fit (kind.When ∷ []) (kind.Name ∷ kind.OpenParen ∷ kind.Minus ∷ kind.Assert ∷ kind.Case ∷ kind.For ∷ kind.If ∷ kind.Let ∷ kind.Otherwise ∷ kind.Pass ∷ kind.Print ∷ kind.PrintLine ∷ kind.Repeat ∷ kind.Return ∷ kind.Throw ∷ kind.Try ∷ kind.Unreachable ∷ kind.Var ∷ kind.When ∷ kind.While ∷ kind.Getter ∷ kind.Setter ∷ []) (seq_f f_catcher (seq_f f_catchers f_maybe_otherwise refl) refl) refl refl)) in
    fit (kind.When ∷ []) (kind.Name ∷ kind.OpenParen ∷ kind.Minus ∷ kind.Assert ∷ kind.Case ∷ kind.For ∷ kind.If ∷ kind.Let ∷ kind.Otherwise ∷ kind.Pass ∷ kind.Print ∷ kind.PrintLine ∷ kind.Repeat ∷ kind.Return ∷ kind.Throw ∷ kind.Try ∷ kind.Unreachable ∷ kind.Var ∷ kind.When ∷ kind.While ∷ kind.Getter ∷ kind.Setter ∷ []) raw refl refl

f_handlers : Facts handlers false (kind.Otherwise ∷ kind.When ∷ []) (kind.Name ∷ kind.OpenParen ∷ kind.Minus ∷ kind.Assert ∷ kind.Case ∷ kind.For ∷ kind.If ∷ kind.Let ∷ kind.Otherwise ∷ kind.Pass ∷ kind.Print ∷ kind.PrintLine ∷ kind.Repeat ∷ kind.Return ∷ kind.Throw ∷ kind.Try ∷ kind.Unreachable ∷ kind.Var ∷ kind.When ∷ kind.While ∷ kind.Getter ∷ kind.Setter ∷ [])
unfolding handlers
f_handlers =
    let raw : Facts {A = List ReadCatcher × ReadOtherwise} (either some_catchers (by no_catchers otherwise)) false (kind.When ∷ kind.Otherwise ∷ []) (kind.Name ∷ kind.OpenParen ∷ kind.Minus ∷ kind.Assert ∷ kind.Case ∷ kind.For ∷ kind.If ∷ kind.Let ∷ kind.Otherwise ∷ kind.Pass ∷ kind.Print ∷ kind.PrintLine ∷ kind.Repeat ∷ kind.Return ∷ kind.Throw ∷ kind.Try ∷ kind.Unreachable ∷ kind.Var ∷ kind.When ∷ kind.While ∷ kind.Getter ∷ kind.Setter ∷ kind.Name ∷ kind.OpenParen ∷ kind.Minus ∷ kind.Assert ∷ kind.Case ∷ kind.For ∷ kind.If ∷ kind.Let ∷ kind.Pass ∷ kind.Print ∷ kind.PrintLine ∷ kind.Repeat ∷ kind.Return ∷ kind.Throw ∷ kind.Try ∷ kind.Unreachable ∷ kind.Var ∷ kind.While ∷ kind.Getter ∷ kind.Setter ∷ []) = (either_f f_some_catchers (by_f f_otherwise) refl) in
    fit (kind.Otherwise ∷ kind.When ∷ []) (kind.Name ∷ kind.OpenParen ∷ kind.Minus ∷ kind.Assert ∷ kind.Case ∷ kind.For ∷ kind.If ∷ kind.Let ∷ kind.Otherwise ∷ kind.Pass ∷ kind.Print ∷ kind.PrintLine ∷ kind.Repeat ∷ kind.Return ∷ kind.Throw ∷ kind.Try ∷ kind.Unreachable ∷ kind.Var ∷ kind.When ∷ kind.While ∷ kind.Getter ∷ kind.Setter ∷ []) raw refl refl

f_try_body : Facts try_body false (kind.Name ∷ kind.OpenParen ∷ kind.Minus ∷ kind.Assert ∷ kind.Case ∷ kind.Catch ∷ kind.For ∷ kind.If ∷ kind.Let ∷ kind.Pass ∷ kind.Print ∷ kind.PrintLine ∷ kind.Repeat ∷ kind.Return ∷ kind.Throw ∷ kind.Try ∷ kind.Unreachable ∷ kind.Var ∷ kind.While ∷ kind.Getter ∷ kind.Setter ∷ []) []
unfolding try_body
f_try_body =
    let raw : Facts {A = List ReadStmt × List ReadCatcher × ReadOtherwise} (by (λ r. (r.0, r.1.1.0.0, r.1.1.0.1)) (seq block (seq (tok (kind.Catch ∷ [])) (seq handlers (seq (tok (kind.End ∷ [])) (tok (kind.Semicolon ∷ []))))))) false (kind.Name ∷ kind.OpenParen ∷ kind.Minus ∷ kind.Assert ∷ kind.Case ∷ kind.For ∷ kind.If ∷ kind.Let ∷ kind.Pass ∷ kind.Print ∷ kind.PrintLine ∷ kind.Repeat ∷ kind.Return ∷ kind.Throw ∷ kind.Try ∷ kind.Unreachable ∷ kind.Var ∷ kind.While ∷ kind.Getter ∷ kind.Setter ∷ kind.Catch ∷ []) [] = (by_f (seq_f f_block (seq_f tok_f (seq_f f_handlers (seq_f tok_f tok_f refl) refl) refl) refl)) in
    fit (kind.Name ∷ kind.OpenParen ∷ kind.Minus ∷ kind.Assert ∷ kind.Case ∷ kind.Catch ∷ kind.For ∷ kind.If ∷ kind.Let ∷ kind.Pass ∷ kind.Print ∷ kind.PrintLine ∷ kind.Repeat ∷ kind.Return ∷ kind.Throw ∷ kind.Try ∷ kind.Unreachable ∷ kind.Var ∷ kind.While ∷ kind.Getter ∷ kind.Setter ∷ []) [] raw refl refl

f_formal : Facts formal false (kind.Name ∷ kind.Getter ∷ kind.Setter ∷ []) (kind.OpenBrace ∷ [])
unfolding formal
f_formal =
    let raw : Facts {A = Formal} (by (λ r. record { name = r.0; ty = r.1.1 }) (seq name (seq (tok (kind.Colon ∷ [])) type_expression))) false (kind.Name ∷ kind.Getter ∷ kind.Setter ∷ []) (kind.OpenBrace ∷ []) = (by_f (seq_f f_name (seq_f tok_f f_type_expression refl) refl)) in
    fit (kind.Name ∷ kind.Getter ∷ kind.Setter ∷ []) (kind.OpenBrace ∷ []) raw refl refl

f_formal_list : Facts formal_list false (kind.Name ∷ kind.Getter ∷ kind.Setter ∷ []) (kind.OpenBrace ∷ kind.Comma ∷ [])
unfolding formal_list
f_formal_list =
    let raw : Facts {A = List Formal} (by (λ r. r.0 ∷ seconds r.1) (seq formal (many (seq (tok (kind.Comma ∷ [])) formal)))) false (kind.Name ∷ kind.Getter ∷ kind.Setter ∷ []) (kind.Comma ∷ kind.OpenBrace ∷ kind.OpenBrace ∷ []) = (by_f (seq_f f_formal (many_f (seq_f tok_f f_formal refl) refl) refl)) in
    fit (kind.Name ∷ kind.Getter ∷ kind.Setter ∷ []) (kind.OpenBrace ∷ kind.Comma ∷ []) raw refl refl

f_maybe_formals : Facts maybe_formals true (kind.Name ∷ kind.Getter ∷ kind.Setter ∷ []) (kind.Name ∷ kind.OpenBrace ∷ kind.Comma ∷ kind.Getter ∷ kind.Setter ∷ [])
unfolding maybe_formals
f_maybe_formals =
    let raw : Facts {A = List Formal} (by or_nil (opt formal_list)) true (kind.Name ∷ kind.Getter ∷ kind.Setter ∷ []) (kind.Name ∷ kind.Getter ∷ kind.Setter ∷ kind.OpenBrace ∷ kind.Comma ∷ []) = (by_f (opt_f f_formal_list)) in
    fit (kind.Name ∷ kind.Getter ∷ kind.Setter ∷ []) (kind.Name ∷ kind.OpenBrace ∷ kind.Comma ∷ kind.Getter ∷ kind.Setter ∷ []) raw refl refl

f_formals : Facts formals false (kind.OpenParen ∷ []) []
unfolding formals
f_formals =
    let raw : Facts {A = List Formal} (scope (by (λ r. r.1.0) (seq (opens (kind.OpenParen ∷ [])) (seq maybe_formals (tok (kind.CloseParen ∷ [])))))) false (kind.OpenParen ∷ []) [] = (scope_f (by_f (seq_f opens_f (seq_f f_maybe_formals tok_f refl) refl))) in
    fit (kind.OpenParen ∷ []) [] raw refl refl

f_param : Facts param false (kind.Name ∷ kind.Getter ∷ kind.Setter ∷ []) (kind.OpenBrace ∷ kind.Colon ∷ [])
unfolding param
f_param =
    let raw : Facts {A = Param} (by (λ r. record { name = r.0; ty = r.1 }) (seq name typed)) false (kind.Name ∷ kind.Getter ∷ kind.Setter ∷ []) (kind.OpenBrace ∷ kind.Colon ∷ []) = (by_f (seq_f f_name f_typed refl)) in
    fit (kind.Name ∷ kind.Getter ∷ kind.Setter ∷ []) (kind.OpenBrace ∷ kind.Colon ∷ []) raw refl refl

f_param_list : Facts param_list false (kind.Name ∷ kind.Getter ∷ kind.Setter ∷ []) (kind.OpenBrace ∷ kind.Comma ∷ kind.Colon ∷ [])
unfolding param_list
f_param_list =
    let raw : Facts {A = List Param} (by (λ r. r.0 ∷ seconds r.1) (seq param (many (seq (tok (kind.Comma ∷ [])) param)))) false (kind.Name ∷ kind.Getter ∷ kind.Setter ∷ []) (kind.Comma ∷ kind.OpenBrace ∷ kind.Colon ∷ kind.OpenBrace ∷ kind.Colon ∷ []) = (by_f (seq_f f_param (many_f (seq_f tok_f f_param refl) refl) refl)) in
    fit (kind.Name ∷ kind.Getter ∷ kind.Setter ∷ []) (kind.OpenBrace ∷ kind.Comma ∷ kind.Colon ∷ []) raw refl refl

f_maybe_param_list : Facts maybe_param_list true (kind.Name ∷ kind.Getter ∷ kind.Setter ∷ []) (kind.Name ∷ kind.OpenBrace ∷ kind.Comma ∷ kind.Colon ∷ kind.Getter ∷ kind.Setter ∷ [])
unfolding maybe_param_list
f_maybe_param_list =
    let raw : Facts {A = List Param} (by or_nil (opt param_list)) true (kind.Name ∷ kind.Getter ∷ kind.Setter ∷ []) (kind.Name ∷ kind.Getter ∷ kind.Setter ∷ kind.OpenBrace ∷ kind.Comma ∷ kind.Colon ∷ []) = (by_f (opt_f f_param_list)) in
    fit (kind.Name ∷ kind.Getter ∷ kind.Setter ∷ []) (kind.Name ∷ kind.OpenBrace ∷ kind.Comma ∷ kind.Colon ∷ kind.Getter ∷ kind.Setter ∷ []) raw refl refl

f_params : Facts params false (kind.OpenBrace ∷ []) []
unfolding params
f_params =
    let raw : Facts {A = List Param} (scope (by (λ r. r.1.0) (seq (opens (kind.OpenBrace ∷ [])) (seq maybe_param_list (tok (kind.CloseBrace ∷ [])))))) false (kind.OpenBrace ∷ []) [] = (scope_f (by_f (seq_f opens_f (seq_f f_maybe_param_list tok_f refl) refl))) in
    fit (kind.OpenBrace ∷ []) [] raw refl refl

f_maybe_params : Facts maybe_params true (kind.OpenBrace ∷ []) (kind.OpenBrace ∷ [])
unfolding maybe_params
f_maybe_params =
    let raw : Facts {A = List Param} (by or_nil (opt params)) true (kind.OpenBrace ∷ []) (kind.OpenBrace ∷ []) = (by_f (opt_f f_params)) in
    fit (kind.OpenBrace ∷ []) (kind.OpenBrace ∷ []) raw refl refl

f_label_list : Facts label_list false (kind.Name ∷ kind.Getter ∷ kind.Setter ∷ []) (kind.Name ∷ kind.Comma ∷ kind.Getter ∷ kind.Setter ∷ [])
unfolding label_list
f_label_list =
    let raw : Facts {A = List Ident} (by (λ r. r.0 ∷ seconds r.1.0) (seq name (trail (kind.Comma ∷ []) name))) false (kind.Name ∷ kind.Getter ∷ kind.Setter ∷ []) (kind.Comma ∷ kind.Name ∷ kind.Getter ∷ kind.Setter ∷ []) = (by_f (seq_f f_name (trail_f f_name refl) refl)) in
    fit (kind.Name ∷ kind.Getter ∷ kind.Setter ∷ []) (kind.Name ∷ kind.Comma ∷ kind.Getter ∷ kind.Setter ∷ []) raw refl refl

f_label_braces : Facts label_braces false (kind.OpenBrace ∷ []) []
unfolding label_braces
f_label_braces =
    let raw : Facts {A = List Ident} (scope (by (λ r. r.1.0) (seq (opens (kind.OpenBrace ∷ [])) (seq label_list (tok (kind.CloseBrace ∷ [])))))) false (kind.OpenBrace ∷ []) [] = (scope_f (by_f (seq_f opens_f (seq_f f_label_list tok_f refl) refl))) in
    fit (kind.OpenBrace ∷ []) [] raw refl refl

f_labels : Facts labels false (kind.Enumeration ∷ []) []
unfolding labels
f_labels =
    let raw : Facts {A = TypeDef} (by (λ r. td.Labels (whole r.1) r.0.1) (spanned (seq (tok (kind.Enumeration ∷ [])) label_braces))) false (kind.Enumeration ∷ []) [] = (by_f (spanned_f (seq_f tok_f f_label_braces refl))) in
    fit (kind.Enumeration ∷ []) [] raw refl refl

f_no_members : Facts no_members false (kind.Minus ∷ []) []
unfolding no_members
f_no_members =
    let raw : Facts {A = List Formal} (by (λ r. []) (tok (kind.Minus ∷ []))) false (kind.Minus ∷ []) [] = (by_f tok_f) in
    fit (kind.Minus ∷ []) [] raw refl refl

f_listed_members : Facts listed_members false (kind.Name ∷ kind.Getter ∷ kind.Setter ∷ []) (kind.Name ∷ kind.OpenBrace ∷ kind.Comma ∷ kind.Getter ∷ kind.Setter ∷ [])
unfolding listed_members
f_listed_members =
    let raw : Facts {A = List Formal} (by (λ r. r.0 ∷ seconds r.1.0) (seq formal (trail (kind.Comma ∷ []) formal))) false (kind.Name ∷ kind.Getter ∷ kind.Setter ∷ []) (kind.Comma ∷ kind.Name ∷ kind.Getter ∷ kind.Setter ∷ kind.OpenBrace ∷ kind.OpenBrace ∷ []) = (by_f (seq_f f_formal (trail_f f_formal refl) refl)) in
    fit (kind.Name ∷ kind.Getter ∷ kind.Setter ∷ []) (kind.Name ∷ kind.OpenBrace ∷ kind.Comma ∷ kind.Getter ∷ kind.Setter ∷ []) raw refl refl

f_some_members : Facts some_members false (kind.Name ∷ kind.Minus ∷ kind.Getter ∷ kind.Setter ∷ []) (kind.Name ∷ kind.OpenBrace ∷ kind.Comma ∷ kind.Getter ∷ kind.Setter ∷ [])
unfolding some_members
f_some_members =
    let raw : Facts {A = List Formal} (either no_members listed_members) false (kind.Minus ∷ kind.Name ∷ kind.Getter ∷ kind.Setter ∷ []) (kind.Name ∷ kind.OpenBrace ∷ kind.Comma ∷ kind.Getter ∷ kind.Setter ∷ []) = (either_f f_no_members f_listed_members refl) in
    fit (kind.Name ∷ kind.Minus ∷ kind.Getter ∷ kind.Setter ∷ []) (kind.Name ∷ kind.OpenBrace ∷ kind.Comma ∷ kind.Getter ∷ kind.Setter ∷ []) raw refl refl

f_maybe_some_members : Facts maybe_some_members true (kind.Name ∷ kind.Minus ∷ kind.Getter ∷ kind.Setter ∷ []) (kind.Name ∷ kind.OpenBrace ∷ kind.Comma ∷ kind.Minus ∷ kind.Getter ∷ kind.Setter ∷ [])
unfolding maybe_some_members
f_maybe_some_members =
    let raw : Facts {A = List Formal} (by or_nil (opt some_members)) true (kind.Name ∷ kind.Minus ∷ kind.Getter ∷ kind.Setter ∷ []) (kind.Name ∷ kind.Minus ∷ kind.Getter ∷ kind.Setter ∷ kind.Name ∷ kind.OpenBrace ∷ kind.Comma ∷ kind.Getter ∷ kind.Setter ∷ []) = (by_f (opt_f f_some_members)) in
    fit (kind.Name ∷ kind.Minus ∷ kind.Getter ∷ kind.Setter ∷ []) (kind.Name ∷ kind.OpenBrace ∷ kind.Comma ∷ kind.Minus ∷ kind.Getter ∷ kind.Setter ∷ []) raw refl refl

f_member_braces : Facts member_braces false (kind.OpenBrace ∷ []) []
unfolding member_braces
f_member_braces =
    let raw : Facts {A = List Formal} (scope (by (λ r. r.1.0) (seq (opens (kind.OpenBrace ∷ [])) (seq maybe_some_members (tok (kind.CloseBrace ∷ [])))))) false (kind.OpenBrace ∷ []) [] = (scope_f (by_f (seq_f opens_f (seq_f f_maybe_some_members tok_f refl) refl))) in
    fit (kind.OpenBrace ∷ []) [] raw refl refl

f_members : Facts members true (kind.OpenBrace ∷ []) (kind.OpenBrace ∷ [])
unfolding members
f_members =
    let raw : Facts {A = List Formal} (by or_nil (opt member_braces)) true (kind.OpenBrace ∷ []) (kind.OpenBrace ∷ []) = (by_f (opt_f f_member_braces)) in
    fit (kind.OpenBrace ∷ []) (kind.OpenBrace ∷ []) raw refl refl

f_record_type : Facts record_type false (kind.Record ∷ []) (kind.OpenBrace ∷ [])
unfolding record_type
f_record_type =
    let raw : Facts {A = TypeDef} (by (λ r. td.Record (whole r.1) r.0.1) (spanned (seq (tok (kind.Record ∷ [])) members))) false (kind.Record ∷ []) (kind.OpenBrace ∷ []) = (by_f (spanned_f (seq_f tok_f f_members refl))) in
    fit (kind.Record ∷ []) (kind.OpenBrace ∷ []) raw refl refl

f_exception_type : Facts exception_type false (kind.Exception ∷ []) (kind.OpenBrace ∷ [])
unfolding exception_type
f_exception_type =
    let raw : Facts {A = TypeDef} (by (λ r. td.Exception (whole r.1) r.0.1) (spanned (seq (tok (kind.Exception ∷ [])) members))) false (kind.Exception ∷ []) (kind.OpenBrace ∷ []) = (by_f (spanned_f (seq_f tok_f f_members refl))) in
    fit (kind.Exception ∷ []) (kind.OpenBrace ∷ []) raw refl refl

f_type_definition : Facts type_definition false (kind.Name ∷ kind.OpenParen ∷ kind.Array ∷ kind.Bit ∷ kind.Bits ∷ kind.Boolean ∷ kind.Enumeration ∷ kind.Exception ∷ kind.Integer ∷ kind.Record ∷ kind.Getter ∷ kind.Setter ∷ []) (kind.OpenBrace ∷ [])
unfolding type_definition
f_type_definition =
    let raw : Facts {A = TypeDef} (either (by td.Alias type_expression) (either labels (either record_type exception_type))) false (kind.Name ∷ kind.OpenParen ∷ kind.Array ∷ kind.Bit ∷ kind.Bits ∷ kind.Boolean ∷ kind.Integer ∷ kind.Getter ∷ kind.Setter ∷ kind.Enumeration ∷ kind.Record ∷ kind.Exception ∷ []) (kind.OpenBrace ∷ kind.OpenBrace ∷ kind.OpenBrace ∷ []) = (either_f (by_f f_type_expression) (either_f f_labels (either_f f_record_type f_exception_type refl) refl) refl) in
    fit (kind.Name ∷ kind.OpenParen ∷ kind.Array ∷ kind.Bit ∷ kind.Bits ∷ kind.Boolean ∷ kind.Enumeration ∷ kind.Exception ∷ kind.Integer ∷ kind.Record ∷ kind.Getter ∷ kind.Setter ∷ []) (kind.OpenBrace ∷ []) raw refl refl

f_supertype : Facts supertype true (kind.Subtypes ∷ []) (kind.Subtypes ∷ [])
unfolding supertype
f_supertype =
    let raw : Facts {A = Option Ident} (opt (by (λ r. r.1) (seq (tok (kind.Subtypes ∷ [])) name))) true (kind.Subtypes ∷ []) (kind.Subtypes ∷ []) = (opt_f (by_f (seq_f tok_f f_name refl))) in
    fit (kind.Subtypes ∷ []) (kind.Subtypes ∷ []) raw refl refl

f_type_decl : Facts type_decl false (kind.TypeWord ∷ []) []
unfolding type_decl
f_type_decl =
    let raw : Facts {A = ReadDecl} (by (λ r. rd.Type (record { span = (whole r.1); name = r.0.1.0; def = r.0.1.1.1.0; supertype = r.0.1.1.1.1.0 })) (spanned (seq (tok (kind.TypeWord ∷ [])) (seq name (seq (tok (kind.Of ∷ [])) (seq type_definition (seq supertype (tok (kind.Semicolon ∷ []))))))))) false (kind.TypeWord ∷ []) [] = (by_f (spanned_f (seq_f tok_f (seq_f f_name (seq_f tok_f (seq_f f_type_definition (seq_f f_supertype tok_f refl) refl) refl) refl) refl))) in
    fit (kind.TypeWord ∷ []) [] raw refl refl

f_fixed_kind : Facts fixed_kind false (kind.Constant ∷ kind.Let ∷ []) []
unfolding fixed_kind
f_fixed_kind =
    let raw : Facts {A = StorageKind} (either (by (λ r. sk.Constant) (tok (kind.Constant ∷ []))) (by (λ r. sk.Let) (tok (kind.Let ∷ [])))) false (kind.Constant ∷ kind.Let ∷ []) [] = (either_f (by_f tok_f) (by_f tok_f) refl) in
    fit (kind.Constant ∷ kind.Let ∷ []) [] raw refl refl

f_fixed_storage : Facts fixed_storage false (kind.Constant ∷ kind.Let ∷ []) []
unfolding fixed_storage
f_fixed_storage =
    let raw : Facts {A = ReadDecl} (by (λ r. rd.Storage (record { span = (whole r.1); kind = r.0.0; name = r.0.1.0; ty = r.0.1.1.0; init = Some r.0.1.1.1 })) (spanned (seq fixed_kind (seq name (seq typed value))))) false (kind.Constant ∷ kind.Let ∷ []) [] = (by_f (spanned_f (seq_f f_fixed_kind (seq_f f_name (seq_f f_typed f_value refl) refl) refl))) in
    fit (kind.Constant ∷ kind.Let ∷ []) [] raw refl refl

f_typed_var : Facts typed_var false (kind.Colon ∷ []) []
unfolding typed_var
f_typed_var =
    let raw : Facts {A = Option TypeExpr × Option Expr} (by (λ r. (Some r.1.0, r.1.1)) (seq (tok (kind.Colon ∷ [])) (seq type_expression maybe_value))) false (kind.Colon ∷ []) [] = (by_f (seq_f tok_f (seq_f f_type_expression f_maybe_value refl) refl)) in
    fit (kind.Colon ∷ []) [] raw refl refl

f_global_rest : Facts global_rest false (kind.Colon ∷ kind.Assign ∷ []) []
unfolding global_rest
f_global_rest =
    let raw : Facts {A = Option TypeExpr × Option Expr} (either typed_var (by untyped value)) false (kind.Colon ∷ kind.Assign ∷ []) [] = (either_f f_typed_var (by_f f_value) refl) in
    fit (kind.Colon ∷ kind.Assign ∷ []) [] raw refl refl

f_global_var : Facts global_var false (kind.Var ∷ []) []
unfolding global_var
f_global_var =
    let raw : Facts {A = ReadDecl} (by (λ r. rd.Storage (record { span = (whole r.1); kind = sk.Var; name = r.0.1.0; ty = r.0.1.1.0; init = r.0.1.1.1 })) (spanned (seq (tok (kind.Var ∷ [])) (seq name global_rest)))) false (kind.Var ∷ []) [] = (by_f (spanned_f (seq_f tok_f (seq_f f_name f_global_rest refl) refl))) in
    fit (kind.Var ∷ []) [] raw refl refl

f_result_type : Facts result_type true (kind.FatArrow ∷ []) (kind.OpenBrace ∷ kind.FatArrow ∷ [])
unfolding result_type
f_result_type =
    let raw : Facts {A = Option TypeExpr} (opt (by (λ r. r.1) (seq (tok (kind.FatArrow ∷ [])) type_expression))) true (kind.FatArrow ∷ []) (kind.FatArrow ∷ kind.OpenBrace ∷ []) = (opt_f (by_f (seq_f tok_f f_type_expression refl))) in
    fit (kind.FatArrow ∷ []) (kind.OpenBrace ∷ kind.FatArrow ∷ []) raw refl refl

f_recursion_limit : Facts recursion_limit true (kind.RecurseLimit ∷ []) (kind.OpenParen ∷ kind.OpenBracket ∷ kind.OpenBrace ∷ kind.Dot ∷ kind.ColonColon ∷ kind.Equal ∷ kind.NotEqual ∷ kind.AndAnd ∷ kind.OrOr ∷ kind.Implies ∷ kind.Iff ∷ kind.Less ∷ kind.LessEqual ∷ kind.ShiftLeft ∷ kind.Greater ∷ kind.GreaterEqual ∷ kind.ShiftRight ∷ kind.Plus ∷ kind.Minus ∷ kind.Star ∷ kind.Caret ∷ kind.BitAnd ∷ kind.Div ∷ kind.DivRm ∷ kind.In ∷ kind.Mod ∷ kind.BitOr ∷ kind.BitXor ∷ kind.As ∷ kind.RecurseLimit ∷ [])
unfolding recursion_limit
f_recursion_limit =
    let raw : Facts {A = Option Expr} (opt (by (λ r. r.1) (seq (tok (kind.RecurseLimit ∷ [])) expression))) true (kind.RecurseLimit ∷ []) (kind.RecurseLimit ∷ kind.OpenParen ∷ kind.OpenBracket ∷ kind.OpenBrace ∷ kind.Dot ∷ kind.ColonColon ∷ kind.Equal ∷ kind.NotEqual ∷ kind.AndAnd ∷ kind.OrOr ∷ kind.Implies ∷ kind.Iff ∷ kind.Less ∷ kind.LessEqual ∷ kind.ShiftLeft ∷ kind.Greater ∷ kind.GreaterEqual ∷ kind.ShiftRight ∷ kind.Plus ∷ kind.Minus ∷ kind.Star ∷ kind.Caret ∷ kind.BitAnd ∷ kind.Div ∷ kind.DivRm ∷ kind.In ∷ kind.Mod ∷ kind.BitOr ∷ kind.BitXor ∷ kind.As ∷ []) = (opt_f (by_f (seq_f tok_f f_expression refl))) in
    fit (kind.RecurseLimit ∷ []) (kind.OpenParen ∷ kind.OpenBracket ∷ kind.OpenBrace ∷ kind.Dot ∷ kind.ColonColon ∷ kind.Equal ∷ kind.NotEqual ∷ kind.AndAnd ∷ kind.OrOr ∷ kind.Implies ∷ kind.Iff ∷ kind.Less ∷ kind.LessEqual ∷ kind.ShiftLeft ∷ kind.Greater ∷ kind.GreaterEqual ∷ kind.ShiftRight ∷ kind.Plus ∷ kind.Minus ∷ kind.Star ∷ kind.Caret ∷ kind.BitAnd ∷ kind.Div ∷ kind.DivRm ∷ kind.In ∷ kind.Mod ∷ kind.BitOr ∷ kind.BitXor ∷ kind.As ∷ kind.RecurseLimit ∷ []) raw refl refl

f_written_qualifier : Facts written_qualifier false (kind.Pure ∷ kind.ReadOnly ∷ []) []
unfolding written_qualifier
f_written_qualifier =
    let raw : Facts {A = Qualifier} (either (by (λ r. ql.Pure) (tok (kind.Pure ∷ []))) (by (λ r. ql.Readonly) (tok (kind.ReadOnly ∷ [])))) false (kind.Pure ∷ kind.ReadOnly ∷ []) [] = (either_f (by_f tok_f) (by_f tok_f) refl) in
    fit (kind.Pure ∷ kind.ReadOnly ∷ []) [] raw refl refl

f_qualifier : Facts qualifier true (kind.Pure ∷ kind.ReadOnly ∷ []) (kind.Pure ∷ kind.ReadOnly ∷ [])
unfolding qualifier
f_qualifier =
    let raw : Facts {A = Qualifier} (by or_unqualified (opt written_qualifier)) true (kind.Pure ∷ kind.ReadOnly ∷ []) (kind.Pure ∷ kind.ReadOnly ∷ []) = (by_f (opt_f f_written_qualifier)) in
    fit (kind.Pure ∷ kind.ReadOnly ∷ []) (kind.Pure ∷ kind.ReadOnly ∷ []) raw refl refl

f_body_word : Facts body_word false (kind.ImpDef ∷ kind.Implementation ∷ []) []
unfolding body_word
f_body_word =
    let raw : Facts {A = BodyWord} (either (by (λ r. bw.ImpDef) (tok (kind.ImpDef ∷ []))) (by (λ r. bw.Implementation) (tok (kind.Implementation ∷ [])))) false (kind.ImpDef ∷ kind.Implementation ∷ []) [] = (either_f (by_f tok_f) (by_f tok_f) refl) in
    fit (kind.ImpDef ∷ kind.Implementation ∷ []) [] raw refl refl

f_maybe_body_word : Facts maybe_body_word true (kind.ImpDef ∷ kind.Implementation ∷ []) (kind.ImpDef ∷ kind.Implementation ∷ [])
unfolding maybe_body_word
f_maybe_body_word =
    let raw : Facts {A = BodyWord} (by or_no_word (opt body_word)) true (kind.ImpDef ∷ kind.Implementation ∷ []) (kind.ImpDef ∷ kind.Implementation ∷ []) = (by_f (opt_f f_body_word)) in
    fit (kind.ImpDef ∷ kind.Implementation ∷ []) (kind.ImpDef ∷ kind.Implementation ∷ []) raw refl refl

f_function : Facts function false (kind.Func ∷ kind.Pure ∷ kind.ReadOnly ∷ []) []
unfolding function
f_function =
    let raw : Facts {A = Bodied} (by (λ r. bo.Subprogram r.0 r.1.1.0 r.1.1.1.0 r.1.1.1.1.0 r.1.1.1.1.1.0 r.1.1.1.1.1.1.0 r.1.1.1.1.1.1.1.1.0) (seq qualifier (seq (tok (kind.Func ∷ [])) (seq name (seq maybe_params (seq formals (seq result_type (seq recursion_limit (seq (tok (kind.Begin ∷ [])) (seq block (seq (tok (kind.End ∷ [])) (tok (kind.Semicolon ∷ []))))))))))))) false (kind.Pure ∷ kind.ReadOnly ∷ kind.Func ∷ []) [] = (by_f (seq_f f_qualifier (seq_f tok_f (seq_f f_name (seq_f f_maybe_params (seq_f f_formals (seq_f f_result_type (seq_f f_recursion_limit (seq_f tok_f (seq_f f_block (seq_f tok_f tok_f refl) refl) refl) refl) refl) refl) refl) refl) refl) refl)) in
    fit (kind.Func ∷ kind.Pure ∷ kind.ReadOnly ∷ []) [] raw refl refl

f_getter : Facts getter false (kind.Pure ∷ kind.ReadOnly ∷ kind.Getter ∷ []) []
unfolding getter
f_getter =
    let raw : Facts {A = Qualifier × List ReadStmt} (by (λ r. (r.0, r.1.1.0)) (seq qualifier (seq (tok (kind.Getter ∷ [])) (seq block (seq (tok (kind.End ∷ [])) (tok (kind.Semicolon ∷ []))))))) false (kind.Pure ∷ kind.ReadOnly ∷ kind.Getter ∷ []) [] = (by_f (seq_f f_qualifier (seq_f tok_f (seq_f f_block (seq_f tok_f tok_f refl) refl) refl) refl)) in
    fit (kind.Pure ∷ kind.ReadOnly ∷ kind.Getter ∷ []) [] raw refl refl

f_setter : Facts setter false (kind.Setter ∷ []) []
unfolding setter
f_setter =
    let raw : Facts {A = List ReadStmt} (by (λ r. r.1.0) (seq (tok (kind.Setter ∷ [])) (seq block (seq (tok (kind.End ∷ [])) (tok (kind.Semicolon ∷ [])))))) false (kind.Setter ∷ []) [] = (by_f (seq_f tok_f (seq_f f_block (seq_f tok_f tok_f refl) refl) refl)) in
    fit (kind.Setter ∷ []) [] raw refl refl

f_accessor : Facts accessor false (kind.Accessor ∷ []) []
unfolding accessor
f_accessor =
    let raw : Facts {A = Bodied} (by (λ r. bo.Accessor r.1.0 r.1.1.0 r.1.1.1.0 r.1.1.1.1.1.0 r.1.1.1.1.1.1.1.0.0 r.1.1.1.1.1.1.1.0.1 r.1.1.1.1.1.1.1.1.0) (seq (tok (kind.Accessor ∷ [])) (seq name (seq maybe_params (seq formals (seq (tok (kind.Access ∷ [])) (seq formal (seq (tok (kind.Begin ∷ [])) (seq getter (seq setter (seq (tok (kind.End ∷ [])) (tok (kind.Semicolon ∷ []))))))))))))) false (kind.Accessor ∷ []) [] = (by_f (seq_f tok_f (seq_f f_name (seq_f f_maybe_params (seq_f f_formals (seq_f tok_f (seq_f f_formal (seq_f tok_f (seq_f f_getter (seq_f f_setter (seq_f tok_f tok_f refl) refl) refl) refl) refl) refl) refl) refl) refl) refl)) in
    fit (kind.Accessor ∷ []) [] raw refl refl

f_behind_word : Facts behind_word false (kind.Func ∷ kind.Pure ∷ kind.ReadOnly ∷ kind.Accessor ∷ []) []
unfolding behind_word
f_behind_word =
    let raw : Facts {A = Bodied} (either function accessor) false (kind.Func ∷ kind.Pure ∷ kind.ReadOnly ∷ kind.Accessor ∷ []) [] = (either_f f_function f_accessor refl) in
    fit (kind.Func ∷ kind.Pure ∷ kind.ReadOnly ∷ kind.Accessor ∷ []) [] raw refl refl

f_bodied : Facts bodied false (kind.Func ∷ kind.Pure ∷ kind.ReadOnly ∷ kind.Accessor ∷ kind.ImpDef ∷ kind.Implementation ∷ []) []
unfolding bodied
f_bodied =
    let raw : Facts {A = ReadDecl} (by (λ r. bodied_of (whole r.1) r.0.0 r.0.1) (spanned (seq maybe_body_word behind_word))) false (kind.ImpDef ∷ kind.Implementation ∷ kind.Func ∷ kind.Pure ∷ kind.ReadOnly ∷ kind.Accessor ∷ []) [] = (by_f (spanned_f (seq_f f_maybe_body_word f_behind_word refl))) in
    fit (kind.Func ∷ kind.Pure ∷ kind.ReadOnly ∷ kind.Accessor ∷ kind.ImpDef ∷ kind.Implementation ∷ []) [] raw refl refl

f_declaration : Facts declaration false (kind.Constant ∷ kind.Func ∷ kind.Let ∷ kind.Pure ∷ kind.ReadOnly ∷ kind.TypeWord ∷ kind.Var ∷ kind.Accessor ∷ kind.ImpDef ∷ kind.Implementation ∷ []) []
unfolding declaration
f_declaration =
    let raw : Facts {A = ReadDecl} (either type_decl (either fixed_storage (either global_var bodied))) false (kind.TypeWord ∷ kind.Constant ∷ kind.Let ∷ kind.Var ∷ kind.Func ∷ kind.Pure ∷ kind.ReadOnly ∷ kind.Accessor ∷ kind.ImpDef ∷ kind.Implementation ∷ []) [] = (either_f f_type_decl (either_f f_fixed_storage (either_f f_global_var f_bodied refl) refl) refl) in
    fit (kind.Constant ∷ kind.Func ∷ kind.Let ∷ kind.Pure ∷ kind.ReadOnly ∷ kind.TypeWord ∷ kind.Var ∷ kind.Accessor ∷ kind.ImpDef ∷ kind.Implementation ∷ []) [] raw refl refl

f_program : Facts program true (kind.Constant ∷ kind.Func ∷ kind.Let ∷ kind.Pure ∷ kind.ReadOnly ∷ kind.TypeWord ∷ kind.Var ∷ kind.Accessor ∷ kind.ImpDef ∷ kind.Implementation ∷ []) (kind.Constant ∷ kind.Func ∷ kind.Let ∷ kind.Pure ∷ kind.ReadOnly ∷ kind.TypeWord ∷ kind.Var ∷ kind.Accessor ∷ kind.ImpDef ∷ kind.Implementation ∷ [])
unfolding program
f_program =
    let raw : Facts {A = List ReadDecl} (many declaration) true (kind.Constant ∷ kind.Func ∷ kind.Let ∷ kind.Pure ∷ kind.ReadOnly ∷ kind.TypeWord ∷ kind.Var ∷ kind.Accessor ∷ kind.ImpDef ∷ kind.Implementation ∷ []) (kind.Constant ∷ kind.Func ∷ kind.Let ∷ kind.Pure ∷ kind.ReadOnly ∷ kind.TypeWord ∷ kind.Var ∷ kind.Accessor ∷ kind.ImpDef ∷ kind.Implementation ∷ []) = (many_f f_declaration refl) in
    fit (kind.Constant ∷ kind.Func ∷ kind.Let ∷ kind.Pure ∷ kind.ReadOnly ∷ kind.TypeWord ∷ kind.Var ∷ kind.Accessor ∷ kind.ImpDef ∷ kind.Implementation ∷ []) (kind.Constant ∷ kind.Func ∷ kind.Let ∷ kind.Pure ∷ kind.ReadOnly ∷ kind.TypeWord ∷ kind.Var ∷ kind.Accessor ∷ kind.ImpDef ∷ kind.Implementation ∷ []) raw refl refl

pub each : (s : Sym) → by_one after (rule s) ≡ true
each Parenthesized = f_parenthesized_in.ok
each Arguments = f_arguments_in.ok
each Braced = f_braced_in.ok
each Operand = f_unary.ok
each IfParts = f_if_parts.ok
each Bracketed = f_bracketed_in.ok
each Width = f_width_in.ok
each SetParts = f_set_parts.ok
each PatternParts = f_pattern_parts.ok
each ConstraintParts = f_constraint_parts.ok
each Bitfields = f_bitfields_in.ok
each TypeParts = f_type_parts.ok
each ArrayParts = f_array_parts.ok
each TargetParts = f_target_parts.ok
each IfBody = f_if_body.ok
each CaseBody = f_case_body.ok
each ForBody = f_for_body.ok
each WhileBody = f_while_body.ok
each RepeatBody = f_repeat_body.ok
each TryBody = f_try_body.ok
each Program = f_program.ok

pub covered : (s : Sym) → covers (after s) (cont after (rule s)) ≡ true
covered Parenthesized = covered_by (cont after parenthesized_in) [] f_parenthesized_in.conts
covered Arguments = covered_by (cont after arguments_in) [] f_arguments_in.conts
covered Braced = covered_by (cont after braced_in) [] f_braced_in.conts
covered Operand = covered_by (cont after unary) (kind.OpenParen ∷ kind.OpenBracket ∷ kind.OpenBrace ∷ kind.Dot ∷ kind.In ∷ []) f_unary.conts
covered IfParts = covered_by (cont after if_parts) (kind.OpenParen ∷ kind.OpenBracket ∷ kind.OpenBrace ∷ kind.Dot ∷ kind.ColonColon ∷ kind.Equal ∷ kind.NotEqual ∷ kind.AndAnd ∷ kind.OrOr ∷ kind.Implies ∷ kind.Iff ∷ kind.Less ∷ kind.LessEqual ∷ kind.ShiftLeft ∷ kind.Greater ∷ kind.GreaterEqual ∷ kind.ShiftRight ∷ kind.Plus ∷ kind.Minus ∷ kind.Star ∷ kind.Caret ∷ kind.BitAnd ∷ kind.Div ∷ kind.DivRm ∷ kind.In ∷ kind.Mod ∷ kind.BitOr ∷ kind.BitXor ∷ kind.As ∷ []) f_if_parts.conts
covered Bracketed = covered_by (cont after bracketed_in) [] f_bracketed_in.conts
covered Width = covered_by (cont after width_in) [] f_width_in.conts
covered SetParts = covered_by (cont after set_parts) [] f_set_parts.conts
covered PatternParts = covered_by (cont after pattern_parts) [] f_pattern_parts.conts
covered ConstraintParts = covered_by (cont after constraint_parts) [] f_constraint_parts.conts
covered Bitfields = covered_by (cont after bitfields_in) [] f_bitfields_in.conts
covered TypeParts = covered_by (cont after type_parts) [] f_type_parts.conts
covered ArrayParts = covered_by (cont after array_parts) (kind.OpenBrace ∷ []) f_array_parts.conts
covered TargetParts = covered_by (cont after target_parts) [] f_target_parts.conts
covered IfBody = covered_by (cont after if_body) [] f_if_body.conts
covered CaseBody = covered_by (cont after case_body) [] f_case_body.conts
covered ForBody = covered_by (cont after for_body) [] f_for_body.conts
covered WhileBody = covered_by (cont after while_body) [] f_while_body.conts
covered RepeatBody = covered_by (cont after repeat_body) [] f_repeat_body.conts
covered TryBody = covered_by (cont after try_body) [] f_try_body.conts
covered Program = covered_by (cont after program) (kind.Constant ∷ kind.Func ∷ kind.Let ∷ kind.Pure ∷ kind.ReadOnly ∷ kind.TypeWord ∷ kind.Var ∷ kind.Accessor ∷ kind.ImpDef ∷ kind.Implementation ∷ []) f_program.conts
