-- Each rule as the steps of the function that reads it.
-- Written by tools/grammar/generate.py from tools/grammar/table.py.
use Rattle.std.proofs.Common.{◌≡◌, ℕ, ◌⊎◌, inl, inr, List, [], ◌∷◌, length, Option, Some, None, Ok, refl}
use Rattle.asl_syn.specs.declared.tree.Expr.{Expr}
use Rattle.asl_syn.specs.declared.tree.PlacedSuffix.{PlacedSuffix}
use Rattle.asl_syn.specs.declared.tree.Target.{Target}
use Rattle.asl_syn.specs.declared.tree.Target.TheVariants as tg
use Rattle.asl_syn.specs.declared.tree.Binder.{Binder}
use Rattle.asl_syn.specs.declared.tree.Binder.TheVariants as bd
use Rattle.asl_syn.specs.declared.tree.Bind.TheVariants as bi
use Rattle.asl_syn.specs.declared.tree.PrintItem.TheVariants as pi
use Rattle.asl_syn.specs.declared.tree.TypeDef.TheVariants as td
use Rattle.asl_syn.specs.declared.tree.StorageKind.TheVariants as sk
use Rattle.asl_syn.specs.declared.tree.Qualifier.TheVariants as ql
use Rattle.asl_syn.specs.declared.tree.Direction.TheVariants as dr
use Rattle.asl_syn.specs.declared.tree.PrintKind.TheVariants as pk
use Rattle.asl_syn.specs.declared.read.ReadStmt.TheVariants as rs
use Rattle.asl_syn.specs.declared.read.BodyWord.TheVariants as bw
use Rattle.asl_grammar.specs.declared.parts.Bodied.TheVariants as bo
use Rattle.asl_syn.specs.declared.token.Span.{Span}
use Rattle.asl_grammar.specs.declared.kinds.Kind.TheVariants as kind
use Rattle.asl_grammar.specs.grammar.Cursor.{Cursor, starts, ahead, span_to}
use Rattle.asl_grammar.specs.grammar.Combinators.{tok, seq, either, by}
use Rattle.asl_grammar.specs.grammar.Reader.{bind, pick, run_tok, run_opens}
use Rattle.asl_grammar.specs.grammar.Build.{or_nil, behind, or_unqualified, name_statement_of, or_no_otherwise, no_catchers, untyped, or_no_word, VarRest, Untyped}
use Rattle.asl_grammar.specs.grammar.Rules.{TargetParts, IfBody, CaseBody, ForBody, WhileBody, RepeatBody, TryBody, name, integer_literal, bits_literal, boolean_literal, literal, parenthesized, arguments, named, post_literal, post_parenthesized, post_named, prefixed_by, unary, power, product, sum, comparison, equality, logic, integer_type, boolean_type, bit_type, named_type, bits_type, tuple_type, array_type, type_expression, as_chain, conditional, open_expression, expression, pass, unreachable, assert, bind_name, no_binder, binder, more_binders, two_binders, several, other_bind, local_bind, value, let_statement, names_typed, no_value, maybe_value, typed_value, var_rest, var_names, var_other, var_tail, var_statement, no_target, targets, other_target, assignment, return_statement, throw_statement, print_kind, verbatim, print_item, print_items, maybe_print_items, print_statement, simple_statement, parameters, maybe_parameters, call_arguments, call_ends, assigned, after_call, called, name_statement_rest, name_statement, if_statement, case_statement, for_statement, while_statement, repeat_statement, try_statement, statement, block, loop_limit, otherwise, maybe_otherwise, place, target, more_targets, two_targets, else_if, else_ifs, else_block, maybe_else, where_clause, alternative, alternatives, direction, for_body, caught_type, catcher, catchers, some_catchers, handlers, formal, formal_list, maybe_formals, formals, param, param_list, maybe_param_list, params, maybe_params, label_list, labels, no_members, listed_members, some_members, maybe_some_members, member_braces, members, record_type, exception_type, type_definition, supertype, type_decl, fixed_kind, fixed_storage, typed_var, global_rest, global_var, result_type, recursion_limit, written_qualifier, qualifier, body_word, maybe_body_word, function, getter, setter, accessor, behind_word, bodied, declaration, program}
use Rattle.asl_parse_expr.specs.private.Code.{reading, symbol, then, ending}
use Rattle.asl_parse_expr.proofs.Loops.{bind_bind, optional_as, optional_plain, choice_as, run_items, items_are, run_more, more_are, commas_are, run_listed, listed_are}

pub binder_is : (d : ℕ) (st : Cursor) → reading d binder st ≡ pick (starts (kind.Name ∷ kind.Getter ∷ kind.Setter ∷ []) st.toks) (bind (reading d name st) (λ x m. Ok ((bd.Bound x), m))) (reading d no_binder st)
unfolding binder name
binder_is d st = refl

pub more_binders_is : (d : ℕ) (found : List (Binder)) (st : Cursor) → then (behind found) (reading d more_binders st) ≡ run_more (reading d binder) (length st.toks) found st
unfolding more_binders then behind
more_binders_is d found st = more_are d binder found st

pub two_binders_is : (d : ℕ) (st : Cursor) → reading d two_binders st ≡ bind (reading d binder st) (λ x m. bind (run_tok (kind.Comma ∷ []) m m.toks) (λ t m1. bind (reading d binder m1) (λ x1 m2. then (behind (x ∷ x1 ∷ [])) (reading d more_binders m2))))
unfolding two_binders then
two_binders_is d st = simp bind_bind

pub other_bind_is : (d : ℕ) (st : Cursor) → reading d other_bind st ≡ pick (starts (kind.Minus ∷ []) st.toks) (bind (reading d no_binder st) (λ x m. Ok ((bi.Single x), m))) (reading d several st)
unfolding other_bind no_binder
other_bind_is d st = refl

pub local_bind_is : (d : ℕ) (st : Cursor) → reading d local_bind st ≡ pick (starts (kind.Name ∷ kind.Getter ∷ kind.Setter ∷ []) st.toks) (reading d bind_name st) (reading d other_bind st)
unfolding local_bind bind_name name
local_bind_is d st = refl

pub maybe_value_is : (d : ℕ) (st : Cursor) → reading d maybe_value st ≡ pick (starts (kind.Semicolon ∷ []) st.toks) (reading d no_value st) (bind (reading d value st) (λ x m. Ok ((Some x), m)))
unfolding maybe_value no_value
maybe_value_is d st = refl

pub var_rest_is : {B : Type 0} (d : ℕ) (f : VarRest → B) (st : Cursor) → then f (reading d var_rest st) ≡ pick (starts (kind.Comma ∷ []) st.toks) (bind (reading d names_typed st) (λ x m. Ok (f x, m))) (pick (starts (kind.Colon ∷ []) st.toks) (bind (reading d typed_value st) (λ x m. Ok (f x, m))) (bind (reading d value st) (λ x m. Ok (f (Untyped x), m))))
unfolding var_rest names_typed typed_value then
var_rest_is d f st = choice_as d names_typed (either typed_value (by Untyped value)) st (λ x end. Ok (f x, end)) (bind (reading d names_typed st) (λ x m. Ok (f x, m))) (pick (starts (kind.Colon ∷ []) st.toks) (bind (reading d typed_value st) (λ x m. Ok (f x, m))) (bind (reading d value st) (λ x m. Ok (f (Untyped x), m)))) (refl) (choice_as d typed_value (by Untyped value) st (λ x end. Ok (f x, end)) (bind (reading d typed_value st) (λ x m. Ok (f x, m))) (bind (reading d value st) (λ x m. Ok (f (Untyped x), m))) (refl) (simp bind_bind))

pub var_tail_is : (d : ℕ) (st : Cursor) → reading d var_tail st ≡ pick (starts (kind.Name ∷ kind.Getter ∷ kind.Setter ∷ []) st.toks) (reading d var_names st) (reading d var_other st)
unfolding var_tail var_names name
var_tail_is d st = refl

pub targets_is : (d : ℕ) (st : Cursor) → reading d targets st ≡ bind (run_opens (kind.OpenParen ∷ []) st.left st.toks) (λ t m. bind (symbol d TargetParts m) (λ x m1. Ok ((tg.Targets (span_to (ahead st.toks) m1.last) x), (record m1 { left = st.left }))))
unfolding targets
targets_is d st = simp bind_bind

pub other_target_is : (d : ℕ) (st : Cursor) → reading d other_target st ≡ pick (starts (kind.Minus ∷ []) st.toks) (reading d no_target st) (reading d targets st)
unfolding other_target no_target
other_target_is d st = refl

pub print_kind_is : (d : ℕ) (st : Cursor) → reading d print_kind st ≡ pick (starts (kind.Print ∷ []) st.toks) (bind (run_tok (kind.Print ∷ []) st st.toks) (λ t m. Ok (pk.Print, m))) (bind (run_tok (kind.PrintLine ∷ []) st st.toks) (λ t m. Ok (pk.PrintLine, m)))
unfolding print_kind
print_kind_is d st = refl

pub print_item_is : (d : ℕ) (st : Cursor) → reading d print_item st ≡ pick (starts (kind.StringLiteral ∷ []) st.toks) (reading d verbatim st) (bind (reading d expression st) (λ x m. Ok ((pi.Shown x), m)))
unfolding print_item verbatim
print_item_is d st = refl

pub print_items_is : (d : ℕ) (st : Cursor) → reading d print_items st ≡ bind (reading d print_item st) (λ x mid. run_more (reading d print_item) (length mid.toks) (x ∷ []) mid)
unfolding print_items
print_items_is d st = commas_are d print_item st

pub maybe_print_items_is : (d : ℕ) (st : Cursor) → reading d maybe_print_items st ≡ pick (starts (kind.StringLiteral ∷ kind.If ∷ kind.Minus ∷ kind.Bang ∷ kind.Not ∷ kind.IntegerLiteral ∷ kind.BitsLiteral ∷ kind.True ∷ kind.False ∷ kind.OpenParen ∷ kind.Name ∷ kind.Getter ∷ kind.Setter ∷ []) st.toks) (bind (reading d print_items st) (λ x m. Ok ((or_nil (Some x)), m))) (Ok ((or_nil None), st))
unfolding maybe_print_items print_items print_item verbatim expression open_expression conditional as_chain logic equality comparison sum product power unary prefixed_by post_literal literal integer_literal bits_literal boolean_literal post_parenthesized parenthesized post_named named name
maybe_print_items_is d st = optional_as d print_items st (λ x end. Ok ((or_nil) x, end)) (bind (reading d print_items st) (λ x m. Ok ((or_nil (Some x)), m))) (refl)

pub simple_statement_is : (d : ℕ) (st : Cursor) → reading d simple_statement st ≡ pick (starts (kind.Pass ∷ []) st.toks) (reading d pass st) (pick (starts (kind.Unreachable ∷ []) st.toks) (reading d unreachable st) (pick (starts (kind.Assert ∷ []) st.toks) (reading d assert st) (pick (starts (kind.Let ∷ []) st.toks) (reading d let_statement st) (pick (starts (kind.Var ∷ []) st.toks) (reading d var_statement st) (pick (starts (kind.Minus ∷ kind.OpenParen ∷ []) st.toks) (reading d assignment st) (pick (starts (kind.Return ∷ []) st.toks) (reading d return_statement st) (pick (starts (kind.Throw ∷ []) st.toks) (reading d throw_statement st) (reading d print_statement st))))))))
unfolding simple_statement pass unreachable assert let_statement var_statement assignment other_target no_target targets return_statement throw_statement
simple_statement_is d st = refl

pub maybe_parameters_is : (d : ℕ) (st : Cursor) → reading d maybe_parameters st ≡ pick (starts (kind.OpenBrace ∷ []) st.toks) (bind (reading d parameters st) (λ x m. Ok ((or_nil (Some x)), m))) (Ok ((or_nil None), st))
unfolding maybe_parameters parameters
maybe_parameters_is d st = optional_as d parameters st (λ x end. Ok ((or_nil) x, end)) (bind (reading d parameters st) (λ x m. Ok ((or_nil (Some x)), m))) (refl)

pub after_call_is : (d : ℕ) (st : Cursor) → reading d after_call st ≡ pick (starts (kind.Semicolon ∷ []) st.toks) (reading d call_ends st) (bind (reading d assigned st) (λ x m. Ok ((Some x), m)))
unfolding after_call call_ends
after_call_is d st = refl

pub name_statement_rest_ends : {B : Type 0} (d : ℕ) (from : Span) (f : Span → (((List Expr × List Expr) × Option (List PlacedSuffix × Expr)) ⊎ (List PlacedSuffix × Expr)) → B) (st : Cursor) → ending from f (reading d name_statement_rest st) ≡ pick (starts (kind.OpenBrace ∷ kind.OpenParen ∷ []) st.toks) (bind (reading d called st) (λ x m. Ok (f (span_to from m.last) (inl x), m))) (bind (reading d assigned st) (λ x m. Ok (f (span_to from m.last) (inr x), m)))
unfolding name_statement_rest called call_arguments maybe_parameters parameters arguments ending
name_statement_rest_ends d from f st = choice_as d (by inl called) (by inr assigned) st (λ x end. Ok (f (span_to from end.last) x, end)) (bind (reading d called st) (λ x m. Ok (f (span_to from m.last) (inl x), m))) (bind (reading d assigned st) (λ x m. Ok (f (span_to from m.last) (inr x), m))) (simp bind_bind) (simp bind_bind)

pub name_statement_is : (d : ℕ) (st : Cursor) → reading d name_statement st ≡ bind (reading d name st) (λ x m. ending (ahead st.toks) (name_statement_of x) (reading d name_statement_rest m))
unfolding name_statement ending
name_statement_is d st = simp bind_bind

pub if_statement_is : (d : ℕ) (st : Cursor) → reading d if_statement st ≡ bind (run_opens (kind.If ∷ []) st.left st.toks) (λ t m. bind (symbol d IfBody m) (λ x m1. Ok ((rs.If (span_to (ahead st.toks) m1.last) x.0 x.1 x.2 x.3), (record m1 { left = st.left }))))
unfolding if_statement
if_statement_is d st = simp bind_bind

pub case_statement_is : (d : ℕ) (st : Cursor) → reading d case_statement st ≡ bind (run_opens (kind.Case ∷ []) st.left st.toks) (λ t m. bind (symbol d CaseBody m) (λ x m1. Ok ((rs.Case (span_to (ahead st.toks) m1.last) x.0 x.1 x.2), (record m1 { left = st.left }))))
unfolding case_statement
case_statement_is d st = simp bind_bind

pub for_statement_is : (d : ℕ) (st : Cursor) → reading d for_statement st ≡ bind (run_opens (kind.For ∷ []) st.left st.toks) (λ t m. bind (symbol d ForBody m) (λ x m1. Ok ((rs.For (span_to (ahead st.toks) m1.last) x.0 x.1 x.2 x.3 x.4 x.5), (record m1 { left = st.left }))))
unfolding for_statement
for_statement_is d st = simp bind_bind

pub while_statement_is : (d : ℕ) (st : Cursor) → reading d while_statement st ≡ bind (run_opens (kind.While ∷ []) st.left st.toks) (λ t m. bind (symbol d WhileBody m) (λ x m1. Ok ((rs.While (span_to (ahead st.toks) m1.last) x.0 x.1 x.2), (record m1 { left = st.left }))))
unfolding while_statement
while_statement_is d st = simp bind_bind

pub repeat_statement_is : (d : ℕ) (st : Cursor) → reading d repeat_statement st ≡ bind (run_opens (kind.Repeat ∷ []) st.left st.toks) (λ t m. bind (symbol d RepeatBody m) (λ x m1. Ok ((rs.Repeat (span_to (ahead st.toks) m1.last) x.0 x.1 x.2), (record m1 { left = st.left }))))
unfolding repeat_statement
repeat_statement_is d st = simp bind_bind

pub try_statement_is : (d : ℕ) (st : Cursor) → reading d try_statement st ≡ bind (run_opens (kind.Try ∷ []) st.left st.toks) (λ t m. bind (symbol d TryBody m) (λ x m1. Ok ((rs.Try (span_to (ahead st.toks) m1.last) x.0 x.1 x.2), (record m1 { left = st.left }))))
unfolding try_statement
try_statement_is d st = simp bind_bind

pub statement_is : (d : ℕ) (st : Cursor) → reading d statement st ≡ pick (starts (kind.Pass ∷ kind.Unreachable ∷ kind.Assert ∷ kind.Let ∷ kind.Var ∷ kind.Minus ∷ kind.OpenParen ∷ kind.Return ∷ kind.Throw ∷ kind.Print ∷ kind.PrintLine ∷ []) st.toks) (bind (reading d simple_statement st) (λ x m. Ok ((rs.Simple x), m))) (pick (starts (kind.Name ∷ kind.Getter ∷ kind.Setter ∷ []) st.toks) (reading d name_statement st) (pick (starts (kind.If ∷ []) st.toks) (reading d if_statement st) (pick (starts (kind.Case ∷ []) st.toks) (reading d case_statement st) (pick (starts (kind.For ∷ []) st.toks) (reading d for_statement st) (pick (starts (kind.While ∷ []) st.toks) (reading d while_statement st) (pick (starts (kind.Repeat ∷ []) st.toks) (reading d repeat_statement st) (reading d try_statement st)))))))
unfolding statement simple_statement pass unreachable assert let_statement var_statement assignment other_target no_target targets return_statement throw_statement print_statement print_kind name_statement name if_statement case_statement for_statement while_statement repeat_statement
statement_is d st = refl

pub block_is : (d : ℕ) (st : Cursor) → reading d block st ≡ run_items (reading d statement) (kind.Pass ∷ kind.Unreachable ∷ kind.Assert ∷ kind.Let ∷ kind.Var ∷ kind.Minus ∷ kind.OpenParen ∷ kind.Return ∷ kind.Throw ∷ kind.Print ∷ kind.PrintLine ∷ kind.Name ∷ kind.Getter ∷ kind.Setter ∷ kind.If ∷ kind.Case ∷ kind.For ∷ kind.While ∷ kind.Repeat ∷ kind.Try ∷ []) (length st.toks) [] st
unfolding block statement simple_statement pass unreachable assert let_statement var_statement assignment other_target no_target targets return_statement throw_statement print_statement print_kind name_statement name if_statement case_statement for_statement while_statement repeat_statement try_statement
block_is d st = items_are d statement st

pub loop_limit_is : (d : ℕ) (st : Cursor) → reading d loop_limit st ≡ pick (starts (kind.LoopLimit ∷ []) st.toks) (bind (run_tok (kind.LoopLimit ∷ []) st st.toks) (λ t m. bind (reading d expression m) (λ x m1. Ok ((Some x), m1)))) (Ok (None, st))
unfolding loop_limit
loop_limit_is d st = optional_plain d (by (λ r. r.1) (seq (tok (kind.LoopLimit ∷ [])) expression)) st (bind (run_tok (kind.LoopLimit ∷ []) st st.toks) (λ t m. bind (reading d expression m) (λ x m1. Ok ((Some x), m1)))) (simp bind_bind)

pub maybe_otherwise_is : (d : ℕ) (st : Cursor) → reading d maybe_otherwise st ≡ pick (starts (kind.Otherwise ∷ []) st.toks) (bind (reading d otherwise st) (λ x m. Ok ((or_no_otherwise (Some x)), m))) (Ok ((or_no_otherwise None), st))
unfolding maybe_otherwise otherwise
maybe_otherwise_is d st = optional_as d otherwise st (λ x end. Ok ((or_no_otherwise) x, end)) (bind (reading d otherwise st) (λ x m. Ok ((or_no_otherwise (Some x)), m))) (refl)

pub target_is : (d : ℕ) (st : Cursor) → reading d target st ≡ pick (starts (kind.Minus ∷ []) st.toks) (reading d no_target st) (pick (starts (kind.Name ∷ kind.Getter ∷ kind.Setter ∷ []) st.toks) (reading d place st) (reading d targets st))
unfolding target no_target place name
target_is d st = refl

pub more_targets_is : (d : ℕ) (found : List (Target)) (st : Cursor) → then (behind found) (reading d more_targets st) ≡ run_more (reading d target) (length st.toks) found st
unfolding more_targets then behind
more_targets_is d found st = more_are d target found st

pub two_targets_is : (d : ℕ) (st : Cursor) → reading d two_targets st ≡ bind (reading d target st) (λ x m. bind (run_tok (kind.Comma ∷ []) m m.toks) (λ t m1. bind (reading d target m1) (λ x1 m2. then (behind (x ∷ x1 ∷ [])) (reading d more_targets m2))))
unfolding two_targets then
two_targets_is d st = simp bind_bind

pub else_ifs_is : (d : ℕ) (st : Cursor) → reading d else_ifs st ≡ run_items (reading d else_if) (kind.ElsIf ∷ []) (length st.toks) [] st
unfolding else_ifs else_if
else_ifs_is d st = items_are d else_if st

pub maybe_else_is : (d : ℕ) (st : Cursor) → reading d maybe_else st ≡ pick (starts (kind.Else ∷ []) st.toks) (bind (reading d else_block st) (λ x m. Ok ((or_nil (Some x)), m))) (Ok ((or_nil None), st))
unfolding maybe_else else_block
maybe_else_is d st = optional_as d else_block st (λ x end. Ok ((or_nil) x, end)) (bind (reading d else_block st) (λ x m. Ok ((or_nil (Some x)), m))) (refl)

pub where_clause_is : (d : ℕ) (st : Cursor) → reading d where_clause st ≡ pick (starts (kind.Where ∷ []) st.toks) (bind (run_tok (kind.Where ∷ []) st st.toks) (λ t m. bind (reading d expression m) (λ x m1. Ok ((Some x), m1)))) (Ok (None, st))
unfolding where_clause
where_clause_is d st = optional_plain d (by (λ r. r.1) (seq (tok (kind.Where ∷ [])) expression)) st (bind (run_tok (kind.Where ∷ []) st st.toks) (λ t m. bind (reading d expression m) (λ x m1. Ok ((Some x), m1)))) (simp bind_bind)

pub alternatives_is : (d : ℕ) (st : Cursor) → reading d alternatives st ≡ run_items (reading d alternative) (kind.When ∷ []) (length st.toks) [] st
unfolding alternatives alternative
alternatives_is d st = items_are d alternative st

pub direction_is : (d : ℕ) (st : Cursor) → reading d direction st ≡ pick (starts (kind.To ∷ []) st.toks) (bind (run_tok (kind.To ∷ []) st st.toks) (λ t m. Ok (dr.Up, m))) (bind (run_tok (kind.DownTo ∷ []) st st.toks) (λ t m. Ok (dr.Down, m)))
unfolding direction
direction_is d st = refl

pub for_body_is : (d : ℕ) (st : Cursor) → reading d for_body st ≡ bind (reading d name st) (λ x m. bind (run_tok (kind.Assign ∷ []) m m.toks) (λ t m1. bind (reading d expression m1) (λ x1 m2. bind (reading d direction m2) (λ x2 m3. bind (reading d expression m3) (λ x3 m4. bind (reading d loop_limit m4) (λ x4 m5. bind (run_tok (kind.Do ∷ []) m5 m5.toks) (λ t1 m6. bind (reading d block m6) (λ x5 m7. bind (run_tok (kind.End ∷ []) m7 m7.toks) (λ t2 m8. bind (run_tok (kind.Semicolon ∷ []) m8 m8.toks) (λ t3 m9. Ok ((x, x1, x2, x3, x4, x5), m9)))))))))))
unfolding for_body
for_body_is d st = simp bind_bind

pub caught_type_is : (d : ℕ) (st : Cursor) → reading d caught_type st ≡ pick (starts (kind.Colon ∷ []) st.toks) (bind (run_tok (kind.Colon ∷ []) st st.toks) (λ t m. bind (reading d name m) (λ x m1. Ok ((Some x), m1)))) (Ok (None, st))
unfolding caught_type
caught_type_is d st = optional_plain d (by (λ r. r.1) (seq (tok (kind.Colon ∷ [])) name)) st (bind (run_tok (kind.Colon ∷ []) st st.toks) (λ t m. bind (reading d name m) (λ x m1. Ok ((Some x), m1)))) (simp bind_bind)

pub catchers_is : (d : ℕ) (st : Cursor) → reading d catchers st ≡ run_items (reading d catcher) (kind.When ∷ []) (length st.toks) [] st
unfolding catchers catcher
catchers_is d st = items_are d catcher st

pub handlers_is : (d : ℕ) (st : Cursor) → reading d handlers st ≡ pick (starts (kind.When ∷ []) st.toks) (reading d some_catchers st) (bind (reading d otherwise st) (λ x m. Ok ((no_catchers x), m)))
unfolding handlers some_catchers catcher
handlers_is d st = refl

pub formal_list_is : (d : ℕ) (st : Cursor) → reading d formal_list st ≡ bind (reading d formal st) (λ x mid. run_more (reading d formal) (length mid.toks) (x ∷ []) mid)
unfolding formal_list
formal_list_is d st = commas_are d formal st

pub maybe_formals_is : (d : ℕ) (st : Cursor) → reading d maybe_formals st ≡ pick (starts (kind.Name ∷ kind.Getter ∷ kind.Setter ∷ []) st.toks) (bind (reading d formal_list st) (λ x m. Ok ((or_nil (Some x)), m))) (Ok ((or_nil None), st))
unfolding maybe_formals formal_list formal name
maybe_formals_is d st = optional_as d formal_list st (λ x end. Ok ((or_nil) x, end)) (bind (reading d formal_list st) (λ x m. Ok ((or_nil (Some x)), m))) (refl)

pub param_list_is : (d : ℕ) (st : Cursor) → reading d param_list st ≡ bind (reading d param st) (λ x mid. run_more (reading d param) (length mid.toks) (x ∷ []) mid)
unfolding param_list
param_list_is d st = commas_are d param st

pub maybe_param_list_is : (d : ℕ) (st : Cursor) → reading d maybe_param_list st ≡ pick (starts (kind.Name ∷ kind.Getter ∷ kind.Setter ∷ []) st.toks) (bind (reading d param_list st) (λ x m. Ok ((or_nil (Some x)), m))) (Ok ((or_nil None), st))
unfolding maybe_param_list param_list param name
maybe_param_list_is d st = optional_as d param_list st (λ x end. Ok ((or_nil) x, end)) (bind (reading d param_list st) (λ x m. Ok ((or_nil (Some x)), m))) (refl)

pub maybe_params_is : (d : ℕ) (st : Cursor) → reading d maybe_params st ≡ pick (starts (kind.OpenBrace ∷ []) st.toks) (bind (reading d params st) (λ x m. Ok ((or_nil (Some x)), m))) (Ok ((or_nil None), st))
unfolding maybe_params params
maybe_params_is d st = optional_as d params st (λ x end. Ok ((or_nil) x, end)) (bind (reading d params st) (λ x m. Ok ((or_nil (Some x)), m))) (refl)

pub label_list_is : (d : ℕ) (st : Cursor) → reading d label_list st ≡ bind (reading d name st) (λ x mid. run_listed (reading d name) (kind.Comma ∷ []) (kind.Name ∷ kind.Getter ∷ kind.Setter ∷ []) (length mid.toks) (x ∷ []) mid)
unfolding label_list name
label_list_is d st = listed_are d name (kind.Comma ∷ []) st

pub listed_members_is : (d : ℕ) (st : Cursor) → reading d listed_members st ≡ bind (reading d formal st) (λ x mid. run_listed (reading d formal) (kind.Comma ∷ []) (kind.Name ∷ kind.Getter ∷ kind.Setter ∷ []) (length mid.toks) (x ∷ []) mid)
unfolding listed_members formal name
listed_members_is d st = listed_are d formal (kind.Comma ∷ []) st

pub maybe_some_members_is : (d : ℕ) (st : Cursor) → reading d maybe_some_members st ≡ pick (starts (kind.Minus ∷ kind.Name ∷ kind.Getter ∷ kind.Setter ∷ []) st.toks) (bind (reading d some_members st) (λ x m. Ok ((or_nil (Some x)), m))) (Ok ((or_nil None), st))
unfolding maybe_some_members some_members no_members listed_members formal name
maybe_some_members_is d st = optional_as d some_members st (λ x end. Ok ((or_nil) x, end)) (bind (reading d some_members st) (λ x m. Ok ((or_nil (Some x)), m))) (refl)

pub members_is : (d : ℕ) (st : Cursor) → reading d members st ≡ pick (starts (kind.OpenBrace ∷ []) st.toks) (bind (reading d member_braces st) (λ x m. Ok ((or_nil (Some x)), m))) (Ok ((or_nil None), st))
unfolding members member_braces
members_is d st = optional_as d member_braces st (λ x end. Ok ((or_nil) x, end)) (bind (reading d member_braces st) (λ x m. Ok ((or_nil (Some x)), m))) (refl)

pub type_definition_is : (d : ℕ) (st : Cursor) → reading d type_definition st ≡ pick (starts (kind.Integer ∷ kind.Boolean ∷ kind.Bit ∷ kind.Name ∷ kind.Getter ∷ kind.Setter ∷ kind.Bits ∷ kind.OpenParen ∷ kind.Array ∷ []) st.toks) (bind (reading d type_expression st) (λ x m. Ok ((td.Alias x), m))) (pick (starts (kind.Enumeration ∷ []) st.toks) (reading d labels st) (pick (starts (kind.Record ∷ []) st.toks) (reading d record_type st) (reading d exception_type st)))
unfolding type_definition type_expression integer_type boolean_type bit_type named_type bits_type tuple_type array_type labels record_type
type_definition_is d st = refl

pub supertype_is : (d : ℕ) (st : Cursor) → reading d supertype st ≡ pick (starts (kind.Subtypes ∷ []) st.toks) (bind (run_tok (kind.Subtypes ∷ []) st st.toks) (λ t m. bind (reading d name m) (λ x m1. Ok ((Some x), m1)))) (Ok (None, st))
unfolding supertype
supertype_is d st = optional_plain d (by (λ r. r.1) (seq (tok (kind.Subtypes ∷ [])) name)) st (bind (run_tok (kind.Subtypes ∷ []) st st.toks) (λ t m. bind (reading d name m) (λ x m1. Ok ((Some x), m1)))) (simp bind_bind)

pub fixed_kind_is : (d : ℕ) (st : Cursor) → reading d fixed_kind st ≡ pick (starts (kind.Constant ∷ []) st.toks) (bind (run_tok (kind.Constant ∷ []) st st.toks) (λ t m. Ok (sk.Constant, m))) (bind (run_tok (kind.Let ∷ []) st st.toks) (λ t m. Ok (sk.Let, m)))
unfolding fixed_kind
fixed_kind_is d st = refl

pub global_rest_is : (d : ℕ) (st : Cursor) → reading d global_rest st ≡ pick (starts (kind.Colon ∷ []) st.toks) (reading d typed_var st) (bind (reading d value st) (λ x m. Ok ((untyped x), m)))
unfolding global_rest typed_var
global_rest_is d st = refl

pub result_type_is : (d : ℕ) (st : Cursor) → reading d result_type st ≡ pick (starts (kind.FatArrow ∷ []) st.toks) (bind (run_tok (kind.FatArrow ∷ []) st st.toks) (λ t m. bind (reading d type_expression m) (λ x m1. Ok ((Some x), m1)))) (Ok (None, st))
unfolding result_type
result_type_is d st = optional_plain d (by (λ r. r.1) (seq (tok (kind.FatArrow ∷ [])) type_expression)) st (bind (run_tok (kind.FatArrow ∷ []) st st.toks) (λ t m. bind (reading d type_expression m) (λ x m1. Ok ((Some x), m1)))) (simp bind_bind)

pub recursion_limit_is : (d : ℕ) (st : Cursor) → reading d recursion_limit st ≡ pick (starts (kind.RecurseLimit ∷ []) st.toks) (bind (run_tok (kind.RecurseLimit ∷ []) st st.toks) (λ t m. bind (reading d expression m) (λ x m1. Ok ((Some x), m1)))) (Ok (None, st))
unfolding recursion_limit
recursion_limit_is d st = optional_plain d (by (λ r. r.1) (seq (tok (kind.RecurseLimit ∷ [])) expression)) st (bind (run_tok (kind.RecurseLimit ∷ []) st st.toks) (λ t m. bind (reading d expression m) (λ x m1. Ok ((Some x), m1)))) (simp bind_bind)

pub written_qualifier_is : (d : ℕ) (st : Cursor) → reading d written_qualifier st ≡ pick (starts (kind.Pure ∷ []) st.toks) (bind (run_tok (kind.Pure ∷ []) st st.toks) (λ t m. Ok (ql.Pure, m))) (bind (run_tok (kind.ReadOnly ∷ []) st st.toks) (λ t m. Ok (ql.Readonly, m)))
unfolding written_qualifier
written_qualifier_is d st = refl

pub qualifier_is : (d : ℕ) (st : Cursor) → reading d qualifier st ≡ pick (starts (kind.Pure ∷ kind.ReadOnly ∷ []) st.toks) (bind (reading d written_qualifier st) (λ x m. Ok ((or_unqualified (Some x)), m))) (Ok ((or_unqualified None), st))
unfolding qualifier written_qualifier
qualifier_is d st = optional_as d written_qualifier st (λ x end. Ok ((or_unqualified) x, end)) (bind (reading d written_qualifier st) (λ x m. Ok ((or_unqualified (Some x)), m))) (refl)

pub body_word_is : (d : ℕ) (st : Cursor) → reading d body_word st ≡ pick (starts (kind.ImpDef ∷ []) st.toks) (bind (run_tok (kind.ImpDef ∷ []) st st.toks) (λ t m. Ok (bw.ImpDef, m))) (bind (run_tok (kind.Implementation ∷ []) st st.toks) (λ t m. Ok (bw.Implementation, m)))
unfolding body_word
body_word_is d st = refl

pub maybe_body_word_is : (d : ℕ) (st : Cursor) → reading d maybe_body_word st ≡ pick (starts (kind.ImpDef ∷ kind.Implementation ∷ []) st.toks) (bind (reading d body_word st) (λ x m. Ok ((or_no_word (Some x)), m))) (Ok ((or_no_word None), st))
unfolding maybe_body_word body_word
maybe_body_word_is d st = optional_as d body_word st (λ x end. Ok ((or_no_word) x, end)) (bind (reading d body_word st) (λ x m. Ok ((or_no_word (Some x)), m))) (refl)

pub function_is : (d : ℕ) (st : Cursor) → reading d function st ≡ bind (reading d qualifier st) (λ x m. bind (run_tok (kind.Func ∷ []) m m.toks) (λ t m1. bind (reading d name m1) (λ x1 m2. bind (reading d maybe_params m2) (λ x2 m3. bind (reading d formals m3) (λ x3 m4. bind (reading d result_type m4) (λ x4 m5. bind (reading d recursion_limit m5) (λ x5 m6. bind (run_tok (kind.Begin ∷ []) m6 m6.toks) (λ t1 m7. bind (reading d block m7) (λ x6 m8. bind (run_tok (kind.End ∷ []) m8 m8.toks) (λ t2 m9. bind (run_tok (kind.Semicolon ∷ []) m9 m9.toks) (λ t3 m10. Ok ((bo.Subprogram x x1 x2 x3 x4 x5 x6), m10))))))))))))
unfolding function
function_is d st = simp bind_bind

pub accessor_is : (d : ℕ) (st : Cursor) → reading d accessor st ≡ bind (run_tok (kind.Accessor ∷ []) st st.toks) (λ t m. bind (reading d name m) (λ x m1. bind (reading d maybe_params m1) (λ x1 m2. bind (reading d formals m2) (λ x2 m3. bind (run_tok (kind.Access ∷ []) m3 m3.toks) (λ t1 m4. bind (reading d formal m4) (λ x3 m5. bind (run_tok (kind.Begin ∷ []) m5 m5.toks) (λ t2 m6. bind (reading d getter m6) (λ x4 m7. bind (reading d setter m7) (λ x5 m8. bind (run_tok (kind.End ∷ []) m8 m8.toks) (λ t3 m9. bind (run_tok (kind.Semicolon ∷ []) m9 m9.toks) (λ t4 m10. Ok ((bo.Accessor x x1 x2 x3 x4.0 x4.1 x5), m10))))))))))))
unfolding accessor
accessor_is d st = simp bind_bind

pub behind_word_is : (d : ℕ) (st : Cursor) → reading d behind_word st ≡ pick (starts (kind.Pure ∷ kind.ReadOnly ∷ kind.Func ∷ []) st.toks) (reading d function st) (reading d accessor st)
unfolding behind_word function qualifier written_qualifier
behind_word_is d st = refl

pub declaration_is : (d : ℕ) (st : Cursor) → reading d declaration st ≡ pick (starts (kind.TypeWord ∷ []) st.toks) (reading d type_decl st) (pick (starts (kind.Constant ∷ kind.Let ∷ []) st.toks) (reading d fixed_storage st) (pick (starts (kind.Var ∷ []) st.toks) (reading d global_var st) (reading d bodied st)))
unfolding declaration type_decl fixed_storage fixed_kind global_var
declaration_is d st = refl

pub program_is : (d : ℕ) (st : Cursor) → reading d program st ≡ run_items (reading d declaration) (kind.TypeWord ∷ kind.Constant ∷ kind.Let ∷ kind.Var ∷ kind.ImpDef ∷ kind.Implementation ∷ kind.Pure ∷ kind.ReadOnly ∷ kind.Func ∷ kind.Accessor ∷ []) (length st.toks) [] st
unfolding program declaration type_decl fixed_storage fixed_kind global_var bodied maybe_body_word body_word behind_word function qualifier written_qualifier accessor
program_is d st = items_are d declaration st
