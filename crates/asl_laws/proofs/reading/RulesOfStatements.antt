-- What the rules of statements read has its spans in the file.
-- Written by tools/grammar/generate.py from tools/grammar/table.py.
use Rattle.std.proofs.Common.{ℕ, ◌⊎◌, inl, inr, List, [], ◌∷◌, Option, sym, subst}
use Rattle.asl_syn.specs.declared.tree.Expr.{Expr}
use Rattle.asl_syn.specs.declared.tree.PlacedSuffix.{PlacedSuffix}
use Rattle.asl_syn.specs.declared.tree.Target.{Target}
use Rattle.asl_syn.specs.declared.tree.Binder.{Binder}
use Rattle.asl_syn.specs.declared.tree.Bind.{Bind}
use Rattle.asl_syn.specs.declared.tree.PrintItem.{PrintItem}
use Rattle.asl_syn.specs.declared.tree.Stmt.{Stmt}
use Rattle.asl_syn.specs.declared.tree.Ident.{Ident}
use Rattle.asl_syn.specs.declared.tree.LocalKind.TheVariants as lk
use Rattle.asl_syn.specs.declared.tree.Direction.{Direction}
use Rattle.asl_syn.specs.declared.tree.PrintKind.{PrintKind}
use Rattle.asl_syn.specs.declared.read.ReadStmt.{ReadStmt}
use Rattle.asl_syn.specs.declared.read.ReadElseIf.{ReadElseIf}
use Rattle.asl_syn.specs.declared.read.ReadAlternative.{ReadAlternative}
use Rattle.asl_syn.specs.declared.read.ReadOtherwise.{ReadOtherwise}
use Rattle.asl_syn.specs.declared.read.ReadCatcher.{ReadCatcher}
use Rattle.asl_grammar.specs.declared.parts.VarTail.{VarTail}
use Rattle.asl_grammar.specs.grammar.Cursor.{whole}
use Rattle.asl_grammar.specs.grammar.Build.{VarRest}
use Rattle.asl_grammar.specs.grammar.Rules.{pass, unreachable, assert, bind_name, no_binder, binder, more_binders, two_binders, several, other_bind, local_bind, value, let_statement, names_typed, no_value, maybe_value, typed_value, var_rest, var_names, var_other, var_tail, var_statement, no_target, targets, other_target, assignment, return_statement, throw_statement, print_kind, verbatim, print_item, print_items, maybe_print_items, print_arguments, print_statement, simple_statement, parameters, maybe_parameters, call_arguments, call_ends, target_suffixes, assigned, after_call, called, name_statement_rest, name_statement, if_statement, case_statement, for_statement, while_statement, repeat_statement, try_statement, statement, block, loop_limit, otherwise, maybe_otherwise, place, target, more_targets, two_targets, target_parts, else_if, else_ifs, else_block, maybe_else, if_body, where_clause, alternative, alternatives, case_body, direction, for_body, while_body, repeat_body, caught_type, catcher, catchers, some_catchers, handlers, try_body}
use Rattle.asl_laws.proofs.basics.Lists.{AllOf}
use Rattle.asl_laws.proofs.reading.Inside.{whole_in, in_opt}
use Rattle.asl_laws.proofs.reading.Predicates.{in_pair, in_sum, IdentIn, ExprIn, PlacedSuffixIn, TargetIn, BinderIn, BindIn, PrintItemIn, StmtIn, ReadStmtIn, ReadElseIfIn, ReadAlternativeIn, ReadOtherwiseIn, ReadCatcherIn, DirectionIn, PrintKindIn, VarTailIn, VarRestIn, seconds_in, or_nil_in, behind_in}
use Rattle.asl_laws.proofs.reading.StmtNodes.{discarded_node, targets_node, pass_node, unreachable_node, assert_node, print_node, local_node, assign_node, return_node, throw_node, several_node}
use Rattle.asl_laws.proofs.reading.ReadNodes.{read_simple_node, read_if_node, read_case_node, read_for_node, read_while_node, read_repeat_node, read_try_node, read_when_node, read_else_if_node, read_otherwise_node}
use Rattle.asl_laws.proofs.reading.Builds.{place_of_in, var_tail_of_in, var_of_in, name_statement_of_in, or_no_otherwise_in, no_catchers_in, catch_of_in}
use Rattle.asl_laws.proofs.reading.Combining.{all_inside, opt_inside}
use Rattle.asl_laws.proofs.reading.Symbols.{In}
use Rattle.asl_laws.proofs.reading.RulesOfExpressions.{name_inside, names_inside, arguments_inside, suffixes_inside, type_expression_inside, expression_inside, maybe_expressions_inside, maybe_expression_inside}
use Rattle.asl_laws.proofs.reading.RulesOfParts.{patterns_inside, typed_inside}

module _ (n size limit : ℕ) where
  -- ---- Statements

  pass_inside : (v : Stmt) → In n size limit pass v → StmtIn n size limit v
  unfolding pass
  pass_inside v (x, h, e) = subst (StmtIn n size limit) (sym e) (pass_node n size limit (whole x.1) (whole_in n size x.1 h.1))

  unreachable_inside : (v : Stmt) → In n size limit unreachable v → StmtIn n size limit v
  unfolding unreachable
  unreachable_inside v (x, h, e) = subst (StmtIn n size limit) (sym e) (unreachable_node n size limit (whole x.1) (whole_in n size x.1 h.1))

  assert_inside : (v : Stmt) → In n size limit assert v → StmtIn n size limit v
  unfolding assert
  assert_inside v (x, h, e) = subst (StmtIn n size limit) (sym e) (assert_node n size limit (whole x.1) x.0.1.0 (whole_in n size x.1 h.1) (expression_inside n size limit x.0.1.0 h.0.1.0))

  bind_name_inside : (v : Bind) → In n size limit bind_name v → BindIn n size limit v
  unfolding bind_name
  bind_name_inside v (x, h, e) = subst (BindIn n size limit) (sym e) (name_inside n size limit x h)

  no_binder_inside : (v : Binder) → In n size limit no_binder v → BinderIn n size limit v
  unfolding no_binder
  no_binder_inside v (x, h, e) = subst (BinderIn n size limit) (sym e) h.0

  binder_inside : (v : Binder) → In n size limit binder v → BinderIn n size limit v
  unfolding binder
  binder_inside v (inl h) = subst (BinderIn n size limit) (sym h.2) (name_inside n size limit h.0 h.1)
  binder_inside v (inr h) = no_binder_inside v h

  more_binders_inside : (v : List Binder) → In n size limit more_binders v → AllOf (BinderIn n size limit) v
  unfolding more_binders
  more_binders_inside v (x, h, e) = subst (AllOf (BinderIn n size limit)) (sym e) (seconds_in n size limit (BinderIn n size limit) x (all_inside (λ x h. (h.0.0, binder_inside x.1 h.1)) x h))

  two_binders_inside : (v : List Binder) → In n size limit two_binders v → AllOf (BinderIn n size limit) v
  unfolding two_binders
  two_binders_inside v (x, h, e) = subst (AllOf (BinderIn n size limit)) (sym e) (behind_in (BinderIn n size limit) (x.0 ∷ x.1.1.0 ∷ []) x.1.1.1 (binder_inside x.0 h.0, (binder_inside x.1.1.0 h.1.1.0, tt)) (more_binders_inside x.1.1.1 h.1.1.1))

  several_inside : (v : Bind) → In n size limit several v → BindIn n size limit v
  unfolding several
  several_inside v (x, h, e) = subst (BindIn n size limit) (sym e) (several_node n size limit (whole x.1) x.0 (whole_in n size x.1 h.1) (subst (AllOf (BinderIn n size limit)) (sym h.0.2) (two_binders_inside h.0.0.1.0 h.0.1.1.0)))

  other_bind_inside : (v : Bind) → In n size limit other_bind v → BindIn n size limit v
  unfolding other_bind
  other_bind_inside v (inl h) = subst (BindIn n size limit) (sym h.2) (no_binder_inside h.0 h.1)
  other_bind_inside v (inr h) = several_inside v h

  local_bind_inside : (v : Bind) → In n size limit local_bind v → BindIn n size limit v
  unfolding local_bind
  local_bind_inside v (inl h) = bind_name_inside v h
  local_bind_inside v (inr h) = other_bind_inside v h

  pub value_inside : (v : Expr) → In n size limit value v → ExprIn n size limit v
  unfolding value
  value_inside v (x, h, e) = subst (ExprIn n size limit) (sym e) (expression_inside n size limit x.1.0 h.1.0)

  let_statement_inside : (v : Stmt) → In n size limit let_statement v → StmtIn n size limit v
  unfolding let_statement
  let_statement_inside v (x, h, e) = subst (StmtIn n size limit) (sym e) (local_node n size limit (whole x.1) lk.Let x.0.1.0 x.0.1.1.0 x.0.1.1.1 (whole_in n size x.1 h.1) (local_bind_inside x.0.1.0 h.0.1.0) (typed_inside n size limit x.0.1.1.0 h.0.1.1.0) (value_inside x.0.1.1.1 h.0.1.1.1))

  names_typed_inside : (v : VarRest) → In n size limit names_typed v → VarRestIn n size limit v
  unfolding names_typed
  names_typed_inside v (x, h, e) = subst (VarRestIn n size limit) (sym e) (names_inside n size limit x.1.0 h.1.0, type_expression_inside n size limit x.1.1.1.0 h.1.1.1.0)

  no_value_inside : (v : Option Expr) → In n size limit no_value v → in_opt (ExprIn n size limit) v
  unfolding no_value
  no_value_inside v (x, h, e) = subst (in_opt (ExprIn n size limit)) (sym e) tt

  pub maybe_value_inside : (v : Option Expr) → In n size limit maybe_value v → in_opt (ExprIn n size limit) v
  unfolding maybe_value
  maybe_value_inside v (inl h) = no_value_inside v h
  maybe_value_inside v (inr h) = subst (in_opt (ExprIn n size limit)) (sym h.2) (value_inside h.0 h.1)

  typed_value_inside : (v : VarRest) → In n size limit typed_value v → VarRestIn n size limit v
  unfolding typed_value
  typed_value_inside v (x, h, e) = subst (VarRestIn n size limit) (sym e) (type_expression_inside n size limit x.1.0 h.1.0, maybe_value_inside x.1.1 h.1.1)

  var_rest_inside : (v : VarRest) → In n size limit var_rest v → VarRestIn n size limit v
  unfolding var_rest
  var_rest_inside v (inl h) = names_typed_inside v h
  var_rest_inside v (inr (inl h)) = typed_value_inside v h
  var_rest_inside v (inr (inr h)) = subst (VarRestIn n size limit) (sym h.2) (value_inside h.0 h.1)

  var_names_inside : (v : VarTail) → In n size limit var_names v → VarTailIn n size limit v
  unfolding var_names
  var_names_inside v (x, h, e) = subst (VarTailIn n size limit) (sym e) (var_tail_of_in n size limit x.0 x.1 (name_inside n size limit x.0 h.0) (var_rest_inside x.1 h.1))

  var_other_inside : (v : VarTail) → In n size limit var_other v → VarTailIn n size limit v
  unfolding var_other
  var_other_inside v (x, h, e) = subst (VarTailIn n size limit) (sym e) (other_bind_inside x.0 h.0, (typed_inside n size limit x.1.0 h.1.0, value_inside x.1.1 h.1.1))

  var_tail_inside : (v : VarTail) → In n size limit var_tail v → VarTailIn n size limit v
  unfolding var_tail
  var_tail_inside v (inl h) = var_names_inside v h
  var_tail_inside v (inr h) = var_other_inside v h

  var_statement_inside : (v : Stmt) → In n size limit var_statement v → StmtIn n size limit v
  unfolding var_statement
  var_statement_inside v (x, h, e) = subst (StmtIn n size limit) (sym e) (var_of_in n size limit (whole x.1) x.0.1 (whole_in n size x.1 h.1) (var_tail_inside x.0.1 h.0.1))

  no_target_inside : (v : Target) → In n size limit no_target v → TargetIn n size limit v
  unfolding no_target
  no_target_inside v (x, h, e) = subst (TargetIn n size limit) (sym e) (discarded_node n size limit x.span h.0)

  targets_inside : (v : Target) → In n size limit targets v → TargetIn n size limit v
  unfolding targets
  targets_inside v (x, h, e) = subst (TargetIn n size limit) (sym e) (targets_node n size limit (whole x.1) x.0.1 (whole_in n size x.1 h.1) h.0.1)

  other_target_inside : (v : Target) → In n size limit other_target v → TargetIn n size limit v
  unfolding other_target
  other_target_inside v (inl h) = no_target_inside v h
  other_target_inside v (inr h) = targets_inside v h

  assignment_inside : (v : Stmt) → In n size limit assignment v → StmtIn n size limit v
  unfolding assignment
  assignment_inside v (x, h, e) = subst (StmtIn n size limit) (sym e) (assign_node n size limit (whole x.1) x.0.0 x.0.1 (whole_in n size x.1 h.1) (other_target_inside x.0.0 h.0.0) (value_inside x.0.1 h.0.1))

  return_statement_inside : (v : Stmt) → In n size limit return_statement v → StmtIn n size limit v
  unfolding return_statement
  return_statement_inside v (x, h, e) = subst (StmtIn n size limit) (sym e) (return_node n size limit (whole x.1) x.0.1.0 (whole_in n size x.1 h.1) (maybe_expression_inside n size limit x.0.1.0 h.0.1.0))

  throw_statement_inside : (v : Stmt) → In n size limit throw_statement v → StmtIn n size limit v
  unfolding throw_statement
  throw_statement_inside v (x, h, e) = subst (StmtIn n size limit) (sym e) (throw_node n size limit (whole x.1) x.0.1.0 (whole_in n size x.1 h.1) (maybe_expression_inside n size limit x.0.1.0 h.0.1.0))

  print_kind_inside : (v : PrintKind) → In n size limit print_kind v → PrintKindIn n size limit v
  unfolding print_kind
  print_kind_inside v (inl h) = subst (PrintKindIn n size limit) (sym h.2) tt
  print_kind_inside v (inr h) = subst (PrintKindIn n size limit) (sym h.2) tt

  verbatim_inside : (v : PrintItem) → In n size limit verbatim v → PrintItemIn n size limit v
  unfolding verbatim
  verbatim_inside v (x, h, e) = subst (PrintItemIn n size limit) (sym e) h.0

  print_item_inside : (v : PrintItem) → In n size limit print_item v → PrintItemIn n size limit v
  unfolding print_item
  print_item_inside v (inl h) = verbatim_inside v h
  print_item_inside v (inr h) = subst (PrintItemIn n size limit) (sym h.2) (expression_inside n size limit h.0 h.1)

  print_items_inside : (v : List PrintItem) → In n size limit print_items v → AllOf (PrintItemIn n size limit) v
  unfolding print_items
  print_items_inside v (x, h, e) = subst (AllOf (PrintItemIn n size limit)) (sym e) (print_item_inside x.0 h.0, seconds_in n size limit (PrintItemIn n size limit) x.1 (all_inside (λ x h. (h.0.0, print_item_inside x.1 h.1)) x.1 h.1))

  maybe_print_items_inside : (v : List PrintItem) → In n size limit maybe_print_items v → AllOf (PrintItemIn n size limit) v
  unfolding maybe_print_items
  maybe_print_items_inside v (x, h, e) = subst (AllOf (PrintItemIn n size limit)) (sym e) (or_nil_in (PrintItemIn n size limit) x (opt_inside (print_items_inside) x h))

  print_arguments_inside : (v : List PrintItem) → In n size limit print_arguments v → AllOf (PrintItemIn n size limit) v
  unfolding print_arguments
  print_arguments_inside v h = subst (AllOf (PrintItemIn n size limit)) (sym h.2) (maybe_print_items_inside h.0.1.0 h.1.1.0)

  print_statement_inside : (v : Stmt) → In n size limit print_statement v → StmtIn n size limit v
  unfolding print_statement
  print_statement_inside v (x, h, e) = subst (StmtIn n size limit) (sym e) (print_node n size limit (whole x.1) x.0.0 x.0.1.0 (whole_in n size x.1 h.1) (print_arguments_inside x.0.1.0 h.0.1.0))

  simple_statement_inside : (v : Stmt) → In n size limit simple_statement v → StmtIn n size limit v
  unfolding simple_statement
  simple_statement_inside v (inl h) = pass_inside v h
  simple_statement_inside v (inr (inl h)) = unreachable_inside v h
  simple_statement_inside v (inr (inr (inl h))) = assert_inside v h
  simple_statement_inside v (inr (inr (inr (inl h)))) = let_statement_inside v h
  simple_statement_inside v (inr (inr (inr (inr (inl h))))) = var_statement_inside v h
  simple_statement_inside v (inr (inr (inr (inr (inr (inl h)))))) = assignment_inside v h
  simple_statement_inside v (inr (inr (inr (inr (inr (inr (inl h))))))) = return_statement_inside v h
  simple_statement_inside v (inr (inr (inr (inr (inr (inr (inr (inl h)))))))) = throw_statement_inside v h
  simple_statement_inside v (inr (inr (inr (inr (inr (inr (inr (inr h)))))))) = print_statement_inside v h

  parameters_inside : (v : List Expr) → In n size limit parameters v → AllOf (ExprIn n size limit) v
  unfolding parameters
  parameters_inside v h = subst (AllOf (ExprIn n size limit)) (sym h.2) (maybe_expressions_inside n size limit h.0.1.0 h.1.1.0)

  maybe_parameters_inside : (v : List Expr) → In n size limit maybe_parameters v → AllOf (ExprIn n size limit) v
  unfolding maybe_parameters
  maybe_parameters_inside v (x, h, e) = subst (AllOf (ExprIn n size limit)) (sym e) (or_nil_in (ExprIn n size limit) x (opt_inside (parameters_inside) x h))

  call_arguments_inside : (v : List Expr × List Expr) → In n size limit call_arguments v → AllOf (ExprIn n size limit) v.0 × AllOf (ExprIn n size limit) v.1
  unfolding call_arguments
  call_arguments_inside v h = (maybe_parameters_inside v.0 h.0, arguments_inside n size limit v.1 h.1)

  call_ends_inside : (v : Option (List PlacedSuffix × Expr)) → In n size limit call_ends v → in_opt (in_pair (AllOf (PlacedSuffixIn n size limit)) (ExprIn n size limit)) v
  unfolding call_ends
  call_ends_inside v (x, h, e) = subst (in_opt (in_pair (AllOf (PlacedSuffixIn n size limit)) (ExprIn n size limit))) (sym e) tt

  target_suffixes_inside : (v : List PlacedSuffix) → In n size limit target_suffixes v → AllOf (PlacedSuffixIn n size limit) v
  unfolding target_suffixes
  target_suffixes_inside v h = suffixes_inside n size limit v h

  assigned_inside : (v : List PlacedSuffix × Expr) → In n size limit assigned v → AllOf (PlacedSuffixIn n size limit) v.0 × ExprIn n size limit v.1
  unfolding assigned
  assigned_inside v h = (target_suffixes_inside v.0 h.0, value_inside v.1 h.1)

  after_call_inside : (v : Option (List PlacedSuffix × Expr)) → In n size limit after_call v → in_opt (in_pair (AllOf (PlacedSuffixIn n size limit)) (ExprIn n size limit)) v
  unfolding after_call
  after_call_inside v (inl h) = call_ends_inside v h
  after_call_inside v (inr h) = subst (in_opt (in_pair (AllOf (PlacedSuffixIn n size limit)) (ExprIn n size limit))) (sym h.2) (assigned_inside h.0 h.1)

  called_inside : (v : (List Expr × List Expr) × Option (List PlacedSuffix × Expr)) → In n size limit called v → (AllOf (ExprIn n size limit) v.0.0 × AllOf (ExprIn n size limit) v.0.1) × in_opt (in_pair (AllOf (PlacedSuffixIn n size limit)) (ExprIn n size limit)) v.1
  unfolding called
  called_inside v h = (call_arguments_inside v.0 h.0, after_call_inside v.1 h.1)

  name_statement_rest_inside : (v : ((List Expr × List Expr) × Option (List PlacedSuffix × Expr)) ⊎ (List PlacedSuffix × Expr)) → In n size limit name_statement_rest v → in_sum (in_pair (in_pair (AllOf (ExprIn n size limit)) (AllOf (ExprIn n size limit))) (in_opt (in_pair (AllOf (PlacedSuffixIn n size limit)) (ExprIn n size limit)))) (in_pair (AllOf (PlacedSuffixIn n size limit)) (ExprIn n size limit)) v
  unfolding name_statement_rest
  name_statement_rest_inside v (inl h) = subst (in_sum (in_pair (in_pair (AllOf (ExprIn n size limit)) (AllOf (ExprIn n size limit))) (in_opt (in_pair (AllOf (PlacedSuffixIn n size limit)) (ExprIn n size limit)))) (in_pair (AllOf (PlacedSuffixIn n size limit)) (ExprIn n size limit))) (sym h.2) (called_inside h.0 h.1)
  name_statement_rest_inside v (inr h) = subst (in_sum (in_pair (in_pair (AllOf (ExprIn n size limit)) (AllOf (ExprIn n size limit))) (in_opt (in_pair (AllOf (PlacedSuffixIn n size limit)) (ExprIn n size limit)))) (in_pair (AllOf (PlacedSuffixIn n size limit)) (ExprIn n size limit))) (sym h.2) (assigned_inside h.0 h.1)

  name_statement_inside : (v : ReadStmt) → In n size limit name_statement v → ReadStmtIn n size limit v
  unfolding name_statement
  name_statement_inside v (x, h, e) = subst (ReadStmtIn n size limit) (sym e) (name_statement_of_in n size limit x.0.0 (whole x.1) x.0.1 (name_inside n size limit x.0.0 h.0.0) (whole_in n size x.1 h.1) (name_statement_rest_inside x.0.1 h.0.1))

  if_statement_inside : (v : ReadStmt) → In n size limit if_statement v → ReadStmtIn n size limit v
  unfolding if_statement
  if_statement_inside v (x, h, e) = subst (ReadStmtIn n size limit) (sym e) (read_if_node n size limit (whole x.1) x.0.1.0 x.0.1.1 x.0.1.2 x.0.1.3 (whole_in n size x.1 h.1) h.0.1.0 h.0.1.1 h.0.1.2 h.0.1.3)

  case_statement_inside : (v : ReadStmt) → In n size limit case_statement v → ReadStmtIn n size limit v
  unfolding case_statement
  case_statement_inside v (x, h, e) = subst (ReadStmtIn n size limit) (sym e) (read_case_node n size limit (whole x.1) x.0.1.0 x.0.1.1 x.0.1.2 (whole_in n size x.1 h.1) h.0.1.0 h.0.1.1 h.0.1.2)

  for_statement_inside : (v : ReadStmt) → In n size limit for_statement v → ReadStmtIn n size limit v
  unfolding for_statement
  for_statement_inside v (x, h, e) = subst (ReadStmtIn n size limit) (sym e) (read_for_node n size limit (whole x.1) x.0.1.0 x.0.1.1 x.0.1.2 x.0.1.3 x.0.1.4 x.0.1.5 (whole_in n size x.1 h.1) h.0.1.0 h.0.1.1 h.0.1.3 h.0.1.4 h.0.1.5)

  while_statement_inside : (v : ReadStmt) → In n size limit while_statement v → ReadStmtIn n size limit v
  unfolding while_statement
  while_statement_inside v (x, h, e) = subst (ReadStmtIn n size limit) (sym e) (read_while_node n size limit (whole x.1) x.0.1.0 x.0.1.1 x.0.1.2 (whole_in n size x.1 h.1) h.0.1.0 h.0.1.1 h.0.1.2)

  repeat_statement_inside : (v : ReadStmt) → In n size limit repeat_statement v → ReadStmtIn n size limit v
  unfolding repeat_statement
  repeat_statement_inside v (x, h, e) = subst (ReadStmtIn n size limit) (sym e) (read_repeat_node n size limit (whole x.1) x.0.1.0 x.0.1.1 x.0.1.2 (whole_in n size x.1 h.1) h.0.1.0 h.0.1.1 h.0.1.2)

  try_statement_inside : (v : ReadStmt) → In n size limit try_statement v → ReadStmtIn n size limit v
  unfolding try_statement
  try_statement_inside v (x, h, e) = subst (ReadStmtIn n size limit) (sym e) (read_try_node n size limit (whole x.1) x.0.1.0 x.0.1.1 x.0.1.2 (whole_in n size x.1 h.1) h.0.1.0 h.0.1.1 h.0.1.2)

  statement_inside : (v : ReadStmt) → In n size limit statement v → ReadStmtIn n size limit v
  unfolding statement
  statement_inside v (inl h) = subst (ReadStmtIn n size limit) (sym h.2) (read_simple_node n size limit h.0 (simple_statement_inside h.0 h.1))
  statement_inside v (inr (inl h)) = name_statement_inside v h
  statement_inside v (inr (inr (inl h))) = if_statement_inside v h
  statement_inside v (inr (inr (inr (inl h)))) = case_statement_inside v h
  statement_inside v (inr (inr (inr (inr (inl h))))) = for_statement_inside v h
  statement_inside v (inr (inr (inr (inr (inr (inl h)))))) = while_statement_inside v h
  statement_inside v (inr (inr (inr (inr (inr (inr (inl h))))))) = repeat_statement_inside v h
  statement_inside v (inr (inr (inr (inr (inr (inr (inr h))))))) = try_statement_inside v h

  pub block_inside : (v : List ReadStmt) → In n size limit block v → AllOf (ReadStmtIn n size limit) v
  unfolding block
  block_inside v h = all_inside (statement_inside) v h

  loop_limit_inside : (v : Option Expr) → In n size limit loop_limit v → in_opt (ExprIn n size limit) v
  unfolding loop_limit
  loop_limit_inside v h = opt_inside (λ x h. subst (ExprIn n size limit) (sym h.2) (expression_inside n size limit h.0.1 h.1.1)) v h

  otherwise_inside : (v : ReadOtherwise) → In n size limit otherwise v → ReadOtherwiseIn n size limit v
  unfolding otherwise
  otherwise_inside v (x, h, e) = subst (ReadOtherwiseIn n size limit) (sym e) (read_otherwise_node n size limit x.1.1 (block_inside x.1.1 h.1.1))

  maybe_otherwise_inside : (v : ReadOtherwise) → In n size limit maybe_otherwise v → ReadOtherwiseIn n size limit v
  unfolding maybe_otherwise
  maybe_otherwise_inside v (x, h, e) = subst (ReadOtherwiseIn n size limit) (sym e) (or_no_otherwise_in n size limit x (opt_inside (otherwise_inside) x h))

  place_inside : (v : Target) → In n size limit place v → TargetIn n size limit v
  unfolding place
  place_inside v (x, h, e) = subst (TargetIn n size limit) (sym e) (place_of_in n size limit x.0 x.1 (name_inside n size limit x.0 h.0) (target_suffixes_inside x.1 h.1))

  target_inside : (v : Target) → In n size limit target v → TargetIn n size limit v
  unfolding target
  target_inside v (inl h) = no_target_inside v h
  target_inside v (inr (inl h)) = place_inside v h
  target_inside v (inr (inr h)) = targets_inside v h

  more_targets_inside : (v : List Target) → In n size limit more_targets v → AllOf (TargetIn n size limit) v
  unfolding more_targets
  more_targets_inside v (x, h, e) = subst (AllOf (TargetIn n size limit)) (sym e) (seconds_in n size limit (TargetIn n size limit) x (all_inside (λ x h. (h.0.0, target_inside x.1 h.1)) x h))

  two_targets_inside : (v : List Target) → In n size limit two_targets v → AllOf (TargetIn n size limit) v
  unfolding two_targets
  two_targets_inside v (x, h, e) = subst (AllOf (TargetIn n size limit)) (sym e) (behind_in (TargetIn n size limit) (x.0 ∷ x.1.1.0 ∷ []) x.1.1.1 (target_inside x.0 h.0, (target_inside x.1.1.0 h.1.1.0, tt)) (more_targets_inside x.1.1.1 h.1.1.1))

  pub target_parts_inside : (v : List Target) → In n size limit target_parts v → AllOf (TargetIn n size limit) v
  unfolding target_parts
  target_parts_inside v (x, h, e) = subst (AllOf (TargetIn n size limit)) (sym e) (two_targets_inside x.0 h.0)

  else_if_inside : (v : ReadElseIf) → In n size limit else_if v → ReadElseIfIn n size limit v
  unfolding else_if
  else_if_inside v (x, h, e) = subst (ReadElseIfIn n size limit) (sym e) (read_else_if_node n size limit x.1.0 x.1.1.1 (expression_inside n size limit x.1.0 h.1.0) (block_inside x.1.1.1 h.1.1.1))

  else_ifs_inside : (v : List ReadElseIf) → In n size limit else_ifs v → AllOf (ReadElseIfIn n size limit) v
  unfolding else_ifs
  else_ifs_inside v h = all_inside (else_if_inside) v h

  else_block_inside : (v : List ReadStmt) → In n size limit else_block v → AllOf (ReadStmtIn n size limit) v
  unfolding else_block
  else_block_inside v (x, h, e) = subst (AllOf (ReadStmtIn n size limit)) (sym e) (block_inside x.1 h.1)

  maybe_else_inside : (v : List ReadStmt) → In n size limit maybe_else v → AllOf (ReadStmtIn n size limit) v
  unfolding maybe_else
  maybe_else_inside v (x, h, e) = subst (AllOf (ReadStmtIn n size limit)) (sym e) (or_nil_in (ReadStmtIn n size limit) x (opt_inside (else_block_inside) x h))

  pub if_body_inside : (v : Expr × List ReadStmt × List ReadElseIf × List ReadStmt) → In n size limit if_body v → ExprIn n size limit v.0 × AllOf (ReadStmtIn n size limit) v.1 × AllOf (ReadElseIfIn n size limit) v.2 × AllOf (ReadStmtIn n size limit) v.3
  unfolding if_body
  if_body_inside v (x, h, e) = subst (λ (v : Expr × (List ReadStmt) × (List ReadElseIf) × (List ReadStmt)). ExprIn n size limit v.0 × AllOf (ReadStmtIn n size limit) v.1 × AllOf (ReadElseIfIn n size limit) v.2 × AllOf (ReadStmtIn n size limit) v.3) (sym e) (expression_inside n size limit x.0 h.0, block_inside x.1.1.0 h.1.1.0, else_ifs_inside x.1.1.1.0 h.1.1.1.0, maybe_else_inside x.1.1.1.1.0 h.1.1.1.1.0)

  where_clause_inside : (v : Option Expr) → In n size limit where_clause v → in_opt (ExprIn n size limit) v
  unfolding where_clause
  where_clause_inside v h = opt_inside (λ x h. subst (ExprIn n size limit) (sym h.2) (expression_inside n size limit h.0.1 h.1.1)) v h

  alternative_inside : (v : ReadAlternative) → In n size limit alternative v → ReadAlternativeIn n size limit v
  unfolding alternative
  alternative_inside v (x, h, e) = subst (ReadAlternativeIn n size limit) (sym e) (read_when_node n size limit x.1.0 x.1.1.0 x.1.1.1.1 (patterns_inside n size limit x.1.0 h.1.0) (where_clause_inside x.1.1.0 h.1.1.0) (block_inside x.1.1.1.1 h.1.1.1.1))

  alternatives_inside : (v : List ReadAlternative) → In n size limit alternatives v → AllOf (ReadAlternativeIn n size limit) v
  unfolding alternatives
  alternatives_inside v h = all_inside (alternative_inside) v h

  pub case_body_inside : (v : Expr × List ReadAlternative × ReadOtherwise) → In n size limit case_body v → ExprIn n size limit v.0 × AllOf (ReadAlternativeIn n size limit) v.1 × ReadOtherwiseIn n size limit v.2
  unfolding case_body
  case_body_inside v (x, h, e) = subst (λ (v : Expr × (List ReadAlternative) × ReadOtherwise). ExprIn n size limit v.0 × AllOf (ReadAlternativeIn n size limit) v.1 × ReadOtherwiseIn n size limit v.2) (sym e) (expression_inside n size limit x.0 h.0, alternatives_inside x.1.1.0 h.1.1.0, maybe_otherwise_inside x.1.1.1.0 h.1.1.1.0)

  direction_inside : (v : Direction) → In n size limit direction v → DirectionIn n size limit v
  unfolding direction
  direction_inside v (inl h) = subst (DirectionIn n size limit) (sym h.2) tt
  direction_inside v (inr h) = subst (DirectionIn n size limit) (sym h.2) tt

  pub for_body_inside : (v : Ident × Expr × Direction × Expr × Option Expr × List ReadStmt) → In n size limit for_body v → IdentIn n size limit v.0 × ExprIn n size limit v.1 × DirectionIn n size limit v.2 × ExprIn n size limit v.3 × in_opt (ExprIn n size limit) v.4 × AllOf (ReadStmtIn n size limit) v.5
  unfolding for_body
  for_body_inside v (x, h, e) = subst (λ (v : Ident × Expr × Direction × Expr × (Option Expr) × (List ReadStmt)). IdentIn n size limit v.0 × ExprIn n size limit v.1 × DirectionIn n size limit v.2 × ExprIn n size limit v.3 × in_opt (ExprIn n size limit) v.4 × AllOf (ReadStmtIn n size limit) v.5) (sym e) (name_inside n size limit x.0 h.0, expression_inside n size limit x.1.1.0 h.1.1.0, direction_inside x.1.1.1.0 h.1.1.1.0, expression_inside n size limit x.1.1.1.1.0 h.1.1.1.1.0, loop_limit_inside x.1.1.1.1.1.0 h.1.1.1.1.1.0, block_inside x.1.1.1.1.1.1.1.0 h.1.1.1.1.1.1.1.0)

  pub while_body_inside : (v : Expr × Option Expr × List ReadStmt) → In n size limit while_body v → ExprIn n size limit v.0 × in_opt (ExprIn n size limit) v.1 × AllOf (ReadStmtIn n size limit) v.2
  unfolding while_body
  while_body_inside v (x, h, e) = subst (λ (v : Expr × (Option Expr) × (List ReadStmt)). ExprIn n size limit v.0 × in_opt (ExprIn n size limit) v.1 × AllOf (ReadStmtIn n size limit) v.2) (sym e) (expression_inside n size limit x.0 h.0, loop_limit_inside x.1.0 h.1.0, block_inside x.1.1.1.0 h.1.1.1.0)

  pub repeat_body_inside : (v : List ReadStmt × Expr × Option Expr) → In n size limit repeat_body v → AllOf (ReadStmtIn n size limit) v.0 × ExprIn n size limit v.1 × in_opt (ExprIn n size limit) v.2
  unfolding repeat_body
  repeat_body_inside v (x, h, e) = subst (λ (v : (List ReadStmt) × Expr × (Option Expr)). AllOf (ReadStmtIn n size limit) v.0 × ExprIn n size limit v.1 × in_opt (ExprIn n size limit) v.2) (sym e) (block_inside x.0 h.0, expression_inside n size limit x.1.1.0 h.1.1.0, loop_limit_inside x.1.1.1.0 h.1.1.1.0)

  caught_type_inside : (v : Option Ident) → In n size limit caught_type v → in_opt (IdentIn n size limit) v
  unfolding caught_type
  caught_type_inside v h = opt_inside (λ x h. subst (IdentIn n size limit) (sym h.2) (name_inside n size limit h.0.1 h.1.1)) v h

  catcher_inside : (v : ReadCatcher) → In n size limit catcher v → ReadCatcherIn n size limit v
  unfolding catcher
  catcher_inside v (x, h, e) = subst (ReadCatcherIn n size limit) (sym e) (catch_of_in n size limit x.1.0 x.1.1.0 x.1.1.1.1 (name_inside n size limit x.1.0 h.1.0) (caught_type_inside x.1.1.0 h.1.1.0) (block_inside x.1.1.1.1 h.1.1.1.1))

  catchers_inside : (v : List ReadCatcher) → In n size limit catchers v → AllOf (ReadCatcherIn n size limit) v
  unfolding catchers
  catchers_inside v h = all_inside (catcher_inside) v h

  some_catchers_inside : (v : List ReadCatcher × ReadOtherwise) → In n size limit some_catchers v → AllOf (ReadCatcherIn n size limit) v.0 × ReadOtherwiseIn n size limit v.1
  unfolding some_catchers
  some_catchers_inside v (x, h, e) = subst (in_pair (AllOf (ReadCatcherIn n size limit)) (ReadOtherwiseIn n size limit)) (sym e) ((catcher_inside x.0 h.0, catchers_inside x.1.0 h.1.0), maybe_otherwise_inside x.1.1 h.1.1)

  handlers_inside : (v : List ReadCatcher × ReadOtherwise) → In n size limit handlers v → AllOf (ReadCatcherIn n size limit) v.0 × ReadOtherwiseIn n size limit v.1
  unfolding handlers
  handlers_inside v (inl h) = some_catchers_inside v h
  handlers_inside v (inr h) = subst (in_pair (AllOf (ReadCatcherIn n size limit)) (ReadOtherwiseIn n size limit)) (sym h.2) (no_catchers_in n size limit h.0 (otherwise_inside h.0 h.1))

  pub try_body_inside : (v : List ReadStmt × List ReadCatcher × ReadOtherwise) → In n size limit try_body v → AllOf (ReadStmtIn n size limit) v.0 × AllOf (ReadCatcherIn n size limit) v.1 × ReadOtherwiseIn n size limit v.2
  unfolding try_body
  try_body_inside v (x, h, e) = subst (λ (v : (List ReadStmt) × (List ReadCatcher) × ReadOtherwise). AllOf (ReadStmtIn n size limit) v.0 × AllOf (ReadCatcherIn n size limit) v.1 × ReadOtherwiseIn n size limit v.2) (sym e) (block_inside x.0 h.0, (handlers_inside x.1.1.0 h.1.1.0).0, (handlers_inside x.1.1.0 h.1.1.0).1)
