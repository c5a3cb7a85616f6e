-- What the rules of declarations read has its spans in the file.
-- Written by tools/grammar/generate.py from tools/grammar/table.py.
use Rattle.std.proofs.Common.{ℕ, inl, inr, List, Option, Some, sym, subst}
use Rattle.asl_syn.specs.declared.tree.Expr.{Expr}
use Rattle.asl_syn.specs.declared.tree.TypeExpr.{TypeExpr}
use Rattle.asl_syn.specs.declared.tree.Formal.{Formal}
use Rattle.asl_syn.specs.declared.tree.Param.{Param}
use Rattle.asl_syn.specs.declared.tree.TypeDef.{TypeDef}
use Rattle.asl_syn.specs.declared.tree.StorageKind.{StorageKind}
use Rattle.asl_syn.specs.declared.tree.StorageKind.TheVariants as sk
use Rattle.asl_syn.specs.declared.tree.Qualifier.{Qualifier}
use Rattle.asl_syn.specs.declared.tree.Ident.{Ident}
use Rattle.asl_syn.specs.declared.read.ReadStmt.{ReadStmt}
use Rattle.asl_syn.specs.declared.read.BodyWord.{BodyWord}
use Rattle.asl_syn.specs.declared.read.ReadDecl.{ReadDecl}
use Rattle.asl_grammar.specs.declared.parts.Bodied.{Bodied}
use Rattle.asl_grammar.specs.grammar.Cursor.{whole}
use Rattle.asl_grammar.specs.grammar.Rules.{formal, formal_list, maybe_formals, formals, param, param_list, maybe_param_list, params, maybe_params, label_list, label_braces, labels, no_members, listed_members, some_members, maybe_some_members, member_braces, members, record_type, exception_type, type_definition, supertype, type_decl, fixed_kind, fixed_storage, typed_var, global_rest, global_var, result_type, recursion_limit, written_qualifier, qualifier, body_word, maybe_body_word, function, getter, setter, accessor, behind_word, bodied, declaration, program}
use Rattle.asl_laws.proofs.basics.Lists.{AllOf}
use Rattle.asl_laws.proofs.reading.Inside.{whole_in, in_opt}
use Rattle.asl_laws.proofs.reading.Predicates.{in_pair, IdentIn, ExprIn, TypeExprIn, FormalIn, ParamIn, TypeDefIn, ReadStmtIn, ReadDeclIn, QualifierIn, StorageKindIn, BodyWordIn, BodiedIn, seconds_in, or_nil_in}
use Rattle.asl_laws.proofs.reading.StmtNodes.{labels_node, record_node, exception_node, param_node}
use Rattle.asl_laws.proofs.reading.ReadNodes.{read_type_node, read_storage_node}
use Rattle.asl_laws.proofs.reading.Builds.{bodied_of_in, untyped_in}
use Rattle.asl_laws.proofs.reading.Combining.{all_inside, opt_inside}
use Rattle.asl_laws.proofs.reading.Symbols.{In}
use Rattle.asl_laws.proofs.reading.RulesOfExpressions.{name_inside, type_expression_inside, expression_inside}
use Rattle.asl_laws.proofs.reading.RulesOfParts.{typed_inside}
use Rattle.asl_laws.proofs.reading.RulesOfStatements.{value_inside, maybe_value_inside, block_inside}

module _ (n size limit : ℕ) where
  -- ---- Declarations

  formal_inside : (v : Formal) → In n size limit formal v → FormalIn n size limit v
  unfolding formal
  formal_inside v (x, h, e) = subst (FormalIn n size limit) (sym e) (name_inside n size limit x.0 h.0, type_expression_inside n size limit x.1.1 h.1.1)

  formal_list_inside : (v : List Formal) → In n size limit formal_list v → AllOf (FormalIn n size limit) v
  unfolding formal_list
  formal_list_inside v (x, h, e) = subst (AllOf (FormalIn n size limit)) (sym e) (formal_inside x.0 h.0, seconds_in n size limit (FormalIn n size limit) x.1 (all_inside (λ x h. (h.0.0, formal_inside x.1 h.1)) x.1 h.1))

  maybe_formals_inside : (v : List Formal) → In n size limit maybe_formals v → AllOf (FormalIn n size limit) v
  unfolding maybe_formals
  maybe_formals_inside v (x, h, e) = subst (AllOf (FormalIn n size limit)) (sym e) (or_nil_in (FormalIn n size limit) x (opt_inside (formal_list_inside) x h))

  formals_inside : (v : List Formal) → In n size limit formals v → AllOf (FormalIn n size limit) v
  unfolding formals
  formals_inside v h = subst (AllOf (FormalIn n size limit)) (sym h.2) (maybe_formals_inside h.0.1.0 h.1.1.0)

  param_inside : (v : Param) → In n size limit param v → ParamIn n size limit v
  unfolding param
  param_inside v (x, h, e) = subst (ParamIn n size limit) (sym e) (param_node n size limit (record { name = x.0; ty = x.1 }) (name_inside n size limit x.0 h.0) (typed_inside n size limit x.1 h.1))

  param_list_inside : (v : List Param) → In n size limit param_list v → AllOf (ParamIn n size limit) v
  unfolding param_list
  param_list_inside v (x, h, e) = subst (AllOf (ParamIn n size limit)) (sym e) (param_inside x.0 h.0, seconds_in n size limit (ParamIn n size limit) x.1 (all_inside (λ x h. (h.0.0, param_inside x.1 h.1)) x.1 h.1))

  maybe_param_list_inside : (v : List Param) → In n size limit maybe_param_list v → AllOf (ParamIn n size limit) v
  unfolding maybe_param_list
  maybe_param_list_inside v (x, h, e) = subst (AllOf (ParamIn n size limit)) (sym e) (or_nil_in (ParamIn n size limit) x (opt_inside (param_list_inside) x h))

  params_inside : (v : List Param) → In n size limit params v → AllOf (ParamIn n size limit) v
  unfolding params
  params_inside v h = subst (AllOf (ParamIn n size limit)) (sym h.2) (maybe_param_list_inside h.0.1.0 h.1.1.0)

  maybe_params_inside : (v : List Param) → In n size limit maybe_params v → AllOf (ParamIn n size limit) v
  unfolding maybe_params
  maybe_params_inside v (x, h, e) = subst (AllOf (ParamIn n size limit)) (sym e) (or_nil_in (ParamIn n size limit) x (opt_inside (params_inside) x h))

  label_list_inside : (v : List Ident) → In n size limit label_list v → AllOf (IdentIn n size limit) v
  unfolding label_list
  label_list_inside v (x, h, e) = subst (AllOf (IdentIn n size limit)) (sym e) (name_inside n size limit x.0 h.0, seconds_in n size limit (IdentIn n size limit) x.1.0 (all_inside (λ x h. (h.0, name_inside n size limit x.1 h.1)) x.1.0 h.1.0))

  label_braces_inside : (v : List Ident) → In n size limit label_braces v → AllOf (IdentIn n size limit) v
  unfolding label_braces
  label_braces_inside v h = subst (AllOf (IdentIn n size limit)) (sym h.2) (label_list_inside h.0.1.0 h.1.1.0)

  labels_inside : (v : TypeDef) → In n size limit labels v → TypeDefIn n size limit v
  unfolding labels
  labels_inside v (x, h, e) = subst (TypeDefIn n size limit) (sym e) (labels_node n size limit (whole x.1) x.0.1 (whole_in n size x.1 h.1) (label_braces_inside x.0.1 h.0.1))

  no_members_inside : (v : List Formal) → In n size limit no_members v → AllOf (FormalIn n size limit) v
  unfolding no_members
  no_members_inside v (x, h, e) = subst (AllOf (FormalIn n size limit)) (sym e) tt

  listed_members_inside : (v : List Formal) → In n size limit listed_members v → AllOf (FormalIn n size limit) v
  unfolding listed_members
  listed_members_inside v (x, h, e) = subst (AllOf (FormalIn n size limit)) (sym e) (formal_inside x.0 h.0, seconds_in n size limit (FormalIn n size limit) x.1.0 (all_inside (λ x h. (h.0, formal_inside x.1 h.1)) x.1.0 h.1.0))

  some_members_inside : (v : List Formal) → In n size limit some_members v → AllOf (FormalIn n size limit) v
  unfolding some_members
  some_members_inside v (inl h) = no_members_inside v h
  some_members_inside v (inr h) = listed_members_inside v h

  maybe_some_members_inside : (v : List Formal) → In n size limit maybe_some_members v → AllOf (FormalIn n size limit) v
  unfolding maybe_some_members
  maybe_some_members_inside v (x, h, e) = subst (AllOf (FormalIn n size limit)) (sym e) (or_nil_in (FormalIn n size limit) x (opt_inside (some_members_inside) x h))

  member_braces_inside : (v : List Formal) → In n size limit member_braces v → AllOf (FormalIn n size limit) v
  unfolding member_braces
  member_braces_inside v h = subst (AllOf (FormalIn n size limit)) (sym h.2) (maybe_some_members_inside h.0.1.0 h.1.1.0)

  members_inside : (v : List Formal) → In n size limit members v → AllOf (FormalIn n size limit) v
  unfolding members
  members_inside v (x, h, e) = subst (AllOf (FormalIn n size limit)) (sym e) (or_nil_in (FormalIn n size limit) x (opt_inside (member_braces_inside) x h))

  record_type_inside : (v : TypeDef) → In n size limit record_type v → TypeDefIn n size limit v
  unfolding record_type
  record_type_inside v (x, h, e) = subst (TypeDefIn n size limit) (sym e) (record_node n size limit (whole x.1) x.0.1 (whole_in n size x.1 h.1) (members_inside x.0.1 h.0.1))

  exception_type_inside : (v : TypeDef) → In n size limit exception_type v → TypeDefIn n size limit v
  unfolding exception_type
  exception_type_inside v (x, h, e) = subst (TypeDefIn n size limit) (sym e) (exception_node n size limit (whole x.1) x.0.1 (whole_in n size x.1 h.1) (members_inside x.0.1 h.0.1))

  type_definition_inside : (v : TypeDef) → In n size limit type_definition v → TypeDefIn n size limit v
  unfolding type_definition
  type_definition_inside v (inl h) = subst (TypeDefIn n size limit) (sym h.2) (type_expression_inside n size limit h.0 h.1)
  type_definition_inside v (inr (inl h)) = labels_inside v h
  type_definition_inside v (inr (inr (inl h))) = record_type_inside v h
  type_definition_inside v (inr (inr (inr h))) = exception_type_inside v h

  supertype_inside : (v : Option Ident) → In n size limit supertype v → in_opt (IdentIn n size limit) v
  unfolding supertype
  supertype_inside v h = opt_inside (λ x h. subst (IdentIn n size limit) (sym h.2) (name_inside n size limit h.0.1 h.1.1)) v h

  type_decl_inside : (v : ReadDecl) → In n size limit type_decl v → ReadDeclIn n size limit v
  unfolding type_decl
  type_decl_inside v (x, h, e) = subst (ReadDeclIn n size limit) (sym e) (read_type_node n size limit (record { span = whole x.1; name = x.0.1.0; def = x.0.1.1.1.0; supertype = x.0.1.1.1.1.0 }) (whole_in n size x.1 h.1) (name_inside n size limit x.0.1.0 h.0.1.0) (type_definition_inside x.0.1.1.1.0 h.0.1.1.1.0) (supertype_inside x.0.1.1.1.1.0 h.0.1.1.1.1.0))

  fixed_kind_inside : (v : StorageKind) → In n size limit fixed_kind v → StorageKindIn n size limit v
  unfolding fixed_kind
  fixed_kind_inside v (inl h) = subst (StorageKindIn n size limit) (sym h.2) tt
  fixed_kind_inside v (inr h) = subst (StorageKindIn n size limit) (sym h.2) tt

  fixed_storage_inside : (v : ReadDecl) → In n size limit fixed_storage v → ReadDeclIn n size limit v
  unfolding fixed_storage
  fixed_storage_inside v (x, h, e) = subst (ReadDeclIn n size limit) (sym e) (read_storage_node n size limit (record { span = whole x.1; kind = x.0.0; name = x.0.1.0; ty = x.0.1.1.0; init = Some x.0.1.1.1 }) (whole_in n size x.1 h.1) (name_inside n size limit x.0.1.0 h.0.1.0) (typed_inside n size limit x.0.1.1.0 h.0.1.1.0) (value_inside n size limit x.0.1.1.1 h.0.1.1.1))

  typed_var_inside : (v : Option TypeExpr × Option Expr) → In n size limit typed_var v → in_opt (TypeExprIn n size limit) v.0 × in_opt (ExprIn n size limit) v.1
  unfolding typed_var
  typed_var_inside v (x, h, e) = subst (in_pair (in_opt (TypeExprIn n size limit)) (in_opt (ExprIn n size limit))) (sym e) (type_expression_inside n size limit x.1.0 h.1.0, maybe_value_inside n size limit x.1.1 h.1.1)

  global_rest_inside : (v : Option TypeExpr × Option Expr) → In n size limit global_rest v → in_opt (TypeExprIn n size limit) v.0 × in_opt (ExprIn n size limit) v.1
  unfolding global_rest
  global_rest_inside v (inl h) = typed_var_inside v h
  global_rest_inside v (inr h) = subst (in_pair (in_opt (TypeExprIn n size limit)) (in_opt (ExprIn n size limit))) (sym h.2) (untyped_in n size limit h.0 (value_inside n size limit h.0 h.1))

  global_var_inside : (v : ReadDecl) → In n size limit global_var v → ReadDeclIn n size limit v
  unfolding global_var
  global_var_inside v (x, h, e) = subst (ReadDeclIn n size limit) (sym e) (read_storage_node n size limit (record { span = whole x.1; kind = sk.Var; name = x.0.1.0; ty = x.0.1.1.0; init = x.0.1.1.1 }) (whole_in n size x.1 h.1) (name_inside n size limit x.0.1.0 h.0.1.0) ((global_rest_inside x.0.1.1 h.0.1.1).0) ((global_rest_inside x.0.1.1 h.0.1.1).1))

  result_type_inside : (v : Option TypeExpr) → In n size limit result_type v → in_opt (TypeExprIn n size limit) v
  unfolding result_type
  result_type_inside v h = opt_inside (λ x h. subst (TypeExprIn n size limit) (sym h.2) (type_expression_inside n size limit h.0.1 h.1.1)) v h

  recursion_limit_inside : (v : Option Expr) → In n size limit recursion_limit v → in_opt (ExprIn n size limit) v
  unfolding recursion_limit
  recursion_limit_inside v h = opt_inside (λ x h. subst (ExprIn n size limit) (sym h.2) (expression_inside n size limit h.0.1 h.1.1)) v h

  written_qualifier_inside : (v : Qualifier) → In n size limit written_qualifier v → QualifierIn n size limit v
  unfolding written_qualifier
  written_qualifier_inside v (inl h) = subst (QualifierIn n size limit) (sym h.2) tt
  written_qualifier_inside v (inr h) = subst (QualifierIn n size limit) (sym h.2) tt

  qualifier_inside : (v : Qualifier) → In n size limit qualifier v → QualifierIn n size limit v
  unfolding qualifier
  qualifier_inside v (x, h, e) = subst (QualifierIn n size limit) (sym e) tt

  body_word_inside : (v : BodyWord) → In n size limit body_word v → BodyWordIn n size limit v
  unfolding body_word
  body_word_inside v (inl h) = subst (BodyWordIn n size limit) (sym h.2) tt
  body_word_inside v (inr h) = subst (BodyWordIn n size limit) (sym h.2) tt

  maybe_body_word_inside : (v : BodyWord) → In n size limit maybe_body_word v → BodyWordIn n size limit v
  unfolding maybe_body_word
  maybe_body_word_inside v (x, h, e) = subst (BodyWordIn n size limit) (sym e) tt

  function_inside : (v : Bodied) → In n size limit function v → BodiedIn n size limit v
  unfolding function
  function_inside v (x, h, e) = subst (BodiedIn n size limit) (sym e) (qualifier_inside x.0 h.0, (name_inside n size limit x.1.1.0 h.1.1.0, (maybe_params_inside x.1.1.1.0 h.1.1.1.0, (formals_inside x.1.1.1.1.0 h.1.1.1.1.0, (result_type_inside x.1.1.1.1.1.0 h.1.1.1.1.1.0, (recursion_limit_inside x.1.1.1.1.1.1.0 h.1.1.1.1.1.1.0, block_inside n size limit x.1.1.1.1.1.1.1.1.0 h.1.1.1.1.1.1.1.1.0))))))

  getter_inside : (v : Qualifier × List ReadStmt) → In n size limit getter v → QualifierIn n size limit v.0 × AllOf (ReadStmtIn n size limit) v.1
  unfolding getter
  getter_inside v (x, h, e) = subst (in_pair (QualifierIn n size limit) (AllOf (ReadStmtIn n size limit))) (sym e) (qualifier_inside x.0 h.0, block_inside n size limit x.1.1.0 h.1.1.0)

  setter_inside : (v : List ReadStmt) → In n size limit setter v → AllOf (ReadStmtIn n size limit) v
  unfolding setter
  setter_inside v (x, h, e) = subst (AllOf (ReadStmtIn n size limit)) (sym e) (block_inside n size limit x.1.0 h.1.0)

  accessor_inside : (v : Bodied) → In n size limit accessor v → BodiedIn n size limit v
  unfolding accessor
  accessor_inside v (x, h, e) = subst (BodiedIn n size limit) (sym e) (name_inside n size limit x.1.0 h.1.0, (maybe_params_inside x.1.1.0 h.1.1.0, (formals_inside x.1.1.1.0 h.1.1.1.0, (formal_inside x.1.1.1.1.1.0 h.1.1.1.1.1.0, ((getter_inside x.1.1.1.1.1.1.1.0 h.1.1.1.1.1.1.1.0).0, ((getter_inside x.1.1.1.1.1.1.1.0 h.1.1.1.1.1.1.1.0).1, setter_inside x.1.1.1.1.1.1.1.1.0 h.1.1.1.1.1.1.1.1.0))))))

  behind_word_inside : (v : Bodied) → In n size limit behind_word v → BodiedIn n size limit v
  unfolding behind_word
  behind_word_inside v (inl h) = function_inside v h
  behind_word_inside v (inr h) = accessor_inside v h

  bodied_inside : (v : ReadDecl) → In n size limit bodied v → ReadDeclIn n size limit v
  unfolding bodied
  bodied_inside v (x, h, e) = subst (ReadDeclIn n size limit) (sym e) (bodied_of_in n size limit (whole x.1) x.0.0 x.0.1 (whole_in n size x.1 h.1) (behind_word_inside x.0.1 h.0.1))

  declaration_inside : (v : ReadDecl) → In n size limit declaration v → ReadDeclIn n size limit v
  unfolding declaration
  declaration_inside v (inl h) = type_decl_inside v h
  declaration_inside v (inr (inl h)) = fixed_storage_inside v h
  declaration_inside v (inr (inr (inl h))) = global_var_inside v h
  declaration_inside v (inr (inr (inr h))) = bodied_inside v h

  pub program_inside : (v : List ReadDecl) → In n size limit program v → AllOf (ReadDeclIn n size limit) v
  unfolding program
  program_inside v h = all_inside (declaration_inside) v h
