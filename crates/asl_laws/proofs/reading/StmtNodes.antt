-- Each form of target, statement and declaration: its spans lie in the file, where those of its parts do.
use Rattle.std.proofs.Common.{ℕ, List, [], ◌∷◌, Option, sym, subst}
use Rattle.asl_syn.specs.declared.token.Span.{Span}
use Rattle.asl_syn.specs.declared.tree.Ident.{Ident}
use Rattle.asl_syn.specs.declared.tree.Expr.{Expr}
use Rattle.asl_syn.specs.declared.tree.Pattern.{Pattern}
use Rattle.asl_syn.specs.declared.tree.TypeExpr.{TypeExpr}
use Rattle.asl_syn.specs.declared.tree.PlacedSuffix.{PlacedSuffix}
use Rattle.asl_syn.specs.declared.tree.Target.{Target, roll-Target, fold-roll-Target, map-Target}
use Rattle.asl_syn.specs.declared.tree.Target.TheVariants as tg
use Rattle.asl_syn.specs.declared.tree.Target.TheOpen as place
use Rattle.asl_syn.specs.declared.tree.Binder.{Binder}
use Rattle.asl_syn.specs.declared.tree.Bind.{Bind}
use Rattle.asl_syn.specs.declared.tree.Bind.TheVariants as bi
use Rattle.asl_syn.specs.declared.tree.LocalKind.{LocalKind}
use Rattle.asl_syn.specs.declared.tree.Direction.{Direction}
use Rattle.asl_syn.specs.declared.tree.PrintKind.{PrintKind}
use Rattle.asl_syn.specs.declared.tree.PrintItem.{PrintItem}
use Rattle.asl_syn.specs.declared.tree.Alternative.{Alternative, roll-Alternative}
use Rattle.asl_syn.specs.declared.tree.Alternative.TheVariants as al
use Rattle.asl_syn.specs.declared.tree.Catcher.{Catcher, roll-Catcher}
use Rattle.asl_syn.specs.declared.tree.Catcher.TheVariants as ca
use Rattle.asl_syn.specs.declared.tree.ElseIf.{ElseIf, roll-ElseIf}
use Rattle.asl_syn.specs.declared.tree.ElseIf.TheVariants as ei
use Rattle.asl_syn.specs.declared.tree.Otherwise.{Otherwise, roll-Otherwise}
use Rattle.asl_syn.specs.declared.tree.Otherwise.TheVariants as ot
use Rattle.asl_syn.specs.declared.tree.Stmt.{Stmt, roll-Stmt}
use Rattle.asl_syn.specs.declared.tree.Stmt.TheVariants as stm
use Rattle.asl_syn.specs.declared.tree.Alternative.TheOpen as node
use Rattle.asl_syn.specs.declared.tree.Formal.{Formal}
use Rattle.asl_syn.specs.declared.tree.Param.{Param}
use Rattle.asl_syn.specs.declared.tree.TypeDef.TheVariants as td
use Rattle.asl_syn.specs.declared.tree.TypeDecl.{TypeDecl}
use Rattle.asl_syn.specs.declared.tree.StorageDecl.{StorageDecl}
use Rattle.asl_syn.specs.declared.tree.Func.{Func}
use Rattle.asl_syn.specs.declared.tree.Decl.TheVariants as dc
use Rattle.asl_syn.specs.declared.tree.Alternative.TheFolds.{fold-roll-Alternative, fold-roll-Catcher, fold-roll-ElseIf, fold-roll-Otherwise, fold-roll-Stmt, map-Alternative, map-Catcher, map-ElseIf, map-Otherwise, map-Stmt}
use Rattle.asl_laws.proofs.basics.Lists.{AllOf}
use Rattle.asl_laws.specs.Spans.{Spans, Each, all_of, of_name, expr_spans, type_spans, pattern_spans, placed_spans, binder_spans, item_spans, in_target, target_spans, in_alternative, in_catcher, in_branch, in_otherwise, in_stmt, alternative_spans, catcher_spans, branch_spans, otherwise_spans, stmt_spans, formal_spans, param_spans}
use Rattle.asl_laws.proofs.reading.Inside.{in_opt, between_in}
use Rattle.asl_laws.proofs.reading.Predicates.{P, MarkIn, IdentIn, ExprIn, TypeExprIn, PatternIn, PlacedSuffixIn, TargetIn, BinderIn, BindIn, PrintItemIn, StmtIn, ElseIfIn, AlternativeIn, OtherwiseIn, CatcherIn, FormalIn, ParamIn, TypeDefIn, DeclIn, each_in, each_names_in, each_maybe_in, span_from}

module _ (n size limit : ℕ) where
  -- ---- targets

  target_layer_in : (x : place.Target-F Target) → Each (MarkIn n size limit) (in_target (map-Target Target Spans target_spans x)) → TargetIn n size limit (roll-Target x)
  target_layer_in x h = subst (Each (MarkIn n size limit)) (sym (fold-roll-Target Spans in_target x)) h

  pub discarded_node : (span : Span) → P n size limit span → TargetIn n size limit (tg.Discarded span)
  unfolding roll-Target denote.Hole.Carrier.roll
  discarded_node span p = target_layer_in (place.Discarded span) p

  -- the target up to each of its suffixes
  placed_in : (i : Ident) (xs : List PlacedSuffix) → IdentIn n size limit i → AllOf (PlacedSuffixIn n size limit) xs → Each (MarkIn n size limit) (all_of (placed_spans i) xs)
  placed_in i [] h k = tt
  placed_in i (x ∷ xs) h k = ((between_in n size i.span x.end h.0 (span_from n size limit i.span h).1 k.0.1, k.0.0), placed_in i xs h k.1)

  pub place_node : (span : Span) (i : Ident) (xs : List PlacedSuffix) → P n size limit span → IdentIn n size limit i → AllOf (PlacedSuffixIn n size limit) xs → TargetIn n size limit (tg.Place span i xs)
  unfolding roll-Target denote.Hole.Carrier.roll
  place_node span i xs p h k = target_layer_in (place.Place span i xs) (p, (h, placed_in i xs h k))

  pub targets_node : (span : Span) (ts : List Target) → P n size limit span → AllOf (TargetIn n size limit) ts → TargetIn n size limit (tg.Targets span ts)
  unfolding roll-Target denote.Hole.Carrier.roll
  targets_node span ts p h = target_layer_in (place.Targets span ts) (p, each_in n size limit target_spans ts h)

  -- ---- one layer of a statement

  stmt_layer_in : (x : node.Stmt-F Alternative Catcher ElseIf Otherwise Stmt) → Each (MarkIn n size limit) (in_stmt (map-Stmt Alternative Catcher ElseIf Otherwise Stmt Spans Spans Spans Spans Spans alternative_spans catcher_spans branch_spans otherwise_spans stmt_spans x)) → StmtIn n size limit (roll-Stmt x)
  stmt_layer_in x h = subst (Each (MarkIn n size limit)) (sym (fold-roll-Stmt Spans Spans Spans Spans Spans in_alternative in_catcher in_branch in_otherwise in_stmt x)) h

  alternative_layer_in : (x : node.Alternative-F Alternative Catcher ElseIf Otherwise Stmt) → Each (MarkIn n size limit) (in_alternative (map-Alternative Alternative Catcher ElseIf Otherwise Stmt Spans Spans Spans Spans Spans alternative_spans catcher_spans branch_spans otherwise_spans stmt_spans x)) → AlternativeIn n size limit (roll-Alternative x)
  alternative_layer_in x h = subst (Each (MarkIn n size limit)) (sym (fold-roll-Alternative Spans Spans Spans Spans Spans in_alternative in_catcher in_branch in_otherwise in_stmt x)) h

  catcher_layer_in : (x : node.Catcher-F Alternative Catcher ElseIf Otherwise Stmt) → Each (MarkIn n size limit) (in_catcher (map-Catcher Alternative Catcher ElseIf Otherwise Stmt Spans Spans Spans Spans Spans alternative_spans catcher_spans branch_spans otherwise_spans stmt_spans x)) → CatcherIn n size limit (roll-Catcher x)
  catcher_layer_in x h = subst (Each (MarkIn n size limit)) (sym (fold-roll-Catcher Spans Spans Spans Spans Spans in_alternative in_catcher in_branch in_otherwise in_stmt x)) h

  branch_layer_in : (x : node.ElseIf-F Alternative Catcher ElseIf Otherwise Stmt) → Each (MarkIn n size limit) (in_branch (map-ElseIf Alternative Catcher ElseIf Otherwise Stmt Spans Spans Spans Spans Spans alternative_spans catcher_spans branch_spans otherwise_spans stmt_spans x)) → ElseIfIn n size limit (roll-ElseIf x)
  branch_layer_in x h = subst (Each (MarkIn n size limit)) (sym (fold-roll-ElseIf Spans Spans Spans Spans Spans in_alternative in_catcher in_branch in_otherwise in_stmt x)) h

  otherwise_layer_in : (x : node.Otherwise-F Alternative Catcher ElseIf Otherwise Stmt) → Each (MarkIn n size limit) (in_otherwise (map-Otherwise Alternative Catcher ElseIf Otherwise Stmt Spans Spans Spans Spans Spans alternative_spans catcher_spans branch_spans otherwise_spans stmt_spans x)) → OtherwiseIn n size limit (roll-Otherwise x)
  otherwise_layer_in x h = subst (Each (MarkIn n size limit)) (sym (fold-roll-Otherwise Spans Spans Spans Spans Spans in_alternative in_catcher in_branch in_otherwise in_stmt x)) h

  -- ---- statements

  pub pass_node : (span : Span) → P n size limit span → StmtIn n size limit (stm.Pass span)
  unfolding roll-Stmt denote.Hole.Carrier.roll
  pass_node span p = stmt_layer_in (node.Pass span) p

  pub unreachable_node : (span : Span) → P n size limit span → StmtIn n size limit (stm.Unreachable span)
  unfolding roll-Stmt denote.Hole.Carrier.roll
  unreachable_node span p = stmt_layer_in (node.Unreachable span) p

  pub assert_node : (span : Span) (a : Expr) → P n size limit span → ExprIn n size limit a → StmtIn n size limit (stm.Assert span a)
  unfolding roll-Stmt denote.Hole.Carrier.roll
  assert_node span a p h = stmt_layer_in (node.Assert span a) (p, h)

  pub print_node : (span : Span) (kind : PrintKind) (xs : List PrintItem) → P n size limit span → AllOf (PrintItemIn n size limit) xs → StmtIn n size limit (stm.Print span kind xs)
  unfolding roll-Stmt denote.Hole.Carrier.roll
  print_node span kind xs p h = stmt_layer_in (node.Print span kind xs) (p, each_in n size limit item_spans xs h)

  pub local_node : (span : Span) (kind : LocalKind) (b : Bind) (ty : Option TypeExpr) (a : Expr) → P n size limit span → BindIn n size limit b → in_opt (TypeExprIn n size limit) ty → ExprIn n size limit a → StmtIn n size limit (stm.Local span kind b ty a)
  unfolding roll-Stmt denote.Hole.Carrier.roll
  local_node span kind b ty a p h k l = stmt_layer_in (node.Local span kind b ty a) (p, (h, (each_maybe_in n size limit type_spans ty k, l)))

  pub local_vars_node : (span : Span) (is : List Ident) (ty : TypeExpr) → P n size limit span → AllOf (IdentIn n size limit) is → TypeExprIn n size limit ty → StmtIn n size limit (stm.LocalVars span is ty)
  unfolding roll-Stmt denote.Hole.Carrier.roll
  local_vars_node span is ty p h k = stmt_layer_in (node.LocalVars span is ty) (p, (each_names_in n size limit is h, k))

  pub assign_node : (span : Span) (target : Target) (a : Expr) → P n size limit span → TargetIn n size limit target → ExprIn n size limit a → StmtIn n size limit (stm.Assign span target a)
  unfolding roll-Stmt denote.Hole.Carrier.roll
  assign_node span target a p h k = stmt_layer_in (node.Assign span target a) (p, (h, k))

  pub invoke_node : (span : Span) (i : Ident) (ps es : List Expr) → P n size limit span → IdentIn n size limit i → AllOf (ExprIn n size limit) ps → AllOf (ExprIn n size limit) es → StmtIn n size limit (stm.Invoke span i ps es)
  unfolding roll-Stmt denote.Hole.Carrier.roll
  invoke_node span i ps es p h k l = stmt_layer_in (node.Invoke span i ps es) (p, (h, (each_in n size limit expr_spans ps k, each_in n size limit expr_spans es l)))

  pub if_node : (span : Span) (c : Expr) (ss : List Stmt) (others : List ElseIf) (last : List Stmt) → P n size limit span → ExprIn n size limit c → AllOf (StmtIn n size limit) ss → AllOf (ElseIfIn n size limit) others → AllOf (StmtIn n size limit) last → StmtIn n size limit (stm.If span c ss others last)
  unfolding roll-Stmt denote.Hole.Carrier.roll
  if_node span c ss others last p h k l m = stmt_layer_in (node.If span c ss others last) (p, (h, (each_in n size limit stmt_spans ss k, (each_in n size limit branch_spans others l, each_in n size limit stmt_spans last m))))

  pub case_node : (span : Span) (a : Expr) (xs : List Alternative) (last : Otherwise) → P n size limit span → ExprIn n size limit a → AllOf (AlternativeIn n size limit) xs → OtherwiseIn n size limit last → StmtIn n size limit (stm.Case span a xs last)
  unfolding roll-Stmt denote.Hole.Carrier.roll
  case_node span a xs last p h k l = stmt_layer_in (node.Case span a xs last) (p, (h, (each_in n size limit alternative_spans xs k, l)))

  pub for_node : (span : Span) (i : Ident) (a : Expr) (direction : Direction) (b : Expr) (most : Option Expr) (ss : List Stmt) → P n size limit span → IdentIn n size limit i → ExprIn n size limit a → ExprIn n size limit b → in_opt (ExprIn n size limit) most → AllOf (StmtIn n size limit) ss → StmtIn n size limit (stm.For span i a direction b most ss)
  unfolding roll-Stmt denote.Hole.Carrier.roll
  for_node span i a direction b most ss p h k l m o = stmt_layer_in (node.For span i a direction b most ss) (p, (h, (k, (l, (each_maybe_in n size limit expr_spans most m, each_in n size limit stmt_spans ss o)))))

  pub while_node : (span : Span) (c : Expr) (most : Option Expr) (ss : List Stmt) → P n size limit span → ExprIn n size limit c → in_opt (ExprIn n size limit) most → AllOf (StmtIn n size limit) ss → StmtIn n size limit (stm.While span c most ss)
  unfolding roll-Stmt denote.Hole.Carrier.roll
  while_node span c most ss p h k l = stmt_layer_in (node.While span c most ss) (p, (h, (each_maybe_in n size limit expr_spans most k, each_in n size limit stmt_spans ss l)))

  pub repeat_node : (span : Span) (ss : List Stmt) (c : Expr) (most : Option Expr) → P n size limit span → AllOf (StmtIn n size limit) ss → ExprIn n size limit c → in_opt (ExprIn n size limit) most → StmtIn n size limit (stm.Repeat span ss c most)
  unfolding roll-Stmt denote.Hole.Carrier.roll
  repeat_node span ss c most p h k l = stmt_layer_in (node.Repeat span ss c most) (p, (each_in n size limit stmt_spans ss h, (k, each_maybe_in n size limit expr_spans most l)))

  pub return_node : (span : Span) (a : Option Expr) → P n size limit span → in_opt (ExprIn n size limit) a → StmtIn n size limit (stm.Return span a)
  unfolding roll-Stmt denote.Hole.Carrier.roll
  return_node span a p h = stmt_layer_in (node.Return span a) (p, each_maybe_in n size limit expr_spans a h)

  pub throw_node : (span : Span) (a : Option Expr) → P n size limit span → in_opt (ExprIn n size limit) a → StmtIn n size limit (stm.Throw span a)
  unfolding roll-Stmt denote.Hole.Carrier.roll
  throw_node span a p h = stmt_layer_in (node.Throw span a) (p, each_maybe_in n size limit expr_spans a h)

  pub try_node : (span : Span) (ss : List Stmt) (cs : List Catcher) (last : Otherwise) → P n size limit span → AllOf (StmtIn n size limit) ss → AllOf (CatcherIn n size limit) cs → OtherwiseIn n size limit last → StmtIn n size limit (stm.Try span ss cs last)
  unfolding roll-Stmt denote.Hole.Carrier.roll
  try_node span ss cs last p h k l = stmt_layer_in (node.Try span ss cs last) (p, (each_in n size limit stmt_spans ss h, (each_in n size limit catcher_spans cs k, l)))

  -- ---- parts of statements

  pub when_node : (ps : List Pattern) (a : Option Expr) (ss : List Stmt) → AllOf (PatternIn n size limit) ps → in_opt (ExprIn n size limit) a → AllOf (StmtIn n size limit) ss → AlternativeIn n size limit (al.When ps a ss)
  unfolding roll-Alternative denote.Hole.Carrier.roll
  when_node ps a ss h k l = alternative_layer_in (node.When ps a ss) (each_in n size limit pattern_spans ps h, (each_maybe_in n size limit expr_spans a k, each_in n size limit stmt_spans ss l))

  pub catch_node : (i : Option Ident) (ty : Ident) (ss : List Stmt) → in_opt (IdentIn n size limit) i → IdentIn n size limit ty → AllOf (StmtIn n size limit) ss → CatcherIn n size limit (ca.Catch i ty ss)
  unfolding roll-Catcher denote.Hole.Carrier.roll
  catch_node i ty ss h k l = catcher_layer_in (node.Catch i ty ss) (each_maybe_in n size limit of_name i h, (k, each_in n size limit stmt_spans ss l))

  pub else_if_node : (c : Expr) (ss : List Stmt) → ExprIn n size limit c → AllOf (StmtIn n size limit) ss → ElseIfIn n size limit (ei.ElseIf c ss)
  unfolding roll-ElseIf denote.Hole.Carrier.roll
  else_if_node c ss h k = branch_layer_in (node.ElseIf c ss) (h, each_in n size limit stmt_spans ss k)

  pub no_otherwise_node : OtherwiseIn n size limit ot.NoOtherwise
  unfolding roll-Otherwise denote.Hole.Carrier.roll
  no_otherwise_node = otherwise_layer_in node.NoOtherwise tt

  pub otherwise_node : (ss : List Stmt) → AllOf (StmtIn n size limit) ss → OtherwiseIn n size limit (ot.Otherwise ss)
  unfolding roll-Otherwise denote.Hole.Carrier.roll
  otherwise_node ss h = otherwise_layer_in (node.Otherwise ss) (each_in n size limit stmt_spans ss h)

  -- ---- binds

  pub several_node : (span : Span) (xs : List Binder) → P n size limit span → AllOf (BinderIn n size limit) xs → BindIn n size limit (bi.Several span xs)
  several_node span xs p h = (p, each_in n size limit binder_spans xs h)

  -- ---- declarations

  pub labels_node : (span : Span) (is : List Ident) → P n size limit span → AllOf (IdentIn n size limit) is → TypeDefIn n size limit (td.Labels span is)
  labels_node span is p h = (p, each_names_in n size limit is h)

  pub record_node : (span : Span) (fs : List Formal) → P n size limit span → AllOf (FormalIn n size limit) fs → TypeDefIn n size limit (td.Record span fs)
  record_node span fs p h = (p, each_in n size limit formal_spans fs h)

  pub exception_node : (span : Span) (fs : List Formal) → P n size limit span → AllOf (FormalIn n size limit) fs → TypeDefIn n size limit (td.Exception span fs)
  exception_node span fs p h = (p, each_in n size limit formal_spans fs h)

  pub param_node : (x : Param) → IdentIn n size limit x.name → in_opt (TypeExprIn n size limit) x.ty → ParamIn n size limit x
  param_node x h k = (h, each_maybe_in n size limit type_spans x.ty k)

  pub type_node : (d : TypeDecl) → P n size limit d.span → IdentIn n size limit d.name → TypeDefIn n size limit d.def → in_opt (IdentIn n size limit) d.supertype → DeclIn n size limit (dc.Type d)
  type_node d p h k l = (p, (h, (k, each_maybe_in n size limit of_name d.supertype l)))

  pub storage_node : (d : StorageDecl) → P n size limit d.span → IdentIn n size limit d.name → in_opt (TypeExprIn n size limit) d.ty → in_opt (ExprIn n size limit) d.init → DeclIn n size limit (dc.Storage d)
  storage_node d p h k l = (p, (h, (each_maybe_in n size limit type_spans d.ty k, each_maybe_in n size limit expr_spans d.init l)))

  pub func_node : (f : Func) → P n size limit f.span → IdentIn n size limit f.name → AllOf (ParamIn n size limit) f.params → AllOf (FormalIn n size limit) f.formals → in_opt (TypeExprIn n size limit) f.result → in_opt (ExprIn n size limit) f.limit → AllOf (StmtIn n size limit) f.body → DeclIn n size limit (dc.Func f)
  func_node f p h k l m o u =
      (p, (h, (each_in n size limit param_spans f.params k, (each_in n size limit formal_spans f.formals l, (each_maybe_in n size limit type_spans f.result m, (each_maybe_in n size limit expr_spans f.limit o, each_in n size limit stmt_spans f.body u))))))
