-- Each form of statement and declaration as it is read: the spans of what it is written out as lie in the file, where those of its
-- parts do.
use Rattle.std.proofs.Common.{ℕ, ◌≤◌, suc, List, [], ◌∷◌, map, Option, None, sym, subst}
use Rattle.asl_syn.specs.declared.token.Span.{Span}
use Rattle.asl_syn.specs.declared.tree.Ident.{Ident}
use Rattle.asl_syn.specs.declared.tree.Bitfield.{Bitfield}
use Rattle.asl_syn.specs.declared.tree.ConstraintPart.{ConstraintPart}
use Rattle.asl_syn.specs.declared.tree.Expr.{Expr, out-Expr}
use Rattle.asl_syn.specs.declared.tree.Expr.TheVariants as ex
use Rattle.asl_syn.specs.declared.tree.FieldValue.{FieldValue}
use Rattle.asl_syn.specs.declared.tree.Pattern.{Pattern}
use Rattle.asl_syn.specs.declared.tree.Slice.{Slice}
use Rattle.asl_syn.specs.declared.tree.TypeExpr.{TypeExpr}
use Rattle.asl_syn.specs.declared.tree.Bitfield.TheOpen as layer
use Rattle.asl_syn.specs.declared.tree.Bitfield.TheFolds.{fold_out-Expr, map-Expr}
use Rattle.asl_syn.specs.declared.tree.PlacedSuffix.{PlacedSuffix}
use Rattle.asl_syn.specs.declared.tree.Binder.TheVariants as bd
use Rattle.asl_syn.specs.declared.tree.Bind.TheVariants as bi
use Rattle.asl_syn.specs.declared.tree.LocalKind.TheVariants as lk
use Rattle.asl_syn.specs.declared.tree.Direction.{Direction}
use Rattle.asl_syn.specs.declared.tree.Stmt.{Stmt}
use Rattle.asl_syn.specs.declared.tree.ElseIf.{ElseIf}
use Rattle.asl_syn.specs.declared.tree.Alternative.{Alternative}
use Rattle.asl_syn.specs.declared.tree.Otherwise.{Otherwise}
use Rattle.asl_syn.specs.declared.tree.Catcher.{Catcher}
use Rattle.asl_syn.specs.declared.tree.TypeDecl.{TypeDecl}
use Rattle.asl_syn.specs.declared.tree.StorageDecl.{StorageDecl}
use Rattle.asl_syn.specs.declared.read.ReadStmt.{ReadStmt, roll-ReadStmt}
use Rattle.asl_syn.specs.declared.read.ReadStmt.TheVariants as rs
use Rattle.asl_syn.specs.declared.read.ReadElseIf.{ReadElseIf, roll-ReadElseIf}
use Rattle.asl_syn.specs.declared.read.ReadElseIf.TheVariants as re
use Rattle.asl_syn.specs.declared.read.ReadAlternative.{ReadAlternative, roll-ReadAlternative}
use Rattle.asl_syn.specs.declared.read.ReadAlternative.TheVariants as ra
use Rattle.asl_syn.specs.declared.read.ReadOtherwise.{ReadOtherwise, roll-ReadOtherwise}
use Rattle.asl_syn.specs.declared.read.ReadOtherwise.TheVariants as ro
use Rattle.asl_syn.specs.declared.read.ReadCatcher.{ReadCatcher, roll-ReadCatcher}
use Rattle.asl_syn.specs.declared.read.ReadCatcher.TheVariants as rc
use Rattle.asl_syn.specs.declared.read.ReadAlternative.TheOpen as node
use Rattle.asl_syn.specs.declared.read.ReadAlternative.TheFolds.{fold-roll-ReadAlternative, fold-roll-ReadCatcher, fold-roll-ReadElseIf, fold-roll-ReadOtherwise, fold-roll-ReadStmt, map-ReadAlternative, map-ReadCatcher, map-ReadElseIf, map-ReadOtherwise, map-ReadStmt}
use Rattle.asl_syn.specs.declared.read.ReadFunc.{ReadFunc}
use Rattle.asl_syn.specs.declared.read.Accessor.{Accessor}
use Rattle.asl_syn.specs.declared.read.ReadDecl.TheVariants as rd
use Rattle.asl_syn.specs.Layers.{ExprLayer}
use Rattle.asl_rules.specs.expressions.Exprs.{span_of, expr_span}
use Rattle.asl_rules.specs.declarations.WrittenOut.{made_value, made_place, ident, values_bound, values_named, stored_to, place_stored, stored, joined, stmt_layer_written, else_if_layer_written, alternative_layer_written, catcher_layer_written, otherwise_layer_written, stmt_written, else_if_written, alternative_written, catcher_written, otherwise_written, list_written, func_written, getter_of, setter_of}
use Rattle.asl_laws.proofs.basics.Lists.{AllOf}
use Rattle.asl_laws.specs.Spans.{Spans, Each, in_bitfield, in_part, in_expr, in_field, in_pattern, in_slice, in_type, bitfield_spans, part_spans, expr_spans, given_spans, pattern_spans, slice_spans, type_spans}
use Rattle.asl_laws.proofs.reading.Inside.{in_opt, between_in}
use Rattle.asl_laws.proofs.reading.Predicates.{P, MarkIn, IdentIn, ExprIn, TypeExprIn, PatternIn, PlacedSuffixIn, TargetIn, StmtIn, ElseIfIn, AlternativeIn, OtherwiseIn, CatcherIn, FormalIn, ParamIn, TypeDefIn, ReadStmtIn, ReadElseIfIn, ReadAlternativeIn, ReadOtherwiseIn, ReadCatcherIn, ReadDeclIn, span_from, append_in}
use Rattle.asl_laws.proofs.reading.Nodes.{name_node, call_node}
use Rattle.asl_laws.proofs.reading.StmtNodes.{place_node, local_node, assign_node, invoke_node, if_node, case_node, for_node, while_node, repeat_node, try_node, else_if_node, when_node, no_otherwise_node, otherwise_node, catch_node, type_node, storage_node, func_node}

-- what holds of each of lists holds of each of them, one behind the other
pub joined_lists_in : {A B : Type 0} (S : B → Type 0) (f : A → List B) (xs : List A) → AllOf (λ x. AllOf S (f x)) xs → AllOf S (joined (map f xs))
joined_lists_in S f [] h = tt
joined_lists_in S f (x ∷ xs) h = append_in S (f x) (joined (map f xs)) h.0 (joined_lists_in S f xs h.1)

mapped_in : {A B : Type 0} (S : B → Type 0) (f : A → B) (xs : List A) → AllOf (λ x. S (f x)) xs → AllOf S (map f xs)
mapped_in S f [] h = tt
mapped_in S f (x ∷ xs) h = (h.0, mapped_in S f xs h.1)

module _ (n size limit : ℕ) where
  -- ---- where expressions stand

  layer_place : (l : ExprLayer) → Each (MarkIn n size limit) (in_expr (map-Expr Bitfield ConstraintPart Expr FieldValue Pattern Slice TypeExpr Spans Spans Spans Spans Spans Spans Spans bitfield_spans part_spans expr_spans given_spans pattern_spans slice_spans type_spans l)) → P n size limit (span_of l)
  layer_place (layer.Int span i) h = h
  layer_place (layer.Bool span b) h = h
  layer_place (layer.Name span name) h = h
  layer_place (layer.Bits span text) h = h.0
  layer_place (layer.Unary span o a) h = h.0
  layer_place (layer.Binary span o a b) h = h.0
  layer_place (layer.Conditional span c a b) h = h.0
  layer_place (layer.Tuple span es) h = h.0
  layer_place (layer.Construct span i fs) h = h.0
  layer_place (layer.Call span i ps es) h = h.0
  layer_place (layer.Field span a i) h = h.0
  layer_place (layer.Fields span a is) h = h.0
  layer_place (layer.Slices span a ss) h = h.0
  layer_place (layer.Element span a i) h = h.0
  layer_place (layer.As span a t) h = h.0
  layer_place (layer.In span a p) h = h.0

  expr_place : (e : Expr) → ExprIn n size limit e → P n size limit (expr_span e)
  expr_place e h = layer_place (out-Expr e) (subst (Each (MarkIn n size limit)) (fold_out-Expr Spans Spans Spans Spans Spans Spans Spans in_bitfield in_part in_expr in_field in_pattern in_slice in_type e) h)

  -- ---- a statement that stores through an accessor

  values_bound_in : (at : Span) (k : ℕ) (es : List Expr) → P n size limit at → AllOf (ExprIn n size limit) es → AllOf (StmtIn n size limit) (values_bound at k es)
  values_bound_in at k [] p h = tt
  values_bound_in at k (e ∷ es) p h =
      (local_node n size limit at lk.Let (bi.Single (bd.Bound (ident (expr_span e) (made_value at k)))) None e p (expr_place e h.0) tt h.0, values_bound_in at (suc k) es p h.1)

  values_named_in : (at : Span) (k : ℕ) (es : List Expr) → AllOf (ExprIn n size limit) es → AllOf (ExprIn n size limit) (values_named at k es)
  values_named_in at k [] h = tt
  values_named_in at k (e ∷ es) h = (name_node n size limit (expr_span e) (made_value at k) (expr_place e h.0), values_named_in at (suc k) es h.1)

  stored_to_in : (i : Ident) (end : ℕ) (xs : List PlacedSuffix) → IdentIn n size limit i → end ≤ size → AllOf (PlacedSuffixIn n size limit) xs → P n size limit (stored_to i end xs)
  stored_to_in i end [] h le k = between_in n size i.span end h.0 (span_from n size limit i.span h).1 le
  stored_to_in i end (x ∷ xs) h le k = stored_to_in i x.end xs h k.0.1 k.1

  place_stored_in : (at : Span) (i : Ident) (x : PlacedSuffix) (xs : List PlacedSuffix) → IdentIn n size limit i → AllOf (PlacedSuffixIn n size limit) (x ∷ xs) → TargetIn n size limit (place_stored at i x xs)
  place_stored_in at i x xs h k = place_node n size limit (stored_to i x.end xs) (ident i.span (made_place at)) (x ∷ xs) (stored_to_in i x.end xs h k.0.1 k.1) h k

  stored_in : (at : Span) (i : Ident) (ps es : List Expr) (xs : List PlacedSuffix) (e : Expr) → P n size limit at → IdentIn n size limit i → AllOf (ExprIn n size limit) ps → AllOf (ExprIn n size limit) es → AllOf (PlacedSuffixIn n size limit) xs → ExprIn n size limit e → AllOf (StmtIn n size limit) (stored at i ps es xs e)
  stored_in at i ps es [] e p h k l m o = (invoke_node n size limit at i ps (e ∷ es) p h k (o, l), tt)
  stored_in at i ps es (x ∷ xs) e p h k l m o =
      let named = values_named_in at 1 es l in
      append_in (StmtIn n size limit) (values_bound at 0 (e ∷ es)) _ (values_bound_in at 0 (e ∷ es) p (o, l)) (
        local_node n size limit at lk.Var (bi.Single (bd.Bound (ident at (made_place at)))) None (ex.Call at i ps (values_named at 1 es)) p p tt (call_node n size limit at i ps (values_named at 1 es) p h k named),
        (
          assign_node n size limit at (place_stored at i x xs) (ex.Name (expr_span e) (made_value at 0)) p (place_stored_in at i x xs h m) (name_node n size limit (expr_span e) (made_value at 0) (expr_place e o)),
          (invoke_node n size limit at i ps (ex.Name at (made_place at) ∷ values_named at 1 es) p h k (name_node n size limit at (made_place at) p, named), tt),
        ),
      )

  -- ---- one layer

  read_stmt_layer_in : (x : node.ReadStmt-F ReadAlternative ReadCatcher ReadElseIf ReadOtherwise ReadStmt) → AllOf (StmtIn n size limit) (stmt_layer_written (map-ReadStmt ReadAlternative ReadCatcher ReadElseIf ReadOtherwise ReadStmt Alternative Catcher ElseIf Otherwise (List Stmt) alternative_written catcher_written else_if_written otherwise_written stmt_written x)) → ReadStmtIn n size limit (roll-ReadStmt x)
  read_stmt_layer_in x h = subst (AllOf (StmtIn n size limit)) (sym (fold-roll-ReadStmt Alternative Catcher ElseIf Otherwise (List Stmt) alternative_layer_written catcher_layer_written else_if_layer_written otherwise_layer_written stmt_layer_written x)) h

  read_else_if_layer_in : (x : node.ReadElseIf-F ReadAlternative ReadCatcher ReadElseIf ReadOtherwise ReadStmt) → ElseIfIn n size limit (else_if_layer_written (map-ReadElseIf ReadAlternative ReadCatcher ReadElseIf ReadOtherwise ReadStmt Alternative Catcher ElseIf Otherwise (List Stmt) alternative_written catcher_written else_if_written otherwise_written stmt_written x)) → ReadElseIfIn n size limit (roll-ReadElseIf x)
  read_else_if_layer_in x h = subst (ElseIfIn n size limit) (sym (fold-roll-ReadElseIf Alternative Catcher ElseIf Otherwise (List Stmt) alternative_layer_written catcher_layer_written else_if_layer_written otherwise_layer_written stmt_layer_written x)) h

  read_alternative_layer_in : (x : node.ReadAlternative-F ReadAlternative ReadCatcher ReadElseIf ReadOtherwise ReadStmt) → AlternativeIn n size limit (alternative_layer_written (map-ReadAlternative ReadAlternative ReadCatcher ReadElseIf ReadOtherwise ReadStmt Alternative Catcher ElseIf Otherwise (List Stmt) alternative_written catcher_written else_if_written otherwise_written stmt_written x)) → ReadAlternativeIn n size limit (roll-ReadAlternative x)
  read_alternative_layer_in x h = subst (AlternativeIn n size limit) (sym (fold-roll-ReadAlternative Alternative Catcher ElseIf Otherwise (List Stmt) alternative_layer_written catcher_layer_written else_if_layer_written otherwise_layer_written stmt_layer_written x)) h

  read_catcher_layer_in : (x : node.ReadCatcher-F ReadAlternative ReadCatcher ReadElseIf ReadOtherwise ReadStmt) → CatcherIn n size limit (catcher_layer_written (map-ReadCatcher ReadAlternative ReadCatcher ReadElseIf ReadOtherwise ReadStmt Alternative Catcher ElseIf Otherwise (List Stmt) alternative_written catcher_written else_if_written otherwise_written stmt_written x)) → ReadCatcherIn n size limit (roll-ReadCatcher x)
  read_catcher_layer_in x h = subst (CatcherIn n size limit) (sym (fold-roll-ReadCatcher Alternative Catcher ElseIf Otherwise (List Stmt) alternative_layer_written catcher_layer_written else_if_layer_written otherwise_layer_written stmt_layer_written x)) h

  read_otherwise_layer_in : (x : node.ReadOtherwise-F ReadAlternative ReadCatcher ReadElseIf ReadOtherwise ReadStmt) → OtherwiseIn n size limit (otherwise_layer_written (map-ReadOtherwise ReadAlternative ReadCatcher ReadElseIf ReadOtherwise ReadStmt Alternative Catcher ElseIf Otherwise (List Stmt) alternative_written catcher_written else_if_written otherwise_written stmt_written x)) → ReadOtherwiseIn n size limit (roll-ReadOtherwise x)
  read_otherwise_layer_in x h = subst (OtherwiseIn n size limit) (sym (fold-roll-ReadOtherwise Alternative Catcher ElseIf Otherwise (List Stmt) alternative_layer_written catcher_layer_written else_if_layer_written otherwise_layer_written stmt_layer_written x)) h

  -- ---- lists

  list_in : (ss : List ReadStmt) → AllOf (ReadStmtIn n size limit) ss → AllOf (StmtIn n size limit) (list_written ss)
  list_in ss h = joined_lists_in (StmtIn n size limit) stmt_written ss h

  -- ---- statements

  pub read_simple_node : (s : Stmt) → StmtIn n size limit s → ReadStmtIn n size limit (rs.Simple s)
  unfolding roll-ReadStmt denote.Hole.Carrier.roll
  read_simple_node s h = read_stmt_layer_in (node.Simple s) (h, tt)

  pub read_store_node : (at : Span) (i : Ident) (ps es : List Expr) (xs : List PlacedSuffix) (e : Expr) → P n size limit at → IdentIn n size limit i → AllOf (ExprIn n size limit) ps → AllOf (ExprIn n size limit) es → AllOf (PlacedSuffixIn n size limit) xs → ExprIn n size limit e → ReadStmtIn n size limit (rs.Store at i ps es xs e)
  unfolding roll-ReadStmt denote.Hole.Carrier.roll
  read_store_node at i ps es xs e p h k l m o = read_stmt_layer_in (node.Store at i ps es xs e) (stored_in at i ps es xs e p h k l m o)

  pub read_if_node : (span : Span) (c : Expr) (ss : List ReadStmt) (others : List ReadElseIf) (last : List ReadStmt) → P n size limit span → ExprIn n size limit c → AllOf (ReadStmtIn n size limit) ss → AllOf (ReadElseIfIn n size limit) others → AllOf (ReadStmtIn n size limit) last → ReadStmtIn n size limit (rs.If span c ss others last)
  unfolding roll-ReadStmt denote.Hole.Carrier.roll
  read_if_node span c ss others last p h k l m =
      read_stmt_layer_in (node.If span c ss others last)
      (if_node n size limit span c (list_written ss) (map else_if_written others) (list_written last) p h (list_in ss k) (mapped_in (ElseIfIn n size limit) else_if_written others l) (list_in last m), tt)

  pub read_case_node : (span : Span) (a : Expr) (xs : List ReadAlternative) (last : ReadOtherwise) → P n size limit span → ExprIn n size limit a → AllOf (ReadAlternativeIn n size limit) xs → ReadOtherwiseIn n size limit last → ReadStmtIn n size limit (rs.Case span a xs last)
  unfolding roll-ReadStmt denote.Hole.Carrier.roll
  read_case_node span a xs last p h k l =
      read_stmt_layer_in (node.Case span a xs last)
      (case_node n size limit span a (map alternative_written xs) (otherwise_written last) p h (mapped_in (AlternativeIn n size limit) alternative_written xs k) l, tt)

  pub read_for_node : (span : Span) (i : Ident) (a : Expr) (direction : Direction) (b : Expr) (most : Option Expr) (ss : List ReadStmt) → P n size limit span → IdentIn n size limit i → ExprIn n size limit a → ExprIn n size limit b → in_opt (ExprIn n size limit) most → AllOf (ReadStmtIn n size limit) ss → ReadStmtIn n size limit (rs.For span i a direction b most ss)
  unfolding roll-ReadStmt denote.Hole.Carrier.roll
  read_for_node span i a direction b most ss p h k l m o =
      read_stmt_layer_in (node.For span i a direction b most ss) (for_node n size limit span i a direction b most (list_written ss) p h k l m (list_in ss o), tt)

  pub read_while_node : (span : Span) (c : Expr) (most : Option Expr) (ss : List ReadStmt) → P n size limit span → ExprIn n size limit c → in_opt (ExprIn n size limit) most → AllOf (ReadStmtIn n size limit) ss → ReadStmtIn n size limit (rs.While span c most ss)
  unfolding roll-ReadStmt denote.Hole.Carrier.roll
  read_while_node span c most ss p h k l = read_stmt_layer_in (node.While span c most ss) (while_node n size limit span c most (list_written ss) p h k (list_in ss l), tt)

  pub read_repeat_node : (span : Span) (ss : List ReadStmt) (c : Expr) (most : Option Expr) → P n size limit span → AllOf (ReadStmtIn n size limit) ss → ExprIn n size limit c → in_opt (ExprIn n size limit) most → ReadStmtIn n size limit (rs.Repeat span ss c most)
  unfolding roll-ReadStmt denote.Hole.Carrier.roll
  read_repeat_node span ss c most p h k l = read_stmt_layer_in (node.Repeat span ss c most) (repeat_node n size limit span (list_written ss) c most p (list_in ss h) k l, tt)

  pub read_try_node : (span : Span) (ss : List ReadStmt) (cs : List ReadCatcher) (last : ReadOtherwise) → P n size limit span → AllOf (ReadStmtIn n size limit) ss → AllOf (ReadCatcherIn n size limit) cs → ReadOtherwiseIn n size limit last → ReadStmtIn n size limit (rs.Try span ss cs last)
  unfolding roll-ReadStmt denote.Hole.Carrier.roll
  read_try_node span ss cs last p h k l =
      read_stmt_layer_in (node.Try span ss cs last)
      (try_node n size limit span (list_written ss) (map catcher_written cs) (otherwise_written last) p (list_in ss h) (mapped_in (CatcherIn n size limit) catcher_written cs k) l, tt)

  -- ---- parts of statements

  pub read_when_node : (ps : List Pattern) (a : Option Expr) (ss : List ReadStmt) → AllOf (PatternIn n size limit) ps → in_opt (ExprIn n size limit) a → AllOf (ReadStmtIn n size limit) ss → ReadAlternativeIn n size limit (ra.When ps a ss)
  unfolding roll-ReadAlternative denote.Hole.Carrier.roll
  read_when_node ps a ss h k l = read_alternative_layer_in (node.When ps a ss) (when_node n size limit ps a (list_written ss) h k (list_in ss l))

  pub read_catch_node : (i : Option Ident) (ty : Ident) (ss : List ReadStmt) → in_opt (IdentIn n size limit) i → IdentIn n size limit ty → AllOf (ReadStmtIn n size limit) ss → ReadCatcherIn n size limit (rc.Catch i ty ss)
  unfolding roll-ReadCatcher denote.Hole.Carrier.roll
  read_catch_node i ty ss h k l = read_catcher_layer_in (node.Catch i ty ss) (catch_node n size limit i ty (list_written ss) h k (list_in ss l))

  pub read_else_if_node : (c : Expr) (ss : List ReadStmt) → ExprIn n size limit c → AllOf (ReadStmtIn n size limit) ss → ReadElseIfIn n size limit (re.ElseIf c ss)
  unfolding roll-ReadElseIf denote.Hole.Carrier.roll
  read_else_if_node c ss h k = read_else_if_layer_in (node.ElseIf c ss) (else_if_node n size limit c (list_written ss) h (list_in ss k))

  pub read_no_otherwise_node : ReadOtherwiseIn n size limit ro.NoOtherwise
  unfolding roll-ReadOtherwise denote.Hole.Carrier.roll
  read_no_otherwise_node = read_otherwise_layer_in node.NoOtherwise (no_otherwise_node n size limit)

  pub read_otherwise_node : (ss : List ReadStmt) → AllOf (ReadStmtIn n size limit) ss → ReadOtherwiseIn n size limit (ro.Otherwise ss)
  unfolding roll-ReadOtherwise denote.Hole.Carrier.roll
  read_otherwise_node ss h = read_otherwise_layer_in (node.Otherwise ss) (otherwise_node n size limit (list_written ss) (list_in ss h))

  -- ---- declarations

  pub read_type_node : (d : TypeDecl) → P n size limit d.span → IdentIn n size limit d.name → TypeDefIn n size limit d.def → in_opt (IdentIn n size limit) d.supertype → ReadDeclIn n size limit (rd.Type d)
  read_type_node d p h k l = (type_node n size limit d p h k l, tt)

  pub read_storage_node : (d : StorageDecl) → P n size limit d.span → IdentIn n size limit d.name → in_opt (TypeExprIn n size limit) d.ty → in_opt (ExprIn n size limit) d.init → ReadDeclIn n size limit (rd.Storage d)
  read_storage_node d p h k l = (storage_node n size limit d p h k l, tt)

  pub read_func_node : (f : ReadFunc) → P n size limit f.span → IdentIn n size limit f.name → AllOf (ParamIn n size limit) f.params → AllOf (FormalIn n size limit) f.formals → in_opt (TypeExprIn n size limit) f.result → in_opt (ExprIn n size limit) f.limit → AllOf (ReadStmtIn n size limit) f.body → ReadDeclIn n size limit (rd.Func f)
  read_func_node f p h k l m o u = (func_node n size limit (func_written f) p h k l m o (list_in f.body u), tt)

  pub read_accessor_node : (a : Accessor) → P n size limit a.span → IdentIn n size limit a.name → AllOf (ParamIn n size limit) a.params → AllOf (FormalIn n size limit) a.formals → FormalIn n size limit a.value → AllOf (ReadStmtIn n size limit) a.getter → AllOf (ReadStmtIn n size limit) a.setter → ReadDeclIn n size limit (rd.Accessor a)
  read_accessor_node a p h k l m o u =
      (func_node n size limit (getter_of a) p h k l m.1 tt (list_in a.getter o), (func_node n size limit (setter_of a) p h k (m, l) tt tt (list_in a.setter u), tt))
