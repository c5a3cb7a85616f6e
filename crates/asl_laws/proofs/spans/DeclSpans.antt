-- Declarations, where nothing is evaluated: faults of names, of types, of signatures, of bodies and of the entry stand at spans of declarations, and have other
-- codes than T04.
use Rattle.std.proofs.Common.{ℕ, false, List, [], ◌∷◌, ◌++◌, map, Option, Some, None}
use Rattle.asl_syn.specs.declared.code.Fault.{Fault}
use Rattle.asl_syn.specs.declared.tree.TypeExpr.{TypeExpr}
use Rattle.asl_syn.specs.declared.tree.Ident.{Ident}
use Rattle.asl_syn.specs.declared.tree.Formal.{Formal}
use Rattle.asl_syn.specs.declared.tree.Param.{Param as WrittenParam}
use Rattle.asl_syn.specs.declared.tree.Stmt.{Stmt}
use Rattle.asl_syn.specs.declared.tree.TypeDef.{TypeDef}
use Rattle.asl_syn.specs.declared.tree.TypeDef.TheVariants as td
use Rattle.asl_syn.specs.declared.tree.TypeDecl.{TypeDecl}
use Rattle.asl_syn.specs.declared.tree.Decl.{Decl}
use Rattle.asl_syn.specs.declared.tree.Decl.TheVariants as dc
use Rattle.asl_rules.specs.declared.effect.Effect.TheVariants.{Pure}
use Rattle.asl_rules.specs.declared.entry.Entry.{Entry}
use Rattle.asl_rules.specs.declared.entry.Entry.TheVariants as entry
use Rattle.asl_rules.specs.Tests.{Tests}
use Rattle.asl_rules.specs.types.Types.{Ty}
use Rattle.asl_rules.specs.declarations.Names.{Declared, declared_as, declared_by, labels_of, all_declared, names_rule}
use Rattle.asl_rules.specs.declarations.Scopes as scopes
use Rattle.asl_rules.specs.declarations.Scopes.{Scope, Signature, Param}
use Rattle.asl_rules.specs.declarations.Uses.{cycles_rule}
use Rattle.asl_rules.specs.statements.Acting.{in_order}
use Rattle.asl_rules.specs.statements.Stmts.{found_stmt}
use Rattle.asl_rules.specs.declarations.Declarations.{fields_written, def_rule, supertype_rule, type_decl_rule}
use Rattle.asl_rules.specs.declarations.Programs.{params_free, formals_free, param_written, params_rule, formals_rule, result_rule, type_is_integer, params_are_integers, Head, overloads_rule, body_rule, bodies_rule, body_of, origin, entry_from, entry_found, entry16_rule, entry_rule, is_decode, main_rule}
use Rattle.asl_laws.proofs.basics.Lists.{AllOf}
use Rattle.asl_laws.specs.Spans.{Each, all_of, maybe, of_name, of_names, type_spans, stmt_spans, formal_spans, param_spans, def_spans, decl_spans}
use Rattle.asl_laws.proofs.spans.SpanLayers.{all_there}
use Rattle.asl_laws.proofs.spans.Standing.{At, Stands, bound, next, steps, Marked}
use Rattle.asl_laws.proofs.spans.ExprSpans.{type_there}
use Rattle.asl_laws.proofs.spans.StmtRows.{StmtStands, order_stands}
use Rattle.asl_laws.proofs.spans.StmtSpans.{stmt_there}

module _ (t : Tests) (P : Fault → Type 0) where
  -- ---- names

  pub DeclaredStands : Declared → Type 0
  DeclaredStands d = At P d.name.span

  both_stand : (ds es : List Declared) → AllOf DeclaredStands ds → AllOf DeclaredStands es → AllOf DeclaredStands (ds ++ es)
  both_stand [] es h k = k
  both_stand (d ∷ ds) es h k = (h.0, both_stand ds es h.1 k)

  labels_stand : (is : List Ident) → Each (Marked P t) (of_names is) → AllOf DeclaredStands (map (declared_as false) is)
  unfolding DeclaredStands
  labels_stand [] h = tt
  labels_stand (i ∷ is) h = (h.0, labels_stand is h.1)

  def_labels : (d : TypeDef) → Each (Marked P t) (def_spans d) → AllOf DeclaredStands (map (declared_as false) (labels_of d))
  def_labels (td.Alias ty) h = tt
  def_labels (td.Labels span is) h = labels_stand is h.1
  def_labels (td.Record span fs) h = tt
  def_labels (td.Exception span fs) h = tt

  declared_stand : (d : Decl) → Each (Marked P t) (decl_spans d) → AllOf DeclaredStands (declared_by d)
  unfolding DeclaredStands
  declared_stand (dc.Type d) h = (h.1.0, def_labels d.def h.1.1.0)
  declared_stand (dc.Storage d) h = (h.1.0, tt)
  declared_stand (dc.Func f) h = (h.1.0, tt)

  pub all_declared_stand : (ds : List Decl) → Each (Marked P t) (all_of decl_spans ds) → AllOf DeclaredStands (all_declared ds)
  all_declared_stand [] h = tt
  all_declared_stand (d ∷ ds) h = both_stand (declared_by d) (all_declared ds) (declared_stand d h.0) (all_declared_stand ds h.1)

  pub names_stand : (before ds : List Declared) → AllOf DeclaredStands ds → Stands P (names_rule before ds)
  unfolding DeclaredStands
  names_stand before [] h = tt
  names_stand before (d ∷ ds) h = search (steps, names_stand (before ++ d ∷ []) ds h.1)

  pub cycles_stand : (all ds : List Decl) → Each (Marked P t) (all_of decl_spans ds) → Stands P (cycles_rule all ds)
  cycles_stand all [] h = tt
  cycles_stand all (dc.Type d ∷ ds) h = search (steps, cycles_stand all ds h.1)
  cycles_stand all (dc.Storage d ∷ ds) h = search (steps, cycles_stand all ds h.1)
  cycles_stand all (dc.Func f ∷ ds) h = cycles_stand all ds h.1

  -- ---- types

  fields_stand : (fs : List Formal) (G : Scope) → Each (Marked P t) (all_of formal_spans fs) → Stands P (fields_written t fs G)
  fields_stand [] G h = tt
  fields_stand (f ∷ fs) G h = let k = type_there t P f.ty h.0.1 in search (steps, k.written_at, fields_stand fs G h.1)

  def_stands : (name : List ℕ) (d : TypeDef) (G : Scope) → Each (Marked P t) (def_spans d) → Stands P (def_rule t name d G)
  def_stands name (td.Alias ty) G h = let k = type_there t P ty h in search (steps, k.written_at)
  def_stands name (td.Labels span is) G h = tt
  def_stands name (td.Record span fs) G h = search (steps, fields_stand) depth 10
  def_stands name (td.Exception span fs) G h = search (steps, fields_stand) depth 10

  supertype_stands : (o : Option Ident) (T : Ty) (G : Scope) → Each (Marked P t) (maybe of_name o) → Stands P (supertype_rule t o T G)
  supertype_stands None T G h = tt
  supertype_stands (Some i) T G h = search steps depth 10

  pub type_decl_stands : (d : TypeDecl) (G : Scope) → Each (Marked P t) (def_spans d.def) → Each (Marked P t) (maybe of_name d.supertype) → Stands P (type_decl_rule t d G)
  type_decl_stands d G h k = search (steps, def_stands, supertype_stands) depth 10

  -- ---- signatures

  pub params_free_stand : (ps : List WrittenParam) (before : List (List ℕ)) (names : List scopes.Entry) → Each (Marked P t) (all_of param_spans ps) → Stands P (params_free ps before names)
  params_free_stand [] before names h = tt
  params_free_stand (p ∷ ps) before names h = search (steps, params_free_stand ps (before ++ p.name.text ∷ []) names h.1)

  pub formals_free_stand : (fs : List Formal) (before : List (List ℕ)) (names : List scopes.Entry) → Each (Marked P t) (all_of formal_spans fs) → Stands P (formals_free fs before names)
  formals_free_stand [] before names h = tt
  formals_free_stand (f ∷ fs) before names h = search (steps, formals_free_stand fs (before ++ f.name.text ∷ []) names h.1)

  param_stands : (ty : Option TypeExpr) (names : List scopes.Entry) → Each (Marked P t) (maybe type_spans ty) → Stands P (param_written t ty names)
  param_stands None names h = tt
  param_stands (Some ty) names h = let w = type_there t P ty h in search (steps, w.written_at)

  pub params_stand : (ps : List WrittenParam) (before : List Param) (names : List scopes.Entry) → Each (Marked P t) (all_of param_spans ps) → Stands P (params_rule t ps before names)
  params_stand [] before names h = tt
  params_stand (p ∷ ps) before names h = bound P (param_written t p.ty names) _ (param_stands p.ty names h.0.1) (λ T. params_stand ps _ _ h.1)

  pub formals_stand : (fs : List Formal) (names : List scopes.Entry) → Each (Marked P t) (all_of formal_spans fs) → Stands P (formals_rule t fs names)
  formals_stand [] names h = tt
  formals_stand (f ∷ fs) names h = let w = type_there t P f.ty h.0.1 in search (steps, w.written_at, formals_stand fs names h.1)

  pub result_stands : (ty : Option TypeExpr) (names : List scopes.Entry) → Each (Marked P t) (maybe type_spans ty) → Stands P (result_rule t ty names)
  result_stands None names h = tt
  result_stands (Some ty) names h = let w = type_there t P ty h in search (steps, w.written_at)

  one_integer : (ty : Option TypeExpr) (T : Option Ty) → Each (Marked P t) (maybe type_spans ty) → Stands P (type_is_integer t ty T)
  one_integer (Some ty) (Some T) h = let w = type_there t P ty h in search (steps, w.at)
  one_integer (Some ty) None h = tt
  one_integer None T h = tt

  pub integers_stand : (ps : List WrittenParam) (qs : List Param) → Each (Marked P t) (all_of param_spans ps) → Stands P (params_are_integers t ps qs)
  integers_stand (p ∷ ps) (q ∷ qs) h = next P (type_is_integer t p.ty q.ty) (params_are_integers t ps qs) (one_integer p.ty q.ty h.0.1) (integers_stand ps qs h.1)
  integers_stand (p ∷ ps) [] h = tt
  integers_stand [] qs h = tt

  abbrev pub HeadStands : Head → Type 0
  HeadStands h = At P h.func.name.span × Each (Marked P t) (all_of stmt_spans h.func.body)

  pub overloads_stand : (before : List Signature) (hs : List Head) → AllOf HeadStands hs → Stands P (overloads_rule before hs)
  overloads_stand before [] h = tt
  overloads_stand before (x ∷ hs) h = search (steps, overloads_stand (before ++ x.signature ∷ []) hs h.1)

  -- ---- bodies

  statements_there : (ss : List Stmt) → Each (Marked P t) (all_of stmt_spans ss) → AllOf (StmtStands t P) (map (found_stmt t) ss)
  statements_there = all_there (Marked P t) stmt_spans (found_stmt t) (StmtStands t P) (stmt_there t P)

  body_stands : (subs : List Signature) (x : Head) → HeadStands x → Stands P (body_rule t subs x)
  body_stands subs x h = bound P (in_order (map (found_stmt t) x.func.body) Pure (body_of subs x)) _ (order_stands t P (map (found_stmt t) x.func.body) Pure (body_of subs x) (statements_there x.func.body h.1)) (λ l. search steps)

  pub bodies_stand : (subs : List Signature) (hs : List Head) → AllOf HeadStands hs → Stands P (bodies_rule t subs hs)
  bodies_stand subs [] h = tt
  bodies_stand subs (x ∷ hs) h = bound P (body_rule t subs x) _ (body_stands subs x h.0) (λ f. bound P (bodies_rule t subs hs) _ (bodies_stand subs hs h.1) (λ fs. tt))

  -- ---- the entry

  entry_found_stands : (o : Option ℕ) → At P origin → Stands P (entry_found o)
  entry_found_stands None p = search steps
  entry_found_stands (Some n) p = tt

  main_stands : (o : Option ℕ) → At P origin → Stands P (main_rule o)
  main_stands o p = bound P (entry_found o) _ (entry_found_stands o p) (λ main. tt)

  entry16_stands : (main o : Option ℕ) → At P origin → Stands P (entry16_rule main o)
  entry16_stands main o p = bound P (entry_found o) _ (entry_found_stands o p) (λ entry16. tt)

  pub entry_stands : (e : Entry) (fs : List Signature) → At P origin → Stands P (entry_rule e fs)
  entry_stands entry.None fs p = tt
  entry_stands entry.Main fs p = main_stands _ p
  entry_stands entry.Decode fs p = main_stands _ p
  entry_stands entry.Decode16 fs p = entry16_stands None _ p
  entry_stands entry.Both fs p = bound P (entry_found (entry_from is_decode 0 fs)) _ (entry_found_stands _ p) (λ main. entry16_stands main _ p)
