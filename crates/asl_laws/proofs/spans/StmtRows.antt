-- What the rules of statements are made of: faults stand at spans that are given, or at those of parts, and have other codes than T04.
use Rattle.std.specs.Prelude.{ℕ, List, [], ◌∷◌, ◌++◌, Option, Some, None, Result}
use Rattle.asl_syn.specs.declared.token.Span.{Span}
use Rattle.asl_syn.specs.declared.code.Fault.{Fault}
use Rattle.asl_syn.specs.declared.tree.Expr.{Expr}
use Rattle.asl_syn.specs.declared.tree.TypeExpr.{TypeExpr}
use Rattle.asl_syn.specs.declared.tree.Pattern.{Pattern}
use Rattle.asl_syn.specs.declared.tree.Ident.{Ident}
use Rattle.asl_syn.specs.declared.tree.LocalKind.{LocalKind}
use Rattle.asl_syn.specs.declared.tree.PrintItem.{PrintItem}
use Rattle.asl_syn.specs.declared.tree.PrintItem.TheVariants.{Verbatim, Shown}
use Rattle.asl_syn.specs.declared.tree.Binder.{Binder}
use Rattle.asl_syn.specs.declared.tree.Binder.TheVariants.{Bound, Unbound}
use Rattle.asl_syn.specs.declared.tree.Bind.{Bind}
use Rattle.asl_syn.specs.declared.tree.Bind.TheVariants.{Single, Several}
use Rattle.asl_rules.specs.declared.effect.Effect.{Effect}
use Rattle.asl_rules.specs.declared.effect.Effect.TheVariants.{Pure}
use Rattle.asl_rules.specs.Faults.{◌>>=◌}
use Rattle.asl_rules.specs.Tests.{Tests}
use Rattle.asl_rules.specs.types.Types.{Ty}
use Rattle.asl_rules.specs.declarations.Scopes.{Scope, Body, Entry, variable}
use Rattle.asl_rules.specs.expressions.Typing.{Operand}
use Rattle.asl_rules.specs.expressions.Exprs.{found, found_type, found_pattern, typed}
use Rattle.asl_rules.specs.statements.Acting.{Listed, FoundStmt, FoundOtherwise, operand_of, in_order, block, last_block}
use Rattle.asl_rules.specs.statements.Locals.{Initialised, initialised, bound as declares, binders_free, bind_rule, names_rule}
use Rattle.asl_rules.specs.statements.Branches.{FoundBranch, TypedBranch, FoundAlternative, TypedAlternative, FoundCatcher, branch_rule, branches, branch_conditions, all_patterns, where_rule, alternative_rule, alternatives, where_condition, where_conditions, limit_typed, limit_fits, with_caught, catcher_rule, catchers}
use Rattle.asl_rules.specs.statements.Stmts.{returned, return_rule, throw_rule, items_rule}
use Rattle.asl_laws.proofs.basics.Lists.{AllOf}
use Rattle.asl_laws.specs.Spans.{Each, all_of, binder_spans, bind_spans, item_spans}
use Rattle.asl_laws.proofs.spans.Standing.{At, Answers, Stands, then_with, then_stands, bound, next, steps, ExprStands, PatternStands, TypeStands, NamesStand, Marked}
use Rattle.asl_laws.proofs.spans.ExprRows.{procedure_call_stands}
use Rattle.asl_laws.proofs.spans.ExprSpans.{expr_there}

module _ (t : Tests) (P : Fault → Type 0) where
  -- what is found at this tree stands there
  abbrev pub There : Expr → Type 0
  There e = ExprStands P (found t e)

  abbrev pub MaybeThere : Option Expr → Type 0
  MaybeThere None = Unit {0}
  MaybeThere (Some e) = There e

  abbrev pub TypeThere : TypeExpr → Type 0
  TypeThere ty = TypeStands P (found_type t ty)

  abbrev pub MaybeTypeThere : Option TypeExpr → Type 0
  MaybeTypeThere None = Unit {0}
  MaybeTypeThere (Some ty) = TypeThere ty

  abbrev pub PatternThere : Pattern → Type 0
  PatternThere p = PatternStands P (found_pattern t p)

  pub record StmtStands (s : FoundStmt) : Type 0 where
    pub stmt_at : (B : Body) → Stands P (s B)

  pub record BranchStands (b : FoundBranch) : Type 0 where
    pub condition_at : There b.condition
    pub body_at : AllOf StmtStands b.body

  pub record AlternativeStands (a : FoundAlternative) : Type 0 where
    pub patterns_at : AllOf PatternThere a.patterns
    pub condition_at : MaybeThere a.condition
    pub body_at : AllOf StmtStands a.body

  abbrev pub MaybeNamed : Option Ident → Type 0
  MaybeNamed None = Unit {0}
  MaybeNamed (Some i) = At P i.span

  pub record CatcherStands (c : FoundCatcher) : Type 0 where
    pub name_at : MaybeNamed c.name
    pub ty_at : At P c.ty.span
    pub body_at : AllOf StmtStands c.body

  abbrev pub LastStands : FoundOtherwise → Type 0
  LastStands None = Unit {0}
  LastStands (Some ss) = AllOf StmtStands ss

  -- ---- lists

  pub order_stands : (ss : List FoundStmt) (k : Effect) (B : Body) → AllOf StmtStands ss → Stands P (in_order ss k B)
  order_stands [] k B h = tt
  order_stands (s ∷ ss) k B h = bound P (s B) _ (h.0.stmt_at B) (λ d. bound P (in_order ss _ _) _ (order_stands ss _ _ h.1) (λ l. tt))

  pub block_there : {C : Type 0} (ss : List FoundStmt) (B : Body) (f : Listed → Result C Fault) → AllOf StmtStands ss → ((l : Listed) → Stands P (f l)) → Stands P (block ss B >>= f)
  block_there ss B f h k = bound P (block ss B) f (order_stands ss Pure B h) k

  pub last_stands : (o : FoundOtherwise) (B : Body) → LastStands o → Stands P (last_block o B)
  last_stands None B h = tt
  last_stands (Some ss) B h = bound P (in_order ss Pure B) _ (order_stands ss Pure B h) (λ l. tt)

  -- ---- expressions

  abbrev pub Put : Operand → Type 0
  Put o = At P o.span

  operand_stands : (e : Expr) (G : Scope) → There e → Answers P Put (operand_of t e G)
  operand_stands e G h = then_with P (λ S. Unit {0}) Put (typed t e G) _ (h.typed_at G) (λ S u. h.at)

  pub operand_there : {B : Type 0} (e : Expr) (G : Scope) (f : Operand → Result B Fault) → There e → ((o : Operand) → Put o → Stands P (f o)) → Stands P (operand_of t e G >>= f)
  operand_there e G f h k = then_stands P Put (operand_of t e G) f (operand_stands e G h) k

  abbrev pub MaybePut : Option Operand → Type 0
  MaybePut None = Unit {0}
  MaybePut (Some o) = At P o.span

  where_stands : (e : Option Expr) (G : Scope) → MaybeThere e → Answers P MaybePut (where_rule t e G)
  where_stands None G h = tt
  where_stands (Some e) G h = then_with P Put MaybePut (operand_of t e _) _ (operand_stands e _ h) (λ o k. k)

  limit_stands : (e : Option Expr) (G : Scope) → MaybeThere e → Answers P MaybePut (limit_typed t e G)
  limit_stands None G h = tt
  limit_stands (Some e) G h = then_with P Put MaybePut (operand_of t e _) _ (operand_stands e _ h) (λ o k. k)

  pub limit_there : {B : Type 0} (e : Option Expr) (G : Scope) (f : Option Operand → Result B Fault) → MaybeThere e → ((o : Option Operand) → MaybePut o → Stands P (f o)) → Stands P (limit_typed t e G >>= f)
  limit_there e G f h k = then_stands P MaybePut (limit_typed t e G) f (limit_stands e G h) k

  pub limit_fits_there : (o : Option Operand) → MaybePut o → Stands P (limit_fits o)
  limit_fits_there None h = tt
  limit_fits_there (Some o) h = search steps

  -- ---- statements without lists

  returned_stands : (class : Effect) (span : Span) (T : Option Ty) (o : Operand) (names : List Entry) → At P span → Put o → Stands P (returned t class span T o names)
  returned_stands class span None o names p h = search steps
  returned_stands class span (Some T) o names p h = search steps depth 10

  pub return_stands : (span : Span) (e : Option Expr) (G : Scope) (T : Option Ty) → At P span → MaybeThere e → Stands P (return_rule t span e G T)
  return_stands span None G None p h = tt
  return_stands span None G (Some T) p h = search steps
  return_stands span (Some e) G T p h = search (steps, operand_there, returned_stands)

  pub throw_stands : (span : Span) (e : Option Expr) (B : Body) → At P span → MaybeThere e → Stands P (throw_rule t span e B)
  throw_stands span None B p h = search steps depth 10
  throw_stands span (Some e) B p h = search (steps, operand_there) depth 10

  pub items_stand : (is : List PrintItem) (G : Scope) → Each (Marked P t) (all_of item_spans is) → Stands P (items_rule t is G)
  items_stand [] G h = tt
  items_stand (Verbatim span text ∷ is) G h = search (steps, items_stand is G h.1)
  items_stand (Shown e ∷ is) G h = let k = expr_there t P e h.0 in search (steps, k.typed_at, items_stand is G h.1)

  -- ---- declarations

  initialised_stands : (ty : Option TypeExpr) (e : Expr) (G : Scope) → MaybeTypeThere ty → There e → Stands P (initialised t ty e G)
  initialised_stands None e G h k = search (steps, operand_there)
  initialised_stands (Some ty) e G h k = search (steps, operand_there) depth 10

  free_stands : (bs : List Binder) (before : List (List ℕ)) (names : List Entry) → Each (Marked P t) (all_of binder_spans bs) → Stands P (binders_free bs before names)
  free_stands [] before names h = tt
  free_stands (Bound i ∷ bs) before names h = search (steps, free_stands bs (before ++ i.text ∷ []) names h.1)
  free_stands (Unbound at ∷ bs) before names h = free_stands bs before names h.1

  declared_stands : (span : Span) (kind : LocalKind) (b : Bind) (e : Expr) (d : Initialised) (G : Scope) → At P span → Each (Marked P t) (bind_spans b) → Stands P (declares t span kind b e d G)
  declared_stands span kind (Single (Bound i)) e d G p h = search steps depth 10
  declared_stands span kind (Single (Unbound at)) e d G p h = search steps depth 10
  declared_stands span kind (Several at bs) e d G p h = search (steps, free_stands) depth 10

  pub bind_stands : (span : Span) (kind : LocalKind) (b : Bind) (ty : Option TypeExpr) (e : Expr) (G : Scope) → At P span → Each (Marked P t) (bind_spans b) → MaybeTypeThere ty → There e → Stands P (bind_rule t span kind b ty e G)
  bind_stands span kind b ty e G p h k l = bound P (initialised t ty e G) _ (initialised_stands ty e G k l) (λ d. declared_stands span kind b e d G p h)

  pub names_stand : (is : List Ident) (T : Ty) (names : List Entry) → NamesStand P is → Stands P (names_rule is T names)
  names_stand [] T names h = tt
  names_stand (i ∷ is) T names h = search (steps, names_stand is T (names ++ variable i.text T ∷ []) h.1)

  -- ---- `if`

  abbrev pub ConditionPut : TypedBranch → Type 0
  ConditionPut b = At P b.condition.span

  branch_stands : (c : Expr) (ss : List FoundStmt) (B : Body) → There c → AllOf StmtStands ss → Answers P ConditionPut (branch_rule t c ss B)
  branch_stands c ss B h k =
      then_with P Put ConditionPut (operand_of t c B.scope) _ (operand_stands c B.scope h) (λ o p.
      then_with P (λ l. Unit {0}) ConditionPut (block ss B) _ (order_stands ss Pure B k) (λ l u. p))

  pub branch_there : {C : Type 0} (c : Expr) (ss : List FoundStmt) (B : Body) (f : TypedBranch → Result C Fault) → There c → AllOf StmtStands ss → ((b : TypedBranch) → ConditionPut b → Stands P (f b)) → Stands P (branch_rule t c ss B >>= f)
  branch_there c ss B f h k l = then_stands P ConditionPut (branch_rule t c ss B) f (branch_stands c ss B h k) l

  branches_stand : (bs : List FoundBranch) (B : Body) → AllOf BranchStands bs → Answers P (AllOf ConditionPut) (branches t bs B)
  branches_stand [] B h = tt
  branches_stand (b ∷ bs) B h =
      then_with P ConditionPut (AllOf ConditionPut) (branch_rule t b.condition b.body B) _ (branch_stands b.condition b.body B h.0.condition_at h.0.body_at) (λ x k.
      then_with P (AllOf ConditionPut) (AllOf ConditionPut) (branches t bs B) _ (branches_stand bs B h.1) (λ xs l. (k, l)))

  pub branches_there : {C : Type 0} (bs : List FoundBranch) (B : Body) (f : List TypedBranch → Result C Fault) → AllOf BranchStands bs → ((xs : List TypedBranch) → AllOf ConditionPut xs → Stands P (f xs)) → Stands P (branches t bs B >>= f)
  branches_there bs B f h k = then_stands P (AllOf ConditionPut) (branches t bs B) f (branches_stand bs B h) k

  pub conditions_stand : (bs : List TypedBranch) → AllOf ConditionPut bs → Stands P (branch_conditions bs)
  conditions_stand [] h = tt
  conditions_stand (b ∷ bs) h = search (steps, conditions_stand bs h.1)

  -- ---- `case`

  patterns_stand : (ps : List Pattern) (T : Ty) (G : Scope) → AllOf PatternThere ps → Stands P (all_patterns t ps T G)
  patterns_stand [] T G h = tt
  patterns_stand (p ∷ ps) T G h = search (steps, h.0.matched_at, patterns_stand ps T G h.1)

  abbrev pub WherePut : TypedAlternative → Type 0
  WherePut a = MaybePut a.condition

  alternative_stands : (a : FoundAlternative) (T : Ty) (B : Body) → AlternativeStands a → Answers P WherePut (alternative_rule t a T B)
  alternative_stands a T B h =
      then_with P (λ ms. Unit {0}) WherePut (all_patterns t a.patterns T B.scope) _ (patterns_stand a.patterns T B.scope h.patterns_at) (λ ms u.
      then_with P MaybePut WherePut (where_rule t a.condition B.scope) _ (where_stands a.condition B.scope h.condition_at) (λ w k.
      then_with P (λ l. Unit {0}) WherePut (block a.body B) _ (order_stands a.body Pure B h.body_at) (λ l v. k)))

  alternatives_stand : (alts : List FoundAlternative) (T : Ty) (B : Body) → AllOf AlternativeStands alts → Answers P (AllOf WherePut) (alternatives t alts T B)
  alternatives_stand [] T B h = tt
  alternatives_stand (a ∷ more) T B h =
      then_with P WherePut (AllOf WherePut) (alternative_rule t a T B) _ (alternative_stands a T B h.0) (λ x k.
      then_with P (AllOf WherePut) (AllOf WherePut) (alternatives t more T B) _ (alternatives_stand more T B h.1) (λ xs l. (k, l)))

  pub alternatives_there : {C : Type 0} (alts : List FoundAlternative) (T : Ty) (B : Body) (f : List TypedAlternative → Result C Fault) → AllOf AlternativeStands alts → ((xs : List TypedAlternative) → AllOf WherePut xs → Stands P (f xs)) → Stands P (alternatives t alts T B >>= f)
  alternatives_there alts T B f h k = then_stands P (AllOf WherePut) (alternatives t alts T B) f (alternatives_stand alts T B h) k

  where_condition_stands : (o : Option Operand) → MaybePut o → Stands P (where_condition o)
  where_condition_stands None h = tt
  where_condition_stands (Some o) h = search steps

  pub wheres_stand : (alts : List TypedAlternative) → AllOf WherePut alts → Stands P (where_conditions alts)
  wheres_stand [] h = tt
  wheres_stand (a ∷ more) h = next P (where_condition a.condition) (where_conditions more) (where_condition_stands a.condition h.0) (wheres_stand more h.1)

  -- ---- loops

  -- ---- `try`

  caught_stands : (o : Option Ident) (T : Ty) (B : Body) → MaybeNamed o → Stands P (with_caught o T B)
  caught_stands None T B h = tt
  caught_stands (Some i) T B h = search steps

  catcher_stands : (c : FoundCatcher) (B : Body) → CatcherStands c → Stands P (catcher_rule c B)
  catcher_stands c B h = search (steps, caught_stands, order_stands) depth 10

  pub catchers_stand : (cs : List FoundCatcher) (B : Body) → AllOf CatcherStands cs → Stands P (catchers cs B)
  catchers_stand [] B h = tt
  catchers_stand (c ∷ cs) B h = bound P (catcher_rule c B) _ (catcher_stands c B h.0) (λ x. bound P (catchers cs B) _ (catchers_stand cs B h.1) (λ xs. tt))

-- all that these rules are made of
pub ruleset stmt_rows = (steps, procedure_call_stands, operand_there, limit_there, limit_fits_there, block_there, order_stands, last_stands, branch_there, branches_there, conditions_stand, alternatives_there, wheres_stand, catchers_stand, items_stand, names_stand, bind_stands, return_stands, throw_stands)
