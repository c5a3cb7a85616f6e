-- A statement is judged alike in two scopes with the same names in the same places, where each name that it uses stands for the same and
-- calls of it choose the same: with the same effect, tree or fault, and the same names behind it, after those of each scope.
use Rattle.std.proofs.Common.{◌≡◌, ℕ, not, Bool, true, false, cond, ◌&&◌, List, [], ◌∷◌, ◌++◌, map, Option, Some, None, Ok, Err, refl, sym}
use Rattle.std.proofs.Common.{ap, ◌∙◌, subst, append_assoc}
use Rattle.std.specs.Prelude.{Result}
use Rattle.asl_syn.specs.declared.token.Span.{Span}
use Rattle.asl_syn.specs.declared.code.Fault.{Fault}
use Rattle.asl_syn.specs.declared.code.StaticCode.TheVariants.{T01, T02, T05}
use Rattle.asl_syn.specs.declared.tree.Ident.{Ident}
use Rattle.asl_syn.specs.declared.tree.Expr.{Expr}
use Rattle.asl_syn.specs.declared.tree.TypeExpr.{TypeExpr}
use Rattle.asl_syn.specs.declared.tree.Pattern.{Pattern}
use Rattle.asl_syn.specs.declared.tree.Direction.{Direction}
use Rattle.asl_syn.specs.declared.tree.Direction.TheVariants.{Up, Down}
use Rattle.asl_syn.specs.declared.tree.LocalKind.{LocalKind}
use Rattle.asl_syn.specs.declared.tree.Binder.{Binder}
use Rattle.asl_syn.specs.declared.tree.Binder.TheVariants.{Bound, Unbound}
use Rattle.asl_syn.specs.declared.tree.Bind.{Bind}
use Rattle.asl_syn.specs.declared.tree.Bind.TheVariants.{Single, Several}
use Rattle.asl_syn.specs.declared.tree.PrintItem.{PrintItem}
use Rattle.asl_syn.specs.declared.tree.PrintItem.TheVariants.{Verbatim, Shown}
use Rattle.asl_syn.specs.declared.tree.Target.{Target}
use Rattle.asl_syn.specs.declared.tree.Stmt.{Stmt}
use Rattle.asl_syn.specs.declared.tree.Alternative.TheOpen as st
use Rattle.asl_syn.specs.declared.tree.Alternative.TheFolds.{map-Alternative, map-Catcher, map-ElseIf, map-Otherwise, map-Stmt}
use Rattle.asl_rules.specs.declared.effect.Effect.{Effect}
use Rattle.asl_rules.specs.declared.effect.Effect.TheVariants.{Pure, Readonly, Writes}
use Rattle.asl_rules.specs.Faults.{◌>>=◌, ◌>>◌, need, found_or}
use Rattle.asl_rules.specs.Tests.{Tests}
use Rattle.asl_rules.specs.types.Types.{Ty, Parts, no_part, part, is_integer, tuple_parts}
use Rattle.asl_rules.specs.runs.Trees as tree
use Rattle.asl_rules.specs.runs.Trees.{Act, Branches, Alternatives, Catchers, no_act, whole, in_parts, branch_and, alternative_and}
use Rattle.asl_rules.specs.runs.Trees.{catcher_and}
use Rattle.asl_rules.specs.types.Effects.{greater, lesser, all_together, greatest}
use Rattle.asl_rules.specs.expressions.Calls.{procedure_rule}
use Rattle.asl_rules.specs.declarations.Scopes.{Body, Entry, Signature, handling, atom_at, fixed, variable, is_absent, is_free, next_atom}
use Rattle.asl_rules.specs.declarations.Scopes.{type_in}
use Rattle.asl_rules.specs.expressions.Typing.{Typed, Operand, operand, trees_from}
use Rattle.asl_rules.specs.values.Members.{has_name}
use Rattle.asl_rules.specs.types.Writing.{range_rule}
use Rattle.asl_rules.specs.expressions.Patterns.{pattern_shapes, pattern_trees}
use Rattle.asl_rules.specs.expressions.Exprs.{found, found_type}
use Rattle.asl_rules.specs.statements.Acting.{Done, FoundStmt, FoundOtherwise, Listed, LastListed, done, ended, ended_in, listed, act_first}
use Rattle.asl_rules.specs.statements.Acting.{in_order, block, last_block, expr_at, operand_of, fits, condition}
use Rattle.asl_rules.specs.statements.Locals.{itself, declared, Initialised, initialised_with, initialised, initialised_as, counted_as}
use Rattle.asl_rules.specs.statements.Locals.{type_declared, part_declared, written_or, taken, binders_free, bound_parts, bound_in, bound}
use Rattle.asl_rules.specs.statements.Locals.{names_rule}
use Rattle.asl_rules.specs.statements.Targets.{place_effects, writings, tree_places, all_parts_fit, assign_rule, found_target}
use Rattle.asl_rules.specs.statements.Branches.{FoundBranch, TypedBranch, branch_rule, branches, branch_conditions, branch_effect}
use Rattle.asl_rules.specs.statements.Branches.{branch_effects, branch_trees, branching, FoundAlternative, TypedAlternative, all_patterns}
use Rattle.asl_rules.specs.statements.Branches.{where_rule, alternative_rule, alternatives, where_condition, where_conditions, effect_of}
use Rattle.asl_rules.specs.statements.Branches.{tree_in, alternative_effects, alternative_trees, choosing, limit_typed, limit_fits}
use Rattle.asl_rules.specs.statements.Branches.{of_range, index_type, index_rule, for_ended, FoundCatcher, TypedCatcher, with_caught}
use Rattle.asl_rules.specs.statements.Branches.{catcher_rule, catchers, catcher_effects, catcher_trees, try_ended}
use Rattle.asl_rules.specs.statements.Stmts.{invoked, returned, return_rule, throw_rule, text_first, value_first, items_rule}
use Rattle.asl_rules.specs.statements.Stmts.{stmt_layer_rule, branch_found, alternative_found, catcher_found, otherwise_found, found_stmt}
use Rattle.asl_rules.specs.declarations.UsedNames.{Use, of_subprogram, Each, joined, expr_uses, pattern_uses, type_uses, maybe_expr_uses}
use Rattle.asl_rules.specs.declarations.UsedNames.{maybe_type_uses}
use Rattle.asl_laws.specs.StmtUses.{target_uses, item_uses, stmt_uses}
use Rattle.asl_laws.proofs.names.ByUses.{each_first, each_second, found_list}
use Rattle.asl_laws.proofs.names.ByStmtUses as by_uses
use Rattle.asl_laws.proofs.names.ByStmtUses.{OwnStmt, OwnAlternative, OwnCatcher, OwnBranch}
use Rattle.asl_laws.proofs.names.SameExprs.{SameAt, scope_at, expr_in, written_in, ExprSame, expr_same, type_same, pattern_same}
use Rattle.asl_laws.proofs.names.SameExprs.{invoked_same}
use Rattle.asl_laws.proofs.names.SamePlaces.{SamePlaces, Stands, same_free, same_atom, same_standing, uses_behind}
use Rattle.asl_laws.proofs.names.SameTargets.{All, PlaceGood, target_same, all_placed_same}
use Rattle.asl_laws.proofs.names.Over.{Over, over_ok, over_err, over_by, over_after, over_then, over_same, over_known, same_then}

-- ---- what is found behind the names of a scope

abbrev pub done_over : List Entry → Done → Done
done_over X d = done (X ++ d.names) d.effect d.act

abbrev pub listed_over : List Entry → Listed → Listed
listed_over X l = listed (X ++ l.names) l.effect l.acts

abbrev pub branch_over : List Entry → TypedBranch → TypedBranch
branch_over X b = record b { body = listed_over X b.body }

abbrev pub alternative_over : List Entry → TypedAlternative → TypedAlternative
alternative_over X a = record a { body = listed_over X a.body }

abbrev pub catcher_over : List Entry → TypedCatcher → TypedCatcher
catcher_over X c = record c { body = listed_over X c.body }

abbrev names_over : List Entry → List Entry → List Entry
names_over X es = X ++ es

-- the ends of statements with lists don't ask for the names behind these

branches_over : (X : List Entry) (span : Span) (b : TypedBranch) (bs : List TypedBranch) (l : Listed) (B : Body) →
    branching span (branch_over X b) (map (branch_over X) bs) (listed_over X l) B ≡ branching span b bs l B
branches_over X span b bs l B = λ i.
    condition b.condition >> conditions bs i >> ended_in B span true (greater (greater (branch_effect b) (effects bs i)) l.effect)
    (tree.If span b.condition.typed.tree b.body.acts (trees bs i) l.acts)
  where
    conditions : (bs : List TypedBranch) → branch_conditions (map (branch_over X) bs) ≡ branch_conditions bs
    conditions [] = refl
    conditions (b ∷ bs) = ap (λ r. condition b.condition >> r) (conditions bs)

    effects : (bs : List TypedBranch) → branch_effects (map (branch_over X) bs) ≡ branch_effects bs
    effects [] = refl
    effects (b ∷ bs) = ap (greater (branch_effect b)) (effects bs)

    trees : (bs : List TypedBranch) → branch_trees (map (branch_over X) bs) ≡ branch_trees bs
    trees [] = refl
    trees (b ∷ bs) = ap (branch_and b.condition.typed.tree b.body.acts) (trees bs)

choices_over : (X : List Entry) (span : Span) (S : Typed) (xs : List TypedAlternative) (l : LastListed) (B : Body) →
    choosing span S (map (alternative_over X) xs) l B ≡ choosing span S xs l B
choices_over X span S xs l B = λ i.
    conditions xs i >> ended_in B span true (greater (greater S.effect (effects xs i)) l.effect) (tree.Case span S.tree (trees xs i) l.last)
  where
    conditions : (xs : List TypedAlternative) → where_conditions (map (alternative_over X) xs) ≡ where_conditions xs
    conditions [] = refl
    conditions (a ∷ more) = ap (λ r. where_condition a.condition >> r) (conditions more)

    effects : (xs : List TypedAlternative) → alternative_effects (map (alternative_over X) xs) ≡ alternative_effects xs
    effects [] = refl
    effects (a ∷ more) = ap (greater (greater (effect_of a.condition) a.body.effect)) (effects more)

    trees : (xs : List TypedAlternative) → alternative_trees (map (alternative_over X) xs) ≡ alternative_trees xs
    trees [] = refl
    trees (a ∷ more) = ap (alternative_and (pattern_shapes a.patterns) (trees_from (pattern_trees a.patterns)) (tree_in a.condition)
        a.body.acts) (trees more)

tries_over : (X : List Entry) (span : Span) (body : Listed) (cs : List TypedCatcher) (l : LastListed) (B : Body) →
    try_ended span (listed_over X body) (map (catcher_over X) cs) l B ≡ try_ended span body cs l B
tries_over X span body cs l B = λ i.
    ended_in B span true (greater (greater body.effect (effects cs i)) l.effect) (tree.Try span body.acts (trees cs i) l.last)
  where
    effects : (cs : List TypedCatcher) → catcher_effects (map (catcher_over X) cs) ≡ catcher_effects cs
    effects [] = refl
    effects (c ∷ cs) = ap (greater c.body.effect) (effects cs)

    trees : (cs : List TypedCatcher) → catcher_trees (map (catcher_over X) cs) ≡ catcher_trees cs
    trees [] = refl
    trees (c ∷ cs) = ap (catcher_and c.has_name c.ty c.body.acts) (trees cs)

-- ---- where a statement stands: the names of its body so far, the class, the result, and whether an exception is being handled
pub record Here : Type 0 where
  pub locals : List Entry
  pub class : Effect
  pub result : Option Ty
  pub handles : Bool

abbrev pub body_at : List Entry → List Signature → Here → Body
body_at X ss j = record { scope = scope_at (X ++ j.locals) ss j.class; result = j.result; handles = j.handles }

module _ (t : Tests) (A B : List Entry) (ss rs : List Signature) (p : SamePlaces A B) where
  abbrev first : Here → Body
  first j = body_at A ss j

  abbrev second : Here → Body
  second j = body_at B rs j

  abbrev P : Use → Type 0
  P = Stands A B ss rs

  abbrev pub DoneOver : Result Done Fault → Result Done Fault → Type 0
  DoneOver = Over (done_over A) (done_over B)

  abbrev ListedOver : Result Listed Fault → Result Listed Fault → Type 0
  ListedOver = Over (listed_over A) (listed_over B)

  -- ---- what is found at a statement, an alternative, a catcher, a branch and an `otherwise`

  abbrev pub StmtSame : FoundStmt → Type 0
  StmtSame s = (j : Here) → DoneOver (s (first j)) (s (second j))

  abbrev AlternativeSame : FoundAlternative → Type 0
  AlternativeSame a = (T : Ty) (j : Here) → Over (alternative_over A) (alternative_over B) (alternative_rule t a T (first j))
      (alternative_rule t a T (second j))

  abbrev CatcherSame : FoundCatcher → Type 0
  CatcherSame c = (j : Here) → Over (catcher_over A) (catcher_over B) (catcher_rule c (first j)) (catcher_rule c (second j))

  abbrev BranchSame : FoundBranch → Type 0
  BranchSame b = (j : Here) → Over (branch_over A) (branch_over B) (branch_rule t b.condition b.body (first j))
      (branch_rule t b.condition b.body (second j))

  abbrev OtherwiseSame : FoundOtherwise → Type 0
  OtherwiseSame o = (j : Here) → last_block o (first j) ≡ last_block o (second j)

  abbrev AA : Type 0
  AA = (x : FoundAlternative) × AlternativeSame x

  abbrev CC : Type 0
  CC = (x : FoundCatcher) × CatcherSame x

  abbrev BB : Type 0
  BB = (x : FoundBranch) × BranchSame x

  abbrev OO : Type 0
  OO = (x : FoundOtherwise) × OtherwiseSame x

  abbrev SS : Type 0
  SS = (x : FoundStmt) × StmtSame x

  -- ---- expressions and written types

  expr_here : (e : Expr) → Each P (expr_uses e) → (es : List Entry) → expr_in (A ++ es) ss (found t e) ≡ expr_in (B ++ es) rs (found t e)
  expr_here e g es = expr_same t (A ++ es) (B ++ es) ss rs e (uses_behind A B p ss rs es (expr_uses e) g)

  type_here : (w : TypeExpr) → Each P (type_uses w) → (es : List Entry) →
      written_in (A ++ es) ss (found_type t w) ≡ written_in (B ++ es) rs (found_type t w)
  type_here w g es = type_same t (A ++ es) (B ++ es) ss rs w (uses_behind A B p ss rs es (type_uses w) g)

  operand_same : (e : Expr) → Each P (expr_uses e) → (es : List Entry) (k : Effect) →
      operand_of t e (scope_at (A ++ es) ss k) ≡ operand_of t e (scope_at (B ++ es) rs k)
  operand_same e g es k = λ i. (expr_here e g es i).typed (scope_at (A ++ es) ss k) >>= λ S. Ok (operand (expr_at t e) S)

  written_same : (w : TypeExpr) → Each P (type_uses w) → (es : List Entry) (k : Effect) →
      (found_type t w).ty false (scope_at (A ++ es) ss k) ≡ (found_type t w).ty false (scope_at (B ++ es) rs k)
  written_same w g es k = λ i. (type_here w g es i).ty false (scope_at (A ++ es) ss k)

  where_same : (e : Option Expr) → Each P (maybe_expr_uses e) → (es : List Entry) (k : Effect) →
      where_rule t e (scope_at (A ++ es) ss k) ≡ where_rule t e (scope_at (B ++ es) rs k)
  where_same None g es k = refl
  where_same (Some e) g es k = λ i. operand_same e g es (lesser k Readonly) i >>= λ o. Ok (Some o)

  limit_same : (e : Option Expr) → Each P (maybe_expr_uses e) → (es : List Entry) (k : Effect) →
      limit_typed t e (scope_at (A ++ es) ss k) ≡ limit_typed t e (scope_at (B ++ es) rs k)
  limit_same None g es k = refl
  limit_same (Some e) g es k = λ i. operand_same e g es Pure i >>= λ o. Ok (Some o)

  patterns_same : (ps : List Pattern) → Each P (joined (map pattern_uses ps)) → (T : Ty) (es : List Entry) (k : Effect) →
      all_patterns t ps T (scope_at (A ++ es) ss k) ≡ all_patterns t ps T (scope_at (B ++ es) rs k)
  patterns_same [] g T es k = refl
  patterns_same (q ∷ ps) g T es k =
      let h = uses_behind A B p ss rs es (pattern_uses q) (each_first P (pattern_uses q) (joined (map pattern_uses ps)) g) in
      λ i. pattern_same t (A ++ es) (B ++ es) ss rs q h i T (scope_at (A ++ es) ss Pure)
      >>= λ m. patterns_same ps (each_second P (pattern_uses q) (joined (map pattern_uses ps)) g) T es k i >>= λ ms. Ok (m ∷ ms)

  -- ---- ends

  ended_over : (class : Effect) (span : Span) (ok : Bool) (k : Effect) (es : List Entry) (act : Act) →
      DoneOver (ended class span ok k (A ++ es) act) (ended class span ok k (B ++ es) act)
  ended_over class span ok k es act = over_after _ (over_after _ (over_ok (done_over A) (done_over B) (done es k act)))

  -- ---- lists

  in_order_over : (xs : List SS) (k : Effect) (j : Here) →
      ListedOver (in_order (map (λ x. x.0) xs) k (first j)) (in_order (map (λ x. x.0) xs) k (second j))
  in_order_over [] k j = over_ok (listed_over A) (listed_over B) (listed j.locals k no_act)
  in_order_over (x ∷ xs) k j =
      over_then _ _ (x.1 j) (λ d. over_then _ _ (in_order_over xs (greater k d.effect) (record j { locals = d.names }))
      (λ l. over_ok (listed_over A) (listed_over B) (act_first d.act l)))

  block_over : (xs : List SS) (j : Here) → ListedOver (block (map (λ x. x.0) xs) (first j)) (block (map (λ x. x.0) xs) (second j))
  block_over xs j = in_order_over xs Pure j

  branches_same : (bs : List BB) (j : Here) → Over (map (branch_over A)) (map (branch_over B)) (branches t (map (λ x. x.0) bs) (first j))
      (branches t (map (λ x. x.0) bs) (second j))
  branches_same [] j = over_ok (map (branch_over A)) (map (branch_over B)) []
  branches_same (b ∷ bs) j = over_then _ _ (b.1 j)
      (λ x. over_then _ _ (branches_same bs j) (λ xs. over_ok (map (branch_over A)) (map (branch_over B)) (x ∷ xs)))

  alternatives_same : (xs : List AA) (T : Ty) (j : Here) →
      Over (map (alternative_over A)) (map (alternative_over B)) (alternatives t (map (λ x. x.0) xs) T (first j))
      (alternatives t (map (λ x. x.0) xs) T (second j))
  alternatives_same [] T j = over_ok (map (alternative_over A)) (map (alternative_over B)) []
  alternatives_same (a ∷ more) T j = over_then _ _ (a.1 T j)
      (λ x. over_then _ _ (alternatives_same more T j) (λ xs. over_ok (map (alternative_over A)) (map (alternative_over B)) (x ∷ xs)))

  catchers_same : (cs : List CC) (j : Here) → Over (map (catcher_over A)) (map (catcher_over B)) (catchers (map (λ x. x.0) cs) (first j))
      (catchers (map (λ x. x.0) cs) (second j))
  catchers_same [] j = over_ok (map (catcher_over A)) (map (catcher_over B)) []
  catchers_same (c ∷ cs) j = over_then _ _ (c.1 j)
      (λ x. over_then _ _ (catchers_same cs j) (λ xs. over_ok (map (catcher_over A)) (map (catcher_over B)) (x ∷ xs)))

  -- ---- one more name

  -- the names with one more, which is the same in both
  abbrev one_more : List Entry → List Entry → Entry → List Entry
  one_more X es e = (X ++ es) ++ e ∷ []

  added_over : (class : Effect) (span at : Span) (name : List ℕ) (k : Effect) (es : List Entry) (e f : Entry) (act : Act) → e ≡ f →
      DoneOver (need (is_free name (A ++ es)) T01 at >> ended class span true k (one_more A es e) act)
      (need (is_free name (B ++ es)) T01 at >> ended class span true k (one_more B es f) act)
  added_over class span at name k es e f act h =
      over_by (ap (λ ns. need (is_free name (A ++ es)) T01 at >> ended class span true k ns act) (append_assoc A es (e ∷ [])))
      ((λ i. need (sym (same_free A B p es name) i) T01 at >> ended class span true k (one_more B es (sym h i)) act)
      ∙ ap (λ ns. need (is_free name (A ++ es)) T01 at >> ended class span true k ns act) (append_assoc B es (e ∷ [])))
      (over_after _ (ended_over class span true k (es ++ e ∷ []) act))

  -- a list that sees one more name
  abbrev seen : Here → Entry → Here
  seen j e = record j { locals = j.locals ++ e ∷ [] }

  abbrev body_with : List Entry → List Signature → Here → Entry → Body
  body_with X xs j e = record (body_at X xs j) { scope = scope_at (one_more X j.locals e) xs j.class }

  seen_over : (xs : List SS) (j : Here) (e f : Entry) → e ≡ f →
      ListedOver (block (map (λ x. x.0) xs) (body_with A ss j e)) (block (map (λ x. x.0) xs) (body_with B rs j f))
  seen_over xs j e f h =
      over_by (ap (λ ns. block (map (λ x. x.0) xs) (record (first j) { scope = scope_at ns ss j.class }))
      (append_assoc A j.locals (e ∷ [])))
      (ap (λ z. block (map (λ x. x.0) xs) (body_with B rs j z)) (sym h)
      ∙ ap (λ ns. block (map (λ x. x.0) xs) (record (second j) { scope = scope_at ns rs j.class })) (append_assoc B j.locals (e ∷ [])))
      (block_over xs (seen j e))

  -- ---- declarations

  initialised_same : (ty : Option TypeExpr) (e : Expr) → Each P (maybe_type_uses ty) → Each P (expr_uses e) →
      (es : List Entry) (k : Effect) → initialised t ty e (scope_at (A ++ es) ss k) ≡ initialised t ty e (scope_at (B ++ es) rs k)
  initialised_same None e g h es k = λ i. operand_same e h es k i >>= λ o. Ok (initialised_with None o.typed)
  initialised_same (Some w) e g h es k = λ i. written_same w g es k i >>= λ W. operand_same e h es k i >>= λ o. fits t W.ty o
      >> Ok (initialised_with (Some W.ty) o.typed)

  counts_same : (T : Ty) (e : Expr) → Each P (expr_uses e) → (es : List Entry) (k : Effect) →
      initialised_as t T e (scope_at (A ++ es) ss k) ≡ initialised_as t T e (scope_at (B ++ es) rs k)
  counts_same T e g es k = λ i.
      cond (is_integer T) (Some
      (counted_as ((expr_here e g es i).width (scope_at (A ++ es) ss k)) ((expr_here e g es i).has_atom (scope_at (A ++ es) ss k))
      (same_atom A B p es i))) None

  itself_same : (T : Ty) (es : List Entry) → itself T (A ++ es) ≡ itself T (B ++ es)
  itself_same T es = λ i. cond (is_integer T) (Some (atom_at (same_atom A B p es i))) None

  binders_same : (bs : List Binder) (before : List (List ℕ)) (es : List Entry) →
      binders_free bs before (A ++ es) ≡ binders_free bs before (B ++ es)
  binders_same [] before es = refl
  binders_same (Bound n ∷ bs) before es = λ i. need (same_free A B p es n.text i && not (has_name n.text before)) T01 n.span
      >> binders_same bs (before ++ n.text ∷ []) es i
  binders_same (Unbound at ∷ bs) before es = binders_same bs before es

  bound_over : (span : Span) (bs : List Binder) (kind : LocalKind) (w : Option Ty) (Ts : Parts) (es : List Entry) →
      Over (names_over A) (names_over B) (found_or (bound_parts bs kind w Ts (A ++ es)) T05 span)
      (found_or (bound_parts bs kind w Ts (B ++ es)) T05 span)
  bound_over span [] kind w no_part es = over_ok (names_over A) (names_over B) es
  bound_over span [] kind w (part T Ts) es = over_err (names_over A) (names_over B) _
  bound_over span (b ∷ bs) kind w no_part es = over_err (names_over A) (names_over B) _
  bound_over span (Bound n ∷ bs) kind w (part T Ts) es =
      let U = part_declared kind w T in
      over_by (ap (λ ns. found_or (bound_parts bs kind w Ts ns) T05 span)
      (append_assoc A es (declared kind n.text U (itself U (A ++ es)) ∷ [])))
      ((λ i. found_or (bound_parts bs kind w Ts (one_more B es (declared kind n.text U (sym (itself_same U es) i)))) T05 span)
      ∙ ap (λ ns. found_or (bound_parts bs kind w Ts ns) T05 span) (append_assoc B es (declared kind n.text U (itself U (A ++ es)) ∷ [])))
      (bound_over span bs kind w Ts (es ++ declared kind n.text U (itself U (A ++ es)) ∷ []))
  bound_over span (Unbound at ∷ bs) kind w (part T Ts) es = bound_over span bs kind w Ts es

  bound_in_over : (span : Span) (bs : List Binder) (kind : LocalKind) (w : Option Ty) (o : Option Parts) (es : List Entry) →
      Over (names_over A) (names_over B) (found_or (bound_in bs kind w o (A ++ es)) T05 span)
      (found_or (bound_in bs kind w o (B ++ es)) T05 span)
  bound_in_over span bs kind w None es = over_err (names_over A) (names_over B) _
  bound_in_over span bs kind w (Some Ts) es = bound_over span bs kind w Ts es

  bind_over : (span : Span) (kind : LocalKind) (b : Bind) (e : Expr) → Each P (expr_uses e) → (d : Initialised) (j : Here) →
      DoneOver (bound t span kind b e d (first j).scope) (bound t span kind b e d (second j).scope)
  bind_over span kind (Single (Bound n)) e g d j =
      let T = type_declared kind d.written d.value.ty in
      added_over j.class span n.span n.text d.value.effect j.locals (declared kind n.text T (initialised_as t T e (first j).scope))
      (declared kind n.text T (initialised_as t T e (second j).scope)) _
      (ap (declared kind n.text T) (counts_same T e g j.locals j.class))
  bind_over span kind (Single (Unbound at)) e g d j = ended_over j.class span true d.value.effect j.locals _
  bind_over span kind (Several at bs) e g d j =
      over_by refl (ap
      (λ r. r >> (found_or (bound_in bs kind d.written (tuple_parts (written_or d.written d.value.ty)) (B ++ j.locals)) T05 span
      >>= λ names. ended j.class span true d.value.effect names (tree.Declare span d.written (in_parts (taken bs)) d.value.tree)))
      (sym (binders_same bs [] j.locals)))
      (over_after _ (over_then _ _ (bound_in_over span bs kind d.written (tuple_parts (written_or d.written d.value.ty)) j.locals)
      (λ es. ended_over j.class span true d.value.effect es _)))

  variables_over : (is : List Ident) (T : Ty) (es : List Entry) →
      Over (names_over A) (names_over B) (names_rule is T (A ++ es)) (names_rule is T (B ++ es))
  variables_over [] T es = over_ok (names_over A) (names_over B) es
  variables_over (n ∷ is) T es =
      over_by (ap (λ ns. need (is_free n.text (A ++ es)) T01 n.span >> names_rule is T ns) (append_assoc A es (variable n.text T ∷ [])))
      ((λ i. need (sym (same_free A B p es n.text) i) T01 n.span >> names_rule is T (append_assoc B es (variable n.text T ∷ []) i)))
      (over_after _ (variables_over is T (es ++ variable n.text T ∷ [])))

  -- ---- what is printed

  items_same : (is : List PrintItem) → Each P (joined (map item_uses is)) → (es : List Entry) (k : Effect) →
      items_rule t is (scope_at (A ++ es) ss k) ≡ items_rule t is (scope_at (B ++ es) rs k)
  items_same [] g es k = refl
  items_same (Verbatim span text ∷ is) g es k = λ i. items_same is g es k i >>= λ q. Ok (text_first text q)
  items_same (Shown e ∷ is) g es k = λ i.
      (expr_here e (each_first P (expr_uses e) (joined (map item_uses is)) g) es i).typed (scope_at (A ++ es) ss k) >>= λ S.
      items_same is (each_second P (expr_uses e) (joined (map item_uses is)) g) es k i >>= λ q. Ok (value_first S q)

  -- ---- the index of a loop

  index_same : (d : Direction) (a b : Expr) → Each P (expr_uses a) → Each P (expr_uses b) → (es : List Entry) (k : Effect) →
      index_type t d a b (scope_at (A ++ es) ss k) ≡ index_type t d a b (scope_at (B ++ es) rs k)
  index_same Up a b g h es k = λ i. of_range (range_rule (expr_here a g es i) (expr_here b h es i) (scope_at (A ++ es) ss k))
  index_same Down a b g h es k = λ i. of_range (range_rule (expr_here b h es i) (expr_here a g es i) (scope_at (A ++ es) ss k))

  indexes_same : (n : Ident) (S T : Operand) (j : Here) → index_rule n S T (first j) ≡ index_rule n S T (second j)
  indexes_same n S T j = λ i. need (is_integer S.typed.ty) T05 S.span >> need (is_integer T.typed.ty) T05 T.span
      >> need (same_free A B p j.locals n.text i) T01 n.span

  -- ---- statements without lists

  returned_over : (span : Span) (T : Option Ty) (o : Operand) (j : Here) →
      DoneOver (returned t j.class span T o (A ++ j.locals)) (returned t j.class span T o (B ++ j.locals))
  returned_over span None o j = over_err (done_over A) (done_over B) _
  returned_over span (Some T) o j = over_after _ (ended_over j.class span true o.typed.effect j.locals _)

  return_over : (span : Span) (e : Option Expr) → Each P (maybe_expr_uses e) → (T : Option Ty) (j : Here) →
      DoneOver (return_rule t span e (first j).scope T) (return_rule t span e (second j).scope T)
  return_over span None g None j = over_ok (done_over A) (done_over B) (done j.locals Pure (tree.Return span None))
  return_over span None g (Some T) j = over_err (done_over A) (done_over B) _
  return_over span (Some e) g T j = over_same _ _ (operand_same e g j.locals j.class) (λ o. returned_over span T o j)

  throw_over : (span : Span) (e : Option Expr) → Each P (maybe_expr_uses e) → (j : Here) →
      DoneOver (throw_rule t span e (first j)) (throw_rule t span e (second j))
  throw_over span None g j = over_after _ (ended_over j.class span true Writes j.locals _)
  throw_over span (Some e) g j = over_same _ _ (operand_same e g j.locals j.class)
      (λ o. over_after _ (ended_over j.class span true (greater o.typed.effect Writes) j.locals _))

  assign_over : (span : Span) (x : Target) (e : Expr) → Each P (target_uses x) → Each P (expr_uses e) → (j : Here) →
      DoneOver (assign_rule t span (found_target t x) e (first j).scope) (assign_rule t span (found_target t x) e (second j).scope)
  assign_over span x e g h j =
      let X = A ++ j.locals in
      let Y = B ++ j.locals in
      let r = target_same t X Y ss rs x (uses_behind A B p ss rs j.locals (target_uses x) g) j.class in
      over_known (All (PlaceGood t X Y ss rs)) _ _ r.0 r.1
      (λ ps good. over_same _ _ (operand_same e h j.locals j.class)
      (λ o. over_same _ _ (all_placed_same t X Y ss rs ps good j.class) (λ qs.
      over_after (all_parts_fit t qs o) (over_after (need ((found_target t x).counts o.typed.ty) T05 span)
      (ended_over j.class span (all_together Pure (place_effects ps ++ o.typed.effect ∷ []))
      (greater (greatest Pure (place_effects ps ++ o.typed.effect ∷ [])) (writings qs)) j.locals
      (tree.Assign span (tree_places qs) o.typed.tree))))))

  called_same : (span : Span) (n : Ident) (ps es : List Expr) → P (of_subprogram span n.text) → Each P (joined (map expr_uses ps)) →
      Each P (joined (map expr_uses es)) → (j : Here) →
      procedure_rule t span n (map (found t) ps) (map (found t) es) (first j).scope
      ≡ procedure_rule t span n (map (found t) ps) (map (found t) es) (second j).scope
  called_same span n ps es own g h j =
      let X = A ++ j.locals in
      let Y = B ++ j.locals in
      let behind = uses_behind A B p ss rs j.locals in
      let ks = found_list (SameAt X Y ss rs) expr_uses (found t) (ExprSame t X Y ss rs) (expr_same t X Y ss rs) ps
      (behind (joined (map expr_uses ps)) g) in
      let ls = found_list (SameAt X Y ss rs) expr_uses (found t) (ExprSame t X Y ss rs) (expr_same t X Y ss rs) es
      (behind (joined (map expr_uses es)) h) in
      sym (λ i. procedure_rule t span n (ks.is i) (ls.is i) (first j).scope)
      ∙ invoked_same t X Y ss rs span n ks.list ls.list j.class (behind (of_subprogram span n.text ∷ []) (own, tt)).0
      ∙ (λ i. procedure_rule t span n (ks.is i) (ls.is i) (second j).scope)

  -- ---- branches, alternatives, catchers

  branch_same : (c : Expr) → Each P (expr_uses c) → (xs : List SS) (j : Here) →
      Over (branch_over A) (branch_over B) (branch_rule t c (map (λ x. x.0) xs) (first j)) (branch_rule t c (map (λ x. x.0) xs) (second j))
  branch_same c g xs j = over_same _ _ (operand_same c g j.locals j.class)
      (λ o. over_then _ _ (block_over xs j) (λ l. over_ok (branch_over A) (branch_over B) (record { condition = o; body = l })))

  branch_step : (y : st.ElseIf-F AA CC BB OO SS) → OwnBranch P y →
      BranchSame (branch_found (map-ElseIf AA CC BB OO SS FoundAlternative FoundCatcher FoundBranch FoundOtherwise FoundStmt (λ x. x.0)
      (λ x. x.0) (λ x. x.0) (λ x. x.0) (λ x. x.0) y))
  branch_step (st.ElseIf c xs) own j = branch_same c own xs j

  alternative_step : (y : st.Alternative-F AA CC BB OO SS) → OwnAlternative P y →
      AlternativeSame (alternative_found
      (map-Alternative AA CC BB OO SS FoundAlternative FoundCatcher FoundBranch FoundOtherwise FoundStmt (λ x. x.0) (λ x. x.0) (λ x. x.0)
      (λ x. x.0) (λ x. x.0) y))
  alternative_step (st.When ps e xs) own T j =
      over_same _ _ (patterns_same ps own.0 T j.locals j.class)
      (λ ms. over_same _ _ (where_same e own.1 j.locals j.class) (λ w. over_then _ _ (block_over xs j) (λ l.
      over_ok (alternative_over A) (alternative_over B) (record { patterns = ms; condition = w; body = l }))))

  otherwise_step : (y : st.Otherwise-F AA CC BB OO SS) →
      OtherwiseSame (otherwise_found
      (map-Otherwise AA CC BB OO SS FoundAlternative FoundCatcher FoundBranch FoundOtherwise FoundStmt (λ x. x.0) (λ x. x.0) (λ x. x.0)
      (λ x. x.0) (λ x. x.0) y))
  otherwise_step st.NoOtherwise j = refl
  otherwise_step (st.Otherwise xs) j = same_then _ _ (block_over xs j) (λ l. refl)

  need_then : {Z W : Type 0} (r : Result (Unit {0}) Fault) (z : Z) (k : Z → Result W Fault) → ((r >> Ok z) >>= k) ≡ (r >> k z)
  need_then (Ok u) z k = refl
  need_then (Err e) z k = refl

  caught_over : (o : Option Ident) (ty : Ident) (xs : List SS) (T : Ty) (j : Here) →
      Over (catcher_over A) (catcher_over B)
      (with_caught o T (first j) >>= λ C. block (map (λ x. x.0) xs) (handling C)
      >>= λ l. Ok (record { has_name = not (is_absent o); ty = ty.text; body = l }))
      (with_caught o T (second j) >>= λ C. block (map (λ x. x.0) xs) (handling C)
      >>= λ l. Ok (record { has_name = not (is_absent o); ty = ty.text; body = l }))
  caught_over None ty xs T j = over_then _ _ (block_over xs (record j { handles = true }))
      (λ l. over_ok (catcher_over A) (catcher_over B) (record { has_name = false; ty = ty.text; body = l }))
  caught_over (Some n) ty xs T j =
      over_by (need_then (need (is_free n.text (A ++ j.locals)) T01 n.span) (body_with A ss j (fixed n.text T None)) _)
      (need_then (need (is_free n.text (B ++ j.locals)) T01 n.span) (body_with B rs j (fixed n.text T None)) _
      ∙ ap (λ b. need b T01 n.span >> (block (map (λ x. x.0) xs) (handling (body_with B rs j (fixed n.text T None)))
      >>= λ l. Ok (record { has_name = true; ty = ty.text; body = l }))) (sym (same_free A B p j.locals n.text)))
      (over_after _ (over_then _ _ (seen_over xs (record j { handles = true }) (fixed n.text T None) (fixed n.text T None) refl)
      (λ l. over_ok (catcher_over A) (catcher_over B) (record { has_name = true; ty = ty.text; body = l }))))

  catcher_step : (y : st.Catcher-F AA CC BB OO SS) → OwnCatcher P y →
      CatcherSame (catcher_found (map-Catcher AA CC BB OO SS FoundAlternative FoundCatcher FoundBranch FoundOtherwise FoundStmt (λ x. x.0)
      (λ x. x.0) (λ x. x.0) (λ x. x.0) (λ x. x.0) y))
  catcher_step (st.Catch o ty xs) own j = over_same _ _ (λ i. found_or (type_in (same_standing A B p j.locals ty.text own i)) T02 ty.span)
      (λ T. over_after _ (caught_over o ty xs T j))

  -- ---- all statements

  stmt_step : (y : st.Stmt-F AA CC BB OO SS) → OwnStmt P y →
      StmtSame (stmt_layer_rule t (map-Stmt AA CC BB OO SS FoundAlternative FoundCatcher FoundBranch FoundOtherwise FoundStmt (λ x. x.0)
      (λ x. x.0) (λ x. x.0) (λ x. x.0) (λ x. x.0) y))
  stmt_step (st.Pass span) own j = over_ok (done_over A) (done_over B) (done j.locals Pure (tree.Pass span))
  stmt_step (st.Unreachable span) own j = over_ok (done_over A) (done_over B) (done j.locals Pure (tree.Unreachable span))
  stmt_step (st.Assert span e) own j = over_same _ _ (operand_same e own j.locals (lesser j.class Readonly))
      (λ o. over_after _ (ended_over j.class span true o.typed.effect j.locals _))
  stmt_step (st.Local span kind b ty e) own j = over_same _ _ (initialised_same ty e own.0 own.1 j.locals j.class)
      (λ d. bind_over span kind b e own.1 d j)
  stmt_step (st.LocalVars span is ty) own j = over_same _ _ (written_same ty own j.locals j.class)
      (λ W. over_then _ _ (variables_over is W.ty j.locals) (λ es. over_ok (done_over A) (done_over B) (done es Pure _)))
  stmt_step (st.Assign span x e) own j = assign_over span x e own.0 own.1 j
  stmt_step (st.Invoke span n ps es) own j = over_same _ _ (called_same span n ps es own.0 own.1 own.2 j)
      (λ c. over_ok (done_over A) (done_over B) (invoked span c j.locals))
  stmt_step (st.If span c xs others last) own j =
      over_then _ _ (branch_same c own xs j) (λ b. over_then _ _ (branches_same others j) (λ bs. over_then _ _ (block_over last j) (λ l.
      over_by (branches_over A span b bs l (first j)) (branches_over B span b bs l (second j))
      (over_after (condition b.condition) (over_after (branch_conditions bs)
      (ended_over j.class span true (greater (greater (branch_effect b) (branch_effects bs)) l.effect) j.locals
      (tree.If span b.condition.typed.tree b.body.acts (branch_trees bs) l.acts)))))))
  stmt_step (st.Case span e alts o) own j =
      over_same _ _ (operand_same e own j.locals j.class)
      (λ S. over_then _ _ (alternatives_same alts S.typed.ty j) (λ xs. over_same _ _ (o.1 j) (λ l.
      over_by (choices_over A span S.typed xs l (first j)) (choices_over B span S.typed xs l (second j))
      (over_after (where_conditions xs)
      (ended_over j.class span true (greater (greater S.typed.effect (alternative_effects xs)) l.effect) j.locals
      (tree.Case span S.typed.tree (alternative_trees xs) l.last))))))
  stmt_step (st.For span n a d b limit xs) own j =
      let index : List Entry → List Signature → Entry =
      λ X zs. fixed n.text (index_type t d a b (scope_at X zs j.class)) (Some (atom_at (next_atom X))) in
      let same : index (A ++ j.locals) ss ≡ index (B ++ j.locals) rs =
      λ i. fixed n.text (index_same d a b own.0 own.1 j.locals j.class i) (Some (atom_at (same_atom A B p j.locals i))) in
      over_same _ _ (operand_same a own.0 j.locals j.class)
      (λ S. over_same _ _ (operand_same b own.1 j.locals j.class) (λ T. over_same _ _ (limit_same limit own.2 j.locals j.class) (λ l.
      over_by refl (ap
      (λ r. r >> (block (map (λ x. x.0) xs) (body_with B rs j (index (B ++ j.locals) rs))
      >>= λ body. for_ended span S.typed d T.typed l body (second j))) (sym (indexes_same n S T j)))
      (over_after _ (over_then _ _ (seen_over xs j (index (A ++ j.locals) ss) (index (B ++ j.locals) rs) same)
      (λ body. over_after (limit_fits l) (ended_over j.class span _ _ j.locals _)))))))
  stmt_step (st.While span c limit xs) own j =
      over_same _ _ (operand_same c own.0 j.locals j.class)
      (λ C. over_same _ _ (limit_same limit own.1 j.locals j.class) (λ l. over_then _ _ (block_over xs j) (λ body.
      over_after (condition C) (over_after (limit_fits l) (ended_over j.class span true _ j.locals _)))))
  stmt_step (st.Repeat span xs c limit) own j =
      over_then _ _ (block_over xs j) (λ body. over_same _ _ (operand_same c own.0 j.locals j.class)
      (λ C. over_same _ _ (limit_same limit own.1 j.locals j.class) (λ l.
      over_after (condition C) (over_after (limit_fits l) (ended_over j.class span true _ j.locals _)))))
  stmt_step (st.Return span e) own j = return_over span e own j.result j
  stmt_step (st.Throw span e) own j = throw_over span e own j
  stmt_step (st.Try span xs cs o) own j =
      over_then _ _ (block_over xs j) (λ body. over_then _ _ (catchers_same cs j)
      (λ ds. over_same _ _ (o.1 (record j { handles = true })) (λ l.
      over_by (tries_over A span body ds l (first j)) (tries_over B span body ds l (second j))
      (ended_over j.class span true (greater (greater body.effect (catcher_effects ds)) l.effect) j.locals
      (tree.Try span body.acts (catcher_trees ds) l.last)))))
  stmt_step (st.Print span kind is) own j = over_same _ _ (items_same is own j.locals j.class) (λ q. ended_over j.class span _ _ j.locals _)

  -- a statement is judged alike where the names that it uses stand for the same
  pub stmt_same : (s : Stmt) → Each P (stmt_uses s) → StmtSame (found_stmt t s)
  stmt_same = by_uses.stmt_holds P FoundAlternative FoundCatcher FoundBranch FoundOtherwise FoundStmt alternative_found catcher_found
      branch_found otherwise_found (stmt_layer_rule t) AlternativeSame CatcherSame BranchSame OtherwiseSame StmtSame
      (record {
        alternative = alternative_step;
        catcher = catcher_step;
        branch = branch_step;
        otherwise = otherwise_step;
        stmt = stmt_step;
      })

  -- and so are statements in order
  pub stmts_same : (xs : List Stmt) → Each P (joined (map stmt_uses xs)) → (k : Effect) (j : Here) →
      ListedOver (in_order (map (found_stmt t) xs) k (first j)) (in_order (map (found_stmt t) xs) k (second j))
  stmts_same xs g k j =
      let ks = found_list P stmt_uses (found_stmt t) StmtSame stmt_same xs g in
      subst (λ l. ListedOver (in_order l k (first j)) (in_order l k (second j))) ks.is (in_order_over ks.list k j)
