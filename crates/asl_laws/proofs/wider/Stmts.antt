-- What is found at statements stays under a wider limit.
use Rattle.std.proofs.Common.{◌≡◌, ℕ, suc, ◌≤◌, Bool, true, false, cond, ◌&&◌, not, List, [], ◌∷◌, ◌++◌, map, Option, Some, None, Ok, Err}
use Rattle.std.proofs.Common.{refl, sym, ap, ap₂, subst, ◌∙◌}
use Rattle.std.specs.Prelude.{Result}
use Rattle.asl_syn.specs.declared.token.Span.{Span}
use Rattle.asl_syn.specs.declared.code.Fault.{Fault}
use Rattle.asl_syn.specs.declared.code.StaticCode.TheVariants.{T01, T02, T05, T08, T21}
use Rattle.asl_syn.specs.declared.tree.Ident.{Ident}
use Rattle.asl_syn.specs.declared.tree.Expr.{Expr}
use Rattle.asl_syn.specs.declared.tree.TypeExpr.{TypeExpr}
use Rattle.asl_syn.specs.declared.tree.Pattern.{Pattern}
use Rattle.asl_syn.specs.declared.tree.Direction.{Direction}
use Rattle.asl_syn.specs.declared.tree.Direction.TheVariants.{Up, Down}
use Rattle.asl_syn.specs.declared.tree.Binder.TheVariants.{Bound, Unbound}
use Rattle.asl_syn.specs.declared.tree.Bind.{Bind}
use Rattle.asl_syn.specs.declared.tree.Bind.TheVariants.{Single, Several}
use Rattle.asl_syn.specs.declared.tree.LocalKind.{LocalKind}
use Rattle.asl_syn.specs.declared.tree.PlacedSuffix.{PlacedSuffix}
use Rattle.asl_syn.specs.declared.tree.Suffix.{Suffix}
use Rattle.asl_syn.specs.declared.tree.Suffix.TheVariants.{FieldOf, FieldsOf, SlicesOf, ElementOf}
use Rattle.asl_syn.specs.declared.tree.Target.{Target, roll-Target, fold-roll-Target, map-Target, ind-Target}
use Rattle.asl_syn.specs.declared.tree.Target.TheOpen as tg
use Rattle.asl_syn.specs.declared.tree.PrintItem.{PrintItem}
use Rattle.asl_syn.specs.declared.tree.PrintItem.TheVariants.{Verbatim, Shown}
use Rattle.asl_syn.specs.declared.tree.Alternative.{Alternative, roll-Alternative}
use Rattle.asl_syn.specs.declared.tree.Catcher.{Catcher, roll-Catcher}
use Rattle.asl_syn.specs.declared.tree.ElseIf.{ElseIf, roll-ElseIf}
use Rattle.asl_syn.specs.declared.tree.Otherwise.{Otherwise, roll-Otherwise}
use Rattle.asl_syn.specs.declared.tree.Stmt.{Stmt, roll-Stmt}
use Rattle.asl_syn.specs.declared.tree.Alternative.TheOpen as st
use Rattle.asl_syn.specs.declared.tree.Alternative.TheFolds.{fold-Alternative, fold-Catcher, fold-ElseIf, fold-Otherwise}
use Rattle.asl_syn.specs.declared.tree.Alternative.TheFolds.{fold-roll-Alternative, map-Alternative, fold-roll-Catcher, map-Catcher}
use Rattle.asl_syn.specs.declared.tree.Alternative.TheFolds.{fold-roll-ElseIf, map-ElseIf, fold-roll-Otherwise, map-Otherwise}
use Rattle.asl_syn.specs.declared.tree.Alternative.TheFolds.{fold-roll-Stmt, map-Stmt, ind-Stmt}
use Rattle.asl_rules.specs.declared.effect.Effect.{Effect}
use Rattle.asl_rules.specs.declared.effect.Effect.TheVariants.{Pure}
use Rattle.asl_rules.specs.Faults.{◌>>=◌, ◌>>◌, need, found_or}
use Rattle.asl_rules.specs.Tests.{Tests}
use Rattle.asl_rules.specs.types.Types.{Ty, Parts, no_part, part, tuple_parts, is_bits, bits_of, is_integer}
use Rattle.asl_rules.specs.runs.Trees as tree
use Rattle.asl_rules.specs.declarations.Scopes.{Scope, Body, Entry, next_atom, is_absent, type_of_name, is_free, with_class, body_names}
use Rattle.asl_rules.specs.declarations.Scopes.{handling}
use Rattle.asl_rules.specs.expressions.Typing.{Operand, operand, trees_of}
use Rattle.asl_rules.specs.expressions.Slicing.{all_operands, all_integers}
use Rattle.asl_rules.specs.expressions.Exprs.{found, found_slice, typed, written, matches}
use Rattle.asl_rules.specs.statements.Acting.{FoundStmt, FoundOtherwise, in_order, block, last_block, act_first, ended, operand_of, fits}
use Rattle.asl_rules.specs.statements.Acting.{reading_scope}
use Rattle.asl_rules.specs.statements.Locals.{Initialised, initialised, initialised_as, counted_as, type_declared, bound, bind_rule}
use Rattle.asl_rules.specs.statements.Locals.{vars_declared, vars_rule, declared}
use Rattle.asl_rules.specs.statements.Targets.{TypedSuffix, by_field, by_bitfields, by_slices, by_element, up_to, found_slices}
use Rattle.asl_rules.specs.statements.Targets.{typed_suffix, typed_suffixes, suffix_effects, all_suffix_effects, behind, behind_suffix}
use Rattle.asl_rules.specs.statements.Targets.{behind_suffixes, reached, TypedPlace, FoundTarget, inside, all_places, parts_count}
use Rattle.asl_rules.specs.statements.Targets.{all_count, target_layer, found_target, place_effects, Placed, assignable, placed_at, placed}
use Rattle.asl_rules.specs.statements.Targets.{all_placed, part_of, part_fits, all_parts_fit, assignment, assign_rule}
use Rattle.asl_rules.specs.statements.Branches.{FoundBranch, FoundAlternative, FoundCatcher, branch_rule, branches, if_rule, all_patterns}
use Rattle.asl_rules.specs.statements.Branches.{where_rule, alternative_rule, alternatives, case_rule, limit_typed, of_range, index_type}
use Rattle.asl_rules.specs.statements.Branches.{with_index, index_rule, for_ended, for_rule, while_rule, repeat_rule, with_caught}
use Rattle.asl_rules.specs.statements.Branches.{catcher_rule, catchers, try_rule, is_exception}
use Rattle.asl_rules.specs.statements.Stmts.{invoke_rule, invoked, returned, return_rule, throw_rule, items_rule, text_first, value_first}
use Rattle.asl_rules.specs.statements.Stmts.{stmt_layer_rule, branch_found, alternative_found, catcher_found, otherwise_found, found_stmt}
use Rattle.asl_laws.proofs.wider.Stays.{Stays, stays_same, stays_equal, stays_bind, stays_step, stays_then, stays_after, StaysBy, by_ok}
use Rattle.asl_laws.proofs.wider.Stays.{by_bind, from_by, to_by, Pairs, pairs_of, all_pairs}
use Rattle.asl_laws.proofs.wider.Rows.{bind_same, FoundStays, SliceStays, all_operands_stay, sliced_same, shapes_same, range_same}
use Rattle.asl_laws.proofs.wider.Rows.{wide_tests, fit_same, procedure_stays}
use Rattle.asl_laws.proofs.wider.Trees.{expr_stays, type_stays, pattern_stays, slice_stays}

-- ---- lists of statements

abbrev pub StmtStays : FoundStmt → FoundStmt → Type 0
StmtStays s q = (B : Body) → Stays (s B) (q B)

pub order_stays : (ss qs : List FoundStmt) (k : Effect) (B : Body) → Pairs StmtStays ss qs → Stays (in_order ss k B) (in_order qs k B)
order_stays [] [] k B h = stays_same _
order_stays [] (q ∷ qs) k B h = absurd h
order_stays (s ∷ ss) [] k B h = absurd h
order_stays (s ∷ ss) (q ∷ qs) k B h = stays_bind (s B) (q B) _ _ (h.0 B)
    (λ d. stays_bind (in_order ss _ _) (in_order qs _ _) _ _ (order_stays ss qs _ (body_names B d.names) h.1)
    (λ l. stays_same (Ok (act_first d.act l))))

block_stays : (ss qs : List FoundStmt) (B : Body) → Pairs StmtStays ss qs → Stays (block ss B) (block qs B)
block_stays ss qs B h = order_stays ss qs Pure B h

abbrev pub LastStays : FoundOtherwise → FoundOtherwise → Type 0
LastStays None None = Unit {0}
LastStays None (Some q) = ⊥
LastStays (Some s) None = ⊥
LastStays (Some s) (Some q) = Pairs StmtStays s q

last_stays : (o p : FoundOtherwise) (B : Body) → LastStays o p → Stays (last_block o B) (last_block p B)
last_stays None None B h = stays_same _
last_stays None (Some q) B h = absurd h
last_stays (Some s) None B h = absurd h
last_stays (Some s) (Some q) B h = stays_bind (block s B) (block q B) _ _ (block_stays s q B h) (λ l. stays_same _)

pub record BranchStays (b c : FoundBranch) : Type 0 where
  pub parts_same : c ≡ record b { body = c.body }
  pub body_stays : Pairs StmtStays b.body c.body

pub record AlternativeStays (a b : FoundAlternative) : Type 0 where
  pub parts_same : b ≡ record a { body = b.body }
  pub body_stays : Pairs StmtStays a.body b.body

pub record CatcherStays (a b : FoundCatcher) : Type 0 where
  pub parts_same : b ≡ record a { body = b.body }
  pub body_stays : Pairs StmtStays a.body b.body

-- ---- catchers ask no test

catcher_stays : (a b : FoundCatcher) (B : Body) → CatcherStays a b → Stays (catcher_rule a B) (catcher_rule b B)
catcher_stays a b B h =
    subst (λ c. Stays (catcher_rule a B) (catcher_rule c B)) (sym h.parts_same)
    (stays_step (found_or (type_of_name a.ty.text B.scope.names) T02 a.ty.span) _ _
    (λ T. stays_after (need (is_exception T) T21 a.ty.span) _ _ (stays_step (with_caught a.name T B) _ _ (λ C.
    stays_bind (block a.body (handling C)) (block b.body (handling C)) _ _ (block_stays a.body b.body (handling C) h.body_stays)
    (λ l. stays_same (Ok (record { has_name = not (is_absent a.name); ty = a.ty.text; body = l })))))))

catchers_stay : (cs ds : List FoundCatcher) (B : Body) → Pairs CatcherStays cs ds → Stays (catchers cs B) (catchers ds B)
catchers_stay [] [] B h = stays_same _
catchers_stay [] (d ∷ ds) B h = absurd h
catchers_stay (c ∷ cs) [] B h = absurd h
catchers_stay (c ∷ cs) (d ∷ ds) B h = stays_bind (catcher_rule c B) (catcher_rule d B) _ _ (catcher_stays c d B h.0)
    (λ x. stays_bind (catchers cs B) (catchers ds B) _ _ (catchers_stay cs ds B h.1) (λ xs. stays_same _))

pub try_stays : (span : Span) (ss qs : List FoundStmt) (cs ds : List FoundCatcher) (o p : FoundOtherwise) (B : Body) →
    Pairs StmtStays ss qs → Pairs CatcherStays cs ds → LastStays o p → Stays (try_rule span ss cs o B) (try_rule span qs ds p B)
try_stays span ss qs cs ds o p B h i j =
    stays_bind (block ss B) (block qs B) _ _ (block_stays ss qs B h)
    (λ l. stays_bind (catchers cs B) (catchers ds B) _ _ (catchers_stay cs ds B i)
    (λ xs. stays_bind (last_block o (handling B)) (last_block p (handling B)) _ _ (last_stays o p (handling B) j) (λ n. stays_same _)))

module _ (t : Tests) (m : ℕ) (le : t.limit ≤ m) where
  abbrev u : Tests
  u = wide_tests t m le

  -- ---- expressions in statements

  pub operand_stays : (e : Expr) (G : Scope) → Stays (operand_of t e G) (operand_of u e G)
  operand_stays e G =
      let h = expr_stays t m le e in
      stays_bind (typed t e G) (typed u e G) _ _ (h.typed_stays G) (λ S. stays_equal _ _ (ap (λ span. Ok (operand span S)) h.span_same))

  pub written_stays : (w : TypeExpr) (outside : Bool) (G : Scope) → Stays (written t w outside G) (written u w outside G)
  written_stays w outside G = (type_stays t m le w).ty_stays outside G

  fits_same : (T : Ty) (o : Operand) → fits u T o ≡ fits t T o
  fits_same T o = fit_same t m le o.typed.ty T o.span

  -- ---- lists with conditions

  branch_stays : (b c : FoundBranch) (B : Body) → BranchStays b c →
      Stays (branch_rule t b.condition b.body B) (branch_rule u c.condition c.body B)
  branch_stays b c B h =
      subst (λ (d : FoundBranch). Stays (branch_rule t b.condition b.body B) (branch_rule u d.condition d.body B)) (sym h.parts_same)
      (stays_bind (operand_of t b.condition B.scope) (operand_of u b.condition B.scope) _ _ (operand_stays b.condition B.scope)
      (λ o. stays_bind (block b.body B) (block c.body B) _ _ (block_stays b.body c.body B h.body_stays) (λ l. stays_same _)))

  branches_stay : (bs cs : List FoundBranch) (B : Body) → Pairs BranchStays bs cs → Stays (branches t bs B) (branches u cs B)
  branches_stay [] [] B h = stays_same _
  branches_stay [] (c ∷ cs) B h = absurd h
  branches_stay (b ∷ bs) [] B h = absurd h
  branches_stay (b ∷ bs) (c ∷ cs) B h = stays_bind (branch_rule t b.condition b.body B) (branch_rule u c.condition c.body B) _ _
      (branch_stays b c B h.0) (λ x. stays_bind (branches t bs B) (branches u cs B) _ _ (branches_stay bs cs B h.1) (λ xs. stays_same _))

  if_stays : (span : Span) (c : Expr) (ss qs : List FoundStmt) (bs cs : List FoundBranch) (ls ms : List FoundStmt) (B : Body) →
      Pairs StmtStays ss qs → Pairs BranchStays bs cs → Pairs StmtStays ls ms →
      Stays (if_rule t span c ss bs ls B) (if_rule u span c qs cs ms B)
  if_stays span c ss qs bs cs ls ms B h i j =
      stays_bind (branch_rule t c ss B) (branch_rule u c qs B) _ _
      (branch_stays (record { condition = c; body = ss }) (record { condition = c; body = qs }) B
      (record { parts_same = refl; body_stays = h })) (λ b.
      stays_bind (branches t bs B) (branches u cs B) _ _ (branches_stay bs cs B i)
      (λ xs. stays_bind (block ls B) (block ms B) _ _ (block_stays ls ms B j) (λ l. stays_same _)))

  patterns_stay : (ps : List Pattern) (T : Ty) (G : Scope) → Stays (all_patterns t ps T G) (all_patterns u ps T G)
  patterns_stay [] T G = stays_same _
  patterns_stay (p ∷ ps) T G = stays_bind (matches t p T G) (matches u p T G) _ _ (pattern_stays t m le p T (with_class G Pure))
      (λ x. stays_bind (all_patterns t ps T G) (all_patterns u ps T G) _ _ (patterns_stay ps T G) (λ xs. stays_same _))

  where_stays : (o : Option Expr) (G : Scope) → Stays (where_rule t o G) (where_rule u o G)
  where_stays None G = stays_same _
  where_stays (Some e) G = stays_bind (operand_of t e (reading_scope G)) (operand_of u e (reading_scope G)) _ _
      (operand_stays e (reading_scope G)) (λ x. stays_same _)

  alternative_stays : (a b : FoundAlternative) (T : Ty) (B : Body) → AlternativeStays a b →
      Stays (alternative_rule t a T B) (alternative_rule u b T B)
  alternative_stays a b T B h =
      subst (λ (c : FoundAlternative). Stays (alternative_rule t a T B) (alternative_rule u c T B)) (sym h.parts_same)
      (stays_bind (all_patterns t a.patterns T B.scope) (all_patterns u a.patterns T B.scope) _ _ (patterns_stay a.patterns T B.scope)
      (λ ms. stays_bind (where_rule t a.condition B.scope) (where_rule u a.condition B.scope) _ _ (where_stays a.condition B.scope) (λ x.
      stays_bind (block a.body B) (block b.body B) _ _ (block_stays a.body b.body B h.body_stays) (λ l. stays_same _))))

  alternatives_stay : (xs ys : List FoundAlternative) (T : Ty) (B : Body) → Pairs AlternativeStays xs ys →
      Stays (alternatives t xs T B) (alternatives u ys T B)
  alternatives_stay [] [] T B h = stays_same _
  alternatives_stay [] (y ∷ ys) T B h = absurd h
  alternatives_stay (x ∷ xs) [] T B h = absurd h
  alternatives_stay (x ∷ xs) (y ∷ ys) T B h = stays_bind (alternative_rule t x T B) (alternative_rule u y T B) _ _
      (alternative_stays x y T B h.0) (λ z. stays_bind (alternatives t xs T B) (alternatives u ys T B) _ _ (alternatives_stay xs ys T B h.1)
      (λ zs. stays_same _))

  case_stays : (span : Span) (e : Expr) (xs ys : List FoundAlternative) (o p : FoundOtherwise) (B : Body) → Pairs AlternativeStays xs ys →
      LastStays o p → Stays (case_rule t span e xs o B) (case_rule u span e ys p B)
  case_stays span e xs ys o p B h i =
      stays_bind (operand_of t e B.scope) (operand_of u e B.scope) _ _ (operand_stays e B.scope)
      (λ x. stays_bind (alternatives t xs x.typed.ty B) (alternatives u ys x.typed.ty B) _ _ (alternatives_stay xs ys x.typed.ty B h)
      (λ zs.
      stays_bind (last_block o B) (last_block p B) _ _ (last_stays o p B i) (λ l. stays_same _)))

  -- ---- loops

  limit_stays : (o : Option Expr) (G : Scope) → Stays (limit_typed t o G) (limit_typed u o G)
  limit_stays None G = stays_same _
  limit_stays (Some e) G = stays_bind (operand_of t e (with_class G Pure)) (operand_of u e (with_class G Pure)) _ _
      (operand_stays e (with_class G Pure)) (λ x. stays_same _)

  -- what makes another type of a fault doesn't ask for the limit
  index_same : (d : Direction) (a b : Expr) (G : Scope) → index_type u d a b G ≡ index_type t d a b G
  index_same Up a b G = ap of_range (range_same (found t a) (found t b) (found u a) (found u b) G (expr_stays t m le a)
      (expr_stays t m le b))
  index_same Down a b G = ap of_range (range_same (found t b) (found t a) (found u b) (found u a) G (expr_stays t m le b)
      (expr_stays t m le a))

  for_stays : (span : Span) (i : Ident) (a : Expr) (d : Direction) (b : Expr) (o : Option Expr) (ss qs : List FoundStmt) (B : Body) →
      Pairs StmtStays ss qs → Stays (for_rule t span i a d b o ss B) (for_rule u span i a d b o qs B)
  for_stays span i a d b o ss qs B h =
      stays_bind (operand_of t a B.scope) (operand_of u a B.scope) _ _ (operand_stays a B.scope)
      (λ S. stays_bind (operand_of t b B.scope) (operand_of u b B.scope) _ _ (operand_stays b B.scope) (λ T.
      stays_bind (limit_typed t o B.scope) (limit_typed u o B.scope) _ _ (limit_stays o B.scope) (λ l. stays_after (index_rule i S T B) _ _
      (subst (λ U. Stays (block ss (with_index i (index_type t d a b B.scope) B) >>= λ body. for_ended span S.typed d T.typed l body B)
      (block qs (with_index i U B) >>= λ body. for_ended span S.typed d T.typed l body B)) (sym (index_same d a b B.scope))
      (stays_bind (block ss (with_index i (index_type t d a b B.scope) B)) (block qs (with_index i (index_type t d a b B.scope) B)) _ _
      (block_stays ss qs (with_index i (index_type t d a b B.scope) B) h) (λ l. stays_same _))))))

  while_stays : (span : Span) (c : Expr) (o : Option Expr) (ss qs : List FoundStmt) (B : Body) → Pairs StmtStays ss qs →
      Stays (while_rule t span c o ss B) (while_rule u span c o qs B)
  while_stays span c o ss qs B h =
      stays_bind (operand_of t c B.scope) (operand_of u c B.scope) _ _ (operand_stays c B.scope)
      (λ S. stays_bind (limit_typed t o B.scope) (limit_typed u o B.scope) _ _ (limit_stays o B.scope) (λ l.
      stays_bind (block ss B) (block qs B) _ _ (block_stays ss qs B h) (λ b. stays_same _)))

  repeat_stays : (span : Span) (ss qs : List FoundStmt) (c : Expr) (o : Option Expr) (B : Body) → Pairs StmtStays ss qs →
      Stays (repeat_rule t span ss c o B) (repeat_rule u span qs c o B)
  repeat_stays span ss qs c o B h =
      stays_bind (block ss B) (block qs B) _ _ (block_stays ss qs B h)
      (λ b. stays_bind (operand_of t c B.scope) (operand_of u c B.scope) _ _ (operand_stays c B.scope) (λ S.
      stays_bind (limit_typed t o B.scope) (limit_typed u o B.scope) _ _ (limit_stays o B.scope) (λ l. stays_same _)))

  -- ---- declarations: what a `let` counts as doesn't ask for the limit, though a fault counts as an atom

  counts_same : (T : Ty) (e : Expr) (G : Scope) → initialised_as u T e G ≡ initialised_as t T e G
  counts_same T e G =
      let h = expr_stays t m le e in
      ap₂ (λ r b. cond (is_integer T) (Some (counted_as r b (next_atom G.names))) None) (h.width_same G) (h.atom_same G)

  initialised_stays : (w : Option TypeExpr) (e : Expr) (G : Scope) → Stays (initialised t w e G) (initialised u w e G)
  initialised_stays None e G = stays_bind (operand_of t e G) (operand_of u e G) _ _ (operand_stays e G) (λ o. stays_same _)
  initialised_stays (Some w) e G = stays_bind (written t w false G) (written u w false G) _ _ (written_stays w false G)
      (λ W. stays_bind (operand_of t e G) (operand_of u e G) _ _ (operand_stays e G) (λ o.
      stays_then (fits t W.ty o) (fits u W.ty o) _ _ (stays_equal _ _ (fits_same W.ty o)) (stays_same _)))

  bound_stays : (span : Span) (kind : LocalKind) (b : Bind) (e : Expr) (d : Initialised) (G : Scope) →
      Stays (bound t span kind b e d G) (bound u span kind b e d G)
  bound_stays span kind (Single (Bound i)) e d G =
      let T = type_declared kind d.written d.value.ty in
      stays_equal _ _ (ap
      (λ o. need (is_free i.text G.names) T01 i.span
      >> ended G.class span true d.value.effect (G.names ++ declared kind i.text T o ∷ [])
      (tree.Declare span d.written tree.whole d.value.tree)) (counts_same T e G))
  bound_stays span kind (Single (Unbound at)) e d G = stays_same _
  bound_stays span kind (Several at bs) e d G = stays_same _

  bind_stays : (span : Span) (kind : LocalKind) (b : Bind) (w : Option TypeExpr) (e : Expr) (G : Scope) →
      Stays (bind_rule t span kind b w e G) (bind_rule u span kind b w e G)
  bind_stays span kind b w e G = stays_bind (initialised t w e G) (initialised u w e G) _ _ (initialised_stays w e G)
      (λ d. bound_stays span kind b e d G)

  vars_stay : (span : Span) (is : List Ident) (w : TypeExpr) (G : Scope) → Stays (vars_rule t span is w G) (vars_rule u span is w G)
  vars_stay span is w G = stays_bind (written t w false G) (written u w false G) _ _ (written_stays w false G)
      (λ W. stays_equal _ _ (ap (λ at. vars_declared span is at W G) (type_stays t m le w).span_same))

  -- ---- targets: what lies behind a suffix is the same

  record SuffixSame (x y : TypedSuffix) : Type 0 where
    behind_same : (T : Ty) (G : Scope) → behind_suffix y T G ≡ behind_suffix x T G
    effects_same : suffix_effects y ≡ suffix_effects x

  suffix_self : (x : TypedSuffix) → SuffixSame x x
  suffix_self x = record { behind_same = λ T G. refl; effects_same = refl }

  suffix_stays : (at : Span) (s : Suffix) (G : Scope) → StaysBy SuffixSame (typed_suffix t at s G) (typed_suffix u at s G)
  suffix_stays at (FieldOf f) G = by_ok SuffixSame _ _ (suffix_self (by_field at f))
  suffix_stays at (FieldsOf fs) G = by_ok SuffixSame _ _ (suffix_self (by_bitfields at fs))
  suffix_stays at (SlicesOf ss) G =
      let h = all_pairs SliceStays (found_slice t) (found_slice u) ss (slice_stays t m le) in
      to_by SuffixSame (all_operands (found_slices t ss) G) (all_operands (found_slices u ss) G) _ _
      (all_operands_stay (found_slices t ss) (found_slices u ss) G h) (λ os.
      by_ok SuffixSame (by_slices at (found_slices t ss) os) (by_slices at (found_slices u ss) os) (record {
        behind_same = λ T H. ap₂ (λ r hs. need (is_bits T && all_integers os) T08 at
            >> (r >>= λ w. Ok (behind (bits_of w []) (tree.into_slices at hs (trees_of os)))))
            (sliced_same at (found_slices t ss) (found_slices u ss) H h) (shapes_same (found_slices t ss) (found_slices u ss) h);
        effects_same = refl;
      }))
  suffix_stays at (ElementOf e) G = to_by SuffixSame (typed t e G) (typed u e G) _ _ ((expr_stays t m le e).typed_stays G)
      (λ I. by_ok SuffixSame _ _ (suffix_self (by_element at I)))

  suffixes_stay : (i : Ident) (xs : List PlacedSuffix) (G : Scope) →
      StaysBy (Pairs SuffixSame) (typed_suffixes t i xs G) (typed_suffixes u i xs G)
  suffixes_stay i [] G = by_ok (Pairs SuffixSame) [] [] tt
  suffixes_stay i (x ∷ xs) G =
      by_bind SuffixSame (Pairs SuffixSame) (typed_suffix t (up_to i x.end) x.suffix G) (typed_suffix u (up_to i x.end) x.suffix G) _ _
      (suffix_stays (up_to i x.end) x.suffix G) (λ y z h.
      by_bind (Pairs SuffixSame) (Pairs SuffixSame) (typed_suffixes t i xs G) (typed_suffixes u i xs G) _ _ (suffixes_stay i xs G)
      (λ ys zs k. by_ok (Pairs SuffixSame) (y ∷ ys) (z ∷ zs) (h, k)))

  record PlaceSame (p q : TypedPlace) : Type 0 where
    way_same : q.way ≡ p.way
    name_same : q.name ≡ p.name
    suffixes_same : Pairs SuffixSame p.suffixes q.suffixes

  abbrev Places : List TypedPlace → List TypedPlace → Type 0
  Places ps qs = Pairs PlaceSame ps qs

  inside_same : (n : ℕ) (ps qs : List TypedPlace) → Places ps qs → Places (inside n ps) (inside n qs)
  inside_same n [] [] h = tt
  inside_same n [] (q ∷ qs) h = absurd h
  inside_same n (p ∷ ps) [] h = absurd h
  inside_same n (p ∷ ps) (q ∷ qs) h = (
    record { way_same = ap (λ w. n ∷ w) h.0.way_same; name_same = h.0.name_same; suffixes_same = h.0.suffixes_same },
    inside_same n ps qs h.1,
  )

  join_same : (ps qs rs ss : List TypedPlace) → Places ps qs → Places rs ss → Places (ps ++ rs) (qs ++ ss)
  join_same [] [] rs ss h k = k
  join_same [] (q ∷ qs) rs ss h k = absurd h
  join_same (p ∷ ps) [] rs ss h k = absurd h
  join_same (p ∷ ps) (q ∷ qs) rs ss h k = (h.0, join_same ps qs rs ss h.1 k)

  record TargetStays (x y : FoundTarget) : Type 0 where
    places_stay : (G : Scope) → StaysBy (Pairs PlaceSame) (x.places G) (y.places G)
    counts_same : (S : Ty) → y.counts S ≡ x.counts S

  places_stay_all : (n : ℕ) (xs ys : List FoundTarget) (G : Scope) → Pairs TargetStays xs ys →
      StaysBy (Pairs PlaceSame) (all_places n xs G) (all_places n ys G)
  places_stay_all n [] [] G h = by_ok (Pairs PlaceSame) [] [] tt
  places_stay_all n [] (y ∷ ys) G h = absurd h
  places_stay_all n (x ∷ xs) [] G h = absurd h
  places_stay_all n (x ∷ xs) (y ∷ ys) G h =
      by_bind (Pairs PlaceSame) (Pairs PlaceSame) (x.places G) (y.places G) _ _ (h.0.places_stay G)
      (λ ps qs i. by_bind (Pairs PlaceSame) (Pairs PlaceSame) (all_places (suc n) xs G) (all_places (suc n) ys G) _ _
      (places_stay_all (suc n) xs ys G h.1) (λ rs ss j.
      by_ok (Pairs PlaceSame) (inside n ps ++ rs) (inside n qs ++ ss)
      (join_same (inside n ps) (inside n qs) rs ss (inside_same n ps qs i) j)))

  parts_same : (xs ys : List FoundTarget) (Ts : Parts) → Pairs TargetStays xs ys → parts_count ys Ts ≡ parts_count xs Ts
  parts_same [] [] Ts h = refl
  parts_same [] (y ∷ ys) Ts h = absurd h
  parts_same (x ∷ xs) [] Ts h = absurd h
  parts_same (x ∷ xs) (y ∷ ys) no_part h = refl
  parts_same (x ∷ xs) (y ∷ ys) (part T Ts) h = ap₂ (λ a b. a && b) (h.0.counts_same T) (parts_same xs ys Ts h.1)

  all_same : (xs ys : List FoundTarget) (o : Option Parts) → Pairs TargetStays xs ys → all_count ys o ≡ all_count xs o
  all_same xs ys None h = refl
  all_same xs ys (Some Ts) h = parts_same xs ys Ts h

  TargetGood : Target → Type 0
  TargetGood x = TargetStays (found_target t x) (found_target u x)

  abbrev Below : Type 0
  Below = tg.Target-F ((x : Target) × TargetGood x)

  abbrev below : Below → tg.Target-F Target
  below = map-Target ((x : Target) × TargetGood x) Target (λ x. x.0)

  targets_stay : (xs : List ((x : Target) × TargetGood x)) →
      Pairs TargetStays (map (found_target t) (map (λ x. x.0) xs)) (map (found_target u) (map (λ x. x.0) xs))
  unfolding TargetGood
  targets_stay xs = pairs_of TargetStays (found_target t) (found_target u) xs

  layer_target : (y : Below) → TargetStays (target_layer t (map-Target Target FoundTarget (found_target t) (below y)))
      (target_layer u (map-Target Target FoundTarget (found_target u) (below y)))
  layer_target (tg.Discarded at) = record { places_stay = λ G. by_ok (Pairs PlaceSame) [] [] tt; counts_same = λ S. refl }
  layer_target (tg.Place at i xs) = record {
    places_stay = λ G. by_bind (Pairs SuffixSame) (Pairs PlaceSame) (typed_suffixes t i xs G) (typed_suffixes u i xs G) _ _
        (suffixes_stay i xs G) (λ ys zs h. by_ok (Pairs PlaceSame) (record { way = []; name = i; suffixes = ys } ∷ [])
        (record { way = []; name = i; suffixes = zs } ∷ []) (record { way_same = refl; name_same = refl; suffixes_same = h }, tt));
    counts_same = λ S. refl;
  }
  layer_target (tg.Targets at ts) = record {
    places_stay = λ G. places_stay_all 0 (map (found_target t) (map (λ x. x.0) ts)) (map (found_target u) (map (λ x. x.0) ts)) G
        (targets_stay ts);
    counts_same = λ S. all_same (map (found_target t) (map (λ x. x.0) ts)) (map (found_target u) (map (λ x. x.0) ts)) (tuple_parts S)
        (targets_stay ts);
  }

  target_step : (l : tg.Target-F Target) (y : Below) → below y ≡ l → TargetGood (roll-Target l)
  unfolding TargetGood
  target_step l y is =
      subst (λ (x : FoundTarget). TargetStays x (found_target u (roll-Target l))) (sym (fold-roll-Target FoundTarget (target_layer t) l))
      (subst (λ (x : FoundTarget). TargetStays (target_layer t (map-Target Target FoundTarget (found_target t) l)) x)
      (sym (fold-roll-Target FoundTarget (target_layer u) l))
      (subst (λ z. TargetStays (target_layer t (map-Target Target FoundTarget (found_target t) z))
      (target_layer u (map-Target Target FoundTarget (found_target u) z))) is (layer_target y)))

  target_good : (x : Target) → TargetGood x
  target_good = ind-Target TargetGood target_step

  target_stays : (x : Target) → TargetStays (found_target t x) (found_target u x)
  unfolding TargetGood
  target_stays x = target_good x

  behind_all : (xs ys : List TypedSuffix) (T : Ty) (G : Scope) → Pairs SuffixSame xs ys → behind_suffixes ys T G ≡ behind_suffixes xs T G
  behind_all [] [] T G h = refl
  behind_all [] (y ∷ ys) T G h = absurd h
  behind_all (x ∷ xs) [] T G h = absurd h
  behind_all (x ∷ xs) (y ∷ ys) T G h = bind_same (behind_suffix x T G) (behind_suffix y T G) _ _ (h.0.behind_same T G)
      (λ b. ap (λ r. r >>= λ q. Ok (reached q.ty (b.step ∷ q.steps))) (behind_all xs ys b.ty G h.1))

  suffix_effects_same : (xs ys : List TypedSuffix) → Pairs SuffixSame xs ys → all_suffix_effects ys ≡ all_suffix_effects xs
  suffix_effects_same [] [] h = refl
  suffix_effects_same [] (y ∷ ys) h = absurd h
  suffix_effects_same (x ∷ xs) [] h = absurd h
  suffix_effects_same (x ∷ xs) (y ∷ ys) h = ap₂ (λ a b. a ++ b) h.0.effects_same (suffix_effects_same xs ys h.1)

  effects_all : (ps qs : List TypedPlace) → Places ps qs → place_effects qs ≡ place_effects ps
  effects_all [] [] h = refl
  effects_all [] (q ∷ qs) h = absurd h
  effects_all (p ∷ ps) [] h = absurd h
  effects_all (p ∷ ps) (q ∷ qs) h = ap₂ (λ a b. a ++ b) (suffix_effects_same p.suffixes q.suffixes h.0.suffixes_same)
      (effects_all ps qs h.1)

  placed_same : (p q : TypedPlace) (G : Scope) → PlaceSame p q → placed q G ≡ placed p G
  placed_same p q G h =
      ap₂ (λ i way. assignable i G >>= λ s. behind_suffixes q.suffixes s.ty G
      >>= λ r. Ok (placed_at (record { way = way; name = i; suffixes = p.suffixes }) s r G.names)) h.name_same h.way_same
      ∙ on (assignable p.name G)
    where
      on : (z : Result _ Fault) → (z >>= λ s. behind_suffixes q.suffixes s.ty G >>= λ r. Ok (placed_at p s r G.names))
          ≡ (z >>= λ s. behind_suffixes p.suffixes s.ty G >>= λ r. Ok (placed_at p s r G.names))
      on (Ok s) = ap (λ r. r >>= λ x. Ok (placed_at p s x G.names)) (behind_all p.suffixes q.suffixes s.ty G h.suffixes_same)
      on (Err e) = refl

  placed_all : (ps qs : List TypedPlace) (G : Scope) → Places ps qs → all_placed qs G ≡ all_placed ps G
  placed_all [] [] G h = refl
  placed_all [] (q ∷ qs) G h = absurd h
  placed_all (p ∷ ps) [] G h = absurd h
  placed_all (p ∷ ps) (q ∷ qs) G h = ap₂ (λ r s. r >>= λ x. s >>= λ xs. Ok (x ∷ xs)) (placed_same p q G h.0) (placed_all ps qs G h.1)

  part_fits_same : (o : Option Ty) (T : Ty) (at : Span) → part_fits u o T at ≡ part_fits t o T at
  part_fits_same None T at = refl
  part_fits_same (Some S) T at = fit_same t m le S T at

  parts_fit_same : (ps : List Placed) (o : Operand) → all_parts_fit u ps o ≡ all_parts_fit t ps o
  parts_fit_same [] o = refl
  parts_fit_same (p ∷ ps) o = ap₂ (λ r s. r >> s) (part_fits_same (part_of p.place.way (Some o.typed.ty)) p.ty o.span) (parts_fit_same ps o)

  assign_stays : (span : Span) (x : Target) (e : Expr) (G : Scope) →
      Stays (assign_rule t span (found_target t x) e G) (assign_rule u span (found_target u x) e G)
  assign_stays span x e G =
      let h = target_stays x in
      from_by (Pairs PlaceSame) ((found_target t x).places G) ((found_target u x).places G) _ _ (h.places_stay G) (λ ps qs k.
      stays_bind (operand_of t e G) (operand_of u e G) _ _ (operand_stays e G) (λ o.
      stays_bind (all_placed ps G) (all_placed qs G) _ _ (stays_equal _ _ (placed_all ps qs G k)) (λ rs.
      stays_then (all_parts_fit t rs o) (all_parts_fit u rs o) _ _ (stays_equal _ _ (parts_fit_same rs o))
      (stays_equal _ _ (ap₂ (λ b ks. need b T05 span >> assignment G.class span ks rs o.typed G.names) (h.counts_same o.typed.ty)
      (effects_all ps qs k))))))

  -- ---- the other statements

  invoke_stays : (span : Span) (i : Ident) (ps es : List Expr) (G : Scope) →
      Stays (invoke_rule t span i ps es G) (invoke_rule u span i ps es G)
  invoke_stays span i ps es G = stays_bind _ _ _ _
      (procedure_stays t m le span i (map (found t) ps) (map (found u) ps) (map (found t) es) (map (found u) es) G
      (all_pairs FoundStays (found t) (found u) ps (expr_stays t m le)) (all_pairs FoundStays (found t) (found u) es (expr_stays t m le)))
      (λ c. stays_same (Ok (invoked span c G.names)))

  returned_same : (class : Effect) (span : Span) (T : Option Ty) (o : Operand) (names : List Entry) →
      returned u class span T o names ≡ returned t class span T o names
  returned_same class span None o names = refl
  returned_same class span (Some T) o names = ap
      (λ r. r >> ended class span true o.typed.effect names (tree.Return span (Some o.typed.tree))) (fits_same T o)

  return_stays : (span : Span) (e : Option Expr) (G : Scope) (T : Option Ty) → Stays (return_rule t span e G T) (return_rule u span e G T)
  return_stays span None G None = stays_same _
  return_stays span None G (Some T) = stays_same _
  return_stays span (Some e) G T = stays_bind (operand_of t e G) (operand_of u e G) _ _ (operand_stays e G)
      (λ o. stays_equal _ _ (returned_same G.class span T o G.names))

  throw_stays : (span : Span) (e : Option Expr) (B : Body) → Stays (throw_rule t span e B) (throw_rule u span e B)
  throw_stays span None B = stays_same _
  throw_stays span (Some e) B = stays_bind (operand_of t e B.scope) (operand_of u e B.scope) _ _ (operand_stays e B.scope)
      (λ o. stays_same _)

  items_stay : (is : List PrintItem) (G : Scope) → Stays (items_rule t is G) (items_rule u is G)
  items_stay [] G = stays_same _
  items_stay (Verbatim span text ∷ is) G = stays_bind (items_rule t is G) (items_rule u is G) _ _ (items_stay is G)
      (λ p. stays_same (Ok (text_first text p)))
  items_stay (Shown e ∷ is) G = stays_bind (typed t e G) (typed u e G) _ _ ((expr_stays t m le e).typed_stays G)
      (λ S. stays_bind (items_rule t is G) (items_rule u is G) _ _ (items_stay is G) (λ p. stays_same (Ok (value_first S p))))

  -- ---- by induction over trees

  abbrev found_alternative : Tests → Alternative → FoundAlternative
  found_alternative v = fold-Alternative FoundAlternative FoundCatcher FoundBranch FoundOtherwise FoundStmt alternative_found catcher_found
      branch_found otherwise_found (stmt_layer_rule v)

  abbrev found_catcher : Tests → Catcher → FoundCatcher
  found_catcher v = fold-Catcher FoundAlternative FoundCatcher FoundBranch FoundOtherwise FoundStmt alternative_found catcher_found
      branch_found otherwise_found (stmt_layer_rule v)

  abbrev found_branch : Tests → ElseIf → FoundBranch
  found_branch v = fold-ElseIf FoundAlternative FoundCatcher FoundBranch FoundOtherwise FoundStmt alternative_found catcher_found
      branch_found otherwise_found (stmt_layer_rule v)

  abbrev found_otherwise : Tests → Otherwise → FoundOtherwise
  found_otherwise v = fold-Otherwise FoundAlternative FoundCatcher FoundBranch FoundOtherwise FoundStmt alternative_found catcher_found
      branch_found otherwise_found (stmt_layer_rule v)

  abbrev AlternativeGood : Alternative → Type 0
  AlternativeGood x = AlternativeStays (found_alternative t x) (found_alternative u x)

  abbrev CatcherGood : Catcher → Type 0
  CatcherGood x = CatcherStays (found_catcher t x) (found_catcher u x)

  abbrev BranchGood : ElseIf → Type 0
  BranchGood x = BranchStays (found_branch t x) (found_branch u x)

  abbrev OtherwiseGood : Otherwise → Type 0
  OtherwiseGood x = LastStays (found_otherwise t x) (found_otherwise u x)

  abbrev pub StmtGood : Stmt → Type 0
  StmtGood x = StmtStays (found_stmt t x) (found_stmt u x)

  abbrev AA : Type 0
  AA = (x : Alternative) × AlternativeGood x

  abbrev CC : Type 0
  CC = (x : Catcher) × CatcherGood x

  abbrev EE : Type 0
  EE = (x : ElseIf) × BranchGood x

  abbrev OO : Type 0
  OO = (x : Otherwise) × OtherwiseGood x

  abbrev SS : Type 0
  SS = (x : Stmt) × StmtGood x

  abbrev trees_alternative : st.Alternative-F AA CC EE OO SS → st.Alternative-F Alternative Catcher ElseIf Otherwise Stmt
  trees_alternative = map-Alternative AA CC EE OO SS Alternative Catcher ElseIf Otherwise Stmt (λ x. x.0) (λ x. x.0) (λ x. x.0) (λ x. x.0)
      (λ x. x.0)

  abbrev opened_alternative : Tests → st.Alternative-F Alternative Catcher ElseIf Otherwise Stmt →
      st.Alternative-F FoundAlternative FoundCatcher FoundBranch FoundOtherwise FoundStmt
  opened_alternative v = map-Alternative Alternative Catcher ElseIf Otherwise Stmt FoundAlternative FoundCatcher FoundBranch FoundOtherwise
      FoundStmt (found_alternative v) (found_catcher v) (found_branch v) (found_otherwise v) (found_stmt v)

  abbrev trees_catcher : st.Catcher-F AA CC EE OO SS → st.Catcher-F Alternative Catcher ElseIf Otherwise Stmt
  trees_catcher = map-Catcher AA CC EE OO SS Alternative Catcher ElseIf Otherwise Stmt (λ x. x.0) (λ x. x.0) (λ x. x.0) (λ x. x.0)
      (λ x. x.0)

  abbrev opened_catcher : Tests → st.Catcher-F Alternative Catcher ElseIf Otherwise Stmt →
      st.Catcher-F FoundAlternative FoundCatcher FoundBranch FoundOtherwise FoundStmt
  opened_catcher v = map-Catcher Alternative Catcher ElseIf Otherwise Stmt FoundAlternative FoundCatcher FoundBranch FoundOtherwise
      FoundStmt (found_alternative v) (found_catcher v) (found_branch v) (found_otherwise v) (found_stmt v)

  abbrev trees_branch : st.ElseIf-F AA CC EE OO SS → st.ElseIf-F Alternative Catcher ElseIf Otherwise Stmt
  trees_branch = map-ElseIf AA CC EE OO SS Alternative Catcher ElseIf Otherwise Stmt (λ x. x.0) (λ x. x.0) (λ x. x.0) (λ x. x.0) (λ x. x.0)

  abbrev opened_branch : Tests → st.ElseIf-F Alternative Catcher ElseIf Otherwise Stmt →
      st.ElseIf-F FoundAlternative FoundCatcher FoundBranch FoundOtherwise FoundStmt
  opened_branch v = map-ElseIf Alternative Catcher ElseIf Otherwise Stmt FoundAlternative FoundCatcher FoundBranch FoundOtherwise FoundStmt
      (found_alternative v) (found_catcher v) (found_branch v) (found_otherwise v) (found_stmt v)

  abbrev trees_otherwise : st.Otherwise-F AA CC EE OO SS → st.Otherwise-F Alternative Catcher ElseIf Otherwise Stmt
  trees_otherwise = map-Otherwise AA CC EE OO SS Alternative Catcher ElseIf Otherwise Stmt (λ x. x.0) (λ x. x.0) (λ x. x.0) (λ x. x.0)
      (λ x. x.0)

  abbrev opened_otherwise : Tests → st.Otherwise-F Alternative Catcher ElseIf Otherwise Stmt →
      st.Otherwise-F FoundAlternative FoundCatcher FoundBranch FoundOtherwise FoundStmt
  opened_otherwise v = map-Otherwise Alternative Catcher ElseIf Otherwise Stmt FoundAlternative FoundCatcher FoundBranch FoundOtherwise
      FoundStmt (found_alternative v) (found_catcher v) (found_branch v) (found_otherwise v) (found_stmt v)

  abbrev trees_stmt : st.Stmt-F AA CC EE OO SS → st.Stmt-F Alternative Catcher ElseIf Otherwise Stmt
  trees_stmt = map-Stmt AA CC EE OO SS Alternative Catcher ElseIf Otherwise Stmt (λ x. x.0) (λ x. x.0) (λ x. x.0) (λ x. x.0) (λ x. x.0)

  abbrev opened_stmt : Tests → st.Stmt-F Alternative Catcher ElseIf Otherwise Stmt →
      st.Stmt-F FoundAlternative FoundCatcher FoundBranch FoundOtherwise FoundStmt
  opened_stmt v = map-Stmt Alternative Catcher ElseIf Otherwise Stmt FoundAlternative FoundCatcher FoundBranch FoundOtherwise FoundStmt
      (found_alternative v) (found_catcher v) (found_branch v) (found_otherwise v) (found_stmt v)

  stmts : (ss : List SS) → Pairs StmtStays (map (found_stmt t) (map (λ x. x.0) ss)) (map (found_stmt u) (map (λ x. x.0) ss))
  stmts ss = pairs_of StmtStays (found_stmt t) (found_stmt u) ss

  layer_stmt : (y : st.Stmt-F AA CC EE OO SS) → StmtStays (stmt_layer_rule t (opened_stmt t (trees_stmt y)))
      (stmt_layer_rule u (opened_stmt u (trees_stmt y)))
  layer_stmt (st.Pass span) B = stays_same _
  layer_stmt (st.Unreachable span) B = stays_same _
  layer_stmt (st.Assert span e) B = stays_bind (operand_of t e (reading_scope B.scope)) (operand_of u e (reading_scope B.scope)) _ _
      (operand_stays e (reading_scope B.scope)) (λ o. stays_same _)
  layer_stmt (st.Local span kind b w e) B = bind_stays span kind b w e B.scope
  layer_stmt (st.LocalVars span iss w) B = vars_stay span iss w B.scope
  layer_stmt (st.Assign span x e) B = assign_stays span x e B.scope
  layer_stmt (st.Invoke span i ps es) B = invoke_stays span i ps es B.scope
  layer_stmt (st.If span c first others last) B =
      if_stays span c _ _ _ _ _ _ B (stmts first) (pairs_of BranchStays (found_branch t) (found_branch u) others) (stmts last)
  layer_stmt (st.Case span e xs o) B = case_stays span e _ _ _ _ B
      (pairs_of AlternativeStays (found_alternative t) (found_alternative u) xs) o.1
  layer_stmt (st.For span i a d b l ss) B = for_stays span i a d b l _ _ B (stmts ss)
  layer_stmt (st.While span c l ss) B = while_stays span c l _ _ B (stmts ss)
  layer_stmt (st.Repeat span ss c l) B = repeat_stays span _ _ c l B (stmts ss)
  layer_stmt (st.Return span e) B = return_stays span e B.scope B.result
  layer_stmt (st.Throw span e) B = throw_stays span e B
  layer_stmt (st.Try span ss cs o) B = try_stays span _ _ _ _ _ _ B (stmts ss)
      (pairs_of CatcherStays (found_catcher t) (found_catcher u) cs) o.1
  layer_stmt (st.Print span kind iss) B = stays_bind (items_rule t iss B.scope) (items_rule u iss B.scope) _ _ (items_stay iss B.scope)
      (λ p. stays_same _)

  layer_alternative : (y : st.Alternative-F AA CC EE OO SS) →
      AlternativeStays (alternative_found (opened_alternative t (trees_alternative y)))
      (alternative_found (opened_alternative u (trees_alternative y)))
  layer_alternative (st.When ps e ss) = record { parts_same = refl; body_stays = stmts ss }

  layer_catcher : (y : st.Catcher-F AA CC EE OO SS) →
      CatcherStays (catcher_found (opened_catcher t (trees_catcher y))) (catcher_found (opened_catcher u (trees_catcher y)))
  layer_catcher (st.Catch i w ss) = record { parts_same = refl; body_stays = stmts ss }

  layer_branch : (y : st.ElseIf-F AA CC EE OO SS) →
      BranchStays (branch_found (opened_branch t (trees_branch y))) (branch_found (opened_branch u (trees_branch y)))
  layer_branch (st.ElseIf c ss) = record { parts_same = refl; body_stays = stmts ss }

  layer_otherwise : (y : st.Otherwise-F AA CC EE OO SS) →
      LastStays (otherwise_found (opened_otherwise t (trees_otherwise y))) (otherwise_found (opened_otherwise u (trees_otherwise y)))
  layer_otherwise st.NoOtherwise = tt
  layer_otherwise (st.Otherwise ss) = stmts ss

  step_alternative : (x : st.Alternative-F Alternative Catcher ElseIf Otherwise Stmt) (y : st.Alternative-F AA CC EE OO SS) →
      trees_alternative y ≡ x → AlternativeGood (roll-Alternative x)
  step_alternative x y is =
      subst (λ (f : FoundAlternative). AlternativeStays f (found_alternative u (roll-Alternative x)))
      (sym (fold-roll-Alternative FoundAlternative FoundCatcher FoundBranch FoundOtherwise FoundStmt alternative_found catcher_found
      branch_found otherwise_found (stmt_layer_rule t) x))
      (subst (λ (g : FoundAlternative). AlternativeStays (alternative_found (opened_alternative t x)) g)
      (sym (fold-roll-Alternative FoundAlternative FoundCatcher FoundBranch FoundOtherwise FoundStmt alternative_found catcher_found
      branch_found otherwise_found (stmt_layer_rule u) x))
      (subst (λ z. AlternativeStays (alternative_found (opened_alternative t z)) (alternative_found (opened_alternative u z))) is
      (layer_alternative y)))

  step_catcher : (x : st.Catcher-F Alternative Catcher ElseIf Otherwise Stmt) (y : st.Catcher-F AA CC EE OO SS) → trees_catcher y ≡ x →
      CatcherGood (roll-Catcher x)
  step_catcher x y is =
      subst (λ (f : FoundCatcher). CatcherStays f (found_catcher u (roll-Catcher x)))
      (sym (fold-roll-Catcher FoundAlternative FoundCatcher FoundBranch FoundOtherwise FoundStmt alternative_found catcher_found
      branch_found otherwise_found (stmt_layer_rule t) x))
      (subst (λ (g : FoundCatcher). CatcherStays (catcher_found (opened_catcher t x)) g)
      (sym (fold-roll-Catcher FoundAlternative FoundCatcher FoundBranch FoundOtherwise FoundStmt alternative_found catcher_found
      branch_found otherwise_found (stmt_layer_rule u) x))
      (subst (λ z. CatcherStays (catcher_found (opened_catcher t z)) (catcher_found (opened_catcher u z))) is (layer_catcher y)))

  step_branch : (x : st.ElseIf-F Alternative Catcher ElseIf Otherwise Stmt) (y : st.ElseIf-F AA CC EE OO SS) → trees_branch y ≡ x →
      BranchGood (roll-ElseIf x)
  step_branch x y is =
      subst (λ (f : FoundBranch). BranchStays f (found_branch u (roll-ElseIf x)))
      (sym (fold-roll-ElseIf FoundAlternative FoundCatcher FoundBranch FoundOtherwise FoundStmt alternative_found catcher_found
      branch_found otherwise_found (stmt_layer_rule t) x))
      (subst (λ (g : FoundBranch). BranchStays (branch_found (opened_branch t x)) g)
      (sym (fold-roll-ElseIf FoundAlternative FoundCatcher FoundBranch FoundOtherwise FoundStmt alternative_found catcher_found
      branch_found otherwise_found (stmt_layer_rule u) x))
      (subst (λ z. BranchStays (branch_found (opened_branch t z)) (branch_found (opened_branch u z))) is (layer_branch y)))

  step_otherwise : (x : st.Otherwise-F Alternative Catcher ElseIf Otherwise Stmt) (y : st.Otherwise-F AA CC EE OO SS) →
      trees_otherwise y ≡ x → OtherwiseGood (roll-Otherwise x)
  step_otherwise x y is =
      subst (λ (f : FoundOtherwise). LastStays f (found_otherwise u (roll-Otherwise x)))
      (sym (fold-roll-Otherwise FoundAlternative FoundCatcher FoundBranch FoundOtherwise FoundStmt alternative_found catcher_found
      branch_found otherwise_found (stmt_layer_rule t) x))
      (subst (λ (g : FoundOtherwise). LastStays (otherwise_found (opened_otherwise t x)) g)
      (sym (fold-roll-Otherwise FoundAlternative FoundCatcher FoundBranch FoundOtherwise FoundStmt alternative_found catcher_found
      branch_found otherwise_found (stmt_layer_rule u) x))
      (subst (λ z. LastStays (otherwise_found (opened_otherwise t z)) (otherwise_found (opened_otherwise u z))) is (layer_otherwise y)))

  step_stmt : (x : st.Stmt-F Alternative Catcher ElseIf Otherwise Stmt) (y : st.Stmt-F AA CC EE OO SS) → trees_stmt y ≡ x →
      StmtGood (roll-Stmt x)
  step_stmt x y is =
      subst (λ (f : FoundStmt). StmtStays f (found_stmt u (roll-Stmt x)))
      (sym (fold-roll-Stmt FoundAlternative FoundCatcher FoundBranch FoundOtherwise FoundStmt alternative_found catcher_found branch_found
      otherwise_found (stmt_layer_rule t) x))
      (subst (λ (g : FoundStmt). StmtStays (stmt_layer_rule t (opened_stmt t x)) g)
      (sym (fold-roll-Stmt FoundAlternative FoundCatcher FoundBranch FoundOtherwise FoundStmt alternative_found catcher_found branch_found
      otherwise_found (stmt_layer_rule u) x))
      (subst (λ z. StmtStays (stmt_layer_rule t (opened_stmt t z)) (stmt_layer_rule u (opened_stmt u z))) is (layer_stmt y)))

  pub stmt_stays : (x : Stmt) → StmtGood x
  stmt_stays = ind-Stmt AlternativeGood CatcherGood BranchGood OtherwiseGood StmtGood step_alternative step_catcher step_branch
      step_otherwise step_stmt
