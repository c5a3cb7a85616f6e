-- The walks over statements are the rules, and the names after statements begin with those before.
use Rattle.std.proofs.Common.{◌≡◌, Bool, true, List, [], ◌∷◌, ◌++◌, length, take, map, Option, Some, None, Result, Ok, Err, refl, sym, ap, ◌∙◌, append_assoc}
use Rattle.std.proofs.Math.Seq.{take-append_seam}
use Rattle.asl_syn.specs.declared.token.Span.{Span}
use Rattle.asl_syn.specs.declared.code.Fault.{Fault}
use Rattle.asl_syn.specs.declared.code.StaticCode.TheVariants.{T02, T05, T21}
use Rattle.asl_syn.specs.declared.tree.Direction.{Direction}
use Rattle.asl_syn.specs.declared.tree.Expr.{Expr}
use Rattle.asl_syn.specs.declared.tree.Ident.{Ident}
use Rattle.asl_syn.specs.declared.tree.Pattern.{Pattern}
use Rattle.asl_syn.specs.declared.tree.PrintItem.{PrintItem}
use Rattle.asl_syn.specs.declared.tree.PrintItem.TheVariants.{Verbatim, Shown}
use Rattle.asl_syn.specs.declared.tree.PrintKind.{PrintKind}
use Rattle.asl_syn.specs.declared.tree.Stmt.{Stmt}
use Rattle.asl_syn.specs.declared.tree.Alternative.TheOpen as st
use Rattle.asl_syn.specs.declared.tree.Alternative.TheFolds.{fold-Stmt}
use Rattle.asl_rules.specs.declared.effect.Effect.{Effect}
use Rattle.asl_rules.specs.declared.effect.Effect.TheVariants.{Pure}
use Rattle.asl_rules.specs.Faults.{◌>>=◌, ◌>>◌, need, none_at, found_or}
use Rattle.asl_rules.specs.Tests.{Tests}
use Rattle.asl_rules.specs.types.Types.{Ty}
use Rattle.asl_rules.specs.runs.Trees as tree
use Rattle.asl_rules.specs.runs.Trees.{Act, Acts, TreeItem}
use Rattle.asl_rules.specs.types.Effects.{greater}
use Rattle.asl_rules.specs.declarations.Scopes.{Scope, Body, Entry, body_names, handling, type_of_name}
use Rattle.asl_rules.specs.expressions.Typing.{Typed, Operand, trees_from}
use Rattle.asl_rules.specs.expressions.Patterns.{Matched, pattern_shapes, pattern_trees}
use Rattle.asl_rules.specs.types.Shapes.{PatternShape, PatternShapes, no_pattern, pattern_and}
use Rattle.asl_rules.specs.expressions.Exprs.{typed, matches}
use Rattle.asl_rules.specs.statements.Acting.{Done, Listed, LastListed, FoundStmt, FoundOtherwise, done, listed, ended_in, in_order, block, last_block, condition, operand_of}
use Rattle.asl_rules.specs.statements.Branches.{FoundBranch, FoundAlternative, FoundCatcher, TypedBranch, TypedAlternative, TypedCatcher, branch_rule, branches, branch_conditions, branch_effects, branch_effect, branch_trees, branching, if_rule, alternatives, alternative_rule, all_patterns, where_rule, where_condition, where_conditions, effect_of, tree_in, alternative_effects, alternative_trees, choosing, case_rule, limit_typed, index_rule, index_type, with_index, for_ended, for_rule, while_ended, while_rule, repeat_ended, repeat_rule, is_exception, with_caught, catcher_rule, catchers, catcher_effects, catcher_trees, try_ended, try_rule}
use Rattle.asl_rules.specs.statements.Stmts.{StmtOf, Printed, printed, printing, text_first, value_first, items_rule, print_rule, stmt_layer_rule, branch_found, alternative_found, catcher_found, otherwise_found, found_stmt}
use Rattle.asl_rules.proofs.scopes.Longer.{list_longer}
use Rattle.asl_shape.specs.View.{patterns_from}
use Rattle.asl_tree.specs.Acts.{acts_from, branches_from, alternatives_from, catchers_from}
use Rattle.asl_blocks.specs.private.Walks as walks
use Rattle.asl_blocks.specs.private.Walks.{after, Listing, listing, stmt_step, shut, last_shut, misplaced, where_misplaced, Gathered, gathered, nothing_gathered, branch_step, first_branch, if_ended, if_walk, alternative_step, case_ended, case_walk, for_walk, while_walk, repeat_walk, catcher_step, caught, try_walk, item_step, print_walk, walk_layer, walk_stmt}
use Rattle.asl_blocks.proofs.Chains.{then_same, then_then, then_itself, append_nothing}
use Rattle.asl_blocks.proofs.Gathering.{Parts, onto, gathered_with, all_rule, all_conditions, all_effects, all_trees, gathering, condition_is, misplaced_is, where_is}
use Rattle.asl_assignments.proofs.Assigning.{assign_is}
use Rattle.asl_simple.proofs.Binding.{bind_is}

-- ---- lists whose names are visible no more

-- what comes behind a list doesn't see its names
pub shut_is : {D : Type 0} (ss : List FoundStmt) (B : Body) (F : Listed → Result D Fault) → ((l : Listed) → F l ≡ F (listed B.scope.names l.effect l.acts)) → (block ss B >>= F) ≡ (shut ss B >>= F)
shut_is ss B F h = then_same (block ss B) F _ h ∙ sym (then_then (block ss B) (λ l. Ok (listed B.scope.names l.effect l.acts)) F)

pub last_is : {D : Type 0} (o : FoundOtherwise) (B : Body) (F : LastListed → Result D Fault) → (last_block o B >>= F) ≡ (last_shut o B >>= F)
last_is None B F = refl
last_is (Some ss) B F =
    then_then (block ss B) (λ l. Ok (record { effect = l.effect; last = tree.otherwise l.acts })) F
    ∙ shut_is ss B (λ l. F (record { effect = l.effect; last = tree.otherwise l.acts })) (λ l. refl)
    ∙ sym (then_then (shut ss B) (λ l. Ok (record { effect = l.effect; last = tree.otherwise l.acts })) F)

-- ---- `if`

abbrev branch_parts : Tests → Body → Parts FoundBranch TypedBranch tree.Branches
branch_parts t B = record {
  rule = λ (b : FoundBranch). branch_rule t b.condition b.body B;
  condition = λ (x : TypedBranch). condition x.condition;
  misplaced = λ at (x : TypedBranch). misplaced at x.condition;
  effect = branch_effect;
  tree = λ (x : TypedBranch) more. tree.branch_and x.condition.typed.tree x.body.acts more;
}

branches_all : (t : Tests) (B : Body) (bs : List FoundBranch) → branches t bs B ≡ all_rule (branch_parts t B) bs
branches_all t B [] = refl
branches_all t B (b ∷ bs) = ap (λ r. branch_rule t b.condition b.body B >>= λ x. r >>= λ xs. Ok (x ∷ xs)) (branches_all t B bs)

conditions_all : (t : Tests) (B : Body) (xs : List TypedBranch) → branch_conditions xs ≡ all_conditions (branch_parts t B) xs
conditions_all t B [] = refl
conditions_all t B (x ∷ xs) = ap (λ r. condition x.condition >> r) (conditions_all t B xs)

effects_all : (t : Tests) (B : Body) (xs : List TypedBranch) → branch_effects xs ≡ all_effects (branch_parts t B) xs
effects_all t B [] = refl
effects_all t B (x ∷ xs) = ap (λ k. greater (branch_effect x) k) (effects_all t B xs)

trees_all : (t : Tests) (B : Body) (xs : List TypedBranch) → branch_trees xs ≡ all_trees (branch_parts t B) tree.no_branch xs
trees_all t B [] = refl
trees_all t B (x ∷ xs) = ap (λ more. tree.branch_and x.condition.typed.tree x.body.acts more) (trees_all t B xs)

branch_by : (t : Tests) (B : Body) (b : FoundBranch) (s : Gathered tree.Branches) → branch_step t B b s ≡ ((branch_parts t B).rule b >>= λ x. Ok (gathered_with (branch_parts t B) s x))
branch_by t B b s =
    sym (then_then (operand_of t b.condition B.scope) (λ o. block b.body B >>= λ l. Ok (record { condition = o; body = l })) (λ x. Ok (gathered_with (branch_parts t B) s x))
    ∙ then_same (operand_of t b.condition B.scope) _ _ (λ o.
    then_then (block b.body B) (λ l. Ok (record { condition = o; body = l })) (λ x. Ok (gathered_with (branch_parts t B) s x))
    ∙ shut_is b.body B (λ l. Ok (walks.with_branch s o l)) (λ l. refl)))

branches_from_is : (bs : List (tree.Branches → tree.Branches)) → branches_from bs ≡ onto bs tree.no_branch
branches_from_is [] = refl
branches_from_is (b ∷ bs) = ap b (branches_from_is bs)

abbrev if_end : Span → Operand → Listed → List FoundStmt → Body → Result (Unit {0}) Fault → Effect → tree.Branches → Result Done Fault
if_end span o f last B r k more = shut last B >>= λ l. r >> ended_in B span true (greater k l.effect) (tree.If span o.typed.tree f.acts more l.acts)

others_is : (t : Tests) (span : Span) (o : Operand) (f : Listed) (others : List FoundBranch) (last : List FoundStmt) (B : Body) →
    (branches t others B >>= λ bs. block last B >>= λ l. branching span (record { condition = o; body = f }) bs l B) ≡
    (after (branch_step t B) others (first_branch o f) >>= λ bs. shut last B >>= λ l. if_ended span o f bs l B)
others_is t span o f others last B =
    then_same (branches t others B) _ _ (λ bs.
    shut_is last B (λ l. branching span (record { condition = o; body = f }) bs l B) (λ l. refl)
    ∙ then_same (shut last B) _ _ (λ l. λ i. first (condition_is o i) (conditions_all t B bs i) (ended_in B span true (greater (greater (greater o.typed.effect f.effect) (effects_all t B bs i)) l.effect) (tree.If span o.typed.tree f.acts (trees_all t B bs i) l.acts)))
    ∙ then_same (shut last B) _ _ (λ l. join (none_at T05 (misplaced None o)) (all_conditions (branch_parts t B) bs) _))
    ∙ ap (λ r. r >>= λ bs. if_end span o f last B (none_at T05 (misplaced None o) >> all_conditions (branch_parts t B) bs) (greater (greater o.typed.effect f.effect) (all_effects (branch_parts t B) bs)) (all_trees (branch_parts t B) tree.no_branch bs)) (branches_all t B others)
    ∙ gathering (branch_parts t B) tree.no_branch (if_end span o f last B) (branch_step t B) (λ at x. misplaced_is at x.condition) (branch_by t B) others (first_branch o f)
    ∙ then_same (after (branch_step t B) others (first_branch o f)) _ _ (λ g. ap (if_end span o f last B (none_at T05 g.misplaced) g.effect) (sym (branches_from_is g.parts)))
  where
    first : Result (Unit {0}) Fault → Result (Unit {0}) Fault → Result Done Fault → Result Done Fault
    first c d r = c >> (d >> r)

    join : (c d : Result (Unit {0}) Fault) (r : Result Done Fault) → first c d r ≡ ((c >> d) >> r)
    join (Ok x) d r = refl
    join (Err e) d r = refl

if_is : (t : Tests) (span : Span) (c : Expr) (first : List FoundStmt) (others : List FoundBranch) (last : List FoundStmt) (B : Body) → if_rule t span c first others last B ≡ if_walk t span c first others last B
if_is t span c first others last B =
    then_then (operand_of t c B.scope) (λ o. block first B >>= λ l. Ok (record { condition = o; body = l })) (λ b. branches t others B >>= λ bs. block last B >>= λ l. branching span b bs l B)
    ∙ then_same (operand_of t c B.scope) _ _ (λ o.
    then_then (block first B) (λ l. Ok (record { condition = o; body = l })) (λ b. branches t others B >>= λ bs. block last B >>= λ l. branching span b bs l B)
    ∙ shut_is first B (λ f. branches t others B >>= λ bs. block last B >>= λ l. branching span (record { condition = o; body = f }) bs l B) (λ f. refl)
    ∙ then_same (shut first B) _ _ (λ f. others_is t span o f others last B))

-- ---- `case`

abbrev alternative_parts : Tests → Ty → Body → Parts FoundAlternative TypedAlternative tree.Alternatives
alternative_parts t T B = record {
  rule = λ (a : FoundAlternative). alternative_rule t a T B;
  condition = λ (x : TypedAlternative). where_condition x.condition;
  misplaced = λ at (x : TypedAlternative). where_misplaced at x.condition;
  effect = λ (x : TypedAlternative). greater (effect_of x.condition) x.body.effect;
  tree = λ (x : TypedAlternative) more. tree.alternative_and (pattern_shapes x.patterns) (trees_from (pattern_trees x.patterns)) (tree_in x.condition) x.body.acts more;
}

alternatives_all : (t : Tests) (T : Ty) (B : Body) (bs : List FoundAlternative) → alternatives t bs T B ≡ all_rule (alternative_parts t T B) bs
alternatives_all t T B [] = refl
alternatives_all t T B (b ∷ bs) = ap (λ r. alternative_rule t b T B >>= λ x. r >>= λ xs. Ok (x ∷ xs)) (alternatives_all t T B bs)

wheres_all : (t : Tests) (T : Ty) (B : Body) (xs : List TypedAlternative) → where_conditions xs ≡ all_conditions (alternative_parts t T B) xs
wheres_all t T B [] = refl
wheres_all t T B (x ∷ xs) = ap (λ r. where_condition x.condition >> r) (wheres_all t T B xs)

alternatives_effect : (t : Tests) (T : Ty) (B : Body) (xs : List TypedAlternative) → alternative_effects xs ≡ all_effects (alternative_parts t T B) xs
alternatives_effect t T B [] = refl
alternatives_effect t T B (x ∷ xs) = ap (λ k. greater (greater (effect_of x.condition) x.body.effect) k) (alternatives_effect t T B xs)

alternatives_tree : (t : Tests) (T : Ty) (B : Body) (xs : List TypedAlternative) → alternative_trees xs ≡ all_trees (alternative_parts t T B) tree.no_alternative xs
alternatives_tree t T B [] = refl
alternatives_tree t T B (x ∷ xs) = ap (λ more. tree.alternative_and (pattern_shapes x.patterns) (trees_from (pattern_trees x.patterns)) (tree_in x.condition) x.body.acts more) (alternatives_tree t T B xs)

-- patterns, pattern by pattern
abbrev shapes_onto : List PatternShape → PatternShapes → PatternShapes
shapes_onto [] rest = rest
shapes_onto (p ∷ ps) rest = pattern_and p (shapes_onto ps rest)

shapes_last : (ps : List PatternShape) (p : PatternShape) (rest : PatternShapes) → shapes_onto (ps ++ p ∷ []) rest ≡ shapes_onto ps (pattern_and p rest)
shapes_last [] p rest = refl
shapes_last (q ∷ ps) p rest = ap (λ more. pattern_and q more) (shapes_last ps p rest)

shapes_end : (ps : List PatternShape) → shapes_onto ps no_pattern ≡ patterns_from ps
shapes_end [] = refl
shapes_end (p ∷ ps) = ap (λ more. pattern_and p more) (shapes_end ps)

patterns_walk : {D : Type 0} (t : Tests) (T : Ty) (G : Scope) (K : PatternShapes → List tree.Tree → Result D Fault) (ps : List Pattern) (s : walks.Patterned) →
    (all_patterns t ps T G >>= λ ms. K (shapes_onto s.shapes (pattern_shapes ms)) (s.trees ++ pattern_trees ms)) ≡ (after (walks.pattern_step t T G) ps s >>= λ x. K (patterns_from x.shapes) x.trees)
patterns_walk t T G K [] s = λ i. K (shapes_end s.shapes i) (append_nothing s.trees i)
patterns_walk t T G K (p ∷ ps) s =
    then_then (matches t p T G) _ _
    ∙ then_same (matches t p T G) _ _ (λ m.
    then_then (all_patterns t ps T G) _ _
    ∙ then_same (all_patterns t ps T G) _ _ (λ ms. λ i. K (sym (shapes_last s.shapes m.shape (pattern_shapes ms)) i) (sym (append_assoc s.trees m.trees (pattern_trees ms)) i))
    ∙ patterns_walk t T G K ps (walks.with_pattern s m))
    ∙ sym (ap (λ r. r >>= λ x. K (patterns_from x.shapes) x.trees) (then_then (matches t p T G) _ _) ∙ then_then (matches t p T G) _ _)

alternative_by : (t : Tests) (T : Ty) (B : Body) (a : FoundAlternative) (s : Gathered tree.Alternatives) →
    alternative_step t T B a s ≡ ((alternative_parts t T B).rule a >>= λ x. Ok (gathered_with (alternative_parts t T B) s x))
alternative_by t T B a s =
    sym (then_then (all_patterns t a.patterns T B.scope) _ (λ x. Ok (gathered_with (alternative_parts t T B) s x))
    ∙ then_same (all_patterns t a.patterns T B.scope) _ _ (λ ms.
    then_then (where_rule t a.condition B.scope) _ (λ x. Ok (gathered_with (alternative_parts t T B) s x))
    ∙ then_same (where_rule t a.condition B.scope) _ _ (λ w.
    then_then (block a.body B) (λ l. Ok (record { patterns = ms; condition = w; body = l })) (λ x. Ok (gathered_with (alternative_parts t T B) s x))
    ∙ shut_is a.body B (λ l. Ok (with_these (pattern_shapes ms) (pattern_trees ms) w l)) (λ l. refl)))
    ∙ patterns_walk t T B.scope (λ shapes es. where_rule t a.condition B.scope >>= λ w. shut a.body B >>= λ l. Ok (with_these shapes es w l)) a.patterns (walks.patterned [] []))
  where
    with_these : PatternShapes → List tree.Tree → Option Operand → Listed → Gathered tree.Alternatives
    with_these shapes es w l =
        gathered (where_misplaced s.misplaced w) (greater s.effect (greater (effect_of w) l.effect)) (s.parts ++ tree.alternative_and shapes (trees_from es) (tree_in w) l.acts ∷ [])

alternatives_from_is : (bs : List (tree.Alternatives → tree.Alternatives)) → alternatives_from bs ≡ onto bs tree.no_alternative
alternatives_from_is [] = refl
alternatives_from_is (b ∷ bs) = ap b (alternatives_from_is bs)

abbrev case_end : Span → Typed → FoundOtherwise → Body → Result (Unit {0}) Fault → Effect → tree.Alternatives → Result Done Fault
case_end span S last B r k more = last_shut last B >>= λ l. r >> ended_in B span true (greater (greater S.effect k) l.effect) (tree.Case span S.tree more l.last)

case_is : (t : Tests) (span : Span) (e : Expr) (first : List FoundAlternative) (last : FoundOtherwise) (B : Body) → case_rule t span e first last B ≡ case_walk t span e first last B
case_is t span e first last B = then_same (operand_of t e B.scope) _ _ (λ o.
    then_same (alternatives t first o.typed.ty B) _ _ (λ xs.
    last_is last B (λ l. choosing span o.typed xs l B)
    ∙ λ i. case_end span o.typed last B (wheres_all t o.typed.ty B xs i) (alternatives_effect t o.typed.ty B xs i) (alternatives_tree t o.typed.ty B xs i))
    ∙ ap (λ r. r >>= λ xs. case_end span o.typed last B (all_conditions (alternative_parts t o.typed.ty B) xs) (all_effects (alternative_parts t o.typed.ty B) xs) (all_trees (alternative_parts t o.typed.ty B) tree.no_alternative xs)) (alternatives_all t o.typed.ty B first)
    ∙ gathering (alternative_parts t o.typed.ty B) tree.no_alternative (case_end span o.typed last B) (alternative_step t o.typed.ty B) (λ at x. where_is at x.condition) (alternative_by t o.typed.ty B) first nothing_gathered
    ∙ then_same (after (alternative_step t o.typed.ty B) first nothing_gathered) _ _ (λ g. ap (case_end span o.typed last B (none_at T05 g.misplaced) g.effect) (sym (alternatives_from_is g.parts))))

-- ---- loops

checked_then : {A D : Type 0} (c : Result (Unit {0}) Fault) (x : A) (f : A → Result D Fault) → (c >> f x) ≡ ((c >> Ok x) >>= f)
checked_then (Ok y) x f = refl
checked_then (Err e) x f = refl

-- what comes behind a list doesn't see the names that were declared for it either
cut_is : {D : Type 0} (r : Result Body Fault) (g : Body → Result Listed Fault) (B : Body) (F : Listed → Result D Fault) → ((l : Listed) → F l ≡ F (listed B.scope.names l.effect l.acts)) →
    (r >>= λ C. g C >>= F) ≡ ((r >>= λ C. g C >>= λ l. Ok (listed B.scope.names l.effect l.acts)) >>= F)
cut_is (Ok C) g B F h = then_same (g C) F _ h ∙ sym (then_then (g C) (λ l. Ok (listed B.scope.names l.effect l.acts)) F)
cut_is (Err e) g B F h = refl

for_is : (t : Tests) (span : Span) (i : Ident) (a : Expr) (d : Direction) (b : Expr) (limit : Option Expr) (ss : List FoundStmt) (B : Body) → for_rule t span i a d b limit ss B ≡ for_walk t span i a d b limit ss B
for_is t span i a d b limit ss B =
    let C : Body = with_index i (index_type t d a b B.scope) B in
    then_same (operand_of t a B.scope) _ _ (λ S. then_same (operand_of t b B.scope) _ _ (λ T. then_same (limit_typed t limit B.scope) _ _ (λ l.
    ap (λ r. index_rule i S T B >> r) (shut_is ss C (λ body. for_ended span S.typed d T.typed l body B) (λ body. refl))
    ∙ checked_then (index_rule i S T B) C (λ C. shut ss C >>= λ body. for_ended span S.typed d T.typed l body B)
    ∙ cut_is (index_rule i S T B >> Ok C) (shut ss) B (λ body. for_ended span S.typed d T.typed l body B) (λ body. refl))))
    ∙ sym (then_then (operand_of t a B.scope) _ _
    ∙ then_same (operand_of t a B.scope) _ _ (λ S. then_then (operand_of t b B.scope) _ _
    ∙ then_same (operand_of t b B.scope) _ _ (λ T. then_then (limit_typed t limit B.scope) _ _)))

while_is : (t : Tests) (span : Span) (c : Expr) (limit : Option Expr) (ss : List FoundStmt) (B : Body) → while_rule t span c limit ss B ≡ while_walk t span c limit ss B
while_is t span c limit ss B =
    then_same (operand_of t c B.scope) _ _ (λ C. then_same (limit_typed t limit B.scope) _ _ (λ l. shut_is ss B (λ body. while_ended span C l body B) (λ body. refl)))

repeat_is : (t : Tests) (span : Span) (ss : List FoundStmt) (c : Expr) (limit : Option Expr) (B : Body) → repeat_rule t span ss c limit B ≡ repeat_walk t span ss c limit B
repeat_is t span ss c limit B = shut_is ss B (λ body. operand_of t c B.scope >>= λ C. limit_typed t limit B.scope >>= λ l. repeat_ended span body C l B) (λ body. refl)

-- ---- `try`

abbrev catcher_parts : Body → Parts FoundCatcher TypedCatcher tree.Catchers
catcher_parts B = record {
  rule = λ (c : FoundCatcher). catcher_rule c B;
  condition = λ (x : TypedCatcher). Ok tt;
  misplaced = λ at (x : TypedCatcher). at;
  effect = λ (x : TypedCatcher). x.body.effect;
  tree = λ (x : TypedCatcher) more. tree.catcher_and x.has_name x.ty x.body.acts more;
}

catchers_all : (B : Body) (cs : List FoundCatcher) → catchers cs B ≡ all_rule (catcher_parts B) cs
catchers_all B [] = refl
catchers_all B (c ∷ cs) = ap (λ r. catcher_rule c B >>= λ x. r >>= λ xs. Ok (x ∷ xs)) (catchers_all B cs)

catchers_effect : (B : Body) (xs : List TypedCatcher) → catcher_effects xs ≡ all_effects (catcher_parts B) xs
catchers_effect B [] = refl
catchers_effect B (x ∷ xs) = ap (λ k. greater x.body.effect k) (catchers_effect B xs)

catchers_tree : (B : Body) (xs : List TypedCatcher) → catcher_trees xs ≡ all_trees (catcher_parts B) tree.no_catcher xs
catchers_tree B [] = refl
catchers_tree B (x ∷ xs) = ap (λ more. tree.catcher_and x.has_name x.ty x.body.acts more) (catchers_tree B xs)

catchers_from_is : (bs : List (tree.Catchers → tree.Catchers)) → catchers_from bs ≡ onto bs tree.no_catcher
catchers_from_is [] = refl
catchers_from_is (b ∷ bs) = ap b (catchers_from_is bs)

-- a condition before two steps
need_then : {A D : Type 0} (c : Result (Unit {0}) Fault) (r : Result A Fault) (f : A → Result D Fault) → ((c >> r) >>= f) ≡ (c >> (r >>= f))
need_then (Ok x) r f = refl
need_then (Err e) r f = refl

at_unchanged : (at : Option Span) → (none_at T05 at >> Ok tt) ≡ none_at T05 at
at_unchanged None = refl
at_unchanged (Some at) = refl

catcher_by : (B : Body) (c : FoundCatcher) (s : Gathered tree.Catchers) → catcher_step B c s ≡ ((catcher_parts B).rule c >>= λ x. Ok (gathered_with (catcher_parts B) s x))
catcher_by B c s =
    then_same (walks.type_caught c.ty B.scope.names) _ _ (λ T. sym (cut_is (with_caught c.name T B) (λ C. shut c.body (handling C)) B (λ l. Ok (walks.with_catcher s c l)) (λ l. refl)))
    ∙ then_then (found_or (type_of_name c.ty.text B.scope.names) T02 c.ty.span) (λ T. need (is_exception T) T21 c.ty.span >> Ok T) _
    ∙ then_same (found_or (type_of_name c.ty.text B.scope.names) T02 c.ty.span) _ _ (λ T. sym (checked_then (need (is_exception T) T21 c.ty.span) T (λ T. with_caught c.name T B >>= λ C. shut c.body (handling C) >>= λ l. Ok (walks.with_catcher s c l))))
    ∙ sym (then_then (found_or (type_of_name c.ty.text B.scope.names) T02 c.ty.span) _ (λ x. Ok (gathered_with (catcher_parts B) s x))
    ∙ then_same (found_or (type_of_name c.ty.text B.scope.names) T02 c.ty.span) _ _ (λ T.
    need_then (need (is_exception T) T21 c.ty.span) _ (λ x. Ok (gathered_with (catcher_parts B) s x))
    ∙ ap (λ r. need (is_exception T) T21 c.ty.span >> r) (
    then_then (with_caught c.name T B) _ (λ x. Ok (gathered_with (catcher_parts B) s x))
    ∙ then_same (with_caught c.name T B) _ _ (λ C.
    then_then (block c.body (handling C)) _ (λ x. Ok (gathered_with (catcher_parts B) s x))
    ∙ shut_is c.body (handling C) (λ l. Ok (walks.with_catcher s c l)) (λ l. refl)))))

abbrev try_end : Span → Listed → FoundOtherwise → Body → Result (Unit {0}) Fault → Effect → tree.Catchers → Result Done Fault
try_end span body last B r k more = last_shut last (handling B) >>= λ l. ended_in B span true (greater (greater body.effect k) l.effect) (tree.Try span body.acts more l.last)

try_is : (span : Span) (ss : List FoundStmt) (cs : List FoundCatcher) (last : FoundOtherwise) (B : Body) → try_rule span ss cs last B ≡ try_walk span ss cs last B
try_is span ss cs last B =
    shut_is ss B (λ body. catchers cs B >>= λ xs. last_block last (handling B) >>= λ l. try_ended span body xs l B) (λ body. refl)
    ∙ then_same (shut ss B) _ _ (λ body.
    then_same (catchers cs B) _ _ (λ xs.
    last_is last (handling B) (λ l. try_ended span body xs l B)
    ∙ λ i. try_end span body last B (all_conditions (catcher_parts B) xs) (catchers_effect B xs i) (catchers_tree B xs i))
    ∙ ap (λ r. r >>= λ xs. try_end span body last B (all_conditions (catcher_parts B) xs) (all_effects (catcher_parts B) xs) (all_trees (catcher_parts B) tree.no_catcher xs)) (catchers_all B cs)
    ∙ gathering (catcher_parts B) tree.no_catcher (try_end span body last B) (catcher_step B) (λ at x. at_unchanged at) (catcher_by B) cs nothing_gathered
    ∙ then_same (after (catcher_step B) cs nothing_gathered) _ _ (λ g. ap (try_end span body last B (none_at T05 g.misplaced) g.effect) (sym (catchers_from_is g.parts))))

-- ---- `print`

items_walk : {D : Type 0} (t : Tests) (G : Scope) (K : Printed → Result D Fault) (is : List PrintItem) (s : Printed) →
    (items_rule t is G >>= λ p. K (printed (s.effects ++ p.effects) (s.items ++ p.items))) ≡ (after (item_step t G) is s >>= K)
items_walk t G K [] s = λ i. K (printed (append_nothing s.effects i) (append_nothing s.items i))
items_walk t G K (Verbatim span text ∷ is) s =
    then_then (items_rule t is G) (λ p. Ok (text_first text p)) _
    ∙ then_same (items_rule t is G) _ _ (λ p. λ i. K (printed (s.effects ++ p.effects) (sym (append_assoc s.items (tree.Verbatim text ∷ []) p.items) i)))
    ∙ items_walk t G K is (printed s.effects (s.items ++ tree.Verbatim text ∷ []))
items_walk t G K (Shown e ∷ is) s =
    then_then (typed t e G) _ _
    ∙ then_same (typed t e G) _ _ (λ S.
    then_then (items_rule t is G) (λ p. Ok (value_first S p)) _
    ∙ then_same (items_rule t is G) _ _ (λ p. λ i. K (printed (sym (append_assoc s.effects (S.effect ∷ []) p.effects) i) (sym (append_assoc s.items (tree.Shown S.tree ∷ []) p.items) i)))
    ∙ items_walk t G K is (printed (s.effects ++ S.effect ∷ []) (s.items ++ tree.Shown S.tree ∷ [])))
    ∙ sym (ap (λ r. r >>= K) (then_then (typed t e G) _ _) ∙ then_then (typed t e G) _ K)

print_is : (t : Tests) (span : Span) (kind : PrintKind) (is : List PrintItem) (G : Scope) → print_rule t span kind is G ≡ print_walk t span kind is G
print_is t span kind is G = items_walk t G (λ p. printing G.class span kind p G.names) is (printed [] [])

-- ---- all statements

layer_is : (t : Tests) (layer : StmtOf) (B : Body) → stmt_layer_rule t layer B ≡ walk_layer t layer B
layer_is t (st.Local span kind b ty e) B = bind_is t span kind b ty e B.scope
layer_is t (st.Assign span target e) B = assign_is t span target e B.scope
layer_is t (st.If span c first others last) B = if_is t span c first others last B
layer_is t (st.Case span e ass last) B = case_is t span e ass last B
layer_is t (st.For span i a d b limit ss) B = for_is t span i a d b limit ss B
layer_is t (st.While span c limit ss) B = while_is t span c limit ss B
layer_is t (st.Repeat span ss c limit) B = repeat_is t span ss c limit B
layer_is t (st.Try span ss cs last) B = try_is span ss cs last B
layer_is t (st.Print span kind is) B = print_is t span kind is B.scope
layer_is t layer B = refl

pub found_is : (t : Tests) → found_stmt t ≡ walk_stmt t
found_is t = λ i. fold-Stmt FoundAlternative FoundCatcher FoundBranch FoundOtherwise FoundStmt alternative_found catcher_found branch_found otherwise_found (λ layer B. layer_is t layer B i)

pub list_is : (t : Tests) (ss : List Stmt) (k : Effect) (B : Body) → in_order (map (found_stmt t) ss) k B ≡ in_order (map (walk_stmt t) ss) k B
list_is t ss k B = ap (λ (f : Stmt → FoundStmt). in_order (map f ss) k B) (found_is t)

-- ---- lists

abbrev acts_onto : List Act → Acts → Acts
acts_onto [] rest = rest
acts_onto (a ∷ acts) rest = tree.act_and a (acts_onto acts rest)

acts_end : (acts : List Act) → acts_onto acts tree.no_act ≡ acts_from acts
acts_end [] = refl
acts_end (a ∷ acts) = ap (λ rest. tree.act_and a rest) (acts_end acts)

acts_last : (acts : List Act) (a : Act) (rest : Acts) → acts_onto (acts ++ a ∷ []) rest ≡ acts_onto acts (tree.act_and a rest)
acts_last [] a rest = refl
acts_last (b ∷ acts) a rest = ap (λ more. tree.act_and b more) (acts_last acts a rest)

-- statements in order, statement by statement
listed_by : (B : Body) (ss : List FoundStmt) (l : Listing) →
    (in_order ss l.effect (body_names B l.names) >>= λ x. Ok (listed x.names x.effect (acts_onto l.acts x.acts))) ≡ (after (stmt_step B) ss l >>= λ x. Ok (listed x.names x.effect (acts_from x.acts)))
listed_by B [] l = ap (λ acts. Ok (listed l.names l.effect acts)) (acts_end l.acts)
listed_by B (s ∷ ss) l =
    then_then (s (body_names B l.names)) _ _
    ∙ then_same (s (body_names B l.names)) _ _ (λ d.
    then_then (in_order ss (greater l.effect d.effect) (body_names B d.names)) _ _
    ∙ then_same (in_order ss (greater l.effect d.effect) (body_names B d.names)) _ _ (λ x. ap (λ acts. Ok (listed x.names x.effect acts)) (sym (acts_last l.acts d.act x.acts)))
    ∙ listed_by B ss (listing d.names (greater l.effect d.effect) (l.acts ++ d.act ∷ [])))
    ∙ sym (ap (λ r. r >>= λ x. Ok (listed x.names x.effect (acts_from x.acts))) (then_then (s (body_names B l.names)) _ _) ∙ then_then (s (body_names B l.names)) _ _)

pub in_order_is : (B : Body) (ss : List FoundStmt) (k : Effect) → in_order ss k B ≡ (after (stmt_step B) ss (listing B.scope.names k []) >>= λ x. Ok (listed x.names x.effect (acts_from x.acts)))
in_order_is B ss k = sym (then_itself (in_order ss k B)) ∙ listed_by B ss (listing B.scope.names k [])

-- the names before stand at the beginning of those after
pub cut_back : (t : Tests) (ss : List Stmt) (k : Effect) (B : Body) (l : Listed) → in_order (map (walk_stmt t) ss) k B ≡ Ok l → take (length B.scope.names) l.names ≡ B.scope.names
cut_back t ss k B l h =
    let more = list_longer t ss k B l (list_is t ss k B ∙ h) in
    ap (take (length B.scope.names)) more.is ∙ take-append_seam B.scope.names more.more
