-- The typed trees of statements with lists, form by form.
use Rattle.std.proofs.Common.{◌≡◌, List, Ok, sym, ap, ◌∙◌}
use Rattle.asl_syn.specs.declared.token.Span.{Span}
use Rattle.asl_syn.specs.declared.tree.Stmt.{Stmt}
use Rattle.asl_syn.specs.declared.tree.Stmt.TheVariants as stv
use Rattle.asl_syn.specs.declared.tree.Alternative.TheOpen as st
use Rattle.asl_syn.specs.declared.tree.Alternative.TheFolds.{fold-roll-Stmt}
use Rattle.asl_rules.specs.declared.effect.Effect.TheVariants.{Pure}
use Rattle.asl_rules.specs.statements.Acting.{FoundStmt, FoundOtherwise, done}
use Rattle.asl_rules.specs.statements.Branches.{FoundBranch, FoundAlternative, FoundCatcher}
use Rattle.asl_rules.specs.declarations.Scopes.{Body}
use Rattle.asl_rules.specs.statements.Stmts.{branch_found, alternative_found, catcher_found, otherwise_found}
use Rattle.asl_rules.specs.Tests.{Tests}
use Rattle.asl_rules.specs.runs.Trees as tree
use Rattle.asl_tree.specs.View.{tree_of}
use Rattle.asl_tree.specs.Acts.{AlternativeFirst, BranchFirst, CatcherFirst, act_rule, alternative_rule, branch_rule, catcher_rule, last_rule, act_of, all_acts, all_branches, all_alternatives, all_catchers, last_of, maybe_tree}
use Rattle.asl_tree.specs.declared.tree.Tree.{Tree}
use Rattle.asl_tree.specs.declared.act.Act.{Act}
use Rattle.asl_tree.specs.declared.act.Alternative.{Alternative}
use Rattle.asl_tree.specs.declared.act.Branch.{Branch}
use Rattle.asl_tree.specs.declared.act.Bounds.{Bounds}
use Rattle.asl_tree.specs.declared.act.Catcher.{Catcher}
use Rattle.asl_tree.specs.declared.act.Guard.{Guard}
use Rattle.asl_tree.specs.declared.act.Last.{Last}
use Rattle.asl_tree.specs.declared.act.Act.TheVariants as act
use Rattle.asl_tree.specs.declared.act.Act.TheOpen as s
use Rattle.asl_tree.specs.declared.act.Act.TheFolds.{fold-roll-Act}
use Rattle.asl_blocks.specs.private.Walks.{walk_layer, walk_stmt}

pub act_if : (span : Span) (e : Tree) (first : List Act) (others : List Branch) (last : List Act) → act_of (act.If span e first others last) ≡ tree.If span (tree_of e) (all_acts first) (all_branches others) (all_acts last)
act_if span e first others last =
    ap act_of (sym (act.rolls-If span e first others last))
    ∙ fold-roll-Act tree.Act AlternativeFirst BranchFirst CatcherFirst tree.Last act_rule alternative_rule branch_rule catcher_rule last_rule (s.If span e first others last)

pub act_case : (span : Span) (e : Tree) (others : List Alternative) (last : Last) → act_of (act.Case span e others last) ≡ tree.Case span (tree_of e) (all_alternatives others) (last_of last)
act_case span e others last =
    ap act_of (sym (act.rolls-Case span e others last))
    ∙ fold-roll-Act tree.Act AlternativeFirst BranchFirst CatcherFirst tree.Last act_rule alternative_rule branch_rule catcher_rule last_rule (s.Case span e others last)

pub act_for : (span : Span) (b : Bounds) (body : List Act) → act_of (act.For span b body) ≡ tree.For span (tree_of b.from) b.direction (tree_of b.to) (maybe_tree b.limit) (all_acts body)
act_for span b body =
    ap act_of (sym (act.rolls-For span b body))
    ∙ fold-roll-Act tree.Act AlternativeFirst BranchFirst CatcherFirst tree.Last act_rule alternative_rule branch_rule catcher_rule last_rule (s.For span b body)

pub act_while : (span : Span) (g : Guard) (body : List Act) → act_of (act.While span g body) ≡ tree.While span (tree_of g.condition) (maybe_tree g.limit) (all_acts body)
act_while span g body =
    ap act_of (sym (act.rolls-While span g body))
    ∙ fold-roll-Act tree.Act AlternativeFirst BranchFirst CatcherFirst tree.Last act_rule alternative_rule branch_rule catcher_rule last_rule (s.While span g body)

pub act_repeat : (span : Span) (body : List Act) (g : Guard) → act_of (act.Repeat span body g) ≡ tree.Repeat span (all_acts body) (tree_of g.condition) (maybe_tree g.limit)
act_repeat span body g =
    ap act_of (sym (act.rolls-Repeat span body g))
    ∙ fold-roll-Act tree.Act AlternativeFirst BranchFirst CatcherFirst tree.Last act_rule alternative_rule branch_rule catcher_rule last_rule (s.Repeat span body g)

pub act_try : (span : Span) (body : List Act) (cs : List Catcher) (last : Last) → act_of (act.Try span body cs last) ≡ tree.Try span (all_acts body) (all_catchers cs) (last_of last)
act_try span body cs last =
    ap act_of (sym (act.rolls-Try span body cs last))
    ∙ fold-roll-Act tree.Act AlternativeFirst BranchFirst CatcherFirst tree.Last act_rule alternative_rule branch_rule catcher_rule last_rule (s.Try span body cs last)

-- ---- statements that do nothing

pub walk_pass : (t : Tests) (x : Stmt) (span : Span) (B : Body) → x ≡ stv.Pass span → walk_stmt t x B ≡ Ok (done B.scope.names Pure (tree.Pass span))
walk_pass t x span B is =
    ap (λ y. walk_stmt t y B) (is ∙ sym (stv.rolls-Pass span))
    ∙ ap (λ (f : FoundStmt). f B) (fold-roll-Stmt FoundAlternative FoundCatcher FoundBranch FoundOtherwise FoundStmt alternative_found catcher_found branch_found otherwise_found (walk_layer t) (st.Pass span))

pub walk_unreachable : (t : Tests) (x : Stmt) (span : Span) (B : Body) → x ≡ stv.Unreachable span → walk_stmt t x B ≡ Ok (done B.scope.names Pure (tree.Unreachable span))
walk_unreachable t x span B is =
    ap (λ y. walk_stmt t y B) (is ∙ sym (stv.rolls-Unreachable span))
    ∙ ap (λ (f : FoundStmt). f B) (fold-roll-Stmt FoundAlternative FoundCatcher FoundBranch FoundOtherwise FoundStmt alternative_found catcher_found branch_found otherwise_found (walk_layer t) (st.Unreachable span))
