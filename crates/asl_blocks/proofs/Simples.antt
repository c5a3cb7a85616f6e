-- Statements without lists.
use Rattle.std.proofs.Common.{◌≡◌, ℕ, List, [], ◌∷◌, refl, sym, ap, ◌∙◌}
use Rattle.asl_syn.specs.declared.token.Span.{Span}
use Rattle.asl_rules.specs.declared.effect.Effect.{Effect}
use Rattle.asl_rules.specs.statements.Acting.{done}
use Rattle.asl_rules.specs.declarations.Scopes.{Entry}
use Rattle.asl_rules.specs.statements.Stmts.{invoked}
use Rattle.asl_rules.specs.runs.Trees as tree
use Rattle.asl_rules.specs.expressions.Typing.{trees_of}
use Rattle.asl_tree.specs.declared.act.Simple.TheVariants as simple
use Rattle.asl_tree.specs.declared.tree.Callee.{Callee}
use Rattle.asl_tree.specs.declared.tree.Tree.{Tree}
use Rattle.asl_tree.specs.View.{tree_of, callee_of, all_trees, all_operands}
use Rattle.asl_tree.specs.Acts.{simple_of}
use Rattle.asl_expr.specs.declared.calls.Called.{Called}
use Rattle.asl_expr.specs.CallViews.{called_of}

pub trees_seen : (ts : List Tree) → trees_of (all_operands ts) ≡ all_trees ts
trees_seen [] = refl
trees_seen (t ∷ ts) = ap (λ us. tree.tree_and (tree_of t) us) (trees_seen ts)

-- a call, taken apart
pub invoked_by : (names : List Entry) (span : Span) (x : Called) (p : Effect × Callee × List ℕ × List Tree × List Tree) → p ≡ (x.effect, x.callee, x.places, x.params, x.arguments) →
    invoked span (called_of x) names ≡ done names p.0 (simple_of (simple.Invoke span p.1 p.2 p.3 p.4))
invoked_by names span x p e =
    ap (λ us. done names x.effect (tree.Invoke span (callee_of x.callee) x.places (all_trees x.params) us)) (trees_seen x.arguments)
    ∙ sym (ap (λ (q : Effect × Callee × List ℕ × List Tree × List Tree). done names q.0 (simple_of (simple.Invoke span q.1 q.2 q.3 q.4))) e)
