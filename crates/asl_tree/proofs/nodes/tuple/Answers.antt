use Rattle.std.proofs.Common.{◌≡◌, IfOk, sym, subst}
use Rattle.asl_rules.specs.runs.Trees as typed
use Rattle.asl_tree.specs.View.{note_view, tree_of}
use Rattle.asl_tree.proofs.Operands.{trees_seen}
use Rattle.asl_tree.proofs.nodes.tuple.Goals as goal

pub returns : goal.returns
returns c = subst (λ (z : typed.Trees). IfOk c.tuple_of.result (λ t. tree_of t ≡ typed.Tuple (note_view c.args.note) z)) (sym (trees_seen c.args.parts)) c.tuple_of.ensures
