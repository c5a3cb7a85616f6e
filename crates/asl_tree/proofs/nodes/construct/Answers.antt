use Rattle.std.proofs.Common.{◌≡◌, IfOk, sym, subst}
use Rattle.asl_rules.specs.runs.Trees as typed
use Rattle.asl_value.specs.private.Forms.{shell_of}
use Rattle.asl_shape.specs.View.{all_given}
use Rattle.asl_tree.specs.View.{note_view, tree_of}
use Rattle.asl_tree.proofs.Operands.{trees_seen}
use Rattle.asl_tree.proofs.nodes.construct.Goals as goal

pub returns : goal.returns
returns c = subst (λ (z : typed.Trees). IfOk c.construction_of.result (λ t. tree_of t ≡ typed.Construct (note_view c.args.note) (shell_of c.args.shell) (all_given c.args.fields) z)) (sym (trees_seen c.args.values)) c.construction_of.ensures
