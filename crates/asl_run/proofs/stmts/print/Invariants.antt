use Rattle.std.proofs.Common.{drop}
use Rattle.asl_rules.specs.runs.StatementForms.{print_items}
use Rattle.asl_rules.specs.private.TypedMeaning.{item_of}
use Rattle.asl_tree.specs.Acts.{all_items}
use Rattle.asl_branches.specs.Meets.{Underway, at}
use Rattle.asl_run.proofs.stmts.print.Given as goal

-- the items that are left do what all do
abbrev pub invariant-loop-item : goal.invariant-loop-item
invariant-loop-item g l = Underway (g.N.Nodes.setting l.here) (print_items item_of l.kind (all_items (drop l.item-index l.items)))
    (at g.K.Sink l.run l.sink) (print_items item_of l.kind (all_items l.items)) (at g.K.Sink l.fn.run l.fn.sink)
