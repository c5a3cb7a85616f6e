use Rattle.std.proofs.Common.{◌∙◌, ap, Err}
use Rattle.asl_tree.proofs.Asked.{some_suits}
use Rattle.asl_machine.proofs.SameRuns.{not_met}
use Rattle.asl_machine.proofs.runs.run_checked.Goals as goal

pub unreachable-requires : goal.unreachable-requires
unreachable-requires g c = not_met _ _ _ _ _ _ _ (c.in-Err-Stuck.is ∙ ap (λ e. Err e) c.in-Err-Stuck.field-0-is) (c.run_trees.ensures.meets some_suits.0 some_suits.1)
