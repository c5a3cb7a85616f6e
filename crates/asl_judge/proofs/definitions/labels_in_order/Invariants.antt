use Rattle.std.proofs.Common.{◌≡◌, [], drop}
use Rattle.asl_judge.specs.private.Definitions.{labels_after}
use Rattle.asl_judge.proofs.definitions.labels_in_order.Given as goal

abbrev pub invariant-loop-label : goal.invariant-loop-label
invariant-loop-label l = labels_after l.names (drop l.label-index l.labels) ≡ labels_after [] l.labels
