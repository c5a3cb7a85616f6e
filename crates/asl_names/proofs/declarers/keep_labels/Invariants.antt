use Rattle.std.proofs.Common.{◌≡◌, drop}
use Rattle.asl_names.specs.private.Graphs.{named_at, all_kept}
use Rattle.asl_names.proofs.declarers.keep_labels.Given as goal

abbrev pub invariant-loop-label : goal.invariant-loop-label
invariant-loop-label l = all_kept (named_at l.place (drop l.label-index l.labels)) l.table ≡ all_kept (named_at l.place l.labels) l.fn.table
