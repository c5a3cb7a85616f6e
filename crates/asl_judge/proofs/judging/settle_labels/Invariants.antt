use Rattle.std.proofs.Common.{◌≡◌, drop}
use Rattle.asl_judge.specs.private.Brought.{labels_brought}
use Rattle.asl_judge.specs.private.Settling.{HaveStandIns, all_settled}
use Rattle.asl_judge.proofs.judging.settle_labels.Given as goal

abbrev pub invariant-loop-label : goal.invariant-loop-label
invariant-loop-label l = record {
  have : HaveStandIns (labels_brought (drop l.label-index l.labels) l.name l.ty) l.names;
  settled : all_settled (labels_brought (drop l.label-index l.labels) l.name l.ty) l.names ≡ all_settled (labels_brought l.labels l.name l.ty) l.fn.names;
}
