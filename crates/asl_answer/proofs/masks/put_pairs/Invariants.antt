use Rattle.std.proofs.Common.{◌≡◌, suc, drop}
use Rattle.asl_rules.specs.report.MaskTables.{all_pairs}
use Rattle.asl_value.proofs.Fronts.{TakesFront}
use Rattle.asl_answer.proofs.masks.put_pairs.Given as goal

-- the lines of the masks so far were written
abbrev pub invariant-loop-at : goal.invariant-loop-at
invariant-loop-at g l = record {
  lines : TakesFront (g.K.Sink.written l.fn.out) (g.K.Sink.written l.out) (all_pairs l.table.width 1 l.table.masks.items)
      (all_pairs l.table.width (suc l.at) (drop l.at l.table.masks.items));
  count : g.K.Sink.faults l.out ≡ g.K.Sink.faults l.fn.out;
  full : g.K.Sink.full l.out ≡ g.K.Sink.full l.fn.out;
}
