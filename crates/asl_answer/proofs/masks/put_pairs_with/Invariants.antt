use Rattle.std.proofs.Common.{◌≡◌, ◌-◌, suc, length, drop}
use Rattle.asl_rules.specs.report.MaskTables.{pairs_with}
use Rattle.asl_table.specs.Pairs.{mask_at}
use Rattle.asl_value.proofs.Fronts.{TakesFront}
use Rattle.asl_answer.proofs.masks.put_pairs_with.Given as goal

-- the lines of the pairs so far were written
abbrev pub invariant-loop-other : goal.invariant-loop-other
invariant-loop-other g l =
    let a = mask_at l.masks l.at in
    record {
      lines : TakesFront (g.K.Sink.written l.fn.out) (g.K.Sink.written l.out)
          (pairs_with (length a.1) (suc l.at) (suc (suc l.at)) a (drop (suc l.at) l.masks))
          (pairs_with (length a.1) (suc l.at) (suc l.from) a (drop l.from l.masks));
      count : g.K.Sink.faults l.out ≡ g.K.Sink.faults l.fn.out;
      full : g.K.Sink.full l.out ≡ g.K.Sink.full l.fn.out;
    }

abbrev pub decreases-loop-other : goal.decreases-loop-other
decreases-loop-other g l = length l.masks - l.from
