use Rattle.std.proofs.Common.{◌≡◌, ◌-◌, length, take}
use Rattle.asl_value.specs.private.Pieces.{digits}
use Rattle.asl_value.proofs.Fronts.{TakesFront}
use Rattle.asl_value.proofs.text.show_digits.Given as goal

-- all was written but for the lower bits, and no call failed
abbrev pub invariant-loop-i : goal.invariant-loop-i
invariant-loop-i g l = record {
  front : TakesFront (g.K.Sink.written l.fn.sink) (g.K.Sink.written l.sink) (digits l.bits) (digits (take (length l.bits - l.i) l.bits));
  count : g.K.Sink.faults l.sink ≡ g.K.Sink.faults l.fn.sink;
  full : g.K.Sink.full l.sink ≡ g.K.Sink.full l.fn.sink;
}
