use Rattle.std.proofs.Common.{◌≡◌, length}
use Rattle.asl_rules.specs.values.Strings.{string_text, unescaped}
use Rattle.asl_branches.specs.Meets.{WroteFront}
use Rattle.asl_run.proofs.output.put_string.Given as goal

-- all was written but for what is left
abbrev pub invariant-loop-rest : goal.invariant-loop-rest
invariant-loop-rest g l = record {
  wrote : WroteFront (string_text l.text) (unescaped l.rest) l.fn.text_open (g.K.Sink.written l.fn.sink) l.text_open (g.K.Sink.written l.sink);
  count : g.K.Sink.faults l.sink ≡ g.K.Sink.faults l.fn.sink;
  full : g.K.Sink.full l.sink ≡ g.K.Sink.full l.fn.sink;
}

abbrev pub decreases-loop-rest : goal.decreases-loop-rest
decreases-loop-rest g l = length l.rest
