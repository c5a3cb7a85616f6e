use Rattle.std.proofs.Common.{◌≡◌, drop, map}
use Rattle.asl_machine.specs.Storage.{var_of}
use Rattle.asl_answer.specs.private.Ends.{vars_text}
use Rattle.asl_answer.specs.private.Writes.{TakesFront}
use Rattle.asl_answer.proofs.running.put_globals.Given as goal

-- the lines of the globals so far were written
abbrev pub invariant-loop-global : goal.invariant-loop-global
invariant-loop-global g l = record {
  lines : TakesFront (g.K.Sink.written l.fn.out) (g.K.Sink.written l.out) (vars_text (map var_of l.globals)) (vars_text (map var_of (drop l.global-index l.globals)));
  count : g.K.Sink.faults l.out ≡ g.K.Sink.faults l.fn.out;
  full : g.K.Sink.full l.out ≡ g.K.Sink.full l.fn.out;
}
