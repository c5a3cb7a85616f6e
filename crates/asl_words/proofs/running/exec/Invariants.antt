use Rattle.std.proofs.Common.{◌≡◌, true, take}
use Rattle.asl_rules.specs.Tests.{Tests}
use Rattle.asl_types.specs.Suits.{Suits}
use Rattle.asl_machine.specs.Stages.{is_ready}
use Rattle.asl_words.specs.private.Runs.{LeavesWords, words_with}
use Rattle.asl_words.proofs.running.exec.Given as goal

-- the calls so far returned, and left the machine so
abbrev pub invariant-loop-word : goal.invariant-loop-word
invariant-loop-word g l = record {
  ready : is_ready l.machine.stage ≡ true;
  checked : l.machine.checked ≡ l.fn.machine.checked;
  leaves : (t : Tests) → Suits t → LeavesWords t l.machine (g.K.Sink.written l.sink) (words_with t l.fn.machine (take l.word-index l.words) (g.K.Sink.written l.fn.sink));
  count : g.K.Sink.faults l.sink ≡ g.K.Sink.faults l.fn.sink;
  full : g.K.Sink.full l.sink ≡ g.K.Sink.full l.fn.sink;
}
