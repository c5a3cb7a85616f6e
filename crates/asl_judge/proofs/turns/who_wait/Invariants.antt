use Rattle.std.proofs.Common.{◌≡◌, [], drop}
use Rattle.asl_judge.specs.private.Waiting.{turns_after}
use Rattle.asl_judge.proofs.turns.who_wait.Given as goal

abbrev pub invariant-loop-d : goal.invariant-loop-d
invariant-loop-d l = turns_after l.waiting (drop l.d-index l.decls) ≡ turns_after [] l.decls
