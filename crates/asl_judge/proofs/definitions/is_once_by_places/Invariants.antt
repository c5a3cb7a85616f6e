use Rattle.std.proofs.Common.{◌≡◌, [], drop}
use Rattle.asl_judge.specs.private.Definitions.{once_beside}
use Rattle.asl_judge.proofs.definitions.is_once_by_places.Given as goal

abbrev pub invariant-loop-place : goal.invariant-loop-place
invariant-loop-place l = once_beside (drop l.place l.fields) l.place l.firsts ≡ once_beside l.fields 0 []
