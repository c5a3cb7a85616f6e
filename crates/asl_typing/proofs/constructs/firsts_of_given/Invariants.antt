use Rattle.std.proofs.Common.{◌≡◌, [], drop}
use Rattle.asl_typing.specs.private.Constructs.{given_texts}
use Rattle.asl_names.specs.private.Firsts.{placed}
use Rattle.asl_typing.proofs.constructs.firsts_of_given.Given as goal

abbrev pub invariant-loop-place : goal.invariant-loop-place
invariant-loop-place l = placed (given_texts (drop l.place l.given)) l.place l.firsts ≡ placed (given_texts l.given) 0 []
