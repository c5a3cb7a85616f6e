use Rattle.std.proofs.Common.{◌≡◌, [], drop}
use Rattle.asl_names.specs.private.Firsts.{placed}
use Rattle.asl_const.specs.private.Giving.{given_names}
use Rattle.asl_const.proofs.constructing.firsts_of.Given as goal

abbrev pub invariant-loop-place : goal.invariant-loop-place
invariant-loop-place l = placed (given_names (drop l.place l.given)) l.place l.firsts ≡ placed (given_names l.given) 0 []
