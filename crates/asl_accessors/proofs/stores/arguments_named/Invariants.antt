use Rattle.std.proofs.Common.{◌≡◌, ◌++◌, suc, drop}
use Rattle.asl_accessors.specs.private.Names.{names_at}
use Rattle.asl_accessors.proofs.stores.arguments_named.Given as goal

abbrev pub invariant-loop-place : goal.invariant-loop-place
invariant-loop-place l = l.names ++ names_at l.at (suc l.place) (drop l.place l.spans) ≡ names_at l.at 1 l.spans
