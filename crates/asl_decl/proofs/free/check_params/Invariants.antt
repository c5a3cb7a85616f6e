use Rattle.std.proofs.Common.{◌≡◌, drop}
use Rattle.asl_decl.specs.private.Free.{params_beside}
use Rattle.asl_decl.proofs.free.check_params.Given as goal

abbrev pub invariant-loop-place : goal.invariant-loop-place
invariant-loop-place l = params_beside (drop l.place l.params) l.place l.before l.names ≡ params_beside l.params 0 l.fn.before l.names
