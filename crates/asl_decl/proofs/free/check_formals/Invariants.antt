use Rattle.std.proofs.Common.{◌≡◌, drop}
use Rattle.asl_decl.specs.private.Free.{formals_beside}
use Rattle.asl_decl.proofs.free.check_formals.Given as goal

abbrev pub invariant-loop-place : goal.invariant-loop-place
invariant-loop-place l = formals_beside (drop l.place l.formals) l.place l.before l.names ≡ formals_beside l.formals 0 l.fn.before l.names
