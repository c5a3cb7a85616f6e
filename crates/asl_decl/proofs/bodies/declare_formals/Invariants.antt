use Rattle.std.proofs.Common.{◌≡◌, drop}
use Rattle.asl_types.specs.View.{parts_of}
use Rattle.asl_decl.specs.Heads.{formals_declared}
use Rattle.asl_decl.proofs.bodies.declare_formals.Given as goal

abbrev pub invariant-loop-f : goal.invariant-loop-f
invariant-loop-f l = formals_declared (drop l.f-index l.written) (parts_of l.rest) l.names ≡ formals_declared l.written (parts_of l.types) l.fn.names
