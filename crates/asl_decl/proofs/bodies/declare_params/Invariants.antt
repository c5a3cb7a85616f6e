use Rattle.std.proofs.Common.{◌≡◌, drop}
use Rattle.asl_decl.specs.Heads.{params_declared}
use Rattle.asl_decl.proofs.bodies.declare_params.Given as goal

abbrev pub invariant-loop-p : goal.invariant-loop-p
invariant-loop-p l = params_declared (drop l.p-index l.written) l.rest l.names ≡ params_declared l.written l.params l.fn.names
