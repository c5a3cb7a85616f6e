use Rattle.std.proofs.Common.{◌≡◌, drop, []}
use Rattle.asl_names.specs.private.Known.{after_decls}
use Rattle.asl_names.proofs.names.declare_all.Given as goal

abbrev pub invariant-loop-d : goal.invariant-loop-d
invariant-loop-d l = after_decls l.names (drop l.d-index l.decls) ≡ after_decls [] l.decls
