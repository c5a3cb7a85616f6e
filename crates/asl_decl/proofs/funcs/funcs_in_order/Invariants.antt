use Rattle.std.proofs.Common.{◌≡◌, [], drop, map}
use Rattle.asl_decl.specs.private.Signatures.{funcs_after}
use Rattle.asl_decl.proofs.funcs.funcs_in_order.Given as goal

abbrev pub invariant-loop-d : goal.invariant-loop-d
invariant-loop-d l = funcs_after (map (λ f. f.now) l.funcs) (drop l.d-index l.decls) ≡ funcs_after [] l.decls
