use Rattle.std.proofs.Common.{◌≡◌, drop}
use Rattle.asl_rules.specs.Tests.{Tests}
use Rattle.asl_rules.specs.declarations.Programs.{params_are_integers}
use Rattle.asl_decl.proofs.limit.check_params.Given as goal

abbrev pub invariant-loop-p : goal.invariant-loop-p
invariant-loop-p l = (t : Tests) → params_are_integers t (drop l.p-index l.written) l.rest ≡ params_are_integers t l.written l.params
