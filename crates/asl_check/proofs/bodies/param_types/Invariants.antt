use Rattle.std.proofs.Common.{◌≡◌, ◌++◌, drop}
use Rattle.asl_rules.specs.declarations.Programs.{param_types}
use Rattle.asl_check.proofs.bodies.param_types.Given as goal

abbrev pub invariant-loop-p : goal.invariant-loop-p
invariant-loop-p l = l.types ++ param_types (drop l.p-index l.params) ≡ param_types l.params
