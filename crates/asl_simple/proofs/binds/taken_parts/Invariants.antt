use Rattle.std.proofs.Common.{◌≡◌, ◌++◌, drop}
use Rattle.asl_rules.specs.statements.Locals.{taken}
use Rattle.asl_simple.proofs.binds.taken_parts.Given as goal

abbrev pub invariant-loop-binder : goal.invariant-loop-binder
invariant-loop-binder l = l.taken ++ taken (drop l.binder-index l.binders) ≡ taken l.binders
