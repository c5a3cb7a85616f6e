use Rattle.std.proofs.Common.{◌≡◌, drop}
use Rattle.asl_rules.specs.declarations.Uses.{cycles_rule}
use Rattle.asl_names.proofs.cycles.check_cycles.Given as goal

abbrev pub invariant-loop-place : goal.invariant-loop-place
invariant-loop-place l = cycles_rule l.decls (drop l.place l.decls) ≡ cycles_rule l.decls l.decls
