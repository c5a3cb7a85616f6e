use Rattle.std.proofs.Common.{◌≡◌, drop, map}
use Rattle.asl_rules.specs.declarations.Names.{library}
use Rattle.asl_rules.specs.declarations.Scopes.{subprogram}
use Rattle.asl_judge.specs.private.Settling.{all_reserved}
use Rattle.asl_judge.proofs.visible.names_reserved.Given as goal

abbrev pub invariant-loop-d : goal.invariant-loop-d
invariant-loop-d l = all_reserved (drop l.d-index l.decls) l.names ≡ all_reserved l.decls (map subprogram library)
