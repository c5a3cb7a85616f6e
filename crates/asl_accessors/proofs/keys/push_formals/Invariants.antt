use Rattle.std.proofs.Common.{◌≡◌, ◌++◌, drop, map}
use Rattle.asl_rules.specs.declarations.Keys.{run_on, list_key, formal_key}
use Rattle.asl_accessors.proofs.keys.push_formals.Given as goal

abbrev pub invariant-loop-formal : goal.invariant-loop-formal
invariant-loop-formal l = l.key.items ++ run_on (map formal_key (drop l.formal-index l.formals)) ≡ l.fn.key.items ++ list_key (map formal_key l.formals)
