use Rattle.std.proofs.Common.{◌≡◌, ◌++◌, drop, map}
use Rattle.asl_rules.specs.declarations.Keys.{run_on, list_key, param_key}
use Rattle.asl_accessors.proofs.keys.push_params.Given as goal

abbrev pub invariant-loop-param : goal.invariant-loop-param
invariant-loop-param l = l.key.items ++ run_on (map param_key (drop l.param-index l.params)) ≡ l.fn.key.items ++ list_key (map param_key l.params)
