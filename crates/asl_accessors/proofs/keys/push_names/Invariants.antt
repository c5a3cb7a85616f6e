use Rattle.std.proofs.Common.{◌≡◌, ◌++◌, drop, map}
use Rattle.asl_rules.specs.declarations.Keys.{run_on, list_key, name_key}
use Rattle.asl_accessors.proofs.keys.push_names.Given as goal

abbrev pub invariant-loop-name : goal.invariant-loop-name
invariant-loop-name l = l.key.items ++ run_on (map name_key (drop l.name-index l.names)) ≡ l.fn.key.items ++ list_key (map name_key l.names)
