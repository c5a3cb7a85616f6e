use Rattle.std.proofs.Common.{◌≡◌, drop}
use Rattle.asl_rules.specs.types.Views as rules
use Rattle.asl_value.specs.View.{all_values}
use Rattle.asl_value.proofs.Lists.{in_front}
use Rattle.asl_value.proofs.keeping.+stripped.Given as goal

-- those that were made are in front of those left
abbrev pub invariant-all_stripped-loop-value : goal.invariant-all_stripped-loop-value
invariant-all_stripped-loop-value l = rules.all_stripped (all_values l.values) ≡ in_front l.made (rules.all_stripped (all_values (drop l.value-index l.values)))
