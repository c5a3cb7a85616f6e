use Rattle.std.proofs.Common.{◌≡◌, drop}
use Rattle.asl_rules.specs.types.Views as rules
use Rattle.asl_value.specs.View.{all_values}
use Rattle.asl_value.proofs.Lists.{in_front}
use Rattle.asl_value.proofs.keeping.+adopted.Given as goal

-- those that were made are in front of those left
abbrev pub invariant-all_adopted-loop-i : goal.invariant-all_adopted-loop-i
invariant-all_adopted-loop-i l = rules.all_adopted (all_values l.olds) (all_values l.values) ≡ in_front l.made (rules.all_adopted (all_values (drop l.i l.olds)) (all_values (drop l.i l.values)))
