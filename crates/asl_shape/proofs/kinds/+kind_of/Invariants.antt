use Rattle.std.proofs.Common.{◌≡◌, drop}
use Rattle.std.specs.Prelude.{map}
use Rattle.asl_rules.specs.values.Values as rules
use Rattle.asl_value.specs.View.{kind_of, all_values}
use Rattle.asl_shape.proofs.ValueKinds.{in_front}
use Rattle.asl_shape.proofs.kinds.+kind_of.Given as goal

-- those that were made are in front of those left
abbrev pub invariant-kinds_of-loop-part : goal.invariant-kinds_of-loop-part
invariant-kinds_of-loop-part l = rules.kinds_of (all_values l.parts) ≡ in_front (map kind_of l.kinds) (rules.kinds_of (all_values (drop l.part-index l.parts)))
