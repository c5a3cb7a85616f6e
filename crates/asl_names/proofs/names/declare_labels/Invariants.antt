use Rattle.std.proofs.Common.{◌≡◌, drop, map, false}
use Rattle.asl_rules.specs.declarations.Names.{declared_as}
use Rattle.asl_names.specs.private.Known.{after_names}
use Rattle.asl_names.proofs.names.declare_labels.Given as goal

abbrev pub invariant-loop-label : goal.invariant-loop-label
invariant-loop-label l = after_names l.names (map (declared_as false) (drop l.label-index l.labels)) ≡ after_names l.fn.names (map (declared_as false) l.labels)
