use Rattle.std.proofs.Common.{◌≡◌, drop}
use Rattle.asl_rules.specs.report.MaskTables as rules
use Rattle.asl_table.proofs.cases.are_wide.Given as goal

abbrev pub invariant-loop-mask : goal.invariant-loop-mask
invariant-loop-mask l = rules.are_wide l.width (drop l.mask-index l.masks) ≡ rules.are_wide l.width l.masks
