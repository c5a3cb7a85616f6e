use Rattle.std.proofs.Common.{◌≡◌, ◌≤◌, ◌-◌, ◌++◌, length, reverse}
use Rattle.asl_rules.specs.declarations.WrittenOut.{values_bound}
use Rattle.asl_accessors.proofs.stores.write_values.Given as goal

-- the ones that are left, numbered behind those that are written
abbrev pub invariant-loop-value : goal.invariant-loop-value
invariant-loop-value l =
    (length l.rest ≤ l.count) ×
    (l.written ++ values_bound l.at (l.count - length l.rest) (reverse l.rest) ≡ l.fn.written ++ values_bound l.at 0 l.fn.values)

abbrev pub decreases-loop-value : goal.decreases-loop-value
decreases-loop-value l = length l.rest
