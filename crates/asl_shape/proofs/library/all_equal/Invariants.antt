use Rattle.std.proofs.Common.{◌≡◌, drop}
use Rattle.asl_rules.specs.values.Library as rules
use Rattle.asl_shape.proofs.library.all_equal.Given as goal

-- those so far are this bit
abbrev pub invariant-loop-place : goal.invariant-loop-place
invariant-loop-place l = rules.all_equal l.bit l.bits ≡ rules.all_equal l.bit (drop l.place l.bits)
