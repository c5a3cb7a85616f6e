use Rattle.std.proofs.Common.{◌≡◌, drop}
use Rattle.asl_rules.specs.private.HoldsBits.{have_bits}
use Rattle.asl_value.specs.View.{all_values}
use Rattle.asl_value.proofs.keeping.+has_bits.Given as goal

-- there are none so far
abbrev pub invariant-have_bits-loop-value : goal.invariant-have_bits-loop-value
invariant-have_bits-loop-value l = have_bits (all_values l.values) ≡ have_bits (all_values (drop l.value-index l.values))
