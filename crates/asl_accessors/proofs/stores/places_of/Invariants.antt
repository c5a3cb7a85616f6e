use Rattle.std.proofs.Common.{◌≡◌, ◌++◌, drop, map}
use Rattle.asl_rules.specs.expressions.Exprs.{expr_span}
use Rattle.asl_accessors.proofs.stores.places_of.Given as goal

abbrev pub invariant-loop-value : goal.invariant-loop-value
invariant-loop-value l = l.spans.items ++ map expr_span (drop l.value-index l.values) ≡ map expr_span l.values
