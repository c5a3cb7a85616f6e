use Rattle.std.proofs.Common.{◌≡◌, drop}
use Rattle.asl_bits.specs.declared.TheConstants.{WIDTH_LIMIT}
use Rattle.asl_rules.specs.values.Matching.{any_match, all_match}
use Rattle.asl_value.specs.View.{value_of}
use Rattle.asl_shape.specs.private.Matched.{values_from}
use Rattle.asl_shape.specs.View.{all_patterns}
use Rattle.asl_shape.proofs.Patterns.{any_so_far, all_so_far, parts_in}
use Rattle.asl_shape.proofs.matching.+matches.Given as goal

abbrev pub invariant-any_matches-loop-pattern : goal.invariant-any_matches-loop-pattern
invariant-any_matches-loop-pattern l =
    any_match WIDTH_LIMIT (all_patterns l.patterns) (value_of l.x) (values_from l.values l.at) ≡
    any_so_far l.so_far.holds (any_match WIDTH_LIMIT (all_patterns (drop l.pattern-index l.patterns)) (value_of l.x) (values_from l.values l.so_far.next))

abbrev pub invariant-all_match-loop-pattern : goal.invariant-all_match-loop-pattern
invariant-all_match-loop-pattern l =
    all_match WIDTH_LIMIT l.span (all_patterns l.patterns) (parts_in l.parts) (values_from l.values l.at) ≡
    all_so_far l.so_far.holds (all_match WIDTH_LIMIT l.span (all_patterns (drop l.pattern-index l.patterns)) (parts_in l.rest) (values_from l.values l.so_far.next))
