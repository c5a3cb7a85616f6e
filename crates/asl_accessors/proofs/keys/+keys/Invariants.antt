use Rattle.std.proofs.Common.{◌≡◌, ◌++◌, drop, map}
use Rattle.asl_rules.specs.declarations.Keys.{run_on, list_key, bitfield_key, expr_key, field_key, part_key, pattern_key, slice_key, type_key}
use Rattle.asl_accessors.proofs.keys.+keys.Given as goal

abbrev pub invariant-push_exprs-loop-item : goal.invariant-push_exprs-loop-item
invariant-push_exprs-loop-item l = l.key.items ++ run_on (map expr_key (drop l.item-index l.items)) ≡ l.fn.key.items ++ list_key (map expr_key l.items)

abbrev pub invariant-push_fields-loop-item : goal.invariant-push_fields-loop-item
invariant-push_fields-loop-item l = l.key.items ++ run_on (map field_key (drop l.item-index l.items)) ≡ l.fn.key.items ++ list_key (map field_key l.items)

abbrev pub invariant-push_slices-loop-item : goal.invariant-push_slices-loop-item
invariant-push_slices-loop-item l = l.key.items ++ run_on (map slice_key (drop l.item-index l.items)) ≡ l.fn.key.items ++ list_key (map slice_key l.items)

abbrev pub invariant-push_parts-loop-item : goal.invariant-push_parts-loop-item
invariant-push_parts-loop-item l = l.key.items ++ run_on (map part_key (drop l.item-index l.items)) ≡ l.fn.key.items ++ list_key (map part_key l.items)

abbrev pub invariant-push_bitfields-loop-item : goal.invariant-push_bitfields-loop-item
invariant-push_bitfields-loop-item l = l.key.items ++ run_on (map bitfield_key (drop l.item-index l.items)) ≡ l.fn.key.items ++ list_key (map bitfield_key l.items)

abbrev pub invariant-push_patterns-loop-item : goal.invariant-push_patterns-loop-item
invariant-push_patterns-loop-item l = l.key.items ++ run_on (map pattern_key (drop l.item-index l.items)) ≡ l.fn.key.items ++ list_key (map pattern_key l.items)

abbrev pub invariant-push_types-loop-item : goal.invariant-push_types-loop-item
invariant-push_types-loop-item l = l.key.items ++ run_on (map type_key (drop l.item-index l.items)) ≡ l.fn.key.items ++ list_key (map type_key l.items)
