use Rattle.std.proofs.Common.{◌≡◌, ◌++◌, drop}
use Rattle.asl_copy.proofs.exprs.+copies.Given as goal

abbrev pub invariant-copy_exprs-loop-item : goal.invariant-copy_exprs-loop-item
invariant-copy_exprs-loop-item l = l.copies ++ drop l.item-index l.items ≡ l.items

abbrev pub invariant-copy_fields-loop-item : goal.invariant-copy_fields-loop-item
invariant-copy_fields-loop-item l = l.copies ++ drop l.item-index l.items ≡ l.items

abbrev pub invariant-copy_slices-loop-item : goal.invariant-copy_slices-loop-item
invariant-copy_slices-loop-item l = l.copies ++ drop l.item-index l.items ≡ l.items

abbrev pub invariant-copy_parts-loop-item : goal.invariant-copy_parts-loop-item
invariant-copy_parts-loop-item l = l.copies ++ drop l.item-index l.items ≡ l.items

abbrev pub invariant-copy_bitfields-loop-item : goal.invariant-copy_bitfields-loop-item
invariant-copy_bitfields-loop-item l = l.copies ++ drop l.item-index l.items ≡ l.items

abbrev pub invariant-copy_types-loop-item : goal.invariant-copy_types-loop-item
invariant-copy_types-loop-item l = l.copies ++ drop l.item-index l.items ≡ l.items

abbrev pub invariant-copy_patterns-loop-item : goal.invariant-copy_patterns-loop-item
invariant-copy_patterns-loop-item l = l.copies ++ drop l.item-index l.items ≡ l.items
