use Rattle.std.proofs.Common.{◌≡◌, ◌++◌, drop, map}
use Rattle.asl_rules.specs.declarations.UsedNames.{joined, bitfield_uses, part_uses, given_uses, expr_uses, pattern_uses, slice_uses, type_uses}
use Rattle.asl_names.specs.private.UseView.{all_uses}
use Rattle.asl_names.proofs.expr_uses.+uses.Given as goal

abbrev pub invariant-add_exprs-loop-e : goal.invariant-add_exprs-loop-e
invariant-add_exprs-loop-e l = all_uses l.uses ++ joined (map expr_uses (drop l.e-index l.exprs)) ≡ all_uses l.fn.uses ++ joined (map expr_uses l.exprs)

abbrev pub invariant-add_fields-loop-field : goal.invariant-add_fields-loop-field
invariant-add_fields-loop-field l = all_uses l.uses ++ joined (map given_uses (drop l.field-index l.fields)) ≡ all_uses l.fn.uses ++ joined (map given_uses l.fields)

abbrev pub invariant-add_slices-loop-slice : goal.invariant-add_slices-loop-slice
invariant-add_slices-loop-slice l = all_uses l.uses ++ joined (map slice_uses (drop l.slice-index l.slices)) ≡ all_uses l.fn.uses ++ joined (map slice_uses l.slices)

abbrev pub invariant-add_patterns-loop-pattern : goal.invariant-add_patterns-loop-pattern
invariant-add_patterns-loop-pattern l = all_uses l.uses ++ joined (map pattern_uses (drop l.pattern-index l.patterns)) ≡ all_uses l.fn.uses ++ joined (map pattern_uses l.patterns)

abbrev pub invariant-add_types-loop-ty : goal.invariant-add_types-loop-ty
invariant-add_types-loop-ty l = all_uses l.uses ++ joined (map type_uses (drop l.ty-index l.types)) ≡ all_uses l.fn.uses ++ joined (map type_uses l.types)

abbrev pub invariant-add_parts-loop-part : goal.invariant-add_parts-loop-part
invariant-add_parts-loop-part l = all_uses l.uses ++ joined (map part_uses (drop l.part-index l.parts)) ≡ all_uses l.fn.uses ++ joined (map part_uses l.parts)

abbrev pub invariant-add_bitfields-loop-field : goal.invariant-add_bitfields-loop-field
invariant-add_bitfields-loop-field l = all_uses l.uses ++ joined (map bitfield_uses (drop l.field-index l.fields)) ≡ all_uses l.fn.uses ++ joined (map bitfield_uses l.fields)
