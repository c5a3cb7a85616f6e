use Rattle.std.proofs.Common.{◌≡◌, ◌-◌, ◌∷◌, map, length, take, drop, arith}
use Rattle.std.proofs.lemmas.Grind.{common_steps}
use Rattle.asl_rules.specs.expressions.Exprs.{expr_span}
use Rattle.asl_accessors.proofs.PartsStored.{others_placed, part_written}
use Rattle.asl_accessors.proofs.stores.write_part.Goals as goal

pub returns : goal.returns
returns c =
    let store = c.args.store in
    let values = c.in_ok-values.values in
    let spans = c.as_slice-2.result.now in
    let whole : values ≡ store.value ∷ store.arguments = grind (arith, common_steps) in
    let placed : spans ≡ map expr_span values = grind (arith, common_steps) in
    let first : c.place-value_at.result ≡ expr_span store.value = grind (arith, common_steps) in
    part_written store.at store.name store.parameters c.as_slice-3.result.now store.arguments values store.suffixes store.value
    c.place-value_at.result (take (length spans - 1) (drop 1 spans))
    c.args.written.now c.write_values.new.written c.push.new.self c.push-2.new.self c.push-3.new.self
    c.in_ok-got.field-0 c.in_ok-stored.field-0 c.in_ok-given_back.field-0
    c.in_ok-got.ensures c.in_ok-stored.ensures c.in_ok-given_back.ensures
    c.in_ok-write_values.ensures c.in_ok-push.ensures.ok c.in_ok-push-2.ensures.ok c.in_ok-push-3.ensures.ok
    c.requires c.as_slice-3.ensures whole (others_placed spans values store.arguments store.value placed whole) first
