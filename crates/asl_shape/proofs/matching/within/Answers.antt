use Rattle.std.proofs.Common.{◌≡◌, ◌+◌, sym, ap, ◌∙◌, rules}
use Rattle.std.specs.Prelude.{◌&&◌}
use Rattle.asl_rules.specs.types.Closed.{not_above}
use Rattle.asl_rules.specs.values.Matching.{matched}
use Rattle.asl_shape.specs.private.Matched.{values_from}
use Rattle.asl_shape.proofs.Patterns.{between_is}
use Rattle.asl_shape.proofs.matching.within.Goals as goal

pub returns-in-Some-integer_at : goal.returns-in-Some-integer_at
returns-in-Some-integer_at c =
    let h : c.is_between.result ≡ (not_above c.in-Some.low c.args.a && not_above c.args.a c.in-Some-integer_at.high) = search rules in
    between_is c.args.span c.args.a c.in-Some.low c.in-Some-integer_at.high c.args.values.now c.args.at c.in-Some.ensures.value c.in-Some-integer_at.ensures.value ∙
    ap (λ b. matched b (values_from c.args.values.now (c.args.at + 2))) (sym h)
