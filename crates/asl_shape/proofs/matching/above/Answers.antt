use Rattle.std.proofs.Common.{◌≡◌, ◌+◌, sym, ap, ◌∙◌, rules}
use Rattle.asl_rules.specs.types.Closed.{not_above}
use Rattle.asl_rules.specs.values.Matching.{matched}
use Rattle.asl_shape.specs.private.Matched.{values_from}
use Rattle.asl_shape.proofs.Patterns.{at_least_is}
use Rattle.asl_shape.proofs.matching.above.Goals as goal

pub returns-in-Some : goal.returns-in-Some
returns-in-Some c =
    let h : c.is_at_most.result ≡ not_above c.in-Some.b c.args.a = search rules in
    at_least_is c.args.span c.args.a c.in-Some.b c.args.values.now c.args.at c.in-Some.ensures.value ∙ ap (λ b. matched b (values_from c.args.values.now (c.args.at + 1))) (sym h)
