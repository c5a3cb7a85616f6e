use Rattle.std.proofs.Common.{◌≡◌, ◌+◌, sym, ap, ◌∙◌, rules}
use Rattle.asl_rules.specs.types.Closed.{not_above}
use Rattle.asl_rules.specs.values.Matching.{matched}
use Rattle.asl_shape.specs.private.Matched.{values_from}
use Rattle.asl_shape.proofs.Patterns.{at_most_is}
use Rattle.asl_shape.proofs.matching.below.Goals as goal

pub returns-in-Some : goal.returns-in-Some
returns-in-Some c =
    let h : c.is_at_most.result ≡ not_above c.args.a c.in-Some.b = search rules in
    at_most_is c.args.span c.args.a c.in-Some.b c.args.values.now c.args.at c.in-Some.ensures.value ∙ ap (λ b. matched b (values_from c.args.values.now (c.args.at + 1))) (sym h)
