use Rattle.std.proofs.Common.{nat_eq, ap, ◌∙◌}
use Rattle.asl_types.proofs.TestLemmas.{zero_is}
use Rattle.asl_types.proofs.tests.is_zero.Goals as goal

pub returns : goal.returns
returns c t r = ap (λ n. nat_eq n 0) c.terms.ensures.count ∙ zero_is t r c.args.p.now c.within_limits.ensures
