use Rattle.std.proofs.Common.{subst}
use Rattle.asl_types.specs.private.Totals.{IsTotalOf}
use Rattle.asl_types.proofs.TotalLemmas.{done}
use Rattle.asl_types.proofs.totals.Total.into_width.Goals as goal

pub returns-in-Some : goal.returns-in-Some
returns-in-Some c x h = done c.in-Some.within x c.args.span (subst (λ o. IsTotalOf o x) c.in-Some.is h)
