use Rattle.std.proofs.Common.{to_z-of_z}
use Rattle.asl_value.proofs.Integers.{negated}
use Rattle.asl_run.proofs.at_once.of_integer.Goals as goal

pub returns-in-Negate : goal.returns-in-Negate
returns-in-Negate c =
    let h = simp (to_z-of_z, c.ranges.x) at c.neg.ensures in
    λ span. rw (c.in-Negate.is, ← negated span _ _ h) (c.settled.ensures span)
