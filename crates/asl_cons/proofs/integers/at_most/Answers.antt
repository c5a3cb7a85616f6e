use Rattle.std.proofs.Common.{rules}
use mir.Val.{SFits}
use mir.Syntax.{w128}
use Rattle.std.proofs.lemmas.Int.{to_z-of_z}
use Rattle.asl_cons.proofs.Rounding.{at_most_quotient}
use Rattle.asl_cons.proofs.integers.at_most.Goals as goal

pub returns-in-Some : goal.returns-in-Some
returns-in-Some c =
    let f : SFits w128 c.in-Some.most = search rules in
    rw (to_z-of_z w128 c.args.x c.ranges.x, to_z-of_z w128 c.in-Some.most f)
    (at_most_quotient c.args.x c.args.c c.args.d c.in-Some.most c.requires
    (rw (to_z-of_z w128 c.args.c c.ranges.c, to_z-of_z w128 c.args.d c.ranges.d) at c.in-Some.ensures))
