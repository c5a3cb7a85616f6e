use Rattle.std.proofs.Common.{rules, arith}
use mir.Val.{SFits}
use mir.Syntax.{w128}
use Rattle.std.proofs.lemmas.Int.{ints}
use Rattle.asl_cons.proofs.Covering.{not_holds, free_not_holds}
use Rattle.asl_cons.proofs.inclusion.end_from.Goals as goal
use Rattle.asl_cons.proofs.inclusion.end_from.Goals.{else-l-i-via-then-l-i+else-i-h, else-l-i-via-else-l-i}

pub returns-in-None : goal.returns-in-None
returns-in-None c = free_not_holds c.args.q.now c.args.i c.in-None.ensures.value

pub returns-else-l-i : goal.returns-else-l-i
returns-else-l-i c =
    let f : SFits w128 c.in-Some.l = search rules in
    let g : SFits w128 c.in-Some.h = search rules in
    let k : SFits w128 c.args.i = search rules in
    not_holds c.args.q.now c.in-Some.l c.in-Some.h c.args.i
    (c.part_within_limits.ensures.low, c.part_within_limits.ensures.high) c.in-Some.ensures.value (λ n.
    elim c.else-l-i.branch [
      | else-l-i-via-then-l-i+else-i-h w ↦ omega (arith, ints, w.if-i-h.false, n.1)
      | else-l-i-via-else-l-i w ↦ omega (arith, ints, w.if-l-i.false, n.0)
    ])
