use Rattle.std.proofs.Common.{rules}
use mir.Val.{SFits}
use mir.Syntax.{w128}
use Rattle.std.proofs.lemmas.Int.{to_z-of_z}
use Rattle.asl_cons.proofs.Covering.{integers_above, widths_above, widths_not_above, iff_never}
use Rattle.asl_cons.proofs.inclusion.above.Goals as goal

pub returns-in-Int-f : goal.returns-in-Int-f
returns-in-Int-f c =
    let f : SFits w128 c.in-Int.x = search rules in
    let g : SFits w128 c.in-Int-f.y = search rules in
    rw (to_z-of_z w128 c.in-Int.x f, to_z-of_z w128 c.in-Int-f.y g, c.in-Int.is, c.in-Int-f.is) (integers_above c.in-Int.x c.in-Int-f.y)

pub returns-in-Some : goal.returns-in-Some
returns-in-Some c =
    let f : SFits w128 c.in-Some.c = search rules in
    rw (to_z-of_z w128 c.in-Some.c f, c.in-Width.is, c.in-Width-f-2.is)
    (widths_above c.in-Width.p c.in-Width-f-2.q c.in-Some.c c.in-Some.ensures)

pub returns-in-None : goal.returns-in-None
returns-in-None c = rw (c.in-Width.is, c.in-Width-f-2.is) (iff_never (widths_not_above c.in-Width.p c.in-Width-f-2.q c.in-None.ensures))
