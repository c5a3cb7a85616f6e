use Rattle.std.proofs.Common.{rules}
use mir.Val.{SFits}
use mir.Syntax.{w128}
use Rattle.std.proofs.lemmas.Int.{to_z-of_z}
use Rattle.asl_cons.proofs.Covering.{not_above_integer, iff_never}
use Rattle.asl_cons.proofs.Rounding.{integer_below}
use Rattle.asl_cons.proofs.inclusion.above_integer.Goals as goal

pub returns-in-Some : goal.returns-in-Some
returns-in-Some c =
    let f : SFits w128 c.args.y = search rules in
    let g : SFits w128 c.denominator.result = search rules in
    let h : SFits w128 c.in-Some.c = search rules in
    integer_below c.args.p.now c.args.y c.in-Some.c c.denominator.result c.at_most.result c.denominator.ensures.is
    (simp to_z-of_z at c.at_most.ensures) c.in-Some.ensures.value

pub returns-in-None : goal.returns-in-None
returns-in-None c = iff_never (not_above_integer c.args.p.now c.args.y c.in-None.ensures.value)
