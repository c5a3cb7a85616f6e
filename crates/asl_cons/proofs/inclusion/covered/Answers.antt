use Rattle.std.proofs.Common.{rules}
use mir.Val.{SFits}
use mir.Syntax.{w128}
use Rattle.std.proofs.lemmas.Int.{to_z-of_z}
use Rattle.asl_cons.proofs.Covering.{covered_fixed, covered_free, iff_trans}
use Rattle.asl_cons.proofs.inclusion.covered.Goals as goal

pub returns-in-Some : goal.returns-in-Some
returns-in-Some c =
    let f : SFits w128 c.in-Some.l = search rules in
    let g : SFits w128 c.in-Some.h = search rules in
    iff_trans (simp to_z-of_z at c.covers.ensures) (covered_fixed c.args.p.now c.args.qs.now c.in-Some.l c.in-Some.h
    (c.part_within_limits.ensures.low, c.part_within_limits.ensures.high) c.in-Some.ensures.value)

pub returns-in-None : goal.returns-in-None
returns-in-None c = iff_trans c.held.ensures (covered_free c.args.p.now c.args.qs.now c.in-None.ensures.value)
