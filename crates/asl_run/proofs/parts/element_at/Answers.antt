use Rattle.std.proofs.Common.{refl, sym, to_z-of_z}
use Rattle.asl_value.proofs.Elements.{element_there}
use Rattle.asl_run.proofs.parts.element_at.Goals as goal

pub returns-in-Some : goal.returns-in-Some
returns-in-Some c = λ span kind.
    let h = simp (to_z-of_z, c.ranges.index) at c.in-Some.ensures.value in
    let x = c.index-elements-at.result in
    element_there span kind c.args.elements.now c.args.index c.in-Some.at x x (sym h) c.in-Some.ensures.within c.index-elements-at.is refl
