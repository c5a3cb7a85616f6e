use Rattle.std.proofs.Common.{rules}
use mir.Syntax.{w128}
use mir.Val.{SFits}
use Rattle.std.proofs.lemmas.Int.{to_z-of_z}
use Rattle.asl_cons.proofs.Covering.{int_end}
use Rattle.asl_cons.proofs.ends.number_of.Goals as goal

pub returns-in-Int-clause-value : goal.returns-in-Int-clause-value
returns-in-Int-clause-value c =
    let f : SFits w128 c.in-Int.n = search rules in
    rw (to_z-of_z w128 c.in-Int.n f, c.in-Int.is) (int_end c.in-Int.n)

pub returns-in-Width-clause-value : goal.returns-in-Width-clause-value
returns-in-Width-clause-value c = rw c.in-Width.is c.as_constant.ensures.value
