use Rattle.std.proofs.Common.{◌∙◌}
use Rattle.std.proofs.lemmas.Int.{to_z-of_z}
use mir.Syntax.{w128}
use Rattle.asl_cons.proofs.ExactResults.{quotient_is}
use Rattle.asl_cons.proofs.integers.quotient.Goals as goal

pub returns : goal.returns
returns c = c.ok.ensures.value ∙ quotient_is c.div_floor.result c.args.x c.args.m c.requires (rw (to_z-of_z w128 c.args.x c.ranges.x, to_z-of_z w128 c.args.m c.ranges.m) at c.div_floor.ensures)
