use Rattle.std.proofs.Common.{◌∙◌}
use Rattle.std.proofs.Math.IntN.{◌*ℤ◌}
use Rattle.std.proofs.lemmas.Int.{to_z-of_z}
use mir.Syntax.{w128}
use Rattle.asl_cons.proofs.ExactResults.{exact_ok}
use Rattle.asl_cons.proofs.integers.product.Goals as goal

pub returns : goal.returns
returns c = c.ok.ensures.value ∙ exact_ok c.mul.result (c.args.x *ℤ c.args.y) (rw (to_z-of_z w128 c.args.x c.ranges.x, to_z-of_z w128 c.args.y c.ranges.y) at c.mul.ensures)
