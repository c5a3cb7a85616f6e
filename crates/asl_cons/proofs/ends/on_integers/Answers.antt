use Rattle.std.proofs.Common.{◌∙◌}
use Rattle.std.proofs.Math.IntN.{◌+ℤ◌, ◌-ℤ◌, ◌*ℤ◌}
use Rattle.std.proofs.lemmas.Int.{to_z-of_z}
use mir.Syntax.{w128}
use Rattle.asl_cons.proofs.ExactResults.{exact_ok}
use Rattle.asl_cons.proofs.ends.on_integers.Goals as goal

pub returns-in-Sum : goal.returns-in-Sum
returns-in-Sum c = rw c.in-Sum.is (c.ok.ensures.value ∙ exact_ok c.add.result (c.args.x +ℤ c.args.y) (rw (to_z-of_z w128 c.args.x c.ranges.x, to_z-of_z w128 c.args.y c.ranges.y) at c.add.ensures))

pub returns-in-Difference : goal.returns-in-Difference
returns-in-Difference c = rw c.in-Difference.is (c.ok-in-Difference.ensures.value ∙ exact_ok c.sub.result (c.args.x -ℤ c.args.y) (rw (to_z-of_z w128 c.args.x c.ranges.x, to_z-of_z w128 c.args.y c.ranges.y) at c.sub.ensures))

pub returns-in-Product : goal.returns-in-Product
returns-in-Product c = rw c.in-Product.is (c.ok-in-Product.ensures.value ∙ exact_ok c.mul.result (c.args.x *ℤ c.args.y) (rw (to_z-of_z w128 c.args.x c.ranges.x, to_z-of_z w128 c.args.y c.ranges.y) at c.mul.ensures))
