use Rattle.std.proofs.Common.{◌∙◌}
use Rattle.std.proofs.lemmas.Int.{to_z-of_z}
use mir.Syntax.{w128}
use Rattle.asl_cons.proofs.ExactResults.{shift_is}
use Rattle.asl_cons.proofs.integers.shifted_up.Goals as goal

pub returns : goal.returns
returns c = c.ok.ensures.value ∙ shift_is c.shl.result c.args.x c.args.places c.requires (rw (to_z-of_z w128 c.args.x c.ranges.x, to_z-of_z w128 c.args.places c.ranges.places) at c.shl.ensures)
