use Rattle.std.proofs.Common.{arith}
use Rattle.asl_shape.proofs.FilledHaving.{parts_at, parts_left}
use Rattle.asl_shape.proofs.filled.+filled_has.Goals as goal

pub parts_have-returns : goal.parts_have-returns
parts_have-returns t c = parts_left c.is_empty.result c.loop-part.rest.now c.args.parts.now c.loop-part.part-index (parts_at c.args.given.now c.args.parts.now) (omega arith) c.is_empty.ensures c.loop-part.invariant
