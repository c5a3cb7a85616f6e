use Rattle.std.specs.Int.{w128}
use Rattle.std.proofs.Common.{arith}
use Rattle.std.proofs.lemmas.Int.{to_z_pos}
use Rattle.asl_vector.proofs.Vector.part_of_int.Goals as goal

pub unreachable-requires : goal.unreachable-requires
unreachable-requires c =
    let from = to_z_pos w128 c.args.place (omega arith) in
    let made = c.shr.ensures.1 c.args.place from in
    cc
