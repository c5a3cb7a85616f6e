use Rattle.std.proofs.Common.{rules}
use Rattle.asl_shape.proofs.Takes.{both_ends}
use Rattle.asl_shape.proofs.filling.next_part.Goals as goal

pub returns-in-Some-integer_at : goal.returns-in-Some-integer_at
returns-in-Some-integer_at c =
    let e = both_ends c.args.values.now c.args.at c.in-Some.z c.in-Some-integer_at.high c.in-Some.ensures.value c.in-Some-integer_at.ensures.value in search rules
