use Rattle.std.proofs.Common.{◌≡◌, ◌*◌, ◌%◌, ◌^◌, ◌<◌, arith}
use Rattle.std.proofs.lemmas.Int.{to_z_pos}
use Rattle.std.proofs.lemmas.Nat.{pow_below}
use mir.Syntax.{w128}
use Rattle.asl_expr.proofs.routine_types.power.Goals as goal

pub returns : goal.returns
returns c =
    let small : 2 ^ c.args.k < 2 ^ 127 = pow_below c.args.k 127 (omega arith) in
    let held : 1 * 2 ^ c.args.k % 340282366920938463463374607431768211456 ≡ 2 ^ c.args.k = omega arith in
    rw held (to_z_pos w128 (2 ^ c.args.k) small)
