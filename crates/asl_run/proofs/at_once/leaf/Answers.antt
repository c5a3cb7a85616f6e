use Rattle.std.proofs.Common.{◌-◌, ◌<◌, arith}
use Rattle.asl_run.specs.private.AtOnce.{found}
use Rattle.asl_run.proofs.AtOnce.{begun}
use Rattle.asl_run.proofs.at_once.leaf.Goals as goal

pub returns : goal.returns
returns c = λ fs e s p.
    let has : 0 < c.args.left.now = omega (arith, c.if-left-eq0.false) in
    let deep : 0 < c.args.reach.depth = omega (arith, c.if-reach-eq0.false) in
    begun fs c.args.reach.depth s (found c.args.it) e c.args.left.now (c.args.left.now - 1) has deep p
