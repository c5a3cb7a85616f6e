use Rattle.std.proofs.Common.{◌<◌, arith}
use Rattle.asl_run.proofs.ActsAtOnce.{entered}
use Rattle.asl_run.proofs.Stated.{simple_is}
use Rattle.asl_run.proofs.acts_at_once.executed.Goals as goal

pub returns-in-Simple-clause-meets : goal.returns-in-Simple-clause-meets
returns-in-Simple-clause-meets c = λ fs.
    let has : 0 < c.args.run.now.steps = omega (arith, c.if-steps-eq0.false) in
    let deep : 0 < c.args.depth = omega (arith, c.if-depth-eq0.false) in
    entered fs _ _ c.args.s.now _ _ has deep (rw (simple_is c.args.s.now c.in-Simple.s c.in-Simple.is) (c.simple.ensures.meets fs))
