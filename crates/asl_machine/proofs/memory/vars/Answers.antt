use Rattle.std.proofs.Common.{arith}
use Rattle.asl_machine.proofs.Places.{vars_next}
use Rattle.asl_machine.proofs.memory.vars.Goals as goal

pub loop-g-preserved : goal.loop-g-preserved
loop-g-preserved c = vars_next c.args.globals.now c.loop-g.g-index c.g-item.result c.loop-g.vars.items _ _ (omega (arith, c.loop-g-test.true)) c.g-item.is c.in_ok-keep_var.ensures c.loop-g.invariant
