use Rattle.std.proofs.Common.{sym, arith}
use Rattle.asl_branches.proofs.Framing.{bound_here, no_value, number_here, value_is}
use Rattle.asl_branches.proofs.frames.Frames.value.Goals as goal

pub overflow_cast-at : goal.overflow_cast-at
overflow_cast-at c = omega (arith, number_here c.self.inside c.args.at c.self.invariant c.if-at-self.true)

pub get-requires : goal.get-requires
get-requires c = bound_here c.self.inside c.args.at c.self.invariant c.if-at-self.true

pub returns-then-at-self : goal.returns-then-at-self
returns-then-at-self c =
    sym (value_is c.self.inside c.args.self.now c.args.at c.get.result.now c.self.invariant c.self.view_is c.if-at-self.true c.get.ensures)

pub returns-else-at-self : goal.returns-else-at-self
returns-else-at-self c = sym (no_value c.self.inside c.args.self.now c.args.at c.self.invariant c.self.view_is c.if-at-self.false)
