use Rattle.std.proofs.Common.{arith}
use Rattle.asl_branches.proofs.Framing.{cut_is, cut_kept, uncut_is}
use Rattle.asl_branches.proofs.frames.Frames.truncate.Goals as goal

pub unbind_from-requires-clause-filled : goal.unbind_from-requires-clause-filled
unbind_from-requires-clause-filled c = c.self.invariant.0

pub unbind_from-requires-clause-ordered : goal.unbind_from-requires-clause-ordered
unbind_from-requires-clause-ordered c = omega (arith, c.if-height-self.true)

pub invariant_of-self : goal.invariant_of-self
invariant_of-self c =
    cut_kept c.self.inside c.unbind_from.new.store c.args.height c.self.invariant c.unbind_from.ensures.filled c.unbind_from.ensures.older

pub returns-then-height-self : goal.returns-then-height-self
returns-then-height-self c =
    cut_is c.self.inside c.args.self.now c.unbind_from.new.store c.args.height c.self.view_is c.unbind_from.ensures.values
    c.unbind_from.ensures.slots c.unbind_from.ensures.globals c.unbind_from.ensures.older

pub returns-else-height-self : goal.returns-else-height-self
returns-else-height-self c = uncut_is c.self.inside c.args.self.now c.args.height c.self.invariant c.self.view_is c.if-height-self.false
