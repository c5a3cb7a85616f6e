use Rattle.std.proofs.Common.{refl, arith, rules}
use Rattle.asl_branches.proofs.Framing.{entered_is, entered_kept}
use Rattle.asl_store.proofs.Slots.{push_done}
use Rattle.asl_branches.proofs.frames.Frames.enter.Goals as goal

pub invariant_of-self-2 : goal.invariant_of-self-2
invariant_of-self-2 c =
    entered_kept c.self.inside c.push_frame.new.self (record { height = c.self.inside.height; handled = c.args.handled }) c.push.new.self.items
    c.args.slots c.self.invariant refl (omega (arith, c.ranges.slots)) c.in_ok-push_frame.ensures.ok
    (push_done c.push.result c.unwrap.result c.self.inside.callers.items c.push.new.self.items _ c.unwrap.ensures (search rules))

pub returns : goal.returns
returns c =
    entered_is c.self.inside c.args.self.now c.push_frame.new.self (record { height = c.self.inside.height; handled = c.args.handled })
    c.push.new.self.items c.args.slots c.self.invariant c.self.view_is c.in_ok-push_frame.ensures.ok
    (push_done c.push.result c.unwrap.result c.self.inside.callers.items c.push.new.self.items _ c.unwrap.ensures (search rules))
