use Rattle.std.proofs.Common.{arith, ap, ◌∙◌}
use Rattle.asl_store.proofs.Slots.{pop_done}
use Rattle.asl_branches.specs.Framed.{Framed}
use Rattle.asl_branches.proofs.Framing.{left_is, left_kept, some_caller}
use Rattle.asl_branches.proofs.frames.Frames.leave.Goals as goal

pub unwrap-caller-requires : goal.unwrap-caller-requires
unwrap-caller-requires c =
    c.pop.ensures.variant.1 (omega (arith, (some_caller c.self.inside c.args.self.now c.self.invariant c.self.view_is c.requires).0, c.self.inside.callers.ok.0))

pub pop_frame-requires : goal.pop_frame-requires
pop_frame-requires c = (some_caller c.self.inside c.args.self.now c.self.invariant c.self.view_is c.requires).1

pub invariant_of-self : goal.invariant_of-self
invariant_of-self c =
    left_kept c.self.inside c.pop_frame.new.self c.unwrap-caller.result c.pop.new.self.items c.self.invariant c.pop_frame.ensures.frames
    (pop_done c.pop.result c.self.inside.callers.items c.pop.new.self.items c.unwrap-caller.result c.unwrap-caller.ensures c.pop.ensures.items)

pub returns : goal.returns
returns c = record {
  frames = left_is c.self.inside c.args.self.now c.pop_frame.new.self c.unwrap-caller.result c.pop.new.self.items c.self.invariant c.self.view_is
      c.pop_frame.ensures.frames
      (pop_done c.pop.result c.self.inside.callers.items c.pop.new.self.items c.unwrap-caller.result c.unwrap-caller.ensures c.pop.ensures.items);
  globals = c.pop_frame.ensures.globals ∙ ap (λ (f : Framed). f.globals) c.self.view_is;
}
