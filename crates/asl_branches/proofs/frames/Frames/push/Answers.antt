use Rattle.std.proofs.Common.{arith}
use Rattle.asl_branches.proofs.Framing.{next_within, pushed_is, pushed_kept}
use Rattle.asl_branches.proofs.frames.Frames.push.Goals as goal

pub overflow_cast-self-inside : goal.overflow_cast-self-inside
overflow_cast-self-inside c = omega (arith, (next_within c.self.inside c.args.self.now c.self.invariant c.self.view_is c.requires).1)

pub bind-requires : goal.bind-requires
bind-requires c = (next_within c.self.inside c.args.self.now c.self.invariant c.self.view_is c.requires).0

pub overflow_add-self : goal.overflow_add-self
overflow_add-self c = omega (arith, (next_within c.self.inside c.args.self.now c.self.invariant c.self.view_is c.requires).1)

pub invariant_of-self : goal.invariant_of-self
invariant_of-self c =
    pushed_kept c.self.inside c.args.self.now c.bind.new.self c.args.value c.self.invariant c.self.view_is c.requires c.bind.ensures

pub returns : goal.returns
returns c =
    pushed_is c.self.inside c.args.self.now c.bind.new.self c.args.value c.self.invariant c.self.view_is c.requires c.bind.ensures
