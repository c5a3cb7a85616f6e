use Rattle.std.proofs.Common.{arith}
use Rattle.asl_branches.proofs.Framing.{set_is, set_kept, set_within}
use Rattle.asl_branches.proofs.frames.Frames.set.Goals as goal

pub overflow_cast-at : goal.overflow_cast-at
overflow_cast-at c = omega (arith, (set_within c.self.inside c.args.self.now c.args.at c.self.invariant c.self.view_is c.requires).1)

pub set-requires : goal.set-requires
set-requires c = (set_within c.self.inside c.args.self.now c.args.at c.self.invariant c.self.view_is c.requires).0

pub invariant_of-self : goal.invariant_of-self
invariant_of-self c =
    set_kept c.self.inside c.args.self.now c.set.new.self c.args.at c.args.value c.self.invariant c.self.view_is c.requires c.set.ensures

pub returns : goal.returns
returns c =
    set_is c.self.inside c.args.self.now c.set.new.self c.args.at c.args.value c.self.invariant c.self.view_is c.requires c.set.ensures
