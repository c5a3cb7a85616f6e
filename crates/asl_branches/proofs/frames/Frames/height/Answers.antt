use Rattle.std.proofs.Common.{sym}
use Rattle.asl_branches.proofs.Framing.{height_is}
use Rattle.asl_branches.proofs.frames.Frames.height.Goals as goal

pub returns : goal.returns
returns c = sym (height_is c.self.inside c.args.self.now c.self.invariant c.self.view_is)
