use Rattle.std.proofs.Common.{arith}
use Rattle.asl_branches.proofs.Framing.{changed_is, changed_kept, changed_same, set_within}
use Rattle.asl_branches.proofs.frames.Frames.replace.Goals as goal

pub overflow_cast-at : goal.overflow_cast-at
overflow_cast-at c = omega (arith, (set_within c.self.inside c.args.self.now c.args.at c.self.invariant c.self.view_is c.requires).1)

pub replace_in-requires : goal.replace_in-requires
replace_in-requires c = (set_within c.self.inside c.args.self.now c.args.at c.self.invariant c.self.view_is c.requires).0

pub invariant_of-self : goal.invariant_of-self
invariant_of-self c =
    changed_kept c.self.inside c.args.self.now c.replace_in.result _ c.args.at c.replace_in.new.self c.self.invariant c.self.view_is
    c.requires c.replace_in.ensures

pub returns : goal.returns
returns c = record {
  changed = changed_is c.self.inside c.args.self.now c.replace_in.result _ c.args.at c.replace_in.new.self c.self.invariant c.self.view_is
      c.requires c.replace_in.ensures;
  same = changed_same c.self.inside c.args.self.now c.replace_in.result _ c.args.at c.replace_in.new.self c.self.invariant c.self.view_is
      c.requires c.replace_in.ensures;
}
