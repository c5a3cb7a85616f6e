use Rattle.std.proofs.Common.{◌+◌, arith}
use Rattle.asl_store.proofs.Frames.{bound_is_within, replaced, replaced_kept}
use Rattle.asl_store.proofs.store.Store.set.Goals as goal

pub overflow_add-at : goal.overflow_add-at
overflow_add-at c =
    let inner = bound_is_within c.self.inside c.args.self.now c.args.slot c.self.invariant c.self.view_is c.requires in
    omega (arith, inner, c.self.inside.slots.ok.0, c.self.inside.slots.ok.1, c.self.inside.slots.small)

pub put-requires : goal.put-requires
put-requires c =
    let inner = bound_is_within c.self.inside c.args.self.now c.args.slot c.self.invariant c.self.view_is c.requires in
    omega (arith, inner, c.self.inside.slots.ok.0)

pub invariant_of-self : goal.invariant_of-self
invariant_of-self c = replaced_kept c.self.inside _ (c.self.inside.base + c.args.slot) c.args.value c.self.invariant c.put.ensures

pub returns : goal.returns
returns c = replaced c.self.inside c.args.self.now _ c.args.slot c.args.value c.self.invariant c.self.view_is c.requires c.put.ensures
