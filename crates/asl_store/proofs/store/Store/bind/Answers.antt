use Rattle.std.proofs.Common.{◌+◌, true, refl, arith}
use Rattle.asl_store.proofs.Frames.{marked, marked_kept, within}
use Rattle.asl_store.proofs.store.Store.bind.Goals as goal

pub overflow_add-at : goal.overflow_add-at
overflow_add-at c =
    let inner = within c.self.inside c.args.self.now c.args.slot c.self.invariant c.self.view_is c.requires in
    omega (arith, inner, c.self.inside.slots.ok.0, c.self.inside.slots.ok.1, c.self.inside.slots.small)

pub put-requires : goal.put-requires
put-requires c =
    let inner = within c.self.inside c.args.self.now c.args.slot c.self.invariant c.self.view_is c.requires in
    omega (arith, inner, c.self.inside.slots.ok.0)

pub index_mut-requires : goal.index_mut-requires
index_mut-requires c =
    let inner = within c.self.inside c.args.self.now c.args.slot c.self.invariant c.self.view_is c.requires in
    omega (arith, inner, c.self.invariant.0, c.self.inside.marks.ok.0)

pub invariant_of-self : goal.invariant_of-self
invariant_of-self c =
    marked_kept c.self.inside _ _ (c.self.inside.base + c.args.slot) true c.args.value c.self.invariant refl c.put.ensures

pub returns : goal.returns
returns c = marked c.self.inside c.args.self.now _ _ c.args.slot true c.args.value c.self.invariant c.self.view_is refl c.put.ensures
