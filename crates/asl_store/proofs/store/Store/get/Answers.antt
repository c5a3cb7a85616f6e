use Rattle.std.proofs.Common.{◌+◌, length, refl, ◌∙◌, arith}
use Rattle.std.proofs.lemmas.Option.{slice_get_read}
use Rattle.asl_store.proofs.Frames.{bound_is_within, got}
use Rattle.asl_store.proofs.store.Store.get.Goals as goal

pub overflow_add-at : goal.overflow_add-at
overflow_add-at c =
    let inner = bound_is_within c.self.inside c.args.self.now c.args.slot c.self.invariant c.self.view_is c.requires in
    omega (arith, inner, c.self.inside.slots.ok.0, c.self.inside.slots.ok.1, c.self.inside.slots.small)

pub index-requires : goal.index-requires
index-requires c =
    let inner = bound_is_within c.self.inside c.args.self.now c.args.slot c.self.invariant c.self.view_is c.requires in
    omega (arith, inner, c.self.inside.slots.ok.0)

pub returns : goal.returns
returns c =
    got c.self.inside c.args.self.now c.args.slot c.self.view_is c.requires
    ∙ slice_get_read c.self.inside.slots.items (length c.self.inside.slots.items) (c.self.inside.base + c.args.slot) c.index.result.now refl
    (bound_is_within c.self.inside c.args.self.now c.args.slot c.self.invariant c.self.view_is c.requires) c.index.ensures
