use Rattle.std.proofs.Common.{ap, arith, refl}
use Rattle.asl_store.specs.Stored.{Stored}
use Rattle.asl_store.proofs.Frames.{begins_before, popped, popped_kept, some_before}
use Rattle.asl_store.proofs.Slots.{pop_done}
use Rattle.asl_store.proofs.store.Store.pop_frame.Goals as goal

pub unwrap-size-requires : goal.unwrap-size-requires
unwrap-size-requires c =
    let some = some_before c.self.inside c.args.self.now c.self.view_is c.requires in
    c.pop.ensures.variant.1 (omega (arith, some, c.self.inside.sizes.ok.0))

pub overflow_sub-self : goal.overflow_sub-self
overflow_sub-self c =
    (begins_before c.self.inside c.unwrap-size.result c.pop.new.self.items c.self.invariant
    (pop_done c.pop.result c.self.inside.sizes.items c.pop.new.self.items c.unwrap-size.result c.unwrap-size.ensures c.pop.ensures.items)).0

pub invariant_of-self : goal.invariant_of-self
invariant_of-self c =
    popped_kept c.self.inside c.truncate-2.new.self.items c.truncate.new.self.items _ c.unwrap-size.result c.pop.new.self.items c.self.invariant
    (pop_done c.pop.result c.self.inside.sizes.items c.pop.new.self.items c.unwrap-size.result c.unwrap-size.ensures c.pop.ensures.items)
    refl c.truncate-2.ensures.items c.truncate.ensures.items

pub returns-clause-frames : goal.returns-clause-frames
returns-clause-frames c =
    popped c.self.inside c.args.self.now c.truncate-2.new.self.items c.truncate.new.self.items _ c.unwrap-size.result c.pop.new.self.items
    c.self.invariant c.self.view_is
    (pop_done c.pop.result c.self.inside.sizes.items c.pop.new.self.items c.unwrap-size.result c.unwrap-size.ensures c.pop.ensures.items)
    refl c.truncate-2.ensures.items c.truncate.ensures.items

pub returns-clause-globals : goal.returns-clause-globals
returns-clause-globals c = ap (λ (s : Stored). s.globals) c.self.view_is
