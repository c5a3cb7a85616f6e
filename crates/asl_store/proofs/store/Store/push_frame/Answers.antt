use Rattle.std.proofs.Common.{◌≡◌, ◌∷◌, ◌++◌, ◌-◌, [], false, if◌then◌else◌, is_ok, length, replicate, ap, ◌∙◌, arith, subst}
use Rattle.asl_value.specs.declared.value.Value.TheVariants as value
use Rattle.asl_store.proofs.Frames.{pushed, pushed_kept}
use Rattle.asl_store.proofs.Slots.{push_done}
use Rattle.asl_store.proofs.store.Store.push_frame.Goals as goal

pub overflow_sub-size : goal.overflow_sub-size
overflow_sub-size c = omega (arith, c.len-end.ensures, c.self.inside.slots.ok.0, c.self.invariant.1.1)

pub invariant_of-self-2 : goal.invariant_of-self-2
invariant_of-self-2 c =
    pushed_kept c.self.inside c.add_marks.new.marks.items c.add_slots.new.slots.items c.len-end.result c.args.slots c.push.new.self.items
    (value.Bool false) c.self.invariant (c.len-end.ensures ∙ c.self.inside.slots.ok.0)
    (push_done c.push.result c.unwrap.result c.self.inside.sizes.items c.push.new.self.items (length c.self.inside.slots.items - c.self.inside.base)
    c.unwrap.ensures
    (subst (λ ns. c.push.new.self.items ≡ (if is_ok c.push.result then ns ++ (length c.self.inside.slots.items - c.self.inside.base) ∷ [] else ns))
    c.reserve.ensures.items (subst (λ n. c.push.new.self.items ≡ (if is_ok c.push.result then c.reserve.new.self.items ++ (n - c.self.inside.base) ∷ [] else c.reserve.new.self.items))
    (c.len-end.ensures ∙ c.self.inside.slots.ok.0) c.push.ensures.items)))
    (c.add_marks.ensures ∙ ap (λ ms. ms ++ replicate c.args.slots false) c.reserve-2.ensures.items)
    (c.add_slots.ensures ∙ ap (λ xs. xs ++ replicate c.args.slots (value.Bool false)) c.reserve-3.ensures.items)

pub returns-clause-ok : goal.returns-clause-ok
returns-clause-ok c =
    pushed c.self.inside c.args.self.now c.add_marks.new.marks.items c.add_slots.new.slots.items c.len-end.result c.args.slots
    c.push.new.self.items (value.Bool false) c.self.invariant c.self.view_is (c.len-end.ensures ∙ c.self.inside.slots.ok.0)
    (push_done c.push.result c.unwrap.result c.self.inside.sizes.items c.push.new.self.items (length c.self.inside.slots.items - c.self.inside.base)
    c.unwrap.ensures
    (subst (λ ns. c.push.new.self.items ≡ (if is_ok c.push.result then ns ++ (length c.self.inside.slots.items - c.self.inside.base) ∷ [] else ns))
    c.reserve.ensures.items (subst (λ n. c.push.new.self.items ≡ (if is_ok c.push.result then c.reserve.new.self.items ++ (n - c.self.inside.base) ∷ [] else c.reserve.new.self.items))
    (c.len-end.ensures ∙ c.self.inside.slots.ok.0) c.push.ensures.items)))
    (c.add_marks.ensures ∙ ap (λ ms. ms ++ replicate c.args.slots false) c.reserve-2.ensures.items)
    (c.add_slots.ensures ∙ ap (λ xs. xs ++ replicate c.args.slots (value.Bool false)) c.reserve-3.ensures.items)
