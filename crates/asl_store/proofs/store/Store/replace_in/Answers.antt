use Rattle.std.proofs.Common.{◌+◌, length, refl, ◌∙◌, arith}
use Rattle.std.proofs.lemmas.Option.{slice_get_read}
use Rattle.asl_store.proofs.Frames.{bound_is_within, got, replaced, replaced_kept}
use Rattle.asl_store.proofs.store.Store.replace_in.Goals as goal

pub overflow_add-at : goal.overflow_add-at
overflow_add-at c =
    let inner = bound_is_within c.self.inside c.args.self.now c.args.slot c.self.invariant c.self.view_is c.requires in
    omega (arith, inner, c.self.inside.slots.ok.0, c.self.inside.slots.ok.1, c.self.inside.slots.small)

pub index_mut-requires : goal.index_mut-requires
index_mut-requires c =
    let inner = bound_is_within c.self.inside c.args.self.now c.args.slot c.self.invariant c.self.view_is c.requires in
    omega (arith, inner, c.self.inside.slots.ok.0)

pub invariant_of-self : goal.invariant_of-self
invariant_of-self c = replaced_kept c.self.inside _ (c.self.inside.base + c.args.slot) c.replace.new.value c.self.invariant refl

pub returns : goal.returns
returns c = record {
  old = c.index_mut.result.now;
  new = c.replace.new.value;
  was =
      got c.self.inside c.args.self.now c.args.slot c.self.view_is c.requires
      ∙ slice_get_read c.self.inside.slots.items (length c.self.inside.slots.items) (c.self.inside.base + c.args.slot) c.index_mut.result.now refl
      (bound_is_within c.self.inside c.args.self.now c.args.slot c.self.invariant c.self.view_is c.requires) c.index_mut.ensures.value;
  now_is = replaced c.self.inside c.args.self.now _ c.args.slot c.replace.new.value c.self.invariant c.self.view_is c.requires refl;
  changes = c.replace.ensures;
}
