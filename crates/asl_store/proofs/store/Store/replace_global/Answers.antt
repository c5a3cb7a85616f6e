use Rattle.std.proofs.Common.{length, set, refl, sym, ap, ◌∙◌, arith, slice_get}
use Rattle.std.proofs.lemmas.Option.{slice_get_read}
use Rattle.asl_store.specs.Stored.{Stored}
use Rattle.asl_store.proofs.Frames.{global_within}
use Rattle.asl_store.proofs.store.Store.replace_global.Goals as goal

pub index_mut-requires : goal.index_mut-requires
index_mut-requires c =
    let inner = global_within c.self.inside c.args.self.now c.args.at c.self.view_is c.requires in
    omega (arith, inner, c.self.inside.globals.ok.0)

pub returns : goal.returns
returns c = record {
  old = c.index_mut.result.now;
  new = c.replace.new.value;
  was =
      ap (λ (s : Stored). slice_get s.globals c.args.at) (sym c.self.view_is)
      ∙ slice_get_read c.self.inside.globals.items (length c.self.inside.globals.items) c.args.at c.index_mut.result.now refl
      (global_within c.self.inside c.args.self.now c.args.at c.self.view_is c.requires) c.index_mut.ensures.value;
  now_is = ap (λ (s : Stored). record s { globals = set s.globals c.args.at c.replace.new.value }) c.self.view_is;
  changes = c.replace.ensures;
}
