use Rattle.std.proofs.Common.{List, set, ap, ◌∙◌, arith}
use Rattle.asl_value.specs.declared.value.Value.{Value}
use Rattle.asl_store.specs.Stored.{Stored}
use Rattle.asl_store.proofs.Frames.{global_within, view_of}
use Rattle.asl_store.proofs.store.Store.set_global.Goals as goal

pub put-requires : goal.put-requires
put-requires c =
    let inner = global_within c.self.inside c.args.self.now c.args.at c.self.view_is c.requires in
    omega (arith, inner, c.self.inside.globals.ok.0)

pub returns : goal.returns
returns c =
    ap (λ (xs : List Value). record (view_of c.self.inside) { globals = xs }) c.put.ensures
    ∙ ap (λ (s : Stored). record s { globals = set s.globals c.args.at c.args.value }) c.self.view_is
