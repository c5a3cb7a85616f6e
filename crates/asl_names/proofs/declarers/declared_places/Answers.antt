use Rattle.std.proofs.Common.{◌+◌, drop, sym, ap, ◌∙◌, arith}
use Rattle.asl_names.specs.private.Graphs.{named_at, plain_names, all_places, all_kept}
use Rattle.asl_names.proofs.Declaring.{kept_both}
use Rattle.asl_names.proofs.Rest.{at_next}
use Rattle.asl_names.proofs.declarers.declared_places.Goals as goal

pub loop-place-preserved : goal.loop-place-preserved
loop-place-preserved c =
    let i = c.loop-place.place in
    let xs = c.args.decls.now in
    let d = c.index-decls-place.result in
    let rest = all_places (i + 1) (drop (i + 1) xs) in
    ap (all_kept rest) c.in_ok-keep_decl.ensures
    ∙ sym (kept_both (named_at i (plain_names d)) rest c.loop-place.table)
    ∙ ap (λ l. all_kept (all_places i l) c.loop-place.table) (sym (at_next xs i d (omega arith) c.index-decls-place.is))
    ∙ c.loop-place.invariant
