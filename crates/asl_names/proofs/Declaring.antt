-- What the table of names takes.
use Rattle.std.proofs.Common.{◌≡◌, [], ◌∷◌, ◌++◌, refl}
use Rattle.asl_names.specs.private.Firsts.{Places, kept}
use Rattle.asl_names.specs.private.Graphs.{all_kept}

pub kept_both : (ps qs table : Places) → all_kept (ps ++ qs) table ≡ all_kept qs (all_kept ps table)
kept_both [] qs table = refl
kept_both (p ∷ ps) qs table = kept_both ps qs (kept p.0 p.1 table)
