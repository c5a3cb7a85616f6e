use Rattle.std.proofs.Common.{◌≡◌, false, not, subst}
use Rattle.asl_accessors.specs.Judged.{Both, final_of}
use Rattle.asl_accessors.proofs.OthersInPlace.{none_without_holes}
use Rattle.asl_accessors.proofs.programs.Replacing.replaces.Goals as goal

pub returns : goal.returns
returns c =
    subst (λ (b : Both). not c.is_empty.result ≡ false → final_of b ≡ b.defaults) c.self.view_is
    (none_without_holes c.self.inside.decls c.self.inside.holes c.self.inside.placed.items c.is_empty.result c.is_empty.ensures)
