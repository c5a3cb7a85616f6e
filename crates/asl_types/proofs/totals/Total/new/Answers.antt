use Rattle.std.proofs.Common.{refl}
use Rattle.asl_types.proofs.TotalLemmas.{nothing}
use Rattle.asl_types.proofs.totals.Total.new.Goals as goal

pub returns : goal.returns
returns c = nothing _ c.in_ok-constant_width.ensures refl refl c.new.ensures
