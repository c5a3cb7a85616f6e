use Rattle.asl_bits.proofs.InUse.{same_of}
use Rattle.asl_bits.proofs.sized.BitsOf.same.Goals as goal

pub returns : goal.returns
returns g c = same_of _ _ _ _ _ c.requires c.first.ensures.value c.first-2.ensures.value c.same.ensures
