use Rattle.std.proofs.Common.{arith}
use Rattle.asl_bits.proofs.InUse.{difference_of, turned_first}
use Rattle.asl_bits.proofs.sized.BitsOf.sub.Goals as goal

pub returns : goal.returns
returns g c =
    difference_of _ c.words_for-count.result g.row.N _ _ _ _ _ _ _ c.width-width.ensures.value c.requires c.first-2.ensures.value c.first.ensures.value c.complement.ensures
    (turned_first _ _ _ (omega arith)) c.sum.ensures
