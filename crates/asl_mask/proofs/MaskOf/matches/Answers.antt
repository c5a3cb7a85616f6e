use Rattle.std.proofs.Common.{length, ap, arith}
use Rattle.asl_mask.proofs.Places.{matches_is, width_masked, length-both}
use Rattle.asl_mask.proofs.MaskOf.matches.Goals as goal

pub same-requires : goal.same-requires
same-requires g c =
    let w = width_masked _ _ _ c.self.view_is c.self.invariant.0 in
    omega (arith, ap length c.and.ensures, length-both c.args.word.now c.self.inside.fixed (omega (arith, c.requires, w)), c.requires, c.self.invariant.0, w)

pub returns : goal.returns
returns g c =
    matches_is _ _ _ _ _ _ c.self.view_is c.self.invariant.0 c.self.invariant.1 c.requires c.and.ensures c.same.ensures
