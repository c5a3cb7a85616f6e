use Rattle.std.proofs.Common.{◌≡◌, ◌++◌, drop}
use Rattle.asl_table.specs.private.Listed.{masks_of, AreLive}
use Rattle.asl_table.specs.Widths.{AreWide}
use Rattle.asl_table.proofs.live.all_live.Given as goal

abbrev pub invariant-loop-mask : goal.invariant-loop-mask
invariant-loop-mask l = (masks_of l.all.items ++ drop l.mask-index l.masks ≡ l.masks) × (AreLive l.width l.all.items × AreWide l.width (drop l.mask-index l.masks))
