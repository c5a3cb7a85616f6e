use Rattle.std.proofs.Common.{◌≡◌, ◌++◌, drop}
use Rattle.asl_rules.specs.report.MaskTables.{digits_in}
use Rattle.asl_table.specs.private.Listed.{masks_of, AreLive}
use Rattle.asl_table.specs.Widths.{AreWide}
use Rattle.asl_table.proofs.live.table_live.Given as goal

abbrev pub invariant-loop-mask : goal.invariant-loop-mask
invariant-loop-mask l =
    (masks_of l.all.items ++ digits_in (drop l.mask-index l.masks) ≡ digits_in l.masks)
    × (AreLive l.width l.all.items × AreWide l.width (digits_in (drop l.mask-index l.masks)))
