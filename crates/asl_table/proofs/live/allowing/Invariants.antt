use Rattle.std.proofs.Common.{◌≡◌, ◌++◌, suc, drop}
use Rattle.asl_mask.specs.Covers as rules
use Rattle.asl_table.specs.private.Listed.{masks_of, AreLive}
use Rattle.asl_table.proofs.live.allowing.Given as goal

abbrev pub invariant-loop-l : goal.invariant-loop-l
invariant-loop-l l = (masks_of l.allowed.items ++ rules.allowing l.place l.bit (masks_of (drop l.l-index l.live)) ≡ rules.allowing l.place l.bit (masks_of l.live))
    × (AreLive l.place l.allowed.items × AreLive (suc l.place) (drop l.l-index l.live))
