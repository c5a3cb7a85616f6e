use Rattle.std.proofs.Common.{take}
use Rattle.asl_table.specs.Pairs.{AreLows}
use Rattle.asl_table.proofs.lowest.lows.Given as goal

abbrev pub invariant-loop-alternative : goal.invariant-loop-alternative
invariant-loop-alternative l = AreLows (take l.alternative-index l.masks) l.lows.items
