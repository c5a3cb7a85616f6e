use Rattle.asl_table.specs.Pairs.{mask_at}
use Rattle.asl_table.proofs.Pairing.{Passed}
use Rattle.asl_table.proofs.pairs.next_overlap.Given as goal

abbrev pub invariant-loop-j : goal.invariant-loop-j
invariant-loop-j l = Passed (mask_at l.masks l.i) l.masks l.from l.j
