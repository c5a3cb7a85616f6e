use Rattle.asl_mask.proofs.Reading.{Reading}
use Rattle.asl_mask.proofs.MaskOf+WORDS.read.Given as goal

abbrev pub invariant-loop-i : goal.invariant-loop-i
invariant-loop-i l = Reading l.text l.i l.state l.mask l.wide
