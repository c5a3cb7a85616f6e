use Rattle.std.proofs.Common.{◌≡◌, drop}
use Rattle.asl_value.proofs.SlicesRead.{behind, placed}
use Rattle.asl_value.proofs.cuts.places_of.Given as goal

-- those that were tested stand in front of those left
abbrev pub invariant-loop-wide : goal.invariant-loop-wide
invariant-loop-wide l = placed l.span l.top l.wides ≡ behind (λ p. p) l.made (placed l.span l.top (drop l.wide-index l.wides))
