use Rattle.std.proofs.Common.{◌≡◌, drop}
use Rattle.asl_poly.specs.Limits.{has_atom}
use Rattle.asl_types.proofs.totals.is_noted.Given as goal

abbrev pub invariant-loop-other : goal.invariant-loop-other
invariant-loop-other l = has_atom l.fn.atom (drop l.other-index l.atoms) ≡ has_atom l.fn.atom l.atoms
