use Rattle.std.proofs.Common.{◌≡◌, ◌+◌, drop}
use Rattle.asl_poly.specs.Limits.{weight}
use Rattle.asl_types.proofs.totals.weight_of.Given as goal

abbrev pub invariant-loop-place : goal.invariant-loop-place
invariant-loop-place l = l.total + weight (drop l.place l.p.terms) ≡ weight l.p.terms
