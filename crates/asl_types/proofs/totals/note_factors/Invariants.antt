use Rattle.std.proofs.Common.{◌≡◌, drop}
use Rattle.asl_poly.specs.Limits.{note_factors}
use Rattle.asl_types.proofs.totals.note_factors.Given as goal

abbrev pub invariant-loop-factor : goal.invariant-loop-factor
invariant-loop-factor l = note_factors l.atoms (drop l.factor-index l.factors) ≡ note_factors l.initial.atoms l.factors
