use Rattle.std.proofs.Common.{◌≡◌, drop}
use Rattle.asl_poly.specs.Limits.{note_terms}
use Rattle.asl_types.proofs.totals.note_width.Given as goal

abbrev pub invariant-loop-place : goal.invariant-loop-place
invariant-loop-place l = note_terms l.atoms (drop l.place l.p.terms) ≡ note_terms l.initial.atoms l.p.terms
