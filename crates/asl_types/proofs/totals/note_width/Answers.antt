use Rattle.std.proofs.Common.{arith, ◌∙◌}
use Rattle.asl_poly.specs.Limits.{note_terms}
use Rattle.asl_types.proofs.TotalLemmas.{noted_next, noted_past}
use Rattle.asl_types.proofs.totals.note_width.Goals as goal
use Rattle.asl_types.proofs.totals.note_width.Goals.{in-Some+in_ok-note_factors-in-Some, in-None}

pub loop-place-preserved : goal.loop-place-preserved
loop-place-preserved c = elim c.match-term.branch [
  | in-Some+in_ok-note_factors-in-Some w ↦
      noted_next c.args.p.now.terms c.loop-place.place (record { coefficient = w.in-Some.field-0-0; factors = w.in-Some.factors.now }) c.loop-place.atoms c.match-term.atoms (note_terms c.args.atoms.now c.args.p.now.terms)
      w.in-Some.ensures (w.atoms-is ∙ w.in_ok-note_factors-in-Some.ensures) c.loop-place.invariant
  | in-None w ↦ noted_past c.args.p.now.terms c.loop-place.place c.match-term.atoms (note_terms c.args.atoms.now c.args.p.now.terms) w.in-None.ensures (omega arith)
]
