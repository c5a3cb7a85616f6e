use Rattle.std.proofs.Common.{arith}
use Rattle.asl_types.proofs.TotalLemmas.{abs_within, weight_next, weight_past}
use Rattle.asl_types.proofs.totals.weight_of.Goals as goal
use Rattle.asl_types.proofs.totals.weight_of.Goals.{in-Some, in-None}

pub overflow_add-total : goal.overflow_add-total
overflow_add-total c =
    let r = abs_within c.args.p.now.terms c.loop-place.place c.in-Some.coefficient c.in-Some.field-0-1.now c.loop-place.total c.unsigned_abs-total.result c.in-Some.ensures c.unsigned_abs-total.ensures.value c.loop-place.invariant c.within_limits.ensures.map.light in
    omega (arith, r.1)

pub loop-place-preserved : goal.loop-place-preserved
loop-place-preserved c = elim c.match-term.branch [
  | in-Some w ↦
      let r = abs_within c.args.p.now.terms c.loop-place.place w.in-Some.coefficient w.in-Some.field-0-1.now c.loop-place.total w.unsigned_abs-total.result w.in-Some.ensures w.unsigned_abs-total.ensures.value c.loop-place.invariant c.within_limits.ensures.map.light in
      let n = weight_next c.args.p.now.terms c.loop-place.place c.loop-place.total (record { coefficient = w.in-Some.coefficient; factors = w.in-Some.field-0-1.now }) w.in-Some.ensures c.loop-place.invariant in
      omega (arith, n, r.0, w.total-is)
  | in-None w ↦ weight_past c.args.p.now.terms c.loop-place.place c.match-term.total w.in-None.ensures (omega arith)
]
