use Rattle.std.proofs.Common.{rules, arith, ◌≡◌, drop, ◌∷◌, ◌+◌}
use mir.Val.{SFits, to_z, of_z}
use mir.Syntax.{w128}
use Rattle.std.proofs.lemmas.Int.{to_z-of_z}
use Rattle.asl_poly.proofs.ProductLoops.{next}
use Rattle.asl_cons.proofs.Covering.{in_now, in_later, in_past}
use Rattle.asl_cons.proofs.inclusion.reach.Goals as goal

pub returns-in-Some : goal.returns-in-Some
returns-in-Some c =
    let f : SFits w128 c.in-Some.h = search rules in
    let k : SFits w128 c.args.i = search rules in
    let e : drop c.loop-q.q-index c.args.qs.now ≡ c.q-item.result ∷ drop (c.loop-q.q-index + 1) c.args.qs.now = next c.args.qs.now c.loop-q.q-index c.q-item.result (omega arith) c.q-item.is in
    let m = simp to_z-of_z at c.in-Some.ensures in
    rw (to_z-of_z w128 c.in-Some.h f) (m.0, λ j a b. c.loop-q.invariant.1 j (in_now j c.q-item.result c.args.qs.now c.loop-q.q-index e (m.1 j a b)))

pub loop-q-preserved : goal.loop-q-preserved
loop-q-preserved c =
    let k : SFits w128 c.args.i = search rules in
    let e : drop c.loop-q.q-index c.args.qs.now ≡ c.q-item.result ∷ drop (c.loop-q.q-index + 1) c.args.qs.now = next c.args.qs.now c.loop-q.q-index c.q-item.result (omega arith) c.q-item.is in (
      (λ h. in_past (to_z w128 (of_z w128 c.args.i)) c.q-item.result c.args.qs.now c.loop-q.q-index e c.in_default.ensures (c.loop-q.invariant.0 h)),
      λ j h. c.loop-q.invariant.1 j (in_later j c.q-item.result c.args.qs.now c.loop-q.q-index e h),
    )
