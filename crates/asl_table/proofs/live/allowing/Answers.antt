use Rattle.std.proofs.Common.{sym, ◌∙◌, ap}
use Rattle.asl_table.proofs.Listing.{going_some, going_none}
use Rattle.asl_table.proofs.live.allowing.Goals as goal
use Rattle.asl_table.proofs.live.allowing.Goals.{in-Some+in_ok-push, in_default}

pub loop-l-preserved : goal.loop-l-preserved
loop-l-preserved c = elim c.match-half.branch [
  | in-Some+in_ok-push w ↦ going_some _ _ _ _ _ _ c.l-item.result w.in-Some.l (ap (λ v. v.items) w.allowed-is ∙ w.in_ok-push.ensures.items) c.loop-l-test.true c.l-item.is (sym w.in-Some.is ∙ c.half.ensures) c.loop-l.invariant
  | in_default w ↦ going_none _ _ _ _ _ _ c.l-item.result (ap (λ v. v.items) w.allowed-is) c.loop-l-test.true c.l-item.is (sym w.in_default.is ∙ c.half.ensures) c.loop-l.invariant
]
