use Rattle.std.proofs.Common.{ℕ, ◌+◌, ap, arith}
use Rattle.std.proofs.lemmas.List.{length-take, length-replicate}
use Rattle.asl_bits.proofs.InUse.{join_room}
use Rattle.asl_bits.proofs.sized.joined.Goals as goal

pub join-requires-clause-room : goal.join-requires-clause-room
join-requires-clause-room g c =
    join_room _ _ _ _ _ _ _ c.width-by.ensures.value (ap (λ (n : ℕ). c.width-by.result + n) c.width.ensures.value) c.in_use-2.ensures.value c.in_use.ensures.value
    (omega (arith, length-take {A = ℕ}, length-replicate {A = ℕ}, c.words_for-count.ensures.room))
