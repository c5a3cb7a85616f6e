use Rattle.std.proofs.Common.{◌^◌, to_z-of_z}
use Rattle.std.specs.Int.{int_pow}
use Rattle.std.specs.Prelude.{pos, ◌*ℤ◌}
use Rattle.asl_num.specs.Exact.{floor_div, floor_mod}
use Rattle.asl_value.proofs.Integers.{divides_exactly, exact}
use Rattle.asl_run.proofs.AtOnce.{divides, raises, raises_exactly}
use Rattle.asl_run.proofs.at_once.of_integers.Goals as goal

pub returns-in-Add : goal.returns-in-Add
returns-in-Add c =
    let h = simp (to_z-of_z, c.ranges.a, c.ranges.b) at c.add.ensures in
    λ span. rw (c.in-Add.is, ← exact span _ _ h) (c.settled.ensures span)

pub returns-in-Subtract : goal.returns-in-Subtract
returns-in-Subtract c =
    let h = simp (to_z-of_z, c.ranges.a, c.ranges.b) at c.sub.ensures in
    λ span. rw (c.in-Subtract.is, ← exact span _ _ h) (c.settled-in-Subtract.ensures span)

pub returns-in-Multiply : goal.returns-in-Multiply
returns-in-Multiply c =
    let h = simp (to_z-of_z, c.ranges.a, c.ranges.b) at c.mul.ensures in
    λ span. rw (c.in-Multiply.is, ← exact span _ _ h) (c.settled-in-Multiply.ensures span)

pub returns-in-DivideExact : goal.returns-in-DivideExact
returns-in-DivideExact c =
    let h = simp (to_z-of_z, c.ranges.a, c.ranges.b) at c.div_exact.ensures in
    λ span. rw (c.in-DivideExact.is, ← divides_exactly span _ _ _ h) (c.settled-in-DivideExact.ensures span)

pub returns-in-DivideFloor : goal.returns-in-DivideFloor
returns-in-DivideFloor c =
    let h = simp (to_z-of_z, c.ranges.a, c.ranges.b) at c.div_floor.ensures in
    λ span. rw (c.in-DivideFloor.is, ← divides span _ _ (floor_div c.args.a) h) (c.settled-in-DivideFloor.ensures span)

pub returns-in-Modulo : goal.returns-in-Modulo
returns-in-Modulo c =
    let h = simp (to_z-of_z, c.ranges.a, c.ranges.b) at c.modulo.ensures in
    λ span. rw (c.in-Modulo.is, ← divides span _ _ (λ n. pos (floor_mod c.args.a n)) h) (c.settled-in-Modulo.ensures span)

pub returns-in-ShiftLeft : goal.returns-in-ShiftLeft
returns-in-ShiftLeft c =
    let h = simp (to_z-of_z, c.ranges.a, c.ranges.b) at c.shl.ensures in
    λ span. rw (c.in-ShiftLeft.is, ← raises_exactly span _ _ (λ n. c.args.a *ℤ pos (2 ^ n)) h) (c.settled-in-ShiftLeft.ensures span)

pub returns-in-ShiftRight : goal.returns-in-ShiftRight
returns-in-ShiftRight c =
    let h = simp (to_z-of_z, c.ranges.a, c.ranges.b) at c.shr.ensures in
    λ span. rw (c.in-ShiftRight.is, ← raises span _ _ (λ n. floor_div c.args.a (2 ^ n)) h) (c.settled-in-ShiftRight.ensures span)

pub returns-in-Power : goal.returns-in-Power
returns-in-Power c =
    let h = simp (to_z-of_z, c.ranges.a, c.ranges.b) at c.pow.ensures in
    λ span. rw (c.in-Power.is, ← raises_exactly span _ _ (int_pow c.args.a) h) (c.settled-in-Power.ensures span)
