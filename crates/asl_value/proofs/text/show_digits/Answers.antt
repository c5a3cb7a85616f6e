use Rattle.std.proofs.Common.{◌≡◌, ◌-◌, Some, arith, subst}
use Rattle.std.specs.Prelude.{slice_get}
use Rattle.asl_io.proofs.ToldLemmas.{OnErr-anyway}
use Rattle.asl_value.proofs.Digits.{digit_cut}
use Rattle.asl_value.proofs.text.show_digits.Goals as goal

pub returns-in_err-show_digit-clause-prefix : goal.returns-in_err-show_digit-clause-prefix
returns-in_err-show_digit-clause-prefix g c =
    OnErr-anyway _ _ (digit_cut _ _ _ c.args.bits.now c.loop-i.i c.bit.result (omega arith) (subst (λ n. slice_get c.args.bits.now (n - 1 - c.loop-i.i) ≡ Some c.bit.result) c.width-width.ensures.value c.bit.ensures) c.loop-i.invariant.front c.in_err-show_digit.ensures.prefix)
