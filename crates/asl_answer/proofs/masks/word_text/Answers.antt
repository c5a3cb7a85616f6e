use Rattle.std.proofs.Common.{◌≡◌, ◌∙◌, ◌-◌, ◌+◌, ◌++◌, Some, length, take, codes, string_bytes, ap, subst, arith}
use Rattle.std.specs.Prelude.{slice_get}
use Rattle.asl_answer.proofs.MaskLines.{digits_of, one_digit}
use Rattle.asl_answer.proofs.masks.word_text.Goals as goal

pub loop-i-preserved : goal.loop-i-preserved
loop-i-preserved c =
    let bs = c.args.word.now in
    let wide = c.width-width.ensures.value in
    ap (λ t. t ++ digits_of (take (length bs - (c.loop-i.i + 1)) bs)) c.in_ok-push_digit.ensures
    ∙ one_digit (codes "'" ++ digits_of bs) (string_bytes c.loop-i.text) bs c.loop-i.i c.bit.result (omega (arith, c.loop-i-test.true, wide))
    (subst (λ n. slice_get bs (n - 1 - c.loop-i.i) ≡ Some c.bit.result) wide c.bit.ensures) c.loop-i.invariant
