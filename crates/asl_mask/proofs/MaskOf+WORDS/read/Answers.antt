use Rattle.std.proofs.Common.{refl, sym, ◌∙◌}
use Rattle.asl_mask.proofs.Reading.{reading_bad, reading_more, reading_open, reading_wide, reading_done}
use Rattle.asl_mask.proofs.MaskOf+WORDS.read.Goals as goal

pub returns-in_default : goal.returns-in_default
returns-in_default c =
    reading_bad _ _ _ _ _ _ c.loop-i-test.true refl (sym c.content_step.ensures ∙ c.in_default.is) c.loop-i.invariant

pub loop-i-preserved : goal.loop-i-preserved
loop-i-preserved c =
    reading_more _ _ _ _ _ _ _ _ _ _ c.digit.ensures c.loop-i-test.true refl (sym c.content_step.ensures ∙ c.in-Some.is) c.extended.ensures c.loop-i.invariant

pub returns-in_default-state : goal.returns-in_default-state
returns-in_default-state c =
    reading_open _ _ _ _ _ _ c.loop-i-test.false c.loop-i.auto.i-end refl c.in_default-state.not-Bits c.loop-i.invariant

pub returns-then-wide : goal.returns-then-wide
returns-then-wide c = reading_wide _ _ _ _ _ c.loop-i-test.false c.in-Bits.is c.if-wide.true c.loop-i.invariant

pub returns : goal.returns
returns c = reading_done _ _ _ _ _ c.loop-i-test.false c.in-Bits.is c.if-wide.false c.loop-i.invariant
