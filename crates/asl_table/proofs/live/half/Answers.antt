use Rattle.std.proofs.Common.{◌∙◌, ap}
use Rattle.std.specs.Prelude.{Some}
use Rattle.asl_table.proofs.Halving.{half_above, half_taken, half_dropped, not_free}
use Rattle.asl_table.proofs.live.half.Goals as goal

pub returns-then-l-place : goal.returns-then-l-place
returns-then-l-place c = half_above _ _ _ c.requires c.if-l-place.true

pub returns-in-None : goal.returns-in-None
returns-in-None c = absurd (not_free c.args.place c.args.l c.requires c.if-l-place.false (c.digit.ensures ∙ ap Some c.in-None.is))

pub returns-then-digit-bit : goal.returns-then-digit-bit
returns-then-digit-bit c =
    half_taken c.args.place c.args.bit c.in-Some.digit c.args.l _ (c.digit.ensures ∙ ap Some c.in-Some.is) c.if-digit-bit.true (ap (λ t. record c.args.l { top = t }) c.top_of.ensures)

pub returns-else-digit-bit : goal.returns-else-digit-bit
returns-else-digit-bit c = half_dropped c.args.place c.args.bit c.in-Some.digit c.args.l (c.digit.ensures ∙ ap Some c.in-Some.is) c.if-digit-bit.false
