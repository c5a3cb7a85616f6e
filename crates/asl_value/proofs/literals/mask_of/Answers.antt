use Rattle.std.proofs.Common.{◌∙◌}
use Rattle.asl_value.proofs.LiteralLemmas.{mask_read}
use Rattle.asl_value.proofs.literals.mask_of.Goals as goal

pub unreachable-requires : goal.unreachable-requires
unreachable-requires c = let made = mask_read c.args.digits.now c.as_slice.result.now c.read.result (c.as_slice.ensures ∙ c.in_ok-text.ensures) c.requires c.read.ensures in cc
