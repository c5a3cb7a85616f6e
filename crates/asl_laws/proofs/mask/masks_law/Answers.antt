use Rattle.asl_laws.proofs.masks.Tables.{each_even, each_within, none_left_out, each_wide}
use Rattle.asl_laws.proofs.mask.masks_law.Goals as goal

pub returns-clause-one_width : goal.returns-clause-one_width
returns-clause-one_width c = each_even

pub returns-clause-within : goal.returns-clause-within
returns-clause-within c = each_within

pub returns-clause-none_left_out : goal.returns-clause-none_left_out
returns-clause-none_left_out c = none_left_out

pub returns-clause-as_wide : goal.returns-clause-as_wide
returns-clause-as_wide c = each_wide
