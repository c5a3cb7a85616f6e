use Rattle.asl_io.proofs.ToldLemmas.{TakesPrefix-after, TakesPrefix-more, OnErr-anyway}
use Rattle.asl_value.proofs.Fronts.{prefix_after}
use Rattle.asl_value.proofs.text.show_bits.Goals as goal

pub returns-in_err-put_all-clause-prefix : goal.returns-in_err-put_all-clause-prefix
returns-in_err-put_all-clause-prefix g c = OnErr-anyway _ _ (TakesPrefix-more _ _ _ _ c.in_err-put_all.ensures.prefix)

pub returns-in_err-show_digits-clause-prefix : goal.returns-in_err-show_digits-clause-prefix
returns-in_err-show_digits-clause-prefix g c = OnErr-anyway _ _ (TakesPrefix-after _ _ _ _ _ c.in_ok-put_all.ensures.all (TakesPrefix-more _ _ _ _ c.in_err-show_digits.ensures.prefix))

pub returns-clause-prefix : goal.returns-clause-prefix
returns-clause-prefix g c = prefix_after _ _ _ _ _ _ c.in_ok-put_all.ensures.all (prefix_after _ _ _ _ _ _ c.in_ok-show_digits.ensures.all c.put_all-2.ensures.prefix)
