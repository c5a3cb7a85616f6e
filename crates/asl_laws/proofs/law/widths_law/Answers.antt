use Rattle.asl_laws.proofs.widths.SameByWorth.{has_worth, test_is_worth, has_integers}
use Rattle.asl_laws.proofs.widths.NumbersWorth.{number_is_worth}
use Rattle.asl_rules.proofs.widths.ScopesCounted.{names_counted}
use Rattle.asl_laws.proofs.widths.Asking.{head_asks, stmt_says, index_asks, caught_asks}
use Rattle.asl_laws.proofs.law.widths_law.Goals as goal

pub returns-clause-worth : goal.returns-clause-worth
returns-clause-worth c = has_worth

pub returns-clause-number : goal.returns-clause-number
returns-clause-number c = λ t e G n a h o. number_is_worth t e G a o n h

pub returns-clause-same : goal.returns-clause-same
returns-clause-same c = test_is_worth

pub returns-clause-integers : goal.returns-clause-integers
returns-clause-integers c = has_integers

pub returns-clause-outside : goal.returns-clause-outside
returns-clause-outside c = names_counted

pub returns-clause-heads : goal.returns-clause-heads
returns-clause-heads c = head_asks

pub returns-clause-statements : goal.returns-clause-statements
returns-clause-statements c = stmt_says

pub returns-clause-indices : goal.returns-clause-indices
returns-clause-indices c = index_asks

pub returns-clause-catchers : goal.returns-clause-catchers
returns-clause-catchers c = caught_asks
