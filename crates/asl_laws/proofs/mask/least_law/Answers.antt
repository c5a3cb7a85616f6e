use Rattle.asl_laws.specs.Masks.{both_match}
use Rattle.asl_laws.proofs.masks.LeastWords.{least_word, no_word, free_is_least, total_is_all, budget_is_passed}
use Rattle.asl_laws.proofs.mask.least_law.Goals as goal

pub returns-clause-least : goal.returns-clause-least
returns-clause-least c = least_word

pub returns-clause-none : goal.returns-clause-none
returns-clause-none c = no_word

pub returns-clause-overlap : goal.returns-clause-overlap
returns-clause-overlap c w m n v = least_word w (both_match m n) v

pub returns-clause-apart : goal.returns-clause-apart
returns-clause-apart c w m n = no_word w (both_match m n)

pub returns-clause-free : goal.returns-clause-free
returns-clause-free c = free_is_least

pub returns-clause-total : goal.returns-clause-total
returns-clause-total c = total_is_all

pub returns-clause-budget : goal.returns-clause-budget
returns-clause-budget c = budget_is_passed
