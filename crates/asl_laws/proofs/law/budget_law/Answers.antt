use Rattle.asl_laws.proofs.budgets.MoreRuns.{call_more, words_more}
use Rattle.asl_laws.proofs.law.budget_law.Goals as goal

pub returns-clause-more_steps : goal.returns-clause-more_steps
returns-clause-more_steps c = call_more

pub returns-clause-words : goal.returns-clause-words
returns-clause-words c = words_more
