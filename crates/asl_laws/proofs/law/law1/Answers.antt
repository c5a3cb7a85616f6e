use Rattle.asl_laws.proofs.constants.KnownStart.{starts}
use Rattle.asl_laws.proofs.runs.OneOutcome.{one_run}
use Rattle.asl_laws.proofs.law.law1.Goals as goal

pub returns-clause-one : goal.returns-clause-one
returns-clause-one c = one_run

pub returns-clause-start : goal.returns-clause-start
returns-clause-start c = starts
