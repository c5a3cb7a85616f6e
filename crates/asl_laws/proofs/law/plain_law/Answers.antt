use Rattle.asl_laws.proofs.reading.Plain.{default_same, final_same, verdict_same}
use Rattle.asl_laws.proofs.law.plain_law.Goals as goal

pub returns-clause-first : goal.returns-clause-first
returns-clause-first c = default_same

pub returns-clause-last : goal.returns-clause-last
returns-clause-last c = final_same

pub returns-clause-same : goal.returns-clause-same
returns-clause-same c = verdict_same
