use Rattle.asl_laws.proofs.reading.MadeNames.{none_made, made_apart}
use Rattle.asl_laws.proofs.law.made_law.Goals as goal

pub returns-clause-unwritten : goal.returns-clause-unwritten
returns-clause-unwritten c = none_made

pub returns-clause-apart : goal.returns-clause-apart
returns-clause-apart c = made_apart
