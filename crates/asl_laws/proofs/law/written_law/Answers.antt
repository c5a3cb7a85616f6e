use Rattle.asl_laws.proofs.verdict.WrittenVerdicts.{both_ok, first_fault, reports_final}
use Rattle.asl_laws.proofs.law.written_law.Goals as goal

pub returns-clause-accepted : goal.returns-clause-accepted
returns-clause-accepted c = both_ok

pub returns-clause-fault : goal.returns-clause-fault
returns-clause-fault c = first_fault

pub returns-clause-reports : goal.returns-clause-reports
returns-clause-reports c = reports_final
