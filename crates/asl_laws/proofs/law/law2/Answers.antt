use Rattle.asl_laws.proofs.verdict.OneReport.{one_report}
use Rattle.asl_laws.proofs.verdict.OneVerdict.{right_tests, one_answer}
use Rattle.asl_laws.proofs.evaluations.NeverStuck.{read_evaluates}
use Rattle.asl_laws.proofs.evaluations.FaultCauses.{read_cause}
use Rattle.asl_laws.proofs.evaluations.FaultCodes.{read_code}
use Rattle.asl_laws.proofs.reading.Codes.{reading_code}
use Rattle.asl_laws.proofs.reading.Trees.{fault_lies}
use Rattle.asl_laws.proofs.law.law2.Goals as goal

pub returns-clause-tests : goal.returns-clause-tests
returns-clause-tests c = right_tests

pub returns-clause-one : goal.returns-clause-one
returns-clause-one c = one_answer

pub returns-clause-within : goal.returns-clause-within
returns-clause-within c = fault_lies

pub returns-clause-evaluates : goal.returns-clause-evaluates
returns-clause-evaluates c = read_evaluates

pub returns-clause-cause : goal.returns-clause-cause
returns-clause-cause c = read_cause

pub returns-clause-reading_codes : goal.returns-clause-reading_codes
returns-clause-reading_codes c = reading_code

pub returns-clause-codes : goal.returns-clause-codes
returns-clause-codes c = read_code

pub returns-clause-report : goal.returns-clause-report
returns-clause-report c = one_report
