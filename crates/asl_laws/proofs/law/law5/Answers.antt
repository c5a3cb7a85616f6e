use Rattle.asl_laws.proofs.wider.Reports.{derivation_stays, run_stays, words_stay, report_same}
use Rattle.asl_laws.proofs.law.law5.Goals as goal

pub returns-clause-derivation : goal.returns-clause-derivation
returns-clause-derivation c = derivation_stays

pub returns-clause-run : goal.returns-clause-run
returns-clause-run c = run_stays

pub returns-clause-words : goal.returns-clause-words
returns-clause-words c = words_stay

pub returns-clause-report : goal.returns-clause-report
returns-clause-report c = report_same
