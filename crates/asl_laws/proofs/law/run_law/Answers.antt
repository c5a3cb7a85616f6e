use Rattle.asl_laws.proofs.reported.Reports.{reports_run_well}
use Rattle.asl_laws.proofs.law.run_law.Goals as goal

pub returns : goal.returns
returns c = record { never_stuck = reports_run_well }
