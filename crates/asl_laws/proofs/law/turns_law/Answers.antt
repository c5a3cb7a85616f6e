use Rattle.asl_laws.proofs.names.Settled.{stays_judged, all_turns, settled, all_well, only}
use Rattle.asl_laws.proofs.law.turns_law.Goals as goal

pub returns-clause-still : goal.returns-clause-still
returns-clause-still c = stays_judged

pub returns-clause-ends : goal.returns-clause-ends
returns-clause-ends c = all_turns

pub returns-clause-settled : goal.returns-clause-settled
returns-clause-settled c = settled

pub returns-clause-only : goal.returns-clause-only
returns-clause-only c = only

pub returns-clause-well : goal.returns-clause-well
returns-clause-well c = all_well
