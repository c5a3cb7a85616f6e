use Rattle.asl_grammar.proofs.lexemes.Faults.{fault_stands, first_fault_placed}
use Rattle.asl_grammar.proofs.reading.faults_stand.Goals as goal

pub returns : goal.returns
returns c = record { file = fault_stands; files = first_fault_placed }
