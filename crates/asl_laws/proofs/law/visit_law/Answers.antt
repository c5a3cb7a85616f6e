use Rattle.asl_laws.proofs.visited.VisitedNodes.{read_same}
use Rattle.asl_laws.proofs.law.visit_law.Goals as goal

pub returns : goal.returns
returns c = record { same = read_same }
