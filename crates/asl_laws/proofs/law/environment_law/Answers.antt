use Rattle.asl_laws.proofs.described.Environments.{read_described}
use Rattle.asl_laws.proofs.law.environment_law.Goals as goal

pub returns : goal.returns
returns c = record { described = read_described }
