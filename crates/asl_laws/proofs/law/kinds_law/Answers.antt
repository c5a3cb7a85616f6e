use Rattle.asl_laws.proofs.scopes.FormedScopes.{types_formed, keeps_formed}
use Rattle.asl_laws.proofs.soundness.AgreeingTypes.{read_agree}
use Rattle.asl_laws.proofs.soundness.Soundness.{read_declared}
use Rattle.asl_laws.proofs.law.kinds_law.Goals as goal

pub returns-clause-declared : goal.returns-clause-declared
returns-clause-declared c = read_declared

pub returns-clause-agree : goal.returns-clause-agree
returns-clause-agree c = read_agree

pub returns-clause-types : goal.returns-clause-types
returns-clause-types c = types_formed

pub returns-clause-kept : goal.returns-clause-kept
returns-clause-kept c = keeps_formed
