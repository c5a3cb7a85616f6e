use Rattle.asl_laws.proofs.placeless.Placeless.{judged_same}
use Rattle.asl_laws.proofs.scopes.ScopeRules.{outside_rules, bodies_begin, types_own, statements_keep, indices_keep, catchers_keep}
use Rattle.asl_laws.proofs.law.scopes_law.Goals as goal

pub returns-clause-outside : goal.returns-clause-outside
returns-clause-outside c = outside_rules

pub returns-clause-heads : goal.returns-clause-heads
returns-clause-heads c = bodies_begin

pub returns-clause-types : goal.returns-clause-types
returns-clause-types c = types_own

pub returns-clause-statements : goal.returns-clause-statements
returns-clause-statements c = statements_keep

pub returns-clause-indices : goal.returns-clause-indices
returns-clause-indices c = indices_keep

pub returns-clause-catchers : goal.returns-clause-catchers
returns-clause-catchers c = catchers_keep

pub returns-clause-places : goal.returns-clause-places
returns-clause-places c = judged_same
