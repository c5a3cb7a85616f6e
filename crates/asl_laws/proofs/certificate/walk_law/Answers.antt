use Rattle.asl_laws.proofs.certificates.TreeLines.{read_lines}
use Rattle.asl_laws.proofs.certificates.Once.{once, stmt_walks, list_walks, body_walks}
use Rattle.asl_laws.proofs.certificate.walk_law.Goals as goal

pub returns-clause-read : goal.returns-clause-read
returns-clause-read c = read_lines

pub returns-clause-once : goal.returns-clause-once
returns-clause-once c = once

pub returns-clause-statement : goal.returns-clause-statement
returns-clause-statement c = stmt_walks

pub returns-clause-list : goal.returns-clause-list
returns-clause-list c = list_walks

pub returns-clause-body : goal.returns-clause-body
returns-clause-body c = body_walks
