use Rattle.asl_grammar.proofs.OneProgram.{one_answer, some_reader}
use Rattle.asl_grammar.proofs.trees.one_program.Goals as goal

pub returns-clause-one : goal.returns-clause-one
returns-clause-one c = one_answer

pub returns-clause-some : goal.returns-clause-some
returns-clause-some c = some_reader
