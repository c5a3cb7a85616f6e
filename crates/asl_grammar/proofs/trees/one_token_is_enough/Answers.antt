use Rattle.asl_grammar.proofs.grammar.Answered.{answered}
use Rattle.asl_grammar.proofs.trees.one_token_is_enough.Goals as goal

pub returns : goal.returns
returns c = answered
