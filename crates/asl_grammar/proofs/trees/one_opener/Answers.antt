use Rattle.asl_grammar.proofs.grammar.Answered.{one_opener_is}
use Rattle.asl_grammar.proofs.trees.one_opener.Goals as goal

pub returns : goal.returns
returns c = one_opener_is
