use Rattle.asl_grammar.specs.grammar.Rules.{Sym, Val, rule, after, Program}
use Rattle.asl_grammar.proofs.grammar.Shorter.{shorter_goes}
use Rattle.asl_grammar.proofs.grammar.Checked.{each, covered}
use Rattle.asl_grammar.proofs.trees.fronts_of_fronts.Goals as goal

pub returns : goal.returns
returns c = λ levels front more g. shorter_goes Sym Val rule after each covered Program levels front more g
