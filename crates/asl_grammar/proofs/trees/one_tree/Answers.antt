use Rattle.asl_grammar.specs.grammar.Rules.{Sym, Val, rule, after, Program}
use Rattle.asl_grammar.proofs.grammar.Symbols.{one_tree}
use Rattle.asl_grammar.proofs.grammar.Checked.{each, covered}
use Rattle.asl_grammar.proofs.trees.one_tree.Goals as goal

pub returns : goal.returns
returns c = λ levels ts v w. one_tree Sym Val rule after each covered Program levels ts v w
