use Rattle.asl_grammar.proofs.grammar.OneFault.{one_syntax_fault, no_tree_where_fault}
use Rattle.asl_grammar.proofs.grammar.Ends.{tree_or_fault}
use Rattle.asl_grammar.proofs.trees.one_syntax_fault.Goals as goal

pub returns-clause-one : goal.returns-clause-one
returns-clause-one c = one_syntax_fault

pub returns-clause-no_tree : goal.returns-clause-no_tree
returns-clause-no_tree c = no_tree_where_fault

pub returns-clause-some : goal.returns-clause-some
returns-clause-some c = tree_or_fault
