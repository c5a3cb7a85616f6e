-- Whether the parts of a statement can be fallen through.
use Rattle.std.specs.Prelude.{Bool}
use Rattle.asl_syn.specs.declared.tree.ElseIf.{ElseIf}
use Rattle.asl_syn.specs.declared.tree.Alternative.{Alternative}
use Rattle.asl_syn.specs.declared.tree.Catcher.{Catcher}
use Rattle.asl_syn.specs.declared.tree.Otherwise.{Otherwise}
use Rattle.asl_syn.specs.declared.tree.Alternative.TheFolds.{fold-ElseIf, fold-Alternative, fold-Catcher, fold-Otherwise}
use Rattle.asl_rules.specs.statements.Falling as rules

abbrev pub branch_falls : ElseIf → Bool
branch_falls = fold-ElseIf Bool Bool Bool Bool Bool rules.alternative_falls rules.catcher_falls rules.branch_falls rules.otherwise_falls rules.falls_layer

abbrev pub alternative_falls : Alternative → Bool
alternative_falls = fold-Alternative Bool Bool Bool Bool Bool rules.alternative_falls rules.catcher_falls rules.branch_falls rules.otherwise_falls rules.falls_layer

abbrev pub catcher_falls : Catcher → Bool
catcher_falls = fold-Catcher Bool Bool Bool Bool Bool rules.alternative_falls rules.catcher_falls rules.branch_falls rules.otherwise_falls rules.falls_layer

abbrev pub otherwise_falls : Otherwise → Bool
otherwise_falls = fold-Otherwise Bool Bool Bool Bool Bool rules.alternative_falls rules.catcher_falls rules.branch_falls rules.otherwise_falls rules.falls_layer
