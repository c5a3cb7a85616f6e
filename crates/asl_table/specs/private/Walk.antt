-- The `case`s in the parts of a statement.
use Rattle.asl_syn.specs.declared.read.ReadAlternative.{ReadAlternative}
use Rattle.asl_syn.specs.declared.read.ReadElseIf.{ReadElseIf}
use Rattle.asl_syn.specs.declared.read.ReadCatcher.{ReadCatcher}
use Rattle.asl_syn.specs.declared.read.ReadOtherwise.{ReadOtherwise}
use Rattle.asl_syn.specs.declared.read.ReadAlternative.TheFolds.{fold-ReadAlternative, fold-ReadCatcher, fold-ReadElseIf, fold-ReadOtherwise}
use Rattle.asl_rules.specs.report.MaskTables.{Choice, Cases}
use Rattle.asl_rules.specs.report.MaskTables as rules

abbrev pub choice_of : ReadAlternative → Choice
choice_of = fold-ReadAlternative Choice Cases Cases Cases Cases rules.alternative_choice rules.catcher_cases rules.else_if_cases rules.otherwise_cases rules.stmt_cases

-- those in the list of an alternative
abbrev pub inside : ReadAlternative → Cases
inside x = (choice_of x).inside

abbrev pub catcher_cases : ReadCatcher → Cases
catcher_cases = fold-ReadCatcher Choice Cases Cases Cases Cases rules.alternative_choice rules.catcher_cases rules.else_if_cases rules.otherwise_cases rules.stmt_cases

abbrev pub else_if_cases : ReadElseIf → Cases
else_if_cases = fold-ReadElseIf Choice Cases Cases Cases Cases rules.alternative_choice rules.catcher_cases rules.else_if_cases rules.otherwise_cases rules.stmt_cases

abbrev pub otherwise_cases : ReadOtherwise → Cases
otherwise_cases = fold-ReadOtherwise Choice Cases Cases Cases Cases rules.alternative_choice rules.catcher_cases rules.else_if_cases rules.otherwise_cases rules.stmt_cases
