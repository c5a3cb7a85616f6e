use Rattle.std.proofs.Common.{◌≡◌, ◌+◌, ◌*◌, ◌-◌, ◌∷◌, []}
use Rattle.asl_grammar.specs.declared.kinds.Kind.TheVariants as kind
use Rattle.asl_grammar.specs.grammar.Rules.{statement, block}
use Rattle.asl_parse_expr.specs.private.Code.{cursor_of, reading}
use Rattle.asl_parse_expr.proofs.Loops.{run_items}
use Rattle.asl_parse_stmt.proofs.statements.+statements.Given as goal

abbrev pub decreases-statement : goal.decreases-statement
decreases-statement l = l.depth * 3 + 1

abbrev pub decreases-block : goal.decreases-block
decreases-block l = l.depth * 3 + 2

abbrev pub decreases-if_statement : goal.decreases-if_statement
decreases-if_statement l = l.depth * 3

abbrev pub decreases-case_statement : goal.decreases-case_statement
decreases-case_statement l = l.depth * 3

abbrev pub decreases-for_statement : goal.decreases-for_statement
decreases-for_statement l = l.depth * 3

abbrev pub decreases-while_statement : goal.decreases-while_statement
decreases-while_statement l = l.depth * 3

abbrev pub decreases-repeat_statement : goal.decreases-repeat_statement
decreases-repeat_statement l = l.depth * 3

abbrev pub decreases-try_statement : goal.decreases-try_statement
decreases-try_statement l = l.depth * 3

abbrev pub invariant-block-loop-turn : goal.invariant-block-loop-turn
invariant-block-loop-turn l = reading l.depth block (cursor_of l.fn.tokens) ≡ run_items (reading l.depth statement) (kind.Pass ∷ kind.Unreachable ∷ kind.Assert ∷ kind.Let ∷ kind.Var ∷ kind.Minus ∷ kind.OpenParen ∷ kind.Return ∷ kind.Throw ∷ kind.Print ∷ kind.PrintLine ∷ kind.Name ∷ kind.Getter ∷ kind.Setter ∷ kind.If ∷ kind.Case ∷ kind.For ∷ kind.While ∷ kind.Repeat ∷ kind.Try ∷ []) (l._turn-end - l._turn) l.found (cursor_of l.tokens)
