-- A kind that is an operator between operands is one of these: each is struck off, and none is left.
use Rattle.asl_grammar.specs.grammar.Operators.{binary_kinds}
use Rattle.asl_grammar.proofs.grammar.Basics.{none_among}
use Rattle.asl_grammar.proofs.operators.binary_of.Goals as goal

-- src/operators.rt:53:14
pub unreachable-requires : goal.unreachable-requires
unreachable-requires c =
    let n = c.in_default in
    none_among binary_kinds c.args.kind
    (n.not-AndAnd, (n.not-OrOr, (n.not-Implies, (n.not-Iff, (n.not-Equal, (n.not-NotEqual, (n.not-Less, (n.not-LessEqual, (n.not-Greater, (n.not-GreaterEqual, (n.not-Plus, (n.not-Minus, (n.not-BitAnd, (n.not-BitOr, (n.not-BitXor, (n.not-ColonColon, (n.not-Star, (n.not-Div, (n.not-DivRm, (n.not-Mod, (n.not-ShiftLeft, (n.not-ShiftRight, (n.not-Caret, tt)))))))))))))))))))))))
    c.requires
