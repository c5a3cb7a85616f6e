-- The operators that kinds of tokens are.
-- Written by tools/grammar/generate.py from tools/grammar/table.py.
use Rattle.asl_syn.specs.declared.tree.UnaryOperator.{UnaryOperator}
use Rattle.asl_syn.specs.declared.tree.UnaryOperator.TheVariants as un
use Rattle.asl_syn.specs.declared.tree.BinaryOperator.{BinaryOperator}
use Rattle.asl_syn.specs.declared.tree.BinaryOperator.TheVariants as bin
use Rattle.std.specs.Prelude.{[], ◌∷◌}
use Rattle.asl_grammar.specs.declared.kinds.Kind.{Kind}
use Rattle.asl_grammar.specs.declared.kinds.Kind.TheVariants as kind
use Rattle.asl_grammar.specs.grammar.Cursor.{Kinds}

-- the kinds that are an operator before its operand
abbrev pub unary_kinds : Kinds
unary_kinds = kind.Minus ∷ kind.Bang ∷ kind.Not ∷ []

-- the operator before its operand that one of these kinds is; no rule asks it of another
abbrev pub unary_of : Kind → UnaryOperator
unary_of kind.Minus = un.Negate
unary_of kind.Bang = un.Not
unary_of _ = un.Complement

-- the kinds that are an operator between its operands
abbrev pub binary_kinds : Kinds
binary_kinds = kind.AndAnd ∷ kind.OrOr ∷ kind.Implies ∷ kind.Iff ∷ kind.Equal ∷ kind.NotEqual ∷ kind.Less ∷ kind.LessEqual ∷ kind.Greater ∷ kind.GreaterEqual ∷ kind.Plus ∷ kind.Minus ∷ kind.BitAnd ∷ kind.BitOr ∷ kind.BitXor ∷ kind.ColonColon ∷ kind.Star ∷ kind.Div ∷ kind.DivRm ∷ kind.Mod ∷ kind.ShiftLeft ∷ kind.ShiftRight ∷ kind.Caret ∷ []

-- the operator between its operands that one of these kinds is; no rule asks it of another
abbrev pub binary_of : Kind → BinaryOperator
binary_of kind.AndAnd = bin.LogicalAnd
binary_of kind.OrOr = bin.LogicalOr
binary_of kind.Implies = bin.Implies
binary_of kind.Iff = bin.Equivalent
binary_of kind.Equal = bin.Equal
binary_of kind.NotEqual = bin.NotEqual
binary_of kind.Less = bin.Less
binary_of kind.LessEqual = bin.LessEqual
binary_of kind.Greater = bin.Greater
binary_of kind.GreaterEqual = bin.GreaterEqual
binary_of kind.Plus = bin.Add
binary_of kind.Minus = bin.Subtract
binary_of kind.BitAnd = bin.BitAnd
binary_of kind.BitOr = bin.BitOr
binary_of kind.BitXor = bin.BitXor
binary_of kind.ColonColon = bin.Concatenate
binary_of kind.Star = bin.Multiply
binary_of kind.Div = bin.DivideExact
binary_of kind.DivRm = bin.DivideFloor
binary_of kind.Mod = bin.Modulo
binary_of kind.ShiftLeft = bin.ShiftLeft
binary_of kind.ShiftRight = bin.ShiftRight
binary_of _ = bin.Power
