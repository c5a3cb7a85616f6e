-- Arithmetic in expressions: the forms that stand for numbers, read once, and what they are worth over any kind of number, be it the fractions of a run
-- or polynomials.
use Rattle.std.specs.Prelude.{ℕ, zero, suc, List, Option, Some, None, option_and_then, option_map}
use Rattle.asl_syn.specs.declared.tree.Expr.{Expr}
use Rattle.asl_syn.specs.declared.tree.UnaryOperator.{UnaryOperator}
use Rattle.asl_syn.specs.declared.tree.UnaryOperator.TheVariants as unary
use Rattle.asl_syn.specs.declared.tree.BinaryOperator.{BinaryOperator}
use Rattle.asl_syn.specs.declared.tree.BinaryOperator.TheVariants as binary
use Rattle.asl_syn.specs.declared.tree.Bitfield.TheOpen as ex
use Rattle.asl_syn.specs.declared.tree.Bitfield.TheFolds.{fold-Expr}
use Rattle.asl_rules.specs.declared.joining.Combination.{Combination}
use Rattle.asl_rules.specs.declared.joining.Combination.TheVariants.{Sum, Difference, Product}
use Rattle.asl_rules.specs.declared.joining.Joining.{Joining}
use Rattle.asl_rules.specs.declared.joining.Joining.TheVariants.{Combines, Divides, JoinsNothing}

-- ---- what an expression is as arithmetic

-- the operator that combines so
abbrev pub operator : Combination → BinaryOperator
operator Sum = binary.Add
operator Difference = binary.Subtract
operator Product = binary.Multiply

-- what an operator does in a width
abbrev pub joining : BinaryOperator → Joining
joining binary.LogicalAnd = JoinsNothing
joining binary.LogicalOr = JoinsNothing
joining binary.Implies = JoinsNothing
joining binary.Equivalent = JoinsNothing
joining binary.Equal = JoinsNothing
joining binary.NotEqual = JoinsNothing
joining binary.Less = JoinsNothing
joining binary.LessEqual = JoinsNothing
joining binary.Greater = JoinsNothing
joining binary.GreaterEqual = JoinsNothing
joining binary.Add = Combines Sum
joining binary.Subtract = Combines Difference
joining binary.BitAnd = JoinsNothing
joining binary.BitOr = JoinsNothing
joining binary.BitXor = JoinsNothing
joining binary.Concatenate = JoinsNothing
joining binary.Multiply = Combines Product
joining binary.DivideExact = Divides
joining binary.DivideFloor = JoinsNothing
joining binary.Modulo = JoinsNothing
joining binary.ShiftLeft = JoinsNothing
joining binary.ShiftRight = JoinsNothing
joining binary.Power = JoinsNothing

-- over its parts; a division is by a number that is written
pub data Reading (E : Type 0) : Type 0 where
  literal : ℕ → Reading E
  named : List ℕ → Reading E
  negated : E → Reading E
  combined : Combination → E → E → Reading E
  divided : E → E → Reading E
  no_arithmetic : Reading E

abbrev pub reading_of_one : {E : Type 0} → UnaryOperator → E → Reading E
reading_of_one unary.Negate a = negated a
reading_of_one unary.Not a = no_arithmetic
reading_of_one unary.Complement a = no_arithmetic

abbrev pub reading_of_two : {E : Type 0} → Joining → E → E → Reading E
reading_of_two (Combines o) a b = combined o a b
reading_of_two Divides a b = divided a b
reading_of_two JoinsNothing a b = no_arithmetic

-- the one table of what stands for a number
abbrev pub arithmetic : {B I E F P L T : Type 0} → ex.Expr-F B I E F P L T → Reading E
arithmetic (ex.Int span n) = literal n
arithmetic (ex.Bits span text) = no_arithmetic
arithmetic (ex.Bool span b) = no_arithmetic
arithmetic (ex.Name span name) = named name
arithmetic (ex.Unary span o a) = reading_of_one o a
arithmetic (ex.Binary span o a b) = reading_of_two (joining o) a b
arithmetic (ex.Conditional span c a b) = no_arithmetic
arithmetic (ex.Tuple span es) = no_arithmetic
arithmetic (ex.Construct span i fs) = no_arithmetic
arithmetic (ex.Call span i ps es) = no_arithmetic
arithmetic (ex.Field span a i) = no_arithmetic
arithmetic (ex.Fields span a iss) = no_arithmetic
arithmetic (ex.Slices span a ss) = no_arithmetic
arithmetic (ex.Element span a i) = no_arithmetic
arithmetic (ex.As span a t) = no_arithmetic
arithmetic (ex.In span a p) = no_arithmetic

-- the number above 0 that is written
abbrev pub divisor : {E : Type 0} → Reading E → Option ℕ
divisor (literal zero) = None
divisor (literal (suc n)) = Some (suc n)
divisor (named name) = None
divisor (negated a) = None
divisor (combined o a b) = None
divisor (divided a b) = None
divisor no_arithmetic = None

-- ---- what it is worth

-- a kind of number
pub record Arithmetic (N : Type 0) : Type 0 where
  pub literal : ℕ → N
  pub plus : N → N → N
  pub minus : N → N → N
  pub times : N → N → N
  pub over : N → ℕ → N

abbrev pub Unread : Type 0
Unread = Unit {0}

-- which numbers names stand for, where they stand for one
abbrev pub Named : Type 0 → Type 0
Named N = List ℕ → Option N

-- and an expression over them
abbrev pub Worth : Type 0 → Type 0
Worth N = Named N → Option N

-- what is read of an expression: what it is worth, and the number above 0 that it is written as
pub record Read (N : Type 0) : Type 0 where
  pub worth : Worth N
  pub divisor : Option ℕ

module _ {N : Type 0} (ops : Arithmetic N) where
  abbrev pub of_two : Combination → N → N → N
  of_two Sum a b = ops.plus a b
  of_two Difference a b = ops.minus a b
  of_two Product a b = ops.times a b

  abbrev pub negative : N → N
  negative a = ops.minus (ops.literal 0) a

  abbrev pub both : Combination → Option N → Option N → Option N
  both o a b = option_and_then (λ x. option_map (of_two o x) b) a

  abbrev pub quotient : Option ℕ → Option N → Option N
  quotient k a = option_and_then (λ n. option_map (λ x. ops.over x n) a) k

  abbrev pub worth_of : Reading (Read N) → Worth N
  worth_of (literal n) f = Some (ops.literal n)
  worth_of (named name) f = f name
  worth_of (negated a) f = option_map negative (a.worth f)
  worth_of (combined o a b) f = both o (a.worth f) (b.worth f)
  worth_of (divided a b) f = quotient b.divisor (a.worth f)
  worth_of no_arithmetic f = None

  abbrev pub read_layer : ex.Expr-F Unread Unread (Read N) Unread Unread Unread Unread → Read N
  read_layer x = record { worth = worth_of (arithmetic x); divisor = divisor (arithmetic x) }

  abbrev pub read : Expr → Read N
  read = fold-Expr Unread Unread (Read N) Unread Unread Unread Unread (λ _. tt) (λ _. tt) read_layer (λ _. tt) (λ _. tt) (λ _. tt) (λ _. tt)

  abbrev pub worth : Expr → Worth N
  worth e = (read e).worth
