-- What an expression in a width is worth, one layer at a time.
use Rattle.std.proofs.Common.{◌≡◌, ℕ, suc, Option, Some, refl, ap, ap₂, ◌∙◌}
use Rattle.std.specs.Prelude.{option_map}
use Rattle.asl_syn.specs.declared.token.Span.{Span}
use Rattle.asl_syn.specs.declared.tree.Expr.{Expr, roll-Expr}
use Rattle.asl_syn.specs.declared.tree.Bitfield.{Bitfield}
use Rattle.asl_syn.specs.declared.tree.ConstraintPart.{ConstraintPart}
use Rattle.asl_syn.specs.declared.tree.FieldValue.{FieldValue}
use Rattle.asl_syn.specs.declared.tree.Pattern.{Pattern}
use Rattle.asl_syn.specs.declared.tree.Slice.{Slice}
use Rattle.asl_syn.specs.declared.tree.TypeExpr.{TypeExpr}
use Rattle.asl_syn.specs.declared.tree.Bitfield.TheOpen as ex
use Rattle.asl_syn.specs.declared.tree.Bitfield.TheFolds.{fold-Bitfield, fold-ConstraintPart, fold-FieldValue, fold-Pattern, fold-Slice, fold-TypeExpr, fold-roll-Expr, map-Expr}
use Rattle.asl_syn.specs.Layers.{ExprLayer}
use Rattle.asl_syn.specs.declared.tree.BinaryOperator.TheVariants as binary
use Rattle.asl_rules.specs.declared.joining.Combination.{Combination}
use Rattle.asl_rules.specs.declared.joining.Combination.TheVariants.{Sum, Difference, Product}
use Rattle.asl_rules.specs.types.Arithmetic.{Arithmetic, Named, Read, Unread, operator, of_two, negative, both, quotient, worth_of, read_layer, read, worth, arithmetic, divisor}

-- the expression is this number above 0, as it is written
pub record IsWritten (f : Expr) (k : ℕ) : Type 0 where
  pub span : Span
  pub less : ℕ
  pub above_0 : k ≡ suc less
  pub is : f ≡ roll-Expr (ex.Int span k)

module _ {N : Type 0} (ops : Arithmetic N) where
  abbrev laid : ExprLayer → ex.Expr-F Unread Unread (Read N) Unread Unread Unread Unread
  laid = map-Expr Bitfield ConstraintPart Expr FieldValue Pattern Slice TypeExpr Unread Unread (Read N) Unread Unread Unread Unread
      (fold-Bitfield Unread Unread (Read N) Unread Unread Unread Unread (λ _. tt) (λ _. tt) (read_layer ops) (λ _. tt) (λ _. tt) (λ _. tt)
      (λ _. tt))
      (fold-ConstraintPart Unread Unread (Read N) Unread Unread Unread Unread (λ _. tt) (λ _. tt) (read_layer ops) (λ _. tt) (λ _. tt)
      (λ _. tt) (λ _. tt))
      (read ops)
      (fold-FieldValue Unread Unread (Read N) Unread Unread Unread Unread (λ _. tt) (λ _. tt) (read_layer ops) (λ _. tt) (λ _. tt) (λ _. tt)
      (λ _. tt))
      (fold-Pattern Unread Unread (Read N) Unread Unread Unread Unread (λ _. tt) (λ _. tt) (read_layer ops) (λ _. tt) (λ _. tt) (λ _. tt)
      (λ _. tt))
      (fold-Slice Unread Unread (Read N) Unread Unread Unread Unread (λ _. tt) (λ _. tt) (read_layer ops) (λ _. tt) (λ _. tt) (λ _. tt)
      (λ _. tt))
      (fold-TypeExpr Unread Unread (Read N) Unread Unread Unread Unread (λ _. tt) (λ _. tt) (read_layer ops) (λ _. tt) (λ _. tt) (λ _. tt)
      (λ _. tt))

  pub read_roll : (x : ExprLayer) → read ops (roll-Expr x) ≡ read_layer ops (laid x)
  read_roll x =
      fold-roll-Expr Unread Unread (Read N) Unread Unread Unread Unread (λ _. tt) (λ _. tt) (read_layer ops) (λ _. tt) (λ _. tt) (λ _. tt)
      (λ _. tt) x

  pub worth_roll : (x : ExprLayer) (f : Named N) → worth ops (roll-Expr x) f ≡ worth_of ops (arithmetic (laid x)) f
  worth_roll x f = ap (λ (r : Read N). r.worth f) (read_roll x)

  -- the number that an expression is written as
  pub divisor_roll : (x : ExprLayer) → (read ops (roll-Expr x)).divisor ≡ divisor (arithmetic (laid x))
  divisor_roll x = ap (λ (r : Read N). r.divisor) (read_roll x)

  pub written_divisor : (f : Expr) (k : ℕ) → IsWritten f k → (read ops f).divisor ≡ Some k
  written_divisor f k w =
      let number : (m : ℕ) → m ≡ suc w.less → divisor (arithmetic (laid (ex.Int w.span m))) ≡ Some m = λ m e. rw e refl in
      ap (λ z. (read ops z).divisor) w.is ∙ divisor_roll (ex.Int w.span k) ∙ number k w.above_0

  -- the number of an operation, where those of its operands are known
  pub worth_of_one : (m : Option N) (x : N) → m ≡ Some x → option_map (negative ops) m ≡ Some (negative ops x)
  worth_of_one m x e = ap (option_map (negative ops)) e

  pub worth_of_two : (o : Combination) (m n : Option N) (x y : N) → m ≡ Some x → n ≡ Some y → both ops o m n ≡ Some (of_two ops o x y)
  worth_of_two o m n x y e f = ap₂ (λ p q. both ops o p q) e f

  pub worth_of_operator : (o : Combination) (span : Span) (e f : Expr) (g : Named N) →
      worth ops (roll-Expr (ex.Binary span (operator o) e f)) g ≡ both ops o (worth ops e g) (worth ops f g)
  worth_of_operator Sum span e f g = worth_roll (ex.Binary span binary.Add e f) g
  worth_of_operator Difference span e f g = worth_roll (ex.Binary span binary.Subtract e f) g
  worth_of_operator Product span e f g = worth_roll (ex.Binary span binary.Multiply e f) g

  pub worth_of_quotient : (d : Option ℕ) (m : Option N) (k : ℕ) (x : N) → d ≡ Some k → m ≡ Some x → quotient ops d m ≡ Some (ops.over x k)
  worth_of_quotient d m k x e f = ap₂ (λ p q. quotient ops p q) e f
