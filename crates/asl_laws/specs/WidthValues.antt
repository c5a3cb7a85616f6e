-- What width expressions give that are evaluated, wherever they are written: in types, in constraints, in braces, in slices.
use Rattle.std.specs.Prelude.{◌≡◌, ℕ, ℤ, ◌⊎◌, Some, Ok}
use Rattle.asl_syn.specs.declared.code.DynCode.{DynCode}
use Rattle.asl_syn.specs.declared.code.DynCode.TheVariants.{D01, D03, D12, D13}
use Rattle.asl_syn.specs.declared.tree.Expr.{Expr}
use Rattle.asl_poly.specs.Fractions.{Fraction}
use Rattle.asl_poly.specs.Poly.{HasWidth}
use Rattle.asl_rules.specs.Tests.{Tests}
use Rattle.asl_rules.specs.types.Closed.{Assignment}
use Rattle.asl_rules.specs.types.Numbers.{fraction, wholes, IsWhole, present}
use Rattle.asl_rules.specs.declarations.Scopes.{Scope}
use Rattle.asl_rules.specs.expressions.Typing.{Width, Number}
use Rattle.asl_rules.specs.expressions.Exprs.{found, width}
use Rattle.asl_rules.specs.declarations.Programs.{Accepted, Environment}
use Rattle.asl_rules.specs.values.Values.{Value, int}
use Rattle.asl_rules.specs.runs.States.{Core}
use Rattle.asl_rules.specs.private.Agreement.{Agrees}
use Rattle.asl_rules.specs.runs.Plans.{Meter, Outcome, Done, Thrown, Halt, Faulted, Stuck}
use Rattle.asl_rules.specs.runs.Evaluation.{meaning}

-- the faults of a width: an integer is out of range, or a division isn't exact; or, as at the entry into any node, too many nodes are open or no step is
-- left
abbrev pub IsWidthFault : DynCode → Type 0
IsWidthFault code = (code ≡ D01) ⊎ ((code ≡ D03) ⊎ ((code ≡ D12) ⊎ (code ≡ D13)))

-- an integer, of which P says which one it is, or one of these faults; the state stays as it was
abbrev pub GivesInteger : Core → (ℤ → Type 0) → Outcome Core Value → Type 0
GivesInteger c P (Done x c1 h) = ((z : ℤ) × (x ≡ int z) × P z) × (c1 ≡ c)
GivesInteger c P (Thrown x c1 h) = ⊥
GivesInteger c P (Halt (Faulted code span) c1 h) = IsWidthFault code × (c1 ≡ c)
GivesInteger c P (Halt (Stuck mistake span) c1 h) = ⊥

-- the fraction that an expression has, where the names that can't be assigned stand for their integers in the state, is this integer
abbrev pub HasNumber : Expr → Core → ℤ → Type 0
HasNumber e c z = (r : Fraction) × (fraction e (wholes (present c)) ≡ Some r) × IsWhole z r

-- in a state that agrees with its scope a width gives the integer that its polynomial is there, and an end of a constraint that names no
-- atom its own; each is what the expression is over fractions
pub record WidthValues (t : Tests) (env : Environment) (a : Accepted) : Type 0 where
  pub widths : (d : ℕ) (e : Expr) (G : Scope) (W : Width) (p : Assignment) (c : Core) (h : Meter) →
      width t e G ≡ Ok W → Agrees a.names G.names p c →
      GivesInteger c (λ z. HasWidth W.poly p z × HasNumber e c z) ((meaning env d).expr e c h)
  pub numbers : (d : ℕ) (e : Expr) (G : Scope) (N : Number) (p : Assignment) (c : Core) (h : Meter) →
      (found t e).number G ≡ Ok N → Agrees a.names G.names p c →
      GivesInteger c (λ z. (z ≡ N.number) × HasNumber e c z) ((meaning env d).expr e c h)
