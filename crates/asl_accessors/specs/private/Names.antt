-- The names of values by where these stand.
use Rattle.std.specs.Prelude.{ℕ, suc, List, [], ◌∷◌}
use Rattle.asl_syn.specs.declared.token.Span.{Span}
use Rattle.asl_syn.specs.declared.tree.Expr.{Expr}
use Rattle.asl_syn.specs.declared.tree.Expr.TheVariants as ex
use Rattle.asl_rules.specs.declarations.WrittenOut.{made_value}

-- in a statement that begins there, numbered from n on
abbrev pub names_at : Span → ℕ → List Span → List Expr
names_at at n [] = []
names_at at n (s ∷ ss) = ex.Name s (made_value at n) ∷ names_at at (suc n) ss
