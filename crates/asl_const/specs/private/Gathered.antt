-- Expressions behind references, as they are gathered out of a part of a tree: none is deeper than that part. The depth is the measure by which evaluation ends.
use Rattle.std.specs.Prelude.{ℕ, List, map}
use Rattle.std.specs.Borrow.{Bor}
use denote.Param.Weighed.{most}
use Rattle.asl_bits.specs.declared.TheConstants.{WIDTH_LIMIT}
use Rattle.asl_syn.specs.declared.tree.Expr.{Expr, size-Expr}
use Rattle.asl_rules.specs.declarations.Constants.{Known, constant}

-- the depth of the deepest
abbrev pub deepest : List (Bor Expr) → ℕ
deepest es = most (λ e. size-Expr e.now) es

abbrev pub constants : List (Bor Expr) → List Known
constants es = map (λ e. constant WIDTH_LIMIT e.now) es
