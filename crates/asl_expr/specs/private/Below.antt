-- What a node may take of the functions that type the nodes below it: their contracts, at nodes that are less deep.
use Rattle.std.specs.Prelude.{ℕ, ◌<◌, Result}
use Rattle.std.specs.Borrow.{Bor}
use Rattle.std.specs.declared.alloc.Global.{Global}
use Rattle.asl_syn.specs.declared.code.Refused.{Refused}
use Rattle.asl_syn.specs.declared.tree.Expr.{Expr, size-Expr}
use Rattle.asl_syn.specs.declared.tree.Pattern.{Pattern, size-Pattern}
use Rattle.asl_rules.specs.expressions.Exprs.{typed, found_pattern}
use Rattle.asl_rules.specs.Tests.{Tests}
use Rattle.asl_rules.specs.types.Types.{Ty}
use Rattle.asl_types.specs.private.Answers.{Met}
use Rattle.asl_subprograms.specs.private.ContextView.{scope_of}
use Rattle.asl_types.specs.Suits.{Suits}
use Rattle.asl_subprograms.specs.declared.context.Context.{Context}
use Rattle.asl_tree.specs.declared.tree.Tree.{Tree}
use Rattle.asl_tree.specs.View.{typed_of}
use Rattle.asl_expr.specs.PatternViews.{matched_of}
use Rattle.asl_expr.specs.declared.patterns.Matched.{Matched}

-- it types expressions less deep than n
pub record Types (n : ℕ)
    (pre : Global → Context → Bor Expr → Type 0)
    (post : Global → Context → Bor Expr → Result Tree Refused → Type 0) : Type 0 where
  pub callable : (a : Global) (c : Context) (e : Bor Expr) → size-Expr e.now < n → pre a c e
  pub meets : (a : Global) (c : Context) (e : Bor Expr) (r : Result Tree Refused) → post a c e r → (t : Tests) → Suits t → Met typed_of r (typed t e.now (scope_of c))

-- it matches patterns less deep than n
pub record Matching (n : ℕ)
    (pre : Global → Context → Bor Pattern → Bor Ty → Type 0)
    (post : Global → Context → Bor Pattern → Bor Ty → Result Matched Refused → Type 0) : Type 0 where
  pub callable : (a : Global) (c : Context) (p : Bor Pattern) (T : Bor Ty) → size-Pattern p.now < n → pre a c p T
  pub meets : (a : Global) (c : Context) (p : Bor Pattern) (T : Bor Ty) (r : Result Matched Refused) → post a c p T r →
      (t : Tests) → Suits t → Met matched_of r (found_pattern t p.now T.now (scope_of c))
