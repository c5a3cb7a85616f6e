-- Values that are known before any run, under the width limit of the code.
use Rattle.std.proofs.Common.{◌≡◌, pos, sym, ◌∙◌, subst}
use Rattle.std.specs.Prelude.{ℕ, Result}
use Rattle.asl_syn.specs.declared.token.Span.{Span}
use Rattle.asl_syn.specs.declared.code.Refused.{Refused}
use Rattle.asl_syn.specs.declared.tree.Expr.{Expr}
use Rattle.asl_rules.specs.private.ByPlace.{seen_as}
use Rattle.asl_rules.specs.types.Closed.{closed}
use Rattle.asl_rules.specs.declarations.Constants.{constant}
use Rattle.asl_rules.specs.declarations.Declarations.{evaluated, known}
use Rattle.asl_rules.specs.declarations.Scopes.{Scope}
use Rattle.asl_rules.specs.Tests.{Tests}
use Rattle.asl_rules.specs.types.Types.{Ty}
use Rattle.asl_rules.specs.values.Values.{Value}
use Rattle.asl_rules.specs.types.Views.{viewed}
use Rattle.asl_rules.specs.types.Written.{first_value}
use Rattle.asl_rules.proofs.values.Constructs.{seen_is}
use Rattle.asl_value.specs.declared.value.Value.{Value as Kept}
use Rattle.asl_value.specs.View.{value_of}
use Rattle.asl_types.specs.private.Answers.{Met}

pub first_within : (t : Tests) (limit : ℕ) (r : Result Kept Refused) (at : Span) (T : Ty) → t.limit ≡ limit → Met value_of r (evaluated (first_value limit at (closed T))) → Met value_of r (evaluated (first_value t.limit at (closed T)))
first_within t limit r at T h m = subst (λ n. Met value_of r (evaluated (first_value n at (closed T)))) (sym h) m

pub known_within : (t : Tests) (limit : ℕ) (r : Result Kept Refused) (e : Expr) (G : Scope) → t.limit ≡ limit → Met value_of r (evaluated (constant limit e G.names)) → Met value_of r (known t e G)
known_within t limit r e G h m = subst (λ n. Met value_of r (evaluated (constant n e G.names))) (sym h) m

pub seen_in : (T : Ty) (x y : Value) → y ≡ seen_as T x → y ≡ viewed (closed T) x
seen_in T x y h = h ∙ seen_is (λ n. pos 0) T x
