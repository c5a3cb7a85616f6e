-- What is done with an expression that was typed: its tree stands where the expression does.
use Rattle.std.proofs.Common.{◌≡◌, Result, Ok, sym, ap, subst, ◌∙◌}
use Rattle.asl_syn.specs.declared.token.Span.{Span}
use Rattle.asl_syn.specs.declared.code.Fault.{Fault}
use Rattle.asl_syn.specs.declared.tree.Expr.{Expr}
use Rattle.asl_rules.specs.declared.effect.Effect.{Effect}
use Rattle.asl_rules.specs.Faults.{◌>>=◌, ◌>>◌}
use Rattle.asl_rules.specs.expressions.Exprs.{found, typed, conditional_of, conditional_rule}
use Rattle.asl_rules.specs.declarations.Scopes.{Scope}
use Rattle.asl_rules.specs.Tests.{Tests}
use Rattle.asl_rules.specs.runs.Trees.{Tree, tree_at}
use Rattle.asl_rules.specs.expressions.Typing.{Typed, Operand, operand}
use Rattle.asl_rules.specs.statements.Acting as acting
use Rattle.asl_syn.specs.declared.code.Refused.{Refused}
use Rattle.asl_types.specs.private.Answers.{Met}
use Rattle.asl_tree.specs.declared.tree.Tree as code
use Rattle.asl_tree.specs.View.{tree_of, typed_of, operand_of}
use Rattle.asl_rules.proofs.expressions.Places.{typed_at}

pub operand_at : (t : Tests) (e : Expr) (G : Scope) (x : code.Tree) → typed t e G ≡ Ok (typed_of x) → acting.operand_of t e G ≡ Ok (operand_of x)
operand_at t e G x h =
    ap (λ r. r >>= λ S. let a : Result Operand Fault = Ok (operand (found t e).span S) in a) h
    ∙ ap (λ s. let a : Result Operand Fault = Ok (operand s (typed_of x)) in a) (sym (typed_at t e G (typed_of x) h))

pub condition_at : (t : Tests) (class : Effect) (span : Span) (e : Expr) (G : Scope) (x : code.Tree) (S T : Typed) → typed t e G ≡ Ok (typed_of x) →
    conditional_of t class span (found t e).span (typed_of x) S T ≡ conditional_of t class span (tree_at (tree_of x)) (typed_of x) S T
condition_at t class span e G x S T h = ap (λ s. conditional_of t class span s (typed_of x) S T) (sym (typed_at t e G (typed_of x) h))

-- a conditional expression, whose parts were typed
pub conditional_by : (t : Tests) (span : Span) (c a b : Expr) (x y z : code.Tree) (G : Scope) (r : Result code.Tree Refused) → typed t c G ≡ Ok (typed_of x) → typed t a G ≡ Ok (typed_of y) → typed t b G ≡ Ok (typed_of z) →
    Met typed_of r (conditional_of t G.class span (tree_at (tree_of x)) (typed_of x) (typed_of y) (typed_of z)) → Met typed_of r (conditional_rule t span (found t c) (found t a) (found t b) G)
conditional_by t span c a b x y z G r is one two h =
    subst (λ (q : Result Typed Fault). Met typed_of r q)
    (sym (ap (λ p. p >>= λ C. typed t a G >>= λ S. typed t b G >>= λ T. conditional_of t G.class span (found t c).span C S T) is
    ∙ ap (λ p. p >>= λ S. typed t b G >>= λ T. conditional_of t G.class span (found t c).span (typed_of x) S T) one
    ∙ ap (λ p. p >>= λ T. conditional_of t G.class span (found t c).span (typed_of x) (typed_of y) T) two
    ∙ condition_at t G.class span c G x (typed_of y) (typed_of z) is)) h
