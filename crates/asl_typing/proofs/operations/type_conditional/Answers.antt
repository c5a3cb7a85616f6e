use Rattle.std.proofs.Common.{rules, ◌≡◌, Result, Ok, sym, ap, subst, ◌∙◌}
use Rattle.asl_syn.specs.declared.code.Fault.{Fault}
use Rattle.asl_rules.specs.Faults.{◌>>=◌}
use Rattle.asl_rules.specs.runs.Trees as tree
use Rattle.asl_rules.specs.runs.Trees.{tree_at, note_of}
use Rattle.asl_rules.specs.expressions.Typing.{Typed}
use Rattle.asl_types.specs.private.Answers.{Met}
use Rattle.asl_tree.specs.View.{tree_of, typed_of}
use Rattle.asl_typing.specs.private.Conditionals.{conditional_note}
use Rattle.asl_typing.proofs.Conditionals.{conditional_as, conditional_by}
use Rattle.asl_typing.proofs.operations.type_conditional.Goals as goal

pub returns-in_err-note : goal.returns-in_err-note
returns-in_err-note c t right =
    let here = c.conditional_note.ensures t right in
    subst (λ (z : Result Typed Fault). Met typed_of c.from_residual.result z)
    (sym (conditional_by t c.args.class c.args.span (tree_at (tree_of c.args.condition)) (typed_of c.args.condition) (typed_of c.args.left) (typed_of c.args.right)
    ∙ ap (λ r. r >>= λ n. Ok (conditional_as (typed_of c.args.condition) (typed_of c.args.left) (typed_of c.args.right) n))
    (λ i. conditional_note t c.args.class c.args.span (tree_at (tree_of (sym c.get.ensures i))) (typed_of (sym c.get.ensures i)) (typed_of (sym c.get-2.ensures i)) (typed_of (sym c.get-3.ensures i)))))
    (search rules)

pub returns : goal.returns
returns c t right =
    conditional_by t c.args.class c.args.span (tree_at (tree_of c.args.condition)) (typed_of c.args.condition) (typed_of c.args.left) (typed_of c.args.right)
    ∙ ap (λ r. r >>= λ n. Ok (conditional_as (typed_of c.args.condition) (typed_of c.args.left) (typed_of c.args.right) n))
    ((λ i. conditional_note t c.args.class c.args.span (tree_at (tree_of (sym c.get.ensures i))) (typed_of (sym c.get.ensures i)) (typed_of (sym c.get-2.ensures i)) (typed_of (sym c.get-3.ensures i))) ∙ c.in_ok-note.ensures t right)
    ∙ ap (λ (x : tree.Tree). let r : Result Typed Fault = Ok (record { ty = (note_of x).ty; effect = (note_of x).effect; tree = x }) in r) (sym c.in_ok-conditional.ensures)
