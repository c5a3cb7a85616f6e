use Rattle.std.proofs.Common.{◌≡◌, sym, ap, ◌∙◌, subst}
use Rattle.std.specs.Prelude.{IfOk}
use Rattle.asl_rules.specs.statements.Branches.{index_type, of_range}
use Rattle.asl_rules.specs.expressions.Exprs.{found}
use Rattle.asl_rules.specs.types.Types.{Ty}
use Rattle.asl_rules.specs.types.Writing.{range_rule}
use Rattle.asl_blocks.specs.private.Views.{body_of}
use Rattle.asl_loops.proofs.loops.index_type.Goals as goal

pub returns-in-Up : goal.returns-in-Up
returns-in-Up c = λ t s.
    let a = c.args.counting.now.from.now in
    let b = c.args.counting.now.to.now in
    subst (λ (T : Ty). IfOk c.range_type.result (λ ty. ty ≡ T))
    (ap (λ G. of_range (range_rule (found t a) (found t b) G)) c.context.ensures
    ∙ sym (ap (λ d. index_type t d a b (body_of c.args.names.now c.args.body.now).scope) c.in-Up.is))
    (c.range_type.ensures t)

pub returns-in-Down : goal.returns-in-Down
returns-in-Down c = λ t s.
    let a = c.args.counting.now.from.now in
    let b = c.args.counting.now.to.now in
    subst (λ (T : Ty). IfOk c.range_type-in-Down.result (λ ty. ty ≡ T))
    (ap (λ G. of_range (range_rule (found t b) (found t a) G)) c.context-in-Down.ensures
    ∙ sym (ap (λ d. index_type t d a b (body_of c.args.names.now c.args.body.now).scope) c.in-Down.is))
    (c.range_type-in-Down.ensures t)
