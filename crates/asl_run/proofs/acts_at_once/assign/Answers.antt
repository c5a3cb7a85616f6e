use Rattle.std.proofs.Common.{◌≡◌, [], get_or, rules, ap, sym, ◌∙◌}
use Rattle.asl_tree.specs.Acts.{step_of}
use Rattle.asl_run.proofs.Stated.{one_alone}
use Rattle.asl_run.proofs.acts_at_once.assign.Goals as goal

pub returns-then-is_empty-clause-meets : goal.returns-then-is_empty-clause-meets
returns-then-is_empty-clause-meets c = λ fs holds.
    let way : c.args.target.now.way ≡ [] = search rules in
    let direct : c.args.target.now.steps ≡ [] = search rules in
    rw (way, direct) (c.assign_whole.ensures.meets fs holds c.args.target.now.span)

pub returns-then-len-eq1-clause-meets : goal.returns-then-len-eq1-clause-meets
returns-then-len-eq1-clause-meets c = λ fs holds.
    let step = c.index-as_slice-0.result in
    let way : c.args.target.now.way ≡ [] = search rules in
    rw (
      way,
      one_alone step_of c.args.target.now.steps step step (sym c.len.ensures ∙ c.if-len-eq1.true)
          (c.index-as_slice-0.is ∙ ap (λ ss. get_or ss 0 step) c.as_slice.ensures),
    )
    (c.assign_step.ensures.meets fs holds c.args.target.now.span)
