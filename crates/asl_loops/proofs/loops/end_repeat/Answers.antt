use Rattle.std.proofs.Common.{◌≡◌, rules, true, refl, sym, ap, ◌∙◌}
use Rattle.asl_rules.specs.statements.Acting.{condition, ended}
use Rattle.asl_rules.specs.statements.Branches.{limit_fits}
use Rattle.asl_rules.specs.types.Effects.{greater}
use Rattle.asl_rules.specs.runs.Trees as tree
use Rattle.asl_tree.specs.View.{operand_of, typed_of}
use Rattle.asl_tree.specs.Acts.{all_acts}
use Rattle.asl_blocks.specs.private.Views.{done_of, maybe_operand}
use Rattle.asl_blocks.proofs.ActForms.{act_repeat}
use Rattle.asl_blocks.proofs.Parted.{ended_after}
use Rattle.asl_loops.proofs.loops.end_repeat.Goals as goal

pub returns : goal.returns
returns c = λ names.
    let k : c.greater-effect.result ≡ greater (typed_of c.args.condition).effect c.args.list.effect = search rules in
    let m : c.into_inner-acts.result ≡ c.args.list.acts = search rules in
    ended_after (done_of names) c.ended.result (condition (operand_of c.args.condition)) c.in_ok-check_condition.field-0 _ _ (ap (λ e. condition (operand_of e)) (sym c.get.ensures) ∙ c.in_ok-check_condition.ensures) refl
    (ended_after (done_of names) c.ended.result (limit_fits (maybe_operand c.args.limit)) c.in_ok-check_limit.field-0 _ _ c.in_ok-check_limit.ensures
    (λ i. ended c.args.body.now.class c.args.span true (k i) names
    ((act_repeat c.args.span c.into_inner-acts.result c.guard.result
    ∙ λ j. tree.Repeat c.args.span (all_acts (m j)) (c.guard.ensures.condition j) (c.guard.ensures.limit j)) i))
    (c.ended.ensures names))
