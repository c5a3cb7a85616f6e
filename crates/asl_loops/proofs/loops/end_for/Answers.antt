use Rattle.std.proofs.Common.{◌≡◌, rules, [], ◌∷◌, ◌∙◌}
use Rattle.asl_rules.specs.declared.effect.Effect.TheVariants.{Pure}
use Rattle.asl_rules.specs.statements.Acting.{ended}
use Rattle.asl_rules.specs.statements.Branches.{limit_fits}
use Rattle.asl_rules.specs.types.Effects.{greater, all_together}
use Rattle.asl_rules.specs.runs.Trees as tree
use Rattle.asl_tree.specs.View.{tree_of, typed_of}
use Rattle.asl_tree.specs.Acts.{all_acts}
use Rattle.asl_blocks.specs.private.Views.{done_of, maybe_operand}
use Rattle.asl_blocks.proofs.ActForms.{act_for}
use Rattle.asl_blocks.proofs.Parted.{ended_after}
use Rattle.asl_loops.proofs.loops.end_for.Goals as goal

pub returns : goal.returns
returns c = λ names.
    let k : c.greater-effect.result ≡ greater (greater (typed_of c.args.bounds.from).effect (typed_of c.args.bounds.to).effect) c.args.list.effect = search rules in
    let u : c.may_stand_together-is_together.result ≡ all_together Pure ((typed_of c.args.bounds.from).effect ∷ (typed_of c.args.bounds.to).effect ∷ []) = search rules in
    let a : c.into_inner.result ≡ c.args.bounds.from = search rules in
    let b : c.into_inner-2.result ≡ c.args.bounds.to = search rules in
    let m : c.into_inner-acts.result ≡ c.args.list.acts = search rules in
    ended_after (done_of names) c.ended.result (limit_fits (maybe_operand c.args.bounds.limit)) c.in_ok-check_limit.field-0 _ _ c.in_ok-check_limit.ensures
    (λ i. ended c.args.body.now.class c.args.span (u i) (k i) names
    ((act_for c.args.span (record { from = c.into_inner.result; direction = c.args.direction; to = c.into_inner-2.result; limit = c.unboxed.result }) c.into_inner-acts.result
    ∙ λ j. tree.For c.args.span (tree_of (a j)) c.args.direction (tree_of (b j)) (c.unboxed.ensures.tree j) (all_acts (m j))) i))
    (c.ended.ensures names)
