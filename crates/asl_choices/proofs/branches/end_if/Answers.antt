use Rattle.std.proofs.Common.{true, ◌∙◌}
use Rattle.asl_syn.specs.declared.code.StaticCode.TheVariants.{T05}
use Rattle.asl_rules.specs.statements.Acting.{ended}
use Rattle.asl_rules.specs.Faults.{none_at}
use Rattle.asl_rules.specs.runs.Trees as tree
use Rattle.asl_tree.specs.View.{tree_of}
use Rattle.asl_tree.specs.Acts.{all_acts, all_branches}
use Rattle.asl_blocks.specs.private.Views.{done_of}
use Rattle.asl_blocks.proofs.ActForms.{act_if}
use Rattle.asl_blocks.proofs.Parted.{ended_after}
use Rattle.asl_choices.proofs.branches.end_if.Goals as goal

pub returns : goal.returns
returns c = λ names.
    ended_after (done_of names) c.ended.result (none_at T05 c.args.others.misplaced) c.in_ok-check_placed.field-0 _ _ c.in_ok-check_placed.ensures
    (λ i. ended c.args.body.now.class c.args.span true (c.greater-effect.ensures i) names
    ((act_if c.args.span c.into_inner.result c.into_inner-first.result c.args.others.trees c.into_inner-last.result
    ∙ λ j. tree.If c.args.span (tree_of (c.into_inner.ensures j)) (all_acts (c.into_inner-first.ensures j)) (all_branches c.args.others.trees) (all_acts (c.into_inner-last.ensures j))) i))
    (c.ended.ensures names)
