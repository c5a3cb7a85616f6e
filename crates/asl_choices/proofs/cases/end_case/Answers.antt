use Rattle.std.proofs.Common.{◌≡◌, rules, true, ◌∙◌}
use Rattle.asl_syn.specs.declared.code.StaticCode.TheVariants.{T05}
use Rattle.asl_rules.specs.statements.Acting.{ended}
use Rattle.asl_rules.specs.types.Effects.{greater}
use Rattle.asl_rules.specs.Faults.{none_at}
use Rattle.asl_rules.specs.runs.Trees as tree
use Rattle.asl_tree.specs.View.{tree_of, typed_of}
use Rattle.asl_tree.specs.Acts.{all_alternatives, last_of}
use Rattle.asl_blocks.specs.private.Views.{done_of}
use Rattle.asl_blocks.proofs.ActForms.{act_case}
use Rattle.asl_blocks.proofs.Parted.{ended_after}
use Rattle.asl_choices.proofs.cases.end_case.Goals as goal

pub returns : goal.returns
returns c = λ names.
    let k : c.greater-effect.result ≡ greater (greater (typed_of c.args.value).effect c.args.first.effect) c.args.last.effect = search rules in
    let v : c.into_inner.result ≡ c.args.value = search rules in
    let l : c.into_inner-2.result ≡ c.args.last.last = search rules in
    ended_after (done_of names) c.ended.result (none_at T05 c.args.first.misplaced) c.in_ok-check_placed.field-0 _ _ c.in_ok-check_placed.ensures
    (λ i. ended c.args.body.now.class c.args.span true (k i) names
    ((act_case c.args.span c.into_inner.result c.args.first.trees c.into_inner-2.result
    ∙ λ j. tree.Case c.args.span (tree_of (v j)) (all_alternatives c.args.first.trees) (last_of (l j))) i))
    (c.ended.ensures names)
