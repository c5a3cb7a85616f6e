use Rattle.std.proofs.Common.{◌≡◌, rules, true, subst, ◌∙◌}
use Rattle.asl_rules.specs.statements.Acting.{ended}
use Rattle.asl_rules.specs.types.Effects.{greater}
use Rattle.asl_rules.specs.runs.Trees as tree
use Rattle.asl_tree.specs.Acts.{all_acts, all_catchers, last_of}
use Rattle.asl_types.specs.private.Answers.{Met}
use Rattle.asl_blocks.specs.private.Views.{done_of}
use Rattle.asl_blocks.proofs.ActForms.{act_try}
use Rattle.asl_loops.proofs.catchers.end_try.Goals as goal

pub returns : goal.returns
returns c = λ names.
    let k : c.greater-effect.result ≡ greater (greater c.args.list.effect c.args.catchers.effect) c.args.last.effect = search rules in
    let l : c.into_inner.result ≡ c.args.last.last = search rules in
    let m : c.into_inner-acts.result ≡ c.args.list.acts = search rules in
    subst (Met (done_of names) c.ended.result)
    (λ i. ended c.args.body.now.class c.args.span true (k i) names
    ((act_try c.args.span c.into_inner-acts.result c.args.catchers.trees c.into_inner.result
    ∙ λ j. tree.Try c.args.span (all_acts (m j)) (all_catchers c.args.catchers.trees) (last_of (l j))) i))
    (c.ended.ensures names)
