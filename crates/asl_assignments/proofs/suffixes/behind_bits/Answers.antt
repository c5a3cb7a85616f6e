use Rattle.std.proofs.Common.{rules, ◌≡◌, [], Ok, Err, refl, sym, ap, ◌∙◌, subst}
use Rattle.asl_rules.specs.Faults.{◌>>=◌}
use Rattle.asl_rules.specs.expressions.Slicing.{sliced_width, shapes_of}
use Rattle.asl_rules.specs.statements.Targets.{behind, found_slices}
use Rattle.asl_rules.specs.runs.Trees.{into_slices}
use Rattle.asl_rules.specs.types.Types.{bits_of}
use Rattle.asl_rules.specs.expressions.Typing.{trees_of}
use Rattle.asl_types.specs.private.Answers.{Met}
use Rattle.asl_tree.specs.Acts.{step_of}
use Rattle.asl_tree.specs.View.{all_operands}
use Rattle.asl_assignments.specs.private.SuffixWalks.{bits_behind}
use Rattle.asl_assignments.specs.private.TargetViews.{behind_of}
use Rattle.asl_blocks.specs.private.Views.{body_of}
use Rattle.asl_blocks.proofs.Parted.{stop}
use Rattle.asl_blocks.proofs.Simples.{trees_seen}
use Rattle.asl_assignments.proofs.suffixes.behind_bits.Goals as goal

pub returns-in_err-width : goal.returns-in_err-width
returns-in_err-width c = λ t.
    let x : c.sliced_width.result ≡ Err c.in_err-width.field-0.0 = search rules in
    let q : c.from_residual.result ≡ Err c.in_err-width.field-0.0 = search rules in
    let ss = found_slices t c.args.slices.now in
    stop (λ p. p) behind_of c.in_err-width.field-0.0 c.sliced_width.result c.from_residual.result
    (sliced_width c.args.at ss (body_of c.args.names.now c.args.body.now).scope) _
    (λ w. Ok (behind (bits_of w []) (into_slices c.args.at (shapes_of ss) (trees_of (all_operands c.args.operands)))))
    x q refl (subst (λ G. Met (λ p. p) c.sliced_width.result (sliced_width c.args.at ss G)) c.context.ensures (c.sliced_width.ensures t))

pub returns : goal.returns
returns c = λ t.
    let ss = found_slices t c.args.slices.now in
    let os = all_operands c.args.operands in
    let ty : bits_of c.in_ok-width.width [] ≡ c.new-behind.result = sym (c.new-behind.ensures ∙ c.in_ok-bits_of.ensures) in
    let step : into_slices c.args.at (shapes_of ss) (trees_of os) ≡ step_of c.new.result =
    (λ i. into_slices c.args.at (sym (c.in_ok-shapes.ensures t) i) (trees_seen c.args.operands i)) ∙ ap step_of (sym c.new.ensures) in
    ap (λ G. bits_behind c.args.at ss os G) (sym c.context.ensures)
    ∙ ap (λ r. r >>= λ w. Ok (behind (bits_of w []) (into_slices c.args.at (shapes_of ss) (trees_of os)))) (c.in_ok-width.ensures t)
    ∙ λ i. Ok (behind (ty i) (step i))
