use Rattle.std.proofs.Common.{◌≡◌, ◌&&◌, true, sym, ◌∙◌, subst}
use Rattle.asl_syn.specs.declared.code.StaticCode.TheVariants.{T08}
use Rattle.asl_rules.specs.Faults.{◌>>◌, need}
use Rattle.asl_rules.specs.expressions.Slicing.{all_integers}
use Rattle.asl_rules.specs.statements.Targets.{found_slices}
use Rattle.asl_rules.specs.types.Types.{is_bits}
use Rattle.asl_types.specs.private.Answers.{Met}
use Rattle.asl_tree.specs.View.{all_operands}
use Rattle.asl_assignments.specs.private.SuffixWalks.{bits_behind}
use Rattle.asl_assignments.specs.private.TargetViews.{behind_of}
use Rattle.asl_blocks.specs.private.Views.{body_of}
use Rattle.asl_assignments.proofs.suffixes.behind_slices.Goals as goal

pub returns : goal.returns
returns c = λ t s.
    let os = all_operands c.args.operands in
    let held : (is_bits c.args.ty.now && all_integers os) ≡ true = sym c.has_slices.ensures ∙ c.if-not-has_slices.false in
    subst (λ b. Met behind_of c.behind_bits.result (need b T08 c.args.at >> bits_behind c.args.at (found_slices t c.args.slices.now) os (body_of c.args.names.now c.args.body.now).scope)) (sym held)
    (c.behind_bits.ensures t)
