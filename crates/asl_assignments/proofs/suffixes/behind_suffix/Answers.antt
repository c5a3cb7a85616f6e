use Rattle.std.proofs.Common.{subst, sym}
use Rattle.asl_rules.specs.statements.Targets as rules
use Rattle.asl_types.specs.private.Answers.{Met}
use Rattle.asl_assignments.specs.private.TargetViews.{suffix_of, behind_of}
use Rattle.asl_blocks.specs.private.Views.{body_of}
use Rattle.asl_assignments.proofs.suffixes.behind_suffix.Goals as goal

pub returns-in-Field : goal.returns-in-Field
returns-in-Field c = λ t s.
    let G = (body_of c.args.names.now c.args.body.now).scope in
    subst (λ x. Met behind_of c.behind_field.result (rules.behind_suffix (suffix_of t x) c.args.ty.now G)) (sym c.in-Field.is) (c.behind_field.ensures G)

pub returns-in-Bitfields : goal.returns-in-Bitfields
returns-in-Bitfields c = λ t s.
    let G = (body_of c.args.names.now c.args.body.now).scope in
    subst (λ x. Met behind_of c.behind_bitfields.result (rules.behind_suffix (suffix_of t x) c.args.ty.now G)) (sym c.in-Bitfields.is) (c.behind_bitfields.ensures G)

pub returns-in-Element : goal.returns-in-Element
returns-in-Element c = λ t s.
    let G = (body_of c.args.names.now c.args.body.now).scope in
    subst (λ x. Met behind_of c.behind_element.result (rules.behind_suffix (suffix_of t x) c.args.ty.now G)) (sym c.in-Element.is) (c.behind_element.ensures G)
