use Rattle.std.proofs.Common.{◌≡◌, rules, Err, ap, ◌∙◌, map, sym}
use Rattle.asl_tree.specs.View.{operand_of, typed_of}
use Rattle.asl_blocks.specs.private.Views.{body_of, done_of, last_listed_of}
use Rattle.asl_choices.specs.private.PartViews.{alternatives_of}
use Rattle.asl_blocks.specs.private.Walks.{after, alternative_step, nothing_gathered, walk_alternative, walk_otherwise}
use Rattle.asl_blocks.proofs.Parted.{case_last_stop, case_all}
use Rattle.asl_choices.proofs.cases.check_case.Goals as goal

pub returns-in_err-last : goal.returns-in_err-last
returns-in_err-last g c = λ t s.
    let x : c.check_otherwise.result ≡ Err c.in_err-last.field-0.0 = search rules in
    let q : c.from_residual-in_err-last.result ≡ Err c.in_err-last.field-0.0 = search rules in
    let y : c.ty.result.now ≡ (typed_of c.in_ok-value.value).ty = search rules in
    case_last_stop _ (done_of c.check_otherwise.new.names) c.in_err-last.field-0.0 c.check_otherwise.result c.from_residual-in_err-last.result t c.args.choosing.now.span c.args.choosing.now.value.now
    (map (walk_alternative t) c.args.choosing.now.alternatives.now) (walk_otherwise t c.args.choosing.now.last.now)
    (body_of c.args.names.now c.args.body.now) (body_of c.check_alternatives.new.names c.args.body.now) (operand_of c.in_ok-value.value) (alternatives_of c.in_ok-first.first) x q
    (c.in_ok-value.ensures t s)
    (ap (λ T. after (alternative_step t T (body_of c.args.names.now c.args.body.now)) (map (walk_alternative t) c.args.choosing.now.alternatives.now) nothing_gathered) (sym y) ∙ c.in_ok-first.ensures.rule t s)
    (ap (λ n. body_of n c.args.body.now) c.in_ok-first.ensures.kept) (c.check_otherwise.ensures.rule t s)

pub returns : goal.returns
returns g c = λ t s.
    let y : c.ty.result.now ≡ (typed_of c.in_ok-value.value).ty = search rules in
    let both = c.in_ok-last.ensures.kept ∙ c.in_ok-first.ensures.kept in
    case_all (done_of c.check_otherwise.new.names) c.end_case.result t c.args.choosing.now.span c.args.choosing.now.value.now
    (map (walk_alternative t) c.args.choosing.now.alternatives.now) (walk_otherwise t c.args.choosing.now.last.now)
    (body_of c.args.names.now c.args.body.now) (body_of c.check_alternatives.new.names c.args.body.now) (body_of c.check_otherwise.new.names c.args.body.now) (operand_of c.in_ok-value.value) (alternatives_of c.in_ok-first.first) (last_listed_of c.in_ok-last.last)
    (c.in_ok-value.ensures t s)
    (ap (λ T. after (alternative_step t T (body_of c.args.names.now c.args.body.now)) (map (walk_alternative t) c.args.choosing.now.alternatives.now) nothing_gathered) (sym y) ∙ c.in_ok-first.ensures.rule t s)
    (ap (λ n. body_of n c.args.body.now) c.in_ok-first.ensures.kept) (c.in_ok-last.ensures.rule t s)
    (ap (λ n. body_of n c.args.body.now) both)
    (c.end_case.ensures c.check_otherwise.new.names)
