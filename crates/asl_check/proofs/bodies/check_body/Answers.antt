use Rattle.std.proofs.Common.{sym, ap, ◌∙◌, take}
use Rattle.asl_rules.specs.declared.effect.Effect.TheVariants.{Pure}
use Rattle.asl_blocks.proofs.Turns.{suiting, suits}
use Rattle.asl_check.proofs.BodyTurns.{body_by, body_cut_back}
use Rattle.asl_check.proofs.bodies.check_body.Goals as goal

pub returns-clause-rule : goal.returns-clause-rule
returns-clause-rule c = λ t s.
    body_by t c.args.subs.now c.args.names.now c.args.f.now c.args.signature.now _ _ _ _ _ _
    c.in_ok-enter_body.ensures.declared c.class.ensures c.in_ok-result_of.ensures c.as_slice.ensures (c.in_ok-list.ensures t s)
    (sym c.may_end.ensures ∙ c.if-not-may_end.false) (c.in_ok-tree_func.ensures c.args.names.now)

pub returns-clause-kept : goal.returns-clause-kept
returns-clause-kept c =
    c.truncate.ensures ∙ ap (λ n. take n c.check_stmts.new.names) c.len-height.ensures
    ∙ body_cut_back suiting.tests c.args.f.now c.args.signature.now c.args.names.now c.as_slice.result.now Pure _ _ c.in_ok-enter_body.ensures.declared (c.in_ok-list.ensures suiting.tests suits)
