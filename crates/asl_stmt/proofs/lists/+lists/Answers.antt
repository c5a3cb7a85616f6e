use Rattle.std.proofs.Common.{rules, ◌≡◌, [], arith, ap, sym, ◌∙◌, map, take, Ok, Err}
use Rattle.asl_rules.specs.declared.effect.Effect.TheVariants.{Pure}
use Rattle.asl_rules.specs.statements.Acting.{listed}
use Rattle.asl_rules.specs.Faults.{◌>>=◌}
use Rattle.asl_tree.specs.Acts.{act_of, acts_from}
use Rattle.asl_blocks.specs.private.Views.{body_of, listing_of, listed_of}
use Rattle.asl_blocks.specs.private.Walks.{after, stmt_step, listing, walk_stmt}
use Rattle.asl_blocks.proofs.Parted.{stop}
use Rattle.asl_stmt.proofs.ListTurns.{list_loop, shut_by, cut_listing}
use Rattle.asl_blocks.proofs.Turns.{map_more, suiting, suits}
use Rattle.asl_stmt.proofs.lists.+lists.Goals as goal

pub check_list-loop-s-preserved : goal.check_list-loop-s-preserved
check_list-loop-s-preserved t c = λ q s.
    list_loop (walk_stmt q) (body_of c.args.names.now c.args.body.now) c.args.stmts.now c.loop-s.s-index c.s-item.result c.loop-s.names c.check_stmt.new.names _ c.loop-s.effect _ (map act_of c.loop-s.acts) _ _ _
    (omega (arith, c.loop-s-test.true)) c.s-item.is (c.in_ok-done.ensures q s) c.greater-effect.ensures
    (map_more act_of c.loop-s.acts c.push.new.self c.into_inner.result _ c.in_ok-push.ensures.ok (ap act_of c.into_inner.ensures))
    (c.loop-s.invariant q s)

pub check_block-returns-clause-rule : goal.check_block-returns-clause-rule
check_block-returns-clause-rule t c = λ q s.
    shut_by (body_of c.args.names.now c.args.body.now) (map (walk_stmt q) c.args.stmts.now)
    ∙ ap (λ r. r >>= λ x. Ok (listed c.args.names.now x.effect (acts_from x.acts))) (c.in_ok-list.ensures q s)

pub check_block-returns-in_err-list-clause-rule : goal.check_block-returns-in_err-list-clause-rule
check_block-returns-in_err-list-clause-rule t c = λ q s.
    let x : c.check_list.result ≡ Err c.in_err-list.field-0.0 = search rules in
    let y : c.from_residual.result ≡ Err c.in_err-list.field-0.0 = search rules in
    stop (listing_of c.check_list.new.names) (listed_of c.args.names.now) c.in_err-list.field-0.0 c.check_list.result c.from_residual.result
    (after (stmt_step (body_of c.args.names.now c.args.body.now)) (map (walk_stmt q) c.args.stmts.now) (listing c.args.names.now Pure [])) _
    (λ x. Ok (listed c.args.names.now x.effect (acts_from x.acts)))
    x y (shut_by (body_of c.args.names.now c.args.body.now) (map (walk_stmt q) c.args.stmts.now)) (c.check_list.ensures q s)

pub check_block-returns-clause-kept : goal.check_block-returns-clause-kept
check_block-returns-clause-kept t c =
    c.truncate.ensures ∙ ap (λ n. take n c.check_list.new.names) c.len-height.ensures
    ∙ cut_listing suiting.tests c.args.stmts.now (body_of c.args.names.now c.args.body.now) _ (c.in_ok-list.ensures suiting.tests suits)
