use Rattle.std.proofs.Common.{rules, ◌≡◌, Err, ap, map}
use Rattle.asl_tree.specs.View.{operand_of}
use Rattle.asl_blocks.specs.private.Views.{body_of, done_of, listed_of, maybe_operand}
use Rattle.asl_blocks.specs.private.Walks.{walk_stmt}
use Rattle.asl_blocks.proofs.Parted.{repeat_condition_stop, repeat_limit_stop, repeat_all}
use Rattle.asl_loops.proofs.loops.check_repeat.Goals as goal

pub returns-in_err-condition : goal.returns-in_err-condition
returns-in_err-condition g c = λ t s.
    let x : c.type_in.result ≡ Err c.in_err-condition.field-0.0 = search rules in
    let q : c.from_residual-in_err-condition.result ≡ Err c.in_err-condition.field-0.0 = search rules in
    repeat_condition_stop _ (done_of c.check_inside.new.names) c.in_err-condition.field-0.0 c.type_in.result c.from_residual-in_err-condition.result t c.args.turning.now.span (map (walk_stmt t) c.args.stmts.now) c.args.turning.now.condition.now c.args.turning.now.limit.now
    (body_of c.args.names.now c.args.body.now) (body_of c.check_inside.new.names c.args.body.now) _
    x q (c.in_ok-list.ensures.rule t s) (ap (λ n. body_of n c.args.body.now) c.in_ok-list.ensures.kept) (c.type_in.ensures t s)

pub returns-in_err-limit : goal.returns-in_err-limit
returns-in_err-limit g c = λ t s.
    let x : c.type_limit.result ≡ Err c.in_err-limit.field-0.0 = search rules in
    let q : c.from_residual-in_err-limit.result ≡ Err c.in_err-limit.field-0.0 = search rules in
    repeat_limit_stop _ (done_of c.check_inside.new.names) c.in_err-limit.field-0.0 c.type_limit.result c.from_residual-in_err-limit.result t c.args.turning.now.span (map (walk_stmt t) c.args.stmts.now) c.args.turning.now.condition.now c.args.turning.now.limit.now
    (body_of c.args.names.now c.args.body.now) (body_of c.check_inside.new.names c.args.body.now) _ _
    x q (c.in_ok-list.ensures.rule t s) (ap (λ n. body_of n c.args.body.now) c.in_ok-list.ensures.kept) (c.in_ok-condition.ensures t s) (c.type_limit.ensures t s)

pub returns : goal.returns
returns g c = λ t s.
    repeat_all (done_of c.check_inside.new.names) c.end_repeat.result t c.args.turning.now.span (map (walk_stmt t) c.args.stmts.now) c.args.turning.now.condition.now c.args.turning.now.limit.now
    (body_of c.args.names.now c.args.body.now) (body_of c.check_inside.new.names c.args.body.now)
    (listed_of c.args.names.now c.in_ok-list.list) (listed_of c.check_inside.new.names c.in_ok-list.list) (operand_of c.in_ok-condition.condition) (maybe_operand c.in_ok-limit.limit)
    (c.in_ok-list.ensures.rule t s) (ap (λ n. body_of n c.args.body.now) c.in_ok-list.ensures.kept) (c.in_ok-condition.ensures t s) (c.in_ok-limit.ensures t s)
    (ap (λ n. listed_of n c.in_ok-list.list) c.in_ok-list.ensures.kept)
    (c.end_repeat.ensures c.check_inside.new.names)
