use Rattle.std.proofs.Common.{ap, map}
use Rattle.asl_tree.specs.View.{operand_of}
use Rattle.asl_blocks.specs.private.Views.{body_of, done_of, listed_of, maybe_operand}
use Rattle.asl_blocks.specs.private.Walks.{walk_stmt}
use Rattle.asl_blocks.proofs.Parted.{while_all}
use Rattle.asl_loops.proofs.loops.check_while.Goals as goal

pub returns : goal.returns
returns g c = λ t s.
    while_all (done_of c.check_inside.new.names) c.end_while.result t c.args.turning.now.span c.args.turning.now.condition.now c.args.turning.now.limit.now
    (map (walk_stmt t) c.args.stmts.now) (body_of c.args.names.now c.args.body.now) (body_of c.check_inside.new.names c.args.body.now) (operand_of c.in_ok-condition.condition) (maybe_operand c.in_ok-limit.limit)
    (listed_of c.args.names.now c.in_ok-list.list) (listed_of c.check_inside.new.names c.in_ok-list.list)
    (c.in_ok-condition.ensures t s) (c.in_ok-limit.ensures t s) (c.in_ok-list.ensures.rule t s)
    (ap (λ n. body_of n c.args.body.now) c.in_ok-list.ensures.kept) (ap (λ n. listed_of n c.in_ok-list.list) c.in_ok-list.ensures.kept)
    (c.end_while.ensures c.check_inside.new.names)
