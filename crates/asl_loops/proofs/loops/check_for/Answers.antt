use Rattle.std.proofs.Common.{ap, map}
use Rattle.asl_loops.specs.private.LoopViews.{bounds_of}
use Rattle.asl_blocks.specs.private.Views.{body_of, done_of, listed_of}
use Rattle.asl_blocks.specs.private.Walks.{walk_stmt}
use Rattle.asl_blocks.proofs.Parted.{for_all}
use Rattle.asl_loops.proofs.loops.check_for.Goals as goal

pub returns : goal.returns
returns g c = λ t s.
    for_all (done_of c.check_counted.new.names) c.end_for.result t c.args.counting.now.span c.args.counting.now.index.now c.args.counting.now.from.now c.args.counting.now.direction c.args.counting.now.to.now c.args.limit.now
    (map (walk_stmt t) c.args.stmts.now) (body_of c.args.names.now c.args.body.now) (body_of c.check_counted.new.names c.args.body.now) (bounds_of c.in_ok-bounds.bounds)
    (listed_of c.args.names.now c.in_ok-list.list) (listed_of c.check_counted.new.names c.in_ok-list.list)
    (c.in_ok-bounds.ensures t s) (c.in_ok-list.ensures.rule t s)
    (ap (λ n. body_of n c.args.body.now) c.in_ok-list.ensures.kept) (ap (λ n. listed_of n c.in_ok-list.list) c.in_ok-list.ensures.kept)
    (c.end_for.ensures c.check_counted.new.names)
