use Rattle.std.proofs.Common.{ap, ◌∙◌, map, take, length, Ok}
use Rattle.asl_rules.specs.statements.Acting.{listed}
use Rattle.asl_rules.specs.Faults.{◌>>=◌}
use Rattle.asl_loops.specs.private.LoopViews.{bounds_of}
use Rattle.asl_blocks.specs.private.Views.{body_of}
use Rattle.asl_blocks.specs.private.Walks.{shut, walk_stmt}
use Rattle.asl_blocks.proofs.Turns.{index_cut, suiting, suits}
use Rattle.asl_loops.proofs.loops.check_counted.Goals as goal

pub returns-clause-rule : goal.returns-clause-rule
returns-clause-rule g c = λ t s.
    ap (λ r. r >>= λ C. shut (map (walk_stmt t) c.args.stmts.now) C >>= λ l. Ok (listed c.args.names.now l.effect l.acts)) (c.in_ok-declare_index.ensures t s)
    ∙ ap (λ r. r >>= λ l. Ok (listed c.args.names.now l.effect l.acts)) (c.in_ok-list.ensures.rule t s)

pub returns-clause-kept : goal.returns-clause-kept
returns-clause-kept g c =
    c.truncate.ensures ∙ ap (λ n. take n c.check_inside.new.names) c.len-height.ensures
    ∙ ap (take (length c.args.names.now)) c.in_ok-list.ensures.kept
    ∙ index_cut suiting.tests c.args.counting.now.index.now c.args.counting.now.direction c.args.counting.now.from.now c.args.counting.now.to.now (bounds_of c.args.bounds.now)
    (body_of c.args.names.now c.args.body.now) (body_of c.declare_index.new.names c.args.body.now) (c.in_ok-declare_index.ensures suiting.tests suits)
