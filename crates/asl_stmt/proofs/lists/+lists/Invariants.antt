use Rattle.std.proofs.Common.{◌≡◌, ◌+◌, ◌*◌, [], drop, map}
use Rattle.asl_rules.specs.declared.effect.Effect.TheVariants.{Pure}
use Rattle.asl_rules.specs.Tests.{Tests}
use Rattle.asl_types.specs.Suits.{Suits}
use Rattle.asl_tree.specs.Acts.{act_of}
use Rattle.asl_blocks.specs.private.Sizes.{stmt_size, stmts_size}
use Rattle.asl_blocks.specs.private.Views.{body_of}
use Rattle.asl_blocks.specs.private.Walks.{after, stmt_step, listing, walk_stmt}
use Rattle.asl_stmt.proofs.lists.+lists.Given as goal

-- a list stands above its statements, and a block above its list
abbrev pub decreases-check_stmt : goal.decreases-check_stmt
decreases-check_stmt l = 3 * stmt_size l.s.now

abbrev pub decreases-check_list : goal.decreases-check_list
decreases-check_list l = 3 * stmts_size l.stmts.now + 1

abbrev pub decreases-check_block : goal.decreases-check_block
decreases-check_block l = 3 * stmts_size l.stmts.now + 2

abbrev pub invariant-check_list-loop-s : goal.invariant-check_list-loop-s
invariant-check_list-loop-s l = (t : Tests) → Suits t →
    after (stmt_step (body_of l.fn.names l.body)) (map (walk_stmt t) (drop l.s-index l.stmts)) (listing l.names l.effect (map act_of l.acts))
    ≡ after (stmt_step (body_of l.fn.names l.body)) (map (walk_stmt t) l.stmts) (listing l.fn.names Pure [])
