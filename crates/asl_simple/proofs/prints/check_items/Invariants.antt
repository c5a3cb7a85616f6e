use Rattle.std.proofs.Common.{◌≡◌, drop, []}
use Rattle.asl_rules.specs.statements.Stmts.{printed}
use Rattle.asl_rules.specs.Tests.{Tests}
use Rattle.asl_types.specs.Suits.{Suits}
use Rattle.asl_simple.specs.private.PrintViews.{printed_of}
use Rattle.asl_blocks.specs.private.Views.{body_of}
use Rattle.asl_blocks.specs.private.Walks.{after, item_step}
use Rattle.asl_simple.proofs.prints.check_items.Given as goal

abbrev pub invariant-loop-item : goal.invariant-loop-item
invariant-loop-item l = (t : Tests) → Suits t →
    after (item_step t (body_of l.names l.body).scope) (drop l.item-index l.items) (printed_of l.so_far) ≡ after (item_step t (body_of l.names l.body).scope) l.items (printed [] [])
