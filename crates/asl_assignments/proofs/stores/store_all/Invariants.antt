use Rattle.std.proofs.Common.{◌≡◌, [], map, reverse, length}
use Rattle.asl_rules.specs.declared.effect.Effect.TheVariants.{Pure}
use Rattle.asl_rules.specs.Tests.{Tests}
use Rattle.asl_types.specs.Suits.{Suits}
use Rattle.asl_assignments.specs.private.TargetViews.{place_of, stores_of}
use Rattle.asl_blocks.specs.private.Views.{body_of}
use Rattle.asl_blocks.specs.private.Walks.{after, store_step, stores}
use Rattle.asl_assignments.proofs.stores.store_all.Given as goal

abbrev pub invariant-loop-place : goal.invariant-loop-place
invariant-loop-place l = (t : Tests) → Suits t →
    after (store_step (body_of l.names l.body).scope) (map (place_of t) (reverse l.rest.items)) (stores_of l.so_far)
    ≡ after (store_step (body_of l.names l.body).scope) (map (place_of t) l.fn.places.items) (stores [] [] Pure)

abbrev pub decreases-loop-place : goal.decreases-loop-place
decreases-loop-place l = length l.rest.items
