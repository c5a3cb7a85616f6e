use Rattle.std.proofs.Common.{arith, map, ap, sym, ◌∙◌}
use Rattle.asl_rules.specs.statements.Targets.{found_target}
use Rattle.asl_assignments.specs.private.TargetViews.{place_of}
use Rattle.asl_blocks.specs.private.Views.{body_of}
use Rattle.asl_blocks.specs.private.Walks.{with_places}
use Rattle.asl_assignments.proofs.Assigning.{targets_loop}
use Rattle.asl_assignments.proofs.targets.+places.Goals as goal

pub type_targets-loop-part-preserved : goal.type_targets-loop-part-preserved
type_targets-loop-part-preserved t c = λ q s.
    targets_loop q c.args.targets.now c.loop-part.part c.index-targets-part.result c.args.way.now c.in_ok-inner.inner (map (place_of q) c.loop-part.places.items) (map (place_of q) c.type_target.new.places.items) (body_of c.args.names.now c.args.body.now).scope _
    (omega (arith, c.loop-part-test.true)) c.index-targets-part.is c.in_ok-inner.ensures
    (ap (λ way. with_places (map (place_of q) c.loop-part.places.items) way ((found_target q c.index-targets-part.result).places (body_of c.args.names.now c.args.body.now).scope)) (sym c.as_slice.ensures) ∙ c.in_ok-type_target.ensures q s)
    (c.loop-part.invariant q s)
