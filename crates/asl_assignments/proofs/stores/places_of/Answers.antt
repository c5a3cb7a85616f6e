use Rattle.std.proofs.Common.{List, [], map, ap, sym, ◌∙◌}
use Rattle.asl_rules.specs.statements.Targets.{found_target}
use Rattle.asl_assignments.specs.declared.targets.TypedPlace.{TypedPlace}
use Rattle.asl_assignments.specs.private.TargetViews.{place_of}
use Rattle.asl_blocks.specs.private.Views.{body_of}
use Rattle.asl_blocks.specs.private.Walks.{with_places}
use Rattle.asl_assignments.proofs.Placing.{places_whole}
use Rattle.asl_assignments.proofs.stores.places_of.Goals as goal

pub returns : goal.returns
returns c = λ t s.
    let r = (found_target t c.args.target.now).places (body_of c.args.names.now c.args.body.now).scope in
    sym (places_whole r) ∙ ap (λ (xs : List TypedPlace). with_places (map (place_of t) xs) [] r) (sym c.new-places.ensures.items) ∙ c.in_ok-type_target.ensures t s
