use Rattle.std.proofs.Common.{arith, ◌++◌, map, refl, ap, ◌∙◌}
use Rattle.asl_rules.specs.statements.Targets.{all_suffix_effects, place_effects}
use Rattle.asl_assignments.specs.private.TargetViews.{place_of, suffix_of}
use Rattle.asl_assignments.proofs.Placing.{gather_next}
use Rattle.asl_assignments.proofs.targets.effects_in.Goals as goal

pub loop-place-preserved : goal.loop-place-preserved
loop-place-preserved c = λ t.
    gather_next (λ ps. place_effects (map (place_of t) ps)) (λ p. all_suffix_effects (map (suffix_of t) p.suffixes.items)) (λ p ps. refl) c.args.places.now c.loop-place.place-index c.place-item.result c.loop-place.effects c.push_all_effects.new.effects _
    (omega (arith, c.loop-place-test.true)) c.place-item.is
    (c.in_ok-push_all_effects.ensures t ∙ ap (λ xs. c.loop-place.effects ++ all_suffix_effects (map (suffix_of t) xs)) c.as_slice.ensures.value)
    (c.loop-place.invariant t)
