use Rattle.std.proofs.Common.{arith, map, refl}
use Rattle.asl_rules.specs.statements.Targets.{all_suffix_effects, suffix_effects}
use Rattle.asl_assignments.specs.private.TargetViews.{suffix_of}
use Rattle.asl_assignments.proofs.Placing.{gather_next, gather_last}
use Rattle.asl_assignments.proofs.targets.push_all_effects.Goals as goal

pub loop-x-preserved : goal.loop-x-preserved
loop-x-preserved c = λ t.
    gather_next (λ xs. all_suffix_effects (map (suffix_of t) xs)) (λ x. suffix_effects (suffix_of t x)) (λ x xs. refl) c.args.suffixes.now c.loop-x.x-index c.x-item.result c.loop-x.effects c.push_effects.new.effects _
    (omega (arith, c.loop-x-test.true)) c.x-item.is (c.in_ok-push_effects.ensures t) (c.loop-x.invariant t)

pub returns : goal.returns
returns c = λ t.
    gather_last (λ xs. all_suffix_effects (map (suffix_of t) xs)) refl c.args.suffixes.now c.loop-x.x-index c.loop-x.effects _ (omega (arith, c.loop-x-test.false)) (c.loop-x.invariant t)
