use Rattle.std.proofs.Common.{◌≡◌, drop}
use Rattle.asl_rules.specs.declared.effect.Effect.TheVariants.{Pure}
use Rattle.asl_rules.specs.types.Effects as rules
use Rattle.asl_allowed.proofs.effects.may_stand_together.Given as goal

abbrev pub invariant-loop-l : goal.invariant-loop-l
invariant-loop-l l = rules.all_together l.before (drop l.l-index l.effects) ≡ rules.all_together Pure l.fn.effects
